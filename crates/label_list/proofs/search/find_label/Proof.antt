use Prim.Native.Nat.{◌-◌}
use mathlib.Core.Path.{◌≡◌, sym, ◌∙◌}
use native.Mathlib.Omega.{arith}
use lib.ListN.{length}
use borrow.Author.Rules.{rules}
use Rattle.label_list.specs.Find.{bears_label, find_of, next_of}
use Rattle.label_list.specs.Word.{stands_for}
use Rattle.label_list.proofs.Sought.{find_next, next_more, next_found, next_end, Led, led_to, led_nowhere}
use Rattle.label_list.proofs.Standing.{bears_stands, other_stands}
use Rattle.label_list.proofs.search.find_label.Statement.{statement}
use Rattle.label_list.proofs.search.find_label.Tie as tie

abbrev invariant-loop-from : tie.invariant-loop-from
invariant-loop-from words side label from₀ from = find_of (stands_for side label) words ≡ next_of (stands_for side label) words from

abbrev decreases-loop-from : tie.decreases-loop-from
decreases-loop-from words side label from₀ from = length words - from

-- the word that bears the label
there : (c : tie.In-Some invariant-loop-from decreases-loop-from) → Led (bears_label c.args.label) (stands_for c.args.side c.args.label) c.args.words.now c.loop-from.from c.in-Some.place
there c = led_to _ _ (other_stands _ _) _ _ (omega arith) c.next_bearing.ensures _ c.in-Some.is

pub find_label_spec : {M : Type 1} → statement M
find_label_spec =
    let answers = tie.spec invariant-loop-from decreases-loop-from
    (λ c. find_next _ _)
    (λ c κs. tt)
    (λ c. search rules)
    (λ c. sym (c.loop-from.invariant ∙ led_nowhere _ _ (other_stands _ _) _ _ (omega arith) c.next_bearing.ensures c.in-None.is))
    (λ c. search rules)
    (λ c. omega (arith, (there c).inside))
    (λ c. omega (arith, (there c.before).inside))
    (λ c κs. tt)
    (λ c.
    let led = there c.before.before.before in
    sym (c.loop-from.invariant ∙ led.rest ∙ next_found _ _ _ led.inside (bears_stands _ _ _ led.passes ∙ sym c.on_side.ensures ∙ c.if-on_side.true)))
    (λ c. omega (arith, (there c.before.before.before).inside))
    (λ c. omega (arith, (there c.before.before.before).ahead))
    (λ c.
    let led = there c.before.before.before in
    c.loop-from.invariant ∙ led.rest ∙ next_more _ _ _ led.inside (bears_stands _ _ _ led.passes ∙ sym c.on_side.ensures ∙ c.if-on_side.false))
    (λ c. sym (c.loop-from.invariant ∙ next_end _ _ _ (omega arith))) in
    tie.close answers
