-- `image::held_message` meets its contract, by the law of the queue. Assumes nothing.
use Prim.Native.Nat.{◌+◌}
use mathlib.Core.Path.{ap, ◌∙◌}
use borrow.Author.Rules.{rules}
use Rattle.slot.specs.Layout.{message_at}
use Rattle.image.proofs.Queue.{helds, held_read_lem}
use Rattle.image.proofs.held.held_message.Statement.{statement}
use Rattle.image.proofs.held.held_message.Tie as tie

returns : tie.Need-returns
returns c =
    let r = c.message_of.ensures in
    let h = c.held_slot.ensures in
    let p = c.requires in
    (held_read_lem _ p.0 _ p.1 h.0.0 r.0, (r.1.0 ∙ h.1.0, r.1.1 ∙ ap (◌+◌ message_at) h.1.1))

pub held_message_spec : {M : Type 1} → statement M
held_message_spec =
    let answers = tie.spec
    (λ c κs. search rules)
    (λ c κs. search (rules, helds))
    returns in
    tie.close answers
