-- `image_numbers::stored::prefix_at` meets its contract. Assumes nothing.
use mathlib.Core.Bool.{not}
use mathlib.Core.Path.{◌∙◌, ap}
use borrow.Author.Rules.{rules}
use Rattle.octets.proofs.Choice.{denied, granted}
use Rattle.image_numbers.proofs.Prefixes.{prefix_none, prefix_fits, prefix_other, prefix_read}
use Rattle.image_numbers.proofs.stored.prefix_at.Statement.{statement}
use Rattle.image_numbers.proofs.stored.prefix_at.Tie as tie

pub prefix_at_spec : {M : Type 1} → statement M
prefix_at_spec =
    let answers = tie.spec
    (λ c κs. search rules)
    (λ c κs. search rules)
    (λ c κs. search rules)
    (λ c. c.no_prefix.ensures ∙ prefix_none _ _ c.label.ensures (denied c.lists_label.ensures (ap not c.if-not-lists_label.true)))
    (λ c κs. prefix_fits _ _ c.label.ensures (granted c.lists_label.ensures (ap not c.if-not-lists_label.false)))
    (λ c κs. search rules)
    (λ c. c.no_prefix-then-entry-eq0.ensures ∙ prefix_other _ _ c.label.ensures (granted c.lists_label.ensures (ap not c.if-not-lists_label.false)) c.entry_at-entry.ensures c.if-entry-eq0.true)
    (λ c. search rules)
    (λ c. search rules)
    (λ c. prefix_read _ _ c.label.ensures (granted c.lists_label.ensures (ap not c.if-not-lists_label.false)) c.entry_at-entry.ensures c.if-entry-eq0.false) in
    tie.close answers
