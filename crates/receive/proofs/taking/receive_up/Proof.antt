use mathlib.Core.Path.{sym, ◌∙◌}
use borrow.Author.Rules.{rules}
use Rattle.message.proofs.Widths.{read_widths}
use Rattle.receive.proofs.Taken.{read_malformed, read_whole}
use Rattle.receive.proofs.taking.receive_up.Statement.{statement}
use Rattle.receive.proofs.taking.receive_up.Tie as tie

pub receive_up_spec : {M : Type 1} → statement M
receive_up_spec =
    let answers = tie.spec
    (λ c κs. search rules)
    (λ c. search rules)
    (λ c κs. search rules)
    (λ c. search rules)
    (λ c κs. (c.requires, (read_widths _ (λ k. (c.shared_slice_known-1.given k).fits) _ (sym c.read_message.ensures ∙ c.in-Some.is)).entry))
    (λ c. search rules)
    (λ c. read_malformed _ _ _ _ c.read_message.ensures _ c.in-None.is c.settle.ensures)
    (λ c. search rules)
    (λ c. read_whole _ _ _ _ c.read_message.ensures c.in-Some.is c.receive_ft.ensures) in
    tie.close answers
