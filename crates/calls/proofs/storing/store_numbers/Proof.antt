use mathlib.Core.Path.{refl, sym, ◌∙◌}
use borrow.Author.Rules.{rules}
use Rattle.image.proofs.Ranges.{bytes_in_range}
use Rattle.calls.proofs.Saying.{header_fits, stored_same, stored_other}
use Rattle.calls.proofs.storing.store_numbers.Statement.{statement}
use Rattle.calls.proofs.storing.store_numbers.Tie as tie

pub store_numbers_spec : {M : Type 1} → statement M
store_numbers_spec =
    let answers = tie.spec
    (λ c κs. search rules)
    (λ c κs. search rules)
    (λ c. search rules)
    (λ c. stored_same _ c.requires (λ k. (c.slice_known-1.given k).fits) (c.same_numbers.ensures.0 c.if-same_numbers.true ∙ c.header_of.ensures) refl)
    (λ c κs. search rules)
    (λ c. search rules)
    (λ c. stored_other _ _ _ c.requires (header_fits c.well_formed.1.0) (bytes_in_range _ (λ k. (c.slice_known-1.given k).fits)).labels (λ same _. c.same_numbers.ensures.1 c.if-same_numbers.false (same ∙ sym c.header_of.ensures)) c.store_header.ensures) in
    tie.close answers
