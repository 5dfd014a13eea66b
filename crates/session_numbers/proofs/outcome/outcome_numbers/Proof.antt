-- `session_numbers::outcome::outcome_numbers` meets its contract. Assumes nothing.
use borrow.Author.Rules.{rules}
use Rattle.session_numbers.specs.Outcome.{outcome_numbers}
use Rattle.session_numbers.proofs.outcome.outcome_numbers.Statement.{statement}
use Rattle.session_numbers.proofs.outcome.outcome_numbers.Tie as tie

pub outcome_numbers_spec : {M : Type 1} → statement M
unfolding outcome_numbers
outcome_numbers_spec =
    let answers = tie.spec
    (λ c κs. search rules)
    (λ c κs. search rules)
    (λ c κs. search rules)
    (λ c κs. search rules)
    (λ c. search rules)
    (λ c. search rules)
    (λ c κs. search rules)
    (λ c. simp (c.bit_of.ensures, c.session_left.ensures, c.effect_of.ensures, c.answer_block.ensures, c.answer_number.ensures)) in
    tie.close answers
