use native.Mathlib.Omega.{arith}
use borrow.Author.Rules.{rules}
use Rattle.message.specs.Reading.{message_of}
use Rattle.message.proofs.message_at.Statement.{statement}
use Rattle.message.proofs.message_at.Tie as tie

pub message_at_spec : {M : Type 1} → statement M
message_at_spec =
    let answers = tie.spec
    (λ c κs. search rules) (λ c κs. search rules) (λ c κs. search rules) (λ c κs. search rules)
    (λ c κs. search rules)
    (λ c κs z. omega (arith, c.requires.status z))
    (λ c κs. search rules) (λ c κs. search rules) (λ c κs. search rules) (λ c κs. search rules)
    (λ c κs. search rules) (λ c κs. search rules)
    (λ c κs z. omega (arith, c.requires.status z))
    (λ c κs. c.requires.head)
    (λ c. unfold message_of in simp (c.id_in.ensures, c.id_at-2.ensures, c.id_at.ensures, c.number_at-2.ensures, c.number_at.ensures, c.session_at.ensures, c.part_at-2.ensures, c.parameters_at.ensures, c.field_at-2.ensures, c.field_at.ensures, c.part_at.ensures, c.fec_at.ensures, c.type_of.ensures, c.number_in-number.ensures)) in
    tie.close answers
