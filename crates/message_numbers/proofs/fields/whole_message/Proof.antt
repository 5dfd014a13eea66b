-- `message_numbers::fields::whole_message` meets its contract. Assumes nothing.
use native.Mathlib.Omega.{arith}
use borrow.Author.Rules.{rules}
use Rattle.message.specs.Kinds.{kind_of}
use Rattle.message.specs.Reading.{message_of}
use Rattle.message_numbers.specs.Reading.{whole_message}
use Rattle.message_numbers.proofs.Parts.{part_narrow}
use Rattle.message_numbers.proofs.fields.whole_message.Statement.{statement}
use Rattle.message_numbers.proofs.fields.whole_message.Tie as tie

pub whole_message_spec : {M : Type 1} → statement M
unfolding whole_message message_of kind_of
whole_message_spec =
    let answers = tie.spec
    (λ c κs. search rules)
    (λ c κs. search rules)
    (λ c κs. search rules)
    (λ c κs. c.requires.0.requestid)
    (λ c κs. search rules)
    (λ c κs. λ h. omega (arith, c.requires.0.status h))
    (λ c κs. search rules)
    (λ c κs. search rules)
    (λ c κs. search rules)
    (λ c κs. search rules)
    (λ c. search rules)
    (λ c κs. search rules)
    (λ c. search rules)
    (λ c. omega (arith, (part_narrow _ _ c.requires.1 _ c.part_at-part.ensures).0))
    (λ c. omega (arith, (part_narrow _ _ c.requires.1 _ c.part_at-part.ensures).1))
    (λ c κs. c.requires.0.label)
    (λ c κs. search rules)
    (λ c κs. λ h. omega (arith, c.requires.0.status h))
    (λ c κs. search rules)
    (λ c κs. c.requires.0.protection)
    (λ c κs. search rules)
    (λ c κs. c.requires.0.ack)
    (λ c κs. search rules)
    (λ c κs. search rules)
    (λ c κs. search rules)
    (λ c κs. search rules)
    (λ c κs. search rules)
    (λ c κs. search rules)
    (λ c κs. λ h. omega (arith, c.requires.0.status h))
    (λ c κs. search rules)
    (λ c κs. search rules)
    (λ c. simp (c.published_of.ensures, c.id_number-2.ensures, c.id_at.ensures, c.id_number.ensures, c.maxpdu_of.ensures, c.keepalive_of.ensures, c.timeout_of.ensures, c.reconnect_of.ensures, c.ft_number-2.ensures, c.number_at-2.ensures, c.ft_number.ensures, c.number_at.ensures, c.field_number-2.ensures, c.field_at-3.ensures, c.field_number.ensures, c.field_at-2.ensures, c.kind_number.ensures, c.parameters_at-parameters.ensures, c.session_at-session.ensures, c.part_at-part.ensures, c.kind_for-kind.ensures, c.field_at.ensures, c.type_of.ensures, c.id_at-requestid.ensures, c.id_in-id.ensures, c.number_in-number.ensures, c.has_of-has.ensures)) in
    tie.close answers
