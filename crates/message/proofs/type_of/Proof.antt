use borrow.Author.Rules.{rules}
use Rattle.tlv.proofs.Rows.{lookup_absent}
use Rattle.message.specs.declared.MessageType.{MessageType}
use Rattle.message.specs.Reading.{type_of, types}
use Rattle.message.proofs.type_of.Statement.{statement}
use Rattle.message.proofs.type_of.Tie as tie

pub type_of_spec : {M : Type 1} → statement M
type_of_spec =
    let answers = tie.spec
    (λ c. unfold type_of in rw c.in-1.is)
    (λ c. unfold type_of in rw c.in-512.is)
    (λ c. unfold type_of in rw c.in-513.is)
    (λ c. unfold type_of in rw c.in-768.is)
    (λ c. unfold type_of in rw c.in-769.is)
    (λ c. unfold type_of in rw c.in-1024.is)
    (λ c. unfold type_of in rw c.in-1025.is)
    (λ c. unfold type_of in rw c.in-1026.is)
    (λ c. unfold type_of in rw c.in-1027.is)
    (λ c. unfold type_of in rw c.in-1028.is)
    (λ c. unfold type_of in lookup_absent MessageType.Other types c.args.number (search rules)) in
    tie.close answers
