use borrow.Author.Rules.{rules}
use Rattle.tlv.specs.declared.walk.Tlv.{Tlv}
use Rattle.tlv.specs.Tlv.{tlv_of, listed}
use Rattle.tlv.proofs.Rows.{lookup_absent}
use Rattle.tlv.proofs.walk.noted_by.Statement.{statement}
use Rattle.tlv.proofs.walk.noted_by.Tie as tie

pub noted_by_spec : {M : Type 1} → statement M
noted_by_spec =
    let answers = tie.spec
    (λ c κs. search rules) (λ c κs. search rules) (λ c κs. search rules) (λ c κs. search rules)
    (λ c κs. search rules) (λ c κs. search rules) (λ c κs. search rules) (λ c κs. search rules)
    (λ c κs. search rules)
    (λ c. unfold tlv_of in rw c.in-256.is c.noted.ensures)
    (λ c. unfold tlv_of in rw c.in-512.is c.noted-in-512.ensures)
    (λ c. unfold tlv_of in rw c.in-768.is c.noted-in-768.ensures)
    (λ c. unfold tlv_of in rw c.in-1280.is c.noted-in-1280.ensures)
    (λ c. unfold tlv_of in rw c.in-1283.is c.noted-in-1283.ensures)
    (λ c. unfold tlv_of in rw c.in-515.is c.noted-in-515.ensures)
    (λ c. unfold tlv_of in rw c.in-1284.is c.noted-in-1284.ensures)
    (λ c. unfold tlv_of in rw c.in-1536.is c.noted-in-1536.ensures)
    (λ c. unfold tlv_of in rw (← lookup_absent Tlv.Other listed c.args.number (search rules)) c.noted-in_default.ensures) in
    tie.close answers
