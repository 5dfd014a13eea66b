use borrow.Author.Rules.{rules}
use Rattle.receive.proofs.Judged.{ack_on_lem, count_is}
use Rattle.receive.proofs.taking.ack_count.Statement.{statement}
use Rattle.receive.proofs.taking.ack_count.Tie as tie

pub ack_count_spec : {M : Type 1} → statement M
ack_count_spec =
    let answers = tie.spec
    (λ c κs. search rules)
    (λ c κs. search rules)
    (λ c. search rules)
    (λ c. search rules)
    (λ c. count_is _ _ (ack_on_lem _ _ c.acknowledge.ensures c.ack_borne.ensures) c.in-Some.is)
    (λ c. count_is _ _ (ack_on_lem _ _ c.acknowledge.ensures c.ack_borne.ensures) c.in-None.is) in
    tie.close answers
