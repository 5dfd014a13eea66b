use borrow.Author.Rules.{rules}
use Rattle.receive.proofs.Taken.{read_malformed, read_whole, plain_settled}
use Rattle.receive.proofs.taking.receive_plain.Statement.{statement}
use Rattle.receive.proofs.taking.receive_plain.Tie as tie

pub receive_plain_spec : {M : Type 1} → statement M
receive_plain_spec =
    let answers = tie.spec
    (λ c κs. search rules)
    (λ c. search rules)
    (λ c κs. search rules)
    (λ c. search rules)
    (λ c κs. search rules)
    (λ c κs. search rules)
    (λ c. search rules)
    (λ c. read_malformed _ _ _ _ c.read_message.ensures _ c.in-None.is c.settle.ensures)
    (λ c. search rules)
    (λ c. read_whole _ _ _ _ c.read_message.ensures c.in-Some.is (plain_settled _ c.requires (λ k. (c.slice_known-1.given k).fits) _ c.judge_plain.ensures c.settle-in-Some.ensures)) in
    tie.close answers
