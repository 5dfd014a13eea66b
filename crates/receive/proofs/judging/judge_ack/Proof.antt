use mathlib.Core.Path.{ap}
use borrow.Author.Rules.{rules}
use Rattle.block0.specs.declared.Header.{Header}
use Rattle.receive.proofs.Answered.{loaded_valid}
use Rattle.receive.proofs.Judged.{ack_told, ack_within, ack_error, ack_right}
use Rattle.receive.proofs.judging.judge_ack.Statement.{statement}
use Rattle.receive.proofs.judging.judge_ack.Tie as tie

pub judge_ack_spec : {M : Type 1} → statement M
judge_ack_spec =
    let answers = tie.spec
    (λ c κs. search rules)
    (λ c κs. search rules)
    (λ c. search rules)
    (λ c κs. search rules)
    (λ c. search rules)
    (λ c κs. (c.requires.0, ack_within _ c.args.g c.requires.0 (ack_told _ _ c.requires.1 c.acknowledge.ensures c.ack_borne.ensures) c.in-Some.is, c.requires.2))
    (λ c κs. search rules)
    (λ c κs. (c.requires.0.size, search rules, loaded_valid _ _ c.in-Some.k c.requires.0 c.load_acked.ensures))
    (λ c. ack_error _ _ _ (ack_told _ _ c.requires.1 c.acknowledge.ensures c.ack_borne.ensures) c.in-None.is c.refused.ensures)
    (λ c. search rules)
    (λ c. ack_right _ _ _ (ack_told _ _ c.requires.1 c.acknowledge.ensures c.ack_borne.ensures) (ap (λ (y : Header). y.secured) c.requires.1) c.turn_borne.ensures c.in-Some.is c.load_acked.ensures c.judge_labels.ensures) in
    tie.close answers
