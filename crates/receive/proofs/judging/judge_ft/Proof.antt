use mathlib.Core.Path.{refl}
use borrow.Author.Rules.{rules}
use Rattle.receive.proofs.Judged.{message_init, message_fatal, ft_refused, ft_is, ft_zero, ft_rest}
use Rattle.receive.proofs.judging.judge_ft.Statement.{statement}
use Rattle.receive.proofs.judging.judge_ft.Tie as tie

pub judge_ft_spec : {M : Type 1} → statement M
judge_ft_spec =
    let answers = tie.spec
    (λ c κs. search rules)
    (λ c κs. search rules)
    (λ c. ft_refused _ _ _ refl (ft_is _ _ _ (message_init _ _ c.is_init.ensures c.if-is_init.true)) c.refused.ensures)
    (λ c κs. search rules)
    (λ c κs. search rules)
    (λ c. ft_refused _ _ _ refl (ft_is _ _ _ (message_fatal _ _ c.is_init.ensures c.if-is_init.false c.is_fatal.ensures c.if-is_fatal.true)) c.refused-then-is_fatal.ensures)
    (λ c κs. search rules)
    (λ c κs. search rules)
    (λ c. ft_refused _ _ _ refl (ft_zero _ _ _ c.is_init.ensures c.if-is_init.false c.is_fatal.ensures c.if-is_fatal.false c.is_zero.ensures c.if-is_zero.true) c.refused-then-is_zero.ensures)
    (λ c κs. search rules)
    (λ c. search rules)
    (λ c. (ft_rest _ _ _ c.is_init.ensures c.if-is_init.false c.is_fatal.ensures c.if-is_fatal.false c.is_zero.ensures c.if-is_zero.false c.judge_ack.ensures.0, c.judge_ack.ensures.1)) in
    tie.close answers
