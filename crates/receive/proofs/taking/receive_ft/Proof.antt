use mathlib.Core.Bool.{not}
use mathlib.Core.Path.{refl, ap}
use borrow.Author.Rules.{rules}
use Rattle.octets.proofs.Choice.{denied, granted}
use Rattle.protocol.proofs.Effects.{done_is}
use Rattle.receive.proofs.Judged.{count-within}
use Rattle.receive.proofs.Taken.{ft_settled, ft_taken}
use Rattle.receive.proofs.taking.receive_ft.Statement.{statement}
use Rattle.receive.proofs.taking.receive_ft.Tie as tie

pub receive_ft_spec : {M : Type 1} → statement M
receive_ft_spec =
    let answers = tie.spec
    (λ c κs. c.requires.0.size)
    (λ c. search rules)
    (λ c κs. (c.requires.0, c.header_of.ensures, refl))
    (λ c κs. search rules)
    (λ c κs. c.requires.0)
    (λ c. search rules)
    (λ c. ft_settled _ _ _ c.judge_ft-judged.ensures.0 (denied c.is_done.ensures (ap not c.if-not-is_done.true)) c.settle.ensures)
    (λ c. search rules)
    (λ c κs. let told = c.judge_ft-judged.ensures.1 (done_is _ (granted c.is_done.ensures (ap not c.if-not-is_done.false))) in (record { sound = c.requires.0; within = count-within _ _ c.requires.0; labels = told.labels; count = search rules }, told.place, c.requires.1))
    (λ c. search rules)
    (λ c. ft_taken _ _ _ c.judge_ft-judged.ensures.0 (granted c.is_done.ensures (ap not c.if-not-is_done.false)) c.take_ft.ensures) in
    tie.close answers
