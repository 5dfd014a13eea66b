use native.Mathlib.Omega.{arith}
use borrow.Author.Rules.{rules}
use Rattle.message_writer.proofs.Puts.{end_least, init-laid}
use Rattle.message_writer.proofs.put_init.Statement.{statement}
use Rattle.message_writer.proofs.put_init.Tie as tie

pub put_init_spec : {M : Type 1} → statement M
put_init_spec =
    let answers = tie.spec
    (λ c κs. omega (arith, c.requires, end_least c.args.timeout))
    (λ c κs. omega (arith, c.requires, end_least c.args.timeout))
    (λ c κs. search rules) (λ c. search rules)
    (λ c. init-laid _ _ _ _ _ _ c.args.p c.args.ack c.args.timeout c.put_head.ensures c.put_parameters.ensures c.put_session.ensures) in
    tie.close answers
