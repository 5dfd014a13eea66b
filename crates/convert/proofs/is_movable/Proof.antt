-- `convert::is_movable` meets its contract, version by version. Assumes nothing.
use borrow.Author.Rules.{rules}
use Rattle.convert.proofs.Answers.{free_read, whole_read}
use Rattle.convert.proofs.is_movable.Statement.{statement}
use Rattle.convert.proofs.is_movable.Tie as tie

pub is_movable_spec : {M : Type 1} → statement M
is_movable_spec =
    let answers = tie.spec
    (λ c. search rules)
    (λ c κs. search rules)
    (λ c. search rules)
    (λ c κs. search rules)
    (λ c κs. search rules)
    (λ c. free_read c.args.from c.args.block.now c.in-One.is c.get_u32.ensures)
    (λ c. whole_read c.args.from c.args.block.now c.in-Two.is c.read_header.ensures c.is_whole.ensures) in
    tie.close answers
