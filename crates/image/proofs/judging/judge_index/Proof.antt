-- `image::judging::judge_index` meets its contract, by the laws of its answers. Assumes nothing.
use mathlib.Core.Bool.{not}
use mathlib.Core.Path.{ap}
use native.Mathlib.Omega.{arith}
use borrow.Author.Rules.{rules}
use Rattle.image.proofs.Scans.{one_check, one_empty, one_fields, one_right}
use Rattle.image.proofs.judging.judge_index.Statement.{statement}
use Rattle.image.proofs.judging.judge_index.Tie as tie

returns : tie.Need-returns-then-is_empty
returns c =
    one_empty c.args.version c.args.image.now c.args.b (omega arith) c.block_at-block.ensures.0.0
    c.requires.1 c.is_empty.ensures c.if-is_empty.true

returns-2 : tie.Need-returns-then-not-is_sound
returns-2 c =
    one_check c.args.version c.args.image.now c.args.b (omega arith) c.block_at-block.ensures.0.0
    c.is_sound.ensures (ap not c.if-not-is_sound.true)

returns-3 : tie.Need-returns-then-not-index_is_valid
returns-3 c =
    one_fields c.args.version c.args.image.now c.args.b (omega arith) c.block_at-block.ensures.0.0
    c.is_sound.ensures (ap not c.if-not-is_sound.false) c.index_is_valid.ensures (ap not c.if-not-index_is_valid.true)

returns-4 : tie.Need-returns
returns-4 c =
    one_right c.args.version c.args.image.now c.args.b (omega arith) c.block_at-block.ensures.0.0
    c.is_sound.ensures (ap not c.if-not-is_sound.false) c.index_is_valid.ensures (ap not c.if-not-index_is_valid.false)

pub judge_index_spec : {M : Type 1} → statement M
judge_index_spec =
    let answers = tie.spec
    (λ c κs. search rules)
    (λ c κs. search rules)
    returns
    (λ c κs. search rules)
    returns-2
    (λ c κs. search rules)
    returns-3
    returns-4 in
    tie.close answers
