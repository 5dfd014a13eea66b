-- `image::judging::judge_requests` meets its contract, by the laws of its answers. Assumes nothing.
use mathlib.Core.Bool.{not}
use mathlib.Core.Path.{ap}
use native.Mathlib.Omega.{arith}
use borrow.Author.Rules.{rules}
use Rattle.image.specs.Sizes.{request_block}
use Rattle.image.proofs.Scans.{one_check, one_fields, one_right}
use Rattle.image.proofs.judging.judge_requests.Statement.{statement}
use Rattle.image.proofs.judging.judge_requests.Tie as tie

returns : tie.Need-returns-then-not-is_sound
returns c =
    let a = c.args in
    one_check a.version a.image.now request_block (omega arith) c.block_at.ensures.0.0 c.is_sound.ensures (ap not c.if-not-is_sound.true)

returns-2 : tie.Need-returns-then-not-requests_are_valid
returns-2 c =
    let check = c.before.before in
    let a = c.args in
    one_fields a.version a.image.now request_block (omega arith) c.block_at.ensures.0.0 c.is_sound.ensures (ap not c.if-not-is_sound.false)
    c.requests_are_valid.ensures (ap not c.if-not-requests_are_valid.true)

returns-3 : tie.Need-returns
returns-3 c =
    let check = c.before.before in
    let a = c.args in
    one_right a.version a.image.now request_block (omega arith) c.block_at.ensures.0.0 c.is_sound.ensures (ap not c.if-not-is_sound.false)
    c.requests_are_valid.ensures (ap not c.if-not-requests_are_valid.false)

pub judge_requests_spec : {M : Type 1} → statement M
judge_requests_spec =
    let answers = tie.spec
    (λ c κs. search rules)
    (λ c κs. search rules)
    returns
    (λ c κs. search rules)
    returns-2
    returns-3 in
    tie.close answers
