use mathlib.Core.Path.{refl}
use native.Mathlib.Omega.{arith}
use borrow.Author.Rules.{rules}
use Rattle.image.proofs.Scans.{further_end, further_fault, further-next}
use Rattle.image.proofs.judging.judge_further.Goals as goal

pub loop-b-init : goal.loop-b-init
loop-b-init c = refl

pub returns-in_err-judge_block : goal.returns-in_err-judge_block
returns-in_err-judge_block c =
    let fault = further_fault _ _ _ c.loop-b.invariant (omega arith) c.judge_block.ensures c.in_err-judge_block.was in
    search (rules, fault)

pub loop-b-preserved : goal.loop-b-preserved
loop-b-preserved c = further-next _ _ _ c.loop-b.invariant (omega arith) c.judge_block.ensures c.in_ok-judge_block.was

pub returns : goal.returns
returns c = further_end _ _ _ c.loop-b.invariant (omega arith)
