-- The words passed have another code.
use Rattle.block0.proofs.Coded.{Passed}
use Rattle.block0.proofs.any_has_code.Given as goal

abbrev pub invariant-loop-i : goal.invariant-loop-i
invariant-loop-i l = Passed l.block l.start l.count l.code l.i
