-- Each line leaves less of the script.
use Rattle.std.proofs.Common.{length}
use Rattle.session_cases.proofs.playing.play.Given as goal

abbrev pub decreases-loop-rest : goal.decreases-loop-rest
decreases-loop-rest g l = length l.rest
