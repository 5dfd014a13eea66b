use mathlib.Core.Bool.{not}
use mathlib.Core.Path.{ap}
use Rattle.octets.proofs.Choice.{denied, granted}
use Rattle.init.proofs.Starts.{start_malformed, start-other, start-init}
use Rattle.init.proofs.judging.judge_start.Goals as goal

pub returns-then-not-is_init : goal.returns-then-not-is_init
returns-then-not-is_init c = start-other _ _ c.in-Some.is (denied c.is_init.ensures (ap not c.if-not-is_init.true))

pub returns-in-None : goal.returns-in-None
returns-in-None c = start_malformed _ _ c.in-None.is

pub returns-else-not-is_init : goal.returns-else-not-is_init
returns-else-not-is_init c = start-init _ _ c.in-Some.is (granted c.is_init.ensures (ap not c.if-not-is_init.false)) c.judge_init.ensures
