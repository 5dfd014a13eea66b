-- Every marked case is what 01 says, by computation. Assumes nothing.
use mathlib.Core.Bool.{Bool}
use mathlib.Core.Path.{◌≡◌, refl}
use Rattle.block.specs.Check.{sums, check_of}
use Rattle.ft_number.specs.Ack.{ack_of}
use Rattle.ft_number.specs.Circle.{steps_of}
use Rattle.ft_number.specs.Distance.{distance_of}
use Rattle.ft_number.specs.Timeout.{lesser_of}
use Rattle.message.specs.declared.Message.{Message}
use Rattle.protocol.specs.Receive.{ack_on}
use Rattle.protocol.specs.State.{State}
use Rattle.marked_cases.specs.Marked.{cases, defined, paper}

-- what the definitions say of P1 to P12 is what the paper says
pub marked-cases : (s : State) (resumed : Bool) (g : Message) → defined (cases s resumed g) ≡ paper (cases s resumed g)
unfolding lesser_of ack_on ack_of steps_of distance_of sums check_of
marked-cases s resumed g = refl
