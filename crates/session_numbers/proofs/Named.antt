-- The block that an answer names is a block of the image: restore's checks name one, the phase none. Assumes nothing.
use Rattle.std.specs.Prelude.{Result, Ok, Err}
use Prim.Native.Nat.{ℕ, ◌<◌}
use mathlib.Core.Bool.{not}
use mathlib.Core.List.{List}
use native.Mathlib.Omega.{arith}
use Rattle.octets.proofs.Choice.{pick_all}
use Rattle.image.specs.declared.ImageFault.{ImageFault}
use Rattle.image.specs.Sizes.{block_count}
use Rattle.image.specs.Verdict.{verdict, verdict_block}
use Rattle.image.proofs.Scans.{verdict_below}
use Rattle.protocol.specs.declared.Answer.{Answer}
use Rattle.protocol.specs.declared.Phase.{Phase}
use Rattle.protocol.specs.Answers.{answer_block}
use Rattle.protocol.specs.Phases.{phase_fits}
use Rattle.protocol.specs.State.{State}
use Rattle.protocol.specs.Step.{admitted}
use Rattle.calls.specs.Outcomes.{checked}

-- a block of the image
abbrev pub Named : Answer → Type 0
Named a = answer_block a < block_count

-- an answer that names none
pub none : 0 < block_count
none = omega arith

-- what the checks name
checked_by : (v : Result Unit ImageFault) (a : Answer) → verdict_block v < block_count → Named a → Named (checked v a)
checked_by (Ok tt) a l n = n
checked_by (Err ImageFault.WrongSize) a l n = none
checked_by (Err (ImageFault.BadBlock b)) a l n = l
checked_by (Err (ImageFault.BadField b)) a l n = l

pub checked_named : (im : List ℕ) (a : Answer) → Named a → Named (checked (verdict im) a)
checked_named im a n = checked_by (verdict im) a (verdict_below im) n

pub admitted_named : (s : State) (ph : Phase) (a : Answer) → Named a → Named (admitted s ph a)
unfolding admitted
admitted_named s ph a n = pick_all Named (not (phase_fits ph s)) none n
