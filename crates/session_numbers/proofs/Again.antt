-- A phase goes out as numbers and comes in again as itself: what a call hands back is what the next is given. Assumes nothing.
use Rattle.std.specs.Prelude.{Some}
use mathlib.Core.Bool.{Bool, true, false}
use mathlib.Core.Path.{◌≡◌, refl}
use Rattle.protocol.specs.declared.Phase.{Phase}
use Rattle.session_numbers.specs.Session.{bit_of, resumed_bit, session_of, given_of}

-- the flag goes out and comes in as itself
bit-again : (b : Bool) → resumed_bit (bit_of b) ≡ b
bit-again true = refl
bit-again false = refl

-- a phase that goes out as numbers comes in as itself
pub phase_again : (ph : Phase) → given_of (session_of ph) ≡ Some ph
unfolding given_of
phase_again Phase.Idle = refl
phase_again (Phase.InitWait v) = refl
phase_again (Phase.UpFT u) = rw (bit-again u.resumed)
phase_again Phase.UpPlain = refl
phase_again Phase.Failed = refl
