-- What is stored for a state of the protocol is what the image's own changes write. Assumes nothing.
use Prim.Native.Nat.{ℕ, ◌<◌, ◌≤◌}
use mathlib.Core.List.{List}
use mathlib.Core.Logic.{⊎_elim}
use mathlib.Core.Path.{◌≡◌, refl}
use native.Mathlib.Nat.{eq-or-lt_of_le}
use native.Mathlib.Omega.{arith}
use lib.Dec.{eqb}
use borrow.Author.Tests.{eq-eqb}
use Rattle.octets.specs.Bytes.{Bytes}
use Rattle.octets.specs.Pick.{pick}
use Rattle.image.specs.Events.{break_of, release_of}
use Rattle.image.specs.State.{decode}
use Rattle.image.specs.Verdict.{IsSound}
use Rattle.image.proofs.Queue.{queue_length}
use Rattle.image.proofs.Same.{store_same}
use Rattle.image.proofs.Sound.{sound_valid}
use Rattle.protocol.specs.State.{released_state}
use Rattle.protocol.specs.Step.{broken}
use Rattle.calls.specs.State.{state_of}
use Rattle.calls.specs.Storing.{header_for, stored, same, stay, empty}
use Rattle.calls.proofs.Marking.{marks_said}

-- kept is 0 or 1
pub kept_is : (k : ℕ) → k ≤ 1 → pick (eqb k 1) 1 0 ≡ k
kept_is k l =
    ⊎_elim
    (λ (e : k ≡ 1). rw (eq-eqb k 1 e, e))
    (λ (z : k < 1). let e : k ≡ 0 = omega arith in rw (e))
    (eq-or-lt_of_le l)

module _ (im : List ℕ) (s : IsSound im) where
  -- the numbers that the image says already
  pub header_same : header_for (decode im).header.first (state_of im) ≡ (decode im).header
  header_same =
      let v = sound_valid im s in
      rw (kept_is (decode im).header.kept v.kept, marks_said (decode im).header.marks v.marks, queue_length im)

  -- a broken state stored is the image as after a break
  pub break_puts : stored im stay same (broken (state_of im)) ≡ break_of im
  unfolding break_of
  break_puts = rw header_same

  -- the state that the image stands for already
  pub put_same : Bytes im → stored im stay same (state_of im) ≡ im
  put_same byte = rw header_same (store_same im s byte)

-- a released state stored is the released image
pub release_puts : (im : List ℕ) → stored im empty same released_state ≡ release_of im
unfolding release_of
release_puts im = refl
