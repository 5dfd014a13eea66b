-- Byte 23 of block 0: what is written of the two marks is read again, and a byte that the checks pass says nothing else. Assumes nothing.
use Prim.Native.Nat.{ℕ, zero, suc, ◌*◌, ◌/◌, ◌%◌, ◌<◌}
use mathlib.Core.Bool.{Bool, true, false}
use mathlib.Core.Path.{◌≡◌, refl}
use native.Mathlib.Omega.{arith}
use lib.Dec.{eqb, ltb}
use borrow.Author.Tests.{eqb-true, ltb-true}
use Rattle.octets.proofs.Choice.{both_true}
use Rattle.block0.specs.Fields.{marks_ok}
use Rattle.protocol.specs.State.{Marks}
use Rattle.calls.specs.State.{marks_of}
use Rattle.calls.specs.Storing.{marks_byte}

-- what holds of all four holds of every one
all_marks : (P : Marks → Type 0) → P (record { stopped = true; stopping = true }) → P (record { stopped = true; stopping = false })
    → P (record { stopped = false; stopping = true }) → P (record { stopped = false; stopping = false }) → (m : Marks) → P m
all_marks P both told telling none m = by m.stopped m.stopping
  where
    by : (a b : Bool) → P (record { stopped = a; stopping = b })
    by true true = both
    by true false = told
    by false true = telling
    by false false = none

pub marks_read : (m : Marks) → marks_of (marks_byte m) ≡ m
marks_read = all_marks (λ (m : Marks). marks_of (marks_byte m) ≡ m) refl refl refl refl

-- the checks pass it
pub marks_ok_lem : (m : Marks) → marks_ok (marks_byte m) ≡ true
unfolding marks_ok
marks_ok_lem = all_marks (λ (m : Marks). marks_ok (marks_byte m) ≡ true) refl refl refl refl

pub marks_low : (m : Marks) → marks_byte m < 256
marks_low = all_marks (λ (m : Marks). marks_byte m < 256) (omega arith) (omega arith) (omega arith) (omega arith)

said_twice : (h : ℕ) → h < 4 → marks_byte (marks_of (h * 2)) ≡ h * 2
said_twice zero l = refl
said_twice (suc zero) l = refl
said_twice (suc (suc zero)) l = refl
said_twice (suc (suc (suc zero))) l = refl
said_twice (suc (suc (suc (suc h)))) l = absurd (omega arith)

pub marks_said : (byte : ℕ) → marks_ok byte ≡ true → marks_byte (marks_of byte) ≡ byte
unfolding marks_ok
marks_said byte ok =
    let p = both_true (ltb byte 8) (eqb (byte % 2) 0) ok in
    let low : byte < 8 = ltb-true byte 8 p.0 in
    let even : byte % 2 ≡ 0 = eqb-true (byte % 2) 0 p.1 in
    let twice : byte / 2 * 2 ≡ byte = omega arith in
    rw twice at (said_twice (byte / 2) (omega arith))
