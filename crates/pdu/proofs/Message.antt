-- The laws of `place_of`: each answer from its tests, and where a message lies that is found. Assumes nothing.
use Rattle.std.specs.Prelude.{Option, Some, None}
use Prim.Native.Nat.{ℕ, ◌+◌, ◌-◌, ◌≤◌, ◌<◌}
use mathlib.Core.Bool.{Bool, true, false}
use mathlib.Core.List.{List}
use mathlib.Core.Path.{◌≡◌, refl, sym, ap}
use native.Mathlib.Omega.{arith}
use lib.Dec.{ltb}
use lib.ListN.{length}
use borrow.Author.Tests.{ltb-false, lt-ltb, le-ltb}
use Rattle.octets.specs.Be.{be_at}
use Rattle.octets.specs.Pick.{pick}
use Rattle.pdu.specs.declared.Place.{Place}
use Rattle.pdu.specs.Pdu.{message_place, message_start, place_number}

-- where a message lies that was found, and what its length says
pub record Within (pdu : List ℕ) (at start end : ℕ) : Type 0 where
  pub starts : start ≡ at
  pub ends : end ≡ at + 4 + be_at 2 pdu (at + 2)
  pub least : at + 8 ≤ end
  pub inside : end ≤ length pdu

abbrev place_end : Option Place → ℕ
place_end (Some place) = place.end
place_end None = 0

module _ (pdu : List ℕ) (at start end : ℕ) where
  cases : (a b c : Bool) → ltb (be_at 2 pdu (at + 2)) 4 ≡ b → ltb (length pdu) (at + 4 + be_at 2 pdu (at + 2)) ≡ c
      → pick {X = Option Place} a None (pick b None (pick c None (Some (record { start = at; end = at + 4 + be_at 2 pdu (at + 2) })))) ≡ Some (record { start = start; end = end })
      → Within pdu at start end
  cases true b c p q e = let z : ◌≡◌ {A = ℕ} 4 0 = ap place_number e in absurd (omega arith)
  cases false true c p q e = let z : ◌≡◌ {A = ℕ} 4 0 = ap place_number e in absurd (omega arith)
  cases false false true p q e = let z : ◌≡◌ {A = ℕ} 4 0 = ap place_number e in absurd (omega arith)
  cases false false false p q e =
      let s : at ≡ start = ap message_start e in
      let t : at + 4 + be_at 2 pdu (at + 2) ≡ end = ap place_end e in
      let small : 4 ≤ be_at 2 pdu (at + 2) = ltb-false (be_at 2 pdu (at + 2)) 4 p in
      let room : at + 4 + be_at 2 pdu (at + 2) ≤ length pdu = ltb-false (length pdu) (at + 4 + be_at 2 pdu (at + 2)) q in
      record { starts = sym s; ends = sym t; least = omega arith; inside = omega arith }

  pub place-within : message_place pdu at ≡ Some (record { start = start; end = end }) → Within pdu at start end
  unfolding message_place
  place-within e =
      cases (ltb (length pdu) (at + 4)) (ltb (be_at 2 pdu (at + 2)) 4) (ltb (length pdu) (at + 4 + be_at 2 pdu (at + 2))) refl refl e

-- no room for a type and a length
pub place_past : (pdu : List ℕ) (at : ℕ) → length pdu < at + 4 → None ≡ message_place pdu at
unfolding message_place
place_past pdu at h = simp (lt-ltb (length pdu) (at + 4) h)

pub place_short : (pdu : List ℕ) (at : ℕ) → length pdu < 4 → None ≡ message_place pdu at
place_short pdu at h = place_past pdu at (omega arith)

pub place_late : (pdu : List ℕ) (at : ℕ) → 4 ≤ length pdu → length pdu - 4 < at → None ≡ message_place pdu at
place_late pdu at h k = place_past pdu at (omega arith)

-- no message ID
pub place-small : (pdu : List ℕ) (at n : ℕ) → 4 ≤ length pdu → at ≤ length pdu - 4 → n ≡ be_at 2 pdu (at + 2) → n < 4 → None ≡ message_place pdu at
unfolding message_place
place-small pdu at n h k e l = simp (le-ltb (length pdu) (at + 4) (omega arith), lt-ltb (be_at 2 pdu (at + 2)) 4 (omega arith))

-- fewer bytes than its length says
pub place_cut : (pdu : List ℕ) (at n : ℕ) → 4 ≤ length pdu → at ≤ length pdu - 4 → n ≡ be_at 2 pdu (at + 2) → 4 ≤ n → length pdu - 4 - at < n
    → None ≡ message_place pdu at
unfolding message_place
place_cut pdu at n h k e l m =
    simp (
      le-ltb (length pdu) (at + 4) (omega arith),
      le-ltb (be_at 2 pdu (at + 2)) 4 (omega arith),
      lt-ltb (length pdu) (at + 4 + be_at 2 pdu (at + 2)) (omega arith),
    )

pub place-whole : (pdu : List ℕ) (at n : ℕ) → 4 ≤ length pdu → at ≤ length pdu - 4 → n ≡ be_at 2 pdu (at + 2) → 4 ≤ n → n ≤ length pdu - 4 - at
    → Some (record { start = at; end = at + 4 + n }) ≡ message_place pdu at
unfolding message_place
place-whole pdu at n h k e l m =
    simp (
      e,
      le-ltb (length pdu) (at + 4) (omega arith),
      le-ltb (be_at 2 pdu (at + 2)) 4 (omega arith),
      le-ltb (length pdu) (at + 4 + be_at 2 pdu (at + 2)) (omega arith),
    )

pub ruleset places = (place_short, place_late, place-small, place_cut, place-whole)
