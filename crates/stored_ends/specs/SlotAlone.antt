-- Power lost in a Submit, after its slot is stored and before block 0 is.
-- 01: "With only the slot stored, restore gives the state before the call".
use Rattle.std.specs.Prelude.{ℕ, List, [], ◌≢◌, ◌≡◌}
use Rattle.image.specs.Sizes.{block, block_of}
use Rattle.image.specs.State.{decode, slots_of}
use Rattle.calls.specs.State.{state_of}
use Rattle.calls.specs.Storing.{next_slot}
use Rattle.two_ends.specs.Runs.{submits}
use Rattle.call_meaning.specs.Medium.{committed}
use Rattle.stored_ends.specs.Pair.{Pair, happen, cut, left, restarted}

-- of a medium before the Submit of m, and at the cut
pub record SlotAlone (before cut m : List ℕ) : Type 0 where
  -- the slot that m would take, the one behind the newest held, has its bytes
  pub slot : slots_of cut (next_slot (decode before).header) ≡ m
  -- every other block is the one before, block 0 among them
  pub others : (b : ℕ) → b ≢ block_of (next_slot (decode before).header) → block cut b ≡ block before b
  pub zeroth : block cut 0 ≡ block before 0
  -- so the state read is the one before: m is not held
  pub state : state_of cut ≡ state_of before

-- the medium of a after the first store of its Submit
abbrev pub at_cut : Pair → List ℕ → List ℕ
at_cut z m = committed 1 z.own.medium (left (submits m) z.world z.own [])

-- with power back, a restarts from that medium
pub record CutInSubmit (z : Pair) (m : List ℕ) : Type 0 where
  pub alone : SlotAlone z.own.medium (at_cut z m) m
  pub restarts : happen z (cut 1 (submits m) []) ≡ restarted z (at_cut z m)
