-- The medium: what an owner has stored who stores what each outcome tells, in the order told, each block whole.
-- 01: "A call stores at most one slot, one that isn't live, and then block 0. A block is stored whole or not at all"; 02: "stored in block 65 .. before block 0",
-- "60 places in each of two further blocks, stored before block 0".
use Rattle.std.specs.Prelude.{ℕ, ◌/◌, ◌%◌, Bool, List, [], ◌∷◌, ◌++◌, ◌≡◌, eqb, take}
use Rattle.octets.specs.Pick.{pick}
use Rattle.image.specs.Sizes.{block, further, with_block}
use Rattle.image.specs.State.{decode}
use Rattle.image.specs.Verdict.{verdict}
use Rattle.calls.specs.declared.Outcome.{Outcome}
use Rattle.calls.specs.Outcomes.{After}

-- of the blocks in an order those whose bits are set, the lowest the first's
abbrev pub with_bits : ℕ → List ℕ → List ℕ
with_bits bits [] = []
with_bits bits (b ∷ bs) = pick (eqb (bits % 2) 1) (b ∷ []) [] ++ with_bits (bits / 2) bs

-- the slot's block, unless there is none, then these further blocks, and then block 0 if it changed
abbrev pub told : Bool → ℕ → List ℕ → Bool → List ℕ
told none slot others zeroth = pick none [] (slot ∷ []) ++ (others ++ pick zeroth (0 ∷ []) [])

-- the blocks that are to be stored after a call, in this order
abbrev pub stores : Outcome → List ℕ
stores r = told (eqb r.slot 0) r.slot (with_bits r.further further) r.block0

-- these blocks of the image `next` written to the medium, one after the other
abbrev pub written : List ℕ → List ℕ → List ℕ → List ℕ
written medium next [] = medium
written medium next (b ∷ bs) = written (with_block medium b (block next b)) next bs

-- the medium where the power goes after n of the stores that the call tells, and after all of them
abbrev pub committed : ℕ → List ℕ → After → List ℕ
committed n medium x = written medium x.image (take n (stores x.outcome))

abbrev pub all_stored : List ℕ → After → List ℕ
all_stored medium x = written medium x.image (stores x.outcome)

-- "restore gives the state before the call": the medium passes the same checks and stands for the same state
pub record Same (im cut : List ℕ) : Type 0 where
  pub checks : verdict cut ≡ verdict im
  pub state : decode cut ≡ decode im
