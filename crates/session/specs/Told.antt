-- What an outcome tells the owner of the blocks that are to be stored.
use Rattle.std.specs.Prelude.{ℕ, ◌≤◌, ◌<◌, true, List, ◌≢◌, ◌≡◌}
use Rattle.image.specs.Sizes.{block, request_block}
use Rattle.calls.specs.Outcomes.{After, further_bits, is_other}

-- block 0 is told exactly where its bytes are others than before
abbrev pub TellsBlock0 : List ℕ → After → Type 0
TellsBlock0 im x = x.outcome.block0 ≡ is_other im x.image 0

-- each of the further blocks is told exactly where its bytes are others than before
abbrev pub TellsFurther : List ℕ → After → Type 0
TellsFurther im x = x.outcome.further ≡ further_bits im x.image

-- 02: 65, 66 or 67: of the further blocks at most one is another
abbrev pub OneFurther : List ℕ → After → Type 0
OneFurther im x =
    (j k : ℕ) → request_block ≤ j → request_block ≤ k → is_other im x.image j ≡ true → is_other im x.image k ≡ true → j ≡ k

-- every block but block 0, the further blocks and the slot that the outcome names keeps its bytes
abbrev pub KeepsOthers : List ℕ → After → Type 0
KeepsOthers im x = (k : ℕ) → k ≢ 0 → k < request_block → k ≢ x.outcome.slot → block x.image k ≡ block im k
