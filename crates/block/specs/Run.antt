-- A layout as the list of its fields' widths in bytes: numbers that stand one after the other.
use Rattle.std.specs.Prelude.{ℕ, ◌+◌, ◌<◌, List, [], ◌∷◌, ◌++◌, ◌≡◌, length, get_or, drop, replicate}
use Rattle.octets.specs.Be.{be_at, bytes}

-- the numbers of the given widths from `at` on
abbrev pub get_run : List ℕ → List ℕ → ℕ → List ℕ
get_run [] s at = []
get_run (w ∷ ws) s at = be_at w s at ∷ get_run ws s (at + w)

-- the bytes of numbers of the given widths, one after the other; a number that is missing counts as 0
unfoldable pub spelled : List ℕ → List ℕ → List ℕ
spelled [] vs = []
spelled (w ∷ ws) vs = bytes w (get_or vs 0 0) ++ spelled ws (drop 1 vs)

-- the bytes that a run takes
abbrev pub run_size : List ℕ → ℕ
run_size [] = 0
run_size (w ∷ ws) = w + run_size ws

-- n words of 32 bits from `at` on
unfoldable pub words_at : ℕ → List ℕ → ℕ → List ℕ
words_at n s at = get_run (replicate n 4) s at

-- the bytes of n words of 32 bits
unfoldable pub word_bytes : ℕ → List ℕ → List ℕ
word_bytes n ws = spelled (replicate n 4) ws

-- n numbers of 32 bits
pub record Words (n : ℕ) (ws : List ℕ) : Type 0 where
  pub count : length ws ≡ n
  pub each : (i : ℕ) → get_or ws i 0 < 4294967296
