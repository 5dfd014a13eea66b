-- The words of a block in rows of eight, and two words in one number: how the code sums them. It reads a word's first byte as the low one.
-- The check's own definition is in Check.antt; that these sums make it up is proved.
use Rattle.std.specs.Prelude.{ℕ, zero, suc, ◌+◌, ◌*◌, ◌^◌, ◌≤◌, List, ◌≡◌, get_or}

-- the number that the w bytes from index `at` on spell, the first byte the least significant
abbrev pub le_at : ℕ → List ℕ → ℕ → ℕ
le_at zero s at = 0
le_at (suc zero) s at = get_or s at 0
le_at (suc (suc w)) s at = le_at (suc w) s at + get_or s (at + suc w) 0 * 256 ^ suc w

-- a number whose halves of 32 bits are x, the low one, and y
abbrev pub paired : ℕ → ℕ → ℕ
paired x y = x + y * 4294967296

-- Of a row, which starts `at` bytes into the block, the words of one half of the number that sums them, which start o bytes into the row:
-- all four, the two of the row's later eight bytes, and the two at odd places. w is the word at a byte.
abbrev pub four : (ℕ → ℕ) → ℕ → ℕ → ℕ
four w o at = w (at + o) + w (at + (2 + o)) + (w (at + (8 + o)) + w (at + (10 + o)))

abbrev pub later : (ℕ → ℕ) → ℕ → ℕ → ℕ
later w o at = w (at + (8 + o)) + w (at + (10 + o))

abbrev pub odds : (ℕ → ℕ) → ℕ → ℕ → ℕ
odds w o at = w (at + (2 + o)) + w (at + (10 + o))

-- the sum of f at n places that stand k bytes apart, and the sum of the sums after each
unfoldable pub sum_by : ℕ → (ℕ → ℕ) → ℕ → ℕ
sum_by k f zero = 0
sum_by k f (suc n) = sum_by k f n + f (n * k)

unfoldable pub run_by : ℕ → (ℕ → ℕ) → ℕ → ℕ
run_by k f zero = 0
run_by k f (suc n) = run_by k f n + sum_by k f (suc n)

-- the four sums after n rows, two to a number
pub record InRows (w : ℕ → ℕ) (n a b o r : ℕ) : Type 0 where
  pub all : a ≡ paired (sum_by 16 (four w 0) n) (sum_by 16 (four w 4) n)
  pub second : b ≡ paired (sum_by 16 (later w 0) n) (sum_by 16 (later w 4) n)
  pub odd : o ≡ paired (sum_by 16 (odds w 0) n) (sum_by 16 (odds w 4) n)
  pub running : r ≡ paired (run_by 16 (four w 0) n) (run_by 16 (four w 4) n)

-- the four sums have room for a row of the four numbers
pub record Room (a b o r e p f q : ℕ) : Type 0 where
  pub sums : (a ≤ 2 ^ 60) × (b ≤ 2 ^ 60) × (o ≤ 2 ^ 60) × (r ≤ 2 ^ 60)
  pub row : (e ≤ 2 ^ 48) × (p ≤ 2 ^ 48) × (f ≤ 2 ^ 48) × (q ≤ 2 ^ 48)
