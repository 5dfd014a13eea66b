-- A block of the stored image, 512 bytes, and its check. "Bytes 508 to 511 of each block: A then B, 16 bits each. Start A=1, B=0;
-- for each of the 254 big-endian 16-bit words before them, A becomes A+word, B becomes B+A, both modulo 65,535."
use Rattle.std.specs.Prelude.{Option, Some, None, ℕ, ◌+◌, ◌*◌, ◌%◌, Bool, List, [], ◌∷◌, ◌++◌, eqb, ltb, length, take}
use Rattle.octets.specs.Be.{be_at, bytes}
use Rattle.octets.specs.Pick.{pick}

abbrev pub block_size : ℕ
block_size = 512

-- where the check stands: it is over the bytes before
abbrev pub check_at : ℕ
check_at = 508

-- A and B after the words of a list of bytes, from the sums a and b before them; both as the one 32-bit number A * 65536 + B that they spell
unfoldable pub sums : ℕ → ℕ → List ℕ → ℕ
sums a b [] = a * 65536 + b
sums a b (x ∷ []) = a * 65536 + b
sums a b (x ∷ y ∷ rest) = sums ((a + (x * 256 + y)) % 65535) ((b + (a + (x * 256 + y)) % 65535) % 65535) rest

-- the check of the bytes before it
unfoldable pub check_of : List ℕ → ℕ
check_of s = sums 1 0 s

-- the block has the check that it should have
unfoldable pub sound : List ℕ → Bool
sound b = eqb (be_at 4 b check_at) (check_of (take check_at b))

-- the block of these bytes, the 508 before the check, with their check behind them
unfoldable pub sealed : List ℕ → List ℕ
sealed body = body ++ bytes 4 (check_of body)

-- the check of the first 508 of any bytes; refused where there are fewer
unfoldable pub block_check_of : List ℕ → Option ℕ
block_check_of b = pick (ltb (length b) check_at) None (Some (check_of (take check_at b)))
