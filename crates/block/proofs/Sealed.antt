-- A sealed block: its size, its check, and the store that seals it. Assumes nothing.
use Prim.Native.Nat.{ℕ, ◌+◌}
use mathlib.Core.Bool.{true}
use mathlib.Core.List.{List, [], ◌++◌, append-nil}
use mathlib.Core.Path.{◌≡◌, sym, ap, ◌∙◌}
use native.Mathlib.Nat.{mod-eq_of_lt}
use native.Mathlib.Omega.{arith}
use lib.ListN.{length, take, drop, length-append, drop_of_length-le}
use lib.Seq.{take_at}
use borrow.Author.Tests.{eq-eqb}
use Rattle.octets.specs.Be.{be_at, bytes}
use Rattle.octets.specs.Laid.{laid}
use Rattle.octets.proofs.Bytes.{be_at_behind, be_at-bytes}
use Rattle.octets.proofs.Laid.{laid_split}
use Rattle.block.specs.Check.{block_size, check_at, check_of, sound, sealed}
use Rattle.block.proofs.Sums.{check_of-lt}

module _ (body : List ℕ) (long : length body ≡ check_at) where
  pub length-sealed : length (sealed body) ≡ block_size
  unfolding sealed
  length-sealed = length-append body (bytes 4 (check_of body)) ∙ ap (λ (n : ℕ). n + 4) long

  pub body_sealed : take check_at (sealed body) ≡ body
  unfolding sealed
  body_sealed = take_at body (bytes 4 (check_of body)) check_at long

  -- a sealed block is sound
  pub sealed-sound : sound (sealed body) ≡ true
  unfolding sound sealed
  sealed-sound =
      let check : be_at 4 (sealed body) check_at ≡ check_of body =
      be_at_behind 4 body (bytes 4 (check_of body)) check_at 0 (omega arith) ∙ be_at-bytes 4 (check_of body) ∙ mod-eq_of_lt (check_of-lt body) in
      eq-eqb _ _ (check ∙ ap check_of (sym body_sealed))

-- the check stored behind the bytes that it is of
pub seal_put : (b : List ℕ) → length b ≡ block_size → {c : ℕ} {x : List ℕ} → c ≡ check_of (take check_at b) → x ≡ laid b check_at (bytes 4 c) → x ≡ sealed (take check_at b)
unfolding sealed
seal_put b long {c} ec ex =
    let last : drop block_size b ≡ [] = drop_of_length-le b {i = block_size} (omega arith) in
    ex
    ∙ laid_split b check_at (bytes 4 c) (omega arith)
    ∙ ap (λ (r : List ℕ). take check_at b ++ (bytes 4 c ++ r)) last
    ∙ ap (λ (r : List ℕ). take check_at b ++ r) (append-nil (bytes 4 c))
    ∙ ap (λ (v : ℕ). take check_at b ++ bytes 4 v) ec
