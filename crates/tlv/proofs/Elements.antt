-- A FEC's bytes: the mask, and that two prefixes have the same bits exactly if they agree up to their length. Assumes nothing.
use Prim.Native.Nat.{ℕ, ◌-◌, ◌*◌, ◌/◌, ◌%◌, ◌^◌, ◌≤◌, ◌<◌}
use mathlib.Core.Bool.{true}
use mathlib.Core.List.{List}
use mathlib.Core.Path.{◌≡◌, sym, ap, ◌∙◌}
use native.Mathlib.Nat.{div-mul-le_self, lt_of_le_of_lt}
use native.Mathlib.Omega.{arith}
use lib.Dec.{eqb, leb}
use lib.ListN.{get_or}
use lib.Pow.{shl_exact, shr_le, shl-shr}
use borrow.Author.Tests.{leb-true}
use Rattle.octets.specs.Be.{be_at}
use Rattle.octets.proofs.Choice.{both_true}
use Rattle.tlv.specs.Element.{prefix_length, is_prefix, masked_to}

pub masked_le : (k v : ℕ) → v / 2 ^ k * 2 ^ k ≤ v
masked_le k v = div-mul-le_self v (2 ^ k)

-- as the code shifts, in 64 bits
pub masked_exact : (k v : ℕ) → k ≤ 32 → v < 2 ^ 32 → (v / 2 ^ k * 2 ^ k) % 2 ^ 64 ≡ v / 2 ^ k * 2 ^ k
masked_exact k v h l = shl_exact 32 k 64 (lt_of_le_of_lt (shr_le v k) l) (omega arith)

-- a prefix is no longer than 32 bits
pub prefix_length_lem : (value : List ℕ) → is_prefix value ≡ true → prefix_length value ≤ 32
unfolding is_prefix
prefix_length_lem value e =
    let a = both_true (eqb (get_or value 0 0) 2) _ e in
    let b = both_true (eqb (be_at 2 value 1) 1) _ a.1 in
    let c = both_true (leb (prefix_length value) 32) _ b.1 in
    leb-true (prefix_length value) 32 c.0

-- the bits up to the length decide, and those past it do not
pub masked_same : (n v w : ℕ) → v / 2 ^ (32 - n) ≡ w / 2 ^ (32 - n) → masked_to n v ≡ masked_to n w
unfolding masked_to
masked_same n v w e = ap (λ (x : ℕ). x * 2 ^ (32 - n)) e

pub same_masked : (n v w : ℕ) → masked_to n v ≡ masked_to n w → v / 2 ^ (32 - n) ≡ w / 2 ^ (32 - n)
unfolding masked_to
same_masked n v w e =
    let k : ℕ = 32 - n in
    sym (shl-shr (v / 2 ^ k) k) ∙ ap (λ (x : ℕ). x / 2 ^ k) e ∙ shl-shr (w / 2 ^ k) k

-- what is masked stays so
pub masked_twice : (n v : ℕ) → masked_to n (masked_to n v) ≡ masked_to n v
unfolding masked_to
masked_twice n v = masked_same n (masked_to n v) v (shl-shr (v / 2 ^ (32 - n)) (32 - n))
