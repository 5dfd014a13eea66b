-- Fields of joined lists, and the bytes that spell a number, each once over the width. Assumes nothing.
use Prim.Native.Nat.{ℕ, zero, suc, ◌+◌, ◌*◌, ◌/◌, ◌%◌, ◌^◌, ◌≤◌, ◌<◌}
use mathlib.Core.List.{List, [], ◌∷◌, ◌++◌}
use mathlib.Core.Logic.{◌≢◌}
use mathlib.Core.Path.{◌≡◌, refl, sym, ap, ap₂, ◌∙◌}
use native.Mathlib.Nat.{add_assoc, pow-suc, mod-eq_of_lt, mod-one}
use native.Mathlib.Omega.{arith}
use lib.Arith.{mod-mul}
use lib.ListN.{length, get_or, take, drop, length-append, length-drop, get_or-append}
use lib.Seq.{get_or-drop, get_or-append-add, take-suc}
use Rattle.octets.specs.Be.{be_at, bytes}
use Rattle.octets.specs.Bytes.{Bytes}
use Rattle.octets.specs.Laid.{laid}
use Rattle.octets.proofs.Be.{be_at-suc, be_at_same, pos}
use Rattle.octets.proofs.Laid.{laid_inside, laid_elsewhere}

-- a field of what follows the first n elements
pub be_at-drop : (w n : ℕ) (s : List ℕ) (at : ℕ) → be_at w (drop n s) at ≡ be_at w s (n + at)
be_at-drop w n s at = be_at_same w (drop n s) s at (n + at) (λ k h. rw (get_or-drop, add_assoc))

-- a field of the first of two joined lists
pub be_at-append : (w : ℕ) (s t : List ℕ) (at : ℕ) → at + w ≤ length s → be_at w (s ++ t) at ≡ be_at w s at
be_at-append w s t at fits = be_at_same w (s ++ t) s at at (λ k h. get_or-append s t 0 (at + k) (omega arith))

-- a field of the second
pub be_at_behind : (w : ℕ) (s t : List ℕ) (at i : ℕ) → at ≡ length s + i → be_at w (s ++ t) at ≡ be_at w t i
be_at_behind w s t at i e =
    be_at_same w (s ++ t) t at i (λ k h.
    let there : at + k ≡ length s + (i + k) = omega arith in
    rw (there, get_or-append-add))

pub length-bytes : (w v : ℕ) → length (bytes w v) ≡ w
length-bytes zero v = refl
length-bytes (suc w) v = rw (length-append, length-bytes w (v / 256)) (omega arith)

-- the bytes that spell a number are read as that number
pub be_at-bytes : (w v : ℕ) → be_at w (bytes w v) 0 ≡ v % 256 ^ w
be_at-bytes zero v = sym (mod-one v)
be_at-bytes (suc w) v =
    let long : length (bytes w (v / 256)) ≡ w = length-bytes w (v / 256) in
    let high : be_at w (bytes w (v / 256) ++ (v % 256 ∷ [])) 0 ≡ v / 256 % 256 ^ w =
    be_at-append w (bytes w (v / 256)) (v % 256 ∷ []) 0 (omega arith) ∙ be_at-bytes w (v / 256) in
    let low : get_or (bytes w (v / 256) ++ (v % 256 ∷ [])) (0 + w) 0 ≡ v % 256 =
    ap (λ (i : ℕ). get_or (bytes w (v / 256) ++ (v % 256 ∷ [])) i 0) (let e : 0 + w ≡ length (bytes w (v / 256)) + 0 = omega arith in e)
    ∙ get_or-append-add (bytes w (v / 256)) (v % 256 ∷ []) 0 0 in
    rw (be_at-suc w (bytes (suc w) v) 0, high, low, pow-suc) (sym (mod-mul v (pos w) (omega arith)))

-- also where they stand between others
pub be_at-spelled : (w v : ℕ) (s t : List ℕ) (at : ℕ) → at ≡ length s → v < 256 ^ w → be_at w (s ++ (bytes w v ++ t)) at ≡ v
be_at-spelled w v s t at e small =
    be_at_behind w s (bytes w v ++ t) at 0 (omega arith)
    ∙ be_at-append w (bytes w v) t 0 (omega (arith, length-bytes w v))
    ∙ be_at-bytes w v
    ∙ mod-eq_of_lt small

-- and the bytes that spell a number which was read are those that it was read from
pub bytes-be_at : (w : ℕ) (s : List ℕ) (at : ℕ) → Bytes s → at + w ≤ length s → bytes w (be_at w s at) ≡ take w (drop at s)
bytes-be_at zero s at byte room = refl
bytes-be_at (suc w) s at byte room =
    let v : ℕ = be_at w s at * 256 + get_or s (at + w) 0 in
    let low : get_or s (at + w) 0 < 256 = byte (at + w) in
    let high : v / 256 ≡ be_at w s at = omega arith in
    let last : v % 256 ≡ get_or s (at + w) 0 = omega arith in
    let inside : w < length (drop at s) = rw length-drop (omega arith) in
    ap (bytes (suc w)) (be_at-suc w s at)
    ∙ ap₂ (λ (x y : ℕ). bytes w x ++ (y ∷ [])) high last
    ∙ ap₂ (λ (l : List ℕ) (y : ℕ). l ++ (y ∷ [])) (bytes-be_at w s at byte (omega arith)) (sym (get_or-drop at s w 0))
    ∙ sym (take-suc (drop at s) w 0 inside)

-- ---- numbers that are written
-- what is written is read back
pub be_at-laid : (w : ℕ) (s : List ℕ) (at v : ℕ) → at + w ≤ length s → be_at w (laid s at (bytes w v)) at ≡ v % 256 ^ w
be_at-laid w s at v fits =
    let long : length (bytes w v) ≡ w = length-bytes w v in
    be_at_same w (laid s at (bytes w v)) (bytes w v) at 0 (λ k h.
    laid_inside s at (bytes w v) k (omega arith) (omega arith) ∙ ap (λ (i : ℕ). get_or (bytes w v) i 0) (omega arith))
    ∙ be_at-bytes w v

-- a field that lies elsewhere is as it was
pub be_at-laid-other : (w : ℕ) (s : List ℕ) (at : ℕ) (p : List ℕ) (to : ℕ) → ((i k : ℕ) → i < w → k < length p → to + i ≢ at + k) → be_at w (laid s at p) to ≡ be_at w s to
be_at-laid-other w s at p to apart = be_at_same w (laid s at p) s to to (λ i h. laid_elsewhere s at p (to + i) (λ k l. apart i k h l))
