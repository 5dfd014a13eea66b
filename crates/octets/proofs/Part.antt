-- Parts of lists: a part that is written, and the parts beside it. Assumes nothing.
use Prim.Native.Nat.{ℕ, ◌+◌, ◌-◌, ◌≤◌, ◌<◌}
use mathlib.Core.List.{List, ◌++◌}
use mathlib.Core.Path.{◌≡◌, sym, ap, ◌∙◌}
use native.Mathlib.Omega.{arith}
use lib.ListN.{length, get_or, take, drop, length-take, length-drop}
use lib.Seq.{get_or-take, get_or-drop, ext_get_or, drop-drop, take_at, drop_at, length-take-le}
use borrow.Rule.Slice.PartMut.{take_put, drop_put, mid_len}
use Rattle.octets.specs.Laid.{laid}
use Rattle.octets.specs.Part.{part}
use Rattle.octets.proofs.Laid.{length-laid, laid-between}

pub length_part : (s : List ℕ) (a e : ℕ) → e ≤ length s → length (part s a e) ≡ e - a
length_part s a e h = mid_len a e s h

-- what was written is read back
pub part_same : (s : List ℕ) (a e : ℕ) (p : List ℕ) → a ≤ e → e ≤ length s → length p ≡ e - a → part (laid s a p) a e ≡ p
part_same s a e p h g l =
    ap (λ (x : List ℕ). part x a e) (sym (laid-between s a e p h g l))
    ∙ ap (take (e - a)) (drop_at (take a s) (p ++ drop (e - a) (drop a s)) a (length-take-le a s (omega arith)))
    ∙ take_at p (drop (e - a) (drop a s)) (e - a) l

-- a part that ends before n is one of the first n elements
part-take : (s : List ℕ) (n a e : ℕ) → a ≤ e → e ≤ n → n ≤ length s → part s a e ≡ part (take n s) a e
part-take s n a e k h g =
    ext_get_or 0 (part s a e) (part (take n s) a e) (simp (length-take, length-drop) (omega arith)) (λ i hi.
    let inside : i < e - a = omega (arith, simp (length-take, length-drop) at hi) in
    let there : a + i < n = omega arith in
    rw (get_or-take (e - a) (drop a s) i 0, get_or-take (e - a) (drop a (take n s)) i 0, get_or-drop a s i 0, get_or-drop a (take n s) i 0, get_or-take n s (a + i) 0))

-- a part that starts from n on is one of what follows
part-drop : (s : List ℕ) (n a e : ℕ) → n ≤ a → part s a e ≡ part (drop n s) (a - n) (e - n)
part-drop s n a e h =
    let size : e - n - (a - n) ≡ e - a = omega arith in
    let start : n + (a - n) ≡ a = omega arith in
    rw (size, drop-drop (a - n) n s, start)

-- what stands before it is as it was
pub part-before : (s : List ℕ) (a e : ℕ) (p : List ℕ) (b f : ℕ) → a ≤ e → e ≤ length s → length p ≡ e - a → b ≤ f → f ≤ a → part (laid s a p) b f ≡ part s b f
part-before s a e p b f h g l k m =
    let long : length (laid s a p) ≡ length s = length-laid s a p in
    part-take (laid s a p) a b f k m (omega arith)
    ∙ ap (λ (x : List ℕ). part x b f) (ap (take a) (sym (laid-between s a e p h g l)) ∙ take_put a (e - a) s p (omega arith))
    ∙ sym (part-take s a b f k m (omega arith))

-- and what stands behind it
pub part-after : (s : List ℕ) (a e : ℕ) (p : List ℕ) (b f : ℕ) → a ≤ e → e ≤ length s → length p ≡ e - a → e ≤ b → part (laid s a p) b f ≡ part s b f
part-after s a e p b f h g l k =
    part-drop (laid s a p) e b f k
    ∙ ap (λ (x : List ℕ). part x (b - e) (f - e)) (ap (drop e) (sym (laid-between s a e p h g l)) ∙ drop_put a e s p h g l)
    ∙ sym (part-drop s e b f k)

-- an element of a part is one of the list
pub part-at : (s : List ℕ) (a e i : ℕ) → i < e - a → get_or (part s a e) i 0 ≡ get_or s (a + i) 0
part-at s a e i inside = rw (get_or-take (e - a) (drop a s) i 0, get_or-drop a s i 0)

pub part_inside : (s : List ℕ) (a e i : ℕ) → i < length (part s a e) → i < e - a
part_inside s a e i l = omega (arith, simp (length-take, length-drop) at l)

-- a part of a part is one of the list
pub part-part : (s : List ℕ) (a e b f : ℕ) → a ≤ e → e ≤ length s → f ≤ e - a → part (part s a e) b f ≡ part s (a + b) (a + f)
part-part s a e b f h g k =
    let inner : length (part s a e) ≡ e - a = length_part s a e g in
    let size : f - b ≡ a + f - (a + b) = omega arith in
    let there : a + f ≤ length s = omega arith in
    ext_get_or 0 (part (part s a e) b f) (part s (a + b) (a + f))
    (length_part (part s a e) b f (rw inner k) ∙ size ∙ sym (length_part s (a + b) (a + f) there)) (λ i hi.
    let inside : i < f - b = part_inside (part s a e) b f i hi in
    let same : a + (b + i) ≡ a + b + i = omega arith in
    part-at (part s a e) b f i inside
    ∙ part-at s a e (b + i) (omega arith)
    ∙ ap (λ (n : ℕ). get_or s n 0) same
    ∙ sym (part-at s (a + b) (a + f) i (rw (← size) inside)))
