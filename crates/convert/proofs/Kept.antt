-- A list, a timeout and the numbers moved to the other version: what they are there, and that moved again they are what they were. Assumes nothing.
use Prim.Native.Nat.{ℕ, ◌-◌, ◌*◌, ◌%◌, ◌≤◌, ◌<◌}
use mathlib.Core.Bool.{true}
use mathlib.Core.List.{List, [], ◌∷◌, ◌++◌, append-nil}
use mathlib.Core.Logic.{⊎_elim}
use mathlib.Core.Path.{◌≡◌, refl, sym, ap, ◌∙◌}
use native.Mathlib.Omega.{arith}
use lib.Dec.{eqb, leb}
use lib.ListN.{length, get_or, take, drop, replicate, length-append, get_or-append, get_or-eq_default}
use lib.Seq.{ext_get_or, get_or-take, length-take-le, get_or-append_seam, take_all}
use borrow.Author.Tests.{eqb-true, leb-true, eq-eqb, le-leb}
use Rattle.octets.proofs.Choice.{below_or_not, both_true}
use Rattle.label_list.specs.Word.{word_count, is_free}
use Rattle.block0.specs.declared.Header.{Header}
use Rattle.block0.specs.declared.Version.{Version}
use Rattle.block0.specs.declared.Version.TheVariants.{One, Two}
use Rattle.block0.specs.Fields.{timeout_end}
use Rattle.block0.specs.Layout.{places}
use Rattle.convert.specs.Move.{other, timeout_moved, header_moved, list_moved, movable}

pub other_twice : (v : Version) → other (other v) ≡ v
other_twice One = refl
other_twice Two = refl

-- ---- a list that has nothing at the place that version 2 lacks
-- past the end a list has 0
past : (l : List ℕ) (i : ℕ) → length l ≤ i → get_or l i 0 ≡ 0
past l i h = get_or-eq_default l 0 {n = i} h

pub moved_length : (v : Version) (l : List ℕ) → length l ≡ places v → length (list_moved v l) ≡ places (other v)
moved_length One l n = length-take-le word_count l (omega arith)
moved_length Two l n = length-append l (0 ∷ []) ∙ omega arith

-- each place has what it had
pub moved_at : (v : Version) (l : List ℕ) → length l ≡ places v → get_or l word_count 0 ≡ 0 → (i : ℕ) → get_or (list_moved v l) i 0 ≡ get_or l i 0
moved_at One l n last i =
    ⊎_elim
    (λ (inside : i < word_count). get_or-take word_count l i 0 inside)
    (λ (behind : word_count ≤ i).
    past (take word_count l) i (rw (length-take-le word_count l (omega arith)) behind)
    ∙ ⊎_elim (λ (here : i < 120). let e : i ≡ word_count = omega arith in rw e (sym last)) (λ (out : 120 ≤ i). sym (past l i (rw n out))) (below_or_not i 120))
    (below_or_not i word_count)
moved_at Two l n last i =
    ⊎_elim
    (λ (inside : i < word_count). get_or-append l (0 ∷ []) 0 i (rw n inside))
    (λ (behind : word_count ≤ i).
    ⊎_elim
    (λ (here : i < 120). let e : i ≡ length l = omega arith in rw e (get_or-append_seam l 0 [] 0))
    (λ (out : 120 ≤ i). past (l ++ (0 ∷ [])) i (rw length-append (omega arith)))
    (below_or_not i 120)
    ∙ sym (past l i (rw n behind)))
    (below_or_not i word_count)

pub moved_again : (v : Version) (l : List ℕ) → length l ≡ places v → get_or l word_count 0 ≡ 0 → list_moved (other v) (list_moved v l) ≡ l
moved_again v l n last =
    let long : length (list_moved v l) ≡ places (other v) = moved_length v l n in
    ext_get_or 0 (list_moved (other v) (list_moved v l)) l
    (moved_length (other v) (list_moved v l) long ∙ ap places (other_twice v) ∙ sym n)
    (λ i h. moved_at (other v) (list_moved v l) long (moved_at v l n last word_count ∙ last) i ∙ moved_at v l n last i)

-- free places stay free
pub moved_none : (v : Version) → list_moved v (replicate (places v) 0) ≡ replicate (places (other v)) 0
moved_none One = refl
moved_none Two = refl

-- read into the front of places that are lent; of places that were free, as many as the other version has
pub front_put : (w : List ℕ) {l p : List ℕ} {count n : ℕ} → l ≡ p → count ≡ n → take 0 w ++ (l ++ drop (count - 0) (drop 0 w)) ≡ p ++ drop n w
front_put w {l} {p} {count} {n} el e = let all : count - 0 ≡ n = omega arith in rw (el, all)

pub front_read : (w : List ℕ) {count n : ℕ} → count ≡ n → take (count - 0) (drop 0 w) ≡ take n w
front_read w {count} {n} e = let all : count - 0 ≡ n = omega arith in rw all

pub words_moved : (v : Version) (l : List ℕ) → length l ≡ places v → take (places (other v)) (l ++ drop (places v) (replicate (places One) 0)) ≡ list_moved v l
words_moved One l n = ap (take word_count) (append-nil l)
words_moved Two l n = take_all 120 (l ++ (0 ∷ [])) (rw length-append (omega arith))

-- ---- where a move is possible
pub last_free : (v : Version) (h : Header) (ls : List ℕ) → movable v h ls ≡ true → length ls ≡ places v → get_or ls word_count 0 ≡ 0
unfolding is_free
last_free One h ls m n = eqb-true (get_or ls word_count 0) 0 m
last_free Two h ls m n = past ls word_count (omega arith)

whole_seconds : (h : Header) (ls : List ℕ) → movable Two h ls ≡ true → (h.timeout % 1000 ≡ 0) × (h.timeout ≤ 65535000)
whole_seconds h ls m =
    let p = both_true (eqb (h.timeout % 1000) 0) (leb h.timeout 65535000) m in
    (eqb-true (h.timeout % 1000) 0 p.0, leb-true h.timeout 65535000 p.1)

-- the timeout is the same, in its own unit
pub timeout_again : (v : Version) (h : Header) (ls : List ℕ) → movable v h ls ≡ true → timeout_moved (other v) (timeout_moved v h.timeout) ≡ h.timeout
timeout_again One h ls m = omega arith
timeout_again Two h ls m = omega (arith, (whole_seconds h ls m).0)

pub timeout_fits : (v : Version) (h : Header) (ls : List ℕ) → movable v h ls ≡ true → h.timeout < timeout_end v → timeout_moved v h.timeout < timeout_end (other v)
timeout_fits One h ls m l = omega arith
timeout_fits Two h ls m l = omega (arith, (whole_seconds h ls m).1)

-- no timeout is none in either unit
pub timeout_none : (v : Version) → timeout_moved v 0 ≡ 0
timeout_none One = refl
timeout_none Two = refl

-- and the other way the move is possible too
pub again-movable : (v : Version) (h : Header) (ls : List ℕ) → movable v h ls ≡ true → length ls ≡ places v → h.timeout < timeout_end v
    → movable (other v) (header_moved v h) (list_moved v ls) ≡ true
unfolding is_free
again-movable One h ls m n l =
    let whole : h.timeout * 1000 % 1000 ≡ 0 = omega arith in
    simp (eq-eqb (h.timeout * 1000 % 1000) 0 whole, le-leb (h.timeout * 1000) 65535000 (omega arith))
again-movable Two h ls m n l =
    let free : get_or ls word_count 0 ≡ 0 = last_free Two h ls m n in
    eq-eqb (get_or (list_moved Two ls) word_count 0) 0 (moved_at Two ls n free word_count ∙ free)
