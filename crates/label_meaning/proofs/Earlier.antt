-- The label words that were valid before 02's ticket 4 are those that are valid now and have no code 8 or 9; in these every label is read as it was. Assumes nothing.
use Prim.Native.Nat.{ℕ, suc, ◌≤◌, ◌*◌}
use mathlib.Core.Bool.{Bool, true, false}
use mathlib.Core.List.{List, [], ◌∷◌}
use mathlib.Core.Path.{◌≡◌, refl, sym, ap, ◌∙◌}
use native.Mathlib.Omega.{arith}
use lib.Dec.{eqb, leb}
use borrow.Author.Tests.{leb-true, leb-false, eqb-true}
use Rattle.octets.specs.Pick.{both}
use Rattle.octets.proofs.Choice.{by_test, both_true}
use Rattle.label_list.specs.declared.Side.{Side}
use Rattle.label_list.specs.declared.Side.TheVariants.{Given, Used}
use Rattle.label_list.specs.Find.{any, find_from, find_of}
use Rattle.label_list.specs.Valid.{valid_word, valid_of}
use Rattle.label_list.specs.Word.{label_of, code_of, is_free, within, on_side, request_code, is_request, stands_for}
use Rattle.label_list.proofs.Standing.{within_range, within_out}
use Rattle.label_events.specs.Change.{code_at}
use Rattle.label_meaning.specs.Earlier.{earlier_side, earlier_stands, earlier_once, earlier_word, earlier_valid, earlier_code, codes_low}

-- ---- up to code 7 the sides are the same
side_same : (s : Side) (c : ℕ) → c ≤ request_code → on_side s c ≡ earlier_side s c
unfolding on_side earlier_side
side_same Given c low = by_test (within 1 2 c) (λ t. rw t) (λ f. rw f (sym (within_out 8 9 c (λ l. omega arith))))
side_same Used c low = refl

stands_same : (s : Side) (l w : ℕ) → code_of w ≤ request_code → stands_for s l w ≡ earlier_stands s l w
unfolding stands_for earlier_stands
stands_same s l w low = ap (λ (b : Bool). both b (eqb (label_of w) l)) (side_same s (code_of w) low)

-- ---- searches
low_parts : (w : ℕ) (ws : List ℕ) → codes_low (w ∷ ws) ≡ true → (code_of w ≤ request_code) × (codes_low ws ≡ true)
unfolding codes_low
low_parts w ws e = let p = both_true (leb (code_of w) request_code) (codes_low ws) e in (leb-true (code_of w) request_code p.0, p.1)

any_same : (s : Side) (l : ℕ) (ws : List ℕ) → codes_low ws ≡ true → any (stands_for s l) ws ≡ any (earlier_stands s l) ws
unfolding any
any_same s l [] low = refl
any_same s l (w ∷ ws) low = let p = low_parts w ws low in rw (stands_same s l w p.0, any_same s l ws p.1)

find_same : (s : Side) (l k : ℕ) (ws : List ℕ) → codes_low ws ≡ true → find_from (stands_for s l) k ws ≡ find_from (earlier_stands s l) k ws
find_same s l k [] low = refl
find_same s l k (w ∷ ws) low = let p = low_parts w ws low in rw (stands_same s l w p.0, find_same s l (suc k) ws p.1)

-- ---- validity
word_same : (w : ℕ) (ws : List ℕ) → code_of w ≤ request_code → codes_low ws ≡ true → valid_word w ws ≡ earlier_word w ws
unfolding valid_word earlier_word
word_same w ws low rest =
    rw (side_same Given (code_of w) low, side_same Used (code_of w) low, any_same Given (label_of w) ws rest, any_same Used (label_of w) ws rest)

-- a word that was valid has such a code
once_low : (l c : ℕ) (ws : List ℕ) → earlier_once l c ws ≡ true → c ≤ request_code
unfolding earlier_side
once_low l c ws e =
    by_test
    (within 1 2 c)
    (λ t. omega (arith, within_range 1 2 c t))
    (λ f. omega (arith, within_range 3 6 c (both_true (within 3 6 c) _ (rw f at e)).0))

earlier_low : (w : ℕ) (ws : List ℕ) → earlier_word w ws ≡ true → code_of w ≤ request_code
unfolding earlier_word is_free is_request
earlier_low w ws e =
    by_test
    (is_free w)
    (λ z. omega (arith, eqb-true w 0 z))
    (λ z. by_test
    (is_request w)
    (λ r. omega (arith, eqb-true w (7 * 1048576) r))
    (λ r. once_low (label_of w) (code_of w) ws (both_true (leb 16 (label_of w)) _ (rw (z, r) at e)).1))

-- The words that were valid are exactly those that are valid now and have no code 8 or 9.
pub earlier_exactly : (words : List ℕ) → earlier_valid words ≡ both (codes_low words) (valid_of words)
unfolding earlier_valid codes_low valid_of
earlier_exactly [] = refl
earlier_exactly (w ∷ ws) =
    let rest : earlier_valid ws ≡ both (codes_low ws) (valid_of ws) = earlier_exactly ws in
    by_test
    (codes_low ws)
    (λ lows. by_test
    (leb (code_of w) request_code)
    (λ t. rw (rest, lows, t, word_same w ws (leb-true (code_of w) request_code t) lows))
    (λ f. rw (f, not_earlier f)))
    (λ lows. rw (rest, lows, never (earlier_word w ws), never (leb (code_of w) request_code)))
  where
    never : (b : Bool) → both b false ≡ false
    never true = refl
    never false = refl

    not_earlier : leb (code_of w) request_code ≡ false → earlier_word w ws ≡ false
    not_earlier f =
        by_test
        (earlier_word w ws)
        (λ t. let low : code_of w ≤ request_code = earlier_low w ws t in absurd (omega (arith, leb-false (code_of w) request_code f)))
        (λ n. n)

-- So what was valid is valid,
pub earlier_valid_lem : (words : List ℕ) → earlier_valid words ≡ true → valid_of words ≡ true
earlier_valid_lem words e = (both_true (codes_low words) (valid_of words) (sym (earlier_exactly words) ∙ e)).1

-- and of every label the same is read.
pub earlier_code_lem : (words : List ℕ) → earlier_valid words ≡ true → (side : Side) (label : ℕ) → code_at words side label ≡ earlier_code words side label
unfolding find_of
earlier_code_lem words e side label = rw (find_same side label 0 words (both_true (codes_low words) (valid_of words) (sym (earlier_exactly words) ∙ e)).0)
