-- The first word that is free in the old list too: it is free in both, and where words are only freed since then the first that was free in the old one. Assumes nothing.
use Rattle.std.specs.Prelude.{Some}
use Prim.Native.Nat.{ℕ, zero, suc, ◌<◌}
use mathlib.Core.List.{List, [], ◌∷◌}
use mathlib.Core.Path.{◌≡◌, refl, sym, ap, ◌∙◌}
use native.Mathlib.Omega.{arith}
use lib.Dec.{eqb}
use lib.ListN.{length, get_or}
use borrow.Author.Tests.{eqb-true, eqb-false}
use Rattle.octets.specs.Pick.{pick}
use Rattle.octets.proofs.Choice.{by_test}
use Rattle.label_list.specs.Find.{find_from, find_of, overlaid, spare_in}
use Rattle.label_list.specs.Word.{is_free}
use Rattle.label_list.proofs.Reached.{found_in_lem, found_passes, found_place}

-- free in both, where what was free is
free-both : (w v : ℕ) → (v ≡ 0 → w ≡ 0) → is_free (pick (is_free w) v w) ≡ is_free v
unfolding is_free
free-both w v freed =
    by_test (eqb v 0)
    (λ z. let old : v ≡ 0 = eqb-true v 0 z in rw (freed old, old))
    (λ n. by_test (eqb w 0) (λ t. rw t) (λ f. rw f (f ∙ sym n)))

spare_from : (k : ℕ) (words old : List ℕ) → length words ≡ length old → ((i : ℕ) → get_or old i 0 ≡ 0 → get_or words i 0 ≡ 0)
    → find_from is_free k (overlaid words old) ≡ find_from is_free k old
unfolding overlaid
spare_from k [] [] n freed = refl
spare_from k [] (v ∷ vs) n freed = absurd (omega arith)
spare_from k (w ∷ ws) [] n freed = absurd (omega arith)
spare_from k (w ∷ ws) (v ∷ vs) n freed = rw (free-both w v (freed 0), spare_from (suc k) ws vs (omega arith) (λ i. freed (suc i)))

pub spare_old : (words old : List ℕ) → length words ≡ length old → ((i : ℕ) → get_or old i 0 ≡ 0 → get_or words i 0 ≡ 0) → spare_in old words ≡ find_of is_free old
unfolding spare_in find_of
spare_old words old n freed = spare_from 0 words old n freed

pub overlaid-length : (words old : List ℕ) → length (overlaid words old) ≡ length words
unfolding overlaid
overlaid-length [] old = refl
overlaid-length (w ∷ ws) [] = ap suc (overlaid-length ws [])
overlaid-length (w ∷ ws) (v ∷ vs) = ap suc (overlaid-length ws vs)

overlaid-free : (words old : List ℕ) (i : ℕ) → i < length words → get_or (overlaid words old) i 0 ≡ 0 → (get_or words i 0 ≡ 0) × (get_or old i 0 ≡ 0)
unfolding overlaid is_free
overlaid-free [] old i inside e = absurd (omega arith)
overlaid-free (w ∷ ws) [] zero inside e = (e, refl)
overlaid-free (w ∷ ws) [] (suc i) inside e = overlaid-free ws [] i (omega arith) e
overlaid-free (w ∷ ws) (v ∷ vs) zero inside e =
    by_test (eqb w 0) (λ t. (eqb-true w 0 t, rw t at e)) (λ f. absurd (eqb-false w 0 f (rw f at e)))
overlaid-free (w ∷ ws) (v ∷ vs) (suc i) inside e = overlaid-free ws vs i (omega arith) e

-- a spare word is a word, and free in both
pub record SpareAt (old words : List ℕ) (i : ℕ) : Type 0 where
  pub inside : i < length words
  pub free : get_or words i 0 ≡ 0
  pub before : get_or old i 0 ≡ 0

pub spare_free : (old words : List ℕ) (i : ℕ) → spare_in old words ≡ Some i → SpareAt old words i
unfolding spare_in is_free
spare_free old words i e =
    let within : i < length (overlaid words old) = found_place (overlaid words old) (Some i) i (found_in_lem is_free (overlaid words old) (sym e)) refl in
    let low : i < length words = rw (overlaid-length words old) at within in
    let both = overlaid-free words old i low (eqb-true (get_or (overlaid words old) i 0) 0 (found_passes is_free (overlaid words old) i refl e)) in
    record { inside = low; free = both.0; before = both.1 }
