-- The Request that is open at a place of an image, read from its label word as the boundary shows it. Assumes nothing.
use Rattle.std.specs.Prelude.{Result, Ok, Err}
use Prim.Native.Nat.{ℕ, ◌<◌}
use mathlib.Core.Bool.{true}
use mathlib.Core.List.{List}
use mathlib.Core.Logic.{◌≢◌}
use mathlib.Core.Path.{◌≡◌, refl, sym, ◌∙◌}
use native.Mathlib.Omega.{arith}
use lib.Dec.{ltb}
use lib.ListN.{length, get_or}
use borrow.Author.Tests.{eq-eqb, lt-ltb}
use Rattle.octets.proofs.Choice.{by_test}
use Rattle.label_list.specs.Word.{word_count, request_word, is_request}
use Rattle.label_list.proofs.Counting.{counting-at}
use Rattle.label_list.proofs.OpenIds.{request_inside}
use Rattle.label_list.proofs.Standing.{request_word_lem}
use Rattle.image.specs.declared.ImageFault.{ImageFault}
use Rattle.image.specs.Sizes.{image_size}
use Rattle.image.specs.State.{decode, stored_ids}
use Rattle.image.specs.Verdict.{verdict}
use Rattle.image.proofs.Ranges.{labels-count}
use Rattle.image.proofs.Sound.{sound_parts}
use Rattle.image_numbers.specs.declared.RequestNumbers.{RequestNumbers}
use Rattle.image_numbers.specs.Stored.{label_by, label_at, no_request, request_by, open_request}

-- under an open Request the stored ID counts
pub id-stored : (im : List ℕ) (place : ℕ) → is_request (get_or (decode im).labels place 0) ≡ true → get_or (decode im).ids place 0 ≡ get_or (stored_ids im) place 0
unfolding decode
id-stored im place t = counting-at 0 is_request (decode im).labels (stored_ids im) place t (request_inside (decode im).labels place t)

-- ---- by the word that is shown
module _ (words ids : List ℕ) (place : ℕ) where
  -- it is no Request's
  closed_by : (v : Result Unit ImageFault) → length words ≡ word_count → label_by v words place ≢ request_word → no_request ≡ request_by v words ids place
  closed_by (Ok tt) size n =
      by_test (is_request (get_or words place 0))
      (λ t. absurd (n (rw (lt-ltb place word_count (rw (← size) (request_inside words place t))) (request_word_lem (get_or words place 0) t))))
      (λ f. rw f)
  closed_by (Err ImageFault.WrongSize) size n = refl
  closed_by (Err (ImageFault.BadBlock b)) size n = refl
  closed_by (Err (ImageFault.BadField b)) size n = refl

  -- it is one's: no refusal is shown so
  sound_by : (v : Result Unit ImageFault) → label_by v words place ≡ request_word → (v ≡ Ok tt) × (get_or words place 0 ≡ request_word)
  sound_by (Ok tt) e = (refl, by_test (ltb place word_count) (λ t. rw t at e) (λ f. absurd (omega (arith, rw f at e))))
  sound_by (Err ImageFault.WrongSize) e = absurd (omega (arith, e))
  sound_by (Err (ImageFault.BadBlock b)) e = absurd (omega (arith, e))
  sound_by (Err (ImageFault.BadField b)) e = absurd (omega (arith, e))

module _ (im : List ℕ) (place : ℕ) {w : ℕ} (shown : w ≡ label_at im place) where
  pub request_none : w ≢ request_word → no_request ≡ open_request im place
  unfolding label_at open_request
  request_none n = closed_by (decode im).labels (decode im).ids place (verdict im) (labels-count im) (λ e. n (shown ∙ e))

  module _ (e : w ≡ request_word) where
    parts : (verdict im ≡ Ok tt) × (get_or (decode im).labels place 0 ≡ request_word)
    unfolding label_at
    parts = sound_by (decode im).labels (decode im).ids place (verdict im) (sym shown ∙ e)

    open_here : is_request (get_or (decode im).labels place 0) ≡ true
    unfolding is_request
    open_here = eq-eqb (get_or (decode im).labels place 0) request_word parts.1

    pub request_fits : (length im ≡ image_size) × (place < word_count)
    request_fits = ((sound_parts im parts.0).size, rw (← labels-count im) (request_inside (decode im).labels place open_here))

    pub request_read : {id : ℕ} → id ≡ get_or (stored_ids im) place 0 → ◌≡◌ {A = RequestNumbers} (record { isopen = 1; id = id }) (open_request im place)
    unfolding open_request
    request_read p = rw (parts.0, open_here, p, id-stored im place open_here)
