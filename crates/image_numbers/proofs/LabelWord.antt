-- A label word of an image. Assumes nothing.
use Rattle.std.specs.Prelude.{Result, Ok, Err}
use Prim.Native.Nat.{ℕ, ◌≤◌, ◌<◌}
use mathlib.Core.List.{List}
use mathlib.Core.Path.{◌≡◌, refl, ◌∙◌}
use lib.ListN.{length, get_or}
use borrow.Author.Tests.{lt-ltb, le-ltb}
use Rattle.label_list.specs.Word.{word_count}
use Rattle.image.specs.declared.ImageFault.{ImageFault}
use Rattle.image.specs.Sizes.{image_size}
use Rattle.image.specs.State.{decode}
use Rattle.image.specs.Verdict.{verdict, verdict_number}
use Rattle.image.proofs.Scans.{number-passes}
use Rattle.image.proofs.Sound.{sound_parts}
use Rattle.image_numbers.specs.Stored.{refused_number, label_by, label_at}

refused_by : (v : Result Unit ImageFault) (words : List ℕ) (place : ℕ) → (verdict_number v ≡ 0 → ⊥) → refused_number ≡ label_by v words place
refused_by (Ok tt) words place n = absurd (n refl)
refused_by (Err ImageFault.WrongSize) words place n = refl
refused_by (Err (ImageFault.BadBlock b)) words place n = refl
refused_by (Err (ImageFault.BadField b)) words place n = refl

-- v is what the checks answered, and n its number
module _ (im : List ℕ) (place : ℕ) {v : Result Unit ImageFault} {n : ℕ} (ev : v ≡ verdict im) (en : n ≡ verdict_number v) where
  pub label_refused : (n ≡ 0 → ⊥) → refused_number ≡ label_at im place
  unfolding label_at
  label_refused h = rw (← ev) (refused_by v (decode im).labels place (λ e. h (en ∙ e)))

  pub label_past : n ≡ 0 → word_count ≤ place → refused_number ≡ label_at im place
  unfolding label_at
  label_past z l = rw (number-passes im ev en z, le-ltb place word_count l)

  pub label_size : n ≡ 0 → length im ≡ image_size
  label_size z = (sound_parts im (number-passes im ev en z)).size

  pub label_read : {w : ℕ} → n ≡ 0 → place < word_count → w ≡ get_or (decode im).labels place 0 → w ≡ label_at im place
  unfolding label_at
  label_read z l e = rw (number-passes im ev en z, lt-ltb place word_count l) e
