-- The prefix of the label that a word lists, read from the word as the boundary shows it and from the stored entry. Assumes nothing.
use Rattle.std.specs.Prelude.{Result, Ok, Err}
use Prim.Native.Nat.{ℕ, ◌/◌, ◌%◌, ◌<◌}
use mathlib.Core.Bool.{true, false, true≢false}
use mathlib.Core.List.{List}
use mathlib.Core.Logic.{◌≢◌}
use mathlib.Core.Path.{◌≡◌, refl, sym, ◌∙◌}
use native.Mathlib.Omega.{arith}
use lib.Dec.{ltb}
use lib.ListN.{length, get_or, get_or-eq_default}
use borrow.Author.Tests.{ne_eqb, ltb-true, ltb-false}
use Rattle.octets.specs.Pick.{pick}
use Rattle.octets.proofs.Choice.{by_test}
use Rattle.label_list.specs.Word.{lists_label, on_side, word_count}
use Rattle.label_list.proofs.Counting.{counting-length}
use Rattle.word_block.specs.Layout.{place_count}
use Rattle.fec_index.specs.Entries.{word_span}
use Rattle.fec_index.proofs.Counted.{listed_at}
use Rattle.image.specs.declared.ImageFault.{ImageFault}
use Rattle.image.specs.Sizes.{image_size}
use Rattle.image.specs.State.{decode, stored_index}
use Rattle.image.specs.Verdict.{verdict}
use Rattle.image.proofs.Ranges.{labels-count}
use Rattle.image.proofs.Sound.{sound_parts}
use Rattle.image_numbers.specs.declared.PrefixNumbers.{PrefixNumbers}
use Rattle.image_numbers.specs.Stored.{label_at, label_by, no_prefix, prefix_at, prefix_by, refused_number}

-- the entry that counts at a place
index_at : (im : List ℕ) (place : ℕ) → get_or (decode im).index place 0 ≡ pick (lists_label (get_or (decode im).labels place 0)) (get_or (stored_index im) place 0) 0
unfolding decode
index_at im place = listed_at (decode im).labels (stored_index im) place

-- a refusal lists no label
refused_lists : lists_label refused_number ≡ false
unfolding lists_label on_side
refused_lists = refl

index_past : (im : List ℕ) (place : ℕ) → ltb place word_count ≡ false → get_or (decode im).index place 0 ≡ 0
unfolding decode
index_past im place f =
    get_or-eq_default (decode im).index 0 {n = place} (omega (arith, counting-length 0 lists_label (decode im).labels (stored_index im), labels-count im, ltb-false place word_count f))

module _ (im : List ℕ) (place : ℕ) {w : ℕ} (shown : w ≡ label_at im place) where
  pub prefix_none : lists_label w ≡ false → no_prefix ≡ prefix_at im place
  unfolding label_at prefix_at
  prefix_none n = by (verdict im) (rw shown at n)
    where
      by : (v : Result Unit ImageFault) → lists_label (label_by v (decode im).labels place) ≡ false → no_prefix ≡ prefix_by v (decode im).index place
      by (Ok tt) f =
          by_test (ltb place word_count)
          (λ t. let none : lists_label (get_or (decode im).labels place 0) ≡ false = rw t at f in
          let zero : get_or (decode im).index place 0 ≡ 0 = index_at im place ∙ rw none in rw zero)
          (λ past. rw (index_past im place past))
      by (Err ImageFault.WrongSize) f = refl
      by (Err (ImageFault.BadBlock b)) f = refl
      by (Err (ImageFault.BadField b)) f = refl

  module _ (lists : lists_label w ≡ true) where
    -- no refusal is shown so
    parts : (verdict im ≡ Ok tt) × (place < word_count) × (lists_label (get_or (decode im).labels place 0) ≡ true)
    unfolding label_at
    parts = by (verdict im) refl (rw shown at lists)
      where
        by : (v : Result Unit ImageFault) → verdict im ≡ v → lists_label (label_by v (decode im).labels place) ≡ true
            → (verdict im ≡ Ok tt) × (place < word_count) × (lists_label (get_or (decode im).labels place 0) ≡ true)
        by (Ok tt) e t =
            by_test (ltb place word_count)
            (λ y. (e, ltb-true place word_count y, rw y at t))
            (λ n. absurd (true≢false (sym (rw n at t) ∙ refused_lists)))
        by (Err ImageFault.WrongSize) e t = absurd (true≢false (sym t ∙ refused_lists))
        by (Err (ImageFault.BadBlock b)) e t = absurd (true≢false (sym t ∙ refused_lists))
        by (Err (ImageFault.BadField b)) e t = absurd (true≢false (sym t ∙ refused_lists))

    pub prefix_fits : (length im ≡ image_size) × (place < place_count)
    prefix_fits = ((sound_parts im parts.0).size, omega (arith, parts.1))

    module _ {entry : ℕ} (read : entry ≡ get_or (stored_index im) place 0) where
      counts : get_or (decode im).index place 0 ≡ entry
      counts = index_at im place ∙ rw parts.2 (sym read)

      pub prefix_other : entry ≡ 0 → no_prefix ≡ prefix_at im place
      unfolding prefix_at
      prefix_other z = rw (parts.0, counts, z)

      pub prefix_read : entry ≢ 0 → ◌≡◌ {A = PrefixNumbers} (record { indexed = 1; length = entry / word_span / 65536 % 256; prefix = entry % word_span }) (prefix_at im place)
      unfolding prefix_at
      prefix_read some = rw (parts.0, counts, ne_eqb entry 0 some)
