-- What a stored image holds, as the boundary shows it. Assumes nothing.
use Rattle.std.specs.Prelude.{Result, Ok, Err}
use Prim.Native.Nat.{ℕ, ◌+◌, ◌≤◌, ◌<◌}
use mathlib.Core.List.{List, [], ◌++◌}
use mathlib.Core.Path.{◌≡◌, refl, sym, ◌∙◌}
use native.Mathlib.Omega.{arith}
use lib.Dec.{ltb}
use lib.ListN.{length, get_or, drop}
use borrow.Author.Tests.{eq-eqb, ne_eqb, lt-ltb, le-ltb, ltb-true}
use Rattle.octets.proofs.Choice.{by_test}
use Rattle.label_list.specs.Find.{listed_count}
use Rattle.label_list.specs.Word.{word_count}
use Rattle.block0.specs.declared.Header.{Header}
use Rattle.image.specs.declared.Counts.{Counts}
use Rattle.image.specs.declared.ImageFault.{ImageFault}
use Rattle.image.specs.Counts.{counts_of}
use Rattle.image.specs.Sizes.{block_count, image_size}
use Rattle.image.specs.State.{decode, held_start}
use Rattle.image.specs.Verdict.{verdict, verdict_number, verdict_block, IsSound}
use Rattle.image.proofs.Counted.{listed_few}
use Rattle.image.proofs.Queue.{held-part, held_inside}
use Rattle.image.proofs.Scans.{number-passes, verdict_below}
use Rattle.image.proofs.Sound.{sound_parts}
use Rattle.message_numbers.specs.declared.PartNumbers.{PartNumbers}
use Rattle.message_numbers.specs.Reading.{no_part_for}
use Rattle.image_numbers.specs.declared.SummaryNumbers.{SummaryNumbers}
use Rattle.image_numbers.specs.Contents.{refused_summary, whole_summary, summary_of, words_shown, words_refused, words_of, held_by, held_of, ShowsHeld}

-- the label words counted are those of a list of 119
pub labels_low : (im : List ℕ) {c : Counts} → c ≡ counts_of (decode im) → c.labels ≤ word_count
unfolding counts_of
labels_low im e = rw e (listed_few im)

pub count_low : (im : List ℕ) {ls : List ℕ} {k : ℕ} → ls ≡ (decode im).labels → k ≡ listed_count ls → k ≤ word_count
count_low im e ek = rw (ek, e) (listed_few im)

-- ---- by what the checks answered: v, and its number n
module _ (im : List ℕ) {v : Result Unit ImageFault} {n : ℕ} (ev : v ≡ verdict im) (en : n ≡ verdict_number v) where
  -- the block that they name is one of the image
  pub named_low : {b : ℕ} → b ≡ verdict_block v → b < block_count
  named_low e = rw (e, ev) (verdict_below im)

  pub contents_sound : n ≡ 0 → IsSound im
  contents_sound z = sound_parts im (number-passes im ev en z)

  pub summary_refused : (n ≡ 0 → ⊥) → {b : ℕ} → b ≡ verdict_block v → {r : SummaryNumbers} → r ≡ refused_summary n b → r ≡ summary_of im
  unfolding summary_of
  summary_refused h eb e = e ∙ rw (← ev, ← en, ne_eqb n 0 h, eb)

  pub summary_shown : n ≡ 0 → {h : Header} {c : Counts} → h ≡ (decode im).header → c ≡ counts_of (decode im) → {r : SummaryNumbers} → r ≡ whole_summary h c
      → r ≡ summary_of im
  unfolding summary_of
  summary_shown z eh ec e = e ∙ rw (← ev, ← en, eq-eqb n 0 z, eh, ec)

  module _ (ws : List ℕ) where
    pub words_refused_lem : (n ≡ 0 → ⊥) → {b : ℕ} → b ≡ verdict_block v → words_refused n b ws ≡ words_of im ws
    unfolding words_of
    words_refused_lem h eb = rw (← ev, ← en, ne_eqb n 0 h, eb)

    pub words-short : n ≡ 0 → length ws < word_count → words_refused 9 0 ws ≡ words_of im ws
    unfolding words_of
    words-short z l = rw (← ev, ← en, eq-eqb n 0 z, lt-ltb (length ws) word_count l)

    pub words-listed : n ≡ 0 → word_count ≤ length ws → {ls : List ℕ} {k : ℕ} → ls ≡ (decode im).labels → k ≡ listed_count ls
        → words_shown (record { answer = 0; block = 0; count = k }) (ls ++ drop word_count ws) ≡ words_of im ws
    unfolding words_of
    words-listed z l e ek = rw (← ev, ← en, eq-eqb n 0 z, le-ltb (length ws) word_count l, ek, e)

  pub held_refused : (place : ℕ) → (n ≡ 0 → ⊥) → {r : PartNumbers} → r ≡ no_part_for n → r ≡ held_of im place
  unfolding held_of
  held_refused place h e = e ∙ rw (← ev, ← en, ne_eqb n 0 h)

  -- by block 0 as it was read
  module _ (place : ℕ) (z : n ≡ 0) {h : Header} (eh : h ≡ (decode im).header) where
    pub held_none : h.held ≤ place → {r : PartNumbers} → r ≡ no_part_for 8 → r ≡ held_of im place
    unfolding held_of
    held_none l e = e ∙ rw (← ev, ← en, eq-eqb n 0 z, ← eh, le-ltb place h.held l)

    pub held-live : place < h.held → IsSound im × (place < (decode im).header.held)
    held-live l = (contents_sound z, rw (← eh) l)

    module _ (l : place < h.held) {start : ℕ} {m : List ℕ} (es : start ≡ held_start im place) (em : m ≡ get_or (decode im).queue place []) where
      pub held_low : start + length m ≤ image_size
      held_low = let p = held-live l in rw (es, em, ← p.0.size) (held_inside im p.0 place p.1)

      pub held-shown : ◌≡◌ {A = PartNumbers} (record { answer = 0; start = start; end = start + length m }) (held_of im place)
      unfolding held_of
      held-shown = rw (es, em, ← ev, ← en, eq-eqb n 0 z, ← eh, lt-ltb place h.held l)

-- ---- what is answered with 0 is the message held at that place
shows_none : (im : List ℕ) (place answer : ℕ) → (answer ≡ 0 → ⊥) → ShowsHeld im place (no_part_for answer)
shows_none im place answer n = record { message = λ z. absurd (n z); inside = λ z. absurd (n z) }

shows_by : (v : Result Unit ImageFault) (im : List ℕ) (place : ℕ) → v ≡ verdict im → ShowsHeld im place (held_by v im place)
shows_by (Ok tt) im place e =
    by_test (ltb place (decode im).header.held)
    (λ t.
    let s : IsSound im = sound_parts im (sym e) in
    let l : place < (decode im).header.held = ltb-true place (decode im).header.held t in
    rw t (record { message = λ z. held-part im s place l; inside = λ z. held_inside im s place l }))
    (λ f. rw f (shows_none im place 8 (λ z. omega (arith, z))))
shows_by (Err ImageFault.WrongSize) im place e = shows_none im place 12 (λ z. omega (arith, z))
shows_by (Err (ImageFault.BadBlock b)) im place e = shows_none im place 10 (λ z. omega (arith, z))
shows_by (Err (ImageFault.BadField b)) im place e = shows_none im place 11 (λ z. omega (arith, z))

pub shows_held : (im : List ℕ) (place : ℕ) → ShowsHeld im place (held_of im place)
unfolding held_of
shows_held im place = shows_by (verdict im) im place refl
