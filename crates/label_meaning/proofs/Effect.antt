-- A change that writes one label's word keeps the list valid, gives that label its code and leaves every other. Assumes nothing.
use Rattle.std.specs.Prelude.{Option, Some, None}
use Prim.Native.Nat.{ℕ, ◌+◌, ◌*◌, ◌≤◌, ◌<◌}
use mathlib.Core.Bool.{Bool, true, false, true≢false}
use mathlib.Core.List.{List}
use mathlib.Core.Logic.{◌≢◌, ◌⊎◌, inl, inr, ⊎_elim}
use mathlib.Core.Path.{◌≡◌, refl, sym, ◌∙◌}
use native.Mathlib.Omega.{arith}
use lib.Dec.{eqb}
use lib.ListN.{length, get_or, set, length-set}
use lib.Seq.{get_or-set_same, get_or-set_other}
use borrow.Author.Tests.{eqb-true, eqb-false, eq-eqb, ne_eqb}
use Rattle.octets.proofs.Choice.{by_test}
use Rattle.label_list.specs.declared.Side.{Side}
use Rattle.label_list.specs.Find.{find_of}
use Rattle.label_list.specs.Word.{label_count, label_of, code_of, word_of, is_free, on_side, request_word, stands_for}
use Rattle.label_list.proofs.Reached.{found_in_lem, found_place, found_passes}
use Rattle.label_list.proofs.Standing.{side-listed, stands_parts, parts_stands, free_stands}
use Rattle.label_events.specs.declared.Change.TheVariants.{NoRoom}
use Rattle.label_events.specs.Change.{take_free, change_at, move_to, placed_at, change_with, changed}
use Rattle.label_meaning.specs.Valid.{WordInRange, IsValid}
use Rattle.label_meaning.specs.View.{CodeIs, listed, absent, Effect}
use Rattle.label_meaning.proofs.Meaning.{stands_same}
use Rattle.label_meaning.proofs.Proper.{Proper}
use Rattle.label_meaning.proofs.View.{found_none}

-- A word that may be written for a label under a code: free for code 0, else one that lists it under that code.
pub record Lists (s : Side) (l c w : ℕ) : Type 0 where
  pub stands : stands_for s l w ≡ true
  pub code : code_of w ≡ c
  pub range : WordInRange w

abbrev pub Written : Side → ℕ → ℕ → ℕ → Type 0
Written s l c w = ((w ≡ 0) × (c ≡ 0)) ⊎ Lists s l c w

pub word_written : (s : Side) (l c : ℕ) → 16 ≤ l → l < label_count → Proper s c → Written s l c (word_of l c)
unfolding word_of
word_written s l c low high =
    ⊎_elim
    (λ (z : c ≡ 0). inl (rw (eq-eqb c 0 z), z))
    (λ (on : on_side s c ≡ true).
    let listed : c ≢ 0 = side-listed s c on in
    let label : label_of (l + label_count * c) ≡ l = omega arith in
    let code : code_of (l + label_count * c) ≡ c = omega arith in
    inr (rw (ne_eqb c 0 listed)
    (record {
      stands = parts_stands s l (l + label_count * c) (rw code on) label;
      code = code;
      range = record { label = omega arith; side = s; on = rw code on };
    })))

-- A list with one word another, by index.
pub at-index : (words : List ℕ) (i w : ℕ) → i < length words → (P : ℕ → Type 0) (j : ℕ) → (j ≡ i → P w) → (j ≢ i → P (get_or words j 0)) → P (get_or (set words i w) j 0)
at-index words i w inside P j here there =
    by_test
    (eqb j i)
    (λ e. let same : j ≡ i = eqb-true j i e in rw (same, get_or-set_same words i w 0 inside) (here same))
    (λ e. let apart : j ≢ i = eqb-false j i e in rw (get_or-set_other words i j w 0 apart) (there apart))

-- One word is written, at an index where a free word or one for that label stood.
module _ (words : List ℕ) (v : IsValid words) (s : Side) (l c i w : ℕ) (inside : i < length words)
    (was : (get_or words i 0 ≡ 0) ⊎ (stands_for s l (get_or words i 0) ≡ true))
    (alone : (j : ℕ) → stands_for s l (get_or words j 0) ≡ true → j ≡ i)
    (written : Written s l c w) where
  at : (P : ℕ → Type 0) (j : ℕ) → (j ≡ i → P w) → (j ≢ i → P (get_or words j 0)) → P (get_or (set words i w) j 0)
  at = at-index words i w inside

  -- the word written stands for nothing else
  only : (t : Side) (k : ℕ) → stands_for t k w ≡ true → (t ≡ s) × (k ≡ l)
  only t k p =
      ⊎_elim
      (λ (z : (w ≡ 0) × (c ≡ 0)). absurd (true≢false (sym p ∙ rw z.0 (free_stands t k))))
      (λ (new : Lists s l c w). stands_same t s k l w p new.stands)
      written

  -- nor did the word that it replaced
  was_only : (t : Side) (k : ℕ) → stands_for t k (get_or words i 0) ≡ true → (t ≡ s) × (k ≡ l)
  was_only t k p =
      ⊎_elim
      (λ (z : get_or words i 0 ≡ 0). absurd (true≢false (sym p ∙ rw z (free_stands t k))))
      (λ (q : stands_for s l (get_or words i 0) ≡ true). stands_same t s k l (get_or words i 0) p q)
      was

  after_each : (j : ℕ) → get_or (set words i w) j 0 ≢ 0 → (get_or (set words i w) j 0 ≡ request_word) ⊎ WordInRange (get_or (set words i w) j 0)
  after_each j =
      at
      (λ (x : ℕ). x ≢ 0 → (x ≡ request_word) ⊎ WordInRange x)
      j
      (λ e h. ⊎_elim (λ (z : (w ≡ 0) × (c ≡ 0)). absurd (h z.0)) (λ (new : Lists s l c w). inr new.range) written)
      (λ e h. v.each j h)

  after_once : (t : Side) (k j m : ℕ) → stands_for t k (get_or (set words i w) j 0) ≡ true → stands_for t k (get_or (set words i w) m 0) ≡ true → j ≡ m
  after_once t k j m =
      at
      (λ (x : ℕ). stands_for t k x ≡ true → stands_for t k (get_or (set words i w) m 0) ≡ true → j ≡ m)
      j
      (λ e p. at
      (λ (x : ℕ). stands_for t k x ≡ true → j ≡ m)
      m
      (λ f q. e ∙ sym f)
      (λ f q. let same : (t ≡ s) × (k ≡ l) = only t k p in absurd (f (alone m (rw (same.0, same.1) at q)))))
      (λ e p. at
      (λ (x : ℕ). stands_for t k x ≡ true → j ≡ m)
      m
      (λ f q. let same : (t ≡ s) × (k ≡ l) = only t k q in absurd (e (alone j (rw (same.0, same.1) at p))))
      (λ f q. v.once t k j m p q))

  here : get_or (set words i w) i 0 ≡ w
  here = get_or-set_same words i w 0 inside

  after-there : CodeIs (set words i w) s l c
  after-there =
      ⊎_elim
      (λ (z : (w ≡ 0) × (c ≡ 0)).
      rw z.1
      (absent (λ j. at
      (λ (x : ℕ). stands_for s l x ≡ false)
      j
      (λ e. rw z.0 (free_stands s l))
      (λ e. by_test (stands_for s l (get_or words j 0)) (λ p. absurd (e (alone j p))) (λ p. p)))))
      (λ (new : Lists s l c w).
      let found : CodeIs (set words i w) s l (code_of (get_or (set words i w) i 0)) = listed i (rw here new.stands) in
      rw (here, new.code) at found)
      written

  after_elsewhere : (t : Side) (k d : ℕ) → ((t ≡ s) × (k ≡ l) → ⊥) → CodeIs words t k d → CodeIs (set words i w) t k d
  after_elsewhere t k d other (listed j p) =
      let apart : j ≢ i = λ e. other (was_only t k (rw e at p)) in
      let same : get_or (set words i w) j 0 ≡ get_or words j 0 = get_or-set_other words i j w 0 apart in
      rw (← same) (listed j (rw same p))
  after_elsewhere t k d other (absent p) =
      absent (λ j. at
      (λ (x : ℕ). stands_for t k x ≡ false)
      j
      (λ e. by_test (stands_for t k w) (λ q. absurd (other (only t k q))) (λ q. q))
      (λ e. p j))

  write_effect : Effect words (set words i w) s l c
  write_effect = record { valid = record { each = after_each; once = after_once }; there = after-there; elsewhere = after_elsewhere }

-- A label that is absent stands in no word.
pub absent_means : {words : List ℕ} {s : Side} {l : ℕ} → CodeIs words s l 0 → (j : ℕ) → stands_for s l (get_or words j 0) ≡ false
absent_means {words} {s} {l} x = go x refl
  where
    go : {c : ℕ} → CodeIs words s l c → c ≡ 0 → (j : ℕ) → stands_for s l (get_or words j 0) ≡ false
    go (listed i p) z = absurd (side-listed s (code_of (get_or words i 0)) (stands_parts s l (get_or words i 0) p).0 z)
    go (absent p) z = p

-- Two effects on one label are one.
pub then_effect : {before mid after : List ℕ} {s : Side} {l c d : ℕ} → Effect before mid s l c → Effect mid after s l d → Effect before after s l d
then_effect x y = record { valid = y.valid; there = y.there; elsewhere = λ t k e other code. y.elsewhere t k e other (x.elsewhere t k e other code) }

-- Nothing is written: the label was absent and stays so.
pub keep_effect : (words : List ℕ) → IsValid words → (s : Side) (l c : ℕ) → ((j : ℕ) → stands_for s l (get_or words j 0) ≡ false) → c ≡ 0 → Effect words words s l c
keep_effect words v s l c none z = record { valid = v; there = rw z (absent none); elsewhere = λ t k d other code. code }

pub free_word : (words : List ℕ) {g : Option ℕ} (j : ℕ) → g ≡ find_of is_free words → g ≡ Some j → get_or words j 0 ≡ 0
unfolding is_free
free_word words j e h = eqb-true (get_or words j 0) 0 (found_passes is_free words j e h)

-- The place for a label that needs a word is one of a free word: the first free one is.
abbrev pub FreeAt : List ℕ → Option ℕ → Type 0
FreeAt words (Some j) = (j < length words) × (get_or words j 0 ≡ 0)
FreeAt words None = Unit {0}

pub free_first : (words : List ℕ) (g : Option ℕ) → g ≡ find_of is_free words → FreeAt words g
free_first words (Some j) e = (found_place words (Some j) j (found_in_lem is_free words e) refl, free_word words j e refl)
free_first words None e = tt

module _ (words : List ℕ) (v : IsValid words) (s : Side) (l c : ℕ) (low : 16 ≤ l) (high : l < label_count) (proper : Proper s c) where
  -- an absent label takes the free word
  effect_free : (g : Option ℕ) → find_of (stands_for s l) words ≡ None → FreeAt words g → take_free g (word_of l c) ≢ NoRoom → Effect words (changed words (take_free g (word_of l c))) s l c
  unfolding changed
  effect_free (Some j) e h room =
      write_effect words v s l c j (word_of l c) h.0 (inl h.1)
      (λ k p. absurd (true≢false (sym p ∙ found_none words s l e k))) (word_written s l c low high proper)
  effect_free None e h room = absurd (room refl)

  pub effect_found : (f g : Option ℕ) → f ≡ find_of (stands_for s l) words → FreeAt words g → change_at f g l c ≢ NoRoom → Effect words (changed words (change_at f g l c)) s l c
  unfolding change_at changed
  effect_found (Some i) g e h = λ room.
      let here : stands_for s l (get_or words i 0) ≡ true = found_passes (stands_for s l) words i e refl in
      write_effect words v s l c i (word_of l c) (found_place words (Some i) i (found_in_lem (stands_for s l) words e) refl) (inr here) (λ j p. v.once s l j i p here) (word_written s l c low high proper)
  effect_found None g e h =
      ⊎_elim
      (λ (z : c ≡ 0). rw (eq-eqb c 0 z) (λ room. keep_effect words v s l c (found_none words s l (sym e)) z))
      (λ (on : on_side s c ≡ true).
      let listed : c ≢ 0 = side-listed s c on in
      rw (ne_eqb c 0 listed) (effect_free g (sym e) h))
      proper

  -- a listed label moves into a free word, and its own is free then
  move_effect : (i : ℕ) (g : Option ℕ) → Some i ≡ find_of (stands_for s l) words → FreeAt words g → move_to i g (word_of l c) ≢ NoRoom → Effect words (changed words (move_to i g (word_of l c))) s l c
  unfolding changed
  move_effect i (Some j) e h room =
      let here : stands_for s l (get_or words i 0) ≡ true = found_passes (stands_for s l) words i e refl in
      let inside : i < length words = found_place words (Some i) i (found_in_lem (stands_for s l) words e) refl in
      let left : Effect words (set words i 0) s l 0 = write_effect words v s l 0 i 0 inside (inr here) (λ k p. v.once s l k i p here) (inl (refl, refl)) in
      let free : get_or (set words i 0) j 0 ≡ 0 = at-index words i 0 inside (λ (x : ℕ). x ≡ 0) j (λ same. refl) (λ apart. h.1) in
      then_effect left
      (write_effect (set words i 0) left.valid s l c j (word_of l c) (rw (length-set words i 0) h.0) (inl free)
      (λ k p. absurd (true≢false (sym p ∙ absent_means left.there k))) (word_written s l c low high proper))
  move_effect i None e h room = absurd (room refl)

  pub effect_placed : (b : Bool) (f g : Option ℕ) → f ≡ find_of (stands_for s l) words → FreeAt words g → placed_at b f g l c ≢ NoRoom → Effect words (changed words (placed_at b f g l c)) s l c
  unfolding placed_at
  effect_placed true (Some i) g e h = move_effect i g e h
  effect_placed true None g e h = effect_found None g e h
  effect_placed false f g e h = effect_found f g e h

  pub change_effect : (room : Option ℕ) → FreeAt words room → change_with words room s l c ≢ NoRoom → Effect words (changed words (change_with words room s l c)) s l c
  change_effect room free = effect_found (find_of (stands_for s l) words) room refl free
