-- Validity means what it says: `valid_of` holds exactly if `IsValid` does. Assumes nothing.
use Prim.Native.Nat.{ℕ, zero, suc, ◌*◌, ◌≤◌, ◌<◌}
use mathlib.Core.Bool.{Bool, true, false, not, false≢true, true≢false}
use mathlib.Core.List.{List, [], ◌∷◌}
use mathlib.Core.Logic.{◌≢◌, ◌⊎◌, inl, inr, ⊎_elim}
use mathlib.Core.Path.{◌≡◌, refl, sym, ap, ◌∙◌}
use native.Mathlib.Omega.{arith}
use lib.Dec.{eqb, leb}
use lib.ListN.{get_or}
use borrow.Author.Tests.{eqb-true, eqb-false, ne_eqb, leb-true}
use Rattle.octets.specs.Pick.{pick, both}
use Rattle.octets.proofs.Choice.{by_test, both_true}
use Rattle.label_list.specs.declared.Side.{Side}
use Rattle.label_list.specs.declared.Side.TheVariants.{Given, Used}
use Rattle.label_list.specs.Find.{any}
use Rattle.label_list.specs.Valid.{absent, stands_once, valid_word, valid_of}
use Rattle.label_list.specs.Word.{label_count, label_of, code_of, is_free, on_side, request_word, is_request, stands_for}
use Rattle.label_list.proofs.Checked.{word_free, word_request, word_given, word_used}
use Rattle.label_list.proofs.Standing.{side-listed, one_side, stands_parts, parts_stands, free_stands, request_stands, side_low}
use Rattle.label_meaning.specs.Valid.{WordInRange, IsValid}

-- No word passes a test exactly if none does at any index.
pick_none : (b r : Bool) → pick b true r ≡ false → (b ≡ false) × (r ≡ false)
pick_none true r e = absurd (true≢false e)
pick_none false r e = (refl, e)

pub any_none : (test : ℕ → Bool) (words : List ℕ) → any test words ≡ false → test 0 ≡ false → (i : ℕ) → test (get_or words i 0) ≡ false
unfolding any
any_none test [] e z i = z
any_none test (w ∷ ws) e z zero = (pick_none (test w) (any test ws) e).0
any_none test (w ∷ ws) e z (suc i) = any_none test ws (pick_none (test w) (any test ws) e).1 z i

none_any : (test : ℕ → Bool) (words : List ℕ) → ((i : ℕ) → test (get_or words i 0) ≡ false) → any test words ≡ false
unfolding any
none_any test [] h = refl
none_any test (w ∷ ws) h = rw (h 0) (none_any test ws (λ i. h (suc i)))

-- A word stands for one label, on one side.
pub stands_same : (s t : Side) (l k w : ℕ) → stands_for s l w ≡ true → stands_for t k w ≡ true → (s ≡ t) × (l ≡ k)
stands_same s t l k w p q =
    let first : (on_side s (code_of w) ≡ true) × (label_of w ≡ l) = stands_parts s l w p in
    let second : (on_side t (code_of w) ≡ true) × (label_of w ≡ k) = stands_parts t k w q in
    (one_side s t (code_of w) first.0 second.0, sym first.1 ∙ second.1)

-- A listed word has not code 0.
pub range_listed : {w : ℕ} → WordInRange w → code_of w ≢ 0
range_listed {w} range = side-listed range.side (code_of w) range.on

-- What the check of one word says, where the word is listed.
record Stands (w : ℕ) (later : List ℕ) : Type 0 where
  pub range : WordInRange w
  pub alone : any (stands_for range.side (label_of w)) later ≡ false

not-any : (b : Bool) → not b ≡ true → b ≡ false
not-any true e = absurd (false≢true e)
not-any false e = refl

once_stands : (w : ℕ) (later : List ℕ) (b : Bool) → on_side Given (code_of w) ≡ b → 16 ≤ label_of w
    → pick b (absent Given (label_of w) later) (both (on_side Used (code_of w)) (absent Used (label_of w) later)) ≡ true → Stands w later
once_stands w later true on high e = record { range = record { label = high; side = Given; on = on }; alone = not-any _ e }
once_stands w later false on high e =
    let parts : (on_side Used (code_of w) ≡ true) × (absent Used (label_of w) later ≡ true) = both_true (on_side Used (code_of w)) (absent Used (label_of w) later) e in
    record { range = record { label = high; side = Used; on = parts.0 }; alone = not-any _ parts.1 }

word_stands : (w : ℕ) (later : List ℕ) → valid_word w later ≡ true → w ≢ 0 → w ≢ request_word → Stands w later
unfolding valid_word is_free is_request
word_stands w later e listed label =
    let parts : (leb 16 (label_of w) ≡ true) × (stands_once (label_of w) (code_of w) later ≡ true) =
    both_true (leb 16 (label_of w)) (stands_once (label_of w) (code_of w) later) (rw (ne_eqb w 0 listed, ne_eqb w request_word label) at e) in
    once_stands w later (on_side Given (code_of w)) refl (leb-true 16 (label_of w) parts.0) parts.1

-- A listed word does not stand again later.
stands_alone : (w : ℕ) (later : List ℕ) → Stands w later → (s : Side) (l j : ℕ) → stands_for s l w ≡ true → stands_for s l (get_or later j 0) ≡ true → ⊥
stands_alone w later st s l j p q =
    let t : Side = st.range.side in
    let same : (s ≡ t) × (l ≡ label_of w) = stands_same s t l (label_of w) w p (parts_stands t (label_of w) w st.range.on refl) in
    let none : stands_for t (label_of w) (get_or later j 0) ≡ false = any_none (stands_for t (label_of w)) later st.alone (free_stands t (label_of w)) j in
    true≢false (sym (rw (same.0, same.1) at q) ∙ none)

-- A word that lists a label is neither free nor an open Request's.
pub listed_word : (s : Side) (l w : ℕ) → stands_for s l w ≡ true → w ≢ 0
listed_word s l w e z = true≢false (sym e ∙ rw z (free_stands s l))

pub label_word : (s : Side) (l w : ℕ) → stands_for s l w ≡ true → w ≢ request_word
label_word s l w e r = true≢false (sym e ∙ request_stands s l w r)

-- So in a valid list it has its label and code in range.
pub stands_range : {words : List ℕ} → IsValid words → (s : Side) (l i : ℕ) → stands_for s l (get_or words i 0) ≡ true → WordInRange (get_or words i 0)
stands_range {words} v s l i e =
    ⊎_elim
    (λ (r : get_or words i 0 ≡ request_word). absurd (label_word s l (get_or words i 0) e r))
    (λ (range : WordInRange (get_or words i 0)). range)
    (v.each i (listed_word s l (get_or words i 0) e))

-- A code of some side that is not one of a label given is one of a label used.
unless_given : (s : Side) (c : ℕ) → on_side s c ≡ true → on_side Given c ≡ false → on_side Used c ≡ true
unless_given Given c on off = absurd (true≢false (sym on ∙ off))
unless_given Used c on off = on

suc_same : {i j : ℕ} → suc i ≡ suc j → i ≡ j
suc_same e = omega arith

-- One word more.
module _ (w : ℕ) (ws : List ℕ) where
  cons_each : valid_word w ws ≡ true → IsValid ws → (i : ℕ) → get_or (w ∷ ws) i 0 ≢ 0 → (get_or (w ∷ ws) i 0 ≡ request_word) ⊎ WordInRange (get_or (w ∷ ws) i 0)
  cons_each e v zero h = by_test (eqb w request_word) (λ r. inl (eqb-true w request_word r)) (λ r. inr (word_stands w ws e h (eqb-false w request_word r)).range)
  cons_each e v (suc i) h = v.each i h

  head_stands : (s : Side) (l : ℕ) → valid_word w ws ≡ true → stands_for s l w ≡ true → Stands w ws
  head_stands s l e p = word_stands w ws e (listed_word s l w p) (label_word s l w p)

  cons_once : valid_word w ws ≡ true → IsValid ws → (s : Side) (l i j : ℕ) → stands_for s l (get_or (w ∷ ws) i 0) ≡ true → stands_for s l (get_or (w ∷ ws) j 0) ≡ true → i ≡ j
  cons_once e v s l zero zero p q = refl
  cons_once e v s l zero (suc j) p q = absurd (stands_alone w ws (head_stands s l e p) s l j p q)
  cons_once e v s l (suc i) zero p q = absurd (stands_alone w ws (head_stands s l e q) s l i q p)
  cons_once e v s l (suc i) (suc j) p q = ap suc (v.once s l i j p q)

  -- and the other way
  tail_valid : IsValid (w ∷ ws) → IsValid ws
  tail_valid v = record { each = λ i h. v.each (suc i) h; once = λ s l i j p q. suc_same (v.once s l (suc i) (suc j) p q) }

  later-absent : IsValid (w ∷ ws) → (s : Side) → on_side s (code_of w) ≡ true → true ≡ absent s (label_of w) ws
  later-absent v s on =
      sym (ap not (none_any (stands_for s (label_of w)) ws (λ j.
      by_test
      (stands_for s (label_of w) (get_or ws j 0))
      (λ p. let z : zero ≡ suc j = v.once s (label_of w) zero (suc j) (parts_stands s (label_of w) w on refl) p in absurd (omega arith))
      (λ p. p))))

  head_valid : IsValid (w ∷ ws) → true ≡ valid_word w ws
  head_valid v =
      by_test
      (eqb w 0)
      (λ z. word_free w ws (eqb-true w 0 z))
      (λ z.
      let listed : w ≢ 0 = eqb-false w 0 z in
      by_test
      (eqb w request_word)
      (λ r. word_request w ws listed (eqb-true w request_word r))
      (λ r.
      let label : w ≢ request_word = eqb-false w request_word r in
      let range : WordInRange w = ⊎_elim (λ (same : w ≡ request_word). absurd (label same)) (λ (x : WordInRange w). x) (v.each 0 listed) in
      by_test
      (on_side Given (code_of w))
      (λ on. later-absent v Given on ∙ word_given w ws listed label range.label on)
      (λ off.
      let on : on_side Used (code_of w) ≡ true = unless_given range.side (code_of w) range.on off in
      later-absent v Used on ∙ word_used w ws listed label range.label off on)))

-- every word but 0 and an open Request's has a label from 16 up and a code of a side, and two indices that list one label on one side are one
pub valid_means : (words : List ℕ) → valid_of words ≡ true → IsValid words
unfolding valid_of
valid_means [] e = record { each = λ i h. absurd (h refl); once = λ side label i j p q. absurd (true≢false (sym p ∙ free_stands side label)) }
valid_means (w ∷ ws) e =
    let parts : (valid_word w ws ≡ true) × (valid_of ws ≡ true) = both_true (valid_word w ws) (valid_of ws) e in
    let rest : IsValid ws = valid_means ws parts.1 in
    record { each = cons_each w ws parts.0 rest; once = cons_once w ws parts.0 rest }

-- and exactly then it is valid
pub means_valid : (words : List ℕ) → IsValid words → valid_of words ≡ true
unfolding valid_of
means_valid [] v = refl
means_valid (w ∷ ws) v = rw (← head_valid w ws v) (means_valid ws (tail_valid w ws v))

-- Every word of a valid list is below 10 x 1,048,576, so it has 32 bits.
pub valid_range : {words : List ℕ} → IsValid words → (i : ℕ) → get_or words i 0 < 10 * label_count
valid_range {words} v i =
    by_test
    (eqb (get_or words i 0) 0)
    (λ z. omega (arith, eqb-true (get_or words i 0) 0 z))
    (λ z.
    ⊎_elim
    (λ (r : get_or words i 0 ≡ request_word). omega arith)
    (λ (range : WordInRange (get_or words i 0)). omega (arith, side_low range.side (code_of (get_or words i 0)) range.on))
    (v.each i (eqb-false (get_or words i 0) 0 z)))
