-- A word that lists no label becomes another that lists none: a Request is asked, or ended. The list stays valid and no label's code changes. Assumes nothing.
use Rattle.std.specs.Prelude.{Option, Some, None}
use Prim.Native.Nat.{ℕ, ◌<◌}
use mathlib.Core.Bool.{false, true, true≢false}
use mathlib.Core.List.{List}
use mathlib.Core.Logic.{◌≢◌, ◌⊎◌, inl, inr, ⊎_elim}
use mathlib.Core.Path.{◌≡◌, refl, sym, ◌∙◌}
use lib.ListN.{length, get_or, set}
use lib.Seq.{get_or-set_other}
use Rattle.octets.proofs.Choice.{by_test}
use Rattle.label_list.specs.declared.Side.{Side}
use Rattle.label_list.specs.Find.{find_of}
use Rattle.label_list.specs.Word.{is_free, request_word, is_request, stands_for}
use Rattle.label_list.proofs.OpenIds.{request_inside}
use Rattle.label_list.proofs.Standing.{free_stands, request_stands, request_word_lem}
use Rattle.label_events.specs.Change.{code_at, take_free, changed}
use Rattle.label_events.specs.Requests.{asked_change, ended_at}
use Rattle.label_meaning.specs.Valid.{WordInRange, IsValid}
use Rattle.label_meaning.specs.View.{CodeIs, listed, absent, Effect}
use Rattle.label_meaning.proofs.Effect.{at-index, FreeAt, free_first}
use Rattle.label_meaning.proofs.View.{code_is, is_code}

-- No label's code changes.
pub record LabelsStay (before after : List ℕ) : Type 0 where
  pub valid : IsValid after
  pub codes : (s : Side) (l c : ℕ) → CodeIs before s l c → CodeIs after s l c

pub stay_same : {words : List ℕ} → IsValid words → LabelsStay words words
stay_same v = record { valid = v; codes = λ s l c code. code }

pub stay_code : {before after : List ℕ} → LabelsStay before after → (s : Side) (l : ℕ) → code_at after s l ≡ code_at before s l
stay_code {before} {after} x s l = is_code after s l x.valid (x.codes s l (code_at before s l) (code_is before s l))

-- then an event has the effect that it has of the list afterwards
pub stay_effect : {before mid after : List ℕ} {s : Side} {l c : ℕ} → LabelsStay before mid → Effect mid after s l c → Effect before after s l c
stay_effect x e = record { valid = e.valid; there = e.there; elsewhere = λ t k d other code. e.elsewhere t k d other (x.codes t k d code) }

-- A free word, or an open Request's.
abbrev Unlisted : ℕ → Type 0
Unlisted w = (w ≡ 0) ⊎ (w ≡ request_word)

unlisted_stands : {w : ℕ} → Unlisted w → (s : Side) (l : ℕ) → stands_for s l w ≡ false
unlisted_stands {w} u s l = ⊎_elim (λ (z : w ≡ 0). rw z (free_stands s l)) (λ (r : w ≡ request_word). request_stands s l w r) u

module _ (words : List ℕ) (v : IsValid words) (i w : ℕ) (inside : i < length words) (was : Unlisted (get_or words i 0)) (new : Unlisted w) where
  at : (P : ℕ → Type 0) (j : ℕ) → (j ≡ i → P w) → (j ≢ i → P (get_or words j 0)) → P (get_or (set words i w) j 0)
  at = at-index words i w inside

  set_each : (j : ℕ) → get_or (set words i w) j 0 ≢ 0 → (get_or (set words i w) j 0 ≡ request_word) ⊎ WordInRange (get_or (set words i w) j 0)
  set_each j =
      at
      (λ (x : ℕ). x ≢ 0 → (x ≡ request_word) ⊎ WordInRange x)
      j
      (λ e h. ⊎_elim (λ (z : w ≡ 0). absurd (h z)) (λ (r : w ≡ request_word). inl r) new)
      (λ e h. v.each j h)

  -- what stands for a label stood for it
  set_back : (s : Side) (l j : ℕ) → stands_for s l (get_or (set words i w) j 0) ≡ true → stands_for s l (get_or words j 0) ≡ true
  set_back s l j =
      at
      (λ (x : ℕ). stands_for s l x ≡ true → stands_for s l (get_or words j 0) ≡ true)
      j
      (λ e p. absurd (true≢false (sym p ∙ unlisted_stands new s l)))
      (λ e p. p)

  set_code : (s : Side) (l c : ℕ) → CodeIs words s l c → CodeIs (set words i w) s l c
  set_code s l c (listed j p) =
      let apart : j ≢ i = λ e. true≢false (sym (rw e at p) ∙ unlisted_stands was s l) in
      let same : get_or (set words i w) j 0 ≡ get_or words j 0 = get_or-set_other words i j w 0 apart in
      rw (← same) (listed j (rw same p))
  set_code s l c (absent p) =
      absent (λ j. by_test (stands_for s l (get_or (set words i w) j 0)) (λ q. absurd (true≢false (sym (set_back s l j q) ∙ p j))) (λ q. q))

  unlisted_stays : LabelsStay words (set words i w)
  unlisted_stays =
      record {
        valid = record { each = set_each; once = λ s l j k p q. v.once s l j k (set_back s l j p) (set_back s l k q) };
        codes = set_code;
      }

module _ (words : List ℕ) (v : IsValid words) where
  -- a Request has ended, or none was open there
  pub ended_stays : (request : Option ℕ) → LabelsStay words (ended_at request words)
  unfolding ended_at
  ended_stays (Some i) =
      by_test
      (is_request (get_or words i 0))
      (λ t. rw t (unlisted_stays words v i 0 (request_inside words i t) (inr (request_word_lem (get_or words i 0) t)) (inl refl)))
      (λ f. rw f (stay_same v))
  ended_stays None = stay_same v

  -- a Request is asked, or no word is free
  asked-at : (g : Option ℕ) → FreeAt words g → LabelsStay words (changed words (take_free g request_word))
  unfolding changed
  asked-at (Some i) free = unlisted_stays words v i request_word free.0 (inl free.1) (inr refl)
  asked-at None free = stay_same v

  pub asked_stays : LabelsStay words (changed words (asked_change words))
  asked_stays = asked-at (find_of is_free words) (free_first words (find_of is_free words) refl)
