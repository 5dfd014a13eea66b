-- What a failed connection, a restored image and passed time leave. Assumes nothing.
use Prim.Native.Nat.{ℕ}
use mathlib.Core.Bool.{Bool, true, false}
use mathlib.Core.List.{List, map}
use mathlib.Core.Logic.{◌≢◌, ◌⊎◌, ⊎_elim}
use mathlib.Core.Path.{◌≡◌, refl, sym, ap, ◌∙◌}
use native.Mathlib.Omega.{arith}
use lib.Dec.{eqb}
use lib.ListN.{get_or, length-map, get_or-map}
use lib.Seq.{ext_get_or}
use borrow.Author.Tests.{eq-eqb, ne_eqb, eqb-true, eqb-false, le-leb, lt-leb}
use Rattle.octets.specs.Pick.{pick}
use Rattle.octets.proofs.Choice.{by_test}
use Rattle.label_list.specs.declared.SweepRule.TheVariants.{AfterBreak}
use Rattle.label_list.specs.Rules.{code_swept}
use Rattle.label_list.specs.Sweep.{word_swept, swept_of}
use Rattle.label_list.specs.Word.{code_of, word_of, request_word}
use Rattle.label_meaning.specs.Valid.{WordInRange, IsValid}
use Rattle.label_meaning.proofs.Meaning.{valid_means, range_listed}
use Rattle.protocol.specs.declared.Answer.{Answer}
use Rattle.protocol.specs.declared.Phase.{Phase}
use Rattle.protocol.specs.Begin.{restore}
use Rattle.protocol.specs.ConnectionFailed.{connection_failed}
use Rattle.protocol.specs.Lawful.{Lawful}
use Rattle.protocol.specs.MeaningTimers.{freed, FailedFrom, TimePassed}
use Rattle.protocol.specs.Phases.{phase_fits, connected}
use Rattle.protocol.specs.State.{State, with_words}
use Rattle.protocol.specs.Step.{unchanged, failed_with, released_with, where_open}
use Rattle.protocol.specs.TimePassed.{expired, time_passed}
use Rattle.protocol.proofs.Settling.{admitted-does}

-- ---- the words
-- a word that is free, a Request's or in range is freed exactly if its code is 6
word_freed : (w : ℕ) → (w ≢ 0 → (w ≡ request_word) ⊎ WordInRange w) → word_swept AfterBreak w ≡ freed w
unfolding word_swept word_of code_swept
word_freed w range =
    by_test (eqb (code_of w) 6)
    (λ six. rw six)
    (λ other. rw other (by_test (eqb (code_of w) 0) (λ z. rw z (free (eqb-true (code_of w) 0 z))) (λ z. rw z (omega arith))))
  where
    free : code_of w ≡ 0 → 0 ≡ w
    free z =
        by_test (eqb w 0)
        (λ e. sym (eqb-true w 0 e))
        (λ e. absurd (⊎_elim (λ (r : w ≡ request_word). omega arith) (λ (r : WordInRange w). range_listed r z) (range (eqb-false w 0 e))))

pub words-freed : (ls : List ℕ) → IsValid ls → swept_of ls AfterBreak ≡ map freed ls
unfolding word_swept word_of code_swept
words-freed ls v =
    ext_get_or 0 (swept_of ls AfterBreak) (map freed ls) (length-map ls (word_swept AfterBreak) ∙ sym (length-map ls freed)) (λ i h.
    get_or-map (word_swept AfterBreak) ls i 0 ∙ word_freed (get_or ls i 0) (v.each i) ∙ sym (get_or-map freed ls i 0))

-- ---- "code 6 words are freed; Failed if kept, else Idle"
module _ (s : State) (law : Lawful s) where
  failed_from : FailedFrom s (failed_with Answer.Done s)
  failed_from = record {
    answer = refl;
    state = ap (with_words s) (words-freed s.table.words (valid_means s.table.words law.labels));
    failed = λ k. rw k;
    idle = λ k. rw k;
    output = refl;
  }

  -- Restore: exactly the words of code 6 are free, all else is as it was, Failed if kept, else Idle
  pub restore-leaves : FailedFrom s (restore s)
  restore-leaves = failed_from

  -- the same of Connection failed
  pub failed-leaves : (ph : Phase) → phase_fits ph s ≡ true → connected ph ≡ true → FailedFrom s (connection_failed s ph)
  unfolding connection_failed
  failed-leaves ph fits c =
      let own : Answer = where_open (connected ph) Answer.Done in
      let d : own ≡ Answer.Done = rw c in
      rw (admitted-does s ph fits own d (failed_with Answer.Done s)) failed_from

-- ---- passed time
module _ (s : State) (fits : phase_fits Phase.Failed s ≡ true) (elapsed : ℕ) where
  passed_is : (b : Bool) → expired s elapsed ≡ b → time_passed s Phase.Failed elapsed ≡ pick b (released_with Answer.Done) (unchanged Answer.Done s Phase.Failed)
  unfolding time_passed
  passed_is b e =
      rw e (admitted-does s Phase.Failed fits Answer.Done refl (pick b (released_with Answer.Done) (unchanged Answer.Done s Phase.Failed)))

  -- a timeout of 0 never releases, one not reached keeps, one reached releases
  pub passed-leaves : TimePassed s elapsed
  unfolding expired
  passed-leaves =
      let t : ℕ = s.terms.timeout in
      record {
        forever = λ z. passed_is false (rw (eq-eqb t 0 z));
        early = λ l. passed_is false (rw (ne_eqb t 0 (λ (z : t ≡ 0). omega arith), lt-leb t elapsed l));
        late = λ p l. passed_is true (rw (ne_eqb t 0 (λ (z : t ≡ 0). omega arith), le-leb t elapsed l));
      }

-- "timeout 5, elapsed 4 keeps, 5 releases": of 5 seconds the last millisecond that keeps, and the first that releases
pub five_seconds : (s : State) → phase_fits Phase.Failed s ≡ true → s.terms.timeout ≡ 5000
    → (time_passed s Phase.Failed 4999 ≡ unchanged Answer.Done s Phase.Failed) × (time_passed s Phase.Failed 5000 ≡ released_with Answer.Done)
five_seconds s fits e = ((passed-leaves s fits 4999).early (omega arith), (passed-leaves s fits 5000).late (omega arith) (omega arith))
