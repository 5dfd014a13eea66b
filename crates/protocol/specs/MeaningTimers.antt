-- What a failed connection and passed time mean for the state, clause by clause.
use Rattle.std.specs.Prelude.{ℕ, ◌≤◌, ◌<◌, true, false, [], map, ◌≡◌, eqb}
use Rattle.octets.specs.Pick.{pick}
use Rattle.label_list.specs.Word.{code_of}
use Rattle.protocol.specs.declared.Answer.{Answer}
use Rattle.protocol.specs.declared.Phase.{Phase}
use Rattle.protocol.specs.State.{State, with_words}
use Rattle.protocol.specs.Step.{Step, unchanged, released_with}
use Rattle.protocol.specs.TimePassed.{time_passed}

-- "code 6 words are freed"; every other word stays as it is
abbrev pub freed : ℕ → ℕ
freed w = pick (eqb (code_of w) 6) 0 w

-- "Connection failed ..: code 6 words are freed; Failed if kept, else Idle"; Restore "frees code 6 words, as after a break, and answers Failed if kept, else Idle"
pub record FailedFrom (s : State) (x : Step) : Type 0 where
  pub answer : x.answer ≡ Answer.Done
  pub state : x.state ≡ with_words s (map freed s.table.words)
  pub failed : s.kept ≡ true → x.phase ≡ Phase.Failed
  pub idle : s.kept ≡ false → x.phase ≡ Phase.Idle
  pub output : x.output ≡ []

-- "Time passed (Failed): releases, then Idle, if the timeout isn't zero and elapsed seconds are at least it; else nothing changes"; 02: "Time passed counts milliseconds."
pub record TimePassed (s : State) (elapsed : ℕ) : Type 0 where
  pub forever : s.terms.timeout ≡ 0 → time_passed s Phase.Failed elapsed ≡ unchanged Answer.Done s Phase.Failed
  pub early : elapsed < s.terms.timeout → time_passed s Phase.Failed elapsed ≡ unchanged Answer.Done s Phase.Failed
  pub late : 0 < s.terms.timeout → s.terms.timeout ≤ elapsed → time_passed s Phase.Failed elapsed ≡ released_with Answer.Done
