-- What both ends remember of "Requests stopped".
-- 02: "That stops new Requests until a numbered 'Label Resources Available' comes; both ends remember this over a break .. and forget it when state is released".
use Rattle.std.specs.Prelude.{Result, Ok, Err, ℕ, Bool, true, false, List, [], ◌∷◌, ◌≡◌}
use Rattle.message.specs.declared.Kind.{Kind}
use Rattle.message.specs.declared.SubmissionError.{SubmissionError}
use Rattle.message.specs.Submission.{submission_of}
use Rattle.protocol.specs.Accepting.{stop_after}
use Rattle.two_ends.specs.Demand.{accepted_read}
use Rattle.two_ends.specs.World.{End}

-- whether Requests are stopped after a message with that submission: 9 stops them, 6 lets them go on
abbrev pub stop_by : Bool → Result (Kind × ℕ) SubmissionError → Bool
stop_by stop (Err SubmissionError.Malformed) = stop
stop_by stop (Err SubmissionError.Refused) = stop
stop_by stop (Ok (kind, label)) = stop_after stop kind

-- and after all of these
abbrev pub stop_in : Bool → List (List ℕ) → Bool
stop_in stop [] = stop
stop_in stop (m ∷ ms) = stop_in (stop_by stop (submission_of m)) ms

-- of the sender x and its peer y, each counted from its own fresh UpFT
pub record Stops (x y : End) : Type 0 where
  -- the sender's 4, "we told the peer", is what it accepted to send since then
  pub telling : x.begun ≡ true → x.state.marks.stopping ≡ stop_in false x.history.accepted
  -- the peer's 2, "told so", is what it secured since then
  pub told : y.begun ≡ true → y.state.marks.stopped ≡ stop_in false y.history.secured
  -- so once every message has arrived the one is set where the other is
  pub agree : x.begun ≡ true → y.begun ≡ true → y.history.secured ≡ accepted_read x → y.state.marks.stopped ≡ x.state.marks.stopping
