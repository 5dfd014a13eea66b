-- A message that may be held: its length, and the kind and label as which it was accepted.
use Rattle.std.specs.Prelude.{Result, Ok, Err, ℕ, ◌≤◌, Bool, false, List, ◌≡◌, eqb, length}
use Rattle.octets.specs.Pick.{both}
use Rattle.message.specs.declared.Kind.{Kind}
use Rattle.message.specs.declared.SubmissionError.{SubmissionError}
use Rattle.message.specs.Kinds.{kind_number}
use Rattle.message.specs.Submission.{no_label, submission_of}

-- "length 8 to 480"
abbrev pub shortest : ℕ
shortest = 8

abbrev pub longest : ℕ
longest = 480

-- the message passes Submit's 3, 4 and 5
pub record Storable (m : List ℕ) : Type 0 where
  pub low : shortest ≤ length m
  pub short : length m ≤ longest
  pub kind : Kind
  pub label : ℕ
  pub accepted : submission_of m ≡ Ok (kind, label)

-- the kind's number and the label of a judged message; 0 and 0xFFFFFFFF where it is not accepted
abbrev pub kind_in : Result (Kind × ℕ) SubmissionError → ℕ
kind_in (Err SubmissionError.Malformed) = 0
kind_in (Err SubmissionError.Refused) = 0
kind_in (Ok (kind, label)) = kind_number kind

abbrev pub label_in : Result (Kind × ℕ) SubmissionError → ℕ
label_in (Err SubmissionError.Malformed) = no_label
label_in (Err SubmissionError.Refused) = no_label
label_in (Ok (kind, label)) = label

-- the message was accepted, with that kind and that label
abbrev pub bears : Result (Kind × ℕ) SubmissionError → ℕ → ℕ → Bool
bears (Err SubmissionError.Malformed) kind label = false
bears (Err SubmissionError.Refused) kind label = false
bears (Ok (k, l)) kind label = both (eqb (kind_number k) kind) (eqb l label)
