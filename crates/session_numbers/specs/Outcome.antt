-- An outcome as numbers, and what a call of the boundary leaves.
use Rattle.std.specs.Prelude.{Option, Some, None, ℕ, ◌≤◌, ◌<◌, List}
use Rattle.block0.specs.Layout.{slot_count}
use Rattle.image.specs.Sizes.{block_count}
use Rattle.image.specs.Verdict.{verdict}
use Rattle.protocol.specs.declared.Answer.{Answer}
use Rattle.protocol.specs.declared.Phase.{Phase}
use Rattle.protocol.specs.Answers.{answer_number, answer_block, effect_of}
use Rattle.calls.specs.declared.Outcome.{Outcome}
use Rattle.calls.specs.Outcomes.{After, after_with, refusal, checked}
use Rattle.session_numbers.specs.declared.OutcomeNumbers.{OutcomeNumbers}
use Rattle.session_numbers.specs.declared.SessionNumbers.{SessionNumbers}
use Rattle.session_numbers.specs.Session.{bit_of, session_of, given_of, session_left}

-- the numbers of an outcome, where the session was given as s; each number is the outcome's own, none is cut to 32 bits
unfoldable pub outcome_numbers : SessionNumbers → Outcome → OutcomeNumbers
outcome_numbers s o = record {
  answer = answer_number o.answer;
  block = answer_block o.answer;
  session = session_left (effect_of o.answer) s o.phase;
  length = o.written;
  slot = o.slot;
  block0 = bit_of o.block0;
  further = o.further;
  leftout = o.leftout;
}

-- the longest message that a call writes: "8 to 480" as it was submitted, and at its end FT Protection and FT ACK of 8 bytes each
abbrev pub longest_written : ℕ
longest_written = 496

-- an outcome whose numbers have 32 bits: what is written is such a message, and what is named a block of the image, what is stored one of its slots'
pub record Narrow (o : Outcome) : Type 0 where
  pub block : answer_block o.answer < block_count
  pub written : o.written ≤ longest_written
  pub slot : o.slot ≤ slot_count

-- what a call leaves: the numbers returned, the image and the output; a call with no output has the empty list here
pub record Shown : Type 0 where
  pub numbers : OutcomeNumbers
  pub image : List ℕ
  pub out : List ℕ

abbrev pub shown : OutcomeNumbers → List ℕ → List ℕ → Shown
shown r im o = record { numbers = r; image = im; out = o }

-- what the session's call leaves, with numbers for enums
abbrev pub shown_from : SessionNumbers → After → Shown
shown_from s x = shown (outcome_numbers s x.outcome) x.image x.out

-- format and restore are given no session; where they refuse they answer Idle
abbrev pub idle : SessionNumbers
idle = session_of Phase.Idle

-- "answer 1 where 1 is due": after restore's checks
abbrev pub unknown_phase : List ℕ → Outcome
unknown_phase im = refusal (checked (verdict im) Answer.WrongPhase) Phase.Idle

-- the session's call in the phase that the numbers stand for
abbrev pub called_in : Option Phase → List ℕ → List ℕ → (Phase → After) → After
called_in (Some ph) im o call = call ph
called_in None im o call = after_with (unknown_phase im) im o

unfoldable pub shown_call : SessionNumbers → List ℕ → List ℕ → (Phase → After) → Shown
shown_call s im o call = shown_from s (called_in (given_of s) im o call)
