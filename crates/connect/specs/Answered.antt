-- An aid of code: what Open and KeepAlive share once their message is written. No call's meaning rests on it.
use Rattle.std.specs.Prelude.{Option, Some, None, ℕ, false}
use Rattle.protocol.specs.declared.Answer.{Answer}
use Rattle.protocol.specs.declared.Phase.{Phase}
use Rattle.calls.specs.declared.Outcome.{Outcome}
use Rattle.calls.specs.Outcomes.{refusal}

-- what is answered to what was written: the phase is then `next`
abbrev pub written_as : Option ℕ → Phase → Phase → Outcome
written_as None ph next = refusal Answer.OutputTooShort ph
written_as (Some n) ph next = record { answer = Answer.Done; phase = next; written = n; slot = 0; block0 = false; further = 0; leftout = 0 }
