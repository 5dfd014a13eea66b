-- The length that a call of the boundary shows is at most 496, as include/ldp_ft.h says of Send next. Assumes nothing.
use Rattle.std.specs.Prelude.{Option, Some, None}
use Prim.Native.Nat.{ℕ, ◌≤◌}
use mathlib.Core.Bool.{Bool}
use mathlib.Core.List.{List}
use native.Mathlib.Omega.{arith}
use Rattle.protocol.specs.declared.Phase.{Phase}
use Rattle.calls.specs.Outcomes.{After}
use Rattle.session_numbers.specs.declared.SessionNumbers.{SessionNumbers}
use Rattle.session_numbers.specs.Outcome.{Narrow, longest_written, outcome_numbers, shown_from, called_in, shown_call}
use Rattle.session_numbers.specs.Session.{given_of}
use Rattle.send.specs.Send.{send_of}
use Rattle.call_numbers.proofs.Calls.{send_narrow}

module _ (s : SessionNumbers) (im out : List ℕ) where
  module _ (call : Phase → After) (n : (ph : Phase) → Narrow (call ph).outcome) where
    shown_by : (g : Option Phase) → (shown_from s (called_in g im out call)).numbers.length ≤ longest_written
    unfolding outcome_numbers
    shown_by (Some ph) = (n ph).written
    shown_by None = omega arith

    -- every call whose outcomes have 32 bits (proofs/Narrow.antt); where the numbers stand for no phase nothing is written
    pub length-shown : (shown_call s im out call).numbers.length ≤ longest_written
    unfolding shown_call
    length-shown = shown_by (given_of s)

  -- "At most 496 bytes": the length that `ldp_ft_send_next` shows
  pub send-length : (ask : Bool) → (shown_call s im out (λ ph. send_of im ph ask out)).numbers.length ≤ longest_written
  send-length ask = length-shown (λ ph. send_of im ph ask out) (λ ph. send_narrow im ph ask out)
