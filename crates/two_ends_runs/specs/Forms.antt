-- Runs in which the forms of FT Session differ, between the two ends and between connections. 02: "Both TLV forms are read, the session writes the one its owner names".
use Rattle.std.specs.Prelude.{ℕ, Bool, true, false, List, [], ◌∷◌}
use Rattle.ft_number.specs.declared.Proposal.{Proposal}
use Rattle.ft_number.specs.declared.Timeout.{Timeout}
use Rattle.protocol.specs.State.{released_state}
use Rattle.two_ends.specs.Runs.{Event, breaks, notices, run}
use Rattle.two_ends.specs.Start.{start}
use Rattle.two_ends.specs.World.{World}
use Rattle.two_ends_runs.specs.Cabinets.{opener_by, offer, send, alive, reopen_by, deliver}

abbrev pub draft : ℕ → Proposal
draft seconds = Proposal.Given (Timeout.Seconds seconds)

abbrev pub published : ℕ → Proposal
published millis = Proposal.Given (Timeout.Milliseconds millis)

-- both open afresh, a with the one proposal and b with the other
abbrev pub opened_by : Proposal → Proposal → List (Bool × Event) → World
opened_by ours theirs vs = run (start (opener_by ours released_state) (opener_by theirs released_state)) (deliver true ∷ deliver false ∷ vs)

-- the timeouts that both have agreed, in milliseconds
abbrev pub timeouts : World → ℕ × ℕ
timeouts w = (w.a.state.terms.timeout, w.b.state.terms.timeout)

-- 7 is sent and lost in a break; both open again, each in the form that the other had before, and 7 arrives
abbrev pub exchanged_forms : World
exchanged_forms =
    opened_by (draft 5) (published 5250)
    (offer true 7 ∷ send true ∷ (true, breaks) ∷ (true, notices) ∷ (false, notices) ∷ reopen_by (published 3001) true ∷ reopen_by (draft 4) false
    ∷ deliver true ∷ deliver false ∷ send true ∷ deliver false ∷ alive false ∷ deliver true ∷ [])
