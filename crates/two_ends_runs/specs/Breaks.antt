-- Runs over a break: an end that notices it late, a kept state whose peer has none, and a timeout that passes.
use Rattle.std.specs.Prelude.{ℕ, Bool, true, false, List, [], ◌∷◌}
use Rattle.protocol.specs.declared.Phase.{Phase}
use Rattle.protocol.specs.Phases.{up_with}
use Rattle.protocol.specs.State.{State, released_state, with_queue, with_released}
use Rattle.two_ends.specs.Runs.{Event, breaks, notices, passes, run}
use Rattle.two_ends.specs.Start.{start}
use Rattle.two_ends.specs.World.{World}
use Rattle.two_ends_runs.specs.Cabinets.{address, opener_with, kept_with, offer, send, alive, reopen, deliver}
use Rattle.two_ends_runs.specs.Tales.{Ending, ending, begin}

-- an ending, with the phase of a, whether a is on the present connection, whether it keeps its state, and what is under way to b
pub record Situation : Type 0 where
  pub phase : Phase
  pub joined : Bool
  pub kept : Bool
  pub out : List (List ℕ)
  pub ending : Ending

abbrev pub situation : World → Situation
situation w = record { phase = w.a.phase; joined = w.a.joined; kept = w.a.state.kept; out = w.ab; ending = ending w }

-- ---- a half-open connection: b has secured 7, the connection breaks, and b notices and opens again. a takes itself for connected still: it accepts 8 and 9,
-- sends 8 and a KeepAlive, and both go nowhere
abbrev pub half_open : World
half_open =
    begin
    (offer true 7 ∷ send true ∷ deliver false ∷ (true, breaks) ∷ (false, notices) ∷ reopen false ∷ offer true 8 ∷ send true ∷ alive true ∷ deliver true
    ∷ offer true 9 ∷ [])

abbrev pub half_open_ends : Situation
half_open_ends = record {
  phase = up_with false 2;
  joined = false;
  kept = true;
  out = [];
  ending = record {
    accepted = address 7 ∷ address 8 ∷ address 9 ∷ [];
    letgo = [];
    held = address 7 ∷ address 8 ∷ address 9 ∷ [];
    secured = address 7 ∷ [];
    released = 0;
    issued = 2;
    last = 1;
    started = true;
    unreleased = true;
  };
}

-- then a notices and opens too: b's Init acknowledges 7, and 8 is sent again, before 9. None is lost, and none comes twice
abbrev pub rejoined : World
rejoined =
    run half_open
    ((true, notices) ∷ reopen true ∷ deliver true ∷ deliver false ∷ send true ∷ send true ∷ deliver false ∷ deliver false ∷ alive false ∷ deliver true ∷ [])

abbrev pub rejoined_ends : Ending
rejoined_ends = record {
  accepted = address 7 ∷ address 8 ∷ address 9 ∷ [];
  letgo = address 7 ∷ address 8 ∷ address 9 ∷ [];
  held = [];
  secured = address 7 ∷ address 8 ∷ address 9 ∷ [];
  released = 3;
  issued = 3;
  last = 3;
  started = true;
  unreleased = true;
}

-- ---- a start over an old state: a has kept one in which 4 is sent and 5 is not, and accepts 6 before it reads b's Init. b has kept nothing
abbrev old : State
old = with_queue (with_released (kept_with 4 8) (record { 0 = 3 })) (address 4 ∷ address 5 ∷ [])

abbrev pub over : List (Bool × Event) → World
over vs = run (start (opener_with old) (opener_with released_state)) (offer true 6 ∷ vs)

-- before the Inits are read all three are held, and none is counted: "each end is counted from its own fresh UpFT"
abbrev pub over-begins : Ending
over-begins = record {
  accepted = [];
  letgo = [];
  held = address 4 ∷ address 5 ∷ address 6 ∷ [];
  secured = [];
  released = 3;
  issued = 4;
  last = 0;
  started = true;
  unreleased = true;
}

-- "a zero R on either side, state released, then fresh UpFT": the three are gone, nobody has secured them, and numbers begin at 0 again
abbrev pub afresh : List (Bool × Event) → World
afresh vs = over (deliver true ∷ deliver false ∷ vs)

abbrev pub afresh-begins : Ending
afresh-begins = record {
  accepted = [];
  letgo = [];
  held = [];
  secured = [];
  released = 0;
  issued = 0;
  last = 0;
  started = true;
  unreleased = true;
}

-- then 7 goes to b and 9 to a: a's old S of 8 does not stand in the way of b's number 1
abbrev pub exchange : List (Bool × Event)
exchange =
    offer true 7 ∷ offer false 9 ∷ send true ∷ send false ∷ deliver false ∷ deliver true ∷ alive true ∷ alive false ∷ deliver false ∷ deliver true ∷ []

-- of the sender of that message
abbrev pub exchanged : ℕ → Ending
exchanged n = record {
  accepted = address n ∷ [];
  letgo = address n ∷ [];
  held = [];
  secured = address n ∷ [];
  released = 1;
  issued = 1;
  last = 1;
  started = true;
  unreleased = true;
}

-- ---- a timeout of 5 seconds: 7 is sent and lost in a break, which a notices; then so many milliseconds pass
abbrev pub waits : ℕ → List (Bool × Event) → World
waits millis vs = begin (offer true 7 ∷ send true ∷ (true, breaks) ∷ (true, notices) ∷ (true, passes millis) ∷ vs)

-- "elapsed 4 keeps", to the last millisecond
abbrev pub waits-keeps : Situation
waits-keeps = record {
  phase = Phase.Failed;
  joined = false;
  kept = true;
  out = [];
  ending = record {
    accepted = address 7 ∷ [];
    letgo = [];
    held = address 7 ∷ [];
    secured = [];
    released = 0;
    issued = 1;
    last = 0;
    started = true;
    unreleased = true;
  };
}

-- "5 releases": nothing is held. 7 was accepted, and is neither held nor secured: of this run the demand says nothing, since `unreleased` is false
abbrev gone : Ending
gone = record {
  accepted = address 7 ∷ [];
  letgo = [];
  held = [];
  secured = [];
  released = 0;
  issued = 0;
  last = 0;
  started = true;
  unreleased = false;
}

abbrev pub waits-releases : Situation
waits-releases = record { phase = Phase.Idle; joined = false; kept = false; out = []; ending = gone }

-- both open again, and a sends what it holds
abbrev pub returns : ℕ → World
returns millis =
    waits millis
    ((false, notices) ∷ reopen true ∷ reopen false ∷ deliver true ∷ deliver false ∷ send true ∷ deliver false ∷ alive false ∷ deliver true ∷ [])

-- before 5 seconds that is 7, as in any break; from then on it is nothing, in a fresh session
abbrev pub returns-keeps : Ending
returns-keeps = exchanged 7

abbrev pub returns-releases : Situation
returns-releases = record { phase = up_with false 0; joined = true; kept = true; out = []; ending = gone }
