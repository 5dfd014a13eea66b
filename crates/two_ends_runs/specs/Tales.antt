-- The runs, and what they end in.
use Rattle.std.specs.Prelude.{ℕ, Bool, true, false, List, [], ◌∷◌, replicate}
use Rattle.protocol.specs.State.{released_state}
use Rattle.two_ends.specs.Demand.{held_messages}
use Rattle.two_ends.specs.Runs.{Event, breaks, notices, restarts, run}
use Rattle.two_ends.specs.Start.{start}
use Rattle.two_ends.specs.World.{World}
use Rattle.two_ends_runs.specs.Cabinets.{address, opener_with, kept_with, offer, send, alive, reopen, deliver, many}

-- ---- what is looked at: the messages of the sender a, those that b secured, R and I of a, S of b, and the two flags of the world
pub record Ending : Type 0 where
  pub accepted : List (List ℕ)
  pub letgo : List (List ℕ)
  pub held : List (List ℕ)
  pub secured : List (List ℕ)
  pub released : ℕ
  pub issued : ℕ
  pub last : ℕ
  pub started : Bool
  pub unreleased : Bool

abbrev pub ending : World → Ending
ending w = record {
  accepted = w.a.history.accepted;
  letgo = w.a.history.letgo;
  held = held_messages w.a;
  secured = w.b.history.secured;
  released = w.a.state.released.0;
  issued = w.a.state.issued.0;
  last = w.b.state.secured.0;
  started = w.started;
  unreleased = w.unreleased;
}

-- ---- two new cabinets, both up
abbrev pub begin : List (Bool × Event) → World
begin vs = run (start (opener_with released_state) (opener_with released_state)) (deliver true ∷ deliver false ∷ vs)

-- a sends 7 and 8; 7 arrives; b restarts. On the next connection b's Init acknowledges 7, and 8 is sent again, arrives and is acknowledged
abbrev pub again : World
again =
    begin
    (offer true 7 ∷ offer true 8 ∷ send true ∷ send true ∷ deliver false ∷ (false, restarts) ∷ (true, notices) ∷ reopen true ∷ reopen false
    ∷ deliver true ∷ deliver false ∷ send true ∷ deliver false ∷ alive false ∷ deliver true ∷ [])

abbrev pub again_ends : Ending
again_ends = record {
  accepted = address 7 ∷ address 8 ∷ [];
  letgo = address 7 ∷ address 8 ∷ [];
  held = [];
  secured = address 7 ∷ address 8 ∷ [];
  released = 2;
  issued = 2;
  last = 2;
  started = true;
  unreleased = true;
}

-- a restarts with 7 accepted and not sent: 7 is still held. These worlds have no medium: what a power cut leaves there is in PowerCut.antt
abbrev pub restart : World
restart = begin (offer true 7 ∷ (true, restarts) ∷ [])

abbrev pub restart_ends : Ending
restart_ends = record {
  accepted = address 7 ∷ [];
  letgo = [];
  held = address 7 ∷ [];
  secured = [];
  released = 0;
  issued = 0;
  last = 0;
  started = true;
  unreleased = true;
}

-- why a connection that breaks before both are fresh is no start: a is fresh and has sent 7, b still has an old state with S 1. Both R are now set,
-- b's Init acknowledges 1, and a lets 7 go, which nobody has secured
abbrev pub too_early : World
too_early =
    run (start (opener_with released_state) (opener_with (kept_with 0 1)))
    (deliver true ∷ offer true 7 ∷ send true ∷ (true, breaks) ∷ (true, notices) ∷ (false, notices) ∷ reopen true ∷ reopen false ∷ deliver true ∷ [])

abbrev pub too_early_ends : Ending
too_early_ends = record {
  accepted = address 7 ∷ [];
  letgo = address 7 ∷ [];
  held = [];
  secured = [];
  released = 1;
  issued = 1;
  last = 1;
  started = false;
  unreleased = true;
}

-- ---- the full store: 64 are accepted and held, and the 65th changes nothing
abbrev pub full : ℕ → World
full n = begin (many n)

abbrev pub full_ends : Ending
full_ends = record {
  accepted = replicate 64 (address 7);
  letgo = [];
  held = replicate 64 (address 7);
  secured = [];
  released = 0;
  issued = 0;
  last = 0;
  started = true;
  unreleased = true;
}
