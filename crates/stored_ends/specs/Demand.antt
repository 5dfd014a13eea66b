-- The demand, of what is on the media.
use Rattle.image.specs.Verdict.{IsSound}
use Rattle.calls.specs.State.{state_of}
use Rattle.two_ends.specs.Demand.{Demand}
use Rattle.two_ends.specs.World.{End, World}
use Rattle.stored_ends.specs.Pair.{Cabinet, Pair}

-- an end whose state is the one that its medium stands for
abbrev pub end_stored : End → Cabinet → End
end_stored e c = record { state = state_of c.medium; phase = e.phase; joined = e.joined; begun = e.begun; history = e.history }

-- the world as its media have it
abbrev pub stored_world : Pair → World
stored_world z = record {
  a = end_stored z.world.a z.own;
  b = end_stored z.world.b z.peer;
  ab = z.world.ab;
  ba = z.world.ba;
  started = z.world.started;
  unreleased = z.world.unreleased;
}

-- demand 3 on the media: "its store holds exactly the rest" is of the messages that the medium's live slots hold; and restore passes both
pub record StoredDemand (z : Pair) : Type 0 where
  pub demand : Demand (stored_world z)
  pub own : IsSound z.own.medium
  pub peer : IsSound z.peer.medium
