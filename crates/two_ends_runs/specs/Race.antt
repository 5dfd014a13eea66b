-- Labels of the two ends need not agree, also with nothing held and nothing under way: both runs offer a label that is given and release one that was not asked back,
-- and the two messages cross. Where the owners keep from either, they agree (`labels_match`).
use Rattle.std.specs.Prelude.{ℕ, Bool, true, false, List, [], ◌∷◌}
use Rattle.label_list.specs.declared.Side.TheVariants.{Given, Used}
use Rattle.label_events.specs.Change.{code_at}
use Rattle.two_ends.specs.Demand.{held_messages}
use Rattle.two_ends.specs.Runs.{submits}
use Rattle.two_ends.specs.World.{World}
use Rattle.two_ends_runs.specs.Cabinets.{mapping, withdraw, release, send, alive, deliver}
use Rattle.two_ends_runs.specs.Tales.{begin}

-- a gives label 16, and b uses it. Then b releases it while a maps it again: the two messages cross. b takes the Mapping after its own Release (5 becomes
-- 3), a takes the Release after its own Mapping (1 becomes free), and the ACK of the Release finds no code 5 to free
abbrev pub race : World
race =
    begin
    ((true, submits (mapping 1)) ∷ send true ∷ deliver false ∷ (false, submits (release 2)) ∷ (true, submits (mapping 3)) ∷ send true ∷ send false
    ∷ deliver false ∷ deliver true ∷ alive true ∷ alive false ∷ deliver false ∷ deliver true ∷ [])

-- what is held and under way, the code of 16 that a has given, and the code of 16 that b uses
pub record Labels : Type 0 where
  pub held : List (List ℕ)
  pub theirs : List (List ℕ)
  pub out : List (List ℕ)
  pub back : List (List ℕ)
  pub given : ℕ
  pub used : ℕ
  pub started : Bool
  pub unreleased : Bool

abbrev pub labels : World → Labels
labels w = record {
  held = held_messages w.a;
  theirs = held_messages w.b;
  out = w.ab;
  back = w.ba;
  given = code_at w.a.state.table.words Given 16;
  used = code_at w.b.state.table.words Used 16;
  started = w.started;
  unreleased = w.unreleased;
}

abbrev pub race_ends : Labels
race_ends = record { held = []; theirs = []; out = []; back = []; given = 0; used = 3; started = true; unreleased = true }

-- ---- the same with a Withdraw behind the second Mapping: b takes it too and is asked back for 16, while a, which has the Release and the ACK, lists it no more
abbrev pub race-asked : World
race-asked =
    begin
    ((true, submits (mapping 1)) ∷ send true ∷ deliver false ∷ (false, submits (release 2)) ∷ (true, submits (mapping 3)) ∷ (true, submits (withdraw 4)) ∷ send true ∷ send true ∷ send false
    ∷ deliver false ∷ deliver false ∷ deliver true ∷ alive true ∷ alive false ∷ deliver false ∷ deliver true ∷ [])

abbrev pub race-asked_ends : Labels
race-asked_ends = record { held = []; theirs = []; out = []; back = []; given = 0; used = 4; started = true; unreleased = true }
