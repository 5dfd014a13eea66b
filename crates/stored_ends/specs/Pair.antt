-- Two cabinets, each with an image in memory and one on the medium, and what a run with power cuts makes of them.
-- The owner stores exactly what each outcome tells, in the order told; output leaves only when all of it is stored; a restart reads the medium and nothing else.
use Rattle.std.specs.Prelude.{ℕ, Bool, true, false, List, [], ◌∷◌, ◌≡◌, ltb, length}
use Rattle.octets.specs.Pick.{pick}
use Rattle.protocol.specs.declared.Answer.{Answer}
use Rattle.protocol.specs.declared.Phase.{Phase}
use Rattle.protocol.specs.Calls
use Rattle.protocol.specs.Init.{init_start}
use Rattle.protocol.specs.Phases.{awaits}
use Rattle.protocol.specs.State.{State}
use Rattle.protocol.specs.Step.{Step}
use Rattle.calls.specs.Outcomes.{After, untouched}
use Rattle.calls.specs.State.{state_of}
use Rattle.two_ends.specs.Calls.{disconnected, greets, opened, plainly, receives, offered, sent, wrote}
use Rattle.two_ends.specs.Runs.{Event, submits, sends, keepalives, opens, passes, delivers, breaks, notices, restarts, ProperEvent}
use Rattle.two_ends.specs.World.{World, swap}
use Rattle.call_meaning.specs.Medium.{all_stored, committed, stores}
use Rattle.call_meaning.specs.Seen.{seen}
use Rattle.session.specs.Call.{leaves}

-- the image in the owner's memory, lost with power, and the one that is stored
pub record Cabinet : Type 0 where
  pub image : List ℕ
  pub medium : List ℕ

-- the world has the phases, the lines and the histories; `own` is the cabinet of its end a, `peer` that of b
pub record Pair : Type 0 where
  pub world : World
  pub own : Cabinet
  pub peer : Cabinet

abbrev pub swap_pair : Pair → Pair
swap_pair z = record { world = swap z.world; own = z.peer; peer = z.own }

-- an event of the two ends, with the bytes that are lent for its output: made whole, or with power lost in its call after so many of its stores
pub data Happening : Type 0 where
  whole : Event → List ℕ → Happening
  cut : ℕ → Event → List ℕ → Happening

-- ---- what the call of an event leaves; an event that makes no call leaves all as it was
abbrev pub received : Bool → List (List ℕ) → List ℕ → Phase → After
received false line im ph = untouched Answer.Done ph im []
received true [] im ph = untouched Answer.Done ph im []
received true (m ∷ rest) im ph = pick (awaits ph) (leaves (Calls.greets m) im ph []) (leaves (Calls.receives m) im ph [])

abbrev pub left : Event → World → Cabinet → List ℕ → After
left (submits m) w c out = leaves (Calls.submits m) c.image w.a.phase []
left (sends ask room) w c out = leaves (Calls.sends ask) c.image w.a.phase out
left (keepalives id room) w c out = leaves (Calls.keeps-alive id) c.image w.a.phase out
left (opens id p t room) w c out = leaves (Calls.opens id p t) c.image w.a.phase out
left (passes elapsed) w c out = leaves (Calls.passes elapsed) c.image w.a.phase []
left delivers w c out = received w.a.joined w.ba c.image w.a.phase
left breaks w c out = untouched Answer.Done w.a.phase c.image []
left notices w c out = leaves Calls.fails c.image w.a.phase []
-- "restarts from the stored image"
left restarts w c out = leaves Calls.restores c.medium w.a.phase []

-- ---- what that makes of the world: by its answer, its phase and its output, and by the state s before it and the one that its image stands for
abbrev pub delivery_after : Bool → List (List ℕ) → World → State → Step → World
delivery_after false line w s x = w
delivery_after true [] w s x = w
delivery_after true (m ∷ rest) w s x = pick (awaits w.a.phase) (greets w rest (init_start s w.a.phase m) x) (receives w m rest x)

abbrev pub world_after : Event → World → State → Step → World
world_after (submits m) w s x = offered w m x
world_after (sends ask room) w s x = sent w x
world_after (keepalives id room) w s x = wrote w x
world_after (opens id p t room) w s x = opened w x
world_after (passes elapsed) w s x = plainly w x
world_after delivers w s x = delivery_after w.a.joined w.ba w s x
world_after breaks w s x = disconnected w
world_after notices w s x = plainly w x
world_after restarts w s x = plainly w x

-- ---- the call made, and stored as it tells
abbrev pub made : Pair → Event → List ℕ → Pair
made z v out =
    let x = left v z.world z.own out in
    record {
      world = world_after v z.world (state_of z.own.image) (seen x);
      own = record { image = x.image; medium = all_stored z.own.medium x };
      peer = z.peer;
    }

-- power comes back: the image is read from the medium, and restored
abbrev pub restarted : Pair → List ℕ → Pair
restarted z medium = made (record { world = z.world; own = record { image = medium; medium = medium }; peer = z.peer }) restarts []

-- power is lost after n stores: with fewer than all the call has not happened; with all it has, and its output goes down with the connection, which a
-- restart breaks (output that arrived before is the run in which the call is whole, the peer is delivered to, and then the power goes)
abbrev pub cut_short : ℕ → Pair → Event → List ℕ → Pair
cut_short n z v out =
    let x = left v z.world z.own out in
    pick (ltb n (length (stores x.outcome))) (restarted z (committed n z.own.medium x)) (restarted (made z v out) (made z v out).own.medium)

abbrev pub happen : Pair → Happening → Pair
happen z (whole v out) = made z v out
happen z (cut n v out) = cut_short n z v out

-- at a, or at b
abbrev pub happening_at : Pair → Bool → Happening → Pair
happening_at z true v = happen z v
happening_at z false v = swap_pair (happen (swap_pair z) v)

abbrev pub run_stored : Pair → List (Bool × Happening) → Pair
run_stored z [] = z
run_stored z (v ∷ vs) = run_stored (happening_at z v.0 v.1) vs

-- ---- what the types of the calls say of their inputs; the room that an event names is that of the bytes lent
abbrev pub Lent : Event → List ℕ → Type 0
Lent (submits m) out = Unit {0}
Lent (sends ask room) out = room ≡ length out
Lent (keepalives id room) out = room ≡ length out
Lent (opens id p t room) out = room ≡ length out
Lent (passes elapsed) out = Unit {0}
Lent delivers out = Unit {0}
Lent breaks out = Unit {0}
Lent notices out = Unit {0}
Lent restarts out = Unit {0}

abbrev pub ProperHappening : Happening → Type 0
ProperHappening (whole v out) = ProperEvent v × Lent v out
ProperHappening (cut n v out) = ProperEvent v × Lent v out

abbrev pub AllProperHappenings : List (Bool × Happening) → Type 0
AllProperHappenings [] = Unit {0}
AllProperHappenings (v ∷ vs) = ProperHappening v.1 × AllProperHappenings vs
