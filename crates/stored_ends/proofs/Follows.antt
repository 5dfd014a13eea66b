-- Every run of the two cabinets, with power cut anywhere, is a run of the rules' world, as long as it lasts. Assumes nothing.
use Prim.Native.Nat.{ℕ}
use mathlib.Core.Bool.{Bool, true, false, not}
use mathlib.Core.List.{List, [], ◌∷◌, ◌++◌, map}
use mathlib.Core.Path.{◌≡◌, refl, sym, ap, ◌∙◌}
use lib.Dec.{ltb}
use lib.ListN.{length}
use Rattle.octets.specs.Pick.{both}
use Rattle.octets.proofs.Choice.{both_true, pick_all}
use Rattle.protocol.specs.Answers.{is_done}
use Rattle.protocol.specs.Init.{init_start}
use Rattle.protocol.specs.Phases.{awaits, connected}
use Rattle.protocol.specs.State.{State}
use Rattle.protocol.specs.Step.{Step}
use Rattle.calls.specs.State.{state_of}
use Rattle.two_ends.specs.Calls.{accepts, beginning, disconnected, called, counts, greeted, keeps, on, put, replaced, took, sent_history}
use Rattle.two_ends.specs.Runs.{AllProperEvents, Event, ProperEvent, act, breaks, delivers, keepalives, notices, opens, passes, restarts, sends, submits, event_at, run}
use Rattle.two_ends.specs.World.{End, Lasts, World, swap}
use Rattle.two_ends.proofs.Invariant.{Good}
use Rattle.two_ends.proofs.Packets.{Fines, Packet, bytes_of, fine_bytes}
use Rattle.two_ends.proofs.Theorem.{at-run}
use Rattle.two_ends.proofs.Worlds.{at-swap}
use Rattle.call_meaning.specs.Medium.{committed, stores}
use Rattle.call_meaning.specs.Seen.{seen}
use Rattle.stored_ends.specs.Pair.{AllProperHappenings, Happening, Pair, ProperHappening, happen, cut, cut_short, left, made, restarted, run_stored, world_after, delivery_after, happening_at, swap_pair, whole}
use Rattle.stored_ends.proofs.Tracks.{Arrives, Both, Cut, Tracks, before, behind, cut_tracks, made_tracks}

-- ---- what lasts after a happening lasted before it
module _ (w : World) where
  abbrev Lasted : World → Type 0
  Lasted v = Lasts v → Lasts w

  broken_lasted : (v : World) → Lasted v → Lasted (disconnected v)
  broken_lasted v f k = f ((both_true v.started (both v.a.begun v.b.begun) k.0).0, k.1)

-- a world like u with its end a replaced
replaced_lasted : (w u : World) → Lasted w u → (e : End) (ab ba : List (List ℕ)) → Lasted w (replaced u e ab ba)
replaced_lasted w u f e ab ba =
    let next : World = record { a = e; b = u.b; ab = ab; ba = ba; started = u.started; unreleased = both u.unreleased (keeps e) } in
    let here : Lasted w next = λ k. f (k.0, (both_true u.unreleased (keeps e) k.1).0) in
    pick_all (Lasted w) (both e.joined (not (connected e.phase))) {x = disconnected next} {y = next} (broken_lasted w next here) here

delivery_lasted : (jo : Bool) (line : List (List ℕ)) (w : World) (s : State) (x : Step) → Lasted w (delivery_after jo line w s x)
delivery_lasted false line w s x = λ k. k
delivery_lasted true [] w s x = λ k. k
delivery_lasted true (m ∷ rest) w s x =
    let st = init_start s w.a.phase m in
    pick_all (Lasted w) (awaits w.a.phase)
    (replaced_lasted w (beginning w st x) (λ k. (k.0, (both_true w.unreleased _ k.1).0)) (greeted w.a st x) w.ab rest)
    (replaced_lasted w w (λ k. k) (took w.a m x) w.ab rest)

shown_lasted : (v : Event) (w : World) (s : State) (x : Step) → Lasted w (world_after v w s x)
shown_lasted (submits m) w s x = replaced_lasted w w (λ k. k) (called w.a x (counts w.a x (accepts m w.a.history))) w.ab w.ba
shown_lasted (sends ask room) w s x = replaced_lasted w w (λ k. k) (called w.a x (sent_history w.a x)) (put w.a.joined w.ab x) w.ba
shown_lasted (keepalives id room) w s x = replaced_lasted w w (λ k. k) (called w.a x w.a.history) (put w.a.joined w.ab x) w.ba
shown_lasted (opens id p t room) w s x =
    pick_all (Lasted w) (is_done x.answer)
    (replaced_lasted w w (λ k. k) (on (called w.a x w.a.history)) (put true w.ab x) w.ba)
    (replaced_lasted w w (λ k. k) (called w.a x w.a.history) w.ab w.ba)
shown_lasted (passes elapsed) w s x = replaced_lasted w w (λ k. k) (called w.a x w.a.history) w.ab w.ba
shown_lasted delivers w s x = delivery_lasted w.a.joined w.ba w s x
shown_lasted breaks w s x = broken_lasted w w (λ k. k)
shown_lasted notices w s x = replaced_lasted w w (λ k. k) (called w.a x w.a.history) w.ab w.ba
shown_lasted restarts w s x = replaced_lasted w w (λ k. k) (called w.a x w.a.history) w.ab w.ba

made_lasted : (z : Pair) (v : Event) (out : List ℕ) → Lasts (made z v out).world → Lasts z.world
made_lasted z v out = shown_lasted v z.world (state_of z.own.image) (seen (left v z.world z.own out))

restarted_lasted : (z : Pair) (medium : List ℕ) → Lasts (restarted z medium).world → Lasts z.world
restarted_lasted z medium = made_lasted (record { world = z.world; own = record { image = medium; medium = medium }; peer = z.peer }) restarts []

act_lasted : (z : Pair) (v : Happening) → Lasts (happen z v).world → Lasts z.world
act_lasted z (whole v out) = made_lasted z v out
act_lasted z (cut n v out) =
    pick_all (λ (y : Pair). Lasts y.world → Lasts z.world) (ltb n (length (stores (left v z.world z.own out).outcome)))
    (restarted_lasted z (committed n z.own.medium (left v z.world z.own out)))
    (λ k. made_lasted z v out (restarted_lasted (made z v out) (made z v out).own.medium k))

-- ---- the messages under way are bytes
fine_line : (ps : List Packet) → Fines ps → Arrives (map bytes_of ps)
fine_line [] f = tt
fine_line (p ∷ ps) f = fine_bytes p f.0

pub arrives : (w : World) → Good w → Lasts w → Arrives w.ba
arrives w g k = let s = g k in rw s.2.line_b (fine_line s.1 s.2.back.fines)

-- ---- a happening at the end a is an event of the world, or two
data Traces (z : Pair) (w : World) : Type 0 where
  once : (u : Event) → ProperEvent u → Tracks z (act w u) → Traces z w
  twice : (u v : Event) → ProperEvent u → ProperEvent v → Tracks z (act (act w u) v) → Traces z w

act_traces : (z : Pair) → Both z → Arrives z.world.ba → (v : Happening) → ProperHappening v → Traces (happen z v) z.world
act_traces z b o (whole v out) p = once v p.0 (made_tracks z.world z.own z.peer b.own b.peer v out p.0 p.1 o)
act_traces z b o (cut n v out) p = by (cut_tracks z.world z.own z.peer b.own b.peer n v out p.0 p.1 o)
  where
    by : Cut z.world z.own z.peer b.own b.peer v (cut_short n z v out) → Traces (cut_short n z v out) z.world
    by (before t) = once restarts tt t
    by (behind t) = twice v restarts p.0 tt t

-- ---- the pair follows a run of the rules' world that begins with w₀
pub record Followed (w₀ : World) (z : Pair) : Type 0 where
  pub events : List (Bool × Event)
  pub proper : AllProperEvents events
  pub world : z.world ≡ run w₀ events
  pub both : Both z

abbrev pub Follows : World → Pair → Type 0
Follows w₀ z = Lasts z.world → Followed w₀ z

pub run-append : (w : World) (xs ys : List (Bool × Event)) → run w (xs ++ ys) ≡ run (run w xs) ys
run-append w [] ys = refl
run-append w (x ∷ xs) ys = run-append (event_at w x.0 x.1) xs ys

propers_append : (xs ys : List (Bool × Event)) → AllProperEvents xs → AllProperEvents ys → AllProperEvents (xs ++ ys)
propers_append [] ys p q = q
propers_append (x ∷ xs) ys p q = (p.0, propers_append xs ys p.1 q)

-- some events more
followed_more : {w₀ w : World} (z : Pair) (past : List (Bool × Event)) → AllProperEvents past → w ≡ run w₀ past → (more : List (Bool × Event)) → AllProperEvents more
    → z.world ≡ run w more → Both z → Followed w₀ z
followed_more {w₀} z past p e more q f b = record {
  events = past ++ more;
  proper = propers_append past more p q;
  world = f ∙ ap (λ (u : World). run u more) e ∙ sym (run-append w₀ past more);
  both = b;
}

pub both-swap : {z : Pair} → Both z → Both (swap_pair z)
both-swap b = record { own = b.peer; peer = b.own }

module _ (w₀ : World) (start : Good w₀) (z : Pair) (f : Follows w₀ z) (v : Happening) (p : ProperHappening v) where
  module _ (k : Lasts z.world) where
    good : Good z.world
    good = rw (f k).world (at-run w₀ (f k).events (f k).proper start)

    at_own : Followed w₀ (happen z v)
    at_own = by (act_traces z (f k).both (arrives z.world good k) v p)
      where
        by : Traces (happen z v) z.world → Followed w₀ (happen z v)
        by (once u q t) = followed_more (happen z v) (f k).events (f k).proper (f k).world ((true, u) ∷ []) (q, tt) t.world t.both
        by (twice u u' q q' t) = followed_more (happen z v) (f k).events (f k).proper (f k).world ((true, u) ∷ (true, u') ∷ []) (q, (q', tt)) t.world t.both

    at_peer : Followed w₀ (swap_pair (happen (swap_pair z) v))
    at_peer = by (act_traces (swap_pair z) (both-swap (f k).both) (arrives (swap z.world) (at-swap z.world good) k) v p)
      where
        by : Traces (happen (swap_pair z) v) (swap z.world) → Followed w₀ (swap_pair (happen (swap_pair z) v))
        by (once u q t) = followed_more (swap_pair (happen (swap_pair z) v)) (f k).events (f k).proper (f k).world ((false, u) ∷ []) (q, tt) (ap swap t.world) (both-swap t.both)
        by (twice u u' q q' t) =
            followed_more (swap_pair (happen (swap_pair z) v)) (f k).events (f k).proper (f k).world ((false, u) ∷ (false, u') ∷ []) (q, (q', tt)) (ap swap t.world) (both-swap t.both)

  pub step_follows : (side : Bool) → Follows w₀ (happening_at z side v)
  step_follows true k = at_own (act_lasted z v k)
  step_follows false k = at_peer (act_lasted (swap_pair z) v k)

pub run_follows : (w₀ : World) → Good w₀ → (z : Pair) (vs : List (Bool × Happening)) → AllProperHappenings vs → Follows w₀ z → Follows w₀ (run_stored z vs)
run_follows w₀ start z [] p f = f
run_follows w₀ start z (v ∷ vs) p f = run_follows w₀ start (happening_at z v.0 v.1) vs p.1 (step_follows w₀ start z f v.1 p.0 v.0)
