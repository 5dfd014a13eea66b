-- Over any run: nothing lost, nothing twice. Assumes nothing.
use Prim.Native.Nat.{ℕ, ◌≤◌, ◌+◌}
use mathlib.Core.Bool.{Bool, true, false}
use mathlib.Core.List.{List, [], ◌∷◌, ◌++◌}
use mathlib.Core.Path.{◌≡◌, sym, ap, ◌∙◌}
use native.Mathlib.Omega.{arith}
use lib.ListN.{length, take, drop, length-append, take-append-drop}
use lib.Seq.{take-take, length-take-le}
use Rattle.protocol.specs.State.{State}
use Rattle.two_ends.specs.Demand.{Opens, held_messages, Safe, Demand, letgo_read, held_read, accepted_read}
use Rattle.two_ends.specs.LeftOut.{without}
use Rattle.two_ends.specs.Runs.{Event, submits, sends, keepalives, opens, passes, delivers, breaks, notices, restarts, ProperEvent, act, event_at, run, AllProperEvents}
use Rattle.two_ends.specs.Start.{Opener, start, Fit, Afresh}
use Rattle.two_ends.specs.World.{End, World, swap, Lasts}
use Rattle.two_ends.proofs.Arriving.{f}
use Rattle.two_ends.proofs.Begun.{at-start}
use Rattle.two_ends.proofs.Delivered.{at_delivers}
use Rattle.two_ends.proofs.Gaps.{without-append}
use Rattle.two_ends.proofs.Invariant.{side_of, Ready, Dir, Good}
use Rattle.two_ends.proofs.Opening.{at_opens}
use Rattle.two_ends.proofs.Packets.{Packet}
use Rattle.two_ends.proofs.Positions.{num}
use Rattle.two_ends.proofs.Resting.{at_notices, at_restarts, at-passes}
use Rattle.two_ends.proofs.Room.{refused_at_64}
use Rattle.two_ends.proofs.Sending.{at_sends}
use Rattle.two_ends.proofs.Submitting.{at_submits}
use Rattle.two_ends.proofs.Worlds.{at-broken, at-swap}
use Rattle.two_ends.proofs.Writing.{at_keepalives}

-- ---- every event keeps the invariant
at-act : (w : World) (v : Event) → ProperEvent v → Good w → Good (act w v)
at-act w (submits m) p g = at_submits w m p g
at-act w (sends ask room) p g = at_sends w ask room g
at-act w (keepalives id room) p g = at_keepalives w id room p g
at-act w (opens id q t room) p g = at_opens w id q t room p.0 p.1 g
at-act w (passes elapsed) p g = at-passes w elapsed g
at-act w delivers p g = at_delivers w g
at-act w breaks p g = at-broken w g
at-act w notices p g = at_notices w g
at-act w restarts p g = at_restarts w g

pub at-step : (w : World) (s : Bool) (v : Event) → ProperEvent v → Good w → Good (event_at w s v)
at-step w true v p g = at-act w v p g
at-step w false v p g = at-swap (act (swap w) v) (at-act (swap w) v p (at-swap w g))

pub at-run : (w : World) (vs : List (Bool × Event)) → AllProperEvents vs → Good w → Good (run w vs)
at-run w [] p g = g
at-run w (v ∷ vs) p g = at-run (event_at w v.0 v.1) vs p.1 (at-step w v.0 v.1 p.0 g)

-- ---- what it says of one direction
pub opening : (left : List ℕ) (n : ℕ) (l : List (List ℕ)) → Opens (without left 0 (take n l)) (without left 0 l)
opening left n l = record {
  rest = without left (0 + length (take n l)) (drop n l);
  whole = sym (without-append left 0 (take n l) (drop n l)) ∙ ap (without left 0) (take-append-drop n l);
}

-- the state that counts is that of an end that has begun
begun_state : (x : End) → x.begun ≡ true → (side_of x).state ≡ x.state
begun_state x g = rw g

-- a number by its place is one by the length of the history up to there
by_length : (acc : List (List ℕ)) {gone : List (List ℕ)} (k : ℕ) {n : ℕ} → gone ≡ take k acc → k ≤ length acc → n ≡ num k → n ≡ num (length gone)
by_length acc k e l n = n ∙ ap num (sym (ap length e ∙ length-take-le k acc l))

pub safe : {x y : End} {to fro : List Packet} → Ready x → Dir (side_of x) (side_of y) to fro → Safe x y
safe {x} {y} r d =
    let p = d.half in
    let b = p.books in
    let acc = x.history.accepted in
    let left = x.history.left in
    let rest : x.begun ≡ true → x.history.letgo ++ held_messages x ≡ acc =
    λ g. rw b.rel (ap (λ (q : List (List ℕ)). take p.r acc ++ q) (ap (λ (s : State). s.queue) (sym (begun_state x g)) ∙ b.que) ∙ take-append-drop p.r acc) in
    let read : x.begun ≡ true → letgo_read x ++ held_read x ≡ accepted_read x =
    λ g. let at : 0 + length x.history.letgo ≡ length x.history.letgo = omega arith in
    sym (rw at at (without-append left 0 x.history.letgo (held_messages x))) ∙ ap (without left 0) (rest g) in
    record {
      in_order = rw b.sec (opening left p.s acc);
      let_go_is = rw (b.sec, b.rel, ← (take-take p.r p.s acc b.rs)) (opening left p.r (take p.s acc));
      rest-held = read;
      counts = λ g. ap length (sym (read g)) ∙ length-append (letgo_read x) (held_read x);
      at_most = r.few;
      slots = rest;
      only = λ j e. (p.marks j e).1;
      released = λ g. ap (λ (s : State). s.released.0) (sym (begun_state x g)) ∙ by_length acc p.r b.rel (omega (arith, b.rs, b.si, b.ia)) b.is_r;
      secured = λ g. record {
        position = p.s;
        within = omega (arith, b.si, b.ia);
        number = ap (λ (s : State). s.secured.0) (sym (begun_state y g)) ∙ b.is_s;
        all = b.sec;
      };
    }

-- ---- THE THEOREM: over every run from such a start, as long as neither end has released its state
pub nothing_lost : (x y : Opener) → Fit x → Fit y → Afresh x y → (vs : List (Bool × Event)) → AllProperEvents vs → Lasts (run (start x y) vs) → Demand (run (start x y) vs)
nothing_lost x y fx fy f vs p k =
    let i = (at-run (start x y) vs p (at-start x y fx fy f) k).2 in
    record {
      there = safe i.own i.out;
      back = safe i.peer i.back;
      own = λ m. (refused_at_64 x y fx fy vs m).0;
      peer = λ m. (refused_at_64 x y fx fy vs m).1;
    }
