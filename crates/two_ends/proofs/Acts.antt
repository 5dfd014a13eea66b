-- What holds of the world that a call makes, and what a break keeps, holds of the world after the event. Assumes nothing.
use Rattle.std.specs.Prelude.{Result}
use Prim.Native.Nat.{ℕ}
use mathlib.Core.Bool.{Bool, false, true, not}
use mathlib.Core.List.{[], List, ◌∷◌}
use mathlib.Core.Path.{◌≡◌, refl}
use Rattle.octets.specs.Pick.{pick, both}
use Rattle.octets.proofs.Choice.{pick_all, both_true}
use Rattle.protocol.specs.declared.Answer.{Answer}
use Rattle.protocol.specs.declared.Start.{Start}
use Rattle.protocol.specs.Answers.{is_done}
use Rattle.protocol.specs.Init.{init_received, init_start}
use Rattle.protocol.specs.Phases.{awaits}
use Rattle.protocol.specs.Receive.{receive}
use Rattle.protocol.specs.Step.{Step}
use Rattle.two_ends.specs.Calls.{accepts, beginning, disconnected, called, counts, delivery, greeted, greets, on, opened, plainly, put, receives, replaced, offered, took, anew, keeps}
use Rattle.two_ends.specs.World.{End, World, Lasts, History}
use Rattle.two_ends.proofs.Worlds.{closes, next}

-- ---- the end after the message m is delivered to it, as the peer's Init or as any other
abbrev pub hearer : End → List ℕ → End
hearer e m =
    pick (awaits e.phase) (greeted e (init_start e.state e.phase m) (init_received e.state e.phase m)) (took e m (receive e.state e.phase m))

-- a fresh session at an end that has begun is a state released
abbrev pub still : Bool → End → List ℕ → Bool
still u e m = pick (awaits e.phase) (both u (not (both e.begun (anew (init_start e.state e.phase m) (init_received e.state e.phase m))))) u

abbrev pub after_oldest : World → List ℕ → List (List ℕ) → World
after_oldest w m rest = record {
  a = hearer w.a m;
  b = w.b;
  ab = w.ab;
  ba = rest;
  started = w.started;
  unreleased = both (still w.unreleased w.a m) (keeps (hearer w.a m));
}

still_was : (u : Bool) (e : End) (m : List ℕ) → still u e m ≡ true → u ≡ true
still_was u e m = by (awaits e.phase)
  where
    x : Bool
    x = both e.begun (anew (init_start e.state e.phase m) (init_received e.state e.phase m))

    by : (b : Bool) → pick b (both u (not x)) u ≡ true → u ≡ true
    by true k = (both_true u (not x) k).0
    by false k = k

pub lasted : (w : World) (m : List ℕ) (rest : List (List ℕ)) → Lasts (after_oldest w m rest) → Lasts w × (keeps (hearer w.a m) ≡ true)
lasted w m rest k =
    let p = both_true (still w.unreleased w.a m) (keeps (hearer w.a m)) k.1 in
    ((k.0, still_was w.unreleased w.a m p.0), p.1)

-- ---- every event
module _ (P : World → Type 0) (broke : (v : World) → P v → P (disconnected v)) where
  by_replaced : (w : World) (e : End) (ab ba : List (List ℕ)) → P (next w e ab ba) → P (replaced w e ab ba)
  by_replaced w e ab ba p = pick_all P (closes e) (broke (next w e ab ba) p) p

  module _ (w : World) where
    pub by_plain : (x : Step) → P (next w (called w.a x w.a.history) w.ab w.ba) → P (plainly w x)
    by_plain x p = by_replaced w (called w.a x w.a.history) w.ab w.ba p

    pub by_submit : (m : List ℕ) (x : Step) → P (next w (called w.a x (counts w.a x (accepts m w.a.history))) w.ab w.ba) → P (offered w m x)
    by_submit m x p = by_replaced w (called w.a x (counts w.a x (accepts m w.a.history))) w.ab w.ba p

    -- Send next and KeepAlive, each with its history
    pub by_write : (x : Step) (h : History) → P (next w (called w.a x h) (put w.a.joined w.ab x) w.ba)
        → P (replaced w (called w.a x h) (put w.a.joined w.ab x) w.ba)
    by_write x h p = by_replaced w (called w.a x h) (put w.a.joined w.ab x) w.ba p

    pub by_open : (x : Step) → P (next w (on (called w.a x w.a.history)) (put true w.ab x) w.ba)
        → P (next w (called w.a x w.a.history) w.ab w.ba) → P (opened w x)
    by_open x p q = pick_all P (is_done x.answer) (by_replaced w (on (called w.a x w.a.history)) (put true w.ab x) w.ba p) (by_plain x q)

    -- the oldest message delivered
    heard_by : (m : List ℕ) (rest : List (List ℕ)) (st : Result Start Answer) (x y : Step) (b : Bool)
        → P (record {
          a = pick b (greeted w.a st x) (took w.a m y);
          b = w.b;
          ab = w.ab;
          ba = rest;
          started = w.started;
          unreleased = both (pick b (both w.unreleased (not (both w.a.begun (anew st x)))) w.unreleased) (keeps (pick b (greeted w.a st x) (took w.a m y)));
        })
        → P (pick b (greets w rest st x) (receives w m rest y))
    heard_by m rest st x y true p = by_replaced (beginning w st x) (greeted w.a st x) w.ab rest p
    heard_by m rest st x y false p = by_replaced w (took w.a m y) w.ab rest p

    pub by_delivery : P w → ((m : List ℕ) (rest : List (List ℕ)) → w.a.joined ≡ true → w.ba ≡ m ∷ rest → P (after_oldest w m rest)) → P (delivery w.a.joined w.ba w)
    by_delivery same p = by w.a.joined w.ba refl refl
      where
        by : (jo : Bool) (line : List (List ℕ)) → w.a.joined ≡ jo → w.ba ≡ line → P (delivery jo line w)
        by false line e f = same
        by true [] e f = same
        by true (m ∷ rest) e f =
            let now = w.a.state in
            let ph = w.a.phase in
            heard_by m rest (init_start now ph m) (init_received now ph m) (receive now ph m) (awaits ph) (p m rest e f)
