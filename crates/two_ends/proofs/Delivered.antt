-- The oldest message of a line is delivered. Assumes nothing.
use Rattle.std.specs.Prelude.{Result}
use Prim.Native.Nat.{ℕ}
use mathlib.Core.Bool.{Bool, false, not, true}
use mathlib.Core.List.{[], List, ◌∷◌}
use mathlib.Core.Path.{◌≡◌, refl}
use Rattle.octets.specs.Pick.{both, pick}
use Rattle.octets.proofs.Choice.{both_true}
use Rattle.protocol.specs.declared.Answer.{Answer}
use Rattle.protocol.specs.declared.Start.{Start}
use Rattle.protocol.specs.Init.{init_received, init_start}
use Rattle.protocol.specs.Phases.{awaits}
use Rattle.protocol.specs.Receive.{receive}
use Rattle.protocol.specs.Step.{Step}
use Rattle.two_ends.specs.Calls.{anew, beginning, delivery, greeted, greets, keeps, receives, took}
use Rattle.two_ends.specs.World.{End, Lasts, World}
use Rattle.two_ends.proofs.Acts.{hearer}
use Rattle.two_ends.proofs.Arriving.{alive_arrives, carried_arrives}
use Rattle.two_ends.proofs.Greeted.{greet_first}
use Rattle.two_ends.proofs.Invariant.{Good}
use Rattle.two_ends.proofs.Oldest.{Oldests, by_oldest}
use Rattle.two_ends.proofs.Resuming.{greet_again}
use Rattle.two_ends.proofs.Worlds.{Settled, at-replaced}

module _ (w : World) (g : Good w) where
  -- ---- what it leaves of the end, whichever it is
  abbrev Heard : End → List ℕ → List (List ℕ) → Type 0
  Heard e m rest = keeps (hearer e m) ≡ true → Settled (hearer e m) w.b w.ab rest

  each : Oldests Heard w.b w.ab
  each = record {
    firsts = λ now t h id p said ack qs l i k. greet_first now t h id p said ack i l;
    agains = λ now t h id p said a qs i k. greet_again now t h id p said a i k;
    alives = λ now re sent h id n qs i k. alive_arrives now re sent h id n i k;
    carries = λ now re sent h m n ack qs i k. carried_arrives now re sent h m n ack i k;
  }

  module _ (m : List ℕ) (rest : List (List ℕ)) (on : w.a.joined ≡ true) (line : w.ba ≡ m ∷ rest) where
    heard : Lasts w → Heard w.a m rest
    heard k = by_oldest Heard w.b w.ab each w.a m rest on (rw line at (g k))

    abbrev st : Result Start Answer
    st = init_start w.a.state w.a.phase m

    abbrev x : Step
    x = init_received w.a.state w.a.phase m

    abbrev y : Step
    y = receive w.a.state w.a.phase m

    delivers : (b : Bool) → awaits w.a.phase ≡ b → Good (pick b (greets w rest st x) (receives w m rest y))
    delivers true e =
        at-replaced (beginning w st x) (greeted w.a st x) w.ab rest (λ lasts k.
        (rw e at (heard (lasts.0, (both_true w.unreleased (not (both w.a.begun (anew st x))) lasts.1).0))) k)
    delivers false e = at-replaced w (took w.a m y) w.ab rest (λ lasts k. (rw e at (heard lasts)) k)

  -- ---- the event
  pub at_delivers : Good (delivery w.a.joined w.ba w)
  at_delivers = by w.a.joined w.ba refl refl
    where
      by : (jo : Bool) (line : List (List ℕ)) → w.a.joined ≡ jo → w.ba ≡ line → Good (delivery jo line w)
      by false line e f = g
      by true [] e f = g
      by true (m ∷ rest) e f = delivers m rest e f (awaits w.a.phase) refl
