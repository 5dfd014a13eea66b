-- The Init of the start is delivered. Assumes nothing.
use Rattle.std.specs.Prelude.{Ok, Option}
use Prim.Native.Nat.{ℕ}
use mathlib.Core.Bool.{Bool, true, false, true≢false}
use mathlib.Core.List.{List, ◌∷◌, map, []}
use mathlib.Core.Logic.{inl}
use mathlib.Core.Path.{◌≡◌, refl}
use native.Mathlib.Omega.{arith}
use Rattle.ft_number.specs.declared.FtNumber.{FtNumber}
use Rattle.ft_number.specs.declared.MessageId.{MessageId}
use Rattle.ft_number.specs.declared.Timeout.{Timeout}
use Rattle.message_writer.specs.declared.OwnParameters.{OwnParameters}
use Rattle.protocol.specs.declared.Answer.{Answer}
use Rattle.protocol.specs.declared.Start.{Start}
use Rattle.protocol.specs.declared.Terms.{Terms}
use Rattle.protocol.specs.Init.{fresh, init_start, init_received}
use Rattle.protocol.specs.Phases.{up_with, waiting_for}
use Rattle.protocol.specs.State.{State}
use Rattle.protocol.specs.Step.{stepped}
use Rattle.protocol.proofs.Begins.{begins}
use Rattle.two_ends.specs.Calls.{greeted}
use Rattle.two_ends.specs.World.{History, End, no_history}
use Rattle.two_ends.proofs.Invariant.{Leads, Ready, Inv}
use Rattle.two_ends.proofs.Packets.{Packet, first, bytes_of, Fine}
use Rattle.two_ends.proofs.Starting.{terms, starts_fresh}
use Rattle.two_ends.proofs.Takes.{dir_fresh, dir_fresh_peer}
use Rattle.two_ends.proofs.Worlds.{ended, Settled}

-- the end after it
abbrev pub greeted_by : State → ℕ → Bool → History → Packet → End
greeted_by now t bg h q =
    greeted (ended now (waiting_for t) true bg h) (init_start now (waiting_for t) (bytes_of q)) (init_received now (waiting_for t) (bytes_of q))

-- ---- the Init of the start
module _ (now : State) (t : ℕ) (h : History) (id : MessageId) (p : OwnParameters) (said : Timeout) (ack : Option FtNumber) where
  abbrev m₁ : List ℕ
  m₁ = bytes_of (first id p said ack)

  abbrev ts : Terms
  ts = terms now t id p said

  pub fresh_start : Fine (first id p said ack) → Leads now.kept ack → init_start now (waiting_for t) m₁ ≡ Ok (Start.Fresh ts)
  fresh_start f l = starts_fresh now t id p said ack f l

  pub first_begins : Fine (first id p said ack) → Leads now.kept ack → init_received now (waiting_for t) m₁ ≡ stepped Answer.Done (fresh ts) (up_with false 0) []
  first_begins f l = let e = fresh_start f l in begins now t m₁ (fresh ts) (rw e) (rw e) false (rw e)

  module _ {b : End} {ab ba : List (List ℕ)} {pa qs : List Packet} where
    pub greet_first : Inv (ended now (waiting_for t) true false h) b ab ba pa (first id p said ack ∷ qs) → Leads now.kept ack
        → Settled (greeted_by now t false h (first id p said ack)) b ab (map bytes_of qs)
    unfolding fresh
    greet_first i l =
        let e = fresh_start i.back.fines.0 l in
        let d = first_begins i.back.fines.0 l in
        let nothing : h ≡ no_history = (i.own.waiting refl).nothing in
        let own : Ready (ended (fresh ts) (up_with false 0) true true h) = record {
          few = omega arith;
          possible = refl;
          keeping = refl;
          okays = i.own.okays;
          waiting = λ q. absurd (true≢false q);
          linked = λ q. refl;
        } in
        rw (e, d)
        (inl (
          refl,
          (
            pa,
            qs,
            record {
              line_a = i.line_a;
              line_b = refl;
              own = own;
              peer = i.peer;
              out = rw nothing (dir_fresh now.kept t ts true id p said ack (rw nothing at i.out));
              back = rw nothing (dir_fresh_peer now.kept t ts true id p said ack (rw nothing at i.back));
              agree = i.agree;
            },
          ),
        ))
