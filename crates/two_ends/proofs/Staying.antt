-- Over every run: with no event that releases, neither end releases its state. Assumes nothing.
use Rattle.std.specs.Prelude.{Ok, Err}
use Prim.Native.Nat.{◌≤◌, ℕ}
use mathlib.Core.Bool.{Bool, false, true, true≢false}
use mathlib.Core.List.{[], List, map, ◌∷◌}
use mathlib.Core.Logic.{⊎_elim}
use mathlib.Core.Path.{◌≡◌, refl, sym, ◌∙◌}
use native.Mathlib.Omega.{arith}
use Rattle.octets.specs.Pick.{both}
use Rattle.octets.proofs.Choice.{pick_all}
use Rattle.ft_number.specs.declared.FtNumber.{FtNumber}
use Rattle.ft_number.specs.declared.MessageId.{MessageId}
use Rattle.ft_number.specs.declared.Timeout.{Timeout}
use Rattle.message_writer.specs.declared.OwnParameters.{OwnParameters}
use Rattle.protocol.specs.declared.Answer.{Answer}
use Rattle.protocol.specs.declared.Phase.{Phase}
use Rattle.protocol.specs.declared.Start.{Start}
use Rattle.protocol.specs.Acked.{acked}
use Rattle.protocol.specs.Answers.{answer_number}
use Rattle.protocol.specs.Begin.{restore}
use Rattle.protocol.specs.ConnectionFailed.{connection_failed}
use Rattle.protocol.specs.Init.{init_start, resumed}
use Rattle.protocol.specs.KeepAlive.{keepalive}
use Rattle.protocol.specs.Open.{open_session}
use Rattle.protocol.specs.Phases.{up_with, waiting_for}
use Rattle.protocol.specs.Receive.{receive}
use Rattle.protocol.specs.Send.{send_next}
use Rattle.protocol.specs.State.{State}
use Rattle.protocol.specs.Step.{Step}
use Rattle.protocol.specs.Submit.{submit}
use Rattle.protocol.specs.TimePassed.{time_passed}
use Rattle.protocol.proofs.Begins.{changed as changed-init}
use Rattle.protocol.proofs.Moves.{Moves, alive_moves, notice_moves, open_moves, receive-frees, restore_moves, send_moves, submit_moves, time_moves}
use Rattle.two_ends.specs.Answers.{answer_to}
use Rattle.two_ends.specs.Calls.{accepts, disconnected, called, counts, keeps, plainly, put, on, replaced, sent_history}
use Rattle.two_ends.specs.Runs.{AllProperEvents, Event, act, breaks, delivers, keepalives, notices, opens, passes, restarts, run, sends, event_at, submits}
use Rattle.two_ends.specs.Start.{Afresh, Fit, Opener, start}
use Rattle.two_ends.specs.Staying.{Stays, Releasing, ReleasingAt, NoneReleases}
use Rattle.two_ends.specs.World.{End, History, Lasts, World, swap}
use Rattle.two_ends.proofs.Acts.{by_delivery, by_open, by_plain, by_submit, by_write, hearer, still}
use Rattle.two_ends.proofs.Begun.{at-start}
use Rattle.two_ends.proofs.Invariant.{Good, Inv}
use Rattle.two_ends.proofs.Oldest.{Oldests, by_oldest}
use Rattle.two_ends.proofs.Packets.{Packet, again, alive, bytes_of, carried}
use Rattle.two_ends.proofs.Resuming.{again-begins, again-start}
use Rattle.two_ends.proofs.Starting.{terms}
use Rattle.two_ends.proofs.Theorem.{at-run, at-step}
use Rattle.two_ends.proofs.Worlds.{at-swap, ended, kept_one, next}

both_are : {a b : Bool} → a ≡ true → b ≡ true → both a b ≡ true
both_are p q = rw (p, q)

-- ---- an event that leaves both states kept
broken_stays : (v : World) → Stays v → Stays (disconnected v)
broken_stays v s = record { lasts = (both_are s.lasts.0 (both_are s.ours s.theirs), s.lasts.1); ours = s.ours; theirs = s.theirs }

keeps_one : (e : End) → e.state.kept ≡ true → keeps e ≡ true
keeps_one e k = pick_all (λ (b : Bool). b ≡ true) e.begun k refl

-- ---- a message is delivered to an end that has begun, and is answered below 30
module _ (b : End) (ab : List (List ℕ)) where
  pub record Holds (e : End) (m : List ℕ) : Type 0 where
    pub begun : (hearer e m).begun ≡ true
    pub keeping : keeps (hearer e m) ≡ true
    pub same : (u : Bool) → u ≡ true → still u e m ≡ true

  abbrev Mildly : End → List ℕ → List (List ℕ) → Type 0
  Mildly e m rest = e.begun ≡ true → (30 ≤ answer_number (answer_to e m) → ⊥) → Holds e m

  resumed_holds : (now : State) (t : ℕ) (h : History) (id : MessageId) (p : OwnParameters) (said : Timeout) (a : FtNumber) {qs : List Packet} {ba : List (List ℕ)} {pa : List Packet}
      → Inv (ended now (waiting_for t) true true h) b ab ba pa (again id p said a ∷ qs)
      → Mildly (ended now (waiting_for t) true true h) (bytes_of (again id p said a)) (map bytes_of qs)
  unfolding resumed acked
  resumed_holds now t h id p said a i g low =
      let m = bytes_of (again id p said a) in
      let ts = terms now t id p said in
      let st = again-start now t h id p said a i in
      ⊎_elim
      (λ (e : init_start now (waiting_for t) m ≡ Ok (Start.Resumed ts st.0 a)).
      let d = again-begins now t h id p said a i st.0 e in
      record { begun = refl; keeping = rw d (kept_one i.own); same = λ u k. rw (d, e, k) })
      (λ (e : init_start now (waiting_for t) m ≡ Err Answer.ParametersChanged). absurd (low (rw (changed-init now t m e) (omega arith))))
      st.2

  taken_holds : (now : State) (re : Bool) (sent : ℕ) (h : History) (m : List ℕ) {q : Packet} {qs : List Packet} {ba : List (List ℕ)} {pa : List Packet} → Inv (ended now (up_with re sent) true true h) b ab ba pa (q ∷ qs)
      → (30 ≤ answer_number (receive now (up_with re sent) m).answer → ⊥) → Holds (ended now (up_with re sent) true true h) m
  taken_holds now re sent h m i low = record { begun = refl; keeping = (receive-frees now (up_with re sent) m low).1.kept ∙ kept_one i.own; same = λ u k. k }

  each : Oldests Mildly b ab
  each = record {
    firsts = λ now t h id p said ack qs lead i g. absurd (true≢false (sym g));
    agains = λ now t h id p said a qs i. resumed_holds now t h id p said a i;
    alives = λ now re sent h id n qs i g. taken_holds now re sent h (bytes_of (alive id n)) i;
    carries = λ now re sent h m n ack qs i g. taken_holds now re sent h (bytes_of (carried m n ack)) i;
  }

-- ---- every event
module _ (w : World) (g : Good w) (s : Stays w) where
  abbrev now : State
  now = w.a.state

  abbrev ph : Phase
  ph = w.a.phase

  pub one : now.kept ≡ true
  one = rw s.ours at (g s.lasts).2.own.keeping

  -- a call that leaves kept
  next_stays : (e : End) (ab ba : List (List ℕ)) → e.begun ≡ true → e.state.kept ≡ now.kept → Stays (next w e ab ba)
  next_stays e ab ba o k = record { lasts = (s.lasts.0, both_are s.lasts.1 (keeps_one e (k ∙ one))); ours = o; theirs = s.theirs }

  called_stays : (x : Step) (h : History) (ab ba : List (List ℕ)) → x.state.kept ≡ now.kept → Stays (next w (called w.a x h) ab ba)
  called_stays x h ab ba k = next_stays (called w.a x h) ab ba s.ours k

  write_stays : (x : Step) (h : History) → x.state.kept ≡ now.kept → Stays (replaced w (called w.a x h) (put w.a.joined w.ab x) w.ba)
  write_stays x h k = by_write Stays broken_stays w x h (called_stays x h (put w.a.joined w.ab x) w.ba k)

  plain_stays : (x : Step) → x.state.kept ≡ now.kept → Stays (plainly w x)
  plain_stays x k = by_plain Stays broken_stays w x (called_stays x w.a.history w.ab w.ba k)

  submit_kept : (m : List ℕ) → (submit now ph m).state.kept ≡ now.kept
  submit_kept m =
      ⊎_elim (λ (a : Moves now (submit now ph m).state 0 []). a.kept) (λ (a : Moves now (submit now ph m).state 0 (m ∷ [])). a.kept) (submit_moves now ph m)

  act_stays : (v : Event) → (Releasing w v → ⊥) → Stays (act w v)
  act_stays (submits m) n =
      let x = submit now ph m in
      by_submit Stays broken_stays w m x (called_stays x (counts w.a x (accepts m w.a.history)) w.ab w.ba (submit_kept m))
  act_stays (sends ask room) n = write_stays (send_next now ph ask room) (sent_history w.a (send_next now ph ask room)) (send_moves now ph ask room).kept
  act_stays (keepalives id room) n = write_stays (keepalive now ph id room) w.a.history (alive_moves now ph id room).kept
  act_stays (opens id p t room) n =
      let x = open_session now ph id p t room in
      let k = (open_moves now ph id p t room).kept in
      by_open Stays broken_stays w x (next_stays (on (called w.a x w.a.history)) (put true w.ab x) w.ba s.ours k) (called_stays x w.a.history w.ab w.ba k)
  act_stays (passes elapsed) n = plain_stays (time_passed now ph elapsed) (time_moves now ph elapsed (λ t e. n (t, e))).kept
  act_stays delivers n =
      by_delivery Stays broken_stays w s (λ m rest on line.
      let d = by_oldest (Mildly w.b w.ab) w.b w.ab (each w.b w.ab) w.a m rest on (rw line at (g s.lasts)) s.ours
      (λ low. n (record { message = m; rest = rest; on = on; line = line; answer = low })) in
      record { lasts = (s.lasts.0, both_are (d.same w.unreleased s.lasts.1) d.keeping); ours = d.begun; theirs = s.theirs })
  act_stays breaks n = broken_stays w s
  act_stays notices n = plain_stays (connection_failed now ph) (notice_moves now ph).kept
  act_stays restarts n = plain_stays (restore now) (restore_moves now ph).kept

-- ---- over a run
swap_stays : (w : World) → Stays w → Stays (swap w)
swap_stays w s = record { lasts = s.lasts; ours = s.theirs; theirs = s.ours }

pub step_stays : (w : World) (at : Bool) (v : Event) → Good w → Stays w → (ReleasingAt w at v → ⊥) → Stays (event_at w at v)
step_stays w true v g s n = act_stays w g s v n
step_stays w false v g s n = swap_stays (act (swap w) v) (act_stays (swap w) (at-swap w g) (swap_stays w s) v n)

run_stays : (w : World) (vs : List (Bool × Event)) → AllProperEvents vs → Good w → Stays w → NoneReleases w vs → Stays (run w vs)
run_stays w [] p g s n = s
run_stays w (v ∷ vs) p g s n = run_stays (event_at w v.0 v.1) vs p.1 (at-step w v.0 v.1 p.0 g) (step_stays w v.0 v.1 g s n.0) n.1

-- once both ends have begun, only a passed timeout, 35 or 36 releases a state
pub still_kept : (x y : Opener) → Fit x → Fit y → Afresh x y → (us vs : List (Bool × Event)) → AllProperEvents us → AllProperEvents vs
    → Stays (run (start x y) us) → NoneReleases (run (start x y) us) vs → Lasts (run (run (start x y) us) vs)
still_kept x y fx fy f us vs pu pv s n = (run_stays (run (start x y) us) vs pv (at-run (start x y) us pu (at-start x y fx fy f)) s n).lasts
