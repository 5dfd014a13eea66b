-- What persists between the two ends holds over every run. Assumes nothing.
use Prim.Native.Nat.{ℕ}
use mathlib.Core.Bool.{Bool, false, true}
use mathlib.Core.List.{◌++◌, List, [], ◌∷◌}
use mathlib.Core.Path.{◌≡◌, refl, sym, ◌∙◌, ap}
use native.Mathlib.Omega.{arith}
use lib.ListN.{length}
use Rattle.octets.specs.Pick.{pick, both}
use Rattle.octets.proofs.Choice.{both_true, by_test}
use Rattle.protocol.specs.declared.Phase.{Phase}
use Rattle.protocol.specs.Answers.{is_done}
use Rattle.protocol.specs.Begin.{restore}
use Rattle.protocol.specs.ConnectionFailed.{connection_failed}
use Rattle.protocol.specs.KeepAlive.{keepalive}
use Rattle.protocol.specs.Open.{open_session}
use Rattle.protocol.specs.Phases.{sent_of}
use Rattle.protocol.specs.Send.{send_next, send_rule, send_room, send_deed}
use Rattle.protocol.specs.State.{State, released_state}
use Rattle.protocol.specs.Step.{Step, admitted}
use Rattle.protocol.specs.Submit.{submit}
use Rattle.protocol.specs.TimePassed.{time_passed}
use Rattle.protocol.proofs.Sends.{sendable}
use Rattle.protocol.proofs.Settling.{admitted-done}
use Rattle.two_ends.specs.Calls.{accepts, disconnected, called, counts, keeps, plainly, wrote, sent_history, leaves_out}
use Rattle.two_ends.specs.LeftOut.{is_left}
use Rattle.two_ends.specs.Match.{AllSubmitSo, SubmitsSo, SubmitsSoAt}
use Rattle.two_ends.specs.Runs.{AllProperEvents, Event, act, breaks, delivers, keepalives, notices, opens, passes, restarts, run, sends, event_at, submits}
use Rattle.two_ends.specs.Start.{Afresh, Fit, Opener, start}
use Rattle.two_ends.specs.World.{History, Lasts, World, no_history, swap}
use Rattle.two_ends.proofs.Acts.{by_delivery, by_open, by_plain, by_submit, by_write, lasted}
use Rattle.two_ends.proofs.Begun.{at-start}
use Rattle.two_ends.proofs.Hearing.{Between, Heard, hears}
use Rattle.two_ends.proofs.Invariant.{side_of, Good}
use Rattle.two_ends.proofs.Leaving.{alive-leaves, notice_leaves, open_leaves, send-leaves, submit-leaves, time_leaves}
use Rattle.two_ends.proofs.NoRequests.{accepted_in, no_requests, no_requests-append, no_requests-left}
use Rattle.two_ends.proofs.Oldest.{by_oldest}
use Rattle.two_ends.proofs.Persisting.{Any, Persists, PersistsWhere}
use Rattle.two_ends.proofs.Sending.{sends_up}
use Rattle.two_ends.proofs.Sharing.{cancel}
use Rattle.two_ends.proofs.Theorem.{at-step, safe}
use Rattle.two_ends.proofs.Worlds.{at-swap, next}

abbrev pub Persisted : (State → History → State → History → Type 0) → World → Type 0
Persisted R w = Lasts w → Between R w.a w.b

module _ {May : State → List ℕ → Type 0} {R : State → History → State → History → Type 0} (c : PersistsWhere May R) where
  -- ---- every event
  broken_persists : (v : World) → Persisted R v → Persisted R (disconnected v)
  broken_persists v l k = l ((both_true v.started (both v.a.begun v.b.begun) k.0).0, k.1)

  module _ (w : World) (g : Good w) (l : Persisted R w) where
    abbrev now : State
    now = w.a.state

    abbrev ph : Phase
    ph = w.a.phase

    abbrev h : History
    h = w.a.history

    -- with the peer as it is
    abbrev By : State → History → Type 0
    By s k = R s k (side_of w.b).state w.b.history

    -- an end that has begun has what the call leaves; one that has not counts as released
    call_persists : (x : Step) (k : History) → (w.a.begun ≡ false → k ≡ h) → (Lasts w → w.a.begun ≡ true → By now h → x.state.kept ≡ true → By x.state k)
        → Persisted R (next w (called w.a x k) w.ab w.ba)
    call_persists x k no_history does lasts = by w.a.begun refl
      where
        kept : Lasts w × (keeps (called w.a x k) ≡ true)
        kept = let p = both_true w.unreleased (keeps (called w.a x k)) lasts.1 in ((lasts.0, p.0), p.1)

        by : (b : Bool) → w.a.begun ≡ b → By (pick b x.state released_state) k
        by true e = does kept.0 e (rw e at (l kept.0)) (rw e at kept.1)
        by false e = rw (no_history e) (rw e at (l kept.0))

    plain_persists : (x : Step) → (By now h → x.state.kept ≡ true → By x.state h) → Persisted R (next w (called w.a x h) w.ab w.ba)
    plain_persists x does = call_persists x h (λ e. refl) (λ lasts e m. does m)

    -- what the peer has not secured of what was accepted
    unsecured : Lasts w → (o : List (List ℕ)) × (accepted_in h ≡ w.b.history.secured ++ o)
    unsecured k =
        let i = (g k).2 in
        let s = (safe i.own i.out).in_order in
        (s.rest, sym s.whole)

    -- nothing is left out behind the last accepted
    unmarked : Lasts w → is_left h.left (length h.accepted) ≡ false
    unmarked k =
        let p = (g k).2.out.half in
        by_test (is_left h.left (length h.accepted)) (λ t. absurd (omega (arith, (p.marks (length h.accepted) t).0, p.books.ia))) (λ f. f)

    -- what a Send leaves out are Requests: the rest of what the peer has not secured is the same before and after
    leaves_requests : Lasts w → (ask : Bool) (room : ℕ) → is_done (admitted now ph (send_rule now ph (send_room now ph ask room))) ≡ true
        → (o : List (List ℕ)) × (p : List (List ℕ)) × (accepted_in h ≡ w.b.history.secured ++ o) × (accepted_in (leaves_out (sent_of ph) (send_deed now ph ask) h) ≡ w.b.history.secured ++ p)
        × (no_requests o ≡ no_requests p)
    leaves_requests k ask room d =
        let sec = w.b.history.secured in
        let before = unsecured k in
        let u = sends_up now w.a.joined h ask ph w.a.begun (sendable now ph (send_room now ph ask room) (admitted-done now ph (send_rule now ph (send_room now ph ask room)) d)) (g k) in
        let i = u.1.2 in
        let after = (safe i.own i.out).in_order in
        let all : no_requests sec ++ no_requests before.0 ≡ no_requests sec ++ no_requests after.rest =
        sym (no_requests-append sec before.0) ∙ ap no_requests (sym before.1)
        ∙ no_requests-left h.left h.accepted (λ j e. ((g k).2.out.half.marks j e).1)
        ∙ sym (no_requests-left (leaves_out (sent_of ph) (send_deed now ph ask) h).left h.accepted (λ j e. (i.out.half.marks j e).1))
        ∙ ap no_requests (sym after.whole) ∙ no_requests-append sec after.rest in
        (before.0, after.rest, before.1, sym after.whole, cancel (no_requests sec) (no_requests before.0) (no_requests after.rest) all)

    -- a call that neither reads nor writes a line, and one that writes
    plainly_persists : (x : Step) → (By now h → x.state.kept ≡ true → By x.state h) → Persisted R (plainly w x)
    plainly_persists x does = by_plain (Persisted R) broken_persists w x (plain_persists x does)

    wrote_persists : (x : Step) → (By now h → x.state.kept ≡ true → By x.state h) → Persisted R (wrote w x)
    wrote_persists x does = by_write (Persisted R) broken_persists w x h (plain_persists x does)

    act_persists : (v : Event) → SubmitsSo May w v → Persisted R (act w v)
    act_persists (submits m) may =
        let x = submit now ph m in
        by_submit (Persisted R) broken_persists w m x
        (call_persists x (counts w.a x (accepts m h)) (λ e. rw e)
        (λ lasts e m' kept. rw e (let o = unsecured lasts in submit-leaves c now ph h m' m o.0 o.1 (unmarked lasts) may kept)))
    act_persists (sends ask room) so =
        let x = send_next now ph ask room in
        by_write (Persisted R) broken_persists w x (sent_history w.a x)
        (call_persists x (sent_history w.a x) (λ e. rw e) (λ lasts e m kept. rw e (send-leaves c now ph h m ask room (leaves_requests lasts ask room) kept)))
    act_persists (keepalives id room) so = wrote_persists (keepalive now ph id room) (λ m. alive-leaves c now ph h m id room)
    act_persists (opens id p t room) so =
        let leaves = plain_persists (open_session now ph id p t room) (λ m. open_leaves c now ph h m id p t room) in
        by_open (Persisted R) broken_persists w (open_session now ph id p t room) leaves leaves
    act_persists (passes elapsed) so = plainly_persists (time_passed now ph elapsed) (λ m. time_leaves c now ph h m elapsed)
    act_persists delivers so =
        by_delivery (Persisted R) broken_persists w l (λ m rest on line lasts.
        let k = lasted w m rest lasts in
        by_oldest (Heard c w.b w.ab) w.b w.ab (hears c w.b w.ab) w.a m rest on (rw line at (g k.0)) (l k.0) k.1)
    act_persists breaks so = broken_persists w l
    act_persists notices so = plainly_persists (connection_failed now ph) (λ m. notice_leaves c now ph h m)
    act_persists restarts so = plainly_persists (restore now) (λ m kept. c.ended m)

  -- ---- over a run
  pub swap_persists : (w : World) → Persisted R w → Persisted R (swap w)
  swap_persists w l k = c.swapped (l k)

  step_where : (w : World) (at : Bool) (v : Event) → SubmitsSoAt May w at v → Good w → Persisted R w → Persisted R (event_at w at v)
  step_where w true v so g l = act_persists w g l v so
  step_where w false v so g l = swap_persists (act (swap w) v) (act_persists (swap w) (at-swap w g) (swap_persists w l) v so)

  run_persists : (w : World) (vs : List (Bool × Event)) → AllProperEvents vs → AllSubmitSo May w vs → Good w → Persisted R w → Persisted R (run w vs)
  run_persists w [] p so g l = l
  run_persists w (v ∷ vs) p so g l =
      run_persists (event_at w v.0 v.1) vs p.1 so.1 (at-step w v.0 v.1 p.0 g) (step_where w v.0 v.1 so.0 g l)

  pub persisted_where : (x y : Opener) → Fit x → Fit y → Afresh x y → (vs : List (Bool × Event)) → AllProperEvents vs → AllSubmitSo May (start x y) vs → Persisted R (run (start x y) vs)
  persisted_where x y fx fy f vs p so = run_persists (start x y) vs p so (at-start x y fx fy f) (λ k. c.none)

-- ---- whatever the owners submit
any-event : (w : World) (v : Event) → SubmitsSo Any w v
any-event w (submits m) = tt
any-event w (sends ask room) = tt
any-event w (keepalives id room) = tt
any-event w (opens id p t room) = tt
any-event w (passes elapsed) = tt
any-event w delivers = tt
any-event w breaks = tt
any-event w notices = tt
any-event w restarts = tt

any_at : (w : World) (at : Bool) (v : Event) → SubmitsSoAt Any w at v
any_at w true v = any-event w v
any_at w false v = any-event (swap w) v

any_all : (w : World) (vs : List (Bool × Event)) → AllSubmitSo Any w vs
any_all w [] = tt
any_all w (v ∷ vs) = (any_at w v.0 v.1, any_all (event_at w v.0 v.1) vs)

pub step_persists : {R : State → History → State → History → Type 0} → Persists R → (w : World) (at : Bool) (v : Event) → Good w → Persisted R w → Persisted R (event_at w at v)
step_persists c w at v g l = step_where c w at v (any_at w at v) g l

pub persisted : {R : State → History → State → History → Type 0} → Persists R → (x y : Opener) → Fit x → Fit y → Afresh x y → (vs : List (Bool × Event)) → AllProperEvents vs → Persisted R (run (start x y) vs)
persisted c x y fx fy f vs p = persisted_where c x y fx fy f vs p (any_all (start x y) vs)
