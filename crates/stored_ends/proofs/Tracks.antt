-- Each happening at one end is one event of the rules' world, or two. Assumes nothing.
use Prim.Native.Nat.{ℕ, ◌<◌}
use mathlib.Core.Bool.{Bool, true, false}
use mathlib.Core.List.{List, [], ◌∷◌}
use mathlib.Core.Path.{◌≡◌, refl, sym, ap, ◌∙◌}
use native.Mathlib.Omega.{arith}
use lib.Dec.{ltb}
use lib.ListN.{length}
use borrow.Author.Tests.{ltb-true}
use Rattle.octets.specs.Bytes.{Bytes}
use Rattle.octets.specs.Pick.{pick}
use Rattle.ft_number.specs.declared.MessageId.{MessageId}
use Rattle.ft_number.specs.declared.Proposal.{Proposal}
use Rattle.ft_number.specs.Timeout.{proposed_of, millis_of}
use Rattle.ft_number.proofs.Timeouts.{millis_fits}
use Rattle.message_writer.specs.declared.OwnParameters.{OwnParameters}
use Rattle.image.specs.State.{decode}
use Rattle.image.specs.Verdict.{verdict}
use Rattle.image.proofs.Sound.{parts_sound, sound_parts}
use Rattle.protocol.specs.declared.Answer.{Answer}
use Rattle.protocol.specs.declared.Phase.{Phase}
use Rattle.protocol.specs.Answers.{is_done}
use Rattle.protocol.specs.Begin.{restore}
use Rattle.protocol.specs.Calls
use Rattle.protocol.specs.Calls.{Call, step}
use Rattle.protocol.specs.ConnectionFailed.{connection_failed}
use Rattle.protocol.specs.Init.{init_received, init_start}
use Rattle.protocol.specs.KeepAlive.{keepalive}
use Rattle.protocol.specs.Open.{open_session}
use Rattle.protocol.specs.Phases.{awaits}
use Rattle.protocol.specs.Proper as rules
use Rattle.protocol.specs.Receive.{receive}
use Rattle.protocol.specs.Send.{send_next}
use Rattle.protocol.specs.State.{State}
use Rattle.protocol.specs.Step.{Step}
use Rattle.protocol.specs.Submit.{submit}
use Rattle.protocol.specs.TimePassed.{time_passed}
use Rattle.calls.specs.Outcomes.{After, untouched}
use Rattle.calls.specs.State.{state_of}
use Rattle.two_ends.specs.Calls.{accepts, beginning, disconnected, called, counts, delivery, greeted, greets, on, opened, plainly, put, receives, replaced, offered, took, wrote, sent, sent_history}
use Rattle.two_ends.specs.Runs.{Event, ProperEvent, act, breaks, delivers, keepalives, notices, opens, passes, restarts, sends, submits, ProposalFits}
use Rattle.two_ends.specs.World.{End, World}
use Rattle.two_ends.proofs.Opening.{proposed_fits}
use Rattle.call_meaning.specs.Medium.{Same, committed, stores}
use Rattle.call_meaning.specs.Seen.{seen}
use Rattle.call_meaning.specs.Standing.{Standing}
use Rattle.session.specs.Call.{leaves, makes_image}
use Rattle.session.proofs.Medium.{fewer_same}
use Rattle.session.proofs.Refines.{refines}
use Rattle.stored_ends.specs.Pair.{Cabinet, Lent, Pair, cut_short, left, made, received, restarted, delivery_after}
use Rattle.stored_ends.proofs.Synced.{Proposes, Synced, after, synced_called, synced_off, synced_replaced}

-- the bytes under way to an end
abbrev pub Arrives : List (List ℕ) → Type 0
Arrives [] = Unit {0}
Arrives (m ∷ rest) = Bytes m

-- both ends and their cabinets
pub record Both (z : Pair) : Type 0 where
  pub own : Synced z.world.a z.own
  pub peer : Synced z.world.b z.peer

-- the pair after it, seen as the world w
pub record Tracks (z : Pair) (w : World) : Type 0 where
  pub world : z.world ≡ w
  pub both : Both z

pub proposed_low : (t : Proposal) → ProposalFits t → millis_of (proposed_of t) < 4294967296
proposed_low t f = millis_fits (proposed_of t) (proposed_fits t f)

-- ---- the call of an end
module _ (w : World) (own peer : Cabinet) (s : Synced w.a own) (r : Synced w.b peer) where
  abbrev im : List ℕ
  im = own.image

  abbrev ph : Phase
  ph = w.a.phase

  abbrev z : Pair
  z = record { world = w; own = own; peer = peer }

  -- what the rules say of the state that the end has in the world
  ruled_a : (c : Call) (out : List ℕ) → rules.Proper c ph → (f : State → Step) → step c (state_of im) ph (length out) ≡ f (state_of im) → seen (leaves c im ph out) ≡ f w.a.state
  ruled_a c out p f e = refines im ph s.stand out c p ∙ e ∙ ap f (sym s.state)

  -- the world after a call that leaves such an end
  pair_after : (c : Call) (out : List ℕ) → makes_image c ≡ false → rules.Proper c ph → Proposes c → (u : World) (e : End) (ab ba : List (List ℕ)) → u.b ≡ w.b
      → e.state ≡ state_of (leaves c im ph out).image → e.phase ≡ (leaves c im ph out).outcome.phase
      → Both (record { world = replaced u e ab ba; own = after own.medium (leaves c im ph out); peer = peer })
  pair_after c out other p o u e ab ba same st q =
      let there : Synced u.b peer = rw same r in
      let b = synced_replaced u e ab ba (synced_called c other im ph out s.stand p s.timed o own.medium s.medium e st q) there in
      record { own = b.0; peer = b.1 }

  submits_tracks : (m out : List ℕ) → Bytes m → Tracks (made z (submits m) out) (act w (submits m))
  unfolding step
  submits_tracks m out byte = record {
    world = ap (offered w m) (ruled_a (Calls.submits m) [] byte (λ (t : State). submit t ph m) refl);
    both =
        pair_after (Calls.submits m) [] refl byte tt w
        (called w.a (seen (leaves (Calls.submits m) im ph [])) (counts w.a (seen (leaves (Calls.submits m) im ph [])) (accepts m w.a.history))) w.ab w.ba refl refl refl;
  }

  sends_tracks : (ask : Bool) (room : ℕ) (out : List ℕ) → room ≡ length out → Tracks (made z (sends ask room) out) (act w (sends ask room))
  unfolding step
  sends_tracks ask room out l = record {
    world = ap (sent w) (ruled_a (Calls.sends ask) out tt (λ (t : State). send_next t ph ask (length out)) refl) ∙ ap (λ (n : ℕ). sent w (send_next w.a.state ph ask n)) (sym l);
    both =
        pair_after (Calls.sends ask) out refl tt tt w (called w.a (seen (leaves (Calls.sends ask) im ph out)) (sent_history w.a (seen (leaves (Calls.sends ask) im ph out))))
        (put w.a.joined w.ab (seen (leaves (Calls.sends ask) im ph out))) w.ba refl refl refl;
  }

  keepalives_tracks : (id : MessageId) (room : ℕ) (out : List ℕ) → room ≡ length out → Tracks (made z (keepalives id room) out) (act w (keepalives id room))
  unfolding step
  keepalives_tracks id room out l = record {
    world = ap (wrote w) (ruled_a (Calls.keeps-alive id) out tt (λ (t : State). keepalive t ph id (length out)) refl) ∙ ap (λ (n : ℕ). wrote w (keepalive w.a.state ph id n)) (sym l);
    both =
        pair_after (Calls.keeps-alive id) out refl tt tt w (called w.a (seen (leaves (Calls.keeps-alive id) im ph out)) w.a.history)
        (put w.a.joined w.ab (seen (leaves (Calls.keeps-alive id) im ph out))) w.ba refl refl refl;
  }

  passes_tracks : (elapsed : ℕ) (out : List ℕ) → Tracks (made z (passes elapsed) out) (act w (passes elapsed))
  unfolding step
  passes_tracks elapsed out = record {
    world = ap (plainly w) (ruled_a (Calls.passes elapsed) [] tt (λ (t : State). time_passed t ph elapsed) refl);
    both = pair_after (Calls.passes elapsed) [] refl tt tt w (called w.a (seen (leaves (Calls.passes elapsed) im ph [])) w.a.history) w.ab w.ba refl refl refl;
  }

  notices_tracks : (out : List ℕ) → Tracks (made z notices out) (act w notices)
  unfolding step
  notices_tracks out = record {
    world = ap (plainly w) (ruled_a Calls.fails [] tt (λ (t : State). connection_failed t ph) refl);
    both = pair_after Calls.fails [] refl tt tt w (called w.a (seen (leaves Calls.fails im ph [])) w.a.history) w.ab w.ba refl refl refl;
  }

  module _ (id : MessageId) (p : OwnParameters) (t : Proposal) (out : List ℕ) (low : ProposalFits t) where
    x : After
    x = leaves (Calls.opens id p t) im ph out

    opened_by_lem : (e : End) (ab : List (List ℕ)) → e.state ≡ state_of (leaves (Calls.opens id p t) im ph out).image → e.phase ≡ (leaves (Calls.opens id p t) im ph out).outcome.phase
        → Both (record { world = replaced w e ab w.ba; own = after own.medium (leaves (Calls.opens id p t) im ph out); peer = peer })
    opened_by_lem e ab st q = pair_after (Calls.opens id p t) out refl tt (proposed_low t low) w e ab w.ba refl st q

    opened_both : (b : Bool) → Both (record {
      world = pick b (replaced w (on (called w.a (seen (leaves (Calls.opens id p t) im ph out)) w.a.history)) (put true w.ab (seen (leaves (Calls.opens id p t) im ph out))) w.ba)
          (plainly w (seen (leaves (Calls.opens id p t) im ph out)));
      own = after own.medium (leaves (Calls.opens id p t) im ph out);
      peer = peer;
    })
    opened_both true =
        opened_by_lem (on (called w.a (seen (leaves (Calls.opens id p t) im ph out)) w.a.history)) (put true w.ab (seen (leaves (Calls.opens id p t) im ph out))) refl refl
    opened_both false = opened_by_lem (called w.a (seen (leaves (Calls.opens id p t) im ph out)) w.a.history) w.ab refl refl

    opens_tracks : (room : ℕ) → room ≡ length out → Tracks (made z (opens id p t room) out) (act w (opens id p t room))
    unfolding step
    opens_tracks room l = record {
      world = ap (opened w) (ruled_a (Calls.opens id p t) out tt (λ (q : State). open_session q ph id p t (length out)) refl) ∙ ap (λ (n : ℕ). opened w (open_session w.a.state ph id p t n)) (sym l);
      both = opened_both (is_done (leaves (Calls.opens id p t) im ph out).outcome.answer);
    }

  -- an event that makes no call stores nothing
  still_tracks : (v : World) → Synced v.a own → Synced v.b peer
      → Tracks (record { world = v; own = after own.medium (untouched Answer.Done ph im []); peer = peer }) v
  still_tracks v sa sb = record { world = refl; both = record { own = record { stand = sa.stand; state = sa.state; medium = sa.medium; timed = sa.timed }; peer = sb } }

  breaks_tracks : (out : List ℕ) → Tracks (made z breaks out) (act w breaks)
  breaks_tracks out = still_tracks (disconnected w) (synced_off s) (synced_off r)

  -- ---- a message delivered
  delivers_by : (jo : Bool) (line : List (List ℕ)) → Arrives line
      → Tracks (record { world = delivery_after jo line w (state_of im) (seen (received jo line im ph)); own = after own.medium (received jo line im ph); peer = peer }) (delivery jo line w)
  unfolding step
  delivers_by false line o = still_tracks w s r
  delivers_by true [] o = still_tracks w s r
  delivers_by true (m ∷ rest) o = by (awaits ph)
    where
      x : After
      x = leaves (Calls.greets m) im ph []

      y : After
      y = leaves (Calls.receives m) im ph []

      first : seen x ≡ init_received w.a.state ph m
      first = ruled_a (Calls.greets m) [] (o, s.timed) (λ (t : State). init_received t ph m) refl

      other : seen y ≡ receive w.a.state ph m
      other = ruled_a (Calls.receives m) [] o (λ (t : State). receive t ph m) refl

      by : (b : Bool) → Tracks (record {
        world = pick b (greets w rest (init_start (state_of im) ph m) (seen (pick b x y))) (receives w m rest (seen (pick b x y)));
        own = after own.medium (pick b x y);
        peer = peer;
      }) (pick b (greets w rest (init_start w.a.state ph m) (init_received w.a.state ph m)) (receives w m rest (receive w.a.state ph m)))
      by true = record {
        world = ap (λ (t : State). greets w rest (init_start t ph m) (seen x)) (sym s.state) ∙ ap (greets w rest (init_start w.a.state ph m)) first;
        both =
            pair_after (Calls.greets m) [] refl (o, s.timed) tt (beginning w (init_start (state_of im) ph m) (seen x)) (greeted w.a (init_start (state_of im) ph m) (seen x)) w.ab rest refl refl refl;
      }
      by false = record {
        world = ap (receives w m rest) other;
        both = pair_after (Calls.receives m) [] refl o tt w (took w.a m (seen y)) w.ab rest refl refl refl;
      }

-- ---- a restart: from any medium that passes the checks and stands for the state of the end
pub same_stands : {e : End} {c : Cabinet} → Synced e c → (medium : List ℕ) → Same c.image medium → Standing medium e.phase
same_stands {e} {c} s medium same = record {
  sound = sound_parts medium (same.checks ∙ parts_sound c.image s.stand.sound);
  range = rw same.state s.stand.range;
  fits = rw same.state s.stand.fits;
}

module _ (w : World) (own peer : Cabinet) (s : Synced w.a own) (r : Synced w.b peer) where
  pub restarts_tracks : (medium : List ℕ) → Same own.image medium → Tracks (restarted (record { world = w; own = own; peer = peer }) medium) (act w restarts)
  unfolding step
  restarts_tracks medium same =
      let ph = w.a.phase in
      let st : Standing medium ph = same_stands s medium same in
      let e : seen (leaves Calls.restores medium ph []) ≡ restore (state_of medium) = refines medium ph st [] Calls.restores tt in
      let q : state_of medium ≡ w.a.state = rw same.state (sym s.state) in
      let b =
      synced_replaced w (called w.a (seen (leaves Calls.restores medium ph [])) w.a.history) w.ab w.ba
      (synced_called Calls.restores refl medium ph [] st tt s.timed tt medium refl (called w.a (seen (leaves Calls.restores medium ph [])) w.a.history) refl refl) r in
      record { world = ap (plainly w) (e ∙ ap restore q); both = record { own = b.0; peer = b.1 } }

module _ (w : World) (own peer : Cabinet) (s : Synced w.a own) (r : Synced w.b peer) where
  pub made_tracks : (v : Event) (out : List ℕ) → ProperEvent v → Lent v out → Arrives w.ba → Tracks (made (record { world = w; own = own; peer = peer }) v out) (act w v)
  made_tracks (submits m) out p l o = submits_tracks w own peer s r m out p
  made_tracks (sends ask room) out p l o = sends_tracks w own peer s r ask room out l
  made_tracks (keepalives id room) out p l o = keepalives_tracks w own peer s r id room out l
  made_tracks (opens id q t room) out p l o = opens_tracks w own peer s r id q t out p.1 room l
  made_tracks (passes elapsed) out p l o = passes_tracks w own peer s r elapsed out
  made_tracks delivers out p l o = delivers_by w own peer s r w.a.joined w.ba o
  made_tracks breaks out p l o = breaks_tracks w own peer s r out
  made_tracks notices out p l o = notices_tracks w own peer s r out
  made_tracks restarts out p l o = restarts_tracks w own peer s r own.medium (record { checks = ap verdict s.medium; state = ap decode s.medium })

  -- ---- fewer stores than the call tells leave the state before it
  abbrev im' : List ℕ
  im' = own.image

  abbrev ph' : Phase
  ph' = w.a.phase

  received_fewer : (n : ℕ) (jo : Bool) (line : List (List ℕ)) → n < length (stores (received jo line im' ph').outcome) → Same im' (committed n im' (received jo line im' ph'))
  received_fewer n false line less = absurd (omega arith)
  received_fewer n true [] less = absurd (omega arith)
  received_fewer n true (m ∷ rest) less = by (awaits ph') less
    where
      by : (b : Bool) → n < length (stores (pick b (leaves (Calls.greets m) im' ph' []) (leaves (Calls.receives m) im' ph' [])).outcome)
          → Same im' (committed n im' (pick b (leaves (Calls.greets m) im' ph' []) (leaves (Calls.receives m) im' ph' [])))
      by true l = fewer_same (Calls.greets m) im' ph' [] refl s.stand n l
      by false l = fewer_same (Calls.receives m) im' ph' [] refl s.stand n l

  left_fewer : (n : ℕ) (v : Event) (out : List ℕ) → n < length (stores (left v w own out).outcome) → Same im' (committed n own.medium (left v w own out))
  left_fewer n (submits m) out less = rw s.medium (fewer_same (Calls.submits m) im' ph' [] refl s.stand n less)
  left_fewer n (sends ask room) out less = rw s.medium (fewer_same (Calls.sends ask) im' ph' out refl s.stand n less)
  left_fewer n (keepalives id room) out less = rw s.medium (fewer_same (Calls.keeps-alive id) im' ph' out refl s.stand n less)
  left_fewer n (opens id p t room) out less = rw s.medium (fewer_same (Calls.opens id p t) im' ph' out refl s.stand n less)
  left_fewer n (passes elapsed) out less = rw s.medium (fewer_same (Calls.passes elapsed) im' ph' [] refl s.stand n less)
  left_fewer n delivers out less = rw s.medium (received_fewer n w.a.joined w.ba less)
  left_fewer n breaks out less = absurd (omega arith)
  left_fewer n notices out less = rw s.medium (fewer_same Calls.fails im' ph' [] refl s.stand n less)
  left_fewer n restarts out less = rw s.medium (fewer_same Calls.restores im' ph' [] refl s.stand n (rw s.medium at less))

  -- ---- power lost in a call: it has not happened, or it has
  pub data Cut (v : Event) (y : Pair) : Type 0 where
    before : Tracks y (act w restarts) → Cut v y
    behind : Tracks y (act (act w v) restarts) → Cut v y

  pub cut_tracks : (n : ℕ) (v : Event) (out : List ℕ) → ProperEvent v → Lent v out → Arrives w.ba → Cut v (cut_short n (record { world = w; own = own; peer = peer }) v out)
  cut_tracks n v out p l o = by (ltb n (length (stores (left v w own out).outcome))) refl
    where
      z : Pair
      z = record { world = w; own = own; peer = peer }

      x : After
      x = left v w own out

      by : (b : Bool) → ltb n (length (stores x.outcome)) ≡ b
          → Cut v (pick b (restarted z (committed n own.medium x)) (restarted (made z v out) (made z v out).own.medium))
      by true less = before (restarts_tracks w own peer s r (committed n own.medium x) (left_fewer n v out (ltb-true n _ less)))
      by false less =
          let t = made_tracks v out p l o in
          let m = t.both.own.medium in
          let u =
          restarts_tracks (made z v out).world (made z v out).own peer t.both.own t.both.peer (made z v out).own.medium
          (record { checks = ap verdict m; state = ap decode m }) in
          behind (record { world = u.world ∙ ap (λ (y : World). act y restarts) t.world; both = u.both })
