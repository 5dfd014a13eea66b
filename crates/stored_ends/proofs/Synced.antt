-- An end and its cabinet: the image stands for the end's state, and an owner who stores what the calls tell has that image on the medium. Assumes nothing.
use Rattle.std.specs.Prelude.{Result, Ok, Err, Option, Some, None}
use Prim.Native.Nat.{ℕ, ◌<◌}
use mathlib.Core.Bool.{Bool, true, false, not}
use mathlib.Core.List.{List}
use mathlib.Core.Path.{◌≡◌, ap, ◌∙◌}
use native.Mathlib.Omega.{arith}
use lib.ListN.{length}
use Rattle.octets.specs.Pick.{pick, both}
use Rattle.octets.proofs.Choice.{pick_all}
use Rattle.ft_number.specs.Timeout.{proposed_of, millis_of}
use Rattle.message.specs.declared.Message.{Message}
use Rattle.message.specs.Reading.{reading_of}
use Rattle.protocol.specs.declared.Answer.{Answer}
use Rattle.protocol.specs.declared.Phase.{Phase}
use Rattle.protocol.specs.declared.Start.{Start}
use Rattle.protocol.specs.Calls.{Call, formats, restores, fails, opens, greets, passes, submits, sends, keeps-alive, receives, step}
use Rattle.protocol.specs.Init.{init_start, start_phase}
use Rattle.protocol.specs.Judged.{done}
use Rattle.protocol.specs.Phases.{connected, proposal_of, resting_phase}
use Rattle.protocol.specs.Proper.{Proper}
use Rattle.protocol.specs.Receive.{taken_as}
use Rattle.protocol.specs.State.{State}
use Rattle.protocol.specs.Step.{Step, released_with, unchanged}
use Rattle.protocol.specs.TimePassed.{expired}
use Rattle.protocol.proofs.Settles.{ends}
use Rattle.calls.specs.Outcomes.{After}
use Rattle.calls.specs.State.{state_of}
use Rattle.two_ends.specs.Calls.{disconnected, keeps, off, replaced}
use Rattle.two_ends.specs.World.{End, World}
use Rattle.call_meaning.specs.Medium.{all_stored}
use Rattle.call_meaning.specs.Standing.{Standing}
use Rattle.session.specs.Call.{leaves, makes_image}
use Rattle.session.proofs.Medium.{all_stored_lem}
use Rattle.session.proofs.Refines.{refines, stands}
use Rattle.stored_ends.specs.Pair.{Cabinet}

-- ---- the proposed timeout of the phase has 32 bits, as the code's types say
abbrev pub Timed : Phase → Type 0
Timed ph = proposal_of ph < 4294967296

resting_timed : (s : State) → Timed (resting_phase s)
resting_timed s = pick_all Timed s.kept {x = Phase.Failed} {y = Phase.Idle} (omega arith) (omega arith)

start_timed : (ph : Phase) (st : Result Start Answer) → Timed ph → Timed (start_phase ph st)
start_timed ph (Err a) t = t
start_timed ph (Ok Start.Plain) t = omega arith
start_timed ph (Ok (Start.Fresh u)) t = omega arith
start_timed ph (Ok (Start.Resumed u k a)) t = omega arith

taken_timed : (s : State) (ph : Phase) (r : Option Message) → Timed ph → Timed (taken_as s ph r).phase
taken_timed s Phase.Idle r t = t
taken_timed s (Phase.InitWait v) r t = t
taken_timed s (Phase.UpFT u) None t = t
taken_timed s (Phase.UpFT u) (Some g) t = omega arith
taken_timed s Phase.UpPlain r t = t
taken_timed s Phase.Failed r t = t

-- what a call opens with
abbrev pub Proposes : Call → Type 0
Proposes formats = Unit {0}
Proposes restores = Unit {0}
Proposes fails = Unit {0}
Proposes (opens id own proposal) = millis_of (proposed_of proposal) < 4294967296
Proposes (greets m) = Unit {0}
Proposes (passes elapsed) = Unit {0}
Proposes (submits m) = Unit {0}
Proposes (sends ask) = Unit {0}
Proposes (keeps-alive id) = Unit {0}
Proposes (receives m) = Unit {0}

module _ (s : State) (ph : Phase) (t : Timed ph) where
  done_timed : (c : Call) → Proposes c → Timed (done c s ph).phase
  unfolding done
  done_timed formats o = omega arith
  done_timed restores o = resting_timed s
  done_timed fails o = resting_timed s
  done_timed (opens id own proposal) o = o
  done_timed (greets m) o = start_timed ph (init_start s ph m) t
  done_timed (passes elapsed) o =
      pick_all (λ (x : Step). Timed x.phase) (expired s elapsed) {x = released_with Answer.Done} {y = unchanged Answer.Done s ph} (omega arith) t
  done_timed (submits m) o = t
  done_timed (sends ask) o = omega arith
  done_timed (keeps-alive id) o = t
  done_timed (receives m) o = taken_timed s ph (reading_of m) t

  step_timed : (c : Call) → Proposes c → (room : ℕ) → Timed (step c s ph room).phase
  step_timed c o room = ends c s ph room (λ (x : Step). Timed x.phase) (λ e. t) (λ e. resting_timed s) (λ e. omega arith) (λ e. done_timed c o)

-- ---- an end of the world and its cabinet
pub record Synced (e : End) (c : Cabinet) : Type 0 where
  pub stand : Standing c.image e.phase
  pub state : e.state ≡ state_of c.image
  pub medium : c.medium ≡ c.image
  pub timed : Timed e.phase

abbrev pub after : List ℕ → After → Cabinet
after medium x = record { image = x.image; medium = all_stored medium x }

pub synced_off : {e : End} {c : Cabinet} → Synced e c → Synced (off e) c
synced_off s = record { stand = s.stand; state = s.state; medium = s.medium; timed = s.timed }

-- a call made and stored
module _ (c : Call) (other : makes_image c ≡ false) (im : List ℕ) (ph : Phase) (out : List ℕ) (st : Standing im ph) (p : Proper c ph) (t : Timed ph) (o : Proposes c) where
  called_timed : Timed (leaves c im ph out).outcome.phase
  called_timed = rw (ap (λ (x : Step). x.phase) (refines im ph st out c p)) (step_timed (state_of im) ph t c o (length out))

  pub synced_called : (medium : List ℕ) → medium ≡ im → (e : End) → e.state ≡ state_of (leaves c im ph out).image → e.phase ≡ (leaves c im ph out).outcome.phase
      → Synced e (after medium (leaves c im ph out))
  synced_called medium m e s q = record {
    stand = rw q (stands im ph st out c p);
    state = s;
    medium = ap (λ (l : List ℕ). all_stored l (leaves c im ph out)) m ∙ all_stored_lem c im ph out other st;
    timed = rw q called_timed;
  }

-- the world after it
abbrev closes : End → Bool
closes e = both e.joined (not (connected e.phase))

pub synced_replaced : (w : World) (e : End) (ab ba : List (List ℕ)) {c d : Cabinet} → Synced e c → Synced w.b d
    → Synced (replaced w e ab ba).a c × Synced (replaced w e ab ba).b d
synced_replaced w e ab ba {c} {d} s r = by (closes e)
  where
    next : World
    next = record { a = e; b = w.b; ab = ab; ba = ba; started = w.started; unreleased = both w.unreleased (keeps e) }

    by : (k : Bool) → Synced (pick k (disconnected next) next).a c × Synced (pick k (disconnected next) next).b d
    by true = (synced_off s, synced_off r)
    by false = (s, r)
