-- What a call at the end a makes of the world: each is the protocol's own rule.
use Rattle.std.specs.Prelude.{Result, Ok, Err, Option, Some, None, ℕ, ◌+◌, ◌-◌, Bool, true, false, not, List, [], ◌∷◌, ◌++◌, length, take}
use Rattle.octets.specs.Pick.{pick, both}
use Rattle.message.specs.declared.Message.{Message}
use Rattle.message.specs.Reading.{reading_of}
use Rattle.message_writer.specs.Payload.{payload_of}
use Rattle.protocol.specs.declared.Answer.{Answer}
use Rattle.protocol.specs.declared.Start.{Start}
use Rattle.protocol.specs.Answers.{is_done}
use Rattle.protocol.specs.Init.{init_start, init_received}
use Rattle.protocol.specs.Labels.{is_protected}
use Rattle.protocol.specs.Phases.{awaits, connected, sent_of}
use Rattle.protocol.specs.Receive.{receive}
use Rattle.protocol.specs.State.{State}
use Rattle.protocol.specs.Step.{Step}
use Rattle.two_ends.specs.LeftOut.{positions}
use Rattle.two_ends.specs.World.{History, End, World}

-- ---- the connection
abbrev pub off : End → End
off e = record { state = e.state; phase = e.phase; joined = false; begun = e.begun; history = e.history }

-- "A connection delivers whole messages in order until it breaks ..; none passes from an old one to a new one": nothing that is under way arrives,
-- and neither end is on it any more. A connection that breaks before both ends have begun afresh on it is no start
abbrev pub disconnected : World → World
disconnected w = record {
  a = off w.a;
  b = off w.b;
  ab = [];
  ba = [];
  started = both w.started (both w.a.begun w.b.begun);
  unreleased = w.unreleased;
}

-- an end that is in no connected phase any more has broken the connection that it was on
abbrev pub closed : World → World
closed w = pick (both w.a.joined (not (connected w.a.phase))) (disconnected w) w

-- "As long as neither end has released its state": with kept 0 it has
abbrev pub keeps : End → Bool
keeps e = pick e.begun e.state.kept true

-- ---- a call
-- the end with the state and the phase that the call leaves
abbrev pub called : End → Step → History → End
called e x h = record { state = x.state; phase = x.phase; joined = e.joined; begun = e.begun; history = h }

abbrev pub replaced : World → End → List (List ℕ) → List (List ℕ) → World
replaced w e ab ba = closed (record { a = e; b = w.b; ab = ab; ba = ba; started = w.started; unreleased = both w.unreleased (keeps e) })

-- a call that neither writes nor reads a line
abbrev pub plainly : World → Step → World
plainly w x = replaced w (called w.a x w.a.history) w.ab w.ba

-- output of a call that is done, at an end on the connection
abbrev pub put : Bool → List (List ℕ) → Step → List (List ℕ)
put joined line x = pick (both joined (is_done x.answer)) (line ++ (x.output ∷ [])) line

-- a history counts what a call does that is done, from the fresh UpFT on
abbrev pub counts : End → Step → History → History
counts e x h = pick (both e.begun (is_done x.answer)) h e.history

-- ---- Submit: a message that is accepted
abbrev pub accepts : List ℕ → History → History
accepts m h = record { accepted = h.accepted ++ (m ∷ []); letgo = h.letgo; secured = h.secured; left = h.left }

abbrev pub offered : World → List ℕ → Step → World
offered w m x = replaced w (called w.a x (counts w.a x (accepts m w.a.history))) w.ab w.ba

-- ---- Send next: of the messages not counted as sent it leaves out as many of the oldest as it tells. The oldest held stands behind those let go
abbrev pub leaves_out : ℕ → Step → History → History
leaves_out sent x h = record {
  accepted = h.accepted;
  letgo = h.letgo;
  secured = h.secured;
  left = h.left ++ positions (length h.letgo + sent) x.leftout;
}

abbrev pub sent_history : End → Step → History
sent_history e x = counts e x (leaves_out (sent_of e.phase) x e.history)

abbrev pub sent : World → Step → World
sent w x = replaced w (called w.a x (sent_history w.a x)) (put w.a.joined w.ab x) w.ba

-- ---- KeepAlive, Open
abbrev pub wrote : World → Step → World
wrote w x = replaced w (called w.a x w.a.history) (put w.a.joined w.ab x) w.ba

abbrev pub on : End → End
on e = record { state = e.state; phase = e.phase; joined = true; begun = e.begun; history = e.history }

-- an end that has opened is on the present connection, and its Init is the first on its line
abbrev pub opened : World → Step → World
opened w x = pick (is_done x.answer) (replaced w (on (called w.a x w.a.history)) (put true w.ab x) w.ba) (plainly w x)

-- ---- the oldest message of the line is delivered
-- the messages that left the queue: the oldest, as many as it is now shorter
abbrev pub let_go : State → Step → List (List ℕ)
let_go now x = take (length now.queue - length x.state.queue) now.queue

-- a protected message, in the form in which it was submitted
abbrev pub protects : Option Message → Bool
protects None = false
protects (Some g) = is_protected g.protection

abbrev pub securing : List ℕ → List (List ℕ)
securing m = pick (protects (reading_of m)) (payload_of m ∷ []) []

abbrev pub takes : List (List ℕ) → List (List ℕ) → History → History
takes gone got h = record { accepted = h.accepted; letgo = h.letgo ++ gone; secured = h.secured ++ got; left = h.left }

-- the peer's Init
abbrev pub is_fresh : Result Start Answer → Bool
is_fresh (Err a) = false
is_fresh (Ok Start.Plain) = false
is_fresh (Ok (Start.Fresh t)) = true
is_fresh (Ok (Start.Resumed t k a)) = false

abbrev pub anew : Result Start Answer → Step → Bool
anew st x = both (is_done x.answer) (is_fresh st)

abbrev pub greeted : End → Result Start Answer → Step → End
greeted e st x = record {
  state = x.state;
  phase = x.phase;
  joined = e.joined;
  begun = pick e.begun true (anew st x);
  history = counts e x (takes (let_go e.state x) [] e.history);
}

-- a fresh session at an end that has begun is a state released
abbrev pub beginning : World → Result Start Answer → Step → World
beginning w st x = record {
  a = w.a;
  b = w.b;
  ab = w.ab;
  ba = w.ba;
  started = w.started;
  unreleased = both w.unreleased (not (both w.a.begun (anew st x)));
}

abbrev pub greets : World → List (List ℕ) → Result Start Answer → Step → World
greets w rest st x = replaced (beginning w st x) (greeted w.a st x) w.ab rest

-- any other message
abbrev pub took : End → List ℕ → Step → End
took e m x = called e x (counts e x (takes (let_go e.state x) (securing m) e.history))

abbrev pub receives : World → List ℕ → List (List ℕ) → Step → World
receives w m rest x = replaced w (took w.a m x) w.ab rest

abbrev pub delivered : World → List ℕ → List (List ℕ) → World
delivered w m rest =
    pick (awaits w.a.phase)
    (greets w rest (init_start w.a.state w.a.phase m) (init_received w.a.state w.a.phase m))
    (receives w m rest (receive w.a.state w.a.phase m))

-- an end that is not on the connection reads nothing of it
abbrev pub delivery : Bool → List (List ℕ) → World → World
delivery false line w = w
delivery true [] w = w
delivery true (m ∷ rest) w = delivered w m rest
