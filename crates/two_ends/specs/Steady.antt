-- Owners that open as at the start, submit nothing that bears a Status with E set, and let no timeout pass.
use Rattle.std.specs.Prelude.{Some, ℕ, Bool, true, false, List, [], ◌∷◌, ◌≡◌}
use Rattle.message.specs.declared.Message.{Message}
use Rattle.message.specs.Reading.{reading_of}
use Rattle.message_writer.specs.declared.OwnParameters.{OwnParameters}
use Rattle.protocol.specs.declared.Answer.{Answer}
use Rattle.protocol.specs.Phases.{waiting}
use Rattle.protocol.specs.Receive.{is_fatal}
use Rattle.protocol.specs.TimePassed.{expired}
use Rattle.two_ends.specs.Answers.{answer_to}
use Rattle.two_ends.specs.Runs.{Event, submits, sends, keepalives, opens, passes, delivers, breaks, notices, restarts, event_at}
use Rattle.two_ends.specs.World.{World, swap}

-- "36: Status with E set" does not come of it
abbrev pub Mild : List ℕ → Type 0
Mild m = (g : Message) → reading_of m ≡ Some g → is_fatal g.status ≡ false

-- an event at the end a, whose owner opened with these parameters at the start
abbrev pub Steadily : OwnParameters → World → Event → Type 0
Steadily o w (submits m) = Mild m
Steadily o w (sends ask room) = Unit {0}
Steadily o w (keepalives id room) = Unit {0}
-- "Equal means the two stored ones"
Steadily o w (opens id p t room) = (p.keepalive ≡ o.keepalive) × (p.pdulength ≡ o.pdulength)
Steadily o w (passes elapsed) = waiting w.a.phase ≡ true → expired w.a.state elapsed ≡ true → ⊥
Steadily o w delivers = Unit {0}
Steadily o w breaks = Unit {0}
Steadily o w notices = Unit {0}
Steadily o w restarts = Unit {0}

-- the owners of a and of b opened with oa and ob
abbrev pub SteadilyAt : OwnParameters → OwnParameters → World → Bool → Event → Type 0
SteadilyAt oa ob w true v = Steadily oa w v
SteadilyAt oa ob w false v = Steadily ob (swap w) v

abbrev pub AllSteady : OwnParameters → OwnParameters → World → List (Bool × Event) → Type 0
AllSteady oa ob w [] = Unit {0}
AllSteady oa ob w (v ∷ vs) = SteadilyAt oa ob w v.0 v.1 × AllSteady oa ob (event_at w v.0 v.1) vs

-- the answers that then come to what is delivered: 0, and 21
pub data Calm : Answer → Type 0 where
  taken : Calm Answer.Done
  no_word : Calm Answer.NoWordForMapping

abbrev pub AllCalm : World → Type 0
AllCalm w = (m : List ℕ) (rest : List (List ℕ)) → w.a.joined ≡ true → w.ba ≡ m ∷ rest → Calm (answer_to w.a m)
