-- The answers to what is delivered between the two ends.
use Rattle.std.specs.Prelude.{ℕ, true, List, ◌∷◌, ◌≡◌}
use Rattle.octets.specs.Pick.{pick}
use Rattle.protocol.specs.declared.Answer.{Answer}
use Rattle.protocol.specs.Init.{init_received}
use Rattle.protocol.specs.Phases.{awaits}
use Rattle.protocol.specs.Receive.{receive}
use Rattle.two_ends.specs.World.{End, World}

-- what the end answers to the message m, through the call that its phase asks for
abbrev pub answer_to : End → List ℕ → Answer
answer_to e m = pick (awaits e.phase) (init_received e.state e.phase m).answer (receive e.state e.phase m).answer

-- the answers that come: no other of the table does, so not 20, 22, 23, 30, 31, 32, 33 nor 34
pub data Comes : Answer → Type 0 where
  -- 0
  taken : Comes Answer.Done
  -- 21: a Mapping that needs a word, and none is free
  no_word : Comes Answer.NoWordForMapping
  -- 35: the peer's owner opened with other parameters
  changed : Comes Answer.ParametersChanged
  -- 36: the peer's owner submitted a message that bears a Status with E set
  fatal : Comes Answer.StatusFatal

-- whatever is delivered to the end a
abbrev pub AllCome : World → Type 0
AllCome w = (m : List ℕ) (rest : List (List ℕ)) → w.a.joined ≡ true → w.ba ≡ m ∷ rest → Comes (answer_to w.a m)
