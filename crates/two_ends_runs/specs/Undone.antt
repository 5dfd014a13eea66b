-- Runs in which a Request is left out, since its Abort is held behind it when it would be sent again.
use Rattle.std.specs.Prelude.{ℕ, suc, Bool, true, false, List, [], ◌∷◌, ◌++◌, replicate}
use Rattle.two_ends.specs.LeftOut.{is_left}
use Rattle.two_ends.specs.Runs.{Event, breaks, notices, submits}
use Rattle.two_ends.specs.World.{World}
use Rattle.two_ends_runs.specs.Cabinets.{abort, address, alive, deliver, many, offer, reopen, request, send}
use Rattle.two_ends_runs.specs.Tales.{Ending, begin, ending}
use Rattle.two_ends_runs.specs.Wrap.{rounds, sevens}

-- of messages from position p on, whether each was left out
abbrev pub marked : List ℕ → ℕ → List (List ℕ) → List Bool
marked left p [] = []
marked left p (m ∷ ms) = is_left left p ∷ marked left (suc p) ms

-- an ending, and which of the messages that a accepted it has left out
pub record Omission : Type 0 where
  pub ending : Ending
  pub left : List Bool

abbrev pub omission : World → Omission
omission w = record { ending = ending w; left = marked w.a.history.left 0 w.a.history.accepted }

abbrev asks : Bool × Event
asks = (true, submits (request 5))

abbrev aborts : Bool × Event
aborts = (true, submits (abort 6 5))

-- the connection breaks, both notice, and both open again and read the other's Init
abbrev reconnect : List (Bool × Event)
reconnect = (true, breaks) ∷ (true, notices) ∷ (false, notices) ∷ reopen true ∷ reopen false ∷ deliver true ∷ deliver false ∷ []

-- ---- a sends a Request, which is lost in a break, and then aborts it. On the next connection the Request is left out: the Abort goes out with its own number 2,
-- b jumps from 0 to it, and the ACK of 2 lets both go
abbrev pub undone : World
undone = begin (asks ∷ send true ∷ aborts ∷ reconnect ++ (send true ∷ deliver false ∷ alive false ∷ deliver true ∷ []))

abbrev pub undone_ends : Omission
undone_ends = record {
  ending = record {
    accepted = request 5 ∷ abort 6 5 ∷ [];
    letgo = request 5 ∷ abort 6 5 ∷ [];
    held = [];
    secured = abort 6 5 ∷ [];
    released = 2;
    issued = 2;
    last = 2;
    started = true;
    unreleased = true;
  };
  left = true ∷ false ∷ [];
}

-- ---- the Abort comes in mid re-issue, when 7 is sent again and the Request behind it not yet: then the Request is left out, and 8 is sent in its place
abbrev pub midway : World
midway =
    begin
    (offer true 7 ∷ asks ∷ offer true 8 ∷ send true ∷ send true ∷ send true
    ∷ reconnect ++ (send true ∷ aborts ∷ send true ∷ send true ∷ deliver false ∷ deliver false ∷ deliver false ∷ alive false ∷ deliver true ∷ []))

abbrev pub midway_ends : Omission
midway_ends = record {
  ending = record {
    accepted = address 7 ∷ request 5 ∷ address 8 ∷ abort 6 5 ∷ [];
    letgo = address 7 ∷ request 5 ∷ address 8 ∷ abort 6 5 ∷ [];
    held = [];
    secured = address 7 ∷ address 8 ∷ abort 6 5 ∷ [];
    released = 4;
    issued = 4;
    last = 4;
    started = true;
    unreleased = true;
  };
  left = false ∷ true ∷ false ∷ false ∷ [];
}

-- ---- a Request that was sent again before its Abort is not left out; nor is one that has no number yet
abbrev pub resent : World
resent = begin (asks ∷ send true ∷ reconnect ++ (send true ∷ aborts ∷ send true ∷ deliver false ∷ deliver false ∷ []))

abbrev pub resent_ends : Omission
resent_ends = record {
  ending = record {
    accepted = request 5 ∷ abort 6 5 ∷ [];
    letgo = [];
    held = request 5 ∷ abort 6 5 ∷ [];
    secured = request 5 ∷ abort 6 5 ∷ [];
    released = 0;
    issued = 2;
    last = 2;
    started = true;
    unreleased = true;
  };
  left = false ∷ false ∷ [];
}

abbrev pub pended : World
pended = begin (asks ∷ aborts ∷ reconnect ++ (send true ∷ send true ∷ deliver false ∷ deliver false ∷ []))

-- ---- a Request left out keeps its slot: with 64 held, it at the head of them, the 65th is refused; once the ACK has passed it there is room again
abbrev pub headed : List (Bool × Event) → World
headed vs = begin (asks ∷ send true ∷ aborts ∷ many 62 ++ reconnect ++ (send true ∷ deliver false ∷ vs))

abbrev pub headed_ends : Omission
headed_ends = record {
  ending = record {
    accepted = request 5 ∷ abort 6 5 ∷ replicate 62 (address 7);
    letgo = [];
    held = request 5 ∷ abort 6 5 ∷ replicate 62 (address 7);
    secured = abort 6 5 ∷ [];
    released = 0;
    issued = 2;
    last = 2;
    started = true;
    unreleased = true;
  };
  left = true ∷ false ∷ replicate 62 false;
}

abbrev pub passed_ends : Omission
passed_ends = record {
  ending = record {
    accepted = (request 5 ∷ abort 6 5 ∷ replicate 62 (address 7)) ++ (address 8 ∷ []);
    letgo = request 5 ∷ abort 6 5 ∷ [];
    held = replicate 62 (address 7) ++ (address 8 ∷ []);
    secured = abort 6 5 ∷ [];
    released = 2;
    issued = 2;
    last = 2;
    started = true;
    unreleased = true;
  };
  left = true ∷ false ∷ replicate 63 false;
}

-- ---- the wrap inside a jump: the Request has number 0xFFFFFFFF, and the Abort 1
abbrev pub leap : List (Bool × Event)
leap = asks ∷ send true ∷ aborts ∷ reconnect ++ (send true ∷ deliver false ∷ alive false ∷ deliver true ∷ [])

abbrev pub leaping : World
leaping = begin (rounds 0xFFFFFFFE ++ leap)

abbrev pub leapt : List (List ℕ) → Ending
leapt before = record {
  accepted = (before ++ (request 5 ∷ [])) ++ (abort 6 5 ∷ []);
  letgo = before ++ (request 5 ∷ abort 6 5 ∷ []);
  held = [];
  secured = before ++ (abort 6 5 ∷ []);
  released = 1;
  issued = 1;
  last = 1;
  started = true;
  unreleased = true;
}

abbrev pub leap_ends : Ending
leap_ends = leapt (sevens 0xFFFFFFFE)
