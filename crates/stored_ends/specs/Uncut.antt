-- A run in which no power is lost: each event is made whole.
use Rattle.std.specs.Prelude.{ℕ, Bool, List, [], ◌∷◌, replicate}
use Rattle.two_ends.specs.Runs.{Event, submits, sends, keepalives, opens, passes, delivers, breaks, notices, restarts}
use Rattle.stored_ends.specs.Pair.{Happening, whole}

-- the bytes that are lent for the output of an event: zeros, as many as it names
abbrev pub lent_for : Event → List ℕ
lent_for (submits m) = []
lent_for (sends ask room) = replicate room 0
lent_for (keepalives id room) = replicate room 0
lent_for (opens id p t room) = replicate room 0
lent_for (passes elapsed) = []
lent_for delivers = []
lent_for breaks = []
lent_for notices = []
lent_for restarts = []

abbrev pub uncut : List (Bool × Event) → List (Bool × Happening)
uncut [] = []
uncut (v ∷ vs) = (v.0, whole v.1 (lent_for v.1)) ∷ uncut vs
