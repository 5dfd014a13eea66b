-- The next number. 01: "a protected one must bear the successor of S". 02, ticket 3: "On a resumed connection (UpFT bears which) accept a number 1 to 64 steps ahead
-- of S. The test of the next number now says how many were left out. .. 20 is given only for numbers outside that range, or on an unresumed connection for any but the successor."
use Rattle.std.specs.Prelude.{Result, Ok, Err, Option, Some, None, ℕ, zero, suc, Bool, true, false, eqb, ltb}
use Rattle.octets.specs.Pick.{pick}
use Rattle.ft_number.specs.declared.TurnError.{TurnError}
use Rattle.ft_number.specs.Circle.{steps_of}

-- 01's numbers: "20: number out of turn", "30: zero number"
abbrev pub turn_number : Result ℕ TurnError → ℕ
turn_number (Ok k) = 0
turn_number (Err TurnError.OutOfTurn) = 20
turn_number (Err TurnError.ZeroNumber) = 30

-- how many were left out before a number that is in turn
abbrev pub turn_gap : Result ℕ TurnError → ℕ
turn_gap (Ok k) = k
turn_gap (Err TurnError.OutOfTurn) = 0
turn_gap (Err TurnError.ZeroNumber) = 0

-- how many steps ahead of S a number may be: "1 to 64" on a resumed connection, else the successor alone
abbrev pub farthest : Bool → ℕ
farthest true = 64
farthest false = 1

-- so many steps lead to it: the one before the last of them is that of the last one left out
abbrev pub steps_turn : ℕ → Option ℕ → Result ℕ TurnError
steps_turn far None = Err TurnError.OutOfTurn
steps_turn far (Some zero) = Err TurnError.OutOfTurn
steps_turn far (Some (suc k)) = pick (ltb k far) (Ok k) (Err TurnError.OutOfTurn)

-- the number n, with s secured; zero is no number
unfoldable pub number_turn : Bool → ℕ → ℕ → Result ℕ TurnError
number_turn resumed s n = pick (eqb n 0) (Err TurnError.ZeroNumber) (steps_turn (farthest resumed) (steps_of s n))
