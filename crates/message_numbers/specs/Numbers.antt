-- Distances and the next number as numbers.
use Rattle.std.specs.Prelude.{Result, ℕ, Option, Some, None, ℤ, pos}
use Rattle.ft_number.specs.declared.TurnError.{TurnError}
use Rattle.ft_number.specs.Distance.{distance_number}
use Rattle.ft_number.specs.Turn.{turn_gap, turn_number}
use Rattle.message_numbers.specs.declared.DistanceNumbers.{DistanceNumbers}
use Rattle.message_numbers.specs.declared.NextNumbers.{NextNumbers}

-- "answer 0 or 2; steps 0 with 2"
abbrev pub distance_numbers : Option ℤ → DistanceNumbers
distance_numbers (Some n) = record { answer = distance_number (Some n); steps = n }
distance_numbers None = record { answer = distance_number None; steps = pos 0 }

-- "0 and how many were left out (0 to 63; unresumed 0); 20, 0; 30, 0 for number zero"
abbrev pub next_numbers : Result ℕ TurnError → NextNumbers
next_numbers turn = record { answer = turn_number turn; leftout = turn_gap turn }
