-- The acknowledgement decision: "An ACK is right if it is R or one of the numbers up to I; it releases every message through it.
-- Anything else, zero after R has moved included, is a sequence error."
use Rattle.std.specs.Prelude.{Option, Some, None, ℕ, ltb}
use Rattle.octets.specs.Pick.{pick}
use Rattle.ft_number.specs.Circle.{steps_of}

-- 01's number: "34: ACK sequence error"
abbrev pub ack_number : Option ℕ → ℕ
ack_number (Some k) = 0
ack_number None = 34

-- k steps lead to what is acknowledged, n to what was issued
abbrev pub in_window : Option ℕ → Option ℕ → Option ℕ
in_window (Some k) (Some n) = pick (ltb n k) None (Some k)
in_window (Some k) None = None
in_window None n = None

-- what acknowledging a does, with r released and i issued
unfoldable pub ack_of : ℕ → ℕ → ℕ → Option ℕ
ack_of r i a = in_window (steps_of r a) (steps_of r i)
