-- The FT reconnection timeout. 01: "the agreed timeout is the lesser of both, zero counting as infinite"; 02: "The proposal used where the owner gives none becomes 30."
-- 02: "The draft became RFC 3479. Its FT Session TLV has length 12 and counts milliseconds"; "the session writes the one its owner names, in whose unit it proposes".
use Rattle.std.specs.Prelude.{ℕ, zero, suc, min, ◌*◌, ◌^◌, ◌<◌}
use Rattle.ft_number.specs.declared.Form.{Form}
use Rattle.ft_number.specs.declared.Proposal.{Proposal}
use Rattle.ft_number.specs.declared.Timeout.{Timeout}

-- the lesser of two timeouts in one unit, whatever the unit; zero counts as infinite
unfoldable pub lesser_of : ℕ → ℕ → ℕ
lesser_of zero b = b
lesser_of (suc a) zero = suc a
lesser_of (suc a) (suc b) = min (suc a) (suc b)

abbrev pub millis_per_second : ℕ
millis_per_second = 1000

-- a timeout in the one unit that is kept inside, milliseconds; zero stays zero, for ever
abbrev pub millis_of : Timeout → ℕ
millis_of (Timeout.Seconds s) = s * millis_per_second
millis_of (Timeout.Milliseconds n) = n

-- the seconds proposed where the owner gives none
abbrev pub default_timeout : ℕ
default_timeout = 30

-- the same in the unit of a form
abbrev pub default_in : Form → Timeout
default_in Form.Draft = Timeout.Seconds default_timeout
default_in Form.Published = Timeout.Milliseconds (default_timeout * millis_per_second)

-- what our Init proposes; a given 0 is a proposal, to keep the state for ever
abbrev pub proposed_of : Proposal → Timeout
proposed_of (Proposal.Given t) = t
proposed_of (Proposal.NotGiven form) = default_in form

-- the number has the width that its form can say
abbrev pub TimeoutFits : Timeout → Type 0
TimeoutFits (Timeout.Seconds s) = s < 256 ^ 2
TimeoutFits (Timeout.Milliseconds n) = n < 256 ^ 4
