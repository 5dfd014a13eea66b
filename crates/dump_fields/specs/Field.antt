-- A listed TLV as fields of a line: a space, its name, a space, its value; nothing where it does not stand.
-- docs/LDP_DUMP.md: "`fec HEX` (`fec -` where empty), `label N`, `status 0x0000000f`, `params HEX`, `ft-session R SECONDS`, `ft-session-ms R MILLISECONDS`, `ft-protection N`, `ft-ack N`, `request-id N`".
use Rattle.std.specs.Prelude.{Option, Some, None, ℕ, Bool, List, [], ◌∷◌, ◌++◌}
use Rattle.octets.specs.Be.{bytes}
use Rattle.octets.specs.Pick.{pick}
use Rattle.ft_number.specs.declared.FtNumber.{FtNumber}
use Rattle.ft_number.specs.declared.MessageId.{MessageId}
use Rattle.ft_number.specs.declared.Timeout.{Timeout}
use Rattle.text.specs.Text.{ascii, decimal, hex}
use Rattle.tlv.specs.declared.Fec.{Fec}
use Rattle.tlv.specs.declared.Parameters.{Parameters}
use Rattle.tlv.specs.declared.Session.{Session}

-- bytes in hexadecimal; `-` where there is none
abbrev pub bytes_text : List ℕ → List ℕ
bytes_text [] = ascii "-"
bytes_text (b ∷ bs) = hex (b ∷ bs)

-- a message's type number, in four digits
abbrev pub type_text : ℕ → List ℕ
type_text n = ascii " 0x" ++ bytes_text (bytes 2 n)

abbrev pub fec_text : Option Fec → List ℕ → List ℕ
fec_text None value = []
fec_text (Some fec) value = ascii " fec " ++ bytes_text value

abbrev pub label_text : Option ℕ → List ℕ
label_text None = []
label_text (Some n) = ascii " label " ++ decimal n

-- the status code as it stands in the message, its E and F bits too
abbrev pub status_text : Option ℕ → List ℕ
status_text None = []
status_text (Some n) = ascii " status 0x" ++ bytes_text (bytes 4 n)

abbrev pub parameters_text : Option Parameters → List ℕ → List ℕ
parameters_text None value = []
parameters_text (Some parameters) value = ascii " params " ++ bytes_text value

-- R is 1 where set, else 0
abbrev pub bit : Bool → ℕ
bit b = pick b 1 0

-- R and a number, under a name
abbrev pub reconnect_text : List ℕ → Bool → ℕ → List ℕ
reconnect_text name reconnect n = name ++ decimal (bit reconnect) ++ (ascii " " ++ decimal n)

-- the name says the unit of the form
abbrev pub timeout_text : Bool → Timeout → List ℕ
timeout_text reconnect (Timeout.Seconds s) = reconnect_text (ascii " ft-session ") reconnect s
timeout_text reconnect (Timeout.Milliseconds n) = reconnect_text (ascii " ft-session-ms ") reconnect n

abbrev pub session_text : Option Session → List ℕ
session_text None = []
session_text (Some session) = timeout_text session.reconnect session.timeout

abbrev pub ft_text : List ℕ → Option FtNumber → List ℕ
ft_text name None = []
ft_text name (Some n) = name ++ decimal n.0

abbrev pub request_id_text : Option MessageId → List ℕ
request_id_text None = []
request_id_text (Some id) = ascii " request-id " ++ decimal id.0
