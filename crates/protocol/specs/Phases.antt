-- 01's phases: which of them the state rules out, and which of them a call asks for.
use Rattle.std.specs.Prelude.{Option, Some, None, ℕ, Bool, true, false, not, leb}
use Rattle.octets.specs.Pick.{pick, both}
use Rattle.ft_number.specs.Circle.{steps_of}
use Rattle.protocol.specs.declared.Phase.{Phase}
use Rattle.protocol.specs.State.{State}

-- a count of steps; none where nothing leads there
abbrev pub count_of : Option ℕ → ℕ
count_of (Some k) = k
count_of None = 0

-- how many of the held messages have a number: the steps from R to I
unfoldable pub issued_count : State → ℕ
issued_count s = count_of (steps_of s.released.0 s.issued.0)

-- "a phase the image rules out: UpFT or Failed with kept 0, Idle or UpPlain with kept 1, count sent past I"; any other fits
unfoldable pub phase_fits : Phase → State → Bool
phase_fits Phase.Idle s = not s.kept
phase_fits (Phase.InitWait v) s = true
phase_fits (Phase.UpFT u) s = both s.kept (leb u.sent (issued_count s))
phase_fits Phase.UpPlain s = not s.kept
phase_fits Phase.Failed s = s.kept

-- "Failed if kept, else Idle": the phase without a connection
abbrev pub resting_phase : State → Phase
resting_phase s = pick s.kept Phase.Failed Phase.Idle

-- ---- what a phase bears
-- InitWait: "it bears our proposed timeout"; 02: it counts milliseconds, whatever the form of our Init
abbrev pub waiting_for : ℕ → Phase
waiting_for millis = Phase.InitWait (record { timeout = millis })

abbrev pub proposal_of : Phase → ℕ
proposal_of Phase.Idle = 0
proposal_of (Phase.InitWait v) = v.timeout
proposal_of (Phase.UpFT u) = 0
proposal_of Phase.UpPlain = 0
proposal_of Phase.Failed = 0

-- UpFT: "the count sent on this connection"; 02: "a resumed connection (UpFT bears which)"
abbrev pub up_with : Bool → ℕ → Phase
up_with resumed n = Phase.UpFT (record { sent = n; resumed = resumed })

abbrev pub sent_of : Phase → ℕ
sent_of Phase.Idle = 0
sent_of (Phase.InitWait v) = 0
sent_of (Phase.UpFT u) = u.sent
sent_of Phase.UpPlain = 0
sent_of Phase.Failed = 0

abbrev pub resumed_of : Phase → Bool
resumed_of Phase.Idle = false
resumed_of (Phase.InitWait v) = false
resumed_of (Phase.UpFT u) = u.resumed
resumed_of Phase.UpPlain = false
resumed_of Phase.Failed = false

-- ---- in which phases a call may come
-- "Open (Idle, Failed)"
abbrev pub may_open : Phase → Bool
may_open Phase.Idle = true
may_open (Phase.InitWait v) = false
may_open (Phase.UpFT u) = false
may_open Phase.UpPlain = false
may_open Phase.Failed = true

-- "InitWait (connection open, peer's Init awaited ..)"
abbrev pub awaits : Phase → Bool
awaits Phase.Idle = false
awaits (Phase.InitWait v) = true
awaits (Phase.UpFT u) = false
awaits Phase.UpPlain = false
awaits Phase.Failed = false

-- "Connection failed (InitWait, UpFT, UpPlain)"
abbrev pub connected : Phase → Bool
connected Phase.Idle = false
connected (Phase.InitWait v) = true
connected (Phase.UpFT u) = true
connected Phase.UpPlain = true
connected Phase.Failed = false

-- "Time passed (Failed)"
abbrev pub waiting : Phase → Bool
waiting Phase.Idle = false
waiting (Phase.InitWait v) = false
waiting (Phase.UpFT u) = false
waiting Phase.UpPlain = false
waiting Phase.Failed = true

-- "Send next (UpFT)"
abbrev pub is_up_ft : Phase → Bool
is_up_ft Phase.Idle = false
is_up_ft (Phase.InitWait v) = false
is_up_ft (Phase.UpFT u) = true
is_up_ft Phase.UpPlain = false
is_up_ft Phase.Failed = false

-- "KeepAlive (UpFT, UpPlain)"
abbrev pub is_up : Phase → Bool
is_up Phase.Idle = false
is_up (Phase.InitWait v) = false
is_up (Phase.UpFT u) = true
is_up Phase.UpPlain = true
is_up Phase.Failed = false
