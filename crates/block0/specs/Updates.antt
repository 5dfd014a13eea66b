-- Block 0's numbers with one of them another.
use Rattle.std.specs.Prelude.{ℕ}
use Rattle.ft_number.specs.declared.FtNumber.{FtNumber}
use Rattle.block0.specs.declared.Header.{Header}

-- one number: I, the agreed timeout
abbrev pub header_issued : Header → FtNumber → Header
header_issued h n = record {
  released = h.released;
  issued = n;
  secured = h.secured;
  first = h.first;
  held = h.held;
  timeout = h.timeout;
  kept = h.kept;
  marks = h.marks;
  keepalive = h.keepalive;
  maxpdu = h.maxpdu;
}

abbrev pub header_timeout : Header → ℕ → Header
header_timeout h n = record {
  released = h.released;
  issued = h.issued;
  secured = h.secured;
  first = h.first;
  held = h.held;
  timeout = n;
  kept = h.kept;
  marks = h.marks;
  keepalive = h.keepalive;
  maxpdu = h.maxpdu;
}

-- R, with the first slot and the count of messages held
abbrev pub header_released : Header → FtNumber → ℕ → ℕ → Header
header_released h n first held = record {
  released = n;
  issued = h.issued;
  secured = h.secured;
  first = first;
  held = held;
  timeout = h.timeout;
  kept = h.kept;
  marks = h.marks;
  keepalive = h.keepalive;
  maxpdu = h.maxpdu;
}
