-- What the image printer counts. "(numbers, counts, words not zero as read, code 6 included)". So an open Request
-- counts too.
use Rattle.std.specs.Prelude.{Option, Some, None, ℕ, ◌-◌}
use Rattle.ft_number.specs.Circle.{steps_of}
use Rattle.label_list.specs.Find.{listed_count}
use Rattle.block0.specs.declared.Header.{Header}
use Rattle.image.specs.declared.Counts.{Counts}
use Rattle.image.specs.State.{Contents}

-- "those past I are pended": of the held, those that no step from R to I reaches
abbrev pub beyond : ℕ → Option ℕ → ℕ
beyond held (Some k) = held - k
beyond held None = held

unfoldable pub pended_of : Header → ℕ
pended_of h = beyond h.held (steps_of h.released.0 h.issued.0)

unfoldable pub counts_of : Contents → Counts
counts_of s = record {
  released = s.header.released;
  issued = s.header.issued;
  secured = s.header.secured;
  held = s.header.held;
  pended = pended_of s.header;
  labels = listed_count s.labels;
}
