use native.Mathlib.Omega.{arith}
use Rattle.label_list.specs.Beside.{entry_at}
use Rattle.calls.proofs.Told.{found_place_in}
use Rattle.submit.proofs.labels.has_other_entry.Goals as goal

pub entry_at-requires : goal.entry_at-requires
entry_at-requires c = (c.requires.0, omega (arith, found_place_in _ _ _ c.requires.1 c.in-Some.is))

pub returns-in-Some : goal.returns-in-Some
unfolding entry_at
returns-in-Some c = rw (c.in-Some.is, c.entry_at.ensures)
