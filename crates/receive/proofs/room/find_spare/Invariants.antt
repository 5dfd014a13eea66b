use Rattle.std.proofs.Common.{◌≡◌}
use Rattle.label_list.specs.Find.{next_of, overlaid, spare_in}
use Rattle.label_list.specs.Word.{is_free}
use Rattle.image.specs.State.{decode}
use Rattle.receive.proofs.room.find_spare.Given as goal

abbrev pub invariant-loop-i : goal.invariant-loop-i
invariant-loop-i l = spare_in (decode l.image).labels l.words ≡ next_of is_free (overlaid l.words (decode l.image).labels) l.i
