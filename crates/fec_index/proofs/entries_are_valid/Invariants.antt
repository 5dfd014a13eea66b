-- The entries passed are right, so the rest decides.
use Rattle.std.proofs.Common.{◌≡◌, drop}
use Rattle.block.specs.Run.{words_at}
use Rattle.label_list.specs.Counting.{counting}
use Rattle.label_list.specs.Word.{lists_label}
use Rattle.fec_index.specs.Entries.{all_entries, entries_of, entries_ok}
use Rattle.fec_index.proofs.entries_are_valid.Given as goal

abbrev pub invariant-loop-i : goal.invariant-loop-i
invariant-loop-i l =
    let words = words_at l.count l.labels l.at in
    all_entries (drop l.i (counting 0 lists_label words (entries_of l.block))) ≡ entries_ok words l.block
