use Rattle.std.proofs.Common.{arith}
use Rattle.std.proofs.lemmas.List.{ext_get_or}
use Rattle.fec_index.specs.Entries.{entries_of}
use Rattle.fec_index.proofs.Paired.{length_entries}
use Rattle.fec_index.proofs.read_entries.Goals as goal

pub returns : goal.returns
returns c =
    let l = c.loop-i in
    let b = c.args.block.now in
    ext_get_or 0 l.entries (entries_of b) (omega (arith, length_entries b)) (λ k h. l.invariant k (omega arith))
