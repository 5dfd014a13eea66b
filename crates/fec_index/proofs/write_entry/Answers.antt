use Rattle.std.proofs.Common.{arith}
use Rattle.fec_index.proofs.Written.{pair_written}
use Rattle.fec_index.proofs.write_entry.Goals as goal

pub returns : goal.returns
returns c =
    pair_written _ c.requires.0 (λ k. (c.slice_known-1.given k).fits) _ _ c.requires.1 (omega arith) c.put_u32.ensures
    c.write_word.ensures
