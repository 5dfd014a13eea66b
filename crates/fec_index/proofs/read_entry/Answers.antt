use Rattle.std.proofs.Common.{arith}
use Rattle.fec_index.proofs.Paired.{entry_read}
use Rattle.fec_index.proofs.read_entry.Goals as goal

pub returns : goal.returns
returns c = entry_read _ _ c.requires.1 (omega arith) c.read_word-upper.ensures c.read_word-lower.ensures
