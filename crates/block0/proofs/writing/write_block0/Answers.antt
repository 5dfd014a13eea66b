use Rattle.block0.proofs.Same.{labels-put}
use Rattle.block0.proofs.writing.write_block0.Goals as goal

pub returns : goal.returns
returns c =
    labels-put c.args.version _ c.requires.0 _ c.put_fields.ensures _ c.requires.1
    (rw c.labels_at.ensures.0 at c.store_words.ensures) c.seal.ensures
