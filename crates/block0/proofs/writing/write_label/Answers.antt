use Rattle.block0.specs.declared.Version.TheVariants.{Two}
use Rattle.block0.proofs.Same.{label_put}
use Rattle.block0.proofs.writing.write_label.Goals as goal

pub returns : goal.returns
returns c =
    label_put Two _ c.requires.0 _ c.put_fields.ensures (λ k. (c.slice_known-1.given k).fits) _ _ c.requires.1
    c.put_u32.ensures c.seal.ensures
