use Rattle.block0.specs.declared.Version.TheVariants.{Two}
use Rattle.block0.proofs.Same.{labels_kept}
use Rattle.block0.proofs.writing.write_header.Goals as goal

pub returns : goal.returns
returns c =
    labels_kept Two _ c.requires _ c.put_fields.ensures (λ k. (c.slice_known-1.given k).fits) c.seal.ensures
