use native.Mathlib.Omega.{arith}
use borrow.Author.Rules.{rules}
use Rattle.block.proofs.ZeroBytes.{cleared-zero}
use Rattle.block0.specs.declared.Version.TheVariants.{Two}
use Rattle.block0.proofs.Same.{labels-cleared}
use Rattle.block0.proofs.writing.write_released.Goals as goal

pub seal_before-requires : goal.seal_before-requires
seal_before-requires c =
    let fields = c.put_fields.new.block in
    (search rules, omega arith, rw c.zero_to.ensures (cleared-zero fields 32 476 508 (search rules) (omega arith)))

pub returns : goal.returns
returns c = labels-cleared Two _ c.requires _ c.put_fields.ensures c.zero_to.ensures c.seal_before.ensures
