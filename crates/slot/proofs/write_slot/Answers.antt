use Prim.Native.Nat.{◌+◌, ◌-◌}
use native.Mathlib.Omega.{arith}
use lib.ListN.{length}
use borrow.Author.Rules.{rules}
use Rattle.block.proofs.ZeroBytes.{cleared-zero}
use Rattle.message.specs.Kinds.{kind_number}
use Rattle.slot.proofs.Written.{slot-put}
use Rattle.slot.proofs.write_slot.Goals as goal

pub seal_before-requires : goal.seal_before-requires
seal_before-requires c =
    let n = length c.args.m.now in
    let cleared = cleared-zero c.copy_to.new.s (8 + n) (500 - n) 508 (search rules) (omega arith) in
    (search rules, omega arith, rw c.zero_to.ensures cleared)

pub returns : goal.returns
returns c =
    let a = c.args in
    slot-put a.m.now (kind_number a.kind) a.label c.requires.1 a.block.now c.requires.0 (cc) c.copy_to.ensures
    c.zero_to.ensures c.seal_before.ensures
