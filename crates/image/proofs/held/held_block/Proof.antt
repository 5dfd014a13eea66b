-- `image::held_block` meets its contract: the ring has 64 slots. Assumes nothing.
use Prim.Native.Nat.{ℕ}
use mathlib.Core.Path.{◌≡◌, ap, ◌∙◌}
use native.Mathlib.Omega.{arith}
use borrow.Author.Rules.{rules}
use Rattle.block0.specs.declared.Header.{Header}
use Rattle.image.specs.Sizes.{block_of, slot_at}
use Rattle.image.specs.State.{decode}
use Rattle.image.proofs.Queue.{held-sum}
use Rattle.image.proofs.held.held_block.Statement.{statement}
use Rattle.image.proofs.held.held_block.Tie as tie

add-result : tie.Need-overflow_add-result
add-result c = let p = c.requires in omega (arith, held-sum _ p.0 _ p.1 c.wide.result c.wide.ensures.1)

returns : tie.Need-returns
returns c =
    let a = c.args in
    let first : c.wide.result ≡ (decode a.image.now).header.first =
    c.wide.ensures.0 ∙ ap (λ (h : Header). h.first) c.header_of-h.ensures in
    (ap (λ (x : ℕ). block_of (slot_at x a.i)) first, omega arith)

pub held_block_spec : {M : Type 1} → statement M
held_block_spec =
    let answers = tie.spec
    (λ c κs. search rules)
    (λ c κs. search rules)
    add-result
    (λ c. omega arith)
    returns in
    tie.close answers
