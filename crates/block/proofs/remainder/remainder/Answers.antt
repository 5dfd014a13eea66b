use Rattle.std.proofs.Common.{ℕ, suc, ◌-◌, ◌*◌, ◌^◌, ◌≡◌, ◌∙◌, sym, ap, arith}
use Rattle.block.proofs.Subtraction.{taken, left_none, left_step, left_is, shifted}
use Rattle.block.proofs.remainder.remainder.Goals as goal

pub loop-shift-init : goal.loop-shift-init
loop-shift-init c = left_is 65535 _ _ c.requires.1

pub loop-shift-preserved : goal.loop-shift-preserved
loop-shift-preserved c =
    let l = c.loop-shift in
    let k : ℕ = l.shift - 1 in
    let next : suc k ≡ l.shift = omega arith in
    let off : c.taken-rest.result ≡ taken l.rest (65535 * 2 ^ k) =
    c.taken-rest.ensures ∙ ap (taken l.rest) (shifted k (omega arith)) in
    rw off (sym (left_step 65535 k l.rest) ∙ rw next l.invariant)

pub returns : goal.returns
returns c =
    let l = c.loop-shift in
    let none : l.shift ≡ 0 = omega arith in
    sym (left_none 65535 l.rest) ∙ rw none at l.invariant
