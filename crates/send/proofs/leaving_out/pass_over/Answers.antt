use Prim.Native.Nat.{ℕ, ◌+◌, ◌-◌, ◌≤◌}
use mathlib.Core.Bool.{not}
use mathlib.Core.Path.{ap, ◌∙◌}
use native.Mathlib.Omega.{arith}
use lib.ListN.{length, take, drop}
use Rattle.octets.proofs.Choice.{denied, granted}
use Rattle.image.specs.State.{decode}
use Rattle.image.proofs.Queue.{queue_length}
use Rattle.image.proofs.Sound.{sound_valid}
use Rattle.send.proofs.Aborted.{aborted_count}
use Rattle.send.proofs.Passing.{behind_is, passing_all, passing_one, passing_stops}
use Rattle.send.proofs.leaving_out.pass_over.Goals as goal
use Rattle.send.proofs.leaving_out.pass_over.Goals.{In-loop-i}

-- an ID for each message from that place on, so for each that has a number
enough : (c : In-loop-i) → c.loop-i.i + 1 ≤ length c.args.ids.now
enough c =
    let queue = (decode c.args.image.now).queue in
    omega (arith, c.requires.1, aborted_count queue c.args.from c.requires.2, queue_length c.args.image.now)

pub overflow_add-from : goal.overflow_add-from
overflow_add-from c = omega (arith, c.requires.1, (sound_valid _ c.requires.0).held)

pub offset_bounds-ids-i : goal.offset_bounds-ids-i
offset_bounds-ids-i c = omega (arith, enough (goal.at.offset_bounds-ids-i c).In-loop-i)

pub slice_bounds-is_undone-count : goal.slice_bounds-is_undone-count
slice_bounds-is_undone-count c = omega (arith, enough (goal.at.slice_bounds-is_undone-count c).In-loop-i)

pub slice_bounds-is_undone-start : goal.slice_bounds-is_undone-start
slice_bounds-is_undone-start c = omega (arith, enough (goal.at.slice_bounds-is_undone-start c).In-loop-i)

pub is_undone-requires : goal.is_undone-requires
is_undone-requires c =
    let ids = c.args.ids.now in
    (c.requires.0, omega (arith, c.requires.1), ap (λ (n : ℕ). take (length ids - n) (drop n ids)) (omega arith) ∙ behind_is (decode c.args.image.now).queue c.args.from c.loop-i.i c.requires.2)

pub returns-then-not-is_undone : goal.returns-then-not-is_undone
returns-then-not-is_undone c =
    passing_stops _ _ _ _ c.loop-i.invariant (rw queue_length c.requires.1) c.loop-i-test.true
    (denied c.is_undone.ensures (ap not c.if-not-is_undone.true))

pub loop-i-preserved : goal.loop-i-preserved
loop-i-preserved c =
    passing_one _ _ _ _ c.loop-i.invariant (rw queue_length c.requires.1) c.loop-i-test.true
    (granted c.is_undone.ensures (ap not c.if-not-is_undone.false))

pub returns : goal.returns
returns c = passing_all _ _ _ c.loop-i.invariant c.loop-i-test.false
