use Prim.Native.Nat.{◌<◌, ◌≤◌}
use mathlib.Core.Path.{sym, ◌∙◌}
use lib.ListN.{length}
use Rattle.image.specs.State.{decode}
use Rattle.image.proofs.Queue.{queue_length}
use Rattle.submit.proofs.Barring.{held_behind, held_here, held_none}
use Rattle.submit.proofs.labels.is_held.Goals as goal

pub returns-then-held_bears : goal.returns-then-held_bears
returns-then-held_bears c =
    let inside : c.loop-i.i < length (decode c.args.image.now).queue =
    rw (queue_length, ← c.header_of-i-end.ensures) c.loop-i-test.true in
    held_here _ _ _ _ inside c.held_bears.ensures c.if-held_bears.true ∙ sym c.loop-i.invariant

pub loop-i-preserved : goal.loop-i-preserved
loop-i-preserved c =
    let inside : c.loop-i.i < length (decode c.args.image.now).queue =
    rw (queue_length, ← c.header_of-i-end.ensures) c.loop-i-test.true in
    c.loop-i.invariant ∙ held_behind _ _ _ _ inside c.held_bears.ensures c.if-held_bears.false

pub returns : goal.returns
returns c =
    let passed : length (decode c.args.image.now).queue ≤ c.loop-i.i =
    rw (queue_length, ← c.header_of-i-end.ensures) c.loop-i-test.false in
    held_none _ _ _ _ passed ∙ sym c.loop-i.invariant
