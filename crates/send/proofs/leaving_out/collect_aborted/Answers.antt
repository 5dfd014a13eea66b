use Prim.Native.Nat.{◌<◌}
use mathlib.Core.Logic.{◌≢◌}
use native.Mathlib.Omega.{arith}
use lib.ListN.{length}
use lib.Seq.{get_or-set_other, get_or-set_same}
use borrow.Author.Count.{below_more}
use Rattle.image.specs.State.{decode}
use Rattle.image.proofs.Queue.{queue_length}
use Rattle.image.proofs.Sound.{sound_valid}
use Rattle.send.proofs.Aborted.{all_collected}
use Rattle.send.proofs.leaving_out.collect_aborted.Goals as goal

pub overflow_add-from : goal.overflow_add-from
overflow_add-from c = omega (arith, c.requires.1, (sound_valid c.args.image.now c.requires.0).held)

pub loop-i-preserved : goal.loop-i-preserved
loop-i-preserved c =
    let inside : c.loop-i.i < length c.loop-i.ids = omega (arith, c.loop-i.auto.ids) in
    below_more _ _
    (λ k l. let other : k ≢ c.loop-i.i = omega arith in rw get_or-set_other (c.loop-i.invariant k l))
    (rw get_or-set_same c.held_abort.ensures)

pub returns : goal.returns
returns c =
    all_collected (decode c.args.image.now).queue c.args.from
    (omega (arith, c.requires.1, queue_length c.args.image.now)) (λ k l. c.loop-i.invariant k (omega arith))
