-- `convert::convert` meets its contract, by the laws of its answers. Assumes nothing.
use mathlib.Core.Bool.{not}
use mathlib.Core.Path.{ap}
use native.Mathlib.Omega.{arith}
use borrow.Author.Rules.{rules}
use Rattle.convert.proofs.Answers.{passes_size, refused, immovable, no_room, done, moved_put}
use Rattle.convert.proofs.convert.Goals as goal

pub returns-in_err-check_version : goal.returns-in_err-check_version
returns-in_err-check_version c =
    let fault = refused _ _ c.args.out.now c.check_version.ensures c.in_err-check_version.was in
    search (rules, fault)

pub slice_bounds-is_movable-end : goal.slice_bounds-is_movable-end
slice_bounds-is_movable-end c = omega (arith, passes_size _ _ c.check_version.ensures c.in_ok-check_version.was)

pub returns-then-not-is_movable : goal.returns-then-not-is_movable
returns-then-not-is_movable c =
    immovable _ _ _ c.check_version.ensures c.in_ok-check_version.was c.is_movable.ensures
    (ap not c.if-not-is_movable.true)

pub returns-then-out-lt-IMAGE_SIZE : goal.returns-then-out-lt-IMAGE_SIZE
returns-then-out-lt-IMAGE_SIZE c =
    no_room _ _ _ c.check_version.ensures c.in_ok-check_version.was c.is_movable.ensures
    (ap not c.if-not-is_movable.false) c.if-out-lt-IMAGE_SIZE.true

pub copy_to-requires : goal.copy_to-requires
copy_to-requires c = omega (arith, passes_size _ _ c.check_version.ensures c.in_ok-check_version.was)

pub slice_bounds-move_block0-end : goal.slice_bounds-move_block0-end
slice_bounds-move_block0-end c = omega (arith, passes_size _ _ c.check_version.ensures c.in_ok-check_version.was)

pub returns : goal.returns
returns c =
    done _ _ _ c.check_version.ensures c.in_ok-check_version.was c.is_movable.ensures (ap not c.if-not-is_movable.false)
    c.if-out-lt-IMAGE_SIZE.false
    (moved_put _ _ _ (passes_size _ _ c.check_version.ensures c.in_ok-check_version.was) c.if-out-lt-IMAGE_SIZE.false
    c.copy_to.ensures c.move_block0.ensures)
