use Rattle.std.proofs.Common.{◌^◌, ◌≤◌, ◌∙◌, arith}
use Rattle.block.proofs.RowSums.{rows_room, places_less, rows_less, rows_bounds, rows_check}
use Rattle.block.proofs.rows.check_rows.Goals as goal
use Rattle.block.proofs.rows.check_rows.Goals.{After-sum_rows-sums}

room : (c : After-sum_rows-sums)
    → let r = c.sum_rows-sums.result in (r.all ≤ 2 ^ 60) × (r.second ≤ 2 ^ 60) × (r.odd ≤ 2 ^ 60) × (r.running ≤ 2 ^ 60)
room c = rows_room c.args.s.now (λ k. (c.type_inv.s k).fits) _ _ _ _ _ c.requires.0 c.sum_rows-sums.ensures

pub overflow_mul-sums : goal.overflow_mul-sums
overflow_mul-sums c = omega (arith, room (goal.at.overflow_mul-sums c).After-sum_rows-sums)

pub overflow_mul-sums-2 : goal.overflow_mul-sums-2
overflow_mul-sums-2 c = omega (arith, room (goal.at.overflow_mul-sums-2 c).After-sum_rows-sums)

pub overflow_add-sums : goal.overflow_add-sums
overflow_add-sums c = omega (arith, room (goal.at.overflow_add-sums c).After-sum_rows-sums)

pub overflow_sub-sums : goal.overflow_sub-sums
overflow_sub-sums c =
    let p = c.requires in
    places_less _ (λ k. (c.type_inv.s k).fits) p.1 _ p.0 p.2 c.sum_rows-sums.ensures

pub overflow_sub-weighed : goal.overflow_sub-weighed
overflow_sub-weighed c =
    let p = c.requires in
    rows_less _ (λ k. (c.type_inv.s k).fits) p.1 _ p.0 p.2 c.sum_rows-sums.ensures
    c.halves-a.ensures.0 c.high_half.ensures.0 c.halves-weighed.ensures.0

pub check_by-requires : goal.check_by-requires
check_by-requires c =
    let p = c.requires in
    rows_bounds _ (λ k. (c.type_inv.s k).fits) p.1 _ p.0 p.2 c.sum_rows-sums.ensures
    c.halves-a.ensures.0 c.high_half.ensures.0 c.halves-weighed.ensures.0

pub returns : goal.returns
returns c =
    let p = c.requires in
    c.check_by.ensures
    ∙ rows_check _ (λ k. (c.type_inv.s k).fits) p.1 _ p.0 p.2 c.sum_rows-sums.ensures
    c.halves-a.ensures.0 c.high_half.ensures.0 c.halves-weighed.ensures.0
