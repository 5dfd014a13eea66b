use Rattle.std.proofs.Common.{sym, ◌∙◌, ap, not, arith}
use Rattle.fec_index.specs.Entries.{entries_ok}
use Rattle.fec_index.proofs.Counted.{free_right, places_bad, places_end, places-next}
use Rattle.fec_index.proofs.entries_are_valid.Goals as goal

pub returns-then-not-rest_is_zero : goal.returns-then-not-rest_is_zero
unfolding entries_ok
returns-then-not-rest_is_zero c = rw (sym c.rest_is_zero.ensures ∙ c.if-not-rest_is_zero.true)

pub returns-then-all_zero : goal.returns-then-all_zero
unfolding entries_ok
returns-then-all_zero c =
    let a = c.args in
    rw (sym c.rest_is_zero.ensures ∙ c.if-not-rest_is_zero.false)
    (sym (free_right a.count a.labels.now a.at a.block.now (sym c.all_zero.ensures ∙ c.if-all_zero.true)))

pub loop-i-init : goal.loop-i-init
unfolding entries_ok
loop-i-init c = rw (sym c.rest_is_zero.ensures ∙ c.if-not-rest_is_zero.false)

pub returns-then-not-place_is_valid : goal.returns-then-not-place_is_valid
returns-then-not-place_is_valid c =
    places_bad _ _ _ _ _ c.loop-i.invariant (omega arith) c.get_u32.ensures c.read_entry.ensures
    c.place_is_valid.ensures (ap not c.if-not-place_is_valid.true)

pub loop-i-preserved : goal.loop-i-preserved
loop-i-preserved c =
    places-next _ _ _ _ _ c.loop-i.invariant (omega arith) c.get_u32.ensures c.read_entry.ensures
    c.place_is_valid.ensures (ap not c.if-not-place_is_valid.false)

pub returns : goal.returns
returns c = places_end _ _ _ _ _ c.loop-i.invariant (omega arith)
