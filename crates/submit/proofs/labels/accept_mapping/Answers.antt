use Rattle.submit.proofs.Accepted.{found_inside, mapping_is, mapping-other}
use Rattle.submit.proofs.labels.accept_mapping.Goals as goal

pub has_other_entry-requires : goal.has_other_entry-requires
has_other_entry-requires c =
    (c.requires, found_inside _ c.labels_of.ensures _ c.args.entry c.find_label-place.ensures)

pub returns-then-has_other_entry : goal.returns-then-has_other_entry
returns-then-has_other_entry c =
    mapping-other _ c.labels_of.ensures _ _ c.find_label-place.ensures c.has_other_entry.ensures
    c.if-has_other_entry.true c.without_change.ensures.0 c.without_change.ensures.1

pub returns : goal.returns
returns c =
    mapping_is _ c.labels_of.ensures _ _ c.find_label-place.ensures c.has_other_entry.ensures
    c.if-has_other_entry.false c.accept.ensures.0 c.accept.ensures.1
