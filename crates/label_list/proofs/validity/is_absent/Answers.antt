use Rattle.std.proofs.Common.{not, ap, ◌∙◌}
use Rattle.label_list.proofs.Sought.{found_any, none_found}
use Rattle.label_list.proofs.validity.is_absent.Goals as goal

pub returns : goal.returns
returns c = none_found _ _ c.is_none.ensures ∙ ap not (found_any _ _ c.find_label.ensures)
