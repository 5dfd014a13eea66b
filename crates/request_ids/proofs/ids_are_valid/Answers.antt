use Rattle.std.proofs.Common.{sym, ap, ◌∙◌}
use Rattle.label_list.specs.Requests.{once_of}
use Rattle.request_ids.specs.Fields.{ids_ok}
use Rattle.request_ids.proofs.ids_are_valid.Goals as goal

pub returns-then-not-rest_is_zero : goal.returns-then-not-rest_is_zero
unfolding ids_ok
returns-then-not-rest_is_zero c = rw (sym c.rest_is_zero.ensures ∙ c.if-not-rest_is_zero.true)

pub returns : goal.returns
unfolding ids_ok
returns c =
    let zero = sym c.rest_is_zero.ensures ∙ c.if-not-rest_is_zero.false in
    rw zero (c.ids_stand_once.ensures ∙ ap (once_of _) c.read_words.ensures)
