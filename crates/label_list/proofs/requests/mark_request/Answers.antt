use Rattle.std.proofs.Common.{refl, ◌∙◌}
use Rattle.label_list.proofs.Once.{id_unasked, id-marked, id_sought}
use Rattle.label_list.proofs.Sought.{none_found}
use Rattle.label_list.proofs.requests.mark_request.Goals as goal

pub returns-then-word-ne-REQUEST_WORD : goal.returns-then-word-ne-REQUEST_WORD
returns-then-word-ne-REQUEST_WORD c =
    id_unasked _ _ c.args.words.now c.args.ids.now c.requires c.if-word-ne-REQUEST_WORD.true

pub returns-then-marks-place-eq0 : goal.returns-then-marks-place-eq0
returns-then-marks-place-eq0 c =
    id-marked _ _ c.args.words.now c.args.ids.now c.requires c.if-word-ne-REQUEST_WORD.false c.if-marks-place-eq0.true

pub returns : goal.returns
returns c =
    let t =
    id_sought _ _ c.args.words.now c.args.ids.now c.requires c.if-word-ne-REQUEST_WORD.false
    c.if-marks-place-eq0.false refl c.find_request.ensures in
    (none_found _ _ c.is_none.ensures ∙ t.0, t.1)
