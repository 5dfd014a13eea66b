use Rattle.label_list.proofs.Marks.{unmarked_absent, marked-again, marked-now}
use Rattle.label_list.proofs.validity.mark_label.Goals as goal

pub returns-then-marks-place-eq0 : goal.returns-then-marks-place-eq0
returns-then-marks-place-eq0 c =
    let place = c.place_of-place.ensures in (
      unmarked_absent _ c.requires _ _ place.0 c.if-marks-place-eq0.true,
      marked-now _ c.requires _ _ place.0 place.1,
    )

pub returns : goal.returns
returns c =
    (c.is_absent.ensures, marked-again _ c.requires _ _ c.place_of-place.ensures.0 c.if-marks-place-eq0.false)
