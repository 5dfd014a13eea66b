use mathlib.Core.Bool.{not}
use mathlib.Core.Path.{ap}
use Rattle.block0.proofs.Judged.{other_version, early_wrong, header_wrong, released-judged, labels-judged}
use Rattle.block0.proofs.block0_is_valid.Goals as goal

pub returns-then-get_u32-version_number : goal.returns-then-get_u32-version_number
returns-then-get_u32-version_number c =
    let a = c.args in
    other_version a.version a.block.now c.get_u32.ensures c.version_number.ensures c.if-get_u32-version_number.true

pub returns-then-not-early_is_valid : goal.returns-then-not-early_is_valid
returns-then-not-early_is_valid c =
    let a = c.args in
    early_wrong a.version a.block.now c.get_u32.ensures c.version_number.ensures c.if-get_u32-version_number.false
    c.early_is_valid.ensures (ap not c.if-not-early_is_valid.true)

pub returns-then-not-header_is_valid : goal.returns-then-not-header_is_valid
returns-then-not-header_is_valid c =
    let a = c.args in
    header_wrong a.version a.block.now c.get_u32.ensures c.version_number.ensures c.if-get_u32-version_number.false
    c.early_is_valid.ensures (ap not c.if-not-early_is_valid.false) c.read_header-h.ensures c.header_is_valid.ensures
    (ap not c.if-not-header_is_valid.true)

pub returns-then-h-eq0 : goal.returns-then-h-eq0
returns-then-h-eq0 c =
    let a = c.args in
    released-judged a.version a.block.now c.get_u32.ensures c.version_number.ensures c.if-get_u32-version_number.false
    c.early_is_valid.ensures (ap not c.if-not-early_is_valid.false) c.read_header-h.ensures c.header_is_valid.ensures
    (ap not c.if-not-header_is_valid.false) c.if-h-eq0.true c.all_zero.ensures

pub returns : goal.returns
returns c =
    let a = c.args in
    labels-judged a.version a.block.now c.get_u32.ensures c.version_number.ensures c.if-get_u32-version_number.false
    c.early_is_valid.ensures (ap not c.if-not-early_is_valid.false) c.read_header-h.ensures c.header_is_valid.ensures
    (ap not c.if-not-header_is_valid.false) c.if-h-eq0.false c.labels_are_valid.ensures
