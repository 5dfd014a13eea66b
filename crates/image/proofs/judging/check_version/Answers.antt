use mathlib.Core.Bool.{not}
use mathlib.Core.Path.{ap}
use borrow.Author.Rules.{rules}
use Rattle.image.proofs.Scans.{slots_fault, slots-sound, wrong_size, zeroth_check, zeroth_fields}
use Rattle.image.proofs.judging.check_version.Goals as goal

pub returns-then-image-ne-IMAGE_SIZE : goal.returns-then-image-ne-IMAGE_SIZE
returns-then-image-ne-IMAGE_SIZE c = wrong_size _ _ c.if-image-ne-IMAGE_SIZE.true

pub returns-then-not-is_sound : goal.returns-then-not-is_sound
returns-then-not-is_sound c =
    zeroth_check _ _ c.if-image-ne-IMAGE_SIZE.false c.block_at-zeroth.ensures.result_value.0 c.is_sound.ensures (ap not c.if-not-is_sound.true)

pub returns-then-not-block0_is_valid : goal.returns-then-not-block0_is_valid
returns-then-not-block0_is_valid c =
    zeroth_fields _ _ c.if-image-ne-IMAGE_SIZE.false c.block_at-zeroth.ensures.result_value.0 c.is_sound.ensures (ap not c.if-not-is_sound.false)
    c.block0_is_valid.ensures (ap not c.if-not-block0_is_valid.true)

pub returns-in_err-scan_slots : goal.returns-in_err-scan_slots
returns-in_err-scan_slots c =
    let fault =
    slots_fault _ _ c.if-image-ne-IMAGE_SIZE.false c.block_at-zeroth.ensures.result_value.0 c.is_sound.ensures (ap not c.if-not-is_sound.false)
    c.block0_is_valid.ensures (ap not c.if-not-block0_is_valid.false) c.read_header-h.ensures c.wide.ensures.0 c.wide-2.ensures.0 c.scan_slots.ensures
    c.in_err-scan_slots.was in
    search (rules, fault)

pub returns : goal.returns
returns c =
    slots-sound _ _ c.if-image-ne-IMAGE_SIZE.false c.block_at-zeroth.ensures.result_value.0 c.is_sound.ensures (ap not c.if-not-is_sound.false)
    c.block0_is_valid.ensures (ap not c.if-not-block0_is_valid.false) c.read_header-h.ensures c.wide.ensures.0 c.wide-2.ensures.0 c.scan_slots.ensures
    c.in_ok-scan_slots.was c.judge_further.ensures
