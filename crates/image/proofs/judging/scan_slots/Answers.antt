use Rattle.std.specs.Prelude.{Err}
use mathlib.Core.Path.{ap, ◌∙◌}
use native.Mathlib.Omega.{arith}
use Rattle.slot.specs.declared.SlotFault.{SlotFault}
use Rattle.image.proofs.Scans.{scan_check, scan_end, scan_fields, scan_next, scan_start}
use Rattle.image.proofs.judging.scan_slots.Goals as goal

pub loop-i-init : goal.loop-i-init
loop-i-init c = scan_start c.args.image.now c.args.first c.args.held

pub returns-in-Err-BadCheck : goal.returns-in-Err-BadCheck
returns-in-Err-BadCheck c =
    scan_check _ _ _ c.loop-i.i _ (omega arith) c.loop-i.invariant c.block_at.ensures.result_value.0 c.judge_slot.ensures (c.in-Err-BadCheck.is ∙ ap (λ (f : SlotFault). Err f) c.in-Err-BadCheck.field-0-is)

pub returns-in-Err-BadFields : goal.returns-in-Err-BadFields
returns-in-Err-BadFields c =
    scan_fields _ _ _ c.loop-i.i _ (omega arith) c.loop-i.invariant c.block_at.ensures.result_value.0 c.judge_slot.ensures (c.in-Err-BadFields.is ∙ ap (λ (f : SlotFault). Err f) c.in-Err-BadFields.field-0-is)

pub loop-i-preserved : goal.loop-i-preserved
loop-i-preserved c =
    scan_next _ _ _ c.loop-i.i _ (omega arith) c.loop-i.invariant c.block_at.ensures.result_value.0 c.judge_slot.ensures c.in-Ok.is

pub returns : goal.returns
returns c = scan_end _ _ _ c.loop-i.i _ (omega arith) c.loop-i.invariant
