use native.Mathlib.Omega.{arith}
use Rattle.dump.proofs.Lines.{lines_start, line_message, line-next, lines_end}
use Rattle.dump.proofs.put_lines.Goals as goal

pub loop-k-init : goal.loop-k-init
loop-k-init c = lines_start _ _ _ _ c.requires.0

-- the message that is handed out has a head, and there is room for its line
pub put_line-end-requires : goal.put_line-end-requires
put_line-end-requires c =
    let m = line_message _ _ _ _ _ _ _ _ c.loop-k.invariant (omega arith) _ c.message_part-m.ensures.bytes in
    (m.0, omega (arith, m.1))

pub overflow_add-at : goal.overflow_add-at
overflow_add-at c =
    let m = line_message _ _ _ _ _ _ _ _ c.loop-k.invariant (omega arith) _ c.message_part-m.ensures.bytes in
    omega (arith, m.1)

pub loop-k-preserved : goal.loop-k-preserved
loop-k-preserved c =
    line-next _ _ _ _ _ _ _ _ c.loop-k.invariant (omega arith) _ c.message_part-m.ensures.bytes _ _ c.put_line-end.ensures.put
    c.put_line-end.ensures.upper_bound

pub returns-clause-put : goal.returns-clause-put
returns-clause-put c = lines_end _ _ _ _ _ _ _ _ c.loop-k.invariant (omega arith)

pub returns-clause-upper_bound : goal.returns-clause-upper_bound
returns-clause-upper_bound c = omega (arith, c.loop-k.invariant.room)
