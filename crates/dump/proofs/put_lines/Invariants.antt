-- What was put and the lines that are left are the lines of the PDU.
use Rattle.dump.proofs.Lines.{After}
use Rattle.dump.proofs.put_lines.Given as goal

abbrev pub invariant-loop-k : goal.invariant-loop-k
invariant-loop-k l = After l.initial.out l.number l.pdu l.count l.out l.at l.end l.k
