use Rattle.init.proofs.Starts.{both-keepalive, both_maxpdu, both_ack}
use Rattle.init.proofs.judging.judge_both.Goals as goal

pub returns-then-h-terms : goal.returns-then-h-terms
returns-then-h-terms c = both-keepalive _ _ _ c.if-h-terms.true

pub returns-then-h-terms-2 : goal.returns-then-h-terms-2
returns-then-h-terms-2 c = both_maxpdu _ _ _ c.if-h-terms.false c.if-h-terms-2.true

pub returns-in-Some : goal.returns-in-Some
returns-in-Some c = both_ack _ _ _ c.if-h-terms.false c.if-h-terms-2.false c.acknowledge.ensures c.in-Some.is

pub returns-in-None : goal.returns-in-None
returns-in-None c = both_ack _ _ _ c.if-h-terms.false c.if-h-terms-2.false c.acknowledge.ensures c.in-None.is
