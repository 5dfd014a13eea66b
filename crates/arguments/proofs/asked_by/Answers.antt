-- `arguments::asked_by` meets its contract, by the laws of its answers. Assumes nothing.
use Rattle.std.proofs.Common.{rules}
use Rattle.arguments.proofs.Answers.{asks}
use Rattle.arguments.proofs.asked_by.Goals as goal

pub returns-then-not-bytes_differ : goal.returns-then-not-bytes_differ
returns-then-not-bytes_differ c = search (rules, asks)

pub returns-then-argument-eq0 : goal.returns-then-argument-eq0
returns-then-argument-eq0 c = search (rules, asks)

pub returns-then-argument-eq45 : goal.returns-then-argument-eq45
returns-then-argument-eq45 c = search (rules, asks)

pub returns : goal.returns
returns c = search (rules, asks)
