use borrow.Author.Rules.{rules}
use Rattle.slot.proofs.Judged.{judged}
use Rattle.slot.proofs.message_is_right.Goals as goal

pub returns : goal.returns
returns c = search (rules, judged)
