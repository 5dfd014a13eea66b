use borrow.Author.Rules.{rules}
use Rattle.message.specs.Kinds.{kind_of}
use Rattle.message.proofs.kind_of.Statement.{statement}
use Rattle.message.proofs.kind_of.Tie as tie

pub kind_of_spec : {M : Type 1} → statement M
unfolding kind_of
kind_of_spec =
    let answers = tie.spec
    (λ c κs. search rules)
    (λ c. c.kind_for.ensures) in
    tie.close answers
