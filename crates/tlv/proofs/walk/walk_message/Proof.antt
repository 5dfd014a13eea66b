use borrow.Author.Rules.{rules}
use Rattle.tlv.proofs.Noted.{lent-on}
use Rattle.tlv.proofs.walk.walk_message.Statement.{statement}
use Rattle.tlv.proofs.walk.walk_message.Tie as tie

pub walk_message_spec : {M : Type 1} → statement M
walk_message_spec =
    let answers = tie.spec
    (λ c. search rules) (λ c. search rules) (λ c. search rules) (λ c κs. search rules)
    (λ c. lent-on _ _ c.walk_whole.ensures) in
    tie.close answers
