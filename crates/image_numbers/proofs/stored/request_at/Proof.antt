-- `image_numbers::stored::request_at` meets its contract. Assumes nothing.
use borrow.Author.Rules.{rules}
use Rattle.image_numbers.proofs.Requests.{request_none, request_fits, request_read}
use Rattle.image_numbers.proofs.stored.request_at.Statement.{statement}
use Rattle.image_numbers.proofs.stored.request_at.Tie as tie

pub request_at_spec : {M : Type 1} → statement M
request_at_spec =
    let answers = tie.spec
    (λ c κs. search rules)
    (λ c. request_none _ _ c.label.ensures c.if-label-ne-REQUEST_WORD.true)
    (λ c κs. request_fits _ _ c.label.ensures c.if-label-ne-REQUEST_WORD.false)
    (λ c. request_read _ _ c.label.ensures c.if-label-ne-REQUEST_WORD.false c.id_at.ensures) in
    tie.close answers
