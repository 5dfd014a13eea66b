use borrow.Author.Rules.{rules}
use Rattle.send.proofs.Acts.{has_none, has_number}
use Rattle.send.proofs.issue.Goals as goal

pub returns-then-place-issued_count : goal.returns-then-place-issued_count
returns-then-place-issued_count c =
    has_number _ _ c.requires.0 c.header_of-h.ensures c.issued_count.ensures (search rules)
    c.if-place-issued_count.true

pub returns : goal.returns
returns c =
    has_none _ _ c.requires.0 c.header_of-h.ensures c.issued_count.ensures c.if-place-issued_count.false
    c.number_at-next.ensures c.store_numbers.ensures
