use borrow.Author.Rules.{rules}
use Rattle.calls.proofs.Told.{entry_first, entry_second, entry_stood}
use Rattle.calls.proofs.further.store_entry.Statement.{statement}
use Rattle.calls.proofs.further.store_entry.Tie as tie

pub store_entry_spec : {M : Type 1} → statement M
store_entry_spec =
    let answers = tie.spec
    (λ c κs. search rules)
    (λ c κs. search rules)
    (λ c. search rules)
    (λ c. (c.store_entry.ensures, entry_stood _ _ _ c.entry_at-before.ensures c.if-before-entry.true))
    (λ c. search rules)
    (λ c. (c.store_entry.ensures, entry_first _ _ _ c.entry_at-before.ensures c.if-before-entry.false c.if-place-lt-ENTRY_COUNT.true))
    (λ c. search rules)
    (λ c. (c.store_entry.ensures, entry_second _ _ _ c.entry_at-before.ensures c.if-before-entry.false c.if-place-lt-ENTRY_COUNT.false c.requires.1)) in
    tie.close answers
