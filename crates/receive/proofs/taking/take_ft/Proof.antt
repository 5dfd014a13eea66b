use borrow.Author.Rules.{rules}
use Rattle.receive.proofs.Taken.{takes_inside, still-taken, still_header, still-count, take_is}
use Rattle.receive.proofs.taking.take_ft.Statement.{statement}
use Rattle.receive.proofs.taking.take_ft.Tie as tie

pub take_ft_spec : {M : Type 1} → statement M
take_ft_spec =
    let answers = tie.spec
    (λ c κs. search rules)
    (λ c κs. search rules)
    (λ c κs. search rules)
    (λ c κs. search rules)
    (λ c κs. (c.requires.0.sound.size, takes_inside _ _ _ c.requires.0 c.requires.1))
    (λ c κs. (still-taken _ _ _ c.requires.0 c.requires.1 c.entry_by.ensures c.store_taken-further.ensures.0, still_header _ _ _ c.requires.0 c.requires.1 c.entry_by.ensures c.store_taken-further.ensures.0 c.header_of-h.ensures, still-count _ _ _ c.requires.0 c.requires.1 c.entry_by.ensures c.store_taken-further.ensures.0 c.header_of-h.ensures c.ack_count-k.ensures))
    (λ c κs. search rules)
    (λ c κs. search rules)
    (λ c. search rules)
    (λ c. take_is _ _ _ c.requires.0 c.requires.1 c.entry_by.ensures c.store_taken-further.ensures.0 _ (λ k. (c.slice_known-1.given k).fits) c.requires.2 c.header_of-h.ensures c.ack_count-k.ensures c.turn_borne-turn.ensures c.store_taken-further.ensures.1 c.store_zeroth-changed.ensures c.lowered.ensures c.turn_gap.ensures) in
    tie.close answers
