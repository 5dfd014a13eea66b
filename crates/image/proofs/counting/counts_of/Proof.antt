-- `image::counts_of` meets its contract: the fields of a sound image are right. Assumes nothing.
use borrow.Author.Rules.{rules}
use Rattle.image.proofs.Counted.{counts_is}
use Rattle.image.proofs.Sound.{sound_valid}
use Rattle.image.proofs.counting.counts_of.Statement.{statement}
use Rattle.image.proofs.counting.counts_of.Tie as tie

pub counts_of_spec : {M : Type 1} → statement M
counts_of_spec =
    let answers = tie.spec
    (λ c κs. search rules)
    (λ c. search rules)
    (λ c κs. search rules)
    (λ c κs. rw c.header_of-h.ensures (sound_valid _ c.requires).window)
    (λ c. search rules)
    (λ c κs. search rules)
    (λ c. counts_is _ _ _ _ _ c.header_of-h.ensures c.labels_of.ensures c.count_pended.ensures c.count_listed.ensures) in
    tie.close answers
