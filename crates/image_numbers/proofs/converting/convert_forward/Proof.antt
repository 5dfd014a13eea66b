-- `image_numbers::converting::convert_forward` meets its contract. Assumes nothing.
use borrow.Author.Rules.{rules}
use Rattle.block0.specs.declared.Version.TheVariants.{One}
use Rattle.image_numbers.proofs.Moved.{converted_low, converted_is}
use Rattle.image_numbers.proofs.converting.convert_forward.Statement.{statement}
use Rattle.image_numbers.proofs.converting.convert_forward.Tie as tie

pub convert_forward_spec : {M : Type 1} → statement M
convert_forward_spec =
    let answers = tie.spec
    (λ c κs. search rules)
    (λ c κs. converted_low One _ _ c.forward.ensures)
    (λ c. search rules)
    (λ c. converted_is One _ _ c.forward.ensures c.converted_numbers.ensures) in
    tie.close answers
