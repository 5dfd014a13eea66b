-- `image_numbers::converting::convert_back` meets its contract. Assumes nothing.
use borrow.Author.Rules.{rules}
use Rattle.block0.specs.declared.Version.TheVariants.{Two}
use Rattle.image_numbers.proofs.Moved.{converted_low, converted_is}
use Rattle.image_numbers.proofs.converting.convert_back.Statement.{statement}
use Rattle.image_numbers.proofs.converting.convert_back.Tie as tie

pub convert_back_spec : {M : Type 1} → statement M
convert_back_spec =
    let answers = tie.spec
    (λ c κs. search rules)
    (λ c κs. converted_low Two _ _ c.back.ensures)
    (λ c. search rules)
    (λ c. converted_is Two _ _ c.back.ensures c.converted_numbers.ensures) in
    tie.close answers
