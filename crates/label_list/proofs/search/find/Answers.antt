use Rattle.std.proofs.Common.{◌∙◌, rules}
use Rattle.std.proofs.lemmas.Iterator.{YieldsList-from_slice}
use Rattle.std.proofs.lemmas.Iterator.Search.{position_from_yields_List}
use borrow.Author.Tests.{tests}
use Rattle.label_list.specs.Find.{passes}
use Rattle.label_list.proofs.Sought.{found_first}
use Rattle.label_list.proofs.search.find.Goals as goal

pub returns : goal.returns
returns c =
    let words = c.args.words.now in
    position_from_yields_List (passes c.args.wanted) _ _ _ c.position.ensures.ran (YieldsList-from_slice words cc)
    (λ x b q k. search (rules, tests))
    ∙ found_first _ words
