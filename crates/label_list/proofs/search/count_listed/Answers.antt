use Rattle.std.proofs.Common.{◌∙◌, arith, rules, not, eqb}
use Rattle.std.proofs.lemmas.Iterator.{YieldsList-from_slice}
use Rattle.std.proofs.lemmas.Iterator.Consumers.{YieldsList-from_filter, count_from_yields_List}
use borrow.Author.Tests.{tests}
use Rattle.label_list.proofs.Sought.{filter_listed}
use Rattle.label_list.proofs.search.count_listed.Goals as goal

pub returns : goal.returns
returns c =
    let words = c.args.words.now in
    let counted =
    count_from_yields_List c.filter.result _ c.count.ensures.ran
    (YieldsList-from_filter _ (λ w. not (eqb w 0)) (YieldsList-from_slice words cc) c.filter.ensures.closure
    (λ x b q k. search (rules, tests)))
    ∙ filter_listed words in
    omega (arith, counted)
