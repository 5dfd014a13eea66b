use Rattle.std.proofs.Common.{◌∙◌, rules}
use Rattle.std.proofs.lemmas.Iterator.{YieldsList-from_slice, YieldsList-from_zip}
use Rattle.std.proofs.lemmas.Iterator.Search.{position_from_yields_List}
use borrow.Author.Tests.{tests}
use Rattle.label_list.specs.Word.{is_request}
use Rattle.label_list.proofs.Open.{is_open, open_first}
use Rattle.label_list.proofs.requests.find_request.Goals as goal

pub returns : goal.returns
unfolding is_request
returns c =
    let a = c.args in
    position_from_yields_List (is_open a.id.0) c.position.new.self _ _ c.position.ensures.ran
    (YieldsList-from_zip (YieldsList-from_slice a.words.now cc) (YieldsList-from_slice a.ids.now cc))
    (λ x b q k. search (rules, tests))
    ∙ open_first a.id a.words.now a.ids.now
