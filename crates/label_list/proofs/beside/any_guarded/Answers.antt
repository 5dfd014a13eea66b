use Rattle.std.proofs.Common.{ℕ, eqb, ◌∙◌, rules}
use Rattle.std.proofs.lemmas.Iterator.{YieldsList-from_slice, YieldsList-from_zip}
use Rattle.std.proofs.lemmas.Iterator.Search.{any_from_yields_List}
use borrow.Author.Tests.{tests}
use Rattle.octets.specs.Pick.{both}
use Rattle.label_list.specs.Protection.{protected_on}
use Rattle.label_list.proofs.Besides.{any_zip}
use Rattle.label_list.proofs.beside.any_guarded.Goals as goal

pub returns : goal.returns
returns c =
    let a = c.args in
    any_from_yields_List (λ (p : ℕ × ℕ). both (eqb p.1 a.entry) (protected_on a.side p.0)) c.any.new.self _ _ c.any.ensures.ran
    (YieldsList-from_zip (YieldsList-from_slice a.words.now cc) (YieldsList-from_slice a.entries.now cc))
    (λ x b q k. search (rules, tests))
    ∙ any_zip (protected_on a.side) a.entry a.words.now a.entries.now
