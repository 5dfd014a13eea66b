-- `image::judging::requests_are_valid` meets its contract: with no Request's code only the zeros are looked at. Assumes nothing.
use mathlib.Core.Bool.{not}
use mathlib.Core.Path.{ap, ap₂, ◌∙◌}
use borrow.Author.Rules.{rules}
use Rattle.block0.specs.Layout.{labels_by}
use Rattle.request_ids.specs.Fields.{ids_ok}
use Rattle.image.proofs.Scans.{unasked}
use Rattle.image.proofs.judging.requests_are_valid.Statement.{statement}
use Rattle.image.proofs.judging.requests_are_valid.Tie as tie

returns : tie.Need-returns-then-not-has_requests
returns c =
    unasked _ _ _ c.has_requests.ensures (ap not c.if-not-has_requests.true) c.rest_is_zero.ensures
    ∙ ap₂ ids_ok (ap (labels_by _) c.block_at-zeroth.ensures.0.0) c.block_at-block.ensures.0.0

returns-2 : tie.Need-returns
returns-2 c =
    let zeroth = c.block_at-zeroth.ensures.0.0 in
    let last = c.block_at-block.ensures.0.0 in
    c.ids_are_valid.ensures ∙ ap₂ ids_ok (ap (labels_by _) zeroth) last

pub requests_are_valid_spec : {M : Type 1} → statement M
requests_are_valid_spec =
    let answers = tie.spec
    (λ c κs. search rules)
    (λ c κs. search rules)
    (λ c κs. search rules)
    (λ c κs. search rules)
    returns
    (λ c κs. search rules)
    (λ c. search rules)
    (λ c. search rules)
    (λ c. search rules)
    (λ c κs. search rules)
    returns-2 in
    tie.close answers
