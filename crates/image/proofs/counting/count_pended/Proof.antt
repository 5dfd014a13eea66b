-- `image::count_pended` meets its contract: no more are issued than held. Assumes nothing.
use native.Mathlib.Omega.{arith}
use borrow.Author.Rules.{rules}
use Rattle.image.proofs.Counted.{issued_low, pended-count, pended_all}
use Rattle.image.proofs.counting.count_pended.Statement.{statement}
use Rattle.image.proofs.counting.count_pended.Tie as tie

cast-result : tie.Need-overflow_cast-result
cast-result c = omega (arith, issued_low c.args.h _ c.steps_between.ensures c.requires _ c.in-Some.is)

sub-result : tie.Need-overflow_sub-result
sub-result c = issued_low c.args.h _ c.steps_between.ensures c.requires _ c.in-Some.is

returns : tie.Need-returns-in-Some
returns c = pended-count c.args.h _ c.steps_between.ensures _ c.in-Some.is

returns-2 : tie.Need-returns-in-None
returns-2 c = pended_all c.args.h _ c.steps_between.ensures c.in-None.is

pub count_pended_spec : {M : Type 1} → statement M
count_pended_spec =
    let answers = tie.spec
    (λ c κs. search rules)
    (λ c. search rules)
    cast-result
    sub-result
    (λ c. search rules)
    returns
    returns-2 in
    tie.close answers
