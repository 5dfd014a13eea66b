-- `image::judging::index_is_valid` meets its contract: the words of its places, by their bytes. Assumes nothing.
use Prim.Native.Nat.{ℕ, ◌-◌, ◌<◌}
use mathlib.Core.List.{List}
use mathlib.Core.Path.{ap, ap₂, ◌∙◌}
use native.Mathlib.Omega.{arith}
use borrow.Author.Rules.{rules}
use borrow.Author.Tests.{ne_eqb}
use Rattle.block0.specs.Layout.{labels_by}
use Rattle.fec_index.specs.Entries.{entries_ok, words_beside}
use Rattle.image.proofs.Indexed.{beside_read, beside_room}
use Rattle.image.proofs.judging.index_is_valid.Statement.{statement}
use Rattle.image.proofs.judging.index_is_valid.Tie as tie

entries-are-valid-requires : tie.Need-entries_are_valid-requires
entries-are-valid-requires c κs =
    let k : ℕ = c.args.b - 66 in
    let two : k < 2 = omega arith in
    let long = c.block_at-2.ensures.0.1 in
    let start = c.labels_at.ensures.0 in
    let room = beside_room c.args.version k _ two c.count_beside.ensures.0 in
    (c.block_at.ensures.0.1, c.count_beside.ensures.1, omega (arith, long, start, room))

returns : tie.Need-returns
returns c =
    let k : ℕ = c.args.b - 66 in
    let two : k < 2 = omega arith in
    let start = c.labels_at.ensures.0 in
    let zeroth = c.block_at-2.ensures.0.0 in
    let count = c.count_beside.ensures.0 in
    rw (ne_eqb c.args.b 65 (omega arith))
    (c.entries_are_valid.ensures
    ∙ ap₂ entries_ok
    (beside_read c.args.version _ k two count start ∙ ap (λ (z : List ℕ). words_beside k (labels_by c.args.version z)) zeroth)
    c.block_at.ensures.0.0)

pub index_is_valid_spec : {M : Type 1} → statement M
index_is_valid_spec =
    let answers = tie.spec
    (λ c. omega arith)
    (λ c κs. search rules)
    (λ c. omega arith)
    (λ c. omega arith)
    (λ c κs. search rules)
    (λ c κs. search rules)
    (λ c κs. omega arith)
    entries-are-valid-requires
    returns in
    tie.close answers
