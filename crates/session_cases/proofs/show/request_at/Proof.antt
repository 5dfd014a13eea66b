-- `session_cases::show::request_at` reads words of an image that has its size, since its checks were passed. Assumes nothing.
use Rattle.std.specs.Prelude.{Result}
use Prim.Native.Nat.{ℕ}
use mathlib.Core.List.{List}
use mathlib.Core.Path.{◌≡◌, sym, ◌∙◌}
use lib.ListN.{length}
use borrow.Author.Rules.{rules}
use Rattle.image.specs.declared.ImageFault.{ImageFault}
use Rattle.image.specs.Sizes.{image_size}
use Rattle.image.specs.Verdict.{verdict, verdict_number}
use Rattle.image.proofs.Scans.{number-sound}
use Rattle.image.proofs.Sound.{sound_parts}
use Rattle.session_cases.proofs.show.request_at.Statement.{statement}
use Rattle.session_cases.proofs.show.request_at.Tie as tie

sized : (im : List ℕ) {v : Result Unit ImageFault} {n : ℕ} → v ≡ verdict im → n ≡ verdict_number v → n ≡ 0 → length im ≡ image_size
sized im {v} ev en z = (sound_parts im (sym ev ∙ number-sound v (sym en ∙ z))).size

pub request_at_spec : {M : Type 1} → statement M
request_at_spec =
    let answers = tie.spec
    (λ c κs. search rules)
    (λ c κs. search rules)
    (λ c. search rules)
    (λ c. search rules)
    (λ c κs. (sized _ c.check_image.ensures c.verdict_number.ensures c.if-verdict_number-ne0.false, c.if-place-ge-WORD_COUNT.false))
    (λ c. search rules)
    (λ c κs. (sized _ c.check_image.ensures c.verdict_number.ensures c.if-verdict_number-ne0.false, c.if-place-ge-WORD_COUNT.false))
    (λ c. search rules) in
    tie.close answers
