-- The answers of `fields_by`, by the tests that lead to each. Assumes nothing.
use Prim.Native.Nat.{ℕ}
use mathlib.Core.Bool.{Bool, true, false, not}
use mathlib.Core.List.{List}
use mathlib.Core.Path.{◌≡◌, refl, sym, ap, ◌∙◌}
use borrow.Author.Tests.{eq-eqb, ne_eqb, not-true, not-false}
use Rattle.octets.specs.Be.{be_at}
use Rattle.octets.specs.Pick.{both}
use Rattle.block.specs.Zeros.{all_zero}
use Rattle.label_list.specs.Valid.{valid_of}
use Rattle.block0.specs.declared.Header.{Header}
use Rattle.block0.specs.declared.Version.{Version}
use Rattle.block0.specs.Fields.{header_ok, early_ok, body_of, fields_by}
use Rattle.block0.specs.Layout.{version_number, header_by, header_of, labels_by}
use Rattle.block0.specs.Updates.{header_timeout}
use Rattle.block0.proofs.Rules.{zero_valid}

-- but for the timeout the numbers are the same in either version, so what is judged of them is
pub header_either : (v : Version) (b : List ℕ) → header_by v b ≡ header_timeout (header_of b) (header_by v b).timeout
unfolding header_by
header_either v b = refl

ok_either : (v : Version) (b : List ℕ) → header_ok (header_of b) ≡ header_ok (header_by v b)
unfolding header_ok
ok_either v b = sym (ap header_ok (header_either v b))

kept_either : (v : Version) (b : List ℕ) → (header_of b).kept ≡ (header_by v b).kept
kept_either v b = sym (ap (λ (h : Header). h.kept) (header_either v b))

zeros_decide : (v : Version) (t : Bool) (b : List ℕ) → all_zero (body_of b) ≡ t → t ≡ both t (valid_of (labels_by v b))
zeros_decide v true b z = sym (zero_valid v b z)
zeros_decide v false b z = refl

module _ (v : Version) (b : List ℕ) {n k : ℕ} (en : n ≡ be_at 4 b 0) (ek : k ≡ version_number v) where
  pub other_version : (n ≡ k → ⊥) → false ≡ fields_by v b
  unfolding fields_by
  other_version apart = simp (← en, ← ek, ne_eqb n k apart)

  module _ (right : n ≡ k) {e : Bool} (ee : e ≡ early_ok v b) where
    pub early_wrong : not e ≡ true → false ≡ fields_by v b
    unfolding fields_by
    early_wrong r = simp (← en, ← ek, eq-eqb n k right, ← ee, not-true e r)

    module _ (early : not e ≡ false) {h : Header} (eh : h ≡ header_of b) {t : Bool} (et : t ≡ header_ok h) where
      judged : t ≡ header_ok (header_by v b)
      judged = et ∙ ap header_ok eh ∙ ok_either v b

      kept : h.kept ≡ (header_by v b).kept
      kept = ap (λ (x : Header). x.kept) eh ∙ kept_either v b

      pub header_wrong : not t ≡ true → false ≡ fields_by v b
      unfolding fields_by
      header_wrong r = simp (← en, ← ek, eq-eqb n k right, ← ee, not-false e early, ← judged, not-true t r)

      module _ (fine : not t ≡ false) where
        pub released-judged : h.kept ≡ 0 → {r : Bool} → r ≡ all_zero (body_of b) → r ≡ fields_by v b
        unfolding fields_by
        released-judged z {r} er =
            zeros_decide v r b (sym er)
            ∙ simp (← en, ← ek, eq-eqb n k right, ← ee, not-false e early, ← judged, not-false t fine, ← kept, eq-eqb h.kept 0 z, ← er)

        pub labels-judged : (h.kept ≡ 0 → ⊥) → {r : Bool} → r ≡ valid_of (labels_by v b) → r ≡ fields_by v b
        unfolding fields_by
        labels-judged z {r} er =
            simp (← en, ← ek, eq-eqb n k right, ← ee, not-false e early, ← judged, not-false t fine, ← kept, ne_eqb h.kept 0 z, ← er)
