-- Whether a label word has a code: by the words one after the other, and of each by its second byte. Assumes nothing.
use Prim.Native.Nat.{ℕ, zero, suc, ◌+◌, ◌*◌, ◌/◌, ◌≤◌, ◌<◌}
use mathlib.Core.Bool.{true, false}
use mathlib.Core.List.{List}
use mathlib.Core.Logic.{◌≢◌}
use mathlib.Core.Path.{◌≡◌, refl, sym, ap, ap₂, ◌∙◌}
use native.Mathlib.Numerals.{add-one}
use native.Mathlib.Omega.{arith}
use lib.ListN.{get_or, drop, drop_of_length-le, replicate}
use lib.Seq.{drop-cons}
use borrow.Author.Tests.{ne_eqb}
use Rattle.octets.specs.Be.{be_at}
use Rattle.octets.specs.Bytes.{Bytes}
use Rattle.octets.specs.Part.{part}
use Rattle.octets.specs.Pick.{pick}
use Rattle.block.specs.Check.{check_at}
use Rattle.block.specs.Run.{words_at}
use Rattle.block.specs.Zeros.{all_zero}
use Rattle.block.proofs.WordRun.{length-words_at, get_d_words_at}
use Rattle.label_list.specs.Find.{any}
use Rattle.label_list.specs.Word.{code_of}
use Rattle.block0.specs.declared.Version.{Version}
use Rattle.block0.specs.Coded.{has_code}
use Rattle.block0.specs.Layout.{labels_at, places, labels_by}
use Rattle.block0.proofs.Rules.{free-words}

-- the code's low four bits are the high half of the second byte
pub other_byte : (b : List ℕ) (at code : ℕ) {v : ℕ} → Bytes b → code < 16 → v ≡ get_or b (at + 1) 0 → v / 16 ≢ code → false ≡ has_code code (be_at 4 b at)
other_byte b at code byte small e other =
    sym (ne_eqb (code_of (be_at 4 b at)) code (λ same. other (omega (arith, same, e, byte at, byte (at + 1), byte (at + 2), byte (at + 3)))))

-- a free word has code 0
free_coded : (code n : ℕ) → 0 < code → any (has_code code) (replicate n 0) ≡ false
unfolding any
free_coded code zero some = refl
free_coded code (suc n) some =
    let apart : 0 ≡ code → ⊥ = λ e. omega arith in
    simp (ne_eqb 0 code apart) (free_coded code n some)

module _ (v : Version) (b : List ℕ) (code : ℕ) {start : ℕ} (es : start ≡ labels_at v) where
  pub none_coded : 0 < code → all_zero (part b start check_at) ≡ true → false ≡ any (has_code code) (labels_by v b)
  none_coded some none = sym (ap (any (has_code code)) (free-words v b es none) ∙ free_coded code (places v) some)

  pub some_coded : {count : ℕ} → count ≡ places v → any (has_code code) (words_at count b start) ≡ any (has_code code) (labels_by v b)
  unfolding labels_by
  some_coded ec = ap₂ (λ (n at : ℕ). any (has_code code) (words_at n b at)) ec es

-- ---- the words passed have another code: the rest decides
pub record Passed (b : List ℕ) (start count code i : ℕ) : Type 0 where
  pub inside : i ≤ count
  pub rest : any (has_code code) (words_at count b start) ≡ any (has_code code) (drop i (words_at count b start))

pub passed_none : (b : List ℕ) (start count code : ℕ) → Passed b start count code 0
passed_none b start count code = record { inside = omega arith; rest = refl }

module _ (b : List ℕ) (start count code i : ℕ) (p : Passed b start count code i) where
  turn : i < count → any (has_code code) (words_at count b start)
      ≡ pick (has_code code (be_at 4 b (start + i * 4))) true (any (has_code code) (drop (i + 1) (words_at count b start)))
  unfolding any
  turn l =
      p.rest
      ∙ ap (any (has_code code)) (drop-cons (words_at count b start) i 0 (rw (length-words_at count b start) l))
      ∙ ap₂ (λ (w k : ℕ). pick (has_code code w) true (any (has_code code) (drop k (words_at count b start)))) (get_d_words_at count b start i l) (sym (add-one i))

  pub passed_one : i < count → false ≡ has_code code (be_at 4 b (start + i * 4)) → Passed b start count code (i + 1)
  passed_one l f = record { inside = omega arith; rest = turn l ∙ rw (sym f) }

  pub found_one : i < count → true ≡ has_code code (be_at 4 b (start + i * 4)) → true ≡ any (has_code code) (words_at count b start)
  found_one l t = sym (turn l ∙ rw (sym t))

  pub passed_all : count ≤ i → false ≡ any (has_code code) (words_at count b start)
  unfolding any
  passed_all l = sym (p.rest ∙ rw (drop_of_length-le (words_at count b start) {i = i} (rw (length-words_at count b start) l)))
