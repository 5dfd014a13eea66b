-- Laws of the searches: a loop that has passed i words, and what was found. Assumes nothing.
use Rattle.std.proofs.lemmas.Iterator.Adapters.{position_from-zero}
use Rattle.std.specs.List.{filter, position_from, position_or_len}
use Rattle.std.specs.Option.{is_some}
use Rattle.std.specs.Prelude.{Option, Some, None}
use Prim.Native.Nat.{ℕ, zero, suc, ◌+◌, ◌-◌, ◌≤◌, ◌<◌}
use mathlib.Core.Bool.{Bool, true, false, not, cond}
use mathlib.Core.List.{List, [], ◌∷◌}
use mathlib.Core.Path.{◌≡◌, refl, sym, ap, ◌∙◌}
use native.Mathlib.Numerals.{add-one}
use native.Mathlib.Omega.{arith}
use lib.Dec.{eqb, ltb}
use lib.ListN.{length, get_or, drop, take, length-drop, drop_of_length-le, set}
use lib.Seq.{drop-cons, take_all}
use borrow.Author.Tests.{not-true, not-false}
use Rattle.octets.specs.Pick.{pick}
use Rattle.octets.proofs.Choice.{by_test, no}
use Rattle.label_list.specs.Find.{find_of, find_from, next_of, any, is_found, listed_count}
use Rattle.label_list.specs.Word.{is_free}

-- The words from an index to the end, `&words[i..]`.
abbrev pub later : List ℕ → ℕ → List ℕ
later words i = take (length words - i) (drop i words)

pub later_is : (words : List ℕ) (i : ℕ) → later words i ≡ drop i words
later_is words i = take_all (length words - i) (drop i words) (simp length-drop (omega arith))

-- A search is one from the first word on.
pub find_next : (test : ℕ → Bool) (words : List ℕ) → find_of test words ≡ next_of test words 0
unfolding find_of next_of
find_next test words = refl

-- What is left to find after one word more.
module _ (test : ℕ → Bool) (words : List ℕ) (i : ℕ) where
  pub next_more : i < length words → test (get_or words i 0) ≡ false → next_of test words i ≡ next_of test words (i + 1)
  unfolding next_of
  next_more h e = rw (drop-cons words i 0 h, e, add-one)

  pub next_found : i < length words → test (get_or words i 0) ≡ true → next_of test words i ≡ Some i
  unfolding next_of
  next_found h e = rw (drop-cons words i 0 h, e)

  pub next_end : length words ≤ i → next_of test words i ≡ None
  unfolding next_of
  next_end h = rw (drop_of_length-le words h)

-- A search by a test that lets through all that is wanted: the word to which it leads, with nothing wanted on the way.
pub record Led (test wanted : ℕ → Bool) (words : List ℕ) (i place : ℕ) : Type 0 where
  pub ahead : i ≤ place
  pub inside : place < length words
  pub passes : test (get_or words place 0) ≡ true
  pub rest : next_of wanted words i ≡ next_of wanted words place

module _ (test wanted : ℕ → Bool) (wider : (w : ℕ) → test w ≡ false → wanted w ≡ false) (words : List ℕ) where
  led : (n i place : ℕ) → i + n ≡ length words → next_of test words i ≡ Some place → Led test wanted words i place
  led zero i place size e =
      let none : None ≡ Some place = sym (next_end test words i (omega arith)) ∙ e in
      no cc
  led (suc n) i place size e =
      let h : i < length words = omega arith in
      by_test
      (test (get_or words i 0))
      (λ t.
      let here : Some i ≡ Some place = sym (next_found test words i h t) ∙ e in
      let same : i ≡ place = cc in
      rw (← same) (record { ahead = omega arith; inside = h; passes = t; rest = refl }))
      (λ f.
      let next : Led test wanted words (i + 1) place = led n (i + 1) place (omega arith) (sym (next_more test words i h f) ∙ e) in
      record {
        ahead = omega (arith, next.ahead);
        inside = next.inside;
        passes = next.passes;
        rest = next_more wanted words i h (wider (get_or words i 0) f) ∙ next.rest;
      })

  none_from : (n i : ℕ) → i + n ≡ length words → next_of test words i ≡ None → next_of wanted words i ≡ None
  none_from zero i size e = next_end wanted words i (omega arith)
  none_from (suc n) i size e =
      let h : i < length words = omega arith in
      by_test
      (test (get_or words i 0))
      (λ t. let found : Some i ≡ None = sym (next_found test words i h t) ∙ e in no cc)
      (λ f.
      next_more wanted words i h (wider (get_or words i 0) f) ∙ none_from n (i + 1) (omega arith) (sym (next_more test words i h f) ∙ e))

  module _ (i : ℕ) (h : i ≤ length words) {f : Option ℕ} (is : f ≡ next_of test words i) where
    pub led_to : (place : ℕ) → f ≡ Some place → Led test wanted words i place
    led_to place e = led (length words - i) i place (omega arith) (sym is ∙ e)

    pub led_nowhere : f ≡ None → next_of wanted words i ≡ None
    led_nowhere e = none_from (length words - i) i (omega arith) (sym is ∙ e)

-- A search by the library is the same.
position_found : (test : ℕ → Bool) (k : ℕ) (words : List ℕ) → position_from test k words ≡ find_from test k words
position_found test k [] = refl
position_found test k (w ∷ ws) = by_test (test w) (λ t. rw t) (λ f. rw (f, add-one) (position_found test (suc k) ws))

pub found_first : (test : ℕ → Bool) (words : List ℕ)
    → cond (ltb (position_or_len test words) (length words)) (Some (position_or_len test words)) None ≡ find_of test words
unfolding find_of
found_first test words = position_from-zero test words ∙ position_found test 0 words

-- A word that does not pass is another now, which does not pass either.
find_set_from : (test : ℕ → Bool) (k : ℕ) (words : List ℕ) (i w : ℕ) → test (get_or words i 0) ≡ false → test w ≡ false → find_from test k (set words i w) ≡ find_from test k words
find_set_from test k [] i w was now = refl
find_set_from test k (v ∷ vs) zero w was now = rw (was, now)
find_set_from test k (v ∷ vs) (suc i) w was now = ap (pick (test v) (Some k)) (find_set_from test (suc k) vs i w was now)

pub find_set : (test : ℕ → Bool) (words : List ℕ) (i w : ℕ) → test (get_or words i 0) ≡ false → test w ≡ false → find_of test (set words i w) ≡ find_of test words
unfolding find_of
find_set test words = find_set_from test 0 words

-- A search finds a word exactly if any word passes.
found_pick : (b : Bool) (k : ℕ) (f : Option ℕ) (rest : Bool) → is_found f ≡ rest → is_found (pick b (Some k) f) ≡ pick b true rest
found_pick true k f rest e = refl
found_pick false k f rest e = e

found_from : (test : ℕ → Bool) (k : ℕ) (words : List ℕ) → is_found (find_from test k words) ≡ any test words
unfolding any
found_from test k [] = refl
found_from test k (w ∷ ws) = found_pick (test w) k (find_from test (suc k) ws) (any test ws) (found_from test (suc k) ws)

pub found_any : (test : ℕ → Bool) (words : List ℕ) {f : Option ℕ} → f ≡ find_of test words → is_found f ≡ any test words
unfolding find_of
found_any test words e = rw e (found_from test 0 words)

pub none_found : (f : Option ℕ) (b : Bool) → is_some f ≡ not b → b ≡ not (is_found f)
none_found (Some i) b e = not-true b (sym e)
none_found None b e = not-false b (sym e)

pub any_cons : (test : ℕ → Bool) (w : ℕ) (ws : List ℕ) → test w ≡ false → any test (w ∷ ws) ≡ any test ws
unfolding any
any_cons test w ws e = rw e

-- The words that are listed, by a filter.
pub filter_listed : (words : List ℕ) → length (filter (λ w. not (eqb w 0)) words) ≡ listed_count words
unfolding listed_count is_free
filter_listed [] = refl
filter_listed (w ∷ ws) = by_test (eqb w 0) (λ t. rw t (filter_listed ws)) (λ f. rw f (ap suc (filter_listed ws)))

-- No more words are listed than there are.
pub listed_most : (words : List ℕ) → listed_count words ≤ length words
unfolding listed_count
listed_most [] = omega arith
listed_most (w ∷ ws) =
    by_test (is_free w)
    (λ t. rw t (omega (arith, listed_most ws)))
    (λ f. rw f (omega (arith, listed_most ws)))
