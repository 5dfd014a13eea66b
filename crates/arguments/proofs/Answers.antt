-- What an argument asks for, by the tests that lead to each answer. Assumes nothing.
use Prim.Native.Nat.{ℕ}
use mathlib.Core.Bool.{Bool, true, false, not}
use mathlib.Core.List.{List}
use mathlib.Core.Path.{◌≡◌}
use lib.ListN.{length, get_or}
use borrow.Author.Tests.{eq-eqb, ne_eqb}
use Rattle.octets.specs.Differ.{differ}
use Rattle.octets.proofs.Choice.{denied, granted}
use Rattle.text.specs.Text.{ascii}
use Rattle.arguments.specs.declared.Asked.{Asked}
use Rattle.arguments.specs.Asked.{asked_of}

module _ (a : List ℕ) {d : Bool} (e : d ≡ differ a (ascii "--help")) where
  pub asks_usage : not d ≡ true → Asked.Usage ≡ asked_of a
  unfolding asked_of
  asks_usage t = rw (denied e t)

  module _ (f : not d ≡ false) where
    pub asks_empty : length a ≡ 0 → Asked.Unknown ≡ asked_of a
    unfolding asked_of
    asks_empty z = rw (granted e f, eq-eqb (length a) 0 z)

    module _ (s : length a ≡ 0 → ⊥) where
      pub asks_option : get_or a 0 0 ≡ 45 → Asked.Unknown ≡ asked_of a
      unfolding asked_of
      asks_option o = rw (granted e f, ne_eqb (length a) 0 s, eq-eqb (get_or a 0 0) 45 o)

      pub asks_file : (get_or a 0 0 ≡ 45 → ⊥) → Asked.File ≡ asked_of a
      unfolding asked_of
      asks_file o = rw (granted e f, ne_eqb (length a) 0 s, ne_eqb (get_or a 0 0) 45 o)

pub ruleset asks = (asks_usage, asks_empty, asks_option, asks_file)
