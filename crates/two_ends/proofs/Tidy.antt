-- The labels of an end that has begun, after each change of its state. Assumes nothing.
use Prim.Native.Nat.{ℕ}
use mathlib.Core.Bool.{true}
use mathlib.Core.List.{List}
use mathlib.Core.Path.{◌≡◌, refl}
use lib.ListN.{take}
use Rattle.label_list.specs.Valid.{valid_of}
use Rattle.label_events.specs.declared.Meets.{Meets}
use Rattle.message.specs.declared.Message.{Message}
use Rattle.message.specs.Submission.{submission_of}
use Rattle.protocol.specs.Acked.{acked}
use Rattle.protocol.specs.Labels.{meets, label_effect, is_protected}
use Rattle.protocol.specs.Receive.{taken}
use Rattle.protocol.specs.State.{State, released_state}
use Rattle.protocol.specs.Step.{broken}
use Rattle.protocol.specs.Submit.{submitted}
use Rattle.protocol.proofs.Words.{released_valid, accepted_valid, broken_valid, none_valid, received_valid}
use Rattle.two_ends.specs.Labels.{Owed}
use Rattle.two_ends.proofs.Accepting.{accepted_words}
use Rattle.two_ends.proofs.Owed.{none_owed, broken_owed, accepted_owed, received_owed}
use Rattle.two_ends.proofs.Paid.{released_owed}
use Rattle.two_ends.proofs.Sixless.{NoSix, none_sixless, broken_sixless, accepted_sixless, released_sixless, received_sixless}

-- the words are valid; no label is in use without protection; one that is withdrawing or releasing has its message in the store
pub record Tidy (s : State) : Type 0 where
  pub valid : valid_of s.table.words ≡ true
  pub sixless : NoSix s.table.words
  pub owed : Owed s.table.words s.queue

pub tidy_none : Tidy released_state
tidy_none = record { valid = none_valid; sixless = none_sixless; owed = none_owed }

module _ (s : State) (t : Tidy s) where
  pub tidy_broken : Tidy (broken s)
  tidy_broken = record {
    valid = broken_valid s.table.words t.valid;
    sixless = broken_sixless s.table.words t.valid t.sixless;
    owed = broken_owed s.table.words s.queue t.valid t.owed;
  }

  pub tidy_submitted : (m : List ℕ) → Tidy (submitted s m)
  unfolding submitted
  tidy_submitted m = record {
    valid = accepted_valid s.table t.valid (submission_of m);
    sixless = accepted_sixless s.table.words t.valid t.sixless (accepted_words s.table t.valid (submission_of m));
    owed = accepted_owed s.table.words s.queue m t.valid t.owed refl (accepted_words s.table t.valid (submission_of m));
  }

  -- the oldest k are let go
  pub tidy_acked : (k a : ℕ) → Tidy (acked s k a)
  unfolding acked
  tidy_acked k a = record {
    valid = released_valid (take k s.queue) s.table.words t.valid;
    sixless = released_sixless (take k s.queue) s.table.words t.valid t.sixless;
    owed = released_owed k s.table.words s.queue t.valid t.owed;
  }

  -- a protected message is taken
  pub tidy_taken : (old : List ℕ) (g : Message) → is_protected g.protection ≡ true → Tidy (taken old s g)
  unfolding taken
  tidy_taken old g p =
      let y : Meets = meets old s.table g in
      rw p
      (record {
        valid = received_valid s.table t.valid y true (label_effect g);
        sixless = received_sixless s.table y (label_effect g) t.valid t.sixless;
        owed = received_owed s.table s.queue t.valid t.owed y true (label_effect g);
      })
