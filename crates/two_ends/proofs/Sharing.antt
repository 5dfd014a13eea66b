-- The labels of the two ends with what is under way between them, after each event at one end. Assumes nothing.
use Rattle.std.specs.Prelude.{Ok, Option}
use Prim.Native.Nat.{ℕ, ◌+◌}
use mathlib.Core.Bool.{true, false}
use mathlib.Core.List.{List, [], ◌∷◌, ◌++◌, append-nil, append_assoc}
use mathlib.Core.Path.{◌≡◌, refl, sym, ap, ◌∙◌}
use native.Mathlib.Omega.{arith}
use lib.ListN.{length}
use Rattle.label_list.specs.declared.LabelMessage.{LabelMessage}
use Rattle.label_list.specs.declared.Side.TheVariants.{Given, Used}
use Rattle.label_list.specs.declared.SweepRule.TheVariants.{AfterBreak}
use Rattle.label_list.specs.Sweep.{swept_of}
use Rattle.label_list.specs.Valid.{valid_of}
use Rattle.label_events.specs.declared.Meets.{Meets}
use Rattle.label_events.specs.declared.Reception.{Reception}
use Rattle.label_events.specs.declared.Touched.{Touched}
use Rattle.label_events.specs.Change.{code_at}
use Rattle.message.specs.declared.Kind.{Kind}
use Rattle.message.specs.Submission.{submission_of}
use Rattle.protocol.specs.Acked.{released_labels}
use Rattle.protocol.specs.Held.{is_held}
use Rattle.protocol.specs.Labels.{effect_reception, effect_labels}
use Rattle.protocol.specs.State.{table_of, no_table}
use Rattle.protocol.proofs.Words.{released_valid}
use Rattle.two_ends.specs.Agree.{Agree, code_after}
use Rattle.two_ends.specs.Calls.{accepts, takes}
use Rattle.two_ends.specs.LeftOut.{is_left, without}
use Rattle.two_ends.specs.World.{History}
use Rattle.two_ends.proofs.Accepting.{AcceptedWords}
use Rattle.two_ends.proofs.Acking.{none_given, ack_giver, ack_user, broken_giver, broken_user}
use Rattle.two_ends.proofs.Agreeing.{accept_giver, accept_user}
use Rattle.two_ends.proofs.Gaps.{without-append}
use Rattle.two_ends.proofs.Getting.{Says, take_giver, take_user}
use Rattle.two_ends.proofs.NoRequests.{accepted_in, no_requests, with_left, no_requests-code, no_requests-held}
use Rattle.two_ends.proofs.Sixless.{NoSix, none_code}

-- the words and the history of the giver, then those of the user: they agree, whatever the one has accepted and the other not secured
pub record Shared (xl : List ℕ) (xh : History) (yl : List ℕ) (yh : History) : Type 0 where
  pub agree : (out back : List (List ℕ)) → accepted_in xh ≡ yh.secured ++ out → accepted_in yh ≡ xh.secured ++ back → Agree xl yl out back

-- ---- the start
pub shared_none : (yl : List ℕ) (xh yh : History) → Shared no_table.words xh yl yh
shared_none yl xh yh = record { agree = λ out back p q l may g held. none_given (none_code Given l) g }

module _ {xl : List ℕ} {xh : History} {yl : List ℕ} {yh : History} where
  -- ---- a connection ends
  pub shared_broken : valid_of xl ≡ true → NoSix xl → Shared xl xh yl yh → Shared (swept_of xl AfterBreak) xh yl yh
  shared_broken v n s = record { agree = λ out back p q. broken_giver xl yl out back (s.agree out back p q) v n }

  pub shared_broken_peer : valid_of yl ≡ true → NoSix yl → Shared xl xh yl yh → Shared xl xh (swept_of yl AfterBreak) yh
  shared_broken_peer v n s = record { agree = λ out back p q. broken_user xl yl out back (s.agree out back p q) v n }

  -- ---- the oldest are let go
  pub shared_freed : valid_of xl ≡ true → (ms : List (List ℕ)) → Shared xl xh yl yh → Shared (released_labels ms xl) (takes ms [] xh) yl yh
  shared_freed v ms s = record { agree = λ out back p q. ack_giver xl yl out back (s.agree out back p (rw (append-nil xh.secured) at q)) ms v }

  pub shared_freed_peer : valid_of yl ≡ true → (ms : List (List ℕ)) → Shared xl xh yl yh → Shared xl xh (released_labels ms yl) (takes ms [] yh)
  shared_freed_peer v ms s = record { agree = λ out back p q. ack_user xl yl out back (s.agree out back (rw (append-nil yh.secured) at p) q) ms v }

  -- ---- and a message is taken
  module _ (ms : List (List ℕ)) (m : List ℕ) (ids index : List ℕ) (r : Meets) (k : Kind) (n : ℕ) (e : Option (LabelMessage × Touched)) (is : submission_of m ≡ Ok (k, n)) (says : Says k n e) where
    pub shared_taken : valid_of xl ≡ true → Shared xl xh yl yh → Shared (effect_labels (table_of (released_labels ms xl) ids index) r true e) (takes ms (m ∷ []) xh) yl yh
    shared_taken v s = record {
      agree = λ out back p q.
          let a : Agree xl yl out (m ∷ back) = s.agree out (m ∷ back) p (q ∙ append_assoc xh.secured (m ∷ []) back) in
          take_giver (released_labels ms xl) yl out back m r (table_of (released_labels ms xl) ids index) refl (ack_giver xl yl out (m ∷ back) a ms v) (released_valid ms xl v) k n e is says;
    }

    pub shared_taken_peer : valid_of yl ≡ true → effect_reception (table_of (released_labels ms yl) ids index) r true e ≡ Reception.Taken → Shared xl xh yl yh
        → Shared xl xh (effect_labels (table_of (released_labels ms yl) ids index) r true e) (takes ms (m ∷ []) yh)
    shared_taken_peer v room s = record {
      agree = λ out back p q.
          let a : Agree xl yl (m ∷ out) back = s.agree (m ∷ out) back (p ∙ append_assoc yh.secured (m ∷ []) out) q in
          take_user xl (table_of (released_labels ms yl) ids index) out back m r (ack_user xl yl (m ∷ out) back a ms v) (released_valid ms yl v) k n e is says room;
    }

-- ---- a message is accepted
pub cancel : (xs ys zs : List (List ℕ)) → xs ++ ys ≡ xs ++ zs → ys ≡ zs
cancel [] ys zs e = e
cancel (x ∷ xs) ys zs e = let t : xs ++ ys ≡ xs ++ zs = cc in cancel xs ys zs t

accepted_in_lem : (h : History) (m : List ℕ) → is_left h.left (length h.accepted) ≡ false → accepted_in (accepts m h) ≡ accepted_in h ++ (m ∷ [])
accepted_in_lem h m n = without-append h.left 0 h.accepted (m ∷ []) ∙ (let at : 0 + length h.accepted ≡ length h.accepted = omega arith in rw (at, n))

pub newest : (h : History) (sec o out : List (List ℕ)) (m : List ℕ) → is_left h.left (length h.accepted) ≡ false → accepted_in h ≡ sec ++ o → accepted_in (accepts m h) ≡ sec ++ out → out ≡ o ++ (m ∷ [])
newest h sec o out m n e p =
    sym (cancel sec (o ++ (m ∷ [])) out (sym (append_assoc sec o (m ∷ [])) ∙ ap (λ (l : List (List ℕ)). l ++ (m ∷ [])) (sym e) ∙ sym (accepted_in_lem h m n) ∙ p))

module _ {xl : List ℕ} {xh : History} {yl : List ℕ} {yh : History} (o : List (List ℕ)) (m : List ℕ) {after : List ℕ} where
  pub shared_accepted : accepted_in xh ≡ yh.secured ++ o → is_left xh.left (length xh.accepted) ≡ false → valid_of xl ≡ true → NoSix yl → AcceptedWords xl (submission_of m) after → Shared xl xh yl yh → Shared after (accepts m xh) yl yh
  shared_accepted e u v n w s = record { agree = λ out back p q. rw (newest xh yh.secured o out m u e p) (accept_giver xl yl o back (s.agree o back e q) m v n refl w) }

  pub shared_accepted_peer : accepted_in yh ≡ xh.secured ++ o → is_left yh.left (length yh.accepted) ≡ false → valid_of yl ≡ true → AcceptedWords yl (submission_of m) after → Shared xl xh yl yh → Shared xl xh after (accepts m yh)
  shared_accepted_peer e u v w s = record { agree = λ out back p q. rw (newest yh xh.secured o back m u e q) (accept_user xl yl out o (s.agree out o p e) m v refl w) }

-- ---- Requests are left out: they move no label
pub same_rest : (n sec out : List (List ℕ)) {whole : List (List ℕ)} → whole ≡ sec ++ n → whole ≡ sec ++ out → n ≡ out
same_rest n sec out e p = cancel sec n out (sym e ∙ p)

module _ {xl : List ℕ} {xh : History} {yl : List ℕ} {yh : History} (left : List ℕ) (o n : List (List ℕ)) where
  pub shared_marked : accepted_in xh ≡ yh.secured ++ o → without left 0 xh.accepted ≡ yh.secured ++ n → no_requests o ≡ no_requests n → Shared xl xh yl yh → Shared xl (with_left left xh) yl yh
  shared_marked e f r s = record {
    agree = λ out back p q l may g none.
        let is : n ≡ out = same_rest n yh.secured out f p in
        let code : (c : ℕ) → code_after l c o ≡ code_after l c out = λ c. sym (no_requests-code l c o) ∙ ap (code_after l c) r ∙ no_requests-code l c n ∙ ap (code_after l c) is in
        rw (code (code_at yl Used l)) at (s.agree o back e q l may g none);
  }

  pub shared_marked_peer : accepted_in yh ≡ xh.secured ++ o → without left 0 yh.accepted ≡ xh.secured ++ n → no_requests o ≡ no_requests n → Shared xl xh yl yh → Shared xl xh yl (with_left left yh)
  shared_marked_peer e f r s = record {
    agree = λ out back p q l may g none.
        let is : n ≡ back = same_rest n xh.secured back f q in
        let held : is_held 3 l o ≡ is_held 3 l back = sym (no_requests-held l o) ∙ ap (is_held 3 l) r ∙ no_requests-held l n ∙ ap (is_held 3 l) is in
        s.agree out o p e l may g (held ∙ none);
  }
