-- Over every run in which the owners keep a rule for a label: both ends list it alike once what is under way has arrived. Assumes nothing.
use Rattle.std.specs.Prelude.{Ok, Option}
use Prim.Native.Nat.{ℕ}
use mathlib.Core.Bool.{true, false}
use mathlib.Core.List.{List, [], ◌∷◌, ◌++◌, append-nil, append_assoc}
use mathlib.Core.Logic.{◌⊎◌, inl, inr, ⊎_elim}
use mathlib.Core.Path.{◌≡◌, refl, sym, ap, ◌∙◌}
use lib.ListN.{length}
use Rattle.octets.proofs.Choice.{no}
use Rattle.label_list.specs.declared.LabelMessage.{LabelMessage}
use Rattle.label_list.specs.declared.Side.TheVariants.{Given, Used}
use Rattle.label_list.specs.declared.SweepRule.TheVariants.{AfterBreak}
use Rattle.label_list.specs.Sweep.{swept_of}
use Rattle.label_list.specs.Valid.{valid_of}
use Rattle.label_list.specs.Word.{listable}
use Rattle.label_events.specs.declared.Meets.{Meets}
use Rattle.label_events.specs.declared.Reception.{Reception}
use Rattle.label_events.specs.declared.Touched.{Touched}
use Rattle.label_events.specs.Change.{code_at}
use Rattle.message.specs.declared.Kind.{Kind}
use Rattle.message.specs.Submission.{submission_of}
use Rattle.label_meaning.specs.Event.{Acked, after_event, Moves, withdraw-acked, back_acked, release-acked}
use Rattle.label_meaning.proofs.Step.{step_valid}
use Rattle.protocol.specs.Acked.{released_labels}
use Rattle.protocol.specs.Labels.{effect_labels, effect_reception}
use Rattle.protocol.specs.State.{table_of, State, no_table}
use Rattle.protocol.proofs.Words.{released-keeps, released_valid}
use Rattle.two_ends.specs.Agree.{code_after}
use Rattle.two_ends.specs.Calls.{accepts, takes}
use Rattle.two_ends.specs.LeftOut.{is_left, without}
use Rattle.two_ends.specs.Match.{Rule, Ruled, offered-free, released-asked}
use Rattle.two_ends.specs.World.{History, no_history}
use Rattle.two_ends.proofs.Acking.{broken-code}
use Rattle.two_ends.proofs.Agreeing.{moved}
use Rattle.two_ends.proofs.Allowing.{GivenStep, UsedStep, given-taken}
use Rattle.two_ends.proofs.Crossing.{absent, clean, no_requests-clean, no_requests-releases, releases}
use Rattle.two_ends.proofs.Fitting.{Asked, Fits, Free, ack_codes, fits_absent, fits_given, fits_used, free, giver_takes, user_takes}
use Rattle.two_ends.proofs.Getting.{Says, code-taken}
use Rattle.two_ends.proofs.Labels.{Labels}
use Rattle.two_ends.proofs.NoRequests.{accepted_in, no_requests, no_requests-code, with_left}
use Rattle.two_ends.proofs.Sharing.{newest, same_rest}
use Rattle.two_ends.proofs.Sixless.{NoSix, none_code}

module _ (rule : Rule) (l : ℕ) where
  -- the words and the history of the giver, then those of the user: the label fits, whatever the one has accepted and the other not secured
  pub record Matched (xl : List ℕ) (xh : History) (yl : List ℕ) (yh : History) : Type 0 where
    pub match : (out back : List (List ℕ)) → accepted_in xh ≡ yh.secured ++ out → accepted_in yh ≡ xh.secured ++ back → Fits rule l (code_at xl Given l) (code_at yl Used l) out back

  -- ---- the start
  pub matched_none : Matched no_table.words no_history no_table.words no_history
  matched_none = record {
    match = λ out back p q.
        rw (← p, ← q, none_code Given l, none_code Used l) (record { codes = free absent; tidy = refl });
  }

  -- ---- a code of the giver's or of the user's is another, by an ACK
  given-acked : {m : LabelMessage} {k c e : ℕ} → Moves (Acked m k) Given l c e → ((c ≡ 2) × (e ≡ 8)) ⊎ ((c ≡ 9) × (e ≡ 0))
  given-acked withdraw-acked = inl (refl, refl)
  given-acked back_acked = inr (refl, refl)

  used_acked : {m : LabelMessage} {k c e : ℕ} → Moves (Acked m k) Used l c e → (c ≡ 5) × (e ≡ 0)
  used_acked release-acked = (refl, refl)

  module _ (out back : List (List ℕ)) where
    ack_given : (d : ℕ) (ms : List (List ℕ)) (ls : List ℕ) → valid_of ls ≡ true → Fits rule l (code_at ls Given l) d out back → Fits rule l (code_at (released_labels ms ls) Given l) d out back
    ack_given d ms ls v f =
        (released-keeps (λ (ws : List ℕ). (valid_of ws ≡ true) × Fits rule l (code_at ws Given l) d out back)
        (λ ws p m k. (
          step_valid ws (Acked m k) p.0,
          ⊎_elim
              (λ (same : code_at (after_event ws (Acked m k)) Given l ≡ code_at ws Given l). rw same p.1)
              (λ (move : Moves (Acked m k) Given l (code_at ws Given l) (code_at (after_event ws (Acked m k)) Given l)).
              record { codes = ack_codes (given-acked move) p.1.codes; tidy = p.1.tidy })
              (moved ws p.0 (Acked m k) Given l),
        ))
        ms ls (v, f)).1

    ack_used : (c : ℕ) (ms : List (List ℕ)) (ls : List ℕ) → valid_of ls ≡ true → Fits rule l c (code_at ls Used l) out back → Fits rule l c (code_at (released_labels ms ls) Used l) out back
    ack_used c ms ls v f =
        (released-keeps (λ (ws : List ℕ). (valid_of ws ≡ true) × Fits rule l c (code_at ws Used l) out back)
        (λ ws p m k. (
          step_valid ws (Acked m k) p.0,
          ⊎_elim
              (λ (same : code_at (after_event ws (Acked m k)) Used l ≡ code_at ws Used l). rw same p.1)
              (λ (move : Moves (Acked m k) Used l (code_at ws Used l) (code_at (after_event ws (Acked m k)) Used l)).
              let five = used_acked move in
              rw five.1 (fits_absent (rw five.0 at p.1)))
              (moved ws p.0 (Acked m k) Used l),
        ))
        ms ls (v, f)).1

  module _ {xl : List ℕ} {xh : History} {yl : List ℕ} {yh : History} where
    -- ---- a connection ends
    pub matched_broken : valid_of xl ≡ true → NoSix xl → Matched xl xh yl yh → Matched (swept_of xl AfterBreak) xh yl yh
    matched_broken v n s = record { match = λ out back p q. rw (broken-code xl v n Given l) (s.match out back p q) }

    pub matched_broken_peer : valid_of yl ≡ true → NoSix yl → Matched xl xh yl yh → Matched xl xh (swept_of yl AfterBreak) yh
    matched_broken_peer v n s = record { match = λ out back p q. rw (broken-code yl v n Used l) (s.match out back p q) }

    -- ---- the oldest are let go
    pub matched_freed : valid_of xl ≡ true → (ms : List (List ℕ)) → Matched xl xh yl yh → Matched (released_labels ms xl) (takes ms [] xh) yl yh
    matched_freed v ms s = record { match = λ out back p q. ack_given out back (code_at yl Used l) ms xl v (s.match out back p (rw (append-nil xh.secured) at q)) }

    pub matched_freed_peer : valid_of yl ≡ true → (ms : List (List ℕ)) → Matched xl xh yl yh → Matched xl xh (released_labels ms yl) (takes ms [] yh)
    matched_freed_peer v ms s = record { match = λ out back p q. ack_used out back (code_at xl Given l) ms yl v (s.match out back (rw (append-nil yh.secured) at p) q) }

    -- ---- and a message is taken
    module _ (may : listable l ≡ true) (ms : List (List ℕ)) (m : List ℕ) (ids index : List ℕ) (r : Meets) (k : Kind) (n : ℕ) (e : Option (LabelMessage × Touched)) (is : submission_of m ≡ Ok (k, n)) (says : Says k n e) where
      pub matched_taken : valid_of xl ≡ true → effect_reception (table_of (released_labels ms xl) ids index) r true e ≡ Reception.Taken → Matched xl xh yl yh
          → Matched (effect_labels (table_of (released_labels ms xl) ids index) r true e) (takes ms (m ∷ []) xh) yl yh
      matched_taken v room s = record {
        match = λ out back p q.
            let f = s.match out (m ∷ back) p (q ∙ append_assoc xh.secured (m ∷ []) back) in
            rw (given-taken (table_of (released_labels ms xl) ids index) (released_valid ms xl v) r k n e says room l may)
            (rw is at (giver_takes m (ack_given out (m ∷ back) (code_at yl Used l) ms xl v f)));
      }

      pub matched_taken_peer : valid_of yl ≡ true → effect_reception (table_of (released_labels ms yl) ids index) r true e ≡ Reception.Taken → Matched xl xh yl yh
          → Matched xl xh (effect_labels (table_of (released_labels ms yl) ids index) r true e) (takes ms (m ∷ []) yh)
      matched_taken_peer v room s = record {
        match = λ out back p q.
            let f = s.match (m ∷ out) back (p ∙ append_assoc yh.secured (m ∷ []) out) q in
            rw (code-taken (table_of (released_labels ms yl) ids index) (released_valid ms yl v) r k n e says room l may)
            (rw is at (user_takes m (ack_used (m ∷ out) back (code_at xl Given l) ms yl v f)));
      }

    -- ---- a message is accepted
    module _ (o : List (List ℕ)) (m : List ℕ) {after : List ℕ} where
      pub matched_accepted : accepted_in xh ≡ yh.secured ++ o → is_left xh.left (length xh.accepted) ≡ false → GivenStep l (submission_of m) (code_at xl Given l) (code_at after Given l)
          → Free rule (submission_of m) l (code_at xl Given l) → Matched xl xh yl yh → Matched after (accepts m xh) yl yh
      matched_accepted e u step may s = record { match = λ out back p q. rw (newest xh yh.secured o out m u e p) (fits_given (s.match o back e q) m step may) }

      pub matched_accepted_peer : accepted_in yh ≡ xh.secured ++ o → is_left yh.left (length yh.accepted) ≡ false → UsedStep l (submission_of m) (code_at yl Used l) (code_at after Used l)
          → Asked rule (submission_of m) l (code_at yl Used l) → Matched xl xh yl yh → Matched xl xh after (accepts m yh)
      matched_accepted_peer e u step may s = record { match = λ out back p q. rw (newest yh xh.secured o back m u e q) (fits_used (s.match out o p e) m step may) }

    -- ---- Requests are left out
    module _ (left : List ℕ) (o n : List (List ℕ)) where
      pub matched_marked : accepted_in xh ≡ yh.secured ++ o → without left 0 xh.accepted ≡ yh.secured ++ n → no_requests o ≡ no_requests n → Matched xl xh yl yh → Matched xl (with_left left xh) yl yh
      matched_marked e f r s = record {
        match = λ out back p q.
            let is : n ≡ out = same_rest n yh.secured out f p in
            let d = code_at yl Used l in
            let code : code_after l d o ≡ code_after l d out = sym (no_requests-code l d o) ∙ ap (code_after l d) r ∙ no_requests-code l d n ∙ ap (code_after l d) is in
            let tidy = sym (no_requests-clean rule l d o) ∙ ap (clean rule l d) r ∙ no_requests-clean rule l d n ∙ ap (clean rule l d) is in
            let was = s.match o back e q in
            record { codes = rw code at was.codes; tidy = sym tidy ∙ was.tidy };
      }

      pub matched_marked_peer : accepted_in yh ≡ xh.secured ++ o → without left 0 yh.accepted ≡ xh.secured ++ n → no_requests o ≡ no_requests n → Matched xl xh yl yh → Matched xl xh yl (with_left left yh)
      matched_marked_peer e f r s = record {
        match = λ out back p q.
            let is : n ≡ back = same_rest n xh.secured back f q in
            let count : releases l o ≡ releases l back = sym (no_requests-releases l o) ∙ ap (releases l) r ∙ no_requests-releases l n ∙ ap (releases l) is in
            let was = s.match out o p e in
            record { codes = rw count at was.codes; tidy = was.tidy };
      }

  -- ---- what an owner may submit
  pub free-rule : (q : Rule) (s : State) (m : List ℕ) → rule ≡ q → Ruled q l s m → Free rule (submission_of m) l (code_at s.table.words Given l)
  free-rule offered-free s m e may = λ z is. may is
  free-rule released-asked s m e may = λ z is. no (cc (sym e ∙ z))

  pub asked-rule : (q : Rule) (s : State) (m : List ℕ) → rule ≡ q → Ruled q l s m → Asked rule (submission_of m) l (code_at s.table.words Used l)
  asked-rule offered-free s m e may = λ z is. no (cc (sym e ∙ z))
  asked-rule released-asked s m e may = λ z is. may is

-- ---- both directions
pub record Match (rule : Rule) (l : ℕ) (s : State) (h : History) (t : State) (k : History) : Type 0 where
  pub labels : Labels s h t k
  pub ours : Matched rule l s.table.words h t.table.words k
  pub theirs : Matched rule l t.table.words k s.table.words h
