-- Over every run in which the owners keep a rule for a label, both ends list it alike once what is under way has arrived. Assumes nothing.
use Prim.Native.Nat.{ℕ}
use mathlib.Core.Bool.{Bool, true, false}
use mathlib.Core.List.{List, [], ◌∷◌, ◌++◌, append-nil}
use mathlib.Core.Logic.{◌⊎◌, inl, inr, ⊎_elim}
use mathlib.Core.Path.{◌≡◌, refl, sym, ◌∙◌}
use native.Mathlib.Omega.{arith}
use lib.ListN.{length, take}
use Rattle.label_list.specs.declared.Side.TheVariants.{Given, Used}
use Rattle.label_list.specs.Word.{listable}
use Rattle.label_events.specs.declared.Meets.{Meets}
use Rattle.label_events.specs.Change.{code_at}
use Rattle.message.specs.declared.Message.{Message}
use Rattle.message.specs.Submission.{submission_of}
use Rattle.protocol.specs.Acked.{acked}
use Rattle.protocol.specs.Labels.{meets, label_effect}
use Rattle.protocol.specs.Receive.{taken}
use Rattle.protocol.specs.State.{State, released_state}
use Rattle.protocol.specs.Step.{broken}
use Rattle.protocol.specs.Submit.{accepted_labels, submitted}
use Rattle.two_ends.specs.Calls.{accepts, takes}
use Rattle.two_ends.specs.Demand.{accepted_read, held_messages}
use Rattle.two_ends.specs.Labels.{IsDue, release, withdrawal, Listed}
use Rattle.two_ends.specs.LeftOut.{is_left, without}
use Rattle.two_ends.specs.Match.{Alike, AllSubmitSo, Matches, Rule, Ruled, SettledAs, asked_back, asked_back_acked, ended, free-absent, given_in_use, in_use, withdrawn_asked}
use Rattle.two_ends.specs.Runs.{AllProperEvents, Event, run}
use Rattle.two_ends.specs.Start.{Afresh, Fit, Opener, start}
use Rattle.two_ends.specs.World.{End, History, Lasts, no_history}
use Rattle.two_ends.proofs.Allowing.{GivenStep, UsedStep, given-step, used_step}
use Rattle.two_ends.proofs.Crossing.{Gone, absent, releasing}
use Rattle.two_ends.proofs.Fitting.{Codes, awaited, awaited_back, came_back, free, held, held_back, leaving, leaving_back}
use Rattle.two_ends.proofs.Giving.{all_secured}
use Rattle.two_ends.proofs.Invariant.{side_of}
use Rattle.two_ends.proofs.Labels.{labels_persist}
use Rattle.two_ends.proofs.Listing.{labels_last}
use Rattle.two_ends.proofs.Matching.{Match, Matched, asked-rule, free-rule, matched_accepted, matched_accepted_peer, matched_broken, matched_broken_peer, matched_freed, matched_freed_peer, matched_marked, matched_marked_peer, matched_none, matched_taken, matched_taken_peer}
use Rattle.two_ends.proofs.NoRequests.{accepted_in, no_requests, with_left}
use Rattle.two_ends.proofs.Persisted.{persisted_where}
use Rattle.two_ends.proofs.Persisting.{CarriedTo, PersistsWhere, TakenIn}
use Rattle.two_ends.proofs.Theorem.{nothing_lost}

module _ (rule : Rule) (l : ℕ) (may : listable l ≡ true) where
  match_none : Match rule l released_state no_history released_state no_history
  match_none = record { labels = labels_persist.none; ours = matched_none rule l; theirs = matched_none rule l }

  module _ {s : State} {h : History} {t : State} {k : History} (x : Match rule l s h t k) where
    match_swap : Match rule l t k s h
    match_swap = record { labels = labels_persist.swapped x.labels; ours = x.theirs; theirs = x.ours }

    match_same : (u : State) → u.table.words ≡ s.table.words → u.marks ≡ s.marks → u.queue ≡ s.queue → Match rule l u h t k
    match_same u words marks queue = record {
      labels = labels_persist.same x.labels u words marks queue;
      ours = rw words x.ours;
      theirs = rw words x.theirs;
    }

    match_ended : Match rule l (broken s) h t k
    match_ended =
        let own = x.labels.own in
        record {
          labels = labels_persist.ended x.labels;
          ours = matched_broken rule l own.valid own.sixless x.ours;
          theirs = matched_broken_peer rule l own.valid own.sixless x.theirs;
        }

    match_accepted : (m : List ℕ) (o : List (List ℕ)) → accepted_in h ≡ k.secured ++ o → is_left h.left (length h.accepted) ≡ false → TakenIn s m → Ruled rule l s m
        → Match rule l (submitted s m) (accepts m h) t k
    unfolding submitted
    match_accepted m o e n y r =
        let v = x.labels.own.valid in
        let given : GivenStep l (submission_of m) (code_at s.table.words Given l) (code_at (accepted_labels s.table (submission_of m)) Given l) =
        rw y.accepted (given-step s.table v l y.kind y.label y.taken) in
        let used : UsedStep l (submission_of m) (code_at s.table.words Used l) (code_at (accepted_labels s.table (submission_of m)) Used l) =
        rw y.accepted (used_step s.table v l y.kind y.label y.taken) in
        record {
          labels = labels_persist.accepted x.labels m o e n y tt;
          ours = matched_accepted rule l o m e n given (free-rule rule l rule s m refl r) x.ours;
          theirs = matched_accepted_peer rule l o m e n used (asked-rule rule l rule s m refl r) x.theirs;
        }

    match_marked : (left : List ℕ) (o p : List (List ℕ)) → accepted_in h ≡ k.secured ++ o → without left 0 h.accepted ≡ k.secured ++ p → no_requests o ≡ no_requests p
        → Match rule l s (with_left left h) t k
    match_marked left o p e f r = record {
      labels = labels_persist.marked x.labels left o p e f r;
      ours = matched_marked rule l left o p e f r x.ours;
      theirs = matched_marked_peer rule l left o p e f r x.theirs;
    }

    match_freed : (n a : ℕ) → Match rule l (acked s n a) (takes (take n s.queue) [] h) t k
    unfolding acked
    match_freed n a =
        let v = x.labels.own.valid in
        record {
          labels = labels_persist.freed x.labels n a;
          ours = matched_freed rule l v (take n s.queue) x.ours;
          theirs = matched_freed_peer rule l v (take n s.queue) x.theirs;
        }

    match_carried : (n a : ℕ) (g : Message) (m : List ℕ) → CarriedTo s.table.words (acked s n a) g m → Match rule l (taken s.table.words (acked s n a) g) (takes (take n s.queue) (m ∷ []) h) t k
    unfolding taken acked
    match_carried n a g m y =
        let v = x.labels.own.valid in
        let gone = take n s.queue in
        let met : Meets = meets s.table.words (acked s n a).table g in
        record {
          labels = labels_persist.carried x.labels n a g m y;
          ours = rw y.protected (matched_taken rule l may gone m s.table.ids s.table.index met y.kind y.label (label_effect g) y.accepted y.effect v y.room x.ours);
          theirs = rw y.protected (matched_taken_peer rule l may gone m s.table.ids s.table.index met y.kind y.label (label_effect g) y.accepted y.effect v y.room x.theirs);
        }

  match_persists : PersistsWhere (Ruled rule l) (Match rule l)
  match_persists = record {
    none = match_none;
    swapped = match_swap;
    same = match_same;
    ended = match_ended;
    accepted = match_accepted;
    marked = match_marked;
    freed = match_freed;
    carried = match_carried;
  }

-- ---- what it says once nothing is under way
gone_either : {u : ℕ} → Gone u → (u ≡ 0) ⊎ (u ≡ 5)
gone_either absent = inl refl
gone_either releasing = inr refl

alike : {rule : Rule} {c u n : ℕ} → n ≡ 0 → Codes rule c u n → Alike c u
alike z (free g) = ended (inl refl) (gone_either g)
alike z (came_back g) = ended (inr refl) (gone_either g)
alike z held = in_use
alike z (held_back e g) = absurd (omega arith)
alike z leaving = asked_back
alike z (leaving_back g) = absurd (omega arith)
alike z awaited = asked_back_acked
alike z (awaited_back g) = absurd (omega arith)

-- and once all ACKs have come
settled : {c d : ℕ} → (IsDue withdrawal c → ⊥) → (IsDue release d → ⊥) → Alike c d → SettledAs c d
settled due owed in_use = given_in_use
settled due owed asked_back = absurd (due (inl refl))
settled due owed asked_back_acked = withdrawn_asked
settled {c} {d} due owed (ended x y) =
    ⊎_elim
    (λ (z : c ≡ 0). ⊎_elim (λ (w : d ≡ 0). rw (z, w) free-absent) (λ (w : d ≡ 5). absurd (owed w)) y)
    (λ (z : c ≡ 9). absurd (due (inr z)))
    x

matches : {rule : Rule} {l : ℕ} (x y : End) → x.begun ≡ true → y.begun ≡ true → Matched rule l (side_of x).state.table.words x.history (side_of y).state.table.words y.history
    → (held_messages x ≡ [] → held_messages y ≡ [] → (accepted_read x ≡ y.history.secured ++ []) × (accepted_read y ≡ x.history.secured ++ [])) → Listed x → Listed y → Matches x y l
matches {rule} {l} x y gx gy m all lx ly =
    let n : Matched rule l x.state.table.words x.history y.state.table.words y.history = rw (gx, gy) at m in
    record {
      arrived = λ p q. alike refl (n.match [] [] (sym p ∙ sym (append-nil y.history.secured)) (sym q ∙ sym (append-nil x.history.secured))).codes;
      settled = λ p q.
          let e = all p q in
          settled (λ z. lx.settled p withdrawal l z) (λ z. ly.settled q release l z) (alike refl (n.match [] [] e.0 e.1).codes);
    }

-- ---- THE THEOREM: over every run from such a start in which both owners keep one of the two rules for the label, as long as neither end has released its state
pub labels_match : (x y : Opener) → Fit x → Fit y → Afresh x y → (vs : List (Bool × Event)) → AllProperEvents vs → Lasts (run (start x y) vs)
    → (run (start x y) vs).a.begun ≡ true → (run (start x y) vs).b.begun ≡ true → (rule : Rule) (l : ℕ) → listable l ≡ true → AllSubmitSo (Ruled rule l) (start x y) vs
    → Matches (run (start x y) vs).a (run (start x y) vs).b l × Matches (run (start x y) vs).b (run (start x y) vs).a l
labels_match x y fx fy f vs p k ga gb rule l may so =
    let w = run (start x y) vs in
    let m = persisted_where (match_persists rule l may) x y fx fy f vs p so k in
    let d = nothing_lost x y fx fy f vs p k in
    let listed = labels_last x y fx fy f vs p k in
    let la = listed.0 ga in
    let lb = listed.1 gb in (
      matches w.a w.b ga gb m.ours (λ na nb. (all_secured d.there ga na, all_secured d.back gb nb)) la lb,
      matches w.b w.a gb ga m.theirs (λ nb na. (all_secured d.back gb nb, all_secured d.there ga na)) lb la,
    )
