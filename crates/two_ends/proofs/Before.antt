-- Where nothing is left out the demand is 01's, word for word; and nothing is where no Request is accepted. Assumes nothing.
use Prim.Native.Nat.{ℕ}
use mathlib.Core.Bool.{true, false, true≢false, Bool}
use mathlib.Core.List.{List, [], ◌∷◌}
use mathlib.Core.Path.{◌≡◌, refl, sym, ap, ◌∙◌}
use lib.ListN.{length, drop, take}
use lib.Seq.{length-take-le}
use borrow.Author.Tests.{eq-eqb}
use Rattle.ft_number.specs.Circle.{after}
use Rattle.protocol.specs.LeftOut.{is_undone}
use Rattle.two_ends.specs.Before.{SafeBefore, DemandBefore}
use Rattle.two_ends.specs.Demand.{Demand, Safe, SecuredUpTo, held_messages}
use Rattle.two_ends.specs.LeftOut.{is_left, without}
use Rattle.two_ends.specs.Runs.{AllProperEvents, Event, run}
use Rattle.two_ends.specs.Start.{Afresh, Fit, Opener, start}
use Rattle.two_ends.specs.World.{End, Lasts, World}
use Rattle.two_ends.proofs.Gaps.{without_none}
use Rattle.two_ends.proofs.Theorem.{nothing_lost}

read_none : (left : List ℕ) (p : ℕ) (l : List (List ℕ)) → left ≡ [] → without left p l ≡ l
read_none left p l e = ap (λ (x : List ℕ). without x p l) e ∙ without_none p l

-- the position up to which was secured is then the count of what was
position_is : {x y : End} (u : SecuredUpTo x y) → x.history.left ≡ [] → u.position ≡ length y.history.secured
position_is {x} u e =
    let acc = x.history.accepted in
    sym (ap length (u.all ∙ read_none x.history.left 0 (take u.position acc) e) ∙ length-take-le u.position acc u.within)

pub safe_before : {x y : End} → x.history.left ≡ [] → Safe x y → SafeBefore x y
safe_before {x} {y} e s =
    let left = x.history.left in
    let accepted = read_none left 0 x.history.accepted e in
    let letgo = read_none left 0 x.history.letgo e in
    let held = read_none left (length x.history.letgo) (held_messages x) e in
    record {
      in_order = rw accepted at s.in_order;
      let_go_is = rw letgo at s.let_go_is;
      rest-held = s.slots;
      counts = λ g. rw (accepted, letgo, held) at (s.counts g);
      at_most = s.at_most;
      released = s.released;
      secured = λ g. let u = s.secured g in u.number ∙ ap (λ (k : ℕ). after k 0) (position_is u e);
    }

-- ---- as before: with nothing left out on either side
pub as_before : (w : World) → w.a.history.left ≡ [] → w.b.history.left ≡ [] → Demand w → DemandBefore w
as_before w a b d = record { there = safe_before a d.there; back = safe_before b d.back; own = d.own; peer = d.peer }

-- nothing is left out of messages among which no Request is undone by an Abort
pub none_left : {x y : End} → Safe x y → ((j : ℕ) → is_undone (drop j x.history.accepted) ≡ false) → x.history.left ≡ []
none_left {x} s none = by x.history.left s.only
  where
    by : (left : List ℕ) → ((j : ℕ) → is_left left j ≡ true → is_undone (drop j x.history.accepted) ≡ true) → left ≡ []
    by [] only = refl
    by (p ∷ ps) only = absurd (true≢false (sym (only p (rw (eq-eqb p p refl))) ∙ none p))

-- so the theorem of before holds of every run in which neither end accepts an Abort of a Request of its own that is held
pub nothing_lost-before : (x y : Opener) → Fit x → Fit y → Afresh x y → (vs : List (Bool × Event)) → AllProperEvents vs → Lasts (run (start x y) vs)
    → ((j : ℕ) → is_undone (drop j (run (start x y) vs).a.history.accepted) ≡ false) → ((j : ℕ) → is_undone (drop j (run (start x y) vs).b.history.accepted) ≡ false)
    → DemandBefore (run (start x y) vs)
nothing_lost-before x y fx fy f vs p k na nb =
    let d = nothing_lost x y fx fy f vs p k in
    as_before (run (start x y) vs) (none_left d.there na) (none_left d.back nb) d
