-- Over every run: once both stores are empty, what one end has given is in use or asked back at the other. Assumes nothing.
use Prim.Native.Nat.{ℕ}
use mathlib.Core.Bool.{Bool, true}
use mathlib.Core.List.{[], ◌++◌, List, append_assoc, ◌∷◌}
use mathlib.Core.Path.{◌≡◌, refl, sym, ◌∙◌, ap}
use native.Mathlib.Omega.{arith}
use Rattle.protocol.specs.Held.{is_held}
use Rattle.two_ends.specs.Agree.{InUse}
use Rattle.two_ends.specs.Demand.{Safe, held_messages, accepted_read, letgo_read}
use Rattle.two_ends.specs.Runs.{AllProperEvents, Event, run}
use Rattle.two_ends.specs.Start.{Afresh, Fit, Opener, start}
use Rattle.two_ends.specs.World.{End, Lasts, no_history}
use Rattle.two_ends.proofs.Arriving.{f}
use Rattle.two_ends.proofs.Invariant.{side_of}
use Rattle.two_ends.proofs.Labels.{labels_persist}
use Rattle.two_ends.proofs.Persisted.{persisted}
use Rattle.two_ends.proofs.Sharing.{Shared, cancel}
use Rattle.two_ends.proofs.Theorem.{nothing_lost}

-- ---- with an empty store everything accepted was secured
last_none : (xs ys : List (List ℕ)) → xs ++ ys ≡ [] → ys ≡ []
last_none [] ys e = e
last_none (x ∷ xs) ys e = let no : ◌≡◌ {A = ℕ} 0 1 = cc in absurd (omega arith)

pub all_secured : {x y : End} → Safe x y → x.begun ≡ true → held_messages x ≡ [] → accepted_read x ≡ y.history.secured ++ []
all_secured {x} {y} s g no_history =
    let gone = letgo_read x in
    let first = s.let_go_is.rest in
    let second = s.in_order.rest in
    let all : gone ++ [] ≡ accepted_read x = rw no_history at (s.rest-held g) in
    let same : gone ++ (first ++ second) ≡ gone ++ [] =
    sym (append_assoc gone first second) ∙ ap (λ (l : List (List ℕ)). l ++ second) s.let_go_is.whole ∙ s.in_order.whole ∙ sym all in
    sym s.in_order.whole ∙ ap (λ (l : List (List ℕ)). y.history.secured ++ l) (last_none first second (cancel gone (first ++ second) [] same))

in_use : (x y : End) → x.begun ≡ true → y.begun ≡ true → Shared (side_of x).state.table.words x.history (side_of y).state.table.words y.history
    → accepted_read x ≡ y.history.secured ++ [] → accepted_read y ≡ x.history.secured ++ [] → InUse x y
unfolding is_held
in_use x y gx gy s p q = λ l may g. let t = rw (gx, gy) at s in t.agree [] [] p q l may g refl

-- with both stores empty every label given at one end is in use or asked back at the other
pub given_used : (x y : Opener) → Fit x → Fit y → Afresh x y → (vs : List (Bool × Event)) → AllProperEvents vs → Lasts (run (start x y) vs)
    → (run (start x y) vs).a.begun ≡ true → (run (start x y) vs).b.begun ≡ true → held_messages (run (start x y) vs).a ≡ [] → held_messages (run (start x y) vs).b ≡ []
    → InUse (run (start x y) vs).a (run (start x y) vs).b × InUse (run (start x y) vs).b (run (start x y) vs).a
given_used x y fx fy f vs p k ga gb na nb =
    let d = nothing_lost x y fx fy f vs p k in
    let l = persisted labels_persist x y fx fy f vs p k in
    let all = all_secured d.there ga na in
    let back = all_secured d.back gb nb in
    let a = (run (start x y) vs).a in
    let b = (run (start x y) vs).b in
    (in_use a b ga gb l.ours all back, in_use b a gb ga l.theirs back all)
