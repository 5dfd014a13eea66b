-- Over every run: a label is withdrawing or releasing only as long as its message is held. Assumes nothing.
use mathlib.Core.Bool.{Bool, true, true≢false}
use mathlib.Core.List.{List}
use mathlib.Core.Path.{◌≡◌, sym, ◌∙◌, ap}
use Rattle.protocol.specs.Held.{is_held}
use Rattle.two_ends.specs.Labels.{Listed, due_kind}
use Rattle.two_ends.specs.Runs.{AllProperEvents, Event, run}
use Rattle.two_ends.specs.Start.{Afresh, Fit, Opener, start}
use Rattle.two_ends.specs.World.{End, Lasts}
use Rattle.two_ends.proofs.Arriving.{f}
use Rattle.two_ends.proofs.Invariant.{side_of}
use Rattle.two_ends.proofs.Labels.{labels_persist}
use Rattle.two_ends.proofs.Persisted.{persisted}
use Rattle.two_ends.proofs.Tidy.{Tidy}

listed : (e : End) → Tidy e.state → Listed e
unfolding is_held
listed e t = record {
  owed = t.owed;
  settled = λ none due l z. true≢false (sym (t.owed due l z) ∙ ap (is_held (due_kind due) l) none);
  protected = t.sixless;
}

-- the state that counts is that of an end that has begun
counts : (e : End) → e.begun ≡ true → Tidy (side_of e).state → Tidy e.state
counts e g t = rw g at t

-- at an end that has begun a label is withdrawing or releasing only while its message is held, and none has code 6
pub labels_last : (x y : Opener) → Fit x → Fit y → Afresh x y → (vs : List (Bool × Event)) → AllProperEvents vs → Lasts (run (start x y) vs)
    → ((run (start x y) vs).a.begun ≡ true → Listed (run (start x y) vs).a) × ((run (start x y) vs).b.begun ≡ true → Listed (run (start x y) vs).b)
labels_last x y fx fy f vs p k =
    let l = persisted labels_persist x y fx fy f vs p k in
    let w = run (start x y) vs in
    (λ g. listed w.a (counts w.a g l.own), λ g. listed w.b (counts w.b g l.peer))
