-- A world after a call at the end a, whatever the call is. Assumes nothing.
use Prim.Native.Nat.{ℕ}
use mathlib.Core.Bool.{Bool, true, false, not, true≢false}
use mathlib.Core.List.{List, []}
use mathlib.Core.Logic.{◌⊎◌, inl, ⊎_elim}
use mathlib.Core.Path.{◌≡◌, refl, sym, ◌∙◌}
use Rattle.octets.specs.Pick.{pick, both}
use Rattle.octets.proofs.Choice.{both_true}
use Rattle.protocol.specs.declared.Phase.{Phase}
use Rattle.protocol.specs.Phases.{connected}
use Rattle.protocol.specs.State.{State}
use Rattle.protocol.specs.Step.{Step}
use Rattle.two_ends.specs.Calls.{off, disconnected, keeps, called, replaced}
use Rattle.two_ends.specs.World.{History, End, World, swap, Lasts}
use Rattle.two_ends.proofs.Invariant.{Waiting, linkable, Ready, Holds, Good}
use Rattle.two_ends.proofs.Sides.{dir_lost}

-- an end by its parts
abbrev pub ended : State → Phase → Bool → Bool → History → End
ended now ph jo bg h = record { state = now; phase = ph; joined = jo; begun = bg; history = h }

never : {P : Type 0} → true ≡ false → P
never e = absurd (true≢false e)

-- ---- one end
pub kept_one : {now : State} {ph : Phase} {jo : Bool} {h : History} → Ready (ended now ph jo true h) → now.kept ≡ true
kept_one r = r.keeping

-- one that does not await an Init has begun
pub begun_else : {e : End} → Ready e → (Waiting e → ⊥) → e.begun ≡ true
begun_else {e} r n = by e.begun refl
  where
    by : (b : Bool) → e.begun ≡ b → b ≡ true
    by true q = refl
    by false q = absurd (n (r.waiting q))

pub ready_off : {e : End} → Ready e → e.begun ≡ true → Ready (off e)
ready_off r begun = record {
  few = r.few;
  possible = r.possible;
  keeping = r.keeping;
  okays = r.okays;
  waiting = λ q. never (sym begun ∙ q);
  linked = λ q. never (sym q);
}

-- whether it has closed the connection that it was on
abbrev pub closes : End → Bool
closes e = both e.joined (not (connected e.phase))

links : (ph : Phase) → linkable ph ≡ true → connected ph ≡ true
links Phase.Idle e = never (sym e)
links (Phase.InitWait v) e = refl
links (Phase.UpFT u) e = refl
links Phase.UpPlain e = refl
links Phase.Failed e = never (sym e)

pub ready_open : {e : End} → Ready e → closes e ≡ false
ready_open {e} r = by e.joined r.linked
  where
    by : (b : Bool) → (b ≡ true → linkable e.phase ≡ true) → both b (not (connected e.phase)) ≡ false
    by true l = rw (links e.phase (l refl))
    by false l = refl

-- ---- both ends off the connection
pub some_off : {a b : End} {ab ba : List (List ℕ)} → Holds a b ab ba → a.begun ≡ true → b.begun ≡ true → Holds (off a) (off b) [] []
some_off s ga gb =
    let i = s.2 in (
      [],
      [],
      record {
        line_a = refl;
        line_b = refl;
        own = ready_off i.own ga;
        peer = ready_off i.peer gb;
        out = dir_lost i.out gb;
        back = dir_lost i.back ga;
        agree = ga ∙ sym gb;
      },
    )

pub at-broken : (w : World) → Good w → Good (disconnected w)
at-broken w g k =
    let p = both_true w.started (both w.a.begun w.b.begun) k.0 in
    let q = both_true w.a.begun w.b.begun p.1 in
    some_off (g (p.0, k.1)) q.0 q.1

pub at-swap : (w : World) → Good w → Good (swap w)
at-swap w g k =
    let s = g k in
    let i = s.2 in
    (s.1, s.0, record { line_a = i.line_b; line_b = i.line_a; own = i.peer; peer = i.own; out = i.back; back = i.out; agree = sym i.agree })

-- ---- what a call leaves: the end is on the connection as before, or has closed it
abbrev pub Settled : End → End → List (List ℕ) → List (List ℕ) → Type 0
Settled e b ab ba = ((closes e ≡ false) × Holds e b ab ba) ⊎ ((closes e ≡ true) × (e.begun ≡ true → b.begun ≡ true → Holds (off e) (off b) [] []))

abbrev pub next : World → End → List (List ℕ) → List (List ℕ) → World
next w e ab ba = record { a = e; b = w.b; ab = ab; ba = ba; started = w.started; unreleased = both w.unreleased (keeps e) }

-- what holds of the end, on the connection or off it, holds of the end in the world
pub replaced-a : (P : End → Type 0) (w : World) (e : End) (ab ba : List (List ℕ)) → P e → P (off e) → P (replaced w e ab ba).a
replaced-a P w e ab ba p q = by (closes e)
  where
    by : (c : Bool) → P (pick c (disconnected (next w e ab ba)) (next w e ab ba)).a
    by true = q
    by false = p

pub at-replaced : (w : World) (e : End) (ab ba : List (List ℕ)) → (Lasts w → keeps e ≡ true → Settled e w.b ab ba) → Good (replaced w e ab ba)
at-replaced w e ab ba f = by (closes e) refl
  where
    by : (c : Bool) → closes e ≡ c → Good (pick c (disconnected (next w e ab ba)) (next w e ab ba))
    by true q k =
        let p = both_true w.started (both e.begun w.b.begun) k.0 in
        let r = both_true w.unreleased (keeps e) k.1 in
        let g = both_true e.begun w.b.begun p.1 in
        ⊎_elim
        (λ (s : (closes e ≡ false) × Holds e w.b ab ba). never (sym q ∙ s.0))
        (λ (s : (closes e ≡ true) × (e.begun ≡ true → w.b.begun ≡ true → Holds (off e) (off w.b) [] [])). s.1 g.0 g.1)
        (f (p.0, r.0) r.1)
    by false q k =
        let r = both_true w.unreleased (keeps e) k.1 in
        ⊎_elim
        (λ (s : (closes e ≡ false) × Holds e w.b ab ba). s.1)
        (λ (s : (closes e ≡ true) × (e.begun ≡ true → w.b.begun ≡ true → Holds (off e) (off w.b) [] [])). never (sym s.0 ∙ q))
        (f (k.0, r.0) r.1)

-- ---- a call that leaves the end as it was
pub same_end : (e : End) (x : Step) (h : History) → x.state ≡ e.state → x.phase ≡ e.phase → h ≡ e.history → called e x h ≡ e
same_end e x h p q r = λ i. record { state = p i; phase = q i; joined = e.joined; begun = e.begun; history = r i }

pub settled_same : {e a b : End} {ab ba : List (List ℕ)} → e ≡ a → Holds a b ab ba → Settled e b ab ba
settled_same p s = rw p (inl (ready_open s.2.own, s))
