-- The demand, in the user's words, as 02 reads it: "Demand 3 then reads accepted, let go and held messages without those left out; these keep their slots until an ACK
-- passes them, and the bound of 64 and the refusal for room count them." Where none is left out it is 01's, word for word: Before.antt.
use Rattle.std.specs.Prelude.{ℕ, ◌+◌, ◌≤◌, ◌<◌, true, List, [], ◌∷◌, ◌++◌, ◌≡◌, length, take, drop}
use Rattle.ft_number.specs.Circle.{after}
use Rattle.protocol.specs.declared.Answer.{Answer}
use Rattle.protocol.specs.LeftOut.{is_undone}
use Rattle.protocol.specs.State.{held, capacity}
use Rattle.protocol.specs.Submit.{submit}
use Rattle.protocol.specs.SubmitCases.{Passes}
use Rattle.two_ends.specs.LeftOut.{is_left, without}
use Rattle.two_ends.specs.Runs.{submits, act}
use Rattle.two_ends.specs.World.{End, World, swap}

-- xs is an opening part of ys
pub record Opens (xs ys : List (List ℕ)) : Type 0 where
  pub rest : List (List ℕ)
  pub whole : xs ++ rest ≡ ys

-- the messages held
abbrev pub held_messages : End → List (List ℕ)
held_messages e = e.state.queue

-- accepted, let go and held, without those left out: the first message held stands behind those let go
abbrev pub accepted_read : End → List (List ℕ)
accepted_read e = without e.history.left 0 e.history.accepted

abbrev pub letgo_read : End → List (List ℕ)
letgo_read e = without e.history.left 0 e.history.letgo

abbrev pub held_read : End → List (List ℕ)
held_read e = without e.history.left (length e.history.letgo) (held_messages e)

-- the peer's S is the number of that position: what was secured is what was accepted up to there, without those left out
pub record SecuredUpTo (x y : End) : Type 0 where
  pub position : ℕ
  pub within : position ≤ length x.history.accepted
  pub number : y.state.secured.0 ≡ after position 0
  pub all : y.history.secured ≡ without x.history.left 0 (take position x.history.accepted)

-- of the sender x and its peer y, each counted from its own fresh UpFT
pub record Safe (x y : End) : Type 0 where
  -- "what one end has secured is an opening part of what the other accepted to send, in order, nothing twice"
  pub in_order : Opens y.history.secured (accepted_read x)
  -- "what the sender let go is an opening part of what was secured"
  pub let_go_is : Opens (letgo_read x) y.history.secured
  -- "its store holds exactly the rest"
  pub rest-held : x.begun ≡ true → letgo_read x ++ held_read x ≡ accepted_read x
  -- "accepted equals let go plus held"
  pub counts : x.begun ≡ true → length (accepted_read x) ≡ length (letgo_read x) + length (held_read x)
  -- "at most 64 are held", those left out among them
  pub at_most : held x.state ≤ capacity
  -- "these keep their slots until an ACK passes them": with them too, the store holds exactly what was accepted and not let go
  pub slots : x.begun ≡ true → x.history.letgo ++ held_messages x ≡ x.history.accepted
  -- "Of ours only a .. Request is left out, .. if an Abort naming its message ID, queued after it, is held too": nothing but a Request that an accepted Abort behind it undoes
  pub only : (j : ℕ) → is_left x.history.left j ≡ true → is_undone (drop j x.history.accepted) ≡ true
  -- R and S say so: R is as many successors of 0 as messages were let go, and the peer's S is the number up to which it has secured
  pub released : x.begun ≡ true → x.state.released.0 ≡ after (length x.history.letgo) 0
  pub secured : y.begun ≡ true → SecuredUpTo x y

-- "and only at 64 is one refused for room in the store": of a message at the end a; `Passes`: every other test of Submit passes it
pub record RefusedAt64 (w : World) (m : List ℕ) : Type 0 where
  pub only : (submit w.a.state w.a.phase m).answer ≡ Answer.StoreFull → held w.a.state ≡ capacity
  pub full : Passes w.a.state w.a.phase m → held w.a.state ≡ capacity → (submit w.a.state w.a.phase m).answer ≡ Answer.StoreFull
  pub else : Passes w.a.state w.a.phase m → held w.a.state < capacity → (submit w.a.state w.a.phase m).answer ≡ Answer.Done
  -- then it is accepted
  pub accepted : w.a.begun ≡ true → Passes w.a.state w.a.phase m → held w.a.state < capacity
      → (act w (submits m)).a.history.accepted ≡ w.a.history.accepted ++ (m ∷ [])

-- ---- THE DEMAND: in both directions, and at either end
pub record Demand (w : World) : Type 0 where
  pub there : Safe w.a w.b
  pub back : Safe w.b w.a
  pub own : (m : List ℕ) → RefusedAt64 w m
  pub peer : (m : List ℕ) → RefusedAt64 (swap w) m
