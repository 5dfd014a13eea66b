-- The demand as 01 has it, before anything could be left out. Where nothing is, Demand.antt says this (`as_before` in proofs/Before.antt).
use Rattle.std.specs.Prelude.{ℕ, ◌+◌, ◌≤◌, true, List, ◌++◌, ◌≡◌, length}
use Rattle.ft_number.specs.Circle.{after}
use Rattle.protocol.specs.State.{held, capacity}
use Rattle.two_ends.specs.Demand.{Opens, RefusedAt64, held_messages}
use Rattle.two_ends.specs.World.{End, World, swap}

-- of the sender x and its peer y, each counted from its own fresh UpFT
pub record SafeBefore (x y : End) : Type 0 where
  -- "what one end has secured is an opening part of what the other accepted to send, in order, nothing twice"
  pub in_order : Opens y.history.secured x.history.accepted
  -- "what the sender let go is an opening part of what was secured"
  pub let_go_is : Opens x.history.letgo y.history.secured
  -- "its store holds exactly the rest"
  pub rest-held : x.begun ≡ true → x.history.letgo ++ held_messages x ≡ x.history.accepted
  -- "accepted equals let go plus held"
  pub counts : x.begun ≡ true → length x.history.accepted ≡ length x.history.letgo + held x.state
  -- "at most 64 are held"
  pub at_most : held x.state ≤ capacity
  -- R and S say so: R is as many successors of 0 as messages were let go, and the peer's S as many as were secured
  pub released : x.begun ≡ true → x.state.released.0 ≡ after (length x.history.letgo) 0
  pub secured : y.begun ≡ true → y.state.secured.0 ≡ after (length y.history.secured) 0

pub record DemandBefore (w : World) : Type 0 where
  pub there : SafeBefore w.a w.b
  pub back : SafeBefore w.b w.a
  pub own : (m : List ℕ) → RefusedAt64 w m
  pub peer : (m : List ℕ) → RefusedAt64 (swap w) m
