-- What a writer puts on its line, and a KeepAlive. Assumes nothing.
use Prim.Native.Nat.{ℕ, ◌<◌}
use mathlib.Core.Bool.{Bool, true, false, true≢false}
use mathlib.Core.List.{List, [], ◌∷◌, ◌++◌, map}
use mathlib.Core.Logic.{inl, ⊎_elim}
use mathlib.Core.Path.{◌≡◌, refl, sym, ap, ◌∙◌}
use native.Mathlib.Omega.{arith}
use Rattle.ft_number.specs.declared.MessageId.{MessageId}
use Rattle.protocol.specs.declared.Answer.{Answer}
use Rattle.protocol.specs.declared.Phase.{Phase}
use Rattle.protocol.specs.KeepAlive.{alive_bytes, keepalive}
use Rattle.protocol.specs.Phases.{is_up}
use Rattle.protocol.specs.State.{State}
use Rattle.protocol.specs.Step.{stepped}
use Rattle.protocol.proofs.Quiet.{Quiet}
use Rattle.protocol.proofs.Writers.{Wrote, writer_says}
use Rattle.two_ends.specs.Calls.{called, put, wrote}
use Rattle.two_ends.specs.World.{History, End, World}
use Rattle.two_ends.proofs.Direction.{half_secured}
use Rattle.two_ends.proofs.Invariant.{Holds, Good}
use Rattle.two_ends.proofs.Packets.{Packet, alive, Fine, bytes_of}
use Rattle.two_ends.proofs.Quiet.{quietly_puts}
use Rattle.two_ends.proofs.Sides.{dir_alive, dir_alive_peer}
use Rattle.two_ends.proofs.Worlds.{ended, ready_open, at-replaced, Settled}

-- ---- what it puts on the line
map_snoc : (ps : List Packet) (p : Packet) → map bytes_of (ps ++ (p ∷ [])) ≡ map bytes_of ps ++ (bytes_of p ∷ [])
map_snoc [] p = refl
map_snoc (q ∷ ps) p = ap (λ (l : List (List ℕ)). bytes_of q ∷ l) (map_snoc ps p)

pub line-more : {line : List (List ℕ)} (ps : List Packet) (p : Packet) → line ≡ map bytes_of ps → line ++ (bytes_of p ∷ []) ≡ map bytes_of (ps ++ (p ∷ []))
line-more ps p e = ap (λ (l : List (List ℕ)). l ++ (bytes_of p ∷ [])) e ∙ sym (map_snoc ps p)

-- ---- a KeepAlive
module _ (now : State) (h : History) (id : MessageId) (small : id.0 < 4294967296) {b : End} {ab ba : List (List ℕ)} where
  alive-written : (ph : Phase) (jo bg : Bool) → is_up ph ≡ true → Holds (ended now ph jo bg h) b ab ba
      → Settled (ended now ph jo bg h) b (put jo ab (stepped Answer.Done now ph (alive_bytes now ph id))) ba
  alive-written Phase.Idle jo bg u s = absurd (true≢false (sym u))
  alive-written (Phase.InitWait v) jo bg u s = absurd (true≢false (sym u))
  alive-written (Phase.UpFT on) jo false u s = absurd (true≢false (sym (s.2.own.waiting refl).waits))
  alive-written (Phase.UpFT on) false true u s = inl (ready_open s.2.own, s)
  alive-written (Phase.UpFT on) true true u s =
      let i = s.2 in
      let p : Packet = alive id now.secured in
      let fine : Fine p = (omega arith, omega (arith, half_secured i.back.half)) in
      inl (
        ready_open i.own,
        (
          s.0 ++ (p ∷ []),
          s.1,
          record {
            line_a = line-more s.0 p i.line_a;
            line_b = i.line_b;
            own = i.own;
            peer = i.peer;
            out = dir_alive now now.kept on.resumed on.sent true h id fine i.out;
            back = dir_alive_peer now now.kept on.resumed on.sent true h id i.back;
            agree = i.agree;
          },
        ),
      )
  alive-written Phase.UpPlain jo bg u s = absurd (true≢false (sym s.2.own.possible))
  alive-written Phase.Failed jo bg u s = absurd (true≢false (sym u))

pub at_keepalives : (w : World) (id : MessageId) (room : ℕ) → id.0 < 4294967296 → Good w → Good (wrote w (keepalive w.a.state w.a.phase id room))
unfolding keepalive
at_keepalives w id room small g =
    let now = w.a.state in
    let ph = w.a.phase in
    let x = keepalive now ph id room in
    at-replaced w (called w.a x w.a.history) (put w.a.joined w.ab x) w.ba (λ kp k.
    let s = g kp in
    ⊎_elim
    (λ (o : Wrote now (is_up ph) ph (alive_bytes now ph id) x).
    rw o.is (alive-written now w.a.history id small ph w.a.joined w.a.begun o.may_write s))
    (λ (q : Quiet now ph x). quietly_puts w.a x q s w.a.joined)
    (writer_says now ph (is_up ph) ph (alive_bytes now ph id) room))
