-- The head of a line and the line, from the pieces that were put. Assumes nothing.
use Prim.Native.Nat.{ℕ}
use mathlib.Core.List.{List, ◌++◌}
use mathlib.Core.Path.{◌≡◌, sym, ap}
use Rattle.ft_number.specs.declared.MessageId.{MessageId}
use Rattle.text.specs.Text.{ascii, decimal, Put}
use Rattle.text.proofs.Pieces.{put_then}
use Rattle.dump_fields.specs.Field.{type_text}
use Rattle.message.specs.Reading.{number_in, id_in, reading_of}
use Rattle.dump.specs.Line.{head_text, reading_text, line_of}

module _ {a b c d : List ℕ} {at end second third : ℕ} (m : List ℕ) where
  pub put_head : {e : List ℕ} {first : ℕ} (number k t : ℕ) (id : MessageId) → t ≡ number_in m → id ≡ id_in m
      → Put a at (decimal number) b first → Put b first (ascii " " ++ decimal k) c second → Put c second (type_text t) d third
      → Put d third (ascii " " ++ decimal id.0) e end → Put a at (head_text number k m) e end
  unfolding head_text
  put_head number k t id tq iq p q r s =
      let i : (id_in m).0 ≡ id.0 = ap (λ (x : MessageId). x.0) (sym iq) in
      rw (← tq, i) (put_then (put_then (put_then p q) r) s)

  pub put-line : (number k : ℕ) → Put a at (head_text number k m) b second → Put b second (reading_text m (reading_of m)) c third → Put c third (ascii "\n") d end
      → Put a at (line_of number k m) d end
  unfolding line_of
  put-line number k p q r = put_then (put_then p q) r
