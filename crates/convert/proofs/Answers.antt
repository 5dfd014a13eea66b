-- The answers of a conversion, by the tests that lead to each. Assumes nothing.
use Rattle.std.specs.Prelude.{Result, Ok, Err}
use Prim.Native.Nat.{ℕ, ◌-◌, ◌%◌, ◌≤◌, ◌<◌}
use mathlib.Core.Bool.{Bool, true, false, not}
use mathlib.Core.List.{List, ◌++◌}
use mathlib.Core.Path.{◌≡◌, sym, ap, ◌∙◌}
use native.Mathlib.Omega.{arith}
use lib.Dec.{eqb, leb}
use lib.ListN.{length, take, drop, replicate}
use borrow.Author.Tests.{lt-ltb, le-ltb, not-true, not-false}
use Rattle.octets.specs.Be.{be_at}
use Rattle.octets.specs.Laid.{laid}
use Rattle.octets.specs.Pick.{both}
use Rattle.octets.proofs.Laid.{length-laid, laid-between, laid_front, laid-before}
use Rattle.block.specs.Check.{block_size}
use Rattle.block.proofs.WordRun.{get_d_words_at}
use Rattle.label_list.specs.Word.{word_count, is_free}
use Rattle.block0.specs.declared.Header.{Header}
use Rattle.block0.specs.declared.Version.{Version}
use Rattle.block0.specs.declared.Version.TheVariants.{One, Two}
use Rattle.block0.specs.Layout.{labels_at, places, header_by, labels_by, block_by}
use Rattle.block0.specs.Updates.{header_timeout}
use Rattle.block0.proofs.Written.{length-block0}
use Rattle.image.specs.declared.ImageFault.{ImageFault}
use Rattle.image.specs.Sizes.{image_size, block}
use Rattle.image.specs.State.{decode_by}
use Rattle.image.specs.Verdict.{verdict_by}
use Rattle.image.proofs.Ranges.{words_count}
use Rattle.image.proofs.Sound.{sound_parts}
use Rattle.convert.specs.declared.ConversionFault.{ConversionFault}
use Rattle.convert.specs.Convert.{converted, convert_of}
use Rattle.convert.specs.Move.{other, timeout_moved, header_moved, list_moved, movable, image_moved}
use Rattle.convert.proofs.Kept.{words_moved}

-- a part of what was written is written over
laid_twice : (s p q : List ℕ) → length q ≤ length p → length p ≤ length s → laid (laid s 0 p) 0 q ≡ laid s 0 (laid p 0 q)
laid_twice s p q inside room =
    let long : length (laid p 0 q) ≡ length p = length-laid p 0 q in
    ap (λ (l : List ℕ). laid l 0 q) (laid_front s p room)
    ∙ laid-before p (drop (length p) s) 0 q (omega arith)
    ∙ ap (λ (k : ℕ). laid p 0 q ++ drop k s) (sym long)
    ∙ sym (laid_front s (laid p 0 q) (omega arith))

-- ---- whether block 0 can be moved
pub free_read : (v : Version) (b : List ℕ) → v ≡ One → {w : ℕ} → w ≡ be_at 4 b 504 → eqb w 0 ≡ movable v (header_by v b) (labels_by v b)
unfolding is_free labels_by
free_read v b ev ew =
    ap (λ (n : ℕ). eqb n 0) (ew ∙ sym (get_d_words_at (places One) b (labels_at One) word_count (omega arith)))
    ∙ sym (ap (λ (u : Version). movable u (header_by u b) (labels_by u b)) ev)

pub whole_read : (v : Version) (b : List ℕ) → v ≡ Two → {h : Header} → h ≡ header_by Two b → {t : Bool} → t ≡ both (eqb (h.timeout % 1000) 0) (leb h.timeout 65535000)
    → t ≡ movable v (header_by v b) (labels_by v b)
whole_read v b ev eh et =
    et ∙ ap (λ (h : Header). movable Two h (labels_by Two b)) eh ∙ sym (ap (λ (u : Version). movable u (header_by u b) (labels_by u b)) ev)

-- ---- block 0 moved
pub block_moved : (v : Version) (b : List ℕ) {to : Version} {h m : Header} {t : ℕ} {w x : List ℕ} → length b ≡ block_size → to ≡ other v → h ≡ header_by v b
    → t ≡ timeout_moved v h.timeout → m ≡ header_timeout h t → {z : List ℕ} → z ≡ replicate (places One) 0 → w ≡ labels_by v b ++ drop (places v) z
    → x ≡ block_by to m (take (places to) w) → x ≡ block_by (other v) (header_moved v (header_by v b)) (list_moved v (labels_by v b))
block_moved v b long et eh ett em ez ew ex =
    ex
    ∙ rw (et, em, ett, eh, ew, ez)
    (ap (block_by (other v) (header_moved v (header_by v b))) (words_moved v (labels_by v b) (words_count v b)))

-- written over the first block of a copy, it is the image moved
pub moved_put : (v : Version) (image out : List ℕ) {copy b : List ℕ} → length image ≡ image_size → image_size ≤ length out → copy ≡ laid out 0 image
    → b ≡ block_by (other v) (header_moved v (header_by v (block image 0))) (list_moved v (labels_by v (block image 0)))
    → take 0 copy ++ (b ++ drop (block_size - 0) (drop 0 copy)) ≡ laid out 0 (image_moved v image)
unfolding image_moved
moved_put v image out {copy} {b} size room ec eb =
    let long : length b ≡ block_size = rw eb (length-block0 (other v) (header_moved v (header_by v (block image 0))) (list_moved v (labels_by v (block image 0)))) in
    let whole : length copy ≡ length out = ap length ec ∙ length-laid out 0 image in
    laid-between copy 0 block_size b (omega arith) (omega arith) long
    ∙ ap (λ (l : List ℕ). laid l 0 b) ec
    ∙ laid_twice out image b (omega arith) (omega arith)
    ∙ ap (λ (p : List ℕ). laid out 0 (laid image 0 p)) eb

-- ---- the answers
-- an image that passes has its size
pub passes_size : (v : Version) (image : List ℕ) {r : Result Unit ImageFault} → r ≡ verdict_by v image → r ≡ Ok tt
    → length image ≡ image_size
passes_size v image er passes = (sound_parts {v = v} image (sym er ∙ passes)).size

module _ (v : Version) (image out : List ℕ) {r : Result Unit ImageFault} (er : r ≡ verdict_by v image) where
  pub refused : {fault : ImageFault} → r ≡ Err fault
      → converted (Err (ConversionFault.Image fault)) out ≡ convert_of v image out
  unfolding convert_of
  refused faulty = rw (← er, faulty)

  module _ (passes : r ≡ Ok tt) {t : Bool}
      (et : t ≡ movable v (decode_by v image).header (decode_by v image).labels) where
    pub immovable : not t ≡ true → converted (Err ConversionFault.Immovable) out ≡ convert_of v image out
    unfolding convert_of
    immovable bad = simp (← er, passes, ← et, not-true t bad)

    module _ (moves : not t ≡ false) where
      pub no_room : length out < image_size → converted (Err ConversionFault.NoRoom) out ≡ convert_of v image out
      unfolding convert_of
      no_room short = simp (← er, passes, ← et, not-false t moves, lt-ltb (length out) image_size short)

      pub done : image_size ≤ length out → {x : List ℕ} → x ≡ laid out 0 (image_moved v image)
          → converted (Ok tt) x ≡ convert_of v image out
      unfolding convert_of
      done room ex = simp (← er, passes, ← et, not-false t moves, le-ltb (length out) image_size room, ex)
