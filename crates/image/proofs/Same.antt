-- A store of what the image says already changes nothing, and a store of anything else changes the bytes of block 0; so do a break and a release. Assumes nothing.
use Prim.Native.Nat.{ℕ, ◌<◌}
use mathlib.Core.Bool.{true, false, false≢true}
use mathlib.Core.List.{List, [], ◌∷◌}
use mathlib.Core.Logic.{◌≢◌, ◌⊎◌, ⊎_elim}
use mathlib.Core.Path.{◌≡◌, refl, sym, ap, ap₂, ◌∙◌}
use native.Mathlib.Omega.{arith}
use lib.Dec.{eqb}
use lib.ListN.{length, get_or, drop, length-map, get_or-map, set}
use lib.Seq.{ext_get_or, set-get_or, get_or-set_same}
use borrow.Author.Tests.{eqb-true, eqb-false, ne_eqb}
use Rattle.octets.specs.Bytes.{Bytes}
use Rattle.octets.specs.Differ.{differ}
use Rattle.octets.proofs.Choice.{by_test}
use Rattle.octets.proofs.Differ.{differ_false}
use Rattle.block.specs.Check.{block_size}
use Rattle.block.specs.Run.{Words}
use Rattle.ft_number.specs.declared.MessageId.{MessageId}
use Rattle.label_list.specs.declared.SweepRule.TheVariants.{AfterBreak}
use Rattle.label_list.specs.Find.{any}
use Rattle.label_list.specs.Rules.{code_swept}
use Rattle.label_list.specs.Sweep.{word_swept, swept_of}
use Rattle.label_list.specs.Word.{word_count, code_of, word_of, request_word}
use Rattle.word_block.specs.Layout.{word_block, block_words}
use Rattle.word_block.proofs.Lent.{word_word_block}
use Rattle.word_block.proofs.Same.{word_block_same}
use Rattle.block0.specs.declared.Header.{Header}
use Rattle.block0.specs.declared.Version.TheVariants.{Two}
use Rattle.block0.specs.Coded.{has_code, unprotected}
use Rattle.block0.specs.Fields.{Fits}
use Rattle.block0.specs.Layout.{header_of, labels_of}
use Rattle.block0.proofs.Same.{block0_same}
use Rattle.request_ids.proofs.Good.{good_rest}
use Rattle.label_meaning.specs.Valid.{WordInRange, IsValid}
use Rattle.label_meaning.proofs.Meaning.{any_none, valid_means, range_listed}
use Rattle.image.specs.Events.{release_of, break_of}
use Rattle.image.specs.Sizes.{image_size, block, with_block, request_block}
use Rattle.image.specs.State.{Contents, decode, store0, store_id, stored_ids}
use Rattle.image.specs.Verdict.{IsSound}
use Rattle.image.proofs.Blocks.{length-block, put_same}
use Rattle.image.proofs.Changes.{release_decodes, break_decodes}
use Rattle.image.proofs.Ranges.{bytes-block, bytes_in_range, stored-count}
use Rattle.image.proofs.Sound.{sound_valid, sound_requests}
use Rattle.image.proofs.Stored.{decode-store0, id-put, asked-count}

-- a block 0 that says something else has other bytes
pub said-changed : (image next : List ℕ) → ((decode image).header ≡ (decode next).header → (decode image).labels ≡ (decode next).labels → ⊥)
    → true ≡ differ (block image 0) (block next 0)
unfolding decode
said-changed image next other =
    by_test (differ (block image 0) (block next 0)) sym (λ same.
    let e : block image 0 ≡ block next 0 = differ_false (block image 0) (block next 0) same in
    absurd (other (ap header_of e) (ap labels_of e)))

-- ---- a store
pub store_same : (image : List ℕ) → IsSound image → Bytes image → store0 image (decode image).header (decode image).labels ≡ image
unfolding store0 decode
store_same image s byte =
    let long : length (block image 0) ≡ block_size = length-block image 0 (omega (arith, s.size)) in
    ap (with_block image 0) (block0_same Two (block image 0) long (bytes-block image 0 byte) s.check s.fields) ∙ put_same image 0 (omega (arith, s.size))

-- anything else changes the bytes
pub store-changed : (image : List ℕ) (h : Header) (ls : List ℕ) → length image ≡ image_size → Fits h → Words word_count ls
    → (h ≡ (decode image).header → ls ≡ (decode image).labels → ⊥) → true ≡ differ (block image 0) (block (store0 image h ls) 0)
store-changed image h ls size fh fl other =
    let e = decode-store0 image size h ls fh fl in
    said-changed image (store0 image h ls) (λ p q. other (sym (p ∙ ap (λ (t : Contents). t.header) e)) (sym (q ∙ ap (λ (t : Contents). t.labels) e)))

-- ---- an ID: the one that stands there already changes nothing
pub id_same : (image : List ℕ) (place : ℕ) (id : MessageId) → IsSound image → Bytes image → get_or (stored_ids image) place 0 ≡ id.0 → store_id image place id ≡ image
unfolding store_id stored_ids
id_same image place id s byte same =
    let long : length (block image request_block) ≡ block_size = length-block image request_block (omega (arith, s.size)) in
    ap (λ (v : ℕ). with_block image request_block (word_block (set (stored_ids image) place v))) (sym same)
    ∙ ap (λ (xs : List ℕ). with_block image request_block (word_block xs)) (set-get_or (stored_ids image) place 0)
    ∙ ap (with_block image request_block)
    (word_block_same (block image request_block) long (bytes-block image request_block byte) (sound_requests s).check (good_rest (labels_of (block image 0)) (block image request_block) (sound_requests s)))
    ∙ put_same image request_block (omega (arith, s.size))

-- any other changes the bytes of block 65
pub id-changed : (image : List ℕ) (place : ℕ) (id : MessageId) → length image ≡ image_size → place < word_count → id.0 < 4294967296
    → get_or (stored_ids image) place 0 ≢ id.0 → true ≡ differ (block image request_block) (block (store_id image place id) request_block)
unfolding stored_ids
id-changed image place id size room small other =
    let xs : List ℕ = set (stored_ids image) place id.0 in
    let put : get_or xs place 0 ≡ id.0 = get_or-set_same (stored_ids image) place id.0 0 (omega (arith, stored-count image)) in
    by_test (differ (block image request_block) (block (store_id image place id) request_block)) sym (λ same.
    let e : block image request_block ≡ word_block xs =
    differ_false (block image request_block) (block (store_id image place id) request_block) same ∙ id-put image size place id in
    absurd (other (ap (λ (b : List ℕ). get_or (block_words b) place 0) e ∙ word_word_block xs (asked-count image size place id) place (rw put small) ∙ put)))

-- ---- a release: with kept 0 the image says so already
pub release_same : (image : List ℕ) → IsSound image → Bytes image → (decode image).header.kept ≡ 0 → release_of image ≡ image
unfolding release_of
release_same image s byte idle =
    let v = (sound_valid image s).idle idle in
    ap₂ (λ (h : Header) (ls : List ℕ). store0 image h ls) (sym v.0) (sym v.1) ∙ store_same image s byte

-- with kept 1 the bytes of block 0 are others
pub release-changed : (image : List ℕ) → length image ≡ image_size → ((decode image).header.kept ≡ 0 → ⊥) → true ≡ differ (block image 0) (block (release_of image) 0)
release-changed image size kept =
    said-changed image (release_of image) (λ p q. kept (ap (λ (h : Header). h.kept) (p ∙ ap (λ (t : Contents). t.header) (release_decodes image size))))

-- ---- a break
-- a word that is free, an open Request's or in range, and whose code is not 6
pub word_kept : (w : ℕ) → (w ≢ 0 → (w ≡ request_word) ⊎ WordInRange w) → (code_of w ≡ 6 → ⊥) → word_swept AfterBreak w ≡ w
unfolding word_swept word_of code_swept
word_kept w range other =
    rw (ne_eqb (code_of w) 6 other) (by_test (eqb (code_of w) 0)
    (λ z. rw z (free (eqb-true (code_of w) 0 z)))
    (λ z. rw z (omega arith)))
  where
    free : code_of w ≡ 0 → 0 ≡ w
    free z = by_test (eqb w 0) (λ e. sym (eqb-true w 0 e)) (λ e. ⊎_elim (λ (asked : w ≡ request_word). absurd (omega arith)) (λ (listed : WordInRange w). absurd (range_listed listed z)) (range (eqb-false w 0 e)))

words_kept : (ls : List ℕ) → IsValid ls → unprotected ls ≡ false → swept_of ls AfterBreak ≡ ls
unfolding word_swept word_of code_swept
words_kept ls v none =
    ext_get_or 0 (swept_of ls AfterBreak) ls (length-map ls (word_swept AfterBreak)) (λ i h.
    get_or-map (word_swept AfterBreak) ls i 0 ∙ word_kept (get_or ls i 0) (v.each i) (eqb-false _ 6 (any_none (has_code 6) ls none refl i)))

-- a break: with no word of code 6 nothing changes,
pub break_same : (image : List ℕ) → IsSound image → Bytes image → unprotected (decode image).labels ≡ false → break_of image ≡ image
unfolding break_of
break_same image s byte none =
    rw (words_kept (decode image).labels (valid_means (decode image).labels (sound_valid image s).labels) none) (store_same image s byte)

-- a word of code 6 becomes a free one, which has another code
swept_other : (ls : List ℕ) → unprotected ls ≡ true → ls ≡ swept_of ls AfterBreak → ⊥
unfolding any word_swept word_of code_swept
swept_other [] some same = absurd (false≢true some)
swept_other (w ∷ ws) some same =
    by_test (eqb (code_of w) 6)
    (λ t. let e : w ≡ 0 = ap (λ (l : List ℕ). get_or l 0 0) same ∙ rw t in omega (arith, eqb-true (code_of w) 6 t))
    (λ f. swept_other ws (rw f at some) (ap (λ (l : List ℕ). drop 1 l) same))

-- with one the bytes of block 0 are others
pub break_changed : (image : List ℕ) → IsSound image → Bytes image → unprotected (decode image).labels ≡ true → true ≡ differ (block image 0) (block (break_of image) 0)
break_changed image s byte some =
    said-changed image (break_of image) (λ p q.
    swept_other (decode image).labels some (q ∙ ap (λ (t : Contents). t.labels) (break_decodes image s (bytes_in_range image byte))))
