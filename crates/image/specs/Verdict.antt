-- Restore's checks, in either version. "Restore checks size, block 0, its fields, then live slots in ring order: check,
-- then fields." 02: block 65 is "checked after the slots", the index "checked last"; version 2 is "the only one outside
-- the converter".
use Rattle.std.specs.Prelude.{Result, Ok, Err, ℕ, ◌+◌, ◌-◌, ◌<◌, Bool, true, not, List, [], ◌∷◌, ◌++◌, ◌≡◌, eqb, leb, length}
use Rattle.octets.specs.Pick.{pick}
use Rattle.block.specs.Check.{sound}
use Rattle.label_list.specs.Find.{any}
use Rattle.block0.specs.declared.Header.{Header}
use Rattle.block0.specs.declared.Version.{Version}
use Rattle.block0.specs.declared.Version.TheVariants.{Two}
use Rattle.block0.specs.Fields.{fields_by}
use Rattle.block0.specs.Layout.{slot_count, header_by, labels_by}
use Rattle.fec_index.specs.Entries.{entries_ok, words_beside}
use Rattle.request_ids.specs.Fields.{ids_ok}
use Rattle.slot.specs.Fields.{slot_ok}
use Rattle.image.specs.declared.ImageFault.{ImageFault}
use Rattle.image.specs.declared.Judgement.{Judgement}
use Rattle.image.specs.declared.Judgement.TheVariants.{Good, BadCheck, BadFields, Idle}
use Rattle.image.specs.Ring.{ring}
use Rattle.image.specs.Sizes.{image_size, slot_at, block, block_of, further, further_count, request_block, index_block}

-- ---- the judgement of a block
-- the blocks that are looked at, in this order: block 0, the live slots that it names, then the further blocks. "Slots
-- that aren't live are not looked at."
abbrev pub looked : Header → List ℕ
looked h = 0 ∷ (ring block_of h.first h.held ++ further)

-- the fields of further block b are right beside these label words
abbrev pub further_ok : List ℕ → ℕ → List ℕ → Bool
further_ok words b bytes =
    pick (eqb b request_block) (ids_ok words bytes) (entries_ok (words_beside (b - index_block) words) bytes)

-- the fields of block b are right: block 0's, a slot's, or a further block's beside the label words
abbrev pub fields_right : Version → List ℕ → ℕ → Bool
fields_right v image b =
    pick (eqb b 0) (fields_by v (block image b))
    (pick (leb b slot_count) (slot_ok (block image b)) (further_ok (labels_by v (block image 0)) b (block image b)))

-- "check, then fields"
abbrev pub check_then_fields : List ℕ → Bool → Judgement
check_then_fields b fields = pick (not (sound b)) BadCheck (pick (not fields) BadFields Good)

-- the judgement of block b by its bytes
unfoldable pub bytes_judged : Version → List ℕ → ℕ → Judgement
bytes_judged v image b = check_then_fields (block image b) (fields_right v image b)

-- of a slot's block it is the same in either version
unfoldable pub slot_judged : List ℕ → ℕ → Judgement
slot_judged image b = check_then_fields (block image b) (slot_ok (block image b))

-- the judgement of block b: idle where block 0 does not lead to it, else by its bytes
unfoldable pub block_judged : Version → List ℕ → ℕ → Judgement
block_judged v image b = pick (not (any (eqb b) (looked (header_by v (block image 0))))) Idle (bytes_judged v image b)

-- the number of the answer that a judgement leads to: "10: bad block. 11: bad field"
abbrev pub judgement_number : Judgement → ℕ
judgement_number Good = 0
judgement_number BadCheck = 10
judgement_number BadFields = 11
judgement_number Idle = 0

-- ---- the first fault
-- block b, and then the rest: a good block is no fault, nor is an idle one
abbrev pub fault_then : Judgement → ℕ → Result Unit ImageFault → Result Unit ImageFault
fault_then BadCheck b rest = Err (ImageFault.BadBlock b)
fault_then BadFields b rest = Err (ImageFault.BadField b)
fault_then Good b rest = rest
fault_then Idle b rest = rest

-- of the blocks in an order
unfoldable pub first_fault : (ℕ → Judgement) → List ℕ → Result Unit ImageFault
first_fault judgement [] = Ok tt
first_fault judgement (b ∷ rest) = fault_then (judgement b) b (first_fault judgement rest)

unfoldable pub verdict_by : Version → List ℕ → Result Unit ImageFault
verdict_by v image =
    pick (not (eqb (length image) image_size)) (Err ImageFault.WrongSize)
    (first_fault (block_judged v image) (looked (header_by v (block image 0))))

abbrev pub verdict : List ℕ → Result Unit ImageFault
verdict image = verdict_by Two image

-- the answer's number: "10 bad block, with its number; 11 bad field, with block number; 12 image not" of its size; 02:
-- "12 reads the new size, in both versions"
abbrev pub verdict_number : Result Unit ImageFault → ℕ
verdict_number (Ok tt) = 0
verdict_number (Err ImageFault.WrongSize) = 12
verdict_number (Err (ImageFault.BadBlock b)) = 10
verdict_number (Err (ImageFault.BadField b)) = 11

-- any answer but 0 refuses the image
abbrev pub refuses : Result Unit ImageFault → Bool
refuses v = not (eqb (verdict_number v) 0)

-- the block that it names: "block 0 where none applies"
abbrev pub verdict_block : Result Unit ImageFault → ℕ
verdict_block (Ok tt) = 0
verdict_block (Err ImageFault.WrongSize) = 0
verdict_block (Err (ImageFault.BadBlock b)) = b
verdict_block (Err (ImageFault.BadField b)) = b

-- a slot's block that passes
pub record SlotGood (b : List ℕ) : Type 0 where
  pub check : sound b ≡ true
  pub fields : slot_ok b ≡ true

-- a further block that passes beside these label words
pub record FurtherGood (words : List ℕ) (b : ℕ) (bytes : List ℕ) : Type 0 where
  pub check : sound bytes ≡ true
  pub fields : further_ok words b bytes ≡ true

-- an image that passes, clause by clause
pub record IsSoundBy (v : Version) (image : List ℕ) : Type 0 where
  pub size : length image ≡ image_size
  pub check : sound (block image 0) ≡ true
  pub fields : fields_by v (block image 0) ≡ true
  pub slots : (i : ℕ) → i < (header_by v (block image 0)).held
      → SlotGood (block image (block_of (slot_at (header_by v (block image 0)).first i)))
  pub further : (k : ℕ) → k < further_count
      → FurtherGood (labels_by v (block image 0)) (request_block + k) (block image (request_block + k))

abbrev pub IsSound : List ℕ → Type 0
IsSound image = IsSoundBy Two image
