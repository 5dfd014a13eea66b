-- Whether a received message bears protection as the labels that it touches demand.
use Rattle.std.specs.Prelude.{ℕ, Bool, true, false, not, eqb}
use Rattle.octets.specs.Pick.{pick, both}
use Rattle.label_list.specs.declared.LabelMessage.{LabelMessage}
use Rattle.label_list.specs.declared.LabelMessage.TheVariants.{Mapping, Withdraw, Release}
use Rattle.label_list.specs.declared.Protection.{Protection}
use Rattle.label_list.specs.declared.Protection.TheVariants.{Right, Missing, Wrong}
use Rattle.label_list.specs.declared.Side.{Side}
use Rattle.label_list.specs.Rules.{received_side}
use Rattle.label_list.specs.Word.{code_of, without_protection, on_side}

-- 01: "Protection is missing (33) .. on a message touching codes 1 to 5 on its own side (Mapping and Withdraw 3-5, Release 1-2)": any code of its side but 6.
-- 02: "the rules that a label stands once on its side and that its Release is protected now cover" 8 and 9
unfoldable pub needs_protection : Side → ℕ → Bool
needs_protection side code = both (not (eqb code without_protection)) (on_side side code)

-- "It is wrong (32) on a Mapping or Withdraw that names a label of code 6."
unfoldable pub bars_protection : LabelMessage → ℕ → Bool
bars_protection Mapping code = eqb code without_protection
bars_protection Withdraw code = eqb code without_protection
bars_protection Release code = false

-- the verdict on a message that names a label of that code; the Bool: whether it is protected
unfoldable pub code_protection : LabelMessage → Bool → ℕ → Protection
code_protection message true code = pick (bars_protection message code) Wrong Right
code_protection message false code = pick (needs_protection (received_side message) code) Missing Right

-- a word that an unprotected message may not touch on its own side
abbrev pub protected_on : Side → ℕ → Bool
protected_on side w = needs_protection side (code_of w)
