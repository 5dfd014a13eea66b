-- Whether a received message bears the protection that the labels it touches demand.
use Rattle.std.specs.Prelude.{ℕ, Bool, true, false, List}
use Rattle.octets.specs.Pick.{pick, both}
use Rattle.label_list.specs.declared.LabelMessage.{LabelMessage}
use Rattle.label_list.specs.declared.Protection.{Protection}
use Rattle.label_list.specs.declared.Protection.TheVariants.{Right, Missing, Wrong}
use Rattle.label_list.specs.declared.Side.{Side}
use Rattle.label_list.specs.Beside.{any_beside}
use Rattle.label_list.specs.Find.{any}
use Rattle.label_list.specs.Protection.{code_protection, protected_on}
use Rattle.label_list.specs.Rules.{received_side}
use Rattle.label_list.specs.Word.{label_of}
use Rattle.label_events.specs.declared.Touched.{Touched}
use Rattle.label_events.specs.Change.{code_at}
use Rattle.label_events.specs.Reach.{Reach, Label, Those, Nothing}

-- 01's answers: 32, 33 "protection wrong, missing"
abbrev pub protection_number : Protection → ℕ
protection_number Right = 0
protection_number Wrong = 32
protection_number Missing = 33

-- a word that is reached and that an unprotected message may not touch
abbrev pub guarded_by : Side → (ℕ → Bool) → ℕ → Bool
guarded_by side reached w = both (reached (label_of w)) (protected_on side w)

-- 01: "a named label or any under a wildcard"; 02: "the labels of that prefix, which 33 reads as touched"; 32 arises only where a label is named
unfoldable pub protection_of : List ℕ → LabelMessage → Bool → Reach → Protection
protection_of words message protected (Label label) = code_protection message protected (code_at words (received_side message) label)
protection_of words message true (Those reached) = Right
protection_of words message false (Those reached) = pick (any (guarded_by (received_side message) reached) words) Missing Right
protection_of words message protected Nothing = Right

-- ---- as the code goes: by the entries beside the words
abbrev pub prefix_protection : List ℕ → List ℕ → LabelMessage → Bool → ℕ → Protection
prefix_protection words entries message true entry = Right
prefix_protection words entries message false entry = pick (any_beside (protected_on (received_side message)) entry words entries) Missing Right

unfoldable pub protection_beside : List ℕ → List ℕ → LabelMessage → Bool → Touched → Protection
protection_beside words entries message protected (Touched.Label label) = protection_of words message protected (Label label)
protection_beside words entries message protected Touched.Every = protection_of words message protected (Those (λ k. true))
protection_beside words entries message protected (Touched.Prefix entry) = prefix_protection words entries message protected entry
protection_beside words entries message protected Touched.Nothing = Right
