-- What a message does, by its parts. Assumes nothing.
use Rattle.std.specs.Prelude.{Option}
use Prim.Native.Nat.{ℕ}
use mathlib.Core.Bool.{Bool, true, false, not}
use mathlib.Core.List.{List}
use mathlib.Core.Path.{◌≡◌, ap, ◌∙◌}
use Rattle.octets.specs.Pick.{both}
use Rattle.label_list.specs.declared.LabelMessage.{LabelMessage}
use Rattle.label_list.specs.declared.Protection.{Protection}
use Rattle.label_events.specs.declared.Touched.{Touched}
use Rattle.message.specs.declared.Kind.{Kind}
use Rattle.message.specs.declared.Message.{Message}
use Rattle.message.specs.Kinds.{kind_of}
use Rattle.protocol.specs.Labels.{touched_by, effect_on, label_effect, is_protected, always_protected}
use Rattle.receive.specs.Words.{protection_judged, protection_lent}

pub effect_is : (g : Message) {x : Touched} {e : Option (LabelMessage × Touched)} → x ≡ touched_by g.label g.fec → e ≡ effect_on g.typename x → e ≡ label_effect g
unfolding label_effect
effect_is g p q = q ∙ ap (effect_on g.typename) p

module _ (words entries : List ℕ) (effect : Option (LabelMessage × Touched)) (g : Message) {p : Bool} {k : Kind} {b : Bool} (ep : p ≡ is_protected g.protection) (ek : k ≡ kind_of g)
    (eb : b ≡ both (not p) (always_protected k)) where
  pub protection_missing : b ≡ true → Protection.Missing ≡ protection_judged words entries effect g
  protection_missing t = rw (← ep, ← ek, ← eb, t)

  pub protection_by : {r : Protection} → b ≡ false → r ≡ protection_lent words entries p effect → r ≡ protection_judged words entries effect g
  protection_by n r = rw (← ep, ← ek, ← eb, n) r
