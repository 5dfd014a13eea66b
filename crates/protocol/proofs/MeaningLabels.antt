-- The labels that a received message touches are those that 01 names, and its protection is missing or wrong exactly where 01 says so. Assumes nothing.
use Rattle.std.specs.Prelude.{Option, Some, None}
use Prim.Native.Nat.{ℕ, ◌≤◌}
use mathlib.Core.Bool.{Bool, true, false, not}
use mathlib.Core.List.{List}
use mathlib.Core.Logic.{◌≢◌, inl, inr, ⊎_elim}
use mathlib.Core.Path.{◌≡◌, refl, ap, ◌∙◌, sym}
use native.Mathlib.Omega.{arith}
use lib.Dec.{eqb}
use borrow.Author.Tests.{eq-eqb, eqb-true, eqb-false, ne_eqb, not-true}
use Rattle.octets.specs.Pick.{pick, both}
use Rattle.octets.proofs.Choice.{by_test, no, passed, cleared, both_true}
use Rattle.octets.proofs.Pairs.{some_pair}
use Rattle.ft_number.specs.declared.FtNumber.{FtNumber}
use Rattle.label_list.specs.declared.LabelMessage.{LabelMessage}
use Rattle.label_list.specs.declared.Protection.{Protection}
use Rattle.label_list.specs.declared.Side.{Side}
use Rattle.label_list.specs.Beside.{entry_on}
use Rattle.label_list.specs.Find.{any}
use Rattle.label_list.specs.Protection.{needs_protection, bars_protection, code_protection}
use Rattle.label_list.specs.Rules.{received_side}
use Rattle.label_list.specs.Word.{on_side}
use Rattle.label_list.proofs.Standing.{given_in, given_range, used_in, used_range}
use Rattle.tlv.specs.declared.Fec.{Fec}
use Rattle.tlv.specs.Element.{entry_of}
use Rattle.label_events.specs.declared.Touched.{Touched}
use Rattle.label_events.specs.Change.{code_at}
use Rattle.label_events.specs.Protect.{protection_of, guarded_by}
use Rattle.label_events.specs.Reach.{Reach, Label, Those, Nothing}
use Rattle.message.specs.declared.Kind.{Kind}
use Rattle.message.specs.declared.Message.{Message}
use Rattle.message.specs.declared.MessageType.{MessageType}
use Rattle.message.specs.Kinds.{kind_of}
use Rattle.label_meaning.specs.Event.{Touches, named, among}
use Rattle.label_meaning.specs.Protected.{TouchesProtected}
use Rattle.label_meaning.specs.Valid.{IsValid}
use Rattle.label_meaning.proofs.Protected.{touched_missing, missing_touches}
use Rattle.protocol.specs.Labels.{touched_by, effect_on, label_effect, is_protected, always_protected, effect_protection, protection_rule, reached}
use Rattle.protocol.specs.MeaningLabels.{LabelType, of_mapping, of_withdraw, of_release, Touching, names, under_wildcard, under_prefix, NeverBare, address, address-withdraw, resources, Demands, by_kind, by_label, WronglyProtected, Guarded, to_mapping, to_withdraw, to_release, to_second}
use Rattle.protocol.specs.State.{Table}

-- ---- what a message touches
-- its type is one of the three
pub type_of_lem : (x : MessageType) (y : Touched) (m : LabelMessage) (t : Touched) → effect_on x y ≡ Some (m, t) → LabelType x m × (y ≡ t)
type_of_lem MessageType.Notification y m t e = no (cc)
type_of_lem MessageType.Initialization y m t e = no (cc)
type_of_lem MessageType.KeepAlive y m t e = no (cc)
type_of_lem MessageType.Address y m t e = no (cc)
type_of_lem MessageType.AddressWithdraw y m t e = no (cc)
type_of_lem MessageType.Mapping y m t e = let p = some_pair e in (rw (← p.0) of_mapping, p.1)
type_of_lem MessageType.Request y m t e = no (cc)
type_of_lem MessageType.Withdraw y m t e = let p = some_pair e in (rw (← p.0) of_withdraw, p.1)
type_of_lem MessageType.Release y m t e = let p = some_pair e in (rw (← p.0) of_release, p.1)
type_of_lem MessageType.Abort y m t e = no (cc)
type_of_lem MessageType.Other y m t e = no (cc)

pub effect_of_lem : (x : MessageType) (m : LabelMessage) → LabelType x m → (t : Touched) → effect_on x t ≡ Some (m, t)
effect_of_lem MessageType.Mapping LabelMessage.Mapping of_mapping t = refl
effect_of_lem MessageType.Withdraw LabelMessage.Withdraw of_withdraw t = refl
effect_of_lem MessageType.Release LabelMessage.Release of_release t = refl
effect_of_lem x m none t = elim none [ ]

module _ (tb : Table) (g : Message) (m : LabelMessage) where
  label_of_lem : LabelType g.typename m → (x : Option ℕ) → g.label ≡ x → (f : Option Fec) → g.fec ≡ f → {l : ℕ} → Touches (reached tb m (touched_by x f)) l → Touching tb g m l
  label_of_lem k (Some l) e f q named = names k e
  label_of_lem k None e (Some Fec.Wildcard) q (among z) = under_wildcard k e q
  label_of_lem k None e (Some (Fec.Prefix p)) q (among {k = l} z) = under_prefix k e q (eqb-true (entry_on tb.words tb.index (received_side m) l) (entry_of p) z)
  label_of_lem k None e None q {l = l} x6 = elim x6 [ ]
  label_of_lem k None e (Some Fec.Other) q {l = l} x7 = elim x7 [ ]

  -- a message touches the label that it names, or all of them under the wildcard FEC
  pub effect_touches : (t : Touched) → label_effect g ≡ Some (m, t) → {l : ℕ} → Touches (reached tb m t) l → Touching tb g m l
  unfolding label_effect
  effect_touches t e p =
      let k = type_of_lem g.typename (touched_by g.label g.fec) m t e in
      label_of_lem k.0 g.label refl g.fec refl (rw k.1 p)

  -- and back
  pub touching_effect : {l : ℕ} → Touching tb g m l → (t : Touched) × (label_effect g ≡ Some (m, t)) × Touches (reached tb m t) l
  unfolding label_effect
  touching_effect (names {l = l} k e) = (Touched.Label l, rw e (effect_of_lem g.typename m k (Touched.Label l)), named)
  touching_effect (under_wildcard k e f) = (Touched.Every, rw (e, f) (effect_of_lem g.typename m k Touched.Every), among refl)
  touching_effect (under_prefix {l = l} {p} k e f same) =
      (Touched.Prefix (entry_of p), rw (e, f) (effect_of_lem g.typename m k (Touched.Prefix (entry_of p))), among (eq-eqb (entry_on tb.words tb.index (received_side m) l) (entry_of p) same))

-- ---- the kinds that are always protected
bare_kind : (k : Kind) → always_protected k ≡ true → NeverBare k
bare_kind Kind.Mapping e = no (cc)
bare_kind Kind.Withdraw e = no (cc)
bare_kind Kind.Release e = no (cc)
bare_kind Kind.Address e = address
bare_kind Kind.AddressWithdraw e = address-withdraw
bare_kind Kind.ResourcesAvailable e = resources
bare_kind (Kind.Request id) e = no (cc)
bare_kind (Kind.Abort id) e = no (cc)
bare_kind Kind.NoResources e = no (cc)
bare_kind Kind.NoKind e = no (cc)

kind_bare : {k : Kind} → NeverBare k → always_protected k ≡ true
kind_bare address = refl
kind_bare address-withdraw = refl
kind_bare resources = refl

-- ---- 33
-- a protected message never lacks protection
never_missing : (ls : List ℕ) (m : LabelMessage) (t : Reach) → protection_of ls m true t ≡ Protection.Missing → ◌≡◌ {A = ℕ} 0 1
unfolding protection_of code_protection
never_missing ls m (Label l) e = by (bars_protection m (code_at ls (received_side m) l)) e
  where
    by : (b : Bool) → pick b Protection.Wrong Protection.Right ≡ Protection.Missing → ◌≡◌ {A = ℕ} 0 1
    by true e = cc
    by false e = cc
never_missing ls m (Those reached) e = cc
never_missing ls m Nothing e = cc

-- codes 3 to 6 without 6
but_six : (code : ℕ) → both (not (eqb code 6)) (on_side Side.Used code) ≡ true → (3 ≤ code) × (code ≤ 5)
but_six code e =
    let p = both_true (not (eqb code 6)) (on_side Side.Used code) e in
    let r = used_range code p.1 in
    let other : code ≢ 6 = eqb-false code 6 (not-true (eqb code 6) p.0) in
    (r.0, omega arith)

-- the codes that need protection, by their ranges
needs_guarded : (m : LabelMessage) (code : ℕ) → needs_protection (received_side m) code ≡ true → Guarded m code
unfolding needs_protection received_side
needs_guarded LabelMessage.Mapping code e = let r = but_six code e in to_mapping r.0 r.1
needs_guarded LabelMessage.Withdraw code e = let r = but_six code e in to_withdraw r.0 r.1
needs_guarded LabelMessage.Release code e =
    ⊎_elim
    (λ (r : (1 ≤ code) × (code ≤ 2)). to_release r.0 r.1)
    (λ (r : (8 ≤ code) × (code ≤ 9)). to_second r.0 r.1)
    (given_range code (both_true (not (eqb code 6)) (on_side Side.Given code) e).1)

guarded_needs : (m : LabelMessage) (code : ℕ) → Guarded m code → needs_protection (received_side m) code ≡ true
unfolding needs_protection received_side
guarded_needs LabelMessage.Mapping code (to_mapping l h) = rw (ne_eqb code 6 (λ e. omega arith)) (sym (used_in code l (omega arith)))
guarded_needs LabelMessage.Withdraw code (to_withdraw l h) = rw (ne_eqb code 6 (λ e. omega arith)) (sym (used_in code l (omega arith)))
guarded_needs LabelMessage.Release code (to_release l h) = rw (ne_eqb code 6 (λ e. omega arith)) (sym (given_in code (inl (l, h))))
guarded_needs LabelMessage.Release code (to_second l h) = rw (ne_eqb code 6 (λ e. omega arith)) (sym (given_in code (inr (l, h))))

module _ (tb : Table) (g : Message) where
  -- an unprotected message is judged by its kind, then by its labels
  bare_rule : g.protection ≡ None → protection_rule tb g ≡ pick (always_protected (kind_of g)) Protection.Missing (effect_protection tb false (label_effect g))
  unfolding protection_rule
  bare_rule e = rw e

  bare_effect : IsValid tb.words → (f : Option (LabelMessage × Touched)) → label_effect g ≡ f → effect_protection tb false f ≡ Protection.Missing → Demands tb g
  bare_effect v None q e = no (cc)
  bare_effect v (Some (m, t)) q e =
      let p : TouchesProtected tb.words m (reached tb m t) = missing_touches tb.words v m (reached tb m t) e in
      by_label (effect_touches tb g m t q p.touches) (needs_guarded m _ p.needs)

  -- 33 comes only where 01 says so
  pub missing_means : IsValid tb.words → protection_rule tb g ≡ Protection.Missing → (g.protection ≡ None) × Demands tb g
  unfolding protection_rule
  missing_means v e = by g.protection refl e
    where
      bare : g.protection ≡ None → pick (always_protected (kind_of g)) Protection.Missing (effect_protection tb false (label_effect g)) ≡ Protection.Missing → Demands tb g
      bare q e =
          by_test (always_protected (kind_of g))
          (λ t. by_kind (bare_kind (kind_of g) t))
          (λ f. bare_effect v (label_effect g) refl (rw f at e))

      guarded : (f : Option (LabelMessage × Touched)) → effect_protection tb true f ≡ Protection.Missing → ◌≡◌ {A = ℕ} 0 1
      guarded None e = cc
      guarded (Some (m, t)) e = never_missing tb.words m (reached tb m t) e

      by : (x : Option FtNumber) → g.protection ≡ x
          → pick (both (not (is_protected x)) (always_protected (kind_of g))) Protection.Missing (effect_protection tb (is_protected x) (label_effect g)) ≡ Protection.Missing
          → (g.protection ≡ None) × Demands tb g
      by None q e = (q, bare q e)
      by (Some n) q e = no (guarded (label_effect g) e)

  -- and always there
  pub means_missing : g.protection ≡ None → Demands tb g → protection_rule tb g ≡ Protection.Missing
  means_missing q (by_kind k) = bare_rule q ∙ rw (kind_bare k)
  means_missing q (by_label {m} {l} p guarded) =
      let e = touching_effect tb g m p in
      bare_rule q
      ∙ by_test (always_protected (kind_of g))
      (λ t. rw t)
      (λ f. rw (f, e.1) (touched_missing tb.words m (reached tb m e.0) l e.2 (guarded_needs m _ guarded)))

-- ---- 32
bars_used : (m : LabelMessage) (code : ℕ) → bars_protection m code ≡ true → (received_side m ≡ Side.Used) × (code ≡ 6)
unfolding bars_protection received_side
bars_used LabelMessage.Mapping code e = (refl, eqb-true code 6 e)
bars_used LabelMessage.Withdraw code e = (refl, eqb-true code 6 e)
bars_used LabelMessage.Release code e = no (cc)

used_bars : (m : LabelMessage) (code : ℕ) → received_side m ≡ Side.Used → code ≡ 6 → bars_protection m code ≡ true
unfolding bars_protection received_side
used_bars LabelMessage.Mapping code u e = eq-eqb code 6 e
used_bars LabelMessage.Withdraw code u e = eq-eqb code 6 e
used_bars LabelMessage.Release code u e = no (cc)

missing_or_right : (b : Bool) → pick b Protection.Missing Protection.Right ≡ Protection.Wrong → ◌≡◌ {A = ℕ} 0 1
missing_or_right true e = cc
missing_or_right false e = cc

-- an unprotected message is never wrongly protected
never_wrong : (ls : List ℕ) (m : LabelMessage) (t : Reach) → protection_of ls m false t ≡ Protection.Wrong → ◌≡◌ {A = ℕ} 0 1
unfolding protection_of code_protection
never_wrong ls m (Label l) e = missing_or_right (needs_protection (received_side m) (code_at ls (received_side m) l)) e
never_wrong ls m (Those reached) e = missing_or_right (any (guarded_by (received_side m) reached) ls) e
never_wrong ls m Nothing e = cc

pub named_in : (x : Option ℕ) (f : Option Fec) (l : ℕ) → touched_by x f ≡ Touched.Label l → x ≡ Some l
named_in (Some k) f l e = let p : k ≡ l = cc in ap Some p
named_in None None l e = no (cc)
named_in None (Some Fec.Wildcard) l e = no (cc)
named_in None (Some (Fec.Prefix p)) l e = no (cc)
named_in None (Some Fec.Other) l e = no (cc)

module _ (tb : Table) (g : Message) where
  -- under a wildcard protection is never wrong
  guarded_wrong : (n : FtNumber) → g.protection ≡ Some n → (f : Option (LabelMessage × Touched)) → label_effect g ≡ f → effect_protection tb true f ≡ Protection.Wrong → WronglyProtected tb.words g
  unfolding protection_of code_protection label_effect
  guarded_wrong n q None r e = no (cc)
  guarded_wrong n q (Some (m, Touched.Label l)) r e =
      let b = passed (bars_protection m (code_at tb.words (received_side m) l)) Protection.Wrong Protection.Right Protection.Wrong (λ z. cc) e in
      let u = bars_used m (code_at tb.words (received_side m) l) b.0 in
      let k = type_of_lem g.typename (touched_by g.label g.fec) m (Touched.Label l) r in
      record {
        number = n;
        protected = q;
        message = m;
        type = k.0;
        side = u.0;
        label = l;
        named = named_in g.label g.fec l k.1;
        bare = rw u.0 at u.1;
      }
  guarded_wrong n q (Some (m, Touched.Every)) r e = no (cc)
  guarded_wrong n q (Some (m, Touched.Prefix x)) r e = no (cc)
  guarded_wrong n q (Some (m, Touched.Nothing)) r e = no (cc)

  -- 32 comes only where 01 says so
  pub wrong_means : protection_rule tb g ≡ Protection.Wrong → WronglyProtected tb.words g
  unfolding protection_rule
  wrong_means e = by g.protection refl e
    where
      bare : (f : Option (LabelMessage × Touched)) → effect_protection tb false f ≡ Protection.Wrong → ◌≡◌ {A = ℕ} 0 1
      bare None e = cc
      bare (Some (m, t)) e = never_wrong tb.words m (reached tb m t) e

      by : (x : Option FtNumber) → g.protection ≡ x
          → pick (both (not (is_protected x)) (always_protected (kind_of g))) Protection.Missing (effect_protection tb (is_protected x) (label_effect g)) ≡ Protection.Wrong
          → WronglyProtected tb.words g
      by None q e =
          no (bare (label_effect g) (cleared (always_protected (kind_of g)) Protection.Missing (effect_protection tb false (label_effect g)) Protection.Wrong (λ z. cc) e).1)
      by (Some n) q e = guarded_wrong n q (label_effect g) refl e

  -- and always there
  pub means_wrong : WronglyProtected tb.words g → protection_rule tb g ≡ Protection.Wrong
  unfolding protection_rule label_effect protection_of code_protection
  means_wrong w =
      let code : code_at tb.words (received_side w.message) w.label ≡ 6 = rw w.side w.bare in
      rw (w.protected, w.named, effect_of_lem g.typename w.message w.type (Touched.Label w.label), used_bars w.message _ w.side code)
