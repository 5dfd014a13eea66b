-- A code that a rule gives has room in a word of 32 bits, as the code before it had. Assumes nothing.
use Rattle.std.specs.Prelude.{Option, Some, None}
use Prim.Native.Nat.{ℕ, ◌<◌}
use mathlib.Core.Bool.{Bool, true, false}
use lib.Dec.{lit<, leb, eqb}
use Rattle.octets.proofs.Choice.{pick_all}
use Rattle.label_list.specs.declared.LabelMessage.{LabelMessage}
use Rattle.label_list.specs.declared.LabelMessage.TheVariants.{Mapping, Withdraw, Release}
use Rattle.label_list.specs.declared.SweepRule.{SweepRule}
use Rattle.label_list.specs.declared.SweepRule.TheVariants.{WithdrawAll, ReleaseAll, AfterBreak}
use Rattle.label_list.specs.Rules.{code_accepted, code_acked, code_received, code_swept}
use Rattle.label_list.specs.Word.{without_protection}

abbrev pub Small : ℕ → Type 0
Small code = code < 4096

abbrev pub SmallNext : Option ℕ → Type 0
SmallNext (Some code) = Small code
SmallNext None = Unit {0}

pub accepted_small : (m : LabelMessage) (c : ℕ) → SmallNext (code_accepted m c)
unfolding code_accepted
accepted_small Mapping c = pick_all SmallNext (leb c 1) (lit< tt) tt
accepted_small Withdraw c = pick_all SmallNext (eqb c 1) (lit< tt) tt
accepted_small Release c = pick_all SmallNext (eqb c 3) (lit< tt) (pick_all SmallNext (eqb c 4) (lit< tt) tt)

pub acked-small : (m : LabelMessage) (c : ℕ) → Small c → Small (code_acked m c)
unfolding code_acked
acked-small Mapping c h = h
acked-small Withdraw c h = pick_all Small (eqb c 2) (lit< tt) (pick_all Small (eqb c 9) (lit< tt) h)
acked-small Release c h = pick_all Small (eqb c 5) (lit< tt) h

pub received-small : (m : LabelMessage) (p : Bool) (c : ℕ) → Small c → Small (code_received m p c)
unfolding code_received
received-small Mapping true c h = pick_all Small (eqb c 0) (lit< tt) (pick_all Small (eqb c 5) (lit< tt) h)
received-small Mapping false c h = pick_all Small (eqb c 0) (lit< tt) h
received-small Withdraw p c h = pick_all Small (eqb c 3) (lit< tt) (pick_all Small (eqb c without_protection) (lit< tt) h)
received-small Release p c h = pick_all Small (eqb c 1) (lit< tt) (pick_all Small (eqb c 2) (lit< tt) (pick_all Small (eqb c 8) (lit< tt) h))

pub swept_small : (r : SweepRule) (c : ℕ) → Small c → Small (code_swept r c)
unfolding code_swept
swept_small WithdrawAll c h = received-small Withdraw true c h
swept_small ReleaseAll c h = received-small Release true c h
swept_small AfterBreak c h = pick_all Small (eqb c without_protection) (lit< tt) h
