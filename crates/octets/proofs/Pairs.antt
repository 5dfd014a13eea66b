-- A pair in `Some` or in `Ok` is known by its parts. Assumes nothing.
use Rattle.std.specs.Prelude.{Option, Some, Result, Ok, unwrap_or}
use Rattle.std.specs.Result.{result_ok}
use mathlib.Core.Path.{◌≡◌, ap}

pub some_pair : {X Y : Type 0} {a c : X} {b d : Y} → ◌≡◌ {A = Option (X × Y)} (Some (a, b)) (Some (c, d)) → (a ≡ c) × (b ≡ d)
some_pair {X} {Y} {a} {c} {b} {d} e =
    (ap (λ (o : Option (X × Y)). (unwrap_or o (a, b)).0) e, ap (λ (o : Option (X × Y)). (unwrap_or o (a, b)).1) e)

pub ok_pair : {X Y E : Type 0} {a c : X} {b d : Y} → ◌≡◌ {A = Result (X × Y) E} (Ok (a, b)) (Ok (c, d)) → (a ≡ c) × (b ≡ d)
ok_pair e = some_pair (ap result_ok e)
