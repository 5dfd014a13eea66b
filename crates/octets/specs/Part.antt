-- A part of a list: what the language's `&s[a..e]` means.
use Rattle.std.specs.Prelude.{ℕ, ◌-◌, List, take, drop}

-- the elements from index a up to, not including, index e
abbrev pub part : List ℕ → ℕ → ℕ → List ℕ
part s a e = take (e - a) (drop a s)
