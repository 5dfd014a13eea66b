-- Whether a label word has a code. "6 using without protection": such a label is lost when the connection fails.
use Rattle.std.specs.Prelude.{ℕ, Bool, List, eqb}
use Rattle.label_list.specs.Find.{any}
use Rattle.label_list.specs.Word.{code_of, without_protection}

abbrev pub has_code : ℕ → ℕ → Bool
has_code code w = eqb (code_of w) code

-- a label of the list is used without protection
abbrev pub unprotected : List ℕ → Bool
unprotected ls = any (has_code without_protection) ls
