-- The version of the library as one number.
use Rattle.std.specs.Prelude.{ℕ, ◌+◌, ◌*◌}

-- "major * 65,536 + minor * 256 + patch, as the header's three numbers"
abbrev pub packed_version : ℕ → ℕ → ℕ → ℕ
packed_version major minor patch = major * 65536 + minor * 256 + patch

-- 5.0.0: the image has two blocks more than in 4.0.0
abbrev pub library_version : ℕ
library_version = packed_version 5 0 0
