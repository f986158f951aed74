-- Version of the C interface. Assumes nothing.
use Rattle.std.specs.Prelude.{ℕ, ◌+◌, ◌*◌}

-- major, minor and patch as one number
abbrev pub version_of : ℕ → ℕ → ℕ → ℕ
version_of major minor patch = major * 1000000 + minor * 1000 + patch

abbrev pub version : ℕ
version = version_of 3 8 0
