-- The version of the library.
use Rattle.std.specs.Prelude.{ℕ, ◌+◌, ◌*◌}

abbrev pub major : ℕ
major = 0

abbrev pub minor : ℕ
minor = 1

abbrev pub patch : ℕ
patch = 0

-- the version as one number: two digits for the minor version, and two for the patch
abbrev pub version_number : ℕ
version_number = major * 10000 + minor * 100 + patch
