-- The version of the boundary: a host holds the header that it was compiled with against the library that it is linked with.
--
--   version_at major minor patch == a version as one number: 10,000 for the major one, 100 for the minor one. The major one moves where lent memory or a
--                                  call's shape does
--   version                     == this one
use Rattle.std.specs.Prelude.{ℕ, ◌+◌, ◌*◌}

abbrev pub version_at : ℕ → ℕ → ℕ → ℕ
version_at major minor patch = major * 10000 + minor * 100 + patch

abbrev pub version : ℕ
version = version_at 2 0 0
