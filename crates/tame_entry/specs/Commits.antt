-- Commits of a git index by their hex digits (git, "SHA-1 object names").
use Rattle.std.specs.Prelude.{ℕ, List, length, Bool, is_none, ◌==◌, ◌&&◌}
use Rattle.tame_records.specs.Checksums.{first_bad_digit}

-- 40 hex digits of either case
abbrev pub is_commit : List ℕ → Bool
is_commit text = length text == 40 && is_none (first_bad_digit text)
