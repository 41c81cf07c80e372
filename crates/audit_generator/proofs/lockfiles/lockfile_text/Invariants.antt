use Rattle.std.proofs.Common.{◌≡◌, ◌++◌, codes, string_bytes}
use Rattle.std.specs.List.{flat_map, range_with_len}
use Rattle.audit_generator.specs.Packages.{package_text}
use Rattle.audit_generator.proofs.lockfiles.lockfile_text.Given as goal

abbrev pub invariant-loop-k : goal.invariant-loop-k
invariant-loop-k l = string_bytes l.text ≡ codes "version = 4\n" ++ flat_map package_text (range_with_len 0 l.k)
