use Rattle.std.proofs.Common.{◌≡◌, ◌++◌, codes, drop, option_map, string_bytes}
use Rattle.std.specs.List.{flat_map}
use Rattle.semver.specs.Identifiers.{parts_of}
use Rattle.audit_report.specs.Affected.{affected_paths, path_text}
use Rattle.audit_report.proofs.affected.push_paths.Given as goal

-- what is written, and what is left to write
abbrev pub invariant-loop-function : goal.invariant-loop-function
invariant-loop-function l =
    string_bytes l.initial.out
    ++ flat_map (λ p. codes ", " ++ path_text p)
    (affected_paths l.symbols (option_map parts_of l.version) l.functions)
    ≡ string_bytes l.out
    ++ flat_map (λ p. codes ", " ++ path_text p)
    (affected_paths l.symbols (option_map parts_of l.version) (drop l.function-index l.functions))
