-- The versions that an advisory names as safe.
use Rattle.std.specs.Prelude.{ℕ, List, Bool, not, ◌&&◌, Result, Ok}
use Rattle.toml_tables.specs.Results.{and_then, or_fault}
use Rattle.audit_advisory.specs.Points.{Point}
use Rattle.audit_advisory.specs.Requirements.{meets_any, requirements_of}
use Rattle.audit_advisory.specs.declared.versions.Versions.{Versions}
use Rattle.audit_advisory.specs.declared.faults.AdvisoryFault.{AdvisoryFault}
use Rattle.audit_advisory.specs.declared.faults.AdvisoryFault.TheVariants as fault
use Rattle.audit_advisory.specs.declared.faults.AdvisoryRule.TheVariants as rule

-- the requirements of two lists of strings
abbrev pub versions_of : List (List ℕ) → List (List ℕ) → Result Versions AdvisoryFault
versions_of patched unaffected =
    and_then (λ ps. and_then (λ us. Ok (record { patched = ps; unaffected = us }))
    (or_fault (fault.Rule rule.Versions) (requirements_of unaffected)))
    (or_fault (fault.Rule rule.Versions) (requirements_of patched))

-- a version is neither patched nor unaffected
abbrev pub is_vulnerable : Versions → Point → Bool
is_vulnerable versions v =
    not (meets_any versions.patched v) && not (meets_any versions.unaffected v)
