-- Which rules a SARIF run has (SARIF 2.1.0, sections 3.19.23, 3.27.5, 3.49.3).
use Rattle.std.specs.Prelude.{map}
use Rattle.tame_names.specs.FirstPlaces.{AreEachOnce}
use Rattle.audit_sarif.specs.declared.sarif_logs.Run.{Run}

-- the ids of a run's rules are those that its results name, each once, in the order of first use
abbrev pub HasRulesOfResults : Run → Type 0
HasRulesOfResults run =
    AreEachOnce (map (λ r. r.id) run.rules) (map (λ r. r.rule_id) run.results)
