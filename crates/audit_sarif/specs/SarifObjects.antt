-- The SARIF form: a log as an object with its members in this order, in its compact text (SARIF
-- 2.1.0, sections 3.13 to 3.49; this project, after cargo-audit).
use Rattle.std.specs.Prelude.{◌≡◌, ℕ, codes, List, [], ◌∷◌, ◌++◌, map, Option, Some, None, option_map}
use Rattle.json.specs.Json.{Json, string, document}
use Rattle.report_parts.specs.Values.{array_of, count, json_text, object_of, texts}
use Rattle.audit_sarif.specs.declared.sarif_logs.Level.{Level}
use Rattle.audit_sarif.specs.declared.sarif_logs.Level.TheVariants as at
use Rattle.audit_sarif.specs.declared.sarif_logs.MultiformatMessageString.{MultiformatMessageString}
use Rattle.audit_sarif.specs.declared.sarif_logs.Precision.{Precision}
use Rattle.audit_sarif.specs.declared.sarif_logs.Precision.TheVariants as precise
use Rattle.audit_sarif.specs.declared.sarif_logs.Rule.{Rule}
use Rattle.audit_sarif.specs.declared.sarif_logs.Run.{Run}
use Rattle.audit_sarif.specs.declared.sarif_logs.SarifLog.{SarifLog}
use Rattle.audit_sarif.specs.declared.sarif_logs.SarifResult.{SarifResult}

-- ---- words

unfoldable pub level_word : Level → List ℕ
level_word at.Error = codes "error"
level_word at.Warning = codes "warning"

-- what a rule of this level is of
unfoldable pub tag_word : Level → List ℕ
tag_word at.Error = codes "vulnerability"
tag_word at.Warning = codes "warning"

unfoldable pub precision_word : Precision → List ℕ
precision_word precise.High = codes "high"
precision_word precise.VeryHigh = codes "very-high"

-- ---- rules

-- a member, if it has a value
abbrev pub member_of : List ℕ → Option Json → List (List ℕ × Json)
member_of name None = []
member_of name (Some j) = (name, j) ∷ []

abbrev pub message_object : MultiformatMessageString → Json
message_object m = object_of (
    (codes "text", string m.text) ∷
    member_of (codes "markdown") (option_map string m.markdown))

abbrev pub level_object : Level → Json
level_object level = object_of ((codes "level", string (level_word level)) ∷ [])

-- warnings alone are no matter of security
unfoldable pub problem_severity : Level → Option (List ℕ)
problem_severity at.Error = None
problem_severity at.Warning = Some (codes "warning")

abbrev pub properties_object : Rule → Json
properties_object r = object_of (
    (codes "tags", texts (codes "security" ∷ tag_word r.level ∷ [])) ∷
    (codes "precision", string (precision_word r.precision)) ∷
    (member_of (codes "problem.severity") (option_map string (problem_severity r.level))
    ++ member_of (codes "security-severity") (option_map string r.security_severity)))

abbrev pub rule_object : Rule → Json
rule_object r = object_of (
    (codes "id", string r.id) ∷
    (codes "name", string r.id) ∷
    (codes "shortDescription", message_object r.short_description) ∷
    (member_of (codes "fullDescription") (option_map message_object r.full_description)
    ++ ((codes "defaultConfiguration", level_object r.level) ∷
    (member_of (codes "help") (option_map message_object r.help)
    ++ ((codes "properties", properties_object r) ∷ [])))))

-- ---- results

abbrev pub location_object : List ℕ → Json
location_object uri = object_of ((
  codes "physicalLocation",
  object_of (
      (codes "artifactLocation", object_of ((codes "uri", string uri) ∷ [])) ∷
      (codes "region", object_of ((codes "startLine", count 1) ∷ [])) ∷ []),
) ∷ [])

abbrev pub result_object : SarifResult → Json
result_object r = object_of (
    (codes "ruleId", string r.rule_id) ∷
    (codes "message", object_of ((codes "text", string r.message) ∷ [])) ∷
    (codes "level", string (level_word r.level)) ∷
    (codes "locations", array_of (location_object r.uri ∷ [])) ∷ (
      codes "partialFingerprints",
      object_of (
          (codes "cargo-audit/advisory-fingerprint", string r.fingerprint) ∷ []),
    ) ∷ [])

-- ---- the log

abbrev pub driver_object : List Rule → Json
driver_object rules = object_of (
    (codes "name", string (codes "cargo-audit")) ∷
    (codes "version", string (codes "0.22.2")) ∷
    (codes "semanticVersion", string (codes "0.22.2")) ∷
    (codes "rules", array_of (map rule_object rules)) ∷ [])

abbrev pub run_object : Run → Json
run_object run = object_of (
    (codes "tool", object_of ((codes "driver", driver_object run.rules) ∷ [])) ∷
    (codes "results", array_of (map result_object run.results)) ∷ [])

abbrev pub schema_uri : List ℕ
schema_uri = codes "https://json.schemastore.org/sarif-2.1.0.json"

abbrev pub sarif_object : SarifLog → Json
sarif_object log = object_of (
    (codes "$schema", string schema_uri) ∷
    (codes "version", string (codes "2.1.0")) ∷
    (codes "runs", array_of (run_object log.run ∷ [])) ∷ [])

-- one line
unfoldable pub sarif_line : SarifLog → List ℕ
sarif_line log = json_text (sarif_object log) ++ codes "\n"

-- the line, with its newline, is read as that object (the reader of `json`, RFC 8259)
abbrev pub LogReadsBack : SarifLog → Type 0
LogReadsBack log = document (sarif_line log) ≡ Some (sarif_object log)
