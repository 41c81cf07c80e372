-- How deep a SARIF log's object nests.
use Rattle.std.proofs.Common.{◌≤◌, ℕ, List, [], ◌∷◌, ◌++◌, map, Option, Some, None, codes, option_map, arith}
use Rattle.json.specs.Json.{string, max_depth}
use Rattle.json.specs.Tree.{depth, items_depth, members_depth}
use Rattle.audit_sarif.specs.SarifObjects.{driver_object, level_object, member_of, message_object, problem_severity, properties_object, result_object, rule_object, run_object, sarif_object, tag_word}
use Rattle.report_parts.specs.Values.{array_of, items_of, members_of}
use Rattle.audit_sarif.specs.declared.sarif_logs.MultiformatMessageString.{MultiformatMessageString}
use Rattle.audit_sarif.specs.declared.sarif_logs.Rule.{Rule}
use Rattle.audit_sarif.specs.declared.sarif_logs.Run.{Run}
use Rattle.audit_sarif.specs.declared.sarif_logs.SarifLog.{SarifLog}
use Rattle.audit_sarif.specs.declared.sarif_logs.SarifResult.{SarifResult}
use Rattle.report_parts.proofs.Nested.{array_within, both, le_suc, members_both, texts_within, up, zero_le}

-- ---- members that may be left out

stated_within : (n : ℕ) (name : List ℕ) (t : Option (List ℕ))
    → members_depth (members_of (member_of name (option_map string t))) ≤ n
stated_within n name None = zero_le n
stated_within n name (Some t) = zero_le n

message_within : (m : MultiformatMessageString) → depth (message_object m) ≤ 1
message_within m = le_suc _ 0 (both _ _ _ (zero_le 0) (stated_within 0 (codes "markdown") m.markdown))

stated_message_within : (name : List ℕ) (m : Option MultiformatMessageString)
    → members_depth (members_of (member_of name (option_map message_object m))) ≤ 2
stated_message_within name None = zero_le 2
stated_message_within name (Some m) = both _ _ _ (up (message_object m) 1 2 (omega arith) (message_within m)) (zero_le 2)

-- ---- rules

properties_within : (r : Rule) → depth (properties_object r) ≤ 2
properties_within r = le_suc _ 1 (both _ _ _ (texts_within (codes "security" ∷ tag_word r.level ∷ []))
    (both _ _ _ (zero_le 1)
    (members_both 1 (member_of (codes "problem.severity") (option_map string (problem_severity r.level)))
    (member_of (codes "security-severity") (option_map string r.security_severity))
    (stated_within 1 (codes "problem.severity") (problem_severity r.level))
    (stated_within 1 (codes "security-severity") r.security_severity))))

rule_within : (r : Rule) → depth (rule_object r) ≤ 3
rule_within r =
    let message : depth (message_object r.short_description) ≤ 2 =
    up (message_object r.short_description) 1 2 (omega arith) (message_within r.short_description) in
    let last : members_depth (members_of ((codes "properties", properties_object r) ∷ [])) ≤ 2 =
    both _ _ _ (properties_within r) (zero_le 2) in
    let helped : members_depth (members_of (member_of (codes "help") (option_map message_object r.help)
    ++ ((codes "properties", properties_object r) ∷ []))) ≤ 2 =
    members_both 2 (member_of (codes "help") (option_map message_object r.help)) _
    (stated_message_within (codes "help") r.help) last in
    let level : depth (level_object r.level) ≤ 2 = omega arith in
    le_suc _ 2 (both _ _ _ (zero_le 2)
    (both _ _ _ (zero_le 2)
    (both _ _ _ message
    (members_both 2 (member_of (codes "fullDescription") (option_map message_object r.full_description)) _
    (stated_message_within (codes "fullDescription") r.full_description)
    (both _ _ _ level helped)))))

rules_within : (rs : List Rule) → items_depth (items_of (map rule_object rs)) ≤ 3
rules_within [] = omega arith
rules_within (r ∷ rs) = omega (arith, rule_within r, rules_within rs)

-- ---- results

result_within : (r : SarifResult) → depth (result_object r) ≤ 5
result_within r = omega arith

results_within : (rs : List SarifResult) → items_depth (items_of (map result_object rs)) ≤ 5
results_within [] = omega arith
results_within (r ∷ rs) = omega (arith, result_within r, results_within rs)

-- ---- the log

driver_within : (rs : List Rule) → depth (driver_object rs) ≤ 5
driver_within rs = le_suc _ 4 (both _ _ _ (zero_le 4)
    (both _ _ _ (zero_le 4)
    (both _ _ _ (zero_le 4)
    (both _ _ _ (array_within 3 (map rule_object rs) (rules_within rs))
    (zero_le 4)))))

run_within : (run : Run) → depth (run_object run) ≤ 7
run_within run =
    let results : depth (array_of (map result_object run.results)) ≤ 6 =
    array_within 5 (map result_object run.results) (results_within run.results) in
    le_suc _ 6 (both _ _ _ (le_suc _ 5 (both _ _ _ (driver_within run.rules) (zero_le 5)))
    (both _ _ _ results (zero_le 6)))

-- far below the depth that a reader accepts
pub log_within : (log : SarifLog) → depth (sarif_object log) ≤ max_depth
log_within log =
    let runs : depth (array_of (run_object log.run ∷ [])) ≤ 8 =
    array_within 7 (run_object log.run ∷ []) (both _ _ _ (run_within log.run) (zero_le 7)) in
    up (sarif_object log) 9 max_depth (omega arith) (le_suc _ 8 (both _ _ _ (zero_le 8)
    (both _ _ _ (zero_le 8)
    (both _ _ _ runs (zero_le 8)))))
