-- The nesting depth of the report's object.
use Rattle.std.proofs.Common.{◌≤◌, max, ◌+◌, ℕ, suc, List, [], ◌∷◌, ◌++◌, map, Bool, true, false, Option, Some, None, cond, option_map, slice_get, arith}
use Rattle.std.specs.List.{flat_map}
use Rattle.json.specs.Json.{Json, string, max_depth}
use Rattle.json.specs.Tree.{depth, items_depth, members_depth}
use Rattle.report_parts.proofs.Nested.{array_within, both, count_within, items_within, le_suc, low, member_if_within, members_both, text_within, texts_within, up, zero_le}
use Rattle.audit_report.specs.Documents.{found_object, hit_at, hit_of, kind_member, member_if, occurs, report_object, kind_warning_at, warning_of, warnings_object}
use Rattle.audit_report.specs.Objects.{hit_object, metadata_object, metadata_or_null, package_object, settings_object, versions_object, warning_object}
use Rattle.report_parts.specs.Values.{array_of, count_or_null, items_of, members_of, text_or_null, texts}
use Rattle.audit_advisory.specs.Reports.{advisory_at}
use Rattle.audit_advisory.specs.Exits.{same_kind}
use Rattle.report_parts.specs.Words.{informational_word, kind_word, severity_word}
use Rattle.audit_advisory.specs.declared.advisories.Advisory.{Advisory}
use Rattle.audit_advisory.specs.declared.metadata.Metadata.{Metadata}
use Rattle.audit_lock.specs.declared.resolving.Package.{Package}
use Rattle.audit_advisory.specs.declared.reports.Report.{Report}
use Rattle.audit_advisory.specs.declared.settings.Settings.{Settings}
use Rattle.audit_advisory.specs.declared.reports.Vulnerability.{Vulnerability}
use Rattle.audit_advisory.specs.declared.reports.Warning.{Warning}
use Rattle.audit_advisory.specs.declared.outputs.WarningKind.{WarningKind}
use Rattle.audit_advisory.specs.declared.outputs.WarningKind.TheVariants as kind

-- ---- the parts

one_le : 1 ≤ 5
one_le = omega arith

metadata_within : (m : Metadata) → depth (metadata_object m) ≤ 1
metadata_within m = le_suc _ 0 (both _ _ _ low
    (both _ _ _ low
    (both _ _ _ low
    (both _ _ _ low
    (both _ _ _ low
    (both _ _ _ (text_within m.url)
    (both _ _ _ (text_within (option_map informational_word m.informational))
    (both _ _ _ (text_within m.withdrawn)
    (both _ _ _ (text_within m.license)
    (both _ _ _ (text_within m.cvss)
    (both _ _ _ (count_within m.score_tenths)
    (zero_le 0))))))))))))

package_within : (p : Package) → depth (package_object p) ≤ 1
package_within p = le_suc _ 0 (both _ _ _ low
    (both _ _ _ low
    (both _ _ _ (text_within p.source)
    (both _ _ _ (text_within p.checksum)
    (zero_le 0)))))

versions_within : (a : Advisory) → depth (versions_object a) ≤ 2
versions_within a = le_suc _ 1 (both _ _ _ (texts_within a.versions.patched)
    (both _ _ _ (texts_within a.versions.unaffected)
    (zero_le 1)))

hit_within : (p : Package) (a : Advisory) → depth (hit_object p a) ≤ 3
hit_within p a = le_suc _ 2 (both _ _ _ (up (metadata_object a.metadata) 1 2 (omega arith) (metadata_within a.metadata))
    (both _ _ _ (versions_within a)
    (both _ _ _ (up (package_object p) 1 2 (omega arith) (package_within p))
    (zero_le 2))))

stated_within : (a : Option Advisory) → depth (metadata_or_null a) ≤ 1
stated_within None = omega arith
stated_within (Some a) = metadata_within a.metadata

warning_within : (k : WarningKind) (p : Package) (a : Option Advisory) → depth (warning_object k p a) ≤ 3
warning_within k p a = up (warning_object k p a) 2 3 (omega arith) (le_suc _ 1 (both _ _ _ (zero_le 1)
    (both _ _ _ (package_within p)
    (both _ _ _ (stated_within a)
    (zero_le 1)))))

one_item : (n : ℕ) (j : Json) → depth j ≤ n → items_depth (items_of (j ∷ [])) ≤ n
one_item n j h = omega (arith, h)

hit_of_within : (p : Option Package) (a : Option Advisory) → items_depth (items_of (hit_of p a)) ≤ 3
hit_of_within None a = omega arith
hit_of_within (Some p) None = omega arith
hit_of_within (Some p) (Some a) = one_item 3 (hit_object p a) (hit_within p a)

warning_of_within : (k : WarningKind) (p : Option Package) (a : Option Advisory) → items_depth (items_of (warning_of k p a)) ≤ 3
warning_of_within k None a = omega arith
warning_of_within k (Some p) a = one_item 3 (warning_object k p a) (warning_within k p a)

warning_at_within : (k : WarningKind) (xs : List Advisory) (ps : List Package) (w : Warning) → items_depth (items_of (kind_warning_at k xs ps w)) ≤ 3
warning_at_within k xs ps w =
    elim (same_kind w.kind k) as (λ b. items_depth (items_of (cond b (warning_of k (slice_get ps w.«package») (advisory_at xs w.advisory)) [])) ≤ 3) [
      | true ↦ warning_of_within k (slice_get ps w.«package») (advisory_at xs w.advisory)
      | false ↦ omega arith
    ]

kind_within : (k : WarningKind) (xs : List Advisory) (ps : List Package) (ws : List Warning) → members_depth (members_of (kind_member k xs ps ws)) ≤ 4
kind_within k xs ps ws = member_if_within 4 (occurs k ws) (kind_word k) (array_of (flat_map (kind_warning_at k xs ps) ws))
    (array_within 3 (flat_map (kind_warning_at k xs ps) ws) (items_within 3 (kind_warning_at k xs ps) (warning_at_within k xs ps) ws))

warnings_within : (xs : List Advisory) (ps : List Package) (ws : List Warning) → depth (warnings_object xs ps ws) ≤ 5
warnings_within xs ps ws =
    let last : members_depth (members_of (kind_member kind.Unsound xs ps ws ++ kind_member kind.Yanked xs ps ws)) ≤ 4 =
    members_both 4 (kind_member kind.Unsound xs ps ws) (kind_member kind.Yanked xs ps ws) (kind_within kind.Unsound xs ps ws) (kind_within kind.Yanked xs ps ws) in
    let more : members_depth (members_of (kind_member kind.Unmaintained xs ps ws ++ (kind_member kind.Unsound xs ps ws ++ kind_member kind.Yanked xs ps ws))) ≤ 4 =
    members_both 4 (kind_member kind.Unmaintained xs ps ws) _ (kind_within kind.Unmaintained xs ps ws) last in
    le_suc _ 4 (members_both 4 (kind_member kind.Notice xs ps ws) _ (kind_within kind.Notice xs ps ws) more)

found_within : (xs : List Advisory) (ps : List Package) (vs : List Vulnerability) → depth (found_object xs ps vs) ≤ 5
found_within xs ps vs = le_suc _ 4 (both _ _ _ (zero_le 4)
    (both _ _ _ (zero_le 4)
    (both _ _ _ (array_within 3 (flat_map (hit_at xs ps) vs)
    (items_within 3 (hit_at xs ps) (λ v. hit_of_within (slice_get ps v.«package») (slice_get xs v.advisory)) vs))
    (zero_le 4))))

settings_within : (s : Settings) → depth (settings_object s) ≤ 5
settings_within s = up (settings_object s) 2 5 (omega arith) (le_suc _ 1 (both _ _ _ (texts_within s.target_arch)
    (both _ _ _ (texts_within s.target_os)
    (both _ _ _ (up (text_or_null (option_map severity_word s.severity)) 0 1 (omega arith) (text_within (option_map severity_word s.severity)))
    (both _ _ _ (texts_within s.ignore)
    (both _ _ _ (texts_within (map informational_word s.informational_warnings))
    (zero_le 1)))))))

-- far below the depth that a reader accepts
pub report_within : (xs : List Advisory) (ps : List Package) (r : Report) → depth (report_object xs ps r) ≤ max_depth
report_within xs ps r = up (report_object xs ps r) 6 max_depth (omega arith) (le_suc _ 5 (both _ _ _ one_le
    (both _ _ _ one_le
    (both _ _ _ (settings_within r.settings)
    (both _ _ _ (found_within xs ps r.vulnerabilities)
    (both _ _ _ (warnings_within xs ps r.warnings)
    (zero_le 5)))))))
