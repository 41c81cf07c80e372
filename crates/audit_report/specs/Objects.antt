-- The objects of the JSON form (this project, after cargo-audit).
use Rattle.std.specs.Prelude.{codes, [], ◌∷◌, map, Option, Some, None, option_map}
use Rattle.json.specs.Json.{Json, null, string}
use Rattle.report_parts.specs.Values.{count_or_null, object_of, text_or_null, texts}
use Rattle.report_parts.specs.Words.{informational_word, kind_word, severity_word}
use Rattle.audit_advisory.specs.declared.advisories.Advisory.{Advisory}
use Rattle.audit_advisory.specs.declared.metadata.Metadata.{Metadata}
use Rattle.audit_lock.specs.declared.resolving.Package.{Package}
use Rattle.audit_advisory.specs.declared.settings.Settings.{Settings}
use Rattle.audit_advisory.specs.declared.outputs.WarningKind.{WarningKind}

-- ---- an advisory, a package

abbrev pub metadata_object : Metadata → Json
metadata_object m = object_of (
    (codes "id", string m.id) ∷
    (codes "package", string m.«package») ∷
    (codes "title", string m.title) ∷
    (codes "description", string m.description) ∷
    (codes "date", string m.date) ∷
    (codes "url", text_or_null m.url) ∷
    (codes "informational", text_or_null (option_map informational_word m.informational)) ∷
    (codes "withdrawn", text_or_null m.withdrawn) ∷
    (codes "license", text_or_null m.license) ∷
    (codes "cvss", text_or_null m.cvss) ∷
    (codes "score_tenths", count_or_null m.score_tenths) ∷ [])

abbrev pub metadata_or_null : Option Advisory → Json
metadata_or_null None = null
metadata_or_null (Some a) = metadata_object a.metadata

abbrev pub package_object : Package → Json
package_object p = object_of (
    (codes "name", string p.name) ∷
    (codes "version", string p.version) ∷
    (codes "source", text_or_null p.source) ∷
    (codes "checksum", text_or_null p.checksum) ∷ [])

abbrev pub versions_object : Advisory → Json
versions_object a = object_of (
    (codes "patched", texts a.versions.patched) ∷
    (codes "unaffected", texts a.versions.unaffected) ∷ [])

abbrev pub hit_object : Package → Advisory → Json
hit_object p a = object_of (
    (codes "advisory", metadata_object a.metadata) ∷
    (codes "versions", versions_object a) ∷
    (codes "package", package_object p) ∷ [])

abbrev pub warning_object : WarningKind → Package → Option Advisory → Json
warning_object kind p a = object_of (
    (codes "kind", string (kind_word kind)) ∷
    (codes "package", package_object p) ∷
    (codes "advisory", metadata_or_null a) ∷ [])

-- ---- the settings

abbrev pub settings_object : Settings → Json
settings_object s = object_of (
    (codes "target_arch", texts s.target_arch) ∷
    (codes "target_os", texts s.target_os) ∷
    (codes "severity", text_or_null (option_map severity_word s.severity)) ∷
    (codes "ignore", texts s.ignore) ∷
    (codes "informational_warnings", texts (map informational_word s.informational_warnings)) ∷ [])
