-- What the settings ask of advisories.
use Rattle.std.specs.Prelude.{ℕ, List, [], ◌∷◌, ◌++◌, Bool, true, false, bytes_eq, Option, Some, None, if◌then◌else◌}
use Rattle.audit_advisory.specs.declared.metadata.Informational.{Informational}
use Rattle.audit_advisory.specs.declared.metadata.Informational.TheVariants.{Notice, Unmaintained, Unsound, Other}
use Rattle.audit_advisory.specs.declared.outputs.DenyOption.{DenyOption}
use Rattle.audit_advisory.specs.declared.outputs.DenyOption.TheVariants as deny
use Rattle.audit_advisory.specs.declared.settings.Settings.{Settings}
use Rattle.audit_settings.specs.declared.configs.AuditConfig.{AuditConfig}
use Rattle.audit_settings.specs.declared.configs.FilterList.{FilterList}
use Rattle.audit_settings.specs.declared.configs.FilterList.TheVariants.{Single, Many}

-- the strings of a filter; none, if there is no filter
abbrev pub filter_texts : Option FilterList → List (List ℕ)
filter_texts None = []
filter_texts (Some (Single text)) = text ∷ []
filter_texts (Some (Many texts)) = texts

abbrev pub is_same_kind : Informational → Informational → Bool
is_same_kind Notice Notice = true
is_same_kind Unmaintained Unmaintained = true
is_same_kind Unsound Unsound = true
is_same_kind (Other s) (Other t) = bytes_eq s t
is_same_kind _ _ = false

abbrev pub has_kind : Informational → List Informational → Bool
has_kind kind [] = false
has_kind kind (k ∷ ks) = if is_same_kind k kind then true else has_kind kind ks

-- the kinds, with one more at the end if it is missing
abbrev pub with_kind : Informational → List Informational → List Informational
with_kind kind ks = if has_kind kind ks then ks else ks ++ kind ∷ []

-- what is warned about if nothing is denied
abbrev pub stated_kinds : Option (List Informational) → List Informational
stated_kinds None = Unmaintained ∷ Unsound ∷ Notice ∷ []
stated_kinds (Some ks) = ks

-- these kinds, and those that are denied, one option after the other; `warnings` adds all, and the
-- options after it don't count
abbrev pub warned_of : List DenyOption → List Informational → List Informational
warned_of [] ks = ks
warned_of (deny.Warnings ∷ options) ks =
    with_kind Unsound (with_kind Unmaintained (with_kind Notice ks))
warned_of (deny.Unmaintained ∷ options) ks = warned_of options (with_kind Unmaintained ks)
warned_of (deny.Unsound ∷ options) ks = warned_of options (with_kind Unsound ks)
warned_of (deny.Yanked ∷ options) ks = warned_of options ks

abbrev pub report_settings : AuditConfig → Settings
report_settings config = record {
  ignore = config.advisories.ignore;
  severity = config.advisories.severity_threshold;
  target_arch = filter_texts config.target.arch;
  target_os = filter_texts config.target.os;
  informational_warnings = warned_of config.output.deny
      (stated_kinds config.advisories.informational_warnings);
}
