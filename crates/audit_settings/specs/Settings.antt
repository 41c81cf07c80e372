-- The settings that a text is, or why it is none.
use Rattle.std.specs.Prelude.{ℕ, codes, List, [], ◌∷◌, Bool, true, bytes_eq, Option, Some, None, option_map, option_and_then, unwrap_or, if◌then◌else◌, Result, Ok, Err, map}
use Rattle.toml.specs.Data.{Data, string, Members, as_bool, as_str, as_table, get_member}
use Rattle.toml.specs.Parse.{parse_document}
use Rattle.toml_tables.specs.Results.{and_then, or_fault}
use Rattle.toml_tables.specs.Floats.{members_have_float}
use Rattle.toml_tables.specs.Members.{optional, optional_texts, texts_of}
use Rattle.audit_advisory.specs.Fields.{kind_of}
use Rattle.audit_advisory.specs.Outputs.{deny_option_of, output_format_of}
use Rattle.audit_advisory.specs.declared.metadata.Informational.{Informational}
use Rattle.audit_advisory.specs.declared.outputs.DenyOption.{DenyOption}
use Rattle.audit_advisory.specs.declared.outputs.OutputConfig.{OutputConfig}
use Rattle.audit_advisory.specs.declared.outputs.OutputFormat.{OutputFormat}
use Rattle.audit_advisory.specs.declared.outputs.OutputFormat.TheVariants as format
use Rattle.audit_advisory.specs.declared.settings.Severity.{Severity}
use Rattle.audit_advisory.specs.declared.settings.Severity.TheVariants as severity
use Rattle.audit_settings.specs.Defaults.{default_advisories, default_database, default_output, default_target, default_yanked}
use Rattle.audit_settings.specs.Refusals.{Refusal, no_toml, has_a_float, unknown, missing, wrong}
use Rattle.audit_settings.specs.Unknown.{first_in_order, unknown_keys}
use Rattle.audit_settings.specs.declared.configs.AdvisoryConfig.{AdvisoryConfig}
use Rattle.audit_settings.specs.declared.configs.AuditConfig.{AuditConfig}
use Rattle.audit_settings.specs.declared.configs.DatabaseConfig.{DatabaseConfig}
use Rattle.audit_settings.specs.declared.configs.FilterList.{FilterList}
use Rattle.audit_settings.specs.declared.configs.FilterList.TheVariants.{Single, Many}
use Rattle.audit_settings.specs.declared.configs.TargetConfig.{TargetConfig}
use Rattle.audit_settings.specs.declared.configs.YankedConfig.{YankedConfig}

-- ---- forms of values

abbrev pub severity_named : List ℕ → Option Severity
severity_named text =
    if bytes_eq text (codes "none") then Some severity.None
    else if bytes_eq text (codes "low") then Some severity.Low
    else if bytes_eq text (codes "medium") then Some severity.Medium
    else if bytes_eq text (codes "high") then Some severity.High
    else if bytes_eq text (codes "critical") then Some severity.Critical
    else None

-- the word for a severity
abbrev pub as_severity : Data → Option Severity
as_severity d = option_and_then severity_named (as_str d)

-- the word for the form of a report
abbrev pub as_format : Data → Option OutputFormat
as_format d = option_and_then output_format_of (as_str d)

-- an array of strings, each a kind that an advisory may inform about
abbrev pub as_kinds : Data → Option (List Informational)
as_kinds d = option_map (map kind_of) (texts_of d)

abbrev pub deny_options_in : List (List ℕ) → Option (List DenyOption)
deny_options_in [] = Some []
deny_options_in (t ∷ ts) =
    option_and_then (λ o. option_map (λ os. o ∷ os) (deny_options_in ts)) (deny_option_of t)

-- absent, or an array of the words for what is denied
abbrev pub deny_options : Option Data → Option (List DenyOption)
deny_options m = option_and_then deny_options_in (optional_texts m)

-- a string, or an array of strings
abbrev pub as_filter : Data → Option FilterList
as_filter (string s) = Some (Single s)
as_filter d = option_map Many (texts_of d)

-- ---- what is at a key; each takes the key's own name, and its name with its table's

abbrev pub text_field : List ℕ → List ℕ → Members → Result (Option (List ℕ)) Refusal
text_field key place ms = or_fault (wrong place) (optional as_str (get_member key ms))

-- a flag, by default true
abbrev pub flag_field : List ℕ → List ℕ → Members → Result Bool Refusal
flag_field key place ms =
    or_fault (wrong place) (option_map (λ flag. unwrap_or flag true)
    (optional as_bool (get_member key ms)))

-- a flag that must be there
abbrev pub flag_there : List ℕ → Option Bool → Result Bool Refusal
flag_there place None = Err (missing place)
flag_there place (Some flag) = Ok flag

abbrev pub required_flag : List ℕ → List ℕ → Members → Result Bool Refusal
required_flag key place ms =
    and_then (flag_there place) (or_fault (wrong place) (optional as_bool (get_member key ms)))

abbrev pub filter_field : List ℕ → List ℕ → Members → Result (Option FilterList) Refusal
filter_field key place ms = or_fault (wrong place) (optional as_filter (get_member key ms))

-- ---- the tables; the argument is a written table, or nothing

abbrev pub ignore_field : Members → Result (List (List ℕ)) Refusal
ignore_field ms =
    or_fault (wrong (codes "advisories.ignore")) (optional_texts (get_member (codes "ignore") ms))

abbrev pub kinds_field : Members → Result (Option (List Informational)) Refusal
kinds_field ms =
    or_fault (wrong (codes "advisories.informational_warnings"))
    (optional as_kinds (get_member (codes "informational_warnings") ms))

abbrev pub severity_field : Members → Result (Option Severity) Refusal
severity_field ms =
    or_fault (wrong (codes "advisories.severity_threshold"))
    (optional as_severity (get_member (codes "severity_threshold") ms))

abbrev pub advisories_of : Option Members → Result AdvisoryConfig Refusal
advisories_of None = Ok default_advisories
advisories_of (Some ms) =
    and_then (λ ignore. and_then (λ kinds. and_then (λ threshold.
    Ok (record { ignore = ignore; informational_warnings = kinds; severity_threshold = threshold }))
    (severity_field ms)) (kinds_field ms)) (ignore_field ms)

abbrev pub database_of : Option Members → Result DatabaseConfig Refusal
database_of None = Ok default_database
database_of (Some ms) =
    and_then (λ path. and_then (λ url. and_then (λ fetch. and_then (λ stale.
    Ok (record { path = path; url = url; fetch = fetch; stale = stale }))
    (required_flag (codes "stale") (codes "database.stale") ms))
    (flag_field (codes "fetch") (codes "database.fetch") ms))
    (text_field (codes "url") (codes "database.url") ms))
    (text_field (codes "path") (codes "database.path") ms)

abbrev pub deny_field : Members → Result (List DenyOption) Refusal
deny_field ms = or_fault (wrong (codes "output.deny")) (deny_options (get_member (codes "deny") ms))

abbrev pub format_field : Members → Result OutputFormat Refusal
format_field ms =
    or_fault (wrong (codes "output.format"))
    (option_map (λ word. unwrap_or word format.Terminal)
    (optional as_format (get_member (codes "format") ms)))

abbrev pub output_of : Option Members → Result OutputConfig Refusal
output_of None = Ok default_output
output_of (Some ms) =
    and_then (λ deny. and_then (λ form. and_then (λ quiet. and_then (λ show_tree.
    Ok (record { deny = deny; format = form; quiet = quiet; show_tree = show_tree }))
    (flag_field (codes "show_tree") (codes "output.show_tree") ms))
    (required_flag (codes "quiet") (codes "output.quiet") ms))
    (format_field ms)) (deny_field ms)

abbrev pub target_of : Option Members → Result TargetConfig Refusal
target_of None = Ok default_target
target_of (Some ms) =
    and_then (λ arch. and_then (λ os. Ok (record { arch = arch; os = os }))
    (filter_field (codes "os") (codes "target.os") ms))
    (filter_field (codes "arch") (codes "target.arch") ms)

abbrev pub yanked_of : Option Members → Result YankedConfig Refusal
yanked_of None = Ok default_yanked
yanked_of (Some ms) =
    and_then (λ enabled. and_then (λ update_index.
    Ok (record { enabled = enabled; update_index = update_index }))
    (flag_field (codes "update_index") (codes "yanked.update_index") ms))
    (flag_field (codes "enabled") (codes "yanked.enabled") ms)

-- ---- the whole

-- a table by its name: absent, or written; any other value at this name is wrong
abbrev pub written : List ℕ → Members → Result (Option Members) Refusal
written table ms = or_fault (wrong table) (optional as_table (get_member table ms))

-- the tables in their order
abbrev pub tables_of : Members → Result AuditConfig Refusal
tables_of ms =
    and_then (λ advisories. and_then
    (λ database. and_then (λ output. and_then (λ target. and_then (λ yanked.
    Ok (record {
      advisories = advisories;
      database = database;
      output = output;
      target = target;
      yanked = yanked;
    }))
    (and_then yanked_of (written (codes "yanked") ms)))
    (and_then target_of (written (codes "target") ms)))
    (and_then output_of (written (codes "output") ms)))
    (and_then database_of (written (codes "database") ms)))
    (and_then advisories_of (written (codes "advisories") ms))

-- no key may be unknown; if several are, the first in byte order is reported
abbrev pub unless_unknown : Option (List ℕ) → Members → Result AuditConfig Refusal
unless_unknown None ms = tables_of ms
unless_unknown (Some key) ms = Err (unknown key)

abbrev pub settings_in : Members → Result AuditConfig Refusal
settings_in ms =
    if members_have_float ms then Err has_a_float
    else unless_unknown (first_in_order (unknown_keys ms)) ms

-- the settings that a text is: TOML without floats and unknown keys, and each value of its form
abbrev pub settings : List ℕ → Result AuditConfig Refusal
settings text = and_then settings_in (or_fault no_toml (parse_document text))
