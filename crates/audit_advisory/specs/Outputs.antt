-- The words for what an audit denies and for the forms of its report, and what they mean.
use Rattle.std.specs.Prelude.{ℕ, codes, List, [], ◌∷◌, Bool, true, false, ◌||◌, bytes_eq, Option, Some, None, if◌then◌else◌}
use Rattle.audit_advisory.specs.declared.outputs.DenyOption.{DenyOption}
use Rattle.audit_advisory.specs.declared.outputs.DenyOption.TheVariants as deny
use Rattle.audit_advisory.specs.declared.outputs.OutputConfig.{OutputConfig}
use Rattle.audit_advisory.specs.declared.outputs.OutputFormat.{OutputFormat}
use Rattle.audit_advisory.specs.declared.outputs.OutputFormat.TheVariants as format
use Rattle.audit_advisory.specs.declared.outputs.WarningKind.{WarningKind}
use Rattle.audit_advisory.specs.declared.outputs.WarningKind.TheVariants as kind

abbrev pub all_deny_options : List DenyOption
all_deny_options = deny.Warnings ∷ deny.Unmaintained ∷ deny.Unsound ∷ deny.Yanked ∷ []

-- the place of an option in the order of all
abbrev pub deny_place : DenyOption → ℕ
deny_place deny.Warnings = 0
deny_place deny.Unmaintained = 1
deny_place deny.Unsound = 2
deny_place deny.Yanked = 3

abbrev pub deny_option_of : List ℕ → Option DenyOption
deny_option_of s =
    if bytes_eq s (codes "warnings") then Some deny.Warnings
    else if bytes_eq s (codes "unmaintained") then Some deny.Unmaintained
    else if bytes_eq s (codes "unsound") then Some deny.Unsound
    else if bytes_eq s (codes "yanked") then Some deny.Yanked
    else None

-- an option denies its own kind, `warnings` denies all but notices
abbrev pub warning_kinds_of : DenyOption → List WarningKind
warning_kinds_of deny.Warnings = kind.Unmaintained ∷ kind.Unsound ∷ kind.Yanked ∷ []
warning_kinds_of deny.Unmaintained = kind.Unmaintained ∷ []
warning_kinds_of deny.Unsound = kind.Unsound ∷ []
warning_kinds_of deny.Yanked = kind.Yanked ∷ []

abbrev pub output_format_of : List ℕ → Option OutputFormat
output_format_of s =
    if bytes_eq s (codes "json") then Some format.Json
    else if bytes_eq s (codes "sarif") then Some format.Sarif
    else if bytes_eq s (codes "terminal") then Some format.Terminal
    else None

-- a form that machines read
abbrev pub is_for_machines : OutputFormat → Bool
is_for_machines format.Json = true
is_for_machines format.Sarif = true
is_for_machines format.Terminal = false

abbrev pub is_quiet : OutputConfig → Bool
is_quiet config = config.quiet || is_for_machines config.format
