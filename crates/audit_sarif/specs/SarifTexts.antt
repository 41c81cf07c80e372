-- The texts of the SARIF form (this project, after cargo-audit).
use Rattle.std.specs.Prelude.{ℕ, codes, List, ◌++◌, Option, Some, None}
use Rattle.audit_advisory.specs.declared.advisories.Advisory.{Advisory}
use Rattle.audit_advisory.specs.declared.metadata.Metadata.{Metadata}
use Rattle.audit_advisory.specs.declared.outputs.WarningKind.{WarningKind}
use Rattle.audit_advisory.specs.declared.outputs.WarningKind.TheVariants as kind
use Rattle.audit_lock.specs.declared.resolving.Package.{Package}
use Rattle.report_parts.specs.Words.{kind_word}

-- ---- rules

unfoldable pub help_text : List ℕ → List ℕ
help_text url = codes "For more information, see: " ++ url

unfoldable pub help_markdown : List ℕ → List ℕ → List ℕ
help_markdown id url =
    codes "For more information, see: [" ++ id ++ codes "](" ++ url ++ codes ")"

-- what a kind of warning says if no advisory does
unfoldable pub kind_text : WarningKind → List ℕ
kind_text kind.Notice = codes "Unknown warning type"
kind_text kind.Unmaintained =
    codes "Package is unmaintained and may have unaddressed security vulnerabilities"
kind_text kind.Unsound =
    codes "Package has known soundness issues that may lead to memory safety problems"
kind_text kind.Yanked = codes "Package version has been yanked from the registry"

-- ---- results

-- a package by its name and its version
unfoldable pub named : Package → List ℕ
named p = p.name ++ codes " " ++ p.version

unfoldable pub hit_message : Package → Metadata → List ℕ
hit_message p m =
    named p ++ codes " is vulnerable to " ++ m.id ++ codes " (" ++ m.title ++ codes ")"

unfoldable pub kind_message : WarningKind → Package → List ℕ
kind_message kind p = named p ++ codes " has a " ++ kind_word kind ++ codes " warning"

unfoldable pub titled_message : WarningKind → Package → Metadata → List ℕ
titled_message kind p m = kind_message kind p ++ codes ": " ++ m.title

-- with the advisory's title, if there is one
abbrev pub warning_message : WarningKind → Package → Option Advisory → List ℕ
warning_message kind p None = kind_message kind p
warning_message kind p (Some a) = titled_message kind p a.metadata

-- what makes a result the same one in the next run
unfoldable pub fingerprint : List ℕ → Package → List ℕ
fingerprint id p = id ++ codes ":" ++ p.name ++ codes ":" ++ p.version
