-- The words for what is reported (RustSec's advisory database; CVSS 3.1, section 5).
use Rattle.std.specs.Prelude.{ℕ, codes, List}
use Rattle.audit_advisory.specs.declared.metadata.Informational.{Informational}
use Rattle.audit_advisory.specs.declared.metadata.Informational.TheVariants as told
use Rattle.audit_advisory.specs.declared.outputs.WarningKind.{WarningKind}
use Rattle.audit_advisory.specs.declared.outputs.WarningKind.TheVariants as kind
use Rattle.audit_advisory.specs.declared.settings.Severity.{Severity}
use Rattle.audit_advisory.specs.declared.settings.Severity.TheVariants as level

unfoldable pub severity_word : Severity → List ℕ
severity_word level.None = codes "none"
severity_word level.Low = codes "low"
severity_word level.Medium = codes "medium"
severity_word level.High = codes "high"
severity_word level.Critical = codes "critical"

unfoldable pub kind_word : WarningKind → List ℕ
kind_word kind.Notice = codes "notice"
kind_word kind.Unmaintained = codes "unmaintained"
kind_word kind.Unsound = codes "unsound"
kind_word kind.Yanked = codes "yanked"

abbrev pub informational_word : Informational → List ℕ
informational_word told.Notice = codes "notice"
informational_word told.Unmaintained = codes "unmaintained"
informational_word told.Unsound = codes "unsound"
informational_word (told.Other text) = text
