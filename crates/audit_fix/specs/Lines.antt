-- The lines that `fix` prints on standard error (this project, after cargo-audit).
use Rattle.std.specs.Prelude.{ℕ, ℤ, codes, List, [], ◌∷◌, ◌++◌, Bool, true, false, Option, Some, None, slice_get, if◌then◌else◌}
use Rattle.std.specs.Option.{option_map_or}
use Rattle.audit_lock.specs.declared.resolving.Package.{Package}
use Rattle.audit_advisory.specs.declared.advisories.Advisory.{Advisory}
use Rattle.audit_advisory.specs.declared.reports.Vulnerability.{Vulnerability}
use Rattle.audit_fix.specs.Plans.{patchable, unpatched}

-- ---- the lines

unfoldable pub dry_run_line : List ℕ
dry_run_line = codes "warning: Performing a dry run, the fixes will not be applied\n"

unfoldable pub unpatched_title : List ℕ
unpatched_title = codes "warning: No patched versions available for "

unfoldable pub unpatched_line : List ℕ → List ℕ → List ℕ
unpatched_line id name = unpatched_title ++ id ++ codes " in crate " ++ name ++ codes "\n"

unfoldable pub failed_line : List ℕ → List ℕ
failed_line name =
    codes "warning: Failed to run `cargo update` for package " ++ name ++ codes "\n"

-- ---- the line of a vulnerability

-- the next step couldn't be started
abbrev pub is_failed : List (Option ℤ) → Bool
is_failed [] = false
is_failed (None ∷ statuses) = true
is_failed (Some status ∷ statuses) = false

-- what is left after the next status
abbrev pub behind_one : List (Option ℤ) → List (Option ℤ)
behind_one [] = []
behind_one (status ∷ statuses) = statuses

-- the line of a step
abbrev pub step_line : List (Option ℤ) → Package → List ℕ
step_line statuses p = if is_failed statuses then failed_line p.name else []

-- the line of an advisory without a patch
abbrev pub advisory_line : List Package → ℕ → Advisory → List ℕ
advisory_line packages place a =
    option_map_or (λ p. unpatched_line a.metadata.id p.name) (slice_get packages place) []

-- the line of a vulnerability: of its step, which takes the next status, or of its advisory
abbrev pub line_of : List Advisory → List Package → Vulnerability → List (Option ℤ)
    → List ℕ
line_of advisories packages v statuses =
    option_map_or (step_line statuses) (patchable advisories packages v)
    (option_map_or (advisory_line packages v.«package») (unpatched advisories v) [])

-- the statuses that are left after a vulnerability
abbrev pub behind : List Advisory → List Package → Vulnerability → List (Option ℤ)
    → List (Option ℤ)
behind advisories packages v statuses =
    option_map_or (λ p. behind_one statuses) (patchable advisories packages v) statuses

-- ---- the list

-- the lines of each vulnerability, in order
abbrev pub lines_of : List Advisory → List Package → List Vulnerability → List (Option ℤ)
    → List ℕ
lines_of advisories packages [] statuses = []
lines_of advisories packages (v ∷ vs) statuses =
    line_of advisories packages v statuses
    ++ lines_of advisories packages vs (behind advisories packages v statuses)

-- nothing without vulnerabilities; in a dry run, first the line that says so
abbrev pub fix_lines : Bool → List Advisory → List Package → List Vulnerability
    → List (Option ℤ) → List ℕ
fix_lines dry_run advisories packages [] statuses = []
fix_lines dry_run advisories packages (v ∷ vs) statuses =
    (if dry_run then dry_run_line else []) ++ lines_of advisories packages (v ∷ vs) statuses
