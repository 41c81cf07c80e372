-- Status lines (this project, after cargo-audit).
use Rattle.std.specs.Prelude.{ℕ, codes, decimal, List, [], ◌++◌, if◌then◌else◌}
use Rattle.json.specs.Print.{quoted}
use Rattle.audit_advisory.specs.Outputs.{is_quiet}
use Rattle.audit_advisory.specs.declared.outputs.OutputConfig.{OutputConfig}
use Rattle.audit_report.specs.declared.binaries.Found.{Found}
use Rattle.audit_report.specs.declared.binaries.Found.TheVariants as found

-- how many advisories the database at a path has
unfoldable pub loaded_line : ℕ → List ℕ → List ℕ
loaded_line count path =
    codes "Loaded " ++ decimal count ++ codes " security advisories (from " ++ path ++ codes ")\n"

unfoldable pub updating_line : List ℕ
updating_line = codes "Updating crates.io index\n"

-- how many packages the lockfile at a path has
unfoldable pub scanning_line : List ℕ → ℕ → List ℕ
scanning_line path count =
    codes "Scanning " ++ path ++ codes " for vulnerabilities (" ++ decimal count
    ++ codes " crate dependencies)\n"

-- that line, unless status lines are left out
abbrev pub scanning_line_in : OutputConfig → List ℕ → ℕ → List ℕ
scanning_line_in config path count = if is_quiet config then [] else scanning_line path count

unfoldable pub complete_line : ℕ → List ℕ → List ℕ
complete_line count path =
    codes "Found 'cargo auditable' data in " ++ path ++ codes " (" ++ decimal count
    ++ codes " dependencies)\n"

unfoldable pub incomplete_line : ℕ → List ℕ → List ℕ
incomplete_line count path =
    codes "warning: " ++ path
    ++ codes " was not built with 'cargo auditable', the report will be incomplete ("
    ++ decimal count ++ codes " dependencies recovered)\n"

unfoldable pub nothing_line : List ℕ → List ℕ
nothing_line path =
    codes "error: No dependency information found in " ++ path
    ++ codes "! Is it a Rust program built with cargo?\n"

-- what the binary at a path reports of its packages, and how many of them it names
abbrev pub binary_line : Found → ℕ → List ℕ → List ℕ
binary_line found.Complete count path = complete_line count path
binary_line found.Incomplete count path = incomplete_line count path
binary_line found.Nothing count path = nothing_line path

-- that line, unless status lines are left out
abbrev pub binary_line_in : OutputConfig → Found → ℕ → List ℕ → List ℕ
binary_line_in config found count path =
    if is_quiet config then [] else binary_line found count path

unfoldable pub unchecked_title : List ℕ
unchecked_title = codes "error: couldn't check if the package is yanked: "

-- a package for which it isn't known whether it is yanked, and why
unfoldable pub unchecked_line : List ℕ → List ℕ → List ℕ → List ℕ
unchecked_line name version cause =
    unchecked_title ++ quoted name ++ codes " " ++ version ++ codes ": " ++ cause ++ codes "\n"
