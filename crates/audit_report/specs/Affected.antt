-- The functions of a package that an advisory names and a binary has (this project, after
-- cargo-audit).
use Rattle.std.specs.Prelude.{ℕ, codes, List, [], ◌∷◌, map, Bool, false, ◌&&◌, Option, Some, None}
use Rattle.std.specs.List.{filter, join_by}
use Rattle.std.specs.Result.{result_ok}
use Rattle.semver.specs.Parse.{Parts, version_parts}
use Rattle.audit_lock.specs.declared.resolving.Package.{Package}
use Rattle.audit_advisory.specs.Hits.{point_of_parts}
use Rattle.audit_advisory.specs.Requirements.{meets_any}
use Rattle.audit_advisory.specs.declared.advisories.Advisory.{Advisory}
use Rattle.audit_advisory.specs.declared.affected.Function.{Function}
use Rattle.report_parts.specs.Attributes.{attribute}
use Rattle.audit_report.specs.Symbols.{Segments, is_kept}

-- a version meets one of these requirements; without a version, none is met
abbrev pub is_held : List (List ℕ) → Option Parts → Bool
is_held requirements None = false
is_held requirements (Some parts) = meets_any requirements (point_of_parts parts)

-- the symbols keep a function's path, and the function is affected in a version
abbrev pub is_affected : List Segments → Option Parts → Function → Bool
is_affected symbols version f = is_kept symbols f.path && is_held f.versions version

abbrev pub affected_paths : List Segments → Option Parts → List Function → List Segments
affected_paths symbols version functions =
    map (λ f. f.path) (filter (is_affected symbols version) functions)

-- ---- the line

unfoldable pub path_text : Segments → List ℕ
path_text path = join_by (λ segment. segment) (codes "::") path

-- without a path, no line
abbrev pub paths_line : List Segments → List ℕ
paths_line [] = []
paths_line (p ∷ ps) = attribute (codes "Affected:") (join_by path_text (codes ", ") (p ∷ ps))

-- the line for a package and an advisory, if symbols are set
abbrev pub affected_line : Option (List Segments) → Package → Advisory → List ℕ
affected_line None p advisory = []
affected_line (Some symbols) p advisory =
    paths_line (affected_paths symbols (result_ok (version_parts p.version)) advisory.functions)
