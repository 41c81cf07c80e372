-- What a server holds for generated packages, each file a function of its package's number (this
-- project; Cargo Book, "Registry Index", index files).
use Rattle.std.specs.Prelude.{ℕ, suc, ◌+◌, ◌%◌, ◌==◌, codes, decimal, List, ◌++◌, map, Bool, if◌then◌else◌}
use Rattle.std.specs.List.{flat_map, range_with_len}
use Rattle.tame_names.specs.Names.{relative_path}
use Rattle.tame_sparse.specs.declared.serving.Held.{Held}
use Rattle.audit_generator.specs.Packages.{minor_at, name_at, version_text}

-- whether package k is yanked in the version with this middle number
abbrev pub is_yanked_in : ℕ → ℕ → Bool
is_yanked_in k minor = (k + minor) % 5 == 0

abbrev pub flag_text : Bool → List ℕ
flag_text yanked = if yanked then codes "true" else codes "false"

-- 64 digits
abbrev pub checksum_text : List ℕ
checksum_text = codes "0000000000000000000000000000000000000000000000000000000000000000"

-- the object of package k in that version
abbrev pub object_text : ℕ → ℕ → List ℕ
object_text k minor =
    codes "{\"name\":\"" ++ name_at k ++ codes "\",\"vers\":\"" ++ version_text minor
    ++ codes "\",\"deps\":[],\"cksum\":\"" ++ checksum_text
    ++ codes "\",\"features\":{},\"yanked\":" ++ flag_text (is_yanked_in k minor) ++ codes "}"

-- on a line of its own
abbrev pub line_text : ℕ → ℕ → List ℕ
line_text k minor = object_text k minor ++ codes "\n"

-- a line for each middle number up to its own
abbrev pub body_at : ℕ → List ℕ
body_at k = flat_map (line_text k) (range_with_len 0 (suc (minor_at k)))

abbrev pub etag_at : ℕ → List ℕ
etag_at k = codes "e" ++ decimal k

-- the path of package k in the index
abbrev pub path_at : ℕ → List ℕ
path_at k = relative_path (codes "/") (name_at k)

abbrev pub held_for : ℕ → Held
held_for k = record { path = path_at k; etag = etag_at k; body = body_at k }

-- the files of n packages
abbrev pub hosted : ℕ → List Held
hosted n = map held_for (range_with_len 0 n)
