-- The advisories of a database, in the byte order of their folders and files (this project, after
-- the RustSec advisory database).
use Rattle.std.specs.Prelude.{ℕ, suc, codes, nat_eq, List, [], ◌∷◌, ◌++◌, map, Bool, Option, Some, None, if◌then◌else◌, Result, Ok, Err}
use Rattle.std.specs.BTreeSet.{insert_key}
use Rattle.std.specs.Cmp.Lexicographic.{slice_cmp}
use Rattle.std.specs.List.{ends_with}
use Rattle.std.specs.Ordering.{nat_cmp}
use Rattle.tame_names.specs.Paths.{join}
use Rattle.tame_names.specs.Standing.{Host, listing}
use Rattle.tame_names.specs.declared.host.Listed.{Listed}
use Rattle.audit_advisory.specs.Advisories.{advisory_of}
use Rattle.audit_advisory.specs.declared.advisories.Advisory.{Advisory}
use Rattle.audit_advisory.specs.declared.faults.AdvisoryFault.{AdvisoryFault}
use Rattle.audit_asked.specs.Refusals.{Refused, advisory}
use Rattle.audit_asked.specs.Texts.{go_on, file_text}
use Rattle.audit_asked.specs.declared.listings.Wanted.{Wanted}
use Rattle.audit_asked.specs.declared.listings.Wanted.TheVariants as wanted

-- ---- names in byte order

abbrev pub is_advisory_name : List ℕ → Bool
is_advisory_name name = ends_with nat_eq name (codes ".md")

abbrev pub advisory_name : Option (List ℕ) → Option (List ℕ)
advisory_name None = None
advisory_name (Some name) = if is_advisory_name name then Some name else None

-- the name of a wanted entry: one that is no file, or a file whose name ends with `.md`; a name
-- that isn't UTF-8 is skipped
abbrev pub wanted_name : Wanted → Listed → Option (List ℕ)
wanted_name wanted.Folders entry = if entry.file then None else entry.name
wanted_name wanted.Advisories entry = if entry.file then advisory_name entry.name else None

-- a name, inserted in byte order
abbrev pub with_name : List (List ℕ) → Option (List ℕ) → List (List ℕ)
with_name names None = names
with_name names (Some name) = insert_key (slice_cmp nat_cmp) names name

abbrev pub names_with : Wanted → List (List ℕ) → List Listed → List (List ℕ)
names_with kind names [] = names
names_with kind names (entry ∷ entries) =
    names_with kind (with_name names (wanted_name kind entry)) entries

-- the wanted names in a folder, in byte order; none if there is no folder
abbrev pub names_in : Wanted → Option (List Listed) → List (List ℕ)
names_in kind None = []
names_in kind (Some entries) = names_with kind [] entries

abbrev pub names_at : Wanted → Host → List ℕ → List (List ℕ)
names_at kind host path = names_in kind (listing (host.stands path))

-- ---- the paths of the advisories

-- the folder of a database that has a folder for each crate
abbrev pub crates_folder : List ℕ → List ℕ
crates_folder database = join database (codes "crates")

-- the advisories of one folder
abbrev pub paths_below : Host → List ℕ → List (List ℕ)
paths_below host folder = map (join folder) (names_at wanted.Advisories host folder)

-- the advisories of the folders of these names, folder by folder
abbrev pub paths_in : Host → List ℕ → List (List ℕ) → List (List ℕ)
paths_in host folder [] = []
paths_in host folder (name ∷ names) =
    paths_below host (join folder name) ++ paths_in host folder names

-- the advisories in the folders directly in `crates` of a database
abbrev pub database_paths : Host → List ℕ → List (List ℕ)
database_paths host database =
    paths_in host (crates_folder database) (names_at wanted.Folders host (crates_folder database))

abbrev pub advisory_paths : Host → Option (List ℕ) → List (List ℕ)
advisory_paths host None = []
advisory_paths host (Some database) = database_paths host database

-- ---- the advisories

abbrev pub numbered : ℕ → Result Advisory AdvisoryFault → Result Advisory Refused
numbered n (Ok read) = Ok read
numbered n (Err reason) = Err (advisory n reason)

-- the advisory at a path, which is the n-th
abbrev pub advisory_at : Host → ℕ → List ℕ → Result Advisory Refused
advisory_at host n path =
    go_on (file_text path (host.stands path)) (λ text. numbered n (advisory_of text))

-- the advisories at these paths, the first is the n-th; each is read fully before the next
abbrev pub advisories_from : Host → ℕ → List (List ℕ) → Result (List Advisory) Refused
advisories_from host n [] = Ok []
advisories_from host n (path ∷ paths) =
    go_on (advisory_at host n path) (λ read.
    go_on (advisories_from host (suc n) paths) (λ more. Ok (read ∷ more)))

-- the advisories of a database
abbrev pub advisories_asked : Host → Option (List ℕ) → Result (List Advisory) Refused
advisories_asked host database = advisories_from host 0 (advisory_paths host database)
