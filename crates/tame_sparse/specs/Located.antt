-- Where an index of a kind is (Cargo Book, "Registry Index" and "Cargo Home").
use Rattle.std.specs.Prelude.{◌≡◌, ◌⊎◌, ℕ, List, if◌then◌else◌, Result, Err}
use Rattle.tame_names.specs.Standing.{Host}
use Rattle.tame_names.specs.declared.errors.Error.{Error}
use Rattle.tame_names.specs.declared.errors.Error.TheVariants as error
use Rattle.tame_names.specs.declared.errors.InvalidUrlError.TheVariants as why
use Rattle.tame_location.specs.IndexUrls.{is_sparse, url_text}
use Rattle.tame_location.specs.Locations.{IsLocationError, located}
use Rattle.tame_location.specs.Urls.{refused_url}
use Rattle.tame_location.specs.declared.index_urls.IndexUrl.{IndexUrl}
use Rattle.tame_location.specs.declared.locations.IndexLocation.{IndexLocation}

-- the errors of a url that is one of the other kind
abbrev pub missing_sparse : IndexUrl → Error
missing_sparse url = refused_url (url_text url) why.MissingSparse

abbrev pub sparse_for_git : IndexUrl → Error
sparse_for_git url = refused_url (url_text url) why.SparseForGit

-- the folder and the url of a sparse index at a location, which must be that of one
abbrev pub sparse_place : (ℕ → List ℕ → ℕ) → IndexLocation → Host
    → Result (List ℕ × List ℕ) Error
sparse_place ident location host =
    if is_sparse location.url then located ident location host
    else Err (missing_sparse location.url)

-- the folder and the url of an index in a git repository
abbrev pub git_place : (ℕ → List ℕ → ℕ) → IndexLocation → Host → Result (List ℕ × List ℕ) Error
git_place ident location host =
    if is_sparse location.url then Err (sparse_for_git location.url)
    else located ident location host

-- the reasons why there is no such index: its url is of the other kind, its location has no path,
-- or out of memory
abbrev pub IsPlaceError : Error → IndexLocation → Error → Type 0
IsPlaceError other location e =
    (e ≡ other) ⊎ IsLocationError location.root e ⊎ (e ≡ error.NoMemory)
