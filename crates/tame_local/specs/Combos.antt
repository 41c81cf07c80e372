-- Where a crate's entry of an index of any kind is kept (this project).
use Rattle.std.specs.Prelude.{◌≡◌, ◌⊎◌, ℕ, List, Bool, true, false, IsTrue, Option, Some, None, Result, Ok, Err}
use Rattle.tame_names.specs.Standing.{Host}
use Rattle.tame_names.specs.declared.errors.Error.{Error}
use Rattle.tame_names.specs.declared.errors.Error.TheVariants as error
use Rattle.tame_names.specs.declared.errors.IoKind.TheVariants as io_kind
use Rattle.tame_names.specs.declared.host.FailedCall.{FailedCall}
use Rattle.tame_names.specs.declared.host.FileCall.TheVariants as file_call
use Rattle.tame_location.specs.Calls as home_calls
use Rattle.tame_location.specs.Homes.{IsHomeCall, IsTold}
use Rattle.tame_location.specs.IndexUrls.{is_sparse}
use Rattle.tame_location.specs.declared.index_urls.IndexUrl.{IndexUrl}
use Rattle.tame_location.specs.declared.index_urls.IndexUrl.TheVariants as url
use Rattle.tame_location.specs.declared.locations.IndexLocation.{IndexLocation}
use Rattle.tame_entry.specs.declared.index_entries.IndexEntry.{IndexEntry}
use Rattle.tame_cache.specs.CacheFiles.{HandsOut}
use Rattle.tame_cache.specs.Disk.{File}
use Rattle.tame_cache.specs.Kept.{cache_file_of}
use Rattle.tame_sparse.specs.Located.{IsPlaceError, git_place, missing_sparse, sparse_for_git, sparse_place}
use Rattle.tame_local.specs.Calls.{AddsFailed, IsCallOn}
use Rattle.tame_local.specs.Refusals.{IsFailedAt, IsNoFolderAt, is_told, refused}
use Rattle.tame_local.specs.Registries.{HandsOutFile, index_at, index_file, index_of}
use Rattle.tame_local.specs.declared.combos.ComboIndexCache.{ComboIndexCache}
use Rattle.tame_local.specs.declared.combos.ComboIndexCache.TheVariants as combo

-- the file of a crate is in the cache of an index, below this path, or in an index at this path
pub data EntryPlace : Type 0 where
  InCache : (root url : List ℕ) → EntryPlace
  InIndex : (index : List ℕ) → EntryPlace

abbrev pub kept_in : ComboIndexCache → EntryPlace
kept_in (combo.Git index) = InCache index.cache.path index.cache.index
kept_in (combo.Sparse index) = InCache index.cache.path index.cache.index
kept_in (combo.Local index) = InIndex index.path
kept_in (combo.LocalRegistry registry) = InIndex registry.index.path

-- the path of a crate's file
abbrev pub file_of : EntryPlace → List ℕ → Option (List ℕ)
file_of (InCache root url) name = cache_file_of root name
file_of (InIndex index) name = Some (index_file index name)

-- its path in a cache; none if it is in an index
abbrev pub cached_file_of : EntryPlace → List ℕ → Option (List ℕ)
cached_file_of (InCache root url) name = cache_file_of root name
cached_file_of (InIndex index) name = None

-- what a cache gives for it, if the disk tells it
abbrev pub IsCached : EntryPlace → File → Option IndexEntry → Type 0
IsCached (InCache root url) file entry = HandsOut url entry file
IsCached (InIndex index) file entry = Unit {0}

-- what an index gives for it, if the host tells what it has
abbrev pub IsIndexed : EntryPlace → List ℕ → Host → Option IndexEntry → Type 0
IsIndexed (InCache root url) name host entry = Unit {0}
IsIndexed (InIndex index) name host entry = HandsOutFile entry (host.stands (index_file index name))

-- a failed read of a cache, or of the crate's file of an index
abbrev pub IsCombinedError : EntryPlace → List ℕ → Error → Type 0
IsCombinedError (InCache root url) name e =
    (e ≡ error.NoMemory) ⊎ (e ≡ error.Io io_kind.Failed)
IsCombinedError (InIndex index) name e = IsFailedAt (index_file index name) e

-- the reading of the crate's file of an index; in a cache the files aren't called
abbrev pub IsEntryCall : EntryPlace → List ℕ → List ℕ → FailedCall → Type 0
IsEntryCall (InCache root url) name told call = ⊥
IsEntryCall (InIndex index) name told call =
    IsCallOn file_call.Read (index_file index name) told call

-- ---- which cache there is at a location

-- the kind of a url's index: sparse, in a git repository, or in the folder of a path
pub data IndexKind : Type 0 where
  OfServer : IndexKind
  OfRepository : IndexKind
  OfFolder : (path : List ℕ) → IndexKind

-- the path of a local registry
abbrev pub local_path : IndexUrl → Option (List ℕ)
local_path (url.Local path) = Some path
local_path other = None

abbrev pub kind_by : Option (List ℕ) → Bool → IndexKind
kind_by (Some path) sparse = OfFolder path
kind_by None true = OfServer
kind_by None false = OfRepository

abbrev pub kind_of : IndexUrl → IndexKind
kind_of address = kind_by (local_path address) (is_sparse address)

-- where an index of a kind is, or why there is none, if the host tells what it has
abbrev pub IsOpened : (ℕ → List ℕ → ℕ) → IndexLocation → Host → IndexKind
    → Result ComboIndexCache Error → Type 0
IsOpened ident location host OfServer (Ok (combo.Sparse index)) =
    sparse_place ident location host ≡ Ok (index.cache.path, index.cache.index)
IsOpened ident location host OfServer (Err e) =
    IsTold e → sparse_place ident location host ≡ Err e
IsOpened ident location host OfRepository (Ok (combo.Git index)) =
    (git_place ident location host ≡ Ok (index.cache.path, index.cache.index))
    × (index.head ≡ None)
IsOpened ident location host OfRepository (Err e) =
    IsTold e → git_place ident location host ≡ Err e
IsOpened ident location host (OfFolder path) (Ok (combo.Local index)) =
    index_at host path ≡ Ok index.path
IsOpened ident location host (OfFolder path) (Err e) =
    IsTrue (is_told e) → index_at host path ≡ Err (refused e)
IsOpened ident location host kind result = ⊥

-- the reasons why there is none
abbrev pub IsOpenError : IndexLocation → IndexKind → Error → Type 0
IsOpenError location OfServer e = IsPlaceError (missing_sparse location.url) location e
IsOpenError location OfRepository e = IsPlaceError (sparse_for_git location.url) location e
IsOpenError location (OfFolder path) e = IsNoFolderAt (index_of path) e

-- a refusal by a call that failed adds that call to the failed ones, any other answer none: a call
-- for cargo's home, or a look at the folder `index` of the path
abbrev pub AddsOpenCall : {T : Type 0} → IndexKind → Host → List FailedCall → List FailedCall
    → Result T Error → Type 0
AddsOpenCall (OfFolder path) host before now result =
    AddsFailed (IsCallOn file_call.Kind (index_of path)) before now result
AddsOpenCall kind host before now result =
    home_calls.AddsFailed (IsHomeCall host) before now result
