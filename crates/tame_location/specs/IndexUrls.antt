-- Urls of indices (Cargo Book, "Registry Index" and "Registries").
use Rattle.std.specs.Prelude.{ℕ, codes, List, nat_eq, Bool, true, false}
use Rattle.std.specs.Cow.{cow_str_bytes}
use Rattle.std.specs.List.{starts_with}
use Rattle.tame_location.specs.declared.index_urls.IndexUrl.{IndexUrl}
use Rattle.tame_location.specs.declared.index_urls.IndexUrl.TheVariants as url

-- the two indices of crates.io
abbrev pub sparse_index : List ℕ
sparse_index = codes "sparse+https://index.crates.io/"

abbrev pub git_index : List ℕ
git_index = codes "https://github.com/rust-lang/crates.io-index"

-- a url is one of an index that uses the sparse protocol
abbrev pub is_sparse_url : List ℕ → Bool
is_sparse_url url = starts_with nat_eq url (codes "sparse+http")

-- the url as text; for a local registry its path
abbrev pub url_text : IndexUrl → List ℕ
url_text url.CratesIoSparse = sparse_index
url_text url.CratesIoGit = git_index
url_text (url.NonCratesIo text) = cow_str_bytes text
url_text (url.Local path) = path

-- an index uses the sparse protocol
abbrev pub is_sparse : IndexUrl → Bool
is_sparse url.CratesIoSparse = true
is_sparse url.CratesIoGit = false
is_sparse (url.NonCratesIo text) = is_sparse_url (cow_str_bytes text)
is_sparse (url.Local path) = false
