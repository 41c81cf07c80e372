-- The files in a folder after the changes of a builder are exactly those that were to be put there.
use Rattle.std.proofs.Common.{◌≡◌, ◌⊎◌, inl, inr, ℕ, ◌+◌, List, [], ◌∷◌, ◌++◌, length, map, codes, bytes_eq, IsUtf8, IsTrue, Bool, true, false, cond, Option, Some, None, refl, sym, ap, ◌∙◌, subst, add_assoc, zero-add}
use Rattle.std.specs.Prelude.{flat_map}
use Rattle.std.proofs.lemmas.Slice.Eq.{bytes_eq-Decides}
use Rattle.tame_names.specs.Names.{is_name, path, relative_path, separator}
use Rattle.tame_names.specs.Paths.{begins_with_slash, is_same, join}
use Rattle.tame_names.specs.Standing.{Host, File}
use Rattle.tame_records.specs.Written.{json_lines}
use Rattle.tame_local.specs.Builders.{HostChange, Makes, Creates, after}
use Rattle.tame_local.specs.Builders as builders
use Rattle.tame_local.specs.CrateFiles.{crate_file}
use Rattle.tame_local.specs.Inserts.{StandsPlain}
use Rattle.audit_lock.specs.declared.resolving.Package.{Package}
use Rattle.vendor_registry.proofs.Changed.{after_bytes, bytes_in, file_in, last_append, last_at, size_append}
use Rattle.vendor_registry.proofs.Facts.{Facts, path_of_name}
use Rattle.vendor_registry.proofs.FolderPaths.{crate_inner, crate_not_index, index_inner, index_join, index_same, path_front, same_inner}
use Rattle.vendor_registry.specs.Built.{all_made, crate_made, path_made, paths_made}
use Rattle.vendor_registry.specs.Checks.{Stock, crate_path}
use Rattle.vendor_registry.specs.Named.{AreTexts}
use Rattle.vendor_registry.specs.Vendored.{Files, HoldsEach, HoldsNoOther, IsAmong, first, later, IsBare, IsInner, crate_entry, index_entry, is_on, on, path_files, paths_of, size_of, vendored_files}
use Rattle.vendor_registry.specs.declared.checks.CheckedCrate.{CheckedCrate}

-- ---- the last of files at a path

abbrev pub last_in : Files → List ℕ → Option (List ℕ) → Option (List ℕ)
last_in [] x s = s
last_in (f ∷ fs) x s = last_in fs x (cond (bytes_eq f.0 x) (Some f.1) s)

in_append : (es fs : Files) (x : List ℕ) (s : Option (List ℕ)) → last_in (es ++ fs) x s ≡ last_in fs x (last_in es x s)
in_append [] fs x s = refl
in_append (e ∷ es) fs x s = in_append es fs x (cond (bytes_eq e.0 x) (Some e.1) s)

some_same : (xs ys : List ℕ) → Some xs ≡ Some ys → xs ≡ ys
some_same xs ys h = cc

-- it is one of them, or what was there
here_case : (t : Bool) (f : List ℕ × List ℕ) (fs : Files) (x b : List ℕ) (s : Option (List ℕ)) → bytes_eq f.0 x ≡ t → cond t (Some f.1) s ≡ Some b
    → IsAmong x b (f ∷ fs) ⊎ (s ≡ Some b)
here_case true f fs x b s same is =
    let key : f.0 ≡ x = (bytes_eq-Decides f.0 x).0 same in
    let bytes : f.1 ≡ b = some_same f.1 b is in
    let file : (x, b) ≡ f = ap (λ (k : List ℕ). (k, b)) (sym key) ∙ ap (λ (y : List ℕ). (f.0, y)) (sym bytes) in
    inl (subst (λ (g : List ℕ × List ℕ). IsAmong x b (g ∷ fs)) file (first fs))
here_case false f fs x b s other is = inr is

found_case : (f : List ℕ × List ℕ) (fs : Files) (x b : List ℕ) (s : Option (List ℕ)) → IsAmong x b fs ⊎ (cond (bytes_eq f.0 x) (Some f.1) s ≡ Some b)
    → IsAmong x b (f ∷ fs) ⊎ (s ≡ Some b)
found_case f fs x b s (inl more) = inl (later f fs more)
found_case f fs x b s (inr is) = here_case (bytes_eq f.0 x) f fs x b s refl is

found : (fs : Files) (x b : List ℕ) (s : Option (List ℕ)) → last_in fs x s ≡ Some b → IsAmong x b fs ⊎ (s ≡ Some b)
found [] x b s h = inr h
found (f ∷ fs) x b s h = found_case f fs x b s (found fs x b (cond (bytes_eq f.0 x) (Some f.1) s) h)

-- if those at a path have the same bytes, it has these
abbrev Alone : List ℕ → List ℕ → Files → Type 0
Alone x b fs = (other : List ℕ) → IsAmong x other fs → other ≡ b

alone_here : (t : Bool) (f : List ℕ × List ℕ) (fs : Files) (x b : List ℕ) (s : Option (List ℕ)) → bytes_eq f.0 x ≡ t → Alone x b (f ∷ fs) → s ≡ Some b
    → cond t (Some f.1) s ≡ Some b
alone_here true f fs x b s same alone is =
    let key : f.0 ≡ x = (bytes_eq-Decides f.0 x).0 same in
    let file : (x, f.1) ≡ f = ap (λ (k : List ℕ). (k, f.1)) (sym key) in
    ap Some (alone f.1 (subst (λ (g : List ℕ × List ℕ). IsAmong x f.1 (g ∷ fs)) file (first fs)))
alone_here false f fs x b s other alone is = is

stays : (fs : Files) (x b : List ℕ) (s : Option (List ℕ)) → Alone x b fs → s ≡ Some b → last_in fs x s ≡ Some b
stays [] x b s alone is = is
stays (f ∷ fs) x b s alone is =
    stays fs x b (cond (bytes_eq f.0 x) (Some f.1) s) (λ other h. alone other (later f fs h)) (alone_here (bytes_eq f.0 x) f fs x b s refl alone is)

equal_bytes : (xs : List ℕ) → bytes_eq xs xs ≡ true
equal_bytes xs = (bytes_eq-Decides xs xs).1 refl

stands_last : (x b : List ℕ) (fs : Files) (s : Option (List ℕ)) → Alone x b fs → IsAmong x b fs → last_in fs x s ≡ Some b
stands_last x b _ s alone (first fs) =
    stays fs x b (cond (bytes_eq x x) (Some b) s) (λ other h. alone other (later (x, b) fs h)) (ap (λ t. cond t (Some b) s) (equal_bytes x))
stands_last x b _ s alone (later f fs more) =
    stands_last x b fs (cond (bytes_eq f.0 x) (Some f.1) s) (λ other h. alone other (later f fs h)) more

-- ---- each file is one of the index or of a crate

-- where the bytes of a crate file come from
abbrev pub Right : Stock → List CheckedCrate → List ℕ → List ℕ → Type 0
Right s cs x b =
    ((q : List ℕ) × (begins_with_slash q ≡ false) × ((x, b) ≡ index_entry q (on q cs)))
    ⊎ ((name : List ℕ) × (version : List ℕ) × IsUtf8 name × IsTrue (is_name name) × (x ≡ crate_file name version)
    × (s.host.stands (join s.crates x) ≡ File b))

abbrev pub AreRight : Stock → List CheckedCrate → Files → Type 0
AreRight s cs [] = Unit {0}
AreRight s cs (f ∷ fs) = IsInner f.0 × Right s cs f.0 f.1 × AreRight s cs fs

right_at : (s : Stock) (cs : List CheckedCrate) (x b : List ℕ) (fs : Files) → AreRight s cs fs → IsAmong x b fs → IsInner x × Right s cs x b
right_at s cs x b _ right (first fs) = (right.0, right.1)
right_at s cs x b _ right (later f fs more) = right_at s cs x b fs right.2 more

right_append : (s : Stock) (cs : List CheckedCrate) (es fs : Files) → AreRight s cs es → AreRight s cs fs → AreRight s cs (es ++ fs)
right_append s cs [] fs left right = right
right_append s cs (e ∷ es) fs left right = (left.0, left.1, right_append s cs es fs left.2 right)

file_same : (bs cs : List ℕ) → File bs ≡ File cs → bs ≡ cs
file_same bs cs h = cc

-- two at one path have the same bytes
agree : (s : Stock) (cs : List CheckedCrate) (x a b : List ℕ) → Right s cs x a → Right s cs x b → a ≡ b
agree s cs x a b (inl h) (inl k) =
    let one : x ≡ join (codes "index") h.0 = ap (λ (f : List ℕ × List ℕ). f.0) h.2 in
    let two : x ≡ join (codes "index") k.0 = ap (λ (f : List ℕ × List ℕ). f.0) k.2 in
    let same : h.0 ≡ k.0 = index_same h.0 k.0 h.1 k.1 (sym one ∙ two) in
    ap (λ (f : List ℕ × List ℕ). f.1) (h.2 ∙ ap (λ q. index_entry q (on q cs)) same ∙ sym k.2)
agree s cs x a b (inl h) (inr k) =
    absurd (crate_not_index k.0 k.1 h.0 k.2 k.3 h.1 (sym k.4 ∙ ap (λ (f : List ℕ × List ℕ). f.0) h.2))
agree s cs x a b (inr h) (inl k) =
    absurd (crate_not_index h.0 h.1 k.0 h.2 h.3 k.1 (sym h.4 ∙ ap (λ (f : List ℕ × List ℕ). f.0) k.2))
agree s cs x a b (inr h) (inr k) = file_same a b (sym h.5 ∙ k.5)

-- ---- what is put on a path

-- what was checked has its facts
pub record IsKnown (s : Stock) (c : CheckedCrate) : Type 0 where
  pub utf8 : IsUtf8 c.version.name
  pub named : IsTrue (is_name c.version.name)
  pub path_is : relative_path (separator None) c.version.name ≡ c.path
  pub crate : s.host.stands (crate_path s.crates c.version.name c.version.version) ≡ File c.bytes

abbrev pub AreKnown : Stock → List CheckedCrate → Type 0
AreKnown s [] = Unit {0}
AreKnown s (c ∷ cs) = IsKnown s c × AreKnown s cs

pub known : (s : Stock) (ps : List (ℕ × Package)) (cs : List CheckedCrate) → Facts s ps cs → AreTexts cs → AreKnown s cs
known s [] [] f t = tt
known s [] (c ∷ cs) f t = absurd f
known s (p ∷ ps) [] f t = absurd f
known s (p ∷ ps) (c ∷ cs) f t =
    let named = path_of_name c.version.name c.path (ap path f.0.name_is ∙ f.0.path_is) in
    (record { utf8 = t.0; named = named.0; path_is = named.1; crate = f.0.crate }, known s ps cs f.1 t.1)

-- what is on a path is known, and has this path
abbrev pub AreOn : Stock → List ℕ → List CheckedCrate → Type 0
AreOn s q [] = Unit {0}
AreOn s q (c ∷ cs) = IsKnown s c × (c.path ≡ q) × AreOn s q cs

on_case : (t : Bool) (s : Stock) (q : List ℕ) (c : CheckedCrate) (cs : List CheckedCrate) → is_on q c ≡ t → IsKnown s c → AreOn s q cs → AreOn s q (cond t (c ∷ cs) cs)
on_case true s q c cs is known all = (known, (bytes_eq-Decides c.path q).0 is, all)
on_case false s q c cs is known all = all

pub on_known : (s : Stock) (q : List ℕ) (cs : List CheckedCrate) → AreKnown s cs → AreOn s q (on q cs)
on_known s q [] all = tt
on_known s q (c ∷ cs) all = on_case (is_on q c) s q c (on q cs) refl all.0 (on_known s q cs all.1)

crates_right : (s : Stock) (all : List CheckedCrate) (q : List ℕ) (cs : List CheckedCrate) → AreOn s q cs → AreRight s all (map crate_entry cs)
crates_right s all q [] are = tt
crates_right s all q (c ∷ cs) are = (
  crate_inner c.version.name c.version.version are.0.utf8 are.0.named,
  inr (c.version.name, c.version.version, are.0.utf8, are.0.named, refl, are.0.crate),
  crates_right s all q cs are.2,
)

front_of : (s : Stock) (q : List ℕ) (c : CheckedCrate) → IsKnown s c → c.path ≡ q → begins_with_slash q ≡ false
front_of s q c k is =
    subst (λ p. begins_with_slash p ≡ false) (k.path_is ∙ is) (path_front c.version.name k.utf8 k.named)

inner_of : (s : Stock) (q : List ℕ) (c : CheckedCrate) → IsKnown s c → c.path ≡ q → IsInner (join (codes "index") q)
inner_of s q c k is =
    subst (λ p. IsInner (join (codes "index") p)) (k.path_is ∙ is) (index_inner c.version.name k.utf8 k.named)

path_right : (s : Stock) (all : List CheckedCrate) (q : List ℕ) (cs : List CheckedCrate) → cs ≡ on q all → AreOn s q cs → AreRight s all (path_files q cs)
path_right s all q [] is are = tt
path_right s all q (c ∷ cs) is are = (
  inner_of s q c are.0 are.1,
  inl (q, front_of s q c are.0 are.1, ap (index_entry q) is),
  crates_right s all q (c ∷ cs) are,
)

paths_right : (s : Stock) (all : List CheckedCrate) (qs : List (List ℕ)) → AreKnown s all → AreRight s all (flat_map (λ q. path_files q (on q all)) qs)
paths_right s all [] known = tt
paths_right s all (q ∷ qs) known =
    right_append s all (path_files q (on q all)) (flat_map (λ q. path_files q (on q all)) qs)
    (path_right s all q (on q all) refl (on_known s q all known)) (paths_right s all qs known)

-- ---- changes and files

crates_last : (s : Stock) (folder q : List ℕ) (cs : List CheckedCrate) (x : List ℕ) (o : Option (List ℕ)) → AreOn s q cs → IsInner x
    → last_at (map (crate_made folder) cs) (join folder x) o ≡ last_in (map crate_entry cs) x o
crates_last s folder q [] x o are inner = refl
crates_last s folder q (c ∷ cs) x o are inner =
    ap (λ t. last_at (map (crate_made folder) cs) (join folder x) (cond t (Some c.bytes) o))
    (same_inner folder (crate_file c.version.name c.version.version) x (crate_inner c.version.name c.version.version are.0.utf8 are.0.named) inner)
    ∙ crates_last s folder q cs x (cond (bytes_eq (crate_file c.version.name c.version.version) x) (Some c.bytes) o) are.2 inner

path_last : (s : Stock) (folder q : List ℕ) (cs : List CheckedCrate) (x : List ℕ) (o : Option (List ℕ)) → AreOn s q cs → IsInner x
    → last_at (path_made folder q cs) (join folder x) o ≡ last_in (path_files q cs) x o
path_last s folder q [] x o are inner = refl
path_last s folder q (c ∷ cs) x o are inner =
    let lines : List ℕ = json_lines (map (λ (d : CheckedCrate). d.version) (c ∷ cs)) in
    ap (λ p. last_at (map (crate_made folder) (c ∷ cs)) (join folder x) (cond (is_same p (join folder x)) (Some lines) o))
    (index_join folder q (front_of s q c are.0 are.1))
    ∙ ap (λ t. last_at (map (crate_made folder) (c ∷ cs)) (join folder x) (cond t (Some lines) o))
    (same_inner folder (join (codes "index") q) x (inner_of s q c are.0 are.1) inner)
    ∙ crates_last s folder q (c ∷ cs) x (cond (bytes_eq (join (codes "index") q) x) (Some lines) o) are inner

paths_last : (s : Stock) (folder : List ℕ) (all : List CheckedCrate) (qs : List (List ℕ)) (x : List ℕ) (o : Option (List ℕ)) → AreKnown s all → IsInner x
    → last_at (paths_made folder all qs) (join folder x) o ≡ last_in (flat_map (λ q. path_files q (on q all)) qs) x o
paths_last s folder all [] x o known inner = refl
paths_last s folder all (q ∷ qs) x o known inner =
    last_append (path_made folder q (on q all)) (paths_made folder all qs) (join folder x) o
    ∙ ap (last_at (paths_made folder all qs) (join folder x)) (path_last s folder q (on q all) x o (on_known s q all known) inner)
    ∙ paths_last s folder all qs x (last_in (path_files q (on q all)) x o) known inner
    ∙ sym (in_append (path_files q (on q all)) (flat_map (λ q. path_files q (on q all)) qs) x o)

-- ---- the folder

all_bytes : (s : Stock) (folder : List ℕ) (cs : List CheckedCrate) (host : Host) (x : List ℕ) → StandsPlain host.stands → AreKnown s cs → IsInner x
    → bytes_in ((after (all_made folder cs) host).stands (join folder x)) ≡ last_in (vendored_files cs) x (bytes_in (host.stands (join folder x)))
all_bytes s folder cs host x plain known inner =
    after_bytes (all_made folder cs) host (join folder x) plain
    ∙ paths_last s folder cs (paths_of cs) x (bytes_in (host.stands (join folder x))) known inner

none_case : {A : Type 0} (b : List ℕ) (o : A ⊎ (None ≡ Some b)) → A
none_case b (inl a) = a
none_case b (inr h) = cc

pub holds_each : (s : Stock) (folder : List ℕ) (cs : List CheckedCrate) (host : Host) → StandsPlain host.stands → AreKnown s cs
    → HoldsEach (after (all_made folder cs) host) folder (vendored_files cs)
holds_each s folder cs host plain known =
    let right : AreRight s cs (vendored_files cs) = paths_right s cs (paths_of cs) known in
    λ x b among.
    let at = right_at s cs x b (vendored_files cs) right among in
    file_in _ b (all_bytes s folder cs host x plain known at.0
    ∙ stands_last x b (vendored_files cs) (bytes_in (host.stands (join folder x))) (λ other h. agree s cs x other b (right_at s cs x other (vendored_files cs) right h).1 at.1) among)

pub holds_no_other : (s : Stock) (folder : List ℕ) (cs : List CheckedCrate) (host : Host) → StandsPlain host.stands → AreKnown s cs → IsBare host folder
    → HoldsNoOther (after (all_made folder cs) host) folder (vendored_files cs)
holds_no_other s folder cs host plain known bare = λ x b inner is.
    let nothing : bytes_in (host.stands (join folder x)) ≡ None = ap bytes_in (bare x inner) in
    let whole : last_in (vendored_files cs) x None ≡ Some b =
    ap (last_in (vendored_files cs) x) (sym nothing) ∙ sym (all_bytes s folder cs host x plain known inner) ∙ ap bytes_in is in
    none_case b (found (vendored_files cs) x b None whole)

-- ---- bytes

crates_size : (folder : List ℕ) (cs : List CheckedCrate) → builders.size_of (map (crate_made folder) cs) ≡ size_of (map crate_entry cs)
crates_size folder [] = refl
crates_size folder (c ∷ cs) = ap (λ n. length c.bytes + n) (crates_size folder cs)

path_size : (folder q : List ℕ) (cs : List CheckedCrate) → builders.size_of (path_made folder q cs) ≡ size_of (path_files q cs)
path_size folder q [] = refl
path_size folder q (c ∷ cs) =
    ap (λ n. length (json_lines (map (λ (d : CheckedCrate). d.version) (c ∷ cs))) + n) (crates_size folder (c ∷ cs))

files_append : (es fs : Files) → size_of (es ++ fs) ≡ size_of es + size_of fs
files_append [] fs = sym (zero-add (size_of fs))
files_append (e ∷ es) fs = ap (λ n. length e.1 + n) (files_append es fs) ∙ sym (add_assoc (length e.1) (size_of es) (size_of fs))

paths_size : (folder : List ℕ) (all : List CheckedCrate) (qs : List (List ℕ)) → builders.size_of (paths_made folder all qs) ≡ size_of (flat_map (λ q. path_files q (on q all)) qs)
paths_size folder all [] = refl
paths_size folder all (q ∷ qs) =
    size_append (path_made folder q (on q all)) (paths_made folder all qs)
    ∙ ap (λ n. n + builders.size_of (paths_made folder all qs)) (path_size folder q (on q all))
    ∙ ap (λ n. size_of (path_files q (on q all)) + n) (paths_size folder all qs)
    ∙ sym (files_append (path_files q (on q all)) (flat_map (λ q. path_files q (on q all)) qs))

pub all_size : (folder : List ℕ) (cs : List CheckedCrate) → builders.size_of (all_made folder cs) ≡ size_of (vendored_files cs)
all_size folder cs = paths_size folder cs (paths_of cs)
