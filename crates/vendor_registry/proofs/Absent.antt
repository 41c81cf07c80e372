-- Nothing is at an index file before it is created, if nothing was in the folder.
use Rattle.std.proofs.Common.{◌≡◌, inl, inr, ℕ, suc, ◌+◌, ◌<◌, ◌≤◌, ◌==◌, List, [], ◌∷◌, ◌++◌, length, map, take, drop, codes, bytes_eq, get_or, IsUtf8, IsTrue, Bool, true, false, cond, None, refl, sym, ap, ◌∙◌, subst, arith, append_assoc, append-nil, length-append, lit<}
use Rattle.std.specs.Prelude.{◌||◌, unwrap_or}
use Rattle.std.proofs.lemmas.Bool.{false_from_ne_true, false≢true}
use Rattle.std.specs.Char.{to_ascii_lowercase}
use Rattle.std.proofs.lemmas.Bool.Decides.{nat_tests}
use Rattle.std.proofs.lemmas.List.{take-append-drop}
use Rattle.std.proofs.lemmas.List.Folds.{list_any-append}
use Rattle.std.proofs.lemmas.Slice.Eq.{bytes_eq-Decides}
use Rattle.tame_names.proofs.LastCuts.{without_end-front}
use Rattle.tame_names.specs.Changes.{is_nothing, with_file, with_folders}
use Rattle.tame_names.specs.Names.{is_name, prefix, relative_path, separator}
use Rattle.tame_names.specs.Paths.{begins_with_slash, is_same, join, parent, plain_path, way_to, ways_from, ways_to}
use Rattle.tame_names.specs.Pieces.{without_end}
use Rattle.tame_names.specs.Standing.{Host, File}
use Rattle.tame_records.specs.Written.{json_lines}
use Rattle.tame_local.specs.Builders.{after, after_change, created}
use Rattle.tame_local.specs.CrateFiles.{Lacks, crate_file}
use Rattle.tame_local.specs.Registries.{index_of}
use Rattle.audit_core.specs.Paths.{distinct_after, is_among}
use Rattle.tame_local.proofs.Agreeing.{lower_long, lower_slashless}
use Rattle.vendor_registry.proofs.Exact.{AreKnown, AreOn, on_known}
use Rattle.vendor_registry.proofs.FolderPaths.{base, crate_inner, crate_not_index, in_index, index_inner, index_join, index_same, join_base, path_front, same_inner}
use Rattle.tame_local.proofs.RegistryPaths.{differ, lower, name_long, parent_behind, plain_behind, relative_parts, same_behind}
use Rattle.tame_local.proofs.Standings.{AreElsewhere, folders_nothing, nothing_stays}
use Rattle.vendor_registry.specs.Built.{IsTaken, IsTakenAt, crate_made, path_made}
use Rattle.vendor_registry.specs.Checks.{Stock}
use Rattle.vendor_registry.specs.Vendored.{IsBare, IsInner, on, paths_of}
use Rattle.vendor_registry.specs.declared.checks.CheckedCrate.{CheckedCrate}

-- ---- texts that begin others

abbrev IsFront : List ℕ → List ℕ → Type 0
IsFront xs ys = (rest : List ℕ) × (ys ≡ xs ++ rest)

front_take : (k : ℕ) (xs : List ℕ) → IsFront (take k xs) xs
front_take k xs = (drop k xs, sym (take-append-drop k xs))

front_end : (xs : List ℕ) → IsFront (without_end 47 xs) xs
front_end xs = subst (λ ys. IsFront ys xs) (without_end-front 47 xs) (front_take (length (without_end 47 xs)) xs)

front_plain : (p : List ℕ) → IsFront (plain_path p) p
front_plain [] = ([], refl)
front_plain (b ∷ bs) = let rest = front_end bs in (rest.0, ap (λ (xs : List ℕ). b ∷ xs) rest.1)

front_both : (xs ys zs : List ℕ) → IsFront xs ys → IsFront ys zs → IsFront xs zs
front_both xs ys zs h k = (h.0 ++ k.0, k.1 ∙ ap (λ (l : List ℕ). l ++ k.0) h.1 ∙ append_assoc xs h.0 k.0)

-- ---- a path that is the start of none of the ways to a folder

way_apart : (w path p : List ℕ) → plain_path p ≡ p → IsFront w path → (IsFront p path → ⊥) → is_same w p ≡ false
way_apart w path p plain front none = false_from_ne_true _ (λ same.
    let e : plain_path w ≡ p = (bytes_eq-Decides (plain_path w) (plain_path p)).0 same ∙ plain in
    none (front_both p w path (subst (λ (x : List ℕ). IsFront x w) e (front_plain w)) front))

root_apart : (p : List ℕ) → plain_path p ≡ p → 1 < length p → is_same (codes "/") p ≡ false
root_apart p plain long = false_from_ne_true _ (λ same.
    let e : codes "/" ≡ p = (bytes_eq-Decides (codes "/") (plain_path p)).0 same ∙ plain in
    let size : 1 ≡ length p = ap length e in
    omega (arith, size, long))

to_apart : (at : ℕ) (path p : List ℕ) → plain_path p ≡ p → 1 < length p → (IsFront p path → ⊥) → is_same (way_to at path) p ≡ false
to_apart at path p plain long none = way_case (at == 0)
  where
    way_case : (t : Bool) → is_same (cond t (codes "/") (take at path)) p ≡ false
    way_case true = root_apart p plain long
    way_case false = way_apart (take at path) path p plain (front_take at path) none

ways_apart : (at : ℕ) (path rest p : List ℕ) → plain_path p ≡ p → 1 < length p → (IsFront p path → ⊥) → AreElsewhere (ways_from at path rest) p
ways_apart at path [] p plain long none = whole_case (length path == 0)
  where
    whole_case : (t : Bool) → AreElsewhere (cond t [] (path ∷ [])) p
    whole_case true = tt
    whole_case false = (way_apart path path p plain ([], sym (append-nil path)) none, tt)
ways_apart at path (c ∷ cs) p plain long none = way_case (c == 47) (ways_apart (suc at) path cs p plain long none)
  where
    way_case : (t : Bool) → AreElsewhere (ways_from (suc at) path cs) p → AreElsewhere (cond t (way_to at path ∷ ways_from (suc at) path cs) (ways_from (suc at) path cs)) p
    way_case true more = (to_apart at path p plain long none, more)
    way_case false more = more

-- ---- the path of a name is the start of no folder of another

abbrev folder_of : List ℕ → List ℕ
folder_of name = lower (prefix (47 ∷ []) name)

not_short : (n : ℕ) → ((suc (suc (suc (suc n))) == 1) ≡ false) × ((suc (suc (suc (suc n))) == 2) ≡ false) × ((suc (suc (suc (suc n))) == 3) ≡ false)
not_short n = (grind (arith, nat_tests), grind (arith, nat_tests), grind (arith, nat_tests))

long_prefix : (a b c d : ℕ) (more : List ℕ) → prefix (47 ∷ []) (a ∷ b ∷ c ∷ d ∷ more) ≡ a ∷ b ∷ 47 ∷ c ∷ d ∷ []
long_prefix a b c d more = let short = not_short (length more) in rw (short.0, short.1, short.2) refl

short_folder : (name : List ℕ) → length (folder_of name) ≤ 5
short_folder [] = omega arith
short_folder (a ∷ []) = omega arith
short_folder (a ∷ b ∷ []) = omega arith
short_folder (a ∷ b ∷ c ∷ []) = omega arith
short_folder (a ∷ b ∷ c ∷ d ∷ more) =
    let size : length (folder_of (a ∷ b ∷ c ∷ d ∷ more)) ≡ 5 = ap (λ (p : List ℕ). length (lower p)) (long_prefix a b c d more) in
    omega (arith, size)

-- a folder of names doesn't begin with a digit and a slash, except that of three letters
begins_other : (digit : ℕ) (name ys : List ℕ) → digit < 51 → Lacks 47 (lower name) → folder_of name ≡ digit ∷ 47 ∷ ys → ⊥
begins_other digit [] ys low lacks e = cc
begins_other digit (a ∷ []) ys low lacks e = cc
begins_other digit (a ∷ b ∷ []) ys low lacks e = cc
begins_other digit (a ∷ b ∷ c ∷ []) ys low lacks e =
    let same : 51 ≡ digit = ap (λ (xs : List ℕ). get_or xs 0 0) e in
    omega (arith, same, low)
begins_other digit (a ∷ b ∷ c ∷ d ∷ more) ys low lacks e =
    let whole : lower (a ∷ b ∷ 47 ∷ c ∷ d ∷ []) ≡ digit ∷ 47 ∷ ys = ap lower (sym (long_prefix a b c d more)) ∙ e in
    let same : to_ascii_lowercase b ≡ 47 = ap (λ (xs : List ℕ). get_or xs 1 0) whole in
    false≢true (sym lacks.1.0 ∙ ap (λ (n : ℕ). n == 47) same)

no_folder : (name other rest : List ℕ) → 0 < length name → Lacks 47 (lower other) → folder_of other ≡ (folder_of name ++ 47 ∷ lower name) ++ rest → ⊥
no_folder [] other rest some lacks e = absurd (omega (arith, some))
no_folder (a ∷ []) other rest some lacks e = begins_other 49 other (lower (a ∷ []) ++ rest) (lit< tt) lacks e
no_folder (a ∷ b ∷ []) other rest some lacks e = begins_other 50 other (lower (a ∷ b ∷ []) ++ rest) (lit< tt) lacks e
no_folder (a ∷ b ∷ c ∷ []) other rest some lacks e =
    let size : length (folder_of other) ≡ length ((folder_of (a ∷ b ∷ c ∷ []) ++ 47 ∷ lower (a ∷ b ∷ c ∷ [])) ++ rest) = ap length e in
    omega (arith, size, short_folder other)
no_folder (a ∷ b ∷ c ∷ d ∷ more) other rest some lacks e =
    let name : List ℕ = a ∷ b ∷ c ∷ d ∷ more in
    let file : List ℕ = folder_of name ++ 47 ∷ lower name in
    let size : length (folder_of other) ≡ length (file ++ rest) = ap length e in
    let whole : length (file ++ rest) ≡ length file + length rest = length-append file rest in
    let parts : length file ≡ length (folder_of name) + length (47 ∷ lower name) = length-append (folder_of name) (47 ∷ lower name) in
    let folder : length (folder_of name) ≡ 5 = ap (λ (p : List ℕ). length (lower p)) (long_prefix a b c d more) in
    omega (arith, size, whole, parts, folder, short_folder other)

-- ---- the index file of a name

abbrev pub IsNamed : List ℕ → Type 0
IsNamed q = (name : List ℕ) × IsUtf8 name × IsTrue (is_name name) × (relative_path (separator None) name ≡ q)

front_is : (q : List ℕ) → IsNamed q → begins_with_slash q ≡ false
front_is q n = subst (λ p. begins_with_slash p ≡ false) n.3 (path_front n.0 n.1 n.2)

inner_is : (q : List ℕ) → IsNamed q → IsInner (join (codes "index") q)
inner_is q n = subst (λ p. IsInner (join (codes "index") p)) n.3 (index_inner n.0 n.1 n.2)

abbrev folder_path : List ℕ → List ℕ → List ℕ
folder_path to name = base to ++ (codes "index" ++ 47 ∷ folder_of name)

abbrev file_path : List ℕ → List ℕ → List ℕ
file_path to name = folder_path to name ++ 47 ∷ lower name

file_is : (to q : List ℕ) (n : IsNamed q) → join (index_of to) q ≡ file_path to n.0
file_is to q n =
    index_join to q (front_is q n) ∙ join_base to (join (codes "index") q) (inner_is q n).front
    ∙ ap (λ (x : List ℕ). base to ++ x) (in_index q (front_is q n))
    ∙ ap (λ (r : List ℕ). base to ++ (codes "index" ++ 47 ∷ r)) (sym n.3 ∙ relative_parts n.0)
    ∙ sym (append_assoc (base to) (codes "index" ++ 47 ∷ folder_of n.0) (47 ∷ lower n.0))

file_plain : (to name : List ℕ) → IsUtf8 name → IsTrue (is_name name) → plain_path (file_path to name) ≡ file_path to name
file_plain to name utf8 named =
    plain_behind (folder_path to name) (lower name) (lower_slashless name utf8 named) (lower_long name (name_long name named))

file_size : (to name : List ℕ) → length (base to) + 6 < length (file_path to name)
file_size to name =
    let whole : length (file_path to name) ≡ length (folder_path to name) + length (47 ∷ lower name) = length-append (folder_path to name) (47 ∷ lower name) in
    let folder : length (folder_path to name) ≡ length (base to) + length (codes "index" ++ 47 ∷ folder_of name) = length-append (base to) (codes "index" ++ 47 ∷ folder_of name) in
    omega (arith, whole, folder)

ways_to_folder : (to name other : List ℕ) → IsUtf8 name → IsTrue (is_name name) → IsUtf8 other → IsTrue (is_name other)
    → AreElsewhere (ways_to (folder_path to other)) (file_path to name)
ways_to_folder to name other utf8 named utf8_other named_other =
    let front : List ℕ = codes "index" ++ 47 ∷ folder_of name in
    ways_apart 0 (folder_path to other) (folder_path to other) (file_path to name) (file_plain to name utf8 named) (omega (arith, file_size to name))
    (λ h.
    let rest : List ℕ = h.0 in
    let whole : folder_path to other ≡ base to ++ (front ++ 47 ∷ (lower name ++ rest)) =
    h.1 ∙ append_assoc (folder_path to name) (47 ∷ lower name) rest ∙ append_assoc (base to) front (47 ∷ (lower name ++ rest)) in
    let behind : folder_of other ≡ folder_of name ++ 47 ∷ (lower name ++ rest) =
    ap (drop 6) (same_behind (base to) (codes "index" ++ 47 ∷ folder_of other) (front ++ 47 ∷ (lower name ++ rest)) whole) in
    no_folder name other rest (name_long name named) (lower_slashless other utf8_other named_other) (behind ∙ sym (append_assoc (folder_of name) (47 ∷ lower name) rest)))

ways_to_index : (to name : List ℕ) → IsUtf8 name → IsTrue (is_name name) → AreElsewhere (ways_to (base to ++ codes "index")) (file_path to name)
ways_to_index to name utf8 named =
    let index : List ℕ = base to ++ codes "index" in
    ways_apart 0 index index (file_path to name) (file_plain to name utf8 named) (omega (arith, file_size to name))
    (λ h.
    let size : length index ≡ length (base to) + 5 = length-append (base to) (codes "index") in
    let same : length index ≡ length (file_path to name ++ h.0) = ap length h.1 in
    let whole : length (file_path to name ++ h.0) ≡ length (file_path to name) + length h.0 = length-append (file_path to name) h.0 in
    omega (arith, size, same, whole, file_size to name))

-- ---- the changes of another path

crates_keep : (s : Stock) (to p q : List ℕ) (cs : List CheckedCrate) (host : Host) → IsNamed q → AreOn s p cs → is_nothing (host.stands (join (index_of to) q)) ≡ true
    → is_nothing ((after (map (crate_made to) cs) host).stands (join (index_of to) q)) ≡ true
crates_keep s to p q [] host n are none = none
crates_keep s to p q (c ∷ cs) host n are none =
    let name : List ℕ = c.version.name in
    let file : List ℕ = crate_file name c.version.version in
    let inner : List ℕ = join (codes "index") q in
    let other : is_same (join to file) (join (index_of to) q) ≡ false =
    ap (is_same (join to file)) (index_join to q (front_is q n))
    ∙ same_inner to file inner (crate_inner name c.version.version are.0.utf8 are.0.named) (inner_is q n)
    ∙ differ file inner (λ e. crate_not_index name c.version.version q are.0.utf8 are.0.named (front_is q n) e) in
    crates_keep s to p q cs (with_file (join to file) c.bytes host) n are.2 (nothing_stays (join to file) (File c.bytes) host.stands (join (index_of to) q) other none)

path_keeps : (s : Stock) (to p q : List ℕ) (cs : List CheckedCrate) (host : Host) → IsNamed q → AreOn s p cs → bytes_eq p q ≡ false
    → is_nothing (host.stands (join (index_of to) q)) ≡ true → is_nothing ((after (path_made to p cs) host).stands (join (index_of to) q)) ≡ true
path_keeps s to p q [] host n are apart none = none
path_keeps s to p q (c ∷ cs) host n are apart none =
    let m : IsNamed p = (c.version.name, are.0.utf8, are.0.named, are.0.path_is ∙ are.1) in
    let file : List ℕ = join (index_of to) p in
    let other : List ℕ = join (index_of to) q in
    let lines : List ℕ = json_lines (map (λ (d : CheckedCrate). d.version) (c ∷ cs)) in
    let folder : List ℕ = folder_path to m.0 in
    let long : length (base to) + 6 < length (file_path to m.0) = file_size to m.0 in
    let size : length (folder_path to m.0) ≡ length (base to) + length (codes "index" ++ 47 ∷ folder_of m.0) = length-append (base to) (codes "index" ++ 47 ∷ folder_of m.0) in
    let in_folder : unwrap_or (parent file) [] ≡ folder =
    ap (λ x. unwrap_or (parent x) []) (file_is to p m)
    ∙ ap (λ o. unwrap_or o []) (parent_behind folder (lower m.0) (omega (arith, size)) (lower_slashless m.0 m.1 m.2) (lower_long m.0 (name_long m.0 m.2))) in
    let elsewhere : AreElsewhere (ways_to (unwrap_or (parent file) [])) other =
    subst (λ x. AreElsewhere (ways_to x) other) (sym in_folder)
    (subst (AreElsewhere (ways_to folder)) (sym (file_is to q n)) (ways_to_folder to n.0 m.0 n.1 n.2 m.1 m.2)) in
    let made : Host = with_folders (ways_to (unwrap_or (parent file) [])) host in
    let still : is_nothing (made.stands other) ≡ true = folders_nothing (ways_to (unwrap_or (parent file) [])) host.stands other elsewhere none in
    let differs : is_same file other ≡ false =
    ap (λ x. is_same x other) (index_join to p (front_is p m)) ∙ ap (is_same (join to (join (codes "index") p))) (index_join to q (front_is q n))
    ∙ same_inner to (join (codes "index") p) (join (codes "index") q) (inner_is p m) (inner_is q n)
    ∙ differ (join (codes "index") p) (join (codes "index") q) (λ e.
    let same : bytes_eq p q ≡ true = (bytes_eq-Decides p q).1 (index_same p q (front_is p m) (front_is q n) e) in
    cc) in
    crates_keep s to p q (c ∷ cs) (with_file file lines made) n are (nothing_stays file (File lines) made.stands other differs still)

-- ---- paths that are left

abbrev AreAbsent : List ℕ → List (List ℕ) → Host → Type 0
AreAbsent to [] host = Unit {0}
AreAbsent to (q ∷ qs) host = (is_nothing (host.stands (join (index_of to) q)) ≡ true) × AreAbsent to qs host

abbrev AreNamed : List (List ℕ) → Type 0
AreNamed [] = Unit {0}
AreNamed (q ∷ qs) = IsNamed q × AreNamed qs

abbrev DifferFrom : List ℕ → List (List ℕ) → Type 0
DifferFrom p [] = Unit {0}
DifferFrom p (q ∷ qs) = (bytes_eq p q ≡ false) × DifferFrom p qs

abbrev AreApart : List (List ℕ) → Type 0
AreApart [] = Unit {0}
AreApart (q ∷ qs) = DifferFrom q qs × AreApart qs

all_keep : (s : Stock) (to p : List ℕ) (cs : List CheckedCrate) (qs : List (List ℕ)) (host : Host) → AreOn s p cs → AreNamed qs → DifferFrom p qs → AreAbsent to qs host
    → AreAbsent to qs (after (path_made to p cs) host)
all_keep s to p cs [] host are named apart absent = tt
all_keep s to p cs (q ∷ qs) host are named apart absent =
    (path_keeps s to p q cs host named.0 are apart.0 absent.0, all_keep s to p cs qs host are named.1 apart.1 absent.1)

not_both : (t : Bool) → t ≡ true → t ≡ false → ⊥
not_both true h k = cc
not_both false h k = cc

taken_there : (to q : List ℕ) (cs : List CheckedCrate) (host : Host) → IsTakenAt to q cs host → is_nothing (host.stands (join (index_of to) q)) ≡ false
taken_there to q [] host taken = absurd taken
taken_there to q (c ∷ cs) host taken = taken

none_taken : (s : Stock) (to : List ℕ) (all : List CheckedCrate) (qs : List (List ℕ)) (host now : Host) → AreKnown s all → AreNamed qs → AreApart qs → AreAbsent to qs host
    → IsTaken to all qs host now → ⊥
none_taken s to all [] host now known named apart absent taken = taken
none_taken s to all (q ∷ qs) host now known named apart absent (inl some) = not_both _ absent.0 (taken_there to q (on q all) host some.0)
none_taken s to all (q ∷ qs) host now known named apart absent (inr more) =
    none_taken s to all qs (after (path_made to q (on q all)) host) now known named.1 apart.1
    (all_keep s to q (on q all) qs host (on_known s q all known) named.1 apart.0 absent.1) more.1

-- ---- the paths of what was checked

named_case : (t : Bool) (q : List ℕ) (ps qs : List (List ℕ)) → IsNamed q → AreNamed ps → AreNamed qs → AreNamed (cond t ps (q ∷ qs))
named_case true q ps qs n many more = many
named_case false q ps qs n many more = (n, more)

paths_named : (s : Stock) (seen : List (List ℕ)) (cs : List CheckedCrate) → AreKnown s cs → AreNamed (distinct_after seen (map (λ (c : CheckedCrate). c.path) cs))
paths_named s seen [] known = tt
paths_named s seen (c ∷ cs) known =
    named_case (is_among c.path seen) c.path (distinct_after seen (map (λ (d : CheckedCrate). d.path) cs)) (distinct_after (seen ++ c.path ∷ []) (map (λ (d : CheckedCrate). d.path) cs))
    (c.version.name, known.0.utf8, known.0.named, known.0.path_is) (paths_named s seen cs known.1) (paths_named s (seen ++ c.path ∷ []) cs known.1)

or_left : (a b : Bool) → (a || b) ≡ false → a ≡ false
or_left true b h = cc
or_left false b h = refl

or_right : (a b : Bool) → (a || b) ≡ false → b ≡ false
or_right true b h = cc
or_right false b h = h

or_none : (b : Bool) → (b || false) ≡ b
or_none true = refl
or_none false = refl

abbrev AreUnseen : List (List ℕ) → List (List ℕ) → Type 0
AreUnseen seen [] = Unit {0}
AreUnseen seen (q ∷ qs) = (is_among q seen ≡ false) × AreUnseen seen qs

among_more : (p q : List ℕ) (seen : List (List ℕ)) → is_among p (seen ++ q ∷ []) ≡ (is_among p seen || bytes_eq q p)
among_more p q seen =
    list_any-append (λ (x : List ℕ). bytes_eq x p) seen (q ∷ []) ∙ ap (λ b. is_among p seen || b) (or_none (bytes_eq q p))

unseen_less : (seen : List (List ℕ)) (q : List ℕ) (ps : List (List ℕ)) → AreUnseen (seen ++ q ∷ []) ps → AreUnseen seen ps
unseen_less seen q [] h = tt
unseen_less seen q (p ∷ ps) h = (or_left (is_among p seen) (bytes_eq q p) (sym (among_more p q seen) ∙ h.0), unseen_less seen q ps h.1)

unseen_differ : (seen : List (List ℕ)) (q : List ℕ) (ps : List (List ℕ)) → AreUnseen (seen ++ q ∷ []) ps → DifferFrom q ps
unseen_differ seen q [] h = tt
unseen_differ seen q (p ∷ ps) h = (or_right (is_among p seen) (bytes_eq q p) (sym (among_more p q seen) ∙ h.0), unseen_differ seen q ps h.1)

apart_case : (t : Bool) (seen : List (List ℕ)) (q : List ℕ) (ps qs : List (List ℕ)) → is_among q seen ≡ t → AreUnseen seen ps × AreApart ps
    → AreUnseen (seen ++ q ∷ []) qs × AreApart qs → AreUnseen seen (cond t ps (q ∷ qs)) × AreApart (cond t ps (q ∷ qs))
apart_case true seen q ps qs is many more = many
apart_case false seen q ps qs is many more =
    ((is, unseen_less seen q qs more.0), (unseen_differ seen q qs more.0, more.1))

paths_apart : (seen qs : List (List ℕ)) → AreUnseen seen (distinct_after seen qs) × AreApart (distinct_after seen qs)
paths_apart seen [] = (tt, tt)
paths_apart seen (q ∷ qs) =
    apart_case (is_among q seen) seen q (distinct_after seen qs) (distinct_after (seen ++ q ∷ []) qs) refl (paths_apart seen qs) (paths_apart (seen ++ q ∷ []) qs)

-- ---- a folder in which nothing was

bare_absent : (to : List ℕ) (qs : List (List ℕ)) (host : Host) → IsBare host to → AreNamed qs → AreAbsent to qs (after_change (created to) host)
bare_absent to [] host bare named = tt
bare_absent to (q ∷ qs) host bare named =
    let n : IsNamed q = named.0 in
    let path : List ℕ = join (index_of to) q in
    let none : is_nothing (host.stands path) ≡ true =
    ap (λ x. is_nothing (host.stands x)) (index_join to q (front_is q n)) ∙ ap is_nothing (bare (join (codes "index") q) (inner_is q n)) in
    let elsewhere : AreElsewhere (ways_to (index_of to)) path =
    subst (λ x. AreElsewhere (ways_to x) path) (sym (join_base to (codes "index") refl))
    (subst (AreElsewhere (ways_to (base to ++ codes "index"))) (sym (file_is to q n)) (ways_to_index to n.0 n.1 n.2)) in
    (folders_nothing (ways_to (index_of to)) host.stands path elsewhere none, bare_absent to qs host bare named.1)

pub never_taken : (s : Stock) (to : List ℕ) (cs : List CheckedCrate) (host now : Host) → AreKnown s cs → IsBare host to → IsTaken to cs (paths_of cs) (after_change (created to) host) now → ⊥
never_taken s to cs host now known bare taken =
    none_taken s to cs (paths_of cs) (after_change (created to) host) now known (paths_named s [] cs known) (paths_apart [] (map (λ (c : CheckedCrate). c.path) cs)).1
    (bare_absent to (paths_of cs) host bare (paths_named s [] cs known)) taken
