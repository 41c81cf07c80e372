-- Paths in a folder.
use Rattle.std.proofs.Common.{◌≡◌, ℕ, ◌+◌, ◌<◌, ◌==◌, List, [], ◌∷◌, ◌++◌, length, drop, codes, bytes_eq, IsUtf8, IsTrue, Bool, true, false, cond, refl, sym, ap, ◌∙◌, arith, subst, lit<}
use Rattle.std.specs.Prelude.{◌||◌, ◌&&◌, None}
use Rattle.std.proofs.Math.Dec.{eqb-suc-zero}
use Rattle.std.proofs.lemmas.Bool.{false≢true}
use Rattle.std.proofs.lemmas.List.{append_assoc, length-append}
use Rattle.std.proofs.lemmas.Slice.Eq.{bytes_eq-Decides}
use Rattle.tame_names.specs.Names.{is_name, prefix, relative_path, separator}
use Rattle.tame_names.specs.Paths.{begins_with_slash, ends_with_slash, is_same, join, plain_path}
use Rattle.tame_names.specs.Pieces.{without_end}
use Rattle.tame_local.specs.CrateFiles.{Lacks, crate_file, ending}
use Rattle.tame_local.specs.Registries.{index_of}
use Rattle.tame_local.proofs.RegistryPaths.{differ, last_behind, lower, lower_lacks, name_lacks, name_long, named_path, no_slash, plain_behind, relative_parts, same_behind}
use Rattle.vendor_registry.specs.Vendored.{IsInner}

-- ---- what comes before each path in a folder

abbrev pub base : List ℕ → List ℕ
base folder = cond (length folder == 0) [] (cond (ends_with_slash folder) folder (folder ++ 47 ∷ []))

join_case : (none front ends : Bool) (folder path : List ℕ) → front ≡ false
    → cond (none || front) path (cond ends (folder ++ path) (folder ++ 47 ∷ path)) ≡ cond none [] (cond ends folder (folder ++ 47 ∷ [])) ++ path
join_case true front ends folder path h = refl
join_case false true ends folder path h = cc
join_case false false true folder path h = refl
join_case false false false folder path h = sym (append_assoc folder (47 ∷ []) path)

pub join_base : (folder path : List ℕ) → begins_with_slash path ≡ false → join folder path ≡ base folder ++ path
join_base folder path h = join_case (length folder == 0) (begins_with_slash path) (ends_with_slash folder) folder path h

-- ---- paths that end with no slash

no_and : (t : Bool) → (t && false) ≡ false
no_and true = refl
no_and false = refl

some_append : (xs ys : List ℕ) → 0 < length ys → (length (xs ++ ys) == 0) ≡ false
some_append [] [] some = absurd (omega (arith, some))
some_append [] (y ∷ ys) some = eqb-suc-zero (length ys)
some_append (x ∷ xs) ys some = eqb-suc-zero (length (xs ++ ys))

pub kept_append : (xs ys : List ℕ) → without_end 47 ys ≡ ys → 0 < length ys → without_end 47 (xs ++ ys) ≡ xs ++ ys
kept_append [] ys h some = h
kept_append (x ∷ xs) ys h some =
    rw (kept_append xs ys h some, some_append xs ys some, no_and (x == 47)) refl

inner_end : (path : List ℕ) → IsInner path → without_end 47 path ≡ path
inner_end [] inner = refl
inner_end (c ∷ cs) inner = rw inner.front inner.plain

pub plain_append : (xs path : List ℕ) → IsInner path → plain_path (xs ++ path) ≡ xs ++ path
plain_append [] path inner = inner.plain
plain_append (x ∷ xs) path inner =
    ap (λ (ys : List ℕ). x ∷ ys) (kept_append xs path (inner_end path inner) inner.some)

-- ---- paths of one folder

front_eq : (b x y : List ℕ) → bytes_eq (b ++ x) (b ++ y) ≡ bytes_eq x y
front_eq b x y = front_case (bytes_eq x y) refl
  where
    front_case : (t : Bool) → bytes_eq x y ≡ t → bytes_eq (b ++ x) (b ++ y) ≡ t
    front_case true h = (bytes_eq-Decides (b ++ x) (b ++ y)).1 (ap (λ (zs : List ℕ). b ++ zs) ((bytes_eq-Decides x y).0 h))
    front_case false h = differ (b ++ x) (b ++ y) (λ e.
        let same : bytes_eq x y ≡ true = (bytes_eq-Decides x y).1 (same_behind b x y e) in
        cc)

-- they are the same path exactly if they are equal
pub same_inner : (folder x y : List ℕ) → IsInner x → IsInner y → is_same (join folder x) (join folder y) ≡ bytes_eq x y
same_inner folder x y inner_x inner_y =
    ap (λ p. bytes_eq (plain_path p) (plain_path (join folder y))) (join_base folder x inner_x.front)
    ∙ ap (λ q. bytes_eq (plain_path (base folder ++ x)) (plain_path q)) (join_base folder y inner_y.front)
    ∙ ap (λ p. bytes_eq p (plain_path (base folder ++ y))) (plain_append (base folder) x inner_x)
    ∙ ap (bytes_eq (base folder ++ x)) (plain_append (base folder) y inner_y)
    ∙ front_eq (base folder) x y

-- ---- the index

base_some : (xs : List ℕ) → (length xs == 0) ≡ false → ends_with_slash xs ≡ false → base xs ≡ xs ++ 47 ∷ []
base_some xs some plain = rw (some, plain) refl

pub in_index : (q : List ℕ) → begins_with_slash q ≡ false → join (codes "index") q ≡ codes "index" ++ 47 ∷ q
in_index q h = rw h refl

-- the file of a path in the index is one in the registry
pub index_join : (folder q : List ℕ) → begins_with_slash q ≡ false → join (index_of folder) q ≡ join folder (join (codes "index") q)
index_join folder q h =
    let index : List ℕ = base folder ++ codes "index" in
    let one : join (index_of folder) q ≡ join index q = ap (λ i. join i q) (join_base folder (codes "index") refl) in
    let two : join index q ≡ base index ++ q = join_base index q h in
    let three : base index ≡ index ++ 47 ∷ [] =
    base_some index (some_append (base folder) (codes "index") (omega arith)) (last_behind (base folder) (codes "index") 4 refl) in
    one ∙ two ∙ ap (λ (b : List ℕ). b ++ q) three ∙ append_assoc index (47 ∷ []) q ∙ append_assoc (base folder) (codes "index") (47 ∷ q)
    ∙ sym (join_base folder (codes "index" ++ 47 ∷ q) refl) ∙ ap (join folder) (sym (in_index q h))

-- ---- the paths of a registry

pub path_front : (name : List ℕ) → IsUtf8 name → IsTrue (is_name name) → begins_with_slash (relative_path (separator None) name) ≡ false
path_front name utf8 named = named_path name utf8 named

lower_some : (cs : List ℕ) → 0 < length cs → 0 < length (lower cs)
lower_some [] some = some
lower_some (c ∷ cs) some = omega arith

pub index_inner : (name : List ℕ) → IsUtf8 name → IsTrue (is_name name) → IsInner (join (codes "index") (relative_path (separator None) name))
index_inner name utf8 named =
    let q : List ℕ = relative_path (separator None) name in
    let folder : List ℕ = codes "index" ++ 47 ∷ lower (prefix (47 ∷ []) name) in
    let last : List ℕ = lower name in
    let whole : join (codes "index") q ≡ folder ++ 47 ∷ last =
    in_index q (named_path name utf8 named) ∙ ap (λ (rel : List ℕ). codes "index" ++ 47 ∷ rel) (relative_parts name)
    ∙ sym (append_assoc (codes "index") (47 ∷ lower (prefix (47 ∷ []) name)) (47 ∷ last)) in
    subst IsInner (sym whole) (record {
      some = omega arith;
      front = refl;
      plain = plain_behind folder last (lower_lacks 47 name (lit< tt) (name_lacks 47 name no_slash utf8 named)) (lower_some name (name_long name named));
    })

slash_front : (name more : List ℕ) → Lacks 47 name → 0 < length name → begins_with_slash (name ++ more) ≡ false
slash_front [] more lacks some = absurd (omega (arith, some))
slash_front (c ∷ cs) more lacks some = lacks.0

crate_plain : (name version : List ℕ) → 0 < length name → plain_path (crate_file name version) ≡ crate_file name version
crate_plain [] version some = absurd (omega (arith, some))
crate_plain (c ∷ cs) version some =
    let front : List ℕ = cs ++ 45 ∷ version in
    let whole : cs ++ 45 ∷ (version ++ ending) ≡ front ++ ending = sym (append_assoc cs (45 ∷ version) ending) in
    ap (λ (ys : List ℕ). c ∷ ys) (ap (without_end 47) whole ∙ kept_append front ending refl (lit< tt) ∙ sym whole)

pub crate_inner : (name version : List ℕ) → IsUtf8 name → IsTrue (is_name name) → IsInner (crate_file name version)
crate_inner name version utf8 named =
    let some : 0 < length name = name_long name named in
    let size : length (crate_file name version) ≡ length name + length (45 ∷ (version ++ ending)) = length-append name (45 ∷ (version ++ ending)) in
    record {
      some = omega (arith, size, some);
      front = slash_front name (45 ∷ (version ++ ending)) (name_lacks 47 name no_slash utf8 named) some;
      plain = crate_plain name version some;
    }

-- ---- a crate file is no index file

-- whether a text begins with a byte
abbrev begins : ℕ → List ℕ → Bool
begins n [] = false
begins n (x ∷ xs) = x == n

parted : (name front xs ys : List ℕ) → Lacks 47 name → Lacks 45 front → name ++ 45 ∷ xs ≡ front ++ 47 ∷ ys → ⊥
parted [] [] xs ys hn hf e = false≢true (ap (begins 47) e)
parted [] (f ∷ fs) xs ys hn hf e = false≢true (sym hf.0 ∙ sym (ap (begins 45) e))
parted (n ∷ ns) [] xs ys hn hf e = false≢true (sym hn.0 ∙ ap (begins 47) e)
parted (n ∷ ns) (f ∷ fs) xs ys hn hf e = parted ns fs xs ys hn.1 hf.1 (ap (drop 1) e)

pub crate_not_index : (name version q : List ℕ) → IsUtf8 name → IsTrue (is_name name) → begins_with_slash q ≡ false → crate_file name version ≡ join (codes "index") q → ⊥
crate_not_index name version q utf8 named h e =
    parted name (codes "index") (version ++ ending) q (name_lacks 47 name no_slash utf8 named) (refl, (refl, (refl, (refl, (refl, tt))))) (e ∙ in_index q h)

pub index_same : (q r : List ℕ) → begins_with_slash q ≡ false → begins_with_slash r ≡ false → join (codes "index") q ≡ join (codes "index") r → q ≡ r
index_same q r hq hr e =
    let whole : codes "index" ++ 47 ∷ q ≡ codes "index" ++ 47 ∷ r = sym (in_index q hq) ∙ e ∙ in_index r hr in
    same_behind (codes "index" ++ 47 ∷ []) q r whole
