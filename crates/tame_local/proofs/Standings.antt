-- What a change leaves at the other paths.
use Rattle.std.proofs.Common.{◌≡◌, ◌⊎◌, ℕ, suc, ◌+◌, ◌<◌, ◌≤◌, ◌==◌, List, [], ◌∷◌, ◌++◌, length, take, codes, bytes_eq, Bool, true, false, cond, Option, Some, None, refl, ap, ◌∙◌, arith, inl, inr}
use Rattle.std.proofs.Math.Seq.{take-append_seam}
use Rattle.std.proofs.Math.Dec.{eqb-suc-zero}
use Rattle.std.proofs.lemmas.Bool.{false_from_ne_true}
use Rattle.std.proofs.lemmas.List.{length-take}
use Rattle.std.proofs.lemmas.Slice.Eq.{bytes_eq-Decides}
use Rattle.tame_names.proofs.LastCuts.{without_end-within}
use Rattle.tame_names.specs.Changes.{entry_of, is_folder, is_nothing, is_path_of, with_entry, with_folder_at, with_folders_at, with_standing}
use Rattle.tame_names.specs.Paths.{is_same, parent, plain_path, way_to, ways_from, ways_to}
use Rattle.tame_names.specs.Standing.{Standing, Nothing, File, Folder, Other}
use Rattle.tame_names.specs.declared.host.Listed.{Listed}
use Rattle.tame_local.specs.Inserts.{StandsPlain}

-- what is at a path by what was there
abbrev by_case : (same nothing within : Bool) → Standing → Listed → Standing → Standing
by_case same nothing within new e s = cond same new (cond nothing (cond within (with_entry e s) s) s)

file_case : (nothing within : Bool) (new : Standing) (e : Listed) (s : Standing) (bs : List ℕ) → s ≡ File bs → cond nothing (cond within (with_entry e s) s) s ≡ File bs
file_case true true new e s bs h = ap (with_entry e) h
file_case true false new e s bs h = h
file_case false within new e s bs h = h

-- a file stays at another path
pub file_stays : (path : List ℕ) (new : Standing) (stands : List ℕ → Standing) (q bs : List ℕ) → is_same path q ≡ false → stands q ≡ File bs
    → with_standing path new stands q ≡ File bs
file_stays path new stands q bs other is =
    rw other (file_case (is_nothing (stands path)) (is_path_of (parent path) q) new (entry_of path new) (stands q) bs is)

nothing_case : (nothing within : Bool) (e : Listed) (s : Standing) → is_nothing s ≡ true → is_nothing (cond nothing (cond within (with_entry e s) s) s) ≡ true
nothing_case true true e Nothing h = refl
nothing_case true true e (File bs) h = cc
nothing_case true true e (Folder es) h = cc
nothing_case true true e Other h = cc
nothing_case true false e s h = h
nothing_case false within e s h = h

pub nothing_stays : (path : List ℕ) (new : Standing) (stands : List ℕ → Standing) (q : List ℕ) → is_same path q ≡ false → is_nothing (stands q) ≡ true
    → is_nothing (with_standing path new stands q) ≡ true
nothing_stays path new stands q other is =
    rw other (nothing_case (is_nothing (stands path)) (is_path_of (parent path) q) (entry_of path new) (stands q) is)

-- a folder has its entries and also this one, or not
abbrev pub Gains : List Listed → Listed → Standing → Type 0
Gains es e s = (s ≡ Folder es) ⊎ (s ≡ Folder (es ++ e ∷ []))

folder_case : (nothing within : Bool) (e : Listed) (s : Standing) (es : List Listed) → s ≡ Folder es → Gains es e (cond nothing (cond within (with_entry e s) s) s)
folder_case true true e s es h = inr (ap (with_entry e) h)
folder_case true false e s es h = inl h
folder_case false within e s es h = inl h

pub folder_grows : (path : List ℕ) (new : Standing) (stands : List ℕ → Standing) (q : List ℕ) (es : List Listed) → is_same path q ≡ false → stands q ≡ Folder es
    → Gains es (entry_of path new) (with_standing path new stands q)
folder_grows path new stands q es other is =
    rw other (folder_case (is_nothing (stands path)) (is_path_of (parent path) q) (entry_of path new) (stands q) es is)

kept_case : (nothing within : Bool) (e : Listed) (s : Standing) → is_folder s ≡ true → is_folder (cond nothing (cond within (with_entry e s) s) s) ≡ true
kept_case true true e Nothing h = cc
kept_case true true e (File bs) h = cc
kept_case true true e (Folder es) h = refl
kept_case true true e Other h = cc
kept_case true false e s h = h
kept_case false within e s h = h

pub folder_stays : (path : List ℕ) (new : Standing) (stands : List ℕ → Standing) (q : List ℕ) → is_same path q ≡ false → is_folder (stands q) ≡ true
    → is_folder (with_standing path new stands q) ≡ true
folder_stays path new stands q other is =
    rw other (kept_case (is_nothing (stands path)) (is_path_of (parent path) q) (entry_of path new) (stands q) is)

pub new_stands : (path : List ℕ) (new : Standing) (stands : List ℕ → Standing) (q : List ℕ) → is_same path q ≡ true → with_standing path new stands q ≡ new
new_stands path new stands q same = rw same refl

-- ---- paths that are the same

path_of_same : (o : Option (List ℕ)) (p q : List ℕ) → plain_path p ≡ plain_path q → is_path_of o p ≡ is_path_of o q
path_of_same None p q e = refl
path_of_same (Some folder) p q e = ap (bytes_eq (plain_path folder)) e

pub plain_kept : (path : List ℕ) (new : Standing) (stands : List ℕ → Standing) → StandsPlain stands → StandsPlain (with_standing path new stands)
plain_kept path new stands plain p q same =
    let e : plain_path p ≡ plain_path q = (bytes_eq-Decides (plain_path p) (plain_path q)).0 same in
    ap (λ b. by_case b (is_nothing (stands path)) (is_path_of (parent path) p) new (entry_of path new) (stands p)) (ap (bytes_eq (plain_path path)) e)
    ∙ ap (λ b. by_case (is_same path q) (is_nothing (stands path)) b new (entry_of path new) (stands p)) (path_of_same (parent path) p q e)
    ∙ ap (λ s. by_case (is_same path q) (is_nothing (stands path)) (is_path_of (parent path) q) new (entry_of path new) s) (plain p q same)

-- if nothing is at a path, a path with something is another one
pub elsewhere : (path : List ℕ) (stands : List ℕ → Standing) (q : List ℕ) → StandsPlain stands → is_nothing (stands path) ≡ true → is_nothing (stands q) ≡ false
    → is_same path q ≡ false
elsewhere path stands q plain none some = false_from_ne_true _ (λ same.
    let e : is_nothing (stands path) ≡ is_nothing (stands q) = ap is_nothing (plain path q same) in
    cc)

-- ---- folders that are created

abbrev pub AreElsewhere : List (List ℕ) → List ℕ → Type 0
AreElsewhere [] p = Unit {0}
AreElsewhere (w ∷ ws) p = (is_same w p ≡ false) × AreElsewhere ws p

made_nothing : (t : Bool) (w : List ℕ) (stands : List ℕ → Standing) (p : List ℕ) → is_same w p ≡ false → is_nothing (stands p) ≡ true
    → is_nothing (cond t (with_standing w (Folder []) stands) stands p) ≡ true
made_nothing true w stands p other none = nothing_stays w (Folder []) stands p other none
made_nothing false w stands p other none = none

pub folders_nothing : (ws : List (List ℕ)) (stands : List ℕ → Standing) (p : List ℕ) → AreElsewhere ws p → is_nothing (stands p) ≡ true
    → is_nothing (with_folders_at ws stands p) ≡ true
folders_nothing [] stands p all none = none
folders_nothing (w ∷ ws) stands p all none =
    folders_nothing ws (with_folder_at w stands) p all.1 (made_nothing (is_nothing (stands w)) w stands p all.0 none)

-- ---- the ways to a folder are no longer than it

short_way : (at : ℕ) (path : List ℕ) → 0 < length path → length (way_to at path) ≤ length path
short_way at path some = way_case (at == 0)
  where
    way_case : (t : Bool) → length (cond t (codes "/") (take at path)) ≤ length path
    way_case true = omega (arith, some)
    way_case false = omega (arith, length-take at path)

pub plain_short : (p : List ℕ) → length (plain_path p) ≤ length p
plain_short [] = omega arith
plain_short (b ∷ bs) = omega (arith, without_end-within 47 bs)

short_apart : (w p : List ℕ) → length w < length p → plain_path p ≡ p → is_same w p ≡ false
short_apart w p short plain = false_from_ne_true _ (λ same.
    let e : plain_path w ≡ p = (bytes_eq-Decides (plain_path w) (plain_path p)).0 same ∙ plain in
    let size : length (plain_path w) ≡ length p = ap length e in
    omega (arith, size, short, plain_short w))

pub ways_elsewhere : (at : ℕ) (path rest p : List ℕ) → 0 < length path → length path < length p → plain_path p ≡ p → AreElsewhere (ways_from at path rest) p
ways_elsewhere at [] [] p some short plain = tt
ways_elsewhere at (b ∷ bs) [] p some short plain = rw (eqb-suc-zero (length bs)) (short_apart (b ∷ bs) p short plain, tt)
ways_elsewhere at path (c ∷ cs) p some short plain = way_case (c == 47) (ways_elsewhere (suc at) path cs p some short plain)
  where
    way_case : (t : Bool) → AreElsewhere (ways_from (suc at) path cs) p → AreElsewhere (cond t (way_to at path ∷ ways_from (suc at) path cs) (ways_from (suc at) path cs)) p
    way_case true rest = (short_apart (way_to at path) p (omega (arith, short, short_way at path some)) plain, rest)
    way_case false rest = rest

-- ---- the ways to a folder below another

ways_behind : (at : ℕ) (path xs rest : List ℕ) → (front : List (List ℕ)) × (ways_from at path (xs ++ rest) ≡ front ++ ways_from (at + length xs) path rest)
ways_behind at path [] rest =
    let same : at ≡ at + 0 = omega arith in
    ([], ap (λ n. ways_from n path rest) same)
ways_behind at path (x ∷ xs) rest =
    let more = ways_behind (suc at) path xs rest in
    let same : suc at + length xs ≡ at + length (x ∷ xs) = omega arith in
    way_case (x == 47) more.0 (more.1 ∙ ap (λ n. more.0 ++ ways_from n path rest) same)
  where
    way_case : (t : Bool) (front : List (List ℕ)) {ways left : List (List ℕ)} → ways ≡ front ++ left
        → (all : List (List ℕ)) × (cond t (way_to at path ∷ ways) ways ≡ all ++ left)
    way_case true front h = (way_to at path ∷ front, ap (λ (ws : List (List ℕ)). way_to at path ∷ ws) h)
    way_case false front h = (front, h)

-- the last two ways to the index of a registry are the registry and the index
pub index_ways : (r : List ℕ) → 0 < length r
    → (front : List (List ℕ)) × (ways_to (r ++ 47 ∷ codes "index") ≡ front ++ r ∷ (r ++ 47 ∷ codes "index") ∷ [])
index_ways r some =
    let path : List ℕ = r ++ 47 ∷ codes "index" in
    let front = ways_behind 0 path r (47 ∷ codes "index") in
    let zero_more : 0 + length r ≡ length r = omega arith in
    (front.0, front.1 ∙ ap (λ n. front.0 ++ ways_from n path (47 ∷ codes "index")) zero_more ∙ ap (λ (ws : List (List ℕ)). front.0 ++ ws) (behind r some))
  where
    behind : (r : List ℕ) → 0 < length r → ways_from (length r) (r ++ 47 ∷ codes "index") (47 ∷ codes "index") ≡ r ∷ (r ++ 47 ∷ codes "index") ∷ []
    behind [] some = absurd (omega (arith, some))
    behind (b ∷ bs) some = rw (eqb-suc-zero (length bs), eqb-suc-zero (length (bs ++ 47 ∷ codes "index")), take-append_seam (b ∷ bs) (47 ∷ codes "index")) refl

pub ways_append : (ws vs : List (List ℕ)) (stands : List ℕ → Standing) → with_folders_at (ws ++ vs) stands ≡ with_folders_at vs (with_folders_at ws stands)
ways_append [] vs stands = refl
ways_append (w ∷ ws) vs stands = ways_append ws vs (with_folder_at w stands)
