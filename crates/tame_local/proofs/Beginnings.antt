-- A registry that a builder begins is empty.
use Rattle.std.proofs.Common.{◌≡◌, ◌≢◌, ◌⊎◌, ℕ, ◌+◌, List, [], ◌∷◌, ◌++◌, length, codes, Bool, true, false, cond, None, Ok, refl, sym, ap, ◌∙◌, arith, inl, inr, subst}
use Rattle.std.proofs.lemmas.List.{length-append}
use Rattle.tame_names.proofs.Placed.{folder_there}
use Rattle.tame_names.specs.Changes.{entry_of, is_nothing, with_folder_at, with_folders_at, with_standing}
use Rattle.tame_names.specs.Paths.{is_same, ways_to}
use Rattle.tame_names.specs.Standing.{Standing, Nothing, File, Folder, Other}
use Rattle.tame_names.specs.declared.host.Listed.{Listed}
use Rattle.tame_local.proofs.Agreeing.{here}
use Rattle.tame_local.proofs.RegistryPaths.{joined}
use Rattle.tame_local.proofs.Standings.{Gains, folder_grows, index_ways, new_stands, nothing_stays, plain_kept, ways_append}
use Rattle.tame_local.specs.Builders.{free_at}
use Rattle.tame_local.specs.Inserts.{BeginEmpty, HasNoCrate, StandsPlain}
use Rattle.tame_local.specs.Registries.{crate_file_name, index_of}

-- a folder without crate files
abbrev IsClean : Standing → Type 0
IsClean s = (es : List Listed) × (s ≡ Folder es) × HasNoCrate es

-- or nothing yet
abbrev IsFree : Standing → Type 0
IsFree s = (is_nothing s ≡ true) ⊎ IsClean s

one_more : (es : List Listed) (e : Listed) → HasNoCrate es → crate_file_name e ≡ None → HasNoCrate (es ++ e ∷ [])
one_more [] e none is = (is, tt)
one_more (x ∷ xs) e none is = (none.0, one_more xs e none.1 is)

gained : (es : List Listed) (e : Listed) (s : Standing) → HasNoCrate es → crate_file_name e ≡ None → Gains es e s → IsClean s
gained es e s none is (inl h) = (es, h, none)
gained es e s none is (inr h) = (es ++ e ∷ [], h, one_more es e none is)

clean_case : (t : Bool) (w r : List ℕ) (stands : List ℕ → Standing) → is_same w r ≡ t → IsClean (stands r) → IsClean (with_standing w (Folder []) stands r)
clean_case true w r stands same clean = ([], new_stands w (Folder []) stands r same, tt)
clean_case false w r stands other clean =
    gained clean.0 (entry_of w (Folder [])) (with_standing w (Folder []) stands r) clean.2 refl (folder_grows w (Folder []) stands r clean.0 other clean.1)

made_clean : (t : Bool) (w r : List ℕ) (stands : List ℕ → Standing) → IsClean (stands r) → IsClean (cond t (with_standing w (Folder []) stands) stands r)
made_clean true w r stands clean = clean_case (is_same w r) w r stands refl clean
made_clean false w r stands clean = clean

free_case : (t : Bool) (w r : List ℕ) (stands : List ℕ → Standing) → is_same w r ≡ t → is_nothing (stands r) ≡ true → IsFree (with_standing w (Folder []) stands r)
free_case true w r stands same none = inr ([], new_stands w (Folder []) stands r same, tt)
free_case false w r stands other none = inl (nothing_stays w (Folder []) stands r other none)

made_free : (t : Bool) (w r : List ℕ) (stands : List ℕ → Standing) → IsFree (stands r) → IsFree (cond t (with_standing w (Folder []) stands) stands r)
made_free true w r stands (inl none) = free_case (is_same w r) w r stands refl none
made_free true w r stands (inr clean) = inr (made_clean true w r stands clean)
made_free false w r stands free = free

folders_free : (ws : List (List ℕ)) (r : List ℕ) (stands : List ℕ → Standing) → IsFree (stands r) → IsFree (with_folders_at ws stands r)
folders_free [] r stands free = free
folders_free (w ∷ ws) r stands free = folders_free ws r (with_folder_at w stands) (made_free (is_nothing (stands w)) w r stands free)

-- a folder is there, once it is created
there : (r : List ℕ) (stands : List ℕ → Standing) → IsFree (stands r) → IsClean (with_folder_at r stands r)
there r stands (inl none) = ([], rw none (here r (Folder []) stands), tt)
there r stands (inr clean) = made_clean (is_nothing (stands r)) r r stands clean

starts_free : (path : List ℕ) (s : Standing) → free_at path s ≡ Ok tt → IsFree s
starts_free path Nothing h = inl refl
starts_free path (File bs) h = cc
starts_free path (Folder []) h = inr ([], refl, tt)
starts_free path (Folder (e ∷ es)) h = cc
starts_free path Other h = cc

made_plain : (t : Bool) (w : List ℕ) (stands : List ℕ → Standing) → StandsPlain stands → StandsPlain (cond t (with_standing w (Folder []) stands) stands)
made_plain true w stands plain = plain_kept w (Folder []) stands plain
made_plain false w stands plain = plain

folders_plain : (ws : List (List ℕ)) (stands : List ℕ → Standing) → StandsPlain stands → StandsPlain (with_folders_at ws stands)
folders_plain [] stands plain = plain
folders_plain (w ∷ ws) stands plain = folders_plain ws (with_folder_at w stands) (made_plain (is_nothing (stands w)) w stands plain)

pub begin_empty : BeginEmpty
begin_empty r host some ends plain free are =
    let index : List ℕ = r ++ 47 ∷ codes "index" in
    let index_is : index_of r ≡ index = joined r (codes "index") some ends refl in
    let front = index_ways r some in
    let ways : ways_to (index_of r) ≡ front.0 ++ r ∷ index ∷ [] = ap ways_to index_is ∙ front.1 in
    let before : List ℕ → Standing = with_folders_at front.0 host.stands in
    let now : with_folders_at (ways_to (index_of r)) host.stands ≡ with_folders_at (r ∷ index ∷ []) before =
    ap (λ ws. with_folders_at ws host.stands) ways ∙ ways_append front.0 (r ∷ index ∷ []) host.stands in
    let made : IsClean (with_folder_at r before r) = there r before (folders_free front.0 r host.stands (starts_free r (host.stands r) free)) in
    let clean : IsClean (with_folders_at (ways_to (index_of r)) host.stands r) =
    subst (λ stands. IsClean (stands r)) (sym now) (made_clean (is_nothing (with_folder_at r before index)) index r (with_folder_at r before) made) in
    let size : length (index_of r) ≡ length r + length (47 ∷ codes "index") = ap length index_is ∙ length-append r (47 ∷ codes "index") in
    let named : index_of r ≢ [] = λ e. (
    let none : length (index_of r) ≡ 0 = ap length e in
    omega (arith, size, none)) in (
      record {
        entries = clean.0;
        folder = clean.1;
        crates = clean.2;
        index = folder_there (index_of r) host.stands (with_folders_at (ways_to (index_of r)) host.stands) are refl named;
      },
      folders_plain (ways_to (index_of r)) host.stands plain,
    )
