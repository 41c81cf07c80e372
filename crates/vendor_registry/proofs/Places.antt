-- A folder that is named with a slash at its end is the folder without it.
use Rattle.std.proofs.Common.{◌≡◌, ℕ, ◌<◌, ◌==◌, List, [], ◌∷◌, ◌++◌, length, map, codes, true, false, Ok, refl, sym, ap, ◌∙◌, subst, arith}
use Rattle.std.specs.Prelude.{unwrap_or}
use Rattle.std.proofs.Math.Dec.{eqb-suc-zero}
use Rattle.std.proofs.lemmas.Slice.Eq.{bytes_eq-Decides}
use Rattle.tame_names.specs.Changes.{AreFolders}
use Rattle.tame_names.specs.Paths.{begins_with_slash, ends_with_slash, is_same, join, parent, plain_path, ways_to}
use Rattle.tame_names.specs.Pieces.{without_end}
use Rattle.tame_names.specs.Standing.{Host}
use Rattle.tame_names.specs.declared.errors.Error.{Error}
use Rattle.tame_records.specs.Written.{json_lines}
use Rattle.tame_local.specs.Builders.{Makes, Creates, after, after_change, created}
use Rattle.tame_local.specs.CrateFiles.{crate_file}
use Rattle.tame_local.specs.Inserts.{StandsPlain}
use Rattle.tame_local.specs.Refusals as local
use Rattle.tame_local.specs.Registries.{folder_at, index_of, validated}
use Rattle.vendor_registry.proofs.Exact.{AreKnown, AreOn, on_known}
use Rattle.vendor_registry.proofs.FolderPaths.{base, crate_inner, join_base}
use Rattle.tame_local.proofs.RegistryPaths.{last_behind, some_behind}
use Rattle.vendor_registry.specs.Built.{AreFilled, IsFilled, IsReadBack, all_made, crate_made, free_fault, path_made, paths_made}
use Rattle.vendor_registry.specs.Checks.{Stock}
use Rattle.vendor_registry.specs.Named.{IsPlace}
use Rattle.vendor_registry.specs.Vendored.{on, paths_of}
use Rattle.vendor_registry.specs.declared.checks.CheckedCrate.{CheckedCrate}

abbrev slashed : List ℕ → List ℕ
slashed w = w ++ 47 ∷ []

-- ---- the paths in it

pub some_long : (w : List ℕ) → 0 < length w → (length w == 0) ≡ false
some_long [] some = absurd (omega (arith, some))
some_long (b ∷ bs) some = eqb-suc-zero (length bs)

pub base_plain : (w : List ℕ) → (length w == 0) ≡ false → ends_with_slash w ≡ false → base w ≡ w ++ 47 ∷ []
base_plain w some plain = rw (some, plain) refl

base_ends : (w : List ℕ) → (length w == 0) ≡ false → ends_with_slash w ≡ true → base w ≡ w
base_ends w some ends = rw (some, ends) refl

base_same : (w : List ℕ) → IsPlace w → base (slashed w) ≡ base w
base_same w place =
    base_ends (slashed w) (some_behind w [] 47) (last_behind w (47 ∷ []) 0 refl) ∙ sym (base_plain w (some_long w place.0) place.1)

join_same : (w x : List ℕ) → IsPlace w → begins_with_slash x ≡ false → join (slashed w) x ≡ join w x
join_same w x place front =
    join_base (slashed w) x front ∙ ap (λ (b : List ℕ). b ++ x) (base_same w place) ∙ sym (join_base w x front)

index_same : (w : List ℕ) → IsPlace w → index_of (slashed w) ≡ index_of w
index_same w place = join_same w (codes "index") place refl

-- ---- it is the same path

end_slash : (bs : List ℕ) → without_end 47 (bs ++ 47 ∷ []) ≡ without_end 47 bs
end_slash [] = refl
end_slash (b ∷ bs) = rw (end_slash bs) refl

plain_slash : (w : List ℕ) → 0 < length w → plain_path (slashed w) ≡ plain_path w
plain_slash [] some = absurd (omega (arith, some))
plain_slash (b ∷ bs) some = ap (λ (xs : List ℕ). b ∷ xs) (end_slash bs)

slash_same : (w : List ℕ) → 0 < length w → is_same (slashed w) w ≡ true
slash_same w some = (bytes_eq-Decides (plain_path (slashed w)) (plain_path w)).1 (plain_slash w some)

-- ---- the changes in it

crates_same : (s : Stock) (w q : List ℕ) (cs : List CheckedCrate) → IsPlace w → AreOn s q cs → map (crate_made (slashed w)) cs ≡ map (crate_made w) cs
crates_same s w q [] place are = refl
crates_same s w q (c ∷ cs) place are =
    let file : List ℕ = crate_file c.version.name c.version.version in
    ap (λ p. Creates p c.bytes ∷ map (crate_made (slashed w)) cs) (join_same w file place (crate_inner c.version.name c.version.version are.0.utf8 are.0.named).front)
    ∙ ap (λ more. crate_made w c ∷ more) (crates_same s w q cs place are.2)

path_same : (s : Stock) (w q : List ℕ) (cs : List CheckedCrate) → IsPlace w → AreOn s q cs → path_made (slashed w) q cs ≡ path_made w q cs
path_same s w q [] place are = refl
path_same s w q (c ∷ cs) place are =
    let lines : List ℕ = json_lines (map (λ (d : CheckedCrate). d.version) (c ∷ cs)) in
    ap (λ i. Makes (unwrap_or (parent (join i q)) []) ∷ Creates (join i q) lines ∷ map (crate_made (slashed w)) (c ∷ cs)) (index_same w place)
    ∙ ap (λ more. Makes (unwrap_or (parent (join (index_of w) q)) []) ∷ Creates (join (index_of w) q) lines ∷ more) (crates_same s w q (c ∷ cs) place are)

paths_same : (s : Stock) (w : List ℕ) (all : List CheckedCrate) (qs : List (List ℕ)) → IsPlace w → AreKnown s all → paths_made (slashed w) all qs ≡ paths_made w all qs
paths_same s w all [] place known = refl
paths_same s w all (q ∷ qs) place known =
    ap (λ more. more ++ paths_made (slashed w) all qs) (path_same s w q (on q all) place (on_known s q all known))
    ∙ ap (λ more. path_made w q (on q all) ++ more) (paths_same s w all qs place known)

all_same : (s : Stock) (w : List ℕ) (all : List CheckedCrate) → IsPlace w → AreKnown s all → all_made (slashed w) all ≡ all_made w all
all_same s w all place known =
    ap (λ i. Makes i ∷ paths_made (slashed w) all (paths_of all)) (index_same w place) ∙ ap (λ more. created w ∷ more) (paths_same s w all (paths_of all) place known)

filled_here : (w q : List ℕ) (cs : List CheckedCrate) (host : Host) → IsPlace w → IsFilled (slashed w) q cs host → IsFilled w q cs host
filled_here w q [] host place is = tt
filled_here w q (c ∷ cs) host place is = (ap (λ i. host.stands (join i q)) (sym (index_same w place)) ∙ is.0, is.1)

filled_same : (s : Stock) (w : List ℕ) (all : List CheckedCrate) (qs : List (List ℕ)) (host : Host) → IsPlace w → AreKnown s all → AreFilled (slashed w) all qs host → AreFilled w all qs host
filled_same s w all [] host place known are = tt
filled_same s w all (q ∷ qs) host place known are = (
  filled_here w q (on q all) host place are.0,
  filled_same s w all qs (after (path_made w q (on q all)) host) place known
      (subst (λ changes. AreFilled (slashed w) all qs (after changes host)) (path_same s w q (on q all) place (on_known s q all known)) are.1),
)

-- ---- a registry in it

pub read_back_same : (s : Stock) (w : List ℕ) (cs : List CheckedCrate) (before now : Host) (why : Error) → IsPlace w → AreKnown s cs → StandsPlain before.stands
    → IsReadBack (slashed w) cs before now why → IsReadBack w cs before now why
read_back_same s w cs before now why place known plain back =
    let index = index_same w place in
    record {
      free = ap free_fault (sym (plain (slashed w) w (slash_same w place.0))) ∙ back.free;
      possible = subst (λ i. AreFolders (ways_to i) before.stands) index back.possible;
      filled = λ pathed.
          filled_same s w cs (paths_of cs) (after_change (created w) before) place known
          (subst (λ i. AreFilled (slashed w) cs (paths_of cs) (after_change (Makes i) before)) index (back.filled pathed));
      made = λ pathed. back.made pathed ∙ ap (λ changes. after changes before) (all_same s w cs place known);
      refused = ap (λ i. local.and_then (λ entries. local.and_then (λ done. Ok i) (validated now i)) (folder_at i (now.stands i))) (sym index) ∙ back.refused;
    }
