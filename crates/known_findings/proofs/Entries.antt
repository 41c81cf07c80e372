-- Findings in a map, each at its line.
use Rattle.std.proofs.Common.{◌≡◌, ℕ, List, [], ◌∷◌, map, Ordering, Less, Equal, Greater, nat_cmp, refl, sym, ap, ap₂, ◌∙◌, Result, Ok, Err, OnOk, OnErr}
use Rattle.std.specs.BTreeMap.{insert_entry}
use Rattle.std.specs.Cmp.Lexicographic.{slice_cmp}
use Rattle.std.specs.Map.{keys_of, values_of}
use Rattle.std.specs.Ordering.{match_ordering}
use Rattle.std.proofs.lemmas.Map.Lookups.{exact_bytes}
use Rattle.known_findings.specs.Baselines.{put}
use Rattle.known_findings.specs.Findings.{line}
use Rattle.known_findings.specs.declared.findings.Finding.{Finding}

abbrev pub Entry : Type 0
Entry = List ℕ × Finding

abbrev pub entry : Finding → Entry
entry f = (line f, f)

step : (f g : Finding) (gs : List Finding) (o : Ordering) → slice_cmp nat_cmp (line f) (line g) ≡ o
    → insert_entry (slice_cmp nat_cmp) (map entry gs) (line f) f ≡ map entry (put gs f)
    → match_ordering o (entry f ∷ entry g ∷ map entry gs) ((line g, f) ∷ map entry gs)
    (entry g ∷ insert_entry (slice_cmp nat_cmp) (map entry gs) (line f) f)
    ≡ map entry (match_ordering o (f ∷ g ∷ gs) (f ∷ gs) (g ∷ put gs f))
step f g gs Less e more = refl
step f g gs Equal e more = ap (λ (l : List ℕ). (l, f) ∷ map entry gs) (sym (exact_bytes (line f) (line g) e))
step f g gs Greater e more = ap (λ (es : List Entry). entry g ∷ es) more

-- a finding that is put into the map is put into the list
pub insert_is : (fs : List Finding) (f : Finding)
    → insert_entry (slice_cmp nat_cmp) (map entry fs) (line f) f ≡ map entry (put fs f)
insert_is [] f = refl
insert_is (g ∷ gs) f = step f g gs (slice_cmp nat_cmp (line f) (line g)) refl (insert_is gs f)

pub values_back : (fs : List Finding) → values_of (map entry fs) ≡ fs
values_back [] = refl
values_back (f ∷ fs) = ap (λ (gs : List Finding). f ∷ gs) (values_back fs)

pub keys_back : (fs : List Finding) → keys_of (map entry fs) ≡ map line fs
keys_back [] = refl
keys_back (f ∷ fs) = ap (λ (ls : List (List ℕ)). line f ∷ ls) (keys_back fs)

-- what was put, in both forms
inserted : (old new : List Entry) (l : List ℕ) (f : Finding) → old ≡ map entry (values_of old) → l ≡ line f
    → new ≡ insert_entry (slice_cmp nat_cmp) old l f → new ≡ map entry (put (values_of old) f)
inserted old new l f are same is =
    is ∙ ap₂ (λ (es : List Entry) (k : List ℕ). insert_entry (slice_cmp nat_cmp) es k f) are same ∙ insert_is (values_of old) f

pub put_values : (old new : List Entry) (l : List ℕ) (f : Finding) → old ≡ map entry (values_of old) → l ≡ line f
    → new ≡ insert_entry (slice_cmp nat_cmp) old l f → values_of new ≡ put (values_of old) f
put_values old new l f are same is =
    ap values_of (inserted old new l f are same is) ∙ values_back (put (values_of old) f)

pub put_keeps : (old new : List Entry) (l : List ℕ) (f : Finding) → old ≡ map entry (values_of old) → l ≡ line f
    → new ≡ insert_entry (slice_cmp nat_cmp) old l f → new ≡ map entry (values_of new)
put_keeps old new l f are same is =
    inserted old new l f are same is ∙ ap (map entry) (sym (put_values old new l f are same is))

-- after an insertion that may have failed
pub keeps : {A E : Type 0} (r : Result A E) (old new : List Entry) (l : List ℕ) (f : Finding)
    → old ≡ map entry (values_of old) → l ≡ line f
    → OnOk r (new ≡ insert_entry (slice_cmp nat_cmp) old l f) → OnErr r (new ≡ old)
    → new ≡ map entry (values_of new)
keeps (Ok a) old new l f are same put unchanged = put_keeps old new l f are same put
keeps (Err e) old new l f are same put unchanged = unchanged ∙ are ∙ ap (λ (es : List Entry). map entry (values_of es)) (sym unchanged)
