-- One more package in a plan.
use Rattle.std.proofs.Common.{◌≡◌, ◌≢◌, ◌⊎◌, inl, inr, ℕ, suc, ◌+◌, ◌≤◌, List, [], ◌∷◌, ◌++◌, Bool, true, false, cond, Option, Some, None, refl, sym, ap, subst, ◌∙◌, append_assoc, append-nil, drop, length, arith}
use Rattle.std.specs.List.{filter}
use Rattle.std.specs.Prelude.{IsSomeAnd, slice_get}
use Rattle.std.proofs.lemmas.List.{drop_all, length-append}
use Rattle.std.proofs.lemmas.List.Elements.{filter-append}
use Rattle.tame_names.specs.Counts.{CountRose, CountRoseBy}
use Rattle.tame_cache.specs.Disk.{File}
use Rattle.tame_cache.specs.FailedCalls.{FailedDiskCalls}
use Rattle.tame_cache.specs.Kept.{cache_file_of}
use Rattle.tame_cache.specs.declared.cache.IndexCache.{IndexCache}
use Rattle.audit_lock.specs.declared.resolving.Package.{Package}
use Rattle.audit_advisory.specs.Hits.{is_from_default}
use Rattle.audit_advisory.specs.Places.{places_from}
use Rattle.audit_advisory.specs.declared.advisories.Advisory.{Advisory}
use Rattle.audit_advisory.specs.declared.settings.Settings.{Settings}
use Rattle.upgrade_plan.specs.Plans.{IsFileOutcome, IsOutcome, IsPathOutcome, IsPlanOf, IsSourceOutcome, ReadsOnly, ReadsOwn, is_store, stores}
use Rattle.upgrade_plan.specs.Recorded.{file_records, is_of_cache}
use Rattle.upgrade_plan.specs.declared.records.NoRecord.TheVariants as why
use Rattle.upgrade_plan.specs.declared.records.Recorded.{Recorded}
use Rattle.upgrade_plan.specs.declared.records.Recorded.TheVariants.{Versions, Missing}
use Rattle.upgrade_plan.specs.declared.plans.PlanItem.{PlanItem}
use Rattle.upgrade_plan.specs.declared.plans.PlanOutcome.{PlanOutcome}
use Rattle.upgrade_plan.specs.declared.plans.PlanOutcome.TheVariants as outcome

-- ---- the files stay the same

same_file : {told : Type 0} (settings : Settings) (advisories : List Advisory) (index : List ℕ) (p : Package) (file other : File) (o : PlanOutcome)
    → (told → file ≡ other) → IsFileOutcome told settings advisories index p file o → IsFileOutcome told settings advisories index p other o
same_file settings advisories index p file other o same h = record {
  of_default = h.of_default;
  named = h.named;
  by_file = λ t. subst (λ f. IsOutcome settings advisories p (file_records index f) o ⊎ (o ≡ outcome.NoRecord why.Store)) (same t) (h.by_file t);
}

same_path : {told : Type 0} (settings : Settings) (advisories : List Advisory) (index : List ℕ) (p : Package) (files others : List ℕ → File) (q : Option (List ℕ)) (o : PlanOutcome)
    → (told → (q : List ℕ) → files q ≡ others q) → IsPathOutcome told settings advisories index files p q o → IsPathOutcome told settings advisories index others p q o
same_path settings advisories index p files others None o same h = h
same_path settings advisories index p files others (Some q) o same h = same_file settings advisories index p (files q) (others q) o (λ t. same t q) h

same_source : {told : Type 0} (settings : Settings) (advisories : List Advisory) (cache : IndexCache) (p : Package) (files others : List ℕ → File) (b : Bool) (o : PlanOutcome)
    → (told → (q : List ℕ) → files q ≡ others q) → IsSourceOutcome told settings advisories cache files p b o → IsSourceOutcome told settings advisories cache others p b o
same_source settings advisories cache p files others false o same h = h
same_source settings advisories cache p files others true o same h = same_path settings advisories cache.index p files others (cache_file_of cache.path p.name) o same h

pub same_plan : {told : Type 0} (settings : Settings) (advisories : List Advisory) (cache : IndexCache) (p : Package) (files others : List ℕ → File) (o : PlanOutcome)
    → (told → (q : List ℕ) → files q ≡ others q) → IsPlanOf told settings advisories cache files p o → IsPlanOf told settings advisories cache others p o
same_plan settings advisories cache p files others o same h = same_source settings advisories cache p files others (is_from_default p.source) o same h

-- ---- the parts of a plan

pub of_file : (told : Type 0) (settings : Settings) (advisories : List Advisory) (cache : IndexCache) (files : List ℕ → File) (p : Package) (q : List ℕ) (o : PlanOutcome)
    → is_from_default p.source ≡ true → cache_file_of cache.path p.name ≡ Some q → IsFileOutcome told settings advisories cache.index p (files q) o
    → IsPlanOf told settings advisories cache files p o
of_file told settings advisories cache files p q o h there is =
    subst (λ b. IsSourceOutcome told settings advisories cache files p b o) (sym h)
    (subst (λ r. IsPathOutcome told settings advisories cache.index files p r o) (sym there) is)

-- records from the cache don't speak of sources and names
cache_kinds : (settings : Settings) (advisories : List Advisory) (p : Package) (r : Recorded) (o : PlanOutcome) → is_of_cache r ≡ true → IsOutcome settings advisories p r o
    → (o ≢ outcome.NoRecord why.Source) × (o ≢ outcome.NoRecord why.Name)
cache_kinds settings advisories p (Missing why.Source) o of h = absurd (cc)
cache_kinds settings advisories p (Missing why.Name) o of h = absurd (cc)
cache_kinds settings advisories p (Missing why.Store) o of h = (λ e. cc, λ e. cc)
cache_kinds settings advisories p (Missing why.Absent) o of h = (λ e. cc, λ e. cc)
cache_kinds settings advisories p (Missing why.Record) o of h = (λ e. cc, λ e. cc)
cache_kinds settings advisories p (Versions krate) (outcome.To w) of h = (λ e. cc, λ e. cc)
cache_kinds settings advisories p (Versions krate) outcome.NoneSafe of h = (λ e. cc, λ e. cc)
cache_kinds settings advisories p (Versions krate) (outcome.NoRecord cause) of h = absurd h

pub by_records : (told : Type 0) (settings : Settings) (advisories : List Advisory) (index : List ℕ) (p : Package) (file : File) (r : Recorded) (o : PlanOutcome)
    → is_of_cache r ≡ true → (told → (r ≡ file_records index file) ⊎ (r ≡ Missing why.Store)) → IsOutcome settings advisories p r o
    → IsFileOutcome told settings advisories index p file o
by_records told settings advisories index p file r o of from h =
    let kinds = cache_kinds settings advisories p r o of h in
    record {
      of_default = kinds.0;
      named = kinds.1;
      by_file = λ t. elim (from t) [
        | inl is ↦ inl (subst (λ x. IsOutcome settings advisories p x o) is h)
        | inr is ↦ inr (subst (λ x. IsOutcome settings advisories p x o) is h)
      ];
    }

-- ---- the file of a package

-- a plan says that the file couldn't be read if the records do
pub outcome_store : (settings : Settings) (advisories : List Advisory) (p : Package) (r : Recorded) (o : PlanOutcome) → IsOutcome settings advisories p r o → o ≡ outcome.NoRecord why.Store → r ≡ Missing why.Store
outcome_store settings advisories p (Missing cause) o h is = cc (h, is)
outcome_store settings advisories p (Versions krate) (outcome.To w) h is = cc
outcome_store settings advisories p (Versions krate) outcome.NoneSafe h is = cc
outcome_store settings advisories p (Versions krate) (outcome.NoRecord cause) h is = absurd h

pub store_outcome : (settings : Settings) (advisories : List Advisory) (p : Package) (r : Recorded) (o : PlanOutcome) → IsOutcome settings advisories p r o → r ≡ Missing why.Store → o ≡ outcome.NoRecord why.Store
store_outcome settings advisories p (Missing cause) o h is = cc (h, is)
store_outcome settings advisories p (Versions krate) o h is = cc

pub read_own : (cache : IndexCache) (packages : List Package) (item : PlanItem) (p : Package) (before now : FailedDiskCalls) → slice_get packages item.«package» ≡ Some p
    → ReadsOnly (cache_file_of cache.path p.name) before now item.outcome → ReadsOwn cache packages item before now
read_own cache packages item p before now there h =
    subst (λ o. IsSomeAnd o (λ x. ReadsOnly (cache_file_of cache.path x.name) before now item.outcome)) (sym there) h

-- ---- counts

store_count : (item : PlanItem) → stores (item ∷ []) ≡ cond (is_store item.outcome) 1 0
store_count item = go (is_store item.outcome) refl
  where
    go : (b : Bool) → is_store item.outcome ≡ b → stores (item ∷ []) ≡ cond (is_store item.outcome) 1 0
    go true e = rw e refl
    go false e = rw e refl

store_more : (items : List PlanItem) (item : PlanItem) → stores (items ++ item ∷ []) ≡ stores items + cond (is_store item.outcome) 1 0
store_more items item = rw (filter-append, length-append) (ap (λ n. stores items + n) (store_count item))

is_store-is : (o : PlanOutcome) → is_store o ≡ true → o ≡ outcome.NoRecord why.Store
is_store-is (outcome.To w) h = cc
is_store-is outcome.NoneSafe h = cc
is_store-is (outcome.NoRecord why.Source) h = cc
is_store-is (outcome.NoRecord why.Name) h = cc
is_store-is (outcome.NoRecord why.Store) h = refl
is_store-is (outcome.NoRecord why.Absent) h = cc
is_store-is (outcome.NoRecord why.Record) h = cc

rose_by : (n : ℕ) (s : Bool) (a b c : ℕ) → CountRoseBy n a b → b ≤ c → (s ≡ true → CountRose b c) → CountRoseBy (n + cond s 1 0) a c
rose_by n true a b c h up rose = let more = rose refl in omega (arith, h, up, more)
rose_by n false a b c h up rose = omega (arith, h, up)

pub rose_more : (items : List PlanItem) (item : PlanItem) (a b c : ℕ) → CountRoseBy (stores items) a b → b ≤ c
    → (item.outcome ≡ outcome.NoRecord why.Store → CountRose b c) → CountRoseBy (stores (items ++ item ∷ [])) a c
rose_more items item a b c h up rose =
    subst (λ n. CountRoseBy n a c) (sym (store_more items item)) (rose_by (stores items) (is_store item.outcome) a b c h up (λ s. rose (is_store-is item.outcome s)))

-- ---- places

picked_place : (test : ℕ → Bool) (done rest : List ℕ) (i : ℕ) (b : Bool) → b ≡ true → done ++ cond b (i ∷ rest) rest ≡ (done ++ i ∷ []) ++ rest
picked_place test done rest i true e = sym (append_assoc done (i ∷ []) rest)
picked_place test done rest i false e = cc

pub place_kept : (test : ℕ → Bool) (whole done : List ℕ) (i : ℕ) (p : Package) (left more : List Package) → left ≡ p ∷ more → test i ≡ true
    → whole ≡ done ++ filter test (places_from i left) → whole ≡ (done ++ i ∷ []) ++ filter test (places_from (suc i) more)
place_kept test whole done i p left more is yes_test h =
    h ∙ ap (λ l. done ++ filter test (places_from i l)) is ∙ picked_place test done (filter test (places_from (suc i) more)) i (test i) yes_test

pub place_passed : (test : ℕ → Bool) (whole done : List ℕ) (i : ℕ) (p : Package) (left more : List Package) → left ≡ p ∷ more → test i ≡ false
    → whole ≡ done ++ filter test (places_from i left) → whole ≡ done ++ filter test (places_from (suc i) more)
place_passed test whole done i p left more is no_test h =
    h ∙ ap (λ l. done ++ filter test (places_from i l)) is ∙ ap (λ b. done ++ cond b (i ∷ filter test (places_from (suc i) more)) (filter test (places_from (suc i) more))) no_test

-- nothing is left
pub all_places : (test : ℕ → Bool) (packages : List Package) (done : List ℕ) (i : ℕ) → length packages ≤ i
    → filter test (places_from 0 packages) ≡ done ++ filter test (places_from i (drop i packages)) → filter test (places_from 0 packages) ≡ done
all_places test packages done i past h =
    h ∙ ap (λ ps. done ++ filter test (places_from i ps)) (drop_all i packages past) ∙ append-nil done
