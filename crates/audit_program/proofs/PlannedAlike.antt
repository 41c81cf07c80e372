-- Plans for the same packages over caches with the same records are the same.
use Rattle.std.proofs.Common.{◌≡◌, ◌⊎◌, inl, inr, ℕ, suc, List, [], ◌∷◌, ◌++◌, Bool, true, false, cond, Option, Some, None, option_map, refl, sym, ap, ◌∙◌, subst, arith, append_assoc}
use Rattle.std.specs.Prelude.{IfSome, IsSome, length, map, slice_get}
use Rattle.std.specs.List.{AllByRecursion, filter}
use Rattle.tame_names.specs.Counts.{CountRoseBy, CountStayed}
use Rattle.tame_cache.specs.Disk.{File, reads}
use Rattle.tame_names.specs.Names.{path}
use Rattle.tame_cache.specs.Kept.{Disk, cache_file, cache_file_of}
use Rattle.tame_sparse.specs.Exchanges.{crates_io_index}
use Rattle.audit_lock.specs.declared.resolving.Package.{Package}
use Rattle.audit_advisory.specs.Hits.{is_from_default}
use Rattle.audit_advisory.specs.Places.{places_from}
use Rattle.audit_advisory.specs.declared.advisories.Advisory.{Advisory}
use Rattle.audit_advisory.specs.declared.settings.Settings.{Settings}
use Rattle.audit_core.specs.declared.auditing.Audited.{Audited}
use Rattle.upgrade_plan.specs.Least.{IsFirstLowest, is_lower}
use Rattle.upgrade_plan.specs.Plans.{IsOutcome, IsPathOutcome, IsPlanBy, IsPlanOf, IsPlannedAt, IsSourceOutcome, crates_io_cache, has_vulnerability, is_store, stores}
use Rattle.upgrade_plan.specs.Recorded.{file_records}
use Rattle.upgrade_plan.specs.declared.records.NoRecord.TheVariants as why
use Rattle.upgrade_plan.specs.declared.records.Recorded.{Recorded}
use Rattle.upgrade_plan.specs.declared.records.Recorded.TheVariants.{Versions, Missing}
use Rattle.upgrade_plan.specs.declared.plans.PlanItem.{PlanItem}
use Rattle.upgrade_plan.specs.declared.plans.PlanOutcome.{PlanOutcome}
use Rattle.upgrade_plan.specs.declared.plans.PlanOutcome.TheVariants as outcome
use Rattle.audit_program.proofs.LeftAlike.{StockSame}
use Rattle.audit_program.proofs.SaidAlike.{SaysSame, same_but_turns}

-- ---- the first of the lowest is one

all_at : {A : Type 0} (P : A → Type 0) (front behind : List A) (x : A) → AllByRecursion P (front ++ x ∷ behind) → P x
all_at P [] behind x h = h.0
all_at P (y ∷ ys) behind x h = all_at P ys behind x h.1

meet : (test : List ℕ → Bool) (fx fy bx by : List (List ℕ)) (x y : List ℕ) → fx ++ x ∷ bx ≡ fy ++ y ∷ by → test x ≡ true → test y ≡ true
    → AllByRecursion (λ t. test t ≡ true → is_lower x t ≡ true) fx → AllByRecursion (λ t. test t ≡ true → is_lower y t ≡ true) fy → is_lower y x ≡ false → is_lower x y ≡ false → x ≡ y
meet test [] [] bx by x y same px py hx hy ny nx = cc (same)
meet test [] (u ∷ fy) bx by x y same px py hx hy ny nx =
    let one : x ≡ u = cc (same) in
    let low : is_lower y x ≡ true = subst (λ (t : List ℕ). is_lower y t ≡ true) (sym one) (hy.0 (subst (λ (t : List ℕ). test t ≡ true) one px)) in
    cc (low, ny)
meet test (t ∷ fx) [] bx by x y same px py hx hy ny nx =
    let one : t ≡ y = cc (same) in
    let low : is_lower x y ≡ true = subst (λ (s : List ℕ). is_lower x s ≡ true) one (hx.0 (subst (λ (s : List ℕ). test s ≡ true) (sym one) py)) in
    cc (low, nx)
meet test (t ∷ fx) (u ∷ fy) bx by x y same px py hx hy ny nx =
    let rest : fx ++ x ∷ bx ≡ fy ++ y ∷ by = cc (same) in
    meet test fx fy bx by x y rest px py hx.1 hy.1 ny nx

lowest_same : (test : List ℕ → Bool) (texts : List (List ℕ)) (x y : List ℕ) → IsFirstLowest test texts x → IsFirstLowest test texts y → x ≡ y
lowest_same test texts x y h k =
    let X = λ (t : List ℕ). test t ≡ true → is_lower t x ≡ false in
    let Y = λ (t : List ℕ). test t ≡ true → is_lower t y ≡ false in
    let ny = all_at X k.front k.behind y (subst (λ (ts : List (List ℕ)). AllByRecursion X ts) k.stands h.none_lower) k.passes in
    let nx = all_at Y h.front h.behind x (subst (λ (ts : List (List ℕ)). AllByRecursion Y ts) h.stands k.none_lower) h.passes in
    meet test h.front k.front h.behind k.behind x y (sym h.stands ∙ k.stands) h.passes k.passes h.first k.first ny nx

none_lowest : {X : Type 0} (test : List ℕ → Bool) (texts : List (List ℕ)) (x : List ℕ) → AllByRecursion (λ t. test t ≡ false) texts → IsFirstLowest test texts x → X
none_lowest test texts x none h =
    let P = λ (t : List ℕ). test t ≡ false in
    let no = all_at P h.front h.behind x (subst (λ (ts : List (List ℕ)). AllByRecursion P ts) h.stands none) in
    let yes = h.passes in
    cc (no, yes)

-- ---- one outcome

recorded_same : (settings : Settings) (advisories : List Advisory) (p : Package) (r : Recorded) (o u : PlanOutcome) → IsOutcome settings advisories p r o → IsOutcome settings advisories p r u → o ≡ u
recorded_same settings advisories p (Missing cause) o u h k = h ∙ sym k
recorded_same settings advisories p (Versions krate) (outcome.To w) (outcome.To v) h k = ap (λ (t : List ℕ). outcome.To t) (lowest_same _ _ w v h k)
recorded_same settings advisories p (Versions krate) (outcome.To w) outcome.NoneSafe h k = none_lowest _ _ w k h
recorded_same settings advisories p (Versions krate) outcome.NoneSafe (outcome.To v) h k = none_lowest _ _ v h k
recorded_same settings advisories p (Versions krate) outcome.NoneSafe outcome.NoneSafe h k = refl
recorded_same settings advisories p (Versions krate) (outcome.NoRecord cause) u h k = absurd h
recorded_same settings advisories p (Versions krate) (outcome.To w) (outcome.NoRecord cause) h k = absurd k
recorded_same settings advisories p (Versions krate) outcome.NoneSafe (outcome.NoRecord cause) h k = absurd k

unstored : {A : Type 0} (o : PlanOutcome) → is_store o ≡ false → A ⊎ (o ≡ outcome.NoRecord why.Store) → A
unstored o so (inl a) = a
unstored o so (inr is) = let no : is_store o ≡ true = ap (λ (x : PlanOutcome). is_store x) is in cc (so, no)

path_same : (told too : Type 0) (settings : Settings) (advisories : List Advisory) (index : List ℕ) (files files_too : List ℕ → File) (p : Package) (r : Option (List ℕ)) (o u : PlanOutcome) → told → too
    → ((q : List ℕ) → r ≡ Some q → file_records index (files q) ≡ file_records index (files_too q)) → is_store o ≡ false → is_store u ≡ false
    → IsPathOutcome told settings advisories index files p r o → IsPathOutcome too settings advisories index files_too p r u → o ≡ u
path_same told too settings advisories index files files_too p None o u t s same so su h k = h ∙ sym k
path_same told too settings advisories index files files_too p (Some q) o u t s same so su h k =
    let one = unstored o so (h.by_file t) in
    let two = unstored u su (k.by_file s) in
    recorded_same settings advisories p (file_records index (files q)) o u one (subst (λ (r : Recorded). IsOutcome settings advisories p r u) (sym (same q refl)) two)

source_same : (told too : Type 0) (settings : Settings) (advisories : List Advisory) (files files_too : List ℕ → File) (p : Package) (b : Bool) (o u : PlanOutcome) → told → too
    → (b ≡ true → (q : List ℕ) → cache_file_of crates_io_cache.path p.name ≡ Some q → file_records crates_io_cache.index (files q) ≡ file_records crates_io_cache.index (files_too q))
    → is_store o ≡ false → is_store u ≡ false
    → IsSourceOutcome told settings advisories crates_io_cache files p b o → IsSourceOutcome too settings advisories crates_io_cache files_too p b u → o ≡ u
source_same told too settings advisories files files_too p false o u t s same so su h k = h ∙ sym k
source_same told too settings advisories files files_too p true o u t s same so su h k =
    path_same told too settings advisories crates_io_cache.index files files_too p (cache_file_of crates_io_cache.path p.name) o u t s (same refl) so su h k

-- ---- each position has a package

get_at : {A : Type 0} (front : List A) (x : A) (xs : List A) → slice_get (front ++ x ∷ xs) (length front) ≡ Some x
get_at [] x xs = refl
get_at (y ∷ ys) x xs = get_at ys x xs

longer : {A : Type 0} (front : List A) (x : A) → length (front ++ x ∷ []) ≡ suc (length front)
longer [] x = refl
longer (y ∷ ys) x = ap (λ (n : ℕ). suc n) (longer ys x)

has_some : {A : Type 0} (o : Option A) (x : A) → o ≡ Some x → IsSome o
has_some o x is = subst (λ (r : Option _). IsSome r) (sym is) refl

placed_all : {A : Type 0} (front xs whole : List A) (i : ℕ) → i ≡ length front → whole ≡ front ++ xs → AllByRecursion (λ n. IsSome (slice_get whole n)) (places_from i xs)
placed_all front [] whole i at is = tt
placed_all {A} front (x ∷ xs) whole i at is =
    let here : slice_get whole i ≡ Some x = ap (λ (n : ℕ). slice_get whole n) at ∙ ap (λ (ys : List A). slice_get ys (length front)) is ∙ get_at front x xs in (
      has_some (slice_get whole i) x here,
      placed_all (front ++ x ∷ []) xs whole (suc i) (ap (λ (n : ℕ). suc n) at ∙ sym (longer front x)) (is ∙ sym (append_assoc front (x ∷ []) xs)),
    )

kept_case : {A : Type 0} (P : A → Type 0) (b : Bool) (x : A) (xs : List A) → P x → AllByRecursion P xs → AllByRecursion P (cond b (x ∷ xs) xs)
kept_case P true x xs one more = (one, more)
kept_case P false x xs one more = more

filter_all : {A : Type 0} (P : A → Type 0) (test : A → Bool) (xs : List A) → AllByRecursion P xs → AllByRecursion P (filter test xs)
filter_all P test [] h = tt
filter_all P test (x ∷ xs) h = kept_case P (test x) x (filter test xs) h.0 (filter_all P test xs h.1)

-- ---- no entry couldn't be read

store_case : (b : Bool) (x : PlanItem) (xs : List PlanItem) → length (cond b (x ∷ xs) xs) ≡ 0 → (b ≡ false) × (length xs ≡ 0)
store_case true x xs none = cc (none)
store_case false x xs none = (refl, none)

no_stores : (items : List PlanItem) → stores items ≡ 0 → AllByRecursion (λ item. is_store item.outcome ≡ false) items
no_stores [] none = tt
no_stores (x ∷ xs) none =
    let both = store_case (is_store x.outcome) x (filter (λ (item : PlanItem). is_store item.outcome) xs) none in
    (both.0, no_stores xs both.1)

none_rose : (more before now : ℕ) → CountStayed before now → CountRoseBy more before now → more ≡ 0
none_rose more before now quiet rose = let same = quiet.0 in let low = quiet.1 in omega (arith, same, low, rose)

-- ---- the items

one_item : (P Q : Package → PlanOutcome → Type 0) (packages : List Package) (place : ℕ) (r : Option Package) (o u : PlanOutcome) → slice_get packages place ≡ r → IsSome r
    → ((p : Package) → slice_get packages place ≡ Some p → P p o → Q p u → o ≡ u) → IfSome r (λ p. P p o) → IfSome r (λ p. Q p u) → o ≡ u
one_item P Q packages place None o u at some f h k = cc (some)
one_item P Q packages place (Some p) o u at some f h k = f p at h k

items_same : (P Q : Package → PlanOutcome → Type 0) (packages : List Package) (items items_too : List PlanItem)
    → ((place : ℕ) (p : Package) (o u : PlanOutcome) → slice_get packages place ≡ Some p → is_store o ≡ false → is_store u ≡ false → P p o → Q p u → o ≡ u)
    → map (λ item. item.«package») items ≡ map (λ item. item.«package») items_too
    → AllByRecursion (λ n. IsSome (slice_get packages n)) (map (λ item. item.«package») items)
    → AllByRecursion (λ item. is_store item.outcome ≡ false) items → AllByRecursion (λ item. is_store item.outcome ≡ false) items_too
    → AllByRecursion (IsPlannedAt P packages) items → AllByRecursion (IsPlannedAt Q packages) items_too → items ≡ items_too
items_same P Q packages [] [] f same some so su h k = refl
items_same P Q packages [] (y ∷ ys) f same some so su h k = cc (same)
items_same P Q packages (x ∷ xs) [] f same some so su h k = cc (same)
items_same P Q packages (x ∷ xs) (y ∷ ys) f same some so su h k =
    let place : x.«package» ≡ y.«package» = cc (same) in
    let rest : map (λ item. item.«package») xs ≡ map (λ item. item.«package») ys = cc (same) in
    let there = subst (λ (n : ℕ). IfSome (slice_get packages n) (λ p. Q p y.outcome)) (sym place) k.0 in
    let said : x.outcome ≡ y.outcome =
    one_item P Q packages x.«package» (slice_get packages x.«package») x.outcome y.outcome refl some.0 (λ p at. f x.«package» p x.outcome y.outcome at so.0 su.0) h.0 there in
    let one : x ≡ y = λ i. record { «package» = place i; outcome = said i } in
    ap (λ (z : PlanItem). z ∷ xs) one ∙ ap (λ (zs : List PlanItem). y ∷ zs) (items_same P Q packages xs ys f rest some.1 so.1 su.1 h.1 k.1)

-- ---- the plans

-- the file of a name that has a path
named_file : (name f : List ℕ) (o : Option (List ℕ)) (P : List ℕ → Type 0) → path name ≡ o → option_map (cache_file []) o ≡ Some f → ((q : List ℕ) → path name ≡ Some q → P (cache_file [] q)) → P f
named_file name f None P at is g = cc (is)
named_file name f (Some q) P at is g = let same : cache_file [] q ≡ f = cc (is) in subst P same (g q at)

pub plans_same : (told too : Type 0) (advisories : List Advisory) (a a2 : Audited) (files files_too : Disk) (f f_now g g_now : ℕ) (items items_too : List PlanItem) → told → too → SaysSame a a2
    → StockSame files files_too a.lockfile → CountStayed f f_now → CountStayed g g_now
    → IsPlanBy told advisories a files f f_now items → IsPlanBy too advisories a2 files_too g g_now items_too → items ≡ items_too
plans_same told too advisories a a2 files files_too f f_now g g_now items items_too t s said same quiet quiet_too h k0 =
    let k = subst (λ (x : Audited). IsPlanBy too advisories x files_too g g_now items_too) (sym (same_but_turns a a2 said)) k0 in
    let here = filter_all (λ n. IsSome (slice_get a.lockfile n)) (has_vulnerability a.report.vulnerabilities) (places_from 0 a.lockfile) (placed_all [] a.lockfile a.lockfile 0 refl refl) in
    items_same (IsPlanOf told a.report.settings advisories crates_io_cache (λ q. reads (files q))) (IsPlanOf too a.report.settings advisories crates_io_cache (λ q. reads (files_too q))) a.lockfile items items_too
    (λ place p o u at so su one two. source_same told too a.report.settings advisories (λ q. reads (files q)) (λ q. reads (files_too q)) p (is_from_default p.source) o u t s
    (λ default r named. named_file p.name r (path p.name) (λ x. file_records crates_io_index (reads (files x)) ≡ file_records crates_io_index (reads (files_too x))) refl named
    (same place p at default)) so su one two)
    (h.packages ∙ sym k.packages)
    (subst (λ (ns : List ℕ). AllByRecursion (λ n. IsSome (slice_get a.lockfile n)) ns) (sym h.packages) here)
    (no_stores items (none_rose (stores items) f f_now quiet h.stores)) (no_stores items_too (none_rose (stores items_too) g g_now quiet_too k.stores))
    h.planned k.planned
