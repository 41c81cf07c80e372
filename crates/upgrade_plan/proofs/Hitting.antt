-- The packages with a vulnerability in a report are those that some advisory hits.
use Rattle.std.proofs.Common.{◌≡◌, ℕ, suc, ◌<◌, ◌≤◌, List, [], ◌∷◌, ◌++◌, map, Bool, true, false, cond, refl, ap, ◌∙◌, arith}
use Rattle.std.specs.Prelude.{◌&&◌, ◌||◌, ◌==◌}
use Rattle.std.specs.List.{filter, list_any}
use Rattle.std.proofs.lemmas.List.{map-append}
use Rattle.std.proofs.lemmas.List.Elements.{filter-append}
use Rattle.std.proofs.lemmas.List.Folds.{list_any-append}
use Rattle.audit_lock.specs.declared.resolving.Package.{Package}
use Rattle.audit_advisory.specs.Places.{Placed, placed, placed_from, places_from}
use Rattle.audit_advisory.specs.Reports.{Pair, all_pairs, is_vulnerability, pair_of, report_of, vulnerability_at}
use Rattle.audit_advisory.specs.declared.advisories.Advisory.{Advisory}
use Rattle.audit_advisory.specs.declared.reports.Vulnerability.{Vulnerability}
use Rattle.audit_advisory.specs.declared.settings.Settings.{Settings}
use Rattle.upgrade_plan.specs.Plans.{has_vulnerability, hit_places, is_hit, vulnerable_places}

-- ---- numbers

same_place : (i : ℕ) → (i == i) ≡ true
same_place i = grind arith

other_place : (i j : ℕ) → j < i → (i == j) ≡ false
other_place i j low = grind (arith, low)

earlier_place : (i j : ℕ) → i < j → (i == j) ≡ false
earlier_place i j low = grind (arith, low)

-- ---- pairs of packages and advisories

abbrev Test : Type 0
Test = Package → Advisory → Bool

abbrev vulnerability_of : Pair → Vulnerability
vulnerability_of pair = vulnerability_at pair.locked.place pair.advisory.place

abbrev pairs_of : Test → List (Placed Package) → List (Placed Advisory) → List Pair
pairs_of test ps advs = filter (λ (pair : Pair). test pair.locked.item pair.advisory.item) (all_pairs ps advs)

-- the vulnerabilities of the packages from a place on
abbrev found : Test → ℕ → List Package → List (Placed Advisory) → List Vulnerability
found test i ps advs = map vulnerability_of (pairs_of test (placed_from i ps) advs)

-- those of one package
abbrev own : Test → Placed Package → List (Placed Advisory) → List Vulnerability
own test p advs = map vulnerability_of (filter (λ (pair : Pair). test pair.locked.item pair.advisory.item) (map (pair_of p) advs))

any_placed : (test : Advisory → Bool) (k : ℕ) (advs : List Advisory) → list_any (λ (a : Placed Advisory). test a.item) (placed_from k advs) ≡ list_any test advs
any_placed test k [] = refl
any_placed test k (a ∷ advs) = ap (λ b. test a || b) (any_placed test (suc k) advs)

both_false : (b : Bool) → false ≡ (b && false)
both_false true = refl
both_false false = refl

own_step : (b t rest : Bool) (more : List Vulnerability) (v : Vulnerability) (j : ℕ) → (v.«package» == j) ≡ b → has_vulnerability more j ≡ (b && rest)
    → has_vulnerability (cond t (v ∷ more) more) j ≡ (b && (t || rest))
own_step true true rest more v j is h = rw is refl
own_step false true rest more v j is h = rw is h
own_step b false rest more v j is h = h

mapped_case : (t : Bool) (pair : Pair) (pairs : List Pair) → map vulnerability_of (cond t (pair ∷ pairs) pairs) ≡ cond t (vulnerability_of pair ∷ map vulnerability_of pairs) (map vulnerability_of pairs)
mapped_case true pair pairs = refl
mapped_case false pair pairs = refl

own_has : (test : Test) (p : Placed Package) (advs : List (Placed Advisory)) (j : ℕ)
    → has_vulnerability (own test p advs) j ≡ ((p.place == j) && list_any (λ (a : Placed Advisory). test p.item a.item) advs)
own_has test p [] j = both_false (p.place == j)
own_has test p (a ∷ advs) j =
    let rest = filter (λ (pair : Pair). test pair.locked.item pair.advisory.item) (map (pair_of p) advs) in
    ap (λ (vs : List Vulnerability). has_vulnerability vs j) (mapped_case (test p.item a.item) (pair_of p a) rest)
    ∙ own_step (p.place == j) (test p.item a.item) _ (map vulnerability_of rest) (vulnerability_of (pair_of p a)) j refl (own_has test p advs j)

-- ---- one more package at the front

found_parts : (test : Test) (i : ℕ) (p : Package) (ps : List Package) (advs : List (Placed Advisory))
    → found test i (p ∷ ps) advs ≡ own test (record { place = i; item = p }) advs ++ found test (suc i) ps advs
found_parts test i p ps advs = rw (filter-append, map-append) refl

found_has : (test : Test) (i : ℕ) (p : Package) (ps : List Package) (advs : List (Placed Advisory)) (j : ℕ)
    → has_vulnerability (found test i (p ∷ ps) advs) j
    ≡ (((i == j) && list_any (λ (a : Placed Advisory). test p a.item) advs) || has_vulnerability (found test (suc i) ps advs) j)
found_has test i p ps advs j =
    ap (λ (vs : List Vulnerability). has_vulnerability vs j) (found_parts test i p ps advs)
    ∙ list_any-append (λ (v : Vulnerability). v.«package» == j) (own test (record { place = i; item = p }) advs) (found test (suc i) ps advs)
    ∙ ap (λ b. b || has_vulnerability (found test (suc i) ps advs) j) (own_has test (record { place = i; item = p }) advs j)

-- none is of an earlier package
none_before : (test : Test) (i : ℕ) (ps : List Package) (advs : List (Placed Advisory)) (j : ℕ) → j < i → has_vulnerability (found test i ps advs) j ≡ false
none_before test i [] advs j low = refl
none_before test i (p ∷ ps) advs j low =
    found_has test i p ps advs j
    ∙ ap (λ b. (b && list_any (λ (a : Placed Advisory). test p a.item) advs) || has_vulnerability (found test (suc i) ps advs) j) (other_place i j low)
    ∙ none_before test (suc i) ps advs j (let less : j < suc i = omega (arith, low) in less)

or_false : (b : Bool) → (b || false) ≡ b
or_false true = refl
or_false false = refl

found_here : (test : Test) (i : ℕ) (p : Package) (ps : List Package) (advs : List (Placed Advisory))
    → has_vulnerability (found test i (p ∷ ps) advs) i ≡ list_any (λ (a : Placed Advisory). test p a.item) advs
found_here test i p ps advs =
    let hit = list_any (λ (a : Placed Advisory). test p a.item) advs in
    found_has test i p ps advs i
    ∙ ap (λ b. (b && hit) || has_vulnerability (found test (suc i) ps advs) i) (same_place i)
    ∙ ap (λ b. hit || b) (none_before test (suc i) ps advs i (let less : i < suc i = omega arith in less))
    ∙ or_false hit

found_later : (test : Test) (i : ℕ) (p : Package) (ps : List Package) (advs : List (Placed Advisory)) (j : ℕ) → i < j
    → has_vulnerability (found test i (p ∷ ps) advs) j ≡ has_vulnerability (found test (suc i) ps advs) j
found_later test i p ps advs j low =
    found_has test i p ps advs j
    ∙ ap (λ b. (b && list_any (λ (a : Placed Advisory). test p a.item) advs) || has_vulnerability (found test (suc i) ps advs) j) (earlier_place i j low)

-- ---- all packages

-- a test that says for each place from i on whether it has a vulnerability
abbrev Tells : (ℕ → Bool) → ℕ → List Vulnerability → Type 0
Tells said i vs = (j : ℕ) → i ≤ j → said j ≡ has_vulnerability vs j

cons_case : (b c : Bool) (i : ℕ) (xs ys : List ℕ) → b ≡ c → xs ≡ ys → cond b (i ∷ xs) xs ≡ cond c (i ∷ ys) ys
cons_case b true i xs ys is same = rw (is, same) refl
cons_case b false i xs ys is same = rw (is, same) refl

place_case : (b : Bool) (x : Placed Package) (xs : List (Placed Package)) → cond b (x.place ∷ map (λ (y : Placed Package). y.place) xs) (map (λ (y : Placed Package). y.place) xs) ≡ map (λ (y : Placed Package). y.place) (cond b (x ∷ xs) xs)
place_case true x xs = refl
place_case false x xs = refl

places_found : (test : Test) (hit : Package → Bool) (advs : List (Placed Advisory)) → ((p : Package) → list_any (λ (a : Placed Advisory). test p a.item) advs ≡ hit p)
    → (said : ℕ → Bool) (i : ℕ) (ps : List Package) → Tells said i (found test i ps advs)
    → filter said (places_from i ps) ≡ map (λ (x : Placed Package). x.place) (filter (λ (x : Placed Package). hit x.item) (placed_from i ps))
places_found test hit advs same said i [] tells = refl
places_found test hit advs same said i (p ∷ ps) tells =
    let here : said i ≡ hit p = tells i (let low : i ≤ i = omega arith in low) ∙ found_here test i p ps advs ∙ same p in
    let rest = places_found test hit advs same said (suc i) ps
    (λ j low. tells j (let less : i ≤ j = omega (arith, low) in less) ∙ found_later test i p ps advs j (let less : i < j = omega (arith, low) in less)) in
    cons_case (said i) (hit p) i _ _ here rest
    ∙ place_case (hit p) (record { place = i; item = p }) (filter (λ (x : Placed Package). hit x.item) (placed_from (suc i) ps))

pub vulnerable_are_hit : (settings : Settings) (advisories : List Advisory) (packages : List Package)
    → vulnerable_places (report_of settings advisories packages).vulnerabilities packages ≡ hit_places settings advisories packages
vulnerable_are_hit settings advisories packages =
    places_found (is_vulnerability settings) (is_hit settings advisories) (placed advisories) (λ p. any_placed (is_vulnerability settings p) 0 advisories)
    (has_vulnerability (report_of settings advisories packages).vulnerabilities) 0 packages (λ j low. refl)
