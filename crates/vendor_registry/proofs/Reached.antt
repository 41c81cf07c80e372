-- Where the checks end: at a package before which all were checked.
use Rattle.std.proofs.Common.{◌≡◌, ◌<◌, ℕ, suc, ◌+◌, List, [], ◌∷◌, ◌++◌, length, take, drop, get_or, Bool, true, false, cond, Result, Ok, Err, refl, sym, ap, ◌∙◌, subst, arith, length-take}
use Rattle.std.specs.Prelude.{filter}
use Rattle.std.specs.List.{enumerate_from}
use Rattle.std.proofs.Math.ListN.{take-append-drop}
use Rattle.std.proofs.lemmas.List.{append-nil, take_more}
use Rattle.audit_core.proofs.Lists.{drop_at}
use Rattle.audit_lock.specs.declared.resolving.Package.{Package}
use Rattle.vendor_registry.specs.declared.faults.VendorFault.{VendorFault}
use Rattle.vendor_registry.specs.declared.faults.VendorFault.TheVariants as fault
use Rattle.vendor_registry.specs.Checks.{IsReached, IsStopped, Stock, all_checked, and_then, checked, crate_path}
use Rattle.vendor_registry.specs.Looked.{is_looked, looked}
use Rattle.vendor_registry.specs.declared.checks.CheckedCrate.{CheckedCrate}

-- ---- lists with their places

numbered : {A : Type 0} (n : ℕ) (xs ys : List A) → enumerate_from n (xs ++ ys) ≡ enumerate_from n xs ++ enumerate_from (n + length xs) ys
numbered n [] ys = let same : n ≡ n + 0 = omega arith in ap (λ k. enumerate_from k ys) same
numbered {A} n (x ∷ xs) ys =
    let same : (n + 1) + length xs ≡ n + suc (length xs) = omega arith in
    ap (λ (zs : List (ℕ × A)). (n, x) ∷ zs) (numbered (n + 1) xs ys ∙ ap (λ k. enumerate_from (n + 1) xs ++ enumerate_from k ys) same)

part_case : {A : Type 0} (b : Bool) (x : A) (xs ys : List A) → cond b (x ∷ (xs ++ ys)) (xs ++ ys) ≡ cond b (x ∷ xs) xs ++ ys
part_case true x xs ys = refl
part_case false x xs ys = refl

parted : {A : Type 0} (f : A → Bool) (xs ys : List A) → filter f (xs ++ ys) ≡ filter f xs ++ filter f ys
parted f [] ys = refl
parted {A} f (x ∷ xs) ys = ap (λ (zs : List A). cond (f x) (x ∷ zs) zs) (parted f xs ys) ∙ part_case (f x) x (filter f xs) (filter f ys)

-- ---- one more package

more_case : (c : CheckedCrate) (r : Result CheckedCrate VendorFault) (rest more : Result (List CheckedCrate) VendorFault) (cs : List CheckedCrate)
    → ((bs : List CheckedCrate) → rest ≡ Ok bs → more ≡ Ok (bs ++ c ∷ []))
    → and_then (λ a. and_then (λ (bs : List CheckedCrate). Ok (a ∷ bs)) rest) r ≡ Ok cs → and_then (λ a. and_then (λ (bs : List CheckedCrate). Ok (a ∷ bs)) more) r ≡ Ok (cs ++ c ∷ [])
more_case c (Err e) rest more cs next h = cc
more_case c (Ok a) (Err e) more cs next h = cc
more_case c (Ok a) (Ok bs) more cs next h =
    let same : a ∷ bs ≡ cs = cc in
    ap (and_then (λ (ds : List CheckedCrate). Ok (a ∷ ds))) (next bs refl) ∙ ap (λ (ds : List CheckedCrate). Ok (ds ++ c ∷ [])) same

checked_more : (s : Stock) (ps : List (ℕ × Package)) (p : ℕ × Package) (cs : List CheckedCrate) (c : CheckedCrate) → all_checked s ps ≡ Ok cs → checked s p.0 p.1 ≡ Ok c
    → all_checked s (ps ++ p ∷ []) ≡ Ok (cs ++ c ∷ [])
checked_more s [] p cs c h done =
    let none : [] ≡ cs = cc in
    ap (and_then (λ (a : CheckedCrate). and_then (λ (bs : List CheckedCrate). Ok (a ∷ bs)) (Ok []))) done ∙ ap (λ (ds : List CheckedCrate). Ok (ds ++ c ∷ [])) none
checked_more s (q ∷ qs) p cs c h done =
    more_case c (checked s q.0 q.1) (all_checked s qs) (all_checked s (qs ++ p ∷ [])) cs (λ bs is. checked_more s qs p bs c is done) h

-- ---- those before a place

-- those that are looked at before a place
abbrev pub front_of : List Package → ℕ → List (ℕ × Package)
front_of all i = filter (is_looked all) (enumerate_from 0 (take i all))

counted : (all : List Package) (i : ℕ) → i < length all → 0 + length (take i all) ≡ i
counted all i low = simp length-take (omega (arith, low))

front_next : (all : List Package) (i : ℕ) (p : Package) → i < length all → p ≡ get_or all i p → front_of all (i + 1) ≡ front_of all i ++ cond (is_looked all (i, p)) ((i, p) ∷ []) []
front_next all i p low at =
    let size = counted all i low in
    ap (λ (ps : List Package). filter (is_looked all) (enumerate_from 0 ps)) (take_more all i p low ∙ ap (λ (q : Package). take i all ++ q ∷ []) (sym at))
    ∙ ap (filter (is_looked all)) (numbered 0 (take i all) (p ∷ []) ∙ ap (λ k. enumerate_from 0 (take i all) ++ enumerate_from k (p ∷ [])) size)
    ∙ parted (is_looked all) (enumerate_from 0 (take i all)) ((i, p) ∷ [])

pub front_taken : (s : Stock) (all : List Package) (i : ℕ) (p : Package) (cs : List CheckedCrate) (c : CheckedCrate) → i < length all → p ≡ get_or all i p → is_looked all (i, p) ≡ true
    → all_checked s (front_of all i) ≡ Ok cs → checked s i p ≡ Ok c → all_checked s (front_of all (i + 1)) ≡ Ok (cs ++ c ∷ [])
front_taken s all i p cs c low at is h done =
    ap (all_checked s) (front_next all i p low at ∙ ap (λ b. front_of all i ++ cond b ((i, p) ∷ []) []) is) ∙ checked_more s (front_of all i) (i, p) cs c h done

pub front_passed : (s : Stock) (all : List Package) (i : ℕ) (p : Package) (cs : List CheckedCrate) → i < length all → p ≡ get_or all i p → is_looked all (i, p) ≡ false
    → all_checked s (front_of all i) ≡ Ok cs → all_checked s (front_of all (i + 1)) ≡ Ok cs
front_passed s all i p cs low at is h =
    ap (all_checked s) (front_next all i p low at ∙ ap (λ b. front_of all i ++ cond b ((i, p) ∷ []) []) is ∙ append-nil (front_of all i)) ∙ h

pub reached_at : (s : Stock) (all : List Package) (i : ℕ) (p : Package) (cs : List CheckedCrate) → i < length all → p ≡ get_or all i p → is_looked all (i, p) ≡ true
    → all_checked s (front_of all i) ≡ Ok cs → IsReached s (looked all) i p
reached_at s all i p cs low at is h =
    let rest : List Package = drop (suc i) all in
    let size = counted all i low in
    record {
      front = front_of all i;
      behind = filter (is_looked all) (enumerate_from (i + 1) rest);
      among = ap (λ (ps : List Package). filter (is_looked all) (enumerate_from 0 ps)) (sym (take-append-drop i all) ∙ ap (λ (ps : List Package). take i all ++ ps) (drop_at all i p low at))
          ∙ ap (filter (is_looked all)) (numbered 0 (take i all) (p ∷ rest) ∙ ap (λ k. enumerate_from 0 (take i all) ++ enumerate_from k (p ∷ rest)) size)
          ∙ parted (is_looked all) (enumerate_from 0 (take i all)) ((i, p) ∷ enumerate_from (i + 1) rest)
          ∙ ap (λ b. front_of all i ++ cond b ((i, p) ∷ filter (is_looked all) (enumerate_from (i + 1) rest)) (filter (is_looked all) (enumerate_from (i + 1) rest))) is;
      before = cs;
      are_checked = h;
    }

-- ---- a call that failed

pub stopped_by : (s : Stock) (ps : List (ℕ × Package)) (place : ℕ) (p : Package) (e : VendorFault) → IsReached s ps place p → ((at : ℕ) → e ≡ fault.Store at → at ≡ place)
    → ((at : List ℕ) → e ≡ fault.File at → at ≡ crate_path s.crates p.name p.version) → IsStopped s ps e
stopped_by s ps place p (fault.Store at) r store file = (p, subst (λ n. IsReached s ps n p) (sym (store at refl)) r)
stopped_by s ps place p (fault.File at) r store file = (place, p, r, file at refl)
stopped_by s ps place p (fault.Name n) r store file = tt
stopped_by s ps place p (fault.Absent n) r store file = tt
stopped_by s ps place p (fault.Record n) r store file = tt
stopped_by s ps place p (fault.NoVersion n) r store file = tt
stopped_by s ps place p (fault.NoCrate n) r store file = tt
stopped_by s ps place p (fault.TooLarge n len) r store file = tt
stopped_by s ps place p (fault.Digest n found) r store file = tt
stopped_by s ps place p (fault.NotEmpty n) r store file = tt
stopped_by s ps place p fault.NotADirectory r store file = tt
stopped_by s ps place p (fault.ReadBack why) r store file = tt
stopped_by s ps place p fault.NoMemory r store file = tt
