-- A version of SemVer has no slash.
use Rattle.std.proofs.Common.{◌≡◌, ℕ, zero, suc, ◌+◌, ◌-◌, ◌*◌, ◌^◌, ◌==◌, List, [], ◌∷◌, length, take, drop, IsTrue, is_ok, Bool, true, false, cond, Result, Ok, Err, refl, sym, ap, ◌∙◌, subst, arith}
use Rattle.std.specs.Prelude.{nat_le, nat_lt}
use Rattle.std.specs.Char.{is_ascii_digit}
use Rattle.std.proofs.lemmas.Bool.Decides.{nat_tests}
use Rattle.semver.specs.Parse.{Parts, Read, ◌>>=◌, digits_end, digits_from, dot_of, identifier_len, identifier_of, is_bad_zero, is_leading_zero, is_letter, numeric, part_end, scan, starts_zero, tail_build, tail_end, tail_pre, version_parts}
use Rattle.semver.specs.declared.error.Error.{Error}
use Rattle.semver.specs.declared.error.Position.{Position}
use Rattle.semver.specs.declared.error.Position.TheVariants as place
use Rattle.tame_local.specs.CrateFiles.{Lacks}

-- ---- steps one after the other

bind_ok : {A B : Type 0} (r : Result A Error) (f : A → Result B Error) (b : B) → (r >>= f) ≡ Ok b → (a : A) × (r ≡ Ok a) × (f a ≡ Ok b)
bind_ok (Ok a) f b h = (a, refl, h)
bind_ok (Err e) f b h = cc

ok_of : {A : Type 0} (r : Result A Error) → is_ok r ≡ true → (a : A) × (r ≡ Ok a)
ok_of (Ok a) h = (a, refl)
ok_of (Err e) h = cc

no_err : {A : Type 0} (t : Bool) (e : Error) (r : Result A Error) (a : A) → cond t (Err e) r ≡ Ok a → r ≡ Ok a
no_err true e r a h = cc
no_err false e r a h = h

-- ---- bytes

digit_other : (b : ℕ) → is_ascii_digit b ≡ true → (b == 47) ≡ false
digit_other b h = grind (arith, nat_tests)

letter_other : (b : ℕ) → is_letter b ≡ true → (b == 47) ≡ false
letter_other b h = grind (arith, nat_tests)

same_other : (b n : ℕ) → (b == n) ≡ true → (n == 47) ≡ false → (b == 47) ≡ false
same_other b n h k = let same : b ≡ n = grind (arith, nat_tests) in ap (λ m. m == 47) same ∙ k

-- ---- numbers

abbrev rest_in : Read ℕ → List ℕ
rest_in (Ok x) = x.1
rest_in (Err e) = []

rest_of : (b : ℕ) (bs : List ℕ) (t : Bool) (e : Error) (value v : ℕ) (rest : List ℕ) → cond {A = Read ℕ} t (Ok (value, b ∷ bs)) (Err e) ≡ Ok (v, rest) → rest ≡ b ∷ bs
rest_of b bs true e value v rest h = sym (ap rest_in h)
rest_of b bs false e value v rest h = cc

digit_case : (d l o : Bool) (b : ℕ) (bs : List ℕ) (pos : Position) (value len v : ℕ) (rest : List ℕ) (e f : Error) (r : Read ℕ) → is_ascii_digit b ≡ d → Lacks 47 rest
    → (r ≡ Ok (v, rest) → Lacks 47 bs) → cond d (cond l (Err e) (cond o (Err f) r)) (digits_end pos value len (b ∷ bs)) ≡ Ok (v, rest) → Lacks 47 (b ∷ bs)
digit_case true l o b bs pos value len v rest e f r digit lacks more h =
    (digit_other b digit, more (no_err o f r (v, rest) (no_err l e (cond o (Err f) r) (v, rest) h)))
digit_case false l o b bs pos value len v rest e f r digit lacks more h =
    subst (Lacks 47) (rest_of b bs (nat_lt 0 len) _ value v rest h) lacks

digits_lack : (pos : Position) (value len : ℕ) (xs : List ℕ) (v : ℕ) (rest : List ℕ) → digits_from pos value len xs ≡ Ok (v, rest) → Lacks 47 rest → Lacks 47 xs
unfolding digits_from
digits_lack pos value len [] v rest h lacks = tt
digits_lack pos value len (b ∷ bs) v rest h lacks =
    digit_case (is_ascii_digit b) (is_leading_zero value len) (nat_le (2 ^ 64) (value * 10 + (b - 48))) b bs pos value len v rest _ _ (digits_from pos (value * 10 + (b - 48)) (len + 1) bs) refl lacks
    (λ k. digits_lack pos (value * 10 + (b - 48)) (len + 1) bs v rest k lacks) h

dot_case : (t : Bool) (b : ℕ) (bs rest : List ℕ) (e : Error) → (b == 46) ≡ t → cond t (Ok bs) (Err e) ≡ Ok rest → Lacks 47 rest → Lacks 47 (b ∷ bs)
dot_case true b bs rest e is h lacks = let same : bs ≡ rest = cc in (same_other b 46 is refl, subst (Lacks 47) (sym same) lacks)
dot_case false b bs rest e is h lacks = cc

dot_lacks : (pos : Position) (xs rest : List ℕ) → dot_of pos xs ≡ Ok rest → Lacks 47 rest → Lacks 47 xs
dot_lacks pos [] rest h lacks = tt
dot_lacks pos (b ∷ bs) rest h lacks = dot_case (b == 46) b bs rest _ refl h lacks

-- ---- identifiers

end_case : (z a b : Bool) (acc seg n : ℕ) (e f : Error) → (acc == 0) ≡ a → (seg == 0) ≡ z → cond z (cond a (Ok 0) (Err e)) (cond b (Err f) (Ok (acc + seg))) ≡ Ok n → n ≡ acc + seg
end_case true true b acc seg n e f no_acc no_seg h =
    let none : 0 ≡ n = cc in
    let one : acc ≡ 0 = grind (arith, nat_tests) in
    let two : seg ≡ 0 = grind (arith, nat_tests) in
    omega (arith, none, one, two)
end_case true false b acc seg n e f no_acc no_seg h = cc
end_case false a true acc seg n e f no_acc no_seg h = cc
end_case false a false acc seg n e f no_acc no_seg h = let same : acc + seg ≡ n = cc in sym same

end_is : (pos : Position) (acc seg : ℕ) (nondigit lead : Bool) (n : ℕ) → part_end pos acc seg nondigit lead ≡ Ok n → n ≡ acc + seg
end_is pos acc seg nondigit lead n h = end_case (seg == 0) (acc == 0) (is_bad_zero pos seg nondigit lead) acc seg n _ _ refl refl h

-- what was scanned lacks it if the rest does
abbrev IsScanned : ℕ → List ℕ → ℕ → Type 0
IsScanned from xs n = (k : ℕ) × (n ≡ from + k) × (Lacks 47 (drop k xs) → Lacks 47 xs)

one_more : (from next b : ℕ) (bs : List ℕ) (n : ℕ) → next ≡ from + 1 → (b == 47) ≡ false → IsScanned next bs n → IsScanned from (b ∷ bs) n
one_more from next b bs n is other h = (suc h.0, omega (arith, is, h.1), λ lacks. (other, h.2 lacks))

scan_case : (l d t z w : Bool) (from letter dot b : ℕ) (bs : List ℕ) (n : ℕ) (e f : Error) (r s u v : Result ℕ Error) → is_letter b ≡ l → is_ascii_digit b ≡ d → (b == 46) ≡ t
    → letter ≡ from + 1 → dot ≡ from + 1
    → (r ≡ Ok n → IsScanned letter bs n) → (s ≡ Ok n → IsScanned letter bs n) → (u ≡ Ok n → IsScanned dot bs n) → (v ≡ Ok n → n ≡ from)
    → cond l r (cond d s (cond t (cond z (Err e) (cond w (Err f) u)) v)) ≡ Ok n → IsScanned from (b ∷ bs) n
scan_case true d t z w from letter dot b bs n e f r s u v is_l is_d is_t by by_dot on_r on_s on_u on_v h = one_more from letter b bs n by (letter_other b is_l) (on_r h)
scan_case false true t z w from letter dot b bs n e f r s u v is_l is_d is_t by by_dot on_r on_s on_u on_v h = one_more from letter b bs n by (digit_other b is_d) (on_s h)
scan_case false false true z w from letter dot b bs n e f r s u v is_l is_d is_t by by_dot on_r on_s on_u on_v h =
    one_more from dot b bs n by_dot (same_other b 46 is_t refl) (on_u (no_err w f u n (no_err z e (cond w (Err f) u) n h)))
scan_case false false false z w from letter dot b bs n e f r s u v is_l is_d is_t by by_dot on_r on_s on_u on_v h =
    let same : n ≡ from = on_v h in
    (zero, omega (arith, same), λ lacks. lacks)

scanned : (pos : Position) (acc seg : ℕ) (nondigit lead : Bool) (xs : List ℕ) (n : ℕ) → scan pos acc seg nondigit lead xs ≡ Ok n → IsScanned (acc + seg) xs n
unfolding scan
scanned pos acc seg nondigit lead [] n h =
    let same : n ≡ acc + seg = end_is pos acc seg nondigit lead n h in
    (zero, omega (arith, same), λ lacks. lacks)
scanned pos acc seg nondigit lead (b ∷ bs) n h =
    scan_case (is_letter b) (is_ascii_digit b) (b == 46) (seg == 0) (is_bad_zero pos seg nondigit lead) (acc + seg) (acc + (seg + 1)) ((acc + seg + 1) + 0) b bs n _ _
    (scan pos acc (seg + 1) true lead bs) (scan pos acc (seg + 1) nondigit (starts_zero lead seg b) bs) (scan pos (acc + seg + 1) 0 false false bs) (part_end pos acc seg nondigit lead)
    refl refl refl (omega arith) (omega arith)
    (λ k. scanned pos acc (seg + 1) true lead bs n k) (λ k. scanned pos acc (seg + 1) nondigit (starts_zero lead seg b) bs n k)
    (λ k. scanned pos (acc + seg + 1) 0 false false bs n k) (λ k. end_is pos acc seg nondigit lead n k) h

some_case : (t : Bool) (n : ℕ) (xs : List ℕ) (e : Error) (x : List ℕ × List ℕ) → cond t (Err e) (Ok (take n xs, drop n xs)) ≡ Ok x → drop n xs ≡ x.1
some_case true n xs e x h = cc
some_case false n xs e x h = let same : (take n xs, drop n xs) ≡ x = cc in ap (λ (p : List ℕ × List ℕ). p.1) same

identifier_lacks : (pos : Position) (xs : List ℕ) (x : List ℕ × List ℕ) → identifier_of pos xs ≡ Ok x → Lacks 47 x.1 → Lacks 47 xs
identifier_lacks pos xs x h lacks =
    let n = bind_ok (identifier_len pos xs) _ x h in
    let by = scanned pos 0 0 false false xs n.0 n.1 in
    let same : n.0 ≡ by.0 = omega (arith, by.1) in
    by.2 (subst (λ m. Lacks 47 (drop m xs)) same (subst (Lacks 47) (sym (some_case (n.0 == 0) n.0 xs _ x n.2)) lacks))

-- ---- the parts after the numbers

end_lacks : (pos : Position) (major minor patch : ℕ) (pre build xs : List ℕ) (p : Parts) → tail_end pos major minor patch pre build xs ≡ Ok p → Lacks 47 xs
end_lacks pos major minor patch pre build [] p h = tt
end_lacks pos major minor patch pre build (b ∷ bs) p h = cc

build_case : (t : Bool) (b : ℕ) (bs : List ℕ) (p : Parts) (r s : Result Parts Error) → (b == 43) ≡ t → (r ≡ Ok p → Lacks 47 bs) → (s ≡ Ok p → Lacks 47 (b ∷ bs)) → cond t r s ≡ Ok p
    → Lacks 47 (b ∷ bs)
build_case true b bs p r s is on_r on_s h = (same_other b 43 is refl, on_r h)
build_case false b bs p r s is on_r on_s h = on_s h

build_lacks : (pos : Position) (major minor patch : ℕ) (pre xs : List ℕ) (p : Parts) → tail_build pos major minor patch pre xs ≡ Ok p → Lacks 47 xs
build_lacks pos major minor patch pre [] p h = tt
build_lacks pos major minor patch pre (b ∷ bs) p h =
    build_case (b == 43) b bs p (identifier_of place.Build bs >>= λ x. tail_end place.Build major minor patch pre x.0 x.1) (tail_end pos major minor patch pre [] (b ∷ bs)) refl
    (λ k.
    let x = bind_ok (identifier_of place.Build bs) _ p k in
    identifier_lacks place.Build bs x.0 x.1 (end_lacks place.Build major minor patch pre x.0.0 x.0.1 p x.2))
    (λ k. end_lacks pos major minor patch pre [] (b ∷ bs) p k) h

pre_case : (t : Bool) (b : ℕ) (bs : List ℕ) (p : Parts) (r s : Result Parts Error) → (b == 45) ≡ t → (r ≡ Ok p → Lacks 47 bs) → (s ≡ Ok p → Lacks 47 (b ∷ bs)) → cond t r s ≡ Ok p
    → Lacks 47 (b ∷ bs)
pre_case true b bs p r s is on_r on_s h = (same_other b 45 is refl, on_r h)
pre_case false b bs p r s is on_r on_s h = on_s h

pre_lacks : (major minor patch : ℕ) (xs : List ℕ) (p : Parts) → tail_pre major minor patch xs ≡ Ok p → Lacks 47 xs
pre_lacks major minor patch [] p h = tt
pre_lacks major minor patch (b ∷ bs) p h =
    pre_case (b == 45) b bs p (identifier_of place.Pre bs >>= λ x. tail_build place.Pre major minor patch x.0 x.1) (tail_build place.Patch major minor patch [] (b ∷ bs)) refl
    (λ k.
    let x = bind_ok (identifier_of place.Pre bs) _ p k in
    identifier_lacks place.Pre bs x.0 x.1 (build_lacks place.Pre major minor patch x.0.0 x.0.1 p x.2))
    (λ k. build_lacks place.Patch major minor patch [] (b ∷ bs) p k) h

-- ---- a version

pub version_slashless : (version : List ℕ) → IsTrue (is_ok (version_parts version)) → Lacks 47 version
version_slashless version is =
    let all = ok_of (version_parts version) is in
    let x = bind_ok (numeric place.Major version) _ all.0 (no_err (length version == 0) _ _ all.0 all.1) in
    let t = bind_ok (dot_of place.Major x.0.1) _ all.0 x.2 in
    let y = bind_ok (numeric place.Minor t.0) _ all.0 t.2 in
    let u = bind_ok (dot_of place.Minor y.0.1) _ all.0 y.2 in
    let z = bind_ok (numeric place.Patch u.0) _ all.0 u.2 in
    let last : Lacks 47 z.0.1 = pre_lacks x.0.0 y.0.0 z.0.0 z.0.1 all.0 z.2 in
    digits_lack place.Major 0 0 version x.0.0 x.0.1 x.1 (dot_lacks place.Major x.0.1 t.0 t.1
    (digits_lack place.Minor 0 0 t.0 y.0.0 y.0.1 y.1 (dot_lacks place.Minor y.0.1 u.0 u.1
    (digits_lack place.Patch 0 0 u.0 z.0.0 z.0.1 z.1 last))))
