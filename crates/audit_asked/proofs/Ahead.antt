-- Lists that are built from the front.
use Rattle.std.proofs.Common.{◌≡◌, ℕ, suc, ◌+◌, ◌<◌, List, [], ◌∷◌, ◌++◌, length, drop, take, get_or, Result, Ok, Err, refl, arith, append_assoc, drop-cons, length-take-le}
use Rattle.std.proofs.lemmas.List.{take_more}
use Rattle.tame_names.specs.Standing.{Host}
use Rattle.audit_advisory.specs.declared.advisories.Advisory.{Advisory}
use Rattle.audit_asked.specs.Advisories.{advisories_from, advisory_at}
use Rattle.audit_asked.specs.Refusals.{Refused}
use Rattle.audit_asked.specs.Texts.{go_on}

-- what is done, before what is left
abbrev pub before : {A E : Type 0} → List A → Result (List A) E → Result (List A) E
before done (Ok left) = Ok (done ++ left)
before done (Err e) = Err e

-- one more item is done
pub ahead : {A : Type 0} (done : List A) (a : A) (left : Result (List A) Refused)
    → before done (go_on left (λ more. Ok (a ∷ more))) ≡ before (done ++ a ∷ []) left
ahead done a (Ok left) = rw append_assoc
ahead done a (Err e) = refl

-- the next advisory is read
pub next : (host : Host) (n : ℕ) (paths : List (List ℕ)) (path : List ℕ) (done : List Advisory) (read : Advisory)
    → n < length paths → path ≡ get_or paths n path → advisory_at host n path ≡ Ok read
    → before done (advisories_from host n (drop n paths)) ≡ before (done ++ read ∷ []) (advisories_from host (suc n) (drop (suc n) paths))
next host n paths path done read within is e =
    rw (drop-cons paths n path, ← is, e) (ahead done read (advisories_from host (suc n) (drop (suc n) paths)))

-- one more item after the others is read after them
read_behind : (a : Result Advisory Refused) (front : Result (List Advisory) Refused) (last : Result Advisory Refused)
    → go_on a (λ read. go_on (go_on front (λ items. go_on last (λ item. Ok (items ++ item ∷ [])))) (λ more. Ok (read ∷ more)))
    ≡ go_on (go_on a (λ read. go_on front (λ more. Ok (read ∷ more)))) (λ items. go_on last (λ item. Ok (items ++ item ∷ [])))
read_behind (Err e) front last = refl
read_behind (Ok a) (Err e) last = refl
read_behind (Ok a) (Ok front) (Err e) = refl
read_behind (Ok a) (Ok front) (Ok last) = refl

from_behind : (host : Host) (n : ℕ) (paths : List (List ℕ)) (path : List ℕ)
    → advisories_from host n (paths ++ path ∷ []) ≡ go_on (advisories_from host n paths) (λ items. go_on (advisory_at host (n + length paths) path) (λ item. Ok (items ++ item ∷ [])))
from_behind host n [] path =
    let e : n + 0 ≡ n = omega arith in
    rw e refl
from_behind host n (first ∷ paths) path =
    let e : n + suc (length paths) ≡ suc n + length paths = omega arith in
    rw (e, from_behind host (suc n) paths path) (read_behind (advisory_at host n first) (advisories_from host (suc n) paths) (advisory_at host (suc n + length paths) path))

-- those before the next were read, and so is the next
pub front_read : (host : Host) (n : ℕ) (paths : List (List ℕ)) (path : List ℕ) (done : List Advisory) (read : Advisory)
    → n < length paths → path ≡ get_or paths n path → advisories_from host 0 (take n paths) ≡ Ok done → advisory_at host n path ≡ Ok read
    → advisories_from host 0 (take (n + 1) paths) ≡ Ok (done ++ read ∷ [])
front_read host n paths path done read within is front e =
    let more : take (n + 1) paths ≡ take n paths ++ path ∷ [] = rw (← is) at (take_more paths n path within) in
    let len : 0 + length (take n paths) ≡ n = omega (arith, length-take-le n paths (omega (arith, within))) in
    rw (more, from_behind host 0 (take n paths) path, front, len, e) refl
