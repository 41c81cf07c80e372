-- Plans: the place of each package's turn.
use Rattle.std.proofs.Common.{◌≡◌, ℕ, zero, suc, ◌+◌, ◌<◌, ◌≤◌, List, [], ◌∷◌, ◌++◌, length, drop, map, slice_index_or, Bool, true, false, cond, Option, Some, None, option_and_then, refl, sym, ap, ◌∙◌, subst, append_assoc, arith}
use Rattle.std.specs.Prelude.{bytes_eq, filter, slice_get}
use Rattle.std.specs.List.{cons_option, enumerate_from, position_from}
use Rattle.std.specs.Option.{option_or}
use Rattle.audit_lock.specs.declared.resolving.Package.{Package}
use Rattle.std.proofs.lemmas.List.{append-nil}
use Rattle.tame_names.specs.Names.{path}
use Rattle.audit_core.specs.AnsweredTurns.{IsAnsweredAt, answered_turn_of}
use Rattle.audit_core.specs.Paths.{defaults, distinct_after, is_among, is_default, place_in}
use Rattle.audit_core.specs.Plans.{ArePlanned, IsPlanned, with_each}
use Rattle.audit_core.specs.Verdicts.{AreVerdicts}
use Rattle.audit_core.specs.declared.asking.AnsweredTurn.{AnsweredTurn}
use Rattle.audit_core.specs.declared.planning.Planned.{Planned}
use Rattle.audit_core.specs.declared.planning.Planned.TheVariants.{Elsewhere, Nameless, Turn}
use Rattle.audit_core.specs.declared.verdicts.Judged.{Judged}
use Rattle.audit_core.specs.declared.verdicts.Verdict.{Verdict}
use Rattle.audit_core.proofs.Lists.{get_place, position-append}

-- ---- one more path

place_kept : (qs : List (List ℕ)) (x q : List ℕ) (i : ℕ) → place_in qs q ≡ Some i → place_in (qs ++ x ∷ []) q ≡ Some i
place_kept qs x q i is = position-append (λ p. bytes_eq p q) 0 qs x ∙ ap (λ o. option_or o (cond (bytes_eq x q) (Some (0 + length qs)) None)) is

planned_kept : (qs : List (List ℕ)) (x : List ℕ) (p : Package) (t : Planned) → IsPlanned qs p t → IsPlanned (qs ++ x ∷ []) p t
planned_kept qs x p Elsewhere h = h
planned_kept qs x p Nameless h = h
planned_kept qs x p (Turn i) h = (h.0, h.1, h.2, place_kept qs x h.1 i h.3)

all_kept : (qs : List (List ℕ)) (x : List ℕ) (ps : List Package) (ts : List Planned) → ArePlanned qs ps ts → ArePlanned (qs ++ x ∷ []) ps ts
all_kept qs x [] [] h = tt
all_kept qs x [] (t ∷ ts) h = absurd h
all_kept qs x (p ∷ ps) [] h = absurd h
all_kept qs x (p ∷ ps) (t ∷ ts) h = (planned_kept qs x p t h.0, all_kept qs x ps ts h.1)

-- what was planned stays so with one more path
pub planned_with : (qs : List (List ℕ)) (o : Option (List ℕ)) (ps : List Package) (ts : List Planned) → ArePlanned qs ps ts → ArePlanned (with_each qs o) ps ts
planned_with qs None ps ts h = h
planned_with qs (Some q) ps ts h = go (is_among q qs)
  where
    go : (b : Bool) → ArePlanned (cond b qs (qs ++ q ∷ [])) ps ts
    go true = h
    go false = all_kept qs q ps ts h

pub planned_more : (qs : List (List ℕ)) (ps : List Package) (ts : List Planned) (p : Package) (t : Planned) → ArePlanned qs ps ts → IsPlanned qs p t → ArePlanned qs (ps ++ p ∷ []) (ts ++ t ∷ [])
planned_more qs [] [] p t h is = (is, tt)
planned_more qs [] (x ∷ ts) p t h is = absurd h
planned_more qs (y ∷ ps) [] p t h is = absurd h
planned_more qs (y ∷ ps) (x ∷ ts) p t h is = (h.0, planned_more qs ps ts p t h.1 is)

next_case : (b : Bool) (seen : List (List ℕ)) (q : List ℕ) (qs : List (List ℕ)) → seen ++ cond b (distinct_after seen qs) (q ∷ distinct_after (seen ++ q ∷ []) qs) ≡ cond b seen (seen ++ q ∷ []) ++ distinct_after (cond b seen (seen ++ q ∷ [])) qs
next_case true seen q qs = refl
next_case false seen q qs = sym (append_assoc seen (q ∷ []) (distinct_after (seen ++ q ∷ []) qs))

-- the paths so far with the next one, before those that what is left adds
pub distinct_next : (seen : List (List ℕ)) (o : Option (List ℕ)) (qs : List (List ℕ)) → seen ++ distinct_after seen (cons_option o qs) ≡ with_each seen o ++ distinct_after (with_each seen o) qs
distinct_next seen None qs = refl
distinct_next seen (Some q) qs = next_case (is_among q seen) seen q qs

-- ---- at a place

pub planned_length : (qs : List (List ℕ)) (ps : List Package) (ts : List Planned) → ArePlanned qs ps ts → length ts ≡ length ps
planned_length qs [] [] h = refl
planned_length qs [] (t ∷ ts) h = absurd h
planned_length qs (p ∷ ps) [] h = absurd h
planned_length qs (p ∷ ps) (t ∷ ts) h = ap suc (planned_length qs ps ts h.1)

pub planned_at : (qs : List (List ℕ)) (ps : List Package) (ts : List Planned) (i : ℕ) (p : Package) → i < length ts → slice_get ps i ≡ Some p → ArePlanned qs ps ts → IsPlanned qs p (slice_index_or ts i Elsewhere)
planned_at qs [] [] i p low at h = absurd (not_low i low)
  where
    not_low : (i : ℕ) → i < 0 → ⊥
    not_low i low = omega arith
planned_at qs [] (t ∷ ts) i p low at h = absurd h
planned_at qs (x ∷ ps) [] i p low at h = absurd h
planned_at qs (x ∷ ps) (t ∷ ts) zero p low at h =
    let same : x ≡ p = cc in
    let P : Package → Type 0 = λ y. IsPlanned qs y t in
    subst P same h.0
planned_at qs (x ∷ ps) (t ∷ ts) (suc i) p low at h = planned_at qs ps ts i p (let less : i < length ts = omega arith in less) at h.1

-- ---- verdicts one after the other

drop_get : (ps : List Package) (i : ℕ) (p : Package) → slice_get ps i ≡ Some p → drop i ps ≡ p ∷ drop (suc i) ps
drop_get [] zero p at = cc
drop_get [] (suc i) p at = cc
drop_get (x ∷ ps) zero p at = let same : x ≡ p = cc in ap (λ (y : Package). y ∷ ps) same
drop_get (x ∷ ps) (suc i) p at = drop_get ps i p at

-- those that what is left from a place on judges
abbrev Left : ℕ → List Package → List (ℕ × Package)
Left i ps = filter (λ p. is_default p.1) (enumerate_from i (drop i ps))

left_case : (b : Bool) (i : ℕ) (ps : List Package) (p : Package) → is_default p ≡ b → slice_get ps i ≡ Some p → Left i ps ≡ cond b ((i, p) ∷ Left (i + 1) ps) (Left (i + 1) ps)
left_case b i ps p is at =
    let next : suc i ≡ i + 1 = omega arith in
    ap (λ (xs : List Package). filter (λ p. is_default p.1) (enumerate_from i xs)) (drop_get ps i p at ∙ ap (λ n. p ∷ drop n ps) next)
    ∙ ap (λ c. cond c ((i, p) ∷ Left (i + 1) ps) (Left (i + 1) ps)) is

-- with verdicts for what is left, those so far are verdicts for all
abbrev pub IsFront : List AnsweredTurn → List Package → ℕ → List Judged → Type 0
IsFront hs ps i js = (rest : List Judged) → AreVerdicts (IsAnsweredAt hs) (filter (λ p. is_default p.1) (enumerate_from i (drop i ps))) rest → AreVerdicts (IsAnsweredAt hs) (defaults ps) (js ++ rest)

pub front_more : (hs : List AnsweredTurn) (ps : List Package) (i : ℕ) (p : Package) (v : Verdict) (js : List Judged) → slice_get ps i ≡ Some p → is_default p ≡ true → IsAnsweredAt hs p.version (path p.name) v → IsFront hs ps i js
    → IsFront hs ps (i + 1) (js ++ record { «package» = i; verdict = v } ∷ [])
front_more hs ps i p v js at is answered_turns front rest h =
    let j : Judged = record { «package» = i; verdict = v } in
    let P : List (ℕ × Package) → Type 0 = λ xs. AreVerdicts (IsAnsweredAt hs) xs (j ∷ rest) in
    let Q : List Judged → Type 0 = λ xs. AreVerdicts (IsAnsweredAt hs) (defaults ps) xs in
    subst Q (sym (append_assoc js (j ∷ []) rest)) (front (j ∷ rest) (subst P (sym (left_case true i ps p is at)) (refl, answered_turns, h)))

pub front_same : (hs : List AnsweredTurn) (ps : List Package) (i : ℕ) (p : Package) (js : List Judged) → slice_get ps i ≡ Some p → is_default p ≡ false → IsFront hs ps i js → IsFront hs ps (i + 1) js
front_same hs ps i p js at is front rest h =
    let P : List (ℕ × Package) → Type 0 = λ xs. AreVerdicts (IsAnsweredAt hs) xs rest in
    front rest (subst P (sym (left_case false i ps p is at)) h)

drop_all : (ps : List Package) (i : ℕ) → length ps ≤ i → drop i ps ≡ []
drop_all [] zero past = refl
drop_all [] (suc i) past = refl
drop_all (p ∷ ps) zero past = absurd (omega (arith, past))
drop_all (p ∷ ps) (suc i) past = drop_all ps i (let less : length ps ≤ i = omega (arith, past) in less)

-- nothing is left
pub front_whole : (hs : List AnsweredTurn) (ps : List Package) (i : ℕ) (js : List Judged) → length ps ≤ i → IsFront hs ps i js → AreVerdicts (IsAnsweredAt hs) (defaults ps) js
front_whole hs ps i js past front =
    let P : List Package → Type 0 = λ xs. AreVerdicts (IsAnsweredAt hs) (filter (λ p. is_default p.1) (enumerate_from i xs)) [] in
    let Q : List Judged → Type 0 = λ xs. AreVerdicts (IsAnsweredAt hs) (defaults ps) xs in
    subst Q (append-nil js) (front [] (subst P (sym (drop_all ps i past)) tt))

-- ---- turns with their answers

low_case : (b : Bool) (n i : ℕ) (more : ℕ) (o : Option ℕ) → cond b (Some n) o ≡ Some i → (o ≡ Some i → i < n + 1 + more) → i < n + suc more
low_case true n i more o h f = let same : n ≡ i = cc in omega (arith, same)
low_case false n i more o h f = let low = f h in omega (arith, low)

place_below : (q : List ℕ) (n : ℕ) (qs : List (List ℕ)) (i : ℕ) → position_from (λ p. bytes_eq p q) n qs ≡ Some i → i < n + length qs
place_below q n [] i h = cc
place_below q n (x ∷ qs) i h = low_case (bytes_eq x q) n i (length qs) _ h (place_below q (n + 1) qs i)

map_length : {A B : Type 0} (f : A → B) (xs : List A) → length (map f xs) ≡ length xs
map_length f [] = refl
map_length f (x ∷ xs) = ap suc (map_length f xs)

-- the place of a turn is one of those that were answered
pub answered_below : (hs : List AnsweredTurn) (q : List ℕ) (i : ℕ) → place_in (map (λ h. h.turn.path) hs) q ≡ Some i → i < length hs
answered_below hs q i at =
    let low : i < 0 + length (map (λ (h : AnsweredTurn). h.turn.path) hs) = place_below q 0 (map (λ h. h.turn.path) hs) i at in
    let same = map_length (λ (h : AnsweredTurn). h.turn.path) hs in
    omega (arith, low, same)

-- what is at the place of a path is its turn with its answer
pub answered_turn_at : (hs : List AnsweredTurn) (q : List ℕ) (i : ℕ) → place_in (map (λ h. h.turn.path) hs) q ≡ Some i → slice_get hs i ≡ answered_turn_of q hs
answered_turn_at hs q i at =
    ap (λ (o : Option ℕ). option_and_then (λ i. slice_get hs i) o) (sym at) ∙ get_place (λ p. bytes_eq p q) (λ (h : AnsweredTurn). h.turn.path) hs
