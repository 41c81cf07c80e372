-- Segments give their path back.
use Rattle.std.proofs.Common.{◌≡◌, ℕ, List, [], ◌∷◌, Bool, true, false, cond, ◌&&◌, ◌==◌, refl, ap, ◌∙◌, rules, arith}
use Rattle.std.specs.Prelude.{⊤}
use Rattle.std.specs.List.{All}
use Rattle.std.proofs.lemmas.Bool.{false≢true}
use Rattle.std.proofs.lemmas.Bool.Decides.{nat_tests}
use Rattle.std.proofs.lemmas.List.Elements.{All-cons}
use Rattle.audit_advisory.specs.Advisories.{onto_segment, segments}
use Rattle.audit_advisory.specs.Segments.{has_colons, joined}

-- there is a first segment
abbrev IsFilled : List (List ℕ) → Type 0
IsFilled [] = ⊥
IsFilled (segment ∷ more) = ⊤

onto-filled : (a : ℕ) (segments : List (List ℕ)) → IsFilled (onto_segment a segments)
onto-filled a [] = tt
onto-filled a (segment ∷ more) = tt

filled : (path : List ℕ) → IsFilled (segments path)
filled [] = tt
filled (a ∷ []) = tt
filled (a ∷ b ∷ bs) = elim (a == 58 && b == 58) as (λ c. IsFilled (cond c ([] ∷ segments bs) (onto_segment a (segments (b ∷ bs))))) [
  | true ↦ tt
  | false ↦ onto-filled a (segments (b ∷ bs))
]

left : (a b : Bool) → (a && b) ≡ true → a ≡ true
left true b h = refl
left false b h = h

right : (a b : Bool) → (a && b) ≡ true → b ≡ true
right true b h = h
right false b h = absurd (false≢true h)

is_colon : (a : ℕ) → (a == 58) ≡ true → a ≡ 58
is_colon a h = search (rules, nat_tests)

-- ---- joined

joined-front : (ss : List (List ℕ)) → IsFilled ss → joined ([] ∷ ss) ≡ 58 ∷ 58 ∷ joined ss
joined-front [] h = absurd h
joined-front (s ∷ more) h = refl

joined-onto : (a : ℕ) (ss : List (List ℕ)) → joined (onto_segment a ss) ≡ a ∷ joined ss
joined-onto a [] = refl
joined-onto a (s ∷ []) = refl
joined-onto a (s ∷ t ∷ more) = refl

colons-front : (a b : ℕ) (bs : List ℕ) → (a == 58 && b == 58) ≡ true → 58 ∷ 58 ∷ bs ≡ a ∷ b ∷ bs
colons-front a b bs h = rw (is_colon a (left (a == 58) (b == 58) h), is_colon b (right (a == 58) (b == 58) h)) refl

pub segments-joined : (path : List ℕ) → joined (segments path) ≡ path
segments-joined [] = refl
segments-joined (a ∷ []) = refl
segments-joined (a ∷ b ∷ bs) =
    elim (a == 58 && b == 58) as (λ c. (a == 58 && b == 58) ≡ c → joined (cond c ([] ∷ segments bs) (onto_segment a (segments (b ∷ bs)))) ≡ a ∷ b ∷ bs) [
      | true ↦ λ e. joined-front (segments bs) (filled bs) ∙ ap (λ xs. 58 ∷ 58 ∷ xs) (segments-joined bs) ∙ colons-front a b bs e
      | false ↦ λ e. joined-onto a (segments (b ∷ bs)) ∙ ap (λ xs. a ∷ xs) (segments-joined (b ∷ bs))
    ] refl

-- ---- no two colons within

-- the first segment is empty, or begins as the path does
abbrev BeginsWith : ℕ → List (List ℕ) → Type 0
BeginsWith b [] = ⊤
BeginsWith b ([] ∷ more) = ⊤
BeginsWith b ((c ∷ cs) ∷ more) = c ≡ b

begins-onto : (b : ℕ) (ss : List (List ℕ)) → BeginsWith b (onto_segment b ss)
begins-onto b [] = refl
begins-onto b (s ∷ more) = refl

begins : (b : ℕ) (bs : List ℕ) → BeginsWith b (segments (b ∷ bs))
begins b [] = refl
begins b (c ∷ cs) = elim (b == 58 && c == 58) as (λ x. BeginsWith b (cond x ([] ∷ segments cs) (onto_segment b (segments (c ∷ cs))))) [
  | true ↦ tt
  | false ↦ begins-onto b (segments (c ∷ cs))
]

abbrev AllApart : List (List ℕ) → Type 0
AllApart [] = ⊤
AllApart (s ∷ more) = (has_colons s ≡ false) × AllApart more

apart-onto : (a b : ℕ) (ss : List (List ℕ)) → (a == 58 && b == 58) ≡ false → BeginsWith b ss → AllApart ss → AllApart (onto_segment a ss)
apart-onto a b [] e h all = (refl, tt)
apart-onto a b ([] ∷ more) e h all = (refl, all.1)
apart-onto a b ((c ∷ cs) ∷ more) e h all =
    let first : (a == 58 && c == 58) ≡ false = ap (λ (x : ℕ). a == 58 && x == 58) h ∙ e in
    ((rw first all.0), all.1)

apart : (path : List ℕ) → AllApart (segments path)
apart [] = (refl, tt)
apart (a ∷ []) = (refl, tt)
apart (a ∷ b ∷ bs) =
    elim (a == 58 && b == 58) as (λ c. (a == 58 && b == 58) ≡ c → AllApart (cond c ([] ∷ segments bs) (onto_segment a (segments (b ∷ bs))))) [
      | true ↦ λ e. (refl, apart bs)
      | false ↦ λ e. apart-onto a b (segments (b ∷ bs)) e (begins b bs) (apart (b ∷ bs))
    ] refl

all-apart : (ss : List (List ℕ)) → AllApart ss → All (λ s. has_colons s ≡ false) ss
all-apart [] h = λ k d low. absurd (omega arith)
all-apart (s ∷ more) h = All-cons (λ s. has_colons s ≡ false) s more h.0 (all-apart more h.1)

pub segments-apart : (path : List ℕ) → All (λ s. has_colons s ≡ false) (segments path)
segments-apart path = all-apart (segments path) (apart path)
