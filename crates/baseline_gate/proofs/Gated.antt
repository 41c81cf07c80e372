-- When nothing is unlisted, and when something is.
use Rattle.std.proofs.Common.{◌≡◌, ℕ, List, [], ◌∷◌, ◌++◌, Bool, true, false, true≢false, cond, not, arith, refl, sym, ap, ◌∙◌}
use Rattle.std.specs.Prelude.{◌||◌}
use Rattle.known_findings.specs.Baselines.{listed, written}
use Rattle.known_findings.specs.Findings.{is_among, is_same, line}
use Rattle.known_findings.specs.declared.findings.Finding.{Finding}
use Rattle.known_findings.proofs.Same.{is_itself, same_finding}
use Rattle.known_findings.proofs.Sets.{is_set}
use Rattle.baseline_gate.specs.Gates.{gate_status, unlisted}
use Rattle.baseline_gate.specs.Laws.{HasNew}

or_right : (a b : Bool) → b ≡ true → (a || b) ≡ true
or_right true b e = refl
or_right false b e = e

-- ---- all are known

pub nothing : (fs : List Finding) → gate_status fs ≡ 0 → fs ≡ []
nothing [] h = refl
nothing (f ∷ fs) h = let same : 1 ≡ 0 = h in absurd (omega (arith, same))

-- if the first is known, so are the others
first_known : (b : Bool) (g : Finding) (left : List Finding) → cond (not b) (g ∷ left) left ≡ [] → (b ≡ true) × (left ≡ [])
first_known true g left h = (refl, h)
first_known false g left h = cc

all_known : (baseline fs : List Finding) → unlisted baseline fs ≡ []
    → (f : Finding) → is_among f fs ≡ true → is_among f baseline ≡ true
all_known baseline [] h f among = absurd (true≢false (sym among))
all_known baseline (g ∷ gs) h f among =
    let known = first_known (is_among g baseline) g (unlisted baseline gs) h in
    go (is_same f g) refl known.0 among (all_known baseline gs known.1 f)
  where
    go : (b : Bool) → is_same f g ≡ b → is_among g baseline ≡ true → (b || is_among f gs) ≡ true
        → (is_among f gs ≡ true → is_among f baseline ≡ true) → is_among f baseline ≡ true
    go true e k a more = ap (λ (x : Finding). is_among x baseline) (same_finding f g e) ∙ k
    go false e k a more = more a

none_unlisted : (baseline fs : List Finding) → ((f : Finding) → is_among f fs ≡ true → is_among f baseline ≡ true)
    → unlisted baseline fs ≡ []
none_unlisted baseline [] h = refl
none_unlisted baseline (g ∷ gs) h =
    let known : is_among g baseline ≡ true = h g (rw (is_itself g) refl) in
    rw known (none_unlisted baseline gs (λ f a. h f (or_right (is_same f g) (is_among f gs) a)))

pub passed : (baseline fs : List Finding) → gate_status (unlisted baseline fs) ≡ 0
    → (f : Finding) → is_among f fs ≡ true → is_among f baseline ≡ true
passed baseline fs h = all_known baseline fs (nothing (unlisted baseline fs) h)

pub passes : (baseline fs : List Finding) → ((f : Finding) → is_among f fs ≡ true → is_among f baseline ≡ true)
    → gate_status (unlisted baseline fs) ≡ 0
passes baseline fs h = ap gate_status (none_unlisted baseline fs h)

pub own : (fs : List Finding) → gate_status (unlisted (listed fs) fs) ≡ 0
own fs = passes (listed fs) fs (λ f among. (is_set fs).same f ∙ among)

-- ---- one is new

new_behind : (baseline : List Finding) (g : Finding) (gs : List Finding) → HasNew baseline gs → HasNew baseline (g ∷ gs)
new_behind baseline g gs h = record {
  new = h.new;
  found = or_right (is_same h.new g) (is_among h.new gs) h.found;
  unknown = h.unknown;
}

new_here : (baseline : List Finding) (g : Finding) (gs : List Finding) → is_among g baseline ≡ false → HasNew baseline (g ∷ gs)
new_here baseline g gs e = record { new = g; found = rw (is_itself g) refl; unknown = e }

pub failed : (baseline fs : List Finding) → gate_status (unlisted baseline fs) ≡ 1 → HasNew baseline fs
failed baseline [] h = cc
failed baseline (g ∷ gs) h = go (is_among g baseline) refl h (failed baseline gs)
  where
    go : (b : Bool) → is_among g baseline ≡ b → gate_status (cond (not b) (g ∷ unlisted baseline gs) (unlisted baseline gs)) ≡ 1
        → (gate_status (unlisted baseline gs) ≡ 1 → HasNew baseline gs) → HasNew baseline (g ∷ gs)
    go true e k more = new_behind baseline g gs (more k)
    go false e k more = new_here baseline g gs e

-- if the first is known, a new one among these comes after it
not_first : (baseline : List Finding) (g : Finding) (gs : List Finding) → is_among g baseline ≡ true
    → HasNew baseline (g ∷ gs) → HasNew baseline gs
not_first baseline g gs known h = go (is_same h.new g) refl h.found
  where
    go : (b : Bool) → is_same h.new g ≡ b → (b || is_among h.new gs) ≡ true → HasNew baseline gs
    go true e k =
        absurd (true≢false (sym known ∙ ap (λ (x : Finding). is_among x baseline) (sym (same_finding h.new g e)) ∙ h.unknown))
    go false e k = record { new = h.new; found = k; unknown = h.unknown }

pub fails : (baseline fs : List Finding) → HasNew baseline fs → gate_status (unlisted baseline fs) ≡ 1
fails baseline [] h = absurd (true≢false (sym h.found))
fails baseline (g ∷ gs) h = go (is_among g baseline) refl (fails baseline gs)
  where
    go : (b : Bool) → is_among g baseline ≡ b → (HasNew baseline gs → gate_status (unlisted baseline gs) ≡ 1)
        → gate_status (cond (not b) (g ∷ unlisted baseline gs) (unlisted baseline gs)) ≡ 1
    go true e more = more (not_first baseline g gs e h)
    go false e more = refl

-- ---- what is printed

ended : (l rest : List ℕ) → (l ++ 10 ∷ []) ++ rest ≡ [] → ⊥
ended [] rest h = cc
ended (b ∷ bs) rest h = cc

pub silent : (fs : List Finding) → gate_status fs ≡ 0 → written fs ≡ []
unfolding written
silent fs h = ap written (nothing fs h)

pub unprinted : (fs : List Finding) → written fs ≡ [] → gate_status fs ≡ 0
unfolding written
unprinted [] h = refl
unprinted (f ∷ fs) h = absurd (ended (line f) (written fs) h)
