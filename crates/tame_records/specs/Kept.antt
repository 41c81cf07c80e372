-- Things of which each is kept once, in no promised order.
use Rattle.std.specs.Prelude.{◌≡◌, ◌≢◌, ◌⊎◌, List, ◌∷◌, ◌++◌, All, Contains, Option, Some, None}

-- the same things and this one, somewhere among them
abbrev pub IsOneMore : {A : Type 0} → List A → A → List A → Type 0
IsOneMore {A} before x after =
    (front : List A) × (back : List A) × (before ≡ front ++ back) × (after ≡ front ++ x ∷ back)

-- what is kept after one more thing: the same if it is among them, and else one more, which
-- equals none of those before
abbrev pub KeptOnce : {A : Type 0} → List A → A → List A → Type 0
KeptOnce before x after =
    (Contains before x × (after ≡ before))
    ⊎ (All (λ y. y ≢ x) before × IsOneMore before x after)

-- the same after one thing, and after another if there is one
abbrev pub KeptBoth : {A : Type 0} → List A → A → Option A → List A → Type 0
KeptBoth before x None after = KeptOnce before x after
KeptBoth {A} before x (Some y) after =
    (between : List A) × KeptOnce before x between × KeptOnce between y after
