-- Changes that were begun, or done in part.
use Rattle.std.proofs.Common.{◌≡◌, inl, inr, ℕ, List, [], ◌∷◌, ◌++◌, Result, Ok, Err, refl, sym, ap, ◌∙◌, subst}
use Rattle.std.specs.Prelude.{OnErr}
use Rattle.tame_names.specs.Standing.{Host}
use Rattle.tame_local.specs.Builders.{HostChange, Makes, Creates, AreBegun, after, after_change, created}
use Rattle.vendor_registry.specs.Built.{AreFilled, IsFilled, IsTaken, IsTakenAt, all_made, path_made, paths_made}
use Rattle.vendor_registry.specs.Vendored.{on, paths_of}
use Rattle.vendor_registry.specs.declared.checks.CheckedCrate.{CheckedCrate}

pub none_begun : (cs : List HostChange) (h : Host) → AreBegun cs h h
none_begun [] h = refl
none_begun (Makes folder ∷ cs) h = inl (inl refl)
none_begun (Creates path bytes ∷ cs) h = inl (inl refl)

pub all_begun : (cs : List HostChange) (h : Host) → AreBegun cs h (after cs h)
all_begun [] h = refl
all_begun (c ∷ cs) h = inr (all_begun cs (after_change c h))

pub begun_front : (bs cs : List HostChange) (h now : Host) → AreBegun bs h now → AreBegun (bs ++ cs) h now
begun_front [] cs h now is = subst (λ x. AreBegun cs h x) (sym is) (none_begun cs h)
begun_front (b ∷ bs) cs h now (inl is) = inl is
begun_front (b ∷ bs) cs h now (inr is) = inr (begun_front bs cs (after_change b h) now is)

pub begun_behind : (bs cs : List HostChange) (h now : Host) → AreBegun cs (after bs h) now → AreBegun (bs ++ cs) h now
begun_behind [] cs h now is = is
begun_behind (b ∷ bs) cs h now is = inr (begun_behind bs cs (after_change b h) now is)

-- ---- paths that are left

pub begun_here : (folder : List ℕ) (cs : List CheckedCrate) (q p : List ℕ) (ps left : List (List ℕ)) (h now : Host) → left ≡ q ∷ ps → p ≡ q
    → AreBegun (path_made folder p (on p cs)) h now → AreBegun (paths_made folder cs left) h now
begun_here folder cs q p ps left h now at same is =
    subst (λ (l : List (List ℕ)). AreBegun (paths_made folder cs l) h now) (sym at)
    (begun_front (path_made folder q (on q cs)) (paths_made folder cs ps) h now (subst (λ (r : List ℕ). AreBegun (path_made folder r (on r cs)) h now) same is))

pub begun_more : (folder : List ℕ) (cs : List CheckedCrate) (q p : List ℕ) (ps left : List (List ℕ)) (h mid now : Host) → left ≡ q ∷ ps → p ≡ q
    → mid ≡ after (path_made folder p (on p cs)) h → AreBegun (paths_made folder cs ps) mid now → AreBegun (paths_made folder cs left) h now
begun_more folder cs q p ps left h mid now at same done is =
    let made : mid ≡ after (path_made folder q (on q cs)) h = done ∙ ap (λ (r : List ℕ). after (path_made folder r (on r cs)) h) same in
    subst (λ (l : List (List ℕ)). AreBegun (paths_made folder cs l) h now) (sym at)
    (begun_behind (path_made folder q (on q cs)) (paths_made folder cs ps) h now (subst (λ (m : Host). AreBegun (paths_made folder cs ps) m now) made is))

pub filled_more : (folder : List ℕ) (cs : List CheckedCrate) (q p : List ℕ) (ps left : List (List ℕ)) (h mid : Host) → left ≡ q ∷ ps → p ≡ q
    → mid ≡ after (path_made folder p (on p cs)) h → IsFilled folder p (on p cs) h → AreFilled folder cs ps mid → AreFilled folder cs left h
filled_more folder cs q p ps left h mid at same done is more =
    let made : mid ≡ after (path_made folder q (on q cs)) h = done ∙ ap (λ (r : List ℕ). after (path_made folder r (on r cs)) h) same in
    let here : IsFilled folder q (on q cs) h = subst (λ (r : List ℕ). IsFilled folder r (on r cs) h) same is in
    subst (λ (l : List (List ℕ)). AreFilled folder cs l h) (sym at) (here, subst (λ (m : Host). AreFilled folder cs ps m) made more)

pub filled_none : (folder : List ℕ) (cs : List CheckedCrate) (left : List (List ℕ)) (h : Host) → left ≡ [] → AreFilled folder cs left h
filled_none folder cs left h none = subst (λ (l : List (List ℕ)). AreFilled folder cs l h) (sym none) tt

pub taken_here : (folder : List ℕ) (cs : List CheckedCrate) (q p : List ℕ) (ps left : List (List ℕ)) (h now : Host) → left ≡ q ∷ ps → p ≡ q
    → IsTakenAt folder p (on p cs) h → now ≡ h → IsTaken folder cs left h now
taken_here folder cs q p ps left h now at same some stays =
    subst (λ (l : List (List ℕ)). IsTaken folder cs l h now) (sym at) (inl (subst (λ (r : List ℕ). IsTakenAt folder r (on r cs) h) same some, stays))

pub taken_more : (folder : List ℕ) (cs : List CheckedCrate) (q p : List ℕ) (ps left : List (List ℕ)) (h mid now : Host) → left ≡ q ∷ ps → p ≡ q
    → mid ≡ after (path_made folder p (on p cs)) h → IsFilled folder p (on p cs) h → IsTaken folder cs ps mid now → IsTaken folder cs left h now
taken_more folder cs q p ps left h mid now at same done is taken =
    let made : mid ≡ after (path_made folder q (on q cs)) h = done ∙ ap (λ (r : List ℕ). after (path_made folder r (on r cs)) h) same in
    let here : IsFilled folder q (on q cs) h = subst (λ (r : List ℕ). IsFilled folder r (on r cs) h) same is in
    subst (λ (l : List (List ℕ)). IsTaken folder cs l h now) (sym at) (inr (here, subst (λ (m : Host). IsTaken folder cs ps m now) made taken))

-- ---- all of them

pub on_err : {A E : Type 0} (r : Result A E) (P : Type 0) → P → OnErr r P
on_err (Ok a) P h = tt
on_err (Err e) P h = h

pub created_begun : (to : List ℕ) (cs : List CheckedCrate) (old mid : Host) → mid ≡ after_change (created to) old → AreBegun (all_made to cs) old mid
created_begun to cs old mid made =
    inr (subst (λ (h : Host). AreBegun (paths_made to cs (paths_of cs)) h mid) made (none_begun (paths_made to cs (paths_of cs)) mid))

pub whole_begun : (to : List ℕ) (cs : List CheckedCrate) (old now : Host) → now ≡ after (all_made to cs) old → AreBegun (all_made to cs) old now
whole_begun to cs old now made = subst (λ (h : Host). AreBegun (all_made to cs) old h) (sym made) (all_begun (all_made to cs) old)
