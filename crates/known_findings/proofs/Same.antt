-- Two findings are the same exactly if their lines are.
use Rattle.std.proofs.Common.{◌≡◌, ℕ, List, [], ◌∷◌, map, Bool, true, false, true≢false, ◌&&◌, Some, bytes_eq, refl, sym, ap, ◌∙◌, subst, rules}
use Rattle.std.specs.Prelude.{unwrap_or}
use Rattle.std.specs.List.{list_any}
use Rattle.std.proofs.lemmas.Slice.Eq.{bytes_eq-Decides}
use Rattle.known_findings.specs.Baselines.{is_equal}
use Rattle.known_findings.specs.Findings.{is_among, is_same, kind_of, kind_word, finding_of, line, same_kind}
use Rattle.known_findings.specs.declared.findings.Finding.{Finding}
use Rattle.known_findings.specs.declared.findings.FindingKind.{FindingKind}
use Rattle.known_findings.proofs.RoundTrip.{line_back, word_back}

bytes_same : (xs ys : List ℕ) → xs ≡ ys → bytes_eq xs ys ≡ true
bytes_same xs ys h = search (rules, bytes_eq-Decides)

both_ways : (s t : Bool) → (s ≡ true → t ≡ true) → (t ≡ true → s ≡ true) → s ≡ t
both_ways true t f g = sym (f refl)
both_ways false true f g = g refl
both_ways false false f g = refl

first : (a b : Bool) → (a && b) ≡ true → a ≡ true
first true b h = refl
first false b h = h

second : (a b : Bool) → (a && b) ≡ true → b ≡ true
second true b h = h
second false true h = refl
second false false h = h

pub inside_some : {A : Type 0} (a b : A) → Some a ≡ Some b → a ≡ b
inside_some a b h = ap (λ o. unwrap_or o a) h

abbrev made : FindingKind → List ℕ → List ℕ → List ℕ → List ℕ → Finding
made k i n v s = record { kind = k; id = i; name = n; version = v; source = s }

-- the same words are those of the same kind
kinds : (a b : FindingKind) → same_kind a b ≡ true → a ≡ b
kinds a b h =
    inside_some a b (sym (word_back a) ∙ ap kind_of ((bytes_eq-Decides (kind_word a) (kind_word b)).0 h) ∙ word_back b)

pub same_finding : (f g : Finding) → is_same f g ≡ true → f ≡ g
same_finding f g h =
    let four = first _ _ h in
    let three = first _ _ four in
    let two = first _ _ three in
    let k : f.kind ≡ g.kind = kinds f.kind g.kind (first _ _ two) in
    let i : f.id ≡ g.id = (bytes_eq-Decides f.id g.id).0 (second _ _ two) in
    let n : f.name ≡ g.name = (bytes_eq-Decides f.name g.name).0 (second _ _ three) in
    let v : f.version ≡ g.version = (bytes_eq-Decides f.version g.version).0 (second _ _ four) in
    let s : f.source ≡ g.source = (bytes_eq-Decides f.source g.source).0 (second _ _ h) in
    ap (λ x. made x f.id f.name f.version f.source) k ∙ ap (λ x. made g.kind x f.name f.version f.source) i
    ∙ ap (λ x. made g.kind g.id x f.version f.source) n ∙ ap (λ x. made g.kind g.id g.name x f.source) v
    ∙ ap (λ x. made g.kind g.id g.name g.version x) s

pub is_itself : (f : Finding) → is_same f f ≡ true
is_itself f =
    rw (bytes_same (kind_word f.kind) (kind_word f.kind) refl, bytes_same f.id f.id refl, bytes_same f.name f.name refl, bytes_same f.version f.version refl, bytes_same f.source f.source refl) refl

pub same_line : (f g : Finding) → line f ≡ line g → f ≡ g
same_line f g h = inside_some f g (sym (line_back f) ∙ ap finding_of h ∙ line_back g)

by_line : (f g : Finding) → bytes_eq (line g) (line f) ≡ is_same f g
by_line f g =
    both_ways (bytes_eq (line g) (line f)) (is_same f g)
    (λ h. subst (λ (x : Finding). is_same f x ≡ true) (sym (same_line g f ((bytes_eq-Decides (line g) (line f)).0 h))) (is_itself f))
    (λ h. bytes_same (line g) (line f) (ap line (sym (same_finding f g h))))

-- a finding is among these exactly if its line is among theirs
pub among_lines : (f : Finding) (fs : List Finding) → list_any (λ l. bytes_eq l (line f)) (map line fs) ≡ is_among f fs
among_lines f [] = refl
among_lines f (g ∷ gs) = rw (by_line f g, among_lines f gs) refl

-- ---- lists of findings

pub equal_lists : (fs gs : List Finding) → is_equal fs gs ≡ true → fs ≡ gs
equal_lists [] [] h = refl
equal_lists [] (g ∷ gs) h = absurd (true≢false (sym h))
equal_lists (f ∷ fs) [] h = absurd (true≢false (sym h))
equal_lists (f ∷ fs) (g ∷ gs) h =
    let head : f ≡ g = same_line f g ((bytes_eq-Decides (line f) (line g)).0 (first _ _ h)) in
    let tail : fs ≡ gs = equal_lists fs gs (second _ _ h) in
    ap (λ (x : Finding). x ∷ fs) head ∙ ap (λ (xs : List Finding). g ∷ xs) tail

pub equals_itself : (fs : List Finding) → is_equal fs fs ≡ true
equals_itself [] = refl
equals_itself (f ∷ fs) = rw (bytes_same (line f) (line f) refl) (equals_itself fs)
