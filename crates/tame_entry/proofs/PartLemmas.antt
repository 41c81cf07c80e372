-- Bytes cut at zero bytes are the parts that give them back, joined.
use Rattle.std.proofs.Common.{◌≡◌, ℕ, List, [], ◌∷◌, ◌++◌, Bool, true, false, cond, not, ◌==◌, refl, sym, ap, subst, ◌∙◌, append_assoc, rules}
use Rattle.std.specs.Prelude.{◌&&◌, ◌↔◌}
use Rattle.std.specs.List.{list_all}
use Rattle.std.proofs.lemmas.Bool.Decides.{nat_tests}
use Rattle.tame_names.specs.Pieces.{ends_with, onto_first, pieces}
use Rattle.tame_entry.specs.Entry.{has_no_zero}
use Rattle.tame_entry.specs.Joined.{AreParts, closed, each_ended}
use Rattle.tame_entry.proofs.Zeros.{and_true, piece_end}

-- ---- no part holds a zero byte

first_of : (a b : Bool) → (a && b) ≡ true → (a ≡ true) × (b ≡ true)
first_of true b h = (refl, h)
first_of false b h = cc

onto_whole : (b : ℕ) (ps : List (List ℕ)) → (b == 0) ≡ false → list_all has_no_zero ps ≡ true → list_all has_no_zero (onto_first b ps) ≡ true
onto_whole b [] hb h = and_true _ true (and_true _ true (ap not hb) refl) refl
onto_whole b (p ∷ ps) hb h = let parts = first_of (has_no_zero p) (list_all has_no_zero ps) h in and_true _ _ (and_true _ _ (ap not hb) parts.0) parts.1

whole_case : (t : Bool) (b : ℕ) (ps : List (List ℕ)) → (b == 0) ≡ t → list_all has_no_zero ps ≡ true → list_all has_no_zero (cond t ([] ∷ ps) (onto_first b ps)) ≡ true
whole_case true b ps hb h = h
whole_case false b ps hb h = onto_whole b ps hb h

pieces_whole : (bytes : List ℕ) → list_all has_no_zero (pieces 0 bytes) ≡ true
pieces_whole [] = refl
pieces_whole (b ∷ bs) = whole_case (b == 0) b (pieces 0 bs) refl (pieces_whole bs)

-- ---- they give the bytes back

pushed : (t : Bool) (b c : ℕ) (cs : List ℕ) → cond t (b ∷ c ∷ cs) (b ∷ c ∷ (cs ++ 0 ∷ [])) ≡ b ∷ cond t (c ∷ cs) (c ∷ (cs ++ 0 ∷ []))
pushed true b c cs = refl
pushed false b c cs = refl

closed_more : (b c : ℕ) (cs : List ℕ) → closed (b ∷ c ∷ cs) ≡ b ∷ closed (c ∷ cs)
closed_more b c cs = pushed (ends_with 0 (c ∷ cs)) b c cs

some_closed : (t : Bool) (c : ℕ) (cs : List ℕ) → cond t (c ∷ cs) (c ∷ (cs ++ 0 ∷ [])) ≡ [] → ⊥
some_closed true c cs h = cc
some_closed false c cs h = cc

onto_ended : (b : ℕ) (xs : List ℕ) (ps : List (List ℕ)) → (xs ≡ [] → ⊥) → xs ≡ each_ended ps → b ∷ xs ≡ each_ended (onto_first b ps)
onto_ended b xs [] some h = absurd (some h)
onto_ended b xs (p ∷ ps) some h = ap (λ (ys : List ℕ). b ∷ ys) h

is_zero : (b : ℕ) → (b == 0) ≡ true → b ≡ 0
is_zero b h = search (rules, nat_tests)

last_ended : (t : Bool) (b : ℕ) → (b == 0) ≡ t → cond t (b ∷ []) (b ∷ 0 ∷ []) ≡ each_ended (cond t ([] ∷ []) (onto_first b []))
last_ended true b h = ap (λ (x : ℕ). x ∷ []) (is_zero b h)
last_ended false b h = refl

ended_case : (t : Bool) (b : ℕ) (xs : List ℕ) (ps : List (List ℕ)) → (b == 0) ≡ t → (xs ≡ [] → ⊥) → xs ≡ each_ended ps → b ∷ xs ≡ each_ended (cond t ([] ∷ ps) (onto_first b ps))
ended_case true b xs ps hb some h = ap (λ (x : ℕ). x ∷ xs) (is_zero b hb) ∙ ap (λ (ys : List ℕ). 0 ∷ ys) h
ended_case false b xs ps hb some h = onto_ended b xs ps some h

pieces_joined : (bytes : List ℕ) → closed bytes ≡ each_ended (pieces 0 bytes)
pieces_joined [] = refl
pieces_joined (b ∷ []) = last_ended (b == 0) b refl
pieces_joined (b ∷ c ∷ cs) =
    closed_more b c cs
    ∙ ended_case (b == 0) b (closed (c ∷ cs)) (pieces 0 (c ∷ cs)) refl (some_closed (ends_with 0 (c ∷ cs)) c cs) (pieces_joined (c ∷ cs))

pub parts_of : (bytes : List ℕ) → AreParts (pieces 0 bytes) bytes
parts_of bytes = record {
  whole = pieces_whole bytes;
  joined = pieces_joined bytes;
}

-- ---- and no other parts do

last_cut : (t : Bool) (b : ℕ) → (b == 0) ≡ t → pieces 0 (cond t (b ∷ []) (b ∷ 0 ∷ [])) ≡ pieces 0 (b ∷ [])
last_cut true b h = refl
last_cut false b h = rw h refl

closed_cut : (bytes : List ℕ) → pieces 0 (closed bytes) ≡ pieces 0 bytes
closed_cut [] = refl
closed_cut (b ∷ []) = last_cut (b == 0) b refl
closed_cut (b ∷ c ∷ cs) =
    ap (pieces 0) (closed_more b c cs)
    ∙ ap (λ (ps : List (List ℕ)). cond (b == 0) ([] ∷ ps) (onto_first b ps)) (closed_cut (c ∷ cs))

ended_cut : (parts : List (List ℕ)) → list_all has_no_zero parts ≡ true → pieces 0 (each_ended parts) ≡ parts
ended_cut [] h = refl
ended_cut (p ∷ ps) h =
    let both = first_of (has_no_zero p) (list_all has_no_zero ps) h in
    ap (pieces 0) (append_assoc p (0 ∷ []) (each_ended ps))
    ∙ piece_end p (each_ended ps) both.0
    ∙ ap (λ (qs : List (List ℕ)). p ∷ qs) (ended_cut ps both.1)

pub only_parts : (bytes : List ℕ) (parts : List (List ℕ)) → AreParts parts bytes → pieces 0 bytes ≡ parts
only_parts bytes parts h = sym (closed_cut bytes) ∙ ap (pieces 0) h.joined ∙ ended_cut parts h.whole

pub pieces_are_parts : (bytes : List ℕ) (parts : List (List ℕ)) → (pieces 0 bytes ≡ parts) ↔ AreParts parts bytes
pieces_are_parts bytes parts = (λ h. are bytes parts h, only_parts bytes parts)
  where
    are : (bytes : List ℕ) (parts : List (List ℕ)) → pieces 0 bytes ≡ parts → AreParts parts bytes
    are bytes parts h = subst (λ (ps : List (List ℕ)). AreParts ps bytes) h (parts_of bytes)
