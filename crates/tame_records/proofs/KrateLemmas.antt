-- One more line of a crate's lines.
use Rattle.std.proofs.Common.{◌≡◌, ℕ, ◌+◌, List, [], ◌∷◌, ◌++◌, length, Option, Some, None, option_map, refl, ap, ◌∙◌, sym, arith}
use Rattle.std.specs.List.{position_from}
use Rattle.tame_records.specs.Krates.{has_no_record, records_of}
use Rattle.tame_records.specs.Record.{record_of}
use Rattle.tame_records.specs.declared.versions.IndexVersion.{IndexVersion}
use Rattle.tame_records.proofs.Ahead.{before}

assoc : (vs : List IndexVersion) (v : IndexVersion) (ys : List IndexVersion) → vs ++ v ∷ ys ≡ (vs ++ v ∷ []) ++ ys
assoc [] v ys = refl
assoc (w ∷ ws) v ys = ap (λ zs. w ∷ zs) (assoc ws v ys)

before_more : (vs : List IndexVersion) (v : IndexVersion) (o : Option (List IndexVersion)) → before vs (option_map (λ rs. v ∷ rs) o) ≡ before (vs ++ v ∷ []) o
before_more vs v None = refl
before_more vs v (Some ys) = ap Some (assoc vs v ys)

longer : (vs : List IndexVersion) (v : IndexVersion) → length (vs ++ v ∷ []) ≡ length vs + 1
longer [] v = refl
longer (w ∷ ws) v = let e = longer ws v in omega (arith, e)

first_read : (line : List ℕ) (rest : List (List ℕ)) (v : IndexVersion) → record_of line ≡ Some v → records_of (line ∷ rest) ≡ option_map (λ rs. v ∷ rs) (records_of rest)
first_read line rest v is = rw is refl

first_passed : (line : List ℕ) (rest : List (List ℕ)) (v : IndexVersion) (n : ℕ) → record_of line ≡ Some v → position_from has_no_record n (line ∷ rest) ≡ position_from has_no_record (n + 1) rest
first_passed line rest v n is = rw is refl

-- the records so far are one more, before those of what is left
pub read_on : (ls rest : List (List ℕ)) (line : List ℕ) (vs ws : List IndexVersion) (v : IndexVersion) → ls ≡ line ∷ rest → record_of line ≡ Some v → ws ≡ vs ++ v ∷ []
    → before vs (records_of ls) ≡ before ws (records_of rest)
read_on ls rest line vs ws v steps is added =
    ap (λ xs. before vs (records_of xs)) steps ∙ ap (before vs) (first_read line rest v is) ∙ before_more vs v (records_of rest)
    ∙ ap (λ xs. before xs (records_of rest)) (sym added)

-- the number of the line is one more
pub pass_on : (ls rest : List (List ℕ)) (line : List ℕ) (vs ws : List IndexVersion) (v : IndexVersion) → ls ≡ line ∷ rest → record_of line ≡ Some v → ws ≡ vs ++ v ∷ []
    → position_from has_no_record (length vs) ls ≡ position_from has_no_record (length ws) rest
pass_on ls rest line vs ws v steps is added =
    ap (λ xs. position_from has_no_record (length vs) xs) steps ∙ first_passed line rest v (length vs) is
    ∙ ap (λ n. position_from has_no_record n rest) (sym (longer vs v)) ∙ ap (λ xs. position_from has_no_record (length xs) rest) (sym added)
