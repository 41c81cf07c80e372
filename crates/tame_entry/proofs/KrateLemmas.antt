-- Versions before versions, and one more line.
use Rattle.std.proofs.Common.{◌≡◌, ℕ, suc, List, [], ◌∷◌, ◌++◌, length, Option, Some, None, Ok, Err, true, ◌==◌, refl, ap, ◌∙◌, sym, arith, append_assoc}
use Rattle.std.proofs.lemmas.Bool.Decides.{nat_tests}
use Rattle.tame_names.specs.declared.errors.Error.{Error}
use Rattle.tame_names.specs.declared.errors.Error.TheVariants as error
use Rattle.tame_records.specs.Record.{record_of}
use Rattle.tame_records.specs.declared.versions.IndexVersion.{IndexVersion}
use Rattle.tame_entry.specs.Krates.{KrateResult, krate_of_lines, prepend, read_lines, read_pairs, with_record}

abbrev pub before : List IndexVersion → KrateResult → KrateResult
before vs (Ok more) = Ok (vs ++ more)
before vs (Err e) = Err e

longer : (vs : List IndexVersion) (v : IndexVersion) → length (vs ++ v ∷ []) ≡ suc (length vs)
longer [] v = refl
longer (w ∷ ws) v = let e = longer ws v in omega (arith, e)

prepended : (vs : List IndexVersion) (v : IndexVersion) (more : KrateResult) → before vs (prepend v more) ≡ before (vs ++ v ∷ []) more
prepended vs v (Ok more) = ap Ok (sym (append_assoc vs (v ∷ []) more))
prepended vs v (Err e) = refl

-- the versions so far are one more, before those of what is left
pub read_on : (ls rest : List (List ℕ)) (line : List ℕ) (vs ws : List IndexVersion) (v : IndexVersion) → ls ≡ line ∷ rest → record_of line ≡ Some v → ws ≡ vs ++ v ∷ []
    → before vs (read_lines (length vs) ls) ≡ before ws (read_lines (length ws) rest)
read_on ls rest line vs ws v steps is added =
    ap (λ k. before vs (read_lines (length vs) k)) steps
    ∙ ap (λ r. before vs (with_record r (length vs) (read_lines (suc (length vs)) rest))) is
    ∙ prepended vs v (read_lines (suc (length vs)) rest)
    ∙ ap (λ n. before (vs ++ v ∷ []) (read_lines n rest)) (sym (longer vs v))
    ∙ ap (λ k. before k (read_lines (length k) rest)) (sym added)

-- a line that is read adds a version
some_read : (o : Option IndexVersion) (n : ℕ) (more : KrateResult) (vs : List IndexVersion) (e : Error) (r : KrateResult) → with_record o n more ≡ Ok vs → (length vs == 0) ≡ true → r ≡ Err e
some_read None n more vs e r read is = grind (arith, nat_tests)
some_read (Some v) n (Err f) vs e r read is = grind (arith, nat_tests)
some_read (Some v) n (Ok ws) [] e r read is = grind (arith, nat_tests)
some_read (Some v) n (Ok ws) (w ∷ us) e r read is = grind (arith, nat_tests)

-- no version means no line
pub none_read : (ls : List (List ℕ)) (vs : List IndexVersion) → read_lines 0 ls ≡ Ok vs → (length vs == 0) ≡ true → krate_of_lines ls ≡ Err error.NoCrateVersions
none_read [] vs read is = refl
none_read (line ∷ more) vs read is = some_read (record_of line) 0 (read_lines 1 more) vs error.NoCrateVersions (krate_of_lines (line ∷ more)) read is

-- the same with versions between the lines
pub pair_on : (ls rest : List (List ℕ)) (version line : List ℕ) (vs ws : List IndexVersion) (v : IndexVersion) → ls ≡ version ∷ line ∷ rest → record_of line ≡ Some v → ws ≡ vs ++ v ∷ []
    → before vs (read_pairs (length vs) ls) ≡ before ws (read_pairs (length ws) rest)
pair_on ls rest version line vs ws v steps is added =
    ap (λ k. before vs (read_pairs (length vs) k)) steps
    ∙ ap (λ r. before vs (with_record r (length vs) (read_pairs (suc (length vs)) rest))) is
    ∙ prepended vs v (read_pairs (suc (length vs)) rest)
    ∙ ap (λ n. before (vs ++ v ∷ []) (read_pairs n rest)) (sym (longer vs v))
    ∙ ap (λ k. before k (read_pairs (length k) rest)) (sym added)
