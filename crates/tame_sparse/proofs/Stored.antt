-- What a response leaves in a cache.
use Rattle.std.proofs.Common.{◌≡◌, ◌≢◌, ◌⊎◌, inl, ℕ, List, [], ◌∷◌, Bool, true, false, not, cond, length, map, Option, Some, None, IsTrue, refl, sym, ◌∙◌, ap, subst, rules, suc, arith}
use Rattle.std.specs.Prelude.{◌==◌, ◌&&◌, IfSome, is_none}
use Rattle.std.specs.List.{list_all}
use Rattle.std.proofs.lemmas.Bool.Decides.{nat_tests}
use Rattle.tame_names.specs.Names.{path}
use Rattle.tame_names.specs.Pieces.{onto_first, pieces}
use Rattle.tame_records.specs.Lines.{lines, trimmed}
use Rattle.tame_entry.specs.Entry.{has_no_zero, is_storable, is_storable_pair, pair_of, pairs}
use Rattle.tame_entry.specs.ServerMaps.{Maps, ServerMap}
use Rattle.tame_entry.specs.Lines.{invalid, plain}
use Rattle.tame_entry.specs.Revision.{EntryRevision, entry_text}
use Rattle.tame_entry.specs.declared.revisions.OwnedRevision.{OwnedRevision}
use Rattle.tame_entry.proofs.EntryLemmas.{plain_lines}
use Rattle.tame_entry.proofs.Zeros.{NoZero, NoneZero, and_true, pair_same}
use Rattle.tame_cache.specs.Disk.{EachMoment, Step, may_leave}
use Rattle.tame_cache.specs.Gate.{IsOrderly, IsUnreadable}
use Rattle.tame_cache.specs.Kept.{Disk, IsKept, IsWrittenFor, Keeps, cache_file_of}
use Rattle.tame_cache.proofs.KeptLemmas.{keeps_same}
use Rattle.tame_cache.proofs.Moments.{started}
use Rattle.tame_sparse.specs.ResponseResults.{IsToStore, Stores, entry_of, stored_under}
use Rattle.tame_sparse.specs.declared.network.WireAnswer.{WireAnswer}

-- ---- a body whose lines have no zero byte has none

both : (a b : Bool) → (a && b) ≡ true → (a ≡ true) × (b ≡ true)
both true b h = (refl, h)
both false b h = cc

newline : (b : ℕ) → (b == 10) ≡ true → not (b == 0) ≡ true
newline b h = grind (rules, nat_tests)

onto_zero : (b : ℕ) (bs : List ℕ) (ps : List (List ℕ)) → (NoneZero ps → NoZero bs) → NoneZero (onto_first b ps) → NoZero (b ∷ bs)
onto_zero b bs [] more h = and_true _ _ (both (not (b == 0)) true h.0).0 (more tt)
onto_zero b bs (p ∷ ps) more h =
    let first = both (not (b == 0)) (has_no_zero p) h.0 in
    and_true _ _ first.0 (more (first.1, h.1))

piece_case : (t : Bool) (b : ℕ) (bs : List ℕ) (ps : List (List ℕ)) → (b == 10) ≡ t → (NoneZero ps → NoZero bs) → NoneZero (cond t ([] ∷ ps) (onto_first b ps)) → NoZero (b ∷ bs)
piece_case true b bs ps is more h = and_true _ _ (newline b is) (more h.1)
piece_case false b bs ps is more h = onto_zero b bs ps more h

joined_zero : (bs : List ℕ) → NoneZero (pieces 10 bs) → NoZero bs
joined_zero [] h = refl
joined_zero (b ∷ bs) h = piece_case (b == 10) b bs (pieces 10 bs) refl (joined_zero bs) h

no_length : (n : ℕ) → (suc n == 0) ≡ true → ⊥
no_length n h = grind (arith, nat_tests)

trim_case : (t : Bool) (b : ℕ) (bs : List ℕ) → (b == 10) && (length (trimmed bs) == 0) ≡ t → (NoZero (trimmed bs) → NoZero bs) → NoZero (cond t [] (b ∷ trimmed bs)) → NoZero (b ∷ bs)
trim_case true b bs is more h =
    let ends = both (b == 10) (length (trimmed bs) == 0) is in
    and_true _ _ (newline b ends.0) (more (none_left (trimmed bs) ends.1))
  where
    none_left : (xs : List ℕ) → (length xs == 0) ≡ true → NoZero xs
    none_left [] h = refl
    none_left (x ∷ xs) h = absurd (no_length (length xs) h)
trim_case false b bs is more h =
    let first = both (not (b == 0)) (has_no_zero (trimmed bs)) h in
    and_true _ _ first.0 (more first.1)

untrimmed_zero : (bs : List ℕ) → NoZero (trimmed bs) → NoZero bs
untrimmed_zero [] h = refl
untrimmed_zero (b ∷ bs) h = trim_case (b == 10 && length (trimmed bs) == 0) b bs refl (untrimmed_zero bs) h

lines_whole : (ls : List (List ℕ)) → list_all is_storable_pair (map pair_of ls) ≡ true → NoneZero ls
lines_whole [] h = tt
lines_whole (l ∷ ls) h =
    let first = both (is_storable_pair (pair_of l)) (list_all is_storable_pair (map pair_of ls)) h in
    ((both _ (has_no_zero l) first.0).1, lines_whole ls first.1)

-- a valid body that is stored is plain
pub stored_plain : (index : List ℕ) (r : EntryRevision) (body : List ℕ) → invalid body ≡ None → IsTrue (is_storable index r (pairs body)) → IsTrue (plain body)
stored_plain index r body right h =
    let behind = (both (has_no_zero index) _ h).1 in
    let whole = untrimmed_zero body (joined_zero (trimmed body) (lines_whole (lines body) (both (has_no_zero (entry_text r)) _ behind).1)) in
    let P : Bool → Type 0 = λ b. (b && has_no_zero body) ≡ true in
    subst P (sym (ap is_none right)) whole

-- what passes the code's test is what must be stored
pub to_store : (index : List ℕ) (answer : WireAnswer) → answer.status ≡ 200 → invalid answer.body ≡ None → IsTrue (is_storable index (stored_under answer.revision) (pairs answer.body)) → IsToStore index answer
to_store index answer sent right h = record {
  sent = sent;
  plain = stored_plain index (stored_under answer.revision) answer.body right h;
  storable = (both (has_no_zero (entry_text (stored_under answer.revision))) _ (both (has_no_zero index) _ h).1).0;
  named = (both (has_no_zero index) _ h).0;
}

-- and the other way round
pairs_whole : (ls : List (List ℕ)) → NoneZero ls → list_all is_storable_pair (map pair_of ls) ≡ true
pairs_whole [] h = refl
pairs_whole (l ∷ ls) h = and_true _ _ (sym (pair_same l) ∙ h.0) (pairs_whole ls h.1)

pub passes : (index : List ℕ) (answer : WireAnswer) → IsToStore index answer → IsTrue (is_storable index (stored_under answer.revision) (pairs answer.body))
passes index answer is = and_true _ _ is.named (and_true _ _ is.storable (pairs_whole (lines answer.body) (plain_lines answer.body is.plain)))

-- ---- what is written is what the server held

written_for : (m : ServerMap) (p : List ℕ) (o : Option OwnedRevision) (body : List ℕ) → IfSome o (λ r. Maps m p r body) → IsTrue (plain body) → IsWrittenFor m p (stored_under o) (pairs body)
written_for m p None body h whole = tt
written_for m p (Some r) body h whole = (body, h, whole, refl)

-- ---- no file changes

pub stores_same : (index root name : List ℕ) (answer : WireAnswer) (write : Bool) (old new : Disk) → ((q : List ℕ) → new q ≡ old q) → Stores index root name answer write old new
stores_same index root name answer write old new same = record {
  unwanted = λ no. same;
  unstored = λ other. same;
  others = λ q other. same q;
  any_moment = λ q is ordered.
      let P : List Step → Type 0 = λ past. EachMoment (old q) past (λ file. may_leave (old q) file ⊎ (IsUnreadable file ⊎ (file ≡ Some (entry_of index answer)))) in
      subst P (sym (same q)) (started (old q) _ (λ file now. inl now));
  orderly = λ q is ordered. subst IsOrderly (sym (same q)) ordered;
  kept = λ m held kept. keeps_same m index root old new same kept;
}

-- ---- the file of the name is written

pub stores_written : (index root name : List ℕ) (answer : WireAnswer) (write : Bool) (old new : Disk) → answer.status ≡ 200 → write ≡ true → invalid answer.body ≡ None
    → ((IsTrue (is_storable index (stored_under answer.revision) (pairs answer.body)) → ⊥) → (q : List ℕ) → new q ≡ old q)
    → ((q : List ℕ) → cache_file_of root name ≢ Some q → new q ≡ old q)
    → ((q : List ℕ) → cache_file_of root name ≡ Some q → IsOrderly (old q) → EachMoment (old q) (new q) (λ file. may_leave (old q) file ⊎ (IsUnreadable file ⊎ (file ≡ Some (entry_of index answer)))))
    → ((q : List ℕ) → cache_file_of root name ≡ Some q → IsOrderly (old q) → IsOrderly (new q))
    → ((m : ServerMap) → ((p : List ℕ) → path name ≡ Some p → IsTrue (is_storable index (stored_under answer.revision) (pairs answer.body)) → IsWrittenFor m p (stored_under answer.revision) (pairs answer.body))
    → IsKept m index root old → Keeps m index root old new)
    → Stores index root name answer write old new
stores_written index root name answer write old new sent asked right unstored others any orderly kept = record {
  unwanted = λ no. cc (asked, no);
  unstored = λ no. unstored (λ storable. no (to_store index answer sent right storable));
  others = others;
  any_moment = any;
  orderly = orderly;
  kept = λ m held. kept m (λ p named storable.
      written_for m p answer.revision answer.body (held p named sent) (stored_plain index (stored_under answer.revision) answer.body right storable));
}
