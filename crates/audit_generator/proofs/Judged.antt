-- The verdicts of the first audit.
use Rattle.std.proofs.Common.{◌≡◌, ℕ, zero, suc, ◌+◌, ◌<◌, ◌≤◌, ◌^◌, false, List, [], ◌∷◌, map, Option, Some, bytes_eq, refl, ap, ◌∙◌, subst, inl, inr, arith}
use Rattle.std.specs.Prelude.{IsSomeAnd}
use Rattle.std.specs.List.{range_with_len}
use Rattle.std.proofs.lemmas.Bool.{cases_eq}
use Rattle.std.proofs.lemmas.Slice.Eq.{bytes_eq-Decides}
use Rattle.tame_names.specs.Names.{path}
use Rattle.tame_cache.specs.Disk.{File}
use Rattle.tame_sparse.specs.declared.network.Exchange.{Exchange}
use Rattle.audit_core.specs.Answers.{IsAnswer, IsNotModified, body_answer}
use Rattle.audit_core.specs.Verdicts.{AreVerdicts, IsVerdictByAnswer, IsVerdictByAnswerAt, exchange_of, verdict_by}
use Rattle.audit_core.specs.declared.answers.PathAnswer.{PathAnswer}
use Rattle.audit_core.specs.declared.verdicts.Judged.{Judged}
use Rattle.audit_core.specs.declared.verdicts.Verdict.{Verdict}
use Rattle.audit_generator.specs.Packages.{name_at, version_at}
use Rattle.audit_generator.specs.Hosted.{body_at, path_at}
use Rattle.audit_generator.specs.Outcomes.{judged_at, sent}
use Rattle.audit_generator.proofs.Asked.{numbered}
use Rattle.audit_generator.proofs.Exchanges.{AllBelow}
use Rattle.audit_generator.proofs.Names.{name_path, path_injective}
use Rattle.audit_generator.proofs.Resolved.{differs}

sent_first : (n a : ℕ) → exchange_of (path_at a) (map sent (range_with_len a (suc n))) ≡ Some (sent a)
sent_first n a = rw ((bytes_eq-Decides (path_at a) (path_at a)).1 refl) refl

sent_found : (k n a : ℕ) → a + n < 2 ^ 64 → a ≤ k → k < a + n → exchange_of (path_at k) (map sent (range_with_len a n)) ≡ Some (sent k)
sent_found k zero a small low high = absurd (omega arith)
sent_found k (suc n) a small low high =
    elim (cases_eq a k) [
      | inl here ↦ subst (λ (j : ℕ). exchange_of (path_at j) (map sent (range_with_len a (suc n))) ≡ Some (sent j)) here (sent_first n a)
      | inr later ↦
          let other : bytes_eq (path_at a) (path_at k) ≡ false = differs (path_at a) (path_at k) (λ same. later (path_injective a k (omega arith) (omega arith) same)) in
          rw other (sent_found k n (a + 1) (omega arith) (omega (arith, later)) (omega arith))
    ]

-- a body that is sent decides
sent_verdict : (k : ℕ) (file : File) (version : List ℕ) (verdict : Verdict) → IsVerdictByAnswer (sent k) file version verdict → verdict ≡ verdict_by (body_answer (body_at k)) version
sent_verdict k file version verdict h = by_case h.1
  where
    by_case : IsAnswer file (sent k).answer h.0 → verdict ≡ verdict_by (body_answer (body_at k)) version
    by_case (inl is) = h.2 ∙ ap (λ (a : PathAnswer). verdict_by a version) is
    by_case (inr later) = let e : 200 ≡ 304 = later.0 in absurd (omega (arith, e))

judged_sent : (told : Type 0) (files : List ℕ → File) (n k : ℕ) (verdict : Verdict) → told → n < 2 ^ 64 → k < n
    → IsVerdictByAnswerAt told files (map sent (range_with_len 0 n)) (version_at k) (path (name_at k)) verdict → verdict ≡ (judged_at k).verdict
judged_sent told files n k verdict t small below h =
    let es = map sent (range_with_len 0 n) in
    let at : IsVerdictByAnswerAt told files es (version_at k) (Some (path_at k)) verdict = subst (λ (o : Option (List ℕ)). IsVerdictByAnswerAt told files es (version_at k) o verdict) (name_path k (omega arith)) h in
    let one : IsSomeAnd (Some (sent k)) (λ e. (IsNotModified e.answer → told) → IsVerdictByAnswer e (files (path_at k)) (version_at k) verdict) =
    subst (λ (o : Option Exchange). IsSomeAnd o (λ e. (IsNotModified e.answer → told) → IsVerdictByAnswer e (files (path_at k)) (version_at k) verdict)) (sent_found k n 0 (omega arith) (omega arith) (omega arith)) at in
    sent_verdict k (files (path_at k)) (version_at k) verdict (one (λ _. t))

same_judged : (a b : Judged) → a.«package» ≡ b.«package» → a.verdict ≡ b.verdict → a ≡ b
same_judged a b place verdict =
    ap (λ (p : ℕ). record { «package» = p; verdict = a.verdict }) place ∙ ap (λ (v : Verdict). record { «package» = b.«package»; verdict = v }) verdict

-- each verdict is by the body that was sent
pub all_judged : (told : Type 0) (files : List ℕ → File) (n : ℕ) (ks : List ℕ) (js : List Judged) → told → n < 2 ^ 64 → AllBelow n ks
    → AreVerdicts (IsVerdictByAnswerAt told files (map sent (range_with_len 0 n))) (numbered ks) js → js ≡ map judged_at ks
all_judged told files n [] [] t small below h = refl
all_judged told files n [] (j ∷ js) t small below h = absurd h
all_judged told files n (k ∷ ks) [] t small below h = absurd h
all_judged told files n (k ∷ ks) (j ∷ js) t small below h =
    let here = same_judged j (judged_at k) h.0 (judged_sent told files n k j.verdict t small below.0 h.1) in
    ap (λ (x : Judged). x ∷ js) here ∙ ap (λ (xs : List Judged). judged_at k ∷ xs) (all_judged told files n ks js t small below.1 h.2)
