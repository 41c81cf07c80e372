-- The generated texts are read, so the auditor is that of the generated advisories.
use Rattle.std.proofs.Common.{◌≡◌, ◌≢◌, ℕ, suc, ◌<◌, ◌^◌, Bool, true, false, cond, List, [], ◌∷◌, map, Result, Ok, Err, refl, ap, subst}
use Rattle.std.specs.Prelude.{IfErr}
use Rattle.std.specs.List.{filter, range_with_len}
use Rattle.toml_tables.specs.Results.{and_then}
use Rattle.audit_advisory.specs.declared.advisories.Advisory.{Advisory}
use Rattle.audit_settings.specs.Defaults.{default_settings}
use Rattle.audit_core.specs.Auditors.{advisories_from, auditor_of, text_auditor}
use Rattle.audit_core.specs.declared.auditing.AuditError.{AuditError}
use Rattle.audit_core.specs.declared.auditing.AuditError.TheVariants as error
use Rattle.audit_core.specs.declared.auditors.Auditor.{Auditor}
use Rattle.audit_generator.specs.Advisories.{advised, advisory_at, advisory_text, advisory_texts, has_advisory}
use Rattle.audit_generator.specs.Moments.{auditor_for}
use Rattle.audit_generator.proofs.Advised.{advisory_read}
use Rattle.audit_generator.proofs.Lines.{AllSmall, numbers_small}

read_all : (i : ℕ) (ks : List ℕ) → AllSmall ks → advisories_from i (map advisory_text ks) ≡ Ok (map advisory_at ks)
read_all i [] h = refl
read_all i (k ∷ ks) h = rw (advisory_read k h.0, read_all (suc i) ks h.1) refl

some_small : (p : ℕ → Bool) (ks : List ℕ) → AllSmall ks → AllSmall (filter p ks)
some_small p [] h = tt
some_small p (k ∷ ks) h = elim (p k) as (λ b. AllSmall (cond b (k ∷ filter p ks) (filter p ks))) [
  | true ↦ (h.0, some_small p ks h.1)
  | false ↦ some_small p ks h.1
]

pub texts_read : (n : ℕ) → n < 2 ^ 64 → text_auditor default_settings (advisory_texts n) ≡ Ok (auditor_for n)
texts_read n h =
    ap (λ (r : Result (List Advisory) AuditError). and_then (λ (found : List Advisory). Ok (auditor_of default_settings found)) r)
    (read_all 0 (advised n) (some_small has_advisory (range_with_len 0 n) (numbers_small n h)))

same_ok : (x y : Auditor) (r : Result Auditor AuditError) → r ≡ Ok x → r ≡ Ok y → x ≡ y
same_ok x y r one two = cc (one, two)

pub auditor_read : (n : ℕ) (texts : List (List ℕ)) (auditor : Auditor) → n < 2 ^ 64 → texts ≡ advisory_texts n → text_auditor default_settings texts ≡ Ok auditor → auditor ≡ auditor_for n
auditor_read n texts auditor h same read = same_ok auditor (auditor_for n) (text_auditor default_settings (advisory_texts n)) (subst (λ (ts : List (List ℕ)). text_auditor default_settings ts ≡ Ok auditor) same read) (texts_read n h)

clash : (r : Result Auditor AuditError) (auditor : Auditor) (e : AuditError) → r ≡ Ok auditor → r ≡ Err e → ⊥
clash r auditor e one two = cc (one, two)

pub never_refused : (r : Result Auditor AuditError) (auditor : Auditor) (e : AuditError) → r ≡ Ok auditor → (e ≢ error.NoMemory → r ≡ Err e) → e ≡ error.NoMemory
never_refused r auditor error.NoMemory ok h = refl
never_refused r auditor (error.Lockfile f) ok h = absurd (clash r auditor (error.Lockfile f) ok (h (λ same. let apart : ⊥ = cc in apart)))
never_refused r auditor (error.Advisory n f) ok h = absurd (clash r auditor (error.Advisory n f) ok (h (λ same. let apart : ⊥ = cc in apart)))

pub if_err : {T E : Type 0} (r : Result T E) {P Q : E → Type 0} → ((x : E) → P x → Q x) → IfErr r P → IfErr r Q
if_err (Ok x) f p = tt
if_err (Err e) f p = f e p
