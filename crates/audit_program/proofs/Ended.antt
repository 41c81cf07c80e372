-- The line of a fault after what was printed.
use Rattle.std.proofs.Common.{◌≡◌, ◌⊎◌, ◌≤◌, inl, inr, ℕ, List, [], ◌++◌, take, ap, ◌∙◌, append_assoc, Option, Some, None, Result, Ok, Err, sym, subst, arith}
use Rattle.std.specs.Prelude.{OnOk, IfErr}
use Rattle.tame_names.specs.Counts.{CountStayed, CountRose}
use Rattle.tame_names.specs.Output.{AddsPrefix}
use Rattle.audit_remedies.specs.declared.faults.RunFault.{RunFault}
use Rattle.audit_remedies.specs.declared.faults.RunFault.TheVariants as fault
use Rattle.audit_remedies.specs.FaultLines.{fault_line}
use Rattle.audit_remedies.specs.Outputs.{IsEnded, IsLinePut, IsPutBy, IsPutFirst}
use Rattle.audit_remedies.proofs.Putting.{first_more}

pub not_both : (before now : ℕ) → CountStayed before now → CountRose before now → ⊥
not_both before now quiet rose = let same = quiet.0 in let low = quiet.1 in omega (arith, same, low, rose)

-- a line that was printed as the answer says
pub line_put : {T E : Type 0} (r : Result T E) (before line now : List ℕ) (faults faults_now : ℕ) → OnOk r (now ≡ before ++ line) → AddsPrefix before line now
    → IfErr r (λ e. CountRose faults faults_now) → IsLinePut before line now faults faults_now
line_put (Ok x) before line now faults faults_now whole part failed = record { part = part; whole = λ quiet. whole }
line_put (Err e) before line now faults faults_now whole part failed = record { part = part; whole = λ quiet. absurd (not_both faults faults_now quiet failed) }

pub rose_of : {T E : Type 0} (P : E → Type 0) (r : Result T E) (f g : ℕ) → IfErr r (λ e. P e × CountRose f g) → IfErr r (λ e. CountRose f g)
rose_of P (Ok x) f g h = tt
rose_of P (Err e) f g h = h.1

narrow : (a b c : ℕ) → a ≤ b → b ≤ c → CountStayed a c → CountStayed b c
narrow a b c low high quiet = let same = quiet.0 in let end = quiet.1 in (omega (arith, low, high, same), omega (arith, low, high, same, end))

-- the same from an earlier moment
pub ended_from : (place before text : List ℕ) (o : Option RunFault) (now : List ℕ) (a b c : ℕ) → a ≤ b → b ≤ c → IsEnded place before text o now b c → IsEnded place before text o now a c
ended_from place before text None now a b c low high h = h
ended_from place before text (Some f) now a b c low high h =
    (h.0, h.1, record { part = h.2.part; whole = λ quiet. h.2.whole (narrow a b c low high quiet) })

-- the line of a fault that doesn't report the lockfile's path is the same for any path
pub ended_by : (a b before text now : List ℕ) (f : RunFault) (o : Option RunFault) (m n : ℕ) → fault_line a f ≡ fault_line b f → (o ≡ Some f) ⊎ (o ≡ Some fault.NoMemory)
    → IsEnded a before text o now m n → IsEnded b before text o now m n
ended_by a b before text now f o m n line (inl is) h =
    let P : Option RunFault → Type 0 = λ x. IsEnded a before text x now m n in
    let Q : Option RunFault → Type 0 = λ x. IsEnded b before text x now m n in
    let L : List ℕ → Type 0 = λ l. (put : List ℕ) × IsPutBy before text (Some f) put × IsLinePut put l now m n in
    subst Q (sym is) (subst L line (subst P is h))
ended_by a b before text now f o m n line (inr is) h =
    let P : Option RunFault → Type 0 = λ x. IsEnded a before text x now m n in
    let Q : Option RunFault → Type 0 = λ x. IsEnded b before text x now m n in
    subst Q (sym is) (subst P is h)

-- after what was printed there is at most the line
ended_more : (place mid : List ℕ) (o : Option RunFault) (now : List ℕ) (f g : ℕ) → IsEnded place mid [] o now f g → (more : List ℕ) × (now ≡ mid ++ more)
ended_more place mid None now f g h = (take h.part.0 [], h.part.1)
ended_more place mid (Some reason) now f g h =
    let none : List ℕ = take h.1.part.0 [] in
    let line : List ℕ = take h.2.part.0 (fault_line place reason) in
    (none ++ line, h.2.part.1 ∙ ap (λ (zs : List ℕ). zs ++ line) h.1.part.1 ∙ append_assoc mid none line)

-- text that was printed in full before a step was started is still there once the line is printed
pub shown_more : (S T : Type 0) (before text mid now place : List ℕ) (o : Option RunFault) (f g : ℕ) → S ⊎ (T → IsPutFirst before text mid) → (T → IsEnded place mid [] o now f g)
    → S ⊎ (T → IsPutFirst before text now)
shown_more S T before text mid now place o f g (inl same) ended = inl same
shown_more S T before text mid now place o f g (inr shown) ended =
    inr (λ told. let more = ended_more place mid o now f g (ended told) in first_more before text mid more.0 now (shown told) more.1)
