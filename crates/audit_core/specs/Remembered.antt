-- What offline audits say in a history of audits and crashes (this project).
use Rattle.std.specs.Prelude.{◌≡◌, ◌⊎◌, ℕ, List, [], ◌∷◌, ◌++◌, Option, Some, None, IsSomeAnd}
use Rattle.tame_names.specs.Counts.{CountRose}
use Rattle.tame_entry.specs.ServerMaps.{ServerMap}
use Rattle.tame_cache.specs.Kept.{Disk}
use Rattle.tame_sparse.specs.declared.network.Exchange.{Exchange}
use Rattle.audit_core.specs.Answers.{body_answer}
use Rattle.audit_core.specs.Histories.{AuditHistory, audits, begins, crashes}
use Rattle.audit_core.specs.Verdicts.{turn_of, verdict_by}
use Rattle.audit_core.specs.declared.answers.PathAnswer.{PathAnswer}
use Rattle.audit_core.specs.declared.answers.PathAnswer.TheVariants.{Settled}
use Rattle.audit_core.specs.declared.asking.Turn.{Turn}
use Rattle.audit_core.specs.declared.verdicts.Cause.TheVariants as cause
use Rattle.audit_core.specs.declared.verdicts.Verdict.{Verdict}
use Rattle.audit_core.specs.declared.verdicts.Verdict.TheVariants.{Unchecked}

-- the exchanges of a history, the oldest first
abbrev pub exchanges_in : (m : ServerMap) (began now : Disk) → AuditHistory m began now
    → List Exchange
exchanges_in m began now (begins disk unbelieved) = []
exchanges_in m began now (audits start mid next before after added earlier follow honest keeps) =
    exchanges_in m start mid earlier ++ added
exchanges_in m began now (crashes start mid next earlier crash) = exchanges_in m start mid earlier

-- the exchange was answered with 200, when the server held a body of which this is true
abbrev pub SentHeld : (List ℕ → Type 0) → Exchange → Type 0
SentHeld P e = IsSomeAnd e.answer (λ a. a.status ≡ 200) × IsSomeAnd e.held (λ h. P h.body)

-- one of these exchanges with the path was
abbrev pub WasHeld : (List ℕ → Type 0) → List Exchange → List ℕ → Type 0
WasHeld P [] q = ⊥
WasHeld P (e ∷ es) q = ((e.path ≡ q) × SentHeld P e) ⊎ WasHeld P es q

-- what is remembered of a path: nothing, or what a body says that the server held and sent in one
-- of these exchanges; or it couldn't be read, if the disk's count of faults rose
abbrev pub IsRemembered : List Exchange → List ℕ → Turn → PathAnswer → Type 0
IsRemembered es q t a =
    (a ≡ Settled cause.Absent) ⊎ (WasHeld (λ body. a ≡ body_answer body) es q
    ⊎ (CountRose t.disk_asked t.disk_after × (a ≡ Settled cause.Store)))

-- ---- verdicts

abbrev pub IsVerdictByRemembered : List Exchange → List ℕ → Turn → List ℕ → Verdict → Type 0
IsVerdictByRemembered es q t version verdict =
    (a : PathAnswer) × IsRemembered es q t a × (verdict ≡ verdict_by a version)

-- no path: nothing is read; else by what is remembered of the path
abbrev pub IsRememberedAt : List Exchange → List Turn → List ℕ → Option (List ℕ) → Verdict → Type 0
IsRememberedAt es turns version None verdict = verdict ≡ Unchecked cause.Name
IsRememberedAt es turns version (Some q) verdict =
    IsSomeAnd (turn_of q turns) (λ t. IsVerdictByRemembered es q t version verdict)
