-- What an audit says about a package (this project).
use Rattle.std.specs.Prelude.{◌≡◌, ℕ, List, [], ◌∷◌, true, false, Option, Some, None, bytes_eq, find, IsSomeAnd}
use Rattle.tame_names.specs.Names.{path}
use Rattle.tame_entry.specs.VersionStatuses.{status_among}
use Rattle.tame_entry.specs.declared.version_status.VersionStatus.{VersionStatus}
use Rattle.tame_entry.specs.declared.version_status.VersionStatus.TheVariants as version_status
use Rattle.tame_cache.specs.Disk.{File}
use Rattle.tame_sparse.specs.declared.network.Exchange.{Exchange}
use Rattle.audit_lock.specs.declared.resolving.Package.{Package}
use Rattle.audit_core.specs.Answers.{IsAnswer, IsHeldAnswer, IsNotModified}
use Rattle.audit_core.specs.declared.answers.PathAnswer.{PathAnswer}
use Rattle.audit_core.specs.declared.answers.PathAnswer.TheVariants.{Settled, Lines}
use Rattle.audit_core.specs.declared.asking.Turn.{Turn}
use Rattle.audit_core.specs.declared.verdicts.Cause.TheVariants as cause
use Rattle.audit_core.specs.declared.verdicts.Judged.{Judged}
use Rattle.audit_core.specs.declared.verdicts.Verdict.{Verdict}
use Rattle.audit_core.specs.declared.verdicts.Verdict.TheVariants.{Yanked, NotYanked, Unchecked}

-- ---- of a version

-- by what the lines of its crate say about it
abbrev pub verdict_of_status : VersionStatus → Verdict
verdict_of_status version_status.Unread = Unchecked cause.Record
verdict_of_status version_status.NoVersion = Unchecked cause.NoVersion
verdict_of_status (version_status.Flag true) = Yanked
verdict_of_status (version_status.Flag false) = NotYanked

-- by the answer of its crate's path
abbrev pub verdict_by : PathAnswer → List ℕ → Verdict
verdict_by (Settled c) version = Unchecked c
verdict_by (Lines flags) version = verdict_of_status (status_among flags version)

-- by the table over what came
abbrev pub IsVerdictByAnswer : Exchange → File → List ℕ → Verdict → Type 0
IsVerdictByAnswer e file version verdict =
    (a : PathAnswer) × IsAnswer file e.answer a × (verdict ≡ verdict_by a version)

-- by the table over what the server held: that decides, and the disk's count of faults if the
-- store is blamed; nothing about a file, an earlier audit or a write
abbrev pub IsVerdictByHeld : Exchange → Turn → List ℕ → Verdict → Type 0
IsVerdictByHeld e t version verdict =
    (a : PathAnswer) × IsHeldAnswer e.held e.answer t.disk_asked t.disk_after a
    × (verdict ≡ verdict_by a version)

-- ---- of a package

-- the exchange of a path, and its turn
abbrev pub exchange_of : List ℕ → List Exchange → Option Exchange
exchange_of q exchanges = find (λ e. bytes_eq e.path q) exchanges

abbrev pub turn_of : List ℕ → List Turn → Option Turn
turn_of q turns = find (λ t. bytes_eq t.path q) turns

-- no path: nothing is asked; else by the exchange of the path, over what came and, at not-modified,
-- if the disk tells it, over what a read of its file gives
abbrev pub IsVerdictByAnswerAt : Type 0 → (List ℕ → File) → List Exchange → List ℕ → Option (List ℕ)
    → Verdict → Type 0
IsVerdictByAnswerAt told files exchanges version None verdict = verdict ≡ Unchecked cause.Name
IsVerdictByAnswerAt told files exchanges version (Some q) verdict =
    IsSomeAnd (exchange_of q exchanges)
    (λ e. (IsNotModified e.answer → told) → IsVerdictByAnswer e (files q) version verdict)

-- the same over what the server held
abbrev pub IsVerdictByHeldAt : List Exchange → List Turn → List ℕ → Option (List ℕ) → Verdict
    → Type 0
IsVerdictByHeldAt exchanges turns version None verdict = verdict ≡ Unchecked cause.Name
IsVerdictByHeldAt exchanges turns version (Some q) verdict =
    IsSomeAnd (exchange_of q exchanges)
    (λ e. IsSomeAnd (turn_of q turns) (λ t. IsVerdictByHeld e t version verdict))

-- ---- of packages with their places in the lockfile: one verdict for each, in their order

abbrev pub AreVerdicts : (List ℕ → Option (List ℕ) → Verdict → Type 0) → List (ℕ × Package)
    → List Judged → Type 0
AreVerdicts Is [] [] = Unit {0}
AreVerdicts Is (p ∷ ps) (j ∷ js) =
    (j.package ≡ p.0) × Is p.1.version (path p.1.name) j.verdict × AreVerdicts Is ps js
AreVerdicts Is _ _ = ⊥
