-- What an audit asked, what it kept, and what it says about the packages (this project).
use Rattle.std.specs.Prelude.{◌≡◌, ◌≢◌, ℕ, List, [], ◌∷◌, ◌++◌, map, IsTrue, Option, Some, None, IsSomeAnd, Ok}
use Rattle.tame_names.specs.Counts.{CountRose}
use Rattle.tame_names.specs.Names.{IsIndexPath}
use Rattle.tame_entry.specs.ServerMaps.{ServerMap}
use Rattle.tame_cache.specs.Disk.{reads}
use Rattle.tame_cache.specs.FailedCalls.{FailedDiskCalls}
use Rattle.tame_cache.specs.Folders.{MakesOnly}
use Rattle.tame_cache.specs.Kept.{Disk, IsKept}
use Rattle.tame_sparse.specs.Exchanges.{crates_io_index}
use Rattle.tame_sparse.specs.Honest.{AreHonest}
use Rattle.tame_sparse.specs.Named.{NamesKept}
use Rattle.tame_sparse.specs.declared.network.Exchange.{Exchange}
use Rattle.audit_lock.specs.Locked.{locked}
use Rattle.audit_lock.specs.declared.resolving.Package.{Package}
use Rattle.audit_advisory.specs.Reports.{IsPlaced}
use Rattle.audit_core.specs.Paths.{is_among}
use Rattle.audit_core.specs.Auditors.{audit_exit, audit_report}
use Rattle.audit_core.specs.Checks.{asked_of, judged_of}
use Rattle.audit_core.specs.FailedTurns.{InSteps, IsAskedTurn, IsReadTurn, IsTurnByCalls, Verdicts, verdicts_of}
use Rattle.audit_core.specs.Recalled.{AreUnasked, IsVerdictByCacheAt}
use Rattle.audit_core.specs.Turns.{AreAddressed, Chains, LeavesFile, index_file}
use Rattle.audit_core.specs.Verdicts.{AreVerdicts, IsVerdictByAnswerAt, IsVerdictByHeldAt, turn_of}
use Rattle.audit_core.specs.declared.asking.Turn.{Turn}
use Rattle.audit_core.specs.declared.auditing.Audited.{Audited}
use Rattle.audit_core.specs.declared.auditors.Auditor.{Auditor}
use Rattle.audit_core.specs.declared.checking.Checks.{Checks}
use Rattle.audit_core.specs.declared.checking.Checks.TheVariants.{Online, Offline, Off}
use Rattle.audit_core.specs.declared.verdicts.Cause.TheVariants as cause
use Rattle.audit_core.specs.declared.verdicts.Judged.{Judged}
use Rattle.audit_core.specs.declared.verdicts.Verdict.{Verdict}
use Rattle.audit_core.specs.declared.verdicts.Verdict.TheVariants.{Unchecked}

-- ---- the turns, over the files at the audit's entry and at its exit

-- the request names what the file's revision allows, or nothing; and the file at the end is what
-- its turn leaves
pub record TurnNamesAndLeaves (old new : Disk) (e : Exchange) (t : Turn) : Type 0 where
  pub place : IsIndexPath e.path
  pub path : e.path ≡ t.path
  pub named : NamesKept crates_io_index (reads (old (index_file e.path))) t.disk_before t.disk_asked
      e.named
  pub leaves : LeavesFile e.answer t.disk_asked t.disk_after (old (index_file e.path))
      (new (index_file e.path))

abbrev pub TurnsNameAndLeave : Disk → Disk → List Exchange → List Turn → Type 0
TurnsNameAndLeave old new [] [] = Unit {0}
TurnsNameAndLeave old new (e ∷ es) (t ∷ ts) =
    TurnNamesAndLeaves old new e t × TurnsNameAndLeave old new es ts
TurnsNameAndLeave old new _ _ = ⊥

-- ---- the audit, by the paths that it asks for and the packages that it judges, each with its
-- place in the lockfile

-- a file that belongs to no path that is asked for stays as it was
abbrev pub KeepsOthers : List (List ℕ) → Disk → Disk → Type 0
KeepsOthers paths old new =
    (q : List ℕ) → ((p : List ℕ) → IsTrue (is_among p paths) → q ≢ index_file p) → new q ≡ old q

-- no folders are created except those above the files of paths that are asked for
abbrev pub MakesAskedFolders : List (List ℕ) → List (List ℕ) → List (List ℕ) → Type 0
MakesAskedFolders paths before now =
    MakesOnly (λ q. (p : List ℕ) × IsTrue (is_among p paths) × (q ≡ index_file p)) before now

-- one exchange with the index for each path that is asked for, in their order; and a verdict for
-- each package that is judged, by the table over what came
pub record IsAudit (told : Type 0) (old new : Disk) (paths : List (List ℕ))
    (packages : List (ℕ × Package)) (added : List Exchange) (turns : List Turn)
    (verdicts : List Judged) : Type 0 where
  pub asked : map (λ e. e.path) added ≡ paths
  pub addressed : AreAddressed added
  pub judged : AreVerdicts (IsVerdictByAnswerAt told
      (λ q. reads (old (index_file q))) added) packages verdicts
  pub turned : told → TurnsNameAndLeave old new added turns
  pub others : told → KeepsOthers paths old new

-- exactly these exchanges follow the list
abbrev pub IsAuditBetween : Type 0 → Disk → Disk → List (List ℕ) → List (ℕ × Package)
    → List Exchange → List Exchange → List Turn → List Judged → Type 0
IsAuditBetween told old new paths packages before now turns verdicts =
    (added : List Exchange) × (now ≡ before ++ added)
    × IsAudit told old new paths packages added turns verdicts

-- over an honest server, and a disk that is kept for what it held, the verdicts are those of the
-- table over what it held when asked
abbrev pub VerdictsMatchServer : List (ℕ × Package) → List Exchange → List Exchange → Disk
    → List Turn → List Judged → Type 0
VerdictsMatchServer packages before now disk turns verdicts =
    (m : ServerMap) (added : List Exchange) → now ≡ before ++ added → AreHonest m added
    → IsKept m crates_io_index [] disk
    → AreVerdicts (IsVerdictByHeldAt added turns) packages verdicts

-- one turn for each path that is asked for, in their order; the counts go on from the first numbers
-- to the last
pub record AreTurns (asked : List (List ℕ)) (wire disk last_wire last_disk : ℕ)
    (turns : List Turn) : Type 0 where
  pub paths : map (λ t. t.path) turns ≡ asked
  pub counts : Chains wire disk turns last_wire last_disk

-- a package that is unchecked by the wire or the store has a turn in which that count rose
pub record CountRoseFor (turns : List Turn) (q : List ℕ) (verdict : Verdict) : Type 0 where
  pub wire : verdict ≡ Unchecked cause.Wire
      → IsSomeAnd (turn_of q turns) (λ t. CountRose t.wire_before t.wire_after)
  pub store : verdict ≡ Unchecked cause.Store
      → IsSomeAnd (turn_of q turns) (λ t. CountRose t.disk_asked t.disk_after)

abbrev pub IsCausedAt : List Turn → List ℕ → Option (List ℕ) → Verdict → Type 0
IsCausedAt turns version None verdict = verdict ≡ Unchecked cause.Name
IsCausedAt turns version (Some q) verdict = CountRoseFor turns q verdict

abbrev pub Caused : List (ℕ × Package) → List Turn → List Judged → Type 0
Caused packages turns verdicts = AreVerdicts (IsCausedAt turns) packages verdicts

-- ---- what an audit says, as a whole

-- the wire and the disk at a moment: the exchanges so far, the files, how often each has failed,
-- and which calls on the disk have
pub record Moment : Type 0 where
  pub exchanges : List Exchange
  pub files : Disk
  pub wire_faults : ℕ
  pub disk_faults : ℕ
  pub disk_failed : FailedDiskCalls

-- by the cache alone: nothing is asked, and each verdict is by the file that a read of the path
-- gives
pub record IsOfCache (told : Type 0) (old : Disk) (packages : List (ℕ × Package))
    (turns : List Turn) (verdicts : List Judged) : Type 0 where
  pub judged : AreVerdicts (IsVerdictByCacheAt told
      (λ q. reads (old (index_file q))) turns) packages verdicts
  pub unasked : AreUnasked turns

-- which calls on the disk failed in an audit, turn by turn
pub record FailsByTurns (checks : Checks) (wire_tells disk_tells : Type 0) (entry exit : Moment)
    (turns : List Turn) (v : Verdicts) : Type 0 where
  -- online: what was named, what was stored and what the store is blamed for, by the same calls
  pub exchanged : checks ≡ Online → wire_tells → disk_tells → (added : List Exchange)
      → exit.exchanges ≡ entry.exchanges ++ added
      → InSteps (IsTurnByCalls entry.files exit.files v) entry.disk_failed added exit.disk_failed
  -- the same for the turns alone, for every wire
  pub asked : checks ≡ Online → disk_tells
      → InSteps (IsAskedTurn v) entry.disk_failed turns exit.disk_failed
  -- offline exactly the reads that are blamed
  pub read : checks ≡ Offline → InSteps (IsReadTurn v) entry.disk_failed turns exit.disk_failed
  pub off : checks ≡ Off → exit.disk_failed ≡ entry.disk_failed

-- what an audit with these checks that asks for these paths and judges these packages says from its
-- entry to its exit, if the wire and the disk tell it
pub record AuditSays (checks : Checks) (wire_tells disk_tells : Type 0) (entry exit : Moment)
    (paths : List (List ℕ)) (packages : List (ℕ × Package)) (turns : List Turn)
    (verdicts : List Judged) : Type 0 where
  -- online, over an honest server and a disk that is kept for what it held, each verdict is the
  -- table's over what the server held when asked
  pub headline : checks ≡ Online → wire_tells → disk_tells
      → VerdictsMatchServer packages entry.exchanges exit.exchanges entry.files turns verdicts
  -- online, for every server and every disk: what was asked and named, the verdicts by the table
  -- over what came, and what is kept
  pub audited : checks ≡ Online → wire_tells
      → IsAuditBetween disk_tells entry.files exit.files paths packages entry.exchanges
      exit.exchanges turns verdicts
  -- offline, for every disk: the verdicts by what it keeps
  pub recalled : checks ≡ Offline → IsOfCache disk_tells entry.files packages turns verdicts
  -- the counts of the turns go on from the entry to the exit
  pub counted : AreTurns paths entry.wire_faults entry.disk_faults exit.wire_faults exit.disk_faults
      turns
  -- one fault licenses one turn
  pub caused : Caused packages turns verdicts
  -- one failed call on the disk licenses one turn, whose file it names
  pub failed : FailsByTurns checks wire_tells disk_tells entry exit turns
      (verdicts_of packages verdicts)

-- ---- an audit of a text

-- the audit of a text by an auditor from one moment to another: the text's packages, the
-- report and the exit by the auditor's advisories and settings, and what the audit says
pub record IsAuditOf (auditor : Auditor) (wire_tells disk_tells : Type 0) (began ended : Moment)
    (text : List ℕ) (audited : Audited) : Type 0 where
  pub lockfile : locked text ≡ Ok audited.lockfile
  pub report : audited.report ≡ audit_report auditor audited.lockfile audited.verdicts
  pub placed : IsPlaced audited.report
  pub exit : audited.exit ≡ audit_exit auditor audited.report
  pub says : AuditSays auditor.checks wire_tells disk_tells began ended
      (asked_of auditor.checks audited.lockfile)
      (judged_of auditor.checks audited.lockfile) audited.turns audited.verdicts
  -- if checks are off there is nothing of them
  pub off : auditor.checks ≡ Off → (audited.verdicts ≡ []) × (audited.turns ≡ [])
