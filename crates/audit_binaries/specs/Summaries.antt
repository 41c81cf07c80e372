-- The summary of the answers for binaries (this project, after cargo-audit).
use Rattle.std.specs.Prelude.{◌≡◌, ◌⊎◌, ℕ, suc, List, [], ◌∷◌, ◌++◌, map, Bool, true, false, Some, if◌then◌else◌, ◌||◌}
use Rattle.std.specs.List.{list_any}
use Rattle.tame_names.specs.Counts.{CountRoseBy}
use Rattle.tame_names.specs.declared.host.FailedCall.{FailedCall}
use Rattle.tame_names.specs.declared.host.FileCall.TheVariants as file_call
use Rattle.audit_advisory.specs.Exits.{report_fails, self_fails}
use Rattle.audit_advisory.specs.declared.outputs.DenyOption.{DenyOption}
use Rattle.tame_entry.specs.ServerMaps.{ServerMap}
use Rattle.tame_cache.specs.Kept.{Disk, IsKept}
use Rattle.tame_sparse.specs.Exchanges.{crates_io_index}
use Rattle.tame_sparse.specs.Honest.{AreHonest}
use Rattle.tame_sparse.specs.declared.network.Exchange.{Exchange}
use Rattle.audit_core.specs.Audits.{AreTurns, KeepsOthers, MakesAskedFolders}
use Rattle.audit_core.specs.Checks.{asked_of, judged_of}
use Rattle.audit_core.specs.Turns.{AreAddressed}
use Rattle.audit_core.specs.Verdicts.{AreVerdicts, IsVerdictByHeldAt}
use Rattle.audit_core.specs.declared.asking.Turn.{Turn}
use Rattle.audit_core.specs.declared.checking.Checks.{Checks}
use Rattle.audit_core.specs.declared.checking.Checks.TheVariants.{Online}
use Rattle.audit_binaries.specs.Binaries.{Outside, Tells}
use Rattle.audit_binaries.specs.declared.answers.BinaryAnswer.{BinaryAnswer}
use Rattle.audit_binaries.specs.declared.answers.BinaryAnswer.TheVariants.{Audited, Refused}
use Rattle.audit_binaries.specs.declared.answers.BinaryFault.{BinaryFault}
use Rattle.audit_binaries.specs.declared.answers.BinaryFault.TheVariants as fault
use Rattle.audit_binaries.specs.declared.answers.MultiFileReportSummary.{MultiFileReportSummary}

-- ---- the summary

-- a binary that was audited, whose report has a vulnerability or a warning that is denied
abbrev pub is_found : List DenyOption → BinaryAnswer → Bool
is_found deny (Audited found audited) = report_fails audited.report deny
is_found deny (Refused f) = false

abbrev pub is_refused : BinaryAnswer → Bool
is_refused (Audited found audited) = false
is_refused (Refused f) = true

-- by what is denied and the places of the advisories on the auditor itself
abbrev pub summary_of : List DenyOption → List ℕ → List BinaryAnswer → MultiFileReportSummary
summary_of deny self_advisories answers = record {
  vulnerabilities_found = list_any (is_found deny) answers;
  errors_encountered = list_any is_refused answers || self_fails deny self_advisories;
}

-- the exit: 1 if vulnerabilities were found, else 2 if errors were, else 0
abbrev pub summary_status : MultiFileReportSummary → ℕ
summary_status summary =
    if summary.vulnerabilities_found then 1
    else if summary.errors_encountered then 2
    else 0

-- ---- the audits, all together

-- the turns of the audits, one after the other
abbrev pub turns_in : List BinaryAnswer → List Turn
turns_in [] = []
turns_in (Audited found audited ∷ answers) = audited.turns ++ turns_in answers
turns_in (Refused f ∷ answers) = turns_in answers

-- the paths that the audits asked for, one after the other
abbrev pub asked_in : Checks → List BinaryAnswer → List (List ℕ)
asked_in checks [] = []
asked_in checks (Audited found audited ∷ answers) =
    asked_of checks audited.lockfile ++ asked_in checks answers
asked_in checks (Refused f ∷ answers) = asked_in checks answers

-- exactly these exchanges follow the list: one with the index for each of these paths, in their
-- order
abbrev pub AddsAsked : List (List ℕ) → List Exchange → List Exchange → Type 0
AddsAsked paths before now =
    (added : List Exchange) × (now ≡ before ++ added) × (map (λ e. e.path) added ≡ paths)
    × AreAddressed added

-- each audit has its own part of the exchanges that were added, in their order, and its verdicts
-- are those of the table over what the server held when asked
abbrev pub AreHeld : Checks → List Exchange → List BinaryAnswer → Type 0
AreHeld checks added [] = added ≡ []
AreHeld checks added (Audited found audited ∷ answers) =
    (own : List Exchange) × (rest : List Exchange) × (added ≡ own ++ rest)
    × AreVerdicts (IsVerdictByHeldAt own audited.turns) (judged_of checks audited.lockfile)
    audited.verdicts
    × AreHeld checks rest answers
AreHeld checks added (Refused f ∷ answers) = AreHeld checks added answers

-- over an honest server, and a disk that is kept for what it held
abbrev pub AllHeld : Checks → List Exchange → List Exchange → Disk → List BinaryAnswer → Type 0
AllHeld checks before now disk answers =
    (m : ServerMap) (added : List Exchange) → now ≡ before ++ added → AreHonest m added
    → IsKept m crates_io_index [] disk → AreHeld checks added answers

-- nothing was audited
abbrev pub AreRefused : List BinaryAnswer → Type 0
AreRefused [] = Unit {0}
AreRefused (Audited found audited ∷ answers) = ⊥
AreRefused (Refused f ∷ answers) = AreRefused answers

-- ---- how many failed

abbrev pub with_if_file : BinaryFault → ℕ → ℕ
with_if_file fault.File n = suc n
with_if_file _ n = n

abbrev pub with_if_decode : BinaryFault → ℕ → ℕ
with_if_decode fault.Decode n = suc n
with_if_decode _ n = n

-- how many binaries couldn't be read
abbrev pub files_failed : List BinaryAnswer → ℕ
files_failed [] = 0
files_failed (Audited found audited ∷ answers) = files_failed answers
files_failed (Refused f ∷ answers) = with_if_file f (files_failed answers)

-- how many couldn't be decoded
abbrev pub decodes_failed : List BinaryAnswer → ℕ
decodes_failed [] = 0
decodes_failed (Audited found audited ∷ answers) = decodes_failed answers
decodes_failed (Refused f ∷ answers) = with_if_decode f (decodes_failed answers)

-- ---- readings that failed

abbrev pub reading_of : List ℕ → FailedCall
reading_of path = record { call = file_call.Read; path = Some path }

-- a failed reading was added for some of these paths, in their order, once each
abbrev pub AddsReadings : List (List ℕ) → List FailedCall → List FailedCall → Type 0
AddsReadings [] before now = now ≡ before
AddsReadings (path ∷ paths) before now =
    AddsReadings paths before now ⊎ AddsReadings paths (before ++ reading_of path ∷ []) now

-- ---- what holds for all of them

-- online, over an honest server and a disk that is kept for what it held, the verdicts of each
-- audit are the table's over what the server held when asked; the turns go on from the entry to the
-- exit, and the wire's list grows only by their exchanges, in that order; no file changes except
-- those of the paths that are asked for, and no folders are created except those above them; one
-- fault licenses one refusal
pub record AreTogether (tells : Tells) (checks : Checks) (began ended : Outside)
    (answers : List BinaryAnswer) : Type 0 where
  pub headline : checks ≡ Online → tells.wire → tells.disk → AllHeld checks
      began.moment.exchanges ended.moment.exchanges began.moment.files answers
  pub turns : AreTurns (asked_in checks answers) began.moment.wire_faults
      began.moment.disk_faults ended.moment.wire_faults ended.moment.disk_faults
      (turns_in answers)
  pub asked : checks ≡ Online → tells.wire
      → AddsAsked (asked_in checks answers) began.moment.exchanges ended.moment.exchanges
  pub others : tells.disk
      → KeepsOthers (asked_in checks answers) began.moment.files ended.moment.files
  pub folders : tells.disk
      → MakesAskedFolders (asked_in checks answers) began.folders ended.folders
  pub files_failed : CountRoseBy (files_failed answers) began.file_faults ended.file_faults
  pub decodes_failed : CountRoseBy (decodes_failed answers) began.decode_faults ended.decode_faults
