-- Answers for binaries, one after the other (this project, after cargo-audit).
use Rattle.std.specs.Prelude.{◌≡◌, ◌≢◌, ◌≤◌, ◌⊎◌, ℕ, List, [], ◌∷◌, ◌++◌, drop, take, Result, Ok, Err}
use Rattle.tame_names.specs.Counts.{CountRose}
use Rattle.tame_names.specs.Standing.{Host}
use Rattle.tame_names.specs.declared.host.FailedCall.{FailedCall}
use Rattle.tame_cache.specs.FailedCalls.{FailedDiskCalls}
use Rattle.tame_cache.specs.Kept.{Disk}
use Rattle.tame_sparse.specs.declared.network.Exchange.{Exchange}
use Rattle.audit_lock.specs.Locked.{locked}
use Rattle.audit_lock.specs.declared.lockfiles.LockfileFault.{LockfileFault}
use Rattle.audit_lock.specs.declared.lockfiles.LockfileFault.TheVariants as lockfile_fault
use Rattle.audit_lock.specs.declared.resolving.Package.{Package}
use Rattle.audit_core.specs.Audits.{IsAuditOf, KeepsOthers, MakesAskedFolders, Moment}
use Rattle.audit_core.specs.Checks.{asked_of}
use Rattle.audit_core.specs.Turns.{AddsPart, StaysKept}
use Rattle.audit_core.specs.declared.auditing.Audited.{Audited}
use Rattle.audit_core.specs.declared.auditors.Auditor.{Auditor}
use Rattle.audit_core.specs.declared.checking.Checks.TheVariants.{Online}
use Rattle.audit_binaries.specs.Decoding.{DecoderAnswers}
use Rattle.audit_binaries.specs.Opened.{IsOpened, IsUnopened, bytes_at, failed_reads, said_text}
use Rattle.audit_binaries.specs.declared.answers.BinaryAnswer.{BinaryAnswer}
use Rattle.audit_binaries.specs.declared.answers.BinaryAnswer.TheVariants as answer
use Rattle.audit_binaries.specs.declared.answers.BinaryFault.{BinaryFault}
use Rattle.audit_binaries.specs.declared.answers.BinaryFault.TheVariants as fault
use Rattle.audit_binaries.specs.declared.answers.PackagesFound.{PackagesFound}
use Rattle.audit_binaries.specs.declared.limits.BinaryLimits.{BinaryLimits}
use Rattle.audit_binaries.specs.declared.opening.FoundText.{FoundText}

-- ---- the outside

-- which objects tell what they have
pub record Tells : Type 1 where
  pub files : Type 0
  pub decoder : Type 0
  pub wire : Type 0
  pub disk : Type 0

-- at a moment: the wire and the disk, the folders that were created, the calls on files that have
-- failed, and how often these and decodings have
pub record Outside : Type 0 where
  pub moment : Moment
  pub folders : List (List ℕ)
  pub failed : List FailedCall
  pub file_faults : ℕ
  pub decode_faults : ℕ

-- by its fields in their order
abbrev pub outside : List Exchange → Disk → ℕ → ℕ → FailedDiskCalls → List (List ℕ)
    → List FailedCall → ℕ → ℕ → Outside
outside exchanges files wire_faults disk_faults disk_failed folders failed file_faults
    decode_faults = record {
      moment = record {
        exchanges = exchanges;
        files = files;
        wire_faults = wire_faults;
        disk_faults = disk_faults;
        disk_failed = disk_failed;
      };
      folders = folders;
      failed = failed;
      file_faults = file_faults;
      decode_faults = decode_faults;
    }

-- what binaries are audited by: the auditor, the limits, what is at paths, and what the decoder
-- answers
pub record Scan : Type 0 where
  pub auditor : Auditor
  pub limits : BinaryLimits
  pub host : Host
  pub answers : DecoderAnswers

-- the paths that the audit of these packages asks for
abbrev pub asked_by : Scan → List Package → List (List ℕ)
asked_by scan packages = asked_of scan.auditor.checks packages

-- the binary at the path says this
abbrev pub Says : Tells → Scan → List ℕ → FoundText → Type 0
Says tells scan path said =
    IsOpened tells.files tells.decoder scan.limits (scan.host.stands path) scan.answers said

-- ---- one binary

-- its audit is that of the text that it says. No file changes except those of the paths that are
-- asked for, and none at all if the server isn't asked, so the next binary is audited by the same
-- cache. No folders are created except those above them. A kept disk is kept all the time if the
-- exchanges are honest
pub record IsAudited (tells : Tells) (scan : Scan) (began ended : Outside) (path : List ℕ)
    (found : PackagesFound) (audited : Audited) : Type 0 where
  pub text : List ℕ
  pub said : Says tells scan path (record { found = found; text = text })
  pub audit : IsAuditOf scan.auditor tells.wire tells.disk began.moment ended.moment text audited
  pub unasked : scan.auditor.checks ≢ Online → ended.moment.exchanges ≡ began.moment.exchanges
  pub unchanged : scan.auditor.checks ≢ Online → tells.disk
      → (q : List ℕ) → ended.moment.files q ≡ began.moment.files q
  pub others : tells.disk → KeepsOthers
      (asked_by scan audited.lockfile) began.moment.files ended.moment.files
  pub folders : tells.disk → MakesAskedFolders
      (asked_by scan audited.lockfile) began.folders ended.folders
  pub kept : tells.wire → tells.disk
      → StaysKept began.moment.exchanges ended.moment.exchanges began.moment.files
      ended.moment.files

-- what it says is no lockfile, for this reason
abbrev pub IsUnlocked : Tells → Scan → List ℕ → BinaryFault → Type 0
IsUnlocked tells scan path (fault.Lockfile f) =
    (f ≢ lockfile_fault.NoMemory) × (said : FoundText) × Says tells scan path said
    × (locked said.text ≡ Err f)
IsUnlocked tells scan path _ = ⊥

-- why there is no audit
abbrev pub IsRefusedFor : Tells → Scan → List ℕ → BinaryFault → Type 0
IsRefusedFor tells scan path f =
    IsUnopened tells.files tells.decoder scan.limits (scan.host.stands path) scan.answers f
    ⊎ IsUnlocked tells scan path f

-- wire and disk are as they were
pub record IsUncalled (began ended : Outside) : Type 0 where
  pub moment : ended.moment ≡ began.moment
  pub folders : ended.folders ≡ began.folders

-- an audit, or the reason why there is none; if there is none, nothing was called
abbrev pub IsAnswered : Tells → Scan → Outside → Outside → List ℕ → BinaryAnswer → Type 0
IsAnswered tells scan began ended path (answer.Audited found audited) =
    IsAudited tells scan began ended path found audited
IsAnswered tells scan began ended path (answer.Refused f) =
    IsRefusedFor tells scan path f × IsUncalled began ended

abbrev pub failed_by : List ℕ → BinaryAnswer → List FailedCall
failed_by path (answer.Audited found audited) = []
failed_by path (answer.Refused f) = failed_reads path f

-- the counts of files and decoder never fall; a file that couldn't be read raised the first, and is
-- told, and a failed decoding raised the second, which stays otherwise
pub record IsCounted (tells : Tells) (began ended : Outside) (path : List ℕ)
    (a : BinaryAnswer) : Type 0 where
  pub files : began.file_faults ≤ ended.file_faults
  pub decoder : began.decode_faults ≤ ended.decode_faults
  pub file : a ≡ answer.Refused fault.File → CountRose began.file_faults ended.file_faults
  pub decode : a ≡ answer.Refused fault.Decode → CountRose began.decode_faults ended.decode_faults
  pub quiet : a ≢ answer.Refused fault.Decode → ended.decode_faults ≡ began.decode_faults
  pub failed : tells.files → ended.failed ≡ began.failed ++ failed_by path a

pub record IsBinary (tells : Tells) (scan : Scan) (began ended : Outside) (path : List ℕ)
    (a : BinaryAnswer) : Type 0 where
  pub answered : IsAnswered tells scan began ended path a
  pub counted : IsCounted tells began ended path a

-- ---- one that ran out of memory

-- a part of the audit of these packages: the first few of its paths were asked for, and no other
-- file changed
pub record IsPart (tells : Tells) (scan : Scan) (began ended : Outside)
    (packages : List Package) : Type 0 where
  pub asked : tells.wire → AddsPart
      (asked_by scan packages) began.moment.exchanges ended.moment.exchanges
  pub others : tells.disk → KeepsOthers
      (asked_by scan packages) began.moment.files ended.moment.files
  pub folders : tells.disk → MakesAskedFolders (asked_by scan packages) began.folders ended.folders

-- wire and disk are as they were, or what the binary says was audited in part
abbrev pub IsBegun : Tells → Scan → Outside → Outside → List ℕ → Type 0
IsBegun tells scan began ended path =
    IsUncalled began ended
    ⊎ ((said : FoundText) × (packages : List Package) × Says tells scan path said
    × (locked said.text ≡ Ok packages) × IsPart tells scan began ended packages)

pub record IsCutOff (tells : Tells) (scan : Scan) (began ended : Outside)
    (path : List ℕ) : Type 0 where
  pub files : began.file_faults ≤ ended.file_faults
  pub decoder : ended.decode_faults ≡ began.decode_faults
  pub failed : tells.files → ended.failed ≡ began.failed
  pub begun : IsBegun tells scan began ended path

-- ---- one after the other

-- one answer for each path, in their order, each from the end of the one before
abbrev pub AreBinaries : Tells → Scan → Outside → Outside → List (List ℕ) → List BinaryAnswer
    → Type 0
AreBinaries tells scan began ended [] [] = ended ≡ began
AreBinaries tells scan began ended (path ∷ paths) (a ∷ answers) =
    (mid : Outside) × IsBinary tells scan began mid path a
    × AreBinaries tells scan mid ended paths answers
AreBinaries tells scan began ended _ _ = ⊥

-- nothing more was done, or the next one was begun
abbrev pub IsNextBegun : Tells → Scan → Outside → Outside → List (List ℕ) → Type 0
IsNextBegun tells scan began ended [] = ended ≡ began
IsNextBegun tells scan began ended (path ∷ paths) =
    (ended ≡ began) ⊎ IsCutOff tells scan began ended path

-- the first few paths were answered, and the next one may have been begun
abbrev pub ArePartly : Tells → Scan → Outside → Outside → List (List ℕ) → Type 0
ArePartly tells scan began ended paths =
    (k : ℕ) × (answers : List BinaryAnswer) × (mid : Outside)
    × AreBinaries tells scan began mid (take k paths) answers
    × IsNextBegun tells scan mid ended (drop k paths)

-- ---- if all tell what they have

abbrev pub all_tell : Tells
all_tell = record { files = Unit {0}; decoder = Unit {0}; wire = Unit {0}; disk = Unit {0} }

abbrev pub said_of : Scan → Result (List ℕ) BinaryFault → Result FoundText BinaryFault
said_of scan (Ok bytes) = said_text (scan.answers bytes scan.limits.payload)
said_of scan (Err f) = Err f

-- what the binary at a path says, or why it says nothing
abbrev pub said_at : Scan → List ℕ → Result FoundText BinaryFault
said_at scan path = said_of scan (bytes_at scan.limits.binary (scan.host.stands path))

-- the answer is the audit of what is said, or why there is none
abbrev pub IsExactly : Result FoundText BinaryFault → BinaryAnswer → Type 0
IsExactly (Err f) a = a ≡ answer.Refused f
IsExactly (Ok said) (answer.Audited found audited) =
    (found ≡ said.found) × (locked said.text ≡ Ok audited.lockfile)
IsExactly (Ok said) (answer.Refused f) =
    (x : LockfileFault) × (f ≡ fault.Lockfile x) × (locked said.text ≡ Err x)
