-- Histories of runs and crashes on one cache that begins without files, or with files that are all
-- refused (this project).
use Rattle.std.specs.Prelude.{◌≡◌, ℕ, pos, List, [], ◌∷◌, ◌++◌, Ok}
use Rattle.tame_names.specs.Standing.{Host}
use Rattle.tame_entry.specs.ServerMaps.{ServerMap}
use Rattle.tame_cache.specs.Kept.{IsCrash, IsUnbelieved}
use Rattle.tame_sparse.specs.Exchanges.{crates_io_index}
use Rattle.tame_sparse.specs.Honest.{AreHonest}
use Rattle.tame_sparse.specs.declared.network.Exchange.{Exchange}
use Rattle.audit_asked.specs.ForBinaries.{asked_for_binaries}
use Rattle.audit_asked.specs.declared.asking.Asked.{Asked}
use Rattle.audit_asked.specs.declared.binaries.AskedForBinaries.{AskedForBinaries}
use Rattle.audit_binaries.specs.declared.answers.BinaryAnswer.{BinaryAnswer}
use Rattle.audit_binaries.specs.declared.answers.BinaryAnswer.TheVariants.{Audited, Refused}
use Rattle.audit_core.specs.Checks.{checks_of, judged_of}
use Rattle.audit_core.specs.Remembered.{IsRememberedAt}
use Rattle.audit_core.specs.Turns.{StaysKept}
use Rattle.audit_core.specs.Verdicts.{AreVerdicts}
use Rattle.audit_core.specs.declared.checking.Checks.{Checks}
use Rattle.audit_core.specs.declared.checking.Checks.TheVariants.{Offline, Online}
use Rattle.audit_program.specs.Jobs.{Asking, OfBinaries, OfTask}
use Rattle.audit_program.specs.Runs.{IsRun}
use Rattle.audit_program.specs.Tasks.{task_asked}
use Rattle.audit_program.specs.Worlds.{Telling, Uncalled, World, uncalled}
use Rattle.audit_program.specs.declared.outcomes.Outcome.{Outcome}

-- the objects that a run calls, but for its outputs
pub record Objects (F P R W D : Type 0) : Type 0 where
  pub files : F
  pub decoder : P
  pub runner : R
  pub wire : W
  pub disk : D

-- that each is the very object that it was
abbrev pub uncalled_since : (F P R W D : Type 0) → Objects F P R W D → Objects F P R W D → Uncalled
uncalled_since F P R W D before now =
    uncalled (now.files ≡ before.files) (now.decoder ≡ before.decoder)
    (now.runner ≡ before.runner) (now.wire ≡ before.wire) (now.disk ≡ before.disk)

-- runs, whatever their arguments ask for, and audits that a caller of the library makes, whose
-- exchanges are honest for a map, crashes, and between them changes by others of anything but the
-- cache: when the last of them began, and what is now
pub data RunHistory (F P R W D : Type 0) (tells : Telling) (m : ServerMap)
    : World → World → Type 0 where
  begins : (world : World) → IsUnbelieved crates_io_index [] world.cache
      → RunHistory F P R W D tells m world world
  runs : (began now next : World) (asking : Asking) (objects objects_next : Objects F P R W D)
      (outcome : Outcome) (added : List Exchange) → RunHistory F P R W D tells m began now
      → IsRun tells asking (uncalled_since F P R W D objects objects_next) now next outcome
      → next.exchanges ≡ now.exchanges ++ added → AreHonest m added
      → RunHistory F P R W D tells m now next
  audits : (began now next : World) (added : List Exchange)
      → RunHistory F P R W D tells m began now
      → StaysKept now.exchanges next.exchanges now.cache next.cache
      → next.exchanges ≡ now.exchanges ++ added → AreHonest m added
      → RunHistory F P R W D tells m now next
  others : (began now next : World) → RunHistory F P R W D tells m began now
      → ((q : List ℕ) → next.cache q ≡ now.cache q) → RunHistory F P R W D tells m next next
  crashes : (began now next : World) → RunHistory F P R W D tells m began now
      → IsCrash began.cache now.cache next.cache → RunHistory F P R W D tells m next next

-- audits of binaries are asked for, and by what this host has versions are checked online
abbrev pub AsksBinariesOnline : Asking → Host → Type 0
AsksBinariesOnline asking host = OfBinaries
    (λ command more. (given : AskedForBinaries) → asked_for_binaries command host ≡ Ok given
    → checks_of given.config ≡ Online) asking

-- ---- offline

-- the exchanges of the runs and audits of a history, the first of them first
abbrev pub exchanges_in_runs : (F P R W D : Type 0) (tells : Telling) (m : ServerMap)
    (began now : World) → RunHistory F P R W D tells m began now → List Exchange
exchanges_in_runs F P R W D tells m began now (begins world unbelieved) = []
exchanges_in_runs F P R W D tells m began now
    (runs start mid next asking objects objects_next outcome added earlier made follow honest) =
    exchanges_in_runs F P R W D tells m start mid earlier ++ added
exchanges_in_runs F P R W D tells m began now
    (audits start mid next added earlier keeps follow honest) =
    exchanges_in_runs F P R W D tells m start mid earlier ++ added
exchanges_in_runs F P R W D tells m began now (others start mid next earlier same) =
    exchanges_in_runs F P R W D tells m start mid earlier
exchanges_in_runs F P R W D tells m began now (crashes start mid next earlier crash) =
    exchanges_in_runs F P R W D tells m start mid earlier

-- an audit is asked for, and by what this host has versions are checked by the cache alone
abbrev pub AsksOffline : Asking → Host → Type 0
AsksOffline asking host = OfTask (λ task. (given : Asked) → task_asked task host (pos 0) ≡ Ok given
    → checks_of given.config ≡ Offline) asking

abbrev pub AsksBinariesOffline : Asking → Host → Type 0
AsksBinariesOffline asking host = OfBinaries
    (λ command more. (given : AskedForBinaries) → asked_for_binaries command host ≡ Ok given
    → checks_of given.config ≡ Offline) asking

-- the verdicts of each audit are by what is remembered of these exchanges
abbrev pub AllRemember : Checks → List Exchange → List BinaryAnswer → Type 0
AllRemember checks es [] = Unit {0}
AllRemember checks es (Audited found audited ∷ answers) =
    AreVerdicts (IsRememberedAt es audited.turns) (judged_of checks audited.lockfile)
    audited.verdicts
    × AllRemember checks es answers
AllRemember checks es (Refused f ∷ answers) = AllRemember checks es answers
