-- Two runs of the same arguments over outsides that are alike (this project).
use Rattle.std.specs.Prelude.{◌≡◌, ◌≢◌, ◌⊎◌, ◌++◌, ℕ, pos, List, [], ◌∷◌, Option, Some, None, IsSomeAnd, Ok}
use Rattle.std.specs.List.{AllByRecursion}
use Rattle.tame_names.specs.Counts.{CountStayed}
use Rattle.tame_cache.specs.Disk.{reads}
use Rattle.tame_sparse.specs.declared.network.Exchange.{Exchange}
use Rattle.audit_asked.specs.ForBinaries.{asked_for_binaries}
use Rattle.audit_asked.specs.declared.asking.Asked.{Asked}
use Rattle.audit_asked.specs.declared.binaries.AskedForBinaries.{AskedForBinaries}
use Rattle.audit_asked.specs.declared.runners.Started.{Started}
use Rattle.audit_core.specs.Alike.{AreAllAlike}
use Rattle.audit_core.specs.Checks.{checks_of}
use Rattle.audit_core.specs.declared.checking.Checks.{Checks}
use Rattle.audit_core.specs.declared.checking.Checks.TheVariants.{Online, Offline, Off}
use Rattle.audit_remedies.specs.FaultLines.{fault_line}
use Rattle.audit_remedies.specs.declared.faults.RunFault.{RunFault}
use Rattle.audit_remedies.specs.declared.faults.RunFault.TheVariants as fault
use Rattle.audit_remedies.specs.declared.remedies.Remedy.{Remedy}
use Rattle.audit_remedies.specs.declared.remedies.Remedy.TheVariants.{Plan, Vendor}
use Rattle.upgrade_plan.specs.HeldPlans.{ConfirmsOrSends}
use Rattle.audit_program.specs.Completes.{AllStayed}
use Rattle.audit_program.specs.HonestRuns.{IsHonestRun}
use Rattle.audit_program.specs.Jobs.{Asking}
use Rattle.audit_program.specs.Tasks.{task_asked}
use Rattle.audit_program.specs.Worlds.{Telling, World}
use Rattle.audit_program.specs.declared.outcomes.Outcome.{Outcome}
use Rattle.audit_program.specs.declared.tasks.Job.TheVariants as job

-- ---- of one run

-- all that is outside is told
pub record AllTell (tells : Telling) : Type 0 where
  pub files : tells.files
  pub decoder : tells.decoder
  pub runner : tells.runner
  pub wire : tells.wire
  pub disk : tells.disk
  pub out : tells.out
  pub err : tells.err

-- no call failed but exchanges, and memory sufficed
pub record IsQuiet (before now : World) (reason : Option RunFault) : Type 0 where
  pub stayed : AllStayed before now
  pub disk : CountStayed before.disk_faults now.disk_faults
  pub decoder : CountStayed before.decode_faults now.decode_faults
  pub memory : reason ≢ Some fault.NoMemory

-- ---- what is alike beforehand

pub record BeginAlike (a b : World) : Type 0 where
  pub host : a.host ≡ b.host
  pub decodes : a.decodes ≡ b.decodes
  pub starts : a.starts ≡ b.starts
  pub out : a.out ≡ b.out
  pub err : a.err ≡ b.err

-- ---- what is alike meanwhile

-- as long as the same was started, and ended alike, the next start ends alike if its arguments are
-- the same
abbrev pub EndAlike : List Started → List Started → Type 0
EndAlike [] ts = Unit {0}
EndAlike (s ∷ ss) [] = Unit {0}
EndAlike (s ∷ ss) (t ∷ ts) = (s.words ≡ t.words → s.status ≡ t.status) × (s ≡ t → EndAlike ss ts)

-- both servers were honest, and the caches were kept for what they held; both held the same and
-- answered alike; whatever else the caches held
pub record AreServedAlike (tells tells_too : Telling) (before now before_too now_too : World)
    : Type 0 where
  pub added : List Exchange
  pub added_too : List Exchange
  pub honest : IsHonestRun tells before now added
  pub honest_too : IsHonestRun tells_too before_too now_too added_too
  pub alike : AreAllAlike added added_too

-- the caches read the same
abbrev pub ReadAlike : World → World → Type 0
ReadAlike a b = (q : List ℕ) → reads (a.cache q) ≡ reads (b.cache q)

-- the same path, and the same answer
pub record AreSame (e f : Exchange) : Type 0 where
  pub path : e.path ≡ f.path
  pub answer : e.answer ≡ f.answer

abbrev pub AreAllSame : List Exchange → List Exchange → Type 0
AreAllSame [] [] = Unit {0}
AreAllSame (e ∷ es) (f ∷ fs) = AreSame e f × AreAllSame es fs
AreAllSame _ _ = ⊥

-- the same was answered, by whatever servers, over caches that read the same
pub record AreAnsweredAlike (before now before_too now_too : World) : Type 0 where
  pub added : List Exchange
  pub added_too : List Exchange
  pub follow : now.exchanges ≡ before.exchanges ++ added
  pub follow_too : now_too.exchanges ≡ before_too.exchanges ++ added_too
  pub same : AreAllSame added added_too
  pub caches : ReadAlike before before_too

-- by how versions are checked
abbrev pub CheckAlike : Checks → Telling → Telling → World → World → World → World → Type 0
CheckAlike Online tells tells_too before now before_too now_too =
    AreServedAlike tells tells_too before now before_too now_too
    ⊎ AreAnsweredAlike before now before_too now_too
CheckAlike Offline tells tells_too before now before_too now_too = ReadAlike before before_too
CheckAlike Off tells tells_too before now before_too now_too = Unit {0}

-- each answer confirmed the body that is kept, or sent a plain one
abbrev pub AreConfirmed : List Exchange → Type 0
AreConfirmed es = AllByRecursion (λ e. IsSomeAnd e.answer ConfirmsOrSends) es

-- both servers were honest and answered alike; and each answer confirmed the body that is kept or
-- sent a plain one, or the caches read the same afterwards: after any other answer an old entry
-- stays in a cache
pub record AreStockedAlike (tells tells_too : Telling) (before now before_too now_too : World)
    : Type 0 where
  pub served : AreServedAlike tells tells_too before now before_too now_too
  pub left : (AreConfirmed served.added × AreConfirmed served.added_too) ⊎ ReadAlike now now_too

-- the same if the cache is read after the audit too, for a plan or a registry
abbrev pub StockAlike : Checks → Telling → Telling → World → World → World → World → Type 0
StockAlike Online tells tells_too before now before_too now_too =
    AreStockedAlike tells tells_too before now before_too now_too
    ⊎ AreAnsweredAlike before now before_too now_too
StockAlike Offline tells tells_too before now before_too now_too = ReadAlike before before_too
StockAlike Off tells tells_too before now before_too now_too = ReadAlike before before_too

-- by what is done with the audit
abbrev pub AuditAlike : Remedy → Checks → Telling → Telling → World → World → World → World
    → Type 0
AuditAlike Plan checks tells tells_too before now before_too now_too =
    StockAlike checks tells tells_too before now before_too now_too
AuditAlike (Vendor more) checks tells tells_too before now before_too now_too =
    StockAlike checks tells tells_too before now before_too now_too
AuditAlike remedy checks tells tells_too before now before_too now_too =
    CheckAlike checks tells tells_too before now before_too now_too

-- by the settings that the host gives
abbrev pub AskAlike : Asking → Telling → Telling → World → World → World → World → Type 0
AskAlike (Ok (job.Lockfile task)) tells tells_too before now before_too now_too =
    (given : Asked) → task_asked task before.host (pos 0) ≡ Ok given
    → AuditAlike task.remedy (checks_of given.config) tells tells_too before now before_too now_too
AskAlike (Ok (job.Binaries command more)) tells tells_too before now before_too now_too =
    (given : AskedForBinaries) → asked_for_binaries command before.host ≡ Ok given
    → CheckAlike (checks_of given.config) tells tells_too before now before_too now_too
AskAlike _ tells tells_too before now before_too now_too = Unit {0}

-- ---- what is the same after them

-- no faults, or two that are reported alike
abbrev pub ToldAlike : Option RunFault → Option RunFault → Type 0
ToldAlike None None = Unit {0}
ToldAlike (Some f) (Some g) = (place : List ℕ) → fault_line place f ≡ fault_line place g
ToldAlike _ _ = ⊥

-- the outputs, the status and the fault's line, what was started, and what is on the host
pub record AgreeBehind (a b : World) (o p : Outcome) : Type 0 where
  pub out : a.out ≡ b.out
  pub err : a.err ≡ b.err
  pub status : o.status ≡ p.status
  pub fault : ToldAlike o.fault p.fault
  pub starts : a.starts ≡ b.starts
  pub stands : a.host.stands ≡ b.host.stands
