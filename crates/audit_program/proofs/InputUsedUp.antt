-- What is left of standard input.
use Rattle.std.proofs.Common.{◌≡◌, inl, inr, ℕ, List, [], ◌∷◌, Result, Ok, Err, refl, ap, ◌∙◌}
use Rattle.tame_names.specs.Changes.{Creates}
use Rattle.tame_names.specs.Standing.{Host, IsInput}
use Rattle.tame_local.specs.Builders as local
use Rattle.audit_lock.specs.declared.resolving.Package.{Package}
use Rattle.audit_core.specs.declared.auditing.Audited.{Audited}
use Rattle.vendor_registry.specs.Built.{IsBuilt, IsUnfinished, all_made}
use Rattle.vendor_registry.specs.Checks.{Stock}
use Rattle.audit_remedies.specs.Endings.{Ending}
use Rattle.audit_remedies.specs.Makings.{IsMade, IsVendorMade, Making, done_of, stock_in}
use Rattle.audit_remedies.specs.Remedies.{MakesRegistry}
use Rattle.audit_remedies.specs.declared.faults.RunFault.{RunFault}
use Rattle.audit_remedies.specs.declared.faults.RunFault.TheVariants as fault
use Rattle.audit_remedies.specs.declared.makings.Made.{Made}
use Rattle.audit_remedies.specs.declared.makings.Made.TheVariants as made
use Rattle.audit_remedies.specs.declared.remedies.Remedy.{Remedy}
use Rattle.audit_remedies.specs.declared.remedies.Remedy.TheVariants.{Report, Fix, Plan, Baseline, WriteBaseline, Vendor}
use Rattle.audit_words.specs.declared.commands.VendorCommand.{VendorCommand}
use Rattle.audit_program.specs.TaskRuns.{IsTaskRun}
use Rattle.audit_program.specs.Tasks.{task_place}
use Rattle.audit_program.specs.Worlds.{Telling, World}
use Rattle.audit_program.specs.declared.tasks.Task.{Task}

same_input : (a b : Host) → b ≡ a → b.input ≡ a.input
same_input a b is = ap (λ (h : Host). h.input) is

-- ---- files and folders that are created leave it

created : (path bytes : List ℕ) (a b : Host) (r : Result Unit RunFault) → Creates path bytes a b r → b.input ≡ a.input
created path bytes a b (Ok done) h = ap (λ (x : Host). x.input) h.1
created path bytes a b (Err f) (inl same) = same_input a b same
created path bytes a b (Err f) (inr some) = ap (λ (x : Host). x.input) some.1.1

one_change : (change : local.HostChange) (a : Host) → (local.after_change change a).input ≡ a.input
one_change (local.Makes folder) a = refl
one_change (local.Creates path bytes) a = refl

all_changes : (changes : List local.HostChange) (a : Host) → (local.after changes a).input ≡ a.input
all_changes [] a = refl
all_changes (change ∷ changes) a = all_changes changes (local.after_change change a) ∙ one_change change a

begun_change : (change : local.HostChange) (a b : Host) → local.IsBegun change a b → b.input ≡ a.input
begun_change (local.Makes folder) a b (inl same) = same_input a b same
begun_change (local.Makes folder) a b (inr some) = ap (λ (h : Host). h.input) some.1
begun_change (local.Creates path bytes) a b (inl same) = same_input a b same
begun_change (local.Creates path bytes) a b (inr some) = ap (λ (h : Host). h.input) some.1

begun_changes : (changes : List local.HostChange) (a b : Host) → local.AreBegun changes a b → b.input ≡ a.input
begun_changes [] a b same = same_input a b same
begun_changes (change ∷ changes) a b (inl begun) = begun_change change a b begun
begun_changes (change ∷ changes) a b (inr more) = begun_changes changes (local.after_change change a) b more ∙ one_change change a

-- ---- so does a registry, created or not

built_left : (stock : Stock) (packages : List Package) (folder : List ℕ) (a b : Host) → IsBuilt stock packages folder a b → b.input ≡ a.input
built_left stock packages folder a b h = ap (λ (x : Host). x.input) h.2 ∙ all_changes (all_made folder h.0) a

unfinished_left : (stock : Stock) (packages : List Package) (folder : List ℕ) (a b : Host) → IsUnfinished stock packages folder a b → b.input ≡ a.input
unfinished_left stock packages folder a b (inl same) = same_input a b same
unfinished_left stock packages folder a b (inr begun) = begun_changes (all_made folder begun.0) a b begun.2

vendor_left : (more : VendorCommand) (m : Making) (r : Result Made RunFault) → IsVendorMade more m r → m.files_tell → m.disk_tells → m.host_now.input ≡ m.host.input
vendor_left more m (Ok made.Report) h told tells = absurd h
vendor_left more m (Ok (made.Fix dry_run)) h told tells = absurd h
vendor_left more m (Ok (made.Planned items)) h told tells = absurd h
vendor_left more m (Ok (made.Unlisted found)) h told tells = absurd h
vendor_left more m (Ok made.Written) h told tells = absurd h
vendor_left more m (Ok (made.Vendored v)) h told tells = built_left (stock_in more m) m.audited.lockfile more.to m.host m.host_now (h.built told tells)
vendor_left more m (Err (fault.Vendor reason)) h told tells = unfinished_left (stock_in more m) m.audited.lockfile more.to m.host m.host_now (h.1.begun told tells)
vendor_left more m (Err fault.NoMemory) h told tells = unfinished_left (stock_in more m) m.audited.lockfile more.to m.host m.host_now (h.begun told tells)
vendor_left more m (Err _) h told tells = absurd h

-- what is made of an audit leaves the input; of a registry that is known if the disk is told
made_left : (remedy : Remedy) (m : Making) (r : Result Made RunFault) → IsMade remedy m r → (MakesRegistry remedy → m.disk_tells) → m.files_tell → m.host_now.input ≡ m.host.input
made_left Report m r h tells told = same_input m.host m.host_now (h.2 told)
made_left (Fix dry_run) m r h tells told = same_input m.host m.host_now (h.2 told)
made_left Plan m r h tells told = same_input m.host m.host_now (h.2 told)
made_left (Baseline path) m r h tells told = same_input m.host m.host_now (h.2 told)
made_left (WriteBaseline path) m r h tells told = created path _ m.host m.host_now (done_of r) (h.2 told)
made_left (Vendor more) m r h tells told = vendor_left more m r h.0 told (tells tt)

-- so all of it is used up if the lockfile came from there
pub input_used_up : (tells : Telling) (task : Task) (before now : World) (end : Ending) (audited : Audited) → IsTaskRun tells task before now end audited → tells.files → IsInput (task_place task)
    → (MakesRegistry task.remedy → tells.disk) → now.host.input ≡ []
input_used_up tells task before now end audited h told is disk = made_left task.remedy _ h.run.it h.run.is_made disk told ∙ h.used_up told is
