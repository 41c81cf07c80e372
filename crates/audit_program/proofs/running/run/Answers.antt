use Rattle.std.proofs.Common.{◌≡◌, [], Some, Ok, Err, refl}
use Rattle.std.specs.Prelude.{map, string_bytes}
use Rattle.audit_words.proofs.Makeable.{bounded}
use Rattle.audit_words.specs.Reading.{command_of}
use Rattle.audit_words.specs.declared.commands.WordsFault.TheVariants as words_fault
use Rattle.audit_program.specs.Jobs.{asking_of}
use Rattle.audit_program.specs.Tasks.{asking_place}
use Rattle.audit_remedies.specs.declared.faults.RunFault.TheVariants as fault
use Rattle.audit_program.specs.declared.tasks.Job.TheVariants as job
use Rattle.audit_program.proofs.Alone.{broken_run, generate_plain, generated_by, help_plain, memory_run, one_of, plain_run, version_plain}
use Rattle.audit_program.proofs.Ended.{ended_by}
use Rattle.audit_program.proofs.Nones.{none_some}
use Rattle.audit_program.proofs.Outsides.{binaries_run, task_run}
use Rattle.audit_remedies.proofs.Putting.{put_nothing}
use Rattle.audit_program.proofs.running.run.Goals as goal

-- the arguments ask for an audit of a lockfile, or for audits of binaries

pub returns-in-Ok-Lockfile : goal.returns-in-Ok-Lockfile
returns-in-Ok-Lockfile g c =
    let mine : asking_of (map string_bytes c.args.words.now) ≡ Ok (job.Lockfile c.in-Ok-Lockfile.task) = rw c.in-Ok-Lockfile.field-0-is at c.in-Ok-Lockfile.ensures.ok in
    rw mine (task_run _ _ c.in-Ok-Lockfile.task _ _ _ _ c.run_task.result refl (c.run_task.ensures (g.P.Decoder.answers c.args.decoder.now) (g.P.Decoder.faults c.args.decoder.now)))

pub returns-in-Ok-Binaries : goal.returns-in-Ok-Binaries
returns-in-Ok-Binaries g c =
    let mine : asking_of (map string_bytes c.args.words.now) ≡ Ok (job.Binaries c.in-Ok-Binaries.command c.in-Ok-Binaries.more) = rw c.in-Ok-Binaries.field-0-is at c.in-Ok-Binaries.ensures.ok in
    rw mine (binaries_run _ _ c.in-Ok-Binaries.command c.in-Ok-Binaries.more _ _ _ _ c.run_binaries.result refl
    (c.run_binaries.ensures (g.R.Runner.starts c.args.runner.now) (g.R.Runner.faults c.args.runner.now)) refl)

-- they ask for text

pub returns-in-Ok-Help : goal.returns-in-Ok-Help
returns-in-Ok-Help g c =
    let mine : asking_of (map string_bytes c.args.words.now) ≡ Ok job.Help = rw c.in-Ok-Help.field-0-is at c.in-Ok-Help.ensures.ok in
    rw mine (plain_run _ (Ok job.Help) _ _ _ _ _ _ c.run_text.result (record { files = refl; decoder = refl; runner = refl; wire = refl; disk = refl }) (help_plain _ _) c.run_text.ensures.alone (λ other. tt) (none_some c.run_text.result.generated _ c.run_text.ensures.generated))

pub returns-in-Ok-Version : goal.returns-in-Ok-Version
returns-in-Ok-Version g c =
    let r = c.run_text-in-Ok-Version.result in
    let mine : asking_of (map string_bytes c.args.words.now) ≡ Ok job.Version = rw c.in-Ok-Version.field-0-is at c.in-Ok-Version.ensures.ok in
    rw mine (plain_run _ (Ok job.Version) _ _ _ _ _ _ r (record { files = refl; decoder = refl; runner = refl; wire = refl; disk = refl }) (version_plain _ _) c.run_text-in-Ok-Version.ensures.alone (λ other. tt) (none_some r.generated _ c.run_text-in-Ok-Version.ensures.generated))

pub run_generated-requires : goal.run_generated-requires
run_generated-requires g c =
    let mine : asking_of (map string_bytes c.args.words.now) ≡ Ok (job.Generate c.in-Ok-Generate.count) = rw c.in-Ok-Generate.field-0-is at c.in-Ok-Generate.ensures.ok in
    (bounded (map string_bytes c.args.words.now) c.in-Ok-Generate.count (generated_by (command_of (map string_bytes c.args.words.now)) c.in-Ok-Generate.count mine)).1

pub returns-in-Ok-Generate : goal.returns-in-Ok-Generate
returns-in-Ok-Generate g c =
    let n = c.in-Ok-Generate.count in
    let mine : asking_of (map string_bytes c.args.words.now) ≡ Ok (job.Generate n) = rw c.in-Ok-Generate.field-0-is at c.in-Ok-Generate.ensures.ok in
    rw mine (plain_run _ (Ok (job.Generate n)) _ _ _ _ _ _ c.run_generated.result (record { files = refl; decoder = refl; runner = refl; wire = refl; disk = refl }) (generate_plain _ n _) c.run_generated.ensures.alone c.run_generated.ensures.has_generated c.run_generated.ensures.generated)

-- they break a rule, or it is out of memory

pub returns-in-Err-Usage : goal.returns-in-Err-Usage
returns-in-Err-Usage g c =
    let at = g.E.Sink.holds c.args.err.now in
    let place = c.in-Err-Usage.place in
    let end = c.failed.ensures in
    let mine : asking_of (map string_bytes c.args.words.now) ≡ Err (words_fault.Usage place) = rw c.in-Err-Usage.field-0-is at (c.in-Err-Usage.ensures.refused (λ is. cc (is, c.in-Err-Usage.field-0-is))) in
    rw mine (broken_run _ place _ _ _ _ c.failed.result (record { files = refl; decoder = refl; runner = refl; wire = refl; disk = refl }) end.audited end.binaries end.generated end.plan end.status end.fault
    (λ told. end.ended told at [] (put_nothing at (Some (fault.Usage place)))))

pub returns-in-Err-NoMemory : goal.returns-in-Err-NoMemory
returns-in-Err-NoMemory g c =
    let at = g.E.Sink.holds c.args.err.now in
    let end = c.failed-in-Err-NoMemory.ensures in
    let r = c.failed-in-Err-NoMemory.result in
    let is = one_of r.fault fault.NoMemory end.fault in
    let asking = asking_of (map string_bytes c.args.words.now) in
    memory_run _ asking _ _ _ _ r (record { files = refl; decoder = refl; runner = refl; wire = refl; disk = refl })
    (record { audited = end.audited; binaries = end.binaries; generated = end.generated; plan = end.plan; fault = is; status = end.status fault.NoMemory is })
    (λ told.
    ended_by [] (asking_place asking) at [] (g.E.Sink.holds c.failed-in-Err-NoMemory.new.err) fault.NoMemory r.fault _ _ refl end.fault (end.ended told at [] (put_nothing at (Some fault.NoMemory))))
