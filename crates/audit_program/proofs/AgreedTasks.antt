-- Two audits of a lockfile agree.
use Rattle.std.proofs.Common.{◌≡◌, inl, inr, ℕ, ℤ, List, [], ◌∷◌, ◌++◌, Bool, true, false, Option, Some, Ok, refl, sym, ap, subst, ◌∙◌}
use Rattle.std.specs.Prelude.{pos, map, zip}
use Rattle.tame_names.specs.Standing.{Host}
use Rattle.audit_lock.specs.declared.lockfiles.LockfileFault.{LockfileFault}
use Rattle.audit_asked.specs.Asked.{status_of}
use Rattle.audit_asked.specs.Refusals.{refused}
use Rattle.audit_asked.specs.Starts.{generating}
use Rattle.audit_asked.specs.declared.runners.Started.{Started}
use Rattle.audit_fix.specs.Steps.{started}
use Rattle.audit_remedies.specs.Endings.{steps_by}
use Rattle.audit_remedies.specs.FaultLines.{fault_line}
use Rattle.audit_remedies.specs.Faults.{by_ask}
use Rattle.audit_remedies.specs.declared.faults.RunFault.{RunFault}
use Rattle.audit_remedies.specs.declared.faults.RunFault.TheVariants as fault
use Rattle.audit_program.specs.AgreeingRuns.{AgreeBehind, AllTell, BeginAlike, EndAlike, IsQuiet, ToldAlike}
use Rattle.audit_program.specs.Runs.{IsRun}
use Rattle.audit_program.specs.declared.tasks.Job.TheVariants as job
use Rattle.audit_program.specs.Tasks.{task_asked, task_generates, task_place}
use Rattle.audit_program.specs.Worlds.{Telling, Uncalled, World}
use Rattle.audit_program.specs.declared.outcomes.Outcome.{Outcome}
use Rattle.audit_program.specs.declared.tasks.Task.{Task}
use Rattle.audit_program.proofs.AskedAlike.{asked_alike}
use Rattle.audit_program.proofs.StartedAlike.{alike_behind, generated_alike}
use Rattle.audit_program.proofs.TaskEnds.{IsOne, IsRefusedRun, IsUnlockedRun, StartedBy, one_of, same_line}
use Rattle.audit_program.proofs.Asking.{asked_settles}
use Rattle.audit_program.proofs.DoneAlike.{AskTask, IsUnchanged, done_agree, moved, audited_starts}

-- ---- starts

-- a lockfile was generated with one status
same_status : (b : Bool) (before now now_too : List Started) (s t : ℤ) (more more_too : List Started) → b ≡ true → StartedBy b before now s more → StartedBy b before now_too t more_too → EndAlike now now_too → s ≡ t
same_status false before now now_too s t more more_too is one two end = cc (is)
same_status true before now now_too s t more more_too is one two end =
    let P : List Started → Type 0 = λ xs. EndAlike xs now_too in
    let Q : List Started → Type 0 = λ xs. EndAlike (before ++ generating (Some s) ∷ more) xs in
    generated_alike s t more more_too (alike_behind before (generating (Some s) ∷ more) (generating (Some t) ∷ more_too) (subst Q two (subst P one end)))

-- so the same was asked of the host
same_asked : (b : Bool) (task : Task) (host : Host) (before now now_too : List Started) (s t : ℤ) (more more_too : List Started) → task_generates task host ≡ b
    → StartedBy b before now s more → StartedBy b before now_too t more_too → EndAlike now now_too → task_asked task host s ≡ task_asked task host t
same_asked true task host before now now_too s t more more_too is one two end = ap (λ (n : ℤ). task_asked task host n) (same_status true before now now_too s t more more_too refl one two end)
same_asked false task host before now now_too s t more more_too is one two end = asked_alike task.command _ host s t is

pub asked_one : (task : Task) (host : Host) (before now now_too : List Started) (s t : ℤ) (more more_too : List Started)
    → StartedBy (task_generates task host) before now s more → StartedBy (task_generates task host) before now_too t more_too → EndAlike now now_too → task_asked task host s ≡ task_asked task host t
asked_one task host before now now_too s t more more_too one two end = same_asked (task_generates task host) task host before now now_too s t more more_too refl one two end

-- and the same was started, if the same follows it
same_starts : (b : Bool) (before now now_too : List Started) (s t : ℤ) (more : List Started) → StartedBy b before now s more → StartedBy b before now_too t more → EndAlike now now_too → now ≡ now_too
same_starts false before now now_too s t more one two end = one ∙ sym two
same_starts true before now now_too s t more one two end =
    let status : s ≡ t = same_status true before now now_too s t more more refl one two end in
    one ∙ ap (λ (n : ℤ). before ++ generating (Some n) ∷ more) status ∙ sym two

-- ---- both refused

refused_agree : (task : Task) (host : Host) (starts : List Started) (out err : List ℕ) (now now_too : World) (outcome outcome_too : Outcome)
    → IsRefusedRun task host starts out err now outcome → IsRefusedRun task host starts out err now_too outcome_too → EndAlike now.starts now_too.starts → AgreeBehind now now_too outcome outcome_too
refused_agree task host starts out err now now_too outcome outcome_too h k end =
    let asked = asked_one task host starts now.starts now_too.starts (status_of h.asked) (status_of k.asked) [] [] h.started k.started end in
    let gave = sym h.gives ∙ asked ∙ k.gives in
    let same : refused h.asked ≡ refused k.asked = cc (gave) in
    let lines = same_line h.asked k.asked h.told k.told same in
    record {
      out = h.put ∙ sym k.put;
      err = h.line ∙ ap (λ (xs : List ℕ). err ++ xs) (lines (task_place task)) ∙ sym k.line;
      status = h.status ∙ sym k.status;
      fault = let P : Option RunFault → Type 0 = λ o. ToldAlike o outcome_too.fault in let Q : Option RunFault → Type 0 = λ o. ToldAlike (Some (by_ask h.asked)) o in subst P (sym h.ends) (subst Q (sym k.ends) lines);
      starts = same_starts (task_generates task host) starts now.starts now_too.starts (status_of h.asked) (status_of k.asked) [] h.started k.started end;
      stands = h.stands ∙ sym k.stands;
    }

unlocked_agree : (task : Task) (host : Host) (starts : List Started) (out err : List ℕ) (now now_too : World) (outcome outcome_too : Outcome)
    → IsUnlockedRun task host starts out err now outcome → IsUnlockedRun task host starts out err now_too outcome_too → EndAlike now.starts now_too.starts → AgreeBehind now now_too outcome outcome_too
unlocked_agree task host starts out err now now_too outcome outcome_too h k end =
    let one = h.gives in
    let two = k.gives in
    let mine = h.lockfile in
    let other = k.lockfile in
    let same : h.reason ≡ k.reason = cc (one, two, mine, other) in
    let lines : (place : List ℕ) → fault_line place (fault.Lockfile h.reason) ≡ fault_line place (fault.Lockfile k.reason) = λ place. ap (λ (r : LockfileFault). fault_line place (fault.Lockfile r)) same in
    record {
      out = h.put ∙ sym k.put;
      err = h.line ∙ ap (λ (xs : List ℕ). err ++ xs) (lines (task_place task)) ∙ sym k.line;
      status = h.status ∙ sym k.status;
      fault = let P : Option RunFault → Type 0 = λ o. ToldAlike o outcome_too.fault in let Q : Option RunFault → Type 0 = λ o. ToldAlike (Some (fault.Lockfile h.reason)) o in subst P (sym h.ends) (subst Q (sym k.ends) lines);
      starts = same_starts (task_generates task host) starts now.starts now_too.starts (pos 0) (pos 0) [] h.started k.started end;
      stands = h.stands ∙ sym k.stands;
    }

-- ---- whichever way they end

ones_agree : (tells tells_too : Telling) (task : Task) (before now before_too now_too : World) (outcome outcome_too : Outcome) → AllTell tells → AllTell tells_too
    → IsQuiet before now outcome.fault → IsQuiet before_too now_too outcome_too.fault → BeginAlike before before_too → EndAlike now.starts now_too.starts
    → AskTask tells tells_too task before now before_too now_too → IsUnchanged task before now → IsUnchanged task before_too now_too
    → IsOne tells task before now outcome → IsOne tells_too task before_too now_too outcome_too → AgreeBehind now now_too outcome outcome_too
ones_agree tells tells_too task before now before_too now_too outcome outcome_too tell tell_too quiet quiet_too begin end ask calls calls_too (inl h) (inl k) =
    refused_agree task before.host before.starts before.out before.err now now_too outcome outcome_too h (moved (λ x s o e. IsRefusedRun task x s o e now_too outcome_too) before before_too begin k) end
ones_agree tells tells_too task before now before_too now_too outcome outcome_too tell tell_too quiet quiet_too begin end ask calls calls_too (inl h) (inr (inl k)) =
    let u = moved (λ x s o e. IsUnlockedRun task x s o e now_too outcome_too) before before_too begin k in
    let same = asked_one task before.host before.starts now.starts now_too.starts (status_of h.asked) (pos 0) [] [] h.started u.started end in
    let no = h.gives in
    let yes = u.gives in
    cc (no, yes, same)
ones_agree tells tells_too task before now before_too now_too outcome outcome_too tell tell_too quiet quiet_too begin end ask calls calls_too (inl h) (inr (inr k)) =
    let more = map started (zip (steps_by k.run.given.advisories k.audited k.run.run.it) k.run.run.statuses) in
    let starts = moved (λ x s o e. StartedBy (task_generates task x) s now_too.starts (pos 0) more) before before_too begin (audited_starts tells_too task before_too now_too outcome_too tell_too k) in
    let same = asked_one task before.host before.starts now.starts now_too.starts (status_of h.asked) (pos 0) [] more h.started starts end in
    let no = h.gives in
    let yes = moved (λ x s o e. task_asked task x (pos 0) ≡ Ok k.run.given) before before_too begin (k.run.gives tell_too.files) in
    cc (no, yes, same)
ones_agree tells tells_too task before now before_too now_too outcome outcome_too tell tell_too quiet quiet_too begin end ask calls calls_too (inr (inl h)) (inl k) =
    let u = moved (λ x s o e. IsRefusedRun task x s o e now_too outcome_too) before before_too begin k in
    let same = asked_one task before.host before.starts now.starts now_too.starts (pos 0) (status_of u.asked) [] [] h.started u.started end in
    let yes = h.gives in
    let no = u.gives in
    cc (no, yes, same)
ones_agree tells tells_too task before now before_too now_too outcome outcome_too tell tell_too quiet quiet_too begin end ask calls calls_too (inr (inl h)) (inr (inl k)) =
    unlocked_agree task before.host before.starts before.out before.err now now_too outcome outcome_too h (moved (λ x s o e. IsUnlockedRun task x s o e now_too outcome_too) before before_too begin k) end
ones_agree tells tells_too task before now before_too now_too outcome outcome_too tell tell_too quiet quiet_too begin end ask calls calls_too (inr (inl h)) (inr (inr k)) =
    let mine = h.gives in
    let other = moved (λ x s o e. task_asked task x (pos 0) ≡ Ok k.run.given) before before_too begin (k.run.gives tell_too.files) in
    let no = h.lockfile in
    let yes = k.run.run.audit.lockfile in
    cc (mine, other, no, yes)
ones_agree tells tells_too task before now before_too now_too outcome outcome_too tell tell_too quiet quiet_too begin end ask calls calls_too (inr (inr h)) (inl k) =
    let u = moved (λ x s o e. IsRefusedRun task x s o e now_too outcome_too) before before_too begin k in
    let more = map started (zip (steps_by h.run.given.advisories h.audited h.run.run.it) h.run.run.statuses) in
    let same = asked_one task before.host before.starts now.starts now_too.starts (pos 0) (status_of u.asked) more [] (audited_starts tells task before now outcome tell h) u.started end in
    let yes = h.run.gives tell.files in
    let no = u.gives in
    cc (no, yes, same)
ones_agree tells tells_too task before now before_too now_too outcome outcome_too tell tell_too quiet quiet_too begin end ask calls calls_too (inr (inr h)) (inr (inl k)) =
    let u = moved (λ x s o e. IsUnlockedRun task x s o e now_too outcome_too) before before_too begin k in
    let mine = h.run.gives tell.files in
    let other = u.gives in
    let yes = h.run.run.audit.lockfile in
    let no = u.lockfile in
    cc (mine, other, no, yes)
ones_agree tells tells_too task before now before_too now_too outcome outcome_too tell tell_too quiet quiet_too begin end ask calls calls_too (inr (inr h)) (inr (inr k)) =
    done_agree tells tells_too task before now before_too now_too outcome outcome_too tell tell_too quiet quiet_too begin end ask calls calls_too h k

-- if the server isn't asked the cache stays
unchanged_is : (tells : Telling) (task : Task) (same : Uncalled) (before now : World) (outcome : Outcome) → AllTell tells → IsRun tells (Ok (job.Lockfile task)) same before now outcome → IsUnchanged task before now
unchanged_is tells task same before now outcome tell run given gives =
    λ other q. (run.leaves.calls tell.files given.config (asked_settles task before.host given gives)).unchanged other tell.disk q

pub tasks_agree : (tells tells_too : Telling) (task : Task) (same same_too : Uncalled) (before now before_too now_too : World) (outcome outcome_too : Outcome) → AllTell tells → AllTell tells_too
    → IsRun tells (Ok (job.Lockfile task)) same before now outcome
    → IsRun tells_too (Ok (job.Lockfile task)) same_too before_too now_too outcome_too
    → IsQuiet before now outcome.fault → IsQuiet before_too now_too outcome_too.fault → BeginAlike before before_too → EndAlike now.starts now_too.starts
    → AskTask tells tells_too task before now before_too now_too → AgreeBehind now now_too outcome outcome_too
tasks_agree tells tells_too task same same_too before now before_too now_too outcome outcome_too tell tell_too run run_too quiet quiet_too begin end ask =
    ones_agree tells tells_too task before now before_too now_too outcome outcome_too tell tell_too quiet quiet_too begin end ask
    (unchanged_is tells task same before now outcome tell run) (unchanged_is tells_too task same_too before_too now_too outcome_too tell_too run_too)
    (one_of tells task same before now outcome tell run quiet) (one_of tells_too task same_too before_too now_too outcome_too tell_too run_too quiet_too)
