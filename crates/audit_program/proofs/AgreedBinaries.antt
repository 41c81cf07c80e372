-- Two runs that audit binaries agree.
use Rattle.std.proofs.Common.{◌≡◌, ◌⊎◌, inl, inr, ◌≤◌, ℕ, List, [], ◌++◌, Option, Some, None, Ok, Err, IsTrue, refl, sym, ap, subst, ◌∙◌}
use Rattle.std.specs.Prelude.{IfSome}
use Rattle.tame_names.specs.Counts.{CountStayed}
use Rattle.tame_names.specs.Standing.{Host}
use Rattle.audit_settings.specs.declared.commands.AuditCommand.{AuditCommand}
use Rattle.audit_words.specs.declared.commands.BinCommand.{BinCommand}
use Rattle.audit_asked.specs.ForBinaries.{asked_for_binaries}
use Rattle.audit_asked.specs.Refusals.{is_told, refused}
use Rattle.audit_asked.specs.declared.binaries.AskedForBinaries.{AskedForBinaries}
use Rattle.audit_asked.specs.declared.faults.AskFault.{AskFault}
use Rattle.audit_asked.specs.declared.runners.Started.{Started}
use Rattle.audit_core.specs.Auditors.{auditor_of, self_advisories}
use Rattle.audit_core.specs.Checks.{checks_of}
use Rattle.audit_core.specs.declared.checking.Checks.{Checks}
use Rattle.audit_core.specs.declared.checking.Checks.TheVariants.{Online, Offline, Off}
use Rattle.audit_binaries.specs.Binaries.{AreBinaries, Scan}
use Rattle.audit_binaries.specs.Decoding.{DecoderAnswers}
use Rattle.audit_binaries.specs.Limits.{limits_of}
use Rattle.audit_binaries.specs.Summaries.{summary_status}
use Rattle.audit_binaries.specs.declared.answers.BinariesAudit.{BinariesAudit}
use Rattle.audit_binaries.specs.declared.answers.MultiFileReportSummary.{MultiFileReportSummary}
use Rattle.audit_output.specs.Outputs.{Output}
use Rattle.audit_remedies.specs.Endings.{ending}
use Rattle.audit_remedies.specs.FaultLines.{fault_line}
use Rattle.audit_remedies.specs.Faults.{by_ask}
use Rattle.audit_remedies.specs.Outputs.{IsEnded}
use Rattle.audit_remedies.specs.declared.faults.RunFault.{RunFault}
use Rattle.audit_remedies.specs.declared.faults.RunFault.TheVariants as fault
use Rattle.audit_program.specs.AgreeingRuns.{AgreeBehind, AllTell, BeginAlike, CheckAlike, IsQuiet, ToldAlike}
use Rattle.audit_program.specs.BinaryRuns.{AreBinariesRun, IsGivenBinariesRun, bin_output, scan_of, tells_of}
use Rattle.audit_program.specs.Causes.{BinariesCause, RefusesBinaries}
use Rattle.audit_program.specs.Outcomes.{IsEarlyBy}
use Rattle.audit_program.specs.Runs.{IsRun}
use Rattle.audit_program.specs.TaskRuns.{shown_by}
use Rattle.audit_program.specs.Worlds.{Telling, Uncalled, World, outside_of}
use Rattle.audit_program.specs.declared.outcomes.Outcome.{Outcome}
use Rattle.audit_program.specs.declared.tasks.Job.TheVariants as job
use Rattle.audit_program.proofs.AgreedTexts.{not_some}
use Rattle.audit_program.proofs.FaultCases.{decided, is_decided, not_read}
use Rattle.audit_program.proofs.Nones.{of_none}
use Rattle.audit_program.proofs.QuietRuns.{ended_fault, no_file_failed, no_put_failed, prefix_none}
use Rattle.audit_program.proofs.ScannedAlike.{AllSaidAlike, IsCalm, TellAll, all_later, last_stayed, output_same, scans_off, scans_online, summary_same}
use Rattle.audit_program.proofs.ScannedCaches.{scans_came, scans_offline}
use Rattle.audit_program.proofs.TaskEnds.{same_line, some_of, told_early, told_status}

-- ---- the two ends

record IsUnscannedRun (command : AuditCommand) (host : Host) (starts : List Started) (out err : List ℕ) (now : World) (outcome : Outcome) : Type 0 where
  pub asked : AskFault
  pub told : IsTrue (is_told asked)
  pub gives : asked_for_binaries command host ≡ Err (refused asked)
  pub ends : outcome.fault ≡ Some (by_ask asked)
  pub status : outcome.status ≡ 2
  pub started : now.starts ≡ starts
  pub put : now.out ≡ out
  pub line : now.err ≡ err ++ fault_line [] (by_ask asked)
  pub stands : now.host.stands ≡ host.stands

record IsScannedRun (tells : Telling) (command : AuditCommand) (more : BinCommand) (before now : World) (outcome : Outcome) : Type 0 where
  pub binaries : BinariesAudit
  pub ends : outcome.fault ≡ None
  pub run : AreBinariesRun tells command more before now (ending None outcome.status outcome.plan) binaries
  pub started : now.starts ≡ before.starts
  pub stands : now.host.stands ≡ before.host.stands

abbrev IsOne : Telling → AuditCommand → BinCommand → World → World → Outcome → Type 0
IsOne tells command more before now outcome =
    IsUnscannedRun command before.host before.starts before.out before.err now outcome ⊎ IsScannedRun tells command more before now outcome

unscanned_run : (tells : Telling) (command : AuditCommand) (more : BinCommand) (same : Uncalled) (before now : World) (outcome : Outcome) (f : RunFault) → AllTell tells → IsRun tells (Ok (job.Binaries command more)) same before now outcome
    → IsQuiet before now outcome.fault → outcome.fault ≡ Some f → IsTrue (is_decided f) → RefusesBinaries tells.files command before.host f
    → IsUnscannedRun command before.host before.starts before.out before.err now outcome
unscanned_run tells command more same before now outcome f tell run quiet ends so cause =
    let e = cause.asked in
    let told : IsTrue (is_told e) = decided f e cause.is so in
    let is : outcome.fault ≡ Some (by_ask e) = ends ∙ ap (λ (x : RunFault). Some x) cause.is in
    let audited : outcome.audited ≡ None = not_some outcome.audited run.audits.audited in
    let P : Option RunFault → Type 0 = λ o. IfSome o (λ g. IsEarlyBy (Ok (job.Binaries command more)) g → (outcome.audited ≡ None) × (outcome.binaries ≡ None)) in
    let binaries : outcome.binaries ≡ None = ((subst P is run.has.no_audit) (told_early e told)).1 in
    let lockfile = of_none outcome.audited _ audited run.without_lockfile in
    let without = of_none outcome.binaries _ binaries (of_none outcome.audited _ audited run.without_audit) in
    let Q : Option RunFault → Type 0 = λ o. IsEnded [] before.err [] o now.err before.err_faults now.err_faults in
    record {
      asked = e;
      told = told;
      gives = cause.gives tell.files told;
      ends = is;
      status = run.ends.status (by_ask e) is ∙ told_status e told;
      started = lockfile.started tell.files tell.runner;
      put = prefix_none before.out now.out (without.out tell.out).part;
      line = ended_fault [] before.err (by_ask e) now.err before.err_faults now.err_faults (subst Q is (without.err tell.err)) quiet.stayed.err;
      stands = (lockfile.files tell.files).stands;
    }

scanned_run : (tells : Telling) (command : AuditCommand) (more : BinCommand) (same : Uncalled) (before now : World) (outcome : Outcome) → AllTell tells → IsRun tells (Ok (job.Binaries command more)) same before now outcome
    → outcome.fault ≡ None → IsScannedRun tells command more before now outcome
scanned_run tells command more same before now outcome tell run none =
    let found = some_of outcome.binaries (run.has.has (inl none)) in
    let audited : outcome.audited ≡ None = not_some outcome.audited run.audits.audited in
    let lockfile = of_none outcome.audited _ audited run.without_lockfile in
    let P : Option BinariesAudit → Type 0 = λ o. IfSome o (λ b. AreBinariesRun tells command more before now (ending outcome.fault outcome.status outcome.plan) b) in
    let Q : Option RunFault → Type 0 = λ o. AreBinariesRun tells command more before now (ending o outcome.status outcome.plan) found.0 in
    record { binaries = found.0; ends = none; run = subst Q none (subst P found.1 run.audits.binaries); started = lockfile.started tell.files tell.runner; stands = (lockfile.files tell.files).stands }

one_case : (tells : Telling) (command : AuditCommand) (more : BinCommand) (same : Uncalled) (before now : World) (outcome : Outcome) → AllTell tells → IsRun tells (Ok (job.Binaries command more)) same before now outcome
    → IsQuiet before now outcome.fault → (o : Option RunFault) → outcome.fault ≡ o → IfSome o (BinariesCause tells.files command before.host) → IsOne tells command more before now outcome
one_case tells command more same before now outcome tell run quiet None is cause = inr (scanned_run tells command more same before now outcome tell run is)
one_case tells command more same before now outcome tell run quiet (Some (fault.Usage place)) is cause = not_read (fault.Usage place) cause.asked cause.is cause.only refl
one_case tells command more same before now outcome tell run quiet (Some (fault.Settings reason)) is cause = inl (unscanned_run tells command more same before now outcome (fault.Settings reason) tell run quiet is refl cause)
one_case tells command more same before now outcome tell run quiet (Some (fault.Missing path)) is cause = inl (unscanned_run tells command more same before now outcome (fault.Missing path) tell run quiet is refl cause)
one_case tells command more same before now outcome tell run quiet (Some (fault.NotUtf8 path)) is cause = inl (unscanned_run tells command more same before now outcome (fault.NotUtf8 path) tell run quiet is refl cause)
one_case tells command more same before now outcome tell run quiet (Some (fault.TooLarge path len)) is cause = inl (unscanned_run tells command more same before now outcome (fault.TooLarge path len) tell run quiet is refl cause)
one_case tells command more same before now outcome tell run quiet (Some (fault.File path)) is cause = absurd (no_file_failed _ before now outcome.fault path run.causes quiet is)
one_case tells command more same before now outcome tell run quiet (Some (fault.Lockfile reason)) is cause = not_read (fault.Lockfile reason) cause.asked cause.is cause.only refl
one_case tells command more same before now outcome tell run quiet (Some (fault.Advisory n reason)) is cause = inl (unscanned_run tells command more same before now outcome (fault.Advisory n reason) tell run quiet is refl cause)
one_case tells command more same before now outcome tell run quiet (Some (fault.Baseline line)) is cause = not_read (fault.Baseline line) cause.asked cause.is cause.only refl
one_case tells command more same before now outcome tell run quiet (Some (fault.Vendor reason)) is cause = not_read (fault.Vendor reason) cause.asked cause.is cause.only refl
one_case tells command more same before now outcome tell run quiet (Some fault.Print) is cause = absurd (no_put_failed _ before now outcome.fault run.causes quiet is)
one_case tells command more same before now outcome tell run quiet (Some (fault.Generate status)) is cause = not_read (fault.Generate status) cause.asked cause.is cause.only refl
one_case tells command more same before now outcome tell run quiet (Some (fault.Start failed)) is cause = not_read (fault.Start failed) cause.asked cause.is cause.only refl
one_case tells command more same before now outcome tell run quiet (Some fault.NoMemory) is cause = absurd (quiet.memory is)

-- ---- both refused

unscanned_agree : (command : AuditCommand) (host : Host) (starts : List Started) (out err : List ℕ) (now now_too : World) (outcome outcome_too : Outcome)
    → IsUnscannedRun command host starts out err now outcome → IsUnscannedRun command host starts out err now_too outcome_too → AgreeBehind now now_too outcome outcome_too
unscanned_agree command host starts out err now now_too outcome outcome_too h k =
    let gave = sym h.gives ∙ k.gives in
    let same : refused h.asked ≡ refused k.asked = cc (gave) in
    let lines = same_line h.asked k.asked h.told k.told same in
    record {
      out = h.put ∙ sym k.put;
      err = h.line ∙ ap (λ (xs : List ℕ). err ++ xs) (lines []) ∙ sym k.line;
      status = h.status ∙ sym k.status;
      fault = let P : Option RunFault → Type 0 = λ o. ToldAlike o outcome_too.fault in let Q : Option RunFault → Type 0 = λ o. ToldAlike (Some (by_ask h.asked)) o in subst P (sym h.ends) (subst Q (sym k.ends) lines);
      starts = h.started ∙ sym k.started;
      stands = h.stands ∙ sym k.stands;
    }

-- ---- both audited

abbrev entry_of : World → World → World
entry_of before entry = record before { host = entry.host; failed = entry.failed; file_faults = entry.file_faults }

abbrev scan_by : AskedForBinaries → BinCommand → Host → DecoderAnswers → Scan
scan_by given more host answers = record {
  auditor = auditor_of given.config given.advisories;
  limits = limits_of more.max_binary_size more.audit_data_size_limit;
  host = host;
  answers = answers;
}

tell_all : (tells : Telling) → AllTell tells → TellAll (tells_of tells)
tell_all tells t = record { files = t.files; decoder = t.decoder; wire = t.wire; disk = t.disk }

-- what a run that audited has printed, from the entry of its audits
record IsScan (tells : Telling) (command : AuditCommand) (more : BinCommand) (given : AskedForBinaries) (host : Host) (answers : DecoderAnswers) (before entry now : World) (end : ℕ) (b : BinariesAudit) : Type 0 where
  pub answered : AreBinaries (tells_of tells) (scan_by given more host answers) (outside_of (entry_of before entry)) (outside_of now) more.binary_paths b.answers
  pub calm : IsCalm (outside_of (entry_of before entry)) (outside_of now)
  pub put : now.out ≡ before.out ++ (bin_output command more given b).out
  pub line : now.err ≡ before.err ++ (bin_output command more given b).err
  pub status : end ≡ summary_status b.summary
  pub summary : b.summary ≡ Rattle.audit_binaries.specs.Summaries.summary_of given.config.output.deny (self_advisories given.advisories) b.answers

scan_is : (tells : Telling) (command : AuditCommand) (more : BinCommand) (given : AskedForBinaries) (before entry now : World) (end : ℕ) (plan : Option (List Rattle.upgrade_plan.specs.declared.plans.PlanItem.PlanItem)) (b : BinariesAudit)
    → AllTell tells → CountStayed before.file_faults now.file_faults → CountStayed before.decode_faults now.decode_faults → CountStayed before.disk_faults now.disk_faults
    → before.file_faults ≤ entry.file_faults → entry.host ≡ before.host → entry ≡ entry_of before entry
    → IsGivenBinariesRun tells command more given entry now (ending None end plan) b
    → IsScan tells command more given before.host before.decodes before entry now end b
scan_is tells command more given before entry now end plan b tell files decoder disk later host same run0 =
    let G : World → Type 0 = λ w. IsGivenBinariesRun tells command more given w now (ending None end plan) b in
    let run = subst G same run0 in
    let H : Host → Type 0 = λ h. AreBinaries (tells_of tells) (scan_by given more h before.decodes) (outside_of (entry_of before entry)) (outside_of now) more.binary_paths b.answers in
    let grown = all_later (tells_of tells) (scan_of given more (entry_of before entry)) (outside_of (entry_of before entry)) (outside_of now) more.binary_paths b.answers run.answered in
    record {
      answered = subst H host run.answered;
      calm = record { files = last_stayed before.file_faults entry.file_faults now.file_faults later grown.files files; decoder = decoder; disk = disk };
      put = (run.out tell.out).whole tt;
      line = (run.err tell.err).whole tt;
      status = run.status refl;
      summary = run.summary;
    }

answers_agree : (tells tells_too : Telling) (command : AuditCommand) (more : BinCommand) (given : AskedForBinaries) (host : Host) (answers : DecoderAnswers) (before entry now before_too entry_too now_too : World) (end end_too : ℕ) (b b2 : BinariesAudit) (c : Checks)
    → checks_of given.config ≡ c → AllTell tells → AllTell tells_too → CheckAlike c tells tells_too before now before_too now_too
    → IsScan tells command more given host answers before entry now end b → IsScan tells_too command more given host answers before_too entry_too now_too end_too b2 → AllSaidAlike b.answers b2.answers
answers_agree tells tells_too command more given host answers before entry now before_too entry_too now_too end end_too b b2 Online is tell tell_too (inl served) h k =
    scans_online (tells_of tells) (tells_of tells_too) (scan_by given more host answers) (outside_of (entry_of before entry)) (outside_of now) (outside_of (entry_of before_too entry_too)) (outside_of now_too) more.binary_paths b.answers b2.answers
    served.added served.added_too (tell_all tells tell) (tell_all tells_too tell_too) is h.calm k.calm
    (record { serves = served.honest.serving; follow = served.honest.follow }) (record { serves = served.honest_too.serving; follow = served.honest_too.follow }) served.alike h.answered k.answered
answers_agree tells tells_too command more given host answers before entry now before_too entry_too now_too end end_too b b2 Online is tell tell_too (inr answered) h k =
    scans_came (tells_of tells) (tells_of tells_too) (scan_by given more host answers) (outside_of (entry_of before entry)) (outside_of now) (outside_of (entry_of before_too entry_too)) (outside_of now_too) more.binary_paths b.answers b2.answers
    answered.added answered.added_too (tell_all tells tell) (tell_all tells_too tell_too) is h.calm k.calm answered.caches answered.follow answered.follow_too answered.same h.answered k.answered
answers_agree tells tells_too command more given host answers before entry now before_too entry_too now_too end end_too b b2 Offline is tell tell_too caches h k =
    scans_offline (tells_of tells) (tells_of tells_too) (scan_by given more host answers) (outside_of (entry_of before entry)) (outside_of now) (outside_of (entry_of before_too entry_too)) (outside_of now_too) more.binary_paths b.answers b2.answers
    (tell_all tells tell) (tell_all tells_too tell_too) is h.calm k.calm caches h.answered k.answered
answers_agree tells tells_too command more given host answers before entry now before_too entry_too now_too end end_too b b2 Off is tell tell_too served h k =
    scans_off (tells_of tells) (tells_of tells_too) (scan_by given more host answers) (outside_of (entry_of before entry)) (outside_of now) (outside_of (entry_of before_too entry_too)) (outside_of now_too) more.binary_paths b.answers b2.answers
    (tell_all tells tell) (tell_all tells_too tell_too) is h.calm k.calm h.answered k.answered

scanned_agree : (tells tells_too : Telling) (command : AuditCommand) (more : BinCommand) (before now before_too now_too : World) (outcome outcome_too : Outcome) → AllTell tells → AllTell tells_too
    → IsQuiet before now outcome.fault → IsQuiet before_too now_too outcome_too.fault → BeginAlike before before_too
    → ((given : AskedForBinaries) → asked_for_binaries command before.host ≡ Ok given → CheckAlike (checks_of given.config) tells tells_too before now before_too now_too)
    → IsScannedRun tells command more before now outcome → IsScannedRun tells_too command more before_too now_too outcome_too → AgreeBehind now now_too outcome outcome_too
scanned_agree tells tells_too command more before now before_too now_too outcome outcome_too tell tell_too quiet quiet_too begin ask d d2 =
    let r = d.run in
    let r2 = d2.run in
    let given = r.given in
    let b = d.binaries in
    let b2 = d2.binaries in
    let mine = r.asked.gives tell.files in
    let gave = sym mine ∙ ap (λ (h : Host). asked_for_binaries command h) begin.host ∙ r2.asked.gives tell_too.files in
    let same_given : given ≡ r2.given = cc (gave) in
    let one = scan_is tells command more given before r.entry now outcome.status outcome.plan b tell quiet.stayed.files quiet.decoder quiet.disk r.asked.later (r.asked.host tell.files) r.asked.same r.run in
    let two0 = scan_is tells_too command more r2.given before_too r2.entry now_too outcome_too.status outcome_too.plan b2 tell_too quiet_too.stayed.files quiet_too.decoder quiet_too.disk r2.asked.later (r2.asked.host tell_too.files) r2.asked.same r2.run in
    let G : AskedForBinaries → Type 0 = λ g. IsScan tells_too command more g before_too.host before_too.decodes before_too r2.entry now_too outcome_too.status b2 in
    let H : Host → Type 0 = λ h. IsScan tells_too command more given h before_too.decodes before_too r2.entry now_too outcome_too.status b2 in
    let D : DecoderAnswers → Type 0 = λ a. IsScan tells_too command more given before.host a before_too r2.entry now_too outcome_too.status b2 in
    let two = subst D (sym begin.decodes) (subst H (sym begin.host) (subst G (sym same_given) two0)) in
    let alike : AllSaidAlike b.answers b2.answers =
    answers_agree tells tells_too command more given before.host before.decodes before r.entry now before_too r2.entry now_too outcome.status outcome_too.status b b2 (checks_of given.config) refl tell tell_too (ask given mine) one two in
    let output : bin_output command more given b ≡ bin_output command more given b2 = output_same command.verdicts (shown_by given.config given.database given.advisories) more.binary_paths b.answers b2.answers alike in
    let sums = one.summary ∙ summary_same given.config.output.deny (self_advisories given.advisories) b.answers b2.answers alike ∙ sym two.summary in
    let T : Option RunFault → Type 0 = λ o. ToldAlike o outcome_too.fault in
    let U : Option RunFault → Type 0 = λ o. ToldAlike None o in
    record {
      out = one.put ∙ ap (λ (xs : List ℕ). xs ++ (bin_output command more given b).out) begin.out ∙ ap (λ (o : Output). before_too.out ++ o.out) output ∙ sym two.put;
      err = one.line ∙ ap (λ (xs : List ℕ). xs ++ (bin_output command more given b).err) begin.err ∙ ap (λ (o : Output). before_too.err ++ o.err) output ∙ sym two.line;
      status = one.status ∙ ap (λ (m : MultiFileReportSummary). summary_status m) sums ∙ sym two.status;
      fault = subst T (sym d.ends) (subst U (sym d2.ends) tt);
      starts = d.started ∙ begin.starts ∙ sym d2.started;
      stands = d.stands ∙ ap (λ (h : Host). h.stands) begin.host ∙ sym d2.stands;
    }

-- ---- whichever way they end

moved : (P : Host → List Started → List ℕ → List ℕ → Type 0) (a b : World) → BeginAlike a b → P b.host b.starts b.out b.err → P a.host a.starts a.out a.err
moved P a b begin h =
    let one : P b.host b.starts b.out a.err = subst (λ (x : List ℕ). P b.host b.starts b.out x) (sym begin.err) h in
    let two : P b.host b.starts a.out a.err = subst (λ (x : List ℕ). P b.host b.starts x a.err) (sym begin.out) one in
    let three : P b.host a.starts a.out a.err = subst (λ (x : List Started). P b.host x a.out a.err) (sym begin.starts) two in
    subst (λ (x : Host). P x a.starts a.out a.err) (sym begin.host) three

ones_agree : (tells tells_too : Telling) (command : AuditCommand) (more : BinCommand) (before now before_too now_too : World) (outcome outcome_too : Outcome) → AllTell tells → AllTell tells_too
    → IsQuiet before now outcome.fault → IsQuiet before_too now_too outcome_too.fault → BeginAlike before before_too
    → ((given : AskedForBinaries) → asked_for_binaries command before.host ≡ Ok given → CheckAlike (checks_of given.config) tells tells_too before now before_too now_too)
    → IsOne tells command more before now outcome → IsOne tells_too command more before_too now_too outcome_too → AgreeBehind now now_too outcome outcome_too
ones_agree tells tells_too command more before now before_too now_too outcome outcome_too tell tell_too quiet quiet_too begin ask (inl h) (inl k) =
    unscanned_agree command before.host before.starts before.out before.err now now_too outcome outcome_too h (moved (λ x s o e. IsUnscannedRun command x s o e now_too outcome_too) before before_too begin k)
ones_agree tells tells_too command more before now before_too now_too outcome outcome_too tell tell_too quiet quiet_too begin ask (inl h) (inr k) =
    let no = h.gives in
    let yes = moved (λ x s o e. asked_for_binaries command x ≡ Ok k.run.given) before before_too begin (k.run.asked.gives tell_too.files) in
    cc (no, yes)
ones_agree tells tells_too command more before now before_too now_too outcome outcome_too tell tell_too quiet quiet_too begin ask (inr h) (inl k) =
    let u = moved (λ x s o e. IsUnscannedRun command x s o e now_too outcome_too) before before_too begin k in
    let yes = h.run.asked.gives tell.files in
    let no = u.gives in
    cc (no, yes)
ones_agree tells tells_too command more before now before_too now_too outcome outcome_too tell tell_too quiet quiet_too begin ask (inr h) (inr k) =
    scanned_agree tells tells_too command more before now before_too now_too outcome outcome_too tell tell_too quiet quiet_too begin ask h k

pub binaries_agree : (tells tells_too : Telling) (command : AuditCommand) (more : BinCommand) (same same_too : Uncalled) (before now before_too now_too : World) (outcome outcome_too : Outcome) → AllTell tells → AllTell tells_too
    → IsRun tells (Ok (job.Binaries command more)) same before now outcome → IsRun tells_too (Ok (job.Binaries command more)) same_too before_too now_too outcome_too
    → IsQuiet before now outcome.fault → IsQuiet before_too now_too outcome_too.fault → BeginAlike before before_too
    → ((given : AskedForBinaries) → asked_for_binaries command before.host ≡ Ok given → CheckAlike (checks_of given.config) tells tells_too before now before_too now_too)
    → AgreeBehind now now_too outcome outcome_too
binaries_agree tells tells_too command more same same_too before now before_too now_too outcome outcome_too tell tell_too run run_too quiet quiet_too begin ask =
    ones_agree tells tells_too command more before now before_too now_too outcome outcome_too tell tell_too quiet quiet_too begin ask
    (one_case tells command more same before now outcome tell run quiet outcome.fault refl run.causes.cause) (one_case tells_too command more same_too before_too now_too outcome_too tell_too run_too quiet_too outcome_too.fault refl run_too.causes.cause)
