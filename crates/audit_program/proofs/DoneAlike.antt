-- Two runs that audit a lockfile leave the same.
use Rattle.std.proofs.Common.{◌≡◌, ◌⊎◌, inl, inr, ℕ, ℤ, List, [], ◌∷◌, ◌++◌, Bool, true, false, Option, Some, None, Result, Ok, Err, IsTrue, refl, sym, ap, subst, ◌∙◌, arith, ◌≤◌, append_assoc, append-nil}
use Rattle.std.specs.Prelude.{pos, length, map, zip, IfOk, codes, decimal, take}
use Rattle.tame_names.specs.Counts.{CountStayed}
use Rattle.tame_names.specs.Standing.{Host}
use Rattle.audit_advisory.specs.declared.advisories.Advisory.{Advisory}
use Rattle.audit_asked.specs.Starts.{RunStartsWhere, generating}
use Rattle.audit_asked.specs.declared.asking.Asked.{Asked}
use Rattle.audit_asked.specs.declared.runners.Started.{Started}
use Rattle.audit_core.specs.Auditors.{auditor_of}
use Rattle.audit_core.specs.Audits.{IsAuditOf, Moment}
use Rattle.audit_core.specs.Checks.{checks_of}
use Rattle.audit_core.specs.declared.asking.Turn.{Turn}
use Rattle.audit_core.specs.declared.auditing.Audited.{Audited}
use Rattle.audit_core.specs.declared.auditors.Auditor.{Auditor}
use Rattle.audit_core.specs.declared.checking.Checks.{Checks}
use Rattle.audit_core.specs.declared.checking.Checks.TheVariants.{Online, Offline, Off}
use Rattle.audit_fix.specs.Steps.{started, StartsPart}
use Rattle.audit_fix.specs.declared.plans.FixStep.{FixStep}
use Rattle.audit_output.specs.Outputs.{Output, output_of}
use Rattle.audit_remedies.specs.Endings.{ending, lines_by, steps_by, IsEndBy}
use Rattle.audit_remedies.specs.FaultLines.{fault_line}
use Rattle.audit_remedies.specs.Faults.{fault_status}
use Rattle.audit_remedies.specs.Makings.{IsMade, IsReadSince, Making, making}
use Rattle.audit_remedies.specs.Outputs.{lines_behind, made_output, remedy_lines, IsEnded, IsWhole, vendored_line}
use Rattle.audit_remedies.specs.Statuses.{made_status, steps_of}
use Rattle.audit_remedies.specs.declared.faults.RunFault.{RunFault}
use Rattle.audit_remedies.specs.declared.faults.RunFault.TheVariants as fault
use Rattle.audit_remedies.specs.declared.makings.Made.{Made}
use Rattle.audit_remedies.specs.declared.makings.Made.TheVariants as made
use Rattle.audit_remedies.specs.declared.remedies.Remedy.{Remedy}
use Rattle.audit_remedies.specs.declared.remedies.Remedy.TheVariants.{Report, Fix, Plan, Baseline, WriteBaseline, Vendor}
use Rattle.upgrade_plan.specs.declared.plans.PlanItem.{PlanItem}
use Rattle.audit_program.specs.AgreeingRuns.{AgreeBehind, AllTell, BeginAlike, CheckAlike, EndAlike, IsQuiet, ToldAlike, AuditAlike}
use Rattle.audit_program.specs.TaskRuns.{IsGivenRun, shown_by, task_output}
use Rattle.audit_program.specs.Tasks.{task_asked, task_generates, task_place}
use Rattle.audit_program.specs.Worlds.{Telling, World, moment_of}
use Rattle.audit_program.specs.declared.outcomes.Outcome.{Outcome}
use Rattle.audit_program.specs.declared.tasks.Task.{Task}
use Rattle.audit_program.proofs.Made.{chain_grows}
use Rattle.audit_program.proofs.SaidAlike.{SaysSame, asked_same, came_same, off_same, recalled_same, same_but_turns}
use Rattle.audit_program.proofs.ScannedAlike.{last_stayed}
use Rattle.audit_program.proofs.StartedAlike.{alike_behind, statuses_alike}
use Rattle.audit_program.proofs.TaskEnds.{IsAuditedRun, StartedBy, IsDone}
use Rattle.std.proofs.Math.Seq.{take-nil}
use Rattle.tame_names.specs.Output.{AddsPrefix}
use Rattle.vendor_registry.specs.declared.faults.VendorFault.{VendorFault}
use Rattle.vendor_registry.specs.declared.vendoring.Vendored.{Vendored}
use Rattle.audit_program.proofs.QuietRuns.{ended_fault, prefix_none}
use Rattle.audit_program.proofs.StockedAlike.{audit_check, stock_case}
use Rattle.audit_program.proofs.VendoredAlike.{is_said}
use Rattle.audit_program.proofs.MadeAlike.{with_turns, output_turns, steps_turns, lines_turns, status_turns, ok_of, ReadsAs, IsLineSame, made_same, unmade_same, made_unmade, reads_back, said_back}

-- the cache was only read since the audit left it
uncalled_since : (told : Type 0) (left ended : Moment) → ended ≡ left → IsReadSince told left ended
uncalled_since told left ended is =
    let faults : ended.disk_faults ≡ left.disk_faults = ap (λ (k : Moment). k.disk_faults) is in
    record {
      exchanges = ap (λ (k : Moment). k.exchanges) is;
      wire_faults = ap (λ (k : Moment). k.wire_faults) is;
      files = λ t q. ap (λ (k : Moment). k.files q) is;
      disk_faults = omega (arith, faults);
    }

pub made_since : (remedy : Remedy) (m : Making) (it : Result Made RunFault) → IsMade remedy m it → IsReadSince m.disk_tells m.left m.ended
made_since Report m it h = uncalled_since m.disk_tells m.left m.ended h.1
made_since (Fix dry_run) m it h = uncalled_since m.disk_tells m.left m.ended h.1
made_since Plan m it h = h.1
made_since (Baseline path) m it h = uncalled_since m.disk_tells m.left m.ended h.1
made_since (WriteBaseline path) m it h = uncalled_since m.disk_tells m.left m.ended h.1
made_since (Vendor more) m it h = h.1

pub first_stayed : (a b c : ℕ) → a ≤ b → b ≤ c → CountStayed a c → CountStayed a b
first_stayed a b c h k stayed = let same = stayed.0 in let low = stayed.1 in (omega (arith, h, k, same), low)

-- ---- both audited

-- what is alike of what a task asks
abbrev pub AskTask : Telling → Telling → Task → World → World → World → World → Type 0
AskTask tells tells_too task before now before_too now_too =
    (given : Asked) → task_asked task before.host (pos 0) ≡ Ok given → AuditAlike task.remedy (checks_of given.config) tells tells_too before now before_too now_too

-- if the server isn't asked the cache stays
abbrev pub IsUnchanged : Task → World → World → Type 0
IsUnchanged task before now = (given : Asked) → task_asked task before.host (pos 0) ≡ Ok given → (checks_of given.config ≡ Online → ⊥) → (q : List ℕ) → now.cache q ≡ before.cache q

abbrev auditor_for : Asked → Auditor
auditor_for given = auditor_of given.config given.advisories

-- they say the same, from their beginnings to the moments when they left the outside
checks_case : (tells tells_too : Telling) (given : Asked) (before now before_too now_too : World) (left left_too : Moment) (a a2 : Audited) (c : Checks) → checks_of given.config ≡ c → AllTell tells → AllTell tells_too
    → CheckAlike c tells tells_too before now before_too now_too → now.exchanges ≡ left.exchanges → now_too.exchanges ≡ left_too.exchanges
    → IsAuditOf (auditor_for given) tells.wire tells.disk (moment_of before) left given.text a
    → IsAuditOf (auditor_for given) tells_too.wire tells_too.disk (moment_of before_too) left_too given.text a2
    → CountStayed before.disk_faults left.disk_faults → CountStayed before_too.disk_faults left_too.disk_faults → SaysSame a a2
checks_case tells tells_too given before now before_too now_too left left_too a a2 Online is tell tell_too (inl served) ended ended_too h k stayed stayed_too =
    asked_same (auditor_for given) tells.wire tells.disk tells_too.wire tells_too.disk (moment_of before) left (moment_of before_too) left_too given.text a a2 served.added served.added_too
    served.honest.serving served.honest_too.serving is h k stayed stayed_too (sym ended ∙ served.honest.follow) (sym ended_too ∙ served.honest_too.follow) served.alike
checks_case tells tells_too given before now before_too now_too left left_too a a2 Online is tell tell_too (inr answered) ended ended_too h k stayed stayed_too =
    came_same (auditor_for given) tells.wire tells.disk tells_too.wire tells_too.disk (moment_of before) left (moment_of before_too) left_too given.text a a2 answered.added answered.added_too
    tell.wire tell.disk tell_too.wire tell_too.disk is h k stayed stayed_too (sym ended ∙ answered.follow) (sym ended_too ∙ answered.follow_too) answered.same answered.caches
checks_case tells tells_too given before now before_too now_too left left_too a a2 Offline is tell tell_too caches ended ended_too h k stayed stayed_too =
    recalled_same (auditor_for given) tells.wire tells.disk tells_too.wire tells_too.disk (moment_of before) left (moment_of before_too) left_too given.text a a2
    tell.wire tell.disk tell_too.wire tell_too.disk is h k stayed stayed_too caches
checks_case tells tells_too given before now before_too now_too left left_too a a2 Off is tell tell_too alike ended ended_too h k stayed stayed_too =
    off_same (auditor_for given) tells.wire tells.disk tells_too.wire tells_too.disk (moment_of before) left (moment_of before_too) left_too given.text a a2 is h k

-- what a run that audited leaves, by what was made: these are its parts
record IsLeft (task : Task) (given : Asked) (out err : List ℕ) (entry : List Started) (now : World) (end : ℕ) (a : Audited) (w : Made) (statuses : List (Option ℤ)) : Type 0 where
  pub put : now.out ≡ out ++ (task_output task given a (Ok w)).out
  pub line : now.err ≡ err ++ ((task_output task given a (Ok w)).err ++ lines_by task.command.verdicts given.advisories a (Ok w) statuses)
  pub one_each : length statuses ≡ length (steps_of w given.advisories a)
  pub added : now.starts ≡ entry ++ map started (zip (steps_of w given.advisories a) statuses)
  pub status : end ≡ made_status given.advisories a w

abbrev no_fault : Option RunFault
no_fault = None

-- of a run
left_of : (tells : Telling) (task : Task) (given : Asked) (before now : World) (there : Host) (entry : List Started) (end : ℕ) (plan : Option (List PlanItem)) (a : Audited) (w : Made)
    → AllTell tells → (run : IsGivenRun tells task given (record before { host = there; starts = entry }) now (ending None end plan) a) → run.it ≡ Ok w
    → IsLeft task given before.out before.err entry now end a w run.statuses
left_of tells task given before now there entry end plan a w tell run is =
    let each = run.started.each tell.runner (run.started.one_each tt) in
    let S : Result Made RunFault → Type 0 = λ r. now.starts ≡ entry ++ map started (zip (steps_by given.advisories a r) run.statuses) in
    let N : Result Made RunFault → Type 0 = λ r. length run.statuses ≡ length (steps_by given.advisories a r) in
    let O : Result Made RunFault → Type 0 = λ r. now.out ≡ before.out ++ (task_output task given a r).out in
    let L : Result Made RunFault → Type 0 = λ r. now.err ≡ before.err ++ ((task_output task given a r).err ++ lines_by task.command.verdicts given.advisories a r run.statuses) in
    let T : Result Made RunFault → Type 0 = λ r. IfOk r (λ what. no_fault ≡ None → end ≡ made_status given.advisories a what) in
    record {
      put = subst O is ((run.out tell.out).whole tt);
      line = subst L is ((run.err tell.err).whole tt);
      one_each = subst N is (run.started.one_each tt);
      added = subst S is each.added;
      status = (subst T is run.is_end.status) refl;
    }

-- the same of another audit that says the same, with its turns
left_turns : (task : Task) (given : Asked) (out err : List ℕ) (entry : List Started) (now : World) (end : ℕ) (a : Audited) (ts : List Turn) (w : Made) (statuses : List (Option ℤ))
    → IsLeft task given out err entry now end (with_turns a ts) w statuses → IsLeft task given out err entry now end a w statuses
left_turns task given out err entry now end a ts w statuses k =
    let shown = output_of task.command.verdicts (shown_by given.config given.database given.advisories) given.place a in
    let one = output_turns w shown a ts in
    let steps = steps_turns w given.advisories a ts in
    let lines = lines_turns w task.command.verdicts given.advisories a ts statuses in
    let behind : lines_by task.command.verdicts given.advisories (with_turns a ts) (Ok w) statuses ≡ lines_by task.command.verdicts given.advisories a (Ok w) statuses =
    ap (λ (xs : List FixStep). lines_behind xs statuses (remedy_lines task.command.verdicts w given.advisories (with_turns a ts) statuses)) steps
    ∙ ap (λ (xs : List ℕ). lines_behind (steps_of w given.advisories a) statuses xs) lines in
    let O : Output → Type 0 = λ o. now.out ≡ out ++ o.out in
    let E : Output → Type 0 = λ o. now.err ≡ err ++ (o.err ++ lines_by task.command.verdicts given.advisories (with_turns a ts) (Ok w) statuses) in
    let B : List ℕ → Type 0 = λ xs. now.err ≡ err ++ ((made_output shown a w).err ++ xs) in
    let N : List FixStep → Type 0 = λ xs. length statuses ≡ length xs in
    let S : List FixStep → Type 0 = λ xs. now.starts ≡ entry ++ map started (zip xs statuses) in
    record {
      put = subst O one k.put;
      line = subst B behind (subst E one k.line);
      one_each = subst N steps k.one_each;
      added = subst S steps k.added;
      status = k.status ∙ status_turns w given.advisories a ts;
    }

-- the same of a registry with the same line
line_left : (task : Task) (given : Asked) (out err : List ℕ) (entry : List Started) (now : World) (end : ℕ) (a : Audited) (v u : Vendored) (statuses : List (Option ℤ)) → v.packages ≡ u.packages → v.bytes ≡ u.bytes
    → IsLeft task given out err entry now end a (made.Vendored u) statuses → IsLeft task given out err entry now end a (made.Vendored v) statuses
line_left task given out err entry now end a v u statuses packages bytes k =
    let line : vendored_line u ≡ vendored_line v =
    ap (λ (n : ℕ). codes "vendored " ++ decimal n ++ codes " packages, " ++ decimal u.bytes ++ codes " bytes\n") (sym packages)
    ∙ ap (λ (n : ℕ). codes "vendored " ++ decimal v.packages ++ codes " packages, " ++ decimal n ++ codes " bytes\n") (sym bytes) in
    record {
      put = k.put ∙ ap (λ (xs : List ℕ). out ++ xs) line;
      line = k.line;
      one_each = k.one_each;
      added = k.added;
      status = k.status;
    }

shown_left : (task : Task) (given : Asked) (out err : List ℕ) (entry : List Started) (now : World) (end : ℕ) (a : Audited) (w x : Made) (statuses : List (Option ℤ)) → (w ≡ x) ⊎ IsLineSame w x
    → IsLeft task given out err entry now end a x statuses → IsLeft task given out err entry now end a w statuses
shown_left task given out err entry now end a w x statuses (inl same) k = let P : Made → Type 0 = λ y. IsLeft task given out err entry now end a y statuses in subst P (sym same) k
shown_left task given out err entry now end a w x statuses (inr h) k =
    let P : Made → Type 0 = λ y. IsLeft task given out err entry now end a y statuses in
    subst P (sym h.is) (line_left task given out err entry now end a h.mine h.other statuses h.packages h.bytes (subst P h.too k))

-- so the same is left
lefts_agree : (task : Task) (given : Asked) (out err : List ℕ) (entry : List Started) (now now_too : World) (outcome outcome_too : Outcome) (a : Audited) (w : Made) (ss ts : List (Option ℤ))
    → IsLeft task given out err entry now outcome.status a w ss → IsLeft task given out err entry now_too outcome_too.status a w ts → outcome.fault ≡ None → outcome_too.fault ≡ None
    → EndAlike now.starts now_too.starts → now.host.stands ≡ now_too.host.stands → AgreeBehind now now_too outcome outcome_too
lefts_agree task given out err entry now now_too outcome outcome_too a w ss ts h k none none_too end stands =
    let steps = steps_of w given.advisories a in
    let P : List Started → Type 0 = λ xs. EndAlike xs now_too.starts in
    let Q : List Started → Type 0 = λ xs. EndAlike (entry ++ map started (zip steps ss)) xs in
    let alike = alike_behind entry (map started (zip steps ss)) (map started (zip steps ts)) (subst Q k.added (subst P h.added end)) in
    let same : ss ≡ ts = statuses_alike steps ss ts h.one_each k.one_each alike in
    let T : Option RunFault → Type 0 = λ o. ToldAlike o outcome_too.fault in
    let U : Option RunFault → Type 0 = λ o. ToldAlike None o in
    record {
      out = h.put ∙ sym k.put;
      err = h.line ∙ ap (λ (xs : List (Option ℤ)). err ++ ((task_output task given a (Ok w)).err ++ lines_by task.command.verdicts given.advisories a (Ok w) xs)) same ∙ sym k.line;
      status = h.status ∙ sym k.status;
      fault = subst T (sym none) (subst U (sym none_too) tt);
      starts = h.added ∙ ap (λ (xs : List (Option ℤ)). entry ++ map started (zip steps xs)) same ∙ sym k.added;
      stands = stands;
    }

-- ---- from what is there beforehand

placed_starts : (b : Bool) (before entry now steps : List Started) → RunStartsWhere {T = Unit {0}} b before entry (Ok tt) → now ≡ entry ++ steps → StartedBy b before now (pos 0) steps
placed_starts false before entry now steps h is = is ∙ ap (λ (xs : List Started). xs ++ steps) h
placed_starts true before entry now steps h is = is ∙ ap (λ (xs : List Started). xs ++ steps) h ∙ append_assoc before (generating (Some (pos 0)) ∷ []) steps

same_entry : (b : Bool) (before entry entry_too : List Started) → RunStartsWhere {T = Unit {0}} b before entry (Ok tt) → RunStartsWhere {T = Unit {0}} b before entry_too (Ok tt) → entry ≡ entry_too
same_entry false before entry entry_too h k = h ∙ sym k
same_entry true before entry entry_too h k = h ∙ sym k

pub moved : (P : Host → List Started → List ℕ → List ℕ → Type 0) (a b : World) → BeginAlike a b → P b.host b.starts b.out b.err → P a.host a.starts a.out a.err
moved P a b begin h =
    let one : P b.host b.starts b.out a.err = subst (λ (x : List ℕ). P b.host b.starts b.out x) (sym begin.err) h in
    let two : P b.host b.starts a.out a.err = subst (λ (x : List ℕ). P b.host b.starts x a.err) (sym begin.out) one in
    let three : P b.host a.starts a.out a.err = subst (λ (x : List Started). P b.host x a.out a.err) (sym begin.starts) two in
    subst (λ (x : Host). P x a.starts a.out a.err) (sym begin.host) three

moved_left : (P : List ℕ → List ℕ → List Started → Type 0) (out out_too err err_too : List ℕ) (entry entry_too : List Started) → out ≡ out_too → err ≡ err_too → entry ≡ entry_too → P out_too err_too entry_too → P out err entry
moved_left P out out_too err err_too entry entry_too one two three h =
    let a : P out err_too entry_too = subst (λ (x : List ℕ). P x err_too entry_too) (sym one) h in
    let b : P out err entry_too = subst (λ (x : List ℕ). P out x entry_too) (sym two) a in
    subst (λ (x : List Started). P out err x) (sym three) b

-- what a run that audited started, and what it was given
reason_is : (e : VendorFault) (reason : RunFault) → (Some (fault.Vendor e) ≡ Some reason) ⊎ (Some (fault.Vendor e) ≡ Some fault.NoMemory) → fault.Vendor e ≡ reason
reason_is e reason (inl is) = cc (is)
reason_is e reason (inr is) = cc (is)

-- if nothing could be made for a registry, nothing was
unmade_it : (advisories : List Advisory) (a : Audited) (it : Result Made RunFault) (e : VendorFault) (status : ℕ) (plan : Option (List PlanItem)) → IsTrue (is_said e) → IsEndBy advisories a it (ending (Some (fault.Vendor e)) status plan) → it ≡ Err (fault.Vendor e)
unmade_it advisories a (Ok w) e status plan said h = absurd h.made
unmade_it advisories a (Err reason) e status plan said h = ap (λ (r : RunFault). Err r) (sym (reason_is e reason h.unmade))

none_started : (steps : List FixStep) (before now : List Started) → steps ≡ [] → StartsPart steps before now → now ≡ before
none_started steps before now none h =
    let few : take h.0 steps ≡ [] = ap (λ (xs : List FixStep). take h.0 xs) none ∙ take-nil h.0 in
    h.2.added ∙ ap (λ (xs : List FixStep). before ++ map started (zip xs h.1)) few ∙ append-nil before

started_by : (tells : Telling) (task : Task) (given : Asked) (before now : World) (end : Option RunFault) (status : ℕ) (plan : Option (List PlanItem)) (a : Audited) → AllTell tells → IsDone end
    → (run : IsGivenRun tells task given before now (ending end status plan) a) → now.starts ≡ before.starts ++ map started (zip (steps_by given.advisories a run.it) run.statuses)
started_by tells task given before now end status plan a tell (inl none) run =
    let whole : IsWhole end = subst IsWhole (sym none) tt in
    (run.started.each tell.runner (run.started.one_each whole)).added
started_by tells task given before now end status plan a tell (inr (e, is, said)) run =
    let P : Option RunFault → Type 0 = λ o. IsEndBy given.advisories a run.it (ending o status plan) in
    let none = unmade_it given.advisories a run.it e status plan said (subst P is run.is_end) in
    let steps : steps_by given.advisories a run.it ≡ [] = ap (λ (r : Result Made RunFault). steps_by given.advisories a r) none in
    none_started (steps_by given.advisories a run.it) before.starts now.starts steps (run.started.part tell.runner) ∙ sym (append-nil before.starts)
    ∙ sym (ap (λ (xs : List FixStep). before.starts ++ map started (zip xs run.statuses)) steps)

pub audited_starts : (tells : Telling) (task : Task) (before now : World) (outcome : Outcome) → AllTell tells → (d : IsAuditedRun tells task before now outcome)
    → StartedBy (task_generates task before.host) before.starts now.starts (pos 0) (map started (zip (steps_by d.run.given.advisories d.audited d.run.run.it) d.run.run.statuses))
audited_starts tells task before now outcome tell d =
    placed_starts (task_generates task before.host) before.starts d.run.generated now.starts _ (d.run.is_generated tell.files tell.runner)
    (started_by tells task d.run.given (record before { host = d.run.there; starts = d.run.generated }) now outcome.fault outcome.status outcome.plan d.audited tell d.done d.run.run)

reads_case : (remedy : Remedy) (tells tells_too : Telling) (given : Asked) (before now before_too now_too : World) (left left_too : Moment) (a a2 : Audited) → AllTell tells → AllTell tells_too
    → AuditAlike remedy (checks_of given.config) tells tells_too before now before_too now_too → IsReadSince tells.disk left (moment_of now) → IsReadSince tells_too.disk left_too (moment_of now_too)
    → IsAuditOf (auditor_for given) tells.wire tells.disk (moment_of before) left given.text a
    → IsAuditOf (auditor_for given) tells_too.wire tells_too.disk (moment_of before_too) left_too given.text a2
    → CountStayed before.disk_faults left.disk_faults → CountStayed before_too.disk_faults left_too.disk_faults
    → ((checks_of given.config ≡ Online → ⊥) → (q : List ℕ) → now.cache q ≡ before.cache q) → ((checks_of given.config ≡ Online → ⊥) → (q : List ℕ) → now_too.cache q ≡ before_too.cache q)
    → ReadsAs remedy left left_too a.lockfile
reads_case Plan tells tells_too given before now before_too now_too left left_too a a2 tell tell_too alike since since_too h k stayed stayed_too calls calls_too =
    stock_case tells tells_too given before now before_too now_too left left_too a a2 (checks_of given.config) refl tell tell_too alike since since_too h k stayed stayed_too calls calls_too
reads_case (Vendor more) tells tells_too given before now before_too now_too left left_too a a2 tell tell_too alike since since_too h k stayed stayed_too calls calls_too =
    stock_case tells tells_too given before now before_too now_too left left_too a a2 (checks_of given.config) refl tell tell_too alike since since_too h k stayed stayed_too calls calls_too
reads_case Report tells tells_too given before now before_too now_too left left_too a a2 tell tell_too alike since since_too h k stayed stayed_too calls calls_too = tt
reads_case (Fix dry_run) tells tells_too given before now before_too now_too left left_too a a2 tell tell_too alike since since_too h k stayed stayed_too calls calls_too = tt
reads_case (Baseline path) tells tells_too given before now before_too now_too left left_too a a2 tell tell_too alike since since_too h k stayed stayed_too calls calls_too = tt
reads_case (WriteBaseline path) tells tells_too given before now before_too now_too left left_too a a2 tell tell_too alike since since_too h k stayed stayed_too calls calls_too = tt

-- how each ended: with what was made, or with the reason why there is no registry
module _ (tells tells_too : Telling) (task : Task) (given : Asked) (before now before_too now_too : World) (there there_too : Host) (entry entry_too : List Started) (outcome outcome_too : Outcome) (a a2 : Audited)
    (tell : AllTell tells) (tell_too : AllTell tells_too) (quiet : IsQuiet before now outcome.fault) (quiet_too : IsQuiet before_too now_too outcome_too.fault)
    (begin : BeginAlike before before_too) (end : EndAlike now.starts now_too.starts) (entries : entry ≡ entry_too) (stands : there.stands ≡ there_too.stands) (said : SaysSame a a2) where
  of_made : (run : IsGivenRun tells task given (record before { host = there; starts = entry }) now (ending None outcome.status outcome.plan) a)
      (run2 : IsGivenRun tells_too task given (record before_too { host = there_too; starts = entry_too }) now_too (ending None outcome_too.status outcome_too.plan) a2)
      → outcome.fault ≡ None → outcome_too.fault ≡ None → ReadsAs task.remedy run.left run2.left a.lockfile
      → CountStayed run.left.disk_faults now.disk_faults → CountStayed run2.left.disk_faults now_too.disk_faults → AgreeBehind now now_too outcome outcome_too
  of_made run run2 none none_too stock last last_too =
      let what = ok_of run.it run.is_end.unmade in
      let what2 = ok_of run2.it run2.is_end.unmade in
      let same = made_same task.remedy tells.files tells.disk tells_too.files tells_too.disk given.advisories given.baseline a a2 run.left (moment_of now) run2.left (moment_of now_too) there now.host there_too now_too.host
      run.it run2.it what.0 what2.0 tell.files tell.disk tell_too.files tell_too.disk run.is_end.unmade run2.is_end.unmade what.1 what2.1 said stands stock last last_too run.is_made run2.is_made in
      let one = left_of tells task given before now there entry outcome.status outcome.plan a what.0 tell run what.1 in
      let two = left_of tells_too task given before_too now_too there_too entry_too outcome_too.status outcome_too.plan a2 what2.0 tell_too run2 what2.1 in
      let C : Audited → Type 0 = λ x. IsLeft task given before_too.out before_too.err entry_too now_too outcome_too.status x what2.0 run2.statuses in
      let three = left_turns task given before_too.out before_too.err entry_too now_too outcome_too.status a a2.turns what2.0 run2.statuses (subst C (sym (same_but_turns a a2 said)) two) in
      let four = shown_left task given before_too.out before_too.err entry_too now_too outcome_too.status a what.0 what2.0 run2.statuses same.shown three in
      let five = moved_left (λ out err started. IsLeft task given out err started now_too outcome_too.status a what.0 run2.statuses) before.out before_too.out before.err before_too.err entry entry_too begin.out begin.err entries four in
      lefts_agree task given before.out before.err entry now now_too outcome outcome_too a what.0 run.statuses run2.statuses one five none none_too end same.stands

  of_unmade : (e g : VendorFault) (run : IsGivenRun tells task given (record before { host = there; starts = entry }) now (ending (Some (fault.Vendor e)) outcome.status outcome.plan) a)
      (run2 : IsGivenRun tells_too task given (record before_too { host = there_too; starts = entry_too }) now_too (ending (Some (fault.Vendor g)) outcome_too.status outcome_too.plan) a2)
      → outcome.fault ≡ Some (fault.Vendor e) → outcome_too.fault ≡ Some (fault.Vendor g) → outcome.status ≡ 2 → outcome_too.status ≡ 2 → IsTrue (is_said e) → IsTrue (is_said g) → ReadsAs task.remedy run.left run2.left a.lockfile
      → AgreeBehind now now_too outcome outcome_too
  of_unmade e g run run2 is is_too status status_too agreed agreed_too stock =
      let none = unmade_it given.advisories a run.it e outcome.status outcome.plan agreed run.is_end in
      let none2 = unmade_it given.advisories a2 run2.it g outcome_too.status outcome_too.plan agreed_too run2.is_end in
      let M : Result Made RunFault → Type 0 = λ r. IsMade task.remedy (making tells.files tells.disk given.advisories given.baseline a run.left (moment_of now) there now.host) r in
      let N : Result Made RunFault → Type 0 = λ r. IsMade task.remedy (making tells_too.files tells_too.disk given.advisories given.baseline a2 run2.left (moment_of now_too) there_too now_too.host) r in
      let same = unmade_same task.remedy tells.files tells.disk tells_too.files tells_too.disk given.advisories given.baseline a a2 run.left (moment_of now) run2.left (moment_of now_too) there now.host there_too now_too.host e g
      tell.files tell.disk tell_too.files tell_too.disk agreed agreed_too said stands stock (subst M none run.is_made) (subst N none2 run2.is_made) in
      let lines : (place : List ℕ) → fault_line place (fault.Vendor e) ≡ fault_line place (fault.Vendor g) = λ place. ap (λ (xs : List ℕ). codes "error: " ++ (codes "vendor: " ++ xs) ++ codes "\n") same.0 in
      let O : Result Made RunFault → Type 0 = λ r. AddsPrefix before.out (task_output task given a r).out now.out in
      let P : Result Made RunFault → Type 0 = λ r. AddsPrefix before_too.out (task_output task given a2 r).out now_too.out in
      let put = prefix_none before.out now.out (subst O none (run.out tell.out).part) in
      let put2 = prefix_none before_too.out now_too.out (subst P none2 (run2.out tell_too.out).part) in
      let E : Result Made RunFault → Type 0 = λ r. IsEnded (task_place task) before.err ((task_output task given a r).err ++ lines_by task.command.verdicts given.advisories a r run.statuses) (Some (fault.Vendor e)) now.err before.err_faults now.err_faults in
      let F : Result Made RunFault → Type 0 = λ r. IsEnded (task_place task) before_too.err ((task_output task given a2 r).err ++ lines_by task.command.verdicts given.advisories a2 r run2.statuses) (Some (fault.Vendor g)) now_too.err before_too.err_faults now_too.err_faults in
      let line = ended_fault (task_place task) before.err (fault.Vendor e) now.err before.err_faults now.err_faults (subst E none (run.err tell.err)) quiet.stayed.err in
      let line2 = ended_fault (task_place task) before_too.err (fault.Vendor g) now_too.err before_too.err_faults now_too.err_faults (subst F none2 (run2.err tell_too.err)) quiet_too.stayed.err in
      let starts = none_started (steps_by given.advisories a run.it) entry now.starts (ap (λ (r : Result Made RunFault). steps_by given.advisories a r) none) (run.started.part tell.runner) in
      let starts2 = none_started (steps_by given.advisories a2 run2.it) entry_too now_too.starts (ap (λ (r : Result Made RunFault). steps_by given.advisories a2 r) none2) (run2.started.part tell_too.runner) in
      let T : Option RunFault → Type 0 = λ o. ToldAlike o outcome_too.fault in
      let U : Option RunFault → Type 0 = λ o. ToldAlike (Some (fault.Vendor e)) o in
      record {
        out = put ∙ begin.out ∙ sym put2;
        err = line ∙ ap (λ (xs : List ℕ). xs ++ fault_line (task_place task) (fault.Vendor e)) begin.err ∙ ap (λ (xs : List ℕ). before_too.err ++ xs) (lines (task_place task)) ∙ sym line2;
        status = status ∙ sym status_too;
        fault = subst T (sym is) (subst U (sym is_too) lines);
        starts = starts ∙ entries ∙ sym starts2;
        stands = same.1;
      }

  of_done : (o p : Option RunFault) → IsDone o → IsDone p → outcome.fault ≡ o → outcome_too.fault ≡ p → ((f : RunFault) → o ≡ Some f → outcome.status ≡ fault_status f) → ((f : RunFault) → p ≡ Some f → outcome_too.status ≡ fault_status f)
      → (run : IsGivenRun tells task given (record before { host = there; starts = entry }) now (ending o outcome.status outcome.plan) a)
      (run2 : IsGivenRun tells_too task given (record before_too { host = there_too; starts = entry_too }) now_too (ending p outcome_too.status outcome_too.plan) a2)
      → ReadsAs task.remedy run.left run2.left a.lockfile
      → CountStayed run.left.disk_faults now.disk_faults → CountStayed run2.left.disk_faults now_too.disk_faults → AgreeBehind now now_too outcome outcome_too
  of_done None None (inl h) (inl k) is is_too status status_too run run2 stock last last_too = of_made run run2 is is_too stock last last_too
  of_done None (Some g) (inl h) (inl k) is is_too status status_too run run2 stock last last_too = cc (k)
  of_done (Some e) p (inl h) done_too is is_too status status_too run run2 stock last last_too = cc (h)
  of_done None p (inr h) done_too is is_too status status_too run run2 stock last last_too = let no = h.1 in cc (no)
  of_done None None (inl h) (inr k) is is_too status status_too run run2 stock last last_too = let no = k.1 in cc (no)
  of_done (Some e) None (inr h) (inr k) is is_too status status_too run run2 stock last last_too = let no = k.1 in cc (no)
  of_done (Some e) (Some g) (inr h) (inl k) is is_too status status_too run run2 stock last last_too = cc (k)
  of_done None (Some g) (inl h) (inr (y, at, agreed)) is is_too status status_too run run2 stock last last_too =
      let what = ok_of run.it run.is_end.unmade in
      let one : g ≡ fault.Vendor y = cc (at) in
      let E : RunFault → Type 0 = λ f. IsEndBy given.advisories a2 run2.it (ending (Some f) outcome_too.status outcome_too.plan) in
      let none2 = unmade_it given.advisories a2 run2.it y outcome_too.status outcome_too.plan agreed (subst E one run2.is_end) in
      let M : Result Made RunFault → Type 0 = λ r. IsMade task.remedy (making tells.files tells.disk given.advisories given.baseline a run.left (moment_of now) there now.host) r in
      let N : Result Made RunFault → Type 0 = λ r. IsMade task.remedy (making tells_too.files tells_too.disk given.advisories given.baseline a2 run2.left (moment_of now_too) there_too now_too.host) r in
      made_unmade task.remedy tells.files tells.disk tells_too.files tells_too.disk given.advisories given.baseline a a2 run.left (moment_of now) run2.left (moment_of now_too) there now.host there_too now_too.host what.0 y
      tell.files tell.disk tell_too.files tell_too.disk agreed said stands stock (subst M what.1 run.is_made) (subst N none2 run2.is_made)
  of_done (Some e) None (inr (x, at, agreed)) (inl k) is is_too status status_too run run2 stock last last_too =
      let what = ok_of run2.it run2.is_end.unmade in
      let one : e ≡ fault.Vendor x = cc (at) in
      let E : RunFault → Type 0 = λ f. IsEndBy given.advisories a run.it (ending (Some f) outcome.status outcome.plan) in
      let none = unmade_it given.advisories a run.it x outcome.status outcome.plan agreed (subst E one run.is_end) in
      let M : Result Made RunFault → Type 0 = λ r. IsMade task.remedy (making tells.files tells.disk given.advisories given.baseline a run.left (moment_of now) there now.host) r in
      let N : Result Made RunFault → Type 0 = λ r. IsMade task.remedy (making tells_too.files tells_too.disk given.advisories given.baseline a2 run2.left (moment_of now_too) there_too now_too.host) r in
      made_unmade task.remedy tells_too.files tells_too.disk tells.files tells.disk given.advisories given.baseline a2 a run2.left (moment_of now_too) run.left (moment_of now) there_too now_too.host there now.host what.0 x
      tell_too.files tell_too.disk tell.files tell.disk agreed (said_back a a2 said) (sym stands) (reads_back task.remedy run.left run2.left a.lockfile a2.lockfile said.lockfile stock) (subst N what.1 run2.is_made) (subst M none run.is_made)
  of_done (Some e) (Some g) (inr (x, at, agreed)) (inr (y, at_too, agreed_too)) is is_too status status_too run run2 stock last last_too =
      let P : Option RunFault → Option RunFault → Type 0 = λ o p. (one : IsGivenRun tells task given (record before { host = there; starts = entry }) now (ending o outcome.status outcome.plan) a)
      × (two : IsGivenRun tells_too task given (record before_too { host = there_too; starts = entry_too }) now_too (ending p outcome_too.status outcome_too.plan) a2) × ReadsAs task.remedy one.left two.left a.lockfile in
      let first : P (Some (fault.Vendor x)) (Some g) = subst (λ (o : Option RunFault). P o (Some g)) at (run, run2, stock) in
      let both : P (Some (fault.Vendor x)) (Some (fault.Vendor y)) = subst (λ (p : Option RunFault). P (Some (fault.Vendor x)) p) at_too first in
      of_unmade x y both.0 both.1 (is ∙ at) (is_too ∙ at_too) (status (fault.Vendor x) at) (status_too (fault.Vendor y) at_too) agreed agreed_too both.2

pub done_agree : (tells tells_too : Telling) (task : Task) (before now before_too now_too : World) (outcome outcome_too : Outcome) → AllTell tells → AllTell tells_too
    → IsQuiet before now outcome.fault → IsQuiet before_too now_too outcome_too.fault → BeginAlike before before_too → EndAlike now.starts now_too.starts
    → AskTask tells tells_too task before now before_too now_too → IsUnchanged task before now → IsUnchanged task before_too now_too
    → IsAuditedRun tells task before now outcome → IsAuditedRun tells_too task before_too now_too outcome_too → AgreeBehind now now_too outcome outcome_too
done_agree tells tells_too task before now before_too now_too outcome outcome_too tell tell_too quiet quiet_too begin end ask calls calls_too d d2 =
    let r = d.run in
    let r2 = d2.run in
    let a = d.audited in
    let a2 = d2.audited in
    let given = r.given in
    let mine = r.gives tell.files in
    let gave = sym mine ∙ ap (λ (h : Host). task_asked task h (pos 0)) begin.host ∙ r2.gives tell_too.files in
    let same_given : given ≡ r2.given = cc (gave) in
    let G : Asked → Type 0 = λ g. IsGivenRun tells_too task g (record before_too { host = r2.there; starts = r2.generated }) now_too (ending outcome_too.fault outcome_too.status outcome_too.plan) a2 in
    let run = r.run in
    let run2 = subst G (sym same_given) r2.run in
    let m = making tells.files tells.disk given.advisories given.baseline a run.left (moment_of now) r.there now.host in
    let m2 = making tells_too.files tells_too.disk given.advisories given.baseline a2 run2.left (moment_of now_too) r2.there now_too.host in
    let since = made_since task.remedy m run.it run.is_made in
    let since2 = made_since task.remedy m2 run2.it run2.is_made in
    let grown = chain_grows before.wire_faults before.disk_faults a.turns run.left.wire_faults run.left.disk_faults run.audit.says.counted.counts in
    let grown2 = chain_grows before_too.wire_faults before_too.disk_faults a2.turns run2.left.wire_faults run2.left.disk_faults run2.audit.says.counted.counts in
    let asks = ask given mine in
    let first = first_stayed before.disk_faults run.left.disk_faults now.disk_faults grown since.disk_faults quiet.disk in
    let first2 = first_stayed before_too.disk_faults run2.left.disk_faults now_too.disk_faults grown2 since2.disk_faults quiet_too.disk in
    let check = audit_check task.remedy (checks_of given.config) tells tells_too before now before_too now_too asks in
    let said : SaysSame a a2 = checks_case tells tells_too given before now before_too now_too run.left run2.left a a2 (checks_of given.config) refl tell tell_too check since.exchanges since2.exchanges run.audit run2.audit first first2 in
    let theirs = ap (λ (h : Host). task_asked task h (pos 0)) (sym begin.host) ∙ mine in
    let stock = reads_case task.remedy tells tells_too given before now before_too now_too run.left run2.left a a2 tell tell_too asks since since2 run.audit run2.audit first first2 (calls given mine) (calls_too given theirs) in
    let b = task_generates task before.host in
    let E : Host → List Started → List ℕ → List ℕ → Type 0 = λ h starts out err. RunStartsWhere {T = Unit {0}} (task_generates task h) starts r2.generated (Ok tt) in
    let entries : r.generated ≡ r2.generated = same_entry b before.starts r.generated r2.generated (r.is_generated tell.files tell.runner) (moved E before before_too begin (r2.is_generated tell_too.files tell_too.runner)) in
    let stands : r.there.stands ≡ r2.there.stands = (r.is_there tell.files).stands ∙ ap (λ (h : Host). h.stands) begin.host ∙ sym (r2.is_there tell_too.files).stands in
    of_done tells tells_too task given before now before_too now_too r.there r2.there r.generated r2.generated outcome outcome_too a a2 tell tell_too quiet quiet_too begin end entries stands said
    outcome.fault outcome_too.fault d.done d2.done refl refl d.status d2.status run run2 stock
    (last_stayed before.disk_faults run.left.disk_faults now.disk_faults grown since.disk_faults quiet.disk) (last_stayed before_too.disk_faults run2.left.disk_faults now_too.disk_faults grown2 since2.disk_faults quiet_too.disk)
