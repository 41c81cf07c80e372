-- What is made of two audits that say the same is the same.
use Rattle.std.proofs.Common.{◌≡◌, ◌⊎◌, inl, inr, ℕ, ℤ, List, [], Bool, Option, Some, None, Result, Ok, Err, IsTrue, refl, sym, ap, subst, ◌∙◌}
use Rattle.std.specs.Prelude.{IfErr, unwrap_or}
use Rattle.tame_names.specs.Changes.{with_standing}
use Rattle.tame_cache.specs.Disk.{reads}
use Rattle.tame_names.specs.Counts.{CountStayed}
use Rattle.tame_names.specs.Standing.{Host, File, Standing}
use Rattle.known_findings.specs.Baselines.{listed, written}
use Rattle.known_findings.specs.declared.findings.Finding.{Finding}
use Rattle.audit_advisory.specs.declared.advisories.Advisory.{Advisory}
use Rattle.audit_core.specs.Audits.{Moment}
use Rattle.audit_core.specs.declared.asking.Turn.{Turn}
use Rattle.audit_core.specs.declared.auditing.Audited.{Audited}
use Rattle.audit_output.specs.Outputs.{Output}
use Rattle.audit_remedies.specs.FaultLines.{vendor_words}
use Rattle.audit_remedies.specs.Makings.{IsFileMade, IsGateMade, IsMade, IsPlanMade, IsToldOf, Making, making, IsVendorMade, stock_in, vendoring_in}
use Rattle.audit_remedies.specs.Outputs.{made_output, remedy_lines}
use Rattle.audit_remedies.specs.Statuses.{made_status, steps_of}
use Rattle.audit_remedies.specs.declared.faults.RunFault.{RunFault}
use Rattle.audit_remedies.specs.declared.faults.RunFault.TheVariants as fault
use Rattle.audit_remedies.specs.declared.makings.Made.{Made}
use Rattle.audit_remedies.specs.declared.makings.Made.TheVariants as made
use Rattle.audit_remedies.specs.declared.remedies.Remedy.{Remedy}
use Rattle.audit_remedies.specs.declared.remedies.Remedy.TheVariants.{Report, Fix, Plan, Baseline, WriteBaseline, Vendor}
use Rattle.baseline_gate.specs.Gates.{unlisted}
use Rattle.baseline_gate.specs.Reports.{audit_findings}
use Rattle.upgrade_plan.specs.Plans.{IsPlanBy}
use Rattle.upgrade_plan.specs.declared.plans.PlanItem.{PlanItem}
use Rattle.audit_program.proofs.PlannedAlike.{plans_same}
use Rattle.audit_program.proofs.SaidAlike.{SaysSame, same_but_turns}
use Rattle.audit_lock.specs.declared.resolving.Package.{Package}
use Rattle.audit_words.specs.declared.commands.VendorCommand.{VendorCommand}
use Rattle.vendor_registry.specs.Checks.{all_checked}
use Rattle.vendor_registry.specs.Looked.{looked}
use Rattle.vendor_registry.specs.Vendoring.{IsRegistryMade}
use Rattle.vendor_registry.specs.declared.faults.VendorFault.{VendorFault}
use Rattle.vendor_registry.specs.declared.vendoring.Vendored.{Vendored}
use Rattle.audit_program.proofs.LeftAlike.{StockSame}
use Rattle.audit_program.proofs.VendoredAlike.{is_said, made_both, made_refused, refused_same, stocks_same}

-- ---- what is made doesn't depend on the turns

abbrev pub with_turns : Audited → List Turn → Audited
with_turns a ts = record a { turns = ts }

pub output_turns : (w : Made) (output : Output) (a : Audited) (ts : List Turn) → made_output output (with_turns a ts) w ≡ made_output output a w
output_turns made.Report output a ts = refl
output_turns (made.Fix dry_run) output a ts = refl
output_turns (made.Planned items) output a ts = refl
output_turns (made.Unlisted found) output a ts = refl
output_turns made.Written output a ts = refl
output_turns (made.Vendored v) output a ts = refl

pub steps_turns : (w : Made) (advisories : List Advisory) (a : Audited) (ts : List Turn) → steps_of w advisories (with_turns a ts) ≡ steps_of w advisories a
steps_turns made.Report advisories a ts = refl
steps_turns (made.Fix dry_run) advisories a ts = refl
steps_turns (made.Planned items) advisories a ts = refl
steps_turns (made.Unlisted found) advisories a ts = refl
steps_turns made.Written advisories a ts = refl
steps_turns (made.Vendored v) advisories a ts = refl

pub lines_turns : (w : Made) (verdicts : Bool) (advisories : List Advisory) (a : Audited) (ts : List Turn) (statuses : List (Option ℤ)) → remedy_lines verdicts w advisories (with_turns a ts) statuses ≡ remedy_lines verdicts w advisories a statuses
lines_turns made.Report verdicts advisories a ts statuses = refl
lines_turns (made.Fix dry_run) verdicts advisories a ts statuses = refl
lines_turns (made.Planned items) verdicts advisories a ts statuses = refl
lines_turns (made.Unlisted found) verdicts advisories a ts statuses = refl
lines_turns made.Written verdicts advisories a ts statuses = refl
lines_turns (made.Vendored v) verdicts advisories a ts statuses = refl

pub status_turns : (w : Made) (advisories : List Advisory) (a : Audited) (ts : List Turn) → made_status advisories (with_turns a ts) w ≡ made_status advisories a w
status_turns made.Report advisories a ts = refl
status_turns (made.Fix dry_run) advisories a ts = refl
status_turns (made.Planned items) advisories a ts = refl
status_turns (made.Unlisted found) advisories a ts = refl
status_turns made.Written advisories a ts = refl
status_turns (made.Vendored v) advisories a ts = refl

-- ---- what is made

no_end : {X : Type 0} (reason : RunFault) → (None ≡ Some reason) ⊎ (None ≡ Some fault.NoMemory) → X
no_end reason (inl is) = cc (is)
no_end reason (inr is) = cc (is)

-- what a remedy says of what was made, by cases
gate_case : (m : Making) (it : Result Made RunFault) → IfErr it (λ reason. (None ≡ Some reason) ⊎ (None ≡ Some fault.NoMemory)) → IsGateMade m it
    → it ≡ Ok (made.Unlisted (unlisted (unwrap_or m.known []) (audit_findings m.advisories m.audited)))
gate_case m (Err reason) none h = no_end reason none
gate_case m (Ok (made.Unlisted found)) none h = ap (λ (xs : List Finding). Ok (made.Unlisted xs)) h
gate_case m (Ok made.Report) none h = absurd h
gate_case m (Ok (made.Fix dry_run)) none h = absurd h
gate_case m (Ok (made.Planned items)) none h = absurd h
gate_case m (Ok made.Written) none h = absurd h
gate_case m (Ok (made.Vendored v)) none h = absurd h

file_case : (path : List ℕ) (it : Result Made RunFault) → IfErr it (λ reason. (None ≡ Some reason) ⊎ (None ≡ Some fault.NoMemory)) → IsToldOf path it → it ≡ Ok made.Written
file_case path (Err reason) none h = no_end reason none
file_case path (Ok made.Written) none h = refl
file_case path (Ok made.Report) none h = absurd h
file_case path (Ok (made.Fix dry_run)) none h = absurd h
file_case path (Ok (made.Planned items)) none h = absurd h
file_case path (Ok (made.Unlisted found)) none h = absurd h
file_case path (Ok (made.Vendored v)) none h = absurd h

-- without a fault something was made
pub ok_of : (it : Result Made RunFault) → IfErr it (λ reason. (None ≡ Some reason) ⊎ (None ≡ Some fault.NoMemory)) → (w : Made) × (it ≡ Ok w)
ok_of (Ok w) none = (w, refl)
ok_of (Err reason) none = no_end reason none

-- what reads the cache afterwards reads what was left
abbrev pub ReadsAs : Remedy → Moment → Moment → List Package → Type 0
ReadsAs Plan left left_too packages = StockSame left.files left_too.files packages
ReadsAs (Vendor more) left left_too packages = StockSame left.files left_too.files packages
ReadsAs remedy left left_too packages = Unit {0}

plan_case : (m : Making) (w : Made) → IsPlanMade m (Ok w) → (items : List PlanItem) × (w ≡ made.Planned items) × IsPlanBy m.disk_tells m.advisories m.audited m.left.files m.left.disk_faults m.ended.disk_faults items
plan_case m (made.Planned items) h = (items, refl, h.0)
plan_case m made.Report h = absurd h
plan_case m (made.Fix dry_run) h = absurd h
plan_case m (made.Unlisted found) h = absurd h
plan_case m made.Written h = absurd h
plan_case m (made.Vendored v) h = absurd h

planned_same : (m m2 : Making) (it it_too : Result Made RunFault) (w w2 : Made) → m.disk_tells → m2.disk_tells → it ≡ Ok w → it_too ≡ Ok w2 → m.advisories ≡ m2.advisories → SaysSame m.audited m2.audited
    → StockSame m.left.files m2.left.files m.audited.lockfile → CountStayed m.left.disk_faults m.ended.disk_faults → CountStayed m2.left.disk_faults m2.ended.disk_faults
    → IsPlanMade m it → IsPlanMade m2 it_too → w ≡ w2
planned_same m m2 it it_too w w2 t t_too is is_too same said left stayed stayed_too h k =
    let A : Result Made RunFault → Type 0 = λ r. IsPlanMade m r in
    let B : Result Made RunFault → Type 0 = λ r. IsPlanMade m2 r in
    let one = plan_case m w (subst A is h) in
    let two = plan_case m2 w2 (subst B is_too k) in
    let P : List Advisory → Type 0 = λ x. IsPlanBy m2.disk_tells x m2.audited m2.left.files m2.left.disk_faults m2.ended.disk_faults two.0 in
    let items : one.0 ≡ two.0 = plans_same m.disk_tells m2.disk_tells m.advisories m.audited m2.audited m.left.files m2.left.files m.left.disk_faults m.ended.disk_faults m2.left.disk_faults m2.ended.disk_faults one.0 two.0 t t_too said left stayed stayed_too
    one.2 (subst P (sym same) two.2) in
    one.1 ∙ ap (λ (xs : List PlanItem). made.Planned xs) items ∙ sym two.1

gate_same : (advisories : List Advisory) (known : Option (List Finding)) (a a2 : Audited) → SaysSame a a2 → unlisted (unwrap_or known []) (audit_findings advisories a) ≡ unlisted (unwrap_or known []) (audit_findings advisories a2)
gate_same advisories known a a2 said = ap (λ (x : Audited). unlisted (unwrap_or known []) (audit_findings advisories x)) (same_but_turns a a2 said)

vendor_case : (more : VendorCommand) (m : Making) (w : Made) → IsVendorMade more m (Ok w) → (v : Vendored) × (w ≡ made.Vendored v) × IsRegistryMade (vendoring_in more m) v
vendor_case more m (made.Vendored v) h = (v, refl, h)
vendor_case more m made.Report h = absurd h
vendor_case more m (made.Fix dry_run) h = absurd h
vendor_case more m (made.Unlisted found) h = absurd h
vendor_case more m made.Written h = absurd h
vendor_case more m (made.Planned items) h = absurd h

-- the lines of two registries are the same
pub record IsLineSame (w x : Made) : Type 0 where
  pub mine : Vendored
  pub other : Vendored
  pub is : w ≡ made.Vendored mine
  pub too : x ≡ made.Vendored other
  pub packages : mine.packages ≡ other.packages
  pub bytes : mine.bytes ≡ other.bytes

-- the same is shown of what was made, and the same is on the host
pub record MadeSame (w x : Made) (now now_too : Host) : Type 0 where
  pub shown : (w ≡ x) ⊎ IsLineSame w x
  pub stands : now.stands ≡ now_too.stands

-- no file was written
unwritten_same : (T T_too : Type 0) (host now host_too now_too : Host) → T → T_too → host.stands ≡ host_too.stands → (T → now ≡ host) → (T_too → now_too ≡ host_too) → now.stands ≡ now_too.stands
unwritten_same T T_too host now host_too now_too t t_too same h k = ap (λ (x : Host). x.stands) (h t) ∙ same ∙ sym (ap (λ (x : Host). x.stands) (k t_too))

file_stands : (path : List ℕ) (m : Making) (it : Result Made RunFault) → m.files_tell → it ≡ Ok made.Written → IsFileMade path m it
    → m.host_now.stands ≡ with_standing path (File (written (listed (audit_findings m.advisories m.audited)))) m.host.stands
file_stands path m it tells is h =
    let P : Result Made RunFault → Type 0 = λ r. IsFileMade path m r in
    ap (λ (x : Host). x.stands) ((subst P is h) tells).1

-- the stocks of two registries
checks_same : (more : VendorCommand) (m m2 : Making) → SaysSame m.audited m2.audited → m.host.stands ≡ m2.host.stands → StockSame m.left.files m2.left.files m.audited.lockfile
    → all_checked (stock_in more m) (looked m.audited.lockfile) ≡ all_checked (stock_in more m2) (looked m2.audited.lockfile)
checks_same more m m2 said host stock =
    stocks_same m.left.files m2.left.files m.host m2.host more.crates m.audited.lockfile stock host ∙ ap (λ (ps : List Package). all_checked (stock_in more m2) (looked ps)) said.lockfile

vendored_same : (more : VendorCommand) (m m2 : Making) (it it_too : Result Made RunFault) (w w2 : Made) → m.files_tell → m.disk_tells → m2.files_tell → m2.disk_tells → it ≡ Ok w → it_too ≡ Ok w2 → SaysSame m.audited m2.audited
    → m.host.stands ≡ m2.host.stands → StockSame m.left.files m2.left.files m.audited.lockfile → IsVendorMade more m it → IsVendorMade more m2 it_too → MadeSame w w2 m.host_now m2.host_now
vendored_same more m m2 it it_too w w2 f d f2 d_too is is_too said host stock h k =
    let A : Result Made RunFault → Type 0 = λ r. IsVendorMade more m r in
    let B : Result Made RunFault → Type 0 = λ r. IsVendorMade more m2 r in
    let one = vendor_case more m w (subst A is h) in
    let two = vendor_case more m2 w2 (subst B is_too k) in
    let both = made_both (stock_in more m) (stock_in more m2) m.audited.lockfile m2.audited.lockfile more.to (checks_same more m m2 said host stock) host m.host_now m2.host_now
    m.left.disk_faults m.ended.disk_faults m2.left.disk_faults m2.ended.disk_faults one.0 two.0 f d f2 d_too one.2 two.2 in
    record { shown = inr (record { mine = one.0; other = two.0; is = one.1; too = two.1; packages = both.0; bytes = both.1 }); stands = both.2 }

-- so the same is made
pub made_same : (remedy : Remedy) (T D T_too D_too : Type 0) (advisories : List Advisory) (known : Option (List Finding)) (a a2 : Audited) (left ended left_too ended_too : Moment) (host now host_too now_too : Host) (it it_too : Result Made RunFault) (w w2 : Made) → T → D → T_too → D_too
    → IfErr it (λ reason. (None ≡ Some reason) ⊎ (None ≡ Some fault.NoMemory)) → IfErr it_too (λ reason. (None ≡ Some reason) ⊎ (None ≡ Some fault.NoMemory))
    → it ≡ Ok w → it_too ≡ Ok w2 → SaysSame a a2 → host.stands ≡ host_too.stands → ReadsAs remedy left left_too a.lockfile → CountStayed left.disk_faults ended.disk_faults → CountStayed left_too.disk_faults ended_too.disk_faults
    → IsMade remedy (making T D advisories known a left ended host now) it → IsMade remedy (making T_too D_too advisories known a2 left_too ended_too host_too now_too) it_too → MadeSame w w2 now now_too
made_same Report T D T_too D_too advisories known a a2 left ended left_too ended_too host now host_too now_too it it_too w w2 t d t_too d_too none none_too is is_too said same reads_as stayed stayed_too h k =
    let one = h.0 in
    let two = k.0 in
    record { shown = inl (cc (is, is_too, one, two)); stands = unwritten_same T T_too host now host_too now_too t t_too same h.2 k.2 }
made_same (Fix dry_run) T D T_too D_too advisories known a a2 left ended left_too ended_too host now host_too now_too it it_too w w2 t d t_too d_too none none_too is is_too said same reads_as stayed stayed_too h k =
    let one = h.0 in
    let two = k.0 in
    record { shown = inl (cc (is, is_too, one, two)); stands = unwritten_same T T_too host now host_too now_too t t_too same h.2 k.2 }
made_same Plan T D T_too D_too advisories known a a2 left ended left_too ended_too host now host_too now_too it it_too w w2 t d t_too d_too none none_too is is_too said same reads_as stayed stayed_too h k =
    record {
      shown = inl (planned_same (making T D advisories known a left ended host now) (making T_too D_too advisories known a2 left_too ended_too host_too now_too) it it_too w w2 d d_too is is_too refl said reads_as stayed stayed_too h.0 k.0);
      stands = unwritten_same T T_too host now host_too now_too t t_too same h.2 k.2;
    }
made_same (Baseline path) T D T_too D_too advisories known a a2 left ended left_too ended_too host now host_too now_too it it_too w w2 t d t_too d_too none none_too is is_too said same reads_as stayed stayed_too h k =
    let one = gate_case (making T D advisories known a left ended host now) it none h.0 in
    let two = gate_case (making T_too D_too advisories known a2 left_too ended_too host_too now_too) it_too none_too k.0 in
    let found = gate_same advisories known a a2 said in
    record { shown = inl (cc (is, is_too, one, two, found)); stands = unwritten_same T T_too host now host_too now_too t t_too same h.2 k.2 }
made_same (WriteBaseline path) T D T_too D_too advisories known a a2 left ended left_too ended_too host now host_too now_too it it_too w w2 t d t_too d_too none none_too is is_too said same reads_as stayed stayed_too h k =
    let one = file_case path it none h.0 in
    let two = file_case path it_too none_too k.0 in
    let F : Audited → (List ℕ → Standing) → List ℕ → Standing = λ x stands. with_standing path (File (written (listed (audit_findings advisories x)))) stands in
    record {
      shown = inl (cc (is, is_too, one, two));
      stands = file_stands path (making T D advisories known a left ended host now) it t one h.2
          ∙ ap (λ (x : Audited). F x host.stands) (same_but_turns a a2 said) ∙ ap (λ (s : List ℕ → Standing). F a2 s) same
          ∙ sym (file_stands path (making T_too D_too advisories known a2 left_too ended_too host_too now_too) it_too t_too two k.2);
    }
made_same (Vendor more) T D T_too D_too advisories known a a2 left ended left_too ended_too host now host_too now_too it it_too w w2 t d t_too d_too none none_too is is_too said same reads_as stayed stayed_too h k =
    vendored_same more (making T D advisories known a left ended host now) (making T_too D_too advisories known a2 left_too ended_too host_too now_too) it it_too w w2 t d t_too d_too is is_too said same reads_as h.0 k.0

-- ---- no registry could be made

no_gate : {X : Type 0} (m : Making) (e : VendorFault) → IsGateMade m (Err (fault.Vendor e)) → X
no_gate m e h = absurd h

-- of the same, for the same reason
pub unmade_same : (remedy : Remedy) (T D T_too D_too : Type 0) (advisories : List Advisory) (known : Option (List Finding)) (a a2 : Audited) (left ended left_too ended_too : Moment) (host now host_too now_too : Host) (e g : VendorFault) → T → D → T_too → D_too
    → IsTrue (is_said e) → IsTrue (is_said g) → SaysSame a a2 → host.stands ≡ host_too.stands → ReadsAs remedy left left_too a.lockfile
    → IsMade remedy (making T D advisories known a left ended host now) (Err (fault.Vendor e)) → IsMade remedy (making T_too D_too advisories known a2 left_too ended_too host_too now_too) (Err (fault.Vendor g))
    → (vendor_words e ≡ vendor_words g) × (now.stands ≡ now_too.stands)
unmade_same Report T D T_too D_too advisories known a a2 left ended left_too ended_too host now host_too now_too e g t d t_too d_too agreed agreed_too said same reads_as h k = let no = h.0 in cc (no)
unmade_same (Fix dry_run) T D T_too D_too advisories known a a2 left ended left_too ended_too host now host_too now_too e g t d t_too d_too agreed agreed_too said same reads_as h k = let no = h.0 in cc (no)
unmade_same Plan T D T_too D_too advisories known a a2 left ended left_too ended_too host now host_too now_too e g t d t_too d_too agreed agreed_too said same reads_as h k = absurd h.0
unmade_same (Baseline path) T D T_too D_too advisories known a a2 left ended left_too ended_too host now host_too now_too e g t d t_too d_too agreed agreed_too said same reads_as h k = absurd h.0
unmade_same (WriteBaseline path) T D T_too D_too advisories known a a2 left ended left_too ended_too host now host_too now_too e g t d t_too d_too agreed agreed_too said same reads_as h k = absurd h.0
unmade_same (Vendor more) T D T_too D_too advisories known a a2 left ended left_too ended_too host now host_too now_too e g t d t_too d_too agreed agreed_too said same reads_as h k =
    let m = making T D advisories known a left ended host now in
    let m2 = making T_too D_too advisories known a2 left_too ended_too host_too now_too in
    refused_same (stock_in more m) (stock_in more m2) a.lockfile a2.lockfile more.to (checks_same more m m2 said same reads_as) same now now_too left.disk_faults ended.disk_faults left_too.disk_faults ended_too.disk_faults
    e g t d t_too d_too agreed agreed_too h.0.1 k.0.1

-- and not if one was made
pub made_unmade : {X : Type 0} (remedy : Remedy) (T D T_too D_too : Type 0) (advisories : List Advisory) (known : Option (List Finding)) (a a2 : Audited) (left ended left_too ended_too : Moment) (host now host_too now_too : Host) (w : Made) (g : VendorFault) → T → D → T_too → D_too
    → IsTrue (is_said g) → SaysSame a a2 → host.stands ≡ host_too.stands → ReadsAs remedy left left_too a.lockfile
    → IsMade remedy (making T D advisories known a left ended host now) (Ok w) → IsMade remedy (making T_too D_too advisories known a2 left_too ended_too host_too now_too) (Err (fault.Vendor g)) → X
made_unmade Report T D T_too D_too advisories known a a2 left ended left_too ended_too host now host_too now_too w g t d t_too d_too agreed said same reads_as h k = let no = k.0 in cc (no)
made_unmade (Fix dry_run) T D T_too D_too advisories known a a2 left ended left_too ended_too host now host_too now_too w g t d t_too d_too agreed said same reads_as h k = let no = k.0 in cc (no)
made_unmade Plan T D T_too D_too advisories known a a2 left ended left_too ended_too host now host_too now_too w g t d t_too d_too agreed said same reads_as h k = absurd k.0
made_unmade (Baseline path) T D T_too D_too advisories known a a2 left ended left_too ended_too host now host_too now_too w g t d t_too d_too agreed said same reads_as h k = absurd k.0
made_unmade (WriteBaseline path) T D T_too D_too advisories known a a2 left ended left_too ended_too host now host_too now_too w g t d t_too d_too agreed said same reads_as h k = absurd k.0
made_unmade (Vendor more) T D T_too D_too advisories known a a2 left ended left_too ended_too host now host_too now_too w g t d t_too d_too agreed said same reads_as h k =
    let m = making T D advisories known a left ended host now in
    let m2 = making T_too D_too advisories known a2 left_too ended_too host_too now_too in
    let one = vendor_case more m w h.0 in
    absurd (made_refused (stock_in more m) (stock_in more m2) a.lockfile a2.lockfile more.to (checks_same more m m2 said same reads_as) same now now_too left.disk_faults ended.disk_faults left_too.disk_faults ended_too.disk_faults
    one.0 g t d t_too d_too agreed one.2 k.0.1)

-- the other way round
pub reads_back : (remedy : Remedy) (left left_too : Moment) (packages packages_too : List Package) → packages ≡ packages_too → ReadsAs remedy left left_too packages → ReadsAs remedy left_too left packages_too
reads_back Plan left left_too packages packages_too same h = subst (λ (ps : List Package). StockSame left_too.files left.files ps) same (λ place p at default q named. sym (h place p at default q named))
reads_back (Vendor more) left left_too packages packages_too same h = subst (λ (ps : List Package). StockSame left_too.files left.files ps) same (λ place p at default q named. sym (h place p at default q named))
reads_back Report left left_too packages packages_too same h = tt
reads_back (Fix dry_run) left left_too packages packages_too same h = tt
reads_back (Baseline path) left left_too packages packages_too same h = tt
reads_back (WriteBaseline path) left left_too packages packages_too same h = tt

pub said_back : (a b : Audited) → SaysSame a b → SaysSame b a
said_back a b h = record { lockfile = sym h.lockfile; verdicts = sym h.verdicts; report = sym h.report; exit = sym h.exit }
