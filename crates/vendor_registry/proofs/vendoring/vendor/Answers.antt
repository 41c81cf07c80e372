use Rattle.std.proofs.Common.{◌≡◌, List, Ok, Err, rules, arith, inl, inr, sym, ap, ◌∙◌, subst}
use Rattle.std.proofs.lemmas.Grind.{common_steps}
use Rattle.tame_names.specs.Standing.{Host}
use Rattle.tame_local.specs.Builders.{AreBegun, after, after_change, created}
use Rattle.tame_local.specs.Inserts.{StandsPlain}
use Rattle.vendor_registry.specs.declared.faults.VendorFault.{VendorFault}
use Rattle.vendor_registry.specs.declared.faults.VendorFault.TheVariants as fault
use Rattle.audit_lock.specs.declared.resolving.Package.{Package}
use Rattle.vendor_registry.specs.Built.{AreFilled, IsOccupied, IsReadBack, IsTaken, all_made, free_fault}
use Rattle.vendor_registry.specs.Checks.{IsStopped, Stock, all_checked, stock_of}
use Rattle.vendor_registry.specs.Looked.{looked}
use Rattle.vendor_registry.specs.declared.checks.CheckedCrate.{CheckedCrate}
use Rattle.vendor_registry.specs.Vendored.{paths_of}
use Rattle.vendor_registry.proofs.Whole.{by_build, checked_pathed, is_vendored, no_read_back, numbers_of, occupied_before, one_checked, outside_unwritten}
use Rattle.vendor_registry.proofs.vendoring.vendor.Goals as goal

pub returns-clause-answered : goal.returns-clause-answered
returns-clause-answered g c =
    let stock : Stock = stock_of (g.D.CacheDisk.past c.args.disk.now) c.args.index.now (g.F.Files.host c.args.files.now) c.args.crates.now in
    let cs : List CheckedCrate = c.in_ok-checked.checked in
    record {
      vendored = λ told_f told_d plain.
          let checks : all_checked stock (looked c.args.audited.now.lockfile) ≡ Ok cs =
          ap (λ ps. all_checked stock (looked ps)) (sym c.packages-packages.ensures) ∙ c.in_ok-checked.ensures.ok told_f told_d in
          let pathed = checked_pathed stock c.args.audited.now.lockfile cs checks in
          is_vendored stock c.args.audited.now.lockfile c.args.to (g.F.Files.host c.build.new.files) _ cs checks c.in_ok-checked.ensures.texts plain
          (c.in_ok-built.ensures.made told_f pathed ∙ ap (after (all_made c.args.to cs)) (c.in_ok-checked.ensures.files_same told_f))
          (c.in_ok-built.ensures.opened told_f) c.len-count.ensures (c.in_ok-built.ensures.count pathed);
      free = λ told_f.
          ap (λ (h : Host). free_fault (h.stands c.args.to)) (sym (c.in_ok-checked.ensures.files_same told_f)) ∙ c.in_ok-built.ensures.free told_f;
      built = λ told_f told_d.
          let checks : all_checked stock (looked c.args.audited.now.lockfile) ≡ Ok cs =
          ap (λ ps. all_checked stock (looked ps)) (sym c.packages-packages.ensures) ∙ c.in_ok-checked.ensures.ok told_f told_d in
          let pathed = checked_pathed stock c.args.audited.now.lockfile cs checks in
          (cs, checks, c.in_ok-built.ensures.made told_f pathed ∙ ap (after (all_made c.args.to cs)) (c.in_ok-checked.ensures.files_same told_f));
      filled = λ told_f told_d others are.
          let checks : all_checked stock (looked c.args.audited.now.lockfile) ≡ Ok cs =
          ap (λ ps. all_checked stock (looked ps)) (sym c.packages-packages.ensures) ∙ c.in_ok-checked.ensures.ok told_f told_d in
          let pathed = checked_pathed stock c.args.audited.now.lockfile cs checks in
          subst (λ (ds : List CheckedCrate). AreFilled c.args.to ds (paths_of ds) (after_change (created c.args.to) (g.F.Files.host c.args.files.now))) (one_checked _ cs others checks are)
          (subst (λ (h : Host). AreFilled c.args.to cs (paths_of cs) (after_change (created c.args.to) h)) (c.in_ok-checked.ensures.files_same told_f)
          (c.in_ok-built.ensures.filled told_f pathed));
      opened = λ told_f. c.in_ok-built.ensures.opened told_f;
      counted = λ told_f told_d others are.
          let checks : all_checked stock (looked c.args.audited.now.lockfile) ≡ Ok cs =
          ap (λ ps. all_checked stock (looked ps)) (sym c.packages-packages.ensures) ∙ c.in_ok-checked.ensures.ok told_f told_d in
          let pathed = checked_pathed stock c.args.audited.now.lockfile cs checks in
          numbers_of c.args.to _ _ cs others (one_checked _ cs others checks are) c.len-count.ensures (c.in_ok-built.ensures.count pathed);
    }

pub returns-in_err-checked-clause-answered : goal.returns-in_err-checked-clause-answered
returns-in_err-checked-clause-answered g c =
    let stock : Stock = stock_of (g.D.CacheDisk.past c.args.disk.now) c.args.index.now (g.F.Files.host c.args.files.now) c.args.crates.now in
    let e : VendorFault = c.in_err-checked.field-0.0 in
    let failed : c.from_residual.result ≡ Err e = first_of (search rules, grind (arith, common_steps)) in
    rw failed record {
      refused = search rules;
      unwritten = search rules;
      unread = λ told_f at is outside. c.in_err-checked.ensures.files_same told_f;
      store = search rules;
      stopped = λ told_f told_d. inl (subst (λ (ps : List Package). IsStopped stock (looked ps) e) c.packages-packages.ensures (c.in_err-checked.ensures.stopped told_f told_d));
      behind = search rules;
      occupied = search rules;
      unmade = search rules;
      taken = search rules;
      not_empty = search rules;
      begun = λ told_f told_d. inl (c.in_err-checked.ensures.files_same told_f);
      read_back = search rules;
      agrees = search rules;
    }

pub returns-in_err-built-clause-answered : goal.returns-in_err-built-clause-answered
returns-in_err-built-clause-answered g c =
    let stock : Stock = stock_of (g.D.CacheDisk.past c.args.disk.now) c.args.index.now (g.F.Files.host c.args.files.now) c.args.crates.now in
    let cs : List CheckedCrate = c.in_ok-checked.checked in
    let e : VendorFault = c.in_err-built.field-0.0 in
    let failed : c.from_residual-in_err-built.result ≡ Err e = first_of (search rules, grind (arith, common_steps)) in
    let before : Host = g.F.Files.host c.args.files.now in
    let mid : Host = g.F.Files.host c.check_packages.new.files in
    rw failed record {
      refused = search rules;
      unwritten = search rules;
      unread = λ told_f at is outside. outside_unwritten c.args.to at e _ (c.in_err-built.ensures.within told_f) is outside;
      store = search rules;
      stopped = λ told_f told_d.
          let checks : all_checked stock (looked c.args.audited.now.lockfile) ≡ Ok cs =
          ap (λ ps. all_checked stock (looked ps)) (sym c.packages-packages.ensures) ∙ c.in_ok-checked.ensures.ok told_f told_d in
          by_build stock c.args.audited.now.lockfile c.args.to e c.in_err-built.ensures.only (c.in_err-built.ensures.within told_f) checks;
      behind = search rules;
      occupied = λ told_f. subst (λ (h : Host). IsOccupied (h.stands c.args.to) e) (c.in_ok-checked.ensures.files_same told_f) (c.in_err-built.ensures.occupied told_f);
      unmade = λ told_f free.
          c.in_err-built.ensures.unmade told_f (ap (λ (h : Host). free_fault (h.stands c.args.to)) (c.in_ok-checked.ensures.files_same told_f) ∙ free) ∙ c.in_ok-checked.ensures.files_same told_f;
      taken = λ told_f told_d n is free.
          let checks : all_checked stock (looked c.args.audited.now.lockfile) ≡ Ok cs =
          ap (λ ps. all_checked stock (looked ps)) (sym c.packages-packages.ensures) ∙ c.in_ok-checked.ensures.ok told_f told_d in
          let pathed = checked_pathed stock c.args.audited.now.lockfile cs checks in
          let stays : mid ≡ before = c.in_ok-checked.ensures.files_same told_f in (
            cs,
            checks,
            subst (λ (h : Host). IsTaken c.args.to cs (paths_of cs) (after_change (created c.args.to) h) (g.F.Files.host c.build.new.files)) stays
                (c.in_err-built.ensures.taken told_f pathed n (ap Err is) (ap (λ (h : Host). free_fault (h.stands c.args.to)) stays ∙ free)),
          );
      not_empty = λ told_f told_d bare n is.
          let checks : all_checked stock (looked c.args.audited.now.lockfile) ≡ Ok cs =
          ap (λ ps. all_checked stock (looked ps)) (sym c.packages-packages.ensures) ∙ c.in_ok-checked.ensures.ok told_f told_d in
          let pathed = checked_pathed stock c.args.audited.now.lockfile cs checks in
          let texts = c.in_ok-checked.ensures.texts in
          let stays : mid ≡ before = c.in_ok-checked.ensures.files_same told_f in
          let occupied : IsOccupied (mid.stands c.args.to) (fault.NotEmpty n) = subst (IsOccupied (mid.stands c.args.to)) is (c.in_err-built.ensures.occupied told_f) in
          occupied_before stock c.args.audited.now.lockfile c.args.to cs before (g.F.Files.host c.build.new.files) n checks texts bare
          (subst (λ (h : Host). IsOccupied (h.stands c.args.to) (fault.NotEmpty n)) stays occupied)
          (λ free. subst (λ (h : Host). IsTaken c.args.to cs (paths_of cs) (after_change (created c.args.to) h) (g.F.Files.host c.build.new.files)) stays
          (c.in_err-built.ensures.taken told_f pathed n (ap Err is) (ap (λ (h : Host). free_fault (h.stands c.args.to)) stays ∙ free)));
      begun = λ told_f told_d.
          let checks : all_checked stock (looked c.args.audited.now.lockfile) ≡ Ok cs =
          ap (λ ps. all_checked stock (looked ps)) (sym c.packages-packages.ensures) ∙ c.in_ok-checked.ensures.ok told_f told_d in
          let pathed = checked_pathed stock c.args.audited.now.lockfile cs checks in
          let stays : mid ≡ before = c.in_ok-checked.ensures.files_same told_f in
          inr (cs, checks, subst (λ (h : Host). AreBegun (all_made c.args.to cs) h (g.F.Files.host c.build.new.files)) stays (c.in_err-built.ensures.begun told_f pathed));
      read_back = λ told_f why is. (
        cs,
        (λ told_d. ap (λ ps. all_checked stock (looked ps)) (sym c.packages-packages.ensures) ∙ c.in_ok-checked.ensures.ok told_f told_d),
        subst (λ (h : Host). IsReadBack c.args.to cs h (g.F.Files.host c.build.new.files) why) (c.in_ok-checked.ensures.files_same told_f)
            (c.in_err-built.ensures.read_back told_f why (ap Err is)),
      );
      agrees = λ told_f told_d plain place versioned why is.
          let checks : all_checked stock (looked c.args.audited.now.lockfile) ≡ Ok cs =
          ap (λ ps. all_checked stock (looked ps)) (sym c.packages-packages.ensures) ∙ c.in_ok-checked.ensures.ok told_f told_d in
          let stays : mid ≡ before = c.in_ok-checked.ensures.files_same told_f in
          no_read_back stock c.args.audited.now.lockfile c.args.to cs mid (g.F.Files.host c.build.new.files) why checks c.in_ok-checked.ensures.texts
          (subst (λ (h : Host). StandsPlain h.stands) (sym stays) plain) place versioned (c.in_err-built.ensures.read_back told_f why (ap Err is));
    }
