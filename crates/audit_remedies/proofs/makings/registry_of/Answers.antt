use Rattle.std.proofs.Common.{◌≡◌, ℕ, List, Err, refl, rules, arith, ap, ◌∙◌}
use Rattle.std.proofs.lemmas.Grind.{common_steps}
use Rattle.vendor_registry.specs.Checks.{stock_of}
use Rattle.vendor_registry.specs.declared.faults.VendorFault.TheVariants as fault
use Rattle.audit_remedies.specs.Makings.{crates_io_stock}
use Rattle.audit_remedies.proofs.Stocked.{answered_same, memory_refused, stock_same}
use Rattle.audit_remedies.proofs.makings.registry_of.Goals as goal

pub returns-in_err-index-clause-answered : goal.returns-in_err-index-clause-answered
returns-in_err-index-clause-answered g c =
    let is : c.from_residual.result ≡ Err fault.NoMemory = first_of (search rules, grind (arith, common_steps)) in
    rw is (memory_refused _ refl)

pub returns-in_err-to-clause-answered : goal.returns-in_err-to-clause-answered
returns-in_err-to-clause-answered g c =
    let is : c.from_residual-in_err-to.result ≡ Err fault.NoMemory = first_of (search rules, grind (arith, common_steps)) in
    rw is (memory_refused _ refl)

pub returns-clause-answered : goal.returns-clause-answered
returns-clause-answered g c =
    let past = g.D.CacheDisk.past c.args.disk.now in
    let host = g.F.Files.host c.args.files.now in
    let index = c.in_ok-index.index in
    answered_same _ _ c.vendor.result (stock_of past index host c.as_str.result.now) (crates_io_stock past host c.args.more.now.crates) c.args.audited.now.lockfile c.in_ok-to.to c.args.more.now.to
    (g.F.Files.host c.vendor.new.files) _ _
    (stock_same past index host c.as_str.result.now c.in_ok-index.ensures.root c.in_ok-index.ensures.url ∙ ap (λ (x : List ℕ). crates_io_stock past host x) c.as_str.ensures)
    c.in_ok-to.ensures c.vendor.ensures.answered
