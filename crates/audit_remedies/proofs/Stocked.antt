-- What a registry is created of, by the index that audits ask.
use Rattle.std.proofs.Common.{◌≡◌, inl, ℕ, List, [], Result, ap, subst, ◌∙◌}
use Rattle.tame_names.specs.Standing.{Host}
use Rattle.tame_cache.specs.Disk as disk
use Rattle.tame_cache.specs.Kept.{Disk}
use Rattle.tame_sparse.specs.Exchanges.{crates_io_index}
use Rattle.tame_sparse.specs.declared.sparse.SparseIndex.{SparseIndex}
use Rattle.audit_lock.specs.declared.resolving.Package.{Package}
use Rattle.vendor_registry.specs.declared.faults.VendorFault.{VendorFault}
use Rattle.vendor_registry.specs.declared.faults.VendorFault.TheVariants as fault
use Rattle.vendor_registry.specs.declared.vendoring.Vendored.{Vendored}
use Rattle.vendor_registry.specs.Checks.{Stock, stock_of}
use Rattle.vendor_registry.specs.Vendoring.{IsRegistryRefused, IsVendorAnswer, Vendoring, vendoring}
use Rattle.audit_remedies.specs.Makings.{crates_io_stock}

pub stock_same : (past : Disk) (index : SparseIndex) (host : Host) (crates : List ℕ) → index.cache.path ≡ [] → index.cache.index ≡ crates_io_index
    → stock_of past index host crates ≡ crates_io_stock past host crates
stock_same past index host crates root url =
    let stock : List ℕ → List ℕ → Stock = λ r u. record { files = λ q. disk.reads (past q); root = r; url = u; host = host; crates = crates } in
    ap (λ (r : List ℕ). stock r index.cache.index) root ∙ ap (λ (u : List ℕ). stock [] u) url

-- what was answered of it
pub answered_same : (f d : Type 0) (r : Result Vendored VendorFault) (one other : Stock) (packages : List Package) (folder to : List ℕ) (now : Host) (faults faults_now : ℕ) → one ≡ other → folder ≡ to
    → IsVendorAnswer (vendoring f d one packages folder now faults faults_now) r → IsVendorAnswer (vendoring f d other packages to now faults faults_now) r
answered_same f d r one other packages folder to now faults faults_now stocks folders h =
    let P : Stock → Type 0 = λ s. IsVendorAnswer (vendoring f d s packages folder now faults faults_now) r in
    let Q : List ℕ → Type 0 = λ x. IsVendorAnswer (vendoring f d other packages x now faults faults_now) r in
    subst Q folders (subst P stocks h)

-- if it is out of memory at once
pub memory_refused : (v : Vendoring) → v.now ≡ v.stock.host → IsRegistryRefused v fault.NoMemory
memory_refused v same = record {
  refused = λ told told_disk no. cc (no);
  unwritten = λ told no. same;
  unread = λ told at is outside. cc (is);
  store = λ at is. cc (is);
  stopped = λ told told_disk. inl tt;
  behind = λ told told_disk no. cc (no);
  occupied = λ told. tt;
  unmade = λ told is. same;
  taken = λ told told_disk n is. cc (is);
  not_empty = λ told told_disk bare n is. cc (is);
  begun = λ told told_disk. inl same;
  read_back = λ told why is. cc (is);
  agrees = λ told told_disk plain folder versioned why is. cc (is);
}
