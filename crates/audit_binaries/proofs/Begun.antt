-- One binary: what was done of it.
use Rattle.std.proofs.Common.{◌≡◌, inl, inr, ℕ, List, Result, Ok, Err, refl}
use Rattle.audit_lock.specs.Locked.{locked}
use Rattle.audit_lock.specs.declared.lockfiles.LockfileFault.{LockfileFault}
use Rattle.audit_lock.specs.declared.resolving.Package.{Package}
use Rattle.audit_binaries.specs.Binaries.{IsBegun, IsPart, IsUncalled, Outside, Says, Scan, Tells}
use Rattle.audit_binaries.specs.declared.opening.FoundText.{FoundText}

-- what a binary says is no lockfile, and nothing was called; or it is one, and was audited in part
pub begun_by : (tells : Tells) (scan : Scan) (began ended : Outside) (path : List ℕ) (said : FoundText) → Says tells scan path said
    → ((f : LockfileFault) → locked said.text ≡ Err f → IsUncalled began ended)
    → ((packages : List Package) → locked said.text ≡ Ok packages → IsPart tells scan began ended packages)
    → IsBegun tells scan began ended path
begun_by tells scan began ended path said says uncalled part = go (locked said.text) refl
  where
    go : (r : Result (List Package) LockfileFault) → locked said.text ≡ r → IsBegun tells scan began ended path
    go (Ok packages) is = inr (said, packages, says, is, part packages is)
    go (Err f) is = inl (uncalled f is)
