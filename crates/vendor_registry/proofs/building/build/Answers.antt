use Rattle.std.proofs.Common.{subst, ◌≡◌, ◌∙◌, ◌++◌, [], ◌∷◌, ℕ, List, rules, arith, sym, ap, Err, true}
use Rattle.std.proofs.lemmas.Grind.{common_steps}
use Rattle.tame_names.specs.Standing.{Host}
use Rattle.tame_names.specs.declared.errors.Error.TheVariants as error
use Rattle.tame_names.specs.declared.errors.IoKind.TheVariants as io_kind
use Rattle.tame_names.specs.declared.host.FailedCall.{FailedCall}
use Rattle.tame_local.specs.Builders.{after}
use Rattle.tame_local.specs.Calls.{IsRegistryCall}
use Rattle.tame_local.proofs.CallsFor.{registry_for}
use Rattle.vendor_registry.specs.declared.faults.VendorFault.TheVariants as fault
use Rattle.vendor_registry.specs.Built.{paths_made}
use Rattle.vendor_registry.specs.Vendored.{paths_of}
use Rattle.vendor_registry.specs.declared.checks.CheckedCrate.{CheckedCrate}
use Rattle.vendor_registry.proofs.Begun.{created_begun, on_err, whole_begun}
use Rattle.vendor_registry.specs.Failed.{IsWithin}
use Rattle.vendor_registry.proofs.Told.{told_for, told_so}
use Rattle.vendor_registry.proofs.Within.{registry_within}
use Rattle.vendor_registry.proofs.building.build.Goals as goal

pub returns-in_err-builder-clause-taken : goal.returns-in_err-builder-clause-taken
returns-in_err-builder-clause-taken g c = λ told pathed n is free.
    let same : c.from_residual.result ≡ Err c.in_err-builder.field-0.0 = first_of (search rules, grind (arith, common_steps)) in
    let both = sym same ∙ is in
    let one : c.in_err-builder.field-0.0 ≡ fault.NotEmpty n = cc in
    let some = c.in_err-builder.ensures.not_empty told n (ap Err one) in
    cc

pub returns-in_err-paths-clause-begun : goal.returns-in_err-paths-clause-begun
returns-in_err-paths-clause-begun g c = λ told pathed.
    on_err _ _ (created_begun c.args.to c.args.checked (g.F.Files.host c.args.files.now) _ (c.in_ok-builder.ensures.made told))

pub returns-in_err-groups-clause-begun : goal.returns-in_err-groups-clause-begun
returns-in_err-groups-clause-begun g c = λ told pathed.
    on_err _ _ (created_begun c.args.to c.args.checked (g.F.Files.host c.args.files.now) _ (c.in_ok-builder.ensures.made told))

pub returns-in-Err-IoPath-Failed-default-clause-begun : goal.returns-in-Err-IoPath-Failed-default-clause-begun
returns-in-Err-IoPath-Failed-default-clause-begun g c = λ told pathed.
    let to : List ℕ = c.args.to in
    let cs : List CheckedCrate = c.args.checked in
    let old : Host = g.F.Files.host c.args.files.now in
    let mid : Host = g.F.Files.host c.begin.new.files in
    let paths = c.as_slice-2.ensures ∙ c.in_ok-paths.ensures ∙ ap (λ (xs : List CheckedCrate). paths_of xs) c.as_slice.ensures in
    whole_begun to cs old (g.F.Files.host c.finalize.new.files)
    (c.in-Err-IoPath-Failed-default.ensures.same told ∙ c.in_ok-bytes.ensures.made told cs c.in_ok-groups.ensures pathed
    ∙ ap (λ (f : List ℕ). after (paths_made f cs c.as_slice-2.result.now) mid) c.in_ok-builder.ensures.path
    ∙ ap (λ (ps : List (List ℕ)). after (paths_made to cs ps) mid) paths
    ∙ ap (after (paths_made to cs (paths_of cs))) (c.in_ok-builder.ensures.made told))

pub returns-in-Err-NoMemory-clause-begun : goal.returns-in-Err-NoMemory-clause-begun
returns-in-Err-NoMemory-clause-begun g c = λ told pathed.
    let to : List ℕ = c.args.to in
    let cs : List CheckedCrate = c.args.checked in
    let old : Host = g.F.Files.host c.args.files.now in
    let mid : Host = g.F.Files.host c.begin.new.files in
    let paths = c.as_slice-2.ensures ∙ c.in_ok-paths.ensures ∙ ap (λ (xs : List CheckedCrate). paths_of xs) c.as_slice.ensures in
    whole_begun to cs old (g.F.Files.host c.finalize.new.files)
    (c.in-Err-NoMemory.ensures.same told ∙ c.in_ok-bytes.ensures.made told cs c.in_ok-groups.ensures pathed
    ∙ ap (λ (f : List ℕ). after (paths_made f cs c.as_slice-2.result.now) mid) c.in_ok-builder.ensures.path
    ∙ ap (λ (ps : List (List ℕ)). after (paths_made to cs ps) mid) paths
    ∙ ap (after (paths_made to cs (paths_of cs))) (c.in_ok-builder.ensures.made told))

pub returns-clause-begun : goal.returns-clause-begun
returns-clause-begun g c = λ told pathed.
    let to : List ℕ = c.args.to in
    let cs : List CheckedCrate = c.args.checked in
    let old : Host = g.F.Files.host c.args.files.now in
    let mid : Host = g.F.Files.host c.begin.new.files in
    let paths = c.as_slice-2.ensures ∙ c.in_ok-paths.ensures ∙ ap (λ (xs : List CheckedCrate). paths_of xs) c.as_slice.ensures in
    whole_begun to cs old (g.F.Files.host c.finalize.new.files)
    (c.in-Err.ensures.same told ∙ c.in_ok-bytes.ensures.made told cs c.in_ok-groups.ensures pathed
    ∙ ap (λ (f : List ℕ). after (paths_made f cs c.as_slice-2.result.now) mid) c.in_ok-builder.ensures.path
    ∙ ap (λ (ps : List (List ℕ)). after (paths_made to cs ps) mid) paths
    ∙ ap (after (paths_made to cs (paths_of cs))) (c.in_ok-builder.ensures.made told))

pub returns-in-Err-IoPath-Failed-default-clause-failed : goal.returns-in-Err-IoPath-Failed-default-clause-failed
returns-in-Err-IoPath-Failed-default-clause-failed g c = λ told.
    let e = c.in-Err-IoPath-Failed-default in
    let l = e.field-0-is in
    let m = e.field-0-0-is in
    let p = e.path-is in
    let whole : e.field-0 ≡ error.IoPath io_kind.Failed e.path = cc in
    let host = g.F.Files.host c.insert_paths.new.files in
    let before = c.in_ok-bytes.ensures.failed told ∙ c.in_ok-builder.ensures.failed told in
    let h = told_for (IsRegistryCall host c.in_ok-builder.builder.path true) (g.F.Files.failed c.insert_paths.new.files) (g.F.Files.failed c.finalize.new.files) e.field-0 e.path whole
    (λ call is. registry_for host c.in_ok-builder.builder.path true e.path call is) (e.ensures.failed told) in
    (h.0, h.1 ∙ ap (λ (calls : List FailedCall). calls ++ h.0 ∷ []) before, h.2)

pub returns-in-Err-IoPath-Failed-default-clause-within : goal.returns-in-Err-IoPath-Failed-default-clause-within
returns-in-Err-IoPath-Failed-default-clause-within g c = λ told.
    let e = c.in-Err-IoPath-Failed-default in
    let l = e.field-0-is in
    let m = e.field-0-0-is in
    let p = e.path-is in
    let whole : e.field-0 ≡ error.IoPath io_kind.Failed e.path = cc in
    let host = g.F.Files.host c.insert_paths.new.files in
    let folder = c.in_ok-builder.builder.path in
    subst (λ (to : List ℕ). IsWithin to e.path) c.in_ok-builder.ensures.path
    (told_so (IsRegistryCall host folder true) (g.F.Files.failed c.insert_paths.new.files) (g.F.Files.failed c.finalize.new.files) e.field-0 e.path (IsWithin folder e.path) whole
    (λ call is. registry_within folder host true e.path call is) (e.ensures.failed told))
