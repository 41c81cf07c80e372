use Rattle.std.proofs.Common.{◌≡◌, ◌-◌, ◌^◌, min, List, sym, ap, ◌∙◌, subst}
use Rattle.tame_local.specs.Builders.{AreBegun, after, size_of}
use Rattle.vendor_registry.specs.Built.{IsFilled, IsTakenAt, path_made}
use Rattle.vendor_registry.specs.Named.{ArePathed}
use Rattle.vendor_registry.specs.Vendored.{on}
use Rattle.vendor_registry.specs.declared.checks.CheckedCrate.{CheckedCrate}
use Rattle.vendor_registry.proofs.Groups.{if_ok, on_err, on_ok, on_twice, pathed_on}
use Rattle.vendor_registry.proofs.building.insert_group.Goals as goal

pub returns-clause-made : goal.returns-clause-made
returns-clause-made g c = λ told cs groups pathed.
    let q = c.args.path.now in
    let group : List CheckedCrate = c.group_on.result.now in
    let is : group ≡ on q cs = c.group_on.ensures ∙ groups q in
    let same : on q group ≡ on q cs = ap (on q) is ∙ on_twice q cs in
    on_ok c.insert_path.result (λ made. made ∙ ap (λ (xs : List CheckedCrate). after (path_made c.args.builder.now.path q xs) (g.F.Files.host c.args.files.now)) same)
    (c.insert_path.ensures.made told (subst ArePathed (sym is) (pathed_on q cs pathed)))

pub returns-clause-begun : goal.returns-clause-begun
returns-clause-begun g c = λ told cs groups pathed.
    let q = c.args.path.now in
    let group : List CheckedCrate = c.group_on.result.now in
    let is : group ≡ on q cs = c.group_on.ensures ∙ groups q in
    let same : on q group ≡ on q cs = ap (on q) is ∙ on_twice q cs in
    on_err c.insert_path.result
    (λ begun. subst (λ (xs : List CheckedCrate). AreBegun (path_made c.args.builder.now.path q xs) (g.F.Files.host c.args.files.now) (g.F.Files.host c.insert_path.new.files)) same begun)
    (c.insert_path.ensures.begun told (subst ArePathed (sym is) (pathed_on q cs pathed)))

pub returns-clause-filled : goal.returns-clause-filled
returns-clause-filled g c = λ told cs groups pathed.
    let q = c.args.path.now in
    let group : List CheckedCrate = c.group_on.result.now in
    let is : group ≡ on q cs = c.group_on.ensures ∙ groups q in
    let same : on q group ≡ on q cs = ap (on q) is ∙ on_twice q cs in
    on_ok c.insert_path.result (λ filled. subst (λ (xs : List CheckedCrate). IsFilled c.args.builder.now.path q xs (g.F.Files.host c.args.files.now)) same filled)
    (c.insert_path.ensures.filled told (subst ArePathed (sym is) (pathed_on q cs pathed)))

pub returns-clause-count : goal.returns-clause-count
returns-clause-count g c = λ cs groups pathed.
    let q = c.args.path.now in
    let group : List CheckedCrate = c.group_on.result.now in
    let is : group ≡ on q cs = c.group_on.ensures ∙ groups q in
    let same : on q group ≡ on q cs = ap (on q) is ∙ on_twice q cs in
    if_ok c.insert_path.result (λ n count. count ∙ ap (λ (xs : List CheckedCrate). min (size_of (path_made c.args.builder.now.path q xs)) (2 ^ 64 - 1)) same)
    (c.insert_path.ensures.count (subst ArePathed (sym is) (pathed_on q cs pathed)))

pub returns-clause-taken : goal.returns-clause-taken
returns-clause-taken g c = λ told cs groups pathed n is.
    let q = c.args.path.now in
    let group : List CheckedCrate = c.group_on.result.now in
    let are : group ≡ on q cs = c.group_on.ensures ∙ groups q in
    let same : on q group ≡ on q cs = ap (on q) are ∙ on_twice q cs in
    subst (λ (xs : List CheckedCrate). IsTakenAt c.args.builder.now.path q xs (g.F.Files.host c.args.files.now)) same
    (c.insert_path.ensures.taken told (subst ArePathed (sym are) (pathed_on q cs pathed)) n is)
