use Rattle.std.proofs.Common.{◌≡◌, ◌-◌, ◌^◌, min, ℕ, List, sym, ap, ◌∙◌, subst}
use Rattle.tame_names.specs.declared.errors.Error.TheVariants as error
use Rattle.tame_names.specs.declared.errors.IoKind.TheVariants as io_kind
use Rattle.tame_sparse.specs.Git.{first_name}
use Rattle.tame_local.specs.Calls.{IsInsertCall}
use Rattle.tame_local.proofs.CallsFor.{insert_for}
use Rattle.tame_local.specs.Builders.{AreBegun, after, crates_made, insertable, size_of}
use Rattle.vendor_registry.proofs.Inserting.{filled_is, inserted_is, one_entry, taken_is, told_occupied}
use Rattle.vendor_registry.specs.Failed.{IsWithin}
use Rattle.vendor_registry.proofs.Told.{told_for, told_so}
use Rattle.vendor_registry.proofs.Within.{insert_within}
use Rattle.vendor_registry.proofs.building.insert_path.Goals as goal

pub returns-in-Ok-clause-made : goal.returns-in-Ok-clause-made
returns-in-Ok-clause-made g c = λ told pathed.
    let folder : List ℕ = c.args.builder.now.path in
    c.in-Ok.ensures.made told
    ∙ ap (λ changes. after changes (g.F.Files.host c.args.files.now))
    (inserted_is folder c.args.path.now c.args.checked.now c.in_ok-krate.krate.versions c.as_slice.result.now pathed c.in_ok-krate.ensures.records
    (sym c.is_empty.ensures ∙ c.if-is_empty.false) (ap (crates_made folder) c.as_slice.ensures ∙ c.in_ok-krates.ensures folder))

pub returns-in-Ok-clause-count : goal.returns-in-Ok-clause-count
returns-in-Ok-clause-count g c = λ pathed.
    let folder : List ℕ = c.args.builder.now.path in
    c.in-Ok.ensures.count
    ∙ ap (λ changes. min (size_of changes) (2 ^ 64 - 1))
    (inserted_is folder c.args.path.now c.args.checked.now c.in_ok-krate.krate.versions c.as_slice.result.now pathed c.in_ok-krate.ensures.records
    (sym c.is_empty.ensures ∙ c.if-is_empty.false) (ap (crates_made folder) c.as_slice.ensures ∙ c.in_ok-krates.ensures folder))

pub returns-in-Ok-clause-filled : goal.returns-in-Ok-clause-filled
returns-in-Ok-clause-filled g c = λ told pathed.
    filled_is c.args.builder.now.path c.args.path.now c.args.checked.now c.in_ok-krate.krate.versions (g.F.Files.host c.args.files.now) pathed c.in_ok-krate.ensures.records
    c.in_ok-krate.ensures.written (c.in-Ok.ensures.insertable told)

pub returns-in-Err-IoPath-AlreadyExists-default-clause-occupied : goal.returns-in-Err-IoPath-AlreadyExists-default-clause-occupied
returns-in-Err-IoPath-AlreadyExists-default-clause-occupied g c = λ told n is.
    let k = c.in-Err-IoPath-AlreadyExists-default.is in
    let l = c.in-Err-IoPath-AlreadyExists-default.field-0-is in
    let m = c.in-Err-IoPath-AlreadyExists-default.field-0-0-is in
    let o = c.in-Err-IoPath-AlreadyExists-default.count-is in
    let whole : c.in-Err-IoPath-AlreadyExists-default.field-0 ≡ error.IoPath (io_kind.AlreadyExists c.in-Err-IoPath-AlreadyExists-default.count) c.in-Err-IoPath-AlreadyExists-default.field-0-1 = cc in
    let same : c.in-Err-IoPath-AlreadyExists-default.count ≡ n = cc in
    let folder : List ℕ = c.args.builder.now.path in
    let name : List ℕ = first_name c.in_ok-krate.krate.versions in
    let host = g.F.Files.host c.args.files.now in
    sym same ∙ one_entry folder name host c.in-Err-IoPath-AlreadyExists-default.count c.in-Err-IoPath-AlreadyExists-default.field-0-1
    (told_occupied (insertable folder name host) c.in-Err-IoPath-AlreadyExists-default.field-0 c.in-Err-IoPath-AlreadyExists-default.count c.in-Err-IoPath-AlreadyExists-default.field-0-1 whole
    (c.in-Err-IoPath-AlreadyExists-default.ensures.refused told))

pub returns-in-Err-IoPath-AlreadyExists-default-clause-taken : goal.returns-in-Err-IoPath-AlreadyExists-default-clause-taken
returns-in-Err-IoPath-AlreadyExists-default-clause-taken g c = λ told pathed n is.
    let k = c.in-Err-IoPath-AlreadyExists-default.is in
    let l = c.in-Err-IoPath-AlreadyExists-default.field-0-is in
    let m = c.in-Err-IoPath-AlreadyExists-default.field-0-0-is in
    let o = c.in-Err-IoPath-AlreadyExists-default.count-is in
    let whole : c.in-Err-IoPath-AlreadyExists-default.field-0 ≡ error.IoPath (io_kind.AlreadyExists c.in-Err-IoPath-AlreadyExists-default.count) c.in-Err-IoPath-AlreadyExists-default.field-0-1 = cc in
    let folder : List ℕ = c.args.builder.now.path in
    let name : List ℕ = first_name c.in_ok-krate.krate.versions in
    let host = g.F.Files.host c.args.files.now in
    taken_is folder c.args.path.now c.args.checked.now c.in_ok-krate.krate.versions host c.in-Err-IoPath-AlreadyExists-default.count c.in-Err-IoPath-AlreadyExists-default.field-0-1
    pathed c.in_ok-krate.ensures.records (sym c.is_empty.ensures ∙ c.if-is_empty.false)
    (told_occupied (insertable folder name host) c.in-Err-IoPath-AlreadyExists-default.field-0 c.in-Err-IoPath-AlreadyExists-default.count c.in-Err-IoPath-AlreadyExists-default.field-0-1 whole
    (c.in-Err-IoPath-AlreadyExists-default.ensures.refused told))

pub returns-in-Err-IoPath-Failed-default-clause-begun : goal.returns-in-Err-IoPath-Failed-default-clause-begun
returns-in-Err-IoPath-Failed-default-clause-begun g c = λ told pathed.
    let folder : List ℕ = c.args.builder.now.path in
    subst (λ changes. AreBegun changes (g.F.Files.host c.args.files.now) (g.F.Files.host c.insert.new.files))
    (inserted_is folder c.args.path.now c.args.checked.now c.in_ok-krate.krate.versions c.as_slice.result.now pathed c.in_ok-krate.ensures.records
    (sym c.is_empty.ensures ∙ c.if-is_empty.false) (ap (crates_made folder) c.as_slice.ensures ∙ c.in_ok-krates.ensures folder))
    (c.in-Err-IoPath-Failed-default.ensures.made told)

pub returns-clause-begun : goal.returns-clause-begun
returns-clause-begun g c = λ told pathed.
    let folder : List ℕ = c.args.builder.now.path in
    subst (λ changes. AreBegun changes (g.F.Files.host c.args.files.now) (g.F.Files.host c.insert.new.files))
    (inserted_is folder c.args.path.now c.args.checked.now c.in_ok-krate.krate.versions c.as_slice.result.now pathed c.in_ok-krate.ensures.records
    (sym c.is_empty.ensures ∙ c.if-is_empty.false) (ap (crates_made folder) c.as_slice.ensures ∙ c.in_ok-krates.ensures folder))
    (c.in-Err.ensures.made told)

pub returns-in-Err-IoPath-Failed-default-clause-failed : goal.returns-in-Err-IoPath-Failed-default-clause-failed
returns-in-Err-IoPath-Failed-default-clause-failed g c = λ told.
    let e = c.in-Err-IoPath-Failed-default in
    let l = e.field-0-is in
    let m = e.field-0-0-is in
    let p = e.path-is in
    let whole : e.field-0 ≡ error.IoPath io_kind.Failed e.path = cc in
    let host = g.F.Files.host c.args.files.now in
    told_for (IsInsertCall host c.args.builder.now.path c.in_ok-krate.krate.versions c.as_slice.result.now) (g.F.Files.failed c.args.files.now) (g.F.Files.failed c.insert.new.files) e.field-0 e.path whole
    (λ call is. insert_for host c.args.builder.now.path c.in_ok-krate.krate.versions c.as_slice.result.now e.path call is) (e.ensures.failed told)

pub returns-in-Err-IoPath-Failed-default-clause-within : goal.returns-in-Err-IoPath-Failed-default-clause-within
returns-in-Err-IoPath-Failed-default-clause-within g c = λ told.
    let e = c.in-Err-IoPath-Failed-default in
    let l = e.field-0-is in
    let m = e.field-0-0-is in
    let p = e.path-is in
    let whole : e.field-0 ≡ error.IoPath io_kind.Failed e.path = cc in
    let host = g.F.Files.host c.args.files.now in
    let folder = c.args.builder.now.path in
    told_so (IsInsertCall host folder c.in_ok-krate.krate.versions c.as_slice.result.now) (g.F.Files.failed c.args.files.now) (g.F.Files.failed c.insert.new.files) e.field-0 e.path (IsWithin folder e.path) whole
    (λ call is. insert_within folder host c.in_ok-krate.krate.versions c.as_slice.result.now e.path call is) (e.ensures.failed told)
