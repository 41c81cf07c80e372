use Rattle.std.proofs.Common.{rules, ◌≡◌, Some, Ok}
use Rattle.tame_names.specs.KrateNames.{text_of}
use Rattle.tame_entry.specs.Krates.{deserialized}
use Rattle.tame_local.specs.Registries.{HandsOutFile, index_at, index_file}
use Rattle.uses.proofs.Reading.{versions_read}
use Rattle.uses.proofs.indexes.versions_in.Goals as goal

pub returns-in-Some-clause-ok : goal.returns-in-Some-clause-ok
returns-in-Some-clause-ok g c = λ told.
    let host = g.F.Files.host c.args.files.now in
    let index = c.in_ok-index.index.path in
    let standing = host.stands (index_file index (text_of c.args.name)) in
    let found : index_at host c.args.registry.now ≡ Ok index = search rules in
    let handed : HandsOutFile (Some c.in-Some.entry) standing = search rules in
    let read : deserialized c.in-Some.entry ≡ Ok c.in_ok-deserialize-in-Some.field-0.versions = search rules in
    (index, found, versions_read standing c.in-Some.entry c.in_ok-deserialize-in-Some.field-0.versions handed read)
