use Rattle.std.proofs.Common.{IsTrue, Some}
use Rattle.tame_names.specs.Names.{is_name}
use Rattle.tame_names.proofs.Ascii.{name-IsAscii, strict_name}
use Rattle.tame_names.proofs.names.KrateName.from_static.Goals as goal

pub invariant_of-result : goal.invariant_of-result
invariant_of-result c =
    let named : IsTrue (is_name c.args.name.now) = strict_name (Some 64) c.args.name.now c.requires in
    record { named = named; ascii = name-IsAscii _ c.utf8.name named }
