use Rattle.std.proofs.Common.{rules, IsTrue}
use Rattle.tame_names.specs.Names.{is_name}
use Rattle.tame_names.proofs.Ascii.{name-IsAscii}
use Rattle.tame_names.proofs.names.KrateName.try_from.Goals as goal

pub invariant_of-result : goal.invariant_of-result
invariant_of-result c =
    let named : IsTrue (is_name c.args.name.now) = search rules in
    record { named = named; ascii = name-IsAscii _ c.utf8.name named }
