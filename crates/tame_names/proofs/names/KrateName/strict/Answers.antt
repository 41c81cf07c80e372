use Rattle.std.proofs.Common.{◌≡◌, IsTrue, None, option_map, sym, ap, ◌∙◌}
use Rattle.tame_names.specs.Names.{is_name, refusal, strict_refusal}
use Rattle.tame_names.proofs.Ascii.{name-IsAscii, strict_name}
use Rattle.tame_names.proofs.names.KrateName.strict.Goals as goal

pub invariant_of-result : goal.invariant_of-result
invariant_of-result c =
    let none : strict_refusal c.args.limit c.args.name.now ≡ None = sym (sym (ap (option_map refusal) c.in-None.is) ∙ c.strict_refusal.ensures) in
    let named : IsTrue (is_name c.args.name.now) = strict_name c.args.limit c.args.name.now none in
    record { named = named; ascii = name-IsAscii _ c.utf8.name named }
