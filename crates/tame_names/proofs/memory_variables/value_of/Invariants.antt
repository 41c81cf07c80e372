use Rattle.std.proofs.Common.{◌≡◌, drop}
use Rattle.tame_names.specs.MemoryFiles.{value_in}
use Rattle.tame_names.proofs.memory_variables.value_of.Given as goal

-- what is left decides
abbrev pub invariant-loop-variable : goal.invariant-loop-variable
invariant-loop-variable l = value_in l.variables l.name ≡ value_in (drop l.variable-index l.variables) l.name
