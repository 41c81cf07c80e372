-- A host that tells nothing of itself (this project).
use Rattle.std.specs.Prelude.{[]}
use Rattle.tame_names.specs.Standing.{Host, Nothing}
use Rattle.tame_names.specs.declared.host.EnvValue.TheVariants.{Unset}

-- the host that represents one that isn't told
abbrev pub untold : Host
untold = record { stands = λ _. Nothing; input = []; environment = λ _. Unset; current = [] }
