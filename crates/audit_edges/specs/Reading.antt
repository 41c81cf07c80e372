-- A read within a limit.
use Rattle.std.specs.Prelude.{ℕ, ◌<◌, ◌≤◌, length, Option, None, Some, Vec}
use Rattle.std.specs.declared.alloc.Global.{Global}
use Rattle.tame_names.specs.declared.host.ReadAnswer.{ReadAnswer}
use Rattle.tame_names.specs.declared.host.ReadAnswer.TheVariants.{Over}

-- a number of bytes that is over the limit is above it
abbrev pub IsAbove : ℕ → ReadAnswer → Type 0
IsAbove limit (Over n) = limit < n
IsAbove limit _ = Unit {0}

-- a part has no more bytes than the limit
abbrev pub IsNoMore : ℕ → Option (Vec ℕ Global) → Type 0
IsNoMore limit (Some part) = length part.items ≤ limit
IsNoMore limit None = Unit {0}
