-- What options add to what is warned about, in whatever order they are (this project).
use Rattle.std.specs.Prelude.{Bool, true, false}
use Rattle.audit_advisory.specs.declared.metadata.Informational.{Informational}
use Rattle.audit_advisory.specs.declared.metadata.Informational.TheVariants.{Notice, Unmaintained, Unsound}
use Rattle.audit_advisory.specs.declared.outputs.DenyOption.{DenyOption}
use Rattle.audit_advisory.specs.declared.outputs.DenyOption.TheVariants as deny

-- an option adds this kind to what is warned about: `warnings` adds all three kinds, also notices,
-- which it doesn't deny; another option adds its own
abbrev pub adds_kind : Informational → DenyOption → Bool
adds_kind Notice deny.Warnings = true
adds_kind Unmaintained deny.Warnings = true
adds_kind Unsound deny.Warnings = true
adds_kind Unmaintained deny.Unmaintained = true
adds_kind Unsound deny.Unsound = true
adds_kind _ _ = false
