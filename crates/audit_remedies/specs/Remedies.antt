-- What is done with the audit of a lockfile (this project).
use Rattle.std.specs.Prelude.{ℕ, List, Option, Some, None}
use Rattle.audit_remedies.specs.declared.remedies.Remedy.{Remedy}
use Rattle.audit_remedies.specs.declared.remedies.Remedy.TheVariants.{Plan, Baseline, WriteBaseline, Vendor}

-- the baseline that is named
abbrev pub baseline_path : Remedy → Option (List ℕ)
baseline_path (Baseline path) = Some path
baseline_path _ = None

-- the cache is read once more
abbrev pub ReadsCache : Remedy → Type 0
ReadsCache Plan = Unit {0}
ReadsCache (Vendor more) = Unit {0}
ReadsCache _ = ⊥

-- files are written
abbrev pub WritesFiles : Remedy → Type 0
WritesFiles (WriteBaseline path) = Unit {0}
WritesFiles (Vendor more) = Unit {0}
WritesFiles _ = ⊥

-- a registry is created
abbrev pub MakesRegistry : Remedy → Type 0
MakesRegistry (Vendor more) = Unit {0}
MakesRegistry _ = ⊥
