-- The printed verdicts: a line for each, with the name as JSON text, the version, and the verdict,
-- separated by single spaces.
use Rattle.std.specs.Prelude.{ℕ, codes, decimal, List, [], ◌∷◌, ◌++◌, slice_get, Option, Some, None}
use Rattle.json.specs.Print.{quoted}
use Rattle.audit_lock.specs.declared.resolving.Package.{Package}
use Rattle.audit_core.specs.declared.verdicts.Cause.{Cause}
use Rattle.audit_core.specs.declared.verdicts.Cause.TheVariants as cause
use Rattle.audit_core.specs.declared.verdicts.Judged.{Judged}
use Rattle.audit_core.specs.declared.verdicts.Verdict.{Verdict}
use Rattle.audit_core.specs.declared.verdicts.Verdict.TheVariants.{Yanked, NotYanked, Unchecked}

abbrev pub cause_word : Cause → List ℕ
cause_word cause.Name = codes "name"
cause_word (cause.Status status) = codes "status " ++ decimal status
cause_word cause.JsonLines = codes "json-lines"
cause_word cause.Record = codes "record"
cause_word cause.Absent = codes "absent"
cause_word cause.NoVersion = codes "no-version"
cause_word cause.Wire = codes "wire"
cause_word cause.Store = codes "store"

abbrev pub verdict_word : Verdict → List ℕ
verdict_word Yanked = codes "yanked"
verdict_word NotYanked = codes "not yanked"
verdict_word (Unchecked c) = codes "unchecked " ++ cause_word c

abbrev pub verdict_line : List ℕ → List ℕ → Verdict → List ℕ
verdict_line name version verdict =
    quoted name ++ codes " " ++ version ++ codes " " ++ verdict_word verdict ++ codes "\n"

-- the line of a verdict; a place without a package prints nothing
abbrev pub line_at : Option Package → Verdict → List ℕ
line_at None verdict = []
line_at (Some p) verdict = verdict_line p.name p.version verdict

-- the lines of the verdicts, in their order
abbrev pub verdict_lines : List Package → List Judged → List ℕ
verdict_lines packages [] = []
verdict_lines packages (j ∷ js) =
    line_at (slice_get packages j.package) j.verdict ++ verdict_lines packages js
