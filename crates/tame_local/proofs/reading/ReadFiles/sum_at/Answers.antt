use Rattle.std.proofs.Common.{sym, ap, ◌∙◌, Ok}
use Rattle.tame_local.proofs.Kept.{is_read}
use Rattle.tame_local.specs.Refusals.{and_then}
use Rattle.tame_local.specs.Registries.{sum_in}
use Rattle.tame_local.proofs.reading.ReadFiles.sum_at.Goals as goal

pub returns-in-Some-clause-ok : goal.returns-in-Some-clause-ok
returns-in-Some-clause-ok g c told kept =
    ap (and_then (λ records. Ok (sum_in c.args.version.now records)))
    (is_read (g.F.Files.host c.args.files.now) c.args.path.now c.in-Some.krate.now _ (sym c.in-Some.ensures.value) (kept c.args.path.now))
    ∙ ap Ok (sym c.sum_in.ensures)
