use Rattle.std.proofs.Common.{◌≡◌, refl, sym, ◌∙◌, ap}
use Rattle.tame_names.specs.Standing.{File}
use Rattle.tame_sparse.specs.Urls.{config_file}
use Rattle.tame_sparse.proofs.ConfigLemmas.{config_read}
use Rattle.tame_sparse.proofs.sparse.SparseIndex.index_config.Goals as goal

pub returns-in-Ok-Whole-clause-read : goal.returns-in-Ok-Whole-clause-read
returns-in-Ok-Whole-clause-read g c =
    let there = (g.F.Files.host c.args.files.now).stands in
    let place : c.as_str.result.now ≡ config_file c.args.self.now.cache.path = c.as_str.ensures ∙ c.in_ok-path.ensures ∙ ap config_file c.path.ensures in
    let file : g.F.Files.tells → there (config_file c.args.self.now.cache.path) ≡ File c.in-Ok-Whole.bytes.items =
    λ told. ap there (sym place) ∙ (rw c.in-Ok-Whole.field-0-is at (c.in-Ok-Whole.ensures.answer told)).0 in
    config_read g.F.Files.tells _ c.in-Ok-Whole.bytes.items _ c.config_of.result file (rw c.as_slice.ensures.value at c.config_of.ensures.ok) (rw c.as_slice.ensures.value at c.config_of.ensures.refused)

-- the premise is that it isn't this refusal
pub returns-in-Err-Failed-clause-untold : goal.returns-in-Err-Failed-clause-untold
returns-in-Err-Failed-clause-untold g c = λ told other. absurd (other _ refl)
