use Rattle.std.proofs.Common.{◌≡◌, Some, ap, ◌∙◌}
use Rattle.tame_names.specs.KrateNames.{text_of}
use Rattle.tame_cache.specs.Disk.{reads}
use Rattle.tame_cache.specs.Kept.{cache_file_of}
use Rattle.audit_core.proofs.Lists.{if_ok}
use Rattle.audit_core.proofs.ResultLemmas.{blames_taken, same_answer}
use Rattle.audit_core.proofs.recalling.recall.Goals as goal

pub returns-clause-answer : goal.returns-clause-answer
returns-clause-answer g c told q place =
    let past = g.D.CacheDisk.past in
    let t = c.cached_krate-taken in
    let there : cache_file_of c.args.index.now.cache.path (text_of c.args.name) ≡ Some q = ap (λ root. cache_file_of root (text_of c.args.name)) c.requires.root ∙ place in
    if_ok c.answer_taken.result
    (λ a h. same_answer (reads (past c.args.disk.now q)) t.result a (rw c.requires.url at (t.ensures.read told q there)) t.ensures.only h)
    c.answer_taken.ensures

pub returns-clause-blames : goal.returns-clause-blames
returns-clause-blames g c q place =
    let t = c.cached_krate-taken in
    let there : cache_file_of c.args.index.now.cache.path (text_of c.args.name) ≡ Some q = ap (λ root. cache_file_of root (text_of c.args.name)) c.requires.root ∙ place in
    if_ok c.answer_taken.result (λ a h. blames_taken q _ _ t.result a (t.ensures.failed q there) t.ensures.only h) c.answer_taken.ensures
