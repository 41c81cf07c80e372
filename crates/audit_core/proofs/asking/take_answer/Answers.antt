use Rattle.std.proofs.Common.{◌≡◌, Some, true, ap, ◌∙◌, sym, refl}
use Rattle.tame_names.specs.KrateNames.{text_of}
use Rattle.tame_cache.specs.Disk.{reads}
use Rattle.tame_cache.specs.Kept.{cache_file_of}
use Rattle.audit_core.proofs.Lists.{if_ok, on_if_ok}
use Rattle.audit_core.proofs.ResultLemmas.{blamed_none, blamed_store, came_is, held_body, left_file, stored_unless, taken_answer}
use Rattle.audit_core.proofs.SentLemmas.{stored_sent}
use Rattle.tame_sparse.specs.ResponseResults.{came}
use Rattle.audit_core.proofs.asking.take_answer.Goals as goal

pub returns-clause-answer : goal.returns-clause-answer
returns-clause-answer g c told q place =
    let past = g.D.CacheDisk.past in
    let r = c.response_of-response in
    let t = c.parse_remote_response-taken in
    let there : cache_file_of c.args.index.now.cache.path (text_of c.args.name) ≡ Some q = ap (λ root. cache_file_of root (text_of c.args.name)) c.requires.root ∙ place in
    if_ok c.answer_taken.result
    (λ a h. taken_answer (reads (past c.args.disk.now q)) r.result t.result c.args.answer.now a r.ensures.status r.ensures.body t.ensures.taken (λ same. rw c.requires.url at (t.ensures.read (told (sym r.ensures.status ∙ same)) same q there)) h)
    c.answer_taken.ensures

pub returns-clause-leaves : goal.returns-clause-leaves
returns-clause-leaves g c told q place =
    let past = g.D.CacheDisk.past in
    let faults = g.D.CacheDisk.faults in
    let r = c.response_of-response in
    let t = c.parse_remote_response-taken in
    on_if_ok c.answer_taken.result
    (λ a h. left_file (text_of c.args.name) q r.result t.result c.args.answer.now a (faults c.args.disk.now) (faults t.new.disk) (past c.args.disk.now) (past t.new.disk)
    (came_is r.result c.args.answer.now r.ensures.status r.ensures.revision r.ensures.body) t.ensures.taken h (rw (c.requires.root, c.requires.url) at (t.ensures.stores told)) (λ quiet store. (rw (c.requires.root, c.requires.url) at (t.ensures.stored told)) quiet refl store) place)
    c.answer_taken.ensures

pub returns-clause-kept : goal.returns-clause-kept
returns-clause-kept g c told m held kept =
    let r = c.response_of-response in
    let t = c.parse_remote_response-taken in
    let stores = rw (c.requires.root, c.requires.url) at (t.ensures.stores told) in
    stores.kept m (λ p named. held_body m p r.result c.args.answer.now (came_is r.result c.args.answer.now r.ensures.status r.ensures.revision r.ensures.body) (held p named)) kept

pub returns-clause-folders : goal.returns-clause-folders
returns-clause-folders g c told = rw c.requires.root at (c.parse_remote_response-taken.ensures.folders told)

pub returns-clause-sent : goal.returns-clause-sent
returns-clause-sent g c told es e answered named there holds =
    let past = g.D.CacheDisk.past in
    let r = c.response_of-response in
    let t = c.parse_remote_response-taken in
    let stores = rw (c.requires.root, c.requires.url) at (t.ensures.stores told) in
    stored_sent (text_of c.args.name) (past c.args.disk.now) (past t.new.disk) true (came r.result) e es (answered ∙ ap Some (sym (came_is r.result c.args.answer.now r.ensures.status r.ensures.revision r.ensures.body))) named there stores holds

pub returns-clause-blames : goal.returns-clause-blames
returns-clause-blames g c q place =
    let r = c.response_of-response in
    let t = c.parse_remote_response-taken in
    let there : cache_file_of c.args.index.now.cache.path (text_of c.args.name) ≡ Some q = ap (λ root. cache_file_of root (text_of c.args.name)) c.requires.root ∙ place in
    if_ok c.answer_taken.result
    (λ a h. blamed_store q _ _ r.result t.result a (rw c.requires.url at (t.ensures.failed q there)) t.ensures.taken (λ io. (t.ensures.rose io).0) h)
    c.answer_taken.ensures

pub returns-clause-unfailed : goal.returns-clause-unfailed
returns-clause-unfailed g c q place unstored =
    let r = c.response_of-response in
    let t = c.parse_remote_response-taken in
    let there : cache_file_of c.args.index.now.cache.path (text_of c.args.name) ≡ Some q = ap (λ root. cache_file_of root (text_of c.args.name)) c.requires.root ∙ place in
    let came_so = came_is r.result c.args.answer.now r.ensures.status r.ensures.revision r.ensures.body in
    if_ok c.answer_taken.result
    (λ a h. blamed_none q _ _ r.result t.result a (rw c.requires.url at (t.ensures.failed q there)) t.ensures.taken h (rw (sym came_so) at unstored))
    c.answer_taken.ensures

pub returns-clause-stored_unless_failed : goal.returns-clause-stored_unless_failed
returns-clause-stored_unless_failed g c told q place store =
    let past = g.D.CacheDisk.past in
    let r = c.response_of-response in
    let t = c.parse_remote_response-taken in
    let there : cache_file_of c.args.index.now.cache.path (text_of c.args.name) ≡ Some q = ap (λ root. cache_file_of root (text_of c.args.name)) c.requires.root ∙ place in
    let came_so = came_is r.result c.args.answer.now r.ensures.status r.ensures.revision r.ensures.body in
    rw (sym came_so)
    (on_if_ok c.answer_taken.result
    (λ a h. stored_unless q _ _ r.result t.result a (past t.new.disk) t.ensures.taken h (rw (sym came_so) at store) ((rw c.requires.url at (t.ensures.stored_unless_failed told)) refl (rw (sym came_so) at store) q there))
    c.answer_taken.ensures)
