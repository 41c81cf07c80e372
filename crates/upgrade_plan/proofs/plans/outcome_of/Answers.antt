use Rattle.std.proofs.Common.{rules, ◌≡◌, List, ℕ, true, cond, Option, Some, None, option_map, ap, sym, subst, ◌∙◌, arith}
use Rattle.std.proofs.lemmas.Grind.{common_steps}
use Rattle.tame_names.specs.KrateNames.{text_of}
use Rattle.tame_names.specs.Names.{is_name, relative_path, separator}
use Rattle.std.specs.Prelude.{IsSomeAnd}
use Rattle.tame_cache.specs.Disk.{reads}
use Rattle.tame_cache.specs.FailedCalls.{FailedReading}
use Rattle.tame_cache.specs.Kept.{cache_file, cache_file_of}
use Rattle.audit_core.proofs.Lists.{if_ok}
use Rattle.audit_advisory.specs.Hits.{is_from_default}
use Rattle.upgrade_plan.proofs.Planning.{by_records, of_file, outcome_store, store_outcome}
use Rattle.upgrade_plan.proofs.plans.outcome_of.Goals as goal

pub returns-clause-planned : goal.returns-clause-planned
returns-clause-planned g c =
    let p = c.args.«package».now in
    let cache = c.args.index.now.cache in
    let root = cache.path in
    let settings = c.args.settings.now in
    let database = c.args.database.now in
    let told = g.D.CacheDisk.tells in
    let files = λ (q : List ℕ). reads (g.D.CacheDisk.past c.args.disk.now q) in
    let at = relative_path (separator None) p.name in
    let default : is_from_default p.source ≡ true = first_of (search rules, grind (arith, common_steps)) in
    let same : text_of c.in-Ok.name ≡ p.name = first_of (search rules, grind (arith, common_steps)) in
    let named : is_name p.name ≡ true = first_of (search rules, grind (arith, common_steps)) in
    let there : cache_file_of root p.name ≡ Some (cache_file root at) = ap (λ b. option_map (cache_file root) (cond b (Some at) None)) named in
    let read : cache_file_of root (text_of c.in-Ok.name) ≡ Some (cache_file root at) = ap (cache_file_of root) same ∙ there in
    if_ok c.outcome_by.result
    (λ o h. of_file told settings database cache files p (cache_file root at) o default there
    (by_records told settings database cache.index p (files (cache_file root at)) c.in_ok-recorded.recorded o c.in_ok-recorded.ensures.own (λ t. c.in_ok-recorded.ensures.read t (cache_file root at) read) h))
    c.outcome_by.ensures

pub returns-clause-reads : goal.returns-clause-reads
returns-clause-reads g c =
    let p = c.args.«package».now in
    let root = c.args.index.now.cache.path in
    let at = relative_path (separator None) p.name in
    let failed = g.D.CacheDisk.failed in
    let same : text_of c.in-Ok.name ≡ p.name = first_of (search rules, grind (arith, common_steps)) in
    let named : is_name p.name ≡ true = first_of (search rules, grind (arith, common_steps)) in
    let there : cache_file_of root p.name ≡ Some (cache_file root at) = ap (λ b. option_map (cache_file root) (cond b (Some at) None)) named in
    let read : cache_file_of root (text_of c.in-Ok.name) ≡ Some (cache_file root at) = ap (cache_file_of root) same ∙ there in
    let r = c.in_ok-recorded.recorded in
    let P : Option (List ℕ) → Type 0 = λ file. IsSomeAnd file (λ q. FailedReading q (failed c.args.disk.now) (failed c.kept_records.new.disk)) in
    if_ok c.outcome_by.result
    (λ o h. record {
      store = λ is. subst P (sym there) (c.in_ok-recorded.ensures.store_failed _ read (outcome_store c.args.settings.now c.args.database.now p r o h is));
      quiet = λ other. c.in_ok-recorded.ensures.unfailed _ read (λ is. other (store_outcome c.args.settings.now c.args.database.now p r o h is));
    })
    c.outcome_by.ensures
