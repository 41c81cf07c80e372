use Rattle.std.proofs.Common.{rules, ◌≡◌, ℕ, List, Option, Some, Err, arith, subst}
use Rattle.std.proofs.lemmas.Grind.{common_steps}
use Rattle.tame_names.specs.KrateNames.{text_of}
use Rattle.tame_entry.specs.declared.index_entries.IndexEntry.{IndexEntry}
use Rattle.tame_cache.specs.CacheFiles.{HandsOut}
use Rattle.tame_cache.specs.Disk.{reads}
use Rattle.tame_cache.specs.Kept.{cache_file_of}
use Rattle.uses.proofs.Reading.{kept_refusal}
use Rattle.uses.proofs.indexes.newest_kept.Goals as goal

pub returns-in_err-krate-in-Some-clause-refused : goal.returns-in_err-krate-in-Some-clause-refused
returns-in_err-krate-in-Some-clause-refused g c =
    let index = c.args.cache.now.index in
    let past = g.D.CacheDisk.past c.args.disk.now in
    let e = c.in_err-krate-in-Some.field-0.0 in
    let is : c.from_residual-in_err-krate-in-Some.result ≡ Err e = first_of (search rules, grind (arith, common_steps)) in
    let some : c.in_ok-entry.field-0 ≡ Some c.in-Some.entry = first_of (search rules, grind (arith, common_steps)) in
    let handed : IndexEntry → Type 0 = λ entry. g.D.CacheDisk.tells → (q : List ℕ) → cache_file_of c.args.cache.now.path (text_of c.args.name) ≡ Some q → HandsOut index (Some entry) (reads (past q)) in
    let out : handed c.in-Some.entry = λ told q at. subst (λ (o : Option IndexEntry). HandsOut index o (reads (past q))) some (c.in_ok-entry.ensures.read told q at) in
    rw is (kept_refusal (g.D.CacheDisk.faults c.args.disk.now) (g.D.CacheDisk.faults c.read_cache_file.new.disk) handed c.in-Some.entry e c.in_err-krate-in-Some.ensures.refused out)
