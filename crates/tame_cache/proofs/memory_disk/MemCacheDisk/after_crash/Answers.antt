use Rattle.std.proofs.Common.{◌≡◌, ◌<◌, ◌+◌, [], ◌∷◌, ◌++◌, List, length, get_or, take, refl, inl, sym, ◌∙◌, ap, subst, arith}
use Rattle.std.proofs.lemmas.List.{take_more, take_all}
use Rattle.tame_cache.specs.declared.calls.Call.{Call}
use Rattle.tame_cache.specs.Disk.{may_leave}
use Rattle.tame_cache.specs.Calls.{file_of, past_of}
use Rattle.tame_cache.specs.MemoryDisk.{picked}
use Rattle.tame_cache.proofs.Record.{past_more}
use Rattle.tame_cache.proofs.Copies.{IsCopied, copied_more, copied_reads, copied_alone}
use Rattle.tame_cache.proofs.CrashLemmas.{picked_left}
use Rattle.tame_cache.proofs.memory_disk.MemCacheDisk.after_crash.Goals as goal

pub loop-call-init : goal.loop-call-init
loop-call-init c = record {
  copied = λ q. inl (c.new-next.ensures.files q, refl);
  folders = refl;
  tears = refl;
  counts = refl;
}

pub loop-call-preserved : goal.loop-call-preserved
loop-call-preserved c =
    let calls = c.args.self.changes in
    let i = c.loop-call.call-index in
    let item = c.call-item.result in
    let here = c.as_slice-call-items.ensures in
    let read : item ≡ get_or calls i item = c.call-item.is ∙ ap (λ (l : List Call). get_or l i item) here in
    let within : i < length calls = omega (arith, c.loop-call-test.true, ap (λ (l : List Call). length l) here) in
    let more : take (i + 1) calls ≡ take i calls ++ item ∷ [] = take_more calls i item within ∙ ap (λ (x : Call). take i calls ++ x ∷ []) (sym read) in
    let is = subst (λ (l : List Call). file_of c.in_ok-file.file ≡ picked c.args.pick (past_of c.as_str-path.result.now [] l)) c.as_slice.ensures c.in_ok-file.ensures in
    record {
      copied = λ q. copied_more c.args.pick q c.as_str-path.result.now _ _ _ _ calls item (file_of c.in_ok-file.file) c.as_str-path.ensures.value (c.in_ok-add.ensures.noted q) (ap (λ l. past_of q [] l) more ∙ past_more q [] (take i calls) item) is (c.loop-call.invariant.copied q);
      folders = c.loop-call.invariant.folders;
      tears = c.loop-call.invariant.tears;
      counts = c.loop-call.invariant.counts;
    }

pub returns-clause-crashed : goal.returns-clause-crashed
returns-clause-crashed c q =
    let calls = c.args.self.changes in
    let here = c.as_slice-call-items.ensures in
    let all : take c.loop-call.call-index calls ≡ calls = take_all c.loop-call.call-index calls (omega (arith, c.loop-call-test.false, ap (λ (l : List Call). length l) here)) in
    let new = past_of q [] c.loop-call.next.changes in
    let past = past_of q [] calls in
    let copied = subst (λ (l : List Call). IsCopied c.args.pick q new (past_of q [] l) past) all (c.loop-call.invariant.copied q) in
    let is = copied_reads c.args.pick q new past copied in
    record { picked = is; possible = subst (may_leave past) (sym is) (picked_left c.args.pick past); only = copied_alone c.args.pick q new past copied }
