use Rattle.std.proofs.Common.{◌≡◌, [], ◌∷◌, ◌++◌, take, sym, ◌∙◌, ap}
use Rattle.std.specs.Option.{option_copied}
use Rattle.std.specs.Str.{bytes_eq}
use Rattle.std.specs.String.{string_bytes}
use Rattle.std.proofs.lemmas.List.{take_more}
use Rattle.tame_cache.specs.Disk.{reads}
use Rattle.tame_cache.specs.Calls.{file_of, past_of}
use Rattle.tame_cache.proofs.Record.{past_more, reads_same, reads_other}
use Rattle.tame_cache.proofs.calls.current.Goals as goal
use Rattle.tame_cache.proofs.calls.current.Goals.{then-eq, else-eq}

pub loop-call-preserved : goal.loop-call-preserved
loop-call-preserved c =
    let calls = c.args.calls.now in
    let path = c.args.path.now in
    let i = c.loop-call.call-index in
    let item = c.call-item.result in
    let more = take_more calls i item c.loop-call-test.true ∙ ap (λ x. take i calls ++ x ∷ []) (sym c.call-item.is) in
    let past = past_of path [] (take i calls) in
    let step = ap reads (ap (λ l. past_of path [] l) more ∙ past_more path [] (take i calls) item) in
    let test : c.eq.result ≡ bytes_eq (string_bytes item.path) path = c.eq.ensures ∙ ap (λ l. bytes_eq l path) c.as_str.ensures.value in
    elim c.if-eq.branch [
      | then-eq w ↦ ap (λ o. file_of (option_copied o)) w.found-is ∙ ap file_of w.as_ref-found.ensures.value ∙ sym (step ∙ reads_same path (string_bytes item.path) past item.change (file_of item.file) (sym test ∙ w.if-eq.true))
      | else-eq w ↦ ap (λ o. file_of (option_copied o)) w.found-is ∙ c.loop-call.invariant ∙ sym (step ∙ reads_other path (string_bytes item.path) past item.change (file_of item.file) (sym test ∙ w.if-eq.false))
    ]
