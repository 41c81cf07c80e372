-- Which calls on the disk may have failed for an answer.
use Rattle.std.proofs.Common.{◌≡◌, ◌≢◌, inl, ℕ, List, Bool, true, None, IsTrue, arith}
use Rattle.tame_entry.specs.Entry.{is_storable, pairs}
use Rattle.tame_entry.specs.Lines.{invalid}
use Rattle.tame_cache.specs.FailedCalls.{FailedDiskCalls}
use Rattle.tame_sparse.specs.ResponseResults.{FailedAtMostWriting, FailsFor, ResponseResult, stored_under}
use Rattle.tame_sparse.specs.declared.network.WireAnswer.{WireAnswer}
use Rattle.tame_sparse.proofs.Stored.{to_store}

pub no_both : (s : ℕ) → s ≡ 200 → s ≡ 304 → ⊥
no_both s sent same = omega (arith, sent, same)

pub fails_nowhere : (index q : List ℕ) (answer : WireAnswer) (write : Bool) (before now : FailedDiskCalls) (taken : ResponseResult) → answer.status ≢ 304 → now ≡ before → FailsFor index q answer write before now taken
fails_nowhere index q answer write before now taken else_sent same = record {
  not_modified = λ is. absurd (else_sent is);
  sent = λ other. inl same;
  unwanted = λ other no. same;
  unstored = λ other no. same;
}

pub fails_writing : (index q : List ℕ) (answer : WireAnswer) (write : Bool) (before now : FailedDiskCalls) (taken : ResponseResult) → answer.status ≡ 200 → write ≡ true → invalid answer.body ≡ None
    → ((IsTrue (is_storable index (stored_under answer.revision) (pairs answer.body)) → ⊥) → now ≡ before) → FailedAtMostWriting q before now → FailsFor index q answer write before now taken
fails_writing index q answer write before now taken sent asked right unstored most = record {
  not_modified = λ is. absurd (no_both answer.status sent is);
  sent = λ other. most;
  unwanted = λ other no. cc (asked, no);
  unstored = λ other no. unstored (λ storable. no (to_store index answer sent right storable));
}
