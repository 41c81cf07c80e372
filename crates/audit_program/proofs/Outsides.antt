-- Runs that don't call the decoder, or the runner: what is said of a run without one is so with any.
use Rattle.std.proofs.Common.{◌≡◌, ◌⊎◌, inl, inr, Ok}
use Rattle.audit_settings.specs.declared.commands.AuditCommand.{AuditCommand}
use Rattle.audit_words.specs.declared.commands.BinCommand.{BinCommand}
use Rattle.audit_binaries.specs.declared.answers.BinariesAudit.{BinariesAudit}
use Rattle.audit_core.specs.declared.auditing.Audited.{Audited}
use Rattle.audit_program.specs.BinaryRuns.{AreBinariesRun, ArePartlyRun}
use Rattle.audit_program.specs.Runs.{IsRun}
use Rattle.audit_remedies.specs.Endings.{Ending}
use Rattle.audit_program.specs.TaskRuns.{IsGivenRun, IsTaskRun}
use Rattle.audit_program.specs.Worlds.{Telling, Uncalled, World}
use Rattle.audit_program.specs.declared.outcomes.Outcome.{Outcome}
use Rattle.audit_program.specs.declared.tasks.Job.TheVariants as job
use Rattle.audit_program.specs.declared.tasks.Task.{Task}
use Rattle.audit_asked.specs.declared.asking.Asked.{Asked}
use Rattle.audit_program.proofs.Nones.{if_none_then, if_some}

-- ---- an audit of a lockfile decodes nothing

given_beside : (tells : Telling) (told : Type 0) (task : Task) (given : Asked) (before now : World) (end : Ending) (a : Audited) → IsGivenRun tells task given before now end a
    → IsGivenRun (record tells { decoder = told }) task given before now end a
given_beside tells told task given before now end a h = record {
  left = h.left;
  audit = h.audit;
  it = h.it;
  is_made = h.is_made;
  statuses = h.statuses;
  started = h.started;
  out = h.out;
  err = h.err;
  shown = h.shown;
  shown_err = h.shown_err;
  is_end = h.is_end;
}

task_beside : (tells : Telling) (told : Type 0) (task : Task) (before now : World) (end : Ending) (a : Audited) → IsTaskRun tells task before now end a
    → IsTaskRun (record tells { decoder = told }) task before now end a
task_beside tells told task before now end a h = record {
  given = h.given;
  gives = h.gives;
  there = h.there;
  is_there = h.is_there;
  used_up = h.used_up;
  generated = h.generated;
  at_most = h.at_most;
  is_generated = h.is_generated;
  run = given_beside tells told task h.given _ now end a h.run;
}

pub task_run : (tells : Telling) (told : Type 0) (task : Task) (same : Uncalled) (stays : Type 0) (before now : World) (outcome : Outcome) → stays
    → IsRun tells (Ok (job.Lockfile task)) same before now outcome
    → IsRun (record tells { decoder = told }) (Ok (job.Lockfile task)) (record same { decoder = stays }) before now outcome
task_run tells told task same stays before now outcome decoder h = record {
  audits = record {
    audited = if_some outcome.audited _ _ (λ a k. task_beside tells told task before now _ a k) h.audits.audited;
    binaries = if_some outcome.binaries _ _ (λ b k. absurd k) h.audits.binaries;
    partly = tt;
    generated = h.audits.generated;
  };
  has = h.has;
  ends = h.ends;
  causes = h.causes;
  without_lockfile = if_none_then outcome.audited _ _ (λ k. record { started = k.started; at_most = k.at_most; one_start = k.one_start; files = k.files }) h.without_lockfile;
  without_audit = if_none_then outcome.audited _ _ (λ m. if_none_then outcome.binaries _ _
      (λ k. record { out = k.out; err = k.err; early = λ other. ((k.early other).0, (k.early other).1, decoder) }) m) h.without_audit;
  failed = h.failed;
  kept = h.kept;
  leaves = record {
    uncalled = λ nothing. absurd nothing;
    undecoded = λ other. decoder;
    unstarted = λ is. absurd is;
    files_same = h.leaves.files_same;
    unaccepted = h.leaves.unaccepted;
    asks = h.leaves.asks;
    calls = h.leaves.calls;
  };
}

-- ---- audits of binaries start nothing

binaries_beside : (tells : Telling) (told : Type 0) (command : AuditCommand) (more : BinCommand) (before now : World) (end : Ending) (b : BinariesAudit)
    → AreBinariesRun tells command more before now end b → AreBinariesRun (record tells { runner = told }) command more before now end b
binaries_beside tells told command more before now end b h = record {
  given = h.given;
  entry = h.entry;
  asked = record { gives = h.asked.gives; host = h.asked.host; failed = h.asked.failed; later = h.asked.later; same = h.asked.same };
  run = record {
    answered = h.run.answered;
    summary = h.run.summary;
    together = record {
      headline = h.run.together.headline;
      turns = h.run.together.turns;
      asked = h.run.together.asked;
      others = h.run.together.others;
      folders = h.run.together.folders;
      files_failed = h.run.together.files_failed;
      decodes_failed = h.run.together.decodes_failed;
    };
    out = h.run.out;
    err = h.run.err;
    status = h.run.status;
  };
}

partly_beside : (tells : Telling) (told : Type 0) (command : AuditCommand) (more : BinCommand) (P : Type 0) (before now : World)
    → P ⊎ ArePartlyRun tells command more before now → P ⊎ ArePartlyRun (record tells { runner = told }) command more before now
partly_beside tells told command more P before now (inl unasked) = inl unasked
partly_beside tells told command more P before now (inr h) = inr (record {
  given = h.given;
  entry = h.entry;
  asked = record { gives = h.asked.gives; host = h.asked.host; failed = h.asked.failed; later = h.asked.later; same = h.asked.same };
  partly = h.partly;
})

pub binaries_run : (tells : Telling) (told : Type 0) (command : AuditCommand) (more : BinCommand) (same : Uncalled) (stays : Type 0) (before now : World) (outcome : Outcome) → stays
    → IsRun tells (Ok (job.Binaries command more)) same before now outcome → now.starts ≡ before.starts
    → IsRun (record tells { runner = told }) (Ok (job.Binaries command more)) (record same { runner = stays }) before now outcome
binaries_run tells told command more same stays before now outcome runner h unstarted = record {
  audits = record {
    audited = if_some outcome.audited _ _ (λ a k. absurd k) h.audits.audited;
    binaries = if_some outcome.binaries _ _ (λ b k. binaries_beside tells told command more before now _ b k) h.audits.binaries;
    partly = λ memory. if_none_then outcome.binaries _ _ (λ k. partly_beside tells told command more _ before now k) (h.audits.partly memory);
    generated = h.audits.generated;
  };
  has = h.has;
  ends = h.ends;
  causes = h.causes;
  without_lockfile = if_none_then outcome.audited _ _ (λ k. record { started = λ told_files told_starts. unstarted; at_most = λ told_starts. inl unstarted; one_start = k.one_start; files = k.files }) h.without_lockfile;
  without_audit = if_none_then outcome.audited _ _ (λ m. if_none_then outcome.binaries _ _ (λ k. record { out = k.out; err = k.err; early = k.early }) m) h.without_audit;
  failed = λ here. record { calls = (h.failed here).calls; unaudited = tt };
  kept = h.kept;
  leaves = record {
    uncalled = λ nothing. absurd nothing;
    undecoded = h.leaves.undecoded;
    unstarted = λ is. runner;
    files_same = h.leaves.files_same;
    unaccepted = λ here none. tt;
    asks = h.leaves.asks;
    calls = h.leaves.calls;
  };
}
