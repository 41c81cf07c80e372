-- A run that made audits of binaries (this project).
use Rattle.std.specs.Prelude.{◌≡◌, ◌≤◌, [], None, Ok}
use Rattle.audit_settings.specs.declared.commands.AuditCommand.{AuditCommand}
use Rattle.audit_words.specs.declared.commands.BinCommand.{BinCommand}
use Rattle.audit_asked.specs.ForBinaries.{asked_for_binaries}
use Rattle.audit_asked.specs.declared.binaries.AskedForBinaries.{AskedForBinaries}
use Rattle.audit_core.specs.Auditors.{auditor_of, self_advisories}
use Rattle.audit_core.specs.Checks.{checks_of}
use Rattle.audit_binaries.specs.Binaries.{AreBinaries, ArePartly, Scan, Tells}
use Rattle.audit_binaries.specs.Limits.{limits_of}
use Rattle.audit_binaries.specs.Summaries.{AreTogether, summary_of, summary_status}
use Rattle.audit_binaries.specs.declared.answers.BinariesAudit.{BinariesAudit}
use Rattle.audit_output.specs.BinaryOutputs.{binaries_output}
use Rattle.audit_output.specs.Outputs.{Output}
use Rattle.audit_remedies.specs.Outputs.{IsEnded, IsPutBy}
use Rattle.audit_remedies.specs.Endings.{Ending}
use Rattle.audit_program.specs.TaskRuns.{shown_by}
use Rattle.audit_program.specs.Worlds.{Telling, World, outside_of}

-- ---- what they are made of

abbrev pub tells_of : Telling → Tells
tells_of t = record { files = t.files; decoder = t.decoder; wire = t.wire; disk = t.disk }

-- by an auditor of the settings and advisories that were asked for, within the arguments' limits
abbrev pub scan_of : AskedForBinaries → BinCommand → World → Scan
scan_of given more entry = record {
  auditor = auditor_of given.config given.advisories;
  limits = limits_of more.max_binary_size more.audit_data_size_limit;
  host = entry.host;
  answers = entry.decodes;
}

-- ---- the run

-- the text for standard output, and that for standard error
abbrev pub bin_output : AuditCommand → BinCommand → AskedForBinaries → BinariesAudit → Output
bin_output command more given b =
    binaries_output command.verdicts
    (shown_by given.config given.database given.advisories) more.binary_paths b.answers

-- once they have what they asked for: there is one answer for each path of the arguments, in order,
-- each audit by an auditor of the settings and advisories that were asked for, from the moment
-- when the one before ended; and their output was printed
pub record IsGivenBinariesRun (tells : Telling) (command : AuditCommand) (more : BinCommand)
    (given : AskedForBinaries) (before now : World) (end : Ending) (b : BinariesAudit)
    : Type 0 where
  pub answered : AreBinaries (tells_of tells) (scan_of given more before)
      (outside_of before) (outside_of now) more.binary_paths b.answers
  pub summary : b.summary
      ≡ summary_of given.config.output.deny (self_advisories given.advisories) b.answers
  pub together : AreTogether (tells_of tells) (checks_of given.config) (outside_of before)
      (outside_of now) b.answers
  pub out : tells.out → IsPutBy before.out (bin_output command more given b).out end.fault now.out
  pub err : tells.err → IsEnded [] before.err (bin_output command more given b).err end.fault
      now.err before.err_faults now.err_faults
  pub status : end.fault ≡ None → end.status ≡ summary_status b.summary

-- from asking to the entry of the audits: if the host is told, it gives what was asked, what it has
-- stays, and no call failed; its count of faults doesn't fall, and all else is what it was
pub record IsAskedFor (tells : Telling) (command : AuditCommand) (given : AskedForBinaries)
    (before entry : World) : Type 0 where
  pub gives : tells.files → asked_for_binaries command before.host ≡ Ok given
  pub host : tells.files → entry.host ≡ before.host
  pub failed : tells.files → entry.failed ≡ before.failed
  pub later : before.file_faults ≤ entry.file_faults
  pub same : entry ≡ record before
      { host = entry.host; failed = entry.failed; file_faults = entry.file_faults }

pub record AreBinariesRun (tells : Telling) (command : AuditCommand) (more : BinCommand)
    (before now : World) (end : Ending) (b : BinariesAudit) : Type 0 where
  pub given : AskedForBinaries
  pub entry : World
  pub asked : IsAskedFor tells command given before entry
  pub run : IsGivenBinariesRun tells command more given entry now end b

-- if out of memory: what the host has gave what was asked, and a part
-- of the paths was answered, from the first on, and the next one may have been begun
pub record ArePartlyRun (tells : Telling) (command : AuditCommand) (more : BinCommand)
    (before now : World) : Type 0 where
  pub given : AskedForBinaries
  pub entry : World
  pub asked : IsAskedFor tells command given before entry
  pub partly : ArePartly (tells_of tells) (scan_of given more entry)
      (outside_of entry) (outside_of now) more.binary_paths
