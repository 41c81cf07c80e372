use Rattle.std.proofs.Common.{◌≡◌, ◌≢◌, ℕ, List, take}
use Rattle.audit_core.specs.Turns.{StaysKept}
use Rattle.audit_core.specs.declared.checking.Checks.TheVariants as Checks
use Rattle.audit_binaries.specs.Binaries.{AreBinaries}
use Rattle.audit_binaries.specs.Summaries.{AreRefused}
use Rattle.audit_binaries.proofs.Chained.{Grown}
use Rattle.audit_binaries.proofs.auditing.audit_each.Given as goal

abbrev pub invariant-loop-path : goal.invariant-loop-path
invariant-loop-path g l = record {
  answered : AreBinaries (record { files = g.F.Files.tells; decoder = g.P.Decoder.tells; wire = g.W.Wire.tells; disk = g.D.CacheDisk.tells })
      (record { auditor = l.auditor; limits = l.limits; host = g.F.Files.host l.initial.files; answers = g.P.Decoder.answers l.initial.decoder })
      (record {
        moment = record { exchanges = g.W.Wire.exchanges l.initial.wire; files = g.D.CacheDisk.past l.initial.disk; wire_faults = g.W.Wire.faults l.initial.wire; disk_faults = g.D.CacheDisk.faults l.initial.disk; disk_failed = g.D.CacheDisk.failed l.initial.disk };
        folders = g.D.CacheDisk.folders l.initial.disk;
        failed = g.F.Files.failed l.initial.files;
        file_faults = g.F.Files.faults l.initial.files;
        decode_faults = g.P.Decoder.faults l.initial.decoder;
      })
      (record {
        moment = record { exchanges = g.W.Wire.exchanges l.wire; files = g.D.CacheDisk.past l.disk; wire_faults = g.W.Wire.faults l.wire; disk_faults = g.D.CacheDisk.faults l.disk; disk_failed = g.D.CacheDisk.failed l.disk };
        folders = g.D.CacheDisk.folders l.disk;
        failed = g.F.Files.failed l.files;
        file_faults = g.F.Files.faults l.files;
        decode_faults = g.P.Decoder.faults l.decoder;
      })
      (take l.path-index l.paths) l.answers;
  files_same : g.F.Files.tells → g.F.Files.host l.files ≡ g.F.Files.host l.initial.files;
  decoder_same : g.P.Decoder.tells → (other : List ℕ) (bound : ℕ) → g.P.Decoder.answers l.decoder other bound ≡ g.P.Decoder.answers l.initial.decoder other bound;
  grown : g.W.Wire.tells → Grown (g.W.Wire.exchanges l.initial.wire) (g.W.Wire.exchanges l.wire);
  kept : g.W.Wire.tells → g.D.CacheDisk.tells → StaysKept (g.W.Wire.exchanges l.initial.wire) (g.W.Wire.exchanges l.wire) (g.D.CacheDisk.past l.initial.disk) (g.D.CacheDisk.past l.disk);
  refused : AreRefused l.answers → (l.wire ≡ l.initial.wire) × (l.disk ≡ l.initial.disk);
  unasked : l.auditor.checks ≢ Checks.Online → l.wire ≡ l.initial.wire;
  unchanged : l.auditor.checks ≢ Checks.Online → g.D.CacheDisk.tells → (q : List ℕ) → g.D.CacheDisk.past l.disk q ≡ g.D.CacheDisk.past l.initial.disk q;
  unmade : l.auditor.checks ≢ Checks.Online → g.D.CacheDisk.tells → g.D.CacheDisk.folders l.disk ≡ g.D.CacheDisk.folders l.initial.disk;
  off : l.auditor.checks ≡ Checks.Off → l.disk ≡ l.initial.disk;
}
