use Rattle.std.proofs.Common.{◌≡◌, ◌≤◌, [], ◌++◌, take}
use Rattle.std.specs.List.{flat_map}
use Rattle.audit_report.specs.Shown.{blocks_text, shown_after}
use Rattle.audit_report.proofs.block_puts.put_each.Given as goal

-- the blocks so far were put, and their trees added
abbrev pub invariant-loop-item : goal.invariant-loop-item
invariant-loop-item g l = record {
  text : g.O.Sink.tells → g.O.Sink.holds l.out ≡ g.O.Sink.holds l.initial.out
      ++ blocks_text l.findings.wanted (l.findings.known.now ++ l.initial.sheet.added)
      (flat_map (g.R.Reported.blocks l.findings.symbols.now l.findings.advisories.now l.findings.lockfile.now) (take l.item-index l.reported));
  trees : l.findings.known.now ++ l.sheet.added ≡ shown_after l.findings.wanted (l.findings.known.now ++ l.initial.sheet.added)
      (flat_map (g.R.Reported.blocks l.findings.symbols.now l.findings.advisories.now l.findings.lockfile.now) (take l.item-index l.reported));
  empty : l.sheet.page.bytes.items ≡ [];
  later : g.O.Sink.faults l.initial.out ≤ g.O.Sink.faults l.out;
}
