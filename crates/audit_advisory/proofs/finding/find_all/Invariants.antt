use Rattle.std.proofs.Common.{◌≡◌, ◌++◌, ℕ, ◌+◌, ◌*◌, ◌^◌, ◌<◌, ◌≤◌, length, drop}
use Rattle.audit_advisory.specs.Reports.{is_vulnerability, is_warning, vulnerabilities_of, vulnerability_at, warning_at, warnings_of}
use Rattle.audit_advisory.specs.declared.outputs.WarningKind.TheVariants as kind
use Rattle.audit_advisory.proofs.Picking.{told_from}
use Rattle.audit_advisory.proofs.finding.find_all.Given as goal

-- each list so far, before what is left of it
abbrev pub invariant-loop-i : goal.invariant-loop-i
invariant-loop-i l = record {
  vulnerabilities : vulnerabilities_of l.settings l.database l.packages
      ≡ l.found.vulnerabilities ++ told_from vulnerability_at (is_vulnerability l.settings) l.database l.i (drop l.i l.packages);
  notices : warnings_of l.settings l.database l.packages kind.Notice
      ≡ l.found.notices ++ told_from (warning_at kind.Notice) (is_warning l.settings kind.Notice) l.database l.i (drop l.i l.packages);
  unmaintained : warnings_of l.settings l.database l.packages kind.Unmaintained
      ≡ l.found.unmaintained ++ told_from (warning_at kind.Unmaintained) (is_warning l.settings kind.Unmaintained) l.database l.i (drop l.i l.packages);
  unsound : warnings_of l.settings l.database l.packages kind.Unsound
      ≡ l.found.unsound ++ told_from (warning_at kind.Unsound) (is_warning l.settings kind.Unsound) l.database l.i (drop l.i l.packages);
  most : (d : ℕ) → length l.database < 2 ^ d → l.count.made ≤ l.fn.count.made + 2 * l.i * d;
  least : l.fn.count.made ≤ l.count.made;
}
