use Rattle.audit_report.proofs.Kept.{kept_named}
use Rattle.audit_report.proofs.laws.kept_paths_are_symbols_with_gaps.Goals as goal

pub returns : goal.returns
returns c = kept_named
