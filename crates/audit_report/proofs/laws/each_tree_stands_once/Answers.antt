use Rattle.audit_report.proofs.Once.{block_behind, shown_after-all}
use Rattle.audit_report.proofs.laws.each_tree_stands_once.Goals as goal

pub returns-clause-shown : goal.returns-clause-shown
returns-clause-shown c = shown_after-all

pub returns-clause-text : goal.returns-clause-text
returns-clause-text c = block_behind
