use Rattle.audit_core.specs.Paths.{default_path, default_paths}
use Rattle.audit_core.proofs.EachOnce.{each_once, from_items}
use Rattle.audit_core.proofs.laws.asked_paths_are_the_distinct_paths.Goals as goal

pub returns : goal.returns
returns c = record {
  once = λ packages. each_once (default_paths packages);
  paths = λ packages. from_items default_path packages;
}
