use Rattle.std.proofs.Common.{not, sym, ap, ◌∙◌, subst, List, ℕ}
use Rattle.std.specs.Ordering.{nat_cmp}
use Rattle.std.specs.Cmp.Lexicographic.{slice_cmp}
use Rattle.std.specs.List.{list_any}
use Rattle.std.specs.BTreeMap.{is_at}
use Rattle.std.specs.BTreeSet.{insert_key}
use Rattle.audit_core.specs.Plans.{with_path}
use Rattle.vendor_registry.specs.Grouped.{HasPaths}
use Rattle.vendor_registry.proofs.Sets.{path_among, paths_more}
use Rattle.vendor_registry.proofs.grouping.is_new.Goals as goal

pub returns-clause-new : goal.returns-clause-new
returns-clause-new c = λ qs h.
    c.in_ok-new.ensures.added ∙ ap (λ (p : List ℕ). not (list_any (is_at (slice_cmp nat_cmp p)) c.args.seen.now.keys)) c.in_ok-copy.ensures
    ∙ ap not (path_among c.args.seen.now.keys qs c.args.path.now h)

pub returns-clause-seen : goal.returns-clause-seen
returns-clause-seen c = λ qs h.
    subst (λ (keys : List (List ℕ)). HasPaths keys (with_path qs c.args.path.now))
    (sym (c.in_ok-new.ensures.keys ∙ ap (insert_key (slice_cmp nat_cmp) c.args.seen.now.keys) c.in_ok-copy.ensures))
    (paths_more c.args.seen.now.keys qs c.args.path.now h)
