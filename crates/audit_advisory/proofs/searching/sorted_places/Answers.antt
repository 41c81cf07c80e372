use Rattle.std.proofs.Common.{length, arith, rules, ap}
use Rattle.std.proofs.lemmas.Cmp.{nat_list_cmp_total}
use Rattle.audit_advisory.specs.Names.{name_at}
use Rattle.audit_advisory.proofs.Ordered.{sorted_once, length_places}
use Rattle.audit_advisory.proofs.searching.sorted_places.Goals as goal

pub returns : goal.returns
returns c =
    let once = sorted_once nat_list_cmp_total (name_at c.args.advisories.now) c.in_ok-places.places.items c.sort_by.new.self.items c.sort_by.ensures.permutation
    c.in_ok-sort_by.ensures.sorted c.sort_by.ensures.stable (λ a r f called. search rules) in
    rw c.of.ensures record {
      sorted = once.0;
      same = λ q. rw c.in_ok-places.ensures at (once.1 q);
      long = omega (arith, c.sort_by.ensures.len, ap length c.in_ok-places.ensures, length_places 0 c.args.advisories.now);
    }
