use Rattle.std.proofs.Common.{◌≡◌, ◌<◌, map, length, ap, arith, refl, subst, Some, rules}
use Rattle.std.specs.Prelude.{slice_get}
use Rattle.std.specs.Option.{option_cmp, option_map}
use Rattle.semver.specs.Identifiers.{parts_of}
use Rattle.tame_records.specs.Highest.{IsLastGreatest, by_normal_precedence, normal_precedence, parts_cmp}
use Rattle.tame_records.proofs.Greatest.{greatest_unmapped}
use Rattle.tame_records.proofs.HighestLemmas.{highest_normal, read_at, same_length}
use Rattle.tame_records.proofs.krates.IndexKrate.highest_normal_version.Goals as goal

pub returns : goal.returns
returns c =
    let versions = c.args.self.now.versions in
    let ranks : map (option_map parts_of) c.in_ok-ranks.ranks.items ≡ map normal_precedence versions = search rules in
    let same : c.as_slice-versions.result.now ≡ versions = c.as_slice-versions.ensures in
    let long : length c.in_ok-ranks.ranks.items ≡ length versions = same_length (option_map parts_of) normal_precedence _ versions ranks in
    let within : c.in-Some.place < length c.as_slice-versions.result.now = omega (arith, c.in-Some.ensures.within, long, ap length same) in
    let at : slice_get versions c.in-Some.place ≡ Some c.index-versions-place.result = read_at versions _ c.in-Some.place _ same within c.index-versions-place.is in
    let found = subst (λ rs. IsLastGreatest (option_cmp parts_cmp) rs c.in-Some.place c.in-Some.ensures.greatest.0) ranks c.in-Some.ensures.greatest.1 in
    highest_normal c.normal_version.result versions c.in-Some.place c.index-versions-place.result
    (greatest_unmapped normal_precedence by_normal_precedence (option_cmp parts_cmp) (λ x y. refl) versions c.in-Some.place c.index-versions-place.result _ at found) c.normal_version.ensures
