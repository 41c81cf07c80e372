use Rattle.std.proofs.Common.{refl}
use Rattle.std.specs.Option.{option_cmp, option_map}
use Rattle.semver.specs.Identifiers.{parts_of}
use Rattle.tame_records.specs.Highest.{parts_cmp}
use Rattle.tame_records.proofs.Greatest.{options}
use Rattle.tame_records.proofs.HighestLemmas.{if_mapped}
use Rattle.tame_records.proofs.highest.highest_place.Goals as goal

pub returns-clause-greatest : goal.returns-clause-greatest
returns-clause-greatest c = if_mapped (option_map parts_of) _ (option_cmp parts_cmp) (options parts_of _ parts_cmp (λ a b. refl)) c.args.ranks.items c.last_greatest.result c.last_greatest.ensures.greatest
