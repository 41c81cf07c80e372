use Rattle.std.proofs.Common.{rules, ◌≡◌, Some, None}
use Rattle.std.specs.Result.{result_ok}
use Rattle.semver.specs.Identifiers.{parts_of}
use Rattle.semver.specs.Parse.{version_parts}
use Rattle.uses.proofs.Hitting.{none_hit, parts_read}
use Rattle.uses.proofs.audits.is_hit.Goals as goal

pub returns-in-Some : goal.returns-in-Some
returns-in-Some c =
    let text = c.args.«package».now.version in
    let read : Some (parts_of c.in-Some.version) ≡ result_ok (version_parts text) = search rules in
    c.hits_at.ensures.told text (parts_read (version_parts text) (parts_of c.in-Some.version) read)

pub returns-in-None : goal.returns-in-None
returns-in-None c =
    let read : None ≡ result_ok (version_parts c.args.«package».now.version) = search rules in
    none_hit c.args.settings.now c.args.«package».now c.args.database.now read
