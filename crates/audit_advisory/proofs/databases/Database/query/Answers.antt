use Rattle.audit_advisory.specs.Points.{point_of}
use Rattle.audit_advisory.proofs.Picking.{query-named}
use Rattle.audit_advisory.proofs.databases.Database.query.Goals as goal

-- it is enough to look at the places of the name
pub returns : goal.returns
returns c =
    rw (query-named c.args.«package».now (point_of c.args.version.now) c.args.self.now, ← c.places_of-places.ensures.places, ← c.advisories.ensures)
    c.warning_places.ensures
