use Rattle.std.proofs.Common.{sym}
use Rattle.audit_advisory.specs.Points.{point_of}
use Rattle.audit_advisory.proofs.Replacing.{hits_at-named, hits_at-replaced}
use Rattle.audit_advisory.proofs.databases.Database.hits_at.Goals as goal

-- it is enough to look at the places of the name
pub returns-clause-at : goal.returns-clause-at
returns-clause-at c =
    rw (hits_at-named c.args.settings.now c.args.«package».now (point_of c.args.version.now) c.args.self.now, ← c.as_str.ensures, ← c.places_of-places.ensures.places, ← c.advisories.ensures)
    c.one_speaks_at.ensures

pub returns-clause-told : goal.returns-clause-told
returns-clause-told c text read =
    rw (
      sym (hits_at-replaced c.args.settings.now c.args.«package».now c.args.version.now c.args.self.now text read),
      hits_at-named c.args.settings.now c.args.«package».now (point_of c.args.version.now) c.args.self.now,
      ← c.as_str.ensures,
      ← c.places_of-places.ensures.places,
      ← c.advisories.ensures,
    )
    c.one_speaks_at.ensures
