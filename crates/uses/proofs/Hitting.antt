-- Whether some advisory hits a package, by the text of its version.
use Rattle.std.proofs.Common.{◌≡◌, List, [], ◌∷◌, Bool, true, false, Some, None, Result, Ok, Err, refl, sym, ap, ◌∙◌}
use Rattle.std.specs.Prelude.{◌&&◌, bytes_eq}
use Rattle.std.specs.List.{list_any}
use Rattle.std.specs.Result.{result_ok}
use Rattle.semver.specs.Parse.{Parts, version_parts}
use Rattle.audit_lock.specs.declared.resolving.Package.{Package}
use Rattle.audit_advisory.specs.Hits.{fits, vulnerable_parts}
use Rattle.audit_advisory.specs.Reports.{counts, is_plain, is_vulnerability}
use Rattle.audit_advisory.specs.declared.advisories.Advisory.{Advisory}
use Rattle.audit_advisory.specs.declared.settings.Settings.{Settings}

-- a text that is a version is read as its parts
pub parts_read : {E : Type 0} (r : Result Parts E) (p : Parts) → Some p ≡ result_ok r → r ≡ Ok p
parts_read (Ok q) p h = cc
parts_read (Err e) p h = cc

never : (plain counted named fitting : Bool) → (plain && counted && (named && (fitting && false))) ≡ false
never false counted named fitting = refl
never true false named fitting = refl
never true true false fitting = refl
never true true true false = refl
never true true true true = refl

not_hit : (settings : Settings) (p : Package) (a : Advisory) → None ≡ result_ok (version_parts p.version) → is_vulnerability settings p a ≡ false
not_hit settings p a h =
    ap (λ parts. is_plain a && counts settings a && (bytes_eq a.metadata.«package» p.name && (fits settings a p && vulnerable_parts a.versions parts))) (sym h)
    ∙ never (is_plain a) (counts settings a) (bytes_eq a.metadata.«package» p.name) (fits settings a p)

-- a text that is no version is hit by none
pub none_hit : (settings : Settings) (p : Package) (advisories : List Advisory) → None ≡ result_ok (version_parts p.version)
    → false ≡ list_any (is_vulnerability settings p) advisories
none_hit settings p [] h = refl
none_hit settings p (a ∷ more) h = rw (not_hit settings p a h) (none_hit settings p more h)
