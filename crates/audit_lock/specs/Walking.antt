-- What a walk adds to a text.
use Rattle.std.specs.Prelude.{◌≡◌, ℕ, List, ◌++◌, Bool}
use Rattle.audit_lock.specs.declared.resolving.Package.{Package}
use Rattle.audit_lock.specs.Rendering.{Walked, text_of}

-- the lines of a walk were added to the text, and these packages were met when it ended
pub record Shows (packages : List Package) (walked : Walked) (before now : List ℕ)
    (met : List Bool) : Type 0 where
  pub added : now ≡ before ++ text_of packages walked.lines
  pub marked : met ≡ walked.met
