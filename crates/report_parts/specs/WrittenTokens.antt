-- What a writer has written.
use Rattle.std.specs.Prelude.{◌≡◌, List, ◌++◌}
use Rattle.json.specs.Token.{Token}
use Rattle.json.specs.Written.{Written}

-- these tokens were written after the others
pub record WritesTokens (old new : Written) (added : List Token) : Type 0 where
  pub tokens : new.tokens ≡ old.tokens ++ added
  pub before : new.before ≡ old.before
