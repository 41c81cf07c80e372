-- Why reading cargo's settings may be refused (this project).
use Rattle.tame_names.specs.declared.errors.Error.{Error}
use Rattle.tame_names.specs.declared.errors.Error.TheVariants as error
use Rattle.tame_names.specs.declared.errors.IoKind.TheVariants as io

-- the reasons why a file of settings can't be used: it can't be read, isn't UTF-8 or is no TOML; or
-- out of memory
abbrev pub IsFileError : Error → Type 0
IsFileError (error.IoPath io.Failed path) = Unit {0}
IsFileError (error.IoPath io.InvalidData path) = Unit {0}
IsFileError error.Toml = Unit {0}
IsFileError error.NoMemory = Unit {0}
IsFileError _ = ⊥
