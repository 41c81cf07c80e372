-- The kinds of errors and their texts (this project, after cargo-audit).
use Rattle.std.specs.Prelude.{ℕ, codes, List, ◌++◌}
use Rattle.audit_fix.specs.declared.errors.Error.{Error}
use Rattle.audit_fix.specs.declared.errors.ErrorKind.{ErrorKind}
use Rattle.audit_fix.specs.declared.errors.ErrorKind.TheVariants as kind

abbrev pub kind_text : ErrorKind → List ℕ
kind_text kind.Config = codes "config error"
kind_text kind.Io = codes "I/O error"
kind_text kind.Parse = codes "parse error"
kind_text kind.Version = codes "version error"
kind_text kind.Other = codes "other error"

-- the kind, and what is reported
abbrev pub error_text : Error → List ℕ
error_text e = kind_text e.kind ++ codes ": " ++ e.text
