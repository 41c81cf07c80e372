-- A name as text.
use Rattle.std.specs.Prelude.{ℕ, List}
use Rattle.tame_names.specs.declared.names.KrateName.{KrateName}

-- the bytes of a name
abbrev pub text_of : KrateName → List ℕ
text_of name = name.text.now
