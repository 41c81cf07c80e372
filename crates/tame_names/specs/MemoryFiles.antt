-- A host in memory, as lists (this project).
use Rattle.std.specs.Prelude.{◌≡◌, ◌≢◌, ℕ, List, [], ◌∷◌, length, nat_lt, bytes_eq, Option, Some, None, IfSome, Vec, if◌then◌else◌, Result, Ok, Err, IsErr}
use Rattle.std.specs.declared.alloc.Global.{Global}
use Rattle.tame_names.specs.Counts.{IsListed, next_call}
use Rattle.tame_names.specs.Paths.{plain_path}
use Rattle.tame_names.specs.Standing.{Host, Standing, Nothing, File, Folder, Other}
use Rattle.tame_names.specs.declared.host.EnvValue.{EnvValue}
use Rattle.tame_names.specs.declared.host.EnvValue.TheVariants as env_value
use Rattle.tame_names.specs.declared.host.FileFault.{FileFault}
use Rattle.tame_names.specs.declared.host.FileFault.TheVariants as file_fault
use Rattle.tame_names.specs.declared.host.Listed.{Listed}
use Rattle.tame_names.specs.declared.host.ReadAnswer.{ReadAnswer}
use Rattle.tame_names.specs.declared.host.ReadAnswer.TheVariants as answer
use Rattle.tame_names.specs.declared.memory_nodes.MemFile.{MemFile}
use Rattle.tame_names.specs.declared.memory_files.MemFiles.{MemFiles}
use Rattle.tame_names.specs.declared.memory_nodes.MemNode.{MemNode}
use Rattle.tame_names.specs.declared.memory_nodes.MemNode.TheVariants as node
use Rattle.tame_names.specs.declared.memory_variables.MemVariable.{MemVariable}

-- ---- what it has

-- the first at the path; slashes at the end of either don't count
abbrev pub file_at : List MemFile → List ℕ → Option MemFile
file_at [] path = None
file_at (file ∷ files) path =
    if bytes_eq (plain_path file.path) (plain_path path) then Some file else file_at files path

abbrev pub node_standing : MemNode → Standing
node_standing (node.File bytes) = File bytes
node_standing (node.Folder entries) = Folder entries
node_standing node.Other = Other

abbrev pub standing_of : Option MemFile → Standing
standing_of None = Nothing
standing_of (Some file) = node_standing file.node

-- what is at a path: the first that is there, or nothing
abbrev pub standing_in : List MemFile → List ℕ → Standing
standing_in files path = standing_of (file_at files path)

-- the value of a variable: that of the first with this name, or none
abbrev pub value_in : List MemVariable → List ℕ → EnvValue
value_in [] name = env_value.Unset
value_in (variable ∷ variables) name =
    if bytes_eq variable.name name then variable.value else value_in variables name

abbrev pub host_in : MemFiles → Host
host_in m = record {
  stands = standing_in m.files;
  input = m.input;
  environment = value_in m.variables;
  current = m.current;
}

-- ---- its calls

-- a read of it can succeed: nothing or a file is there
abbrev pub IsReadable : Standing → Type 0
IsReadable Nothing = Unit {0}
IsReadable (File bytes) = Unit {0}
IsReadable _ = ⊥

-- a read's answer that needs no memory: that nothing is there, or that a file is over the limit
abbrev pub read_free : Standing → ℕ → Option ReadAnswer
read_free Nothing limit = Some answer.Absent
read_free (File bytes) limit =
    if nat_lt limit (length bytes) then Some (answer.Over (length bytes)) else None
read_free _ limit = None

-- the answer of a read of a part that needs no memory: that nothing is there
abbrev pub part_free : Standing → Option (Option (Vec ℕ Global))
part_free Nothing = Some None
part_free _ = None

-- a listing's answer that needs no memory: that no folder is there
abbrev pub list_free : Standing → Option (Option (List Listed))
list_free (Folder entries) = None
list_free _ = Some None

-- the value of a variable that needs no memory: any but a string
abbrev pub value_free : EnvValue → Option EnvValue
value_free (env_value.Value text) = None
value_free value = Some value

-- one call more is counted. If its number is listed, it fails. Else, if it can succeed, it does
-- unless it is out of memory; and an answer that needs no memory comes. Each failure is counted, no
-- other call is, and the locks stay
pub record Counted {T : Type 0} (can : Type 0) (free : Option T) (old new : MemFiles)
    (result : Result T FileFault) : Type 0 where
  pub count : new.calls ≡ next_call old.calls
  pub listed : new.fails ≡ old.fails
  pub fails : IsListed new.calls old.fails → IsErr result
  pub unlisted : ¬ (IsListed new.calls old.fails) → can → result ≢ Err file_fault.Failed
  pub fed : ¬ (IsListed new.calls old.fails) → IfSome free (λ a. result ≡ Ok a)
  pub counted : result ≡ Err file_fault.Failed → new.faults ≡ next_call old.faults
  pub uncounted : result ≢ Err file_fault.Failed → new.faults ≡ old.faults
  pub locks : new.locks ≡ old.locks
