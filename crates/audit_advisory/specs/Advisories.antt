-- The advisory that a text is, or the first rule that it breaks.
use Rattle.std.specs.Prelude.{ℕ, codes, List, [], ◌∷◌, ◌&&◌, ◌==◌, Option, Some, None, option_map, option_and_then, if◌then◌else◌, Result, Ok, Err}
use Rattle.toml.specs.Data.{Data, Members, no_members, member, as_table, get_member}
use Rattle.toml.specs.Parse.{parse_document}
use Rattle.toml_tables.specs.Results.{and_then, or_fault}
use Rattle.toml_tables.specs.Floats.{members_have_float}
use Rattle.toml_tables.specs.Members.{optional, optional_texts, required, texts_of}
use Rattle.audit_advisory.specs.Fences.{fenced, titled}
use Rattle.audit_advisory.specs.Fields.{metadata_of, or_rule}
use Rattle.audit_advisory.specs.Requirements.{requirements_of}
use Rattle.audit_advisory.specs.Versions.{versions_of}
use Rattle.audit_advisory.specs.declared.faults.AdvisoryFault.{AdvisoryFault}
use Rattle.audit_advisory.specs.declared.faults.AdvisoryFault.TheVariants as fault
use Rattle.audit_advisory.specs.declared.faults.AdvisoryRule.TheVariants as rule
use Rattle.audit_advisory.specs.declared.affected.Function.{Function}
use Rattle.audit_advisory.specs.declared.affected.Affected.{Affected}
use Rattle.audit_advisory.specs.declared.advisories.Advisory.{Advisory}
use Rattle.audit_advisory.specs.declared.versions.Versions.{Versions}

-- ---- `[versions]`

-- the strings at a key, none if it is absent; or a broken rule
abbrev pub version_texts : List ℕ → Members → Result (List (List ℕ)) AdvisoryFault
version_texts key ms = or_rule rule.Versions (optional_texts (get_member key ms))

abbrev pub versions_in : Members → Result Versions AdvisoryFault
versions_in ms =
    and_then (λ patched. and_then (λ unaffected. versions_of patched unaffected)
    (version_texts (codes "unaffected") ms)) (version_texts (codes "patched") ms)

-- ---- `[affected]`

-- the segments of a path, divided by two colons
abbrev pub onto_segment : ℕ → List (List ℕ) → List (List ℕ)
onto_segment b [] = (b ∷ []) ∷ []
onto_segment b (segment ∷ more) = (b ∷ segment) ∷ more

abbrev pub segments : List ℕ → List (List ℕ)
segments [] = [] ∷ []
segments (a ∷ []) = (a ∷ []) ∷ []
segments (a ∷ b ∷ bs) =
    if a == 58 && b == 58 then [] ∷ segments bs else onto_segment a (segments (b ∷ bs))

-- an array of requirements
abbrev pub requirements_in : Data → Option (List (List ℕ))
requirements_in d = option_and_then requirements_of (texts_of d)

-- a path with its requirements
abbrev pub function_of : List ℕ → Data → Option Function
function_of path d = option_map (λ rs. record {
  path = segments path;
  versions = rs;
}) (requirements_in d)

-- each path with its requirements, in the order of the table
abbrev pub functions_of : Members → Option (List Function)
functions_of no_members = Some []
functions_of (member path d ms) =
    option_and_then (λ f. option_map (λ fs. f ∷ fs) (functions_of ms)) (function_of path d)

-- absent, or a table of functions; the argument is the table, if there is one
abbrev pub functions_in : Option Members → Option (List Function)
functions_in None = Some []
functions_in (Some ms) = functions_of ms

abbrev pub functions_or_absent : Option Data → Option (List Function)
functions_or_absent m = option_and_then functions_in (optional as_table m)

abbrev pub affected_of : Members → Option Affected
affected_of ms =
    option_and_then (λ arch. option_and_then (λ os. option_map (λ functions.
    record { arch = arch; os = os; functions = functions })
    (functions_or_absent (get_member (codes "functions") ms)))
    (optional_texts (get_member (codes "os") ms))) (optional_texts (get_member (codes "arch") ms))

-- absent, or a table; the argument is the table, if there is one
abbrev pub affected_in : Option Members → Option Affected
affected_in None = Some (record { arch = []; os = []; functions = [] })
affected_in (Some ms) = affected_of ms

abbrev pub affected_or_absent : Option Data → Option Affected
affected_or_absent m = option_and_then affected_in (optional as_table m)

-- ---- the whole

-- the fields, with a title and a description
abbrev pub fields_of : Members → List ℕ × List ℕ → Result Advisory AdvisoryFault
fields_of ms titles =
    and_then (λ metadata. and_then (λ versions. and_then (λ affected.
    Ok (record {
      metadata = metadata;
      versions = versions;
      arch = affected.arch;
      os = affected.os;
      functions = affected.functions;
    }))
    (or_rule rule.Affected (affected_or_absent (get_member (codes "affected") ms))))
    (and_then versions_in (or_rule rule.Versions
    (required as_table (get_member (codes "versions") ms)))))
    (and_then (metadata_of titles)
    (or_rule rule.Advisory (required as_table (get_member (codes "advisory") ms))))

-- TOML without floats
abbrev pub without_floats : Members → Result Members AdvisoryFault
without_floats ms = if members_have_float ms then Err fault.Float else Ok ms

abbrev pub head_of : List ℕ → Result Members AdvisoryFault
head_of head = and_then without_floats (or_fault fault.Toml (parse_document head))

-- read in this order: the head, the title, the fields; `parted` is the head and what follows it
abbrev pub advisory_in : List ℕ × List ℕ → Result Advisory AdvisoryFault
advisory_in parted =
    and_then (λ ms. and_then (fields_of ms) (or_rule rule.Title (titled parted.1)))
    (head_of parted.0)

-- the advisory that a text is, or the first rule that it breaks
abbrev pub advisory_of : List ℕ → Result Advisory AdvisoryFault
advisory_of text = and_then advisory_in (or_fault fault.Fence (fenced text))
