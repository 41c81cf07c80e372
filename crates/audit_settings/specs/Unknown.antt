-- Keys that no setting has, and which of several is reported.
use Rattle.std.specs.Prelude.{◌≡◌, ℕ, List, [], ◌∷◌, ◌++◌, Option, Some, None, if◌then◌else◌}
use Rattle.std.specs.Ordering.{nat_cmp, is_le}
use Rattle.std.specs.List.{All, Contains}
use Rattle.std.specs.declared.cmp.Ordering.TheVariants.{Less}
use Rattle.std.specs.Cmp.Lexicographic.{slice_cmp}
use Rattle.toml.specs.Data.{Data, table, Members, no_members, member}
use Rattle.audit_settings.specs.Keys.{dotted, is_in, keys, name, section_of}
use Rattle.audit_settings.specs.declared.sections.Section.{Section}

-- the keys of a table that the section doesn't have
abbrev pub unknown_in : Section → Members → List (List ℕ)
unknown_in section no_members = []
unknown_in section (member k d ms) =
    if is_in k (keys section) then unknown_in section ms
    else dotted (name section) k ∷ unknown_in section ms

-- what is unknown at a name: the name itself, if no section has it, or keys of the table there
abbrev pub unknown_below : Option Section → List ℕ → Data → List (List ℕ)
unknown_below None text d = text ∷ []
unknown_below (Some section) text (table ms) = unknown_in section ms
unknown_below (Some section) text _ = []

-- all unknown keys, as `key` or `table.key`
abbrev pub unknown_keys : Members → List (List ℕ)
unknown_keys no_members = []
unknown_keys (member k d ms) = unknown_below (section_of k) k d ++ unknown_keys ms

-- the first of two strings in byte order
abbrev pub earlier : Option (List ℕ) → List ℕ → List ℕ
earlier None text = text
earlier (Some kept) text = if is_le (slice_cmp nat_cmp kept text) then kept else text

-- the first in byte order of one string and more
abbrev pub noted : Option (List ℕ) → List (List ℕ) → Option (List ℕ)
noted first [] = first
noted first (t ∷ ts) = noted (Some (earlier first t)) ts

abbrev pub first_in_order : List (List ℕ) → Option (List ℕ)
first_in_order texts = noted None texts

-- ---- what holds for it

-- a string isn't before this one in byte order
abbrev pub IsNotBefore : List ℕ → List ℕ → Type 0
IsNotBefore first text = slice_cmp nat_cmp text first ≡ Less → ⊥

-- a string is one of these, and none of them is before it
pub record IsFirst (first : List ℕ) (texts : List (List ℕ)) : Type 0 where
  pub among : Contains texts first
  pub least : All (IsNotBefore first) texts
