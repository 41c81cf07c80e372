-- Members of a JSON object, by form (RFC 8259; Cargo Book, "Registry Index", JSON schema). None:
-- the form is broken.
use Rattle.std.specs.Prelude.{ℕ, ◌^◌, List, [], ◌∷◌, Bool, false, Option, Some, None, option_map, option_and_then, if◌then◌else◌, nat_lt}
use Rattle.std.specs.BTreeMap.{insert_entry}
use Rattle.std.specs.Cmp.Lexicographic.{slice_cmp}
use Rattle.std.specs.Ordering.{nat_cmp}
use Rattle.serde_json.specs.Data.{Data, null, number, string, object, Items, no_items, item, Members, no_members, member, unsigned}
use Rattle.serde_json.specs.Find.{get, as_str, as_bool, as_array, as_object}

-- a required string
abbrev pub text_at : List ℕ → Data → Option (List ℕ)
text_at key d = option_and_then as_str (get key d)

-- null or absent: no string
abbrev pub text_or_null : Option Data → Option (Option (List ℕ))
text_or_null None = Some None
text_or_null (Some null) = Some None
text_or_null (Some (string s)) = Some (Some s)
text_or_null (Some _) = None

-- a required flag
abbrev pub flag_at : List ℕ → Data → Option Bool
flag_at key d = option_and_then as_bool (get key d)

-- absent: false
abbrev pub flag_or_false : Option Data → Option Bool
flag_or_false None = Some false
flag_or_false (Some d) = as_bool d

-- null or absent: no number; else a whole number below 2^32
abbrev pub u32_or_null : Option Data → Option (Option ℕ)
u32_or_null None = Some None
u32_or_null (Some null) = Some None
u32_or_null (Some (number (unsigned n))) = if nat_lt n (2 ^ 32) then Some (Some n) else None
u32_or_null (Some _) = None

abbrev pub texts_of : Items → Option (List (List ℕ))
texts_of no_items = Some []
texts_of (item d ds) = option_and_then (λ t. option_map (λ ts. t ∷ ts) (texts_of ds)) (as_str d)

-- a required array of strings
abbrev pub texts_at : List ℕ → Data → Option (List (List ℕ))
texts_at key d = option_and_then texts_of (option_and_then as_array (get key d))

-- lists of strings at names, in the byte order of the names
abbrev pub Lists : Type 0
Lists = List (List ℕ × List (List ℕ))

-- the lists, with those of these members added at their names
abbrev pub lists_with : Lists → Members → Option Lists
lists_with ls no_members = Some ls
lists_with ls (member k d ms) =
    option_and_then (λ ts. lists_with (insert_entry (slice_cmp nat_cmp) ls k ts) ms)
    (option_and_then texts_of (as_array d))

-- a required object of arrays of strings
abbrev pub lists_at : List ℕ → Data → Option Lists
lists_at key d = option_and_then (lists_with []) (option_and_then as_object (get key d))

-- null or absent: no lists
abbrev pub lists_or_null : Option Data → Option (Option Lists)
lists_or_null None = Some None
lists_or_null (Some null) = Some None
lists_or_null (Some (object ms)) = option_map (λ ls. Some ls) (lists_with [] ms)
lists_or_null (Some _) = None
