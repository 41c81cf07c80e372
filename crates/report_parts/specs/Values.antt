-- JSON values, with the members of an object in their order (RFC 8259).
use Rattle.std.specs.Prelude.{ℕ, Bool, decimal, List, [], ◌∷◌, map, Option, Some, None, if◌then◌else◌}
use Rattle.std.specs.List.{flat_map}
use Rattle.json.specs.Json.{Json, null, number, string, array, object, Items, no_items, item, Members, no_members, member}
use Rattle.json.specs.Print.{print}
use Rattle.json.specs.Token.{Token, key}
use Rattle.json.specs.Tree.{json_tokens}

abbrev pub members_of : List (List ℕ × Json) → Members
members_of [] = no_members
members_of (m ∷ ms) = member m.0 m.1 (members_of ms)

-- an object of these members
abbrev pub object_of : List (List ℕ × Json) → Json
object_of ms = object (members_of ms)

abbrev pub items_of : List Json → Items
items_of [] = no_items
items_of (j ∷ js) = item j (items_of js)

abbrev pub array_of : List Json → Json
array_of js = array (items_of js)

abbrev pub texts : List (List ℕ) → Json
texts ts = array_of (map string ts)

abbrev pub text_or_null : Option (List ℕ) → Json
text_or_null None = null
text_or_null (Some t) = string t

abbrev pub count : ℕ → Json
count n = number (decimal n)

abbrev pub count_or_null : Option ℕ → Json
count_or_null None = null
count_or_null (Some n) = count n

-- the compact text of a value
abbrev pub json_text : Json → List ℕ
json_text j = print (json_tokens j)

-- the tokens of these members, without brackets
abbrev pub listed_tokens : List (List ℕ × Json) → List Token
listed_tokens ms = flat_map (λ m. key m.0 ∷ json_tokens m.1) ms

-- a member, or none
abbrev pub member_if : Bool → List ℕ → Json → List (List ℕ × Json)
member_if stands name j = if stands then (name, j) ∷ [] else []
