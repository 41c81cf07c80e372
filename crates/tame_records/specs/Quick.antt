-- A line read byte by byte, next to its tokens. For private clauses.
use Rattle.std.specs.Prelude.{◌≡◌, ◌||◌, ◌==◌, ℕ, List, ◌∷◌, drop, Bool, true, Some, option_map}
use Rattle.json.specs.Token.{Token, string}
use Rattle.json.specs.Text.{content, plain}
use Rattle.json.specs.Word.{head}
use Rattle.json.specs.Lex.{Place, after_value, between, in_string, lex, may_begin, punctuate, token}
use Rattle.serde_json.specs.Data.{Data}
use Rattle.tame_records.specs.VersionFlags.{IsValue, Seen}
use Rattle.tame_records.specs.declared.quick_version_flags.VersionSeen.{VersionSeen}

-- the tokens from a byte on, if this place is reached
abbrev pub left : List ℕ → Place → ℕ → List Token
left bytes p at = punctuate p (lex between (drop at bytes))

-- a comma or a closing bracket comes next
abbrev pub ends : List ℕ → Bool
ends xs = (head xs == 44) || (head xs == 125) || (head xs == 93)

-- the bytes after a quote are the string s up to its quote, and ys follows
abbrev pub HasText : List ℕ → List ℕ → List ℕ → Type 0
HasText xs s ys = (content plain xs ≡ Some s) × (lex in_string xs ≡ lex between ys)

-- the string s is here, and ends before e
abbrev pub TextAt : List ℕ → ℕ → List ℕ → ℕ → Type 0
TextAt bytes at s e = lex between (drop at bytes) ≡ token (string s) ∷ lex between (drop e bytes)

-- a value that reads as d is here, and ends before e, if a comma or a closing bracket follows
abbrev pub ValueAt : ℕ → List ℕ → ℕ → Data → ℕ → Type 0
ValueAt n bytes at d e =
    (p : Place) → may_begin p ≡ true → ends (drop e bytes) ≡ true
    → IsValue n (left bytes p at) d (left bytes after_value e)

abbrev pub TakesAt : ℕ → (Data → Bool) → List ℕ → ℕ → ℕ → Type 0
TakesAt n form bytes at e = (d : Data) × ValueAt n bytes at d e × (form d ≡ true)

abbrev pub seen_of : VersionSeen → Seen
seen_of s = record {
  name = s.name;
  version = option_map (λ t. t.now) s.version;
  deps = s.deps;
  checksum = s.checksum;
  features = s.features;
  yanked = s.yanked;
}
