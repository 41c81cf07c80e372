-- Findings and their lines: the compact text of a JSON array of five strings (RFC 8259; this
-- project).
use Rattle.std.specs.Prelude.{ℕ, codes, List, Bool, ◌&&◌, bytes_eq, Option, Some, None, option_and_then, option_map, is_some, if◌then◌else◌}
use Rattle.std.specs.List.{list_any}
use Rattle.json.specs.Json.{Json, array, string, item, no_items}
use Rattle.json.specs.Print.{print}
use Rattle.json.specs.Tree.{json_tokens}
use Rattle.serde_json.specs.Data.{Data}
use Rattle.serde_json.specs.Find.{as_str, at}
use Rattle.serde_json.specs.Read.{read}
use Rattle.known_findings.specs.declared.findings.Finding.{Finding}
use Rattle.known_findings.specs.declared.findings.FindingKind.{FindingKind}
use Rattle.known_findings.specs.declared.findings.FindingKind.TheVariants as kind

-- ---- words

abbrev pub kind_word : FindingKind → List ℕ
kind_word kind.Vulnerability = codes "vulnerability"
kind_word kind.Notice = codes "notice"
kind_word kind.Unmaintained = codes "unmaintained"
kind_word kind.Unsound = codes "unsound"
kind_word kind.Yanked = codes "yanked"

-- the kind of a word; none for any other text
abbrev pub kind_of : List ℕ → Option FindingKind
kind_of word =
    if bytes_eq word (codes "vulnerability") then Some kind.Vulnerability
    else if bytes_eq word (codes "notice") then Some kind.Notice
    else if bytes_eq word (codes "unmaintained") then Some kind.Unmaintained
    else if bytes_eq word (codes "unsound") then Some kind.Unsound
    else if bytes_eq word (codes "yanked") then Some kind.Yanked
    else None

-- ---- written

-- the array of kind, id, name, version and source
abbrev pub finding_tree : Finding → Json
finding_tree f = array (item (string (kind_word f.kind)) (item (string f.id) (item (string f.name)
    (item (string f.version) (item (string f.source) no_items)))))

-- its compact text
unfoldable pub line : Finding → List ℕ
line f = print (json_tokens (finding_tree f))

-- ---- read

-- the text at a position of an array
abbrev pub text_at : ℕ → Data → Option (List ℕ)
text_at place d = option_and_then as_str (at place d)

-- the finding in an array of exactly five texts, of which the first is a kind's word
abbrev pub finding_of_data : Data → Option Finding
finding_of_data d =
    if is_some (at 5 d) then None
    else option_and_then (λ k. option_and_then (λ id. option_and_then
    (λ name. option_and_then (λ version. option_map
    (λ source. record { kind = k; id = id; name = name; version = version; source = source })
    (text_at 4 d)) (text_at 3 d)) (text_at 2 d)) (text_at 1 d))
    (option_and_then kind_of (text_at 0 d))

-- the finding of a line, with any spacing; any other line has none
abbrev pub finding_of : List ℕ → Option Finding
finding_of text = option_and_then finding_of_data (read text)

-- ---- compared

abbrev pub same_kind : FindingKind → FindingKind → Bool
same_kind a b = bytes_eq (kind_word a) (kind_word b)

-- two findings are the same: in all five members
abbrev pub is_same : Finding → Finding → Bool
is_same f g =
    same_kind f.kind g.kind && bytes_eq f.id g.id && bytes_eq f.name g.name
    && bytes_eq f.version g.version && bytes_eq f.source g.source

-- a finding is one of these
abbrev pub is_among : Finding → List Finding → Bool
is_among f fs = list_any (is_same f) fs
