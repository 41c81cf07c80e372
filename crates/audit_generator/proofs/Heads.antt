-- The head of a generated advisory, as a table.
use Rattle.std.proofs.Common.{◌≡◌, ℕ, suc, true, false, List, [], ◌∷◌, ◌++◌, length, codes, Some, refl, ap, ◌∙◌, arith}
use Rattle.std.specs.List.{list_all}
use Rattle.toml_writer.specs.Text.{key_text}
use Rattle.toml.specs.Data.{string, table, Members, member, no_members}
use Rattle.toml.specs.Tables.{Expression, Document, no_nodes, key_value, std_table, close, along_header, along_dots, at_key, define}
use Rattle.toml.specs.Text.{IsLineText, IsLinesText}
use Rattle.toml.specs.Parse.{parse_document, skip_bom}
use Rattle.toml.proofs.Turns.{document_some}
use Rattle.toml.proofs.ReadLines.{AllPrinted, run, read_lines}
use Rattle.audit_generator.specs.Packages.{text_line}
use Rattle.audit_generator.proofs.Texts.{is_simple}
use Rattle.audit_generator.proofs.Lines.{one_more, one_text, one_text_writes, pair, quoted_line}
use Rattle.audit_generator.proofs.Fenced.{behind, head_with}

-- ---- the lines of the head

abbrev advisory_lines : List ℕ → List ℕ → List Expression
advisory_lines id name =
    (([], codes "advisory"), std_table) ∷ pair (codes "id") (string id)
    ∷ pair (codes "package") (string name)
    ∷ pair (codes "date") (string (codes "2099-01-01"))
    ∷ (([], codes "versions"), std_table)
    ∷ pair (codes "patched") (one_text (codes ">=1.3.0")) ∷ []

header_line : IsLineText false false ([], codes "advisory") std_table (codes "[advisory]\n")
unfolding key_text
header_line = refl

versions_line : IsLineText false true ([], codes "versions") std_table (codes "\n[versions]\n")
unfolding key_text
versions_line = refl

bare_id : key_text (codes "id") ≡ codes "id"
unfolding key_text
bare_id = refl

bare_package : key_text (codes "package") ≡ codes "package"
unfolding key_text
bare_package = refl

bare_date : key_text (codes "date") ≡ codes "date"
unfolding key_text
bare_date = refl

bare_patched : key_text (codes "patched") ≡ codes "patched"
unfolding key_text
bare_patched = refl

patched_line : IsLineText false true ([], codes "patched") (key_value (one_text (codes ">=1.3.0"))) (codes "patched = [\">=1.3.0\"]\n")
patched_line = (codes "[\">=1.3.0\"]", rw bare_patched refl, one_text_writes (codes ">=1.3.0") refl)

head_writes : (id name : List ℕ) → list_all is_simple id ≡ true → list_all is_simple name ≡ true → IsLinesText false false (advisory_lines id name) (head_with id name)
head_writes id name a b =
    let patched = pair (codes "patched") (one_text (codes ">=1.3.0")) ∷ [] in
    let versions = (([], codes "versions"), std_table) ∷ patched in
    let dated = pair (codes "date") (string (codes "2099-01-01")) ∷ versions in
    let named = pair (codes "package") (string name) ∷ dated in
    let last = codes "patched = [\">=1.3.0\"]\n" in
    let more = codes "\n[versions]\n" ++ last in
    let one : IsLinesText false true patched last = (last, [], refl, patched_line, refl) in
    let two : IsLinesText false true versions more = one_more (([], codes "versions"), std_table) patched (codes "\n[versions]\n") last versions_line one in
    let three : IsLinesText false true dated behind = one_more (pair (codes "date") (string (codes "2099-01-01"))) versions (text_line (codes "date") (codes "2099-01-01")) more (quoted_line (codes "date") (codes "2099-01-01") bare_date refl) two in
    let four : IsLinesText false true named (text_line (codes "package") name ++ behind) = one_more (pair (codes "package") (string name)) dated (text_line (codes "package") name) behind (quoted_line (codes "package") name bare_package b) three in
    let five : IsLinesText false true (pair (codes "id") (string id) ∷ named) (text_line (codes "id") id ++ (text_line (codes "package") name ++ behind)) =
    one_more (pair (codes "id") (string id)) named (text_line (codes "id") id) (text_line (codes "package") name ++ behind) (quoted_line (codes "id") id bare_id a) four in
    (codes "[advisory]\n", text_line (codes "id") id ++ (text_line (codes "package") name ++ behind), refl, header_line, five)

head_printed : (id name : List ℕ) → AllPrinted (advisory_lines id name)
head_printed id name =
    (omega arith, ((refl, omega arith, refl), ((refl, omega arith, refl), ((refl, omega arith, refl), (omega arith, ((refl, omega arith, refl), tt))))))

-- ---- the table of the head

abbrev advisory_members : List ℕ → List ℕ → Members
advisory_members id name =
    member (codes "date") (string (codes "2099-01-01")) (member (codes "id") (string id)
    (member (codes "package") (string name) no_members))

abbrev version_members : Members
version_members = member (codes "patched") (one_text (codes ">=1.3.0")) no_members

abbrev pub head_members : List ℕ → List ℕ → Members
head_members id name =
    member (codes "advisory") (table (advisory_members id name)) (member (codes "versions") (table version_members) no_members)

head_runs : (id name : List ℕ) → (doc : Document) × (run (no_nodes, []) (advisory_lines id name) ≡ Some doc) × (close doc.0 ≡ head_members id name)
unfolding along_header along_dots at_key define
head_runs id name = (_, refl, refl)

pub head_parses : (id name : List ℕ) → list_all is_simple id ≡ true → list_all is_simple name ≡ true → parse_document (head_with id name) ≡ Some (head_members id name)
unfolding skip_bom
head_parses id name a b =
    let text = head_with id name in
    let es = advisory_lines id name in
    let read = read_lines false false es text text (no_nodes, []) (suc (length text)) (head_writes id name a b) (head_printed id name) refl (omega arith) in
    let (doc, ran, closed) = head_runs id name in
    document_some text doc (read ∙ ran) ∙ ap Some closed
