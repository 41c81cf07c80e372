-- What the lines of the lockfile define.
use Rattle.std.proofs.Common.{◌≡◌, ℕ, suc, false, List, [], ◌∷◌, ◌++◌, length, codes, Some, refl, sym, ap, ◌∙◌, arith, pos}
use Rattle.std.specs.List.{flat_map}
use Rattle.toml.specs.Data.{string, integer, array, table, Items, no_items, item, Members, member, no_members, push_item}
use Rattle.toml.specs.Tables.{Nodes, no_nodes, node, value, open_array, close, Document, along_header, along_dots, at_key, define}
use Rattle.toml.specs.Parse.{parse_document, skip_bom}
use Rattle.toml.proofs.Turns.{document_some}
use Rattle.toml.proofs.ReadLines.{run, read_lines}
use Rattle.toml.proofs.ReadValues.{item_join, item_join-none, item_join-push}
use Rattle.toml.proofs.Fill.{run-append}
use Rattle.audit_generator.specs.Packages.{name_at, version_at, default_source, places_at, package_text}
use Rattle.audit_generator.proofs.Lines.{one_text, lines_with, package_lines, lockfile_lines, lockfile_writes, lockfile_printed, AllSmall}

-- ---- the table of a package

abbrev named_nodes : List ℕ → List ℕ → Nodes
named_nodes name version =
    node (codes "name") (value (string name)) (node (codes "source") (value (string default_source))
    (node (codes "version") (value (string version)) no_nodes))

abbrev nodes_with : List ℕ → List ℕ → List ℕ → Nodes
nodes_with name version [] = named_nodes name version
nodes_with name version (place ∷ places) =
    node (codes "dependencies") (value (one_text (name_at place))) (named_nodes name version)

abbrev named_members : List ℕ → List ℕ → Members
named_members name version =
    member (codes "name") (string name) (member (codes "source") (string default_source)
    (member (codes "version") (string version) no_members))

abbrev pub members_with : List ℕ → List ℕ → List ℕ → Members
members_with name version [] = named_members name version
members_with name version (place ∷ places) =
    member (codes "dependencies") (one_text (name_at place)) (named_members name version)

close_package : (name version places : List ℕ) → close (nodes_with name version places) ≡ members_with name version places
close_package name version [] = refl
close_package name version (place ∷ places) = refl

abbrev pub package_members : ℕ → Members
package_members k = members_with (name_at k) (version_at k) (places_at k)

-- the tables of packages
abbrev pub tables : List ℕ → Items
tables [] = no_items
tables (k ∷ ks) = item (table (package_members k)) (tables ks)

-- ---- the document after packages

abbrev state : Items → Nodes → Document
state done last =
    (node (codes "package") (open_array done last) (node (codes "version") (value (integer (pos 4))) no_nodes), codes "package" ∷ [])

begun : Document
begun = (node (codes "version") (value (integer (pos 4))) no_nodes, [])

package_runs : (done : Items) (last : Nodes) (name version places : List ℕ)
    → run (state done last) (lines_with name version places) ≡ Some (state (push_item done (table (close last))) (nodes_with name version places))
unfolding along_header along_dots at_key define
package_runs done last name version [] = refl
package_runs done last name version (place ∷ places) = refl

first_runs : (name version places : List ℕ) → run begun (lines_with name version places) ≡ Some (state no_items (nodes_with name version places))
unfolding begun along_header along_dots at_key define
first_runs name version [] = refl
first_runs name version (place ∷ places) = refl

version_runs : (ks : List ℕ) → run (no_nodes, []) (lockfile_lines ks) ≡ run begun (flat_map package_lines ks)
unfolding begun along_header along_dots at_key define
version_runs ks = refl

-- ---- all packages

package_step : (k : ℕ) (ks : List ℕ) (doc next : Document) → run doc (package_lines k) ≡ Some next → run doc (flat_map package_lines (k ∷ ks)) ≡ run next (flat_map package_lines ks)
package_step k ks doc next h = run-append doc (package_lines k) (flat_map package_lines ks) ∙ rw h refl

-- the elements of an array of tables, the last of which is open
abbrev elements : Items → Nodes → Items
elements done last = push_item done (table (close last))

packages_run : (ks : List ℕ) (done : Items) (last : Nodes)
    → (all_done : Items) × (all_last : Nodes) × (run (state done last) (flat_map package_lines ks) ≡ Some (state all_done all_last)) × (elements all_done all_last ≡ item_join (elements done last) (tables ks))
packages_run [] done last = (done, last, refl, sym (item_join-none (elements done last)))
packages_run (k ∷ ks) done last =
    let here = nodes_with (name_at k) (version_at k) (places_at k) in
    let step = package_step k ks (state done last) (state (elements done last) here) (package_runs done last (name_at k) (version_at k) (places_at k)) in
    let (all_done, all_last, ran, shape) = packages_run ks (elements done last) here in
    let closed = close_package (name_at k) (version_at k) (places_at k) in (
      all_done,
      all_last,
      step ∙ ran,
      shape ∙ ap (λ ms. item_join (push_item (elements done last) (table ms)) (tables ks)) closed ∙ item_join-push (elements done last) (table (package_members k)) (tables ks),
    )

abbrev version_member : Members
version_member = member (codes "version") (integer (pos 4)) no_members

-- the table of the lockfile of these packages
abbrev pub lockfile_members : List ℕ → Members
lockfile_members [] = version_member
lockfile_members (k ∷ ks) = member (codes "package") (array (tables (k ∷ ks))) version_member

lockfile_runs : (ks : List ℕ) → (doc : Document) × (run (no_nodes, []) (lockfile_lines ks) ≡ Some doc) × (close doc.0 ≡ lockfile_members ks)
unfolding begun
lockfile_runs [] = (begun, version_runs [], refl)
lockfile_runs (k ∷ ks) =
    let here = nodes_with (name_at k) (version_at k) (places_at k) in
    let step = package_step k ks begun (state no_items here) (first_runs (name_at k) (version_at k) (places_at k)) in
    let (all_done, all_last, ran, shape) = packages_run ks no_items here in
    let closed = close_package (name_at k) (version_at k) (places_at k) in (
      state all_done all_last,
      version_runs (k ∷ ks) ∙ step ∙ ran,
      ap (λ ds. member (codes "package") (array ds) version_member) (shape ∙ ap (λ ms. item (table ms) (tables ks)) closed),
    )

-- the lockfile of these packages is this table
pub lockfile_parses : (ks : List ℕ) → AllSmall ks → parse_document (codes "version = 4\n" ++ flat_map package_text ks) ≡ Some (lockfile_members ks)
unfolding skip_bom
lockfile_parses ks h =
    let text = codes "version = 4\n" ++ flat_map package_text ks in
    let es = lockfile_lines ks in
    let read = read_lines false false es text text (no_nodes, []) (suc (length text)) (lockfile_writes ks h) (lockfile_printed ks) refl (omega arith) in
    let (doc, ran, closed) = lockfile_runs ks in
    document_some text doc (read ∙ ran) ∙ ap Some closed
