-- The lockfile is the text that TOML writes for these lines.
use Rattle.std.proofs.Common.{◌≡◌, ℕ, zero, suc, ◌+◌, ◌<◌, ◌^◌, ◌%◌, true, false, List, [], ◌∷◌, ◌++◌, codes, refl, sym, ap, subst, arith, append_assoc, pos}
use Rattle.std.specs.List.{list_all, flat_map, range_with_len}
use Rattle.std.specs.Fmt.{decimal}
use Rattle.std.proofs.lemmas.Fmt.{decimal_digit}
use Rattle.toml_writer.specs.Text.{key_text, string_text}
use Rattle.toml.specs.Data.{Data, string, integer, array, no_items, item}
use Rattle.toml.specs.Tables.{Expression, key_value, array_table}
use Rattle.toml.specs.Text.{IsValueText, IsLineText, IsLinesText}
use Rattle.toml.proofs.Lines.{IsLinesText-append}
use Rattle.toml.proofs.ReadLines.{AllPrinted}
use Rattle.audit_generator.specs.Packages.{name_at, version_at, default_source, places_at, text_line, dependencies_text, package_text}
use Rattle.audit_generator.proofs.Texts.{is_simple, string_text-simple, name_simple, version_simple, source_simple}

-- a line `key = value` of the current table
abbrev pub pair : List ℕ → Data → Expression
pair key d = (([], key), key_value d)

-- an array of one text
abbrev pub one_text : List ℕ → Data
one_text text = array (item (string text) no_items)

abbrev pub dependency_lines : List ℕ → List Expression
dependency_lines [] = []
dependency_lines (place ∷ places) = pair (codes "dependencies") (one_text (name_at place)) ∷ []

-- the lines of a package with this name, version and places
abbrev pub lines_with : List ℕ → List ℕ → List ℕ → List Expression
lines_with name version places =
    (([], codes "package"), array_table) ∷ pair (codes "name") (string name)
    ∷ pair (codes "version") (string version)
    ∷ pair (codes "source") (string default_source)
    ∷ dependency_lines places

-- the lines of package k
abbrev pub package_lines : ℕ → List Expression
package_lines k = lines_with (name_at k) (version_at k) (places_at k)

-- the lines of the lockfile of these packages
abbrev pub lockfile_lines : List ℕ → List Expression
lockfile_lines ks = pair (codes "version") (integer (pos 4)) ∷ flat_map package_lines ks

-- each of these numbers is small
abbrev pub AllSmall : List ℕ → Type 0
AllSmall [] = Unit {0}
AllSmall (k ∷ ks) = (k < 2 ^ 64) × AllSmall ks

range_small : (n a : ℕ) → a + n < 2 ^ 64 → AllSmall (range_with_len a n)
range_small zero a h = tt
range_small (suc n) a h = (omega arith, range_small n (a + 1) (omega arith))

pub numbers_small : (n : ℕ) → n < 2 ^ 64 → AllSmall (range_with_len 0 n)
numbers_small n h = range_small n 0 (omega arith)

-- ---- the text of a line

four : (a b c d : List ℕ) → a ++ b ++ c ++ d ≡ a ++ (b ++ (c ++ d))
four a b c d = simp append_assoc refl

five : (a b c d e : List ℕ) → a ++ b ++ c ++ d ++ e ≡ a ++ (b ++ (c ++ (d ++ e)))
five a b c d e = simp append_assoc refl

pub quoted_line : (key value : List ℕ) → key_text key ≡ key → list_all is_simple value ≡ true → IsLineText false true ([], key) (key_value (string value)) (text_line key value)
quoted_line key value bare simple =
    let whole : text_line key value ≡ key ++ (codes " = \"" ++ (value ++ codes "\"\n")) =
    four key (codes " = \"") value (codes "\"\n") in
    (string_text value, rw (bare, string_text-simple value simple, append_assoc value (34 ∷ []) (10 ∷ [])) whole, refl)

pub one_more : (e : Expression) (es : List Expression) (this rest : List ℕ) → IsLineText false true e.0 e.1 this → IsLinesText false true es rest → IsLinesText false true (e ∷ es) (this ++ rest)
one_more e es this rest line more = (this, rest, refl, line, more)

header_line : IsLineText false true ([], codes "package") array_table (codes "\n[[package]]\n")
unfolding key_text
header_line = refl

bare_name : key_text (codes "name") ≡ codes "name"
unfolding key_text
bare_name = refl

bare_version : key_text (codes "version") ≡ codes "version"
unfolding key_text
bare_version = refl

bare_source : key_text (codes "source") ≡ codes "source"
unfolding key_text
bare_source = refl

bare_dependencies : key_text (codes "dependencies") ≡ codes "dependencies"
unfolding key_text
bare_dependencies = refl

pub one_text_writes : (text : List ℕ) → list_all is_simple text ≡ true → IsValueText false (one_text text) (codes "[\"" ++ (text ++ codes "\"]"))
one_text_writes text simple = (
  codes "\"" ++ (text ++ codes "\"]"),
  refl,
  (string_text text, codes "]", rw (string_text-simple text simple) (rw (append_assoc text (34 ∷ []) (93 ∷ [])) refl), refl, refl),
)

dependency_line : (place : ℕ) → place < 2 ^ 64 → IsLineText false true ([], codes "dependencies") (key_value (one_text (name_at place))) (codes "dependencies = [\"" ++ (name_at place ++ codes "\"]\n"))
dependency_line place h =
    (codes "[\"" ++ (name_at place ++ codes "\"]"), rw bare_dependencies (rw (append_assoc (decimal place) (codes "\"]") (10 ∷ [])) refl), one_text_writes (name_at place) (name_simple place h))

append_none : (xs : List ℕ) → xs ++ [] ≡ xs
append_none [] = refl
append_none (x ∷ xs) = ap (λ ys. x ∷ ys) (append_none xs)

dependencies_write : (places : List ℕ) → AllSmall places → IsLinesText false true (dependency_lines places) (dependencies_text places)
dependencies_write [] h = refl
dependencies_write (place ∷ places) h =
    (dependencies_text (place ∷ places), [], sym (append_none (dependencies_text (place ∷ places))), dependency_line place h.0, refl)

-- ---- the text of a package, and of all

abbrev pub text_with : List ℕ → List ℕ → List ℕ → List ℕ
text_with name version places =
    codes "\n[[package]]\n" ++ (text_line (codes "name") name
    ++ (text_line (codes "version") version
    ++ (text_line (codes "source") default_source
    ++ dependencies_text places)))

package_writes : (name version places : List ℕ) → list_all is_simple name ≡ true → list_all is_simple version ≡ true → AllSmall places
    → IsLinesText false true (lines_with name version places) (text_with name version places)
package_writes name version places n v p =
    let last = dependency_lines places in
    let sourced = pair (codes "source") (string default_source) ∷ last in
    let versioned = pair (codes "version") (string version) ∷ sourced in
    let named = pair (codes "name") (string name) ∷ versioned in
    let source_text = text_line (codes "source") default_source ++ dependencies_text places in
    let version_text = text_line (codes "version") version ++ source_text in
    let name_text = text_line (codes "name") name ++ version_text in
    one_more (([], codes "package"), array_table) named (codes "\n[[package]]\n") name_text header_line
    (one_more (pair (codes "name") (string name)) versioned (text_line (codes "name") name) version_text (quoted_line (codes "name") name bare_name n)
    (one_more (pair (codes "version") (string version)) sourced (text_line (codes "version") version) source_text (quoted_line (codes "version") version bare_version v)
    (one_more (pair (codes "source") (string default_source)) last (text_line (codes "source") default_source) (dependencies_text places) (quoted_line (codes "source") default_source bare_source source_simple)
    (dependencies_write places p))))

places_small : (k : ℕ) → k < 2 ^ 64 → AllSmall (places_at k)
places_small zero h = tt
places_small (suc k) h = (omega arith, tt)

package_whole : (k : ℕ) → package_text k ≡ text_with (name_at k) (version_at k) (places_at k)
package_whole k =
    five (codes "\n[[package]]\n") (text_line (codes "name") (name_at k)) (text_line (codes "version") (version_at k)) (text_line (codes "source") default_source) (dependencies_text (places_at k))

packages_write : (ks : List ℕ) → AllSmall ks → IsLinesText false true (flat_map package_lines ks) (flat_map package_text ks)
packages_write [] h = refl
packages_write (k ∷ ks) h =
    IsLinesText-append false true (package_lines k) (flat_map package_lines ks) (package_text k) (flat_map package_text ks)
    (subst (IsLinesText false true (package_lines k)) (sym (package_whole k)) (package_writes (name_at k) (version_at k) (places_at k) (name_simple k h.0) (version_simple (k % 7) (omega arith)) (places_small k h.0)))
    (packages_write ks h.1)

version_line : IsLineText false false ([], codes "version") (key_value (integer (pos 4))) (codes "version = 4\n")
version_line = (codes "4", rw bare_version refl, (sym (decimal_digit 4 (omega arith)), omega arith))

-- the text of a lockfile is written for its lines
pub lockfile_writes : (ks : List ℕ) → AllSmall ks → IsLinesText false false (lockfile_lines ks) (codes "version = 4\n" ++ flat_map package_text ks)
lockfile_writes ks h = (codes "version = 4\n", flat_map package_text ks, refl, version_line, packages_write ks h)

-- ---- the lines are of the kind that is read back

AllPrinted-append : (es fs : List Expression) → AllPrinted es → AllPrinted fs → AllPrinted (es ++ fs)
AllPrinted-append [] fs a b = b
AllPrinted-append (e ∷ es) fs a b = (a.0, AllPrinted-append es fs a.1 b)

dependencies_printed : (places : List ℕ) → AllPrinted (dependency_lines places)
dependencies_printed [] = tt
dependencies_printed (place ∷ places) = ((refl, omega arith, refl), tt)

package_printed : (name version places : List ℕ) → AllPrinted (lines_with name version places)
package_printed name version places =
    (omega arith, ((refl, omega arith, refl), ((refl, omega arith, refl), ((refl, omega arith, refl), dependencies_printed places))))

packages_printed : (ks : List ℕ) → AllPrinted (flat_map package_lines ks)
packages_printed [] = tt
packages_printed (k ∷ ks) = AllPrinted-append (package_lines k) (flat_map package_lines ks) (package_printed (name_at k) (version_at k) (places_at k)) (packages_printed ks)

pub lockfile_printed : (ks : List ℕ) → AllPrinted (lockfile_lines ks)
lockfile_printed ks = ((refl, omega arith, refl), packages_printed ks)
