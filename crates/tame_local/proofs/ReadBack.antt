-- The lines of written versions are read back to them.
use Rattle.std.proofs.Common.{◌≡◌, ℕ, suc, ◌+◌, ◌<◌, ◌==◌, List, [], ◌∷◌, ◌++◌, length, map, false, Some, None, Ok, refl, ap, ◌∙◌, arith, codes, option_map}
use Rattle.std.specs.Prelude.{unwrap_or}
use Rattle.std.specs.List.{position_from}
use Rattle.std.proofs.Math.Dec.{eqb-suc-zero}
use Rattle.std.proofs.lemmas.List.{append_assoc, append-nil, length-append}
use Rattle.hex.specs.Hex.{encode_lower}
use Rattle.json.specs.Json.{Members, array, member, object, string}
use Rattle.json.specs.Print.{print_from}
use Rattle.json.specs.Tree.{json_tokens, members_tokens}
use Rattle.tame_names.specs.Pieces.{onto_first, pieces, without_end}
use Rattle.tame_names.specs.declared.errors.Error.TheVariants as error
use Rattle.tame_records.specs.Krates.{first_unread, has_no_record, records_of, unread}
use Rattle.tame_records.specs.Lines.{lines, trimmed}
use Rattle.tame_records.specs.Written.{dependencies_tree, json_lines, later_members, line, lists_tree}
use Rattle.tame_records.specs.declared.versions.IndexVersion.{IndexVersion}
use Rattle.tame_local.proofs.Printed.{line_lacks}
use Rattle.tame_local.specs.CrateFiles.{Lacks}
use Rattle.tame_local.specs.Inserts.{AreWritten}
use Rattle.tame_local.specs.Registries.{records_in, records_unless}

-- ---- lines and newlines

piece_before : (xs rest : List ℕ) → Lacks 10 xs → pieces 10 (xs ++ 10 ∷ rest) ≡ xs ∷ pieces 10 rest
piece_before [] rest h = refl
piece_before (x ∷ xs) rest h = rw (h.0, piece_before xs rest h.1) refl

piece_alone : (xs : List ℕ) → Lacks 10 xs → 0 < length xs → pieces 10 xs ≡ xs ∷ []
piece_alone [] h some = absurd (omega (arith, some))
piece_alone (x ∷ []) h some = rw h.0 refl
piece_alone (x ∷ y ∷ ys) h some = rw h.0 (ap (onto_first x) (piece_alone (y ∷ ys) h.1 (omega arith)))

kept_front : (xs rest : List ℕ) → Lacks 10 xs → without_end 10 (xs ++ rest) ≡ xs ++ without_end 10 rest
kept_front [] rest h = refl
kept_front (x ∷ xs) rest h = rw (h.0, kept_front xs rest h.1) refl

-- ---- the line of a version is no empty text

abbrev IsLine : List ℕ → Type 0
IsLine l = Lacks 10 l × (0 < length l)

newline_kept : (ys zs : List ℕ) → without_end 10 ys ≡ zs → 0 < length zs → without_end 10 (10 ∷ ys) ≡ 10 ∷ zs
newline_kept ys [] h some = absurd (omega (arith, some))
newline_kept ys (z ∷ zs) h some = rw (h, eqb-suc-zero (length zs)) refl

long_front : (xs ys : List ℕ) → 0 < length xs → 0 < length (xs ++ ys)
long_front xs ys some =
    let whole : length (xs ++ ys) ≡ length xs + length ys = length-append xs ys in
    omega (arith, whole, some)

-- ---- written lines

abbrev AreLines : List IndexVersion → Type 0
AreLines [] = Unit {0}
AreLines (v ∷ vs) = IsLine (line v) × AreLines vs

first_line : (v : IndexVersion) (vs : List IndexVersion) → json_lines (v ∷ vs) ≡ line v ++ 10 ∷ json_lines vs
first_line v vs = append_assoc (line v) (10 ∷ []) (json_lines vs)

cut : (v : IndexVersion) (vs : List IndexVersion) → AreLines (v ∷ vs) → (0 < length (trimmed (json_lines (v ∷ vs)))) × (lines (json_lines (v ∷ vs)) ≡ map line (v ∷ vs))
cut v [] all =
    let last : trimmed (json_lines (v ∷ [])) ≡ line v ++ [] = ap trimmed (first_line v []) ∙ kept_front (line v) (10 ∷ []) all.0.0 in
    let same : trimmed (json_lines (v ∷ [])) ≡ line v = last ∙ append-nil (line v) in
    let size : length (trimmed (json_lines (v ∷ []))) ≡ length (line v) = ap length same in
    (omega (arith, size, all.0.1), ap (pieces 10) same ∙ piece_alone (line v) all.0.0 all.0.1)
cut v (w ∷ ws) all =
    let more = cut w ws all.1 in
    let left : List ℕ = trimmed (json_lines (w ∷ ws)) in
    let same : trimmed (json_lines (v ∷ w ∷ ws)) ≡ line v ++ 10 ∷ left =
    ap trimmed (first_line v (w ∷ ws)) ∙ kept_front (line v) (10 ∷ json_lines (w ∷ ws)) all.0.0 ∙ ap (λ (xs : List ℕ). line v ++ xs) (newline_kept (json_lines (w ∷ ws)) left refl more.0) in
    let size : length (trimmed (json_lines (v ∷ w ∷ ws))) ≡ length (line v ++ 10 ∷ left) = ap length same in
    (omega (arith, size, long_front (line v) (10 ∷ left) all.0.1), ap (pieces 10) same ∙ piece_before (line v) left all.0.0 ∙ ap (λ (ls : List (List ℕ)). line v ∷ ls) more.1)

-- ---- their records

all_read : (vs : List IndexVersion) → AreWritten vs → records_of (map line vs) ≡ Some vs
all_read [] all = refl
all_read (v ∷ vs) all = rw (all.1, all_read vs all.2) refl

none_unread : (n : ℕ) (vs : List IndexVersion) → AreWritten vs → position_from has_no_record n (map line vs) ≡ None
none_unread n [] all = refl
none_unread n (v ∷ vs) all = rw all.1 (none_unread (n + 1) vs all.2)

opened : (ms : Members) → print_from false (json_tokens (object ms)) ≡ 123 ∷ print_from false (members_tokens ms)
unfolding print_from
opened ms = refl

long_from : (xs ys : List ℕ) (b : ℕ) → xs ≡ b ∷ ys → 0 < length xs
long_from xs ys b h =
    let size : length xs ≡ suc (length ys) = ap length h in
    omega (arith, size)

line_long : (v : IndexVersion) → 0 < length (line v)
line_long v =
    let members : Members =
    member (codes "name") (string v.name) (member (codes "vers") (string v.version)
    (member (codes "deps") (array (dependencies_tree v.deps)) (member (codes "cksum") (string (encode_lower v.checksum.0))
    (member (codes "features") (object (lists_tree v.features)) (later_members v))))) in
    long_from (line v) (print_from false (members_tokens members)) 123 (opened members)

are_lines : (vs : List IndexVersion) → AreWritten vs → AreLines vs
are_lines [] all = tt
are_lines (v ∷ vs) all = ((line_lacks v all.0, line_long v), are_lines vs all.2)

read_case : (body : List ℕ) (ls : List (List ℕ)) (vs : List IndexVersion) → (length (trimmed body) == 0) ≡ false → lines body ≡ ls → position_from has_no_record 0 ls ≡ None → records_of ls ≡ Some vs
    → records_in body ≡ Ok vs
read_case body ls vs some are read all =
    let none : unread body ≡ None = rw some (ap (λ ls. option_map (λ n. error.Json n) (first_unread ls)) are ∙ ap (option_map (λ n. error.Json n)) read) in
    ap (λ o. records_unless o body) none ∙ ap (λ ls. Ok (unwrap_or (records_of ls) [])) are ∙ ap (λ o. Ok (unwrap_or o [])) all

long_some : (xs : List ℕ) → 0 < length xs → (length xs == 0) ≡ false
long_some [] some = absurd (omega (arith, some))
long_some (x ∷ xs) some = eqb-suc-zero (length xs)

pub records_back : (vs : List IndexVersion) → 0 < length vs → AreWritten vs → records_in (json_lines vs) ≡ Ok vs
records_back [] some all = absurd (omega (arith, some))
records_back (v ∷ vs) some all =
    let parts = cut v vs (are_lines (v ∷ vs) all) in
    read_case (json_lines (v ∷ vs)) (map line (v ∷ vs)) (v ∷ vs) (long_some (trimmed (json_lines (v ∷ vs))) parts.0) parts.1 (none_unread 0 (v ∷ vs) all) (all_read (v ∷ vs) all)
