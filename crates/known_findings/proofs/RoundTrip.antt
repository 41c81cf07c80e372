-- What a baseline writes is read as that baseline.
use Rattle.std.proofs.Common.{◌≡◌, ℕ, suc, ◌+◌, ◌/◌, ◌%◌, ◌==◌, ◌&&◌, ◌||◌, nat_lt, List, [], ◌∷◌, ◌++◌, map, Bool, true, false, true≢false, cond, not, Some, None, option_and_then, arith, refl, sym, ap, ap₂, ◌∙◌, append_assoc, append-nil, subst, Less, Greater, nat_cmp}
use Rattle.std.specs.Prelude.{Ok}
use Rattle.std.specs.Char.{digit_char}
use Rattle.std.specs.Cmp.Lexicographic.{slice_cmp}
use Rattle.std.specs.List.{AllByRecursion, list_all}
use Rattle.std.specs.List.Sorted.{IsStrictlySortedBy}
use Rattle.std.specs.Ordering.{ordering_reverse}
use Rattle.std.specs.Str.{chars}
use Rattle.std.proofs.lemmas.Bool.{ne_eqb}
use Rattle.std.proofs.lemmas.Cmp.{nat_list_cmp_total}
use Rattle.json.specs.Json as json
use Rattle.json.specs.Print.{escape, escape_byte, escape_letter, print_from, quoted}
use Rattle.json.specs.Tree.{json_tokens}
use Rattle.json.proofs.Printed.Tokens.{tokens-print}
use Rattle.json.proofs.Printed.Trees.{ArePrintable-json_tokens, value-json_tokens}
use Rattle.serde_json.specs.Data.{Data, string, array, item, no_items}
use Rattle.serde_json.specs.Read.{of_json, read, max_depth}
use Rattle.tame_names.specs.Pieces.{onto_first, pieces}
use Rattle.known_findings.specs.Baselines.{baseline_of, findings_in, first_broken, is_blank, joined, listed, put, put_all, unless_broken, written}
use Rattle.known_findings.specs.Findings.{finding_of, finding_of_data, finding_tree, kind_of, kind_word, line}
use Rattle.known_findings.specs.Laws.{array_text}
use Rattle.known_findings.specs.declared.findings.Finding.{Finding}
use Rattle.known_findings.specs.declared.findings.FindingKind.{FindingKind}
use Rattle.known_findings.specs.declared.findings.FindingKind.TheVariants as kind

-- ---- a line has no newline

abbrev is_other : ℕ → Bool
is_other b = not (b == 10)

abbrev one_line : List ℕ → Bool
one_line bs = list_all is_other bs

and_true : (a b : Bool) → a ≡ true → b ≡ true → (a && b) ≡ true
and_true a b h k = rw (h, k) refl

and_left : (a b : Bool) → (a && b) ≡ true → a ≡ true
and_left true b h = refl
and_left false b h = h

and_right : (a b : Bool) → (a && b) ≡ true → b ≡ true
and_right true b h = h
and_right false b h = absurd (true≢false (sym h))

one_line-append : (xs ys : List ℕ) → one_line xs ≡ true → one_line ys ≡ true → one_line (xs ++ ys) ≡ true
one_line-append [] ys h k = k
one_line-append (x ∷ xs) ys h k =
    and_true (is_other x) (one_line (xs ++ ys)) (and_left (is_other x) (one_line xs) h)
    (one_line-append xs ys (and_right (is_other x) (one_line xs) h) k)

other : (x : ℕ) → (x ≡ 10 → ⊥) → is_other x ≡ true
other x h = ap not (ne_eqb x 10 h)

letter_in_table : (a b c d e : Bool) → is_other (cond a 98 (cond b 102 (cond c 110 (cond d 114 (cond e 116 0))))) ≡ true
letter_in_table true b c d e = refl
letter_in_table false true c d e = refl
letter_in_table false false true d e = refl
letter_in_table false false false true e = refl
letter_in_table false false false false true = refl
letter_in_table false false false false false = refl

letter_other : (x : ℕ) → is_other (escape_letter x) ≡ true
letter_other x = go ((x == 34) || (x == 92)) refl
  where
    go : (b : Bool) → ((x == 34) || (x == 92)) ≡ b
        → is_other (cond b x (cond (x == 8) 98 (cond (x == 12) 102 (cond (x == 10) 110 (cond (x == 13) 114 (cond (x == 9) 116 0)))))) ≡ true
    go true e = other x (λ ten. true≢false (sym e ∙ ap (λ y. (y == 34) || (y == 92)) ten))
    go false e = letter_in_table (x == 8) (x == 12) (x == 10) (x == 13) (x == 9)

digit_other : (d : ℕ) → is_other (digit_char d) ≡ true
digit_other d = go (nat_lt d 10)
  where
    go : (b : Bool) → is_other (cond b (48 + d) (87 + d)) ≡ true
    go true = other (48 + d) (λ e. omega (arith, e))
    go false = other (87 + d) (λ e. omega (arith, e))

byte_one_line : (x : ℕ) → one_line (escape_byte x) ≡ true
unfolding escape_byte
byte_one_line x = go (nat_lt 0 (escape_letter x)) (nat_lt x 32) refl
  where
    go : (a b : Bool) → nat_lt x 32 ≡ b
        → one_line (cond a (92 ∷ escape_letter x ∷ []) (cond b (92 ∷ 117 ∷ 48 ∷ 48 ∷ digit_char (x / 16) ∷ digit_char (x % 16) ∷ []) (x ∷ []))) ≡ true
    go true b e = rw (letter_other x) refl
    go false true e = rw (digit_other (x / 16), digit_other (x % 16)) refl
    go false false e = rw (other x (λ ten. true≢false (sym (ap (λ y. nat_lt y 32) ten) ∙ e))) refl

escape_one_line : (s : List ℕ) → one_line (escape s) ≡ true
escape_one_line [] = refl
escape_one_line (x ∷ xs) = one_line-append (escape_byte x) (escape xs) (byte_one_line x) (escape_one_line xs)

quoted_one_line : (s rest : List ℕ) → one_line rest ≡ true → one_line (quoted s ++ rest) ≡ true
quoted_one_line s rest h =
    one_line-append (quoted s) rest (one_line-append (escape s) (34 ∷ []) (escape_one_line s) refl) h

-- the bytes of a line
line_is : (f : Finding) → line f ≡ 91 ∷ (quoted (kind_word f.kind) ++ 44 ∷ (quoted f.id ++ 44 ∷ (quoted f.name ++ 44 ∷ (quoted f.version ++ 44 ∷ (quoted f.source ++ 93 ∷ [])))))
unfolding line print_from
line_is f = refl

line_one_line : (f : Finding) → one_line (line f) ≡ true
line_one_line f = rw (line_is f)
    (quoted_one_line (kind_word f.kind) _ (quoted_one_line f.id _ (quoted_one_line f.name _ (quoted_one_line f.version _ (quoted_one_line f.source _ refl)))))

-- ---- a line reads back

pub word_back : (k : FindingKind) → kind_of (kind_word k) ≡ Some k
word_back kind.Vulnerability = refl
word_back kind.Notice = refl
word_back kind.Unmaintained = refl
word_back kind.Unsound = refl
word_back kind.Yanked = refl

abbrev data_of : Finding → Data
data_of f = array (item (string (kind_word f.kind)) (item (string f.id) (item (string f.name) (item (string f.version) (item (string f.source) no_items)))))

line_read : (f : Finding) → read (line f) ≡ Some (data_of f)
unfolding line
line_read f =
    let j : json.Json = finding_tree f in
    ap (λ ts. option_and_then of_json (option_and_then (λ p. json.if_last p.0 p.1) (json.value max_depth ts)))
    (tokens-print (json_tokens j) (ArePrintable-json_tokens j (tt, (tt, (tt, (tt, (tt, tt)))))) ∙ sym (append-nil (json_tokens j)))
    ∙ ap (λ v. option_and_then of_json (option_and_then (λ p. json.if_last p.0 p.1) v)) (value-json_tokens j max_depth [] (omega arith))

pub line_back : (f : Finding) → finding_of (line f) ≡ Some f
line_back f = ap (option_and_then finding_of_data) (line_read f) ∙ rw (word_back f.kind) refl

-- ---- no line is blank

opens : (bs : List ℕ) → is_blank (91 ∷ bs) ≡ false
unfolding chars
opens [] = refl
opens (b ∷ bs) = refl

not_blank : (f : Finding) → is_blank (line f) ≡ false
not_blank f = ap is_blank (line_is f) ∙ opens _

-- ---- the lines of what is written

piece_step : (x : ℕ) (xs : List ℕ) (left : List (List ℕ)) (more : List (List ℕ)) (b : Bool) → not b ≡ true
    → more ≡ xs ∷ left → cond b ([] ∷ more) (onto_first x more) ≡ (x ∷ xs) ∷ left
piece_step x xs left more true e is = absurd (true≢false (sym e))
piece_step x xs left more false e is = ap (onto_first x) is

list_pieces : (l rest : List ℕ) → one_line l ≡ true → pieces 10 (l ++ 10 ∷ rest) ≡ l ∷ pieces 10 rest
list_pieces [] rest h = refl
list_pieces (x ∷ xs) rest h =
    piece_step x xs (pieces 10 rest) (pieces 10 (xs ++ 10 ∷ rest)) (x == 10) (and_left (is_other x) (one_line xs) h)
    (list_pieces xs rest (and_right (is_other x) (one_line xs) h))

pub pieces_back : (fs : List Finding) → pieces 10 (written fs) ≡ map line fs
unfolding written
pieces_back [] = refl
pieces_back (f ∷ fs) =
    ap (pieces 10) (append_assoc (line f) (10 ∷ []) (joined (map line fs)))
    ∙ list_pieces (line f) (joined (map line fs)) (line_one_line f)
    ∙ ap (λ (ls : List (List ℕ)). line f ∷ ls) (pieces_back fs)

none_broken : (n : ℕ) (fs : List Finding) → first_broken n (map line fs) ≡ None
none_broken n [] = refl
none_broken n (f ∷ fs) = rw (not_blank f, line_back f) (none_broken (suc n) fs)

findings_back : (fs : List Finding) → findings_in (map line fs) ≡ fs
findings_back [] = refl
findings_back (f ∷ fs) = rw (not_blank f, line_back f) (ap (λ (gs : List Finding). f ∷ gs) (findings_back fs))

-- ---- findings that are in order stay

abbrev pub IsOrdered : List Finding → Type 0
IsOrdered fs = IsStrictlySortedBy (slice_cmp nat_cmp) (map line fs)

below : (g : Finding) (done : List Finding) (f : Finding) (more : List Finding)
    → AllByRecursion (λ y. slice_cmp nat_cmp (line g) y ≡ Less) (map line (done ++ f ∷ more)) → slice_cmp nat_cmp (line g) (line f) ≡ Less
below g [] f more h = h.0
below g (x ∷ done) f more h = below g done f more h.1

above : (g : Finding) (done : List Finding) (f : Finding) (more : List Finding)
    → AllByRecursion (λ y. slice_cmp nat_cmp (line g) y ≡ Less) (map line (done ++ f ∷ more)) → slice_cmp nat_cmp (line f) (line g) ≡ Greater
above g done f more h = nat_list_cmp_total.antisymm (line f) (line g) ∙ ap ordering_reverse (below g done f more h)

put_last : (done : List Finding) (f : Finding) (more : List Finding) → IsOrdered (done ++ f ∷ more) → put done f ≡ done ++ f ∷ []
unfolding IsStrictlySortedBy
put_last [] f more h = refl
put_last (g ∷ done) f more h = rw (above g done f more h.0) (ap (λ (gs : List Finding). g ∷ gs) (put_last done f more h.1))

stays : (done fs : List Finding) → IsOrdered (done ++ fs) → put_all done fs ≡ done ++ fs
stays done [] h = sym (append-nil done)
stays done (f ∷ fs) h =
    let same : (done ++ f ∷ []) ++ fs ≡ done ++ f ∷ fs = append_assoc done (f ∷ []) fs in
    ap (λ (gs : List Finding). put_all gs fs) (put_last done f fs h)
    ∙ stays (done ++ f ∷ []) fs (subst IsOrdered (sym same) h) ∙ same

pub listed_ordered : (fs : List Finding) → IsOrdered fs → listed fs ≡ fs
listed_ordered fs h = stays [] fs h

-- ---- the whole

pub written_back : (fs : List Finding) → IsOrdered fs → baseline_of (written fs) ≡ Ok fs
written_back fs h =
    ap (λ (ls : List (List ℕ)). unless_broken (first_broken 0 ls) (listed (findings_in ls))) (pieces_back fs)
    ∙ ap₂ unless_broken (none_broken 0 fs) (ap listed (findings_back fs) ∙ listed_ordered fs h)

-- the lines that are written tell the findings
pub same_written : (fs gs : List Finding) → written fs ≡ written gs → fs ≡ gs
same_written fs gs h =
    sym (findings_back fs) ∙ ap findings_in (sym (pieces_back fs) ∙ ap (pieces 10) h ∙ pieces_back gs)
    ∙ findings_back gs

pub line_text : (f : Finding) → line f ≡ array_text f
line_text f = line_is f ∙ simp append_assoc refl
