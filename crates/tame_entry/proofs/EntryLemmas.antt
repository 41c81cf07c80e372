-- An entry is read as its revision and its lines.
use Rattle.std.proofs.Common.{◌≡◌, ℕ, zero, suc, ◌<◌, ◌≤◌, lit<, length-append, List, [], ◌∷◌, ◌++◌, Bool, true, false, not, cond, length, map, Option, Some, None, IsTrue, refl, sym, ap, ◌∙◌, subst, codes, arith, append_assoc}
use Rattle.std.specs.Prelude.{◌==◌, ◌&&◌, nat_le, nat_lt, bytes_eq, flat_map, unwrap_or, Result, Ok, Err, IsErr}
use Rattle.std.specs.Char.{is_ascii_hexdigit}
use Rattle.std.specs.List.{list_all}
use Rattle.std.specs.Str.{IsAscii, IsUtf8, is_utf8}
use Rattle.std.proofs.lemmas.Bool.Decides.{nat_tests}
use Rattle.std.proofs.lemmas.Slice.Eq.{bytes_eq-Decides}
use Rattle.std.proofs.lemmas.Str.{IsUtf8-append, IsUtf8-from_ascii, IsUtf8-from_is_utf8, is_utf8-from_IsUtf8}
use Rattle.tame_names.specs.Pieces.{onto_first, pieces}
use Rattle.tame_names.specs.Utf8.{utf8_text}
use Rattle.tame_names.specs.declared.errors.CacheError.{CacheError}
use Rattle.tame_names.specs.declared.errors.CacheError.TheVariants.{InvalidCacheEntry, OtherIndex, OutdatedCacheVersion, UnknownCacheVersion}
use Rattle.tame_names.proofs.Utf8Lemmas.{utf8_text-utf8}
use Rattle.tame_records.specs.Checksums.{first_bad_digit}
use Rattle.tame_records.specs.Lines.{lines, trimmed}
use Rattle.tame_entry.specs.Lines.{plain, valid}
use Rattle.tame_entry.specs.Commits.{is_commit}
use Rattle.tame_entry.specs.Entry.{Pair, ReadEntry, entry, has_no_zero, first_part, head, later_parts, lines_in, pair_bytes, pair_of, pairs, read_entry, read_number, read_parts, read_revision, read_text, second_pieces, with_revision}
use Rattle.tame_entry.specs.Prefixes.{without_prefix}
use Rattle.tame_entry.specs.Raw.{cut_at, raw_version}
use Rattle.tame_entry.specs.Revision.{EntryRevision, Http, Commit, Unknown, IsFormed, IsRevision, date_or, entry_text, etag_or, is_honest_text, revision_of, unnamed_revision}
use Rattle.tame_entry.specs.declared.revisions.OwnedRevision.TheVariants.{Etag, LastModified}
use Rattle.tame_entry.proofs.PrefixLemmas.{prefix_gone}
use Rattle.tame_entry.proofs.CommitLemmas.{commit_good, commit_utf8, none_found}
use Rattle.tame_entry.proofs.Zeros.{NoZero, and_true, NoneZero, cut_end, lines_zero, piece_end, raw_zero}

-- ---- revisions

is_low : (b : ℕ) → nat_lt b 128 ≡ true → b < 128
is_low b h = grind (arith, nat_tests)

first_low : (a b : Bool) → (a && b) ≡ true → (a ≡ true) × (b ≡ true)
first_low true b h = (refl, h)
first_low false b h = cc

pub ascii : (bs : List ℕ) → list_all (λ b. nat_lt b 128) bs ≡ true → IsAscii bs
ascii [] h i = lit< tt
ascii (b ∷ bs) h zero = is_low b (first_low (nat_lt b 128) _ h).0
ascii (b ∷ bs) h (suc i) = ascii bs (first_low (nat_lt b 128) _ h).1 i

etag_utf8 : IsUtf8 (codes "etag: ")
etag_utf8 = IsUtf8-from_ascii (codes "etag: ") (ascii (codes "etag: ") refl)

date_utf8 : IsUtf8 (codes "last-modified: ")
date_utf8 = IsUtf8-from_ascii (codes "last-modified: ") (ascii (codes "last-modified: ") refl)

unknown_utf8 : IsUtf8 (codes "Unknown" ++ [])
unknown_utf8 = IsUtf8-from_ascii (codes "Unknown" ++ []) (ascii (codes "Unknown" ++ []) refl)

unequal : (t : Bool) (o : Option (List ℕ)) → t ≡ false → cond t o None ≡ None
unequal true o e = cc
unequal false o e = refl

either_none : (t : Bool) (o : Option (List ℕ)) → o ≡ None → cond t o None ≡ None
either_none true o e = e
either_none false o e = refl

no_etag : (d : List ℕ) → first_bad_digit d ≡ None → without_prefix (codes "etag: ") d ≡ None
no_etag [] h = refl
no_etag (a ∷ []) h = either_none (a == 101) None refl
no_etag (a ∷ b ∷ ds) h =
    let second : is_ascii_hexdigit b ≡ true = (none_found (is_ascii_hexdigit b) b _ (none_found (is_ascii_hexdigit a) a _ h).1).0 in
    let other : (b == 116) ≡ false = grind (arith, nat_tests) in
    either_none (a == 101) _ (unequal (b == 116) _ other)

no_date : (d : List ℕ) → first_bad_digit d ≡ None → without_prefix (codes "last-modified: ") d ≡ None
no_date [] h = refl
no_date (a ∷ ds) h =
    let first : is_ascii_hexdigit a ≡ true = (none_found (is_ascii_hexdigit a) a _ h).0 in
    let other : (a == 108) ≡ false = grind (arith, nat_tests) in
    unequal (a == 108) _ other

chosen : (t : Bool) (r s : Option EntryRevision) → t ≡ true → cond t r s ≡ r
chosen t r s h = rw h refl

-- the text of a revision is read as that revision
pub formed_back : (r : EntryRevision) → IsFormed r → revision_of (entry_text r) ≡ Some r
formed_back (Http (Etag text)) h = ap (λ o. etag_or o (date_or (without_prefix (codes "last-modified: ") (codes "etag: " ++ text)) (unnamed_revision (codes "etag: " ++ text)))) (prefix_gone (codes "etag: ") text)
formed_back (Http (LastModified text)) h = ap (λ o. etag_or None (date_or o (unnamed_revision (codes "last-modified: " ++ text)))) (prefix_gone (codes "last-modified: ") text)
formed_back (Commit digits) h =
    let good = commit_good digits h in
    rw (no_etag digits good, no_date digits good) (chosen (is_commit digits) _ _ h)
formed_back Unknown h = refl

pub revision_back : (r : EntryRevision) → IsRevision r → revision_of (entry_text r) ≡ Some r
revision_back (Http (Etag text)) h = formed_back (Http (Etag text)) tt
revision_back (Http (LastModified text)) h = formed_back (Http (LastModified text)) tt
revision_back (Commit digits) h = formed_back (Commit digits) h
revision_back Unknown h = refl

-- a text of a revision is UTF-8
pub text_utf8 : (r : EntryRevision) → IsRevision r → IsUtf8 (entry_text r)
text_utf8 (Http (Etag text)) h = IsUtf8-append (codes "etag: ") text etag_utf8 (IsUtf8-from_is_utf8 text h)
text_utf8 (Http (LastModified text)) h = IsUtf8-append (codes "last-modified: ") text date_utf8 (IsUtf8-from_is_utf8 text h)
text_utf8 (Commit digits) h = commit_utf8 digits h
text_utf8 Unknown h = unknown_utf8

-- ---- pairs

pub pieces_paired : (ls : List (List ℕ)) → NoneZero ls → lines_in (flat_map pair_bytes (map pair_of ls)) ≡ ls
pieces_paired [] h = refl
pieces_paired (l ∷ ls) h =
    let more = flat_map pair_bytes (map pair_of ls) in
    let bytes : (raw_version l ++ 0 ∷ (l ++ 0 ∷ [])) ++ more ≡ raw_version l ++ 0 ∷ (l ++ 0 ∷ more) =
    append_assoc (raw_version l) (0 ∷ (l ++ 0 ∷ [])) more ∙ ap (λ (xs : List ℕ). raw_version l ++ 0 ∷ xs) (append_assoc l (0 ∷ []) more) in
    ap (λ xs. second_pieces (pieces 0 xs)) bytes
    ∙ ap second_pieces (piece_end (raw_version l) (l ++ 0 ∷ more) (raw_zero l h.0) ∙ ap (λ (ps : List (List ℕ)). raw_version l ∷ ps) (piece_end l more h.0))
    ∙ ap (λ (ps : List (List ℕ)). l ∷ ps) (pieces_paired ls h.1)

long : (n : ℕ) → 2 ≤ n → nat_lt n 2 ≡ false
long n h = grind (arith, nat_tests)

two_pieces : (l : List ℕ) (ls : List (List ℕ)) → NoneZero (l ∷ ls) → nat_lt (length (pieces 0 (flat_map pair_bytes (map pair_of (l ∷ ls))))) 2 ≡ false
two_pieces l ls h =
    let more = flat_map pair_bytes (map pair_of ls) in
    let bytes : (raw_version l ++ 0 ∷ (l ++ 0 ∷ [])) ++ more ≡ raw_version l ++ 0 ∷ (l ++ 0 ∷ more) =
    append_assoc (raw_version l) (0 ∷ (l ++ 0 ∷ [])) more ∙ ap (λ (xs : List ℕ). raw_version l ++ 0 ∷ xs) (append_assoc l (0 ∷ []) more) in
    ap (λ xs. nat_lt (length (pieces 0 xs)) 2) bytes
    ∙ ap (λ (ps : List (List ℕ)). nat_lt (length ps) 2) (piece_end (raw_version l) (l ++ 0 ∷ more) (raw_zero l h.0) ∙ ap (λ (ps : List (List ℕ)). raw_version l ∷ ps) (piece_end l more h.0))
    ∙ long (length (raw_version l ∷ l ∷ pieces 0 more)) (omega arith)

-- ---- entries

not_zero : (n : ℕ) → 0 < n → (n == 0) ≡ false
not_zero n h = grind (arith, nat_tests)

some_bytes : (xs ys : List ℕ) → (length (xs ++ 0 ∷ ys) == 0) ≡ false
some_bytes xs ys = not_zero _ (omega (arith, length-append xs (0 ∷ ys)))

not_both : (t : Bool) (e r : Result ReadEntry CacheError) → t ≡ false → cond t e r ≡ r
not_both t e r h = rw h refl

four : (n : ℕ) → 4 ≤ n → nat_lt n 4 ≡ false
four n h = grind (arith, nat_tests)

pub head_read : (index rest : List ℕ) → read_entry index (head ++ rest) ≡ read_parts index rest
head_read index rest = not_both (nat_lt (length (2 ∷ 0 ∷ 0 ∷ 0 ∷ rest)) 4) _ _ (four _ (omega arith))

-- what follows a url is read if the url is that of the index
url_read : (index url rest : List ℕ) → NoZero url → read_parts index (url ++ 0 ∷ rest) ≡ cond (bytes_eq url index) (read_revision rest) (Err OtherIndex)
url_read index url rest whole =
    let bytes : List ℕ = url ++ 0 ∷ rest in
    let cut : cut_at 0 bytes ≡ Some (url, rest) = cut_end url rest whole in
    let first : first_part bytes ≡ url = ap (λ (o : Option (List ℕ × List ℕ)). (unwrap_or o (bytes, [])).0) cut in
    let later : later_parts bytes ≡ rest = ap (λ (o : Option (List ℕ × List ℕ)). (unwrap_or o (bytes, [])).1) cut in
    not_both _ _ _ (some_bytes url rest)
    ∙ ap (λ (xs : List ℕ). cond (bytes_eq xs index) (read_revision (later_parts bytes)) (Err OtherIndex)) first
    ∙ ap (λ (xs : List ℕ). cond (bytes_eq url index) (read_revision xs) (Err OtherIndex)) later

same_url : (url : List ℕ) → bytes_eq url url ≡ true
same_url url = (bytes_eq-Decides url url).1 refl

either_url : (t : Bool) (same other : Result ReadEntry CacheError) → t ≡ true → cond t same other ≡ same
either_url t same other h = rw h refl

pub index_read : (index rest : List ℕ) → NoZero index → read_entry index (head ++ index ++ 0 ∷ rest) ≡ read_revision rest
index_read index rest whole =
    head_read index (index ++ 0 ∷ rest) ∙ url_read index index rest whole ∙ either_url (bytes_eq index index) _ _ (same_url index)

not_same : (t : Bool) → (t ≡ true → ⊥) → t ≡ false
not_same true h = absurd (h refl)
not_same false h = refl

-- what begins with another url is refused
pub other_url : (index url rest : List ℕ) → NoZero url → (url ≡ index → ⊥) → read_entry index (head ++ (url ++ 0 ∷ rest)) ≡ Err OtherIndex
other_url index url rest whole other =
    head_read index (url ++ 0 ∷ rest) ∙ url_read index url rest whole
    ∙ not_both (bytes_eq url index) _ _ (not_same (bytes_eq url index) (λ h. other ((bytes_eq-Decides url index).0 h)))

-- and so is each file with another first byte
pub other_version : (index : List ℕ) (first : ℕ) (rest : List ℕ) → (first ≡ 4 → ⊥) → IsErr (read_entry index (first ∷ rest))
other_version index first rest other = go (nat_lt first 4) (nat_lt 4 first) refl refl
  where
    go : (below above : Bool) → nat_lt first 4 ≡ below → nat_lt 4 first ≡ above → IsErr (cond below (Err OutdatedCacheVersion) (cond above (Err UnknownCacheVersion) (read_number index rest)))
    go true above b a = refl
    go false true b a = refl
    go false false b a = absurd (other (grind (arith, nat_tests)))

-- and so is the entry of another index
pub other_index : (index url : List ℕ) (r : EntryRevision) (ps : List Pair) → NoZero url → (url ≡ index → ⊥) → read_entry index (entry url r ps) ≡ Err OtherIndex
other_index index url r ps whole other = other_url index url (entry_text r ++ 0 ∷ flat_map pair_bytes ps) whole other

abbrev Made : EntryRevision → List (List ℕ) → ReadEntry
Made r ls = record { revision = r; versions = flat_map pair_bytes (map pair_of ls) }

pub entry_read : (index : List ℕ) (r : EntryRevision) (l : List ℕ) (ls : List (List ℕ)) → NoZero index → IsRevision r → NoZero (entry_text r) → NoneZero (l ∷ ls)
    → read_entry index (entry index r (map pair_of (l ∷ ls))) ≡ Ok (Made r (l ∷ ls))
entry_read index r l ls url_whole formed text_whole whole =
    let text = entry_text r in
    let versions = flat_map pair_bytes (map pair_of (l ∷ ls)) in
    let cut : cut_at 0 (text ++ 0 ∷ versions) ≡ Some (text, versions) = cut_end text versions text_whole in
    let first : first_part (text ++ 0 ∷ versions) ≡ text = ap (λ (o : Option (List ℕ × List ℕ)). (unwrap_or o (text ++ 0 ∷ versions, [])).0) cut in
    let later : later_parts (text ++ 0 ∷ versions) ≡ versions = ap (λ (o : Option (List ℕ × List ℕ)). (unwrap_or o (text ++ 0 ∷ versions, [])).1) cut in
    let utf8 : utf8_text (first_part (text ++ 0 ∷ versions)) ≡ Some text = ap utf8_text first ∙ utf8_text-utf8 text (text_utf8 r formed) in
    let parts : read_revision (text ++ 0 ∷ versions) ≡ Ok (Made r (l ∷ ls)) =
    not_both _ _ _ (some_bytes text versions)
    ∙ ap (λ o. read_text o (later_parts (text ++ 0 ∷ versions))) utf8 ∙ ap (read_text (Some text)) later
    ∙ not_both _ _ _ (two_pieces l ls whole) ∙ ap (λ o. with_revision o versions) (revision_back r formed) in
    index_read index (text ++ 0 ∷ versions) url_whole ∙ parts

-- ---- plain bodies

plain_parts : (a b : Bool) → (a && b) ≡ true → (a ≡ true) × (b ≡ true)
plain_parts true b h = (refl, h)
plain_parts false b h = cc

no_line : (body : List ℕ) → trimmed body ≡ [] → valid body ≡ true → ⊥
no_line body none h = cc (rw none at h)

pub some_line : (body bytes : List ℕ) → trimmed body ≡ bytes → valid body ≡ true → (l : List ℕ) × (ls : List (List ℕ)) × (lines body ≡ l ∷ ls)
some_line body [] is h = absurd (no_line body is h)
some_line body (b ∷ bs) is h = let cut = first_of b bs in (cut.0, cut.1, ap (pieces 10) is ∙ cut.2)
  where
    onto : (b : ℕ) (ps : List (List ℕ)) → (l : List ℕ) × (ls : List (List ℕ)) × (onto_first b ps ≡ l ∷ ls)
    onto b [] = (b ∷ [], [], refl)
    onto b (p ∷ ps) = (b ∷ p, ps, refl)

    either : (t : Bool) (b : ℕ) (bs : List ℕ) → (l : List ℕ) × (ls : List (List ℕ)) × (cond t ([] ∷ pieces 10 bs) (onto_first b (pieces 10 bs)) ≡ l ∷ ls)
    either true b bs = ([], pieces 10 bs, refl)
    either false b bs = onto b (pieces 10 bs)

    first_of : (b : ℕ) (bs : List ℕ) → (l : List ℕ) × (ls : List (List ℕ)) × (pieces 10 (b ∷ bs) ≡ l ∷ ls)
    first_of b bs = either (b == 10) b bs

pub plain_valid : (body : List ℕ) → plain body ≡ true → valid body ≡ true
plain_valid body h = (plain_parts (valid body) (has_no_zero body) h).0

pub plain_lines : (body : List ℕ) → plain body ≡ true → NoneZero (lines body)
plain_lines body h = lines_zero body (plain_parts (valid body) (has_no_zero body) h).1

pub lines_back : (body : List ℕ) → plain body ≡ true → lines_in (flat_map pair_bytes (pairs body)) ≡ lines body
lines_back body h = pieces_paired (lines body) (plain_lines body h)

pub body_read : (index : List ℕ) (r : EntryRevision) (body : List ℕ) → NoZero index → IsRevision r → NoZero (entry_text r) → plain body ≡ true
    → read_entry index (entry index r (pairs body)) ≡ Ok (record { revision = r; versions = flat_map pair_bytes (pairs body) })
body_read index r body url_whole formed text_whole h =
    let some = some_line body (trimmed body) refl (plain_valid body h) in
    let whole : NoneZero (some.0 ∷ some.1) = subst NoneZero some.2 (plain_lines body h) in
    ap (λ (ls : List (List ℕ)). read_entry index (entry index r (map pair_of ls))) some.2 ∙ entry_read index r some.0 some.1 url_whole formed text_whole whole
    ∙ ap (λ (ls : List (List ℕ)). Ok (Made r ls)) (sym some.2)

-- ---- the revision that an entry is read under

read_case : (t : Bool) (r : EntryRevision) (versions : List ℕ) (e : ReadEntry) → cond t (Err InvalidCacheEntry) (Ok (record { revision = r; versions = versions })) ≡ Ok e → e.revision ≡ r
read_case true r versions e h = cc
read_case false r versions e h = sym (ap revision_or h)
  where
    revision_or : Result ReadEntry CacheError → EntryRevision
    revision_or (Ok e) = e.revision
    revision_or (Err f) = Unknown

-- an entry that is readable has the revision that it was written under
pub entry_revision : (index : List ℕ) (r : EntryRevision) (ps : List Pair) (e : ReadEntry) → NoZero index → IsRevision r → NoZero (entry_text r) → read_entry index (entry index r ps) ≡ Ok e → e.revision ≡ r
entry_revision index r ps e url_whole formed text_whole h =
    let text = entry_text r in
    let versions = flat_map pair_bytes ps in
    let cut : cut_at 0 (text ++ 0 ∷ versions) ≡ Some (text, versions) = cut_end text versions text_whole in
    let first : first_part (text ++ 0 ∷ versions) ≡ text = ap (λ (o : Option (List ℕ × List ℕ)). (unwrap_or o (text ++ 0 ∷ versions, [])).0) cut in
    let later : later_parts (text ++ 0 ∷ versions) ≡ versions = ap (λ (o : Option (List ℕ × List ℕ)). (unwrap_or o (text ++ 0 ∷ versions, [])).1) cut in
    let utf8 : utf8_text (first_part (text ++ 0 ∷ versions)) ≡ Some text = ap utf8_text first ∙ utf8_text-utf8 text (text_utf8 r formed) in
    let parts : read_revision (text ++ 0 ∷ versions) ≡ cond (nat_lt (length (pieces 0 versions)) 2) (Err InvalidCacheEntry) (Ok (record { revision = r; versions = versions })) =
    not_both _ _ _ (some_bytes text versions)
    ∙ ap (λ o. read_text o (later_parts (text ++ 0 ∷ versions))) utf8 ∙ ap (read_text (Some text)) later
    ∙ ap (λ o. cond (nat_lt (length (pieces 0 versions)) 2) (Err InvalidCacheEntry) (with_revision o versions)) (revision_back r formed) in
    read_case (nat_lt (length (pieces 0 versions)) 2) r versions e (sym parts ∙ sym (index_read index (text ++ 0 ∷ versions) url_whole) ∙ h)

-- honest text is UTF-8 without a zero byte
honest_low : (b : ℕ) → (nat_le 32 b && nat_le b 126) ≡ true → nat_lt b 128 ≡ true
honest_low b h = grind (arith, nat_tests)

honest_whole : (b : ℕ) → (nat_le 32 b && nat_le b 126) ≡ true → not (b == 0) ≡ true
honest_whole b h = grind (arith, nat_tests)

all_low : (bs : List ℕ) → list_all (λ c. nat_le 32 c && nat_le c 126) bs ≡ true → list_all (λ b. nat_lt b 128) bs ≡ true
all_low [] h = refl
all_low (b ∷ bs) h = let parts = first_low (nat_le 32 b && nat_le b 126) _ h in and_true _ _ (honest_low b parts.0) (all_low bs parts.1)

all_whole : (bs : List ℕ) → list_all (λ c. nat_le 32 c && nat_le c 126) bs ≡ true → NoZero bs
all_whole [] h = refl
all_whole (b ∷ bs) h = let parts = first_low (nat_le 32 b && nat_le b 126) _ h in and_true _ _ (honest_whole b parts.0) (all_whole bs parts.1)

honest_bytes : (text : List ℕ) → is_honest_text text ≡ true → list_all (λ c. nat_le 32 c && nat_le c 126) text ≡ true
honest_bytes [] h = cc
honest_bytes (b ∷ bs) h = (first_low _ _ (first_low _ _ h).0).0

pub honest_utf8 : (text : List ℕ) → is_honest_text text ≡ true → IsTrue (is_utf8 text)
honest_utf8 text h = is_utf8-from_IsUtf8 text (IsUtf8-from_ascii text (ascii text (all_low text (honest_bytes text h))))

pub honest_zero : (text : List ℕ) → is_honest_text text ≡ true → NoZero text
honest_zero text h = all_whole text (honest_bytes text h)
