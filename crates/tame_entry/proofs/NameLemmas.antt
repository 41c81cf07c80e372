-- The text of a revision is split at its first `: `.
use Rattle.std.proofs.Common.{◌≡◌, ℕ, List, [], ◌∷◌, ◌++◌, Bool, true, false, cond, ◌==◌, Option, Some, None, codes, refl, sym, ap, ◌∙◌, subst}
use Rattle.std.specs.Prelude.{◌↔◌, bytes_eq}
use Rattle.std.specs.Char.{is_ascii_hexdigit}
use Rattle.std.proofs.lemmas.Slice.Eq.{bytes_eq-Decides}
use Rattle.tame_records.specs.Checksums.{first_bad_digit}
use Rattle.tame_entry.specs.Commits.{is_commit}
use Rattle.tame_entry.specs.Prefixes.{without_prefix}
use Rattle.tame_entry.specs.Revision.{EntryRevision, Http, Commit, Unknown, IsFormed, date_or, entry_text, etag_or, revision_of, unnamed_revision}
use Rattle.tame_entry.specs.RevisionNames.{IsUnsplit, revision_named}
use Rattle.tame_entry.specs.declared.revisions.OwnedRevision.TheVariants.{Etag, LastModified}
use Rattle.tame_entry.proofs.CommitLemmas.{commit_good, none_found}
use Rattle.tame_entry.proofs.EntryLemmas.{formed_back}
use Rattle.tame_entry.proofs.PrefixLemmas.{begins_so, none_behind, prefix_gone}

abbrev mark : List ℕ
mark = codes ": "

-- ---- of two equal texts, the parts before the first `: ` are equal

tail_unsplit : (b : ℕ) (bs : List ℕ) → IsUnsplit (b ∷ bs) → IsUnsplit bs
tail_unsplit b bs h name value is = h (b ∷ name) value (ap (λ (xs : List ℕ). b ∷ xs) is)

heads : (a b : ℕ) (xs ys : List ℕ) → a ∷ xs ≡ b ∷ ys → (a ≡ b) × (xs ≡ ys)
heads a b xs ys h = (cc, cc)

two_heads : (a b c d : ℕ) (xs ys : List ℕ) → a ∷ b ∷ xs ≡ c ∷ d ∷ ys → (c ≡ a) × (d ≡ b)
two_heads a b c d xs ys h = (cc, cc)

with_heads : (a b c d : ℕ) (xs : List ℕ) → c ≡ a → d ≡ b → c ∷ d ∷ xs ≡ a ∷ b ∷ xs
with_heads a b c d xs h k = ap (λ (n : ℕ). n ∷ d ∷ xs) h ∙ ap (λ (n : ℕ). a ∷ n ∷ xs) k

no_space : (n : ℕ) → 58 ≡ n → (n == 58) ≡ false → ⊥
no_space n h other = let e : true ≡ false = ap (λ k. k == 58) h ∙ other in cc

-- a name isn't the start of another one
no_longer : (c : ℕ) (cs x y : List ℕ) → IsUnsplit (c ∷ cs) → mark ++ x ≡ ((c ∷ cs) ++ mark) ++ y → ⊥
no_longer c [] x y whole h = no_space 32 (two_heads 58 32 c 58 x (32 ∷ y) h).1 refl
no_longer c (d ∷ ds) x y whole h =
    let both = two_heads 58 32 c d x ((ds ++ mark) ++ y) h in
    whole [] ds (with_heads 58 32 c d ds both.0 both.1)

one_name : (a b x y : List ℕ) → IsUnsplit a → IsUnsplit b → (a ++ mark) ++ x ≡ (b ++ mark) ++ y → a ≡ b
one_name [] [] x y ha hb h = refl
one_name [] (c ∷ cs) x y ha hb h = absurd (no_longer c cs x y hb h)
one_name (c ∷ cs) [] x y ha hb h = absurd (no_longer c cs y x ha (sym h))
one_name (c ∷ cs) (d ∷ ds) x y ha hb h =
    let both = heads c d ((cs ++ mark) ++ x) ((ds ++ mark) ++ y) h in
    ap (λ (n : ℕ). n ∷ cs) both.0 ∙ ap (λ (xs : List ℕ). d ∷ xs) (one_name cs ds x y (tail_unsplit c cs ha) (tail_unsplit d ds hb) both.1)

-- a text without a colon
abbrev no_colon : List ℕ → Type 0
no_colon [] = Unit {0}
no_colon (b ∷ bs) = ((b == 58) ≡ false) × no_colon bs

unsplit : (text : List ℕ) → no_colon text → IsUnsplit text
unsplit [] h [] value is = cc
unsplit [] h (c ∷ cs) value is = cc
unsplit (b ∷ bs) h [] value is = let e : false ≡ true = sym h.0 ∙ ap (λ k. k == 58) (heads b 58 bs (32 ∷ value) is).0 in cc
unsplit (b ∷ bs) h (c ∷ cs) value is = unsplit bs h.1 cs value (heads b c bs ((cs ++ mark) ++ value) is).1

etag_unsplit : IsUnsplit (codes "etag")
etag_unsplit = unsplit (codes "etag") (refl, (refl, (refl, (refl, tt))))

date_unsplit : IsUnsplit (codes "last-modified")
date_unsplit = unsplit (codes "last-modified") (refl, (refl, (refl, (refl, (refl, (refl, (refl, (refl, (refl, (refl, (refl, (refl, (refl, tt)))))))))))))

-- ---- a text with a name

-- under another name than this one
other_name : (known name value : List ℕ) → IsUnsplit known → IsUnsplit name → bytes_eq name known ≡ false → without_prefix (known ++ mark) ((name ++ mark) ++ value) ≡ None
other_name known name value hk hn other =
    none_behind (known ++ mark) ((name ++ mark) ++ value) _ refl (λ rest is. differs (one_name name known value rest hn hk is))
  where
    differs : name ≡ known → ⊥
    differs same = cc (sym ((bytes_eq-Decides name known).1 same) ∙ other)

under_name : (known name value : List ℕ) → bytes_eq name known ≡ true → without_prefix (known ++ mark) ((name ++ mark) ++ value) ≡ Some value
under_name known name value same =
    ap (λ (n : List ℕ). without_prefix (known ++ mark) ((n ++ mark) ++ value)) ((bytes_eq-Decides name known).0 same)
    ∙ prefix_gone (known ++ mark) value

colon_bad : (name value : List ℕ) → first_bad_digit ((name ++ mark) ++ value) ≡ None → ⊥
colon_bad [] value h = cc
colon_bad (c ∷ cs) value h = colon_bad cs value (none_found (is_ascii_hexdigit c) c _ h).1

known_none : (name value : List ℕ) → IsUnsplit name → unnamed_revision ((name ++ mark) ++ value) ≡ None
known_none name value hn = by_tests (is_commit ((name ++ mark) ++ value)) (bytes_eq ((name ++ mark) ++ value) (codes "Unknown")) refl refl
  where
    by_tests : (s t : Bool) → is_commit ((name ++ mark) ++ value) ≡ s → bytes_eq ((name ++ mark) ++ value) (codes "Unknown") ≡ t
        → cond s (Some (Commit ((name ++ mark) ++ value))) (cond t (Some Unknown) None) ≡ None
    by_tests true t hs ht = absurd (colon_bad name value (commit_good ((name ++ mark) ++ value) hs))
    by_tests false true hs ht = absurd (unsplit (codes "Unknown") (refl, (refl, (refl, (refl, (refl, (refl, (refl, tt))))))) name value (sym ((bytes_eq-Decides ((name ++ mark) ++ value) (codes "Unknown")).0 ht)))
    by_tests false false hs ht = refl

named_case : (s t : Bool) (name value : List ℕ) → IsUnsplit name → bytes_eq name (codes "etag") ≡ s → bytes_eq name (codes "last-modified") ≡ t
    → revision_of ((name ++ mark) ++ value) ≡ cond s (Some (Http (Etag value))) (cond t (Some (Http (LastModified value))) None)
named_case true t name value hn hs ht =
    ap (λ o. etag_or o (date_or (without_prefix (codes "last-modified: ") ((name ++ mark) ++ value)) (unnamed_revision ((name ++ mark) ++ value)))) (under_name (codes "etag") name value hs)
named_case false true name value hn hs ht =
    ap (λ o. etag_or o (date_or (without_prefix (codes "last-modified: ") ((name ++ mark) ++ value)) (unnamed_revision ((name ++ mark) ++ value)))) (other_name (codes "etag") name value etag_unsplit hn hs)
    ∙ ap (λ o. date_or o (unnamed_revision ((name ++ mark) ++ value))) (under_name (codes "last-modified") name value ht)
named_case false false name value hn hs ht =
    ap (λ o. etag_or o (date_or (without_prefix (codes "last-modified: ") ((name ++ mark) ++ value)) (unnamed_revision ((name ++ mark) ++ value)))) (other_name (codes "etag") name value etag_unsplit hn hs)
    ∙ ap (λ o. date_or o (unnamed_revision ((name ++ mark) ++ value))) (other_name (codes "last-modified") name value date_unsplit hn ht)
    ∙ known_none name value hn

pub named : (name value : List ℕ) → IsUnsplit name → revision_of (name ++ codes ": " ++ value) ≡ revision_named name value
named name value hn = named_case (bytes_eq name (codes "etag")) (bytes_eq name (codes "last-modified")) name value hn refl refl

-- ---- a text without a name

unnamed_by : (known text : List ℕ) → IsUnsplit text → without_prefix (known ++ mark) text ≡ None
unnamed_by known text h = none_behind (known ++ mark) text _ refl (λ rest is. h known rest is)

pub unnamed : (text : List ℕ) → IsUnsplit text → revision_of text ≡ unnamed_revision text
unnamed text h =
    ap (λ o. etag_or o (date_or (without_prefix (codes "last-modified: ") text) (unnamed_revision text))) (unnamed_by (codes "etag") text h)
    ∙ ap (λ o. date_or o (unnamed_revision text)) (unnamed_by (codes "last-modified") text h)

-- ---- each revision is read only from its own text

is_commit_of : (t : Bool) (text : List ℕ) (r : EntryRevision) → is_commit text ≡ t
    → cond t (Some (Commit text)) (cond (bytes_eq text (codes "Unknown")) (Some Unknown) None) ≡ Some r → (text ≡ entry_text r) × IsFormed r
is_commit_of true text r ht h = subst (λ (r : EntryRevision). (text ≡ entry_text r) × IsFormed r) (inner (Commit text) r h) (refl, ht)
  where
    inner : (a b : EntryRevision) → Some a ≡ Some b → a ≡ b
    inner a b h = cc
is_commit_of false text r ht h = unknown_of (bytes_eq text (codes "Unknown")) refl h
  where
    inner : (a b : EntryRevision) → Some a ≡ Some b → a ≡ b
    inner a b h = cc

    unknown_of : (u : Bool) → bytes_eq text (codes "Unknown") ≡ u → cond u (Some Unknown) None ≡ Some r → (text ≡ entry_text r) × IsFormed r
    unknown_of true hu k = subst (λ (r : EntryRevision). (text ≡ entry_text r) × IsFormed r) (inner Unknown r k) ((bytes_eq-Decides text (codes "Unknown")).0 hu, tt)
    unknown_of false hu k = cc

text_case : (etag date : Option (List ℕ)) (text : List ℕ) (r : EntryRevision) → without_prefix (codes "etag: ") text ≡ etag → without_prefix (codes "last-modified: ") text ≡ date
    → etag_or etag (date_or date (unnamed_revision text)) ≡ Some r → (text ≡ entry_text r) × IsFormed r
text_case (Some e) date text r he hd h = subst (λ (r : EntryRevision). (text ≡ entry_text r) × IsFormed r) (inner (Http (Etag e)) r h) (begins_so (codes "etag: ") text e he, tt)
  where
    inner : (a b : EntryRevision) → Some a ≡ Some b → a ≡ b
    inner a b h = cc
text_case None (Some d) text r he hd h = subst (λ (r : EntryRevision). (text ≡ entry_text r) × IsFormed r) (inner (Http (LastModified d)) r h) (begins_so (codes "last-modified: ") text d hd, tt)
  where
    inner : (a b : EntryRevision) → Some a ≡ Some b → a ≡ b
    inner a b h = cc
text_case None None text r he hd h = is_commit_of (is_commit text) text r refl h

pub text_is : (text : List ℕ) (r : EntryRevision) → revision_of text ≡ Some r → (text ≡ entry_text r) × IsFormed r
text_is text r h = text_case (without_prefix (codes "etag: ") text) (without_prefix (codes "last-modified: ") text) text r refl refl h

pub texts_are : (text : List ℕ) (r : EntryRevision) → (revision_of text ≡ Some r) ↔ ((text ≡ entry_text r) × IsFormed r)
texts_are text r = (text_is text r, λ h. ap revision_of h.0 ∙ formed_back r h.1)
