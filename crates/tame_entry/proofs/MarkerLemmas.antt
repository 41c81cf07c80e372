-- Each marker of a template is replaced where it is.
use Rattle.std.proofs.Common.{◌≡◌, ℕ, List, [], ◌∷◌, ◌++◌, Bool, true, false, cond, Option, Some, None, codes, refl, sym, ap, ◌∙◌, append_assoc, append-nil}
use Rattle.std.specs.Prelude.{◌≢◌, ◌||◌, flat_map, bytes_eq}
use Rattle.std.specs.List.{list_any, onto_first, slice_split}
use Rattle.std.specs.Str.{str_to_ascii_lowercase}
use Rattle.std.proofs.lemmas.Slice.Eq.{bytes_eq-Decides}
use Rattle.tame_names.specs.Names.{prefix}
use Rattle.tame_entry.specs.Config.{crates_io_url, download_url, with_slash, filled, filled_part, filled_parts, is_brace, plain_url, slash, value_or}
use Rattle.tame_entry.specs.Markers.{EndsNoMarker}
use Rattle.tame_entry.specs.Prefixes.{without_prefix}
use Rattle.tame_entry.proofs.PrefixLemmas.{begins_so}

-- no byte is a `{`
abbrev Whole : List ℕ → Type 0
Whole text = list_any is_brace text ≡ false

neither : (a b : Bool) → (a || b) ≡ false → (a ≡ false) × (b ≡ false)
neither true b h = cc
neither false b h = (refl, h)

-- ---- the text before a brace

onto_filled : (name version : List ℕ) (b : ℕ) (ps : List (List ℕ)) → filled_parts name version (onto_first b ps) ≡ b ∷ filled_parts name version ps
onto_filled name version b [] = refl
onto_filled name version b (p ∷ ps) = refl

byte_filled : (t : Bool) (name version : List ℕ) (b : ℕ) (bs : List ℕ) → t ≡ false
    → filled_parts name version (cond t ([] ∷ slice_split is_brace bs) (onto_first b (slice_split is_brace bs))) ≡ b ∷ filled name version bs
byte_filled true name version b bs h = cc
byte_filled false name version b bs h = onto_filled name version b (slice_split is_brace bs)

pub in_front : (name version text rest : List ℕ) → Whole text → filled name version (text ++ rest) ≡ text ++ filled name version rest
in_front name version [] rest h = refl
in_front name version (b ∷ bs) rest h =
    let both = neither (is_brace b) (list_any is_brace bs) h in
    byte_filled (is_brace b) name version b (bs ++ rest) both.0 ∙ ap (λ (xs : List ℕ). b ∷ xs) (in_front name version bs rest both.1)

pub all_text : (name version text : List ℕ) → Whole text → filled name version text ≡ text
all_text name version text h = ap (filled name version) (sym (append-nil text)) ∙ in_front name version text [] h ∙ append-nil text

-- ---- a marker

-- some first part
abbrev Split : List ℕ → Type 0
Split text = (first : List ℕ) × (parts : List (List ℕ)) × (slice_split is_brace text ≡ first ∷ parts)

onto_split : (b : ℕ) (ps : List (List ℕ)) → (first : List ℕ) × (parts : List (List ℕ)) × (onto_first b ps ≡ first ∷ parts)
onto_split b [] = (b ∷ [], [], refl)
onto_split b (p ∷ ps) = (b ∷ p, ps, refl)

split_case : (t : Bool) (b : ℕ) (ps : List (List ℕ)) → (first : List ℕ) × (parts : List (List ℕ)) × (cond t ([] ∷ ps) (onto_first b ps) ≡ first ∷ parts)
split_case true b ps = ([], ps, refl)
split_case false b ps = onto_split b ps

split_of : (text : List ℕ) → Split text
split_of [] = ([], [], refl)
split_of (b ∷ bs) = split_case (is_brace b) b (slice_split is_brace bs)

split_byte : (t : Bool) (b : ℕ) (first : List ℕ) (ps parts : List (List ℕ)) → t ≡ false → ps ≡ first ∷ parts → cond t ([] ∷ ps) (onto_first b ps) ≡ (b ∷ first) ∷ parts
split_byte true b first ps parts ht h = cc
split_byte false b first ps parts ht h = ap (onto_first b) h

-- text without a brace goes to the first part
split_front : (text rest first : List ℕ) (parts : List (List ℕ)) → Whole text → slice_split is_brace rest ≡ first ∷ parts → slice_split is_brace (text ++ rest) ≡ (text ++ first) ∷ parts
split_front [] rest first parts whole h = h
split_front (b ∷ bs) rest first parts whole h =
    let both = neither (is_brace b) (list_any is_brace bs) whole in
    split_byte (is_brace b) b (bs ++ first) (slice_split is_brace (bs ++ rest)) parts both.0 (split_front bs rest first parts both.1 h)

-- what follows a brace is a marker's end with its value
marker_here : (name version end value rest : List ℕ) → Whole end → ((left : List ℕ) → filled_part name version (end ++ left) ≡ value ++ left)
    → filled name version (123 ∷ (end ++ rest)) ≡ value ++ filled name version rest
marker_here name version end value rest whole gives =
    let split = split_of rest in
    let more = flat_map (filled_part name version) split.1 in
    ap (λ (ps : List (List ℕ)). flat_map (filled_part name version) ps) (split_front end rest split.0 split.1 whole split.2)
    ∙ ap (λ (xs : List ℕ). xs ++ more) (gives split.0)
    ∙ append_assoc value split.0 more
    ∙ ap (λ (ps : List (List ℕ)). value ++ filled_parts name version ps) (sym split.2)

marker_in : (name version before end value rest : List ℕ) → Whole before → Whole end → ((left : List ℕ) → filled_part name version (end ++ left) ≡ value ++ left)
    → filled name version ((before ++ 123 ∷ end) ++ rest) ≡ (before ++ value) ++ filled name version rest
marker_in name version before end value rest front whole gives =
    ap (filled name version) (append_assoc before (123 ∷ end) rest)
    ∙ in_front name version before (123 ∷ (end ++ rest)) front
    ∙ ap (λ (xs : List ℕ). before ++ xs) (marker_here name version end value rest whole gives)
    ∙ sym (append_assoc before value (filled name version rest))

pub crate_in : (name version before rest : List ℕ) → Whole before → filled name version (before ++ codes "{crate}" ++ rest) ≡ before ++ name ++ filled name version rest
crate_in name version before rest front = marker_in name version before (codes "crate}") name rest front refl (λ left. refl)

pub version_in : (name version before rest : List ℕ) → Whole before → filled name version (before ++ codes "{version}" ++ rest) ≡ before ++ version ++ filled name version rest
version_in name version before rest front = marker_in name version before (codes "version}") version rest front refl (λ left. refl)

pub prefix_in : (name version before rest : List ℕ) → Whole before → filled name version (before ++ codes "{prefix}" ++ rest) ≡ before ++ prefix slash name ++ filled name version rest
prefix_in name version before rest front = marker_in name version before (codes "prefix}") (prefix slash name) rest front refl (λ left. refl)

pub lowerprefix_in : (name version before rest : List ℕ) → Whole before
    → filled name version (before ++ codes "{lowerprefix}" ++ rest) ≡ before ++ str_to_ascii_lowercase (prefix slash name) ++ filled name version rest
lowerprefix_in name version before rest front = marker_in name version before (codes "lowerprefix}") (str_to_ascii_lowercase (prefix slash name)) rest front refl (λ left. refl)

-- ---- another brace

first_same : (a b : List ℕ) (ps qs : List (List ℕ)) → a ∷ ps ≡ b ∷ qs → a ≡ b
first_same a b ps qs h = cc

begins_case : (t : Bool) (b : ℕ) (bs first : List ℕ) (parts : List (List ℕ)) (s : Split bs)
    → cond t ([] ∷ slice_split is_brace bs) (onto_first b (slice_split is_brace bs)) ≡ first ∷ parts
    → (more : List ℕ) × (bs ≡ s.0 ++ more) → (more : List ℕ) × (b ∷ bs ≡ first ++ more)
begins_case true b bs first parts s h rest = (b ∷ bs, ap (λ (f : List ℕ). f ++ b ∷ bs) (first_same [] first (slice_split is_brace bs) parts h))
begins_case false b bs first parts s h rest =
    let same : b ∷ s.0 ≡ first = first_same (b ∷ s.0) first s.1 parts (sym (ap (onto_first b) s.2) ∙ h) in
    (rest.0, ap (λ (xs : List ℕ). b ∷ xs) rest.1 ∙ ap (λ (f : List ℕ). f ++ rest.0) same)

-- a text begins with its first part
begins : (text first : List ℕ) (parts : List (List ℕ)) → slice_split is_brace text ≡ first ∷ parts → (more : List ℕ) × (text ≡ first ++ more)
begins [] first parts h = ([], first_same [] first [] parts h ∙ sym (append-nil first))
begins (b ∷ bs) first parts h =
    let s = split_of bs in
    begins_case (is_brace b) b bs first parts s h (begins bs s.0 s.1 s.2)

-- a part begins with a marker's end only if the text does
none_there : (o : Option (List ℕ)) (end text first : List ℕ) (parts : List (List ℕ)) → slice_split is_brace text ≡ first ∷ parts → without_prefix end first ≡ o
    → ((rest : List ℕ) → text ≢ end ++ rest) → o ≡ None
none_there None end text first parts split h lacks = refl
none_there (Some left) end text first parts split h lacks =
    let more = begins text first parts split in
    absurd (lacks (left ++ more.0) (more.1 ∙ ap (λ (f : List ℕ). f ++ more.0) (begins_so end first left h) ∙ append_assoc end left more.0))

pub other_in : (name version before rest : List ℕ) → Whole before → EndsNoMarker rest → filled name version (before ++ codes "{" ++ rest) ≡ before ++ codes "{" ++ filled name version rest
other_in name version before rest front none =
    let split = split_of rest in
    let first = split.0 in
    let crate_none = none_there (without_prefix (codes "crate}") first) (codes "crate}") rest first split.1 split.2 refl none.crate in
    let version_none = none_there (without_prefix (codes "version}") first) (codes "version}") rest first split.1 split.2 refl none.version in
    let prefix_none = none_there (without_prefix (codes "prefix}") first) (codes "prefix}") rest first split.1 split.2 refl none.prefix in
    let lower_none = none_there (without_prefix (codes "lowerprefix}") first) (codes "lowerprefix}") rest first split.1 split.2 refl none.lowerprefix in
    let lower = str_to_ascii_lowercase (prefix slash name) in
    let as_is : filled_part name version first ≡ 123 ∷ first =
    ap (λ o. value_or name o (value_or version (without_prefix (codes "version}") first) (value_or (prefix slash name) (without_prefix (codes "prefix}") first) (value_or lower (without_prefix (codes "lowerprefix}") first) (codes "{" ++ first))))) crate_none
    ∙ ap (λ o. value_or version o (value_or (prefix slash name) (without_prefix (codes "prefix}") first) (value_or lower (without_prefix (codes "lowerprefix}") first) (codes "{" ++ first)))) version_none
    ∙ ap (λ o. value_or (prefix slash name) o (value_or lower (without_prefix (codes "lowerprefix}") first) (codes "{" ++ first))) prefix_none
    ∙ ap (λ o. value_or lower o (codes "{" ++ first)) lower_none in
    let here : filled name version (123 ∷ rest) ≡ 123 ∷ filled name version rest =
    ap (λ (ps : List (List ℕ)). flat_map (filled_part name version) ps) split.2
    ∙ ap (λ (xs : List ℕ). xs ++ flat_map (filled_part name version) split.1) as_is
    ∙ ap (λ (ps : List (List ℕ)). 123 ∷ filled_parts name version ps) (sym split.2) in
    ap (filled name version) (append_assoc before (codes "{") rest)
    ∙ in_front name version before (123 ∷ rest) front
    ∙ ap (λ (xs : List ℕ). before ++ xs) here
    ∙ sym (append_assoc before (codes "{") (filled name version rest))

-- ---- which form a text is

abbrev crates_io : List ℕ
crates_io = codes "https://crates.io/api/v1/crates"

pub folder : (name version dl : List ℕ) → Whole dl → dl ≢ crates_io → download_url name version dl ≡ with_slash dl ++ name ++ slash ++ version ++ codes "/download"
folder name version dl whole other = by_tests (bytes_eq dl crates_io) (list_any is_brace dl) refl whole
  where
    by_tests : (s t : Bool) → bytes_eq dl crates_io ≡ s → t ≡ false → cond s (crates_io_url name version) (cond t (filled name version dl) (plain_url name version dl)) ≡ plain_url name version dl
    by_tests true t hs ht = absurd (other ((bytes_eq-Decides dl crates_io).0 hs))
    by_tests false true hs ht = cc
    by_tests false false hs ht = refl

pub template : (name version dl : List ℕ) → list_any is_brace dl ≡ true → download_url name version dl ≡ filled name version dl
template name version dl h = by_tests (bytes_eq dl crates_io) (list_any is_brace dl) refl h
  where
    no_brace : dl ≡ crates_io → ⊥
    no_brace same = let e : true ≡ false = sym h ∙ ap (list_any is_brace) same in cc

    by_tests : (s t : Bool) → bytes_eq dl crates_io ≡ s → t ≡ true → cond s (crates_io_url name version) (cond t (filled name version dl) (plain_url name version dl)) ≡ filled name version dl
    by_tests true t hs ht = absurd (no_brace ((bytes_eq-Decides dl crates_io).0 hs))
    by_tests false true hs ht = refl
    by_tests false false hs ht = cc
