-- The options of `--deny`, one after the other.
use Rattle.std.proofs.Common.{◌≡◌, ℕ, List, [], ◌∷◌, ◌++◌, Bool, true, false, cond, ◌||◌, refl, sym, ap, ◌∙◌, append-nil, append_assoc, rules}
use Rattle.std.specs.Prelude.{bytes_eq}
use Rattle.std.specs.List.{list_any}
use Rattle.std.proofs.lemmas.Bool.{false≢true}
use Rattle.std.proofs.lemmas.Slice.Eq.{bytes_eq-Decides}
use Rattle.audit_advisory.specs.Exits.{denies_self}
use Rattle.audit_advisory.specs.Outputs.{all_deny_options}
use Rattle.audit_advisory.specs.declared.metadata.Informational.{Informational}
use Rattle.audit_advisory.specs.declared.metadata.Informational.TheVariants.{Notice, Unmaintained, Unsound, Other}
use Rattle.audit_advisory.specs.declared.outputs.DenyOption.{DenyOption}
use Rattle.audit_advisory.specs.declared.outputs.DenyOption.TheVariants as deny
use Rattle.audit_settings.specs.Denied.{adds_kind}
use Rattle.audit_settings.specs.Overriding.{denied}
use Rattle.audit_settings.specs.Reported.{has_kind, is_same_kind, warned_of, with_kind}

or-false : (b : Bool) → (b || false) ≡ b
or-false true = refl
or-false false = refl

-- ---- what is denied

pub denied-appended : (given settled : List DenyOption) → denies_self given ≡ false → denied given settled ≡ settled ++ given
denied-appended [] settled h = sym (append-nil settled)
denied-appended (deny.Warnings ∷ given) settled h = absurd (false≢true (sym h))
denied-appended (deny.Unmaintained ∷ given) settled h = denied-appended given (settled ++ deny.Unmaintained ∷ []) h ∙ append_assoc settled (deny.Unmaintained ∷ []) given
denied-appended (deny.Unsound ∷ given) settled h = denied-appended given (settled ++ deny.Unsound ∷ []) h ∙ append_assoc settled (deny.Unsound ∷ []) given
denied-appended (deny.Yanked ∷ given) settled h = denied-appended given (settled ++ deny.Yanked ∷ []) h ∙ append_assoc settled (deny.Yanked ∷ []) given

pub denied-replaced : (front back settled : List DenyOption) → denies_self back ≡ false → denied (front ++ deny.Warnings ∷ back) settled ≡ all_deny_options ++ back
denied-replaced [] back settled h = denied-appended back all_deny_options h
denied-replaced (deny.Warnings ∷ front) back settled h = denied-replaced front back all_deny_options h
denied-replaced (deny.Unmaintained ∷ front) back settled h = denied-replaced front back (settled ++ deny.Unmaintained ∷ []) h
denied-replaced (deny.Unsound ∷ front) back settled h = denied-replaced front back (settled ++ deny.Unsound ∷ []) h
denied-replaced (deny.Yanked ∷ front) back settled h = denied-replaced front back (settled ++ deny.Yanked ∷ []) h

-- ---- kinds that are the same

same_text : (s t : List ℕ) → bytes_eq s t ≡ true → s ≡ t
same_text s t h = search (rules, bytes_eq-Decides)

same_kind : (j k : Informational) → is_same_kind j k ≡ true → j ≡ k
same_kind Notice Notice h = refl
same_kind Notice Unmaintained h = absurd (false≢true h)
same_kind Notice Unsound h = absurd (false≢true h)
same_kind Notice (Other t) h = absurd (false≢true h)
same_kind Unmaintained Notice h = absurd (false≢true h)
same_kind Unmaintained Unmaintained h = refl
same_kind Unmaintained Unsound h = absurd (false≢true h)
same_kind Unmaintained (Other t) h = absurd (false≢true h)
same_kind Unsound Notice h = absurd (false≢true h)
same_kind Unsound Unmaintained h = absurd (false≢true h)
same_kind Unsound Unsound h = refl
same_kind Unsound (Other t) h = absurd (false≢true h)
same_kind (Other s) Notice h = absurd (false≢true h)
same_kind (Other s) Unmaintained h = absurd (false≢true h)
same_kind (Other s) Unsound h = absurd (false≢true h)
same_kind (Other s) (Other t) h = ap Other (same_text s t h)

-- ---- one more kind

has_last : (k j : Informational) (ks : List Informational) → has_kind k (ks ++ j ∷ []) ≡ (has_kind k ks || is_same_kind j k)
has_last k j [] = elim (is_same_kind j k) as (λ b. cond b true false ≡ (false || b)) [ true ↦ refl | false ↦ refl ]
has_last k j (x ∷ xs) =
    elim (is_same_kind x k) as (λ b. cond b true (has_kind k (xs ++ j ∷ [])) ≡ (cond b true (has_kind k xs) || is_same_kind j k)) [
      | true ↦ refl
      | false ↦ has_last k j xs
    ]

has_there : (k j : Informational) (ks : List Informational) → has_kind j ks ≡ true → has_kind k ks ≡ (has_kind k ks || is_same_kind j k)
has_there k j ks h =
    elim (is_same_kind j k) as (λ b. is_same_kind j k ≡ b → has_kind k ks ≡ (has_kind k ks || b)) [
      | true ↦ λ e. let there : has_kind k ks ≡ true = ap (λ x. has_kind x ks) (sym (same_kind j k e)) ∙ h in rw there refl
      | false ↦ λ e. sym (or-false (has_kind k ks))
    ] refl

has_with : (k j : Informational) (ks : List Informational) → has_kind k (with_kind j ks) ≡ (has_kind k ks || is_same_kind j k)
has_with k j ks =
    elim (has_kind j ks) as (λ b. has_kind j ks ≡ b → has_kind k (cond b ks (ks ++ j ∷ [])) ≡ (has_kind k ks || is_same_kind j k)) [
      | true ↦ λ e. has_there k j ks e
      | false ↦ λ e. has_last k j ks
    ] refl

has_three : (k : Informational) (ks : List Informational)
    → has_kind k (with_kind Unsound (with_kind Unmaintained (with_kind Notice ks)))
    ≡ (((has_kind k ks || is_same_kind Notice k) || is_same_kind Unmaintained k) || is_same_kind Unsound k)
has_three k ks =
    has_with k Unsound (with_kind Unmaintained (with_kind Notice ks))
    ∙ ap (λ b. b || is_same_kind Unsound k) (has_with k Unmaintained (with_kind Notice ks) ∙ ap (λ b. b || is_same_kind Unmaintained k) (has_with k Notice ks))

-- ---- which kinds are warned about

none_other : (t : List ℕ) (options : List DenyOption) → list_any (adds_kind (Other t)) options ≡ false
none_other t [] = refl
none_other t (deny.Warnings ∷ options) = none_other t options
none_other t (deny.Unmaintained ∷ options) = none_other t options
none_other t (deny.Unsound ∷ options) = none_other t options
none_other t (deny.Yanked ∷ options) = none_other t options

first_of_three : (h more : Bool) → (((h || true) || false) || false) ≡ (h || (true || more))
first_of_three true more = refl
first_of_three false more = refl

second_of_three : (h more : Bool) → (((h || false) || true) || false) ≡ (h || (true || more))
second_of_three true more = refl
second_of_three false more = refl

third_of_three : (h more : Bool) → (((h || false) || false) || true) ≡ (h || (true || more))
third_of_three true more = refl
third_of_three false more = refl

none_of_three : (h more : Bool) → more ≡ false → (((h || false) || false) || false) ≡ (h || (false || more))
none_of_three true more e = refl
none_of_three false more e = sym e

all_three : (k : Informational) (h : Bool) (options : List DenyOption)
    → (((h || is_same_kind Notice k) || is_same_kind Unmaintained k) || is_same_kind Unsound k)
    ≡ (h || (adds_kind k deny.Warnings || list_any (adds_kind k) options))
all_three Notice h options = first_of_three h (list_any (adds_kind Notice) options)
all_three Unmaintained h options = second_of_three h (list_any (adds_kind Unmaintained) options)
all_three Unsound h options = third_of_three h (list_any (adds_kind Unsound) options)
all_three (Other t) h options = none_of_three h (list_any (adds_kind (Other t)) options) (none_other t options)

adds_unmaintained : (k : Informational) → is_same_kind Unmaintained k ≡ adds_kind k deny.Unmaintained
adds_unmaintained Notice = refl
adds_unmaintained Unmaintained = refl
adds_unmaintained Unsound = refl
adds_unmaintained (Other t) = refl

adds_unsound : (k : Informational) → is_same_kind Unsound k ≡ adds_kind k deny.Unsound
adds_unsound Notice = refl
adds_unsound Unmaintained = refl
adds_unsound Unsound = refl
adds_unsound (Other t) = refl

adds_yanked : (k : Informational) → false ≡ adds_kind k deny.Yanked
adds_yanked Notice = refl
adds_yanked Unmaintained = refl
adds_yanked Unsound = refl
adds_yanked (Other t) = refl

one_more : (h j more : Bool) → ((h || j) || more) ≡ (h || (j || more))
one_more true j more = refl
one_more false j more = refl

pub warned-kinds : (options : List DenyOption) (ks : List Informational) (k : Informational) → has_kind k (warned_of options ks) ≡ (has_kind k ks || list_any (adds_kind k) options)
warned-kinds [] ks k = sym (or-false (has_kind k ks))
warned-kinds (deny.Warnings ∷ options) ks k = has_three k ks ∙ all_three k (has_kind k ks) options
warned-kinds (deny.Unmaintained ∷ options) ks k =
    warned-kinds options (with_kind Unmaintained ks) k
    ∙ ap (λ b. b || list_any (adds_kind k) options) (has_with k Unmaintained ks)
    ∙ one_more (has_kind k ks) (is_same_kind Unmaintained k) (list_any (adds_kind k) options)
    ∙ ap (λ b. has_kind k ks || (b || list_any (adds_kind k) options)) (adds_unmaintained k)
warned-kinds (deny.Unsound ∷ options) ks k =
    warned-kinds options (with_kind Unsound ks) k
    ∙ ap (λ b. b || list_any (adds_kind k) options) (has_with k Unsound ks)
    ∙ one_more (has_kind k ks) (is_same_kind Unsound k) (list_any (adds_kind k) options)
    ∙ ap (λ b. has_kind k ks || (b || list_any (adds_kind k) options)) (adds_unsound k)
warned-kinds (deny.Yanked ∷ options) ks k =
    warned-kinds options ks k
    ∙ ap (λ b. has_kind k ks || (b || list_any (adds_kind k) options)) (adds_yanked k)

-- ---- what is stated comes first

abbrev pub IsBehind : List Informational → List Informational → Type 0
IsBehind ks all = (more : List Informational) × (all ≡ ks ++ more)

with-behind : (j : Informational) (ks : List Informational) → IsBehind ks (with_kind j ks)
with-behind j ks = elim (has_kind j ks) as (λ b. IsBehind ks (cond b ks (ks ++ j ∷ []))) [
  | true ↦ ([], sym (append-nil ks))
  | false ↦ (j ∷ [], refl)
]

behind-both : (ks ls all : List Informational) → IsBehind ks ls → IsBehind ls all → IsBehind ks all
behind-both ks ls all h m = (h.0 ++ m.0, m.1 ∙ ap (λ xs. xs ++ m.0) h.1 ∙ append_assoc ks h.0 m.0)

pub warned-behind : (options : List DenyOption) (ks : List Informational) → IsBehind ks (warned_of options ks)
warned-behind [] ks = ([], sym (append-nil ks))
warned-behind (deny.Warnings ∷ options) ks =
    behind-both ks _ _ (behind-both ks _ _ (with-behind Notice ks) (with-behind Unmaintained _)) (with-behind Unsound _)
warned-behind (deny.Unmaintained ∷ options) ks = behind-both ks _ _ (with-behind Unmaintained ks) (warned-behind options _)
warned-behind (deny.Unsound ∷ options) ks = behind-both ks _ _ (with-behind Unsound ks) (warned-behind options _)
warned-behind (deny.Yanked ∷ options) ks = warned-behind options ks
