-- The orders by which equal dependency lists and equal features are found: member after member,
-- strings by their bytes. Only `same` and `different` are read from them.
use Rattle.std.specs.Prelude.{ℕ, List, Option}
use Rattle.std.specs.Ordering.{bool_cmp, nat_cmp, on, then_cmp}
use Rattle.std.specs.declared.cmp.Ordering.{Ordering}
use Rattle.std.specs.Option.{option_cmp}
use Rattle.std.specs.Cmp.{IsTotalOrder, bool_cmp_total, nat_cmp_total, on_total, then_total}
use Rattle.std.specs.Cmp.Lexicographic.{slice_cmp, lists_total, nat_list_cmp_total, options_total}
use Rattle.tame_records.specs.Members.{Lists}
use Rattle.tame_records.specs.declared.dependencies.IndexDependency.{IndexDependency}
use Rattle.tame_records.specs.declared.dependencies.DependencyKind.{DependencyKind}
use Rattle.tame_records.specs.declared.dependencies.DependencyKind.TheVariants.{Normal, Dev, Build}

abbrev pub text_cmp : List ℕ → List ℕ → Ordering
text_cmp = slice_cmp nat_cmp

abbrev pub texts_cmp : List (List ℕ) → List (List ℕ) → Ordering
texts_cmp = slice_cmp text_cmp

abbrev pub text_or_none_cmp : Option (List ℕ) → Option (List ℕ) → Ordering
text_or_none_cmp = option_cmp text_cmp

abbrev pub kind_number : DependencyKind → ℕ
kind_number Normal = 0
kind_number Dev = 1
kind_number Build = 2

abbrev pub dependency_cmp : IndexDependency → IndexDependency → Ordering
dependency_cmp =
    then_cmp (then_cmp (then_cmp (then_cmp (then_cmp (then_cmp (then_cmp
    (on (λ d. d.name) text_cmp)
    (on (λ d. d.req) text_cmp))
    (on (λ d. d.features) texts_cmp))
    (on (λ d. d.optional) bool_cmp))
    (on (λ d. d.default_features) bool_cmp))
    (on (λ d. d.target) text_or_none_cmp))
    (on (λ d. kind_number d.kind) nat_cmp))
    (on (λ d. d.«package») text_or_none_cmp)

abbrev pub dependencies_cmp : List IndexDependency → List IndexDependency → Ordering
dependencies_cmp = slice_cmp dependency_cmp

-- a name with its strings
abbrev pub feature_cmp : List ℕ × List (List ℕ) → List ℕ × List (List ℕ) → Ordering
feature_cmp = then_cmp (on (λ p. p.0) text_cmp) (on (λ p. p.1) texts_cmp)

abbrev pub features_cmp : Lists → Lists → Ordering
features_cmp = slice_cmp feature_cmp

-- ---- they are orders

texts_total : IsTotalOrder texts_cmp
texts_total = lists_total nat_list_cmp_total

text_or_none_total : IsTotalOrder text_or_none_cmp
text_or_none_total = options_total nat_list_cmp_total

pub dependencies_total : IsTotalOrder dependencies_cmp
dependencies_total =
    lists_total
    (then_total (then_total (then_total (then_total (then_total (then_total (then_total
    (on_total (λ d. d.name) nat_list_cmp_total)
    (on_total (λ d. d.req) nat_list_cmp_total))
    (on_total (λ d. d.features) texts_total))
    (on_total (λ d. d.optional) bool_cmp_total))
    (on_total (λ d. d.default_features) bool_cmp_total))
    (on_total (λ d. d.target) text_or_none_total))
    (on_total (λ d. kind_number d.kind) nat_cmp_total))
    (on_total (λ d. d.«package») text_or_none_total))

pub features_total : IsTotalOrder features_cmp
features_total =
    lists_total (then_total (on_total (λ p. p.0) nat_list_cmp_total) (on_total (λ p. p.1) texts_total))
