-- Things that an order doesn't tell apart are the same; what is kept after one more thing.
use Rattle.std.proofs.Common.{◌≡◌, ◌≢◌, List, [], ◌∷◌, Bool, true, false, cond, true≢false, Option, Some, None, option_map, All, Contains, IfSome, MatchOption, refl, sym, ap, ap₂, ◌∙◌, subst}
use Rattle.std.specs.declared.cmp.Ordering.{Ordering}
use Rattle.std.specs.declared.cmp.Ordering.TheVariants.{Less, Equal, Greater}
use Rattle.std.specs.Ordering.{is_eq, ordering_then, match_ordering, nat_cmp, bool_cmp}
use Rattle.std.specs.Option.{option_cmp}
use Rattle.std.specs.List.{find}
use Rattle.std.specs.Cmp.{IsTotalOrder, tied_itself}
use Rattle.std.specs.Cmp.Lexicographic.{slice_cmp}
use Rattle.std.specs.BTreeMap.{is_at}
use Rattle.std.specs.BTreeSet.{insert_key}
use Rattle.std.proofs.lemmas.Cmp.{ranked}
use Rattle.std.proofs.lemmas.List.Elements.{All-cons, All-head, All-nil, All-tail, Contains-append_left, Contains-append_right, Contains-push}
use Rattle.tame_records.specs.Kept.{IsOneMore}
use Rattle.tame_records.specs.Orders.{dependencies_cmp, dependency_cmp, feature_cmp, features_cmp, kind_number, text_cmp, text_or_none_cmp, texts_cmp}
use Rattle.tame_records.specs.declared.dependencies.DependencyKind.{DependencyKind}
use Rattle.tame_records.specs.declared.dependencies.DependencyKind.TheVariants.{Normal, Dev, Build}

abbrev pub OnlyOwn : {A : Type 0} → (A → A → Ordering) → Type 0
OnlyOwn {A} R = (a b : A) → R a b ≡ Equal → a ≡ b

unequal : {P : Type 0} (r : Ordering) → is_eq r ≡ false → r ≡ Equal → P
unequal r n e = absurd (true≢false (sym (ap is_eq e) ∙ n))

first_equal : (r s : Ordering) → ordering_then r s ≡ Equal → r ≡ Equal
first_equal Less s e = unequal Less refl e
first_equal Equal s e = refl
first_equal Greater s e = unequal Greater refl e

second_equal : (r s : Ordering) → ordering_then r s ≡ Equal → s ≡ Equal
second_equal Less s e = unequal Less refl e
second_equal Equal s e = e
second_equal Greater s e = unequal Greater refl e

own_lists : {A : Type 0} (R : A → A → Ordering) → OnlyOwn R → OnlyOwn (slice_cmp R)
own_lists R own [] [] e = refl
own_lists R own [] (y ∷ ys) e = unequal Less refl e
own_lists R own (x ∷ xs) [] e = unequal Greater refl e
own_lists {A} R own (x ∷ xs) (y ∷ ys) e =
    ap₂ (λ (z : A) (zs : List A). z ∷ zs) (own x y (first_equal (R x y) (slice_cmp R xs ys) e)) (own_lists R own xs ys (second_equal (R x y) (slice_cmp R xs ys) e))

own_options : {A : Type 0} (R : A → A → Ordering) → OnlyOwn R → OnlyOwn (option_cmp R)
own_options R own None None e = refl
own_options R own None (Some y) e = unequal Less refl e
own_options R own (Some x) None e = unequal Greater refl e
own_options R own (Some x) (Some y) e = ap Some (own x y e)

own_numbers : OnlyOwn nat_cmp
own_numbers a b e = ranked a b Equal (sym e)

own_flags : OnlyOwn bool_cmp
own_flags false false e = refl
own_flags false true e = unequal Less refl e
own_flags true false e = unequal Greater refl e
own_flags true true e = refl

own_kinds : (a b : DependencyKind) → nat_cmp (kind_number a) (kind_number b) ≡ Equal → a ≡ b
own_kinds Normal Normal e = refl
own_kinds Normal Dev e = unequal Less refl e
own_kinds Normal Build e = unequal Less refl e
own_kinds Dev Normal e = unequal Greater refl e
own_kinds Dev Dev e = refl
own_kinds Dev Build e = unequal Less refl e
own_kinds Build Normal e = unequal Greater refl e
own_kinds Build Dev e = unequal Greater refl e
own_kinds Build Build e = refl

own_text : OnlyOwn text_cmp
own_text = own_lists nat_cmp own_numbers

own_texts : OnlyOwn texts_cmp
own_texts = own_lists text_cmp own_text

own_text_or_none : OnlyOwn text_or_none_cmp
own_text_or_none = own_options text_cmp own_text

own_dependency : OnlyOwn dependency_cmp
own_dependency a b e =
    let to_kind = first_equal _ (text_or_none_cmp a.«package» b.«package») e in
    let to_target = first_equal _ (nat_cmp (kind_number a.kind) (kind_number b.kind)) to_kind in
    let to_default = first_equal _ (text_or_none_cmp a.target b.target) to_target in
    let to_optional = first_equal _ (bool_cmp a.default_features b.default_features) to_default in
    let to_features = first_equal _ (bool_cmp a.optional b.optional) to_optional in
    let to_req = first_equal _ (texts_cmp a.features b.features) to_features in
    let to_name = first_equal _ (text_cmp a.req b.req) to_req in
    let name = own_text a.name b.name to_name in
    let req = own_text a.req b.req (second_equal (text_cmp a.name b.name) _ to_req) in
    let features = own_texts a.features b.features (second_equal _ (texts_cmp a.features b.features) to_features) in
    let optional = own_flags a.optional b.optional (second_equal _ (bool_cmp a.optional b.optional) to_optional) in
    let default_features = own_flags a.default_features b.default_features (second_equal _ (bool_cmp a.default_features b.default_features) to_default) in
    let target = own_text_or_none a.target b.target (second_equal _ (text_or_none_cmp a.target b.target) to_target) in
    let kind = own_kinds a.kind b.kind (second_equal _ (nat_cmp (kind_number a.kind) (kind_number b.kind)) to_kind) in
    let renamed = own_text_or_none a.«package» b.«package» (second_equal _ (text_or_none_cmp a.«package» b.«package») e) in
    λ i. record {
      name = name i;
      req = req i;
      features = features i;
      optional = optional i;
      default_features = default_features i;
      target = target i;
      kind = kind i;
      «package» = renamed i;
    }

pub own_dependencies : OnlyOwn dependencies_cmp
own_dependencies = own_lists dependency_cmp own_dependency

own_feature : OnlyOwn feature_cmp
own_feature p q e =
    let name = own_text p.0 q.0 (first_equal (text_cmp p.0 q.0) (texts_cmp p.1 q.1) e) in
    let texts = own_texts p.1 q.1 (second_equal (text_cmp p.0 q.0) (texts_cmp p.1 q.1) e) in
    λ i. (name i, texts i)

pub own_features : OnlyOwn features_cmp
own_features = own_lists feature_cmp own_feature

-- ---- searched for among the kept

module _ {K : Type 0} (R : K → K → Ordering) (total : IsTotalOrder R) (own : OnlyOwn R) where
  at_head : (k : K) (ks : List K) → Contains (k ∷ ks) k
  at_head k ks = Contains-append_left (k ∷ []) ks k (Contains-push [] k)

  abbrev is_there : Option K → Bool
  is_there None = false
  is_there (Some _) = true

  abbrev or_else : K → Option K → K
  or_else y None = y
  or_else y (Some z) = z

  found : (x : K) (ks : List K) (k : K) → find (is_at (R x)) ks ≡ Some k → Contains ks k
  found x [] k e = absurd (true≢false (sym (ap is_there e)))
  found x (y ∷ ys) k e = by (is_at (R x) y) (found x ys k) e
    where
      by : (b : Bool) → (find (is_at (R x)) ys ≡ Some k → Contains ys k) → cond b (Some y) (find (is_at (R x)) ys) ≡ Some k → Contains (y ∷ ys) k
      by true later h = subst (Contains (y ∷ ys)) (ap (or_else y) h) (at_head y ys)
      by false later h = Contains-append_right (y ∷ []) ys k (later h)

  apart : (x y : K) → is_at (R x) y ≡ false → y ≢ x
  apart x y n same = true≢false (sym (ap is_eq (tied_itself total x)) ∙ ap (λ z. is_eq (R x z)) (sym same) ∙ n)

  sought_in_vain : (x : K) (ks : List K) → find (is_at (R x)) ks ≡ None → All (λ y. y ≢ x) ks
  sought_in_vain x [] e = All-nil (λ y. y ≢ x)
  sought_in_vain x (y ∷ ys) e = by (is_at (R x) y) refl (sought_in_vain x ys) e
    where
      by : (b : Bool) → is_at (R x) y ≡ b → (find (is_at (R x)) ys ≡ None → All (λ z. z ≢ x) ys) → cond b (Some y) (find (is_at (R x)) ys) ≡ None → All (λ z. z ≢ x) (y ∷ ys)
      by true n later h = absurd (true≢false (ap is_there h))
      by false n later h = All-cons (λ z. z ≢ x) y ys (apart x y n) (later h)

  -- what a search among the kept gives, if `now` leads from the found to its value
  pub sought : {F : Type 0} (now : F → K) (x : K) (ks : List K) (r : Option F) → option_map now r ≡ find (is_at (R x)) ks → IfSome r (λ y. R x (now y) ≡ Equal) → MatchOption r (All (λ y. y ≢ x) ks) (λ y. Contains ks (now y) × (now y ≡ x))
  sought now x ks None e t = sought_in_vain x ks (sym e)
  sought now x ks (Some y) e t = (found x ks (now y) (sym e), sym (own x (now y) t))

  -- what is not kept and is added at its place
  pub one_more : (x : K) (ks : List K) → All (λ y. y ≢ x) ks → IsOneMore ks x (insert_key R ks x)
  one_more x [] none = ([], [], refl, refl)
  one_more x (y ∷ ys) none = by (R x y) refl (one_more x ys (All-tail (λ z. z ≢ x) y ys none))
    where
      put : Ordering → List K
      put o = match_ordering o (x ∷ y ∷ ys) (y ∷ ys) (y ∷ insert_key R ys x)

      by : (o : Ordering) → R x y ≡ o → IsOneMore ys x (insert_key R ys x) → IsOneMore (y ∷ ys) x (insert_key R (y ∷ ys) x)
      by Less e later = ([], y ∷ ys, refl, ap put e)
      by Equal e later = absurd (All-head (λ z. z ≢ x) y ys none (sym (own x y e)))
      by Greater e later = (y ∷ later.0, later.1, ap (λ zs. y ∷ zs) later.2, ap put e ∙ ap (λ zs. y ∷ zs) later.3)
