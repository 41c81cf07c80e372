-- A path is kept if it is a symbol, or what is left of one.
use Rattle.std.proofs.Common.{◌≡◌, inl, inr, ℕ, List, [], ◌∷◌, ◌++◌, map, Bool, true, false, cond, ◌&&◌, ◌↔◌, Some, rules, refl, ap, ◌∙◌}
use Rattle.std.specs.Prelude.{bytes_eq}
use Rattle.std.specs.List.{Any}
use Rattle.std.proofs.lemmas.Bool.{false≢true}
use Rattle.std.proofs.lemmas.List.Folds.{Any-from_list_any, list_any-from_Any}
use Rattle.std.proofs.lemmas.Slice.Eq.{bytes_eq-Decides}
use Rattle.audit_report.specs.Symbols.{Names, Segments, chosen, ends_of, front, is_kept, is_subsequence, last, names, names_between, plain}
use Rattle.audit_report.proofs.Once.{bytes_same, left, right}

itself : (xs : List ℕ) → bytes_eq xs xs ≡ true
itself xs = search (rules, bytes_eq-Decides)

-- ---- segments among others

from_cond : (b x y : Bool) → (y ≡ true → x ≡ true) → cond b x y ≡ true → x ≡ true
from_cond true x y f h = h
from_cond false x y f h = f h

either : (b x y : Bool) → x ≡ true → y ≡ true → cond b x y ≡ true
either true x y h k = h
either false x y h k = k

-- one more segment at the front
more_in_front : (ts : Segments) → ((s : List ℕ) (ss : Segments) → is_subsequence (s ∷ ss) ts ≡ true → is_subsequence ss ts ≡ true)
    → (ss : Segments) (t : List ℕ) → is_subsequence ss ts ≡ true → is_subsequence ss (t ∷ ts) ≡ true
more_in_front ts fewer [] t h = refl
more_in_front ts fewer (s ∷ ss) t h =
    either (bytes_eq s t) (is_subsequence ss ts) (is_subsequence (s ∷ ss) ts) (fewer s ss h) h

-- without the first segment
fewer : (ts : Segments) (s : List ℕ) (ss : Segments) → is_subsequence (s ∷ ss) ts ≡ true → is_subsequence ss ts ≡ true
fewer [] s ss h = absurd (false≢true h)
fewer (t ∷ ts) s ss h =
    more_in_front ts (fewer ts) ss t
    (from_cond (bytes_eq s t) (is_subsequence ss ts) (is_subsequence (s ∷ ss) ts) (fewer ts s ss) h)

chosen_stands : (flags : List Bool) (ts : Segments) → is_subsequence (chosen flags ts) ts ≡ true
chosen_stands [] ts = refl
chosen_stands (stays ∷ flags) [] = refl
chosen_stands (true ∷ flags) (t ∷ ts) =
    ap (λ b. cond b (is_subsequence (chosen flags ts) ts) (is_subsequence (t ∷ chosen flags ts) ts)) (itself t)
    ∙ chosen_stands flags ts
chosen_stands (false ∷ flags) (t ∷ ts) = more_in_front ts (fewer ts) (chosen flags ts) t (chosen_stands flags ts)

-- these segments are what remains of those
abbrev Flags : Segments → Segments → Type 0
Flags ss ts = (flags : List Bool) × (ss ≡ chosen flags ts)

flags_step : (s : List ℕ) (ss : Segments) (t : List ℕ) (ts : Segments)
    → (is_subsequence ss ts ≡ true → Flags ss ts) → (is_subsequence (s ∷ ss) ts ≡ true → Flags (s ∷ ss) ts)
    → (b : Bool) → bytes_eq s t ≡ b → cond b (is_subsequence ss ts) (is_subsequence (s ∷ ss) ts) ≡ true
    → Flags (s ∷ ss) (t ∷ ts)
flags_step s ss t ts f g true e h =
    let k = f h in (true ∷ k.0, ap (λ x. x ∷ ss) (bytes_same s t e) ∙ ap (λ xs. t ∷ xs) k.1)
flags_step s ss t ts f g false e h = let k = g h in (false ∷ k.0, k.1)

flags_of : (ts ss : Segments) → is_subsequence ss ts ≡ true → Flags ss ts
flags_of ts [] h = ([], refl)
flags_of [] (s ∷ ss) h = absurd (false≢true h)
flags_of (t ∷ ts) (s ∷ ss) h = flags_step s ss t ts (flags_of ts ss) (flags_of ts (s ∷ ss)) (bytes_eq s t) refl h

-- ---- first, middle and last

front-behind : (m : List ℕ) (ms : Segments) (l : List ℕ) → front m (ms ++ l ∷ []) ≡ m ∷ ms
front-behind m [] l = refl
front-behind m (n ∷ ns) l = ap (λ xs. m ∷ xs) (front-behind n ns l)

last-behind : (m : List ℕ) (ms : Segments) (l : List ℕ) → last m (ms ++ l ∷ []) ≡ l
last-behind m [] l = refl
last-behind m (n ∷ ns) l = last-behind n ns l

pub ends_of-ends : (s : List ℕ) (middle : Segments) (l : List ℕ) → ends_of (s ∷ (middle ++ l ∷ [])) ≡ Some (s, middle, l)
ends_of-ends s [] l = refl
ends_of-ends s (m ∷ ms) l =
    ap (λ x. Some (s, x, last m (ms ++ l ∷ []))) (front-behind m ms l)
    ∙ ap (λ x. Some (s, m ∷ ms, x)) (last-behind m ms l)

together : (t : List ℕ) (ts : Segments) → t ∷ ts ≡ front t ts ++ last t ts ∷ []
together t [] = refl
together t (u ∷ us) = ap (λ xs. t ∷ xs) (together u us)

-- two paths, each of at least two segments
pub names-longer : (a : List ℕ) (xs : Segments) (l b : List ℕ) (ys : Segments) (m : List ℕ)
    → names (a ∷ (xs ++ l ∷ [])) (b ∷ (ys ++ m ∷ [])) ≡ names_between (Some (a, xs, l)) (Some (b, ys, m))
names-longer a [] l b ys m = ap (names_between (Some (a, [], l))) (ends_of-ends b ys m)
names-longer a (x ∷ xs) l b ys m =
    ap (λ e. names_between e (ends_of (b ∷ (ys ++ m ∷ [])))) (ends_of-ends a (x ∷ xs) l)
    ∙ ap (names_between (Some (a, x ∷ xs, l))) (ends_of-ends b ys m)

-- ---- both ways

longer : (w v : List ℕ) (ws : Segments) (s t : List ℕ) (ts : Segments)
    → names_between (Some (w, front v ws, last v ws)) (Some (s, front t ts, last t ts)) ≡ true
    → Names (w ∷ v ∷ ws) (s ∷ t ∷ ts)
longer w v ws s t ts h =
    let both = left (bytes_eq w s && is_subsequence (front v ws) (front t ts)) (bytes_eq (last v ws) (last t ts)) h in
    let first = bytes_same w s (left (bytes_eq w s) (is_subsequence (front v ws) (front t ts)) both) in
    let end = bytes_same (last v ws) (last t ts) (right (bytes_eq w s && is_subsequence (front v ws) (front t ts)) (bytes_eq (last v ws) (last t ts)) h) in
    let flags = flags_of (front t ts) (front v ws) (right (bytes_eq w s) (is_subsequence (front v ws) (front t ts)) both) in
    inr (
      s,
      last t ts,
      front t ts,
      flags.0,
      ap (λ x. x ∷ v ∷ ws) first ∙ ap (λ xs. s ∷ xs) (together v ws)
          ∙ ap (λ xs. s ∷ (xs ++ last v ws ∷ [])) flags.1
          ∙ ap (λ x. s ∷ (chosen flags.0 (front t ts) ++ x ∷ [])) end,
      ap (λ xs. s ∷ xs) (together t ts),
    )

Names-from_names : (path symbol : Segments) → names path symbol ≡ true → Names path symbol
Names-from_names [] symbol h = absurd (false≢true h)
Names-from_names (w ∷ []) [] h = absurd (false≢true h)
Names-from_names (w ∷ []) (s ∷ []) h = inl (s, ap (λ x. x ∷ []) (bytes_same w s h), refl)
Names-from_names (w ∷ []) (s ∷ t ∷ ts) h = absurd (false≢true h)
Names-from_names (w ∷ v ∷ ws) [] h = absurd (false≢true h)
Names-from_names (w ∷ v ∷ ws) (s ∷ []) h = absurd (false≢true h)
Names-from_names (w ∷ v ∷ ws) (s ∷ t ∷ ts) h = longer w v ws s t ts h

all_three : (a b c : Bool) → a ≡ true → b ≡ true → c ≡ true → (a && b && c) ≡ true
all_three a b c h k l = rw (h, k, l) refl

names-from_Names : (path symbol : Segments) → Names path symbol → names path symbol ≡ true
names-from_Names path symbol (inl h) =
    ap (λ p. names p symbol) h.1 ∙ ap (names (h.0 ∷ [])) h.2 ∙ itself h.0
names-from_Names path symbol (inr h) =
    ap (λ p. names p symbol) h.4
    ∙ ap (names (h.0 ∷ (chosen h.3 h.2 ++ h.1 ∷ []))) h.5
    ∙ names-longer h.0 (chosen h.3 h.2) h.1 h.0 h.2 h.1
    ∙ all_three (bytes_eq h.0 h.0) (is_subsequence (chosen h.3 h.2) h.2) (bytes_eq h.1 h.1)
    (itself h.0) (chosen_stands h.3 h.2) (itself h.1)

pub kept_named : (symbols : List Segments) (path : Segments)
    → (is_kept symbols path ≡ true) ↔ Any (Names (map plain path)) symbols
kept_named symbols path = (
  λ h. let k = Any-from_list_any (names (map plain path)) symbols h in
      (k.0, k.1, k.2, k.3, Names-from_names (map plain path) k.1 k.4),
  λ h. list_any-from_Any (names (map plain path)) symbols
      (h.0, h.1, h.2, h.3, names-from_Names (map plain path) h.1 h.4),
)
