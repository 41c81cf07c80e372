-- A generated body is plain, and its lines are the objects of its package.
use Rattle.std.proofs.Common.{◌≡◌, ℕ, zero, suc, ◌+◌, ◌-◌, ◌<◌, ◌^◌, Bool, true, false, not, ◌==◌, List, [], ◌∷◌, ◌++◌, length, map, codes, None, refl, ap, ◌∙◌, arith, nat_le, nat_lt, append_assoc, append-nil, length-append}
use Rattle.std.specs.Prelude.{position, slice_index}
use Rattle.std.specs.List.{list_all, flat_map, prefix_len, range_with_len}
use Rattle.std.proofs.lemmas.Bool.{and_parts}
use Rattle.std.proofs.lemmas.Bool.Decides.{nat_tests}
use Rattle.std.proofs.Math.Seq.{get_or-append_seam}
use Rattle.tame_names.specs.Pieces.{pieces, without_end}
use Rattle.tame_records.specs.Lines.{lines, trimmed}
use Rattle.tame_entry.specs.Lines.{invalid, is_object_line, plain}
use Rattle.audit_generator.specs.Packages.{minor_at, name_at, version_text}
use Rattle.audit_generator.specs.Hosted.{body_at, checksum_text, flag_text, is_yanked_in, line_text, object_text}
use Rattle.audit_generator.proofs.Printable.{both, newline_free, object_printable, zero_free}

-- ---- lines

abbrev IsFree : List ℕ → Type 0
IsFree l = list_all (λ c. not (c == 10)) l ≡ true

other_byte : (c : ℕ) → not (c == 10) ≡ true → (c == 10) ≡ false
other_byte c h = grind (arith, nat_tests)

end_last : (l : List ℕ) → IsFree l → without_end 10 (l ++ 10 ∷ []) ≡ l
end_last [] h = refl
end_last (c ∷ cs) h =
    let (here, more) = and_parts (not (c == 10)) (list_all (λ c. not (c == 10)) cs) h in
    rw (other_byte c here, end_last cs more) refl

end_more : (l rest : List ℕ) → IsFree l → (length (without_end 10 rest) == 0) ≡ false → without_end 10 (l ++ 10 ∷ rest) ≡ l ++ 10 ∷ without_end 10 rest
end_more [] rest h some = rw some refl
end_more (c ∷ cs) rest h some =
    let (here, more) = and_parts (not (c == 10)) (list_all (λ c. not (c == 10)) cs) h in
    rw (other_byte c here, end_more cs rest more some) refl

pieces_more : (l rest : List ℕ) → IsFree l → pieces 10 (l ++ 10 ∷ rest) ≡ l ∷ pieces 10 rest
pieces_more [] rest h = refl
pieces_more (c ∷ cs) rest h =
    let (here, more) = and_parts (not (c == 10)) (list_all (λ c. not (c == 10)) cs) h in
    rw (other_byte c here, pieces_more cs rest more) refl

pieces_last : (c : ℕ) (cs : List ℕ) → IsFree (c ∷ cs) → pieces 10 (c ∷ cs) ≡ (c ∷ cs) ∷ []
pieces_last c [] h =
    let (here, more) = and_parts (not (c == 10)) true h in
    rw (other_byte c here) refl
pieces_last c (d ∷ ds) h =
    let (here, more) = and_parts (not (c == 10)) (list_all (λ c. not (c == 10)) (d ∷ ds)) h in
    rw (other_byte c here, pieces_last d ds more) refl

some_length : (c : ℕ) (cs : List ℕ) → (length (c ∷ cs) == 0) ≡ false
some_length c cs = grind (arith, nat_tests)

length_behind : (l rest : List ℕ) → (length (l ++ 10 ∷ rest) == 0) ≡ false
length_behind [] rest = some_length 10 rest
length_behind (c ∷ cs) rest = some_length c (cs ++ 10 ∷ rest)

-- each text has a first byte and no newline
abbrev AreLines : List (List ℕ) → Type 0
AreLines [] = Unit {0}
AreLines ([] ∷ ls) = ⊥
AreLines ((c ∷ cs) ∷ ls) = IsFree (c ∷ cs) × AreLines ls

abbrev ended : List ℕ → List ℕ
ended l = l ++ codes "\n"

record AreCut (body : List ℕ) (ls : List (List ℕ)) : Type 0 where
  some : (length (trimmed body) == 0) ≡ false
  cut : lines body ≡ ls

cut_one : (c : ℕ) (cs : List ℕ) → IsFree (c ∷ cs) → AreCut (ended (c ∷ cs)) ((c ∷ cs) ∷ [])
cut_one c cs free = record {
  some = rw (end_last (c ∷ cs) free) (some_length c cs);
  cut = rw (end_last (c ∷ cs) free) (pieces_last c cs free);
}

cut_more : (l body : List ℕ) (ls : List (List ℕ)) → IsFree l → AreCut body ls → AreCut (l ++ 10 ∷ body) (l ∷ ls)
cut_more l body ls free more =
    let end = end_more l body free more.some in
    record {
      some = rw end (length_behind l (without_end 10 body));
      cut = rw end (pieces_more l (without_end 10 body) free ∙ ap (λ xs. l ∷ xs) more.cut);
    }

body_cut : (l : List ℕ) (ls : List (List ℕ)) → AreLines (l ∷ ls) → AreCut (flat_map ended (l ∷ ls)) (l ∷ ls)
body_cut [] ls h = absurd h
body_cut (c ∷ cs) [] h = rw (append-nil (ended (c ∷ cs))) (cut_one c cs h.0)
body_cut (c ∷ cs) (m ∷ ms) h =
    rw (append_assoc (c ∷ cs) (10 ∷ []) (flat_map ended (m ∷ ms))) (cut_more (c ∷ cs) (flat_map ended (m ∷ ms)) (m ∷ ms) h.0 (body_cut m ms h.1))

-- ---- objects

last_at : (xs : List ℕ) (x : ℕ) → slice_index (xs ++ x ∷ []) (length (xs ++ x ∷ []) - 1) ≡ x
last_at xs x =
    let e : length (xs ++ x ∷ []) - 1 ≡ length xs = omega (arith, length-append xs (x ∷ [])) in
    rw e (get_or-append_seam xs x [] 0)

all_pass : (ls : List (List ℕ)) → list_all is_object_line ls ≡ true → prefix_len (λ line. not (not (is_object_line line))) ls ≡ length ls
all_pass [] h = refl
all_pass (l ∷ ls) h =
    let (here, more) = and_parts (is_object_line l) (list_all is_object_line ls) h in
    let one : 1 + length ls ≡ suc (length ls) = omega arith in
    rw here (rw (all_pass ls more) one)

not_below : (n : ℕ) → nat_lt n n ≡ false
not_below n = grind (arith, nat_tests)

all_objects : (ls : List (List ℕ)) → list_all is_object_line ls ≡ true → position (λ line. not (is_object_line line)) ls ≡ None
all_objects ls h = rw (all_pass ls h, not_below (length ls)) refl

-- the object without its last byte
abbrev object_front : ℕ → ℕ → List ℕ
object_front k minor =
    codes "{\"name\":\"" ++ name_at k ++ codes "\",\"vers\":\"" ++ version_text minor
    ++ codes "\",\"deps\":[],\"cksum\":\"" ++ checksum_text
    ++ codes "\",\"features\":{},\"yanked\":" ++ flag_text (is_yanked_in k minor)

object_ends : (front : List ℕ) → 0 < length front → slice_index front 0 ≡ 123 → is_object_line (front ++ 125 ∷ []) ≡ true
object_ends [] some first = absurd (omega arith)
object_ends (c ∷ cs) some first =
    let long : nat_le 2 (length ((c ∷ cs) ++ 125 ∷ [])) ≡ true = grind (arith, nat_tests, length-append cs (125 ∷ [])) in
    rw (long, last_at (c ∷ cs) 125, first) refl

object_line : (k minor : ℕ) → is_object_line (object_text k minor) ≡ true
object_line k minor = object_ends (object_front k minor) (omega arith) refl

object_free : (k minor : ℕ) → k < 2 ^ 64 → minor < 2 ^ 64 → IsFree (object_text k minor)
object_free k minor hk hm = newline_free (object_text k minor) (object_printable k minor hk hm)

-- ---- a body

abbrev AllLow : List ℕ → Type 0
AllLow [] = Unit {0}
AllLow (j ∷ js) = (j < 2 ^ 64) × AllLow js

range_low : (n a : ℕ) → a + n < 2 ^ 64 → AllLow (range_with_len a n)
range_low zero a h = tt
range_low (suc n) a h = (omega arith, range_low n (a + 1) (omega arith))

objects_lines : (k : ℕ) (js : List ℕ) → k < 2 ^ 64 → AllLow js → AreLines (map (object_text k) js)
objects_lines k [] hk h = tt
objects_lines k (j ∷ js) hk h = (object_free k j hk h.0, objects_lines k js hk h.1)

objects_all : (k : ℕ) (js : List ℕ) → list_all is_object_line (map (object_text k) js) ≡ true
objects_all k [] = refl
objects_all k (j ∷ js) = rw (object_line k j, objects_all k js) refl

lines_flat : (k : ℕ) (js : List ℕ) → flat_map (line_text k) js ≡ flat_map ended (map (object_text k) js)
lines_flat k [] = refl
lines_flat k (j ∷ js) = ap (λ xs. line_text k j ++ xs) (lines_flat k js)

-- the middle numbers of package k
abbrev pub minors : ℕ → List ℕ
minors k = range_with_len 0 (suc (minor_at k))

body_made : (k : ℕ) → k < 2 ^ 64 → AreCut (body_at k) (map (object_text k) (minors k))
body_made k h =
    let js = range_with_len (0 + 1) (minor_at k) in
    rw (lines_flat k (minors k)) (body_cut (object_text k 0) (map (object_text k) js) (objects_lines k (0 ∷ js) h (range_low (suc (minor_at k)) 0 (omega arith))))

flat_passes : (p : ℕ → Bool) (k : ℕ) → ((j : ℕ) → j < 2 ^ 64 → list_all p (line_text k j) ≡ true) → (js : List ℕ) → AllLow js → list_all p (flat_map (line_text k) js) ≡ true
flat_passes p k each [] h = refl
flat_passes p k each (j ∷ js) h = both p (line_text k j) (flat_map (line_text k) js) (each j h.0) (flat_passes p k each js h.1)

line_nonzero : (k j : ℕ) → k < 2 ^ 64 → j < 2 ^ 64 → list_all (λ b. not (b == 0)) (line_text k j) ≡ true
line_nonzero k j hk hj = both (λ b. not (b == 0)) (object_text k j) (codes "\n") (zero_free (object_text k j) (object_printable k j hk hj)) refl

body_valid : (k : ℕ) → k < 2 ^ 64 → invalid (body_at k) ≡ None
body_valid k h =
    let made = body_made k h in
    rw (made.some, made.cut, all_objects (map (object_text k) (minors k)) (objects_all k (minors k))) refl

-- a generated body is plain
pub body_plain : (k : ℕ) → k < 2 ^ 64 → plain (body_at k) ≡ true
body_plain k h =
    rw (body_valid k h, flat_passes (λ b. not (b == 0)) k (λ j hj. line_nonzero k j h hj) (minors k) (range_low (suc (minor_at k)) 0 (omega arith))) refl
