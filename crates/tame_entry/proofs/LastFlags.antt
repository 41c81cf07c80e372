-- The last of the flags that have a version.
use Rattle.std.proofs.Common.{◌≡◌, List, [], ◌∷◌, ◌++◌, ℕ, Bool, true, false, Option, Some, None, cond, refl, sym, ap, ◌∙◌, subst}
use Rattle.std.specs.Prelude.{◌≢◌, bytes_eq}
use Rattle.std.specs.List.{AllByRecursion}
use Rattle.std.proofs.lemmas.Slice.Eq.{bytes_eq-Decides}
use Rattle.tame_records.specs.declared.versions.VersionFlag.{VersionFlag}
use Rattle.tame_entry.specs.VersionStatuses.{IsOfLast, flags_of_version, last_flag, last_from}

-- what is found, if this was found before: the same, if none has the version, else the flag of the
-- last that has it
data Outcome (found : Option Bool) (flags : List VersionFlag) (version : List ℕ) : Type 0 where
  none : AllByRecursion (λ h. h.version ≢ version) flags → last_from found (flags_of_version version flags) ≡ found → Outcome found flags version
  some : (flag : Bool) → IsOfLast flags version flag → last_from found (flags_of_version version flags) ≡ Some flag → Outcome found flags version

-- the last of these is the last with one more before them
later : (h : VersionFlag) (hs : List VersionFlag) (version : List ℕ) (flag : Bool) → IsOfLast hs version flag → IsOfLast (h ∷ hs) version flag
later h hs version flag l = record { before = h ∷ l.before; last = l.last; after = l.after; whole = ap (λ (fs : List VersionFlag). h ∷ fs) l.whole; named = l.named; said = l.said; others = l.others }

-- the flags with one more before them, which has the version or hasn't
taken : (h : VersionFlag) (hs : List VersionFlag) (version : List ℕ) → bytes_eq h.version version ≡ true → flags_of_version version (h ∷ hs) ≡ h.yanked ∷ flags_of_version version hs
taken h hs version same = rw same refl

passed : (h : VersionFlag) (hs : List VersionFlag) (version : List ℕ) → bytes_eq h.version version ≡ false → flags_of_version version (h ∷ hs) ≡ flags_of_version version hs
passed h hs version unlike = rw unlike refl

with_taken : (found : Option Bool) (h : VersionFlag) (hs : List VersionFlag) (version : List ℕ) → bytes_eq h.version version ≡ true → Outcome (Some h.yanked) hs version → Outcome found (h ∷ hs) version
with_taken found h hs version same (none others is) =
    some h.yanked (record { before = []; last = h; after = hs; whole = refl; named = (bytes_eq-Decides h.version version).0 same; said = refl; others = others })
    (ap (last_from found) (taken h hs version same) ∙ is)
with_taken found h hs version same (some flag l is) =
    some flag (later h hs version flag l) (ap (last_from found) (taken h hs version same) ∙ is)

with_passed : (found : Option Bool) (h : VersionFlag) (hs : List VersionFlag) (version : List ℕ) → bytes_eq h.version version ≡ false → Outcome found hs version → Outcome found (h ∷ hs) version
with_passed found h hs version unlike (none others is) =
    none (λ equal. cc (sym ((bytes_eq-Decides h.version version).1 equal) ∙ unlike), others) (ap (last_from found) (passed h hs version unlike) ∙ is)
with_passed found h hs version unlike (some flag l is) =
    some flag (later h hs version flag l) (ap (last_from found) (passed h hs version unlike) ∙ is)

outcome : (found : Option Bool) (flags : List VersionFlag) (version : List ℕ) → Outcome found flags version
outcome found [] version = none tt refl
outcome found (h ∷ hs) version = by_test (bytes_eq h.version version) refl (λ before. outcome before hs version)
  where
    by_test : (b : Bool) → bytes_eq h.version version ≡ b → ((before : Option Bool) → Outcome before hs version) → Outcome found (h ∷ hs) version
    by_test true same rest = with_taken found h hs version same (rest (Some h.yanked))
    by_test false unlike rest = with_passed found h hs version unlike (rest found)

-- a flag that is found is that of the last
some_last : (flags : List VersionFlag) (version : List ℕ) (flag : Bool) → Outcome None flags version → last_flag flags version ≡ Some flag → IsOfLast flags version flag
some_last flags version flag (none others is) found = absurd (cc (sym is ∙ found))
some_last flags version flag (some other l is) found = subst (IsOfLast flags version) (cc (sym is ∙ found)) l

pub found_last : (flags : List VersionFlag) (version : List ℕ) (flag : Bool) → last_flag flags version ≡ Some flag → IsOfLast flags version flag
found_last flags version flag found = some_last flags version flag (outcome None flags version) found

none_has : (flags : List VersionFlag) (version : List ℕ) → Outcome None flags version → last_flag flags version ≡ None → AllByRecursion (λ h. h.version ≢ version) flags
none_has flags version (none others is) found = others
none_has flags version (some other l is) found = absurd (cc (sym is ∙ found))

pub found_none : (flags : List VersionFlag) (version : List ℕ) → last_flag flags version ≡ None → AllByRecursion (λ h. h.version ≢ version) flags
found_none flags version found = none_has flags version (outcome None flags version) found

-- flags of other versions change nothing
others_pass : (found : Option Bool) (flags : List VersionFlag) (version : List ℕ) → AllByRecursion (λ h. h.version ≢ version) flags → last_from found (flags_of_version version flags) ≡ found
others_pass found [] version others = refl
others_pass found (h ∷ hs) version others = by_test (bytes_eq h.version version) refl (others_pass found hs version others.1)
  where
    by_test : (b : Bool) → bytes_eq h.version version ≡ b → last_from found (flags_of_version version hs) ≡ found → last_from found (flags_of_version version (h ∷ hs)) ≡ found
    by_test true same rest = absurd (others.0 ((bytes_eq-Decides h.version version).0 same))
    by_test false unlike rest = ap (last_from found) (passed h hs version unlike) ∙ rest

pub none_found : (flags : List VersionFlag) (version : List ℕ) → AllByRecursion (λ h. h.version ≢ version) flags → last_flag flags version ≡ None
none_found flags version others = others_pass None flags version others

-- whatever was found before, the last one decides
at_last : (found : Option Bool) (before : List VersionFlag) (last : VersionFlag) (after : List VersionFlag) (version : List ℕ) → last.version ≡ version → AllByRecursion (λ h. h.version ≢ version) after
    → last_from found (flags_of_version version (before ++ last ∷ after)) ≡ Some last.yanked
at_last found [] last after version named others =
    ap (last_from found) (taken last after version ((bytes_eq-Decides last.version version).1 named)) ∙ others_pass (Some last.yanked) after version others
at_last found (h ∷ hs) last after version named others = by_test (bytes_eq h.version version) refl (λ met. at_last met hs last after version named others)
  where
    by_test : (b : Bool) → bytes_eq h.version version ≡ b → ((met : Option Bool) → last_from met (flags_of_version version (hs ++ last ∷ after)) ≡ Some last.yanked)
        → last_from found (flags_of_version version (h ∷ (hs ++ last ∷ after))) ≡ Some last.yanked
    by_test true same rest = ap (last_from found) (taken h (hs ++ last ∷ after) version same) ∙ rest (Some h.yanked)
    by_test false unlike rest = ap (last_from found) (passed h (hs ++ last ∷ after) version unlike) ∙ rest found

pub last_found : (flags : List VersionFlag) (version : List ℕ) (flag : Bool) → IsOfLast flags version flag → last_flag flags version ≡ Some flag
last_found flags version flag l =
    ap (λ (fs : List VersionFlag). last_flag fs version) l.whole ∙ at_last None l.before l.last l.after version l.named l.others ∙ ap Some l.said
