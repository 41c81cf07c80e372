-- One more binary.
use Rattle.std.proofs.Common.{◌≡◌, ◌≢◌, ◌<◌, ◌+◌, inl, inr, ℕ, suc, Result, Ok, Err, List, [], ◌∷◌, ◌++◌, length, take, drop, get_or, refl, sym, ap, ◌∙◌, subst, append_assoc, arith}
use Rattle.std.specs.Prelude.{IfErr}
use Rattle.std.proofs.lemmas.List.{append-nil}
use Rattle.std.proofs.Math.Seq.{take-suc}
use Rattle.audit_lock.proofs.Steps.{drop_at}
use Rattle.tame_names.specs.declared.host.FailedCall.{FailedCall}
use Rattle.tame_cache.specs.Kept.{Disk}
use Rattle.tame_sparse.specs.declared.network.Exchange.{Exchange}
use Rattle.audit_core.specs.Audits.{Moment}
use Rattle.audit_core.specs.declared.checking.Checks.{Checks}
use Rattle.audit_core.specs.declared.checking.Checks.TheVariants.{Online, Offline, Off}
use Rattle.audit_binaries.specs.Binaries.{AreBinaries, ArePartly, IsAnswered, IsBegun, IsBinary, IsCutOff, IsNextBegun, Outside, Scan, Tells}
use Rattle.audit_binaries.specs.Summaries.{AreRefused}
use Rattle.audit_binaries.specs.declared.answers.BinaryAnswer.{BinaryAnswer}
use Rattle.audit_binaries.specs.declared.answers.BinaryAnswer.TheVariants as answer
use Rattle.audit_binaries.specs.declared.answers.BinaryFault.{BinaryFault}

-- ---- answers

pub binaries_more : (tells : Tells) (scan : Scan) (began mid ended : Outside) (paths : List (List ℕ)) (answers : List BinaryAnswer) (path : List ℕ) (a : BinaryAnswer)
    → AreBinaries tells scan began mid paths answers → IsBinary tells scan mid ended path a → AreBinaries tells scan began ended (paths ++ path ∷ []) (answers ++ a ∷ [])
binaries_more tells scan began mid ended [] [] path a h k = (ended, subst (λ (o : Outside). IsBinary tells scan o ended path a) h k, refl)
binaries_more tells scan began mid ended [] (x ∷ answers) path a h k = absurd h
binaries_more tells scan began mid ended (p ∷ paths) [] path a h k = absurd h
binaries_more tells scan began mid ended (p ∷ paths) (x ∷ answers) path a h k = (h.0, h.1, binaries_more tells scan h.0 mid ended paths answers path a h.2 k)

next_paths : (paths : List (List ℕ)) (i : ℕ) (path : List ℕ) → i < length paths → path ≡ get_or paths i path → take i paths ++ path ∷ [] ≡ take (i + 1) paths
next_paths paths i path low is =
    let next : suc i ≡ i + 1 = omega arith in
    ap (λ (p : List ℕ). take i paths ++ p ∷ []) is ∙ sym (take-suc paths i path low) ∙ ap (λ n. take n paths) next

pub binaries_next : (tells : Tells) (scan : Scan) (began mid ended : Outside) (paths : List (List ℕ)) (i : ℕ) (answers : List BinaryAnswer) (path : List ℕ) (a : BinaryAnswer) → i < length paths → path ≡ get_or paths i path
    → AreBinaries tells scan began mid (take i paths) answers → IsBinary tells scan mid ended path a → AreBinaries tells scan began ended (take (i + 1) paths) (answers ++ a ∷ [])
binaries_next tells scan began mid ended paths i answers path a low is h k =
    subst (λ (ps : List (List ℕ)). AreBinaries tells scan began ended ps (answers ++ a ∷ [])) (next_paths paths i path low is) (binaries_more tells scan began mid ended (take i paths) answers path a h k)

-- the next one ran out of memory
pub partly_cut : (tells : Tells) (scan : Scan) (began mid ended : Outside) (paths : List (List ℕ)) (i : ℕ) (answers : List BinaryAnswer) (path : List ℕ) → i < length paths → path ≡ get_or paths i path
    → AreBinaries tells scan began mid (take i paths) answers → IsCutOff tells scan mid ended path → ArePartly tells scan began ended paths
partly_cut tells scan began mid ended paths i answers path low is h k =
    (i, answers, mid, h, subst (λ (ps : List (List ℕ)). IsNextBegun tells scan mid ended ps) (sym (drop_at paths i path low is)) (inr k))

-- out of memory between two
next_none : (tells : Tells) (scan : Scan) (mid : Outside) (paths : List (List ℕ)) → IsNextBegun tells scan mid mid paths
next_none tells scan mid [] = refl
next_none tells scan mid (p ∷ paths) = inl refl

pub partly_done : (tells : Tells) (scan : Scan) (began mid : Outside) (paths : List (List ℕ)) (k : ℕ) (answers : List BinaryAnswer) → AreBinaries tells scan began mid (take k paths) answers → ArePartly tells scan began mid paths
partly_done tells scan began mid paths k answers h = (k, answers, mid, h, next_none tells scan mid (drop k paths))

-- ---- refused ones

pub uncalled_more : {A B : Type 0} (answers : List BinaryAnswer) (a : BinaryAnswer) (w v u : A) (d e f : B) → (AreRefused answers → (v ≡ w) × (e ≡ d))
    → ((x : BinaryFault) → a ≡ answer.Refused x → (u ≡ v) × (f ≡ e)) → AreRefused (answers ++ a ∷ []) → (u ≡ w) × (f ≡ d)
uncalled_more [] (answer.Refused x) w v u d e f h k none = ((k x refl).0 ∙ (h tt).0, (k x refl).1 ∙ (h tt).1)
uncalled_more [] (answer.Audited found audited) w v u d e f h k none = absurd none
uncalled_more (answer.Audited found audited ∷ answers) a w v u d e f h k none = absurd none
uncalled_more (answer.Refused y ∷ answers) a w v u d e f h k none = uncalled_more answers a w v u d e f h k none

-- ---- exchanges

abbrev pub Grown : List Exchange → List Exchange → Type 0
Grown before now = (added : List Exchange) × (now ≡ before ++ added)

pub grown_none : (before now : List Exchange) → now ≡ before → Grown before now
grown_none before now same = ([], same ∙ sym (append-nil before))

checks_case : (G : Type 0) (c : Checks) → (c ≡ Online → G) → (c ≢ Online → G) → G
checks_case G Online on other = on refl
checks_case G Offline on other = other (λ is. cc)
checks_case G Off on other = other (λ is. cc)

grown_answered : (tells : Tells) (scan : Scan) (began ended : Outside) (path : List ℕ) (a : BinaryAnswer) → tells.wire → IsAnswered tells scan began ended path a → Grown began.moment.exchanges ended.moment.exchanges
grown_answered tells scan began ended path (answer.Audited found audited) told h =
    checks_case (Grown began.moment.exchanges ended.moment.exchanges) scan.auditor.checks (λ on. ((h.audit.says.audited on told).0, (h.audit.says.audited on told).1)) (λ other. grown_none began.moment.exchanges ended.moment.exchanges (h.unasked other))
grown_answered tells scan began ended path (answer.Refused f) told h = grown_none began.moment.exchanges ended.moment.exchanges (ap (λ (m : Moment). m.exchanges) h.1.moment)

pub grown_binary : (tells : Tells) (scan : Scan) (began ended : Outside) (path : List ℕ) (a : BinaryAnswer) → tells.wire → IsBinary tells scan began ended path a → Grown began.moment.exchanges ended.moment.exchanges
grown_binary tells scan began ended path a told h = grown_answered tells scan began ended path a told h.answered

grown_begun : (tells : Tells) (scan : Scan) (began ended : Outside) (path : List ℕ) → tells.wire → IsBegun tells scan began ended path → Grown began.moment.exchanges ended.moment.exchanges
grown_begun tells scan began ended path told (inl h) = grown_none began.moment.exchanges ended.moment.exchanges (ap (λ (m : Moment). m.exchanges) h.moment)
grown_begun tells scan began ended path told (inr h) = ((h.4.asked told).0, (h.4.asked told).2)

pub grown_cut : (tells : Tells) (scan : Scan) (began ended : Outside) (path : List ℕ) → tells.wire → IsCutOff tells scan began ended path → Grown began.moment.exchanges ended.moment.exchanges
grown_cut tells scan began ended path told h = grown_begun tells scan began ended path told h.begun

pub grown_then : (a b c : List Exchange) → Grown a b → Grown b c → Grown a c
grown_then a b c h k = (h.0 ++ k.0, k.1 ∙ ap (λ (xs : List Exchange). xs ++ k.0) h.1 ∙ append_assoc a h.0 k.0)

-- ---- out of memory

pub if_err : {A E : Type 0} {P : Type 0} (r : Result A E) → P → IfErr r (λ _. P)
if_err (Ok a) p = tt
if_err (Err e) p = p
