-- Binaries one after the other, all together.
use Rattle.std.proofs.Common.{◌≡◌, ◌≤◌, ℕ, suc, List, [], ◌∷◌, ◌++◌, map, Bool, true, false, IsTrue, refl, sym, ap, ◌∙◌, subst, append_assoc, arith}
use Rattle.std.specs.Prelude.{bytes_eq, ◌||◌}
use Rattle.std.proofs.lemmas.List.{append-nil, map-append}
use Rattle.tame_names.specs.Counts.{CountRose, CountRoseBy}
use Rattle.tame_cache.specs.Kept.{IsKept}
use Rattle.tame_cache.proofs.KeptLemmas.{kept_after}
use Rattle.tame_cache.proofs.FolderLemmas.{made_weaker, none_made, then_made}
use Rattle.tame_sparse.specs.Exchanges.{crates_io_index}
use Rattle.tame_sparse.specs.declared.network.Exchange.{Exchange}
use Rattle.audit_core.specs.Audits.{AreTurns, KeepsOthers, MakesAskedFolders, Moment}
use Rattle.audit_core.specs.Checks.{asked_of}
use Rattle.audit_core.specs.Paths.{is_among}
use Rattle.audit_core.specs.Turns.{AreAddressed, index_file}
use Rattle.audit_core.specs.declared.asking.Turn.{Turn}
use Rattle.audit_core.specs.declared.checking.Checks.TheVariants.{Online}
use Rattle.tame_sparse.specs.Honest.{AreHonest}
use Rattle.audit_core.proofs.Exchanged.{cancel, honest_back, honest_front}
use Rattle.audit_core.proofs.Steps.{Chains-more}
use Rattle.audit_binaries.proofs.Chained.{Grown, grown_binary, grown_none, grown_then}
use Rattle.audit_binaries.specs.Binaries.{AreBinaries, Outside, Scan, Tells}
use Rattle.audit_binaries.specs.Summaries.{AddsAsked, AllHeld, asked_in, decodes_failed, files_failed, turns_in, with_if_decode, with_if_file}
use Rattle.audit_binaries.specs.declared.answers.BinaryAnswer.{BinaryAnswer}
use Rattle.audit_binaries.specs.declared.answers.BinaryAnswer.TheVariants as answer
use Rattle.audit_binaries.specs.declared.answers.BinaryFault.{BinaryFault}
use Rattle.audit_binaries.specs.declared.answers.BinaryFault.TheVariants as fault

-- ---- turns

both_paths : {A : Type 0} (f : A → List ℕ) (xs ys : List A) (ps qs : List (List ℕ)) → map f xs ≡ ps → map f ys ≡ qs → map f (xs ++ ys) ≡ ps ++ qs
both_paths f xs ys ps qs h k = map-append f xs ys ∙ ap (λ (l : List (List ℕ)). l ++ map f ys) h ∙ ap (λ (l : List (List ℕ)). ps ++ l) k

pub all_turns : (tells : Tells) (scan : Scan) (began ended : Outside) (paths : List (List ℕ)) (answers : List BinaryAnswer) → AreBinaries tells scan began ended paths answers
    → AreTurns (asked_in scan.auditor.checks answers) began.moment.wire_faults began.moment.disk_faults ended.moment.wire_faults ended.moment.disk_faults (turns_in answers)
all_turns tells scan began ended [] [] h = record { paths = refl; counts = (ap (λ (o : Outside). o.moment.wire_faults) h, ap (λ (o : Outside). o.moment.disk_faults) h) }
all_turns tells scan began ended [] (a ∷ answers) h = absurd h
all_turns tells scan began ended (p ∷ paths) [] h = absurd h
all_turns tells scan began ended (p ∷ paths) (answer.Audited found audited ∷ answers) h =
    let one = h.1.answered.audit.says.counted in
    let more = all_turns tells scan h.0 ended paths answers h.2 in
    record {
      paths = both_paths (λ (t : Turn). t.path) audited.turns (turns_in answers) (asked_of scan.auditor.checks audited.lockfile) (asked_in scan.auditor.checks answers) one.paths more.paths;
      counts = Chains-more began.moment.wire_faults began.moment.disk_faults audited.turns (turns_in answers) h.0.moment.wire_faults h.0.moment.disk_faults ended.moment.wire_faults ended.moment.disk_faults one.counts more.counts;
    }
all_turns tells scan began ended (p ∷ paths) (answer.Refused f ∷ answers) h =
    subst (λ (m : Moment). AreTurns (asked_in scan.auditor.checks answers) m.wire_faults m.disk_faults ended.moment.wire_faults ended.moment.disk_faults (turns_in answers)) h.1.answered.1.moment (all_turns tells scan h.0 ended paths answers h.2)

-- ---- exchanges

both_addressed : (es fs : List Exchange) → AreAddressed es → AreAddressed fs → AreAddressed (es ++ fs)
both_addressed [] fs h k = k
both_addressed (e ∷ es) fs h k = (h.0, both_addressed es fs h.1 k)

both_asked : (ps qs : List (List ℕ)) (a b c : List Exchange) → AddsAsked ps a b → AddsAsked qs b c → AddsAsked (ps ++ qs) a c
both_asked ps qs a b c h k = (
  h.0 ++ k.0,
  k.1 ∙ ap (λ (xs : List Exchange). xs ++ k.0) h.1 ∙ append_assoc a h.0 k.0,
  both_paths (λ (e : Exchange). e.path) h.0 k.0 ps qs h.2 k.2,
  both_addressed h.0 k.0 h.3 k.3,
)

pub all_asked : (tells : Tells) (scan : Scan) (began ended : Outside) (paths : List (List ℕ)) (answers : List BinaryAnswer) → scan.auditor.checks ≡ Online → tells.wire → AreBinaries tells scan began ended paths answers
    → AddsAsked (asked_in scan.auditor.checks answers) began.moment.exchanges ended.moment.exchanges
all_asked tells scan began ended [] [] on told h = ([], ap (λ (o : Outside). o.moment.exchanges) h ∙ sym (append-nil began.moment.exchanges), refl, tt)
all_asked tells scan began ended [] (a ∷ answers) on told h = absurd h
all_asked tells scan began ended (p ∷ paths) [] on told h = absurd h
all_asked tells scan began ended (p ∷ paths) (answer.Audited found audited ∷ answers) on told h =
    let one = h.1.answered.audit.says.audited on told in
    both_asked (asked_of scan.auditor.checks audited.lockfile) (asked_in scan.auditor.checks answers) began.moment.exchanges h.0.moment.exchanges ended.moment.exchanges
    (one.0, one.1, one.2.asked, one.2.addressed) (all_asked tells scan h.0 ended paths answers on told h.2)
all_asked tells scan began ended (p ∷ paths) (answer.Refused f ∷ answers) on told h =
    subst (λ (m : Moment). AddsAsked (asked_in scan.auditor.checks answers) m.exchanges ended.moment.exchanges) h.1.answered.1.moment (all_asked tells scan h.0 ended paths answers on told h.2)

-- ---- files

or_more : (b c d : Bool) → (c ≡ true → d ≡ true) → (b || c) ≡ true → (b || d) ≡ true
or_more true c d f h = refl
or_more false c d f h = f h

among_front : (q : List ℕ) (ps qs : List (List ℕ)) → is_among q ps ≡ true → is_among q (ps ++ qs) ≡ true
among_front q [] qs h = cc
among_front q (p ∷ ps) qs h = or_more (bytes_eq p q) (is_among q ps) (is_among q (ps ++ qs)) (among_front q ps qs) h

or_back : (b c : Bool) → c ≡ true → (b || c) ≡ true
or_back true c h = refl
or_back false c h = h

among_back : (q : List ℕ) (ps qs : List (List ℕ)) → is_among q qs ≡ true → is_among q (ps ++ qs) ≡ true
among_back q [] qs h = h
among_back q (p ∷ ps) qs h = or_back (bytes_eq p q) (is_among q (ps ++ qs)) (among_back q ps qs h)

pub all_others : (tells : Tells) (scan : Scan) (began ended : Outside) (paths : List (List ℕ)) (answers : List BinaryAnswer) → tells.disk → AreBinaries tells scan began ended paths answers
    → KeepsOthers (asked_in scan.auditor.checks answers) began.moment.files ended.moment.files
all_others tells scan began ended [] [] told h = λ q other. ap (λ (o : Outside). o.moment.files q) h
all_others tells scan began ended [] (a ∷ answers) told h = absurd h
all_others tells scan began ended (p ∷ paths) [] told h = absurd h
all_others tells scan began ended (p ∷ paths) (answer.Audited found audited ∷ answers) told h =
    λ q other.
    all_others tells scan h.0 ended paths answers told h.2 q (λ x among. other x (among_back x (asked_of scan.auditor.checks audited.lockfile) (asked_in scan.auditor.checks answers) among))
    ∙ h.1.answered.others told q (λ x among. other x (among_front x (asked_of scan.auditor.checks audited.lockfile) (asked_in scan.auditor.checks answers) among))
all_others tells scan began ended (p ∷ paths) (answer.Refused f ∷ answers) told h =
    λ q other. all_others tells scan h.0 ended paths answers told h.2 q other ∙ ap (λ (m : Moment). m.files q) h.1.answered.1.moment

abbrev AskedFile : List (List ℕ) → List ℕ → Type 0
AskedFile ps q = (x : List ℕ) × IsTrue (is_among x ps) × (q ≡ index_file x)

pub all_folders : (tells : Tells) (scan : Scan) (began ended : Outside) (paths : List (List ℕ)) (answers : List BinaryAnswer) → tells.disk → AreBinaries tells scan began ended paths answers
    → MakesAskedFolders (asked_in scan.auditor.checks answers) began.folders ended.folders
all_folders tells scan began ended [] [] told h = none_made (AskedFile []) began.folders ended.folders (ap (λ (o : Outside). o.folders) h)
all_folders tells scan began ended [] (a ∷ answers) told h = absurd h
all_folders tells scan began ended (p ∷ paths) [] told h = absurd h
all_folders tells scan began ended (p ∷ paths) (answer.Audited found audited ∷ answers) told h =
    let ps = asked_of scan.auditor.checks audited.lockfile in
    let qs = asked_in scan.auditor.checks answers in
    then_made (AskedFile (ps ++ qs)) began.folders h.0.folders ended.folders
    (made_weaker (AskedFile ps) (AskedFile (ps ++ qs)) (λ q is. (is.0, among_front is.0 ps qs is.1, is.2)) began.folders h.0.folders (h.1.answered.folders told))
    (made_weaker (AskedFile qs) (AskedFile (ps ++ qs)) (λ q is. (is.0, among_back is.0 ps qs is.1, is.2)) h.0.folders ended.folders (all_folders tells scan h.0 ended paths answers told h.2))
all_folders tells scan began ended (p ∷ paths) (answer.Refused f ∷ answers) told h =
    subst (λ (fs : List (List ℕ)). MakesAskedFolders (asked_in scan.auditor.checks answers) fs ended.folders) h.1.answered.1.folders (all_folders tells scan h.0 ended paths answers told h.2)

-- ---- counts

rose_none : (a b : ℕ) → b ≡ a → CountRoseBy 0 a b
rose_none a b same = omega (arith, same)

rose_later : (n a b c : ℕ) → a ≤ b → CountRoseBy n b c → CountRoseBy n a c
rose_later n a b c later h = omega (arith, later, h)

rose_more : (n a b c : ℕ) → CountRose a b → CountRoseBy n b c → CountRoseBy (suc n) a c
rose_more n a b c one h = omega (arith, one, h)

file_case : (f : BinaryFault) (n a b c : ℕ) → a ≤ b → (answer.Refused f ≡ answer.Refused fault.File → CountRose a b) → CountRoseBy n b c → CountRoseBy (with_if_file f n) a c
file_case fault.Missing n a b c later one h = rose_later n a b c later h
file_case fault.File n a b c later one h = rose_more n a b c (one refl) h
file_case (fault.TooLarge x) n a b c later one h = rose_later n a b c later h
file_case fault.Decode n a b c later one h = rose_later n a b c later h
file_case (fault.PayloadOver x) n a b c later one h = rose_later n a b c later h
file_case fault.NoInformation n a b c later one h = rose_later n a b c later h
file_case (fault.Lockfile x) n a b c later one h = rose_later n a b c later h

pub all_files : (tells : Tells) (scan : Scan) (began ended : Outside) (paths : List (List ℕ)) (answers : List BinaryAnswer) → AreBinaries tells scan began ended paths answers
    → CountRoseBy (files_failed answers) began.file_faults ended.file_faults
all_files tells scan began ended [] [] h = rose_none began.file_faults ended.file_faults (ap (λ (o : Outside). o.file_faults) h)
all_files tells scan began ended [] (a ∷ answers) h = absurd h
all_files tells scan began ended (p ∷ paths) [] h = absurd h
all_files tells scan began ended (p ∷ paths) (answer.Audited found audited ∷ answers) h =
    rose_later (files_failed answers) began.file_faults h.0.file_faults ended.file_faults h.1.counted.files (all_files tells scan h.0 ended paths answers h.2)
all_files tells scan began ended (p ∷ paths) (answer.Refused f ∷ answers) h =
    file_case f (files_failed answers) began.file_faults h.0.file_faults ended.file_faults h.1.counted.files h.1.counted.file (all_files tells scan h.0 ended paths answers h.2)

decode_case : (f : BinaryFault) (n a b c : ℕ) → a ≤ b → (answer.Refused f ≡ answer.Refused fault.Decode → CountRose a b) → CountRoseBy n b c → CountRoseBy (with_if_decode f n) a c
decode_case fault.Missing n a b c later one h = rose_later n a b c later h
decode_case fault.File n a b c later one h = rose_later n a b c later h
decode_case (fault.TooLarge x) n a b c later one h = rose_later n a b c later h
decode_case fault.Decode n a b c later one h = rose_more n a b c (one refl) h
decode_case (fault.PayloadOver x) n a b c later one h = rose_later n a b c later h
decode_case fault.NoInformation n a b c later one h = rose_later n a b c later h
decode_case (fault.Lockfile x) n a b c later one h = rose_later n a b c later h

pub all_decodes : (tells : Tells) (scan : Scan) (began ended : Outside) (paths : List (List ℕ)) (answers : List BinaryAnswer) → AreBinaries tells scan began ended paths answers
    → CountRoseBy (decodes_failed answers) began.decode_faults ended.decode_faults
all_decodes tells scan began ended [] [] h = rose_none began.decode_faults ended.decode_faults (ap (λ (o : Outside). o.decode_faults) h)
all_decodes tells scan began ended [] (a ∷ answers) h = absurd h
all_decodes tells scan began ended (p ∷ paths) [] h = absurd h
all_decodes tells scan began ended (p ∷ paths) (answer.Audited found audited ∷ answers) h =
    rose_later (decodes_failed answers) began.decode_faults h.0.decode_faults ended.decode_faults h.1.counted.decoder (all_decodes tells scan h.0 ended paths answers h.2)
all_decodes tells scan began ended (p ∷ paths) (answer.Refused f ∷ answers) h =
    decode_case f (decodes_failed answers) began.decode_faults h.0.decode_faults ended.decode_faults h.1.counted.decoder h.1.counted.decode (all_decodes tells scan h.0 ended paths answers h.2)

-- ---- over an honest server

all_grown : (tells : Tells) (scan : Scan) (began ended : Outside) (paths : List (List ℕ)) (answers : List BinaryAnswer) → tells.wire → AreBinaries tells scan began ended paths answers → Grown began.moment.exchanges ended.moment.exchanges
all_grown tells scan began ended [] [] told h = grown_none began.moment.exchanges ended.moment.exchanges (ap (λ (o : Outside). o.moment.exchanges) h)
all_grown tells scan began ended [] (a ∷ answers) told h = absurd h
all_grown tells scan began ended (p ∷ paths) [] told h = absurd h
all_grown tells scan began ended (p ∷ paths) (a ∷ answers) told h =
    grown_then began.moment.exchanges h.0.moment.exchanges ended.moment.exchanges (grown_binary tells scan began h.0 p a told h.1) (all_grown tells scan h.0 ended paths answers told h.2)

none_added : (before added : List Exchange) → before ≡ before ++ added → added ≡ []
none_added before added is = cancel before added [] (sym is ∙ sym (append-nil before))

pub all_held : (tells : Tells) (scan : Scan) (began ended : Outside) (paths : List (List ℕ)) (answers : List BinaryAnswer) → scan.auditor.checks ≡ Online → tells.wire → tells.disk → AreBinaries tells scan began ended paths answers
    → AllHeld scan.auditor.checks began.moment.exchanges ended.moment.exchanges began.moment.files answers
all_held tells scan began ended [] [] on told_wire told h m added is honest kept =
    none_added began.moment.exchanges added (sym (ap (λ (o : Outside). o.moment.exchanges) h) ∙ is)
all_held tells scan began ended [] (a ∷ answers) on told_wire told h m added is honest kept = absurd h
all_held tells scan began ended (p ∷ paths) [] on told_wire told h m added is honest kept = absurd h
all_held tells scan began ended (p ∷ paths) (answer.Audited found audited ∷ answers) on told_wire told h m added is honest kept =
    let one = h.1.answered.audit.says.audited on told_wire in
    let more = all_grown tells scan h.0 ended paths answers told_wire h.2 in
    let parts : added ≡ one.0 ++ more.0 =
    cancel began.moment.exchanges added (one.0 ++ more.0) (sym is ∙ more.1 ∙ ap (λ (xs : List Exchange). xs ++ more.0) one.1 ∙ append_assoc began.moment.exchanges one.0 more.0) in
    let both = subst (λ (xs : List Exchange). AreHonest m xs) parts honest in
    let own = honest_front m one.0 more.0 both in
    let rest = honest_back m one.0 more.0 both in (
      one.0,
      more.0,
      parts,
      h.1.answered.audit.says.headline on told_wire told m one.0 one.1 own kept,
      all_held tells scan h.0 ended paths answers on told_wire told h.2 m more.0 more.1 rest (kept_after m crates_io_index [] began.moment.files h.0.moment.files ((h.1.answered.kept told_wire told).kept m one.0 one.1 own kept)),
    )
all_held tells scan began ended (p ∷ paths) (answer.Refused f ∷ answers) on told_wire told h m added is honest kept =
    let moment = h.1.answered.1.moment in
    all_held tells scan h.0 ended paths answers on told_wire told h.2 m added (is ∙ ap (λ (x : Moment). x.exchanges ++ added) (sym moment)) honest (subst (λ (x : Moment). IsKept m crates_io_index [] x.files) (sym moment) kept)
