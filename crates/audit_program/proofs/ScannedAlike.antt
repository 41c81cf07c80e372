-- Audits of binaries that say the same, and print the same.
use Rattle.std.proofs.Common.{◌≡◌, ◌≢◌, ◌⊎◌, inl, inr, ◌≤◌, ℕ, List, [], ◌∷◌, ◌++◌, Bool, true, false, Option, Some, None, Result, Ok, Err, refl, sym, ap, ◌∙◌, subst, arith, append_assoc}
use Rattle.std.specs.Prelude.{length, map, ◌||◌}
use Rattle.std.specs.List.{list_any}
use Rattle.tame_names.specs.Counts.{CountStayed}
use Rattle.tame_sparse.specs.declared.network.Exchange.{Exchange}
use Rattle.audit_lock.specs.Locked.{locked}
use Rattle.audit_advisory.specs.declared.outputs.DenyOption.{DenyOption}
use Rattle.audit_core.specs.Alike.{AreAllAlike}
use Rattle.audit_core.specs.Audits.{IsAuditOf, Moment}
use Rattle.audit_core.specs.Checks.{asked_of}
use Rattle.audit_core.specs.declared.auditing.Audited.{Audited}
use Rattle.audit_core.specs.declared.checking.Checks.TheVariants.{Online, Off}
use Rattle.audit_core.proofs.Exchanged.{cancel, honest_back, honest_front}
use Rattle.tame_cache.proofs.KeptLemmas.{kept_after}
use Rattle.tame_sparse.specs.Exchanges.{crates_io_index}
use Rattle.audit_binaries.specs.Binaries.{AreBinaries, IsAnswered, IsAudited, IsBinary, IsExactly, IsRefusedFor, IsUnlocked, Outside, Scan, Tells, all_tell, said_at}
use Rattle.audit_binaries.specs.Opened.{HasNoBytes, IsUnsaid, said_text}
use Rattle.audit_binaries.specs.Summaries.{is_found, is_refused, summary_of}
use Rattle.audit_binaries.specs.declared.answers.BinaryAnswer.{BinaryAnswer}
use Rattle.audit_binaries.specs.declared.answers.BinaryAnswer.TheVariants as answer
use Rattle.audit_binaries.specs.declared.answers.BinaryFault.{BinaryFault}
use Rattle.audit_binaries.specs.declared.answers.BinaryFault.TheVariants as fault
use Rattle.audit_binaries.specs.declared.answers.PackagesFound.{PackagesFound}
use Rattle.audit_binaries.specs.declared.opening.FoundText.{FoundText}
use Rattle.audit_binaries.proofs.Exact.{exact_binary}
use Rattle.audit_output.specs.BinaryOutputs.{binaries_output, binaries_printed, binary_printed, in_front, reports_output, with_trees}
use Rattle.audit_output.specs.Outputs.{Output, Shown, presenter_of}
use Rattle.audit_report.specs.Printed.{Printed}
use Rattle.audit_report.specs.declared.presenters.Presenter.{Presenter}
use Rattle.upgrade_plan.specs.HeldPlans.{IsHonestServing}
use Rattle.audit_program.proofs.Ended.{not_both}
use Rattle.audit_program.proofs.Made.{chain_grows}
use Rattle.audit_program.proofs.SaidAlike.{SaysSame, asked_same, audit_told, off_same, same_but_turns}

-- ---- what is told

pub record TellAll (tells : Tells) : Type 0 where
  pub files : tells.files
  pub decoder : tells.decoder
  pub wire : tells.wire
  pub disk : tells.disk

bytes_told : (told : Type 0) (limit : ℕ) (s : Rattle.tame_names.specs.Standing.Standing) (f : BinaryFault) → told → HasNoBytes told limit s f → HasNoBytes (Unit {0}) limit s f
bytes_told told limit s fault.Missing t h = λ x. h t
bytes_told told limit s fault.File t h = tt
bytes_told told limit s (fault.TooLarge n) t h = (h.0, λ x. h.1 t)
bytes_told told limit s fault.Decode t h = absurd h
bytes_told told limit s (fault.PayloadOver n) t h = absurd h
bytes_told told limit s fault.NoInformation t h = absurd h
bytes_told told limit s (fault.Lockfile x) t h = absurd h

unsaid_told : (told : Type 0) (limit : ℕ) (a : Rattle.audit_binaries.specs.Decoding.Answer) (f : BinaryFault) → told → IsUnsaid told limit a f → IsUnsaid (Unit {0}) limit a f
unsaid_told told limit a fault.Missing t h = absurd h
unsaid_told told limit a fault.File t h = absurd h
unsaid_told told limit a (fault.TooLarge n) t h = absurd h
unsaid_told told limit a fault.Decode t h = tt
unsaid_told told limit a (fault.PayloadOver n) t h = (h.0, λ x. h.1 t)
unsaid_told told limit a fault.NoInformation t h = λ x. h t
unsaid_told told limit a (fault.Lockfile x) t h = absurd h

unlocked_told : (tells : Tells) (scan : Scan) (path : List ℕ) (f : BinaryFault) → TellAll tells → IsUnlocked tells scan path f → IsUnlocked all_tell scan path f
unlocked_told tells scan path fault.Missing t h = absurd h
unlocked_told tells scan path fault.File t h = absurd h
unlocked_told tells scan path (fault.TooLarge n) t h = absurd h
unlocked_told tells scan path fault.Decode t h = absurd h
unlocked_told tells scan path (fault.PayloadOver n) t h = absurd h
unlocked_told tells scan path fault.NoInformation t h = absurd h
unlocked_told tells scan path (fault.Lockfile x) t h = (h.0, h.1, (h.2.0, λ y. h.2.1 t.files, λ y. h.2.2 t.decoder), h.3)

refused_told : (tells : Tells) (scan : Scan) (path : List ℕ) (f : BinaryFault) → TellAll tells → IsRefusedFor tells scan path f → IsRefusedFor all_tell scan path f
refused_told tells scan path f t (inl (inl h)) = inl (inl (bytes_told tells.files scan.limits.binary (scan.host.stands path) f t.files h))
refused_told tells scan path f t (inl (inr h)) = inl (inr (h.0, λ y. h.1 t.files, unsaid_told tells.decoder scan.limits.payload (scan.answers h.0 scan.limits.payload) f t.decoder h.2))
refused_told tells scan path f t (inr h) = inr (unlocked_told tells scan path f t h)

answered_told : (tells : Tells) (scan : Scan) (began ended : Outside) (path : List ℕ) (a : BinaryAnswer) → TellAll tells → IsAnswered tells scan began ended path a → IsAnswered all_tell scan began ended path a
answered_told tells scan began ended path (answer.Audited found audited) t h = record {
  text = h.text;
  said = (h.said.0, λ y. h.said.1 t.files, λ y. h.said.2 t.decoder);
  audit = audit_told scan.auditor tells.wire tells.disk began.moment ended.moment h.text audited t.wire t.disk h.audit;
  unasked = h.unasked;
  unchanged = λ other y. h.unchanged other t.disk;
  others = λ y. h.others t.disk;
  folders = λ y. h.folders t.disk;
  kept = λ y z. h.kept t.wire t.disk;
}
answered_told tells scan began ended path (answer.Refused f) t h = (refused_told tells scan path f t h.0, h.1)

binary_told : (tells : Tells) (scan : Scan) (began ended : Outside) (path : List ℕ) (a : BinaryAnswer) → TellAll tells → IsBinary tells scan began ended path a → IsBinary all_tell scan began ended path a
binary_told tells scan began ended path a t h = record {
  answered = answered_told tells scan began ended path a t h.answered;
  counted = record {
    files = h.counted.files;
    decoder = h.counted.decoder;
    file = h.counted.file;
    decode = h.counted.decode;
    quiet = h.counted.quiet;
    failed = λ y. h.counted.failed t.files;
  };
}

-- ---- counts that stay

pub record IsCalm (began ended : Outside) : Type 0 where
  pub files : CountStayed began.file_faults ended.file_faults
  pub decoder : CountStayed began.decode_faults ended.decode_faults
  pub disk : CountStayed began.moment.disk_faults ended.moment.disk_faults

pub record IsLater (began ended : Outside) : Type 0 where
  pub files : began.file_faults ≤ ended.file_faults
  pub decoder : began.decode_faults ≤ ended.decode_faults
  pub disk : began.moment.disk_faults ≤ ended.moment.disk_faults

same_later : (m n : ℕ) → n ≡ m → m ≤ n
same_later m n is = omega (arith, is)

disk_later : (tells : Tells) (scan : Scan) (began ended : Outside) (path : List ℕ) (a : BinaryAnswer) → IsAnswered tells scan began ended path a → began.moment.disk_faults ≤ ended.moment.disk_faults
disk_later tells scan began ended path (answer.Audited found audited) h = chain_grows began.moment.wire_faults began.moment.disk_faults audited.turns ended.moment.wire_faults ended.moment.disk_faults h.audit.says.counted.counts
disk_later tells scan began ended path (answer.Refused f) h = same_later began.moment.disk_faults ended.moment.disk_faults (ap (λ (x : Moment). x.disk_faults) h.1.moment)

pub one_later : (tells : Tells) (scan : Scan) (began ended : Outside) (path : List ℕ) (a : BinaryAnswer) → IsBinary tells scan began ended path a → IsLater began ended
one_later tells scan began ended path a h = record { files = h.counted.files; decoder = h.counted.decoder; disk = disk_later tells scan began ended path a h.answered }

then_later : (a b c : ℕ) → a ≤ b → b ≤ c → a ≤ c
then_later a b c h k = omega (arith, h, k)

pub all_later : (tells : Tells) (scan : Scan) (began ended : Outside) (paths : List (List ℕ)) (answers : List BinaryAnswer) → AreBinaries tells scan began ended paths answers → IsLater began ended
all_later tells scan began ended [] [] h = record {
  files = same_later began.file_faults ended.file_faults (ap (λ (o : Outside). o.file_faults) h);
  decoder = same_later began.decode_faults ended.decode_faults (ap (λ (o : Outside). o.decode_faults) h);
  disk = same_later began.moment.disk_faults ended.moment.disk_faults (ap (λ (o : Outside). o.moment.disk_faults) h);
}
all_later tells scan began ended [] (a ∷ answers) h = absurd h
all_later tells scan began ended (p ∷ paths) [] h = absurd h
all_later tells scan began ended (p ∷ paths) (a ∷ answers) h =
    let one = one_later tells scan began h.0 p a h.1 in
    let more = all_later tells scan h.0 ended paths answers h.2 in
    record {
      files = then_later began.file_faults h.0.file_faults ended.file_faults one.files more.files;
      decoder = then_later began.decode_faults h.0.decode_faults ended.decode_faults one.decoder more.decoder;
      disk = then_later began.moment.disk_faults h.0.moment.disk_faults ended.moment.disk_faults one.disk more.disk;
    }

first_stayed : (a b c : ℕ) → a ≤ b → b ≤ c → CountStayed a c → CountStayed a b
first_stayed a b c h k stayed = let same = stayed.0 in let low = stayed.1 in (omega (arith, h, k, same), low)

pub last_stayed : (a b c : ℕ) → a ≤ b → b ≤ c → CountStayed a c → CountStayed b c
last_stayed a b c h k stayed = let same = stayed.0 in let low = stayed.1 in (omega (arith, h, k, same), omega (arith, h, k, same, low))

pub calm_first : (a b c : Outside) → IsLater a b → IsLater b c → IsCalm a c → IsCalm a b
calm_first a b c h k calm = record {
  files = first_stayed a.file_faults b.file_faults c.file_faults h.files k.files calm.files;
  decoder = first_stayed a.decode_faults b.decode_faults c.decode_faults h.decoder k.decoder calm.decoder;
  disk = first_stayed a.moment.disk_faults b.moment.disk_faults c.moment.disk_faults h.disk k.disk calm.disk;
}

pub calm_last : (a b c : Outside) → IsLater a b → IsLater b c → IsCalm a c → IsCalm b c
calm_last a b c h k calm = record {
  files = last_stayed a.file_faults b.file_faults c.file_faults h.files k.files calm.files;
  decoder = last_stayed a.decode_faults b.decode_faults c.decode_faults h.decoder k.decoder calm.decoder;
  disk = last_stayed a.moment.disk_faults b.moment.disk_faults c.moment.disk_faults h.disk k.disk calm.disk;
}

-- ---- what a binary says

pub exactly : (tells : Tells) (scan : Scan) (began ended : Outside) (path : List ℕ) (a : BinaryAnswer) → TellAll tells → IsCalm began ended → IsBinary tells scan began ended path a → IsExactly (said_at scan path) a
exactly tells scan began ended path a t calm h =
    exact_binary scan began ended path a (binary_told tells scan began ended path a t h)
    (λ is. not_both began.file_faults ended.file_faults calm.files (h.counted.file is))
    (λ is. not_both began.decode_faults ended.decode_faults calm.decoder (h.counted.decode is))

-- the same but for the turns
abbrev pub SaidAlike : BinaryAnswer → BinaryAnswer → Type 0
SaidAlike (answer.Audited found a) (answer.Audited also b) = (found ≡ also) × SaysSame a b
SaidAlike (answer.Refused f) (answer.Refused g) = f ≡ g
SaidAlike _ _ = ⊥

abbrev pub AllSaidAlike : List BinaryAnswer → List BinaryAnswer → Type 0
AllSaidAlike [] [] = Unit {0}
AllSaidAlike (a ∷ ones) (b ∷ bs) = SaidAlike a b × AllSaidAlike ones bs
AllSaidAlike _ _ = ⊥

pub refused_same : (r : Result FoundText BinaryFault) (f g : BinaryFault) → IsExactly r (answer.Refused f) → IsExactly r (answer.Refused g) → f ≡ g
refused_same (Err e) f g h k = cc (h, k)
refused_same (Ok said) f g h k =
    let one = h.1 in
    let two = k.1 in
    let three = h.2 in
    let four = k.2 in
    cc (one, two, three, four)

pub never_mixed : {X : Type 0} (r : Result FoundText BinaryFault) (found : PackagesFound) (a : Audited) (f : BinaryFault) → IsExactly r (answer.Audited found a) → IsExactly r (answer.Refused f) → X
never_mixed (Err e) found a f h k = cc (h)
never_mixed (Ok said) found a f h k = let yes = h.1 in let no = k.2 in cc (yes, no)

abbrev pub found_text : PackagesFound → List ℕ → FoundText
found_text found text = record { found = found; text = text }

pub same_said : (tells too : Tells) (scan : Scan) (began ended began_too ended_too : Outside) (path : List ℕ) (found also : PackagesFound) (a b : Audited) → TellAll tells → TellAll too
    → (h : IsAudited tells scan began ended path found a) (k : IsAudited too scan began_too ended_too path also b) → found_text found h.text ≡ found_text also k.text
same_said tells too scan began ended began_too ended_too path found also a b t s h k =
    let one = h.said.1 t.files in
    let two = k.said.1 s.files in
    let bytes : h.said.0 ≡ k.said.0 = cc (one, two) in
    let three = h.said.2 t.decoder in
    let four = k.said.2 s.decoder in
    let P : List ℕ → Type 0 = λ bs. said_text (scan.answers bs scan.limits.payload) ≡ Ok (found_text also k.text) in
    let five = subst P (sym bytes) four in
    let six = sym three ∙ five in
    cc (six)

-- ---- lists of exchanges

pub same_length : (paths : List (List ℕ)) (es fs : List Exchange) → map (λ e. e.path) es ≡ paths → map (λ e. e.path) fs ≡ paths → length es ≡ length fs
same_length paths es fs h k = mapped es ∙ ap (λ (ps : List (List ℕ)). length ps) (h ∙ sym k) ∙ sym (mapped fs)
  where
    mapped : (xs : List Exchange) → length xs ≡ length (map (λ e. e.path) xs)
    mapped [] = refl
    mapped (x ∷ xs) = ap (λ (n : ℕ). Rattle.std.specs.Prelude.suc n) (mapped xs)

alike_parts : (es fs xs ys : List Exchange) → length es ≡ length fs → AreAllAlike (es ++ xs) (fs ++ ys) → AreAllAlike es fs × AreAllAlike xs ys
alike_parts [] [] xs ys same h = (tt, h)
alike_parts [] (f ∷ fs) xs ys same h = cc (same)
alike_parts (e ∷ es) [] xs ys same h = cc (same)
alike_parts (e ∷ es) (f ∷ fs) xs ys same h = let more = alike_parts es fs xs ys (cc (same)) h.1 in ((h.0, more.0), more.1)

-- the exchanges of audits, one after the other
pub all_grown : (tells : Tells) (scan : Scan) (began ended : Outside) (paths : List (List ℕ)) (answers : List BinaryAnswer) → scan.auditor.checks ≡ Online → tells.wire → AreBinaries tells scan began ended paths answers
    → (more : List Exchange) × (ended.moment.exchanges ≡ began.moment.exchanges ++ more)
all_grown tells scan began ended [] [] on t h = ([], ap (λ (o : Outside). o.moment.exchanges) h ∙ sym (Rattle.std.proofs.Common.append-nil began.moment.exchanges))
all_grown tells scan began ended [] (a ∷ answers) on t h = absurd h
all_grown tells scan began ended (p ∷ paths) [] on t h = absurd h
all_grown tells scan began ended (p ∷ paths) (answer.Audited found audited ∷ answers) on t h =
    let one = h.1.answered.audit.says.audited on t in
    let more = all_grown tells scan h.0 ended paths answers on t h.2 in
    (one.0 ++ more.0, more.1 ∙ ap (λ (xs : List Exchange). xs ++ more.0) one.1 ∙ append_assoc began.moment.exchanges one.0 more.0)
all_grown tells scan began ended (p ∷ paths) (answer.Refused f ∷ answers) on t h =
    let more = all_grown tells scan h.0 ended paths answers on t h.2 in
    (more.0, more.1 ∙ ap (λ (m : Moment). m.exchanges ++ more.0) h.1.answered.1.moment)

-- an honest serving, by its parts
serves_first : (wire disk : Type 0) (began : Moment) (es xs : List Exchange) → IsHonestServing wire disk began (es ++ xs) → IsHonestServing wire disk began es
serves_first wire disk began es xs s = record { wire_tells = s.wire_tells; disk_tells = s.disk_tells; server = s.server; honest = honest_front s.server es xs s.honest; kept = s.kept }

serves_then : (wire disk : Type 0) (began mid : Moment) (es xs : List Exchange) → mid.exchanges ≡ began.exchanges ++ es → (wire → disk → Rattle.audit_core.specs.Turns.StaysKept began.exchanges mid.exchanges began.files mid.files)
    → IsHonestServing wire disk began (es ++ xs) → IsHonestServing wire disk mid xs
serves_then wire disk began mid es xs is kept s = record {
  wire_tells = s.wire_tells;
  disk_tells = s.disk_tells;
  server = s.server;
  honest = honest_back s.server es xs s.honest;
  kept = kept_after s.server crates_io_index [] began.files mid.files ((kept s.wire_tells s.disk_tells).kept s.server es is (honest_front s.server es xs s.honest) s.kept);
}

-- ---- one after the other

-- what each must begin with
pub record IsAsking (tells : Tells) (began ended : Outside) (added : List Exchange) : Type 0 where
  pub serves : IsHonestServing tells.wire tells.disk began.moment added
  pub follow : ended.moment.exchanges ≡ began.moment.exchanges ++ added

-- a binary that was refused leaves all as it was
asking_same : (tells : Tells) (began mid ended : Outside) (added : List Exchange) → mid.moment ≡ began.moment → IsAsking tells began ended added → IsAsking tells mid ended added
asking_same tells began mid ended added is h =
    let P : Moment → Type 0 = λ m. IsHonestServing tells.wire tells.disk m added in
    record { serves = subst P (sym is) h.serves; follow = h.follow ∙ ap (λ (m : Moment). m.exchanges ++ added) (sym is) }

asking_parts : (tells : Tells) (scan : Scan) (began mid ended : Outside) (path : List ℕ) (found : PackagesFound) (a : Audited) (paths : List (List ℕ)) (answers : List BinaryAnswer) (added : List Exchange) → scan.auditor.checks ≡ Online
    → (t : tells.wire) → IsAsking tells began ended added → (h : IsAudited tells scan began mid path found a) → AreBinaries tells scan mid ended paths answers
    → (own : List Exchange) × (rest : List Exchange) × (added ≡ own ++ rest) × (mid.moment.exchanges ≡ began.moment.exchanges ++ own) × (map (λ e. e.path) own ≡ asked_of scan.auditor.checks a.lockfile)
    × IsHonestServing tells.wire tells.disk began.moment own × IsAsking tells mid ended rest
asking_parts tells scan began mid ended path found a paths answers added on t asks h more =
    let one = h.audit.says.audited on t in
    let rest = all_grown tells scan mid ended paths answers on t more in
    let parts : added ≡ one.0 ++ rest.0 =
    cancel began.moment.exchanges added (one.0 ++ rest.0) (sym asks.follow ∙ rest.1 ∙ ap (λ (xs : List Exchange). xs ++ rest.0) one.1 ∙ append_assoc began.moment.exchanges one.0 rest.0) in
    let P : List Exchange → Type 0 = λ xs. IsHonestServing tells.wire tells.disk began.moment xs in
    let both = subst P parts asks.serves in (
      one.0,
      rest.0,
      parts,
      one.1,
      one.2.asked,
      serves_first tells.wire tells.disk began.moment one.0 rest.0 both,
      record { serves = serves_then tells.wire tells.disk began.moment mid.moment one.0 rest.0 one.1 h.kept both; follow = rest.1 },
    )

-- the audits of one text say the same
audits_online : (tells too : Tells) (scan : Scan) (began mid began_too mid_too : Outside) (path : List ℕ) (found also : PackagesFound) (a b : Audited) (own own_too : List Exchange) → TellAll tells → TellAll too
    → scan.auditor.checks ≡ Online → IsCalm began mid → IsCalm began_too mid_too
    → IsHonestServing tells.wire tells.disk began.moment own → IsHonestServing too.wire too.disk began_too.moment own_too
    → mid.moment.exchanges ≡ began.moment.exchanges ++ own → mid_too.moment.exchanges ≡ began_too.moment.exchanges ++ own_too → AreAllAlike own own_too
    → IsAudited tells scan began mid path found a → IsAudited too scan began_too mid_too path also b → (found ≡ also) × SaysSame a b
audits_online tells too scan began mid began_too mid_too path found also a b own own_too t s on calm calm_too serves serves_too follow follow_too alike h k =
    let said = same_said tells too scan began mid began_too mid_too path found also a b t s h k in
    let text : h.text ≡ k.text = ap (λ (x : FoundText). x.text) said in
    let P : List ℕ → Type 0 = λ x. IsAuditOf scan.auditor too.wire too.disk began_too.moment mid_too.moment x b in (
      ap (λ (x : FoundText). x.found) said,
      asked_same scan.auditor tells.wire tells.disk too.wire too.disk began.moment mid.moment began_too.moment mid_too.moment h.text a b own own_too serves serves_too on h.audit (subst P (sym text) k.audit)
          calm.disk calm_too.disk follow follow_too alike,
    )

audits_off : (tells too : Tells) (scan : Scan) (began mid began_too mid_too : Outside) (path : List ℕ) (found also : PackagesFound) (a b : Audited) → TellAll tells → TellAll too → scan.auditor.checks ≡ Off
    → IsAudited tells scan began mid path found a → IsAudited too scan began_too mid_too path also b → (found ≡ also) × SaysSame a b
audits_off tells too scan began mid began_too mid_too path found also a b t s off h k =
    let said = same_said tells too scan began mid began_too mid_too path found also a b t s h k in
    let text : h.text ≡ k.text = ap (λ (x : FoundText). x.text) said in
    let P : List ℕ → Type 0 = λ x. IsAuditOf scan.auditor too.wire too.disk began_too.moment mid_too.moment x b in (
      ap (λ (x : FoundText). x.found) said,
      off_same scan.auditor tells.wire tells.disk too.wire too.disk began.moment mid.moment began_too.moment mid_too.moment h.text a b off h.audit (subst P (sym text) k.audit),
    )

-- online, over servers that were honest and answered alike
pub scans_online : (tells too : Tells) (scan : Scan) (began ended began_too ended_too : Outside) (paths : List (List ℕ)) (answers answers_too : List BinaryAnswer) (added added_too : List Exchange) → TellAll tells → TellAll too
    → scan.auditor.checks ≡ Online → IsCalm began ended → IsCalm began_too ended_too → IsAsking tells began ended added → IsAsking too began_too ended_too added_too → AreAllAlike added added_too
    → AreBinaries tells scan began ended paths answers → AreBinaries too scan began_too ended_too paths answers_too → AllSaidAlike answers answers_too
scans_online tells too scan began ended began_too ended_too [] [] [] added added_too t s on calm calm_too asks asks_too alike h k = tt
scans_online tells too scan began ended began_too ended_too [] [] (b ∷ bs) added added_too t s on calm calm_too asks asks_too alike h k = absurd k
scans_online tells too scan began ended began_too ended_too [] (a ∷ ones) bs added added_too t s on calm calm_too asks asks_too alike h k = absurd h
scans_online tells too scan began ended began_too ended_too (p ∷ ps) [] bs added added_too t s on calm calm_too asks asks_too alike h k = absurd h
scans_online tells too scan began ended began_too ended_too (p ∷ ps) (a ∷ ones) [] added added_too t s on calm calm_too asks asks_too alike h k = absurd k
scans_online tells too scan began ended began_too ended_too (p ∷ ps) (answer.Refused f ∷ ones) (answer.Refused g ∷ bs) added added_too t s on calm calm_too asks asks_too alike h k =
    let first = one_later tells scan began h.0 p (answer.Refused f) h.1 in
    let first_too = one_later too scan began_too k.0 p (answer.Refused g) k.1 in
    let later = all_later tells scan h.0 ended ps ones h.2 in
    let later_too = all_later too scan k.0 ended_too ps bs k.2 in (
      refused_same (said_at scan p) f g
          (exactly tells scan began h.0 p (answer.Refused f) t (calm_first began h.0 ended first later calm) h.1)
          (exactly too scan began_too k.0 p (answer.Refused g) s (calm_first began_too k.0 ended_too first_too later_too calm_too) k.1),
      scans_online tells too scan h.0 ended k.0 ended_too ps ones bs added added_too t s on (calm_last began h.0 ended first later calm) (calm_last began_too k.0 ended_too first_too later_too calm_too)
          (asking_same tells began h.0 ended added h.1.answered.1.moment asks) (asking_same too began_too k.0 ended_too added_too k.1.answered.1.moment asks_too) alike h.2 k.2,
    )
scans_online tells too scan began ended began_too ended_too (p ∷ ps) (answer.Audited found a ∷ ones) (answer.Refused g ∷ bs) added added_too t s on calm calm_too asks asks_too alike h k =
    never_mixed (said_at scan p) found a g
    (exactly tells scan began h.0 p (answer.Audited found a) t (calm_first began h.0 ended (one_later tells scan began h.0 p (answer.Audited found a) h.1) (all_later tells scan h.0 ended ps ones h.2) calm) h.1)
    (exactly too scan began_too k.0 p (answer.Refused g) s (calm_first began_too k.0 ended_too (one_later too scan began_too k.0 p (answer.Refused g) k.1) (all_later too scan k.0 ended_too ps bs k.2) calm_too) k.1)
scans_online tells too scan began ended began_too ended_too (p ∷ ps) (answer.Refused f ∷ ones) (answer.Audited also b ∷ bs) added added_too t s on calm calm_too asks asks_too alike h k =
    never_mixed (said_at scan p) also b f
    (exactly too scan began_too k.0 p (answer.Audited also b) s (calm_first began_too k.0 ended_too (one_later too scan began_too k.0 p (answer.Audited also b) k.1) (all_later too scan k.0 ended_too ps bs k.2) calm_too) k.1)
    (exactly tells scan began h.0 p (answer.Refused f) t (calm_first began h.0 ended (one_later tells scan began h.0 p (answer.Refused f) h.1) (all_later tells scan h.0 ended ps ones h.2) calm) h.1)
scans_online tells too scan began ended began_too ended_too (p ∷ ps) (answer.Audited found a ∷ ones) (answer.Audited also b ∷ bs) added added_too t s on calm calm_too asks asks_too alike h k =
    let first = one_later tells scan began h.0 p (answer.Audited found a) h.1 in
    let first_too = one_later too scan began_too k.0 p (answer.Audited also b) k.1 in
    let later = all_later tells scan h.0 ended ps ones h.2 in
    let later_too = all_later too scan k.0 ended_too ps bs k.2 in
    let parts = asking_parts tells scan began h.0 ended p found a ps ones added on t.wire asks h.1.answered h.2 in
    let parts_too = asking_parts too scan began_too k.0 ended_too p also b ps bs added_too on s.wire asks_too k.1.answered k.2 in
    let said = same_said tells too scan began h.0 began_too k.0 p found also a b t s h.1.answered k.1.answered in
    let one = h.1.answered.audit.lockfile in
    let two = k.1.answered.audit.lockfile in
    let text = ap (λ (x : FoundText). locked x.text) said in
    let lockfile : a.lockfile ≡ b.lockfile = cc (one, two, text) in
    let paths = parts_too.4 ∙ ap (λ (x : List Rattle.audit_lock.specs.declared.resolving.Package.Package). asked_of scan.auditor.checks x) (sym lockfile) in
    let long = same_length (asked_of scan.auditor.checks a.lockfile) parts.0 parts_too.0 parts.4 paths in
    let Q : List Exchange → Type 0 = λ xs. AreAllAlike xs added_too in
    let R : List Exchange → Type 0 = λ xs. AreAllAlike (parts.0 ++ parts.1) xs in
    let split = alike_parts parts.0 parts_too.0 parts.1 parts_too.1 long (subst R parts_too.2 (subst Q parts.2 alike)) in (
      audits_online tells too scan began h.0 began_too k.0 p found also a b parts.0 parts_too.0 t s on (calm_first began h.0 ended first later calm) (calm_first began_too k.0 ended_too first_too later_too calm_too)
          parts.5 parts_too.5 parts.3 parts_too.3 split.0 h.1.answered k.1.answered,
      scans_online tells too scan h.0 ended k.0 ended_too ps ones bs parts.1 parts_too.1 t s on (calm_last began h.0 ended first later calm) (calm_last began_too k.0 ended_too first_too later_too calm_too)
          parts.6 parts_too.6 split.1 h.2 k.2,
    )

-- if checks are off
pub scans_off : (tells too : Tells) (scan : Scan) (began ended began_too ended_too : Outside) (paths : List (List ℕ)) (answers answers_too : List BinaryAnswer) → TellAll tells → TellAll too
    → scan.auditor.checks ≡ Off → IsCalm began ended → IsCalm began_too ended_too → AreBinaries tells scan began ended paths answers → AreBinaries too scan began_too ended_too paths answers_too → AllSaidAlike answers answers_too
scans_off tells too scan began ended began_too ended_too [] [] [] t s off calm calm_too h k = tt
scans_off tells too scan began ended began_too ended_too [] [] (b ∷ bs) t s off calm calm_too h k = absurd k
scans_off tells too scan began ended began_too ended_too [] (a ∷ ones) bs t s off calm calm_too h k = absurd h
scans_off tells too scan began ended began_too ended_too (p ∷ ps) [] bs t s off calm calm_too h k = absurd h
scans_off tells too scan began ended began_too ended_too (p ∷ ps) (a ∷ ones) [] t s off calm calm_too h k = absurd k
scans_off tells too scan began ended began_too ended_too (p ∷ ps) (a ∷ ones) (b ∷ bs) t s off calm calm_too h k =
    let first = one_later tells scan began h.0 p a h.1 in
    let first_too = one_later too scan began_too k.0 p b k.1 in
    let later = all_later tells scan h.0 ended ps ones h.2 in
    let later_too = all_later too scan k.0 ended_too ps bs k.2 in
    let mine = exactly tells scan began h.0 p a t (calm_first began h.0 ended first later calm) h.1 in
    let other = exactly too scan began_too k.0 p b s (calm_first began_too k.0 ended_too first_too later_too calm_too) k.1 in (
      one_off tells too scan began h.0 began_too k.0 p a b t s off mine other h.1.answered k.1.answered,
      scans_off tells too scan h.0 ended k.0 ended_too ps ones bs t s off (calm_last began h.0 ended first later calm) (calm_last began_too k.0 ended_too first_too later_too calm_too) h.2 k.2,
    )
  where
    one_off : (tells too : Tells) (scan : Scan) (began mid began_too mid_too : Outside) (path : List ℕ) (a b : BinaryAnswer) → TellAll tells → TellAll too → scan.auditor.checks ≡ Off → IsExactly (said_at scan path) a → IsExactly (said_at scan path) b
        → IsAnswered tells scan began mid path a → IsAnswered too scan began_too mid_too path b → SaidAlike a b
    one_off tells too scan began mid began_too mid_too path (answer.Audited found a) (answer.Audited also b) t s off x y h k = audits_off tells too scan began mid began_too mid_too path found also a b t s off h k
    one_off tells too scan began mid began_too mid_too path (answer.Refused f) (answer.Refused g) t s off x y h k = refused_same (said_at scan path) f g x y
    one_off tells too scan began mid began_too mid_too path (answer.Audited found a) (answer.Refused g) t s off x y h k = never_mixed (said_at scan path) found a g x y
    one_off tells too scan began mid began_too mid_too path (answer.Refused f) (answer.Audited also b) t s off x y h k = never_mixed (said_at scan path) also b f y x

-- ---- they print the same, and come to the same

printed_same : (verdicts : Bool) (shown : Shown) (presenter : Presenter) (path : List ℕ) (a b : BinaryAnswer) → SaidAlike a b → binary_printed verdicts shown presenter path a ≡ binary_printed verdicts shown presenter path b
printed_same verdicts shown presenter path (answer.Audited found a) (answer.Audited also b) h =
    ap (λ (x : Audited). binary_printed verdicts shown presenter path (answer.Audited found x)) (same_but_turns a b h.1) ∙ ap (λ (x : PackagesFound). binary_printed verdicts shown presenter path (answer.Audited x b)) h.0
printed_same verdicts shown presenter path (answer.Refused f) (answer.Refused g) h = ap (λ (x : BinaryFault). binary_printed verdicts shown presenter path (answer.Refused x)) h
printed_same verdicts shown presenter path (answer.Audited found a) (answer.Refused g) h = absurd h
printed_same verdicts shown presenter path (answer.Refused f) (answer.Audited also b) h = absurd h

all_printed : (verdicts : Bool) (shown : Shown) (presenter : Presenter) (paths : List (List ℕ)) (ones bs : List BinaryAnswer) → AllSaidAlike ones bs → binaries_printed verdicts shown presenter paths ones ≡ binaries_printed verdicts shown presenter paths bs
all_printed verdicts shown presenter [] ones bs h = refl
all_printed verdicts shown presenter (p ∷ ps) [] [] h = refl
all_printed verdicts shown presenter (p ∷ ps) [] (b ∷ bs) h = absurd h
all_printed verdicts shown presenter (p ∷ ps) (a ∷ ones) [] h = absurd h
all_printed verdicts shown presenter (p ∷ ps) (a ∷ ones) (b ∷ bs) h =
    ap (λ (x : Printed). in_front x (binaries_printed verdicts shown (with_trees presenter x.trees) ps ones)) (printed_same verdicts shown presenter p a b h.0)
    ∙ ap (λ (x : Output). in_front (binary_printed verdicts shown presenter p b) x) (all_printed verdicts shown (with_trees presenter (binary_printed verdicts shown presenter p b).trees) ps ones bs h.1)

pub output_same : (verdicts : Bool) (shown : Shown) (paths : List (List ℕ)) (ones bs : List BinaryAnswer) → AllSaidAlike ones bs → binaries_output verdicts shown paths ones ≡ binaries_output verdicts shown paths bs
output_same true shown paths ones bs h = all_printed true shown (presenter_of shown.config) paths ones bs h
output_same false shown paths ones bs h = ap (λ (x : Output). reports_output shown x) (all_printed false shown (presenter_of shown.config) paths ones bs h)

found_same : (deny : List DenyOption) (a b : BinaryAnswer) → SaidAlike a b → is_found deny a ≡ is_found deny b
found_same deny (answer.Audited found a) (answer.Audited also b) h = ap (λ (r : Rattle.audit_advisory.specs.declared.reports.Report.Report). Rattle.audit_advisory.specs.Exits.report_fails r deny) h.1.report
found_same deny (answer.Refused f) (answer.Refused g) h = refl
found_same deny (answer.Audited found a) (answer.Refused g) h = absurd h
found_same deny (answer.Refused f) (answer.Audited also b) h = absurd h

kind_same : (a b : BinaryAnswer) → SaidAlike a b → is_refused a ≡ is_refused b
kind_same (answer.Audited found a) (answer.Audited also b) h = refl
kind_same (answer.Refused f) (answer.Refused g) h = refl
kind_same (answer.Audited found a) (answer.Refused g) h = absurd h
kind_same (answer.Refused f) (answer.Audited also b) h = absurd h

any_same : (test : BinaryAnswer → Bool) (ones bs : List BinaryAnswer) → ((a b : BinaryAnswer) → SaidAlike a b → test a ≡ test b) → AllSaidAlike ones bs → list_any test ones ≡ list_any test bs
any_same test [] [] f h = refl
any_same test [] (b ∷ bs) f h = absurd h
any_same test (a ∷ ones) [] f h = absurd h
any_same test (a ∷ ones) (b ∷ bs) f h = ap (λ (x : Bool). x || list_any test ones) (f a b h.0) ∙ ap (λ (x : Bool). test b || x) (any_same test ones bs f h.1)

pub summary_same : (deny : List DenyOption) (own : List ℕ) (ones bs : List BinaryAnswer) → AllSaidAlike ones bs → summary_of deny own ones ≡ summary_of deny own bs
summary_same deny own ones bs h =
    ap (λ (x : Bool). record { vulnerabilities_found = x; errors_encountered = list_any is_refused ones || Rattle.audit_advisory.specs.Exits.self_fails deny own }) (any_same (is_found deny) ones bs (found_same deny) h)
    ∙ ap (λ (x : Bool). record { vulnerabilities_found = list_any (is_found deny) bs; errors_encountered = x || Rattle.audit_advisory.specs.Exits.self_fails deny own }) (any_same is_refused ones bs kind_same h)
