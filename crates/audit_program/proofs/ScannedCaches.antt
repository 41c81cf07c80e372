-- Audits of binaries that say the same over caches that read the same: by these alone, or with the same answers.
use Rattle.std.proofs.Common.{◌≡◌, ◌≢◌, ℕ, List, [], ◌∷◌, ◌++◌, sym, ap, ◌∙◌, subst, append_assoc}
use Rattle.std.specs.Prelude.{length, map}
use Rattle.tame_cache.specs.Disk.{Step, reads}
use Rattle.tame_sparse.specs.declared.network.Exchange.{Exchange}
use Rattle.audit_lock.specs.Locked.{locked}
use Rattle.audit_lock.specs.declared.resolving.Package.{Package}
use Rattle.audit_core.specs.Audits.{IsAuditOf, Moment}
use Rattle.audit_core.specs.Checks.{asked_of}
use Rattle.audit_core.specs.declared.auditing.Audited.{Audited}
use Rattle.audit_core.specs.declared.checking.Checks.{Checks}
use Rattle.audit_core.specs.declared.checking.Checks.TheVariants.{Online, Offline}
use Rattle.audit_core.proofs.Exchanged.{cancel}
use Rattle.audit_binaries.specs.Binaries.{AreBinaries, IsAudited, IsBinary, Outside, Scan, Tells, said_at}
use Rattle.audit_binaries.specs.declared.answers.BinaryAnswer.{BinaryAnswer}
use Rattle.audit_binaries.specs.declared.answers.BinaryAnswer.TheVariants as answer
use Rattle.audit_binaries.specs.declared.answers.PackagesFound.{PackagesFound}
use Rattle.audit_binaries.specs.declared.opening.FoundText.{FoundText}
use Rattle.audit_program.specs.AgreeingRuns.{AreAllSame}
use Rattle.audit_program.proofs.SaidAlike.{SaysSame, came_same, recalled_same}
use Rattle.audit_program.proofs.ScannedAlike.{AllSaidAlike, IsCalm, SaidAlike, TellAll, all_grown, all_later, calm_first, calm_last, exactly, never_mixed, one_later, refused_same, same_length, same_said}
use Rattle.audit_program.proofs.StockedAlike.{came_left}

-- what a read of each file gives is the same
abbrev pub ReadsSame : Outside → Outside → Type 0
ReadsSame a b = (q : List ℕ) → reads (a.moment.files q) ≡ reads (b.moment.files q)

-- a refused binary leaves the caches
refused_reads : (began mid began_too mid_too : Outside) → mid.moment ≡ began.moment → mid_too.moment ≡ began_too.moment → ReadsSame began began_too → ReadsSame mid mid_too
refused_reads began mid began_too mid_too h k same q =
    ap (λ (m : Moment). reads (m.files q)) h ∙ same q ∙ sym (ap (λ (m : Moment). reads (m.files q)) k)

-- ---- by the caches alone

not_online : (c : Checks) → c ≡ Offline → c ≢ Online
not_online c offline is = let one : Offline ≡ Online = sym offline ∙ is in cc (one)

-- each audit leaves its cache
recalled_reads : (tells too : Tells) (scan : Scan) (began mid began_too mid_too : Outside) (path : List ℕ) (found also : PackagesFound) (a b : Audited) → TellAll tells → TellAll too → scan.auditor.checks ≡ Offline → ReadsSame began began_too
    → IsAudited tells scan began mid path found a → IsAudited too scan began_too mid_too path also b → ReadsSame mid mid_too
recalled_reads tells too scan began mid began_too mid_too path found also a b t s offline same h k q =
    let other = not_online scan.auditor.checks offline in
    ap (λ (x : List Step). reads x) (h.unchanged other t.disk q) ∙ same q ∙ sym (ap (λ (x : List Step). reads x) (k.unchanged other s.disk q))

audits_offline : (tells too : Tells) (scan : Scan) (began mid began_too mid_too : Outside) (path : List ℕ) (found also : PackagesFound) (a b : Audited) → TellAll tells → TellAll too → scan.auditor.checks ≡ Offline → IsCalm began mid → IsCalm began_too mid_too
    → ReadsSame began began_too → IsAudited tells scan began mid path found a → IsAudited too scan began_too mid_too path also b → (found ≡ also) × SaysSame a b
audits_offline tells too scan began mid began_too mid_too path found also a b t s offline calm calm_too same h k =
    let said = same_said tells too scan began mid began_too mid_too path found also a b t s h k in
    let text : h.text ≡ k.text = ap (λ (x : FoundText). x.text) said in
    let P : List ℕ → Type 0 = λ x. IsAuditOf scan.auditor too.wire too.disk began_too.moment mid_too.moment x b in (
      ap (λ (x : FoundText). x.found) said,
      recalled_same scan.auditor tells.wire tells.disk too.wire too.disk began.moment mid.moment began_too.moment mid_too.moment h.text a b t.wire t.disk s.wire s.disk offline h.audit (subst P (sym text) k.audit) calm.disk calm_too.disk same,
    )

one_offline : (tells too : Tells) (scan : Scan) (began mid began_too mid_too : Outside) (path : List ℕ) (a b : BinaryAnswer) → TellAll tells → TellAll too → scan.auditor.checks ≡ Offline → IsCalm began mid → IsCalm began_too mid_too → ReadsSame began began_too
    → IsBinary tells scan began mid path a → IsBinary too scan began_too mid_too path b → SaidAlike a b × ReadsSame mid mid_too
one_offline tells too scan began mid began_too mid_too path (answer.Audited found a) (answer.Audited also b) t s offline calm calm_too same h k = (
  audits_offline tells too scan began mid began_too mid_too path found also a b t s offline calm calm_too same h.answered k.answered,
  recalled_reads tells too scan began mid began_too mid_too path found also a b t s offline same h.answered k.answered,
)
one_offline tells too scan began mid began_too mid_too path (answer.Refused f) (answer.Refused g) t s offline calm calm_too same h k = (
  refused_same (said_at scan path) f g (exactly tells scan began mid path (answer.Refused f) t calm h) (exactly too scan began_too mid_too path (answer.Refused g) s calm_too k),
  refused_reads began mid began_too mid_too h.answered.1.moment k.answered.1.moment same,
)
one_offline tells too scan began mid began_too mid_too path (answer.Audited found a) (answer.Refused g) t s offline calm calm_too same h k =
    never_mixed (said_at scan path) found a g (exactly tells scan began mid path (answer.Audited found a) t calm h) (exactly too scan began_too mid_too path (answer.Refused g) s calm_too k)
one_offline tells too scan began mid began_too mid_too path (answer.Refused f) (answer.Audited also b) t s offline calm calm_too same h k =
    never_mixed (said_at scan path) also b f (exactly too scan began_too mid_too path (answer.Audited also b) s calm_too k) (exactly tells scan began mid path (answer.Refused f) t calm h)

pub scans_offline : (tells too : Tells) (scan : Scan) (began ended began_too ended_too : Outside) (paths : List (List ℕ)) (answers answers_too : List BinaryAnswer) → TellAll tells → TellAll too
    → scan.auditor.checks ≡ Offline → IsCalm began ended → IsCalm began_too ended_too → ReadsSame began began_too
    → AreBinaries tells scan began ended paths answers → AreBinaries too scan began_too ended_too paths answers_too → AllSaidAlike answers answers_too
scans_offline tells too scan began ended began_too ended_too [] [] [] t s offline calm calm_too same h k = tt
scans_offline tells too scan began ended began_too ended_too [] [] (b ∷ bs) t s offline calm calm_too same h k = absurd k
scans_offline tells too scan began ended began_too ended_too [] (a ∷ ones) bs t s offline calm calm_too same h k = absurd h
scans_offline tells too scan began ended began_too ended_too (p ∷ ps) [] bs t s offline calm calm_too same h k = absurd h
scans_offline tells too scan began ended began_too ended_too (p ∷ ps) (a ∷ ones) [] t s offline calm calm_too same h k = absurd k
scans_offline tells too scan began ended began_too ended_too (p ∷ ps) (a ∷ ones) (b ∷ bs) t s offline calm calm_too same h k =
    let first = one_later tells scan began h.0 p a h.1 in
    let first_too = one_later too scan began_too k.0 p b k.1 in
    let later = all_later tells scan h.0 ended ps ones h.2 in
    let later_too = all_later too scan k.0 ended_too ps bs k.2 in
    let one = one_offline tells too scan began h.0 began_too k.0 p a b t s offline (calm_first began h.0 ended first later calm) (calm_first began_too k.0 ended_too first_too later_too calm_too) same h.1 k.1 in
    (one.0, scans_offline tells too scan h.0 ended k.0 ended_too ps ones bs t s offline (calm_last began h.0 ended first later calm) (calm_last began_too k.0 ended_too first_too later_too calm_too) one.1 h.2 k.2)

-- ---- with the same answers

same_parts : (es fs xs ys : List Exchange) → length es ≡ length fs → AreAllSame (es ++ xs) (fs ++ ys) → AreAllSame es fs × AreAllSame xs ys
same_parts [] [] xs ys same h = (tt, h)
same_parts [] (f ∷ fs) xs ys same h = cc (same)
same_parts (e ∷ es) [] xs ys same h = cc (same)
same_parts (e ∷ es) (f ∷ fs) xs ys same h = let more = same_parts es fs xs ys (cc (same)) h.1 in ((h.0, more.0), more.1)

-- the exchanges of the first audit, and those after it
record HasParts (tells : Tells) (scan : Scan) (began mid ended : Outside) (added : List Exchange) (packages : List Package) : Type 0 where
  pub own : List Exchange
  pub rest : List Exchange
  pub parts : added ≡ own ++ rest
  pub follow : mid.moment.exchanges ≡ began.moment.exchanges ++ own
  pub behind : ended.moment.exchanges ≡ mid.moment.exchanges ++ rest
  pub paths : map (λ (e : Exchange). e.path) own ≡ asked_of scan.auditor.checks packages

has_parts : (tells : Tells) (scan : Scan) (began mid ended : Outside) (path : List ℕ) (found : PackagesFound) (a : Audited) (paths : List (List ℕ)) (answers : List BinaryAnswer) (added : List Exchange) → scan.auditor.checks ≡ Online → tells.wire
    → ended.moment.exchanges ≡ began.moment.exchanges ++ added → IsAudited tells scan began mid path found a → AreBinaries tells scan mid ended paths answers → HasParts tells scan began mid ended added a.lockfile
has_parts tells scan began mid ended path found a paths answers added on t follow h more =
    let one = h.audit.says.audited on t in
    let rest = all_grown tells scan mid ended paths answers on t more in
    record {
      own = one.0;
      rest = rest.0;
      parts = cancel began.moment.exchanges added (one.0 ++ rest.0) (sym follow ∙ rest.1 ∙ ap (λ (xs : List Exchange). xs ++ rest.0) one.1 ∙ append_assoc began.moment.exchanges one.0 rest.0);
      follow = one.1;
      behind = rest.1;
      paths = one.2.asked;
    }

-- what both say, and what is left for the next
record IsOneCame (scan : Scan) (mid ended mid_too ended_too : Outside) (a b : BinaryAnswer) : Type 0 where
  pub said : SaidAlike a b
  pub reads_same : ReadsSame mid mid_too
  pub rest : List Exchange
  pub rest_too : List Exchange
  pub follow : ended.moment.exchanges ≡ mid.moment.exchanges ++ rest
  pub follow_too : ended_too.moment.exchanges ≡ mid_too.moment.exchanges ++ rest_too
  pub same : AreAllSame rest rest_too

audits_came : (tells too : Tells) (scan : Scan) (began mid ended began_too mid_too ended_too : Outside) (path : List ℕ) (found also : PackagesFound) (a b : Audited) (paths : List (List ℕ)) (ones bs : List BinaryAnswer) (added added_too : List Exchange)
    → TellAll tells → TellAll too → scan.auditor.checks ≡ Online → IsCalm began mid → IsCalm began_too mid_too → ReadsSame began began_too
    → ended.moment.exchanges ≡ began.moment.exchanges ++ added → ended_too.moment.exchanges ≡ began_too.moment.exchanges ++ added_too → AreAllSame added added_too
    → IsAudited tells scan began mid path found a → IsAudited too scan began_too mid_too path also b → AreBinaries tells scan mid ended paths ones → AreBinaries too scan mid_too ended_too paths bs
    → IsOneCame scan mid ended mid_too ended_too (answer.Audited found a) (answer.Audited also b)
audits_came tells too scan began mid ended began_too mid_too ended_too path found also a b paths ones bs added added_too t s on calm calm_too same follow follow_too alike h k more more_too =
    let said = same_said tells too scan began mid began_too mid_too path found also a b t s h k in
    let text : h.text ≡ k.text = ap (λ (x : FoundText). x.text) said in
    let P : List ℕ → Type 0 = λ x. IsAuditOf scan.auditor too.wire too.disk began_too.moment mid_too.moment x b in
    let parts = has_parts tells scan began mid ended path found a paths ones added on t.wire follow h more in
    let parts_too = has_parts too scan began_too mid_too ended_too path also b paths bs added_too on s.wire follow_too k more_too in
    let one = h.audit.lockfile in
    let two = k.audit.lockfile in
    let texts = ap (λ (x : List ℕ). locked x) text in
    let lockfile : a.lockfile ≡ b.lockfile = cc (one, two, texts) in
    let asked = parts_too.paths ∙ ap (λ (x : List Package). asked_of scan.auditor.checks x) (sym lockfile) in
    let long = same_length (asked_of scan.auditor.checks a.lockfile) parts.own parts_too.own parts.paths asked in
    let Q : List Exchange → Type 0 = λ xs. AreAllSame xs added_too in
    let R : List Exchange → Type 0 = λ xs. AreAllSame (parts.own ++ parts.rest) xs in
    let split = same_parts parts.own parts_too.own parts.rest parts_too.rest long (subst R parts_too.parts (subst Q parts.parts alike)) in
    record {
      said = (
        ap (λ (x : FoundText). x.found) said,
        came_same scan.auditor tells.wire tells.disk too.wire too.disk began.moment mid.moment began_too.moment mid_too.moment h.text a b parts.own parts_too.own t.wire t.disk s.wire s.disk on h.audit (subst P (sym text) k.audit)
            calm.disk calm_too.disk parts.follow parts_too.follow split.0 same,
      );
      reads_same = came_left scan.auditor tells.wire tells.disk too.wire too.disk began.moment mid.moment began_too.moment mid_too.moment h.text k.text a b parts.own parts_too.own t.wire t.disk s.wire s.disk on h.audit k.audit
          calm.disk calm_too.disk parts.follow parts_too.follow split.0 same;
      rest = parts.rest;
      rest_too = parts_too.rest;
      follow = parts.behind;
      follow_too = parts_too.behind;
      same = split.1;
    }

one_came : (tells too : Tells) (scan : Scan) (began mid ended began_too mid_too ended_too : Outside) (path : List ℕ) (a b : BinaryAnswer) (paths : List (List ℕ)) (ones bs : List BinaryAnswer) (added added_too : List Exchange)
    → TellAll tells → TellAll too → scan.auditor.checks ≡ Online → IsCalm began mid → IsCalm began_too mid_too → ReadsSame began began_too
    → ended.moment.exchanges ≡ began.moment.exchanges ++ added → ended_too.moment.exchanges ≡ began_too.moment.exchanges ++ added_too → AreAllSame added added_too
    → IsBinary tells scan began mid path a → IsBinary too scan began_too mid_too path b → AreBinaries tells scan mid ended paths ones → AreBinaries too scan mid_too ended_too paths bs → IsOneCame scan mid ended mid_too ended_too a b
one_came tells too scan began mid ended began_too mid_too ended_too path (answer.Audited found a) (answer.Audited also b) paths ones bs added added_too t s on calm calm_too same follow follow_too alike h k more more_too =
    audits_came tells too scan began mid ended began_too mid_too ended_too path found also a b paths ones bs added added_too t s on calm calm_too same follow follow_too alike h.answered k.answered more more_too
one_came tells too scan began mid ended began_too mid_too ended_too path (answer.Refused f) (answer.Refused g) paths ones bs added added_too t s on calm calm_too same follow follow_too alike h k more more_too =
    record {
      said = refused_same (said_at scan path) f g (exactly tells scan began mid path (answer.Refused f) t calm h) (exactly too scan began_too mid_too path (answer.Refused g) s calm_too k);
      reads_same = refused_reads began mid began_too mid_too h.answered.1.moment k.answered.1.moment same;
      rest = added;
      rest_too = added_too;
      follow = follow ∙ ap (λ (m : Moment). m.exchanges ++ added) (sym h.answered.1.moment);
      follow_too = follow_too ∙ ap (λ (m : Moment). m.exchanges ++ added_too) (sym k.answered.1.moment);
      same = alike;
    }
one_came tells too scan began mid ended began_too mid_too ended_too path (answer.Audited found a) (answer.Refused g) paths ones bs added added_too t s on calm calm_too same follow follow_too alike h k more more_too =
    never_mixed (said_at scan path) found a g (exactly tells scan began mid path (answer.Audited found a) t calm h) (exactly too scan began_too mid_too path (answer.Refused g) s calm_too k)
one_came tells too scan began mid ended began_too mid_too ended_too path (answer.Refused f) (answer.Audited also b) paths ones bs added added_too t s on calm calm_too same follow follow_too alike h k more more_too =
    never_mixed (said_at scan path) also b f (exactly too scan began_too mid_too path (answer.Audited also b) s calm_too k) (exactly tells scan began mid path (answer.Refused f) t calm h)

pub scans_came : (tells too : Tells) (scan : Scan) (began ended began_too ended_too : Outside) (paths : List (List ℕ)) (answers answers_too : List BinaryAnswer) (added added_too : List Exchange) → TellAll tells → TellAll too
    → scan.auditor.checks ≡ Online → IsCalm began ended → IsCalm began_too ended_too → ReadsSame began began_too
    → ended.moment.exchanges ≡ began.moment.exchanges ++ added → ended_too.moment.exchanges ≡ began_too.moment.exchanges ++ added_too → AreAllSame added added_too
    → AreBinaries tells scan began ended paths answers → AreBinaries too scan began_too ended_too paths answers_too → AllSaidAlike answers answers_too
scans_came tells too scan began ended began_too ended_too [] [] [] added added_too t s on calm calm_too same follow follow_too alike h k = tt
scans_came tells too scan began ended began_too ended_too [] [] (b ∷ bs) added added_too t s on calm calm_too same follow follow_too alike h k = absurd k
scans_came tells too scan began ended began_too ended_too [] (a ∷ ones) bs added added_too t s on calm calm_too same follow follow_too alike h k = absurd h
scans_came tells too scan began ended began_too ended_too (p ∷ ps) [] bs added added_too t s on calm calm_too same follow follow_too alike h k = absurd h
scans_came tells too scan began ended began_too ended_too (p ∷ ps) (a ∷ ones) [] added added_too t s on calm calm_too same follow follow_too alike h k = absurd k
scans_came tells too scan began ended began_too ended_too (p ∷ ps) (a ∷ ones) (b ∷ bs) added added_too t s on calm calm_too same follow follow_too alike h k =
    let first = one_later tells scan began h.0 p a h.1 in
    let first_too = one_later too scan began_too k.0 p b k.1 in
    let later = all_later tells scan h.0 ended ps ones h.2 in
    let later_too = all_later too scan k.0 ended_too ps bs k.2 in
    let one = one_came tells too scan began h.0 ended began_too k.0 ended_too p a b ps ones bs added added_too t s on (calm_first began h.0 ended first later calm) (calm_first began_too k.0 ended_too first_too later_too calm_too)
    same follow follow_too alike h.1 k.1 h.2 k.2 in (
      one.said,
      scans_came tells too scan h.0 ended k.0 ended_too ps ones bs one.rest one.rest_too t s on (calm_last began h.0 ended first later calm) (calm_last began_too k.0 ended_too first_too later_too calm_too)
          one.reads_same one.follow one.follow_too one.same h.2 k.2,
    )
