-- What the lines count.
use Rattle.std.proofs.Common.{◌≡◌, ℕ, Bool, true, cond, List, [], ◌∷◌, ◌++◌, length, map, codes, IsTrue, ◌↔◌, refl, sym, ap, ◌∙◌, arith}
use Rattle.std.specs.List.{range_with_len}
use Rattle.std.proofs.lemmas.List.FromFn.{length-range_with_len}
use Rattle.std.proofs.lemmas.List.Sums.{sum_by-append, sum_by-cons}
use Rattle.tame_sparse.specs.Serving.{answered, is_answered}
use Rattle.tame_sparse.specs.declared.network.Exchange.{Exchange}
use Rattle.audit_core.specs.Auditors.{audit_report}
use Rattle.audit_core.specs.declared.auditors.Auditor.{Auditor}
use Rattle.audit_core.specs.declared.verdicts.Judged.{Judged}
use Rattle.audit_advisory.specs.declared.reports.Report.{Report}
use Rattle.audit_generator.specs.Packages.{packages}
use Rattle.audit_generator.specs.Moments.{IsGenerated, auditor_for}
use Rattle.audit_generator.specs.Outcomes.{SaysOf, confirmed, exchanges_of, sent, verdicts_of}
use Rattle.audit_generator.specs.Summaries.{AreLinesOver, lines_of, number_line, same_line, summary_by, summary_for, yanked_count}
use Rattle.audit_generator.specs.declared.generating.Generated.{Generated}

abbrev counted : ℕ → Exchange → ℕ
counted status e = cond (is_answered status e) 1 0

all_counted : (status : ℕ) (make : ℕ → Exchange) → ((k : ℕ) → counted status (make k) ≡ 1) → (ks : List ℕ) → answered status (map make ks) ≡ length ks
all_counted status make each [] = refl
all_counted status make each (k ∷ ks) =
    let here = sum_by-cons (counted status) (make k) (map make ks) in
    let more = all_counted status make each ks in
    here ∙ omega (arith, each k, more)

none_counted : (status : ℕ) (make : ℕ → Exchange) → ((k : ℕ) → counted status (make k) ≡ 0) → (ks : List ℕ) → answered status (map make ks) ≡ 0
none_counted status make each [] = refl
none_counted status make each (k ∷ ks) =
    let here = sum_by-cons (counted status) (make k) (map make ks) in
    let more = none_counted status make each ks in
    here ∙ omega (arith, each k, more)

-- each file was sent once, and confirmed once
pub sent_count : (n : ℕ) → answered 200 (exchanges_of n) ≡ n
sent_count n =
    let ks = range_with_len 0 n in
    let parts = sum_by-append (counted 200) (map sent ks) (map confirmed ks) in
    let one = all_counted 200 sent (λ k. refl) ks in
    let two = none_counted 200 confirmed (λ k. refl) ks in
    parts ∙ omega (arith, one, two, length-range_with_len 0 n)

pub confirmed_count : (n : ℕ) → answered 304 (exchanges_of n) ≡ n
confirmed_count n =
    let ks = range_with_len 0 n in
    let parts = sum_by-append (counted 304) (map sent ks) (map confirmed ks) in
    let one = none_counted 304 sent (λ k. refl) ks in
    let two = all_counted 304 confirmed (λ k. refl) ks in
    parts ∙ omega (arith, one, two, length-range_with_len 0 n)

same_true : (same : Bool) (a b : List Judged) → (a ≡ b → same ≡ true) → (c : List Judged) → a ≡ c → b ≡ c → same ≡ true
same_true same a b if_equal c one two = if_equal (one ∙ sym two)

-- the lines of two audits of n packages by an auditor
pub summed : (n : ℕ) (auditor : Auditor) (g : Generated) (same : Bool) → (g.first.verdicts ≡ g.second.verdicts → same ≡ true) → g.wire.exchanges ≡ exchanges_of n → SaysOf n auditor g.first → SaysOf n auditor g.second
    → lines_of n g.second.report.advisory_count (length g.second.report.vulnerabilities) (yanked_count g.second.verdicts) (answered 200 g.wire.exchanges) (answered 304 g.wire.exchanges) same g.second.exit
    ≡ summary_by n auditor
summed n auditor g same if_equal exchanges first second =
    let cold : answered 200 g.wire.exchanges ≡ n = ap (answered 200) exchanges ∙ sent_count n in
    let warm : answered 304 g.wire.exchanges ≡ n = ap (answered 304) exchanges ∙ confirmed_count n in
    let alike : same ≡ true = same_true same g.first.verdicts g.second.verdicts if_equal (verdicts_of n) first.verdicts second.verdicts in
    let r = audit_report auditor (packages n) (verdicts_of n) in
    ap (λ (x : Report). lines_of n x.advisory_count (length x.vulnerabilities) (yanked_count g.second.verdicts) (answered 200 g.wire.exchanges) (answered 304 g.wire.exchanges) same g.second.exit) second.report
    ∙ ap (λ (js : List Judged). lines_of n r.advisory_count (length r.vulnerabilities) (yanked_count js) (answered 200 g.wire.exchanges) (answered 304 g.wire.exchanges) same g.second.exit) second.verdicts
    ∙ ap (λ (x : ℕ). lines_of n r.advisory_count (length r.vulnerabilities) (yanked_count (verdicts_of n)) x (answered 304 g.wire.exchanges) same g.second.exit) cold
    ∙ ap (λ (x : ℕ). lines_of n r.advisory_count (length r.vulnerabilities) (yanked_count (verdicts_of n)) n x same g.second.exit) warm
    ∙ ap (λ (b : Bool). lines_of n r.advisory_count (length r.vulnerabilities) (yanked_count (verdicts_of n)) n n b g.second.exit) alike
    ∙ ap (λ (x : ℕ). lines_of n r.advisory_count (length r.vulnerabilities) (yanked_count (verdicts_of n)) n n true x) second.exit

-- a text built from these numbers is the lines over the audits
pub lines_over : (t text : List ℕ) (n vulnerabilities yanked cold warm : ℕ) (same : Bool) (g : Generated)
    → t ≡ text ++ number_line (codes "yanked") yanked ++ number_line (codes "cold") cold ++ number_line (codes "warm") warm ++ same_line same ++ number_line (codes "exit") g.second.exit
    → text ≡ number_line (codes "packages") n ++ number_line (codes "advisories") g.second.report.advisory_count ++ number_line (codes "vulnerabilities") vulnerabilities
    → vulnerabilities ≡ length g.second.report.vulnerabilities → yanked ≡ yanked_count g.second.verdicts → cold ≡ answered 200 g.wire.exchanges → warm ≡ answered 304 g.wire.exchanges
    → IsTrue same ↔ (g.first.verdicts ≡ g.second.verdicts) → AreLinesOver n g t
lines_over t text n vulnerabilities yanked cold warm same g made front v y c w compared =
    record {
      same = same;
      compared = compared;
      lines =
          made
          ∙ ap (λ (x : List ℕ). x ++ number_line (codes "yanked") yanked ++ number_line (codes "cold") cold ++ number_line (codes "warm") warm ++ same_line same ++ number_line (codes "exit") g.second.exit) front
          ∙ ap (λ (x : ℕ). lines_of n g.second.report.advisory_count x yanked cold warm same g.second.exit) v
          ∙ ap (λ (x : ℕ). lines_of n g.second.report.advisory_count (length g.second.report.vulnerabilities) x cold warm same g.second.exit) y
          ∙ ap (λ (x : ℕ). lines_of n g.second.report.advisory_count (length g.second.report.vulnerabilities) (yanked_count g.second.verdicts) x warm same g.second.exit) c
          ∙ ap (λ (x : ℕ). lines_of n g.second.report.advisory_count (length g.second.report.vulnerabilities) (yanked_count g.second.verdicts) (answered 200 g.wire.exchanges) x same g.second.exit) w;
    }

-- the lines over two audits of n packages are those for n
pub summed_for : (n : ℕ) (g : Generated) (t : List ℕ) → IsGenerated n g → AreLinesOver n g t → t ≡ summary_for n
summed_for n g t is over = over.lines ∙ summed n (auditor_for n) g over.same over.compared.1 is.exchanges is.first is.second
