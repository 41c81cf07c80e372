use Rattle.std.proofs.Common.{sym, ap, arith}
use Rattle.serde_json.specs.Data.{Data, string, boolean}
use Rattle.tame_records.specs.Quick.{seen_of}
use Rattle.tame_records.specs.VersionFlags.{Seen, version_key_fits, with_version_key}
use Rattle.tame_records.specs.declared.keys.VersionKey.{VersionKey}
use Rattle.tame_records.proofs.QuickLex.{text_at, deeper_at}
use Rattle.tame_records.proofs.quick_version_flags.member_end.Goals as goal

pub returns-in_ok-text-in-Version-clause-value : goal.returns-in_ok-text-in-Version-clause-value
returns-in_ok-text-in-Version-clause-value c =
    let s = c.in_ok-text-in-Version in
    let d : Data = string s.text.now in
    let seen : Seen = seen_of c.args.seen.now in
    (d, deeper_at c.args.bytes.now c.args.at 0 3 s.end d (omega arith) (text_at c.args.bytes.now c.args.at s.end s.text.now s.ensures.value), ap (λ (k : VersionKey). version_key_fits k d) c.in-Version.is, sym (ap (λ (k : VersionKey). with_version_key k d seen) c.in-Version.is))

pub returns-in_ok-flag-in-Yanked-clause-value : goal.returns-in_ok-flag-in-Yanked-clause-value
returns-in_ok-flag-in-Yanked-clause-value c =
    let s = c.in_ok-flag-in-Yanked in
    let d : Data = boolean s.flag in
    let seen : Seen = seen_of c.args.seen.now in
    (d, deeper_at c.args.bytes.now c.args.at 0 3 s.end d (omega arith) s.ensures.value, ap (λ (k : VersionKey). version_key_fits k d) c.in-Yanked.is, sym (ap (λ (k : VersionKey). with_version_key k d seen) c.in-Yanked.is))
