use Rattle.std.proofs.Common.{◌≡◌, suc, ◌+◌, List, ◌∷◌, drop, map, Bool, true, false, cond, Option, Some, refl, sym, ap, ◌∙◌, arith, drop-cons, string_bytes}
use Rattle.std.specs.BTreeMap.{get_by_text}
use Rattle.std.specs.Str.{bytes_eq}
use Rattle.std.proofs.lemmas.Map.Text.{btree_map_updates_text}
use Rattle.tame_records.specs.Record.{version_flag}
use Rattle.tame_records.specs.declared.versions.IndexVersion.{IndexVersion}
use Rattle.tame_records.specs.declared.versions.VersionFlag.{VersionFlag}
use Rattle.tame_entry.specs.VersionStatuses.{flags_of_version, last_from}
use Rattle.upgrade_plan.proofs.offers.last_flags.Goals as goal

last_case : (b : Bool) (o : Option Bool) (h : VersionFlag) (hs : List VersionFlag)
    → last_from o (map (λ (x : VersionFlag). x.yanked) (cond b (h ∷ hs) hs)) ≡ last_from (cond b (Some h.yanked) o) (map (λ (x : VersionFlag). x.yanked) hs)
last_case true o h hs = refl
last_case false o h hs = refl

pub loop-version-preserved : goal.loop-version-preserved
loop-version-preserved c =
    let versions = c.args.versions.now in
    let i = c.loop-version.version-index in
    let v = c.version-item.result in
    let old = c.loop-version.flags in
    let next : suc i ≡ i + 1 = omega arith in
    let left : drop i versions ≡ v ∷ drop (i + 1) versions =
    drop-cons versions i v c.loop-version-test.true ∙ ap (λ (x : IndexVersion). x ∷ drop (suc i) versions) (sym c.version-item.is) ∙ ap (λ n. v ∷ drop n versions) next in
    let key : string_bytes c.in_ok-text.text ≡ v.version = c.in_ok-text.ensures.ok ∙ c.as_str.ensures in
    λ text.
    let after : get_by_text c.insert.new.self text ≡ cond (bytes_eq v.version text) (Some v.yanked) (get_by_text old text) =
    rw key at (btree_map_updates_text (string_bytes c.in_ok-text.text) old c.insert.new.self _ c.in_ok-insert.ensures.updates text) in
    c.loop-version.invariant text
    ∙ ap (λ (vs : List IndexVersion). last_from (get_by_text old text) (flags_of_version text (map version_flag vs))) left
    ∙ last_case (bytes_eq v.version text) (get_by_text old text) (version_flag v) _
    ∙ ap (λ (o : Option Bool). last_from o (flags_of_version text (map version_flag (drop (i + 1) versions)))) (sym after)
