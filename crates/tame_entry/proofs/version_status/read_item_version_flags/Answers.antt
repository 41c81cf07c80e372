use Rattle.std.proofs.Common.{◌≡◌, ◌∷◌, [], ◌++◌, List, Option, Some, None, option_map, map, append_assoc, ap, sym, ◌∙◌, refl}
use Rattle.std.specs.Prelude.{option_and_then}
use Rattle.tame_records.specs.Record.{version_flag, record_of}
use Rattle.tame_records.specs.declared.versions.IndexVersion.{IndexVersion}
use Rattle.tame_records.specs.declared.versions.VersionFlag.{VersionFlag}
use Rattle.tame_entry.specs.Krates.{Item, item_of}
use Rattle.tame_entry.specs.VersionStatuses.{version_flags}
use Rattle.tame_entry.proofs.Ahead.{before}
use Rattle.tame_entry.proofs.version_status.read_item_version_flags.Goals as goal

before_more : (xs : List VersionFlag) (x : VersionFlag) (o : Option (List VersionFlag)) → before xs (option_map (λ ys. x ∷ ys) o) ≡ before (xs ++ x ∷ []) o
before_more xs x None = refl
before_more xs x (Some ys) = ap Some (sym (append_assoc xs (x ∷ []) ys))

inner : (a b : VersionFlag) → Some a ≡ Some b → a ≡ b
inner a b h = cc

by_head : (o : Option IndexVersion) (h : VersionFlag) (rest : Option (List VersionFlag)) → option_map version_flag o ≡ Some h → option_and_then (λ r. option_map (λ hs. version_flag r ∷ hs) rest) o ≡ option_map (λ hs. h ∷ hs) rest
by_head None h rest e = absurd (cc)
by_head (Some r) h rest e = ap (λ (x : VersionFlag). option_map (λ hs. x ∷ hs) rest) (inner (version_flag r) h e)

pub loop-item-preserved : goal.loop-item-preserved
loop-item-preserved c =
    let left : c.loop-item.item-iterator ≡ item_of c.in-Some.item ∷ c.next.new.self = c.in-Some.ensures.steps in
    let line : option_map version_flag (record_of c.in-Some.item.json.now) ≡ Some c.in-Some-2.flag = sym c.in_ok-flag.ensures ∙ c.in-Some-2.is in
    let rest = version_flags (map (λ (i : Item). i.1) c.next.new.self) in
    c.loop-item.invariant
    ∙ ap (λ (s : List Item). before c.loop-item.flags (version_flags (map (λ (i : Item). i.1) s))) left
    ∙ ap (λ (o : Option (List VersionFlag)). before c.loop-item.flags o) (by_head (record_of c.in-Some.item.json.now) c.in-Some-2.flag rest line)
    ∙ before_more c.loop-item.flags c.in-Some-2.flag rest
    ∙ ap (λ (hs : List VersionFlag). before hs rest) (sym c.in_ok-add-in-Some-2.ensures.ok)
