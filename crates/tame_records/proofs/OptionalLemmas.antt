-- Six members that are read in an order are read one by one.
use Rattle.std.proofs.Common.{◌≡◌, ◌↔◌, ℕ, codes, List, Bool, Option, Some, None, option_map, refl, ap}
use Rattle.std.specs.Prelude.{option_and_then}
use Rattle.serde_json.specs.Data.{Data}
use Rattle.serde_json.specs.Find.{get}
use Rattle.tame_records.specs.Members.{Lists, flag_or_false, lists_or_null, text_or_null, u32_or_null}
use Rattle.tame_records.specs.OptionalMembers.{HasOptionalMembers}
use Rattle.tame_records.specs.Record.{optional_of}
use Rattle.tame_records.specs.declared.versions.OptionalMembers.{OptionalMembers}

-- the six, one after the other
abbrev six : Option (Option Lists) → Option Bool → Option (Option (List ℕ)) → Option (Option (List ℕ)) → Option (Option (List ℕ)) → Option (Option ℕ) → Option OptionalMembers
six a b c d e f =
    option_and_then (λ features2. option_and_then (λ yanked. option_and_then (λ links. option_and_then (λ rust_version. option_and_then (λ pubtime. option_map (λ v. record { features2 = features2; yanked = yanked; links = links; rust_version = rust_version; pubtime = pubtime; v = v }) f) e) d) c) b) a

record AreSix (a : Option (Option Lists)) (b : Option Bool) (c : Option (Option (List ℕ))) (d : Option (Option (List ℕ))) (e : Option (Option (List ℕ))) (f : Option (Option ℕ)) (o : OptionalMembers) : Type 0 where
  pub first : a ≡ Some o.features2
  pub second : b ≡ Some o.yanked
  pub third : c ≡ Some o.links
  pub fourth : d ≡ Some o.rust_version
  pub fifth : e ≡ Some o.pubtime
  pub sixth : f ≡ Some o.v

unsome : (a b : OptionalMembers) → Some a ≡ Some b → a ≡ b
unsome a b h = cc

parted : (a : Option (Option Lists)) (b : Option Bool) (c d e : Option (Option (List ℕ))) (f : Option (Option ℕ)) (o : OptionalMembers) → six a b c d e f ≡ Some o → AreSix a b c d e f o
parted None b c d e f o h = cc
parted (Some a) None c d e f o h = cc
parted (Some a) (Some b) None d e f o h = cc
parted (Some a) (Some b) (Some c) None e f o h = cc
parted (Some a) (Some b) (Some c) (Some d) None f o h = cc
parted (Some a) (Some b) (Some c) (Some d) (Some e) None o h = cc
parted (Some a) (Some b) (Some c) (Some d) (Some e) (Some f) o h =
    let is : record { features2 = a; yanked = b; links = c; rust_version = d; pubtime = e; v = f } ≡ o = unsome _ o h in record {
      first = ap (λ (m : OptionalMembers). Some m.features2) is;
      second = ap (λ (m : OptionalMembers). Some m.yanked) is;
      third = ap (λ (m : OptionalMembers). Some m.links) is;
      fourth = ap (λ (m : OptionalMembers). Some m.rust_version) is;
      fifth = ap (λ (m : OptionalMembers). Some m.pubtime) is;
      sixth = ap (λ (m : OptionalMembers). Some m.v) is;
    }

joined : (a : Option (Option Lists)) (b : Option Bool) (c d e : Option (Option (List ℕ))) (f : Option (Option ℕ)) (o : OptionalMembers) → AreSix a b c d e f o → six a b c d e f ≡ Some o
joined a b c d e f o h = rw (h.first, h.second, h.third, h.fourth, h.fifth, h.sixth) refl

pub one_by_one : (value : Data) (o : OptionalMembers) → (optional_of value ≡ Some o) ↔ HasOptionalMembers value o
one_by_one value o = (
  λ h.
      let each = parted (lists_or_null (get (codes "features2") value)) (flag_or_false (get (codes "yanked") value)) (text_or_null (get (codes "links") value)) (text_or_null (get (codes "rust_version") value)) (text_or_null (get (codes "pubtime") value)) (u32_or_null (get (codes "v") value)) o h in record {
        features2 = each.first;
        yanked = each.second;
        links = each.third;
        rust_version = each.fourth;
        pubtime = each.fifth;
        v = each.sixth;
      },
  λ h. joined (lists_or_null (get (codes "features2") value)) (flag_or_false (get (codes "yanked") value)) (text_or_null (get (codes "links") value)) (text_or_null (get (codes "rust_version") value)) (text_or_null (get (codes "pubtime") value)) (u32_or_null (get (codes "v") value)) o (record {
    first = h.features2;
    second = h.yanked;
    third = h.links;
    fourth = h.rust_version;
    fifth = h.pubtime;
    sixth = h.v;
  }),
)
