-- The members that a version may leave out, each by itself (Cargo Book, "Registry Index", JSON
-- schema).
use Rattle.std.specs.Prelude.{◌≡◌, codes, Some}
use Rattle.serde_json.specs.Data.{Data}
use Rattle.serde_json.specs.Find.{get}
use Rattle.tame_records.specs.Members.{flag_or_false, lists_or_null, text_or_null, u32_or_null}
use Rattle.tame_records.specs.declared.versions.OptionalMembers.{OptionalMembers}

-- each member is left out or has its form, and is what the field says
pub record HasOptionalMembers (value : Data) (o : OptionalMembers) : Type 0 where
  pub features2 : lists_or_null (get (codes "features2") value) ≡ Some o.features2
  pub yanked : flag_or_false (get (codes "yanked") value) ≡ Some o.yanked
  pub links : text_or_null (get (codes "links") value) ≡ Some o.links
  pub rust_version : text_or_null (get (codes "rust_version") value) ≡ Some o.rust_version
  pub pubtime : text_or_null (get (codes "pubtime") value) ≡ Some o.pubtime
  pub v : u32_or_null (get (codes "v") value) ≡ Some o.v
