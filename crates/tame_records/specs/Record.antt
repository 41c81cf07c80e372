-- The record of a line of the index (Cargo Book, "Registry Index", JSON schema).
use Rattle.std.specs.Prelude.{ℕ, codes, List, [], replicate, false, Option, Some, None, option_map, option_and_then, if◌then◌else◌}
use Rattle.std.specs.Result.{result_ok}
use Rattle.tame_names.specs.Utf8.{utf8_text}
use Rattle.serde_json.specs.Data.{Data}
use Rattle.serde_json.specs.Read.{read}
use Rattle.serde_json.specs.Find.{get, as_str}
use Rattle.serde_json.specs.Written.{has_float}
use Rattle.tame_records.specs.Checksums.{chksum_of}
use Rattle.tame_records.specs.Dependencies.{dependencies_at}
use Rattle.tame_records.specs.Members.{text_at, text_or_null, flag_or_false, u32_or_null, lists_at, lists_or_null}
use Rattle.tame_records.specs.declared.checksums.Chksum.{Chksum}
use Rattle.tame_records.specs.declared.versions.IndexVersion.{IndexVersion}
use Rattle.tame_records.specs.declared.versions.OptionalMembers.{OptionalMembers}
use Rattle.tame_records.specs.declared.versions.VersionFlag.{VersionFlag}

-- a required string that is the hex form of a digest
abbrev pub chksum_of_data : Option Data → Option Chksum
chksum_of_data d = option_and_then (λ text. result_ok (chksum_of text)) (option_and_then as_str d)

-- the members that a version may leave out
abbrev pub optional_of : Data → Option OptionalMembers
optional_of d =
    option_and_then
    (λ features2. option_and_then
    (λ yanked. option_and_then
    (λ links. option_and_then (λ rust_version. option_and_then (λ pubtime. option_map (λ v.
    record {
      features2 = features2;
      yanked = yanked;
      links = links;
      rust_version = rust_version;
      pubtime = pubtime;
      v = v;
    })
    (u32_or_null (get (codes "v") d)))
    (text_or_null (get (codes "pubtime") d)))
    (text_or_null (get (codes "rust_version") d)))
    (text_or_null (get (codes "links") d)))
    (flag_or_false (get (codes "yanked") d)))
    (lists_or_null (get (codes "features2") d))

-- the record that an object is, member by member
abbrev pub record_of_data : Data → Option IndexVersion
record_of_data d =
    option_and_then (λ name. option_and_then
    (λ version. option_and_then
    (λ deps. option_and_then (λ checksum. option_and_then (λ features. option_map (λ more.
    record {
      name = name;
      version = version;
      deps = deps;
      checksum = checksum;
      yanked = more.yanked;
      links = more.links;
      rust_version = more.rust_version;
      pubtime = more.pubtime;
      features = features;
      features2 = more.features2;
      v = more.v;
    })
    (optional_of d))
    (lists_at (codes "features") d))
    (chksum_of_data (get (codes "cksum") d)))
    (dependencies_at (codes "deps") d))
    (text_at (codes "vers") d))
    (text_at (codes "name") d)

abbrev pub unless_float : Data → Option Data
unless_float d = if has_float d then None else Some d

-- the value that a line is: UTF-8, JSON, of equal keys the last, and no float anywhere
abbrev pub value_of : List ℕ → Option Data
value_of line = option_and_then unless_float (option_and_then read (utf8_text line))

-- the record of a line; any other line has none
abbrev pub record_of : List ℕ → Option IndexVersion
record_of line = option_and_then record_of_data (value_of line)

-- the version's text and the yanked flag of a record
abbrev pub version_flag : IndexVersion → VersionFlag
version_flag r = record { version = r.version; yanked = r.yanked }

-- a version with this name and version's text, and nothing else
abbrev pub fake : List ℕ → List ℕ → IndexVersion
fake name version = record {
  name = name;
  version = version;
  deps = [];
  checksum = record { 0 = replicate 32 0 };
  yanked = false;
  links = None;
  rust_version = None;
  pubtime = None;
  features = [];
  features2 = None;
  v = None;
}
