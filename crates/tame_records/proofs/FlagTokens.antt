-- Values over tokens, joined, and a whole text that one of them is.
use Rattle.std.proofs.Common.{◌≡◌, ℕ, suc, ◌≤◌, List, [], ◌∷◌, ◌++◌, Bool, false, Option, Some, option_map, option_and_then, refl, sym, ap, ◌∙◌, arith, append_assoc}
use Rattle.std.proofs.lemmas.Bool.{and_from}
use Rattle.json.specs.Token.{Token}
use Rattle.json.specs.Lex.{tokens}
use Rattle.json.specs.Json as json
use Rattle.json.specs.Tree.{json_tokens, items_tokens, members_tokens}
use Rattle.json.proofs.Printed.Trees.{value-json_tokens}
use Rattle.serde_json.specs.Data.{Num, Data, null, boolean, number, string, array, object, Items, no_items, item, Members, no_members, put}
use Rattle.serde_json.specs.Find.{is_float}
use Rattle.serde_json.specs.Read.{number_of, of_json, read}
use Rattle.serde_json.specs.Written.{members_have_float}
use Rattle.tame_records.specs.VersionFlags.{AreItems, AreMembers, IsValue, Takes, TakesItems, all_items}

pub text_taken : (old new : List Token) (s : List ℕ) → old ≡ Token.string s ∷ new → IsValue 0 old (string s) new
text_taken old new s e = record { value = json.string s; tokens = e; reads = refl; shallow = omega arith; whole = refl }

pub flag_taken : (old new : List Token) (b : Bool) → old ≡ Token.boolean b ∷ new → IsValue 0 old (boolean b) new
flag_taken old new b e = record { value = json.boolean b; tokens = e; reads = refl; shallow = omega arith; whole = refl }

pub null_taken : (old new : List Token) → old ≡ Token.null ∷ new → IsValue 0 old null new
null_taken old new e = record { value = json.null; tokens = e; reads = refl; shallow = omega arith; whole = refl }

pub number_taken : (old new : List Token) (s : List ℕ) (x : Num) → old ≡ Token.number s ∷ new → number_of s ≡ Some x → is_float x ≡ false → IsValue 0 old (number x) new
number_taken old new s x e is whole = record { value = json.number s; tokens = e; reads = ap (option_map number) is; shallow = omega arith; whole = whole }

pub deeper : (m n : ℕ) (old new : List Token) (d : Data) → m ≤ n → IsValue m old d new → IsValue n old d new
deeper m n old new d le v = record { value = v.value; tokens = v.tokens; reads = v.reads; shallow = omega arith; whole = v.whole }

pub items_end : (n : ℕ) (old new : List Token) → old ≡ Token.end_array ∷ new → AreItems n old no_items new
items_end n old new e = record { values = json.no_items; tokens = e; reads = refl; shallow = omega arith; whole = refl }

pub items_more : (n : ℕ) (old mid new : List Token) (d : Data) (ds : Items) → IsValue n old d mid → AreItems n mid ds new → AreItems n old (item d ds) new
items_more n old mid new d ds v rest = record {
  values = json.item v.value rest.values;
  tokens = v.tokens ∙ ap (λ (ts : List Token). json_tokens v.value ++ ts) rest.tokens ∙ sym (append_assoc (json_tokens v.value) (items_tokens rest.values) new);
  reads = rw (v.reads, rest.reads) refl;
  shallow = omega arith;
  whole = rw v.whole rest.whole;
}

pub array_taken : (n : ℕ) (old mid new : List Token) (ds : Items) → old ≡ Token.begin_array ∷ mid → AreItems n mid ds new → IsValue (suc n) old (array ds) new
array_taken n old mid new ds e rest = record {
  value = json.array rest.values;
  tokens = e ∙ ap (λ (ts : List Token). Token.begin_array ∷ ts) rest.tokens;
  reads = ap (option_map array) rest.reads;
  shallow = omega arith;
  whole = rest.whole;
}

pub members_end : (n : ℕ) (old new : List Token) (found : Members) → old ≡ Token.end_object ∷ new → AreMembers n old found found new
members_end n old new found e = record { values = json.no_members; tokens = e; reads = refl; shallow = omega arith }

pub members_more : (n : ℕ) (old s mid new : List Token) (k : List ℕ) (d : Data) (found ms : Members) → old ≡ Token.key k ∷ s → IsValue n s d mid → AreMembers n mid (put k d found) ms new → AreMembers n old found ms new
members_more n old s mid new k d found ms e v rest = record {
  values = json.member k v.value rest.values;
  tokens = e ∙ ap (λ (ts : List Token). Token.key k ∷ ts) (v.tokens ∙ ap (λ (ts : List Token). json_tokens v.value ++ ts) rest.tokens ∙ sym (append_assoc (json_tokens v.value) (members_tokens rest.values) new));
  reads = rw v.reads rest.reads;
  shallow = omega arith;
}

pub object_taken : (n : ℕ) (old mid new : List Token) (ms : Members) → old ≡ Token.begin_object ∷ mid → AreMembers n mid no_members ms new → members_have_float ms ≡ false → IsValue (suc n) old (object ms) new
object_taken n old mid new ms e rest whole = record {
  value = json.object rest.values;
  tokens = e ∙ ap (λ (ts : List Token). Token.begin_object ∷ ts) rest.tokens;
  reads = ap (option_map object) rest.reads;
  shallow = omega arith;
  whole = whole;
}

-- what is left decides, item by item
pub item_of_form : (n : ℕ) (form : Data → Bool) (old mid new : List Token) → Takes n form old mid → TakesItems n form mid new → TakesItems n form old new
item_of_form n form old mid new v rest = (item v.0 rest.0, items_more n old mid new v.0 rest.0 v.1 rest.1, and_from (form v.0) (all_items form rest.0) v.2 rest.2)

pub no_item_of_form : (n : ℕ) (form : Data → Bool) (old new : List Token) → old ≡ Token.end_array ∷ new → TakesItems n form old new
no_item_of_form n form old new e = (no_items, items_end n old new e, refl)

-- the value that a whole text is
pub text_read : (text : List ℕ) (d : Data) (n : ℕ) → n ≤ 127 → IsValue n (tokens text) d [] → read text ≡ Some d
text_read text d n le v =
    let whole : json.value 127 (tokens text) ≡ Some (v.value, []) = ap (json.value 127) v.tokens ∙ value-json_tokens v.value 127 [] (omega arith) in
    ap (λ (o : Option (json.Json × List Token)). option_and_then of_json (option_and_then (λ p. json.if_last p.0 p.1) o)) whole ∙ v.reads
