-- What is read as a finding is the array of its five texts, and nothing else is.
use Rattle.std.proofs.Common.{◌≡◌, ℕ, List, Bool, true, false, cond, Option, Some, None, option_and_then, option_map, is_some, bytes_eq, refl, sym, ap, ◌∙◌, subst}
use Rattle.std.specs.Prelude.{codes}
use Rattle.std.proofs.lemmas.Slice.Eq.{bytes_eq-Decides}
use Rattle.serde_json.specs.Data.{Data, null, boolean, number, string, array, object, item, no_items}
use Rattle.serde_json.specs.Find.{as_str, at}
use Rattle.serde_json.specs.Read.{read}
use Rattle.known_findings.specs.Findings.{finding_of, finding_of_data, kind_of, kind_word, text_at}
use Rattle.known_findings.specs.Laws.{array_value}
use Rattle.known_findings.specs.declared.findings.Finding.{Finding}
use Rattle.known_findings.specs.declared.findings.FindingKind.{FindingKind}
use Rattle.known_findings.specs.declared.findings.FindingKind.TheVariants as kind
use Rattle.known_findings.proofs.RoundTrip.{word_back}
use Rattle.known_findings.proofs.Same.{inside_some}

-- ---- parts of what has an answer

stepped : {A B : Type 0} (f : A → Option B) (o : Option A) (b : B) → option_and_then f o ≡ Some b
    → (a : A) × (o ≡ Some a) × (f a ≡ Some b)
stepped f None b h = cc
stepped f (Some a) b h = (a, refl, h)

mapped : {A B : Type 0} (f : A → B) (o : Option A) (b : B) → option_map f o ≡ Some b
    → (a : A) × (o ≡ Some a) × (f a ≡ b)
mapped f None b h = cc
mapped f (Some a) b h = (a, refl, inside_some (f a) b h)

string_is : (d : Data) (s : List ℕ) → as_str d ≡ Some s → d ≡ string s
string_is null s h = cc
string_is (boolean b) s h = cc
string_is (number n) s h = cc
string_is (string t) s h = ap string (inside_some t s h)
string_is (array ds) s h = cc
string_is (object ms) s h = cc

there : (d : Data) (i : ℕ) (s : List ℕ) → text_at i d ≡ Some s → at i d ≡ Some (string s)
there d i s h =
    let a = stepped as_str (at i d) s h in
    a.1 ∙ ap Some (string_is a.0 s a.2)

-- ---- words

word_is : (w : List ℕ) (k : FindingKind) → kind_of w ≡ Some k → w ≡ kind_word k
word_is w k h =
    go (bytes_eq w (codes "vulnerability")) (bytes_eq w (codes "notice")) (bytes_eq w (codes "unmaintained"))
    (bytes_eq w (codes "unsound")) (bytes_eq w (codes "yanked")) refl refl refl refl refl h
  where
    go : (a b c d e : Bool) → bytes_eq w (codes "vulnerability") ≡ a → bytes_eq w (codes "notice") ≡ b
        → bytes_eq w (codes "unmaintained") ≡ c → bytes_eq w (codes "unsound") ≡ d → bytes_eq w (codes "yanked") ≡ e
        → cond a (Some kind.Vulnerability) (cond b (Some kind.Notice) (cond c (Some kind.Unmaintained)
        (cond d (Some kind.Unsound) (cond e (Some kind.Yanked) None)))) ≡ Some k → w ≡ kind_word k
    go true b c d e p q r s t h =
        (bytes_eq-Decides w (codes "vulnerability")).0 p ∙ ap kind_word (inside_some kind.Vulnerability k h)
    go false true c d e p q r s t h =
        (bytes_eq-Decides w (codes "notice")).0 q ∙ ap kind_word (inside_some kind.Notice k h)
    go false false true d e p q r s t h =
        (bytes_eq-Decides w (codes "unmaintained")).0 r ∙ ap kind_word (inside_some kind.Unmaintained k h)
    go false false false true e p q r s t h =
        (bytes_eq-Decides w (codes "unsound")).0 s ∙ ap kind_word (inside_some kind.Unsound k h)
    go false false false false true p q r s t h =
        (bytes_eq-Decides w (codes "yanked")).0 t ∙ ap kind_word (inside_some kind.Yanked k h)
    go false false false false false p q r s t h = cc

-- ---- arrays of five items

five : (d a b c e g : Data) → at 0 d ≡ Some a → at 1 d ≡ Some b → at 2 d ≡ Some c → at 3 d ≡ Some e → at 4 d ≡ Some g
    → is_some (at 5 d) ≡ false → d ≡ array (item a (item b (item c (item e (item g no_items)))))
five null a b c e g h0 h1 h2 h3 h4 h5 = cc
five (boolean x) a b c e g h0 h1 h2 h3 h4 h5 = cc
five (number x) a b c e g h0 h1 h2 h3 h4 h5 = cc
five (string x) a b c e g h0 h1 h2 h3 h4 h5 = cc
five (object x) a b c e g h0 h1 h2 h3 h4 h5 = cc
five (array no_items) a b c e g h0 h1 h2 h3 h4 h5 = cc
five (array (item v no_items)) a b c e g h0 h1 h2 h3 h4 h5 = cc
five (array (item v (item w no_items))) a b c e g h0 h1 h2 h3 h4 h5 = cc
five (array (item v (item w (item x no_items)))) a b c e g h0 h1 h2 h3 h4 h5 = cc
five (array (item v (item w (item x (item y no_items))))) a b c e g h0 h1 h2 h3 h4 h5 = cc
five (array (item v (item w (item x (item y (item z no_items)))))) a b c e g h0 h1 h2 h3 h4 h5 = cc
five (array (item v (item w (item x (item y (item z (item more ds))))))) a b c e g h0 h1 h2 h3 h4 h5 = cc

-- ---- findings

abbrev made : FindingKind → List ℕ → List ℕ → List ℕ → List ℕ → Finding
made k i n v s = record { kind = k; id = i; name = n; version = v; source = s }

-- the five texts of an array without a sixth item
abbrev texts_of : Data → Option Finding
texts_of d =
    option_and_then (λ k. option_and_then (λ id. option_and_then (λ name. option_and_then (λ version. option_map
    (λ source. made k id name version source)
    (text_at 4 d)) (text_at 3 d)) (text_at 2 d)) (text_at 1 d))
    (option_and_then kind_of (text_at 0 d))

from_texts : (d : Data) (f : Finding) → is_some (at 5 d) ≡ false → texts_of d ≡ Some f → d ≡ array_value f
from_texts d f last h =
    let k = stepped _ (option_and_then kind_of (text_at 0 d)) f h in
    let w = stepped kind_of (text_at 0 d) k.0 k.1 in
    let i = stepped _ (text_at 1 d) f k.2 in
    let n = stepped _ (text_at 2 d) f i.2 in
    let v = stepped _ (text_at 3 d) f n.2 in
    let s = mapped (λ source. made k.0 i.0 n.0 v.0 source) (text_at 4 d) f v.2 in
    let word : at 0 d ≡ Some (string (kind_word k.0)) =
    there d 0 w.0 w.1 ∙ ap (λ x. Some (string x)) (word_is w.0 k.0 w.2) in
    five d _ _ _ _ _ word (there d 1 i.0 i.1) (there d 2 n.0 n.1) (there d 3 v.0 v.1) (there d 4 s.0 s.1) last
    ∙ ap array_value s.2

from_data : (d : Data) (f : Finding) → finding_of_data d ≡ Some f → d ≡ array_value f
from_data d f h = go (is_some (at 5 d)) refl h
  where
    go : (b : Bool) → is_some (at 5 d) ≡ b → cond b None (texts_of d) ≡ Some f → d ≡ array_value f
    go true e k = cc
    go false e k = from_texts d f e k

pub from_line : (text : List ℕ) (f : Finding) → finding_of text ≡ Some f → read text ≡ Some (array_value f)
from_line text f h =
    let d = stepped finding_of_data (read text) f h in
    d.1 ∙ ap Some (from_data d.0 f d.2)

pub to_line : (text : List ℕ) (f : Finding) → read text ≡ Some (array_value f) → finding_of text ≡ Some f
to_line text f h = ap (option_and_then finding_of_data) h ∙ rw (word_back f.kind) refl
