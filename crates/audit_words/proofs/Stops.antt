-- The reading ends at the word that ends it, or when the words end.
use Rattle.std.proofs.Common.{◌≡◌, ℕ, suc, ◌+◌, List, [], ◌∷◌, ◌++◌, length, Result, Ok, Err, sym, ap, ◌∙◌, append-nil, arith}
use Rattle.audit_words.specs.Reading.{and_then, command_of, ended, finish, read_from, read_word, start, unless_ended}
use Rattle.audit_words.specs.Laws.{drafted}
use Rattle.audit_words.specs.declared.drafts.Draft.{Draft}
use Rattle.audit_words.specs.declared.drafts.Stop.{Stop}

front_step : (i : ℕ) (front words : List (List ℕ)) (r : Result Draft Stop) (e : Draft)
    → ((d : Draft) → drafted front d ≡ Ok e → read_from (suc i) (front ++ words) d ≡ read_from (suc i + length front) words e)
    → and_then (drafted front) r ≡ Ok e → unless_ended i (read_from (suc i) (front ++ words)) r ≡ read_from (suc i + length front) words e
front_step i front words (Ok d) e more h = more d h
front_step i front words (Err s) e more h = cc

-- after words that make a draft, the reading goes on with it
read_front : (i : ℕ) (front words : List (List ℕ)) (d e : Draft) → drafted front d ≡ Ok e → read_from i (front ++ words) d ≡ read_from (i + length front) words e
read_front i [] words d e h =
    let same : d ≡ e = cc in
    let k : i ≡ i + 0 = omega arith in
    ap (read_from i words) same ∙ ap (λ n. read_from n words e) k
read_front i (w ∷ front) words d e h =
    let k : suc i + length front ≡ i + suc (length front) = omega arith in
    front_step i front words (read_word w d) e (λ x. read_front (suc i) front words x e) h ∙ ap (λ n. read_from n words e) k

from_start : (front words : List (List ℕ)) (d : Draft) → drafted front start ≡ Ok d → command_of (front ++ words) ≡ read_from (length front) words d
from_start front words d h =
    let k : 0 + length front ≡ length front = omega arith in
    read_front 0 front words start d h ∙ ap (λ n. read_from n words d) k

pub ends_within : (front back : List (List ℕ)) (word : List ℕ) (d : Draft) (s : Stop) → drafted front start ≡ Ok d → read_word word d ≡ Err s
    → command_of (front ++ word ∷ back) ≡ ended (length front) s
ends_within front back word d s h e =
    from_start front (word ∷ back) d h ∙ ap (unless_ended (length front) (read_from (suc (length front)) back)) e

pub ends_behind : (words : List (List ℕ)) (d : Draft) → drafted words start ≡ Ok d → command_of words ≡ unless_ended (length words) (λ c. Ok c) (finish d)
ends_behind words d h = ap command_of (sym (append-nil words)) ∙ from_start words [] d h
