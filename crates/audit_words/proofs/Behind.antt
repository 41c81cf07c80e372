-- After an option of a baseline no command follows.
use Rattle.std.proofs.Common.{◌≡◌, ℕ, List, true, false, Option, None, Result, Err, refl, ap, ◌∙◌}
use Rattle.audit_words.specs.Reading.{begun, has_baseline, is_option, read_awaited, read_fresh, read_plain, read_word}
use Rattle.audit_words.specs.declared.options.Meaning.{Meaning}
use Rattle.audit_words.specs.declared.options.Phase.{Phase}
use Rattle.audit_words.specs.declared.options.Phase.TheVariants.{Audit}
use Rattle.audit_words.specs.declared.drafts.Draft.{Draft}
use Rattle.audit_words.specs.declared.drafts.Stop.{Stop}
use Rattle.audit_words.specs.declared.drafts.Stop.TheVariants as stop

abbrev wrong : Result Draft Stop
wrong = Err stop.Wrong

refused : (word : List ℕ) (d : Draft) → has_baseline d ≡ true → begun word d ≡ wrong
refused word d met = rw met refl

plain : (word : List ℕ) (d : Draft) → is_option word ≡ false → read_fresh word d ≡ read_plain d.phase word d
plain word d h = rw h refl

pub no_command : (d : Draft) (word : List ℕ) → d.phase ≡ Audit → d.awaited ≡ None → has_baseline d ≡ true → is_option word ≡ false
    → read_word word d ≡ wrong
no_command d word here free met h =
    ap (λ (o : Option Meaning). read_awaited o word d) free ∙ plain word d h
    ∙ ap (λ (p : Phase). read_plain p word d) here ∙ refused word d met
