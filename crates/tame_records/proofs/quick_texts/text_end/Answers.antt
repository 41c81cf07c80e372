use Rattle.std.proofs.Common.{◌≡◌, ℕ, ◌+◌, List, [], ◌∷◌, drop, get_or, sym, ap, ◌∙◌, subst, arith}
use Rattle.json.specs.Lex.{between, lex}
use Rattle.tame_records.specs.Quick.{HasText}
use Rattle.tame_records.proofs.QuickLex.{closed_text, escaped_backslash, escaped_quote, next_byte, plain_run, text_lexed, two_bytes}
use Rattle.tame_records.proofs.quick_texts.text_end.Goals as goal

pub runs-init : goal.runs-init
runs-init c = record {
  more = λ (s ys : List ℕ) (h : HasText (drop c.plain_end-end.result c.args.bytes.now) s ys). plain_run c.args.bytes.now (c.args.at + 1) c.plain_end-end.result s ys c.plain_end-end.ensures.value h;
  room = c.plain_end-end.ensures.bound;
  later = omega (arith, c.plain_end-end.ensures.value);
}

pub runs-preserved-then-next-eq34 : goal.runs-preserved-then-next-eq34
runs-preserved-then-next-eq34 c =
    let bytes = c.args.bytes.now in
    let l = c.runs in
    let slash : get_or bytes l.end 0 ≡ 92 = omega (arith, c.byte_at-in-runs.ensures.value) in
    let mark : get_or bytes (l.end + 1) 0 ≡ 34 = omega (arith, c.byte_at-next.ensures.value) in
    let here = two_bytes bytes l.end 92 34 slash mark (omega arith) (omega arith) in
    let after = c.plain_end-end-then-next-eq34 in
    record {
      more = λ (s ys : List ℕ) (h : HasText (drop after.result bytes) s ys).
          (let p = plain_run bytes (l.end + 2) after.result s ys after.ensures.value h in
          l.invariant.more (34 ∷ p.0) ys (subst (λ (xs : List ℕ). HasText xs (34 ∷ p.0) ys) (sym here) (escaped_quote (drop (l.end + 2) bytes) p.0 ys p.1)));
      room = after.ensures.bound;
      later = omega (arith, after.ensures.value, l.invariant.later);
    }

pub runs-preserved : goal.runs-preserved
runs-preserved c =
    let bytes = c.args.bytes.now in
    let l = c.runs in
    let slash : get_or bytes l.end 0 ≡ 92 = omega (arith, c.byte_at-in-runs.ensures.value) in
    let mark : get_or bytes (l.end + 1) 0 ≡ 92 = omega (arith, c.byte_at-next.ensures.value) in
    let here = two_bytes bytes l.end 92 92 slash mark (omega arith) (omega arith) in
    let after = c.plain_end-end-then-next-eq92 in
    record {
      more = λ (s ys : List ℕ) (h : HasText (drop after.result bytes) s ys).
          (let p = plain_run bytes (l.end + 2) after.result s ys after.ensures.value h in
          l.invariant.more (92 ∷ p.0) ys (subst (λ (xs : List ℕ). HasText xs (92 ∷ p.0) ys) (sym here) (escaped_backslash (drop (l.end + 2) bytes) p.0 ys p.1)));
      room = after.ensures.bound;
      later = omega (arith, after.ensures.value, l.invariant.later);
    }

pub returns-clause-value : goal.returns-clause-value
returns-clause-value c =
    let bytes = c.args.bytes.now in
    let l = c.runs in
    let first : get_or bytes c.args.at 0 ≡ 34 = omega (arith, c.byte_at.ensures.value) in
    let last : get_or bytes l.end 0 ≡ 34 = omega (arith, c.byte_at-2.ensures.value) in
    let ys = drop (l.end + 1) bytes in
    let t = l.invariant.more [] ys (subst (λ (xs : List ℕ). HasText xs [] ys) (sym (next_byte bytes l.end 34 last (omega arith))) (closed_text ys)) in
    (t.0, ap (λ (xs : List ℕ). lex between xs) (next_byte bytes c.args.at 34 first (omega arith)) ∙ text_lexed (drop (c.args.at + 1) bytes) t.0 ys t.1)
