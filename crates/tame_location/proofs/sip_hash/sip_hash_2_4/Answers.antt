use Rattle.std.proofs.Common.{◌≡◌, ◌+◌, ◌/◌, length, ap, ◌∙◌, arith, add-one}
use Rattle.tame_location.specs.SipHash.{after_words, finished, keyed, padded, sip_hash_2_4, with_word}
use Rattle.tame_location.proofs.sip_hash.sip_hash_2_4.Goals as goal

pub loop-number-preserved : goal.loop-number-preserved
loop-number-preserved c =
    rw add-one (c.with_word-state.ensures ∙ ap (λ w. with_word w c.loop-number.state) c.word_at.ensures ∙ ap (with_word _) c.loop-number.invariant)

pub returns : goal.returns
unfolding sip_hash_2_4
returns c =
    let all : c.loop-number.number ≡ length c.args.message.now / 8 + 1 = omega (arith, c.loop-number.auto.number-end, c.loop-number-test.false) in
    c.finished.ensures ∙ ap finished (c.loop-number.invariant ∙ ap (after_words (keyed c.args.k0 c.args.k1) (padded c.args.message.now)) all)
