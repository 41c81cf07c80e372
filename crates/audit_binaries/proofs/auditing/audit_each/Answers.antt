use Rattle.std.proofs.Common.{Ok, refl, ap, ◌∙◌, ◌∷◌, [], ◌++◌, ◌+◌}
use Rattle.audit_core.proofs.Exchanged.{keeps_more, keeps_nothing}
use Rattle.audit_binaries.specs.Binaries.{IsBinary, IsCutOff, Outside, Scan, Tells, outside}
use Rattle.audit_binaries.specs.declared.answers.BinaryAnswer.{BinaryAnswer}
use Rattle.audit_binaries.proofs.Chained.{binaries_next, grown_binary, grown_cut, grown_none, grown_then, if_err, partly_cut, partly_done, uncalled_more}
use Rattle.audit_binaries.proofs.Moved.{With, binary_moved, cut_moved}
use Rattle.audit_binaries.proofs.auditing.audit_each.Goals as goal

pub loop-path-init : goal.loop-path-init
loop-path-init g c =
    rw c.new-answers.ensures record {
      answered = refl;
      files_same = λ told. refl;
      decoder_same = λ told other bound. refl;
      grown = λ told. grown_none (g.W.Wire.exchanges c.args.wire.now) (g.W.Wire.exchanges c.args.wire.now) refl;
      kept = λ told_wire told. keeps_nothing (g.W.Wire.exchanges c.args.wire.now) (g.W.Wire.exchanges c.args.wire.now) (g.D.CacheDisk.past c.args.disk.now);
      refused = λ none. (refl, refl);
      unasked = λ other. refl;
      unchanged = λ other told q. refl;
      unmade = λ other told. refl;
      off = λ is. refl;
    }

pub loop-path-preserved : goal.loop-path-preserved
loop-path-preserved g c =
    let tells : Tells = record { files = g.F.Files.tells; decoder = g.P.Decoder.tells; wire = g.W.Wire.tells; disk = g.D.CacheDisk.tells } in
    let host = g.F.Files.host c.args.files.now in
    let later = g.F.Files.host c.loop-path.files in
    let decoded = g.P.Decoder.answers c.args.decoder.now in
    let then = g.P.Decoder.answers c.loop-path.decoder in
    let scan : Scan = With c.args.auditor.now c.args.limits.now host decoded in
    let began : Outside = outside (g.W.Wire.exchanges c.args.wire.now) (g.D.CacheDisk.past c.args.disk.now) (g.W.Wire.faults c.args.wire.now) (g.D.CacheDisk.faults c.args.disk.now) (g.D.CacheDisk.failed c.args.disk.now) (g.D.CacheDisk.folders c.args.disk.now) (g.F.Files.failed c.args.files.now) (g.F.Files.faults c.args.files.now) (g.P.Decoder.faults c.args.decoder.now) in
    let mid : Outside = outside (g.W.Wire.exchanges c.loop-path.wire) (g.D.CacheDisk.past c.loop-path.disk) (g.W.Wire.faults c.loop-path.wire) (g.D.CacheDisk.faults c.loop-path.disk) (g.D.CacheDisk.failed c.loop-path.disk) (g.D.CacheDisk.folders c.loop-path.disk) (g.F.Files.failed c.loop-path.files) (g.F.Files.faults c.loop-path.files) (g.P.Decoder.faults c.loop-path.decoder) in
    let ended : Outside = outside (g.W.Wire.exchanges c.audit_binary.new.wire) (g.D.CacheDisk.past c.audit_binary.new.disk) (g.W.Wire.faults c.audit_binary.new.wire) (g.D.CacheDisk.faults c.audit_binary.new.disk) (g.D.CacheDisk.failed c.audit_binary.new.disk) (g.D.CacheDisk.folders c.audit_binary.new.disk) (g.F.Files.failed c.audit_binary.new.files) (g.F.Files.faults c.audit_binary.new.files) (g.P.Decoder.faults c.audit_binary.new.decoder) in
    let inv = c.loop-path.invariant in
    let i = c.loop-path.path-index in
    let path = c.path-item.result in
    let exchanges = g.W.Wire.exchanges in
    let past = g.D.CacheDisk.past in
    let binary : IsBinary tells scan mid ended path c.in_ok-answer.answer = binary_moved tells c.args.auditor.now c.args.limits.now host later decoded then inv.files_same inv.decoder_same mid ended path c.in_ok-answer.answer (rw c.as_str.ensures at c.in_ok-answer.ensures.answered) in
    let does = c.in_ok-answer.ensures in
    rw c.in_ok-add.ensures.ok record {
      answered = binaries_next tells scan began mid ended c.args.paths.now i c.loop-path.answers path c.in_ok-answer.answer c.loop-path-test.true c.path-item.is inv.answered binary;
      files_same = λ told. does.files_same told ∙ inv.files_same told;
      decoder_same = λ told other bound. does.decoder_same told other bound ∙ inv.decoder_same told other bound;
      grown = λ told. grown_then (exchanges c.args.wire.now) (exchanges c.loop-path.wire) (exchanges c.audit_binary.new.wire) (inv.grown told) (grown_binary tells scan mid ended path c.in_ok-answer.answer told binary);
      kept = λ told_wire told.
          let more = grown_binary tells scan mid ended path c.in_ok-answer.answer told_wire binary in
          keeps_more (exchanges c.args.wire.now) (exchanges c.loop-path.wire) (exchanges c.audit_binary.new.wire) (past c.args.disk.now) (past c.loop-path.disk) (past c.audit_binary.new.disk)
          (inv.grown told_wire).0 more.0 (inv.grown told_wire).1 more.1 (inv.kept told_wire told) (does.kept told_wire told);
      refused = uncalled_more c.loop-path.answers c.in_ok-answer.answer _ _ _ _ _ _ inv.refused (λ x is. does.refused x (ap (λ (a : BinaryAnswer). Ok a) is));
      unasked = λ other. does.unasked other ∙ inv.unasked other;
      unchanged = λ other told q. does.unchanged other told q ∙ inv.unchanged other told q;
      unmade = λ other told. does.unmade other told ∙ inv.unmade other told;
      off = λ is. does.off is ∙ inv.off is;
    }

pub returns-in_err-answer-clause-cut : goal.returns-in_err-answer-clause-cut
returns-in_err-answer-clause-cut g c =
    let tells : Tells = record { files = g.F.Files.tells; decoder = g.P.Decoder.tells; wire = g.W.Wire.tells; disk = g.D.CacheDisk.tells } in
    let host = g.F.Files.host c.args.files.now in
    let later = g.F.Files.host c.loop-path.files in
    let decoded = g.P.Decoder.answers c.args.decoder.now in
    let then = g.P.Decoder.answers c.loop-path.decoder in
    let scan : Scan = With c.args.auditor.now c.args.limits.now host decoded in
    let began : Outside = outside (g.W.Wire.exchanges c.args.wire.now) (g.D.CacheDisk.past c.args.disk.now) (g.W.Wire.faults c.args.wire.now) (g.D.CacheDisk.faults c.args.disk.now) (g.D.CacheDisk.failed c.args.disk.now) (g.D.CacheDisk.folders c.args.disk.now) (g.F.Files.failed c.args.files.now) (g.F.Files.faults c.args.files.now) (g.P.Decoder.faults c.args.decoder.now) in
    let mid : Outside = outside (g.W.Wire.exchanges c.loop-path.wire) (g.D.CacheDisk.past c.loop-path.disk) (g.W.Wire.faults c.loop-path.wire) (g.D.CacheDisk.faults c.loop-path.disk) (g.D.CacheDisk.failed c.loop-path.disk) (g.D.CacheDisk.folders c.loop-path.disk) (g.F.Files.failed c.loop-path.files) (g.F.Files.faults c.loop-path.files) (g.P.Decoder.faults c.loop-path.decoder) in
    let ended : Outside = outside (g.W.Wire.exchanges c.audit_binary.new.wire) (g.D.CacheDisk.past c.audit_binary.new.disk) (g.W.Wire.faults c.audit_binary.new.wire) (g.D.CacheDisk.faults c.audit_binary.new.disk) (g.D.CacheDisk.failed c.audit_binary.new.disk) (g.D.CacheDisk.folders c.audit_binary.new.disk) (g.F.Files.failed c.audit_binary.new.files) (g.F.Files.faults c.audit_binary.new.files) (g.P.Decoder.faults c.audit_binary.new.decoder) in
    let inv = c.loop-path.invariant in
    let i = c.loop-path.path-index in
    let path = c.path-item.result in
    let cut : IsCutOff tells scan mid ended path = cut_moved tells c.args.auditor.now c.args.limits.now host later decoded then inv.files_same inv.decoder_same mid ended path (rw c.as_str.ensures at c.in_err-answer.ensures.cut) in
    if_err _ (partly_cut tells scan began mid ended c.args.paths.now i c.loop-path.answers path c.loop-path-test.true c.path-item.is inv.answered cut)

pub returns-in_err-answer-clause-kept : goal.returns-in_err-answer-clause-kept
returns-in_err-answer-clause-kept g c told_wire told =
    let tells : Tells = record { files = g.F.Files.tells; decoder = g.P.Decoder.tells; wire = g.W.Wire.tells; disk = g.D.CacheDisk.tells } in
    let host = g.F.Files.host c.args.files.now in
    let later = g.F.Files.host c.loop-path.files in
    let decoded = g.P.Decoder.answers c.args.decoder.now in
    let then = g.P.Decoder.answers c.loop-path.decoder in
    let scan : Scan = With c.args.auditor.now c.args.limits.now host decoded in
    let began : Outside = outside (g.W.Wire.exchanges c.args.wire.now) (g.D.CacheDisk.past c.args.disk.now) (g.W.Wire.faults c.args.wire.now) (g.D.CacheDisk.faults c.args.disk.now) (g.D.CacheDisk.failed c.args.disk.now) (g.D.CacheDisk.folders c.args.disk.now) (g.F.Files.failed c.args.files.now) (g.F.Files.faults c.args.files.now) (g.P.Decoder.faults c.args.decoder.now) in
    let mid : Outside = outside (g.W.Wire.exchanges c.loop-path.wire) (g.D.CacheDisk.past c.loop-path.disk) (g.W.Wire.faults c.loop-path.wire) (g.D.CacheDisk.faults c.loop-path.disk) (g.D.CacheDisk.failed c.loop-path.disk) (g.D.CacheDisk.folders c.loop-path.disk) (g.F.Files.failed c.loop-path.files) (g.F.Files.faults c.loop-path.files) (g.P.Decoder.faults c.loop-path.decoder) in
    let ended : Outside = outside (g.W.Wire.exchanges c.audit_binary.new.wire) (g.D.CacheDisk.past c.audit_binary.new.disk) (g.W.Wire.faults c.audit_binary.new.wire) (g.D.CacheDisk.faults c.audit_binary.new.disk) (g.D.CacheDisk.failed c.audit_binary.new.disk) (g.D.CacheDisk.folders c.audit_binary.new.disk) (g.F.Files.failed c.audit_binary.new.files) (g.F.Files.faults c.audit_binary.new.files) (g.P.Decoder.faults c.audit_binary.new.decoder) in
    let inv = c.loop-path.invariant in
    let i = c.loop-path.path-index in
    let path = c.path-item.result in
    let exchanges = g.W.Wire.exchanges in
    let past = g.D.CacheDisk.past in
    let cut : IsCutOff tells scan mid ended path = cut_moved tells c.args.auditor.now c.args.limits.now host later decoded then inv.files_same inv.decoder_same mid ended path (rw c.as_str.ensures at c.in_err-answer.ensures.cut) in
    let more = grown_cut tells scan mid ended path told_wire cut in
    keeps_more (exchanges c.args.wire.now) (exchanges c.loop-path.wire) (exchanges c.audit_binary.new.wire) (past c.args.disk.now) (past c.loop-path.disk) (past c.audit_binary.new.disk)
    (inv.grown told_wire).0 more.0 (inv.grown told_wire).1 more.1 (inv.kept told_wire told) (c.in_err-answer.ensures.kept told_wire told)

pub returns-in_err-add-clause-cut : goal.returns-in_err-add-clause-cut
returns-in_err-add-clause-cut g c =
    let tells : Tells = record { files = g.F.Files.tells; decoder = g.P.Decoder.tells; wire = g.W.Wire.tells; disk = g.D.CacheDisk.tells } in
    let host = g.F.Files.host c.args.files.now in
    let later = g.F.Files.host c.loop-path.files in
    let decoded = g.P.Decoder.answers c.args.decoder.now in
    let then = g.P.Decoder.answers c.loop-path.decoder in
    let scan : Scan = With c.args.auditor.now c.args.limits.now host decoded in
    let began : Outside = outside (g.W.Wire.exchanges c.args.wire.now) (g.D.CacheDisk.past c.args.disk.now) (g.W.Wire.faults c.args.wire.now) (g.D.CacheDisk.faults c.args.disk.now) (g.D.CacheDisk.failed c.args.disk.now) (g.D.CacheDisk.folders c.args.disk.now) (g.F.Files.failed c.args.files.now) (g.F.Files.faults c.args.files.now) (g.P.Decoder.faults c.args.decoder.now) in
    let mid : Outside = outside (g.W.Wire.exchanges c.loop-path.wire) (g.D.CacheDisk.past c.loop-path.disk) (g.W.Wire.faults c.loop-path.wire) (g.D.CacheDisk.faults c.loop-path.disk) (g.D.CacheDisk.failed c.loop-path.disk) (g.D.CacheDisk.folders c.loop-path.disk) (g.F.Files.failed c.loop-path.files) (g.F.Files.faults c.loop-path.files) (g.P.Decoder.faults c.loop-path.decoder) in
    let ended : Outside = outside (g.W.Wire.exchanges c.audit_binary.new.wire) (g.D.CacheDisk.past c.audit_binary.new.disk) (g.W.Wire.faults c.audit_binary.new.wire) (g.D.CacheDisk.faults c.audit_binary.new.disk) (g.D.CacheDisk.failed c.audit_binary.new.disk) (g.D.CacheDisk.folders c.audit_binary.new.disk) (g.F.Files.failed c.audit_binary.new.files) (g.F.Files.faults c.audit_binary.new.files) (g.P.Decoder.faults c.audit_binary.new.decoder) in
    let inv = c.loop-path.invariant in
    let i = c.loop-path.path-index in
    let path = c.path-item.result in
    let binary : IsBinary tells scan mid ended path c.in_ok-answer.answer = binary_moved tells c.args.auditor.now c.args.limits.now host later decoded then inv.files_same inv.decoder_same mid ended path c.in_ok-answer.answer (rw c.as_str.ensures at c.in_ok-answer.ensures.answered) in
    if_err _ (partly_done tells scan began ended c.args.paths.now (i + 1) (c.loop-path.answers ++ c.in_ok-answer.answer ∷ [])
    (binaries_next tells scan began mid ended c.args.paths.now i c.loop-path.answers path c.in_ok-answer.answer c.loop-path-test.true c.path-item.is inv.answered binary))

pub returns-in_err-add-clause-kept : goal.returns-in_err-add-clause-kept
returns-in_err-add-clause-kept g c told_wire told =
    let tells : Tells = record { files = g.F.Files.tells; decoder = g.P.Decoder.tells; wire = g.W.Wire.tells; disk = g.D.CacheDisk.tells } in
    let host = g.F.Files.host c.args.files.now in
    let later = g.F.Files.host c.loop-path.files in
    let decoded = g.P.Decoder.answers c.args.decoder.now in
    let then = g.P.Decoder.answers c.loop-path.decoder in
    let scan : Scan = With c.args.auditor.now c.args.limits.now host decoded in
    let began : Outside = outside (g.W.Wire.exchanges c.args.wire.now) (g.D.CacheDisk.past c.args.disk.now) (g.W.Wire.faults c.args.wire.now) (g.D.CacheDisk.faults c.args.disk.now) (g.D.CacheDisk.failed c.args.disk.now) (g.D.CacheDisk.folders c.args.disk.now) (g.F.Files.failed c.args.files.now) (g.F.Files.faults c.args.files.now) (g.P.Decoder.faults c.args.decoder.now) in
    let mid : Outside = outside (g.W.Wire.exchanges c.loop-path.wire) (g.D.CacheDisk.past c.loop-path.disk) (g.W.Wire.faults c.loop-path.wire) (g.D.CacheDisk.faults c.loop-path.disk) (g.D.CacheDisk.failed c.loop-path.disk) (g.D.CacheDisk.folders c.loop-path.disk) (g.F.Files.failed c.loop-path.files) (g.F.Files.faults c.loop-path.files) (g.P.Decoder.faults c.loop-path.decoder) in
    let ended : Outside = outside (g.W.Wire.exchanges c.audit_binary.new.wire) (g.D.CacheDisk.past c.audit_binary.new.disk) (g.W.Wire.faults c.audit_binary.new.wire) (g.D.CacheDisk.faults c.audit_binary.new.disk) (g.D.CacheDisk.failed c.audit_binary.new.disk) (g.D.CacheDisk.folders c.audit_binary.new.disk) (g.F.Files.failed c.audit_binary.new.files) (g.F.Files.faults c.audit_binary.new.files) (g.P.Decoder.faults c.audit_binary.new.decoder) in
    let inv = c.loop-path.invariant in
    let i = c.loop-path.path-index in
    let path = c.path-item.result in
    let exchanges = g.W.Wire.exchanges in
    let past = g.D.CacheDisk.past in
    let binary : IsBinary tells scan mid ended path c.in_ok-answer.answer = binary_moved tells c.args.auditor.now c.args.limits.now host later decoded then inv.files_same inv.decoder_same mid ended path c.in_ok-answer.answer (rw c.as_str.ensures at c.in_ok-answer.ensures.answered) in
    let more = grown_binary tells scan mid ended path c.in_ok-answer.answer told_wire binary in
    keeps_more (exchanges c.args.wire.now) (exchanges c.loop-path.wire) (exchanges c.audit_binary.new.wire) (past c.args.disk.now) (past c.loop-path.disk) (past c.audit_binary.new.disk)
    (inv.grown told_wire).0 more.0 (inv.grown told_wire).1 more.1 (inv.kept told_wire told) (c.in_ok-answer.ensures.kept told_wire told)
