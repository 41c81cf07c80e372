use Rattle.std.proofs.Common.{[], refl}
use Rattle.audit_core.proofs.Exchanged.{keeps_nothing}
use Rattle.audit_binaries.specs.Binaries.{Outside, Scan, Tells, outside}
use Rattle.audit_binaries.proofs.Chained.{if_err, partly_done}
use Rattle.audit_binaries.proofs.Moved.{With}
use Rattle.audit_binaries.proofs.Together.{all_asked, all_decodes, all_files, all_folders, all_held, all_others, all_turns}
use Rattle.audit_binaries.proofs.auditing.audit_binaries.Goals as goal

pub returns-in_err-own-clause-cut : goal.returns-in_err-own-clause-cut
returns-in_err-own-clause-cut g c =
    let tells : Tells = record { files = g.F.Files.tells; decoder = g.P.Decoder.tells; wire = g.W.Wire.tells; disk = g.D.CacheDisk.tells } in
    let scan : Scan = With c.args.auditor.now c.args.limits.now (g.F.Files.host c.args.files.now) (g.P.Decoder.answers c.args.decoder.now) in
    let began : Outside = outside (g.W.Wire.exchanges c.args.wire.now) (g.D.CacheDisk.past c.args.disk.now) (g.W.Wire.faults c.args.wire.now) (g.D.CacheDisk.faults c.args.disk.now) (g.D.CacheDisk.failed c.args.disk.now) (g.D.CacheDisk.folders c.args.disk.now) (g.F.Files.failed c.args.files.now) (g.F.Files.faults c.args.files.now) (g.P.Decoder.faults c.args.decoder.now) in
    if_err _ (partly_done tells scan began began c.args.paths.now 0 [] refl)

pub returns-in_err-own-clause-kept : goal.returns-in_err-own-clause-kept
returns-in_err-own-clause-kept g c told_wire told = keeps_nothing (g.W.Wire.exchanges c.args.wire.now) (g.W.Wire.exchanges c.args.wire.now) (g.D.CacheDisk.past c.args.disk.now)

pub returns-clause-together : goal.returns-clause-together
returns-clause-together g c =
    let tells : Tells = record { files = g.F.Files.tells; decoder = g.P.Decoder.tells; wire = g.W.Wire.tells; disk = g.D.CacheDisk.tells } in
    let scan : Scan = With c.args.auditor.now c.args.limits.now (g.F.Files.host c.args.files.now) (g.P.Decoder.answers c.args.decoder.now) in
    let began : Outside = outside (g.W.Wire.exchanges c.args.wire.now) (g.D.CacheDisk.past c.args.disk.now) (g.W.Wire.faults c.args.wire.now) (g.D.CacheDisk.faults c.args.disk.now) (g.D.CacheDisk.failed c.args.disk.now) (g.D.CacheDisk.folders c.args.disk.now) (g.F.Files.failed c.args.files.now) (g.F.Files.faults c.args.files.now) (g.P.Decoder.faults c.args.decoder.now) in
    let ended : Outside = outside (g.W.Wire.exchanges c.audit_each.new.wire) (g.D.CacheDisk.past c.audit_each.new.disk) (g.W.Wire.faults c.audit_each.new.wire) (g.D.CacheDisk.faults c.audit_each.new.disk) (g.D.CacheDisk.failed c.audit_each.new.disk) (g.D.CacheDisk.folders c.audit_each.new.disk) (g.F.Files.failed c.audit_each.new.files) (g.F.Files.faults c.audit_each.new.files) (g.P.Decoder.faults c.audit_each.new.decoder) in
    let paths = c.as_slice.result.now in
    let answers = c.in_ok-answers.answers in
    let answered = c.in_ok-answers.ensures.answered in
    record {
      headline = λ on told_wire told. all_held tells scan began ended paths answers on told_wire told answered;
      turns = all_turns tells scan began ended paths answers answered;
      asked = λ on told. all_asked tells scan began ended paths answers on told answered;
      others = λ told. all_others tells scan began ended paths answers told answered;
      folders = λ told. all_folders tells scan began ended paths answers told answered;
      files_failed = all_files tells scan began ended paths answers answered;
      decodes_failed = all_decodes tells scan began ended paths answers answered;
    }
