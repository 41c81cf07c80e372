use Rattle.std.proofs.Common.{refl, sym, ap, ◌∙◌, append-nil}
use Rattle.audit_core.proofs.Exchanged.{keeps_nothing}
use Rattle.audit_binaries.specs.Binaries.{Outside, Scan, Tells}
use Rattle.audit_binaries.proofs.Begun.{begun_by}
use Rattle.audit_binaries.proofs.auditing.audit_binary.Goals as goal

pub returns-in-Ok-audit_text-clause-answered : goal.returns-in-Ok-audit_text-clause-answered
returns-in-Ok-audit_text-clause-answered g c =
    let opened = c.in-Ok.ensures in
    let done = rw c.as_str.ensures at c.in-Ok-audit_text.ensures in
    let lockfile = done.audited.lockfile in
    record {
      answered = record {
        text = c.in-Ok.said.text;
        said = opened.said;
        audit = done.audited;
        unasked = λ other. ap (g.W.Wire.exchanges) (done.calls.unasked other);
        unchanged = λ other told. done.calls.unchanged other told;
        others = λ told. (done.asks _ lockfile).others told;
        folders = λ told. (done.asks _ lockfile).folders told;
        kept = done.kept;
      };
      counted = record {
        files = opened.files_later;
        decoder = opened.decoder_later;
        file = λ is. absurd cc;
        decode = λ is. absurd cc;
        quiet = λ other. opened.quiet (λ is. absurd cc);
        failed = λ told. opened.unfailed told ∙ sym (append-nil _);
      };
    }

pub returns-clause-cut : goal.returns-clause-cut
returns-clause-cut g c =
    let opened = c.in-Ok.ensures in
    let done = rw c.as_str.ensures at c.audit_text.ensures in
    let tells : Tells = record { files = g.F.Files.tells; decoder = g.P.Decoder.tells; wire = g.W.Wire.tells; disk = g.D.CacheDisk.tells } in
    let scan : Scan = record { auditor = c.args.auditor.now; limits = c.args.limits.now; host = g.F.Files.host c.args.files.now; answers = g.P.Decoder.answers c.args.decoder.now } in
    let began : Outside = record {
      moment = record { exchanges = g.W.Wire.exchanges c.args.wire.now; files = g.D.CacheDisk.past c.args.disk.now; wire_faults = g.W.Wire.faults c.args.wire.now; disk_faults = g.D.CacheDisk.faults c.args.disk.now; disk_failed = g.D.CacheDisk.failed c.args.disk.now };
      folders = g.D.CacheDisk.folders c.args.disk.now;
      failed = g.F.Files.failed c.args.files.now;
      file_faults = g.F.Files.faults c.args.files.now;
      decode_faults = g.P.Decoder.faults c.args.decoder.now;
    } in
    let ended : Outside = record {
      moment = record { exchanges = g.W.Wire.exchanges c.audit_text.new.wire; files = g.D.CacheDisk.past c.audit_text.new.disk; wire_faults = g.W.Wire.faults c.audit_text.new.wire; disk_faults = g.D.CacheDisk.faults c.audit_text.new.disk; disk_failed = g.D.CacheDisk.failed c.audit_text.new.disk };
      folders = g.D.CacheDisk.folders c.audit_text.new.disk;
      failed = g.F.Files.failed c.open_binary.new.files;
      file_faults = g.F.Files.faults c.open_binary.new.files;
      decode_faults = g.P.Decoder.faults c.open_binary.new.decoder;
    } in
    record {
      files = opened.files_later;
      decoder = opened.quiet (λ is. absurd cc);
      failed = opened.unfailed;
      begun = begun_by tells scan began ended c.args.path.now c.in-Ok.said opened.said
          (λ f is. let same = done.uncalled f is in record { moment = rw (same.0, same.1) refl; folders = ap (g.D.CacheDisk.folders) same.1 })
          (λ packages is. record { asked = λ told. (done.asks packages is).part told; others = λ told. (done.asks packages is).others told; folders = λ told. (done.asks packages is).folders told });
    }

pub returns-in-Err-Refused-clause-kept : goal.returns-in-Err-Refused-clause-kept
returns-in-Err-Refused-clause-kept g c told_wire told = keeps_nothing (g.W.Wire.exchanges c.args.wire.now) (g.W.Wire.exchanges c.args.wire.now) (g.D.CacheDisk.past c.args.disk.now)

pub returns-in-Err-NoMemory-clause-kept : goal.returns-in-Err-NoMemory-clause-kept
returns-in-Err-NoMemory-clause-kept g c told_wire told = keeps_nothing (g.W.Wire.exchanges c.args.wire.now) (g.W.Wire.exchanges c.args.wire.now) (g.D.CacheDisk.past c.args.disk.now)
