use Rattle.std.proofs.Common.{◌≡◌, ap, sym, ◌∙◌}
use Rattle.tame_cache.specs.Kept.{Disk}
use Rattle.audit_program.specs.Worlds.{telling}
use Rattle.audit_start.proofs.Sufficing.{left_unless_exclusive, uncalled_unlocked}
use Rattle.audit_start.proofs.laws.locks_suffice.Goals as goal

pub returns : goal.returns
returns g c =
    let tells = telling g.F.Files.tells g.P.Decoder.tells g.R.Runner.tells g.W.Wire.tells g.D.CacheDisk.tells g.O.Sink.tells g.E.Sink.tells in
    record {
      unlocked = λ files files_now decoder decoder_now runner runner_now wire wire_now disk disk_now asking before now outcome run told is.
          uncalled_unlocked tells asking _ before now outcome run told is;
      shared = λ files files_now decoder decoder_now runner runner_now wire wire_now disk disk_now asking before now outcome run first last told told_disk is.
          left_unless_exclusive tells asking _ before now outcome run
          (λ same q. let caches : now.cache ≡ before.cache = last ∙ (ap g.D.CacheDisk.past same ∙ sym first) in ap (λ (c : Disk). c q) caches)
          told told_disk is;
    }
