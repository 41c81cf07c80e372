use Rattle.std.proofs.Common.{rules, refl}
use Rattle.tame_cache.proofs.FolderLemmas.{none_made}
use Rattle.audit_core.proofs.Exchanged.{keeps_nothing, keeps_unchanged, part_none}
use Rattle.audit_core.proofs.Left.{asks_nothing}
use Rattle.audit_core.proofs.Unasked.{says_off}
use Rattle.audit_core.proofs.checking.check.Goals as goal

pub returns-in-Offline-clause-kept : goal.returns-in-Offline-clause-kept
returns-in-Offline-clause-kept g c told_wire told =
    keeps_unchanged (g.W.Wire.exchanges c.args.wire.now) (g.W.Wire.exchanges c.args.wire.now) (g.D.CacheDisk.past c.args.disk.now) (g.D.CacheDisk.past c.check_offline.new.disk) (c.check_offline.ensures.same told)

pub returns-in-Offline-clause-asks : goal.returns-in-Offline-clause-asks
returns-in-Offline-clause-asks g c = record {
  part = λ told. part_none _ _ _ refl;
  others = λ told q other. c.check_offline.ensures.same told q;
  folders = λ told. none_made _ _ _ (c.check_offline.ensures.folders told);
}

pub returns-in-Off-clause-kept : goal.returns-in-Off-clause-kept
returns-in-Off-clause-kept g c told_wire told = keeps_nothing (g.W.Wire.exchanges c.args.wire.now) (g.W.Wire.exchanges c.args.wire.now) (g.D.CacheDisk.past c.args.disk.now)

pub returns-in-Off-clause-asks : goal.returns-in-Off-clause-asks
returns-in-Off-clause-asks g c = asks_nothing _ _ _ _

pub returns-in-Off-clause-says : goal.returns-in-Off-clause-says
returns-in-Off-clause-says g c =
    rw (c.new-in-Off.ensures, c.new.ensures)
    (says_off g.W.Wire.tells g.D.CacheDisk.tells _ c.args.checks c.args.packages.now c.in-Off.is)
