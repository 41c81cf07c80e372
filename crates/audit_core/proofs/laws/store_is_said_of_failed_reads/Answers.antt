use Rattle.audit_core.proofs.BlamedReads.{reads_blamed}
use Rattle.audit_core.proofs.laws.store_is_said_of_failed_reads.Goals as goal

pub returns : goal.returns
returns g c auditor began ended text audited told h = reads_blamed auditor g.W.Wire.tells g.D.CacheDisk.tells began ended text audited told h
