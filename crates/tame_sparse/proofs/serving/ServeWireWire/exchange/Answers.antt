use Rattle.std.proofs.Common.{refl, arith}
use Rattle.std.proofs.lemmas.Grind.{common_steps}
use Rattle.tame_sparse.proofs.Served.{served_then}
use Rattle.tame_sparse.proofs.serving.ServeWireWire.exchange.Goals as goal

-- what is served stays so
pub returns-clause-becomes : goal.returns-clause-becomes
returns-clause-becomes c =
    (refl, λ served. served_then c.args.self.now.held c.args.self.now.exchanges c.add.new.self c.args.request.now (grind (arith, common_steps)) served)
