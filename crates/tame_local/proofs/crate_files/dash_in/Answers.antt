use Rattle.std.proofs.Common.{sym}
use Rattle.tame_local.proofs.Walked.{walk_finds}
use Rattle.tame_local.proofs.crate_files.dash_in.Goals as goal

pub loop-at-init : goal.loop-at-init
loop-at-init c = record {
  place = sym (walk_finds c.args.stem.now);
  within = tt;
  dash = tt;
}
