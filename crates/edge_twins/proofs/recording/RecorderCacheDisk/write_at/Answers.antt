use Rattle.std.proofs.Common.{[], ◌++◌, string_bytes}
use Rattle.edge_twins.specs.Recordings.{AddsNotes, done_text, note, write_text}
use Rattle.edge_twins.proofs.Adding.{adds_then}
use Rattle.edge_twins.proofs.recording.RecorderCacheDisk.write_at.Goals as goal

pub returns-clause-recorded : goal.returns-clause-recorded
returns-clause-recorded g c =
    let begun = c.begin_write.new.self in
    let text = write_text c.args.path.now c.args.at (string_bytes begun.told) in
    let first : AddsNotes (note text ++ []) (string_bytes c.args.self.now.notes) (string_bytes begun.notes) c.args.self.now.whole begun.whole = c.in_ok-begin_write.ensures.added in
    let both = adds_then (note text) (note (done_text c.end.result)) _ _ _ _ _ _ first c.end.ensures.added in
    rw c.end.ensures.told both
