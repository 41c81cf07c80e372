use Rattle.std.proofs.Common.{◌≡◌, length}
use Rattle.std.specs.List.{position_from}
use Rattle.tame_names.specs.Pieces.{pieces}
use Rattle.tame_records.specs.Krates.{first_unread, has_no_record, records_of}
use Rattle.tame_records.proofs.Ahead.{before}
use Rattle.tame_records.proofs.krates.records_of.Given as goal

-- the records so far, before those of what is left, whose first line has their number
abbrev pub invariant-loop-line : goal.invariant-loop-line
invariant-loop-line l = record {
  read : records_of (pieces 10 l.text) ≡ before l.versions (records_of l.line-iterator);
  left : first_unread (pieces 10 l.text) ≡ position_from has_no_record (length l.versions) l.line-iterator;
}
