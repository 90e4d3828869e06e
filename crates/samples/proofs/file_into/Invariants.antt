-- The buffer's front has the bytes of the records passed.
use Rattle.std.proofs.Common.{◌≡◌, ◌*◌, take}
use Rattle.std.specs.Prelude.{flat_map}
use Rattle.samples.proofs.file_into.Given as goal

abbrev pub invariant-loop-record : goal.invariant-loop-record
invariant-loop-record g l = record {
  items : take l.end l.buffer ≡ flat_map g.T.Record.bytes_of (take l.record-index l.records);
  len : l.end ≡ g.row.N * l.record-index;
}
