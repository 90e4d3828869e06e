-- The file has the bytes of the records passed.
use Rattle.std.proofs.Common.{◌≡◌, ◌*◌, take, vec_len}
use Rattle.std.specs.Prelude.{flat_map}
use Rattle.samples.proofs.file_of.Given as goal

abbrev pub invariant-loop-record : goal.invariant-loop-record
invariant-loop-record g l = record {
  items : l.file.items ≡ flat_map g.T.Record.bytes_of (take l.record-index l.records);
  len : vec_len l.file ≡ g.row.N * l.record-index;
}
