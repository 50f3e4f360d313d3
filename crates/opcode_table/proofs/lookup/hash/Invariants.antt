use Rattle.std.proofs.Common.{◌≡◌, ◌<◌, drop}
use Rattle.opcode_table.specs.Lookup.{hash_from}
use Rattle.opcode_table.proofs.lookup.hash.Given as goal

-- the bytes that are left take the hash so far to the whole one
abbrev pub invariant-loop-byte : goal.invariant-loop-byte
invariant-loop-byte l = record {
  below : l.hash < 65536;
  whole : hash_from l.hash (drop l.byte-index l.word) ≡ hash_from 0 l.word;
}
