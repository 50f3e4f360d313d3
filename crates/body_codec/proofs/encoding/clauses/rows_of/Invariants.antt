use Rattle.std.proofs.Common.{◌≡◌, ◌<◌, ◌^◌, map, take}
use Rattle.std.specs.List.{All}
use Rattle.body_codec.specs.Written.{row_of, token_map}
use Rattle.body_codec.proofs.encoding.clauses.rows_of.Given as goal

abbrev pub invariant-loop-clause : goal.invariant-loop-clause
invariant-loop-clause g l = record {
  rows : l.rows ≡ map (row_of (token_map (g.N.Numberer.owner_tokens l.numberer) (g.N.Numberer.method_tokens l.numberer) (g.N.Numberer.field_tokens l.numberer) (g.N.Numberer.locals_tokens l.numberer) (g.N.Numberer.text_tokens l.numberer)) l.offsets) (take l.clause-index l.clauses);
  fit : All (λ r. r.class_or_filter < 2 ^ 32) l.rows;
}
