use Rattle.std.proofs.Common.{◌≡◌, ◌<◌, ℕ, length, get_or, take}
use Rattle.assembly_tree.specs.declared.body.Ins.{Ins}
use Rattle.body_codec.specs.Instruction.{bytes_of_pieces}
use Rattle.body_codec.specs.Names.{TokenMap}
use Rattle.body_codec.specs.Written.{HasToken, pieces_from, token_map}
use Rattle.body_codec.specs.Chains.{IsDraft, IsLinked, from_on, offsets_of}
use Rattle.body_codec.proofs.encoding.code.draft_of.Given as goal

abbrev pub invariant-loop-k : goal.invariant-loop-k
invariant-loop-k g l =
    let numbers : TokenMap = token_map (g.N.Numberer.owner_tokens l.map) (g.N.Numberer.method_tokens l.map) (g.N.Numberer.field_tokens l.map) (g.N.Numberer.locals_tokens l.map) (g.N.Numberer.text_tokens l.map) in
    record {
      linked : IsLinked l.draft;
      count : length l.draft.latest ≡ length l.code;
      begun : length l.draft.offsets ≡ l.k;
      draft : IsDraft (from_on l.k) l.code l.k (bytes_of_pieces (take l.k (pieces_from numbers (offsets_of l.code) 0 l.code))) l.draft;
      tokens : (j : ℕ) (i : Ins) → j < l.k → HasToken numbers (get_or l.code j i).operand;
    }
