use Rattle.std.proofs.Common.{sym, subst}
use Rattle.std.specs.List.Sorted.{IsNonDecreasing}
use Rattle.source_model.specs.Instructions.{instructions_of}
use Rattle.source_nodes.specs.Pieces.{ArePieces}
use Rattle.source_syntax.proofs.OpTokens.{instructions_have_tokens}
use Rattle.source_syntax.proofs.OrderLemmas.{starts_never_fall}
use Rattle.check_bodies.proofs.code_places.CodePlaces.read.Goals as goal

pub returns : goal.returns
returns c s n r m e =
    let f = n.below in
    let ps = instructions_of f in
    let code = c.in_ok-code.ensures f e in
    let once = subst (λ xs. ArePieces c.args.nodes.now xs ps) (sym c.as_slice.ensures) code in
    let again = subst (λ xs. ArePieces c.args.nodes.now xs ps) (sym c.as_slice-2.ensures) code in
    let starts = c.in_ok-starts.ensures ps once in
    record {
      starts-are = starts;
      in-order = subst IsNonDecreasing (sym starts) (starts_never_fall f m.first m.count m.in-order (instructions_have_tokens s f m.bodies));
      labels-are = c.in_ok-labels.ensures s n r m e again;
    }
