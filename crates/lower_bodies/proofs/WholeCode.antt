-- What is known of the code of a method whose instructions and labels were found.
use Rattle.std.proofs.Common.{◌≡◌, ◌<◌, ◌^◌, List, length, ap, sym, subst, arith}
use Rattle.ilasm_grammar.specs.declared.tree.TreeNode.{TreeNode}
use Rattle.source_model.specs.Forest.{Forest, preorder}
use Rattle.source_model.specs.Instructions.{instruction_forms, instructions_of, labels}
use Rattle.source_model.specs.Source.{Source}
use Rattle.source_syntax.specs.Methods.{AreNames}
use Rattle.source_nodes.specs.Pieces.{ArePieces}
use Rattle.source_nodes.specs.Readers.{Reads}
use Rattle.source_syntax.proofs.LabelTokens.{labels_are_names}
use Rattle.source_syntax.proofs.OpTokens.{instructions_have_tokens}
use Rattle.source_syntax.proofs.OrderLemmas.{starts_never_fall}
use Rattle.source_nodes.proofs.PieceLemmas.{as_many}
use Rattle.lower_bodies.specs.CodePlaces.{HaveNames, IsCode}
use Rattle.lower_bodies.specs.MethodsInRange.{IsMethodInRange}
use Rattle.lower_bodies.specs.declared.code_places.Code.{Code}
use Rattle.lower_bodies.proofs.BodyLemmas.{few_parts}

pub whole_code : (x : Code) (s : Source) (f : Forest) (nodes : List TreeNode) → Reads x.reader s → ArePieces x.nodes.now x.instructions.now (instructions_of f)
    → x.labels.now ≡ labels f → HaveNames x.names s x.labels.now → IsMethodInRange s f → preorder f ≡ nodes
    → length nodes < 2 ^ 32 → IsCode x s f
whole_code x s f nodes r are names all h e few =
    let m = h.derived in
    record {
      reads = r;
      instructions-are = are;
      labels-are = names;
      labelled = subst (AreNames s) (sym names) (labels_are_names s f m.bodies);
      names-are = all;
      rising = starts_never_fall f m.first m.count m.in-order (instructions_have_tokens s f m.bodies);
      few = omega (arith, as_many x.nodes.now x.instructions.now (instructions_of f) are, few_parts instruction_forms f, ap length e, few);
    }
