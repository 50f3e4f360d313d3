use Rattle.std.proofs.Common.{[], ◌∷◌, sym}
use Rattle.ilasm_grammar.specs.declared.productions.TheConstants.{PATH}
use Rattle.source_model.specs.Forest.{child}
use Rattle.source_syntax.proofs.TypeNames.{alone}
use Rattle.source_nodes.proofs.WrittenNames.{path_alone}
use Rattle.source_syntax.proofs.place.Place.name_without_scope.Goals as goal

pub returns : goal.returns
returns c s a x f e fits bodies =
    let p = path_alone s f fits bodies in
    alone s f c.in_ok-path.path (c.in_ok-path.ensures s a x (child (PATH ∷ []) f) (sym (c.child.ensures f e)) p.0 p.1)
