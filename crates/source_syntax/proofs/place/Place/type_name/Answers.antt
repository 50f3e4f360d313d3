use Rattle.std.proofs.Common.{◌≡◌, sym, subst, refl, ◌∙◌}
use Rattle.std.specs.Prelude.{IfOk}
use Rattle.ilasm_grammar.specs.declared.productions.TheConstants.{TYPE_NAME_SCOPE, TYPE_NAME_PATH}
use Rattle.source_nodes.proofs.Collecting.{below_is, behind_is, is_branch}
use Rattle.source_syntax.proofs.TypeNames.{name_found, name_starts, name_goes_in, no_name}
use Rattle.source_nodes.proofs.WrittenNames.{path_child, scope_begins}
use Rattle.source_syntax.proofs.place.Place.type_name.Goals as goal

pub loop-x-init : goal.loop-x-init
loop-x-init c = record { forest = c.requires; so_far = λ s f e bodies. name_starts s f c.args.nodes.now e bodies }

pub name_with_scope-requires : goal.name_with_scope-requires
name_with_scope-requires c =
    let b = is_branch TYPE_NAME_SCOPE c.in-Some.x.node (sym c.is_of.ensures ∙ c.if-is_of.true) in
    below_is c.loop-x.left.now c.in-Some.x TYPE_NAME_SCOPE b.0 c.in-Some.ensures b.1 c.loop-x.invariant.forest

pub returns-then-is_of : goal.returns-then-is_of
returns-then-is_of c s a x f e bodies =
    let b = is_branch TYPE_NAME_SCOPE c.in-Some.x.node (sym c.is_of.ensures ∙ c.if-is_of.true) in
    let n = name_found s f c.loop-x.left.now c.in-Some.x TYPE_NAME_SCOPE b.0 c.in-Some.ensures b.1 refl (c.loop-x.invariant.so_far s f e bodies) in
    subst (λ t. IfOk c.name_with_scope.result (λ name. name ≡ t)) (sym n.is)
    (c.name_with_scope.ensures s a x n.inner n.inner-is (scope_begins s n.inner n.fits) (path_child s n.inner n.fits n.bodies))

pub name_without_scope-requires : goal.name_without_scope-requires
name_without_scope-requires c =
    let b = is_branch TYPE_NAME_PATH c.in-Some.x.node (sym c.is_of-in-Some.ensures ∙ c.if-is_of-2.true) in
    below_is c.loop-x.left.now c.in-Some.x TYPE_NAME_PATH b.0 c.in-Some.ensures b.1 c.loop-x.invariant.forest

pub returns-then-is_of-2 : goal.returns-then-is_of-2
returns-then-is_of-2 c s a x f e bodies =
    let b = is_branch TYPE_NAME_PATH c.in-Some.x.node (sym c.is_of-in-Some.ensures ∙ c.if-is_of-2.true) in
    let n = name_found s f c.loop-x.left.now c.in-Some.x TYPE_NAME_PATH b.0 c.in-Some.ensures b.1 refl (c.loop-x.invariant.so_far s f e bodies) in
    subst (λ t. IfOk c.name_without_scope.result (λ name. name ≡ t)) (sym n.is) (c.name_without_scope.ensures s a x n.inner n.inner-is n.fits n.bodies)

pub loop-x-preserved : goal.loop-x-preserved
loop-x-preserved c = record {
  forest = behind_is c.loop-x.left.now c.in-Some.x c.in-Some.ensures c.loop-x.invariant.forest;
  so_far = λ s f e bodies.
      name_goes_in c.forests_join.ensures s f c.loop-x.left.now c.in-Some.x c.in-Some.ensures (sym c.is_of.ensures ∙ c.if-is_of.false)
      (sym c.is_of-in-Some.ensures ∙ c.if-is_of-2.false) (c.loop-x.invariant.so_far s f e bodies);
}

pub returns : goal.returns
returns c s a x f e bodies =
    subst (λ t. IfOk c.module_name.result (λ name. name ≡ t)) (no_name s f c.loop-x.left.now c.in_default.ensures (c.loop-x.invariant.so_far s f e bodies))
    c.module_name.ensures
