use Rattle.std.proofs.Common.{◌≡◌, ℕ, List, ◌<◌, ◌^◌, length, ap, sym, subst, ◌∙◌}
use Rattle.source_model.specs.Items.{items_and_ends}
use Rattle.source_model.specs.Nodes.{typar_names}
use Rattle.source_nodes.specs.Pieces.{ArePieces}
use Rattle.lower_members.proofs.ItemEnds.{items_ranged}
use Rattle.lower_methods.proofs.method_rows.rows_with_lines.Goals as goal

pub generics-requires-clause-parts : goal.generics-requires-clause-parts
generics-requires-clause-parts c =
    let f = c.requires.forest in
    (items_and_ends f.0, subst (λ xs. ArePieces c.args.nodes.now xs (items_and_ends f.0)) (sym c.as_slice.ensures) (c.in_ok-found.ensures f.0 f.1))

pub params-requires : goal.params-requires
params-requires c =
    let f = c.requires.forest in
    record {
      forest = f;
      parts = (items_and_ends f.0, subst (λ xs. ArePieces c.args.nodes.now xs (items_and_ends f.0)) (sym c.as_slice-2.ensures) (c.in_ok-found.ensures f.0 f.1));
      few = c.requires.few;
    }

pub own_attributes-requires-clause-parts : goal.own_attributes-requires-clause-parts
own_attributes-requires-clause-parts c =
    let f = c.requires.forest in
    (items_and_ends f.0, subst (λ xs. ArePieces c.args.nodes.now xs (items_and_ends f.0)) (sym c.as_slice-3.ensures) (c.in_ok-found.ensures f.0 f.1))

pub returns : goal.returns
returns c s a x f in_it e each held =
    let nodes = c.args.nodes.now in
    let ps = items_and_ends f in
    let found = c.in_ok-found.ensures f e in
    let ranged = items_ranged s f each in
    let names : c.args.place.now.method.now ≡ typar_names s f = x.method ∙ ap (typar_names s) in_it in
    let few : length c.args.place.now.method.now < 2 ^ 32 = subst (λ (ns : List (List ℕ)). length ns < 2 ^ 32) (sym x.method) x.few-method in
    record {
      generics-are = c.in_ok-generics.ensures s a x f ps e each names few (subst (λ xs. ArePieces nodes xs ps) (sym c.as_slice.ensures) found) ranged;
      parameters-are = c.in_ok-params.ensures s a x f e each (subst (λ xs. ArePieces nodes xs ps) (sym c.as_slice-2.ensures) found);
      overrides-are = c.in_ok-overrides.ensures s a x f e each held;
      attributes-are = c.in_ok-attributes.ensures s a x f each (subst (λ xs. ArePieces nodes xs ps) (sym c.as_slice-3.ensures) found);
    }
