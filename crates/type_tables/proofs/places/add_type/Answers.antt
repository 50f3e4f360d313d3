use Rattle.std.proofs.Common.{◌∙◌, ◌∷◌, ◌++◌, [], List, ap, sym, map, Some}
use Rattle.std.specs.Borrow.{Bor}
use Rattle.std.proofs.lemmas.List.{map-append}
use Rattle.type_terms.specs.declared.name.TypeId.{TypeId}
use Rattle.assembly_tree.specs.declared.typedef.TypeDef.{TypeDef}
use Rattle.type_hierarchy.specs.Names.{full_name}
use Rattle.type_tables.specs.Places.{row}
use Rattle.type_hierarchy.proofs.Among.{not_among}
use Rattle.type_tables.proofs.IndexLemmas.{indexed_one}
use Rattle.type_tables.proofs.Placing.{grown_one}
use Rattle.type_tables.proofs.places.add_type.Goals as goal

pub push-requires : goal.push-requires
push-requires c = λ k h.
    not_among c.args.into.now.names (full_name c.args.scope c.as_slice.result.now) (sym c.has.ensures ∙ c.if-has.false) k
    (h ∙ ap (λ p. Some (full_name c.args.scope p)) (c.in_ok-path.ensures ∙ sym c.as_slice.ensures.ids))

pub returns-clause-types : goal.returns-clause-types
returns-clause-types c = λ outer ts within e.
    let old = c.args.into.now in
    grown_one c.args.scope outer c.args.path.now c.args.member ts c.args.of.now (row old) _ within e
    (c.in_ok-push.ensures.ok ∙ ap (λ (p : List TypeId). old.names ++ full_name c.args.scope p ∷ []) c.in_ok-path.ensures)
    c.in_ok-push-2.ensures.ok
    (ap (map (λ (t : Bor TypeDef). t.now)) c.in_ok-push-3.ensures.ok ∙ map-append (λ (t : Bor TypeDef). t.now) old.types (c.args.of ∷ []))

pub returns-clause-indexes : goal.returns-clause-indexes
returns-clause-indexes c = λ outer ts typed e.
    let old = c.args.into.now in
    indexed_one c.args.scope outer c.args.path.now ts c.args.of.now c.args.index old _ typed e
    (c.in_ok-push.ensures.ok ∙ ap (λ (p : List TypeId). old.names ++ full_name c.args.scope p ∷ []) c.in_ok-path.ensures)
    c.in_ok-push-4.ensures.ok
