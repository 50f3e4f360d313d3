use Rattle.std.proofs.Common.{◌≡◌, ◌∙◌, ◌<◌, sym, List, subst, refl, length, rules}
use Rattle.std.specs.List.{flat_map}
use Rattle.std.proofs.lemmas.Option.{slice_get_read}
use Rattle.type_terms.specs.declared.name.TypeId.{TypeId}
use Rattle.assembly_tree.specs.declared.typedef.TypeDef.{TypeDef}
use Rattle.assembly_tree.specs.declared.typedef.TypeDef.TheViews.{out-TypeDef}
use Rattle.type_hierarchy.specs.Ancestors.{typedef_paths}
use Rattle.type_tables.specs.Indexing.{IsIndexed}
use Rattle.type_tables.specs.Placed.{IsGrown, placed}
use Rattle.type_tables.specs.Places.{row}
use Rattle.type_tables.proofs.IndexLemmas.{indexed_none, indexed_both, indexed_inside}
use Rattle.type_tables.proofs.Placing.{none_placed, step_placed, type_placed, grown_none, grown_both, grown_inside, contains_at}
use Rattle.type_tables.proofs.places.+add_types.Goals as goal

pub loop-index-init : goal.loop-index-init
loop-index-init t c = record {
  names = sym (none_placed c.args.scope c.args.outer.now c.args.into.now.names);
  types = grown_none c.args.scope c.args.outer.now c.args.member c.args.types.now (row c.args.into.now);
  indexes = indexed_none c.args.scope c.args.outer.now c.args.types.now c.args.into.now;
}

pub loop-index-preserved : goal.loop-index-preserved
loop-index-preserved t c =
    let scope = c.args.scope in
    let outer = c.args.outer.now in
    let ts = c.args.types.now in
    let from = c.args.member in
    let of = c.index-types-index.result in
    let path = c.in_ok-path.path in
    let first = row c.args.into.now in
    let now = row c.loop-index.into in
    let middle = row c.add_type.new.into in
    let last = row c.add_types.new.into in
    let mid = c.add_type.new.into.names in
    let next = c.add_types.new.into.names in
    let below : next ≡ placed scope path mid (flat_map typedef_paths (out-TypeDef of).nested) =
    c.in_ok-add_types.ensures.names
    ∙ (λ i. placed scope (c.as_slice.ensures.ids i) mid (flat_map typedef_paths (c.as_slice-in-loop-index.ensures i))) in
    let low : c.loop-index.index < length ts = search rules in
    let within = contains_at ts c.loop-index.index of low c.index-types-index.is in
    let own : IsGrown scope outer from ts now middle = c.in_ok-add_type.ensures.types outer ts within c.in_ok-path.ensures in
    let those : IsGrown scope path from (out-TypeDef of).nested middle last =
    subst (λ (p : List TypeId). IsGrown scope p from (out-TypeDef of).nested middle last) c.as_slice.ensures.ids
    (subst (λ (us : List TypeDef). IsGrown scope c.as_slice.result.now from us middle last) c.as_slice-in-loop-index.ensures c.in_ok-add_types.ensures.types) in
    let typed = slice_get_read ts (length ts) c.loop-index.index of refl low c.index-types-index.is in
    let beside : IsIndexed scope outer ts c.loop-index.into c.add_type.new.into = c.in_ok-add_type.ensures.indexes outer ts typed c.in_ok-path.ensures in
    let inside : IsIndexed scope path (out-TypeDef of).nested c.add_type.new.into c.add_types.new.into =
    subst (λ (p : List TypeId). IsIndexed scope p (out-TypeDef of).nested c.add_type.new.into c.add_types.new.into) c.as_slice.ensures.ids
    (subst (λ (us : List TypeDef). IsIndexed scope c.as_slice.result.now us c.add_type.new.into c.add_types.new.into) c.as_slice-in-loop-index.ensures c.in_ok-add_types.ensures.indexes) in
    record {
      names = step_placed scope outer c.args.into.now.names c.loop-index.into.names next ts c.loop-index.index of
          c.loop-index.invariant.names (type_placed scope outer path of c.loop-index.into.names mid next c.in_ok-path.ensures c.in_ok-add_type.ensures.names below)
          low c.index-types-index.is;
      types = grown_both scope outer from ts first now last c.loop-index.invariant.types
          (grown_both scope outer from ts now middle last own (grown_inside scope outer path from ts of middle last within c.in_ok-path.ensures those));
      indexes = indexed_both scope outer ts c.args.into.now c.loop-index.into c.add_types.new.into c.loop-index.invariant.indexes
          (indexed_both scope outer ts c.loop-index.into c.add_type.new.into c.add_types.new.into beside
          (indexed_inside scope outer path ts of c.add_type.new.into c.add_types.new.into within c.in_ok-path.ensures inside));
    }
