use Rattle.std.proofs.Common.{◌≡◌, ℕ, ◌∙◌, List, ap, sym, subst, reverse, arith}
use Rattle.metadata_tables.specs.Stream.{row_count}
use Rattle.assembly_tree.specs.declared.typedef.TypeDef.{TypeDef}
use Rattle.image_model.specs.Reading.{AreTypes}
use Rattle.image_model.specs.Rows.{count_of, enclosing, types_in}
use Rattle.image_source.specs.Names.{names_of}
use Rattle.row_parts.proofs.Zips.{if_ok}
use Rattle.image_trees.proofs.Finding.{module_type_there}
use Rattle.image_trees.proofs.Nested.{enclosing_before, hold_none, one_put, outer_place, top_types}
use Rattle.image_trees.proofs.nesting.top_types.Goals as goal

pub loop-row-init : goal.loop-row-init
loop-row-init c =
    let image = c.args.source.now.image.now in
    let all : c.rows-row.result ≡ count_of image 0x02 = c.rows-row.ensures.rows ∙ ap (λ stream. row_count stream 0x02) c.tables.ensures.tables in
    let some = (module_type_there image c.requires.ready.structure).1 in
    hold_none image (names_of c.args.source.now.kept.now) c.rows-row.result c.in_ok-lists.lists.items all (omega (arith, all, some)) c.in_ok-lists.ensures

pub put-requires : goal.put-requires
put-requires c =
    let image = c.args.source.now.image.now in
    outer_place image (names_of c.args.source.now.kept.now) (enclosing_before image c.requires.nesting) c.loop-row.row c.of.result c.loop-row.lists.items c.take_list-inner.new.lists.items c.loop-row-test.true
    c.loop-row.invariant c.take_list-inner.ensures.lists (c.of.ensures ∙ ap (λ (i : List ℕ). enclosing i c.loop-row.row) c.requires.outers)

pub loop-row-preserved : goal.loop-row-preserved
loop-row-preserved c =
    let image = c.args.source.now.image.now in
    one_put image (names_of c.args.source.now.kept.now) (enclosing_before image c.requires.nesting) c.loop-row.row c.of.result c.loop-row.lists.items c.take_list-inner.new.lists.items c.put.new.lists.items
    c.take_list-inner.result c.in_ok-nested.nested c.in_ok-read.read c.loop-row-test.true c.loop-row.invariant c.take_list-inner.ensures.list c.take_list-inner.ensures.lists c.in_ok-nested.ensures
    c.in_ok-read.ensures (c.of.ensures ∙ ap (λ (i : List ℕ). enclosing i c.loop-row.row) c.requires.outers) c.in_ok-put.ensures

pub returns : goal.returns
returns c =
    let image = c.args.source.now.image.now in
    let names = names_of c.args.source.now.kept.now in
    let are = top_types image names (enclosing_before image c.requires.nesting) c.loop-row.row c.loop-row.lists.items (let t = c.loop-row-test.false in omega arith) c.loop-row.invariant in
    if_ok (λ (ts : List TypeDef). ts ≡ reverse c.take_list-top.result) (AreTypes image names (types_in image 0)) c.turned-2.result
    (λ (ts : List TypeDef) e. subst (λ (all : List TypeDef). AreTypes image names (types_in image 0) all) (sym (e ∙ ap reverse c.take_list-top.ensures.list)) are) c.turned-2.ensures
