use Rattle.std.proofs.Common.{◌≡◌, ap, refl, sym, ◌∙◌, subst, ℕ, ◌+◌, ◌≤◌, List, length, arith}
use Rattle.std.specs.List.{AllByRecursion}
use Rattle.assembly_tree.specs.declared.members.Field.{Field}
use Rattle.assembly_tree.specs.declared.members.Method.{Method}
use Rattle.image_tokens.proofs.GrowthLemmas.{grows_refl}
use Rattle.image_members.specs.Places.{all_fields, all_methods}
use Rattle.image_members.specs.Pushing.{Pushes}
use Rattle.image_rows.specs.TypeRows.{numbered, numbered_weight, IsTypeDefRow}
use Rattle.image_rows.proofs.FieldLemmas.{lent_long}
use Rattle.image_tables.proofs.TypePart.{module_stands, no_types, classes_count, fields_few, methods_few, few_types, type_rows_added}
use Rattle.image_tables.proofs.type_part.push_all_types.Goals as goal

pub push_module_type-requires-clause-stands : goal.push_module_type-requires-clause-stands
push_module_type-requires-clause-stands c = module_stands c.args.classes.now c.args.refs.now c.requires.ready.declared.types

pub push_module_type-requires-clause-few : goal.push_module_type-requires-clause-few
push_module_type-requires-clause-few c = no_types c.args.a.now c.args.classes.now c.args.refs.now c.args.rows.now c.requires.ready

pub overflow_add-first : goal.overflow_add-first
overflow_add-first c = let few = c.requires.ready.few.fields_counted in let long = c.len-3.ensures in omega arith

pub overflow_add-first-2 : goal.overflow_add-first-2
overflow_add-first-2 c = let few = c.requires.ready.few.methods_counted in let long = c.len-4.ensures in omega arith

pub overflow_cast-first : goal.overflow_cast-first
overflow_cast-first c = let few = c.requires.ready.few.fields_counted in let long = c.len-3.ensures in omega arith

pub overflow_cast-first-2 : goal.overflow_cast-first-2
overflow_cast-first-2 c = let few = c.requires.ready.few.methods_counted in let long = c.len-4.ensures in omega arith

pub push_types-requires-clause-known : goal.push_types-requires-clause-known
push_types-requires-clause-known c = c.requires.ready.known

pub push_types-requires-clause-declared : goal.push_types-requires-clause-declared
push_types-requires-clause-declared c = c.requires.ready.declared.types

pub push_types-requires-clause-bases : goal.push_types-requires-clause-bases
push_types-requires-clause-bases c = (c.requires.ready.can c.args.refs.now (grows_refl c.args.refs.now)).bases

pub push_types-requires-clause-few : goal.push_types-requires-clause-few
push_types-requires-clause-few c =
    few_types c.args.a.now c.args.classes.now c.args.refs.now c.args.rows.now c.requires.ready c.len.result c.len-2.result c.push_module_type.new.rows c.in_ok-push_module_type.ensures

pub push_types-requires-clause-count : goal.push_types-requires-clause-count
push_types-requires-clause-count c = classes_count c.args.a.now c.args.classes.now c.args.refs.now c.args.rows.now c.requires.ready

pub push_types-requires-clause-fields : goal.push_types-requires-clause-fields
push_types-requires-clause-fields c = let few = c.requires.ready.few.fields_counted in let long = c.len-3.ensures in omega arith

pub push_types-requires-clause-methods : goal.push_types-requires-clause-methods
push_types-requires-clause-methods c = let few = c.requires.ready.few.methods_counted in let long = c.len-4.ensures in omega arith

pub push_types-requires-clause-room : goal.push_types-requires-clause-room
push_types-requires-clause-room c = c.requires.ready.room

pub returns : goal.returns
returns c =
    let fields : c.len-3.result + 1 ≡ 1 + length c.args.a.now.fields = let long = c.len-3.ensures in omega arith in
    let methods : c.len-4.result + 1 ≡ 1 + length c.args.a.now.methods = let long = c.len-4.ensures in omega arith in
    type_rows_added c.args.a.now c.args.classes.now c.args.refs.now c.args.rows.now c.requires.ready c.len.result c.len-2.result c.push_module_type.new.rows c.in_ok-push_module_type.ensures
    c.push_types.new.refs c.push_types.new.rows
    (c.len.ensures ∙ sym (lent_long c.args.ordered.now.fields) ∙ ap (length {A = Field}) c.requires.ordered.fields)
    (c.len-2.ensures ∙ sym (lent_long c.args.ordered.now.methods) ∙ ap (length {A = Method}) c.requires.ordered.methods)
    (subst (λ (field : ℕ). Pushes 0x02 (IsTypeDefRow c.len.result c.len-2.result) numbered_weight (numbered field (1 + length c.args.a.now.methods) c.args.classes.now) c.args.refs.now c.push_types.new.refs
    c.push_module_type.new.rows c.push_types.new.rows) fields
    (subst (λ (method : ℕ). Pushes 0x02 (IsTypeDefRow c.len.result c.len-2.result) numbered_weight (numbered (c.len-3.result + 1) method c.args.classes.now) c.args.refs.now c.push_types.new.refs
    c.push_module_type.new.rows c.push_types.new.rows) methods c.in_ok-push_types.ensures))
