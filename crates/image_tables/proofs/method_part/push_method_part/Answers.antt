use Rattle.std.proofs.Common.{ap, sym, ◌∙◌, subst, ℕ, ◌+◌, ◌<◌, ◌≤◌, ◌^◌, List, length}
use Rattle.std.specs.Prelude.{sum_by}
use Rattle.std.specs.List.{AllByRecursion}
use Rattle.assembly_tree.specs.declared.members.Param.{Param}
use Rattle.metadata_tables.specs.Encoding.{rows_in}
use Rattle.image_tokens.specs.References.{size}
use Rattle.image_rows.specs.FieldRows.{AddsItems}
use Rattle.image_rows.specs.MethodRows.{placed_methods, IsMethodRow}
use Rattle.image_rows.specs.ParamRows.{all_params, param_bytes, IsParamRow, IsPlainParam}
use Rattle.image_members.specs.Places.{lent}
use Rattle.image_members.specs.Pushing.{Pushes}
use Rattle.image_rows.proofs.FieldLemmas.{lent_long}
use Rattle.image_tables.proofs.MethodPart.{bodies_can, methods_can, as_many_bodies, few_methods, few_runs, plain_params, params_room, few_params, declared_long, methods_few, overrides_pushable, methods_filled, code_lengthened}
use Rattle.image_tables.proofs.OrderLemmas.{params_same}
use Rattle.image_tables.proofs.method_part.push_method_part.Goals as goal

pub push_bodies-requires : goal.push_bodies-requires
push_bodies-requires c =
    bodies_can c.args.a.now c.args.classes.now c.as_slice-methods.result.now (ap lent c.as_slice-methods.ensures ∙ c.requires.ordered.methods) c.args.refs.now c.args.rows.now c.args.code.now c.requires.ready
    c.requires.long

pub push_methods-requires-clause-declared : goal.push_methods-requires-clause-declared
push_methods-requires-clause-declared c =
    methods_can c.args.a.now c.args.classes.now c.as_slice-methods.result.now (ap lent c.as_slice-methods.ensures ∙ c.requires.ordered.methods) c.args.refs.now c.args.rows.now c.args.code.now c.requires.ready
    c.push_bodies.new.refs c.push_bodies.new.code c.in_ok-bodies.bodies c.in_ok-bodies.ensures

pub push_methods-requires-clause-bodies : goal.push_methods-requires-clause-bodies
push_methods-requires-clause-bodies c =
    ap (length {A = ℕ}) c.as_slice.ensures
    ∙ as_many_bodies c.args.a.now c.args.classes.now c.as_slice-methods.result.now (ap lent c.as_slice-methods.ensures ∙ c.requires.ordered.methods) c.args.refs.now c.args.rows.now c.args.code.now c.requires.ready
    c.push_bodies.new.refs c.push_bodies.new.code c.in_ok-bodies.bodies c.in_ok-bodies.ensures

pub push_methods-requires-clause-few : goal.push_methods-requires-clause-few
push_methods-requires-clause-few c =
    few_methods c.args.a.now c.args.classes.now c.as_slice-methods.result.now (ap lent c.as_slice-methods.ensures ∙ c.requires.ordered.methods) c.args.refs.now c.args.rows.now c.args.code.now c.requires.ready
    c.push_bodies.new.refs c.push_bodies.new.code c.in_ok-bodies.bodies c.in_ok-bodies.ensures

pub push_methods-requires-clause-runs : goal.push_methods-requires-clause-runs
push_methods-requires-clause-runs c =
    few_runs c.args.a.now c.args.classes.now c.as_slice-methods.result.now (ap lent c.as_slice-methods.ensures ∙ c.requires.ordered.methods) c.args.refs.now c.args.rows.now c.args.code.now c.requires.ready
    c.push_bodies.new.refs c.push_bodies.new.code c.in_ok-bodies.bodies c.in_ok-bodies.ensures

pub push_params-requires-clause-known : goal.push_params-requires-clause-known
push_params-requires-clause-known c = c.in_ok-bodies.ensures.known

pub push_params-requires-clause-plain : goal.push_params-requires-clause-plain
push_params-requires-clause-plain c =
    subst (λ (ps : List Param). AllByRecursion IsPlainParam ps) (sym (ap lent c.as_slice-2.ensures ∙ c.requires.ordered.params ∙ params_same c.args.a.now c.args.classes.now))
    (plain_params c.args.a.now c.args.classes.now c.as_slice-methods.result.now (ap lent c.as_slice-methods.ensures ∙ c.requires.ordered.methods) c.args.refs.now c.args.rows.now c.args.code.now c.requires.ready
    c.push_bodies.new.refs c.push_bodies.new.code c.in_ok-bodies.bodies c.in_ok-bodies.ensures)

pub push_params-requires-clause-few : goal.push_params-requires-clause-few
push_params-requires-clause-few c =
    let rows : AddsItems 0x06 (IsMethodRow c.len.result c.push_bodies.new.refs) (placed_methods 1 c.in_ok-bodies.bodies (lent c.as_slice-methods.result.now)) c.args.rows.now c.push_methods.new.rows =
    subst (λ (rvas : List ℕ). AddsItems 0x06 (IsMethodRow c.len.result c.push_bodies.new.refs) (placed_methods 1 rvas (lent c.as_slice-methods.result.now)) c.args.rows.now c.push_methods.new.rows) c.as_slice.ensures
    c.in_ok-push_methods.ensures in
    subst (λ (ps : List Param). rows_in c.push_methods.new.rows 0x08 + length ps < 2 ^ 24) (sym (ap lent c.as_slice-2.ensures ∙ c.requires.ordered.params ∙ params_same c.args.a.now c.args.classes.now))
    (few_params c.args.a.now c.args.classes.now c.as_slice-methods.result.now (ap lent c.as_slice-methods.ensures ∙ c.requires.ordered.methods) c.args.refs.now c.args.rows.now c.args.code.now c.requires.ready
    c.push_bodies.new.refs c.push_bodies.new.code c.in_ok-bodies.bodies c.in_ok-bodies.ensures c.len.result
    (c.len.ensures ∙ sym (lent_long c.args.ordered.now.params) ∙ ap (length {A = Param}) c.requires.ordered.params) c.push_methods.new.rows rows)

pub push_params-requires-clause-room : goal.push_params-requires-clause-room
push_params-requires-clause-room c =
    subst (λ (ps : List Param). size c.push_bodies.new.refs + sum_by param_bytes ps ≤ 2 ^ 26) (sym (ap lent c.as_slice-2.ensures ∙ c.requires.ordered.params ∙ params_same c.args.a.now c.args.classes.now))
    (params_room c.args.a.now c.args.classes.now c.as_slice-methods.result.now (ap lent c.as_slice-methods.ensures ∙ c.requires.ordered.methods) c.args.refs.now c.args.rows.now c.args.code.now c.requires.ready
    c.push_bodies.new.refs c.push_bodies.new.code c.in_ok-bodies.bodies c.in_ok-bodies.ensures)

pub push_all_overrides-requires-clause-declared : goal.push_all_overrides-requires-clause-declared
push_all_overrides-requires-clause-declared c =
    let rows : AddsItems 0x06 (IsMethodRow c.len.result c.push_bodies.new.refs) (placed_methods 1 c.in_ok-bodies.bodies (lent c.as_slice-methods.result.now)) c.args.rows.now c.push_methods.new.rows =
    subst (λ (rvas : List ℕ). AddsItems 0x06 (IsMethodRow c.len.result c.push_bodies.new.refs) (placed_methods 1 rvas (lent c.as_slice-methods.result.now)) c.args.rows.now c.push_methods.new.rows) c.as_slice.ensures
    c.in_ok-push_methods.ensures in
    let params : Pushes 0x08 IsParamRow param_bytes (all_params c.args.a.now.methods c.args.classes.now) c.push_bodies.new.refs c.push_params.new.refs c.push_methods.new.rows c.push_params.new.rows =
    subst (λ (ps : List Param). Pushes 0x08 IsParamRow param_bytes ps c.push_bodies.new.refs c.push_params.new.refs c.push_methods.new.rows c.push_params.new.rows)
    (ap lent c.as_slice-2.ensures ∙ c.requires.ordered.params ∙ params_same c.args.a.now c.args.classes.now) c.in_ok-push_params.ensures in
    declared_long c.args.a.now c.args.classes.now c.as_slice-methods.result.now (ap lent c.as_slice-methods.ensures ∙ c.requires.ordered.methods) c.args.refs.now c.args.rows.now c.args.code.now c.requires.ready
    c.push_bodies.new.refs c.push_bodies.new.code c.in_ok-bodies.bodies c.in_ok-bodies.ensures c.len.result
    (c.len.ensures ∙ sym (lent_long c.args.ordered.now.params) ∙ ap (length {A = Param}) c.requires.ordered.params) c.push_methods.new.rows rows c.push_params.new.refs c.push_params.new.rows params

pub push_all_overrides-requires-clause-count : goal.push_all_overrides-requires-clause-count
push_all_overrides-requires-clause-count c =
    let rows : AddsItems 0x06 (IsMethodRow c.len.result c.push_bodies.new.refs) (placed_methods 1 c.in_ok-bodies.bodies (lent c.as_slice-methods.result.now)) c.args.rows.now c.push_methods.new.rows =
    subst (λ (rvas : List ℕ). AddsItems 0x06 (IsMethodRow c.len.result c.push_bodies.new.refs) (placed_methods 1 rvas (lent c.as_slice-methods.result.now)) c.args.rows.now c.push_methods.new.rows) c.as_slice.ensures
    c.in_ok-push_methods.ensures in
    let params : Pushes 0x08 IsParamRow param_bytes (all_params c.args.a.now.methods c.args.classes.now) c.push_bodies.new.refs c.push_params.new.refs c.push_methods.new.rows c.push_params.new.rows =
    subst (λ (ps : List Param). Pushes 0x08 IsParamRow param_bytes ps c.push_bodies.new.refs c.push_params.new.refs c.push_methods.new.rows c.push_params.new.rows)
    (ap lent c.as_slice-2.ensures ∙ c.requires.ordered.params ∙ params_same c.args.a.now c.args.classes.now) c.in_ok-push_params.ensures in
    methods_few c.args.a.now c.args.classes.now c.as_slice-methods.result.now (ap lent c.as_slice-methods.ensures ∙ c.requires.ordered.methods) c.args.refs.now c.args.rows.now c.args.code.now c.requires.ready
    c.push_bodies.new.refs c.push_bodies.new.code c.in_ok-bodies.bodies c.in_ok-bodies.ensures c.len.result
    (c.len.ensures ∙ sym (lent_long c.args.ordered.now.params) ∙ ap (length {A = Param}) c.requires.ordered.params) c.push_methods.new.rows rows c.push_params.new.refs c.push_params.new.rows params

pub push_all_overrides-requires-clause-can : goal.push_all_overrides-requires-clause-can
push_all_overrides-requires-clause-can c =
    let rows : AddsItems 0x06 (IsMethodRow c.len.result c.push_bodies.new.refs) (placed_methods 1 c.in_ok-bodies.bodies (lent c.as_slice-methods.result.now)) c.args.rows.now c.push_methods.new.rows =
    subst (λ (rvas : List ℕ). AddsItems 0x06 (IsMethodRow c.len.result c.push_bodies.new.refs) (placed_methods 1 rvas (lent c.as_slice-methods.result.now)) c.args.rows.now c.push_methods.new.rows) c.as_slice.ensures
    c.in_ok-push_methods.ensures in
    let params : Pushes 0x08 IsParamRow param_bytes (all_params c.args.a.now.methods c.args.classes.now) c.push_bodies.new.refs c.push_params.new.refs c.push_methods.new.rows c.push_params.new.rows =
    subst (λ (ps : List Param). Pushes 0x08 IsParamRow param_bytes ps c.push_bodies.new.refs c.push_params.new.refs c.push_methods.new.rows c.push_params.new.rows)
    (ap lent c.as_slice-2.ensures ∙ c.requires.ordered.params ∙ params_same c.args.a.now c.args.classes.now) c.in_ok-push_params.ensures in
    overrides_pushable c.args.a.now c.args.classes.now c.as_slice-methods.result.now (ap lent c.as_slice-methods.ensures ∙ c.requires.ordered.methods) c.args.refs.now c.args.rows.now c.args.code.now c.requires.ready
    c.push_bodies.new.refs c.push_bodies.new.code c.in_ok-bodies.bodies c.in_ok-bodies.ensures c.len.result
    (c.len.ensures ∙ sym (lent_long c.args.ordered.now.params) ∙ ap (length {A = Param}) c.requires.ordered.params) c.push_methods.new.rows rows c.push_params.new.refs c.push_params.new.rows params
    c.overrides_are_counted.ensures

pub returns-clause-fills : goal.returns-clause-fills
returns-clause-fills c =
    let rows : AddsItems 0x06 (IsMethodRow c.len.result c.push_bodies.new.refs) (placed_methods 1 c.in_ok-bodies.bodies (lent c.as_slice-methods.result.now)) c.args.rows.now c.push_methods.new.rows =
    subst (λ (rvas : List ℕ). AddsItems 0x06 (IsMethodRow c.len.result c.push_bodies.new.refs) (placed_methods 1 rvas (lent c.as_slice-methods.result.now)) c.args.rows.now c.push_methods.new.rows) c.as_slice.ensures
    c.in_ok-push_methods.ensures in
    let params : Pushes 0x08 IsParamRow param_bytes (all_params c.args.a.now.methods c.args.classes.now) c.push_bodies.new.refs c.push_params.new.refs c.push_methods.new.rows c.push_params.new.rows =
    subst (λ (ps : List Param). Pushes 0x08 IsParamRow param_bytes ps c.push_bodies.new.refs c.push_params.new.refs c.push_methods.new.rows c.push_params.new.rows)
    (ap lent c.as_slice-2.ensures ∙ c.requires.ordered.params ∙ params_same c.args.a.now c.args.classes.now) c.in_ok-push_params.ensures in
    methods_filled c.args.a.now c.args.classes.now c.as_slice-methods.result.now (ap lent c.as_slice-methods.ensures ∙ c.requires.ordered.methods) c.args.refs.now c.args.rows.now c.args.code.now c.requires.ready
    c.push_bodies.new.refs c.push_bodies.new.code c.in_ok-bodies.bodies c.in_ok-bodies.ensures c.len.result
    (c.len.ensures ∙ sym (lent_long c.args.ordered.now.params) ∙ ap (length {A = Param}) c.requires.ordered.params) c.push_methods.new.rows rows c.push_params.new.refs c.push_params.new.rows params
    c.push_all_overrides.new.refs c.push_all_overrides.new.rows c.overrides_are_counted.ensures c.in_ok-push_all_overrides.ensures

pub returns-clause-lengthens : goal.returns-clause-lengthens
returns-clause-lengthens c =
    code_lengthened c.args.a.now c.args.classes.now c.as_slice-methods.result.now (ap lent c.as_slice-methods.ensures ∙ c.requires.ordered.methods) c.args.refs.now c.args.rows.now c.args.code.now c.requires.ready
    c.push_bodies.new.refs c.push_bodies.new.code c.in_ok-bodies.bodies c.in_ok-bodies.ensures
