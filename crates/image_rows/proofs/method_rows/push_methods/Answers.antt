use Rattle.std.proofs.Common.{◌≡◌, ◌∙◌, ap, sym, subst, ℕ, ◌+◌, ◌<◌, ◌≤◌, ◌∷◌, [], drop, drop_of_length-le, length, arith}
use Rattle.std.specs.Borrow.{Bor}
use Rattle.std.specs.Prelude.{slice_index}
use Rattle.std.proofs.lemmas.List.{drop_more}
use Rattle.assembly_tree.specs.declared.members.Method.{Method}
use Rattle.image_rows.specs.MethodRows.{PlacedMethod, method_cells}
use Rattle.image_members.specs.Pushing.{AddsRows}
use Rattle.image_rows.proofs.MethodRowLemmas.{MethodsTo, methods_begin, methods_within, bodies_within, methods_few, params_few, methods_on, methods_end}
use Rattle.image_rows.proofs.method_rows.push_methods.Goals as goal

pub loop-method-init : goal.loop-method-init
loop-method-init c = methods_begin c.args.params c.args.refs.now c.args.rows.now c.args.bodies.now c.args.methods.now c.requires.declared c.requires.bodies c.requires.few c.requires.runs

pub at-cells-requires : goal.at-cells-requires
at-cells-requires c =
    let xs = c.args.methods.now in
    let i = c.loop-method.method-index in
    let x = c.method-item.result in
    let here : drop i xs ≡ x ∷ drop (i + 1) xs = drop_more xs i x (omega arith) ∙ ap (λ (y : Bor Method). y ∷ drop (i + 1) xs) (sym c.method-item.is) in
    methods_within c.args.params c.args.refs.now c.args.rows.now c.loop-method.rows c.loop-method.place c.loop-method.param c.args.bodies.now xs (drop i xs) (drop (i + 1) xs) x here c.loop-method.invariant

pub bounds-bodies-place : goal.bounds-bodies-place
bounds-bodies-place c =
    let xs = c.args.methods.now in
    let i = c.loop-method.method-index in
    let x = c.method-item.result in
    let here : drop i xs ≡ x ∷ drop (i + 1) xs = drop_more xs i x (omega arith) ∙ ap (λ (y : Bor Method). y ∷ drop (i + 1) xs) (sym c.method-item.is) in
    bodies_within c.args.params c.args.refs.now c.args.rows.now c.loop-method.rows c.loop-method.place c.loop-method.param c.args.bodies.now xs (drop i xs) (drop (i + 1) xs) x here c.loop-method.invariant

pub push_method-requires : goal.push_method-requires
push_method-requires c =
    let xs = c.args.methods.now in
    let i = c.loop-method.method-index in
    let x = c.method-item.result in
    let here : drop i xs ≡ x ∷ drop (i + 1) xs = drop_more xs i x (omega arith) ∙ ap (λ (y : Bor Method). y ∷ drop (i + 1) xs) (sym c.method-item.is) in
    methods_few c.args.params c.args.refs.now c.args.rows.now c.loop-method.rows c.loop-method.place c.loop-method.param c.args.bodies.now xs (drop i xs) (drop (i + 1) xs) x here c.loop-method.invariant

pub overflow_add-place : goal.overflow_add-place
overflow_add-place c = let within = c.loop-method.invariant.within in let bound = c.loop-method.invariant.bound in omega arith

pub loop-method-preserved : goal.loop-method-preserved
loop-method-preserved c =
    let xs = c.args.methods.now in
    let i = c.loop-method.method-index in
    let x = c.method-item.result in
    let here : drop i xs ≡ x ∷ drop (i + 1) xs = drop_more xs i x (omega arith) ∙ ap (λ (y : Bor Method). y ∷ drop (i + 1) xs) (sym c.method-item.is) in
    let cells = c.at-cells.result in
    let from = c.loop-method.rows in
    let to = c.push_method.new.rows in
    let param = c.loop-method.param in
    let one : AddsRows 0x06 (method_cells c.args.params (record { method = x.now; rva = slice_index c.args.bodies.now c.loop-method.place; param = param }) cells.second cells.third ∷ []) from to =
    subst (λ (n : ℕ). AddsRows 0x06 ((slice_index c.args.bodies.now c.loop-method.place ∷ x.now.impl_flags ∷ x.now.flags ∷ cells.second ∷ cells.third ∷ n ∷ []) ∷ []) from to) c.run_cell.ensures c.in_ok-push_method.ensures in
    subst (λ (n : ℕ). MethodsTo c.args.params c.args.refs.now c.args.rows.now to (c.loop-method.place + 1) (param + n) c.args.bodies.now xs (drop (i + 1) xs)) (sym c.len.ensures)
    (methods_on c.args.params c.args.refs.now c.args.rows.now c.loop-method.rows c.loop-method.place c.loop-method.param c.args.bodies.now xs (drop i xs) (drop (i + 1) xs) x here c.loop-method.invariant cells to c.at-cells.ensures one)

pub returns : goal.returns
returns c =
    let xs = c.args.methods.now in
    let i = c.loop-method.method-index in
    methods_end c.args.params c.args.refs.now c.args.rows.now c.loop-method.rows c.loop-method.place c.loop-method.param c.args.bodies.now xs (drop i xs) (drop_of_length-le xs {i = i} (omega arith)) c.loop-method.invariant
