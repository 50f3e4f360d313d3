use Rattle.std.proofs.Common.{◌≡◌, ◌∙◌, ap, sym, ◌+◌, ◌<◌, ◌≤◌, [], ◌∷◌, drop, drop_of_length-le, length, arith}
use Rattle.std.specs.Borrow.{Bor}
use Rattle.std.proofs.lemmas.List.{drop_more}
use Rattle.assembly_tree.specs.declared.members.Method.{Method}
use Rattle.image_rows.proofs.OverrideLemmas.{overrides_begin, place_within, place_few, overrides_can, overrides_on, overrides_end}
use Rattle.image_rows.proofs.override_rows.push_all_overrides.Goals as goal

pub loop-method-init : goal.loop-method-init
loop-method-init c = overrides_begin c.args.refs.now c.args.rows.now c.args.methods.now c.requires.declared c.requires.count c.requires.can

pub at-declared-requires : goal.at-declared-requires
at-declared-requires c =
    let xs = c.args.methods.now in
    let i = c.loop-method.method-index in
    let x = c.method-item.result in
    let here : drop i xs ≡ x ∷ drop (i + 1) xs = drop_more xs i x (omega arith) ∙ ap (λ (y : Bor Method). y ∷ drop (i + 1) xs) (sym c.method-item.is) in
    place_within c.args.refs.now c.loop-method.refs c.args.rows.now c.loop-method.rows c.loop-method.place xs (drop i xs) (drop (i + 1) xs) x here c.loop-method.invariant

pub push_overrides-requires-clause-row : goal.push_overrides-requires-clause-row
push_overrides-requires-clause-row c =
    let xs = c.args.methods.now in
    let i = c.loop-method.method-index in
    let x = c.method-item.result in
    let here : drop i xs ≡ x ∷ drop (i + 1) xs = drop_more xs i x (omega arith) ∙ ap (λ (y : Bor Method). y ∷ drop (i + 1) xs) (sym c.method-item.is) in
    place_few c.args.refs.now c.loop-method.refs c.args.rows.now c.loop-method.rows c.loop-method.place xs (drop i xs) (drop (i + 1) xs) x here c.loop-method.invariant

pub push_overrides-requires-clause-can : goal.push_overrides-requires-clause-can
push_overrides-requires-clause-can c =
    let xs = c.args.methods.now in
    let i = c.loop-method.method-index in
    let x = c.method-item.result in
    let here : drop i xs ≡ x ∷ drop (i + 1) xs = drop_more xs i x (omega arith) ∙ ap (λ (y : Bor Method). y ∷ drop (i + 1) xs) (sym c.method-item.is) in
    overrides_can c.args.refs.now c.loop-method.refs c.args.rows.now c.loop-method.rows c.loop-method.place xs (drop i xs) (drop (i + 1) xs) x here c.loop-method.invariant c.at-declared.result c.at-declared.ensures c.as_slice.result.now c.as_slice.ensures

pub loop-method-preserved : goal.loop-method-preserved
loop-method-preserved c =
    let xs = c.args.methods.now in
    let i = c.loop-method.method-index in
    let x = c.method-item.result in
    let here : drop i xs ≡ x ∷ drop (i + 1) xs = drop_more xs i x (omega arith) ∙ ap (λ (y : Bor Method). y ∷ drop (i + 1) xs) (sym c.method-item.is) in
    overrides_on c.args.refs.now c.loop-method.refs c.args.rows.now c.loop-method.rows c.loop-method.place xs (drop i xs) (drop (i + 1) xs) x here c.loop-method.invariant c.at-declared.result c.at-declared.ensures c.as_slice.result.now c.as_slice.ensures c.push_overrides.new.refs c.push_overrides.new.rows
    c.in_ok-push_overrides.ensures

pub returns : goal.returns
returns c =
    let xs = c.args.methods.now in
    let i = c.loop-method.method-index in
    overrides_end c.args.refs.now c.loop-method.refs c.args.rows.now c.loop-method.rows c.loop-method.place xs (drop i xs) (drop_of_length-le xs {i = i} (omega arith)) c.loop-method.invariant
