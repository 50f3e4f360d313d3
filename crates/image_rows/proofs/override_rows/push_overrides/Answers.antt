use Rattle.std.proofs.Common.{◌≡◌, ◌∙◌, ap, sym, ◌+◌, ◌≤◌, [], ◌∷◌, drop, drop_of_length-le, arith}
use Rattle.std.proofs.lemmas.List.{drop_more}
use Rattle.type_terms.specs.declared.reference.MethodRef.{MethodRef}
use Rattle.image_rows.specs.OverrideRows.{overrides}
use Rattle.image_members.proofs.KindLemmas.{begin, front, go_on, end}
use Rattle.image_rows.proofs.OverrideLemmas.{override_kind}
use Rattle.image_rows.proofs.override_rows.push_overrides.Goals as goal

pub loop-method-init : goal.loop-method-init
loop-method-init c = begin override_kind c.args.refs.now c.args.rows.now (overrides c.args.of c.args.body c.args.methods.now) c.requires.can

pub push_override-requires-clause-can : goal.push_override-requires-clause-can
push_override-requires-clause-can c =
    let xs = c.args.methods.now in
    let i = c.loop-method.method-index in
    let x = c.method-item.result in
    let of = overrides c.args.of c.args.body in
    let here : drop i xs ≡ x ∷ drop (i + 1) xs = drop_more xs i x (omega arith) ∙ ap (λ (y : MethodRef). y ∷ drop (i + 1) xs) (sym c.method-item.is) in
    front override_kind c.args.refs.now c.loop-method.refs c.args.rows.now c.loop-method.rows (of xs) (of (drop i xs)) (of (x ∷ [])) (of (drop (i + 1) xs)) (ap of here) c.loop-method.invariant

pub loop-method-preserved : goal.loop-method-preserved
loop-method-preserved c =
    let xs = c.args.methods.now in
    let i = c.loop-method.method-index in
    let x = c.method-item.result in
    let of = overrides c.args.of c.args.body in
    let here : drop i xs ≡ x ∷ drop (i + 1) xs = drop_more xs i x (omega arith) ∙ ap (λ (y : MethodRef). y ∷ drop (i + 1) xs) (sym c.method-item.is) in
    go_on override_kind c.args.refs.now c.loop-method.refs c.push_override.new.refs c.args.rows.now c.loop-method.rows c.push_override.new.rows (of xs) (of (drop i xs)) (of (x ∷ [])) (of (drop (i + 1) xs)) (ap of here)
    c.loop-method.invariant c.in_ok-push_override.ensures

pub returns : goal.returns
returns c =
    let xs = c.args.methods.now in
    let i = c.loop-method.method-index in
    let of = overrides c.args.of c.args.body in
    end override_kind c.args.refs.now c.loop-method.refs c.args.rows.now c.loop-method.rows (of xs) (of (drop i xs)) (ap of (drop_of_length-le xs {i = i} (omega arith))) c.loop-method.invariant
