use Rattle.std.proofs.Common.{◌≡◌, ◌∙◌, ap, sym, subst, ℕ, ◌+◌, List, ◌∷◌, Option, drop, drop_of_length-le, map, arith}
use Rattle.std.specs.Borrow.{Bor}
use Rattle.std.proofs.lemmas.List.{drop_more}
use Rattle.assembly_tree.specs.declared.body.Body.{Body}
use Rattle.assembly_tree.specs.declared.members.Method.{Method}
use Rattle.image_members.specs.CodeBytes.{body_of}
use Rattle.image_members.specs.Places.{lent}
use Rattle.image_members.proofs.CodeLemmas.{BodiesTo, bodies_begin, bodies_can, bodies_on, bodies_end}
use Rattle.image_members.proofs.bodies.push_bodies.Goals as goal

pub loop-method-init : goal.loop-method-init
loop-method-init c =
    subst (λ (rs : List ℕ). BodiesTo c.args.refs.now c.args.refs.now c.args.code.now c.args.code.now rs (map body_of (lent c.args.methods.now)) (map body_of (lent c.args.methods.now))) (sym c.in_ok-rvas.ensures)
    (bodies_begin c.args.refs.now c.args.code.now (map body_of (lent c.args.methods.now)) c.requires)

pub push_stated-requires : goal.push_stated-requires
push_stated-requires c =
    let xs = c.args.methods.now in
    let i = c.loop-method.method-index in
    let x = c.method-item.result in
    let here : drop i xs ≡ x ∷ drop (i + 1) xs = drop_more xs i x (omega arith) ∙ ap (λ (y : Bor Method). y ∷ drop (i + 1) xs) (sym c.method-item.is) in
    let of : List (Bor Method) → List (Option Body) = λ ms. map body_of (lent ms) in
    bodies_can c.args.refs.now c.loop-method.refs c.args.code.now c.loop-method.code c.loop-method.rvas (of xs) (of (drop i xs)) (of (drop (i + 1) xs)) x.now.body (ap of here) c.loop-method.invariant

pub loop-method-preserved : goal.loop-method-preserved
loop-method-preserved c =
    let xs = c.args.methods.now in
    let i = c.loop-method.method-index in
    let x = c.method-item.result in
    let here : drop i xs ≡ x ∷ drop (i + 1) xs = drop_more xs i x (omega arith) ∙ ap (λ (y : Bor Method). y ∷ drop (i + 1) xs) (sym c.method-item.is) in
    let of : List (Bor Method) → List (Option Body) = λ ms. map body_of (lent ms) in
    bodies_on c.args.refs.now c.loop-method.refs c.push_stated.new.refs c.args.code.now c.loop-method.code c.push_stated.new.code c.loop-method.rvas c.push.new.self (of xs) (of (drop i xs)) (of (drop (i + 1) xs)) x.now.body
    c.in_ok-rva.rva (ap of here) c.loop-method.invariant c.in_ok-rva.ensures c.in_ok-push.ensures.ok

pub returns : goal.returns
returns c =
    let xs = c.args.methods.now in
    let i = c.loop-method.method-index in
    let of : List (Bor Method) → List (Option Body) = λ ms. map body_of (lent ms) in
    bodies_end c.args.refs.now c.loop-method.refs c.args.code.now c.loop-method.code c.loop-method.rvas (of xs) (of (drop i xs)) (ap of (drop_of_length-le xs {i = i} (omega arith))) c.loop-method.invariant
