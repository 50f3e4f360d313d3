use Rattle.std.proofs.Common.{◌≡◌, ◌∙◌, ◌∷◌, ◌++◌, ◌<◌, sym, ap, List, length, take, rules, arith}
use Rattle.std.proofs.lemmas.List.{append_assoc, append-nil, take_all}
use Rattle.assembly_tree.specs.declared.members.Method.{Method}
use Rattle.assembly_tree.specs.declared.typedef.MethodPath.{MethodPath}
use Rattle.code_flow.specs.Methods.{places_in, with_body}
use Rattle.all_bodies.proofs.PlaceLemmas.{methods_more}
use Rattle.all_bodies.proofs.places.add_methods.Goals as goal

pub loop-k-init : goal.loop-k-init
loop-k-init c = sym (append-nil c.args.into.now)

pub loop-k-preserved : goal.loop-k-preserved
loop-k-preserved c =
    let first = c.args.into.now in
    let places = c.args.places.now in
    let ms = c.args.methods.now in
    let k = c.loop-k.k in
    let m = c.index-methods-k.result in
    let low : k < length ms = search rules in
    c.in_ok-add_method.ensures ∙ ap (λ (l : List MethodPath). l ++ with_body places (k, m)) c.loop-k.invariant
    ∙ append_assoc first (places_in places (take k ms)) (with_body places (k, m))
    ∙ ap (λ (l : List MethodPath). first ++ l) (sym (methods_more places ms k m low c.index-methods-k.is))

pub returns : goal.returns
returns c =
    c.loop-k.invariant
    ∙ ap (λ (l : List Method). c.args.into.now ++ places_in c.args.places.now l) (take_all c.loop-k.k c.args.methods.now (omega arith))
