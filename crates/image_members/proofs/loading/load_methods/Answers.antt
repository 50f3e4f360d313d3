use Rattle.std.proofs.Common.{◌≡◌, ◌∙◌, ap, sym, ◌+◌, ◌≤◌, ◌∷◌, drop, drop_of_length-le, arith}
use Rattle.std.proofs.lemmas.List.{drop_more}
use Rattle.assembly_tree.specs.Room.{method_texts}
use Rattle.assembly_tree.specs.declared.members.Method.{Method}
use Rattle.image_tokens.proofs.LoadsLemmas.{loads_begin, loads_fit, loads_on, loads_end}
use Rattle.image_members.proofs.loading.load_methods.Goals as goal

pub loop-method-init : goal.loop-method-init
loop-method-init c = loads_begin method_texts c.args.user.now c.args.methods.now c.requires

pub load_method-requires : goal.load_method-requires
load_method-requires c =
    let xs = c.args.methods.now in
    let i = c.loop-method.method-index in
    let x = c.method-item.result in
    let here : drop i xs ≡ x ∷ drop (i + 1) xs = drop_more xs i x (omega arith) ∙ ap (λ (y : Method). y ∷ drop (i + 1) xs) (sym c.method-item.is) in
    loads_fit method_texts c.args.user.now c.loop-method.user xs (drop i xs) (drop (i + 1) xs) x here c.loop-method.invariant

pub loop-method-preserved : goal.loop-method-preserved
loop-method-preserved c =
    let xs = c.args.methods.now in
    let i = c.loop-method.method-index in
    let x = c.method-item.result in
    let here : drop i xs ≡ x ∷ drop (i + 1) xs = drop_more xs i x (omega arith) ∙ ap (λ (y : Method). y ∷ drop (i + 1) xs) (sym c.method-item.is) in
    loads_on method_texts c.args.user.now c.loop-method.user c.load_method.new.user xs (drop i xs) (drop (i + 1) xs) x here c.loop-method.invariant c.in_ok-load_method.ensures

pub returns : goal.returns
returns c =
    let xs = c.args.methods.now in
    let i = c.loop-method.method-index in
    loads_end method_texts c.args.user.now c.loop-method.user xs (drop i xs) (drop_of_length-le xs {i = i} (omega arith)) c.loop-method.invariant
