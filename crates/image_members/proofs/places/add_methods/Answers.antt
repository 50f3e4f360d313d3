use Rattle.std.proofs.Common.{◌≡◌, ◌∙◌, ap, sym, ◌+◌, [], ◌∷◌, ◌++◌, drop, drop_of_length-le, arith}
use Rattle.std.specs.List.{flat_map}
use Rattle.std.proofs.lemmas.List.{drop_more}
use Rattle.assembly_tree.specs.declared.members.Method.{Method}
use Rattle.image_members.specs.Places.{lent, params_of}
use Rattle.image_members.proofs.PlaceLemmas.{filled_begin, filled_on, filled_end, lent_one}
use Rattle.image_members.proofs.places.add_methods.Goals as goal

pub loop-method-init : goal.loop-method-init
loop-method-init c = record {
  methods = filled_begin (lent c.args.methods.now) c.args.more.now;
  params = filled_begin (lent c.args.params.now) (flat_map params_of c.args.more.now);
}

pub loop-method-preserved : goal.loop-method-preserved
loop-method-preserved c =
    let xs = c.args.more.now in
    let i = c.loop-method.method-index in
    let x = c.method-item.result in
    let here : drop i xs ≡ x ∷ drop (i + 1) xs = drop_more xs i x (omega arith) ∙ ap (λ (y : Method). y ∷ drop (i + 1) xs) (sym c.method-item.is) in
    record {
      methods = filled_on (lent c.args.methods.now) (lent c.loop-method.methods) (lent c.push.new.self) xs (drop i xs) (x ∷ []) (drop (i + 1) xs) here c.loop-method.invariant.methods
          (lent_one c.loop-method.methods c.push.new.self _ c.in_ok-push.ensures.ok);
      params = filled_on (lent c.args.params.now) (lent c.loop-method.params) (lent c.add_all.new.all) (flat_map params_of xs) (flat_map params_of (drop i xs)) (params_of x)
          (flat_map params_of (drop (i + 1) xs)) (ap (flat_map params_of) here) c.loop-method.invariant.params
          (c.in_ok-add_all.ensures ∙ ap (λ ps. lent c.loop-method.params ++ ps) c.as_slice.ensures);
    }

pub returns-clause-methods : goal.returns-clause-methods
returns-clause-methods c =
    let xs = c.args.more.now in
    let i = c.loop-method.method-index in
    filled_end (lent c.args.methods.now) (lent c.loop-method.methods) xs (drop i xs) (drop_of_length-le xs {i = i} (omega arith)) c.loop-method.invariant.methods

pub returns-clause-params : goal.returns-clause-params
returns-clause-params c =
    let xs = c.args.more.now in
    let i = c.loop-method.method-index in
    filled_end (lent c.args.params.now) (lent c.loop-method.params) (flat_map params_of xs) (flat_map params_of (drop i xs)) (ap (flat_map params_of) (drop_of_length-le xs {i = i} (omega arith)))
    c.loop-method.invariant.params
