use Rattle.std.proofs.Common.{◌≡◌, ◌∙◌, ap, ◌++◌, ◌∷◌, [], Some, length}
use Rattle.sig_pool.specs.Key.{node_key}
use Rattle.sig_pool.specs.Shapes.{node_of}
use Rattle.sig_pool.specs.Terms.{children, AllBelow}
use Rattle.sig_pool.proofs.Storing.{found, added, new_has, new_extends, taken_back}
use Rattle.sig_pool.proofs.PoolLaws.{extends_refl}
use Rattle.sig_pool.proofs.pool.SigPool.place.Goals as goal

pub returns-in-Some-clause-ok : goal.returns-in-Some-clause-ok
returns-in-Some-clause-ok c =
    let key : c.as_slice.result.now ≡ node_key (node_of c.args.shape.now) =
    c.as_slice.ensures ∙ c.in_ok-write_key.ensures ∙ ap (λ l. l ++ node_key (node_of c.args.shape.now)) c.truncate.ensures in
    rw (← c.self.view_is, c.new.ensures)
    (found c.self.inside.nodes c.self.inside.keys c.in-Some.place (node_of c.args.shape.now) c.self.invariant (c.in-Some.ensures.found ∙ ap Some key))

pub invariant_of-self-in-Ok : goal.invariant_of-self-in-Ok
invariant_of-self-in-Ok c =
    let n = node_of c.args.shape.now in
    let written : c.write_key.new.key ≡ node_key n = c.in_ok-write_key.ensures ∙ ap (λ l. l ++ node_key n) c.truncate.ensures in
    let below : AllBelow (length c.self.inside.nodes) (children n) = rw c.self.view_is c.requires in
    added c.self.inside.nodes c.push.new.self c.self.inside.keys c.push-2.new.self n c.self.invariant below
    (λ k e. c.in_default.ensures.none k (e ∙ ap Some (cc)))
    (c.in_ok-push.ensures.ok ∙ ap (λ m. c.self.inside.nodes ++ m ∷ []) c.in_ok-node.ensures)
    (c.in-Ok.ensures.ok ∙ ap (λ k. c.self.inside.keys ++ k ∷ []) (c.as_slice-2.ensures ∙ written))

pub invariant_of-self-in-Err : goal.invariant_of-self-in-Err
invariant_of-self-in-Err c =
    let back = taken_back c.self.inside.nodes c.push.new.self c.truncate-in-Err.new.self c.in_ok-node.node c.len-place.result c.in_ok-push.ensures.ok c.truncate-in-Err.ensures c.len-place.ensures in
    rw (back, c.in-Err.ensures.err) c.self.invariant

pub returns-in-Ok-clause-ok : goal.returns-in-Ok-clause-ok
returns-in-Ok-clause-ok c =
    rw (← c.self.view_is, c.new-in-Ok.ensures, c.len-place.ensures, ← c.in_ok-node.ensures)
    (new_has c.self.inside.nodes c.push.new.self c.in_ok-node.node c.in_ok-push.ensures.ok)

pub returns-in-Ok-clause-extends : goal.returns-in-Ok-clause-extends
returns-in-Ok-clause-extends c =
    rw (← c.self.view_is) (new_extends c.self.inside.nodes c.push.new.self c.in_ok-node.node c.in_ok-push.ensures.ok)

pub returns-in-Err-clause-extends : goal.returns-in-Err-clause-extends
returns-in-Err-clause-extends c =
    let back = taken_back c.self.inside.nodes c.push.new.self c.truncate-in-Err.new.self c.in_ok-node.node c.len-place.result c.in_ok-push.ensures.ok c.truncate-in-Err.ensures c.len-place.ensures in
    rw (← c.self.view_is, back) (extends_refl c.self.inside.nodes)
