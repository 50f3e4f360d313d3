use Rattle.std.proofs.Common.{◌∷◌, ◌++◌, [], ◌∙◌, ap}
use Rattle.check_names.proofs.WrittenLemmas.{path_is}
use Rattle.check_names.proofs.written.path_tokens.Goals as goal

pub returns : goal.returns
returns c f e =
    path_is f c.push.new.self c.in_ok-more.more c.append.new.self
    (c.in_ok-push.ensures.ok ∙ ap (λ ks. ks ++ c.leaf_at.result ∷ []) c.new-tokens.ensures ∙ ap (λ k. k ∷ []) (c.leaf_at.ensures f e))
    (c.in_ok-more.ensures f e) c.in_ok-append.ensures.ok
