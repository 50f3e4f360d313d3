use Rattle.std.proofs.Common.{◌≡◌, ◌++◌, ◌∷◌, [], map, ap, sym, ◌∙◌}
use Rattle.std.proofs.lemmas.Result.{IfOk-weaker}
use Rattle.source_model.specs.Names.{path_tokens}
use Rattle.source_model.specs.Nodes.{type_id}
use Rattle.source_syntax.proofs.PathLemmas.{no_later, whole_path}
use Rattle.source_syntax.proofs.ScopeLemmas.{later_ids}
use Rattle.source_syntax.proofs.place.Place.path.Goals as goal

pub returns-then-has : goal.returns-then-has
returns-then-has c s a x f e fits bodies =
    IfOk-weaker c.with_names.result _ (λ path. path ≡ map (type_id s) (path_tokens f))
    (λ longer h. h ∙ whole_path s f c.in_ok-path.path c.in_ok-first.first c.leaf_at.result fits c.in_ok-path.ensures (c.in_ok-first.ensures s x.reads) (c.leaf_at.ensures f e))
    (c.with_names.ensures s a x f e bodies)

pub returns : goal.returns
returns c s a x f e fits bodies =
    let first = c.in_ok-first.first in
    let none : later_ids s f ≡ [] = no_later s f (sym (c.has.ensures f e) ∙ c.if-has.false) in
    c.in_ok-path.ensures ∙ sym (ap (λ l. first ∷ l) none) ∙ sym (ap (λ p. p ++ later_ids s f) c.in_ok-path.ensures)
    ∙ whole_path s f c.in_ok-path.path first c.leaf_at.result fits c.in_ok-path.ensures (c.in_ok-first.ensures s x.reads) (c.leaf_at.ensures f e)
