-- A source without properties and events has no accessors.
use Rattle.std.proofs.Common.{◌≡◌, ℕ, List, [], ◌∷◌, ◌++◌, ap, sym, ◌∙◌, refl, length}
use Rattle.std.specs.Prelude.{Bool, true, false, ◌||◌, if◌then◌else◌}
use Rattle.std.specs.List.{flat_map, list_any}
use Rattle.std.proofs.lemmas.List.Folds.{list_any-append}
use Rattle.source_model.specs.Forest as tree
use Rattle.source_model.specs.Forest.{Forest, preorder}
use Rattle.source_model.specs.Nodes.{Around, Node, entered, nodes_in}
use Rattle.source_model.specs.Source.{Source}
use Rattle.source_model.specs.Undeclared.{accessors_undeclared_of}
use Rattle.source_syntax.proofs.LeastLemmas.{flat_append}
use Rattle.check_visitor.specs.Surroundings.{found_in}
use Rattle.check_members.specs.OwnMethods.{has_accessors, is_owner, undeclared_at}

neither : (a b : Bool) → (a || b) ≡ false → (a ≡ false) × (b ≡ false)
neither false b e = (refl, e)
neither true b e = absurd cc

pub no_owner : (s : Source) (a : Around) (f : Forest) → list_any is_owner (preorder f) ≡ false → found_in undeclared_at s a f ≡ []
no_owner s a tree.none e = refl
no_owner s a (tree.leaf k f) e = no_owner s a f e
no_owner s a (tree.branch p b f) e =
    let inner = entered s a p b in
    let n : Node = record { production = p; below = b; around = inner } in
    let here = neither (has_accessors p) (list_any is_owner (preorder b ++ preorder f)) e in
    let rest = neither (list_any is_owner (preorder b)) (list_any is_owner (preorder f)) (sym (list_any-append is_owner (preorder b) (preorder f)) ∙ here.1) in
    flat_append (undeclared_at s) (n ∷ nodes_in s inner b) (nodes_in s a f)
    ∙ ap (λ (c : Bool). ((if c then accessors_undeclared_of s n else []) ++ flat_map (undeclared_at s) (nodes_in s inner b)) ++ flat_map (undeclared_at s) (nodes_in s a f)) here.0
    ∙ ap (λ ks. ks ++ flat_map (undeclared_at s) (nodes_in s a f)) (no_owner s inner b rest.0)
    ∙ no_owner s a f rest.1
