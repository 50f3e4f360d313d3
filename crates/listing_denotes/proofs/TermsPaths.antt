-- Paths that the assembly declares are declared in its listing.
use Rattle.std.proofs.Common.{◌≡◌, ◌&&◌, ◌||◌, nat_eq, ℕ, Bool, true, false, List, [], ◌∷◌, length, Option, None, Some, option_map, refl, ap, sym, ◌∙◌}
use Rattle.std.proofs.lemmas.Bool.{and_parts, eqb-true, false≢true}
use Rattle.std.specs.Prelude.{codes, is_some}
use lib.Pointwise.{pointwise}
use Rattle.type_terms.specs.declared.name.TypeId.{TypeId}
use Rattle.assembly_tree.specs.DataSize.{type_at}
use Rattle.assembly_tree.specs.WellFormedNames.{is_module_path}
use Rattle.source_model.specs.Data.{layout}
use Rattle.source_model.specs.Names.{is_path, module_path, class_at}
use Rattle.source_model.specs.Nodes.{Node}
use Rattle.listing_places.specs.Laws.{SizesAreKnown}
use Rattle.listing_denotes.specs.Terms.{PathsAreDeclared}

both : (x y : Bool) → x ≡ true → y ≡ true → (x && y) ≡ true
both true y i j = j
both false y i j = i

empty_is : (xs : List ℕ) → nat_eq (length xs) 0 ≡ true → pointwise nat_eq xs [] ≡ true
empty_is [] h = refl
empty_is (x ∷ xs) h = let none_is = eqb-true (length (x ∷ xs)) 0 h in absurd cc

module_is : (path : List TypeId) → is_module_path path ≡ true → is_path path module_path ≡ true
module_is [] h = absurd (false≢true h)
module_is (id ∷ []) h =
    let hs = and_parts (nat_eq (length id.space) 0) (pointwise nat_eq id.name (codes "<Module>")) h in
    both _ true (both (pointwise nat_eq id.space []) (pointwise nat_eq id.name (codes "<Module>")) (empty_is id.space hs.0) hs.1) refl
module_is (id ∷ next ∷ more) h = absurd (false≢true h)

mapped : {X Y : Type 0} (g : X → Y) (o : Option X) → is_some (option_map g o) ≡ is_some o
mapped g None = refl
mapped g (Some x) = refl

either : (b c d e : Bool) → (b ≡ true → d ≡ true) → (c ≡ true → e ≡ true) → (b || c) ≡ true → (d || e) ≡ true
either true c d e f g h = ap (λ (z : Bool). z || e) (f refl)
either false c true e f g h = refl
either false c false e f g h = g h

pub paths_are_declared : SizesAreKnown → PathsAreDeclared
paths_are_declared sizes s a listed path h =
    let leads = ap (λ (o : Option _). is_some o) (sizes.leads s a listed path) in
    let same = sym (mapped (λ (n : Node). layout s n.below) (class_at s path)) ∙ (leads ∙ mapped _ (type_at a.types path)) in
    either (is_module_path path) (is_some (type_at a.types path)) (is_path path module_path) (is_some (class_at s path)) (module_is path) (λ e. same ∙ e) h
