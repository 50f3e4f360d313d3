-- Whether a production of a signature breaks a rule, from what is found of it.
use Rattle.std.proofs.Common.{◌≡◌, ℕ, suc, List, [], ◌∷◌, length, refl, ap, sym, ◌∙◌, arith}
use Rattle.std.specs.Prelude.{◌++◌, ◌&&◌, ◌==◌, Bool, true, false, if◌then◌else◌, drop, map}
use Rattle.std.specs.List.{flat_map}
use Rattle.ilasm_grammar.specs.declared.productions.TheConstants.{TYPE_SUFFIX_BRACKET}
use Rattle.source_model.specs.Forest.{Forest}
use Rattle.source_model.specs.Names.{written_name}
use Rattle.source_model.specs.Nodes.{Node}
use Rattle.source_model.specs.Shapes.{Bound, commas, dimensions, is_vector}
use Rattle.source_model.specs.Source.{Source}
use Rattle.source_model.specs.TypeRules.{arguments_out_of_range, array_out_of_range, bound_out_of_range, breaks_signature, comma_past_rank, generic_number_out_of_range, index_out_of_range, is_nothing, lower_out_of_range, number_in_signature_out_of_range, path_too_long, scope_undeclared, second_ellipsis, shape_out_of_range, size_after_gap, size_out_of_range, type_too_deep, typar_undeclared, type_undeclared}
use Rattle.source_model.specs.Values.{name_text}
use Rattle.source_syntax.specs.ClassNumbers.{Knows}
use Rattle.source_syntax.specs.Namings.{names_in}
use Rattle.source_syntax.specs.declared.class_paths.ClassName.{ClassName}
use Rattle.source_syntax.specs.declared.name_lists.Naming.TheVariants.{Assembly, Own}
use Rattle.check_names.specs.ArrayNumbers.{array_number, dimension_number, number_in_signature, or_else, shape_number}
use Rattle.check_names.specs.DeclaredClasses.{declared_paths}
use Rattle.check_names.specs.NamedTypes.{scope_missing_in, type_missing_in}
use Rattle.check_names.proofs.NamedTypeLemmas.{one_scope, one_type}
use Rattle.check_members.specs.BrokenSignatures.{part_broken}

-- ---- nothing in two lists

something : (n : ℕ) → (suc n == 0) ≡ false
something n = grind arith

nothing_in_both : (xs ys : List ℕ) → is_nothing (xs ++ ys) ≡ (is_nothing xs && is_nothing ys)
nothing_in_both [] ys = refl
nothing_in_both (x ∷ xs) ys = something (length (xs ++ ys)) ∙ sym (ap (λ b. b && is_nothing ys) (something (length xs)))

fronts : (ws xs ys : List ℕ) → is_nothing ws ≡ is_nothing xs → is_nothing (ws ++ ys) ≡ is_nothing (xs ++ ys)
fronts ws xs ys same = nothing_in_both ws ys ∙ ap (λ b. b && is_nothing ys) same ∙ sym (nothing_in_both xs ys)

both : (ws xs ys zs : List ℕ) → is_nothing ws ≡ is_nothing xs → is_nothing ys ≡ is_nothing zs → is_nothing (ws ++ ys) ≡ is_nothing (xs ++ zs)
both ws xs ys zs front back =
    nothing_in_both ws ys ∙ ap (λ b. b && is_nothing ys) front ∙ ap (λ b. is_nothing xs && b) back ∙ sym (nothing_in_both xs zs)

nothing_or_else : (xs ys : List ℕ) → is_nothing (or_else xs ys) ≡ is_nothing (xs ++ ys)
nothing_or_else [] ys = refl
nothing_or_else (x ∷ xs) ys = something (length xs) ∙ sym (something (length (xs ++ ys)))

in_each : {X : Type 0} (f g : X → List ℕ) (xs : List X) → ((x : X) → is_nothing (f x) ≡ is_nothing (g x)) → is_nothing (flat_map f xs) ≡ is_nothing (flat_map g xs)
in_each f g [] same = refl
in_each f g (x ∷ xs) same = both (f x) (g x) (flat_map f xs) (flat_map g xs) (same x) (in_each f g xs same)

if_so : (b : Bool) (xs ys : List ℕ) → is_nothing xs ≡ is_nothing ys → is_nothing (if b then xs else []) ≡ is_nothing (if b then ys else [])
if_so true xs ys same = same
if_so false xs ys same = refl

if_not : (b : Bool) (xs ys : List ℕ) → is_nothing xs ≡ is_nothing ys → is_nothing (if b then [] else xs) ≡ is_nothing (if b then [] else ys)
if_not true xs ys same = refl
if_not false xs ys same = same

-- ---- arrays

one_dimension : (s : Source) (b : Bound) → is_nothing (dimension_number s b) ≡ is_nothing (bound_out_of_range s b)
one_dimension s b = nothing_or_else (lower_out_of_range s b.lower) (size_out_of_range s b.lower b.size)

one_shape : (s : Source) (f : Forest) → is_nothing (shape_number s f) ≡ is_nothing (shape_out_of_range s f)
one_shape s f =
    let gap = size_after_gap (dimensions f) in
    let rank = comma_past_rank (drop 31 (commas s f)) in
    let mine = flat_map (dimension_number s) (dimensions f) in
    let theirs = flat_map (bound_out_of_range s) (dimensions f) in
    if_not (is_vector f) (mine ++ gap ++ rank) (theirs ++ gap ++ rank)
    (fronts (mine ++ gap) (theirs ++ gap) rank (fronts mine theirs gap (in_each (dimension_number s) (bound_out_of_range s) (dimensions f) (one_dimension s))))

one_array : (s : Source) (n : Node) → is_nothing (array_number s n) ≡ is_nothing (array_out_of_range s n)
one_array s n = if_so (n.production == TYPE_SUFFIX_BRACKET) (shape_number s n.below) (shape_out_of_range s n.below) (one_shape s n.below)

one_number : (s : Source) (n : Node) → is_nothing (number_in_signature s n) ≡ is_nothing (number_in_signature_out_of_range s n)
one_number s n =
    let index = index_out_of_range s n in
    let generic = generic_number_out_of_range s n in
    let arguments = arguments_out_of_range n in
    let ellipsis = second_ellipsis n in
    let mine = index ++ array_number s n in
    let theirs = index ++ array_out_of_range s n in
    fronts (mine ++ generic ++ arguments) (theirs ++ generic ++ arguments) ellipsis
    (fronts (mine ++ generic) (theirs ++ generic) arguments
    (fronts mine theirs generic (both index index (array_number s n) (array_out_of_range s n) refl (one_array s n))))

-- ---- all rules

pub breaks_as_known : (s : Source) (keys own : List (List ℕ)) → keys ≡ map (name_text s) (names_in Assembly s.tree) → own ≡ map (name_text s) (names_in Own s.tree)
    → (cs : List ClassName) → Knows cs (declared_paths s) → (n : Node) → is_nothing (part_broken keys own cs s n) ≡ is_nothing (breaks_signature s n)
breaks_as_known s keys own k o cs knows n =
    let w = written_name n.production n.below in
    let types = type_missing_in keys own cs s w in
    let scopes = scope_missing_in keys own s w in
    let typars = typar_undeclared s n in
    let deep = type_too_deep s n in
    let mine = types ++ scopes ++ typars in
    let theirs = type_undeclared s n ++ scope_undeclared s n ++ typars in
    let names = fronts (types ++ scopes) (type_undeclared s n ++ scope_undeclared s n) typars
    (both types (type_undeclared s n) scopes (scope_undeclared s n) (ap is_nothing (one_type s keys own k o cs knows w))
    (ap is_nothing (one_scope s keys own k o w))) in
    fronts (mine ++ number_in_signature s n ++ deep) (theirs ++ number_in_signature_out_of_range s n ++ deep) (path_too_long n)
    (fronts (mine ++ number_in_signature s n) (theirs ++ number_in_signature_out_of_range s n) deep
    (both mine theirs (number_in_signature s n) (number_in_signature_out_of_range s n) names (one_number s n)))
