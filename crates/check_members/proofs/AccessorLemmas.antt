-- Whether the signature of a reference breaks a rule, and which accessors are methods of their class.
use Rattle.std.proofs.Common.{◌≡◌, ℕ, suc, List, [], ◌∷◌, Option, None, Some, length, map, refl, ap, sym, ◌∙◌, arith}
use Rattle.std.specs.Prelude.{Bool, true, false, not, ◌||◌, ◌==◌, ◌&&◌, if◌then◌else◌, filter, is_some}
use Rattle.std.specs.List.{list_any}
use Rattle.type_terms.specs.Order.{term_order}
use Rattle.std.specs.Cmp.{IsTotalOrder}
use Rattle.ilasm_grammar.specs.declared.productions.TheConstants.{METHOD_GENERICS, METHOD_REF, SIGNATURE, TYPE}
use Rattle.source_model.specs.Forest as tree
use Rattle.source_model.specs.Forest.{Forest, Part, below_each, chosen, each, first_or, has, is_any_part, leaf_at, part, parts, the}
use Rattle.source_model.specs.Items.{members}
use Rattle.source_model.specs.Members.{is_meant, method_forests}
use Rattle.source_model.specs.Nodes.{Around, Node, nodes_in}
use Rattle.source_model.specs.Signatures.{generic_arguments_token, is_method_unbroken, is_reference_unbroken}
use Rattle.source_model.specs.Source.{Source}
use Rattle.source_model.specs.TypeRules.{are_unbroken, breaks_signature, is_nothing}
use Rattle.source_model.specs.Undeclared.{accessor_undeclared_of, is_one_of, is_this_class}
use Rattle.source_nodes.specs.Least.{least, sooner}
use Rattle.check_members.specs.MemberKinds.{member_of}
use Rattle.check_members.specs.OwnMethods.{is_own_method, own_methods, referred}
use Rattle.check_members.specs.SameMembers.{is_member, is_same_member}
use Rattle.check_visitor.specs.Surroundings.{found_in, is_scope}
use Rattle.check_members.specs.declared.member_kinds.Kind.TheVariants.{Method}
use Rattle.check_members.specs.declared.member_sets.Member.{Member}
use Rattle.check_visitor.proofs.AskingLemmas.{at_branch, node_of, nothing_more, same_around}
use Rattle.check_members.proofs.KeepLemmas.{nothing_same, some_found}
use Rattle.check_members.proofs.MemberLemmas.{member_itself, member_same}

-- ---- a part of a reference

pub turned_back : (b c : Bool) → not b ≡ c → b ≡ not c
turned_back true c e = ap not e
turned_back false c e = ap not e

pub without_part : (p : ℕ) (f : Forest) → has p f ≡ false → the p f ≡ tree.none
without_part p f e = go (parts (p ∷ []) f) e
  where
    go : (ps : List Part) → is_any_part ps ≡ false → first_or tree.none (below_each ps) ≡ tree.none
    go [] h = refl
    go (x ∷ ps) h = absurd cc

nothing_is : (ks : List ℕ) → is_nothing ks ≡ not (is_some (least ks))
nothing_is ks = twice (is_nothing ks) ∙ ap not (sym (some_found ks))
  where
    twice : (b : Bool) → b ≡ not (not b)
    twice true = refl
    twice false = refl

module _ (broken : Source → Node → List ℕ) (s : Source) (a : Around) (p : ℕ) (f : Forest) where
  pub no_part_found : has p f ≡ false → found_in broken s a (tree.branch p tree.none tree.none) ≡ []
      → true ≡ is_nothing (found_in broken s a (tree.branch p (the p f) tree.none))
  no_part_found e nothing =
      ap is_nothing (sym nothing) ∙ ap (λ (g : Forest). is_nothing (found_in broken s a (tree.branch p g tree.none))) (sym (without_part p f e))

  pub part_found : (own within : Option ℕ) → is_scope p ≡ false → own ≡ least (broken s (node_of broken s a p (the p f))) → within ≡ least (found_in broken s a (the p f))
      → not (is_some (sooner own within)) ≡ is_nothing (found_in broken s a (tree.branch p (the p f) tree.none))
  part_found own within plain o w =
      let g = the p f in
      ap (λ x. not (is_some x)) (nothing_more (sooner own within))
      ∙ ap (λ x. not (is_some (sooner (sooner x within) None))) o
      ∙ ap (λ x. not (is_some (sooner (sooner (least (broken s (node_of broken s a p g))) x) None))) w
      ∙ ap (λ (x : Around). not (is_some (sooner (sooner (least (broken s (node_of broken s a p g))) (least (found_in broken s x g))) None))) (sym (same_around broken s a p g plain))
      ∙ ap (λ x. not (is_some x)) (sym (at_branch broken s a p g tree.none))
      ∙ sym (nothing_is (found_in broken s a (tree.branch p g tree.none)))

-- ---- a reference

pub no_generic_arguments : (s : Source) (a : Around) (f : Forest) (o : Option ℕ) → o ≡ least (generic_arguments_token f) → is_some o ≡ false → is_nothing (generic_arguments_token f) ≡ true
no_generic_arguments s a f o is e = nothing_is (generic_arguments_token f) ∙ ap (λ x. not (is_some x)) (sym is) ∙ ap not e

pub some_generic_arguments : (s : Source) (a : Around) (f : Forest) (o : Option ℕ) → o ≡ least (generic_arguments_token f) → is_some o ≡ true → false ≡ is_reference_unbroken s a f
some_generic_arguments s a f o is e =
    let gone : is_nothing (generic_arguments_token f) ≡ false = nothing_is (generic_arguments_token f) ∙ ap (λ x. not (is_some x)) (sym is) ∙ ap not e in
    last (are_unbroken s (nodes_in s a (chosen (TYPE ∷ []) f))) (are_unbroken s (nodes_in s a (tree.branch METHOD_GENERICS (the METHOD_GENERICS f) tree.none)))
    (are_unbroken s (nodes_in s a (tree.branch SIGNATURE (the SIGNATURE f) tree.none))) (is_nothing (generic_arguments_token f)) gone
  where
    last : (b c d e : Bool) → e ≡ false → false ≡ (b && c && d && e)
    last true true true e h = sym h
    last true true false e h = refl
    last true false d e h = refl
    last false c d e h = refl

none_left : (ks : List ℕ) → is_nothing ks ≡ true → ks ≡ []
none_left [] e = refl
none_left (k ∷ ks) e = let some : is_nothing (k ∷ ks) ≡ false = some_more (length ks) in absurd cc
  where
    some_more : (n : ℕ) → (suc n == 0) ≡ false
    some_more n = grind arith

module _ (broken : Source → Node → List ℕ) (s : Source) (breaks : (n : Node) → is_nothing (broken s n) ≡ is_nothing (breaks_signature s n)) (a : Around) where
  pub unbroken_is : (g : Forest) → is_nothing (found_in broken s a g) ≡ are_unbroken s (nodes_in s a g)
  unbroken_is g = nothing_same (broken s) (breaks_signature s) breaks (nodes_in s a g)

  pub generics_none : found_in broken s a (tree.branch METHOD_GENERICS tree.none tree.none) ≡ []
  generics_none = none_left (found_in broken s a (tree.branch METHOD_GENERICS tree.none tree.none)) (unbroken_is (tree.branch METHOD_GENERICS tree.none tree.none))

  pub signature_none : found_in broken s a (tree.branch SIGNATURE tree.none tree.none) ≡ []
  signature_none = none_left (found_in broken s a (tree.branch SIGNATURE tree.none tree.none)) (unbroken_is (tree.branch SIGNATURE tree.none tree.none))

  module _ (f : Forest) where
    abbrev type_kept : Bool
    type_kept = are_unbroken s (nodes_in s a (chosen (TYPE ∷ []) f))

    abbrev generics_kept : Bool
    generics_kept = are_unbroken s (nodes_in s a (tree.branch METHOD_GENERICS (the METHOD_GENERICS f) tree.none))

    abbrev signature_kept : Bool
    signature_kept = are_unbroken s (nodes_in s a (tree.branch SIGNATURE (the SIGNATURE f) tree.none))

    -- where there are no generic arguments
    all_kept : (t g b : Bool) → t ≡ is_nothing (found_in broken s a (chosen (TYPE ∷ []) f))
        → g ≡ is_nothing (found_in broken s a (tree.branch METHOD_GENERICS (the METHOD_GENERICS f) tree.none))
        → b ≡ is_nothing (found_in broken s a (tree.branch SIGNATURE (the SIGNATURE f) tree.none)) → is_nothing (generic_arguments_token f) ≡ true
        → (t && g && b) ≡ is_reference_unbroken s a f
    all_kept t g b ti gi bi args =
        ap (λ x. x && g && b) (ti ∙ unbroken_is (chosen (TYPE ∷ []) f))
        ∙ ap (λ x. type_kept && x && b) (gi ∙ unbroken_is (tree.branch METHOD_GENERICS (the METHOD_GENERICS f) tree.none))
        ∙ ap (λ x. type_kept && generics_kept && x) (bi ∙ unbroken_is (tree.branch SIGNATURE (the SIGNATURE f) tree.none))
        ∙ and_true type_kept generics_kept signature_kept
        ∙ ap (λ x. type_kept && generics_kept && signature_kept && x) (sym args)
      where
        and_true : (b c d : Bool) → (b && c && d) ≡ (b && c && d && true)
        and_true true true true = refl
        and_true true true false = refl
        and_true true false d = refl
        and_true false c d = refl

    pub type_broken : (t : Bool) → t ≡ is_nothing (found_in broken s a (chosen (TYPE ∷ []) f)) → t ≡ false → false ≡ is_reference_unbroken s a f
    type_broken t ti te =
        sym (ap (λ x. x && generics_kept && signature_kept && is_nothing (generic_arguments_token f)) (sym (ti ∙ unbroken_is (chosen (TYPE ∷ []) f)) ∙ te))

    pub generics_broken : (g : Bool) → g ≡ is_nothing (found_in broken s a (tree.branch METHOD_GENERICS (the METHOD_GENERICS f) tree.none)) → g ≡ false → false ≡ is_reference_unbroken s a f
    generics_broken g gi ge =
        go type_kept
        ∙ ap (λ x. type_kept && x && signature_kept && is_nothing (generic_arguments_token f))
        (sym ge ∙ gi ∙ unbroken_is (tree.branch METHOD_GENERICS (the METHOD_GENERICS f) tree.none))
      where
        go : (t : Bool) → false ≡ (t && false && signature_kept && is_nothing (generic_arguments_token f))
        go true = refl
        go false = refl

    -- where its type and its generic number break nothing
    pub signature_left : (t g b : Bool) → t ≡ true → g ≡ true → t ≡ is_nothing (found_in broken s a (chosen (TYPE ∷ []) f))
        → g ≡ is_nothing (found_in broken s a (tree.branch METHOD_GENERICS (the METHOD_GENERICS f) tree.none))
        → b ≡ is_nothing (found_in broken s a (tree.branch SIGNATURE (the SIGNATURE f) tree.none)) → is_nothing (generic_arguments_token f) ≡ true
        → b ≡ is_reference_unbroken s a f
    signature_left t g b te ge ti gi bi args =
        sym (ap (λ x. x && g && b) te ∙ ap (λ x. true && x && b) ge) ∙ all_kept t g b ti gi bi args

-- ---- what a reference names

turned_member : IsTotalOrder term_order → (m n : Member) → is_same_member m n ≡ is_same_member n m
turned_member total m n = go (is_same_member m n) (is_same_member n m) refl refl
  where
    go : (b c : Bool) → is_same_member m n ≡ b → is_same_member n m ≡ c → b ≡ c
    go true true h i = refl
    go false false h i = refl
    go true false h i =
        let own : is_same_member n m ≡ true = ap (λ x. is_same_member x m) (sym (member_same m n h)) ∙ member_itself total m in absurd cc
    go false true h i =
        let own : is_same_member m n ≡ true = ap (λ x. is_same_member x n) (sym (member_same n m i)) ∙ member_itself total n in absurd cc

module _ (total : IsTotalOrder term_order) (s : Source) (a : Around) (f : Forest) where
  any_meant : (fs : List Forest) → list_any (is_same_member (referred s a f)) (map (member_of s a Method) fs) ≡ list_any (is_meant s a f) fs
  any_meant [] = refl
  any_meant (g ∷ gs) =
      ap (λ b. b || list_any (is_same_member (referred s a f)) (map (member_of s a Method) gs)) (turned_member total (referred s a f) (member_of s a Method g))
      ∙ ap (λ b. is_meant s a f g || b) (any_meant gs)

  pub own_found : (b : Bool) (m : Member) (ms : List Member) → b ≡ true → b ≡ is_this_class s a f → m ≡ referred s a f → ms ≡ own_methods s a → is_member ms m ≡ is_own_method s a f
  own_found b m ms here is named all =
      ap (λ x. is_member ms x) named ∙ ap (λ xs. is_member xs (referred s a f)) all
      ∙ any_meant (filter (is_method_unbroken s a) (method_forests (members a.class)))
      ∙ ap (λ c. c && is_one_of s a (method_forests (members a.class)) f) (sym here ∙ is)

pub not_here : (s : Source) (a : Around) (f : Forest) (b : Bool) → b ≡ false → b ≡ is_this_class s a f → false ≡ is_own_method s a f
not_here s a f b away is = ap (λ c. c && is_one_of s a (method_forests (members a.class)) f) (sym away ∙ is)

-- ---- an accessor

module _ (s : Source) (a : Around) (p : ℕ) (b : Forest) where
  abbrev asked : Bool → Bool → List ℕ
  asked unbroken own = if unbroken && not own then leaf_at 0 b ∷ [] else []

  pub broken_accessor : (u : Bool) → u ≡ false → u ≡ is_reference_unbroken s a (the METHOD_REF b) → None ≡ least (accessor_undeclared_of s a (method_forests (members a.class)) (part p b))
  broken_accessor u e is = ap (λ x. least (asked x (is_own_method s a (the METHOD_REF b)))) (sym e ∙ is)

  pub own_accessor : (o : Bool) → o ≡ true → o ≡ is_own_method s a (the METHOD_REF b) → None ≡ least (accessor_undeclared_of s a (method_forests (members a.class)) (part p b))
  own_accessor o e is = go (is_reference_unbroken s a (the METHOD_REF b)) ∙ ap (λ x. least (asked (is_reference_unbroken s a (the METHOD_REF b)) x)) (sym e ∙ is)
    where
      go : (u : Bool) → None ≡ least (asked u true)
      go true = refl
      go false = refl

  pub other_accessor : (u o : Bool) (k : ℕ) → u ≡ true → u ≡ is_reference_unbroken s a (the METHOD_REF b) → o ≡ false → o ≡ is_own_method s a (the METHOD_REF b) → k ≡ leaf_at 0 b
      → Some k ≡ least (accessor_undeclared_of s a (method_forests (members a.class)) (part p b))
  other_accessor u o k ue ui oe oi at =
      ap Some at ∙ ap (λ x. least (asked x false)) (sym ue ∙ ui) ∙ ap (λ x. least (asked (is_reference_unbroken s a (the METHOD_REF b)) x)) (sym oe ∙ oi)
