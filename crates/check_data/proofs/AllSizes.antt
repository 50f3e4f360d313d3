-- The class sizes of all classes of a source.
use Rattle.std.proofs.Common.{◌≡◌, ℕ, inl, inr, List, [], ◌∷◌, ◌++◌, Option, Some, None, length, cond, map, refl, ap, sym, subst, ◌∙◌, arith, append_assoc}
use Rattle.std.specs.Prelude.{Bool, true, false, ◌==◌, ◌||◌, if◌then◌else◌, find, is_some}
use Rattle.std.specs.List.{list_any}
use Rattle.std.proofs.lemmas.Bool.{cases_Bool}
use Rattle.type_terms.specs.declared.name.TypeId.{TypeId}
use Rattle.assembly_tree.specs.DataSize.{is_id}
use Rattle.ilasm_grammar.specs.declared.productions.TheConstants.{CLASS, METHOD}
use Rattle.source_model.specs.Forest as tree
use Rattle.source_model.specs.Forest.{Forest}
use Rattle.source_model.specs.Names.{class_at, classes, is_path, module_path}
use Rattle.source_model.specs.Nodes.{Around, Node, class_token, entered, nodes, nodes_in, nodes_of, nothing_around, type_id}
use Rattle.source_model.specs.OutOfRange.{asked_class_size, asked_size_at}
use Rattle.source_model.specs.Source.{Source}
use Rattle.source_syntax.specs.ClassNumbers.{Knows, class_numbered, id_of, outer_of}
use Rattle.source_syntax.specs.declared.class_paths.ClassName.{ClassName}
use Rattle.source_syntax.proofs.ClassLemmas.{id_itself, id_same, path_itself, path_same}
use Rattle.source_syntax.proofs.NestedLemmas.{to_within}
use Rattle.check_names.specs.DeclaredClasses.{declared_paths, inner_path}
use Rattle.check_data.specs.DeclaredSizes.{AreFilled, AreKnown, AreSizes, AreUnknown, ClassSize, first_size, flat, size_list, size_numbered}
use Rattle.check_data.proofs.SizeWalks.{size_of}

-- ---- the classes of a source

abbrev node_size : Source → Node → ClassSize
node_size s n = record { path = n.around.path; size = asked_class_size s n.below }

abbrev listed_sizes : Source → List Node → List ClassSize
listed_sizes s ns = map (node_size s) (nodes_of (CLASS ∷ []) ns)

module _ (s : Source) where
  sizes_append : (ms ns : List Node) → listed_sizes s (ms ++ ns) ≡ listed_sizes s ms ++ listed_sizes s ns
  sizes_append [] ns = refl
  sizes_append (m ∷ ms) ns = go ((CLASS == m.production) || false) (sizes_append ms ns)
    where
      go : (b : Bool) → listed_sizes s (ms ++ ns) ≡ listed_sizes s ms ++ listed_sizes s ns
          → map (node_size s) (cond b (m ∷ nodes_of (CLASS ∷ []) (ms ++ ns)) (nodes_of (CLASS ∷ []) (ms ++ ns)))
          ≡ map (node_size s) (cond b (m ∷ nodes_of (CLASS ∷ []) ms) (nodes_of (CLASS ∷ []) ms)) ++ listed_sizes s ns
      go true e = ap (λ cs. node_size s m ∷ cs) e
      go false e = e

  turned : (p : ℕ) → ((CLASS == p) || false) ≡ (p == CLASS)
  turned p = grind arith

  inner_is : (a : Around) (p : ℕ) (b : Forest) → (p == CLASS) ≡ true → (entered s a p b).path ≡ inner_path s a.path b
  inner_is a p b e =
      ap (λ (c : Bool). (if c then record { path = a.path ++ type_id s (class_token b) ∷ []; class = b; method = tree.none }
      else if p == METHOD then record { path = a.path; class = a.class; method = b }
      else a).path) e

  outer_is : (a : Around) (p : ℕ) (b : Forest) → (p == CLASS) ≡ false → (entered s a p b).path ≡ a.path
  outer_is a p b e =
      ap (λ (c : Bool). (if c then record { path = a.path ++ type_id s (class_token b) ∷ []; class = b; method = tree.none }
      else if p == METHOD then record { path = a.path; class = a.class; method = b }
      else a).path) e ∙ go (p == METHOD)
    where
      go : (m : Bool) → (if m then record { path = a.path; class = a.class; method = b } else a).path ≡ a.path
      go true = refl
      go false = refl

  own_size : (n : Node) (ns : List Node) → listed_sizes s (n ∷ ns) ≡ (if n.production == CLASS then node_size s n ∷ [] else []) ++ listed_sizes s ns
  own_size n ns =
      go ((CLASS == n.production) || false) ∙ ap (λ (b : Bool). (if b then node_size s n ∷ [] else []) ++ listed_sizes s ns) (turned n.production)
    where
      go : (b : Bool) → map (node_size s) (cond b (n ∷ nodes_of (CLASS ∷ []) ns) (nodes_of (CLASS ∷ []) ns))
          ≡ (if b then node_size s n ∷ [] else []) ++ listed_sizes s ns
      go true = refl
      go false = refl

  listed : (a : Around) (f : Forest) → listed_sizes s (nodes_in s a f) ≡ size_list s a.path f
  listed a tree.none = refl
  listed a (tree.leaf k after) = listed a after
  listed a (tree.branch p b after) =
      let n : Node = record { production = p; below = b; around = entered s a p b } in
      let inner = nodes_in s (entered s a p b) b in
      sizes_append (n ∷ inner) (nodes_in s a after)
      ∙ ap (λ cs. listed_sizes s (n ∷ inner) ++ cs) (listed a after)
      ∙ ap (λ cs. cs ++ size_list s a.path after) (own_size n inner ∙ ap (λ cs. (if p == CLASS then node_size s n ∷ [] else []) ++ cs) (listed (entered s a p b) b))
      ∙ ap (λ cs. cs ++ size_list s a.path after) (go (p == CLASS) refl)
    where
      go : (c : Bool) → (p == CLASS) ≡ c
          → (if c then node_size s (record { production = p; below = b; around = entered s a p b }) ∷ [] else []) ++ size_list s (entered s a p b).path b
          ≡ (if c then size_of s a.path b ∷ size_list s (inner_path s a.path b) b else size_list s a.path b)
      go true e = ap (λ path. record { path = path; size = asked_class_size s b } ∷ size_list s path b) (inner_is a p b e)
      go false e = ap (λ path. size_list s path b) (outer_is a p b e)

  all_listed : map (node_size s) (classes s) ≡ size_list s [] s.tree
  unfolding nodes
  all_listed = listed nothing_around s.tree

  -- ---- the first with a path

  first_is : (path : List TypeId) (ns : List Node) → flat (first_size path (map (node_size s) ns))
      ≡ asked_size_at s (find (λ n. is_path n.around.path path) ns)
  first_is path [] = refl
  first_is path (n ∷ ns) = go (is_path n.around.path path) (first_is path ns)
    where
      go : (b : Bool) → flat (first_size path (map (node_size s) ns)) ≡ asked_size_at s (find (λ m. is_path m.around.path path) ns)
          → flat (if b then Some (asked_class_size s n.below) else first_size path (map (node_size s) ns))
          ≡ asked_size_at s (cond b (Some n) (find (λ m. is_path m.around.path path) ns))
      go true e = refl
      go false e = e

-- ---- what the paths of the classes lead to

alike : (p q : List TypeId) → is_path p q ≡ is_path q p
alike p q = elim (cases_Bool (is_path p q)) [
  | inl e ↦ e ∙ sym (ap (λ x. is_path x p) (sym (path_same p q e)) ∙ path_itself p)
  | inr e ↦ elim (cases_Bool (is_path q p)) [
    | inr d ↦ e ∙ sym d
    | inl d ↦ let also : is_path p q ≡ true = ap (λ x. is_path p x) (path_same q p d) ∙ path_itself p in absurd cc
  ]
]

no_class : (path : List TypeId) (ns : List Node) → list_any (is_path path) (map (λ (n : Node). n.around.path) ns) ≡ false
    → find (λ (n : Node). is_path n.around.path path) ns ≡ None
no_class path [] e = refl
no_class path (n ∷ ns) e =
    ap (λ b. cond b (Some n) (find (λ (m : Node). is_path m.around.path path) ns)) (alike n.around.path path) ∙ go (is_path path n.around.path) e (no_class path ns)
  where
    go : (b : Bool) → (b || list_any (is_path path) (map (λ (m : Node). m.around.path) ns)) ≡ false
        → (list_any (is_path path) (map (λ (m : Node). m.around.path) ns) ≡ false → find (λ (m : Node). is_path m.around.path path) ns ≡ None)
        → cond b (Some n) (find (λ (m : Node). is_path m.around.path path) ns) ≡ None
    go true e more = absurd cc
    go false e more = more e

or_both : (a b : Bool) → (a || b) ≡ false → b ≡ false
or_both true b e = absurd cc
or_both false b e = e

among : (done ns : List Node) (n : Node) → list_any (is_path n.around.path) (map (λ (m : Node). m.around.path) (done ++ n ∷ ns)) ≡ true
among [] ns n = ap (λ b. b || list_any (is_path n.around.path) (map (λ (m : Node). m.around.path) ns)) (path_itself n.around.path)
among (d ∷ done) ns n = go (is_path n.around.path d.around.path) (among done ns n)
  where
    go : (b : Bool) → list_any (is_path n.around.path) (map (λ (m : Node). m.around.path) (done ++ n ∷ ns)) ≡ true
        → (b || list_any (is_path n.around.path) (map (λ (m : Node). m.around.path) (done ++ n ∷ ns))) ≡ true
    go true e = refl
    go false e = e

or_true : (a b : Bool) → b ≡ true → (a || b) ≡ true
or_true true b e = refl
or_true false b e = e

some_number : (o : Option ℕ) → is_some o ≡ true → (n : ℕ) × (o ≡ Some n)
some_number None e = absurd cc
some_number (Some n) e = (n, refl)

module _ (s : Source) (cs : List ClassName) (knows : Knows cs (declared_paths s)) where
  has_number : (path : List TypeId) → list_any (is_path path) (declared_paths s) ≡ true → (n : ℕ) × (class_numbered cs path ≡ Some n)
  has_number [] e = (0, refl)
  has_number (i ∷ more) e = some_number (class_numbered cs (i ∷ more)) (knows i more ∙ e)

  known_from : (done ns : List Node) → classes s ≡ done ++ ns → AreKnown cs (map (node_size s) ns)
  known_from done [] e = tt
  known_from done (n ∷ ns) e = (
    has_number n.around.path
        (or_true (is_path n.around.path module_path) (list_any (is_path n.around.path) (map (λ (m : Node). m.around.path) (classes s)))
        (ap (λ ms. list_any (is_path n.around.path) (map (λ (m : Node). m.around.path) ms)) e ∙ among done ns n)),
    known_from (done ++ n ∷ []) ns (e ∙ sym (append_assoc done (n ∷ []) ns)),
  )

  pub all_known : AreKnown cs (size_list s [] s.tree)
  all_known = subst (AreKnown cs) (all_listed s) (known_from [] (classes s) refl)

  pub nothing_filled : (sizes : List (Option (Option ℕ))) → AreUnknown (length cs) sizes → AreFilled cs sizes []
  nothing_filled sizes unknown path n led = unknown.each n (to_within outer_of id_of is_id id_same id_itself cs path 0 n (omega arith) led)

  pub sizes_are : (sizes : List (Option (Option ℕ))) → AreFilled cs sizes (size_list s [] s.tree) → AreSizes s cs sizes
  sizes_are sizes all path = go path (class_numbered cs path) refl
    where
      go : (p : List TypeId) (o : Option ℕ) → class_numbered cs p ≡ o
          → size_numbered sizes o ≡ asked_size_at s (class_at s p)
      go p (Some n) led =
          ap (λ x. flat (flat x)) (all p n led) ∙ ap (λ ds. flat (first_size p ds)) (sym (all_listed s)) ∙ first_is s p (classes s)
      go [] None led = absurd cc
      go (i ∷ more) None led =
          let none : list_any (is_path (i ∷ more)) (declared_paths s) ≡ false = sym (knows i more) ∙ ap is_some led in
          let missing = no_class (i ∷ more) (classes s) (or_both (is_path (i ∷ more) module_path) _ none) in
          sym (ap (λ x. asked_size_at s x) missing)
