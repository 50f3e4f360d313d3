-- Classes that would have `System.Object` as their base, and where that stands.
use Rattle.std.proofs.Common.{◌≡◌, ℕ, suc, List, [], ◌∷◌, ◌++◌, Option, None, Some, length, refl, ap, sym, ◌∙◌, arith}
use Rattle.std.specs.Prelude.{Bool, true, false, not, ◌==◌, ◌&&◌, ◌||◌, if◌then◌else◌, is_some, min, position}
use Rattle.std.specs.List.{flat_map, list_any}
use Rattle.std.proofs.lemmas.Grind.{flat_map-append}
use Rattle.type_terms.specs.declared.name.Scope.TheVariants.{Here}
use Rattle.type_terms.specs.declared.name.TypeId.{TypeId}
use Rattle.ilasm_grammar.specs.declared.productions.TheConstants.{CLASS, METHOD, EXTENDS, EXTENDS_OPT_SOME}
use Rattle.source_model.specs.Classes.{core_scope, is_core, is_interface, is_root, object_scope, system_object, wants_object}
use Rattle.source_model.specs.Forest as tree
use Rattle.source_model.specs.Forest.{Forest, child, has}
use Rattle.source_model.specs.Names.{classes, externs, is_declared_path}
use Rattle.source_model.specs.Nodes.{Around, Node, class_token, entered, nodes, nodes_in, nothing_around, type_id}
use Rattle.source_model.specs.Source.{Source}
use Rattle.source_model.specs.Undeclared.{object_undeclared_of, objects_undeclared}
use Rattle.source_syntax.specs.ClassNumbers.{Knows, class_in, id_of, outer_of}
use Rattle.source_syntax.specs.Nested.{onward, reached}
use Rattle.assembly_tree.specs.DataSize.{is_id}
use Rattle.source_nodes.specs.Least.{least}
use Rattle.source_syntax.specs.declared.class_paths.ClassName.{ClassName}
use Rattle.check_names.specs.DeclaredClasses.{declared_paths}
use Rattle.check_names.specs.Roots.{is_root_named, is_rootless, rootless}
use Rattle.check_names.proofs.MissingLemmas.{flat_filtered, flat_same, some_place}
use Rattle.check_names.proofs.NamedTypeLemmas.{declared_is}

-- ---- one class

further : (n : ℕ) → (suc (suc n) == 1) ≡ false
further n = grind arith

-- the path of a class ends in its own name
root_is : (s : Source) (path : List TypeId) (token : ℕ)
    → is_root (path ++ type_id s token ∷ []) ≡ is_root_named s (length (path ++ type_id s token ∷ [])) token
root_is s [] token = refl
root_is s (x ∷ []) token = refl
root_is s (x ∷ y ∷ zs) token = sym (ap (λ b. b && is_root (type_id s token ∷ [])) (further (length (zs ++ type_id s token ∷ []))))

module _ (s : Source) where
  abbrev wanting : Node → List ℕ
  wanting n = if wants_object s n.around n.below then class_token n.below ∷ [] else []

  abbrev wanting_class : Node → List ℕ
  wanting_class n = if n.production == CLASS then wanting n else []

  path_is : (a : Around) (p : ℕ) (b : Forest) → (p == CLASS) ≡ true → (entered s a p b).path ≡ a.path ++ type_id s (class_token b) ∷ []
  path_is a p b e =
      ap (λ (c : Bool). (if c then record { path = a.path ++ type_id s (class_token b) ∷ []; class = b; method = tree.none }
      else if p == METHOD then record { path = a.path; class = a.class; method = b }
      else a).path) e

  one_class : (a : Around) (p : ℕ) (b : Forest) → rootless s (record { production = p; below = b; around = entered s a p b })
      ≡ wanting_class (record { production = p; below = b; around = entered s a p b })
  one_class a p b = go (p == CLASS) refl
    where
      go : (c : Bool) → (p == CLASS) ≡ c
          → (if c then (if is_rootless s (record { production = p; below = b; around = entered s a p b }) then class_token b ∷ [] else []) else [])
          ≡ (if c then wanting (record { production = p; below = b; around = entered s a p b }) else [])
      go false e = refl
      go true e =
          ap (λ (r : Bool). if not (is_interface s b || has EXTENDS (child (EXTENDS_OPT_SOME ∷ []) b) || r) then class_token b ∷ [] else [])
          (sym (ap is_root (path_is a p b e) ∙ root_is s a.path (class_token b) ∙ ap (λ path. is_root_named s (length path) (class_token b)) (sym (path_is a p b e))))

  every_class : (a : Around) (f : Forest) → flat_map (rootless s) (nodes_in s a f) ≡ flat_map wanting_class (nodes_in s a f)
  every_class a tree.none = refl
  every_class a (tree.leaf k after) = every_class a after
  every_class a (tree.branch p b after) =
      let n : Node = record { production = p; below = b; around = entered s a p b } in
      let inner = nodes_in s (entered s a p b) b in
      flat_map-append (rootless s) (n ∷ inner) (nodes_in s a after)
      ∙ ap (λ ks. (ks ++ flat_map (rootless s) inner) ++ flat_map (rootless s) (nodes_in s a after)) (one_class a p b)
      ∙ ap (λ ks. (wanting_class n ++ ks) ++ flat_map (rootless s) (nodes_in s a after)) (every_class (entered s a p b) b)
      ∙ ap (λ ks. (wanting_class n ++ flat_map wanting_class inner) ++ ks) (every_class a after)
      ∙ sym (flat_map-append wanting_class (n ∷ inner) (nodes_in s a after))

  turned : (p : ℕ) → ((CLASS == p) || false) ≡ (p == CLASS)
  turned p = grind arith

  without : (b : Bool) → (b && true) ≡ b
  without true = refl
  without false = refl

  never : (b : Bool) → (b && false) ≡ false
  never true = refl
  never false = refl

  abbrev nowhere : List ℕ
  nowhere = []

  nothing_of : {X : Type 0} (xs : List X) → flat_map (λ (x : X). nowhere) xs ≡ nowhere
  nothing_of [] = refl
  nothing_of (x ∷ xs) = nothing_of xs

  pub none_wanted : is_some (core_scope s) ≡ true → None ≡ least (objects_undeclared s)
  none_wanted e =
      sym (ap least (flat_same (object_undeclared_of s) (λ (n : Node). nowhere) (classes s)
      (λ n. ap (λ (b : Bool). if wants_object s n.around n.below && not b then class_token n.below ∷ [] else []) e
      ∙ ap (λ (b : Bool). if b then class_token n.below ∷ [] else []) (never (wants_object s n.around n.below)))
      ∙ nothing_of (classes s)))

  pub all_wanted : is_some (core_scope s) ≡ false → flat_map (rootless s) (nodes s) ≡ objects_undeclared s
  unfolding nodes
  all_wanted e =
      every_class nothing_around s.tree
      ∙ flat_same wanting_class (λ (n : Node). if (CLASS == n.production) || false then wanting n else []) (nodes s)
      (λ n. ap (λ (b : Bool). if b then wanting n else []) (sym (turned n.production)))
      ∙ sym (flat_filtered (λ (n : Node). (CLASS == n.production) || false) wanting (nodes s))
      ∙ flat_same wanting (object_undeclared_of s) (classes s)
      (λ n. sym (ap (λ (b : Bool). if wants_object s n.around n.below && not b then class_token n.below ∷ [] else []) e
      ∙ ap (λ (b : Bool). if b then class_token n.below ∷ [] else []) (without (wants_object s n.around n.below))))

-- ---- the depth, which is counted up to 101

pub one_deep : (n : ℕ) → (min n 101 == 1) ≡ (n == 1)
one_deep n = grind arith

-- ---- where the root of all classes stands

pub in_core : (s : Source) → list_any (is_core s) (externs s) ≡ true → true ≡ is_some (core_scope s)
in_core s any = go (position (is_core s) (externs s)) (some_place (is_core s) (externs s) ∙ any)
  where
    go : (o : Option ℕ) → is_some o ≡ true → true ≡ is_some (object_scope s o)
    go None e = absurd cc
    go (Some k) e = refl

pub in_source : (s : Source) (cs : List ClassName) (id : TypeId) → Knows cs (declared_paths s) → list_any (is_core s) (externs s) ≡ false
    → system_object ≡ id ∷ [] → is_some (class_in cs id 0) ≡ is_some (core_scope s)
in_source s cs id knows any is =
    arrived (class_in cs id 0) ∙ declared_is s cs knows id [] ∙ ap (is_declared_path s) (sym is)
    ∙ go (position (is_core s) (externs s)) (some_place (is_core s) (externs s) ∙ any)
  where
    arrived : (o : Option ℕ) → is_some o ≡ is_some (onward (reached outer_of id_of is_id cs []) o)
    arrived None = refl
    arrived (Some k) = refl

    some : (b : Bool) → b ≡ is_some (if b then Some Here else None)
    some true = refl
    some false = refl

    go : (o : Option ℕ) → is_some o ≡ false → is_declared_path s system_object ≡ is_some (object_scope s o)
    go None e = some (is_declared_path s system_object)
    go (Some k) e = absurd cc

-- ---- one class, as the code finds it

pub named_at : (s : Source) (depth n token name : ℕ) → depth ≡ min n 101 → token ≡ name → is_root_named s depth token ≡ is_root_named s n name
named_at s depth n token name e same =
    ap (λ d. (d == 1) && is_root (type_id s token ∷ [])) e
    ∙ ap (λ b. b && is_root (type_id s token ∷ [])) (one_deep n)
    ∙ ap (λ t. (n == 1) && is_root (type_id s t ∷ [])) same

module _ (s : Source) (n : Node) where
  pub root_alone : is_root_named s (length n.around.path) (class_token n.below) ≡ true → None ≡ least (if is_rootless s n then class_token n.below ∷ [] else [])
  root_alone e =
      sym (ap (λ (r : Bool). least (if not (is_interface s n.below || has EXTENDS (child (EXTENDS_OPT_SOME ∷ []) n.below) || r) then class_token n.below ∷ [] else [])) e
      ∙ go (is_interface s n.below) (has EXTENDS (child (EXTENDS_OPT_SOME ∷ []) n.below)))
    where
      go : (i h : Bool) → least (if not (i || h || true) then class_token n.below ∷ [] else []) ≡ None
      go true h = refl
      go false true = refl
      go false false = refl

  pub without_base : (token : ℕ) → is_interface s n.below ≡ false → has EXTENDS (child (EXTENDS_OPT_SOME ∷ []) n.below) ≡ false
      → is_root_named s (length n.around.path) (class_token n.below) ≡ false → token ≡ class_token n.below
      → Some token ≡ least (if is_rootless s n then class_token n.below ∷ [] else [])
  without_base token i h r same =
      ap Some same
      ∙ sym (ap (λ (b : Bool). least (if not (b || has EXTENDS (child (EXTENDS_OPT_SOME ∷ []) n.below) || is_root_named s (length n.around.path) (class_token n.below)) then class_token n.below ∷ [] else [])) i
      ∙ ap (λ (b : Bool). least (if not (b || is_root_named s (length n.around.path) (class_token n.below)) then class_token n.below ∷ [] else [])) h
      ∙ ap (λ (b : Bool). least (if not b then class_token n.below ∷ [] else [])) r)
