-- The classes of a forest with their paths, piece by piece.
use Rattle.std.proofs.Common.{◌≡◌, ℕ, suc, ◌+◌, List, [], ◌∷◌, ◌++◌, Option, Some, None, length, cond, map, take, drop, refl, ap, sym, subst, ◌∙◌, arith, append_assoc, append-nil, length-append}
use Rattle.std.specs.Prelude.{Bool, true, false, ◌==◌, ◌||◌, if◌then◌else◌, filter, is_some}
use Rattle.std.specs.List.{list_any}
use Rattle.std.proofs.lemmas.List.{map-append, take-append-drop}
use Rattle.type_terms.specs.declared.name.TypeId.{TypeId}
use Rattle.assembly_tree.specs.DataSize.{is_id}
use Rattle.ilasm_grammar.specs.declared.productions.TheConstants.{CLASS, METHOD}
use Rattle.ilasm_grammar.specs.declared.tree.TreeNode.{TreeNode}
use Rattle.ilasm_grammar.specs.declared.tree.TreeNode.TheVariants.{Branch, Leaf}
use Rattle.source_model.specs.DeclaredTwice.{is_module_class, is_same_class, repeats, repeats_after, types_twice}
use Rattle.source_model.specs.Forest as tree
use Rattle.source_model.specs.Forest.{Forest, joined, preorder}
use Rattle.source_model.specs.Laws.{ForestOpens, ForestsJoin}
use Rattle.source_model.specs.Names.{classes, is_path, module_path}
use Rattle.source_model.specs.Nodes.{Around, Node, class_token, entered, nodes, nodes_in, nodes_of, nothing_around, type_id}
use Rattle.source_model.specs.Source.{Source}
use Rattle.source_syntax.specs.ClassNumbers.{Knows, class_in, class_numbered, class_of, id_of, outer_of}
use Rattle.check_names.specs.DeclaredClasses.{AreAdded, ClassAt, IsEntered, Kept, again_in, class_list, declared_paths, inner_path, path_of}
use Rattle.source_nodes.specs.Derived.{FitsBody, HasBodies}
use Rattle.source_nodes.specs.Least.{least, sooner}
use Rattle.source_syntax.specs.Nested.{IsNested, onward}
use Rattle.source_nodes.specs.Walk.{IsForest}
use Rattle.source_syntax.specs.declared.class_paths.ClassName.{ClassName}
use Rattle.check_names.specs.declared.class_rules.Entered.{Entered}
use Rattle.source_syntax.proofs.ClassLemmas.{id_itself, id_same, path_itself, path_same}
use Rattle.source_nodes.proofs.Collecting.{of_joined}
use Rattle.source_syntax.proofs.LeastLemmas.{least_append, sooner_assoc, sooner_comm}
use Rattle.check_names.proofs.Classless.{Classless, method_classless}
use Rattle.source_syntax.proofs.NestedLemmas.{knows_again, knows_more, knows_none, to_append, to_kept, to_new}

-- ---- lists of classes

pub list_joined : (s : Source) (path : List TypeId) (f g : Forest) → class_list s path (joined f g) ≡ class_list s path f ++ class_list s path g
list_joined s path tree.none g = refl
list_joined s path (tree.leaf k a) g = list_joined s path a g
list_joined s path (tree.branch p b a) g =
    let own = if p == CLASS then record { path = inner_path s path b; token = class_token b } ∷ class_list s (inner_path s path b) b else class_list s path b in
    ap (λ cs. own ++ cs) (list_joined s path a g) ∙ sym (append_assoc own (class_list s path a) (class_list s path g))

pub list_class : (s : Source) (path : List TypeId) (p : ℕ) (b a : Forest) → (p == CLASS) ≡ true
    → class_list s path (tree.branch p b a)
    ≡ (record { path = inner_path s path b; token = class_token b } ∷ class_list s (inner_path s path b) b) ++ class_list s path a
list_class s path p b a e =
    ap (λ (c : Bool). (if c then record { path = inner_path s path b; token = class_token b } ∷ class_list s (inner_path s path b) b else class_list s path b)
    ++ class_list s path a) e

pub list_other : (s : Source) (path : List TypeId) (p : ℕ) (b a : Forest) → (p == CLASS) ≡ false
    → class_list s path (tree.branch p b a) ≡ class_list s path (joined b a)
list_other s path p b a e =
    ap (λ (c : Bool). (if c then record { path = inner_path s path b; token = class_token b } ∷ class_list s (inner_path s path b) b else class_list s path b)
    ++ class_list s path a) e
    ∙ sym (list_joined s path b a)

list_none : (s : Source) (path : List TypeId) (f : Forest) → Classless f → class_list s path f ≡ []
list_none s path tree.none h = refl
list_none s path (tree.leaf k a) h = list_none s path a h
list_none s path (tree.branch p b a) h =
    list_other s path p b a h.0 ∙ list_joined s path b a ∙ ap (λ cs. cs ++ class_list s path a) (list_none s path b h.1) ∙ list_none s path a h.2

pub again_append : (seen : List (List TypeId)) (xs ys : List ClassAt) → again_in seen (xs ++ ys) ≡ again_in seen xs ++ again_in (seen ++ map path_of xs) ys
again_append seen [] ys = ap (λ ps. again_in ps ys) (sym (append-nil seen))
again_append seen (x ∷ xs) ys =
    let here = if list_any (is_path x.path) seen then x.token ∷ [] else [] in
    ap (λ ks. here ++ ks)
    (again_append (seen ++ x.path ∷ []) xs ys ∙ ap (λ ps. again_in (seen ++ x.path ∷ []) xs ++ again_in ps ys) (append_assoc seen (x.path ∷ []) (map path_of xs)))
    ∙ sym (append_assoc here (again_in (seen ++ x.path ∷ []) xs) (again_in (seen ++ path_of x ∷ map path_of xs) ys))

-- ---- those of a source

abbrev class_at : Node → ClassAt
class_at n = record { path = n.around.path; token = class_token n.below }

of_append : (ms ns : List Node) → map class_at (nodes_of (CLASS ∷ []) (ms ++ ns)) ≡ map class_at (nodes_of (CLASS ∷ []) ms) ++ map class_at (nodes_of (CLASS ∷ []) ns)
of_append [] ns = refl
of_append (m ∷ ms) ns = go ((CLASS == m.production) || false) (of_append ms ns)
  where
    go : (b : Bool) → map class_at (nodes_of (CLASS ∷ []) (ms ++ ns)) ≡ map class_at (nodes_of (CLASS ∷ []) ms) ++ map class_at (nodes_of (CLASS ∷ []) ns)
        → map class_at (cond b (m ∷ nodes_of (CLASS ∷ []) (ms ++ ns)) (nodes_of (CLASS ∷ []) (ms ++ ns)))
        ≡ map class_at (cond b (m ∷ nodes_of (CLASS ∷ []) ms) (nodes_of (CLASS ∷ []) ms)) ++ map class_at (nodes_of (CLASS ∷ []) ns)
    go true e = ap (λ cs. class_at m ∷ cs) e
    go false e = e

turned : (p : ℕ) → ((CLASS == p) || false) ≡ (p == CLASS)
turned p = grind arith

inner_is : (s : Source) (a : Around) (p : ℕ) (b : Forest) → (p == CLASS) ≡ true → (entered s a p b).path ≡ inner_path s a.path b
inner_is s a p b e =
    ap (λ (c : Bool). (if c then record { path = a.path ++ type_id s (class_token b) ∷ []; class = b; method = tree.none }
    else if p == METHOD then record { path = a.path; class = a.class; method = b }
    else a).path) e

outer_is : (s : Source) (a : Around) (p : ℕ) (b : Forest) → (p == CLASS) ≡ false → (entered s a p b).path ≡ a.path
outer_is s a p b e =
    ap (λ (c : Bool). (if c then record { path = a.path ++ type_id s (class_token b) ∷ []; class = b; method = tree.none }
    else if p == METHOD then record { path = a.path; class = a.class; method = b }
    else a).path) e ∙ go (p == METHOD)
  where
    go : (m : Bool) → (if m then record { path = a.path; class = a.class; method = b } else a).path ≡ a.path
    go true = refl
    go false = refl

own_class : (n : Node) (ns : List Node) → map class_at (nodes_of (CLASS ∷ []) (n ∷ ns))
    ≡ (if n.production == CLASS then class_at n ∷ [] else []) ++ map class_at (nodes_of (CLASS ∷ []) ns)
own_class n ns =
    go ((CLASS == n.production) || false) ∙ ap (λ (b : Bool). (if b then class_at n ∷ [] else []) ++ map class_at (nodes_of (CLASS ∷ []) ns)) (turned n.production)
  where
    go : (b : Bool) → map class_at (cond b (n ∷ nodes_of (CLASS ∷ []) ns) (nodes_of (CLASS ∷ []) ns))
        ≡ (if b then class_at n ∷ [] else []) ++ map class_at (nodes_of (CLASS ∷ []) ns)
    go true = refl
    go false = refl

pub listed : (s : Source) (a : Around) (f : Forest) → map class_at (nodes_of (CLASS ∷ []) (nodes_in s a f)) ≡ class_list s a.path f
listed s a tree.none = refl
listed s a (tree.leaf k after) = listed s a after
listed s a (tree.branch p b after) =
    let n : Node = record { production = p; below = b; around = entered s a p b } in
    let inner = nodes_in s (entered s a p b) b in
    of_append (n ∷ inner) (nodes_in s a after)
    ∙ ap (λ cs. map class_at (nodes_of (CLASS ∷ []) (n ∷ inner)) ++ cs) (listed s a after)
    ∙ ap (λ cs. cs ++ class_list s a.path after) (own_class n inner
    ∙ ap (λ cs. (if p == CLASS then class_at n ∷ [] else []) ++ cs) (listed s (entered s a p b) b))
    ∙ ap (λ cs. cs ++ class_list s a.path after) (go (p == CLASS) refl)
  where
    go : (c : Bool) → (p == CLASS) ≡ c
        → (if c then class_at (record { production = p; below = b; around = entered s a p b }) ∷ [] else []) ++ class_list s (entered s a p b).path b
        ≡ (if c then record { path = inner_path s a.path b; token = class_token b } ∷ class_list s (inner_path s a.path b) b else class_list s a.path b)
    go true e = ap (λ path. record { path = path; token = class_token b } ∷ class_list s path b) (inner_is s a p b e)
    go false e = ap (λ path. class_list s path b) (outer_is s a p b e)

paths_of_listed : (ns : List Node) → map path_of (map class_at ns) ≡ map (λ (n : Node). n.around.path) ns
paths_of_listed [] = refl
paths_of_listed (n ∷ ns) = ap (λ ps. n.around.path ∷ ps) (paths_of_listed ns)

pub all_listed : (s : Source) → map class_at (classes s) ≡ class_list s [] s.tree
unfolding nodes
all_listed s = listed s nothing_around s.tree

pub paths_are : (s : Source) → (module_path ∷ []) ++ map path_of (class_list s [] s.tree) ≡ declared_paths s
paths_are s = ap (λ cs. module_path ∷ map path_of cs) (sym (all_listed s)) ∙ ap (λ ps. module_path ∷ ps) (paths_of_listed (classes s))

-- what repeats, and what has the path of the class that needs no declaration, is what was seen before
any_before : (path : List TypeId) (ns : List Node) → list_any (λ (n : Node). is_path path n.around.path) ns ≡ list_any (is_path path) (map (λ (n : Node). n.around.path) ns)
any_before path [] = refl
any_before path (n ∷ ns) = ap (λ b. is_path path n.around.path || b) (any_before path ns)

each_or : (token : ℕ) (a b : Bool) (x y : Option ℕ)
    → sooner (least (if a || b then token ∷ [] else [])) (sooner x y) ≡ sooner (sooner (least (if a then token ∷ [] else [])) x) (sooner (least (if b then token ∷ [] else [])) y)
each_or token true true x y = swapped (Some token) x y
  where
    swapped : (t x y : Option ℕ) → sooner t (sooner x y) ≡ sooner (sooner t x) (sooner t y)
    swapped t x y =
        sym (sooner_assoc t x y) ∙ ap (λ z. sooner (sooner z x) y) (sym (twice t)) ∙ sooner_assoc (sooner t t) x y ∙ sooner_assoc t t (sooner x y)
        ∙ ap (sooner t) (sym (sooner_assoc t x y) ∙ ap (λ z. sooner z y) (sooner_comm t x) ∙ sooner_assoc x t y) ∙ sym (sooner_assoc t x (sooner t y))
      where
        twice : (o : Option ℕ) → sooner o o ≡ o
        twice None = refl
        twice (Some k) = same k
          where
            same : (k : ℕ) → sooner (Some k) (Some k) ≡ Some k
            same k = grind arith
each_or token true false x y = sym (sooner_assoc (Some token) x y)
each_or token false true x y = sym (sooner_assoc (Some token) x y) ∙ ap (λ z. sooner z y) (sooner_comm (Some token) x) ∙ sooner_assoc x (Some token) y
each_or token false false x y = refl

both_lists : (before ns : List Node)
    → least (again_in (module_path ∷ map (λ (n : Node). n.around.path) before) (map class_at ns))
    ≡ sooner (least (map (λ (n : Node). class_token n.below) (filter is_module_class ns))) (least (map (λ (n : Node). class_token n.below) (repeats_after is_same_class before ns)))
both_lists before [] = refl
both_lists before (n ∷ ns) =
    let token = class_token n.below in
    let modules = map (λ (m : Node). class_token m.below) (filter is_module_class ns) in
    let more = map (λ (m : Node). class_token m.below) (repeats_after is_same_class (before ++ n ∷ []) ns) in
    let path = n.around.path in
    let seen = map (λ (m : Node). m.around.path) before in
    least_append (if is_path path module_path || list_any (is_path path) seen then token ∷ [] else []) (again_in ((module_path ∷ seen) ++ path ∷ []) (map class_at ns))
    ∙ ap (λ ps. sooner (least (if is_path path module_path || list_any (is_path path) seen then token ∷ [] else [])) (least (again_in (module_path ∷ ps) (map class_at ns))))
    (sym (map-append (λ (m : Node). m.around.path) before (n ∷ [])))
    ∙ ap (sooner (least (if is_path path module_path || list_any (is_path path) seen then token ∷ [] else []))) (both_lists (before ++ n ∷ []) ns)
    ∙ each_or token (is_path path module_path) (list_any (is_path path) seen) (least modules) (least more)
    ∙ ap (λ x. sooner x (sooner (least (if list_any (is_path path) seen then token ∷ [] else [])) (least more))) (module_part (is_module_class n))
    ∙ ap (sooner (least (map (λ (m : Node). class_token m.below) (filter is_module_class (n ∷ ns)))))
    (ap (λ (b : Bool). sooner (least (if b then token ∷ [] else [])) (least more)) (sym (any_before path before)) ∙ repeat_part (list_any (is_same_class n) before))
  where
    module_part : (b : Bool) → sooner (least (if b then class_token n.below ∷ [] else [])) (least (map (λ (m : Node). class_token m.below) (filter is_module_class ns)))
        ≡ least (map (λ (m : Node). class_token m.below) (cond b (n ∷ filter is_module_class ns) (filter is_module_class ns)))
    module_part true = refl
    module_part false = refl

    repeat_part : (b : Bool) → sooner (least (if b then class_token n.below ∷ [] else [])) (least (map (λ (m : Node). class_token m.below) (repeats_after is_same_class (before ++ n ∷ []) ns)))
        ≡ least (map (λ (m : Node). class_token m.below) ((if b then n ∷ [] else []) ++ repeats_after is_same_class (before ++ n ∷ []) ns))
    repeat_part true = refl
    repeat_part false = refl

pub twice_are : (s : Source) → least (again_in (module_path ∷ []) (class_list s [] s.tree)) ≡ least (types_twice s)
twice_are s =
    ap (λ cs. least (again_in (module_path ∷ []) cs)) (sym (all_listed s)) ∙ both_lists [] (classes s)
    ∙ sym (least_append (map (λ (n : Node). class_token n.below) (filter is_module_class (classes s))) (map (λ (n : Node). class_token n.below) (repeats is_same_class (classes s))))

-- ---- one class

some_first : (path : List TypeId) (id : TypeId) → (i : TypeId) × (more : List TypeId) × (path ++ id ∷ [] ≡ i ∷ more)
some_first [] id = (id, [], refl)
some_first (i ∷ path) id = (i, path ++ id ∷ [], refl)

-- the number of a class in a class with a number
pub inner_led : (cs : List ClassName) (path : List TypeId) (outer number : ℕ) (id : TypeId) → class_numbered cs path ≡ Some outer
    → class_in cs id outer ≡ Some number → class_numbered cs (path ++ id ∷ []) ≡ Some number
inner_led cs path outer number id at is =
    to_append outer_of id_of is_id id_same id_itself cs path (id ∷ []) 0 ∙ ap (onward (λ n. onward (λ k. Some k) (class_in cs id n))) at ∙ ap (onward (λ k. Some k)) is

pub new_led : (cs now : List ClassName) (path : List TypeId) (outer : ℕ) (id : TypeId) → class_numbered cs path ≡ Some outer → class_in cs id outer ≡ None
    → IsNested outer_of id_of is_id cs → now ≡ cs ++ class_of outer id ∷ [] → class_numbered now (path ++ id ∷ []) ≡ Some (length now)
new_led cs now path outer id at fresh nested is =
    let c = class_of outer id in
    ap (λ x. class_numbered x (path ++ id ∷ [])) is ∙ to_new outer_of id_of is_id id_same id_itself cs c path nested at fresh
    ∙ ap Some (sym (ap length is ∙ length-append cs (c ∷ []) ∙ one_more (length cs)))
  where
    one_more : (n : ℕ) → n + 1 ≡ suc n
    one_more n = omega arith

module _ (cs : List ClassName) (seen : List (List TypeId)) (path : List TypeId) (outer : ℕ) (id : TypeId)
    (at : class_numbered cs path ≡ Some outer) (knows : Knows cs seen) where
  inner_number : class_numbered cs (path ++ id ∷ []) ≡ onward (λ k. Some k) (class_in cs id outer)
  inner_number = to_append outer_of id_of is_id id_same id_itself cs path (id ∷ []) 0 ∙ ap (onward (λ n. onward (λ k. Some k) (class_in cs id n))) at

  seen_is : is_some (class_numbered cs (path ++ id ∷ [])) ≡ list_any (is_path (path ++ id ∷ [])) seen
  seen_is =
      let f = some_first path id in
      ap (λ p. is_some (class_numbered cs p)) f.2 ∙ knows f.0 f.1 ∙ ap (λ p. list_any (is_path p) seen) (sym f.2)

  pub entered_again : (number token : ℕ) (e : Entered) → class_in cs id outer ≡ Some number → e.number ≡ number → e.again ≡ Some token
      → IsEntered seen (path ++ id ∷ []) token cs e
  entered_again number token e is n a =
      let f = some_first path id in
      let led : class_numbered cs (path ++ id ∷ []) ≡ Some number = inner_number ∙ ap (onward (λ k. Some k)) is in
      let any : list_any (is_path (path ++ id ∷ [])) seen ≡ true = sym seen_is ∙ ap is_some led in
      record {
        numbered = led ∙ ap Some (sym n);
        knows = subst (λ p. Knows cs (seen ++ p ∷ [])) (sym f.2)
            (knows_again outer_of id_of is_id id_same id_itself is_path path_same path_itself cs seen knows f.0 f.1 number (ap (class_numbered cs) (sym f.2) ∙ led));
        again = a ∙ sym (ap (λ (b : Bool). least (if b then token ∷ [] else [])) any);
      }

  pub entered_new : (now : List ClassName) (token : ℕ) (e : Entered) → class_in cs id outer ≡ None → IsNested outer_of id_of is_id cs
      → now ≡ cs ++ class_of outer id ∷ [] → e.number ≡ length now → e.again ≡ None → IsEntered seen (path ++ id ∷ []) token now e
  entered_new now token e fresh nested is n a =
      let f = some_first path id in
      let c = class_of outer id in
      let led : class_numbered (cs ++ c ∷ []) (path ++ id ∷ []) ≡ Some (suc (length cs)) = to_new outer_of id_of is_id id_same id_itself cs c path nested at fresh in
      let none : list_any (is_path (path ++ id ∷ [])) seen ≡ false = sym seen_is ∙ ap is_some (inner_number ∙ ap (onward (λ k. Some k)) fresh) in
      let long : length now ≡ suc (length cs) = ap length is ∙ length-append cs (c ∷ []) ∙ one_more (length cs) in
      record {
        numbered = ap (λ x. class_numbered x (path ++ id ∷ [])) is ∙ led ∙ ap Some (sym long ∙ sym n);
        knows = subst (λ x. Knows x (seen ++ (path ++ id ∷ []) ∷ [])) (sym is)
            (subst (λ p. Knows (cs ++ c ∷ []) (seen ++ p ∷ [])) (sym f.2)
            (knows_more outer_of id_of is_id id_same id_itself is_path path_same path_itself cs seen knows c path f.0 f.1 nested at fresh f.2));
        again = a ∙ sym (ap (λ (b : Bool). least (if b then token ∷ [] else [])) none);
      }
    where
      one_more : (n : ℕ) → n + 1 ≡ suc n
      one_more n = omega arith

pub kept_more : (cs now : List ClassName) (c : ClassName) → now ≡ cs ++ c ∷ [] → Kept cs now
kept_more cs now c is path n at = ap (λ x. class_numbered x path) is ∙ to_kept outer_of id_of is_id id_same id_itself cs c path 0 n at

-- ---- the walk

-- the classes that are done, with those of the rest, are the whole
pub record Adding (s : Source) (path : List TypeId) (f : Forest) (seen : List (List TypeId)) (left : List TreeNode) (now : List ClassName)
    (found : Option ℕ) : Type 0 where
  pub rest : Forest
  pub is : preorder rest ≡ left
  pub bodies : HasBodies s rest
  pub done : List ClassAt
  pub whole : done ++ class_list s path rest ≡ class_list s path f
  pub knows : Knows now (seen ++ map path_of done)
  pub first : sooner found (least (again_in (seen ++ map path_of done) (class_list s path rest))) ≡ least (again_in seen (class_list s path f))

seen_more : (xs ps : List (List TypeId)) (p : List TypeId) (qs : List (List TypeId)) → ((xs ++ ps) ++ p ∷ []) ++ qs ≡ xs ++ (ps ++ p ∷ qs)
seen_more xs ps p qs = append_assoc (xs ++ ps) (p ∷ []) qs ∙ append_assoc xs ps (p ∷ qs)

module _ (opens : ForestOpens) (joins : ForestsJoin) (s : Source) (path : List TypeId) (f : Forest) (seen : List (List TypeId)) where
  pub adding_start : (nodes : List TreeNode) (now : List ClassName) → preorder f ≡ nodes → HasBodies s f → Knows now seen → Adding s path f seen nodes now None
  adding_start nodes now e bodies knows = record {
    rest = f;
    is = e;
    bodies = bodies;
    done = [];
    whole = refl;
    knows = subst (Knows now) (sym (append-nil seen)) knows;
    first = ap (λ ps. least (again_in ps (class_list s path f))) (append-nil seen);
  }

  pub adding_leaf : (token : ℕ) (left rest : List TreeNode) (now : List ClassName) (found : Option ℕ) → left ≡ Leaf token ∷ rest
      → Adding s path f seen left now found → Adding s path f seen rest now found
  adding_leaf token left rest now found e x =
      let b = opens.leaf x.rest token rest (x.is ∙ e) in
      record {
        rest = b.after;
        is = b.rest;
        bodies = subst (HasBodies s) b.is x.bodies;
        done = x.done;
        whole = ap (λ g. x.done ++ class_list s path g) (sym b.is) ∙ x.whole;
        knows = x.knows;
        first = ap (λ g. sooner found (least (again_in (seen ++ map path_of x.done) (class_list s path g)))) (sym b.is) ∙ x.first;
      }

  pub adding_other : (p count : ℕ) (left rest : List TreeNode) (now : List ClassName) (found : Option ℕ) → left ≡ Branch p count ∷ rest → (p == CLASS) ≡ false
      → Adding s path f seen left now found → Adding s path f seen rest now found
  adding_other p count left rest now found e other x =
      let b = opens.branch x.rest p count rest (x.is ∙ e) in
      let h = subst (HasBodies s) b.is x.bodies in
      let same : class_list s path (joined b.below b.after) ≡ class_list s path x.rest = sym (list_other s path p b.below b.after other) ∙ ap (class_list s path) (sym b.is) in
      record {
        rest = joined b.below b.after;
        is = joins.nodes b.below b.after ∙ ap (λ ns. ns ++ preorder b.after) b.inner ∙ ap (λ ns. take count rest ++ ns) b.rest ∙ take-append-drop count rest;
        bodies = of_joined (FitsBody s) b.below b.after h.1 h.2;
        done = x.done;
        whole = ap (λ cs. x.done ++ cs) same ∙ x.whole;
        knows = x.knows;
        first = ap (λ cs. sooner found (least (again_in (seen ++ map path_of x.done) cs))) same ∙ x.first;
      }

  pub adding_method : (p count : ℕ) (left rest : List TreeNode) (now : List ClassName) (found : Option ℕ) → left ≡ Branch p count ∷ rest → p ≡ METHOD
      → Adding s path f seen left now found → Adding s path f seen (drop count rest) now found
  adding_method p count left rest now found e method x =
      let b = opens.branch x.rest p count rest (x.is ∙ e) in
      let h = subst (HasBodies s) b.is x.bodies in
      let other : (p == CLASS) ≡ false = ap (λ q. q == CLASS) method in
      let nothing : class_list s path b.below ≡ [] = list_none s path b.below (method_classless s p b.below method h.0 h.1) in
      let same : class_list s path b.after ≡ class_list s path x.rest =
      ap (λ cs. cs ++ class_list s path b.after) (sym nothing) ∙ sym (list_joined s path b.below b.after) ∙ sym (list_other s path p b.below b.after other)
      ∙ ap (class_list s path) (sym b.is) in
      record {
        rest = b.after;
        is = b.rest;
        bodies = h.2;
        done = x.done;
        whole = ap (λ cs. x.done ++ cs) same ∙ x.whole;
        knows = x.knows;
        first = ap (λ cs. sooner found (least (again_in (seen ++ map path_of x.done) cs))) same ∙ x.first;
      }

  -- what was entered and added at a class
  pub record Inner (count : ℕ) (rest : List TreeNode) (before : List (List TypeId)) (token : ℕ) (mid after : List ClassName) (e : Entered) (within : Option ℕ)
      (b : Forest) : Type 0 where
    pub token-is : token ≡ class_token b
    pub entered : IsEntered before (path ++ type_id s token ∷ []) token mid e
    pub added : AreAdded s (path ++ type_id s token ∷ []) b (before ++ (path ++ type_id s token ∷ []) ∷ []) after within

  pub adding_class : (p count token : ℕ) (left rest : List TreeNode) (now mid after : List ClassName) (found more : Option ℕ) (e : Entered) (within : Option ℕ)
      → left ≡ Branch p count ∷ rest → (p == CLASS) ≡ true
      → ((before : List (List TypeId)) (b : Forest) → Knows now before → preorder b ≡ take count rest → FitsBody s p b → HasBodies s b
      → Inner count rest before token mid after e within b)
      → more ≡ sooner found (sooner e.again within)
      → Adding s path f seen left now found → Adding s path f seen (drop count rest) after more
  adding_class p count token left rest now mid after found more e within is own entering sum x =
      let b = opens.branch x.rest p count rest (x.is ∙ is) in
      let h = subst (HasBodies s) b.is x.bodies in
      let before = seen ++ map path_of x.done in
      let i = entering before b.below x.knows b.inner h.0 h.1 in
      let own_path = inner_path s path b.below in
      let same : path ++ type_id s token ∷ [] ≡ own_path = ap (λ k. path ++ type_id s k ∷ []) i.token-is in
      let c : ClassAt = record { path = own_path; token = class_token b.below } in
      let inner = class_list s own_path b.below in
      let rest_list = class_list s path b.after in
      let added : AreAdded s own_path b.below (before ++ own_path ∷ []) after within =
      subst (λ q. AreAdded s q b.below (before ++ q ∷ []) after within) same i.added in
      let again : e.again ≡ least (if list_any (is_path own_path) before then class_token b.below ∷ [] else []) =
      i.entered.again ∙ ap (λ q. least (if list_any (is_path q) before then token ∷ [] else [])) same
      ∙ ap (λ k. least (if list_any (is_path own_path) before then k ∷ [] else [])) i.token-is in
      let split : class_list s path x.rest ≡ (c ∷ inner) ++ rest_list = ap (class_list s path) b.is ∙ list_class s path p b.below b.after own in
      record {
        rest = b.after;
        is = b.rest;
        bodies = h.2;
        done = x.done ++ c ∷ inner;
        whole = append_assoc x.done (c ∷ inner) rest_list ∙ ap (λ cs. x.done ++ cs) (sym split) ∙ x.whole;
        knows = subst (Knows after)
            (seen_more seen (map path_of x.done) own_path (map path_of inner) ∙ ap (λ ps. seen ++ ps) (sym (map-append path_of x.done (c ∷ inner)))) added.knows;
        first = ap (λ o. sooner o (least (again_in (seen ++ map path_of (x.done ++ c ∷ inner)) rest_list))) sum
            ∙ sooner_assoc found (sooner e.again within) (least (again_in (seen ++ map path_of (x.done ++ c ∷ inner)) rest_list))
            ∙ ap (sooner found) (ap (λ ps. sooner (sooner e.again within) (least (again_in (seen ++ ps) rest_list))) (map-append path_of x.done (c ∷ inner))
            ∙ ap (λ ps. sooner (sooner e.again within) (least (again_in ps rest_list))) (sym (append_assoc seen (map path_of x.done) (map path_of (c ∷ inner))))
            ∙ ap (λ o. sooner (sooner o within) (least (again_in (before ++ map path_of (c ∷ inner)) rest_list))) again
            ∙ ap (λ o. sooner (sooner (least (if list_any (is_path own_path) before then class_token b.below ∷ [] else [])) o) (least (again_in (before ++ map path_of (c ∷ inner)) rest_list))) added.first
            ∙ ap (λ o. sooner o (least (again_in (before ++ map path_of (c ∷ inner)) rest_list)))
            (sym (least_append (if list_any (is_path own_path) before then class_token b.below ∷ [] else []) (again_in (before ++ own_path ∷ []) inner)))
            ∙ sym (least_append (again_in before (c ∷ inner)) (again_in (before ++ map path_of (c ∷ inner)) rest_list))
            ∙ ap least (sym (again_append before (c ∷ inner) rest_list)) ∙ ap (λ cs. least (again_in before cs)) (sym split))
            ∙ x.first;
      }

  pub adding_end : (left : List TreeNode) (now : List ClassName) (found : Option ℕ) → left ≡ [] → Adding s path f seen left now found → AreAdded s path f seen now found
  adding_end left now found e x =
      let n = opens.none x.rest (x.is ∙ e) in
      let all : x.done ≡ class_list s path f = sym (append-nil x.done) ∙ ap (λ g. x.done ++ class_list s path g) (sym n) ∙ x.whole in
      record {
        knows = subst (λ cs. Knows now (seen ++ map path_of cs)) all x.knows;
        first = nothing_more found ∙ ap (λ g. sooner found (least (again_in (seen ++ map path_of x.done) (class_list s path g)))) (sym n) ∙ x.first;
      }
    where
      nothing_more : (o : Option ℕ) → o ≡ sooner o None
      nothing_more None = refl
      nothing_more (Some k) = refl

-- what stands behind a production is a forest
pub forest_behind : ForestOpens → ForestsJoin → (p count : ℕ) (left rest : List TreeNode) → left ≡ Branch p count ∷ rest → IsForest left → IsForest rest
forest_behind opens joins p count left rest e f =
    let b = opens.branch f.0 p count rest (f.1 ∙ e) in (
      joined b.below b.after,
      joins.nodes b.below b.after ∙ ap (λ ns. ns ++ preorder b.after) b.inner ∙ ap (λ ns. take count rest ++ ns) b.rest ∙ take-append-drop count rest,
    )

-- the class that needs no declaration is there from the start
pub module_known : (cs now : List ClassName) (id : TypeId) → cs ≡ [] → class_in cs id 0 ≡ None → IsNested outer_of id_of is_id cs → now ≡ cs ++ class_of 0 id ∷ []
    → Knows now ((id ∷ []) ∷ [])
module_known cs now id none fresh nested is =
    let e : Entered = record { number = length now; again = None } in
    (entered_new cs [] [] 0 id refl (subst (λ x. Knows x []) (sym none) (knows_none outer_of id_of is_id id_same id_itself is_path path_same path_itself)) now 0 e fresh nested is refl refl).knows
