-- Which types the assembly of a source declares: those of its classes, each by its path (ECMA-335 II.5.3, II.10).
use Rattle.std.proofs.Common.{◌≡◌, ℕ, ◌⊎◌, inl, inr, List, [], ◌∷◌, ◌++◌, Option, None, Some, cond, map, refl, ap, sym, subst, ◌∙◌, append_assoc}
use Rattle.std.specs.Prelude.{Bool, true, false, ◌==◌, ◌||◌, if◌then◌else◌, is_some, find}
use Rattle.std.proofs.lemmas.Bool.{cases_Bool}
use Rattle.std.proofs.lemmas.Bool.Decides.{Decides-eqb}
use Rattle.std.proofs.lemmas.List.{map-append}
use Rattle.std.proofs.lemmas.List.Elements.{filter-append}
use Rattle.type_terms.specs.declared.name.TypeId.{TypeId}
use Rattle.assembly_tree.specs.DataSize.{has_id, is_id, named, type_at, type_below, with_type}
use Rattle.assembly_tree.specs.declared.typedef.TypeDef.{TypeDef}
use Rattle.assembly_tree.specs.declared.typedef.TypeDef.TheViews.{out-TypeDef, out-roll-TypeDef}
use Rattle.ilasm_grammar.specs.declared.productions.TheConstants.{CLASS, METHOD}
use Rattle.source_model.specs.Classes.{class_from, classes_in}
use Rattle.source_model.specs.Forest.{Forest, none, leaf, branch}
use Rattle.source_model.specs.Names.{class_at, classes, is_path}
use Rattle.source_model.specs.Nodes.{Around, Node, class_token, entered, nodes, nodes_in, nodes_of, nothing_around, type_id}
use Rattle.source_model.specs.Source.{Source}
use Rattle.source_syntax.proofs.ClassLemmas.{id_itself, id_same, path_same}
use Rattle.source_syntax.proofs.TypeWalks.{flipped}
use Rattle.laws_formed_sources.proofs.sources.Members.{Apart, In, apart_back, apart_front, apart_map, apart_sides, from_map, in_back, in_either, in_front}

module _ (s : Source) where
  abbrev pub class_id : Forest → TypeId
  class_id b = type_id s (class_token b)

  -- the paths of the classes of a forest, from where the forest stands
  abbrev pub paths_at : Bool → Forest → List (List TypeId) → List (List TypeId)
  paths_at own b inner = if own then (class_id b ∷ []) ∷ map (λ q. class_id b ∷ q) inner else inner

  abbrev pub paths_in : Forest → List (List TypeId)
  paths_in none = []
  paths_in (leaf k f) = paths_in f
  paths_in (branch p b f) = paths_at (p == CLASS) b (paths_in b) ++ paths_in f

  -- ---- the nodes of the classes have these paths

  abbrev pub path_of : Node → List TypeId
  path_of n = n.around.path

  abbrev pub class_nodes : Around → Forest → List Node
  class_nodes a f = nodes_of (CLASS ∷ []) (nodes_in s a f)

  in_class : (a : Around) (p : ℕ) (b : Forest) → (p == CLASS) ≡ true → (entered s a p b).path ≡ a.path ++ class_id b ∷ []
  in_class a p b e =
      ap (λ (c : Bool). (if c then record { path = a.path ++ class_id b ∷ []; class = b; method = none }
      else if p == METHOD then record { path = a.path; class = a.class; method = b } else a).path) e

  in_other : (a : Around) (p : ℕ) (b : Forest) → (p == CLASS) ≡ false → (entered s a p b).path ≡ a.path
  in_other a p b e =
      ap (λ (c : Bool). (if c then record { path = a.path ++ class_id b ∷ []; class = b; method = none }
      else if p == METHOD then record { path = a.path; class = a.class; method = b } else a).path) e
      ∙ same (p == METHOD)
    where
      same : (c : Bool) → (if c then record { path = a.path; class = a.class; method = b } else a).path ≡ a.path
      same true = refl
      same false = refl

  turned : (p : ℕ) → (p == CLASS) ≡ true → (CLASS == p) ≡ true
  turned p e = (Decides-eqb CLASS p).1 (sym ((Decides-eqb p CLASS).0 e))

  longer : (xs : List TypeId) (i : TypeId) (qs : List (List TypeId)) → map (λ q. (xs ++ i ∷ []) ++ q) qs ≡ map (λ q. xs ++ q) (map (λ q. i ∷ q) qs)
  longer xs i [] = refl
  longer xs i (q ∷ qs) = ap (λ y. y ∷ map (λ q. (xs ++ i ∷ []) ++ q) qs) (append_assoc xs (i ∷ []) q) ∙ ap (λ ys. (xs ++ i ∷ q) ∷ ys) (longer xs i qs)

  module _ (a : Around) (p : ℕ) (b f : Forest) where
    abbrev inner : Around
    inner = entered s a p b

    abbrev own : Node
    own = record { production = p; below = b; around = inner }

    parted : nodes_of (CLASS ∷ []) (nodes_in s inner b ++ nodes_in s a f) ≡ class_nodes inner b ++ class_nodes a f
    parted = filter-append (λ n. (CLASS == n.production) || false) (nodes_in s inner b) (nodes_in s a f)

    abbrev below_paths : List TypeId → List (List TypeId)
    below_paths around = map (λ q. around ++ q) (paths_in b) ++ map (λ q. a.path ++ q) (paths_in f)

    step : map path_of (class_nodes inner b) ≡ map (λ q. inner.path ++ q) (paths_in b) → map path_of (class_nodes a f) ≡ map (λ q. a.path ++ q) (paths_in f)
        → map path_of (class_nodes a (branch p b f)) ≡ map (λ q. a.path ++ q) (paths_in (branch p b f))
    step below after = elim (cases_Bool (p == CLASS)) [
      | inl e ↦
          ap (λ (c : Bool). map path_of (cond (c || false) (own ∷ nodes_of (CLASS ∷ []) (nodes_in s inner b ++ nodes_in s a f)) (nodes_of (CLASS ∷ []) (nodes_in s inner b ++ nodes_in s a f)))) (turned p e)
          ∙ ap (λ ns. map path_of (own ∷ ns)) parted
          ∙ ap (λ ps. inner.path ∷ ps) both
          ∙ ap (λ x. x ∷ below_paths x) (in_class a p b e)
          ∙ ap (λ ps. (a.path ++ class_id b ∷ []) ∷ (ps ++ map (λ q. a.path ++ q) (paths_in f))) (longer a.path (class_id b) (paths_in b))
          ∙ sym (map-append (λ q. a.path ++ q) ((class_id b ∷ []) ∷ map (λ q. class_id b ∷ q) (paths_in b)) (paths_in f))
          ∙ sym (ap (λ (c : Bool). map (λ q. a.path ++ q) (paths_at c b (paths_in b) ++ paths_in f)) e)
      | inr e ↦
          ap (λ (c : Bool). map path_of (cond (c || false) (own ∷ nodes_of (CLASS ∷ []) (nodes_in s inner b ++ nodes_in s a f)) (nodes_of (CLASS ∷ []) (nodes_in s inner b ++ nodes_in s a f)))) (flipped p CLASS e)
          ∙ ap (map path_of) parted
          ∙ both
          ∙ ap below_paths (in_other a p b e)
          ∙ sym (map-append (λ q. a.path ++ q) (paths_in b) (paths_in f))
          ∙ sym (ap (λ (c : Bool). map (λ q. a.path ++ q) (paths_at c b (paths_in b) ++ paths_in f)) e)
    ]
      where
        both : map path_of (class_nodes inner b ++ class_nodes a f) ≡ below_paths inner.path
        both =
            map-append path_of (class_nodes inner b) (class_nodes a f)
            ∙ ap (λ ps. ps ++ map path_of (class_nodes a f)) below
            ∙ ap (λ ps. map (λ q. inner.path ++ q) (paths_in b) ++ ps) after

  pub node_paths : (a : Around) (f : Forest) → map path_of (class_nodes a f) ≡ map (λ q. a.path ++ q) (paths_in f)
  node_paths a none = refl
  node_paths a (leaf k f) = node_paths a f
  node_paths a (branch p b f) = step a p b f (node_paths (entered s a p b) b) (node_paths a f)

  same_map : (qs : List (List TypeId)) → map (λ q. q) qs ≡ qs
  same_map [] = refl
  same_map (q ∷ qs) = ap (λ ps. q ∷ ps) (same_map qs)

  pub class_paths : map path_of (classes s) ≡ paths_in s.tree
  unfolding nodes
  class_paths = node_paths nothing_around s.tree ∙ same_map (paths_in s.tree)

  found_in : (ns : List Node) (path : List TypeId) → is_some (find (λ n. is_path n.around.path path) ns) ≡ true → In path (map path_of ns)
  found_in [] path e = absurd cc
  found_in (n ∷ ns) path e = elim (cases_Bool (is_path n.around.path path)) [
    | inl is ↦ inl (path_same n.around.path path is)
    | inr apart ↦ inr (found_in ns path (sym (ap (λ (c : Bool). is_some (cond c (Some n) (find (λ n. is_path n.around.path path) ns))) apart) ∙ e))
  ]

  pub class_found : (path : List TypeId) → is_some (class_at s path) ≡ true → In path (paths_in s.tree)
  class_found path e = subst (In path) class_paths (found_in (classes s) path e)

  -- ---- the types of the classes

  pub id_is : (a : Around) (b : Forest) (ts : List TypeDef) → (out-TypeDef (class_from s a b ts)).id ≡ class_id b
  id_is a b ts = ap (λ l. l.id) (out-roll-TypeDef _)

  pub nested_is : (a : Around) (b : Forest) (ts : List TypeDef) → (out-TypeDef (class_from s a b ts)).nested ≡ ts
  nested_is a b ts = ap (λ l. l.nested) (out-roll-TypeDef _)

  pub classes_at : (a : Around) (p : ℕ) (b f : Forest) → classes_in s a (branch p b f)
      ≡ (if p == CLASS then class_from s (entered s a p b) b (classes_in s (entered s a p b) b) ∷ [] else classes_in s a b) ++ classes_in s a f
  unfolding classes_in
  classes_at a p b f = refl

  pub classes_leaf : (a : Around) (k : ℕ) (f : Forest) → classes_in s a (leaf k f) ≡ classes_in s a f
  unfolding classes_in
  classes_leaf a k f = refl

  pub classes_none : (a : Around) → classes_in s a none ≡ []
  unfolding classes_in
  classes_none a = refl

  abbrev class_type : Around → ℕ → Forest → TypeDef
  class_type a p b = class_from s (entered s a p b) b (classes_in s (entered s a p b) b)

  pub classes_own : (a : Around) (p : ℕ) (b f : Forest) → (p == CLASS) ≡ true → classes_in s a (branch p b f) ≡ class_type a p b ∷ classes_in s a f
  classes_own a p b f e = classes_at a p b f ∙ ap (λ (c : Bool). (if c then class_type a p b ∷ [] else classes_in s a b) ++ classes_in s a f) e

  pub classes_other : (a : Around) (p : ℕ) (b f : Forest) → (p == CLASS) ≡ false → classes_in s a (branch p b f) ≡ classes_in s a b ++ classes_in s a f
  classes_other a p b f e = classes_at a p b f ∙ ap (λ (c : Bool). (if c then class_type a p b ∷ [] else classes_in s a b) ++ classes_in s a f) e

  -- a type that is found by its name has a path of that name alone
  named_either : (i : TypeId) (xs ys : List TypeDef) → is_some (named i (xs ++ ys)) ≡ true → (is_some (named i xs) ≡ true) ⊎ (is_some (named i ys) ≡ true)
  named_either i [] ys e = inr e
  named_either i (x ∷ xs) ys e = elim (cases_Bool (has_id i x)) [
    | inl is ↦ inl (ap (λ (c : Bool). is_some (cond c (Some x) (named i xs))) is)
    | inr apart ↦
        elim (named_either i xs ys (sym (ap (λ (c : Bool). is_some (cond c (Some x) (named i (xs ++ ys)))) apart) ∙ e)) [
          | inl h ↦ inl (ap (λ (c : Bool). is_some (cond c (Some x) (named i xs))) apart ∙ h)
          | inr h ↦ inr h
        ]
  ]

  -- a class with this id
  this_class : (a : Around) (p : ℕ) (b : Forest) (i : TypeId) → has_id i (class_type a p b) ≡ true → class_id b ≡ i
  this_class a p b i e = sym (id_same i (class_id b) (sym (ap (is_id i) (id_is (entered s a p b) b (classes_in s (entered s a p b) b))) ∙ e))

  pub named_in : (a : Around) (f : Forest) (i : TypeId) → is_some (named i (classes_in s a f)) ≡ true → In (i ∷ []) (paths_in f)
  named_in a none i e = let h : is_some (named i []) ≡ true = sym (ap (λ ts. is_some (named i ts)) (classes_none a)) ∙ e in absurd cc
  named_in a (leaf k f) i e = named_in a f i (sym (ap (λ ts. is_some (named i ts)) (classes_leaf a k f)) ∙ e)
  named_in a (branch p b f) i e = elim (cases_Bool (p == CLASS)) [
    | inr other ↦
        subst (λ (c : Bool). In (i ∷ []) (paths_at c b (paths_in b) ++ paths_in f)) (sym other)
        (elim (named_either i (classes_in s a b) (classes_in s a f) (sym (ap (λ ts. is_some (named i ts)) (classes_other a p b f other)) ∙ e)) [
          | inl h ↦ in_front (i ∷ []) (paths_in b) (paths_in f) (named_in a b i h)
          | inr h ↦ in_back (i ∷ []) (paths_in b) (paths_in f) (named_in a f i h)
        ])
    | inl own ↦
        let h : is_some (named i (class_type a p b ∷ classes_in s a f)) ≡ true = sym (ap (λ ts. is_some (named i ts)) (classes_own a p b f own)) ∙ e in
        subst (λ (c : Bool). In (i ∷ []) (paths_at c b (paths_in b) ++ paths_in f)) (sym own)
        (elim (cases_Bool (has_id i (class_type a p b))) [
          | inl is ↦ inl (ap (λ j. j ∷ []) (this_class a p b i is))
          | inr apart ↦
              in_back (i ∷ []) (paths_at true b (paths_in b)) (paths_in f)
              (named_in a f i (sym (ap (λ (c : Bool). is_some (cond c (Some (class_type a p b)) (named i (classes_in s a f)))) apart) ∙ h))
        ])
  ]

  -- ---- where a path leads

  named_front : (i : TypeId) (xs ys : List TypeDef) (t : TypeDef) → named i xs ≡ Some t → named i (xs ++ ys) ≡ Some t
  named_front i [] ys t e = absurd cc
  named_front i (x ∷ xs) ys t e = elim (cases_Bool (has_id i x)) [
    | inl is ↦ ap (λ (c : Bool). cond c (Some x) (named i (xs ++ ys))) is ∙ sym (ap (λ (c : Bool). cond c (Some x) (named i xs)) is) ∙ e
    | inr apart ↦
        ap (λ (c : Bool). cond c (Some x) (named i (xs ++ ys))) apart
        ∙ named_front i xs ys t (sym (ap (λ (c : Bool). cond c (Some x) (named i xs)) apart) ∙ e)
  ]

  named_back : (i : TypeId) (xs ys : List TypeDef) → named i xs ≡ None → named i (xs ++ ys) ≡ named i ys
  named_back i [] ys e = refl
  named_back i (x ∷ xs) ys e = elim (cases_Bool (has_id i x)) [
    | inl is ↦ let h : Some x ≡ None = sym (ap (λ (c : Bool). cond c (Some x) (named i xs)) is) ∙ e in absurd cc
    | inr apart ↦
        ap (λ (c : Bool). cond c (Some x) (named i (xs ++ ys))) apart
        ∙ named_back i xs ys (sym (ap (λ (c : Bool). cond c (Some x) (named i xs)) apart) ∙ e)
  ]

  abbrev pub Leads : List TypeDef → List TypeId → Type 0
  Leads ts q = is_some (type_at ts q) ≡ true

  leads_front : (xs ys : List TypeDef) (q : List TypeId) → Leads xs q → Leads (xs ++ ys) q
  leads_front xs ys [] e = absurd cc
  leads_front xs ys (i ∷ more) e = go (named i xs) refl
    where
      go : (o : Option TypeDef) → named i xs ≡ o → Leads (xs ++ ys) (i ∷ more)
      go None is = let h : is_some (with_type (type_below more) None) ≡ true = sym (ap (λ o. is_some (with_type (type_below more) o)) is) ∙ e in absurd cc
      go (Some t) is = ap (λ o. is_some (with_type (type_below more) o)) (named_front i xs ys t is ∙ sym is) ∙ e

  leads_back : (xs ys : List TypeDef) (i : TypeId) (more : List TypeId) → (is_some (named i xs) ≡ true → ⊥) → Leads ys (i ∷ more) → Leads (xs ++ ys) (i ∷ more)
  leads_back xs ys i more absent e = go (named i xs) refl
    where
      go : (o : Option TypeDef) → named i xs ≡ o → Leads (xs ++ ys) (i ∷ more)
      go None is = ap (λ o. is_some (with_type (type_below more) o)) (named_back i xs ys is) ∙ e
      go (Some t) is = absurd (absent (ap (λ o. is_some o) is))

  -- a path that leads to a type begins with one
  begins : (ts : List TypeDef) (i : TypeId) (more : List TypeId) → Leads ts (i ∷ more) → is_some (named i ts) ≡ true
  begins ts i more e = go (named i ts) refl
    where
      go : (o : Option TypeDef) → named i ts ≡ o → is_some (named i ts) ≡ true
      go None is = let h : is_some (with_type (type_below more) None) ≡ true = sym (ap (λ o. is_some (with_type (type_below more) o)) is) ∙ e in absurd cc
      go (Some t) is = ap (λ o. is_some o) is

  first_named : (t : TypeDef) (ts : List TypeDef) → named (out-TypeDef t).id (t ∷ ts) ≡ Some t
  first_named t ts = ap (λ (c : Bool). cond c (Some t) (named (out-TypeDef t).id ts)) (id_itself (out-TypeDef t).id)

  leads_here : (t : TypeDef) (ts : List TypeDef) → Leads (t ∷ ts) ((out-TypeDef t).id ∷ [])
  leads_here t ts = ap (λ o. is_some (with_type (type_below []) o)) (first_named t ts)

  leads_inside : (t : TypeDef) (ts : List TypeDef) (j : TypeId) (more : List TypeId) → Leads (out-TypeDef t).nested (j ∷ more) → Leads (t ∷ ts) ((out-TypeDef t).id ∷ j ∷ more)
  leads_inside t ts j more e = ap (λ o. is_some (with_type (type_below (j ∷ more)) o)) (first_named t ts) ∙ e

  empty : (g : Forest) → In [] (paths_in g) → ⊥
  empty none i = i
  empty (leaf k g) i = empty g i
  empty (branch p b g) i = elim (in_either [] (paths_at (p == CLASS) b (paths_in b)) (paths_in g) i) [
    | inl j ↦ elim (cases_Bool (p == CLASS)) [
      | inl own ↦ no_empty b (subst (λ (c : Bool). In [] (paths_at c b (paths_in b))) own j)
      | inr other ↦ empty b (subst (λ (c : Bool). In [] (paths_at c b (paths_in b))) other j)
    ]
    | inr j ↦ empty g j
  ]
    where
      no_empty : (b : Forest) → In [] (paths_at true b (paths_in b)) → ⊥
      no_empty b (inl e) = absurd cc
      no_empty b (inr j) = let r = from_map (λ q. class_id b ∷ q) [] (paths_in b) j in let e = r.1 in absurd cc

  -- the class at the front of a forest
  module _ (a : Around) (p : ℕ) (b f : Forest) where
    within_class : Apart (paths_at true b (paths_in b) ++ paths_in f)
        → ((q : List TypeId) → In q (paths_in b) → Leads (classes_in s (entered s a p b) b) q)
        → ((q : List TypeId) → In q (paths_in f) → Leads (classes_in s a f) q)
        → (i : TypeId) (more : List TypeId) → In (i ∷ more) (paths_at true b (paths_in b) ++ paths_in f) → Leads (class_type a p b ∷ classes_in s a f) (i ∷ more)
    within_class apart below after i more (inl e) = subst (Leads (class_type a p b ∷ classes_in s a f)) (ap (λ x. x ∷ []) (id_is (entered s a p b) b (classes_in s (entered s a p b) b)) ∙ e) (leads_here (class_type a p b) (classes_in s a f))
    within_class apart below after i more (inr k) = elim (in_either (i ∷ more) (map (λ q. class_id b ∷ q) (paths_in b)) (paths_in f) k) [
      | inl l ↦ let r = from_map (λ q. class_id b ∷ q) (i ∷ more) (paths_in b) l in subst (Leads (class_type a p b ∷ classes_in s a f)) r.1 (inside r.0 r.2)
      | inr l ↦
          let later = after (i ∷ more) l in
          leads_back (class_type a p b ∷ []) (classes_in s a f) i more
          (λ e. apart_sides (paths_at true b (paths_in b)) (paths_in f) apart (i ∷ []) (single i e) (named_in a f i (begins (classes_in s a f) i more later)))
          later
    ]
      where
        id-is : (out-TypeDef (class_type a p b)).id ≡ class_id b
        id-is = id_is (entered s a p b) b (classes_in s (entered s a p b) b)

        inside : (r : List TypeId) → In r (paths_in b) → Leads (class_type a p b ∷ classes_in s a f) (class_id b ∷ r)
        inside [] k = subst (λ x. Leads (class_type a p b ∷ classes_in s a f) (x ∷ [])) id-is (leads_here (class_type a p b) (classes_in s a f))
        inside (l ∷ rest) k =
            subst (λ x. Leads (class_type a p b ∷ classes_in s a f) (x ∷ l ∷ rest)) id-is
            (leads_inside (class_type a p b) (classes_in s a f) l rest
            (subst (λ ts. Leads ts (l ∷ rest)) (sym (nested_is (entered s a p b) b (classes_in s (entered s a p b) b))) (below (l ∷ rest) k)))

        single : (i : TypeId) → is_some (named i (class_type a p b ∷ [])) ≡ true → In (i ∷ []) (paths_at true b (paths_in b))
        single i e = elim (cases_Bool (has_id i (class_type a p b))) [
          | inl is ↦ inl (ap (λ x. x ∷ []) (this_class a p b i is))
          | inr other ↦ let n : is_some (named i []) ≡ true = sym (ap (λ (c : Bool). is_some (cond c (Some (class_type a p b)) (named i []))) other) ∙ e in absurd cc
        ]

    within_other : Apart (paths_in b ++ paths_in f) → ((q : List TypeId) → In q (paths_in b) → Leads (classes_in s a b) q)
        → ((q : List TypeId) → In q (paths_in f) → Leads (classes_in s a f) q)
        → (i : TypeId) (more : List TypeId) → In (i ∷ more) (paths_in b ++ paths_in f) → Leads (classes_in s a b ++ classes_in s a f) (i ∷ more)
    within_other apart below after i more at = elim (in_either (i ∷ more) (paths_in b) (paths_in f) at) [
      | inl k ↦ leads_front (classes_in s a b) (classes_in s a f) (i ∷ more) (below (i ∷ more) k)
      | inr k ↦
          let later = after (i ∷ more) k in
          leads_back (classes_in s a b) (classes_in s a f) i more
          (λ e. apart_sides (paths_in b) (paths_in f) apart (i ∷ []) (named_in a b i e) (named_in a f i (begins (classes_in s a f) i more later)))
          later
    ]

  -- where no two classes have one path, each of their paths leads to a type
  pub class_leads : (a : Around) (f : Forest) → Apart (paths_in f) → (q : List TypeId) → In q (paths_in f) → Leads (classes_in s a f) q
  class_leads a none h q i = absurd i
  class_leads a (leaf k f) h q i = subst (λ ts. Leads ts q) (sym (classes_leaf a k f)) (class_leads a f h q i)
  class_leads a (branch p b f) h [] i = absurd (empty (branch p b f) i)
  class_leads a (branch p b f) h (i ∷ more) j = elim (cases_Bool (p == CLASS)) [
    | inr other ↦
        let apart : Apart (paths_in b ++ paths_in f) = subst (λ (c : Bool). Apart (paths_at c b (paths_in b) ++ paths_in f)) other h in
        subst (λ ts. Leads ts (i ∷ more)) (sym (classes_other a p b f other))
        (within_other a p b f apart (class_leads a b (apart_front (paths_in b) (paths_in f) apart)) (class_leads a f (apart_back (paths_in b) (paths_in f) apart)) i more
        (subst (λ (c : Bool). In (i ∷ more) (paths_at c b (paths_in b) ++ paths_in f)) other j))
    | inl own ↦
        let apart : Apart (paths_at true b (paths_in b) ++ paths_in f) = subst (λ (c : Bool). Apart (paths_at c b (paths_in b) ++ paths_in f)) own h in
        subst (λ ts. Leads ts (i ∷ more)) (sym (classes_own a p b f own))
        (within_class a p b f apart
        (class_leads (entered s a p b) b (apart_map (λ q. class_id b ∷ q) (paths_in b) (apart_front (map (λ q. class_id b ∷ q) (paths_in b)) (paths_in f) apart.1)))
        (class_leads a f (apart_back (paths_at true b (paths_in b)) (paths_in f) apart)) i more
        (subst (λ (c : Bool). In (i ∷ more) (paths_at c b (paths_in b) ++ paths_in f)) own j))
  ]
