-- The path of each class of a source leads to the type of that class, which has the class's layout (ECMA-335 II.10, II.10.7).
use Rattle.std.proofs.Common.{◌≡◌, ℕ, inl, inr, List, [], ◌∷◌, ◌++◌, Option, None, Some, cond, map, refl, ap, sym, subst, ◌∙◌, append_assoc}
use Rattle.std.specs.Prelude.{Bool, true, false, ◌==◌, ◌||◌, if◌then◌else◌, is_some, find}
use Rattle.std.proofs.lemmas.Bool.{cases_Bool}
use Rattle.std.proofs.lemmas.Bool.Decides.{Decides-eqb}
use Rattle.std.proofs.lemmas.List.{map-append}
use Rattle.std.proofs.lemmas.List.Elements.{filter-append}
use Rattle.std.proofs.lemmas.Option.{same_Some}
use Rattle.type_terms.specs.declared.name.TypeId.{TypeId}
use Rattle.assembly_tree.specs.DataSize.{has_id, is_id, named, type_at, type_below, with_type}
use Rattle.assembly_tree.specs.declared.typedef.TypeDef.{TypeDef}
use Rattle.assembly_tree.specs.declared.typedef.TypeDef.TheViews.{out-TypeDef, out-roll-TypeDef}
use Rattle.ilasm_grammar.specs.declared.productions.TheConstants.{CLASS, METHOD}
use Rattle.source_model.specs.Classes.{class_from, classes_in}
use Rattle.source_model.specs.Data.{layout}
use Rattle.source_model.specs.Forest.{Forest, none, leaf, branch}
use Rattle.source_model.specs.Names.{class_at, classes, is_path}
use Rattle.source_model.specs.Nodes.{Around, Node, entered, nodes, nodes_in, nodes_of, nothing_around}
use Rattle.source_model.specs.Source.{Source}
use Rattle.source_syntax.proofs.ClassLemmas.{id_itself, id_same, path_same}
use Rattle.source_syntax.proofs.TypeWalks.{flipped}
use Rattle.laws_formed_sources.proofs.sources.ClassPlaces.{class_id, class_nodes, classes_leaf, classes_other, classes_own, id_is, named_in, nested_is, paths_at, paths_in}
use Rattle.laws_formed_sources.proofs.sources.Members.{Apart, In, apart_back, apart_front, apart_map, apart_sides, from_map, in_either}

-- a class by its path and by what stands below its production
pub record Placed : Type 0 where
  pub path : List TypeId
  pub class : Forest

abbrev pub under : List TypeId → Placed → Placed
under path e = record { path = path ++ e.path; class = e.class }

module _ (s : Source) where
  -- the classes of a forest, from where the forest stands
  abbrev pub placed_at : Bool → Forest → List Placed → List Placed
  placed_at own b inner =
      if own then record { path = class_id s b ∷ []; class = b } ∷ map (λ e. under (class_id s b ∷ []) e) inner else inner

  abbrev pub placed_in : Forest → List Placed
  placed_in none = []
  placed_in (leaf k f) = placed_in f
  placed_in (branch p b f) = placed_at (p == CLASS) b (placed_in b) ++ placed_in f

  -- ---- the nodes of the classes

  abbrev pub placed_node : Node → Placed
  placed_node n = record { path = n.around.path; class = n.below }

  in_class : (a : Around) (p : ℕ) (b : Forest) → (p == CLASS) ≡ true → (entered s a p b).path ≡ a.path ++ class_id s b ∷ []
  in_class a p b e =
      ap (λ (c : Bool). (if c then record { path = a.path ++ class_id s b ∷ []; class = b; method = none }
      else if p == METHOD then record { path = a.path; class = a.class; method = b } else a).path) e

  in_other : (a : Around) (p : ℕ) (b : Forest) → (p == CLASS) ≡ false → (entered s a p b).path ≡ a.path
  in_other a p b e =
      ap (λ (c : Bool). (if c then record { path = a.path ++ class_id s b ∷ []; class = b; method = none }
      else if p == METHOD then record { path = a.path; class = a.class; method = b } else a).path) e
      ∙ same (p == METHOD)
    where
      same : (c : Bool) → (if c then record { path = a.path; class = a.class; method = b } else a).path ≡ a.path
      same true = refl
      same false = refl

  turned : (p : ℕ) → (p == CLASS) ≡ true → (CLASS == p) ≡ true
  turned p e = (Decides-eqb CLASS p).1 (sym ((Decides-eqb p CLASS).0 e))

  longer : (xs : List TypeId) (i : TypeId) (es : List Placed) → map (λ e. under (xs ++ i ∷ []) e) es ≡ map (λ e. under xs e) (map (λ e. under (i ∷ []) e) es)
  longer xs i [] = refl
  longer xs i (e ∷ es) =
      ap (λ (y : List TypeId). record { path = y; class = e.class } ∷ map (λ e. under (xs ++ i ∷ []) e) es) (append_assoc xs (i ∷ []) e.path)
      ∙ ap (λ ys. under xs (under (i ∷ []) e) ∷ ys) (longer xs i es)

  module _ (a : Around) (p : ℕ) (b f : Forest) where
    abbrev inner : Around
    inner = entered s a p b

    abbrev own : Node
    own = record { production = p; below = b; around = inner }

    parted : nodes_of (CLASS ∷ []) (nodes_in s inner b ++ nodes_in s a f) ≡ class_nodes s inner b ++ class_nodes s a f
    parted = filter-append (λ n. (CLASS == n.production) || false) (nodes_in s inner b) (nodes_in s a f)

    abbrev below_placed : List TypeId → List Placed
    below_placed around = map (λ e. under around e) (placed_in b) ++ map (λ e. under a.path e) (placed_in f)

    abbrev placed_own : List TypeId → Placed
    placed_own path = record { path = path; class = b }

    step : map placed_node (class_nodes s inner b) ≡ map (λ e. under inner.path e) (placed_in b)
        → map placed_node (class_nodes s a f) ≡ map (λ e. under a.path e) (placed_in f)
        → map placed_node (class_nodes s a (branch p b f)) ≡ map (λ e. under a.path e) (placed_in (branch p b f))
    step below after = elim (cases_Bool (p == CLASS)) [
      | inl e ↦
          ap (λ (c : Bool). map placed_node (cond (c || false) (own ∷ nodes_of (CLASS ∷ []) (nodes_in s inner b ++ nodes_in s a f)) (nodes_of (CLASS ∷ []) (nodes_in s inner b ++ nodes_in s a f)))) (turned p e)
          ∙ ap (λ ns. map placed_node (own ∷ ns)) parted
          ∙ ap (λ ps. placed_own inner.path ∷ ps) both
          ∙ ap (λ x. placed_own x ∷ below_placed x) (in_class a p b e)
          ∙ ap (λ ps. placed_own (a.path ++ class_id s b ∷ []) ∷ (ps ++ map (λ e. under a.path e) (placed_in f))) (longer a.path (class_id s b) (placed_in b))
          ∙ sym (map-append (λ e. under a.path e) (placed_own (class_id s b ∷ []) ∷ map (λ e. under (class_id s b ∷ []) e) (placed_in b)) (placed_in f))
          ∙ sym (ap (λ (c : Bool). map (λ e. under a.path e) (placed_at c b (placed_in b) ++ placed_in f)) e)
      | inr e ↦
          ap (λ (c : Bool). map placed_node (cond (c || false) (own ∷ nodes_of (CLASS ∷ []) (nodes_in s inner b ++ nodes_in s a f)) (nodes_of (CLASS ∷ []) (nodes_in s inner b ++ nodes_in s a f)))) (flipped p CLASS e)
          ∙ ap (map placed_node) parted
          ∙ both
          ∙ ap below_placed (in_other a p b e)
          ∙ sym (map-append (λ e. under a.path e) (placed_in b) (placed_in f))
          ∙ sym (ap (λ (c : Bool). map (λ e. under a.path e) (placed_at c b (placed_in b) ++ placed_in f)) e)
    ]
      where
        both : map placed_node (class_nodes s inner b ++ class_nodes s a f) ≡ below_placed inner.path
        both =
            map-append placed_node (class_nodes s inner b) (class_nodes s a f)
            ∙ ap (λ ps. ps ++ map placed_node (class_nodes s a f)) below
            ∙ ap (λ ps. map (λ e. under inner.path e) (placed_in b) ++ ps) after

  nodes_placed : (a : Around) (f : Forest) → map placed_node (class_nodes s a f) ≡ map (λ e. under a.path e) (placed_in f)
  nodes_placed a none = refl
  nodes_placed a (leaf k f) = nodes_placed a f
  nodes_placed a (branch p b f) = step a p b f (nodes_placed (entered s a p b) b) (nodes_placed a f)

  same_map : (es : List Placed) → map (λ e. under [] e) es ≡ es
  same_map [] = refl
  same_map (e ∷ es) = ap (λ ps. e ∷ ps) (same_map es)

  classes_placed : map placed_node (classes s) ≡ placed_in s.tree
  unfolding nodes
  classes_placed = nodes_placed nothing_around s.tree ∙ same_map (placed_in s.tree)

  found_in : (ns : List Node) (path : List TypeId) (n : Node) → find (λ m. is_path m.around.path path) ns ≡ Some n
      → In (record { path = path; class = n.below }) (map placed_node ns)
  found_in [] path n e = absurd cc
  found_in (m ∷ ns) path n e = elim (cases_Bool (is_path m.around.path path)) [
    | inl is ↦
        let same : m ≡ n = same_Some m n (sym (ap (λ (c : Bool). cond c (Some m) (find (λ k. is_path k.around.path path) ns)) is) ∙ e) in
        inl (subst (λ (k : Node). placed_node m ≡ record { path = path; class = k.below }) same (ap (λ (q : List TypeId). record { path = q; class = m.below }) (path_same m.around.path path is)))
    | inr apart ↦ inr (found_in ns path n (sym (ap (λ (c : Bool). cond c (Some m) (find (λ k. is_path k.around.path path) ns)) apart) ∙ e))
  ]

  pub class_placed : (path : List TypeId) (n : Node) → class_at s path ≡ Some n → In (record { path = path; class = n.below }) (placed_in s.tree)
  class_placed path n e = subst (In (record { path = path; class = n.below })) classes_placed (found_in (classes s) path n e)

  -- ---- where a path leads

  abbrev class_type : Around → ℕ → Forest → TypeDef
  class_type a p b = class_from s (entered s a p b) b (classes_in s (entered s a p b) b)

  layout_is : (a : Around) (b : Forest) (ts : List TypeDef) → (out-TypeDef (class_from s a b ts)).layout ≡ layout s b
  layout_is a b ts = ap (λ l. l.layout) (out-roll-TypeDef _)

  named_front : (i : TypeId) (xs ys : List TypeDef) (t : TypeDef) → named i xs ≡ Some t → named i (xs ++ ys) ≡ Some t
  named_front i [] ys t e = absurd cc
  named_front i (x ∷ xs) ys t e = elim (cases_Bool (has_id i x)) [
    | inl is ↦ ap (λ (c : Bool). cond c (Some x) (named i (xs ++ ys))) is ∙ sym (ap (λ (c : Bool). cond c (Some x) (named i xs)) is) ∙ e
    | inr apart ↦
        ap (λ (c : Bool). cond c (Some x) (named i (xs ++ ys))) apart
        ∙ named_front i xs ys t (sym (ap (λ (c : Bool). cond c (Some x) (named i xs)) apart) ∙ e)
  ]

  named_back : (i : TypeId) (xs ys : List TypeDef) → named i xs ≡ None → named i (xs ++ ys) ≡ named i ys
  named_back i [] ys e = refl
  named_back i (x ∷ xs) ys e = elim (cases_Bool (has_id i x)) [
    | inl is ↦ let h : Some x ≡ None = sym (ap (λ (c : Bool). cond c (Some x) (named i xs)) is) ∙ e in absurd cc
    | inr apart ↦
        ap (λ (c : Bool). cond c (Some x) (named i (xs ++ ys))) apart
        ∙ named_back i xs ys (sym (ap (λ (c : Bool). cond c (Some x) (named i xs)) apart) ∙ e)
  ]

  -- it leads to a type with the layout of this class
  abbrev pub Leads : List TypeDef → List TypeId → Forest → Type 0
  Leads ts q g = (t : TypeDef) × (type_at ts q ≡ Some t) × ((out-TypeDef t).layout ≡ layout s g)

  leads_front : (xs ys : List TypeDef) (q : List TypeId) (g : Forest) → Leads xs q g → Leads (xs ++ ys) q g
  leads_front xs ys [] g e = let h = e.1 in absurd cc
  leads_front xs ys (i ∷ more) g e = go (named i xs) refl
    where
      go : (o : Option TypeDef) → named i xs ≡ o → Leads (xs ++ ys) (i ∷ more) g
      go None is = let h : None ≡ Some e.0 = sym (ap (λ o. with_type (type_below more) o) is) ∙ e.1 in absurd cc
      go (Some t) is = (e.0, ap (λ o. with_type (type_below more) o) (named_front i xs ys t is ∙ sym is) ∙ e.1, e.2)

  leads_back : (xs ys : List TypeDef) (i : TypeId) (more : List TypeId) (g : Forest) → (is_some (named i xs) ≡ true → ⊥) → Leads ys (i ∷ more) g
      → Leads (xs ++ ys) (i ∷ more) g
  leads_back xs ys i more g absent e = go (named i xs) refl
    where
      go : (o : Option TypeDef) → named i xs ≡ o → Leads (xs ++ ys) (i ∷ more) g
      go None is = (e.0, ap (λ o. with_type (type_below more) o) (named_back i xs ys is) ∙ e.1, e.2)
      go (Some t) is = absurd (absent (ap (λ o. is_some o) is))

  -- a path that leads to a type begins with one
  begins : (ts : List TypeDef) (i : TypeId) (more : List TypeId) (g : Forest) → Leads ts (i ∷ more) g → is_some (named i ts) ≡ true
  begins ts i more g e = go (named i ts) refl
    where
      go : (o : Option TypeDef) → named i ts ≡ o → is_some (named i ts) ≡ true
      go None is = let h : None ≡ Some e.0 = sym (ap (λ o. with_type (type_below more) o) is) ∙ e.1 in absurd cc
      go (Some t) is = ap (λ o. is_some o) is

  first_named : (t : TypeDef) (ts : List TypeDef) → named (out-TypeDef t).id (t ∷ ts) ≡ Some t
  first_named t ts = ap (λ (c : Bool). cond c (Some t) (named (out-TypeDef t).id ts)) (id_itself (out-TypeDef t).id)

  leads_here : (t : TypeDef) (ts : List TypeDef) (g : Forest) → (out-TypeDef t).layout ≡ layout s g → Leads (t ∷ ts) ((out-TypeDef t).id ∷ []) g
  leads_here t ts g e = (t, ap (λ o. with_type (type_below []) o) (first_named t ts), e)

  leads_inside : (t : TypeDef) (ts : List TypeDef) (j : TypeId) (more : List TypeId) (g : Forest) → Leads (out-TypeDef t).nested (j ∷ more) g
      → Leads (t ∷ ts) ((out-TypeDef t).id ∷ j ∷ more) g
  leads_inside t ts j more g e = (e.0, ap (λ o. with_type (type_below (j ∷ more)) o) (first_named t ts) ∙ e.1, e.2)

  -- no class has an empty path

  not_pathless : (f : Forest) (e : Placed) → e.path ≡ [] → In e (placed_in f) → ⊥
  not_pathless none e bare i = i
  not_pathless (leaf k f) e bare i = not_pathless f e bare i
  not_pathless (branch p b f) e bare i = elim (in_either e (placed_at (p == CLASS) b (placed_in b)) (placed_in f) i) [
    | inl j ↦ elim (cases_Bool (p == CLASS)) [
      | inl class ↦ never (subst (λ (c : Bool). In e (placed_at c b (placed_in b))) class j)
      | inr other ↦ not_pathless b e bare (subst (λ (c : Bool). In e (placed_at c b (placed_in b))) other j)
    ]
    | inr j ↦ not_pathless f e bare j
  ]
    where
      never : In e (placed_at true b (placed_in b)) → ⊥
      never (inl is) = let h : class_id s b ∷ [] ≡ [] = ap (λ (x : Placed). x.path) is ∙ bare in absurd cc
      never (inr j) =
          let r = from_map (λ x. under (class_id s b ∷ []) x) e (placed_in b) j in
          let h : class_id s b ∷ r.0.path ≡ [] = ap (λ (x : Placed). x.path) r.1 ∙ bare in absurd cc

  -- ---- the class at the front of a forest

  abbrev AllLead : List TypeDef → Forest → Type 0
  AllLead ts f = (e : Placed) → In e (placed_in f) → Leads ts e.path e.class

  module _ (a : Around) (p : ℕ) (b f : Forest) where
    abbrev ts : List TypeDef
    ts = class_type a p b ∷ classes_in s a f

    id-is : (out-TypeDef (class_type a p b)).id ≡ class_id s b
    id-is = id_is s (entered s a p b) b (classes_in s (entered s a p b) b)

    its-layout : (out-TypeDef (class_type a p b)).layout ≡ layout s b
    its-layout = layout_is (entered s a p b) b (classes_in s (entered s a p b) b)

    own_leads : Leads ts (class_id s b ∷ []) b
    own_leads = subst (λ x. Leads ts (x ∷ []) b) id-is (leads_here (class_type a p b) (classes_in s a f) b its-layout)

    inner_leads : (r : List TypeId) (g : Forest) → (r ≡ [] → ⊥) → Leads (classes_in s (entered s a p b) b) r g → Leads ts (class_id s b ∷ r) g
    inner_leads [] g some e = absurd (some refl)
    inner_leads (l ∷ rest) g some e =
        subst (λ x. Leads ts (x ∷ l ∷ rest) g) id-is
        (leads_inside (class_type a p b) (classes_in s a f) l rest g
        (subst (λ us. Leads us (l ∷ rest) g) (sym (nested_is s (entered s a p b) b (classes_in s (entered s a p b) b))) e))

    single : (i : TypeId) → is_some (named i (class_type a p b ∷ [])) ≡ true → In (i ∷ []) (paths_at s true b (paths_in s b))
    single i e = elim (cases_Bool (has_id i (class_type a p b))) [
      | inl is ↦ inl (ap (λ x. x ∷ []) (sym (id_same i (class_id s b) (sym (ap (is_id i) id-is) ∙ is))))
      | inr other ↦ let n : is_some (named i []) ≡ true = sym (ap (λ (c : Bool). is_some (cond c (Some (class_type a p b)) (named i []))) other) ∙ e in absurd cc
    ]

    later_leads : Apart (paths_at s true b (paths_in s b) ++ paths_in s f) → (q : List TypeId) (g : Forest) → (q ≡ [] → ⊥) → Leads (classes_in s a f) q g → Leads ts q g
    later_leads apart [] g some e = absurd (some refl)
    later_leads apart (i ∷ more) g some e =
        leads_back (class_type a p b ∷ []) (classes_in s a f) i more g
        (λ h. apart_sides (paths_at s true b (paths_in s b)) (paths_in s f) apart (i ∷ []) (single i h) (named_in s a f i (begins (classes_in s a f) i more g e))) e

    within_class : Apart (paths_at s true b (paths_in s b) ++ paths_in s f) → AllLead (classes_in s (entered s a p b) b) b → AllLead (classes_in s a f) f
        → (e : Placed) → In e (placed_at true b (placed_in b) ++ placed_in f) → Leads ts e.path e.class
    within_class apart below after e (inl is) = subst (λ (x : Placed). Leads ts x.path x.class) is own_leads
    within_class apart below after e (inr k) = elim (in_either e (map (λ x. under (class_id s b ∷ []) x) (placed_in b)) (placed_in f) k) [
      | inl l ↦
          let r = from_map (λ x. under (class_id s b ∷ []) x) e (placed_in b) l in
          subst (λ (x : Placed). Leads ts x.path x.class) r.1 (inner_leads r.0.path r.0.class (λ bare. not_pathless b r.0 bare r.2) (below r.0 r.2))
      | inr l ↦ later_leads apart e.path e.class (λ bare. not_pathless f e bare l) (after e l)
    ]

    other_later : Apart (paths_in s b ++ paths_in s f) → (q : List TypeId) (g : Forest) → (q ≡ [] → ⊥) → Leads (classes_in s a f) q g
        → Leads (classes_in s a b ++ classes_in s a f) q g
    other_later apart [] g some e = absurd (some refl)
    other_later apart (i ∷ more) g some e =
        leads_back (classes_in s a b) (classes_in s a f) i more g
        (λ h. apart_sides (paths_in s b) (paths_in s f) apart (i ∷ []) (named_in s a b i h) (named_in s a f i (begins (classes_in s a f) i more g e))) e

    within_other : Apart (paths_in s b ++ paths_in s f) → AllLead (classes_in s a b) b → AllLead (classes_in s a f) f
        → (e : Placed) → In e (placed_in b ++ placed_in f) → Leads (classes_in s a b ++ classes_in s a f) e.path e.class
    within_other apart below after e at = elim (in_either e (placed_in b) (placed_in f) at) [
      | inl k ↦ leads_front (classes_in s a b) (classes_in s a f) e.path e.class (below e k)
      | inr k ↦ other_later apart e.path e.class (λ bare. not_pathless f e bare k) (after e k)
    ]

  -- where no two classes have one path, each of their paths leads to the type of its class
  pub class_leads : (a : Around) (f : Forest) → Apart (paths_in s f) → AllLead (classes_in s a f) f
  class_leads a none h e i = absurd i
  class_leads a (leaf k f) h e i = subst (λ ts. Leads ts e.path e.class) (sym (classes_leaf s a k f)) (class_leads a f h e i)
  class_leads a (branch p b f) h e j = elim (cases_Bool (p == CLASS)) [
    | inr other ↦
        let apart : Apart (paths_in s b ++ paths_in s f) = subst (λ (c : Bool). Apart (paths_at s c b (paths_in s b) ++ paths_in s f)) other h in
        subst (λ ts. Leads ts e.path e.class) (sym (classes_other s a p b f other))
        (within_other a p b f apart (class_leads a b (apart_front (paths_in s b) (paths_in s f) apart)) (class_leads a f (apart_back (paths_in s b) (paths_in s f) apart)) e
        (subst (λ (c : Bool). In e (placed_at c b (placed_in b) ++ placed_in f)) other j))
    | inl own ↦
        let apart : Apart (paths_at s true b (paths_in s b) ++ paths_in s f) = subst (λ (c : Bool). Apart (paths_at s c b (paths_in s b) ++ paths_in s f)) own h in
        subst (λ ts. Leads ts e.path e.class) (sym (classes_own s a p b f own))
        (within_class a p b f apart
        (class_leads (entered s a p b) b (apart_map (λ q. class_id s b ∷ q) (paths_in s b) (apart_front (map (λ q. class_id s b ∷ q) (paths_in s b)) (paths_in s f) apart.1)))
        (class_leads a f (apart_back (paths_at s true b (paths_in s b)) (paths_in s f) apart)) e
        (subst (λ (c : Bool). In e (placed_at c b (placed_in b) ++ placed_in f)) own j))
  ]
