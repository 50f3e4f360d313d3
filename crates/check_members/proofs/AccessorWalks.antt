-- The accessors of a property or an event, the methods of a class, and the classes of a source, one after another.
use Rattle.std.proofs.Common.{◌≡◌, ℕ, List, [], ◌∷◌, ◌++◌, Option, None, Some, arith, length, map, take, drop, refl, ap, sym, subst, ◌∙◌, append_assoc, append-nil}
use Rattle.std.specs.Prelude.{Bool, true, false, ◌==◌, ◌||◌, if◌then◌else◌, filter}
use Rattle.std.proofs.lemmas.List.{take-append-drop}
use Rattle.type_terms.specs.declared.name.TypeId.{TypeId}
use Rattle.ilasm_grammar.specs.declared.productions.TheConstants.{CLASS, DECL_METHOD, MEMBER_METHOD, METHOD, METHOD_REF}
use Rattle.ilasm_grammar.specs.declared.tree.TreeNode.{TreeNode}
use Rattle.ilasm_grammar.specs.declared.tree.TreeNode.TheVariants.{Branch, Leaf}
use Rattle.source_model.specs.Forest as tree
use Rattle.source_model.specs.Forest.{Forest, Part, child, is_among, joined, leaf_at, part, parts, preorder, the}
use Rattle.source_model.specs.Items.{members}
use Rattle.source_model.specs.Laws.{ForestOpens, ForestsJoin}
use Rattle.source_model.specs.Members.{accessors_in, is_method_part, method_forests}
use Rattle.source_model.specs.Nodes.{Around, Node, class_token, entered, nodes, nothing_around, type_id}
use Rattle.source_model.specs.Signatures.{is_method_unbroken}
use Rattle.source_model.specs.Source.{Source}
use Rattle.source_model.specs.Undeclared.{accessor_undeclared_of, accessors_undeclared, accessors_undeclared_of}
use Rattle.source_nodes.specs.Derived.{FitsBody, HasBodies}
use Rattle.source_nodes.specs.Least.{least, sooner}
use Rattle.source_nodes.specs.Walk.{Opens}
use Rattle.source_nodes.specs.declared.walk.Opened.{Opened}
use Rattle.source_nodes.proofs.Collecting.{no_forest, of_joined}
use Rattle.source_syntax.proofs.LeastLemmas.{least_append, sooner_assoc}
use Rattle.check_members.specs.MemberKinds.{declarers, is_chosen, member_of, places, with_member}
use Rattle.check_members.specs.OwnMethods.{accessor_items, accessors_of, has_accessors, own_methods, undeclared_at, with_own_method}
use Rattle.check_visitor.specs.Surroundings.{found_in, is_scope}
use Rattle.check_members.specs.declared.member_kinds.Kind.TheVariants.{Method}
use Rattle.check_members.specs.declared.member_kinds.Level.TheVariants as level
use Rattle.check_members.specs.declared.member_sets.Member.{Member}
use Rattle.check_members.proofs.AccessorParts.{accessor_body, nothing_in_method}
use Rattle.check_visitor.proofs.AskingLemmas.{into_parts, node_of, nothing_more, past_scope}
use Rattle.check_members.proofs.MemberParts.{member_body}
use Rattle.check_names.proofs.MissingLemmas.{flat_filtered}

-- ---- the first tree of a forest, by its node

record FirstBranch (sought : List ℕ) (x : Opened) : Type 0 where
  p : ℕ
  count : ℕ
  is : x.node ≡ Branch p count
  known : is_among sought p ≡ true

first_branch : (sought : List ℕ) (x : Opened) → is_chosen sought x.node ≡ true → FirstBranch sought x
first_branch sought x own = go x.node refl
  where
    go : (node : TreeNode) → x.node ≡ node → FirstBranch sought x
    go (Leaf token) is = let no : false ≡ true = ap (is_chosen sought) (sym is) ∙ own in absurd cc
    go (Branch p count) is = record { p = p; count = count; is = is; known = ap (is_chosen sought) (sym is) ∙ own }

parts_first : (sought : List ℕ) (p : ℕ) (b after : Forest) → is_among sought p ≡ true → parts sought (tree.branch p b after) ≡ part p b ∷ parts sought after
parts_first sought p b after known = ap (λ (c : Bool). (if c then part p b ∷ [] else parts sought b) ++ parts sought after) known

parts_other : ForestsJoin → (sought : List ℕ) (p : ℕ) (b after : Forest) → is_among sought p ≡ false → parts sought (joined b after) ≡ parts sought (tree.branch p b after)
parts_other joins sought p b after other =
    joins.parts [] sought b after ∙ sym (ap (λ (c : Bool). (if c then part p b ∷ [] else parts sought b) ++ parts sought after) other)

-- what is left of the nodes of a forest, where something of its parts is the same as of the whole
pub record Rest (s : Source) (same : Forest → Type 0) (left : List TreeNode) : Type 0 where
  pub rest : Forest
  pub is : preorder rest ≡ left
  pub bodies : HasBodies s rest
  pub keeps : same rest

-- into what is none of these parts
goes_in : ForestsJoin → (s : Source) (sought : List ℕ) (same : List Part → Type 0) (left : List TreeNode) (x : Opened) → Opens left x → is_chosen sought x.node ≡ false
    → Rest s (λ g. same (parts sought g)) left → Rest s (λ g. same (parts sought g)) x.behind.now
goes_in joins s sought same left x o other l = go x.node refl
  where
    go : (node : TreeNode) → x.node ≡ node → Rest s (λ g. same (parts sought g)) x.behind.now
    go (Leaf token) is =
        let b = o.leaf l.rest token l.is is in
        record { rest = b.after; is = b.rest; bodies = subst (HasBodies s) b.is l.bodies; keeps = subst (λ (g : Forest). same (parts sought g)) b.is l.keeps }
    go (Branch p count) is =
        let b = o.branch l.rest p count l.is is in
        let h = subst (HasBodies s) b.is l.bodies in
        let plain : is_among sought p ≡ false = ap (is_chosen sought) (sym is) ∙ other in
        record {
          rest = joined b.inner b.rest;
          is = b.behind-is;
          bodies = of_joined (FitsBody s) b.inner b.rest h.1 h.2;
          keeps = subst same (sym (parts_other joins sought p b.inner b.rest plain)) (subst (λ (g : Forest). same (parts sought g)) b.is l.keeps);
        }

-- a part that is taken: what stands below it, and what is the same once it is gone
pub record Taken (s : Source) (sought : List ℕ) (same : List Part → Type 0) (x : Opened) : Type 0 where
  pub p : ℕ
  pub below : Forest
  pub rest : Forest
  pub known : is_among sought p ≡ true
  pub chosen-is : (other : List ℕ) → is_chosen other x.node ≡ is_among other p
  pub below-is : preorder below ≡ x.below.now
  pub rest-is : preorder rest ≡ x.after.now
  pub fits : FitsBody s p below
  pub bodies : HasBodies s below
  pub later : HasBodies s rest
  pub keeps : same (part p below ∷ parts sought rest)

pub taken : (s : Source) (sought : List ℕ) (same : List Part → Type 0) (left : List TreeNode) (x : Opened) → Opens left x → is_chosen sought x.node ≡ true
    → Rest s (λ g. same (parts sought g)) left → Taken s sought same x
taken s sought same left x o own l =
    let w = first_branch sought x own in
    let b = o.branch l.rest w.p w.count l.is w.is in
    let h = subst (HasBodies s) b.is l.bodies in
    record {
      p = w.p;
      below = b.inner;
      rest = b.rest;
      known = w.known;
      chosen-is = λ other. ap (is_chosen other) w.is;
      below-is = b.inner-is;
      rest-is = b.rest-is;
      fits = h.0;
      bodies = h.1;
      later = h.2;
      keeps = subst same (parts_first sought w.p b.inner b.rest w.known) (subst (λ (g : Forest). same (parts sought g)) b.is l.keeps);
    }

-- ---- accessors

module _ (s : Source) (a : Around) (f : Forest) where
  abbrev pub SameAccessors : Option ℕ → List Part → Type 0
  SameAccessors found ps = sooner found (least (accessors_of s a ps)) ≡ least (accessors_of s a (accessors_in f))

  abbrev pub AccessorsLeft : List TreeNode → Option ℕ → Type 0
  AccessorsLeft left found = Rest s (λ g. SameAccessors found (parts accessor_items g)) left

  pub accessors_start : (nodes : List TreeNode) → preorder f ≡ nodes → HasBodies s f → AccessorsLeft nodes None
  accessors_start nodes e bodies = record { rest = f; is = e; bodies = bodies; keeps = refl }

  pub accessors_end : (left : List TreeNode) (found : Option ℕ) → left ≡ [] → AccessorsLeft left found → found ≡ least (accessors_of s a (accessors_in f))
  accessors_end left found e l =
      nothing_more found
      ∙ ap (λ (g : Forest). sooner found (least (accessors_of s a (parts accessor_items g)))) (sym (no_forest l.rest (l.is ∙ e))) ∙ l.keeps

  module _ (left : List TreeNode) (found : Option ℕ) (x : Opened) (o : Opens left x) (l : AccessorsLeft left found) where
    pub accessors_in_other : ForestsJoin → is_chosen accessor_items x.node ≡ false → AccessorsLeft x.behind.now found
    accessors_in_other joins other = goes_in joins s accessor_items (SameAccessors found) left x o other l

    -- an accessor
    pub record Accessed : Type 0 where
      pub p : ℕ
      pub below : Forest
      pub below-is : preorder below ≡ x.below.now
      pub fits : FitsBody s METHOD_REF (the METHOD_REF below)
      pub bodies : HasBodies s (the METHOD_REF below)
      pub next : (here k : Option ℕ) → here ≡ least (accessor_undeclared_of s a (method_forests (members a.class)) (part p below)) → k ≡ sooner found here
          → AccessorsLeft x.after.now k

    pub accessed : is_chosen accessor_items x.node ≡ true → Accessed
    accessed own =
        let t = taken s accessor_items (SameAccessors found) left x o own l in
        let body = accessor_body s t.p t.below t.known t.fits t.bodies in
        record {
          p = t.p;
          below = t.below;
          below-is = t.below-is;
          fits = body.0;
          bodies = body.1;
          next = λ here k is sum. record {
            rest = t.rest;
            is = t.rest-is;
            bodies = t.later;
            keeps = let later = accessors_of s a (parts accessor_items t.rest) in
                let own = accessor_undeclared_of s a (method_forests (members a.class)) (part t.p t.below) in
                ap (λ o. sooner o (least later)) sum ∙ sooner_assoc found here (least later)
                ∙ ap (λ o. sooner found (sooner o (least later))) is
                ∙ ap (sooner found) (sym (least_append own later)) ∙ t.keeps;
          };
        }

-- ---- methods

module _ (s : Source) (a : Around) where
  -- these methods, and behind them those that are declared
  abbrev pub and_methods : List Member → List Forest → List Member
  and_methods ms fs = ms ++ map (member_of s a Method) (filter (is_method_unbroken s a) fs)

  one_more : (ms : List Member) (f : Forest) (fs : List Forest) → and_methods (with_own_method s a f ms) fs ≡ and_methods ms (f ∷ fs)
  one_more ms f fs = go (is_method_unbroken s a f)
    where
      go : (b : Bool) → and_methods (with_member (if b then Some (member_of s a Method f) else None) ms) fs
          ≡ ms ++ map (member_of s a Method) (if b then f ∷ filter (is_method_unbroken s a) fs else filter (is_method_unbroken s a) fs)
      go true = append_assoc ms (member_of s a Method f ∷ []) (map (member_of s a Method) (filter (is_method_unbroken s a) fs))
      go false = refl

  abbrev pub SameMethods : List Member → List Part → Type 0
  SameMethods ms ps = and_methods ms (method_forests ps) ≡ own_methods s a

  abbrev pub MethodsLeft : List TreeNode → List Member → Type 0
  MethodsLeft left ms = Rest s (λ g. SameMethods ms (parts (places level.Class) g)) left

  pub methods_start : (nodes : List TreeNode) → preorder a.class ≡ nodes → HasBodies s a.class → MethodsLeft nodes []
  methods_start nodes e bodies = record { rest = a.class; is = e; bodies = bodies; keeps = refl }

  pub methods_end : (left : List TreeNode) (ms : List Member) → left ≡ [] → MethodsLeft left ms → ms ≡ own_methods s a
  methods_end left ms e l =
      sym (append-nil ms)
      ∙ ap (λ (g : Forest). and_methods ms (method_forests (parts (places level.Class) g))) (sym (no_forest l.rest (l.is ∙ e))) ∙ l.keeps

  module _ (left : List TreeNode) (ms : List Member) (x : Opened) (o : Opens left x) (l : MethodsLeft left ms) where
    pub methods_in_other : ForestsJoin → is_chosen (places level.Class) x.node ≡ false → MethodsLeft x.behind.now ms
    methods_in_other joins other = goes_in joins s (places level.Class) (SameMethods ms) left x o other l

    declares_method : (p : ℕ) (b : Forest) → is_among (declarers Method) p ≡ (p == DECL_METHOD || p == MEMBER_METHOD)
    declares_method p b = grind arith

    pub methods_past : is_chosen (places level.Class) x.node ≡ true → is_chosen (declarers Method) x.node ≡ false → MethodsLeft x.after.now ms
    methods_past place other =
        let t = taken s (places level.Class) (SameMethods ms) left x o place l in
        let apart = sym (declares_method t.p t.below) ∙ sym (t.chosen-is (declarers Method)) ∙ other in
        record {
          rest = t.rest;
          is = t.rest-is;
          bodies = t.later;
          keeps = ap (λ (c : Bool). and_methods ms (map (λ (q : Part). the METHOD q.below) (if c then part t.p t.below ∷ filter is_method_part (parts (places level.Class) t.rest)
              else filter is_method_part (parts (places level.Class) t.rest)))) (sym apart) ∙ t.keeps;
        }

    -- a method
    pub record Declared : Type 0 where
      pub below : Forest
      pub below-is : preorder below ≡ x.below.now
      pub fits : FitsBody s METHOD (the METHOD below)
      pub bodies : HasBodies s (the METHOD below)
      pub next : (later : List Member) → later ≡ with_own_method s a (the METHOD below) ms → MethodsLeft x.after.now later

    pub declared : is_chosen (places level.Class) x.node ≡ true → is_chosen (declarers Method) x.node ≡ true → Declared
    declared place own =
        let t = taken s (places level.Class) (SameMethods ms) left x o place l in
        let known = sym (t.chosen-is (declarers Method)) ∙ own in
        let body = member_body s t.p t.below t.fits t.bodies Method known in
        let here = sym (declares_method t.p t.below) ∙ known in
        let fs = method_forests (parts (places level.Class) t.rest) in
        record {
          below = t.below;
          below-is = t.below-is;
          fits = body.0;
          bodies = body.1;
          next = λ later is. record {
            rest = t.rest;
            is = t.rest-is;
            bodies = t.later;
            keeps = ap (λ xs. and_methods xs fs) is ∙ one_more ms (the METHOD t.below) fs
                ∙ ap (λ (c : Bool). and_methods ms (map (λ (q : Part). the METHOD q.below) (if c then part t.p t.below ∷ filter is_method_part (parts (places level.Class) t.rest)
                else filter is_method_part (parts (places level.Class) t.rest)))) (sym here) ∙ t.keeps;
          };
        }

-- ---- classes

module _ (s : Source) (a : Around) (f : Forest) where
  -- so far this was found: with what the rest has it is the least of the whole
  pub record Walked (left : List TreeNode) (found : Option ℕ) : Type 0 where
    pub rest : Forest
    pub is : preorder rest ≡ left
    pub bodies : HasBodies s rest
    pub same : sooner found (least (found_in undeclared_at s a rest)) ≡ least (found_in undeclared_at s a f)

  pub walked_start : (nodes : List TreeNode) → preorder f ≡ nodes → HasBodies s f → Walked nodes None
  walked_start nodes e bodies = record { rest = f; is = e; bodies = bodies; same = refl }

  pub walked_end : (left : List TreeNode) (found : Option ℕ) → left ≡ [] → Walked left found → found ≡ least (found_in undeclared_at s a f)
  walked_end left found e w =
      nothing_more found ∙ ap (λ (g : Forest). sooner found (least (found_in undeclared_at s a g))) (sym (no_forest w.rest (w.is ∙ e))) ∙ w.same

  module _ (opens : ForestOpens) (left rest : List TreeNode) (found : Option ℕ) (w : Walked left found) where
    pub walked_leaf : (token : ℕ) → left ≡ Leaf token ∷ rest → Walked rest found
    walked_leaf token e =
        let b = opens.leaf w.rest token rest (w.is ∙ e) in
        record {
          rest = b.after;
          is = b.rest;
          bodies = subst (HasBodies s) b.is w.bodies;
          same = ap (λ (g : Forest). sooner found (least (found_in undeclared_at s a g))) (sym b.is) ∙ w.same;
        }

    module _ (p count : ℕ) (e : left ≡ Branch p count ∷ rest) where
      -- into a production that is no class and no method
      pub walked_into : ForestsJoin → (here more : Option ℕ) → is_scope p ≡ false → more ≡ sooner found here
          → ((b : Forest) → preorder b ≡ take count rest → HasBodies s b → here ≡ least (undeclared_at s (node_of undeclared_at s a p b))) → Walked rest more
      walked_into joins here more plain sum asked =
          let b = opens.branch w.rest p count rest (w.is ∙ e) in
          let h = subst (HasBodies s) b.is w.bodies in
          record {
            rest = joined b.below b.after;
            is = joins.nodes b.below b.after ∙ ap (λ ns. ns ++ preorder b.after) b.inner ∙ ap (λ ns. take count rest ++ ns) b.rest ∙ take-append-drop count rest;
            bodies = of_joined (FitsBody s) b.below b.after h.1 h.2;
            same = ap (λ o. sooner o (least (found_in undeclared_at s a (joined b.below b.after)))) sum
                ∙ into_parts undeclared_at s a joins p b.below b.after found here plain (asked b.below b.inner h.1)
                ∙ ap (λ (g : Forest). sooner found (least (found_in undeclared_at s a g))) (sym b.is) ∙ w.same;
          }

      -- past one of which all parts were asked, and that is no property or event
      pub walked_past : (within more : Option ℕ) → has_accessors p ≡ false → more ≡ sooner found within
          → ((b : Forest) → preorder b ≡ take count rest → FitsBody s p b → HasBodies s b → within ≡ least (found_in undeclared_at s (entered s a p b) b)) → Walked (drop count rest) more
      walked_past within more plain sum asked =
          let b = opens.branch w.rest p count rest (w.is ∙ e) in
          let h = subst (HasBodies s) b.is w.bodies in
          let none : undeclared_at s (node_of undeclared_at s a p b.below) ≡ [] =
          ap (λ (c : Bool). if c then accessors_undeclared_of s (node_of undeclared_at s a p b.below) else []) plain in
          record {
            rest = b.after;
            is = b.rest;
            bodies = h.2;
            same = ap (λ o. sooner o (least (found_in undeclared_at s a b.after))) sum
                ∙ past_scope undeclared_at s a p b.below b.after found None within (ap least (sym none)) (asked b.below b.inner h.0 h.1)
                ∙ ap (λ (g : Forest). sooner found (least (found_in undeclared_at s a g))) (sym b.is) ∙ w.same;
          }

-- a method, in which nothing is found
pub method_past : (s : Source) (a : Around) (p : ℕ) (b : Forest) → p ≡ METHOD → FitsBody s p b → HasBodies s b → None ≡ least (found_in undeclared_at s (entered s a p b) b)
method_past s a p b is fits bodies = ap least (sym (nothing_in_method s (entered s a p b) b (subst (λ q. FitsBody s q b) is fits) bodies))

-- a property or an event, by its accessors
pub accessors_here : (s : Source) (a : Around) (p : ℕ) (b : Forest) (here : Option ℕ) → has_accessors p ≡ true → entered s a p b ≡ a → here ≡ least (accessors_of s a (accessors_in b))
    → here ≡ least (undeclared_at s (node_of undeclared_at s a p b))
accessors_here s a p b here own same is =
    is ∙ ap (λ (x : Around). least (accessors_of s x (accessors_in b))) (sym same)
    ∙ sym (ap (λ (c : Bool). least (if c then accessors_undeclared_of s (node_of undeclared_at s a p b) else [])) own)

pub nothing_here : (s : Source) (a : Around) (p : ℕ) (b : Forest) → has_accessors p ≡ false → None ≡ least (undeclared_at s (node_of undeclared_at s a p b))
nothing_here s a p b plain = sym (ap (λ (c : Bool). least (if c then accessors_undeclared_of s (node_of undeclared_at s a p b) else [])) plain)

pub all_undeclared : (s : Source) → found_in undeclared_at s nothing_around s.tree ≡ accessors_undeclared s
unfolding nodes
all_undeclared s = sym (flat_filtered (λ (n : Node). has_accessors n.production) (accessors_undeclared_of s) (nodes s))

-- ---- what stands around the parts of a class

pub front_of : {X : Type 0} (xs ys : List X) → take (length xs) (xs ++ ys) ≡ xs
front_of [] ys = refl
front_of (x ∷ xs) ys = ap (λ zs. x ∷ zs) (front_of xs ys)

-- the path of a class that was entered, and of those around it once it is left
pub class_path : (s : Source) (a : Around) (f : Forest) (path pushed : List TypeId) (id : TypeId) (token : ℕ) → a.path ≡ path → pushed ≡ path ++ id ∷ [] → id ≡ type_id s token
    → token ≡ class_token f → (entered s a CLASS f).path ≡ pushed
class_path s a f path pushed id token here more is at =
    ap (λ k. a.path ++ type_id s k ∷ []) (sym at) ∙ ap (λ i. a.path ++ i ∷ []) (sym is) ∙ ap (λ p. p ++ id ∷ []) here ∙ sym more

pub path_left : (path pushed after left : List TypeId) (id : TypeId) (outer : ℕ) → outer ≡ length path → pushed ≡ path ++ id ∷ [] → after ≡ pushed → left ≡ take outer after → left ≡ path
path_left path pushed after left id outer long more same is =
    is ∙ ap (take outer) (same ∙ more) ∙ ap (λ n. take n (path ++ id ∷ [])) long ∙ front_of path (id ∷ [])
