-- What fields break, one by one.
use Rattle.std.proofs.Common.{◌≡◌, ℕ, ◌<◌, ◌≤◌, ◌^◌, min, List, [], ◌∷◌, ◌++◌, Option, None, Some, length, map, ap, sym, subst, ◌∙◌, refl, arith}
use Rattle.std.specs.Prelude.{Bool, true, false, ◌==◌, ◌||◌, if◌then◌else◌, nat_lt, option_map}
use Rattle.std.specs.List.{flat_map}
use Rattle.std.proofs.lemmas.Bool.{ltb-false, ltb-true}
use Rattle.std.proofs.lemmas.Option.{same_Some}
use Rattle.ilasm_grammar.specs.declared.productions.TheConstants.{AT_NAME, FIELD}
use Rattle.ilasm_grammar.specs.declared.tree.TreeNode.{TreeNode}
use Rattle.ilasm_grammar.specs.declared.tree.TreeNode.TheVariants.{Branch, Leaf}
use Rattle.source_model.specs.Data.{at_token, data_named}
use Rattle.source_model.specs.Forest as tree
use Rattle.source_model.specs.Forest.{Forest, Part, each, has, joined, part, preorder}
use Rattle.source_model.specs.Nodes.{Around, Node, entered, nodes, nodes_in, nodes_of, nothing_around}
use Rattle.source_model.specs.OutOfRange.{asked_length, data_named_length, data_too_short_of, data_unsized_of, field_size, label_if_none, label_if_short}
use Rattle.source_model.specs.Source.{Source}
use Rattle.source_model.specs.Values.{name_text}
use Rattle.source_nodes.specs.Derived.{FitsBody, HasBodies}
use Rattle.source_nodes.specs.Least.{least, sooner}
use Rattle.source_nodes.specs.Walk.{Opens, is_of}
use Rattle.source_nodes.specs.declared.walk.Opened.{Opened}
use Rattle.source_nodes.proofs.Collecting.{no_forest, of_joined}
use Rattle.source_syntax.proofs.LeastLemmas.{least_append, sooner_assoc}
use Rattle.check_names.specs.MappedData.{counted_by, counted_length}
use Rattle.check_names.proofs.MissingLemmas.{flat_filtered, flat_same}
use Rattle.check_data.specs.DeclaredSizes.{flat}
use Rattle.check_data.specs.FieldFaults.{AreDataFaults, AreFieldFaults, AreLeast, label_below, where_field}
use Rattle.check_data.specs.declared.mapped_fields.DataFaults.{DataFaults}

-- ---- one field

pick : (b : Bool) (k : ℕ) → (if b then Some k else None) ≡ least (if b then k ∷ [] else [])
pick true k = refl
pick false k = refl

short_by : (o length : Option ℕ) (size k : ℕ) → Some size ≡ o → label_below size length k ≡ least (label_if_short o length k)
short_by None length size k e = absurd cc
short_by (Some m) None size k e = refl
short_by (Some m) (Some l) size k e = ap (λ n. if nat_lt l n then Some k else None) (same_Some size m e) ∙ pick (nat_lt l m) k

sized_by : (o : Option ℕ) (size k : ℕ) → Some size ≡ o → None ≡ least (label_if_none o k)
sized_by None size k e = absurd cc
sized_by (Some m) size k e = refl

nothing_short : (o length : Option ℕ) (k : ℕ) → None ≡ o → None ≡ least (label_if_short o length k)
nothing_short None length k e = refl
nothing_short (Some m) length k e = absurd cc

without : (o : Option ℕ) (k : ℕ) → None ≡ o → Some k ≡ least (label_if_none o k)
without None k e = refl
without (Some m) k e = absurd cc

-- what is asked of data, by what is counted of it
pub asked_flat : (s : Source) (d : Option Forest) → flat (option_map (asked_length s) d) ≡ data_named_length s d
asked_flat s None = refl
asked_flat s (Some f) = refl

pub counted_twice : (s : Source) (d : Option Forest) → option_map (counted_length s) d ≡ option_map counted_by (option_map (asked_length s) d)
counted_twice s None = refl
counted_twice s (Some f) = refl

ltb-none : (m n : ℕ) → n ≤ m → nat_lt m n ≡ false
ltb-none m n h = go (nat_lt m n) refl
  where
    go : (c : Bool) → nat_lt m n ≡ c → c ≡ false
    go false e = refl
    go true e = let less = ltb-true m n e in absurd (omega (arith, h, less))

-- as many are counted as are compared
pub is_below : (size length : ℕ) (asked : Option ℕ) (k : ℕ) → size < 2 ^ 32 → length ≡ counted_by asked → (if nat_lt length size then Some k else None) ≡ label_below size asked k
is_below size length None k small e =
    let large : length ≡ 0x100000000 = e in
    let over : nat_lt length size ≡ false = ltb-none length size (omega (arith, large, small)) in
    ap (λ (c : Bool). if c then Some k else None) over
is_below size length (Some n) k small e =
    let counted : length ≡ min n 0x100000000 = e in
    ap (λ (c : Bool). if c then Some k else None) (go (nat_lt length size) (nat_lt n size) refl refl counted)
  where
    go : (c d : Bool) → nat_lt length size ≡ c → nat_lt n size ≡ d → length ≡ min n 0x100000000 → c ≡ d
    go true true x y h = refl
    go false false x y h = refl
    go true false x y h = let less = ltb-true length size x in let more = ltb-false n size y in absurd (omega (arith, h, less, more, small))
    go false true x y h = let more = ltb-false length size x in let less = ltb-true n size y in absurd (omega (arith, h, less, more, small))

pub some_short : (size length k : ℕ) (known : Option (Option ℕ)) → size < 2 ^ 32 → Some length ≡ option_map counted_by known
    → (if nat_lt length size then Some k else None) ≡ label_below size (flat known) k
some_short size length k None small e = absurd cc
some_short size length k (Some asked) small e = is_below size length asked k small (same_Some length (counted_by asked) e)

pub none_short : (size k : ℕ) (known : Option (Option ℕ)) → None ≡ option_map counted_by known → None ≡ label_below size (flat known) k
none_short size k None e = refl
none_short size k (Some asked) e = absurd cc

module _ (s : Source) (n : Node) where
  abbrev named : Option Forest
  named = data_named s (name_text s (at_token n.below))

  module _ (at : has AT_NAME n.below ≡ true) where
    short_there : least (label_if_short (field_size s n) (data_named_length s named) (at_token n.below)) ≡ least (data_too_short_of s n)
    short_there = sym (ap (λ (b : Bool). least (if b then label_if_short (field_size s n) (data_named_length s named) (at_token n.below) else [])) at)

    unsized_there : least (label_if_none (field_size s n) (at_token n.below)) ≡ least (data_unsized_of s n)
    unsized_there = sym (ap (λ (b : Bool). least (if b then label_if_none (field_size s n) (at_token n.below) else [])) at)

    pub with_size : (size k : ℕ) (short : Option ℕ) → Some size ≡ field_size s n → k ≡ at_token n.below
        → short ≡ label_below size (flat (option_map (asked_length s) named)) k
        → AreFieldFaults s n (record { short = short; without_size = None })
    with_size size k short e is h = record {
      short = h ∙ ap (λ o. label_below size o k) (asked_flat s named) ∙ ap (label_below size (data_named_length s named)) is
          ∙ short_by (field_size s n) (data_named_length s named) size (at_token n.below) e ∙ short_there;
      without-size = sized_by (field_size s n) size (at_token n.below) e ∙ unsized_there;
    }

    pub without_size : (k : ℕ) → None ≡ field_size s n → k ≡ at_token n.below → AreFieldFaults s n (record { short = None; without_size = Some k })
    without_size k e is = record {
      short = nothing_short (field_size s n) (data_named_length s named) (at_token n.below) e ∙ short_there;
      without-size = ap Some is ∙ without (field_size s n) (at_token n.below) e ∙ unsized_there;
    }

  pub without_data : (d : DataFaults) → has AT_NAME n.below ≡ false → d.short ≡ None → d.without_size ≡ None → AreFieldFaults s n d
  without_data d none h i = record {
    short = h ∙ sym (ap (λ (b : Bool). least (if b then label_if_short (field_size s n) (data_named_length s named) (at_token n.below) else [])) none);
    without-size = i ∙ sym (ap (λ (b : Bool). least (if b then label_if_none (field_size s n) (at_token n.below) else [])) none);
  }

-- ---- the productions of a forest, without what is around them

abbrev all_parts : Forest → List Part
all_parts tree.none = []
all_parts (tree.leaf k after) = all_parts after
all_parts (tree.branch p below after) = (part p below ∷ all_parts below) ++ all_parts after

parts_joined : (f g : Forest) → all_parts (joined f g) ≡ all_parts f ++ all_parts g
parts_joined tree.none g = refl
parts_joined (tree.leaf k a) g = parts_joined a g
parts_joined (tree.branch p b a) g =
    ap (λ ps. (part p b ∷ all_parts b) ++ ps) (parts_joined a g) ∙ sym (assoc (part p b ∷ all_parts b) (all_parts a) (all_parts g))
  where
    assoc : (xs ys zs : List Part) → (xs ++ ys) ++ zs ≡ xs ++ (ys ++ zs)
    assoc [] ys zs = refl
    assoc (x ∷ xs) ys zs = ap (λ ws. x ∷ ws) (assoc xs ys zs)

abbrev part_of : Node → Part
part_of n = part n.production n.below

parts_of_append : (ms ns : List Node) → map part_of (ms ++ ns) ≡ map part_of ms ++ map part_of ns
parts_of_append [] ns = refl
parts_of_append (m ∷ ms) ns = ap (λ ps. part_of m ∷ ps) (parts_of_append ms ns)

parts_are : (s : Source) (a : Around) (f : Forest) → map part_of (nodes_in s a f) ≡ all_parts f
parts_are s a tree.none = refl
parts_are s a (tree.leaf k after) = parts_are s a after
parts_are s a (tree.branch p b after) =
    parts_of_append (record { production = p; below = b; around = entered s a p b } ∷ nodes_in s (entered s a p b) b) (nodes_in s a after)
    ∙ ap (λ ps. (part p b ∷ ps) ++ map part_of (nodes_in s a after)) (parts_are s (entered s a p b) b)
    ∙ ap (λ ps. (part p b ∷ all_parts b) ++ ps) (parts_are s a after)

record Split (ns : List Node) (p : Part) (ps : List Part) : Type 0 where
  node : Node
  more : List Node
  is : ns ≡ node ∷ more
  first : part_of node ≡ p
  rest : map part_of more ≡ ps

split : (ns : List Node) (p : Part) (ps : List Part) → map part_of ns ≡ p ∷ ps → Split ns p ps
split [] p ps e = absurd cc
split (n ∷ ns) p ps e = record { node = n; more = ns; is = refl; first = cc; rest = cc }

no_nodes : (ns : List Node) → map part_of ns ≡ [] → ns ≡ []
no_nodes [] e = refl
no_nodes (n ∷ ns) e = absurd cc

-- ---- the walk

-- with what the rest breaks, what was found is the least of the whole
pub record Asking (s : Source) (ns : List Node) (left : List TreeNode) (found : DataFaults) : Type 0 where
  pub rest : Forest
  pub is : preorder rest ≡ left
  pub bodies : HasBodies s rest
  pub more : List Node
  pub parts : map part_of more ≡ all_parts rest
  pub short : sooner found.short (least (flat_map (where_field (data_too_short_of s)) more)) ≡ least (flat_map (where_field (data_too_short_of s)) ns)
  pub without-size : sooner found.without_size (least (flat_map (where_field (data_unsized_of s)) more)) ≡ least (flat_map (where_field (data_unsized_of s)) ns)

nothing_more : (found : Option ℕ) → found ≡ sooner found None
nothing_more None = refl
nothing_more (Some k) = refl

module _ (s : Source) where
  pub asking_start : (a : Around) (f : Forest) (nodes : List TreeNode) (found : DataFaults) → preorder f ≡ nodes → HasBodies s f → found.short ≡ None → found.without_size ≡ None
      → Asking s (nodes_in s a f) nodes found
  asking_start a f nodes found e h i j = record {
    rest = f;
    is = e;
    bodies = h;
    more = nodes_in s a f;
    parts = parts_are s a f;
    short = ap (λ o. sooner o (least (flat_map (where_field (data_too_short_of s)) (nodes_in s a f)))) i;
    without-size = ap (λ o. sooner o (least (flat_map (where_field (data_unsized_of s)) (nodes_in s a f)))) j;
  }

  pub asking_end : (ns : List Node) (left : List TreeNode) (found : DataFaults) → left ≡ [] → Asking s ns left found → AreLeast s ns found
  asking_end ns left found e x =
      let none = no_forest x.rest (x.is ∙ e) in
      let nothing = no_nodes x.more (x.parts ∙ ap all_parts none) in
      record {
        short = nothing_more found.short ∙ ap (λ ms. sooner found.short (least (flat_map (where_field (data_too_short_of s)) ms))) (sym nothing) ∙ x.short;
        without-size = nothing_more found.without_size
            ∙ ap (λ ms. sooner found.without_size (least (flat_map (where_field (data_unsized_of s)) ms))) (sym nothing) ∙ x.without-size;
      }

  -- past one production: what it breaks was found
  one_past : (broken : Node → List ℕ) (n : Node) (more : List Node) (found next here : Option ℕ) → here ≡ least (where_field broken n) → next ≡ sooner found here
      → sooner next (least (flat_map (where_field broken) more)) ≡ sooner found (least (flat_map (where_field broken) (n ∷ more)))
  one_past broken n more found next here h i =
      ap (λ o. sooner o (least (flat_map (where_field broken) more))) (i ∙ ap (sooner found) h)
      ∙ sooner_assoc found (least (where_field broken n)) (least (flat_map (where_field broken) more))
      ∙ ap (sooner found) (sym (least_append (where_field broken n) (flat_map (where_field broken) more)))

  -- at a field
  own_part : (broken : Node → List ℕ) (n : Node) (here : Option ℕ) → (n.production == FIELD) ≡ true → here ≡ least (broken n) → here ≡ least (where_field broken n)
  own_part broken n here own h = h ∙ sym (ap (λ (b : Bool). least (if b then broken n else [])) own)

  other_part : (broken : Node → List ℕ) (n : Node) → (n.production == FIELD) ≡ false → None ≡ least (where_field broken n)
  other_part broken n other = sym (ap (λ (b : Bool). least (if b then broken n else [])) other)

  turned_own : (p q : ℕ) → (p == q) ≡ true → (q == p) ≡ true
  turned_own p q e = grind arith

  turned_other : (p q : ℕ) → (p == q) ≡ false → (q == p) ≡ false
  turned_other p q e = grind arith

  pub asking_field : (ns : List Node) (left : List TreeNode) (x : Opened) (found next here : DataFaults) → Opens left x → is_of FIELD x.node ≡ true
      → ((n : Node) → preorder n.below ≡ x.below.now → HasBodies s n.below → AreFieldFaults s n here)
      → next.short ≡ sooner found.short here.short → next.without_size ≡ sooner found.without_size here.without_size
      → Asking s ns left found → Asking s ns x.behind.now next
  asking_field ns left x found next here o own asked h i w = go x.node refl
    where
      go : (node : TreeNode) → x.node ≡ node → Asking s ns x.behind.now next
      go (Leaf token) is = let none : is_of FIELD (Leaf token) ≡ true = ap (is_of FIELD) (sym is) ∙ own in absurd cc
      go (Branch p count) is =
          let b = o.branch w.rest p count w.is is in
          let both : HasBodies s (tree.branch p b.inner b.rest) = subst (HasBodies s) b.is w.bodies in
          let m = split w.more (part p b.inner) (all_parts b.inner ++ all_parts b.rest) (w.parts ∙ ap all_parts b.is) in
          let same : (FIELD == p) ≡ true = ap (is_of FIELD) (sym is) ∙ own in
          let field : (m.node.production == FIELD) ≡ true = ap (λ (q : Part). q.production == FIELD) m.first ∙ turned_own FIELD p same in
          let faults = asked m.node (ap (λ (q : Part). preorder q.below) m.first ∙ b.inner-is) (subst (λ (q : Part). HasBodies s q.below) (sym m.first) both.1) in
          record {
            rest = joined b.inner b.rest;
            is = b.behind-is;
            bodies = of_joined (FitsBody s) b.inner b.rest both.1 both.2;
            more = m.more;
            parts = m.rest ∙ sym (parts_joined b.inner b.rest);
            short = one_past (data_too_short_of s) m.node m.more found.short next.short here.short
                (own_part (data_too_short_of s) m.node here.short field faults.short) h
                ∙ ap (λ ms. sooner found.short (least (flat_map (where_field (data_too_short_of s)) ms))) (sym m.is) ∙ w.short;
            without-size = one_past (data_unsized_of s) m.node m.more found.without_size next.without_size here.without_size
                (own_part (data_unsized_of s) m.node here.without_size field faults.without-size) i
                ∙ ap (λ ms. sooner found.without_size (least (flat_map (where_field (data_unsized_of s)) ms))) (sym m.is) ∙ w.without-size;
          }

  pub asking_other : (ns : List Node) (left : List TreeNode) (x : Opened) (found : DataFaults) → Opens left x → is_of FIELD x.node ≡ false
      → Asking s ns left found → Asking s ns x.behind.now found
  asking_other ns left x found o apart w = go x.node refl
    where
      go : (node : TreeNode) → x.node ≡ node → Asking s ns x.behind.now found
      go (Leaf token) is =
          let b = o.leaf w.rest token w.is is in
          record {
            rest = b.after;
            is = b.rest;
            bodies = subst (HasBodies s) b.is w.bodies;
            more = w.more;
            parts = w.parts ∙ ap all_parts b.is;
            short = w.short;
            without-size = w.without-size;
          }
      go (Branch p count) is =
          let b = o.branch w.rest p count w.is is in
          let both : HasBodies s (tree.branch p b.inner b.rest) = subst (HasBodies s) b.is w.bodies in
          let m = split w.more (part p b.inner) (all_parts b.inner ++ all_parts b.rest) (w.parts ∙ ap all_parts b.is) in
          let same : (FIELD == p) ≡ false = ap (is_of FIELD) (sym is) ∙ apart in
          let other : (m.node.production == FIELD) ≡ false = ap (λ (q : Part). q.production == FIELD) m.first ∙ turned_other FIELD p same in
          record {
            rest = joined b.inner b.rest;
            is = b.behind-is;
            bodies = of_joined (FitsBody s) b.inner b.rest both.1 both.2;
            more = m.more;
            parts = m.rest ∙ sym (parts_joined b.inner b.rest);
            short = one_past (data_too_short_of s) m.node m.more found.short found.short None (other_part (data_too_short_of s) m.node other) (nothing_more found.short)
                ∙ ap (λ ms. sooner found.short (least (flat_map (where_field (data_too_short_of s)) ms))) (sym m.is) ∙ w.short;
            without-size = one_past (data_unsized_of s) m.node m.more found.without_size found.without_size None
                (other_part (data_unsized_of s) m.node other) (nothing_more found.without_size)
                ∙ ap (λ ms. sooner found.without_size (least (flat_map (where_field (data_unsized_of s)) ms))) (sym m.is) ∙ w.without-size;
          }

  -- ---- all fields of a source

  turned : (p : ℕ) → ((FIELD == p) || false) ≡ (p == FIELD)
  turned p = grind arith

  of_fields : (broken : Node → List ℕ) (ns : List Node) → flat_map (where_field broken) ns ≡ flat_map broken (nodes_of (FIELD ∷ []) ns)
  of_fields broken ns =
      flat_same (where_field broken) (λ (n : Node). if (FIELD == n.production) || false then broken n else []) ns
      (λ n. ap (λ (b : Bool). if b then broken n else []) (sym (turned n.production)))
      ∙ sym (flat_filtered (λ (n : Node). (FIELD == n.production) || false) broken ns)

  pub faults_of_all : (d : DataFaults) → AreLeast s (nodes_in s nothing_around s.tree) d → AreDataFaults s d
  unfolding nodes
  faults_of_all d l = record {
    short = l.short ∙ ap least (of_fields (data_too_short_of s) (nodes_in s nothing_around s.tree));
    without-size = l.without-size ∙ ap least (of_fields (data_unsized_of s) (nodes_in s nothing_around s.tree));
  }
