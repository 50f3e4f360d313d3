-- The data of a field of a faultless source has as many bytes as a value of its type has in the assembly (ECMA-335 II.16.3).
use Rattle.std.proofs.Common.{◌≡◌, ℕ, ◌≤◌, inl, inr, List, [], ◌∷◌, ◌++◌, Option, None, Some, cond, length, refl, ap, sym, subst, ◌∙◌, arith, nat_lt, ◌⊎◌}
use Rattle.std.specs.Prelude.{Bool, true, false, ◌==◌, ◌&&◌, ◌||◌, not, if◌then◌else◌, bytes_eq, is_some, find, filter, fold, take, ℤ, pos, negsuc, int_le}
use Rattle.std.specs.List.{AllByRecursion, flat_map, list_any}
use Rattle.std.proofs.lemmas.Bool.{cases_Bool, leb-true, ltb-false}
use Rattle.std.proofs.lemmas.Bool.Decides.{Decides-eqb}
use Rattle.std.proofs.lemmas.List.{length-take-le}
use Rattle.std.proofs.lemmas.Option.{same_Some}
use Rattle.type_terms.specs.declared.name.Scope.{Scope}
use Rattle.type_terms.specs.declared.name.Scope.TheVariants.{Here, Extern}
use Rattle.type_terms.specs.declared.name.TypeId.{TypeId}
use Rattle.type_terms.specs.declared.name.TypeName.{TypeName}
use Rattle.type_terms.specs.declared.term.SigType.{SigType}
use Rattle.assembly_tree.specs.DataSize.{declared, declared_in, layout_size, size_in_data, type_size}
use Rattle.assembly_tree.specs.WellFormedMembers.{is_content}
use Rattle.ilasm_grammar.specs.Grammar.{rule_of}
use Rattle.ilasm_grammar.specs.Ilasm.{ilasm, rule_by}
use Rattle.ilasm_grammar.specs.declared.nonterminals.TheConstants as head
use Rattle.ilasm_grammar.specs.declared.symbol.Symbol.TheVariants.{Terminal}
use Rattle.ilasm_grammar.specs.declared.terminals.TheConstants as terminal
use Rattle.ilasm_grammar.specs.declared.productions.TheConstants.{AT_NAME, BRACKETED_INT, CLASS, DATA, DATA_ITEM_BYTES, DATA_ITEM_DATA_NUM, DATA_LABEL, FIELD, MEMBER_CLASS, MEMBER_CUSTOM, MEMBER_DATA, MEMBER_EVENT, MEMBER_FIELD, MEMBER_METHOD, MEMBER_PACK, MEMBER_PARAM, MEMBER_PROPERTY, MEMBER_SIZE, PARENTHESIZED_INT, TYPE}
use Rattle.source_model.specs.Classes.{assembly}
use Rattle.source_model.specs.Data.{at_token, bytes_at, class_layout, content, data_bytes, data_items, data_length, data_named, data_size, first_bytes, item_bits, label_token, last_number, layout, layout_from, lines_of, size_by, value_layout, value_size}
use Rattle.source_model.specs.Forest.{Forest, Part, none, leaf, branch, below_each, child, each, first_or, has, is_among, is_any_part, leaf_at, parts, the}
use Rattle.source_model.specs.Items.{members}
use Rattle.source_model.specs.Names.{class_at, classes, is_path}
use Rattle.source_model.specs.Nodes.{Around, Node, entered, nodes, nodes_in, nothing_around}
use Rattle.source_model.specs.OutOfRange.{asked_length, asked_size, asked_size_at, asked_value_size, data_named_length, data_too_short_of, data_unsized_of, field_size, fits_width, is_32_bits, is_repeat, is_size_in_range, label_if_none, label_if_short, stands_too_often}
use Rattle.source_model.specs.TypeRules.{unless}
use Rattle.source_model.specs.Shapes.{natural}
use Rattle.source_model.specs.Source.{Source}
use Rattle.source_model.specs.Types.{type_of}
use Rattle.source_model.specs.Undeclared.{label_undeclared_of}
use Rattle.source_model.specs.Values.{int_at, name_text}
use Rattle.source_nodes.specs.Derived.{DerivationsHaveBodies, Fits, OfEach}
use Rattle.source_nodes.proofs.WrittenNames.{fits_rule}
use Rattle.source_flags.proofs.Gathered.{IsSought, of_parts}
use Rattle.laws_formed_sources.specs.sources.Laws.{IsRight}
use Rattle.laws_formed_sources.specs.sources.Productions.{AllFaultless, IsFaultlessAt}
use Rattle.laws_formed_sources.specs.sources.Remaining.{Among}
use Rattle.laws_formed_sources.proofs.sources.Attributes.{IsGood}
use Rattle.laws_formed_sources.proofs.sources.Declared.{no_class_twice}
use Rattle.laws_formed_sources.proofs.sources.Occurring.{among_back, among_front}
use Rattle.laws_formed_sources.proofs.sources.Parts.{IsOf, each_good, parts_good, passed}
use Rattle.laws_formed_sources.proofs.sources.Unbroken.{all_bounded, all_declared, all_faultless, empty_in, nothing_twice}
use Rattle.laws_formed_sources.proofs.contents.Leads.{class_leads, class_placed}
use Rattle.laws_formed_sources.proofs.contents.Lengths.{data_long}
use Rattle.laws_formed_sources.proofs.contents.Sizes.{all_sized}

-- ---- lists

-- what is empty over those that pass is empty at each of them
none_at : {X Y : Type 0} (test : X → Bool) (g : X → List Y) (q : X) (xs : List X) → Among q xs → test q ≡ true → flat_map g (filter test xs) ≡ [] → g q ≡ []
none_at test g q [] h is e = absurd h
none_at test g q (x ∷ xs) (inl same) is e =
    let at : flat_map g (x ∷ filter test xs) ≡ [] = sym (ap (λ (c : Bool). flat_map g (cond c (x ∷ filter test xs) (filter test xs))) (ap test same ∙ is)) ∙ e in
    subst (λ y. g y ≡ []) same (empty_in (g x) (flat_map g (filter test xs)) at).0
none_at test g q (x ∷ xs) (inr h) is e = elim (cases_Bool (test x)) [
  | inl own ↦
      let at : flat_map g (x ∷ filter test xs) ≡ [] = sym (ap (λ (c : Bool). flat_map g (cond c (x ∷ filter test xs) (filter test xs))) own) ∙ e in
      none_at test g q xs h is (empty_in (g x) (flat_map g (filter test xs)) at).1
  | inr other ↦ none_at test g q xs h is (sym (ap (λ (c : Bool). flat_map g (cond c (x ∷ filter test xs) (filter test xs))) other) ∙ e)
]

among_first : {X : Type 0} (q x : X) (xs : List X) (C : Type 0) → Among q (x ∷ xs) → (x ≡ q → C) → (Among q xs → C) → C
among_first q x xs C (inl is) own more = own is
among_first q x xs C (inr i) own more = more i

among_filtered : {X : Type 0} (test : X → Bool) (q : X) (xs : List X) → Among q (filter test xs) → Among q xs
among_filtered test q [] h = absurd h
among_filtered test q (x ∷ xs) h = elim (cases_Bool (test x)) [
  | inl own ↦
      among_first q x (filter test xs) (Among q (x ∷ xs)) (subst (Among q) (ap (λ (c : Bool). cond c (x ∷ filter test xs) (filter test xs)) own) h) (λ is. inl is)
      (λ i. inr (among_filtered test q xs i))
  | inr other ↦ inr (among_filtered test q xs (subst (Among q) (ap (λ (c : Bool). cond c (x ∷ filter test xs) (filter test xs)) other) h))
]

among_found : {X : Type 0} (test : X → Bool) (q : X) (xs : List X) → find test xs ≡ Some q → Among q xs
among_found test q [] e = absurd cc
among_found test q (x ∷ xs) e = elim (cases_Bool (test x)) [
  | inl is ↦ inl (same_Some x q (sym (ap (λ (c : Bool). cond c (Some x) (find test xs)) is) ∙ e))
  | inr other ↦ inr (among_found test q xs (sym (ap (λ (c : Bool). cond c (Some x) (find test xs)) other) ∙ e))
]

among_either : {X : Type 0} (q : X) (xs ys : List X) (C : Type 0) → Among q (xs ++ ys) → (Among q xs → C) → (Among q ys → C) → C
among_either q [] ys C h front back = back h
among_either q (x ∷ xs) ys C (inl e) front back = front (inl e)
among_either q (x ∷ xs) ys C (inr h) front back = among_either q xs ys C h (λ i. front (inr i)) back

-- ---- nodes

-- what holds of each production holds of each node, and below it
each_node : (P : ℕ → Forest → Type 0) (s : Source) (a : Around) (f : Forest) → OfEach P f → (n : Node) → Among n (nodes_in s a f) → P n.production n.below × OfEach P n.below
each_node P s a none h n i = absurd i
each_node P s a (leaf k f) h n i = each_node P s a f h n i
each_node P s a (branch p b f) h n (inl is) = subst (λ (m : Node). P m.production m.below × OfEach P m.below) is (h.0, h.1)
each_node P s a (branch p b f) h n (inr i) =
    among_either n (nodes_in s (entered s a p b) b) (nodes_in s a f) (P n.production n.below × OfEach P n.below) i
    (λ j. each_node P s (entered s a p b) b h.1 n j) (λ j. each_node P s a f h.2 n j)

-- and what holds of each node holds of each production
each_production : (P : ℕ → Forest → Type 0) (s : Source) (a : Around) (f : Forest) → ((n : Node) → Among n (nodes_in s a f) → P n.production n.below) → OfEach P f
each_production P s a none h = tt
each_production P s a (leaf k f) h = each_production P s a f h
each_production P s a (branch p b f) h = (
  h (record { production = p; below = b; around = entered s a p b }) (inl refl),
  each_production P s (entered s a p b) b (λ n i. h n (inr (among_front n (nodes_in s (entered s a p b) b) (nodes_in s a f) i))),
  each_production P s a f (λ n i. h n (inr (among_back n (nodes_in s (entered s a p b) b) (nodes_in s a f) i))),
)

if_nothing : (c : Bool) (k : ℕ) → (if c then [] else k ∷ []) ≡ [] → c ≡ true
if_nothing true k e = refl
if_nothing false k e = absurd cc

if_no_label : (c : Bool) (k : ℕ) → (if c then k ∷ [] else []) ≡ [] → c ≡ false
if_no_label true k e = absurd cc
if_no_label false k e = refl

of_one : (q p : ℕ) → q ≡ p → is_among (q ∷ []) p ≡ true
of_one q p e = ap (λ (c : Bool). c || false) ((Decides-eqb q p).1 e)

one_of : (q p : ℕ) → is_among (q ∷ []) p ≡ true → q ≡ p
one_of q p e = elim (cases_Bool (q == p)) [
  | inl is ↦ (Decides-eqb q p).0 is
  | inr other ↦ let h : false ≡ true = sym (ap (λ (c : Bool). c || false) other) ∙ e in absurd cc
]

-- ---- class sizes

word : (z : ℤ) → is_32_bits z ≡ true → natural z ≤ 4294967295
word (pos n) e = go n e
  where
    go : (n : ℕ) → (int_le (pos 0) (pos n) && int_le (pos n) (pos 4294967295)) ≡ true → n ≤ 4294967295
    go n e = leb-true n 4294967295 (second (int_le (pos 0) (pos n)) (int_le (pos n) (pos 4294967295)) e)
      where
        second : (c d : Bool) → (c && d) ≡ true → d ≡ true
        second true d e = e
        second false d e = absurd cc
word (negsuc n) e = omega arith

module _ (s : Source) where
  abbrev IsSizeLine : Part → Type 0
  IsSizeLine p = ((p.production == MEMBER_SIZE) ≡ true) × IsGood s p

  numbers_low : (ps : List Part) (m : ℕ) → AllByRecursion IsSizeLine ps → m ≤ 4294967295 → fold (λ n p. natural (int_at s (leaf_at 1 p.below))) m ps ≤ 4294967295
  numbers_low [] m h e = e
  numbers_low (p ∷ ps) m h e =
      let line : IsFaultlessAt s MEMBER_SIZE p.below = subst (λ q. IsFaultlessAt s q p.below) ((Decides-eqb p.production MEMBER_SIZE).0 h.0.0) h.0.1.0 in
      let k = leaf_at 1 p.below in
      numbers_low ps (natural (int_at s k)) h.1 (word (int_at s k) (if_nothing (is_32_bits (int_at s k)) k line.range.layouts))

  abbrev member_productions : List ℕ
  member_productions =
      MEMBER_CLASS ∷ MEMBER_FIELD ∷ MEMBER_METHOD ∷ MEMBER_PROPERTY ∷ MEMBER_EVENT ∷ MEMBER_CUSTOM ∷ MEMBER_DATA ∷ MEMBER_PARAM ∷ MEMBER_PACK
      ∷ MEMBER_SIZE ∷ []

  numbers_ranged : (ps : List Part) (b : Bool) → AllByRecursion IsSizeLine ps → b ≡ true → fold (λ before p. is_32_bits (int_at s (leaf_at 1 p.below))) b ps ≡ true
  numbers_ranged [] b h e = e
  numbers_ranged (p ∷ ps) b h e =
      let line : IsFaultlessAt s MEMBER_SIZE p.below = subst (λ q. IsFaultlessAt s q p.below) ((Decides-eqb p.production MEMBER_SIZE).0 h.0.0) h.0.1.0 in
      let k = leaf_at 1 p.below in
      numbers_ranged ps (is_32_bits (int_at s k)) h.1 (if_nothing (is_32_bits (int_at s k)) k line.range.layouts)

  class_ranged : (f : Forest) → AllFaultless s f → is_size_in_range s f ≡ true
  class_ranged f all =
      numbers_ranged (lines_of MEMBER_SIZE f) true (passed (IsGood s) (λ p. p.production == MEMBER_SIZE) (members f) (parts_good s member_productions f all)) refl

  size_of : (c : Bool) (size k : ℕ) → cond c (Some size) None ≡ Some k → size ≡ k
  size_of true size k e = same_Some size k e
  size_of false size k e = absurd cc

  class_low : (f : Forest) → AllFaultless s f → (k : ℕ) → layout_size (layout s f) ≡ Some k → k ≤ 4294967295
  class_low f all k e =
      go (lines_of MEMBER_PACK f) (lines_of MEMBER_SIZE f)
      (passed (IsGood s) (λ p. p.production == MEMBER_SIZE) (members f) (parts_good s member_productions f all)) e
    where
      low : (sizes : List Part) → AllByRecursion IsSizeLine sizes → cond (nat_lt 0 (last_number s sizes)) (Some (last_number s sizes)) None ≡ Some k → k ≤ 4294967295
      low sizes h e =
          let same = size_of (nat_lt 0 (last_number s sizes)) (last_number s sizes) k e in
          let bound = numbers_low sizes 0 h (omega arith) in
          subst (λ m. m ≤ 4294967295) same bound

      go : (ps sizes : List Part) → AllByRecursion IsSizeLine sizes → layout_size (layout_from s ps sizes) ≡ Some k → k ≤ 4294967295
      go [] [] h e = absurd cc
      go [] (q ∷ sizes) h e = low (q ∷ sizes) h e
      go (p ∷ ps) sizes h e = low sizes h e

-- ---- repeats

rule_bytes : ilasm DATA_ITEM_BYTES ≡ Some (rule_of head.DATA_ITEM (Terminal terminal.BYTE_ARRAY ∷ []))
unfolding ilasm rule_by
rule_bytes = refl

-- below a production with a token alone stands no other
alone : (s : Source) (k p : ℕ) (f : Forest) → Fits s (Terminal k ∷ []) f → has p f ≡ false
alone s k p none h = absurd h
alone s k p (leaf j none) h = refl
alone s k p (leaf j (leaf i f)) h = absurd h.1
alone s k p (leaf j (branch q b f)) h = absurd h.1
alone s k p (branch q b f) h = absurd h

bytes_or_numbers : (p : ℕ) → is_among (DATA_ITEM_BYTES ∷ DATA_ITEM_DATA_NUM ∷ []) p ≡ true → (DATA_ITEM_BYTES ≡ p) ⊎ (DATA_ITEM_DATA_NUM ≡ p)
bytes_or_numbers p e = elim (cases_Bool (DATA_ITEM_BYTES == p)) [
  | inl is ↦ inl ((Decides-eqb DATA_ITEM_BYTES p).0 is)
  | inr other ↦ inr (one_of DATA_ITEM_DATA_NUM p (sym (ap (λ (c : Bool). c || is_among (DATA_ITEM_DATA_NUM ∷ []) p) other) ∙ e))
]

first_repeat : (s : Source) (ps : List Part) → flat_map (λ g. unless is_repeat s (leaf_at 1 g)) (below_each ps) ≡ []
    → (is_any_part ps && not (is_repeat (int_at s (leaf_at 1 (first_or none (below_each ps)))))) ≡ false
first_repeat s [] e = refl
first_repeat s (p ∷ ps) e =
    let k = leaf_at 1 p.below in
    let own = (empty_in (unless is_repeat s k) (flat_map (λ g. unless is_repeat s (leaf_at 1 g)) (below_each ps)) e).0 in
    ap not (if_nothing (is_repeat (int_at s k)) k own)

module _ (s : Source) where
  abbrev IsItem : Part → Type 0
  IsItem p = IsSought (IsFaultlessAt s) (DATA_ITEM_BYTES ∷ DATA_ITEM_DATA_NUM ∷ []) p

  item_few : (p : Part) → IsItem p → stands_too_often s p.below ≡ false
  item_few p h = elim (bytes_or_numbers p.production h.0) [
    | inl is ↦
        let own : IsFaultlessAt s DATA_ITEM_BYTES p.below = subst (λ q. IsFaultlessAt s q p.below) (sym is) h.1 in
        let bare = alone s terminal.BYTE_ARRAY BRACKETED_INT p.below (fits_rule s DATA_ITEM_BYTES head.DATA_ITEM (Terminal terminal.BYTE_ARRAY ∷ []) p.below rule_bytes own.range.fits) in
        ap (λ c. c && not (is_repeat (int_at s (leaf_at 1 (the BRACKETED_INT p.below))))) bare
    | inr is ↦
        let own : IsFaultlessAt s DATA_ITEM_DATA_NUM p.below = subst (λ q. IsFaultlessAt s q p.below) (sym is) h.1 in
        let few = (empty_in (flat_map (λ g. unless (fits_width (item_bits p.below)) s (leaf_at 1 g)) (each PARENTHESIZED_INT p.below))
        (flat_map (λ g. unless is_repeat s (leaf_at 1 g)) (each BRACKETED_INT p.below)) own.range.data-numbers).1 in
        first_repeat s (parts (BRACKETED_INT ∷ []) p.below) few
  ]

  items_few : (ps : List Part) → AllByRecursion IsItem ps → list_any (λ p. stands_too_often s p.below) ps ≡ false
  items_few [] h = refl
  items_few (p ∷ ps) h = ap (λ c. c || list_any (λ q. stands_too_often s q.below) ps) (item_few p h.0) ∙ items_few ps h.1

  length_asked : (f : Forest) → AllFaultless s f → asked_length s f ≡ Some (data_length s f)
  length_asked f all =
      ap (λ (c : Bool). if c then None else Some (data_length s f))
      (items_few (data_items f) (of_parts (IsFaultlessAt s) (DATA_ITEM_BYTES ∷ DATA_ITEM_DATA_NUM ∷ []) f all))

found_of_each : {X : Type 0} (P : X → Type 0) (chosen test : X → Bool) (xs : List X) (x : X) → AllByRecursion P xs → find test (filter chosen xs) ≡ Some x → P x
found_of_each P chosen test [] x h e = absurd cc
found_of_each P chosen test (y ∷ ys) x h e = go (chosen y) (λ i. found_of_each P chosen test ys x h.1 i) e
  where
    within : (c : Bool) → (find test (filter chosen ys) ≡ Some x → P x) → cond c (Some y) (find test (filter chosen ys)) ≡ Some x → P x
    within true later e = subst P (same_Some y x e) h.0
    within false later e = later e

    go : (c : Bool) → (find test (filter chosen ys) ≡ Some x → P x) → find test (cond c (y ∷ filter chosen ys) (filter chosen ys)) ≡ Some x → P x
    go true later e = within (test y) later e
    go false later e = later e

-- ---- a faultless source

module _ (s : Source) (r : IsRight s) (all : AllFaultless s s.tree) where
  good_node : (n : Node) → Among n (nodes s) → IsFaultlessAt s n.production n.below × AllFaultless s n.below
  unfolding nodes
  good_node n i = each_node (IsFaultlessAt s) s nothing_around s.tree all n i

  class_node : (path : List TypeId) (n : Node) → class_at s path ≡ Some n → Among n (nodes s)
  class_node path n e =
      among_filtered (λ (m : Node). is_among (CLASS ∷ []) m.production) n (nodes s) (among_found (λ (m : Node). is_path m.around.path path) n (classes s) e)

  -- the size of a value type is that of the type in the assembly
  stated_in : (scope : Scope) (path : List TypeId) (k : ℕ) → layout_size (value_layout s scope path) ≡ Some k
      → (type_size (declared_in (assembly s).types scope path) ≡ Some k) × (k ≤ 4294967295)
  unfolding assembly
  stated_in (Extern j) path k e = absurd cc
  stated_in Here path k e = go (class_at s path) refl e
    where
      go : (o : Option Node) → class_at s path ≡ o → layout_size (class_layout s o) ≡ Some k
          → (type_size (declared_in (assembly s).types Here path) ≡ Some k) × (k ≤ 4294967295)
      go None is h = absurd cc
      go (Some n) is h =
          let l = class_leads s nothing_around s.tree (no_class_twice s (nothing_twice s r.faultless)) (record { path = path; class = n.below }) (class_placed s path n is) in
          (ap type_size l.1 ∙ ap layout_size l.2 ∙ h, class_low s n.below (good_node n (class_node path n is)).1 k h)

  stated : (name : TypeName) (k : ℕ) → layout_size (value_layout s name.scope name.path) ≡ Some k → (type_size (declared (assembly s) name) ≡ Some k) × (k ≤ 4294967295)
  stated name k e = stated_in name.scope name.path k e

  pub sizes_agree : (t : SigType) (k : ℕ) → data_size s t ≡ Some k → (size_in_data (assembly s) t ≡ Some k) × (k ≤ 4294967295)
  sizes_agree t k e = all_sized s (assembly s) stated t k e

  -- ---- labels

  abbrev HasData : ℕ → Forest → Type 0
  HasData p b = p ≡ AT_NAME → is_some (data_named s (name_text s (leaf_at 1 b))) ≡ true

  labels_known : OfEach HasData s.tree
  unfolding nodes
  labels_known = each_production HasData s nothing_around s.tree known
    where
      known : (n : Node) → Among n (nodes_in s nothing_around s.tree) → HasData n.production n.below
      known n i is =
          if_nothing (is_some (data_named s (name_text s (leaf_at 1 n.below)))) (leaf_at 1 n.below)
          (none_at (λ (m : Node). is_among (AT_NAME ∷ []) m.production) (label_undeclared_of s) n (nodes s) i (of_one AT_NAME n.production (sym is)) (all_declared s r.faultless).labelled)

  first_known : (ps : List Part) → AllByRecursion (IsSought HasData (AT_NAME ∷ [])) ps → is_any_part ps ≡ true
      → is_some (data_named s (name_text s (leaf_at 1 (first_or none (below_each ps))))) ≡ true
  first_known [] h e = absurd cc
  first_known (p ∷ ps) h e = h.0.1 (sym (one_of AT_NAME p.production h.0.0))

  label_known : (n : Node) → Among n (nodes s) → has AT_NAME n.below ≡ true → is_some (data_named s (name_text s (at_token n.below))) ≡ true
  unfolding nodes
  label_known n i e =
      first_known (parts (AT_NAME ∷ []) n.below)
      (of_parts HasData (AT_NAME ∷ []) n.below (each_node HasData s nothing_around s.tree labels_known n i).1) e

  -- ---- contents

  values_same : (at : Scope) (path : List TypeId) → asked_value_size s at path ≡ value_size s at path
  values_same (Extern j) path = refl
  values_same Here path = go (class_at s path) refl
    where
      go : (o : Option Node) → class_at s path ≡ o → asked_size_at s o ≡ layout_size (class_layout s o)
      go None is = refl
      go (Some n) is = ap (λ (c : Bool). if c then layout_size (layout s n.below) else Some 0) (class_ranged s n.below (good_node n (class_node path n is)).1)

  -- what is asked of data is what is stated
  size_asked : (t : SigType) → asked_size s t ≡ data_size s t
  size_asked t =
      let same : asked_value_size s ≡ value_size s = λ i at path. values_same at path i in
      ap (λ value. size_by value t) same

  named_asked : (text : List ℕ) (g : Forest) → data_named s text ≡ Some g → data_named_length s (Some g) ≡ Some (data_length s g)
  named_asked text g e =
      length_asked s g
      (found_of_each (IsOf s DATA) (has DATA_LABEL) (λ f. bytes_eq (name_text s (label_token f)) text) (each DATA s.tree) g (each_good s DATA s.tree all) e).1

  exact : (t : SigType) (size : Option ℕ) (text : List ℕ) (d : Option Forest) (k : ℕ) → data_named s text ≡ d → data_size s t ≡ size → label_if_none size k ≡ []
      → label_if_short size (data_named_length s d) k ≡ [] → is_some d ≡ true → is_content (size_in_data (assembly s) t) (Some (first_bytes size (bytes_at s d))) ≡ true
  exact t None text d k found is unsized short known = absurd cc
  exact t (Some z) text None k found is unsized short known = absurd cc
  exact t (Some z) text (Some g) k found is unsized short known =
      let agrees = sizes_agree t z is in
      let asked : label_if_short (Some z) (Some (data_length s g)) k ≡ [] = ap (λ l. label_if_short (Some z) l k) (sym (named_asked text g found)) ∙ short in
      let long = ltb-false (data_length s g) z (if_no_label (nat_lt (data_length s g) z) k asked) in
      ap (λ o. is_content o (Some (take z (data_bytes s g)))) agrees.0
      ∙ (Decides-eqb (length (take z (data_bytes s g))) z).1
      (length-take-le z (data_bytes s g) (subst (λ l. z ≤ l) (sym (data_long s g)) long))

  abbrev its_type : Node → SigType
  its_type n = type_of s n.around (child (TYPE ∷ []) n.below)

  abbrev its_data : Node → Option Forest
  its_data n = data_named s (name_text s (at_token n.below))

  pub content_formed : (n : Node) → Among n (nodes s) → n.production ≡ FIELD → is_content (size_in_data (assembly s) (its_type n)) (content s (its_type n) n.below) ≡ true
  content_formed n i is = elim (cases_Bool (has AT_NAME n.below)) [
    | inr bare ↦ ap (λ (c : Bool). is_content (size_in_data (assembly s) (its_type n)) (if c then Some (first_bytes (data_size s (its_type n)) (bytes_at s (its_data n))) else None)) bare
    | inl some ↦
        let bounded = all_bounded s r.faultless in
        let chosen = of_one FIELD n.production (sym is) in
        let k = at_token n.below in
        let unsized : label_if_none (field_size s n) k ≡ [] =
        sym (ap (λ (c : Bool). if c then label_if_none (field_size s n) k else []) some)
        ∙ none_at (λ (m : Node). is_among (FIELD ∷ []) m.production) (data_unsized_of s) n (nodes s) i chosen bounded.unsized in
        let same = size_asked (its_type n) in
        let short : label_if_short (field_size s n) (data_named_length s (its_data n)) k ≡ [] =
        sym (ap (λ (c : Bool). if c then label_if_short (field_size s n) (data_named_length s (its_data n)) k else []) some)
        ∙ none_at (λ (m : Node). is_among (FIELD ∷ []) m.production) (data_too_short_of s) n (nodes s) i chosen bounded.short in
        ap (λ (c : Bool). is_content (size_in_data (assembly s) (its_type n)) (if c then Some (first_bytes (data_size s (its_type n)) (bytes_at s (its_data n))) else None)) some
        ∙ exact (its_type n) (data_size s (its_type n)) (name_text s k) (its_data n) k refl refl
        (ap (λ o. label_if_none o k) (sym same) ∙ unsized) (ap (λ o. label_if_short o (data_named_length s (its_data n)) k) (sym same) ∙ short) (label_known n i some)
  ]

pub contents_formed : DerivationsHaveBodies → (s : Source) → IsRight s → (n : Node) → Among n (nodes s) → n.production ≡ FIELD
    → is_content (size_in_data (assembly s) (type_of s n.around (child (TYPE ∷ []) n.below))) (content s (type_of s n.around (child (TYPE ∷ []) n.below)) n.below) ≡ true
contents_formed derived s r n i is = content_formed s r (all_faultless s (derived s r.read.derived).1 r.faultless) n i is
