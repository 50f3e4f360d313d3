-- No field and no event of a faultless source is declared twice (ECMA-335 II.22.13, II.22.15).
use Rattle.std.proofs.Common.{◌≤◌, Option, None, Some, drop_of_length-le, ◌≡◌, ℕ, ◌⊎◌, inl, inr, List, [], ◌∷◌, ◌++◌, cond, length, map, refl, ap, sym, subst, ◌∙◌}
use lib.Pointwise.{pointwise}
use Rattle.type_terms.specs.declared.reference.MethodSig.{MethodSig}
use Rattle.std.proofs.lemmas.Bool.Decides.{Decides-eqb}
use Rattle.source_syntax.proofs.TypeWalks.{flipped}
use Rattle.std.specs.Bool.{beq}
use Rattle.std.specs.Prelude.{Bool, true, false, not, ◌==◌, ◌||◌, ◌&&◌, if◌then◌else◌, bytes_eq, filter, take_while}
use Rattle.std.specs.List.{AllByRecursion, flat_map, list_any}
use Rattle.std.specs.Cmp.{IsTotalOrder}
use Rattle.std.specs.Ordering.{is_eq, ordering_reverse}
use Rattle.std.specs.declared.cmp.Ordering.{Ordering}
use Rattle.std.specs.declared.cmp.Ordering.TheVariants.{Less, Equal, Greater}
use Rattle.std.proofs.lemmas.Bool.{and_from, and_parts, cases_Bool}
use Rattle.type_terms.specs.Order.{term_order}
use Rattle.type_terms.specs.declared.term.SigType.{SigType}
use Rattle.type_terms.specs.Same as terms
use Rattle.assembly_tree.specs.WellFormedMembers as formed
use Rattle.assembly_tree.specs.WellFormedMembers.{is_same_signature, is_same_text, is_same_type}
use Rattle.assembly_tree.specs.WellFormedNames.{all_differ}
use Rattle.ilasm_grammar.specs.declared.productions.TheConstants.{DEF_ARGS_OPT_SOME, FIELD, SIGNATURE, TYPE}
use Rattle.source_model.specs.DeclaredTwice.{events_twice, field_forests, fields_twice, is_same_event, is_same_field, is_same_method, is_same_property, method_token, methods_twice, properties_twice, repeats, repeats_after, signature_of}
use Rattle.source_model.specs.Forest.{Forest, Part, none, leaf, branch, child, chosen, is_among, the}
use Rattle.source_model.specs.Items.{Run, is_custom, runs}
use Rattle.source_model.specs.Members.{event, events, events_in, field, field_token, fields, in_method, is_field_part, method, method_forests, methods, properties, properties_in, property, property_token}
use Rattle.source_model.specs.Nodes.{Around, Node, entered, nodes, nodes_in, typars}
use Rattle.source_model.specs.OutOfRange.{barred_arguments, barred_in_property, class_too_deep, constant_out_of_range, data_number_out_of_range, data_too_long, flags_out_of_range, layout_number_out_of_range, manifest_number_out_of_range, number_out_of_range_at, param_out_of_range}
use Rattle.source_model.specs.References.{method_name, property_signature}
use Rattle.source_model.specs.Signatures.{is_field_unbroken, is_method_unbroken, is_property_unbroken, not_in_property}
use Rattle.source_model.specs.Source.{Source}
use Rattle.source_model.specs.TypeRules.{are_unbroken, breaks_signature, first_of, is_nothing, number_in_signature_out_of_range, number_in_type_out_of_range, parameter_flags_out_of_range, past_count, path_too_long, scope_undeclared, typar_undeclared, typars_out_of_range, type_too_deep, type_undeclared}
use Rattle.source_model.specs.Types.{type_of}
use Rattle.source_model.specs.Undeclared.{param_type_undeclared}
use Rattle.source_model.specs.Values.{name_text}
use Rattle.source_syntax.proofs.ScopeLemmas.{either_way}
use Rattle.laws_formed_sources.specs.sources.Remaining.{Among}
use Rattle.laws_formed_sources.proofs.sources.Members.{In, in_back, in_front}
use Rattle.laws_formed_sources.proofs.sources.Occurring.{Occurs, among_back, among_front}
use Rattle.laws_formed_sources.proofs.sources.Repeats.{any_of, no_map}
use Rattle.laws_formed_sources.proofs.sources.Unbroken.{AllBounded, AllDeclared, empty_in}

-- ---- lists that differ

module _ {X Z : Type 0} (same : X → X → Bool) (test : Z → Z → Bool) (h : X → Z) (back : (x y : X) → test (h x) (h y) ≡ true → same y x ≡ true) where
  record Differ (before xs : List X) : Type 0 where
    sides : (x : X) → In x before → list_any (test (h x)) (map h xs) ≡ true → ⊥
    own : all_differ test (map h xs) ≡ true

  fresh : (before : List X) (x : X) (xs : List X) → repeats_after same before (x ∷ xs) ≡ []
      → (list_any (same x) before ≡ false) × (repeats_after same (before ++ x ∷ []) xs ≡ [])
  fresh before x xs e = go (list_any (same x) before) refl
    where
      go : (c : Bool) → list_any (same x) before ≡ c → (list_any (same x) before ≡ false) × (repeats_after same (before ++ x ∷ []) xs ≡ [])
      go true is =
          let n : x ∷ repeats_after same (before ++ x ∷ []) xs ≡ [] =
          sym (ap (λ (c : Bool). (if c then x ∷ [] else []) ++ repeats_after same (before ++ x ∷ []) xs) is) ∙ e in
          absurd cc
      go false other = (other, sym (ap (λ (c : Bool). (if c then x ∷ [] else []) ++ repeats_after same (before ++ x ∷ []) xs) other) ∙ e)

  side : (before : List X) (x : X) (xs : List X) → list_any (same x) before ≡ false → Differ (before ++ x ∷ []) xs → (y : X) → In y before → list_any (test (h y)) (map h (x ∷ xs)) ≡ true → ⊥
  side before x xs other more y i e = elim (cases_Bool (test (h y) (h x))) [
    | inl is ↦ let n : list_any (same x) before ≡ true = any_of (same x) before y i (back y x is) in absurd cc
    | inr apart ↦ more.sides y (in_front y before (x ∷ []) i) (sym (ap (λ (c : Bool). c || list_any (test (h y)) (map h xs)) apart) ∙ e)
  ]

  differ_after : (before xs : List X) → repeats_after same before xs ≡ [] → Differ before xs
  differ_after before [] e = record { sides = λ x i n. absurd cc; own = refl }
  differ_after before (x ∷ xs) e =
      let f = fresh before x xs e in
      let more = differ_after (before ++ x ∷ []) xs f.1 in
      record {
        sides = side before x xs f.0 more;
        own = and_from (not (list_any (test (h x)) (map h xs))) (all_differ test (map h xs)) (none_such (more.sides x (in_back x before (x ∷ []) (inl refl)))) more.own;
      }
    where
      none_such : (list_any (test (h x)) (map h xs) ≡ true → ⊥) → not (list_any (test (h x)) (map h xs)) ≡ true
      none_such absent = elim (cases_Bool (list_any (test (h x)) (map h xs))) [
        | inl is ↦ absurd (absent is)
        | inr other ↦ ap (λ c. not c) other
      ]

  pub differ_all : (xs : List X) → repeats same xs ≡ [] → all_differ test (map h xs) ≡ true
  differ_all xs e = (differ_after [] xs e).own

any_mapped : {X Y Z : Type 0} (same : Y → Bool) (test : Z → Bool) (g : X → Y) (h : X → Z) → ((x : X) → same (g x) ≡ test (h x)) → (xs : List X) → list_any same (map g xs) ≡ list_any test (map h xs)
any_mapped same test g h step [] = refl
any_mapped same test g h step (x ∷ xs) = ap (λ c. c || list_any same (map g xs)) (step x) ∙ ap (λ c. test (h x) || c) (any_mapped same test g h step xs)

differ_mapped : {X Y Z : Type 0} (same : Y → Y → Bool) (test : Z → Z → Bool) (g : X → Y) (h : X → Z) → ((x y : X) → same (g x) (g y) ≡ test (h x) (h y)) → (xs : List X)
    → all_differ same (map g xs) ≡ all_differ test (map h xs)
differ_mapped same test g h step [] = refl
differ_mapped same test g h step (x ∷ xs) =
    ap (λ c. not c && all_differ same (map g xs)) (any_mapped (same (g x)) (test (h x)) g h (step x) xs)
    ∙ ap (λ c. not (list_any (test (h x)) (map h xs)) && c) (differ_mapped same test g h step xs)

filter_all : {X : Type 0} (test : X → Bool) (xs : List X) → AllByRecursion (λ x. test x ≡ true) xs → filter test xs ≡ xs
filter_all test [] h = refl
filter_all test (x ∷ xs) h = ap (λ (c : Bool). cond c (x ∷ filter test xs) (filter test xs)) h.0 ∙ ap (λ ys. x ∷ ys) (filter_all test xs h.1)

same_map : {X : Type 0} (xs : List X) → map (λ x. x) xs ≡ xs
same_map [] = refl
same_map (x ∷ xs) = ap (λ ys. x ∷ ys) (same_map xs)

-- ---- signatures that break nothing

nothing_at : {X Y : Type 0} (g : X → List Y) (q : X) (xs : List X) → Among q xs → flat_map g xs ≡ [] → g q ≡ []
nothing_at g q [] h e = absurd h
nothing_at g q (x ∷ xs) (inl is) e = subst (λ y. g y ≡ []) is (empty_in (g x) (flat_map g xs) e).0
nothing_at g q (x ∷ xs) (inr h) e = nothing_at g q xs h (empty_in (g x) (flat_map g xs) e).1

nothing_all : {X Y : Type 0} (g : X → List Y) (xs : List X) → ((x : X) → Among x xs → g x ≡ []) → flat_map g xs ≡ []
nothing_all g [] h = refl
nothing_all g (x ∷ xs) h = ap (λ ys. ys ++ flat_map g xs) (h x (inl refl)) ∙ nothing_all g xs (λ y i. h y (inr i))

among_either : {X : Type 0} (q : X) (xs ys : List X) → Among q (xs ++ ys) → Among q xs ⊎ Among q ys
among_either q [] ys h = inr h
among_either q (x ∷ xs) ys (inl e) = inl (inl e)
among_either q (x ∷ xs) ys (inr h) = elim (among_either q xs ys h) [ inl i ↦ inl (inr i) | inr i ↦ inr i ]

both_empty : (xs ys : List ℕ) → xs ≡ [] → ys ≡ [] → xs ++ ys ≡ []
both_empty xs ys e f = ap (λ x. x ++ ys) e ∙ f

module _ (s : Source) (declared : AllDeclared s) (bounded : AllBounded s) where
  breaks_nothing : (n : Node) → Among n (nodes s) → breaks_signature s n ≡ []
  breaks_nothing n here =
      let all = nothing_at (number_out_of_range_at s) n (nodes s) here bounded.numbers in
      let front =
      manifest_number_out_of_range s n ++ flags_out_of_range s n ++ constant_out_of_range s n ++ layout_number_out_of_range s n
      ++ data_number_out_of_range s n ++ data_too_long s n ++ param_out_of_range s n ++ barred_arguments n ++ barred_in_property n in
      let numbers = (empty_in front (number_in_type_out_of_range s n) (empty_in (front ++ number_in_type_out_of_range s n) (typars_out_of_range n) all).0).1 in
      let types = nothing_at (type_undeclared s) n (nodes s) here declared.types in
      let scopes = nothing_at (scope_undeclared s) n (nodes s) here declared.scopes in
      let typars = nothing_at (typar_undeclared s) n (nodes s) here (empty_in (flat_map (typar_undeclared s) (nodes s)) (flat_map (param_type_undeclared s) (nodes s)) declared.typars).0 in
      let deep = nothing_at (type_too_deep s) n (nodes s) here bounded.types in
      let paths = nothing_at path_too_long n (nodes s) here (empty_in (flat_map class_too_deep (nodes s)) (flat_map path_too_long (nodes s)) bounded.nestings).1 in
      let t = type_undeclared s n in
      let c = scope_undeclared s n in
      let v = typar_undeclared s n in
      let k = number_in_signature_out_of_range s n in
      let d = type_too_deep s n in
      both_empty (t ++ c ++ v ++ k ++ d) (path_too_long n)
      (both_empty (t ++ c ++ v ++ k) d (both_empty (t ++ c ++ v) k (both_empty (t ++ c) v (both_empty t c types scopes) typars) (empty_in k (parameter_flags_out_of_range s n) numbers).0) deep) paths

  pub unbroken : (c : Around) (f : Forest) → Occurs s c f → are_unbroken s (nodes_in s c f) ≡ true
  unbroken c f occurs = ap is_nothing (nothing_all (breaks_signature s) (nodes_in s c f) (λ n i. breaks_nothing n (occurs n i)))

  chosen_within : (c : Around) (sought : List ℕ) (f : Forest) (n : Node) → Among n (nodes_in s c (chosen sought f)) → Among n (nodes_in s c f)
  chosen_within c sought none n i = i
  chosen_within c sought (leaf k f) n i = chosen_within c sought f n i
  chosen_within c sought (branch p b f) n i = elim (cases_Bool (is_among sought p)) [
    | inl is ↦
        let own : List Node = record { production = p; below = b; around = entered s c p b } ∷ nodes_in s (entered s c p b) b in
        elim (among_either n own (nodes_in s c (chosen sought f))
        (subst (λ (x : Bool). Among n (nodes_in s c (if x then branch p b (chosen sought f) else chosen sought f))) is i)) [
          | inl j ↦ among_front n own (nodes_in s c f) j
          | inr j ↦ among_back n own (nodes_in s c f) (chosen_within c sought f n j)
        ]
    | inr other ↦
        among_back n (record { production = p; below = b; around = entered s c p b } ∷ nodes_in s (entered s c p b) b) (nodes_in s c f)
        (chosen_within c sought f n (subst (λ (x : Bool). Among n (nodes_in s c (if x then branch p b (chosen sought f) else chosen sought f))) other i))
  ]

  pub field_unbroken : (c : Around) (f : Forest) → Occurs s c f → is_field_unbroken s c f ≡ true
  field_unbroken c f occurs = unbroken c (chosen (TYPE ∷ []) f) (λ n i. occurs n (chosen_within c (TYPE ∷ []) f n i))

  pub method_unbroken : (c : Around) (f : Forest) → Occurs s (in_method c f) f → length (typars f) ≤ 65535 → is_method_unbroken s c f ≡ true
  method_unbroken c f occurs few =
      let sought = TYPE ∷ DEF_ARGS_OPT_SOME ∷ [] in
      and_from (are_unbroken s (nodes_in s (in_method c f) (chosen sought f))) (is_nothing (past_count (typars f)))
      (unbroken (in_method c f) (chosen sought f) (λ n i. occurs n (chosen_within (in_method c f) sought f n i)))
      (ap (λ fs. is_nothing (first_of fs)) (drop_of_length-le (typars f) few))

  pub property_unbroken : (c : Around) (f : Forest) → Occurs s c f → not_in_property f ≡ [] → is_property_unbroken s c f ≡ true
  property_unbroken c f occurs e =
      let sought = TYPE ∷ SIGNATURE ∷ [] in
      and_from (are_unbroken s (nodes_in s c (chosen sought f))) (is_nothing (not_in_property f))
      (unbroken c (chosen sought f) (λ n i. occurs n (chosen_within c sought f n i))) (ap is_nothing e)

-- ---- fields

module _ (total : IsTotalOrder term_order) (s : Source) (a : Around) where
  reversed : (o : Ordering) → is_eq (ordering_reverse o) ≡ is_eq o
  reversed Less = refl
  reversed Equal = refl
  reversed Greater = refl

  type_turned : (x y : SigType) → is_same_type x y ≡ is_same_type y x
  type_turned x y = ap is_eq (total.antisymm x y) ∙ reversed (term_order y x)

  abbrev field_test : Forest → Forest → Bool
  field_test f g = is_same_text (name_text s (field_token f)) (name_text s (field_token g)) && is_same_type (type_of s a (child (TYPE ∷ []) f)) (type_of s a (child (TYPE ∷ []) g))

  field_back : (f g : Forest) → field_test f g ≡ true → is_same_field s a g f ≡ true
  field_back f g e =
      let b = and_parts (is_same_text (name_text s (field_token f)) (name_text s (field_token g))) (is_same_type (type_of s a (child (TYPE ∷ []) f)) (type_of s a (child (TYPE ∷ []) g))) e in
      and_from (bytes_eq (name_text s (field_token g)) (name_text s (field_token f))) (is_same_type (type_of s a (child (TYPE ∷ []) g)) (type_of s a (child (TYPE ∷ []) f)))
      (either_way (name_text s (field_token g)) (name_text s (field_token f)) ∙ b.0)
      (type_turned (type_of s a (child (TYPE ∷ []) g)) (type_of s a (child (TYPE ∷ []) f)) ∙ b.1)

  heads : (ps : List Part) → map (λ (r : Run). the FIELD r.head.below) (filter (λ r. is_field_part r.head) (runs ps)) ≡ field_forests ps
  heads [] = refl
  heads (p ∷ ps) = go (is_field_part p) (heads ps)
    where
      go : (c : Bool) → map (λ (r : Run). the FIELD r.head.below) (filter (λ r. is_field_part r.head) (runs ps)) ≡ field_forests ps
          → map (λ (r : Run). the FIELD r.head.below) (cond c (record { head = p; customs = take_while is_custom ps } ∷ filter (λ r. is_field_part r.head) (runs ps)) (filter (λ r. is_field_part r.head) (runs ps)))
          ≡ map (λ q. the FIELD q.below) (cond c (p ∷ filter is_field_part ps) (filter is_field_part ps))
      go true e = ap (λ fs. the FIELD p.below ∷ fs) e
      go false e = e

  field_same : (x y : Run) → formed.is_same_field (field s a x) (field s a y) ≡ field_test (the FIELD x.head.below) (the FIELD y.head.below)
  unfolding formed.is_same_field
  field_same x y = refl

  pub fields_differ : (ps : List Part) → AllByRecursion (λ f. is_field_unbroken s a f ≡ true) (field_forests ps) → fields_twice s a ps ≡ [] → all_differ formed.is_same_field (fields s a ps) ≡ true
  fields_differ ps h e =
      let once = no_map field_token (repeats (is_same_field s a) (filter (is_field_unbroken s a) (field_forests ps))) e in
      let all = ap (repeats (is_same_field s a)) (sym (filter_all (is_field_unbroken s a) (field_forests ps) h)) ∙ once in
      differ_mapped formed.is_same_field field_test (field s a) (λ (r : Run). the FIELD r.head.below) field_same (filter (λ r. is_field_part r.head) (runs ps))
      ∙ ap (all_differ field_test) (heads ps ∙ sym (same_map (field_forests ps)))
      ∙ differ_all (is_same_field s a) field_test (λ f. f) field_back (field_forests ps) all

  -- ---- events

  abbrev event_test : Forest → Forest → Bool
  event_test f g = is_same_text (name_text s (property_token f)) (name_text s (property_token g))

  event_same : (ms : List Forest) (x y : Forest) → formed.is_same_event (event s a ms x) (event s a ms y) ≡ event_test x y
  unfolding formed.is_same_event
  event_same ms x y = refl

  pub events_differ : (ps : List Part) → events_twice s ps ≡ [] → all_differ formed.is_same_event (events s a ps) ≡ true
  events_differ ps e =
      let once = no_map property_token (repeats (is_same_event s) (events_in ps)) e in
      differ_mapped formed.is_same_event event_test (event s a (method_forests ps)) (λ f. f) (event_same (method_forests ps)) (events_in ps)
      ∙ differ_all (is_same_event s) event_test (λ f. f) (λ f g i. either_way (name_text s (property_token g)) (name_text s (property_token f)) ∙ i) (events_in ps) once

  -- ---- signatures

  and_same : (x y z w : Bool) → x ≡ y → z ≡ w → (x && z) ≡ (y && w)
  and_same x y z w e f = ap (λ c. c && z) e ∙ ap (λ c. y && c) f

  bool_turned : (x y : Bool) → beq x y ≡ beq y x
  bool_turned true true = refl
  bool_turned true false = refl
  bool_turned false true = refl
  bool_turned false false = refl

  number_turned : (m n : ℕ) → (m == n) ≡ (n == m)
  number_turned m n = elim (cases_Bool (m == n)) [
    | inl is ↦ is ∙ sym ((Decides-eqb n m).1 (sym ((Decides-eqb m n).0 is)))
    | inr other ↦ other ∙ sym (flipped m n other)
  ]

  sentinel_turned : (x y : Option ℕ) → formed.is_same_sentinel x y ≡ formed.is_same_sentinel y x
  sentinel_turned None None = refl
  sentinel_turned (Some j) (Some k) = number_turned j k
  sentinel_turned None (Some k) = refl
  sentinel_turned (Some j) None = refl

  types_turned : (xs ys : List SigType) → pointwise is_same_type xs ys ≡ pointwise is_same_type ys xs
  types_turned [] [] = refl
  types_turned [] (y ∷ ys) = refl
  types_turned (x ∷ xs) [] = refl
  types_turned (x ∷ xs) (y ∷ ys) = and_same (is_same_type x y) (is_same_type y x) (pointwise is_same_type xs ys) (pointwise is_same_type ys xs) (type_turned x y) (types_turned xs ys)

  signature_turned : (x y : MethodSig) → is_same_signature x y ≡ is_same_signature y x
  unfolding terms.is_same_signature
  signature_turned x y =
      and_same _ _ (pointwise is_same_type x.params y.params) (pointwise is_same_type y.params x.params)
      (and_same _ _ (is_same_type x.ret y.ret) (is_same_type y.ret x.ret)
      (and_same _ _ (formed.is_same_sentinel x.sentinel y.sentinel) (formed.is_same_sentinel y.sentinel x.sentinel)
      (and_same _ _ (x.generic == y.generic) (y.generic == x.generic)
      (and_same _ _ (beq x.vararg y.vararg) (beq y.vararg x.vararg)
      (and_same _ _ (beq x.explicit_this y.explicit_this) (beq y.explicit_this x.explicit_this) (bool_turned x.has_this y.has_this) (bool_turned x.explicit_this y.explicit_this))
      (bool_turned x.vararg y.vararg)) (number_turned x.generic y.generic)) (sentinel_turned x.sentinel y.sentinel)) (type_turned x.ret y.ret)) (types_turned x.params y.params)

  named_turned : (v w : List ℕ) (x y : MethodSig) → (is_same_text v w && is_same_signature x y) ≡ true → (bytes_eq w v && is_same_signature y x) ≡ true
  named_turned v w x y e =
      let b = and_parts (is_same_text v w) (is_same_signature x y) e in
      and_from (bytes_eq w v) (is_same_signature y x) (either_way w v ∙ b.0) (signature_turned y x ∙ b.1)

  -- ---- methods

  abbrev method_test : Forest → Forest → Bool
  method_test f g = is_same_text (method_name s f) (method_name s g) && is_same_signature (signature_of s a f) (signature_of s a g)

  method_same : (x y : Forest) → formed.is_same_method (method s a x) (method s a y) ≡ method_test x y
  unfolding formed.is_same_method
  method_same x y = refl

  pub methods_differ : (ps : List Part) → AllByRecursion (λ f. is_method_unbroken s a f ≡ true) (method_forests ps) → methods_twice s a ps ≡ []
      → all_differ formed.is_same_method (methods s a ps) ≡ true
  methods_differ ps h e =
      let once = no_map method_token (repeats (is_same_method s a) (filter (is_method_unbroken s a) (method_forests ps))) e in
      let all = ap (repeats (is_same_method s a)) (sym (filter_all (is_method_unbroken s a) (method_forests ps) h)) ∙ once in
      differ_mapped formed.is_same_method method_test (method s a) (λ f. f) method_same (method_forests ps)
      ∙ differ_all (is_same_method s a) method_test (λ f. f) (λ f g i. named_turned (method_name s f) (method_name s g) (signature_of s a f) (signature_of s a g) i) (method_forests ps) all

  -- ---- properties

  abbrev property_test : Forest → Forest → Bool
  property_test f g = is_same_text (name_text s (property_token f)) (name_text s (property_token g)) && is_same_signature (property_signature s a f) (property_signature s a g)

  property_same : (ms : List Forest) (x y : Forest) → formed.is_same_property (property s a ms x) (property s a ms y) ≡ property_test x y
  unfolding formed.is_same_property
  property_same ms x y = refl

  pub properties_differ : (ps : List Part) → AllByRecursion (λ f. is_property_unbroken s a f ≡ true) (properties_in ps) → properties_twice s a ps ≡ []
      → all_differ formed.is_same_property (properties s a ps) ≡ true
  properties_differ ps h e =
      let once = no_map property_token (repeats (is_same_property s a) (filter (is_property_unbroken s a) (properties_in ps))) e in
      let all = ap (repeats (is_same_property s a)) (sym (filter_all (is_property_unbroken s a) (properties_in ps) h)) ∙ once in
      differ_mapped formed.is_same_property property_test (property s a (method_forests ps)) (λ f. f) (property_same (method_forests ps)) (properties_in ps)
      ∙ differ_all (is_same_property s a) property_test (λ f. f)
      (λ f g i. named_turned (name_text s (property_token f)) (name_text s (property_token g)) (property_signature s a f) (property_signature s a g) i) (properties_in ps) all
