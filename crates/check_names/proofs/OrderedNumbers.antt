-- The numbers of a source whose tokens follow one another: a lower bound stands before its upper one.
use Rattle.std.proofs.Common.{◌≡◌, ℕ, zero, suc, ◌+◌, ◌<◌, ◌≤◌, List, [], ◌∷◌, ◌++◌, length, map, ap, sym, subst, ◌∙◌, refl, arith}
use Rattle.std.specs.Prelude.{Bool, true, false, ◌==◌, if◌then◌else◌, drop, All, pos, negsuc, None, Some}
use Rattle.std.specs.List.{flat_map}
use Rattle.std.proofs.lemmas.Bool.Decides.{Decides-eqb}
use Rattle.ilasm_grammar.specs.Grammar.{rule_of}
use Rattle.ilasm_grammar.specs.Ilasm.{ilasm, rule_by}
use Rattle.ilasm_grammar.specs.declared.nonterminals.TheConstants as n
use Rattle.ilasm_grammar.specs.declared.productions.TheConstants.{BOUND_ELLIPSIS, BOUND_END, BOUND_INT, BOUND_OPT_NONE, INT_OPT_SOME, SHAPE_COMMA, TYPE_SUFFIX_BRACKET}
use Rattle.ilasm_grammar.specs.declared.symbol.Symbol.TheVariants.{Terminal, Nonterminal}
use Rattle.ilasm_grammar.specs.declared.terminals.TheConstants as t
use Rattle.source_model.specs.Forest as tree
use Rattle.source_model.specs.Forest.{Forest, Part, part, parts, below_each, first_or, first_token, has, is_among, is_any_part, leaf_at, preorder, the, tokens_of}
use Rattle.source_model.specs.Nodes.{Around, Node, entered, nodes, nodes_in, nothing_around}
use Rattle.source_model.specs.OutOfRange.{barred_arguments, barred_in_property, data_too_long, number_out_of_range_at, numbers_out_of_range, param_out_of_range}
use Rattle.source_model.specs.Shapes.{Bound, bound, bounds_in, commas, dimensions, is_vector, no_bound, size_value}
use Rattle.source_model.specs.Source.{Source}
use Rattle.source_model.specs.TokenOrder.{numbers_from, StandsWithin, TokensStandInOrder}
use Rattle.source_model.specs.TypeRules.{arguments_out_of_range, array_out_of_range, bound_out_of_range, comma_past_rank, generic_number_out_of_range, index_out_of_range, number_in_type_out_of_range, parameter_flags_out_of_range, second_ellipsis, size_after_gap, shape_out_of_range, typars_out_of_range, is_within}
use Rattle.source_model.specs.Values.{int_at}
use Rattle.source_nodes.specs.Derived.{DerivationsHaveBodies, Fits, FitsBody, HasBodies, OfEach}
use Rattle.source_nodes.specs.Least.{least, sooner}
use Rattle.source_nodes.specs.Readers.{Reads}
use Rattle.source_nodes.specs.declared.reader.Reader.{Reader}
use Rattle.source_syntax.proofs.LeastLemmas.{least_append}
use Rattle.source_syntax.proofs.NameTokens.{Each, each_append, the_body}
use Rattle.source_syntax.proofs.OrderLemmas.{splits}
use Rattle.source_nodes.proofs.WrittenNames.{fits_rule}
use Rattle.check_names.specs.ArrayNumbers.{array_number, declared_number, dimension_number, number_at, number_in_type, or_else, shape_number}

-- ---- forests whose tokens follow one another

abbrev pub InOrder : Forest → Type 0
InOrder f = (at : ℕ) × (count : ℕ) × (tokens_of f ≡ numbers_from at count)

-- below a production stands its body, whose tokens follow one another
abbrev pub Placed : Source → ℕ → Forest → Type 0
Placed s p f = FitsBody s p f × InOrder f

all_placed : (s : Source) (f : Forest) (at count : ℕ) → tokens_of f ≡ numbers_from at count → HasBodies s f → OfEach (Placed s) f
all_placed s tree.none at count e h = tt
all_placed s (tree.leaf k a) at zero e h = absurd cc
all_placed s (tree.leaf k a) at (suc count) e h = let rest : tokens_of a ≡ numbers_from (suc at) count = cc in all_placed s a (suc at) count rest h
all_placed s (tree.branch p b a) at count e h =
    let split = splits (tokens_of b) (tokens_of a) at count e in (
      (h.0, (at, length (tokens_of b), split.front)),
      all_placed s b at (length (tokens_of b)) split.front h.1,
      all_placed s a (at + length (tokens_of b)) (length (tokens_of a)) split.back h.2,
    )

-- what holds of each production of a forest holds of its nodes, and of its parts
module _ (P : ℕ → Forest → Type 0) where
  nodes_each : (s : Source) (a : Around) (f : Forest) → OfEach P f → Each (λ (n : Node). P n.production n.below × OfEach P n.below) (nodes_in s a f)
  nodes_each s a tree.none h = tt
  nodes_each s a (tree.leaf k g) h = nodes_each s a g h
  nodes_each s a (tree.branch p b g) h =
      each_append (λ (n : Node). P n.production n.below × OfEach P n.below)
      (record { production = p; below = b; around = entered s a p b } ∷ nodes_in s (entered s a p b) b) (nodes_in s a g)
      ((h.0, h.1), nodes_each s (entered s a p b) b h.1) (nodes_each s a g h.2)

  parts_each : (sought : List ℕ) (f : Forest) → OfEach P f → Each (λ (x : Part). P x.production x.below × OfEach P x.below) (parts sought f)
  parts_each sought tree.none h = tt
  parts_each sought (tree.leaf k a) h = parts_each sought a h
  parts_each sought (tree.branch p b a) h =
      each_append (λ (x : Part). P x.production x.below × OfEach P x.below) (if is_among sought p then part p b ∷ [] else parts sought b) (parts sought a)
      (go (is_among sought p) (parts_each sought b h.1)) (parts_each sought a h.2)
    where
      go : (c : Bool) → Each (λ (x : Part). P x.production x.below × OfEach P x.below) (parts sought b)
          → Each (λ (x : Part). P x.production x.below × OfEach P x.below) (if c then part p b ∷ [] else parts sought b)
      go true inner = ((h.0, h.1), tt)
      go false inner = inner

placed_bodies : (s : Source) (f : Forest) → OfEach (Placed s) f → HasBodies s f
placed_bodies s tree.none h = tt
placed_bodies s (tree.leaf k a) h = placed_bodies s a h
placed_bodies s (tree.branch p b a) h = (h.0.0, placed_bodies s b h.1, placed_bodies s a h.2)

-- ---- a lower bound stands before its upper one

rule_bound : ilasm BOUND_INT ≡ Some (rule_of n.BOUND (Terminal t.INT ∷ Nonterminal n.BOUND_END_OPT ∷ []))
unfolding ilasm rule_by
rule_bound = refl

rule_upper : ilasm INT_OPT_SOME ≡ Some (rule_of n.INT_OPT (Terminal t.INT ∷ []))
unfolding ilasm rule_by
rule_upper = refl

first_is : (s : Source) (f : Forest) (at count : ℕ) → FitsBody s BOUND_INT f → tokens_of f ≡ numbers_from at count → leaf_at 0 f ≡ at
first_is s f at count h e = go f (fits_rule s BOUND_INT n.BOUND (Terminal t.INT ∷ Nonterminal n.BOUND_END_OPT ∷ []) f rule_bound h) count e
  where
    go : (g : Forest) → Fits s (Terminal t.INT ∷ Nonterminal n.BOUND_END_OPT ∷ []) g → (many : ℕ) → tokens_of g ≡ numbers_from at many → leaf_at 0 g ≡ at
    go tree.none i many same = absurd i
    go (tree.branch p b a) i many same = absurd i
    go (tree.leaf k a) i zero same = absurd cc
    go (tree.leaf k a) i (suc many) same = cc

only_token : (s : Source) (f : Forest) → FitsBody s INT_OPT_SOME f → (0 < length (tokens_of f)) × (first_token f ≡ leaf_at 0 f)
only_token s f h = go f (fits_rule s INT_OPT_SOME n.INT_OPT (Terminal t.INT ∷ []) f rule_upper h)
  where
    go : (g : Forest) → Fits s (Terminal t.INT ∷ []) g → (0 < length (tokens_of g)) × (first_token g ≡ leaf_at 0 g)
    go tree.none i = absurd i
    go (tree.branch p b a) i = absurd i
    go (tree.leaf k tree.none) i = (omega arith, refl)
    go (tree.leaf k (tree.leaf l a)) i = absurd i.1
    go (tree.leaf k (tree.branch p b a)) i = absurd i.1

first_within : (s : Source) (at end : ℕ) (ps : List Part) → All (StandsWithin at end) ps → is_any_part ps ≡ true
    → FitsBody s INT_OPT_SOME (first_or tree.none (below_each ps)) → at ≤ leaf_at 0 (first_or tree.none (below_each ps))
first_within s at end [] h some fits = absurd cc
first_within s at end (p ∷ ps) h some fits =
    let only = only_token s p.below fits in
    let within = h 0 p (omega arith) only.0 in
    subst (λ k. at ≤ k) only.1 within.0

module _ (order : TokensStandInOrder) (s : Source) where
  lower_first : (f : Forest) → Placed s BOUND_INT f → OfEach (Placed s) f → has INT_OPT_SOME f ≡ true → leaf_at 0 f ≤ leaf_at 0 (the INT_OPT_SOME f)
  lower_first f h each some =
      let o = h.1 in
      let first = first_is s f o.0 o.1 h.0 o.2 in
      let upper = first_within s o.0 (o.0 + o.1) (parts (INT_OPT_SOME ∷ []) f) (order.within [] (INT_OPT_SOME ∷ []) f o.0 o.1 o.2) some
      (the_body s INT_OPT_SOME f some (placed_bodies s f each)).0 in
      subst (λ k. k ≤ leaf_at 0 (the INT_OPT_SOME f)) (sym first) upper

  -- so of both bounds the lower one is the first to be out of its range
  abbrev Same : Bound → Type 0
  Same b = least (dimension_number s b) ≡ least (bound_out_of_range s b)

  one_token : (c : Bool) (l : ℕ) → least (or_else (if c then [] else l ∷ []) []) ≡ least ((if c then [] else l ∷ []) ++ [])
  one_token true l = refl
  one_token false l = refl

  two_tokens : (c d : Bool) (l k : ℕ) → l ≤ k
      → least (or_else (if c then [] else l ∷ []) (if d then [] else k ∷ [])) ≡ least ((if c then [] else l ∷ []) ++ (if d then [] else k ∷ []))
  two_tokens true d l k less = refl
  two_tokens false true l k less = refl
  two_tokens false false l k less = grind arith

  same_bound : (p : Part) → Placed s p.production p.below × OfEach (Placed s) p.below → Same (bound p)
  same_bound p h = at_int (p.production == BOUND_INT) refl
    where
      f : Forest
      f = p.below

      with_upper : (c : Bool) → has INT_OPT_SOME f ≡ c → p.production ≡ BOUND_INT
          → Same (if c then record { lower = Some (leaf_at 0 f); size = Some (leaf_at 0 (the INT_OPT_SOME f)) } else record { lower = Some (leaf_at 0 f); size = None })
      with_upper true e is =
          let l = leaf_at 0 f in
          let k = leaf_at 0 (the INT_OPT_SOME f) in
          two_tokens (is_within (negsuc 0xFFFFFFF) (pos 0xFFFFFFF) (int_at s l)) (is_within (pos 0) (pos 0x1FFFFFFF) (size_value s (Some l) k)) l k
          (lower_first f (subst (λ q. Placed s q f) is h.0) h.1 e)
      with_upper false e is = one_token (is_within (negsuc 0xFFFFFFF) (pos 0xFFFFFFF) (int_at s (leaf_at 0 f))) (leaf_at 0 f)

      with_end : (c : Bool) → has BOUND_END f ≡ c → p.production ≡ BOUND_INT
          → Same (if c then
          (if has INT_OPT_SOME f then record { lower = Some (leaf_at 0 f); size = Some (leaf_at 0 (the INT_OPT_SOME f)) } else record { lower = Some (leaf_at 0 f); size = None })
          else record { lower = None; size = Some (leaf_at 0 f) })
      with_end true e is = with_upper (has INT_OPT_SOME f) refl is
      with_end false e is = refl

      at_int : (c : Bool) → (p.production == BOUND_INT) ≡ c
          → Same (if c then
          (if has BOUND_END f then
          (if has INT_OPT_SOME f then record { lower = Some (leaf_at 0 f); size = Some (leaf_at 0 (the INT_OPT_SOME f)) } else record { lower = Some (leaf_at 0 f); size = None })
          else record { lower = None; size = Some (leaf_at 0 f) })
          else record { lower = None; size = None })
      at_int true e = with_end (has BOUND_END f) refl ((Decides-eqb p.production BOUND_INT).0 e)
      at_int false e = refl

  -- ---- all bounds of a shape

  same_least : {X : Type 0} (f g : X → List ℕ) (xs : List X) → Each (λ (x : X). least (f x) ≡ least (g x)) xs → least (flat_map f xs) ≡ least (flat_map g xs)
  same_least f g [] h = refl
  same_least f g (x ∷ xs) h =
      least_append (f x) (flat_map f xs) ∙ ap (λ o. sooner o (least (flat_map f xs))) h.0 ∙ ap (sooner (least (g x))) (same_least f g xs h.1)
      ∙ sym (least_append (g x) (flat_map g xs))

  each_bound : (ps : List Part) → Each (λ (p : Part). Placed s p.production p.below × OfEach (Placed s) p.below) ps → Each Same (map bound ps)
  each_bound [] h = tt
  each_bound (p ∷ ps) h = (same_bound p h.0, each_bound ps h.1)

  same_bounds : (f : Forest) → OfEach (Placed s) f → least (flat_map (dimension_number s) (dimensions f)) ≡ least (flat_map (bound_out_of_range s) (dimensions f))
  same_bounds f h =
      same_least (dimension_number s) (bound_out_of_range s) (dimensions f)
      (go (has SHAPE_COMMA f) (each_bound (parts (BOUND_OPT_NONE ∷ BOUND_ELLIPSIS ∷ BOUND_INT ∷ []) f) (parts_each (Placed s) (BOUND_OPT_NONE ∷ BOUND_ELLIPSIS ∷ BOUND_INT ∷ []) f h)))
    where
      go : (c : Bool) → Each Same (bounds_in f) → Each Same (if c then no_bound ∷ bounds_in f else bounds_in f)
      go true rest = (refl, rest)
      go false rest = rest

  -- ---- lists in which one part has the same least token

  same_front : (xs ys zs : List ℕ) → least xs ≡ least ys → least (xs ++ zs) ≡ least (ys ++ zs)
  same_front xs ys zs e = least_append xs zs ∙ ap (λ o. sooner o (least zs)) e ∙ sym (least_append ys zs)

  same_back : (xs ys zs : List ℕ) → least ys ≡ least zs → least (xs ++ ys) ≡ least (xs ++ zs)
  same_back xs ys zs e = least_append xs ys ∙ ap (sooner (least xs)) e ∙ sym (least_append xs zs)

  same_shape : (f : Forest) → OfEach (Placed s) f → least (shape_number s f) ≡ least (shape_out_of_range s f)
  same_shape f h = go (is_vector f)
    where
      gaps : List ℕ
      gaps = size_after_gap (dimensions f)

      past : List ℕ
      past = comma_past_rank (drop 31 (commas s f))

      go : (c : Bool) → least (if c then [] else flat_map (dimension_number s) (dimensions f) ++ gaps ++ past)
          ≡ least (if c then [] else flat_map (bound_out_of_range s) (dimensions f) ++ gaps ++ past)
      go true = refl
      go false =
          let before = flat_map (dimension_number s) (dimensions f) in
          let after = flat_map (bound_out_of_range s) (dimensions f) in
          same_front (before ++ gaps) (after ++ gaps) past (same_front before after gaps (same_bounds f h))

  same_array : (n : Node) → OfEach (Placed s) n.below → least (array_number s n) ≡ least (array_out_of_range s n)
  same_array n h = go (n.production == TYPE_SUFFIX_BRACKET)
    where
      go : (c : Bool) → least (if c then shape_number s n.below else []) ≡ least (if c then shape_out_of_range s n.below else [])
      go true = same_shape n.below h
      go false = refl

  same_in_type : (n : Node) → OfEach (Placed s) n.below → least (number_in_type s n) ≡ least (number_in_type_out_of_range s n)
  same_in_type n h =
      let index = index_out_of_range s n in
      let generic = generic_number_out_of_range s n in
      let arguments = arguments_out_of_range n in
      let ellipsis = second_ellipsis n in
      let a = array_number s n in
      let b = array_out_of_range s n in
      same_front (index ++ a ++ generic ++ arguments ++ ellipsis) (index ++ b ++ generic ++ arguments ++ ellipsis) (parameter_flags_out_of_range s n)
      (same_front (index ++ a ++ generic ++ arguments) (index ++ b ++ generic ++ arguments) ellipsis
      (same_front (index ++ a ++ generic) (index ++ b ++ generic) arguments
      (same_front (index ++ a) (index ++ b) generic (same_back index a b (same_array n h)))))

  same_number : (n : Node) → OfEach (Placed s) n.below → least (number_at s n) ≡ least (number_out_of_range_at s n)
  same_number n h =
      let before = declared_number s n ++ data_too_long s n ++ param_out_of_range s n ++ barred_arguments n ++ barred_in_property n in
      same_front (before ++ number_in_type s n) (before ++ number_in_type_out_of_range s n) (typars_out_of_range n)
      (same_back before (number_in_type s n) (number_in_type_out_of_range s n) (same_in_type n h))

  each_number : (ns : List Node) → Each (λ (n : Node). Placed s n.production n.below × OfEach (Placed s) n.below) ns
      → Each (λ (n : Node). least (number_at s n) ≡ least (number_out_of_range_at s n)) ns
  each_number [] h = tt
  each_number (n ∷ ns) h = (same_number n h.0.1, each_number ns h.1)

  -- in a source that is read
  pub same_numbers : (r : Reader) → Reads r s → DerivationsHaveBodies → least (flat_map (number_at s) (nodes s)) ≡ least (numbers_out_of_range s)
  unfolding nodes
  same_numbers r reads bodies =
      let d = reads.derived in
      let tokens = order.consecutive _ 0 _ _ (preorder s.tree) s.tree d refl in
      same_least (number_at s) (number_out_of_range_at s) (nodes_in s nothing_around s.tree)
      (each_number (nodes_in s nothing_around s.tree)
      (nodes_each (Placed s) s nothing_around s.tree (all_placed s s.tree 0 _ tokens (bodies s d).1)))
