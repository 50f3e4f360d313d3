-- The signatures that a faultless source writes are well formed (ECMA-335 II.15.3, II.23.2.1).
use Rattle.std.proofs.Common.{◌≡◌, ℕ, ◌-◌, ◌≤◌, ◌⊎◌, inl, inr, List, [], ◌∷◌, ◌++◌, Some, length, map, drop, refl, ap, sym, subst, ◌∙◌, arith, length-drop, append-nil, nat_le}
use Rattle.std.specs.Prelude.{Bool, true, false, not, ◌==◌, ◌||◌, if◌then◌else◌}
use Rattle.std.specs.List.{list_all}
use Rattle.std.proofs.lemmas.Bool.{and_from, and_parts, cases_Bool, le-leb, or_left, or_right}
use Rattle.std.proofs.lemmas.Bool.Decides.{Decides-eqb}
use Rattle.std.proofs.lemmas.List.{length-map}
use Rattle.type_terms.specs.declared.term.Primitive.TheVariants as prim
use Rattle.type_terms.specs.declared.term.SigType.{SigType, Prim}
use Rattle.type_terms.specs.Depth.{depth}
use Rattle.assembly_tree.specs.declared.assembly.Assembly.{Assembly}
use Rattle.assembly_tree.specs.WellFormedTerms.{is_count, is_declaration, is_made_well, is_property_signature, is_signature, is_type}
use Rattle.assembly_tree.proofs.FormedFacts.{signatures_named}
use Rattle.ilasm_grammar.specs.Grammar.{rule_of}
use Rattle.ilasm_grammar.specs.Ilasm.{ilasm, rule_by}
use Rattle.ilasm_grammar.specs.declared.nonterminals.TheConstants as n
use Rattle.ilasm_grammar.specs.declared.productions.TheConstants.{CALL_CONV, DEF_ARG, DEF_ARGS, DEF_ARGS_OPT_SOME, EXPLICIT_OPT_SOME, INSTANCE, INSTANCE_OPT_NONE, INSTANCE_OPT_SOME, SIGNATURE, TYPE, TYPARS, TYPARS_OPT_SOME, TYPAR}
use Rattle.ilasm_grammar.specs.declared.symbol.Symbol.TheVariants.{Nonterminal}
use Rattle.source_model.specs.Forest.{Forest, Part, none, leaf, branch, below_each, child, each, has, is_among, is_any_part, part, parts}
use Rattle.source_model.specs.Nodes.{Around, typars}
use Rattle.source_model.specs.References.{argument_types, method_signature, property_signature}
use Rattle.source_model.specs.Source.{Source}
use Rattle.source_model.specs.TypeRules.{arguments_out_of_range, array_out_of_range, first_of, generic_number_out_of_range, index_out_of_range, parameter_flags_out_of_range, past_count, second_ellipsis}
use Rattle.source_model.specs.Types.{first_type, the_type, type_of, types_in}
use Rattle.source_nodes.specs.Derived.{Fits, FitsBody, HasBodies, head_of}
use Rattle.source_syntax.specs.Places.{node_of}
use Rattle.source_syntax.proofs.ReferenceLemmas.{of_child}
use Rattle.source_syntax.proofs.TypeLemmas.{type_none}
use Rattle.source_nodes.proofs.WrittenNames.{fits_rule, one_in}
use Rattle.source_flags.proofs.FlagBounds.{child_or_none}
use Rattle.laws_formed_sources.specs.sources.Productions.{AllFaultless, IsFaultlessAt}
use Rattle.laws_formed_sources.proofs.sources.Layers.{depth-Prim, made-Prim}
use Rattle.laws_formed_sources.proofs.sources.Rules.{Stays, among_these, for_each, nowhere, stays_from}
use Rattle.laws_formed_sources.proofs.sources.Types.{bodies_of}
use Rattle.laws_formed_sources.proofs.sources.Unbroken.{empty_in}

-- ---- parts

pub below_append : (ps qs : List Part) → below_each (ps ++ qs) ≡ below_each ps ++ below_each qs
below_append [] qs = refl
below_append (x ∷ ps) qs = ap (λ fs. x.below ∷ fs) (below_append ps qs)

-- ---- counts

pub at_most : (fs : List Forest) → past_count fs ≡ [] → length fs ≤ 65535
at_most fs e = go (drop 65535 fs) refl e (length-drop 65535 fs)
  where
    go : (gs : List Forest) → drop 65535 fs ≡ gs → first_of gs ≡ [] → length (drop 65535 fs) ≡ length fs - 65535 → length fs ≤ 65535
    go [] is h l = let nothing : length (drop 65535 fs) ≡ 0 = ap length is in omega (arith, nothing, l)
    go (g ∷ gs) is h l = absurd cc

pub count_is : (k : ℕ) → k ≤ 65535 → is_count k ≡ true
count_is k h = le-leb k 65535 h

arguments_fit : (s : Source) (p : ℕ) (f : Forest) → IsFaultlessAt s p f → arguments_out_of_range (node_of p f) ≡ []
arguments_fit s p f h =
    let n = node_of p f in
    let front = index_out_of_range s n ++ array_out_of_range s n ++ generic_number_out_of_range s n in
    (empty_in front (arguments_out_of_range n)
    (empty_in (front ++ arguments_out_of_range n) (second_ellipsis n)
    (empty_in (front ++ arguments_out_of_range n ++ second_ellipsis n) (parameter_flags_out_of_range s n) h.range.types).0).0).1

pub lone_each : (r p : ℕ) (b : Forest) → (r == p) ≡ false → each r (branch p b none) ≡ each r b
lone_each r p b e =
    ap (λ (c : Bool). below_each ((if c || false then part p b ∷ [] else parts (r ∷ []) b) ++ [])) e ∙ ap below_each (append-nil (parts (r ∷ []) b))

pub few_arguments : (s : Source) (f : Forest) → (f ≡ none) ⊎ (IsFaultlessAt s SIGNATURE f × AllFaultless s f) → length (each DEF_ARG f) ≤ 65535
few_arguments s f (inl e) = let l = ap (λ g. length (each DEF_ARG g)) e in omega (arith, l)
few_arguments s f (inr h) = at_most (each DEF_ARG f) (arguments_fit s SIGNATURE f h.0)

rule_def_args_opt : ilasm DEF_ARGS_OPT_SOME ≡ Some (rule_of n.DEF_ARGS_OPT (Nonterminal n.DEF_ARGS ∷ []))
unfolding ilasm rule_by
rule_def_args_opt = refl

one_def_args : (p : ℕ) → head_of p ≡ Some n.DEF_ARGS → p ≡ DEF_ARGS
unfolding ilasm
one_def_args p e = one_in _ _ _ n.DEF_ARGS DEF_ARGS p e refl

few_def_args : (s : Source) (f : Forest) → Fits s (Nonterminal n.DEF_ARGS ∷ []) f → AllFaultless s f → length (each DEF_ARG f) ≤ 65535
few_def_args s none h all = absurd h
few_def_args s (leaf k a) h all = absurd h
few_def_args s (branch p b (leaf k a)) h all = absurd h.1
few_def_args s (branch p b (branch q c a)) h all = absurd h.1
few_def_args s (branch p b none) h all =
    subst (λ q. IsFaultlessAt s q b → length (each-of q) ≤ 65535) (sym (one_def_args p h.0))
    (λ own. let few = at_most (each DEF_ARG b) (arguments_fit s DEF_ARGS b own) in let same = ap length (lone_each DEF_ARG DEF_ARGS b refl) in omega (arith, few, same)) all.0
  where
    each-of : ℕ → List Forest
    each-of q = each DEF_ARG (branch q b none)

pub few_parameters : (s : Source) (f : Forest) → AllFaultless s f → length (each DEF_ARG (child (DEF_ARGS_OPT_SOME ∷ []) f)) ≤ 65535
few_parameters s f all = elim (child_or_none (IsFaultlessAt s) DEF_ARGS_OPT_SOME f all) [
  | inl e ↦ let l = ap (λ g. length (each DEF_ARG g)) e in omega (arith, l)
  | inr h ↦
      few_def_args s (child (DEF_ARGS_OPT_SOME ∷ []) f)
      (fits_rule s DEF_ARGS_OPT_SOME n.DEF_ARGS_OPT (Nonterminal n.DEF_ARGS ∷ []) (child (DEF_ARGS_OPT_SOME ∷ []) f) rule_def_args_opt h.0.range.fits) h.1
]

rule_typars_opt : ilasm TYPARS_OPT_SOME ≡ Some (rule_of n.TYPARS_OPT (Nonterminal n.TYPARS ∷ []))
unfolding ilasm rule_by
rule_typars_opt = refl

one_typars : (p : ℕ) → head_of p ≡ Some n.TYPARS → p ≡ TYPARS
unfolding ilasm
one_typars p e = one_in _ _ _ n.TYPARS TYPARS p e refl

few_in_typars : (s : Source) (f : Forest) → Fits s (Nonterminal n.TYPARS ∷ []) f → AllFaultless s f → length (each TYPAR f) ≤ 65535
few_in_typars s none h all = absurd h
few_in_typars s (leaf k a) h all = absurd h
few_in_typars s (branch p b (leaf k a)) h all = absurd h.1
few_in_typars s (branch p b (branch q c a)) h all = absurd h.1
few_in_typars s (branch p b none) h all =
    subst (λ q. IsFaultlessAt s q b → length (each-of q) ≤ 65535) (sym (one_typars p h.0))
    (λ own. let few = at_most (each TYPAR b) own.typars in let same = ap length (lone_each TYPAR TYPARS b refl) in omega (arith, few, same)) all.0
  where
    each-of : ℕ → List Forest
    each-of q = each TYPAR (branch q b none)

pub few_typars : (s : Source) (f : Forest) → AllFaultless s f → length (typars f) ≤ 65535
few_typars s f all = elim (child_or_none (IsFaultlessAt s) TYPARS_OPT_SOME f all) [
  | inl e ↦ let l = ap (λ g. length (each TYPAR g)) e in omega (arith, l)
  | inr h ↦
      few_in_typars s (child (TYPARS_OPT_SOME ∷ []) f)
      (fits_rule s TYPARS_OPT_SOME n.TYPARS_OPT (Nonterminal n.TYPARS ∷ []) (child (TYPARS_OPT_SOME ∷ []) f) rule_typars_opt h.0.range.fits) h.1
]

-- ---- `explicit` stands only behind `instance`

rule_conv : ilasm CALL_CONV ≡ Some (rule_of n.CALL_CONV (Nonterminal n.INSTANCE_OPT ∷ Nonterminal n.CALL_KIND_OPT ∷ []))
unfolding ilasm rule_by
rule_conv = refl

rule_instance_opt : ilasm INSTANCE_OPT_SOME ≡ Some (rule_of n.INSTANCE_OPT (Nonterminal n.INSTANCE ∷ []))
unfolding ilasm rule_by
rule_instance_opt = refl

rule_no_instance : ilasm INSTANCE_OPT_NONE ≡ Some (rule_of n.INSTANCE_OPT [])
unfolding ilasm rule_by
rule_no_instance = refl

one_instance : (p : ℕ) → head_of p ≡ Some n.INSTANCE → p ≡ INSTANCE
unfolding ilasm
one_instance p e = one_in _ _ _ n.INSTANCE INSTANCE p e refl

instance_opts : (p : ℕ) → head_of p ≡ Some n.INSTANCE_OPT → is_among (INSTANCE_OPT_SOME ∷ INSTANCE_OPT_NONE ∷ []) p ≡ true
unfolding ilasm
instance_opts p e = among_these _ _ _ n.INSTANCE_OPT (INSTANCE_OPT_SOME ∷ INSTANCE_OPT_NONE ∷ []) p e refl

head_explicit : head_of EXPLICIT_OPT_SOME ≡ Some n.EXPLICIT_OPT
unfolding ilasm rule_by
head_explicit = refl

abbrev in_kind : ℕ → Bool
in_kind m = m == n.CALL_KIND_OPT || m == n.CALL_KIND

kind_stays : Stays in_kind
unfolding ilasm
kind_stays p r is c = stays_from in_kind _ _ _ p r is c refl

module _ (s : Source) where
  -- in a forest `explicit` stands only where `instance` does
  abbrev Explicit : Forest → Type 0
  Explicit f = (not (has EXPLICIT_OPT_SOME f) || has INSTANCE f) ≡ true

  has_instance : (f : Forest) → has INSTANCE f ≡ true → Explicit f
  has_instance f e = or_right (not (has EXPLICIT_OPT_SOME f)) (has INSTANCE f) e

  no_explicit : (f : Forest) → parts (EXPLICIT_OPT_SOME ∷ []) f ≡ [] → Explicit f
  no_explicit f e = or_left (not (has EXPLICIT_OPT_SOME f)) (has INSTANCE f) (ap (λ ps. not (is_any_part ps)) e)

  found : (b a : Forest) → Fits s (Nonterminal n.INSTANCE ∷ []) b → has INSTANCE (branch INSTANCE_OPT_SOME b a) ≡ true
  found none a h = absurd h
  found (leaf k c) a h = absurd h
  found (branch p b c) a h = subst (λ q. has INSTANCE (branch INSTANCE_OPT_SOME (branch q b c) a) ≡ true) (sym (one_instance p h.0)) refl

  conv_explicit : (f : Forest) → Fits s (Nonterminal n.INSTANCE_OPT ∷ Nonterminal n.CALL_KIND_OPT ∷ []) f → HasBodies s f → Explicit f
  conv_explicit none h bodies = absurd h
  conv_explicit (leaf k a) h bodies = absurd h
  conv_explicit (branch p b a) h bodies =
      for_each Q (INSTANCE_OPT_SOME ∷ INSTANCE_OPT_NONE ∷ []) (
        (λ fits. has_instance (branch INSTANCE_OPT_SOME b a) (found b a (fits_rule s INSTANCE_OPT_SOME n.INSTANCE_OPT (Nonterminal n.INSTANCE ∷ []) b rule_instance_opt fits))),
        (
          (λ fits. no_explicit (branch INSTANCE_OPT_NONE b a)
              (ap (λ ps. ps ++ parts (EXPLICIT_OPT_SOME ∷ []) a) (empty b (fits_rule s INSTANCE_OPT_NONE n.INSTANCE_OPT [] b rule_no_instance fits))
              ∙ nowhere in_kind kind_stays s EXPLICIT_OPT_SOME n.EXPLICIT_OPT head_explicit refl a (Nonterminal n.CALL_KIND_OPT ∷ []) h.1 bodies.2 refl)),
          tt,
        ),
      )
      p (instance_opts p h.0) bodies.0
    where
      Q : ℕ → Type 0
      Q q = FitsBody s q b → Explicit (branch q b a)

      empty : (g : Forest) → Fits s [] g → parts (EXPLICIT_OPT_SOME ∷ []) g ≡ []
      empty none i = refl
      empty (leaf k c) i = absurd i
      empty (branch q c d) i = absurd i

  pub explicit_fits : (f : Forest) → AllFaultless s f → Explicit (child (CALL_CONV ∷ []) f)
  explicit_fits f all = elim (child_or_none (IsFaultlessAt s) CALL_CONV f all) [
    | inl e ↦ subst Explicit (sym e) refl
    | inr h ↦
        conv_explicit (child (CALL_CONV ∷ []) f)
        (fits_rule s CALL_CONV n.CALL_CONV (Nonterminal n.INSTANCE_OPT ∷ Nonterminal n.CALL_KIND_OPT ∷ []) (child (CALL_CONV ∷ []) f) rule_conv h.0.range.fits)
        (bodies_of s (child (CALL_CONV ∷ []) f) h.1)
  ]

-- ---- types in signatures

module _ (s : Source) (a : Around) (A : Assembly)
    (type_formed : (f : Forest) → IsFaultlessAt s TYPE f → AllFaultless s f → is_type A (type_of s a f) ≡ true)
    (types_formed : (f : Forest) → AllFaultless s f → list_all (is_type A) (types_in s a f) ≡ true) where
  pub void_formed : is_type A (Prim prim.Void) ≡ true
  unfolding is_type
  void_formed =
      and_from (nat_le (depth (Prim prim.Void)) 100) (is_made_well A (Prim prim.Void)) (le-leb (depth (Prim prim.Void)) 100 (omega (arith, depth-Prim prim.Void)))
      (made-Prim A prim.Void)

  pub first_type_formed : (ts : List SigType) → list_all (is_type A) ts ≡ true → is_type A (first_type s a ts) ≡ true
  first_type_formed [] h = void_formed
  first_type_formed (t ∷ ts) h = (and_parts (is_type A t) (list_all (is_type A) ts) h).0

  pub the_type_formed : (f : Forest) → AllFaultless s f → is_type A (the_type s a f) ≡ true
  the_type_formed f all = first_type_formed (types_in s a f) (types_formed f all)

  pub child_type_formed : (f : Forest) → AllFaultless s f → is_type A (type_of s a (child (TYPE ∷ []) f)) ≡ true
  child_type_formed f all = elim (child_or_none (IsFaultlessAt s) TYPE f all) [
    | inl e ↦ subst (λ g. is_type A (type_of s a g) ≡ true) (sym e) (subst (λ t. is_type A t ≡ true) (sym (type_none s a)) void_formed)
    | inr h ↦ type_formed (child (TYPE ∷ []) f) h.0 h.1
  ]

  arguments_in : (f : Forest) → AllFaultless s f → list_all (is_type A) (map (λ d. the_type s a d) (each DEF_ARG f)) ≡ true
  arguments_in none h = refl
  arguments_in (leaf k f) h = arguments_in f h
  arguments_in (branch p b f) h = elim (cases_Bool (DEF_ARG == p)) [
    | inl is ↦
        ap (λ (c : Bool). list_all (is_type A) (map (λ d. the_type s a d) (below_each ((if c || false then part p b ∷ [] else parts (DEF_ARG ∷ []) b) ++ parts (DEF_ARG ∷ []) f)))) is
        ∙ and_from (is_type A (the_type s a b)) (list_all (is_type A) (map (λ d. the_type s a d) (each DEF_ARG f))) (the_type_formed b h.1) (arguments_in f h.2)
    | inr other ↦
        ap (λ (c : Bool). list_all (is_type A) (map (λ d. the_type s a d) (below_each ((if c || false then part p b ∷ [] else parts (DEF_ARG ∷ []) b) ++ parts (DEF_ARG ∷ []) f)))) other
        ∙ ap (λ fs. list_all (is_type A) (map (λ d. the_type s a d) fs)) (below_append (parts (DEF_ARG ∷ []) b) (parts (DEF_ARG ∷ []) f))
        ∙ joined (each DEF_ARG b) (each DEF_ARG f) (arguments_in b h.1) (arguments_in f h.2)
  ]
    where
      joined : (fs gs : List Forest) → list_all (is_type A) (map (λ d. the_type s a d) fs) ≡ true → list_all (is_type A) (map (λ d. the_type s a d) gs) ≡ true
          → list_all (is_type A) (map (λ d. the_type s a d) (fs ++ gs)) ≡ true
      joined [] gs h i = i
      joined (x ∷ fs) gs h i =
          let both = and_parts (is_type A (the_type s a x)) (list_all (is_type A) (map (λ d. the_type s a d) fs)) h in
          and_from (is_type A (the_type s a x)) (list_all (is_type A) (map (λ d. the_type s a d) (fs ++ gs))) both.0 (joined fs gs both.1 i)

  pub arguments_formed : (f : Forest) → AllFaultless s f → list_all (is_type A) (argument_types s a f) ≡ true
  arguments_formed f h = arguments_in f h

  pub argument_count : (f : Forest) → length (each DEF_ARG f) ≤ 65535 → is_count (length (argument_types s a f)) ≡ true
  argument_count f few = count_is (length (argument_types s a f)) (omega (arith, few, length-map (each DEF_ARG f) (λ d. the_type s a d)))

  -- ---- declared signatures

  pub method_signature_formed : (f : Forest) → AllFaultless s f → is_signature A (method_signature s a f) ≡ true
  method_signature_formed f all = (signatures_named A (method_signature s a f)).1 (record {
    generic = count_is (length (typars f)) (few_typars s f all);
    count = argument_count (child (DEF_ARGS_OPT_SOME ∷ []) f) (few_parameters s f all);
    explicit = explicit_fits s f all;
    sentinel = refl;
    ret = child_type_formed f all;
    params = arguments_formed (child (DEF_ARGS_OPT_SOME ∷ []) f) (of_child (IsFaultlessAt s) (DEF_ARGS_OPT_SOME ∷ []) f all);
  })

  pub property_signature_formed : (f : Forest) → AllFaultless s f → is_signature A (property_signature s a f) ≡ true
  property_signature_formed f all = (signatures_named A (property_signature s a f)).1 (record {
    generic = refl;
    count = argument_count (child (SIGNATURE ∷ []) f) (few_arguments s (child (SIGNATURE ∷ []) f) (child_or_none (IsFaultlessAt s) SIGNATURE f all));
    explicit = refl;
    sentinel = refl;
    ret = child_type_formed f all;
    params = arguments_formed (child (SIGNATURE ∷ []) f) (of_child (IsFaultlessAt s) (SIGNATURE ∷ []) f all);
  })

  pub property_is_one : (f : Forest) → is_property_signature (property_signature s a f) ≡ true
  property_is_one f = refl

  pub method_is_declared : (f : Forest) → is_declaration (length (typars f)) (method_signature s a f) ≡ true
  method_is_declared f = (Decides-eqb (length (typars f)) (length (typars f))).1 refl
