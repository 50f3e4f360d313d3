-- The types and owners that a faultless source writes are well formed (ECMA-335 II.23.2).
use Rattle.std.proofs.Common.{◌≡◌, ℕ, ◌≤◌, inl, inr, List, [], ◌∷◌, ◌++◌, Option, None, Some, length, map, refl, ap, sym, subst, ◌∙◌, arith, nat_lt, nat_le}
use Rattle.std.specs.Prelude.{Bool, true, false, ◌==◌, ◌||◌, ◌&&◌, if◌then◌else◌, position, bytes_eq, ℤ, pos, negsuc, int_le}
use Rattle.std.specs.List.{list_all}
use Rattle.std.proofs.lemmas.Bool.{and_from, and_parts, cases_Bool, le-leb, lt-ltb, ltb-false}
use Rattle.std.proofs.lemmas.Bool.Decides.{Decides-eqb}
use Rattle.std.proofs.lemmas.List.{length-map}
use Rattle.std.proofs.lemmas.List.Folds.{list_all-append}
use Rattle.std.proofs.lemmas.List.Quantifiers.{position-Some}
use Rattle.type_terms.specs.Depth.{depth, owner_depth}
use Rattle.type_terms.specs.declared.name.TypeName.{TypeName}
use Rattle.type_terms.specs.declared.term.Owner.{Owner, Name, Spec}
use Rattle.type_terms.specs.declared.term.Primitive.{Primitive}
use Rattle.type_terms.specs.declared.term.Primitive.TheVariants as prim
use Rattle.type_terms.specs.declared.term.SigType.{SigType, Prim, SzArray, Array}
use Rattle.assembly_tree.specs.declared.assembly.Assembly.{Assembly}
use Rattle.assembly_tree.specs.WellFormedNames.{is_type_name}
use Rattle.assembly_tree.specs.WellFormedTerms.{is_made_well, is_owner, is_owner_made_well, is_type, is_variable}
use Rattle.assembly_tree.proofs.FormedTerms.{made_well-Inst}
use Rattle.ilasm_grammar.specs.Grammar.{rule_of}
use Rattle.ilasm_grammar.specs.Ilasm.{ilasm, rule_by}
use Rattle.ilasm_grammar.specs.declared.nonterminals.TheConstants as n
use Rattle.ilasm_grammar.specs.declared.productions.TheConstants.{INDEX_INT, INDEX_NAME, NATIVE_INT_INT, SPEC_TYPE, SPEC_TYPE_NAME, TYPE, TYPE_BASE_BANG, TYPE_BASE_BOOL, TYPE_BASE_CHAR, TYPE_BASE_CLASS, TYPE_BASE_DOUBLE_BANG, TYPE_BASE_FLOAT32, TYPE_BASE_FLOAT64, TYPE_BASE_INT_TYPE, TYPE_BASE_NATIVE, TYPE_BASE_OBJECT, TYPE_BASE_STRING, TYPE_BASE_TYPEDREF, TYPE_BASE_VALUETYPE, TYPE_BASE_VOID, TYPE_SUFFIX_BRACKET}
use Rattle.ilasm_grammar.specs.declared.symbol.Symbol.TheVariants.{Nonterminal}
use Rattle.source_model.specs.Forest.{Forest, none, leaf, branch, first_token, has, is_among, leaf_at, the}
use Rattle.source_model.specs.Names.{module_name, type_name}
use Rattle.source_model.specs.Nodes.{Around, nothing_around, typar_names, typars}
use Rattle.source_model.specs.Shapes.{dimensions, is_vector, lower_bounds, natural, sizes}
use Rattle.source_model.specs.Source.{Source}
use Rattle.source_model.specs.TypeRules.{index_out_of_range, is_within, out_of, type_too_deep}
use Rattle.source_model.specs.Types.{array, base_type, first_owner, int_type, named_type, number_of, or_length, owners_in, suffix, suffixed, suffixes, type_of, types_in, variable_number}
use Rattle.source_model.specs.Values.{int_at, name_text}
use Rattle.source_nodes.specs.Derived.{FitsBody, HasBodies, head_of}
use Rattle.source_syntax.specs.Places.{IsSound, node_of}
use Rattle.source_syntax.proofs.SoundLemmas.{index_fits, signature_fits}
use Rattle.source_syntax.proofs.TypeLemmas.{owners_leaf, owners_none, suffixed_leaf, suffixed_none, type_branch, type_leaf, type_none, types_at, types_leaf, types_none}
use Rattle.source_nodes.proofs.WrittenNames.{both_true, fits_rule}
use Rattle.laws_formed_sources.specs.sources.Productions.{AllFaultless, HasFewTypars, IsFaultlessAt}
use Rattle.laws_formed_sources.proofs.sources.Depths.{own_owners, owners_at, suffixed_at, type_deep}
use Rattle.laws_formed_sources.proofs.sources.Layers.{depth-Name, depth-Spec, made-Array, made-ByRef, made-Class, made-MVar, made-Mod, made-Name, made-Pinned, made-Pointer, made-Prim, made-Spec, made-SzArray, made-Value, made-Var}
use Rattle.laws_formed_sources.proofs.sources.Rules.{among_these, for_each}
use Rattle.laws_formed_sources.proofs.sources.Shapes.{shape_made}

pub bodies_of : (s : Source) (f : Forest) → AllFaultless s f → HasBodies s f
bodies_of s none h = tt
bodies_of s (leaf k a) h = bodies_of s a h
bodies_of s (branch p b a) h = (h.0.range.fits, bodies_of s b h.1, bodies_of s a h.2)

pub sound_of : (s : Source) (p : ℕ) (f : Forest) → IsFaultlessAt s p f → IsSound s p f
sound_of s p f h = (h.range.fits, signature_fits s p f h.range.types)

-- ---- numbers of generic parameters

unless : (c : Bool) (k : ℕ) → (if c then [] else k ∷ []) ≡ [] → c ≡ true
unless true k e = refl
unless false k e = absurd cc

variable_within : (z : ℤ) → is_within (pos 0) (pos 65535) z ≡ true → is_variable (natural z) ≡ true
variable_within (pos m) e = go m (both_true (int_le (pos 0) (pos m)) (int_le (pos m) (pos 65535)) e).1
  where
    go : (m : ℕ) → int_le (pos m) (pos 65535) ≡ true → is_variable m ≡ true
    go m e = search (arith, e)
variable_within (negsuc m) e = refl

named_within : (names : List (List ℕ)) (text : List ℕ) → length names ≤ 65535 → is_variable (number_of names text) ≡ true
named_within names text few = go (position (bytes_eq text) names) refl
  where
    go : (o : Option ℕ) → position (bytes_eq text) names ≡ o → is_variable (or_length o names) ≡ true
    go None is = lt-ltb (length names) 65536 (omega (arith, few))
    go (Some k) is = let less = (position-Some (bytes_eq text) names k [] is).0 in lt-ltb k 65536 (omega (arith, few, less))

pub number_known : (s : Source) (p : ℕ) (f : Forest) (names : List (List ℕ)) → (p == TYPE_BASE_BANG || p == TYPE_BASE_DOUBLE_BANG) ≡ true
    → index_out_of_range s (node_of p f) ≡ [] → length names ≤ 65535 → is_variable (variable_number s names f) ≡ true
number_known s p f names is e few = elim (cases_Bool (has INDEX_INT f)) [
  | inl some ↦
      let k = leaf_at 0 (the INDEX_INT f) in
      let within = unless (is_within (pos 0) (pos 65535) (int_at s k)) k
      (sym (ap (λ (b : Bool). if b && has INDEX_INT f then out_of (pos 0) (pos 65535) s k else []) is
      ∙ ap (λ (b : Bool). if b then out_of (pos 0) (pos 65535) s k else []) some) ∙ e) in
      ap (λ (b : Bool). is_variable (if b then natural (int_at s k) else number_of names (name_text s (leaf_at 0 (the INDEX_NAME f))))) some
      ∙ variable_within (int_at s k) within
  | inr absent ↦
      ap (λ (b : Bool). is_variable (if b then natural (int_at s (leaf_at 0 (the INDEX_INT f))) else number_of names (name_text s (leaf_at 0 (the INDEX_NAME f))))) absent
      ∙ named_within names (name_text s (leaf_at 0 (the INDEX_NAME f))) few
]

-- ---- bases and suffixes

abbrev bases : List ℕ
bases =
    TYPE_BASE_VOID ∷ TYPE_BASE_BOOL ∷ TYPE_BASE_CHAR ∷ TYPE_BASE_STRING ∷ TYPE_BASE_OBJECT ∷ TYPE_BASE_TYPEDREF ∷ TYPE_BASE_FLOAT32
    ∷ TYPE_BASE_FLOAT64 ∷ TYPE_BASE_INT_TYPE ∷ TYPE_BASE_NATIVE ∷ TYPE_BASE_CLASS ∷ TYPE_BASE_VALUETYPE ∷ TYPE_BASE_BANG ∷ TYPE_BASE_DOUBLE_BANG ∷ []

bases_are : (p : ℕ) → head_of p ≡ Some n.TYPE_BASE → is_among bases p ≡ true
unfolding ilasm
bases_are p e = among_these _ _ _ n.TYPE_BASE bases p e refl

rule_type : ilasm TYPE ≡ Some (rule_of n.TYPE (Nonterminal n.TYPE_BASE ∷ Nonterminal n.TYPE_SUFFIX_STAR ∷ []))
unfolding ilasm rule_by
rule_type = refl

module _ (s : Source) (a : Around) (few : HasFewTypars a) (A : Assembly)
    (name_known : (f : Forest) → AllFaultless s f → is_type_name A (type_name s f) ≡ true)
    (module_known : is_type_name A module_name ≡ true) where
  abbrev Made : SigType → Type 0
  Made t = is_made_well A t ≡ true

  few_names : (class : Forest) → length (typars class) ≤ 65535 → length (typar_names s class) ≤ 65535
  few_names class h = omega (arith, h, length-map (typars class) (λ g. name_text s (leaf_at 0 g)))

  named_made : (value : Bool) (name : TypeName) (args : List SigType) → is_type_name A name ≡ true → list_all (is_made_well A) args ≡ true → Made (named_type value name args)
  named_made true name [] h i = made-Value A name ∙ h
  named_made false name [] h i = made-Class A name ∙ h
  named_made value name (t ∷ ts) h i =
      made_well-Inst A value name (t ∷ ts)
      ∙ and_from (is_type_name A name && nat_lt 0 (length (t ∷ ts))) (list_all (is_made_well A) (t ∷ ts)) (and_from (is_type_name A name) (nat_lt 0 (length (t ∷ ts))) h (lt-ltb 0 (length (t ∷ ts)) (omega arith))) i

  native_made : (c : Bool) → Made (if c then Prim prim.NInt else Prim prim.NUint)
  native_made true = made-Prim A prim.NInt
  native_made false = made-Prim A prim.NUint

  base_made : (p : ℕ) (f : Forest) (args : List SigType) → head_of p ≡ Some n.TYPE_BASE → IsFaultlessAt s p f → AllFaultless s f → list_all (is_made_well A) args ≡ true
      → Made (base_type s a p f args)
  base_made p f args head own each all =
      for_each Q bases (
        prim-made prim.Void,
        (
          prim-made prim.Bool,
          (
            prim-made prim.Char,
            (
              prim-made prim.Str,
              (
                prim-made prim.Object,
                (
                  prim-made prim.TypedRef,
                  (
                    prim-made prim.R4,
                    (
                      prim-made prim.R8,
                      (
                        prim-made (int_type f),
                        (
                          (λ h. native_made (has NATIVE_INT_INT f)),
                          (
                            (λ h. named_made false (type_name s f) args (name_known f each) all),
                            (
                              (λ h. named_made true (type_name s f) args (name_known f each) all),
                              (
                                (λ h. made-Var A _ ∙ number_known s TYPE_BASE_BANG f (typar_names s a.class) refl (index_fits s TYPE_BASE_BANG f (signature_fits s TYPE_BASE_BANG f h.range.types)) (few_names a.class few.class)),
                                (
                                  (λ h. made-MVar A _ ∙ number_known s TYPE_BASE_DOUBLE_BANG f (typar_names s a.method) refl (index_fits s TYPE_BASE_DOUBLE_BANG f (signature_fits s TYPE_BASE_DOUBLE_BANG f h.range.types)) (few_names a.method few.method)),
                                  tt,
                                ),
                              ),
                            ),
                          ),
                        ),
                      ),
                    ),
                  ),
                ),
              ),
            ),
          ),
        ),
      )
      p (bases_are p head) own
    where
      Q : ℕ → Type 0
      Q q = IsFaultlessAt s q f → Made (base_type s a q f args)

      prim-made : (x : Primitive) {q : ℕ} → IsFaultlessAt s q f → Made (Prim x)
      prim-made x h = made-Prim A x

  array_made : (f : Forest) (t : SigType) → IsFaultlessAt s TYPE_SUFFIX_BRACKET f → AllFaultless s f → Made t → Made (array s f t)
  array_made f t own each h = elim (cases_Bool (is_vector f)) [
    | inl is ↦ subst Made (sym (ap (λ (c : Bool). if c then SzArray t else whole) is)) (made-SzArray A t ∙ h)
    | inr other ↦
        subst Made (sym (ap (λ (c : Bool). if c then SzArray t else whole) other))
        (made-Array A t (length (dimensions f)) (sizes s (dimensions f)) (lower_bounds s (dimensions f))
        ∙ and_from _ (is_made_well A t) (shape_made s f (sound_of s TYPE_SUFFIX_BRACKET f own) (bodies_of s f each) other) h)
  ]
    where
      whole : SigType
      whole = Array t (length (dimensions f)) (sizes s (dimensions f)) (lower_bounds s (dimensions f))

  first_made : (os : List Owner) → list_all (is_owner_made_well A) os ≡ true → is_owner_made_well A (first_owner os) ≡ true
  first_made [] h = made-Name A module_name ∙ module_known
  first_made (o ∷ os) h = (and_parts (is_owner_made_well A o) (list_all (is_owner_made_well A) os) h).0

  suffix_made : (p : ℕ) (f : Forest) (os : List Owner) (t : SigType) → is_among suffixes p ≡ true → IsFaultlessAt s p f → AllFaultless s f
      → list_all (is_owner_made_well A) os ≡ true → Made t → Made (suffix s p f os t)
  suffix_made p f os t known own each all h =
      for_each Q suffixes (
        (λ i. array_made f t i each h),
        (
          (λ i. made-ByRef A t ∙ h),
          (
            (λ i. made-Pointer A t ∙ h),
            (
              (λ i. made-Pinned A t ∙ h),
              (
                (λ i. made-Mod A true (first_owner os) t ∙ and_from (is_owner_made_well A (first_owner os)) (is_made_well A t) (first_made os all) h),
                (
                  (λ i. made-Mod A false (first_owner os) t ∙ and_from (is_owner_made_well A (first_owner os)) (is_made_well A t) (first_made os all) h),
                  tt,
                ),
              ),
            ),
          ),
        ),
      )
      p known own
    where
      Q : ℕ → Type 0
      Q q = IsFaultlessAt s q f → Made (suffix s q f os t)

  -- ---- whole types

  specs_made : (ts : List SigType) → list_all (is_made_well A) ts ≡ true → list_all (is_owner_made_well A) (map Spec ts) ≡ true
  specs_made [] h = refl
  specs_made (t ∷ ts) h =
      let both = and_parts (is_made_well A t) (list_all (is_made_well A) ts) h in
      and_from (is_owner_made_well A (Spec t)) (list_all (is_owner_made_well A) (map Spec ts)) (made-Spec A t ∙ both.0) (specs_made ts both.1)

  joined : {X : Type 0} (test : X → Bool) (xs ys : List X) → list_all test xs ≡ true → list_all test ys ≡ true → list_all test (xs ++ ys) ≡ true
  joined test xs ys h i = list_all-append test xs ys ∙ and_from (list_all test xs) (list_all test ys) h i

  by_cases : {X : Type 0} (P : X → Type 0) (c : Bool) (x y : X) → (c ≡ true → P x) → (c ≡ false → P y) → P (if c then x else y)
  by_cases P true x y h i = h refl
  by_cases P false x y h i = i refl

  headed : (p : ℕ) (b f : Forest) → FitsBody s TYPE (branch p b f) → head_of p ≡ Some n.TYPE_BASE
  headed p b f h = (fits_rule s TYPE n.TYPE (Nonterminal n.TYPE_BASE ∷ Nonterminal n.TYPE_SUFFIX_STAR ∷ []) (branch p b f) rule_type h).0

  mutual
    pub types_made : (f : Forest) → AllFaultless s f → list_all (is_made_well A) (types_in s a f) ≡ true
    types_made none h = ap (list_all (is_made_well A)) (types_none s a)
    types_made (leaf k f) h = ap (list_all (is_made_well A)) (types_leaf s a k f) ∙ types_made f h
    types_made (branch p b f) h =
        ap (list_all (is_made_well A)) (types_at s a p b f)
        ∙ joined (is_made_well A) (if p == TYPE then type_of s a b ∷ [] else types_in s a b) (types_in s a f)
        (by_cases (λ ts. list_all (is_made_well A) ts ≡ true) (p == TYPE) (type_of s a b ∷ []) (types_in s a b)
        (λ is. and_from (is_made_well A (type_of s a b)) true (type_made b (subst (λ q. FitsBody s q b) ((Decides-eqb p TYPE).0 is) h.0.range.fits) h.1) refl)
        (λ other. types_made b h.1))
        (types_made f h.2)

    pub type_made : (f : Forest) → FitsBody s TYPE f → AllFaultless s f → Made (type_of s a f)
    type_made none fits h = subst Made (sym (type_none s a)) (made-Prim A prim.Void)
    type_made (leaf k f) fits h = subst Made (sym (type_leaf s a k f)) (made-Prim A prim.Void)
    type_made (branch p b f) fits h =
        subst Made (sym (type_branch s a p b f))
        (suffixed_made f h.2 (base_type s a p b (types_in s a b)) (base_made p b (types_in s a b) (headed p b f fits) h.0 h.1 (types_made b h.1)))

    suffixed_made : (f : Forest) → AllFaultless s f → (t : SigType) → Made t → Made (suffixed s a f t)
    suffixed_made none h t i = subst Made (sym (suffixed_none s a t)) i
    suffixed_made (leaf k f) h t i = subst Made (sym (suffixed_leaf s a k f t)) (suffixed_made f h t i)
    suffixed_made (branch p b f) h t i =
        subst Made (sym (suffixed_at s a p b f t))
        (suffixed_made f h.2 (if is_among suffixes p then suffix s p b (owners_in s a b) t else suffixed s a b t)
        (by_cases Made (is_among suffixes p) (suffix s p b (owners_in s a b) t) (suffixed s a b t)
        (λ known. suffix_made p b (owners_in s a b) t known h.0 h.1 (owners_made b h.1) i)
        (λ other. suffixed_made b h.1 t i)))

    pub owners_made : (f : Forest) → AllFaultless s f → list_all (is_owner_made_well A) (owners_in s a f) ≡ true
    owners_made none h = ap (list_all (is_owner_made_well A)) (owners_none s a)
    owners_made (leaf k f) h = ap (list_all (is_owner_made_well A)) (owners_leaf s a k f) ∙ owners_made f h
    owners_made (branch p b f) h =
        ap (list_all (is_owner_made_well A)) (owners_at s a p b f)
        ∙ joined (is_owner_made_well A) (own_owners s a p b) (owners_in s a f)
        (by_cases (λ os. list_all (is_owner_made_well A) os ≡ true) (p == SPEC_TYPE_NAME) (Name (type_name s b) ∷ [])
        (if p == SPEC_TYPE then map Spec (types_in s a b) else owners_in s a b)
        (λ is. and_from (is_owner_made_well A (Name (type_name s b))) true (made-Name A (type_name s b) ∙ name_known b h.1) refl)
        (λ other. by_cases (λ os. list_all (is_owner_made_well A) os ≡ true) (p == SPEC_TYPE) (map Spec (types_in s a b)) (owners_in s a b)
        (λ is. specs_made (types_in s a b) (types_made b h.1)) (λ another. owners_made b h.1)))
        (owners_made f h.2)

  -- ---- with their depths

  shallow : (f : Forest) → type_too_deep s (node_of TYPE f) ≡ [] → nat_le (depth (type_of s a f)) 100 ≡ true
  shallow f e =
      let low = ltb-false 100 (depth (type_of s nothing_around f)) (if_nothing (nat_lt 100 (depth (type_of s nothing_around f))) (first_token f) e) in
      le-leb (depth (type_of s a f)) 100 (omega (arith, low, type_deep s a nothing_around f))
    where
      if_nothing : (c : Bool) (k : ℕ) → (if c then k ∷ [] else []) ≡ [] → c ≡ false
      if_nothing true k e = absurd cc
      if_nothing false k e = refl

  pub type_formed : (f : Forest) → IsFaultlessAt s TYPE f → AllFaultless s f → is_type A (type_of s a f) ≡ true
  unfolding is_type
  type_formed f own each =
      and_from (nat_le (depth (type_of s a f)) 100) (is_made_well A (type_of s a f)) (shallow f own.depth) (type_made f own.range.fits each)

  pub types_formed : (f : Forest) → AllFaultless s f → list_all (is_type A) (types_in s a f) ≡ true
  types_formed none h = ap (list_all (is_type A)) (types_none s a)
  types_formed (leaf k f) h = ap (list_all (is_type A)) (types_leaf s a k f) ∙ types_formed f h
  types_formed (branch p b f) h =
      ap (list_all (is_type A)) (types_at s a p b f)
      ∙ joined (is_type A) (if p == TYPE then type_of s a b ∷ [] else types_in s a b) (types_in s a f)
      (by_cases (λ ts. list_all (is_type A) ts ≡ true) (p == TYPE) (type_of s a b ∷ []) (types_in s a b)
      (λ is. and_from (is_type A (type_of s a b)) true (type_formed b (subst (λ q. IsFaultlessAt s q b) ((Decides-eqb p TYPE).0 is) h.0) h.1) refl)
      (λ other. types_formed b h.1))
      (types_formed f h.2)

  pub name_owner : (name : TypeName) → is_type_name A name ≡ true → is_owner A (Name name) ≡ true
  unfolding is_owner
  name_owner name h =
      and_from (nat_le (owner_depth (Name name)) 100) (is_owner_made_well A (Name name)) (le-leb (owner_depth (Name name)) 100 (omega (arith, depth-Name name))) (made-Name A name ∙ h)

  pub type_owner : (t : SigType) → is_type A t ≡ true → is_owner A (Spec t) ≡ true
  unfolding is_owner is_type
  type_owner t h =
      let both = and_parts (nat_le (depth t) 100) (is_made_well A t) h in
      and_from (nat_le (owner_depth (Spec t)) 100) (is_owner_made_well A (Spec t)) (ap (λ d. nat_le d 100) (depth-Spec t) ∙ both.0) (made-Spec A t ∙ both.1)

  type_owners : (ts : List SigType) → list_all (is_type A) ts ≡ true → list_all (is_owner A) (map Spec ts) ≡ true
  type_owners [] h = refl
  type_owners (t ∷ ts) h =
      let both = and_parts (is_type A t) (list_all (is_type A) ts) h in
      and_from (is_owner A (Spec t)) (list_all (is_owner A) (map Spec ts)) (type_owner t both.0) (type_owners ts both.1)

  pub owners_formed : (f : Forest) → AllFaultless s f → list_all (is_owner A) (owners_in s a f) ≡ true
  owners_formed none h = ap (list_all (is_owner A)) (owners_none s a)
  owners_formed (leaf k f) h = ap (list_all (is_owner A)) (owners_leaf s a k f) ∙ owners_formed f h
  owners_formed (branch p b f) h =
      ap (list_all (is_owner A)) (owners_at s a p b f)
      ∙ joined (is_owner A) (own_owners s a p b) (owners_in s a f)
      (by_cases (λ os. list_all (is_owner A) os ≡ true) (p == SPEC_TYPE_NAME) (Name (type_name s b) ∷ [])
      (if p == SPEC_TYPE then map Spec (types_in s a b) else owners_in s a b)
      (λ is. and_from (is_owner A (Name (type_name s b))) true (name_owner (type_name s b) (name_known b h.1)) refl)
      (λ other. by_cases (λ os. list_all (is_owner A) os ≡ true) (p == SPEC_TYPE) (map Spec (types_in s a b)) (owners_in s a b)
      (λ is. type_owners (types_in s a b) (types_formed b h.1)) (λ another. owners_formed b h.1)))
      (owners_formed f h.2)

  pub first_formed : (os : List Owner) → list_all (is_owner A) os ≡ true → is_owner A (first_owner os) ≡ true
  first_formed [] h = name_owner module_name module_known
  first_formed (o ∷ os) h = (and_parts (is_owner A o) (list_all (is_owner A) os) h).0
