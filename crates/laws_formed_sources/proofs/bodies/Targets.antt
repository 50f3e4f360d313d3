-- Branches lead to instructions, in a source that breaks no rule (ECMA-335 III.1.7.2, III.3.15).
use Rattle.std.proofs.Common.{◌≡◌, ℕ, ◌<◌, ◌≤◌, inl, inr, List, [], ◌∷◌, Option, None, Some, length, refl, ap, sym, subst, ◌∙◌, arith, nat_lt}
use Rattle.std.specs.Prelude.{Bool, true, false, not, ◌==◌, if◌then◌else◌, filter}
use Rattle.std.specs.List.{flat_map}
use Rattle.std.proofs.lemmas.Bool.{cases_Bool, lt-ltb}
use Rattle.std.proofs.lemmas.Bool.Decides.{Decides-eqb}
use Rattle.assembly_tree.specs.WellFormedBodies.{are_targets}
use Rattle.assembly_tree.specs.declared.body.Operand.TheVariants as operand
use Rattle.ilasm_grammar.specs.Ilasm.{ilasm, rule_by}
use Rattle.ilasm_grammar.specs.declared.productions.TheConstants.{FIELD_REF, FILTER_START_NAME, HANDLER_HANDLER, INSTRUCTION_OP_BRANCH, INSTRUCTION_SWITCH, METHOD_REF, TOKEN_OPERAND_FIELD, TOKEN_OPERAND_METHOD, TRY_RANGE_NAME}
use Rattle.ilasm_grammar.specs.declared.symbol.Symbol.{Symbol}
use Rattle.ilasm_grammar.specs.declared.symbol.Symbol.TheVariants.{Terminal, Nonterminal}
use Rattle.source_model.specs.BodyFaults.{declared_targets, label_names, label_names_in, targets_at_the_end}
use Rattle.source_model.specs.Forest.{Forest, Part, none, leaf, branch, has, is_among, leaf_at, part, parts, the}
use Rattle.source_model.specs.Instructions.{instruction_forms, instructions_of, is_label, label_named, label_number, number_of_label, targets}
use Rattle.source_model.specs.Nodes.{Around}
use Rattle.source_model.specs.Operands.{operand_of, token_operand}
use Rattle.source_model.specs.References.{field_ref, method_ref}
use Rattle.source_model.specs.Source.{Source}
use Rattle.source_model.specs.Types.{the_owner}
use Rattle.source_nodes.specs.Derived.{Fits, FitsBody, HasBodies}
use Rattle.source_syntax.proofs.BodyLemmas.{all_in}
use Rattle.check_bodies.proofs.ShortBranchLemmas.{number_within}
use Rattle.laws_formed_sources.proofs.sources.Members.{In, in_back, in_either, in_front}
use Rattle.laws_formed_sources.proofs.sources.Rules.{body_of, fits_of, for_each}
use Rattle.laws_formed_sources.proofs.bodies.Methods.{all_pass, in_filter, none_of}

-- ---- lists

pub in_flat : {X : Type 0} (g : X → List ℕ) (k : ℕ) (x : X) (xs : List X) → In x xs → In k (g x) → In k (flat_map g xs)
in_flat g k x [] i j = absurd i
in_flat g k x (y ∷ ys) (inl is) j = in_front k (g y) (flat_map g ys) (subst (λ z. In k (g z)) (sym is) j)
in_flat g k x (y ∷ ys) (inr i) j = in_back k (g y) (flat_map g ys) (in_flat g k x ys i j)

-- what isn't among those that a test lets through fails it
pub fails : {X : Type 0} (test : X → Bool) (q : X) (xs : List X) → In q xs → filter test xs ≡ [] → test q ≡ false
fails test q xs i e = elim (cases_Bool (test q)) [
  | inl is ↦ absurd (subst (In q) e (in_filter test q xs i is))
  | inr other ↦ other
]

-- ---- bodies of tokens alone

abbrev nothing_in : ℕ → Bool
nothing_in m = false

no_parts : (s : Source) (sought : List ℕ) (body : List Symbol) (f : Forest) → Fits s body f → all_in nothing_in body ≡ true → parts sought f ≡ []
no_parts s sought [] none h e = refl
no_parts s sought [] (leaf k a) h e = absurd h
no_parts s sought [] (branch p b a) h e = absurd h
no_parts s sought (Terminal x ∷ more) none h e = absurd h
no_parts s sought (Terminal x ∷ more) (leaf k a) h e = no_parts s sought more a h.1 e
no_parts s sought (Terminal x ∷ more) (branch p b a) h e = absurd h
no_parts s sought (Nonterminal m ∷ more) f h e = absurd cc

range_bare : all_in nothing_in (body_of (ilasm TRY_RANGE_NAME)) ≡ true
unfolding ilasm rule_by
range_bare = refl

handler_bare : all_in nothing_in (body_of (ilasm HANDLER_HANDLER)) ≡ true
unfolding ilasm rule_by
handler_bare = refl

filter_bare : all_in nothing_in (body_of (ilasm FILTER_START_NAME)) ≡ true
unfolding ilasm rule_by
filter_bare = refl

-- ---- instructions that name labels

abbrev pub branch_forms : List ℕ
branch_forms = INSTRUCTION_OP_BRANCH ∷ INSTRUCTION_SWITCH ∷ []

abbrev pub label_forms : List ℕ
label_forms = INSTRUCTION_OP_BRANCH ∷ INSTRUCTION_SWITCH ∷ TRY_RANGE_NAME ∷ HANDLER_HANDLER ∷ FILTER_START_NAME ∷ []

among_more : (q : ℕ) → is_among branch_forms q ≡ true → is_among label_forms q ≡ true
among_more q e = for_each (λ r. is_among label_forms r ≡ true) branch_forms (refl, (refl, tt)) q e

-- no instruction stands within a range of labels
module _ (s : Source) where
  bare_within : (q : ℕ) (b : Forest) → is_among label_forms q ≡ true → is_among instruction_forms q ≡ false → FitsBody s q b → parts instruction_forms b ≡ []
  bare_within q b among apart fits =
      for_each Q label_forms (
        (λ other fit. absurd cc),
        (
          (λ other fit. absurd cc),
          (
            (λ other fit. no_parts s instruction_forms (body_of (ilasm TRY_RANGE_NAME)) b (fits_of s TRY_RANGE_NAME b fit) range_bare),
            (
              (λ other fit. no_parts s instruction_forms (body_of (ilasm HANDLER_HANDLER)) b (fits_of s HANDLER_HANDLER b fit) handler_bare),
              ((λ other fit. no_parts s instruction_forms (body_of (ilasm FILTER_START_NAME)) b (fits_of s FILTER_START_NAME b fit) filter_bare), tt),
            ),
          ),
        ),
      )
      q among apart fits
    where
      Q : ℕ → Type 0
      Q r = is_among instruction_forms r ≡ false → FitsBody s r b → parts instruction_forms b ≡ []

  one_front : (q : ℕ) (b : Forest) (p : Part) (c d : Bool) → is_among instruction_forms q ≡ c → is_among label_forms q ≡ d → FitsBody s q b
      → is_among branch_forms p.production ≡ true → (In p (parts instruction_forms b) → In p (parts label_forms b))
      → In p (if c then part q b ∷ [] else parts instruction_forms b) → In p (if d then part q b ∷ [] else parts label_forms b)
  one_front q b p true true is known fits two below (inl same) = inl same
  one_front q b p true true is known fits two below (inr i) = absurd i
  one_front q b p true false is known fits two below (inl same) =
      let yes = among_more q (ap (λ (x : Part). is_among branch_forms x.production) same ∙ two) in absurd cc
  one_front q b p true false is known fits two below (inr i) = absurd i
  one_front q b p false true is known fits two below i = absurd (subst (In p) (bare_within q b known is fits) i)
  one_front q b p false false is known fits two below i = below i

  pub among_labelled : (f : Forest) → HasBodies s f → (p : Part) → In p (parts instruction_forms f) → is_among branch_forms p.production ≡ true → In p (parts label_forms f)
  among_labelled none h p i two = absurd i
  among_labelled (leaf k a) h p i two = among_labelled a h p i two
  among_labelled (branch q b a) h p i two = elim (in_either p (if is_among instruction_forms q then part q b ∷ [] else parts instruction_forms b) (parts instruction_forms a) i) [
    | inl j ↦
        in_front p (if is_among label_forms q then part q b ∷ [] else parts label_forms b) (parts label_forms a)
        (one_front q b p (is_among instruction_forms q) (is_among label_forms q) refl refl h.0 two (λ k. among_labelled b h.1 p k two) j)
    | inr j ↦ in_back p (if is_among label_forms q then part q b ∷ [] else parts label_forms b) (parts label_forms a) (among_labelled a h.2 p j two)
  ]

  -- ---- the labels that an instruction names

  names_are_targets : (p : Part) (k : ℕ) → is_among branch_forms p.production ≡ true → In k (targets p) → In k (label_names_in p)
  names_are_targets p k two i =
      for_each (λ q. In k (targets (part q p.below)) → In k (label_names_in (part q p.below))) branch_forms ((λ j. j), ((λ j. j), tt)) p.production two i

  has_targets : (p : Part) (k : ℕ) → is_among instruction_forms p.production ≡ true → In k (targets p) → is_among branch_forms p.production ≡ true
  has_targets p k among i =
      for_each (λ q. In k (targets (part q p.below)) → is_among branch_forms q ≡ true) instruction_forms
      ((λ j. absurd j), ((λ j. absurd j), ((λ j. absurd j), ((λ j. absurd j), ((λ j. refl), ((λ j. absurd j), ((λ j. absurd j), ((λ j. absurd j), ((λ j. refl), ((λ j. absurd j), ((λ j. absurd j), tt)))))))))))
      p.production among i

  module _ (f : Forest) (bodies : HasBodies s f) (known : filter (λ k. not (is_label s f k)) (label_names f) ≡ []) where
    -- is one of the method's
    pub target_declared : (p : Part) → In p (instructions_of f) → is_among instruction_forms p.production ≡ true → (k : ℕ) → In k (targets p) → is_label s f k ≡ true
    target_declared p i among k j =
        let two = has_targets p k among j in
        let named = in_flat label_names_in k p (parts label_forms f) (among_labelled f bodies p i two) (names_are_targets p k two j) in
        turned (is_label s f k) (fails (λ l. not (is_label s f l)) k (label_names f) named known)
      where
        turned : (c : Bool) → not c ≡ false → c ≡ true
        turned true e = refl
        turned false e = absurd cc

    pub label_within : (k : ℕ) → label_number s f k ≤ length (instructions_of f)
    label_within k = go (label_named s f k)
      where
        go : (o : Option ℕ) → number_of_label f o ≤ length (instructions_of f)
        go None = omega arith
        go (Some label) = number_within f label

    module _ (ends : flat_map (targets_at_the_end s f) (instructions_of f) ≡ []) where
      -- and an instruction follows it
      pub target_inside : (p : Part) → In p (instructions_of f) → is_among instruction_forms p.production ≡ true → (k : ℕ) → In k (targets p)
          → nat_lt (label_number s f k) (length (instructions_of f)) ≡ true
      target_inside p i among k j =
          let count = length (instructions_of f) in
          let within = label_within k in
          let declared = in_filter (is_label s f) k (targets p) j (target_declared p i among k j) in
          let other = fails (λ l. label_number s f l == count) k (declared_targets s f p) declared (none_of (targets_at_the_end s f) p (instructions_of f) i ends) in
          lt-ltb (label_number s f k) count (less (label_number s f k) count within other)
        where
          less : (x y : ℕ) → x ≤ y → (x == y) ≡ false → x < y
          less x y h e =
              let apart : x ≡ y → ⊥ = λ same. (let yes = (Decides-eqb x y).1 same in absurd cc) in
              omega (arith, h, apart)

-- ---- operands

module _ (s : Source) (a : Around) (f : Forest) where
  abbrev At : Forest → ℕ → Type 0
  At b q =
      ((k : ℕ) → In k (targets (part q b)) → nat_lt (label_number s f k) (length (instructions_of f)) ≡ true)
      → are_targets (length (instructions_of f)) (operand_of s a f (part q b)) ≡ true

  token_at : (b : Forest) → are_targets (length (instructions_of f)) (token_operand s a b) ≡ true
  token_at b = elim (cases_Bool (has TOKEN_OPERAND_METHOD b)) [
    | inl method ↦ ap (λ (c : Bool). are_targets (length (instructions_of f)) (if c then operand.Method (method_ref s a (the METHOD_REF b)) else if has TOKEN_OPERAND_FIELD b then operand.Field (field_ref s a (the FIELD_REF b)) else operand.Of (the_owner s a b))) method
    | inr other ↦
        ap (λ (c : Bool). are_targets (length (instructions_of f)) (if c then operand.Method (method_ref s a (the METHOD_REF b)) else if has TOKEN_OPERAND_FIELD b then operand.Field (field_ref s a (the FIELD_REF b)) else operand.Of (the_owner s a b))) other
        ∙ elim (cases_Bool (has TOKEN_OPERAND_FIELD b)) [
          | inl field ↦ ap (λ (c : Bool). are_targets (length (instructions_of f)) (if c then operand.Field (field_ref s a (the FIELD_REF b)) else operand.Of (the_owner s a b))) field
          | inr neither ↦ ap (λ (c : Bool). are_targets (length (instructions_of f)) (if c then operand.Field (field_ref s a (the FIELD_REF b)) else operand.Of (the_owner s a b))) neither
        ]
  ]

  pub targets_follow : (p : Part) → is_among instruction_forms p.production ≡ true
      → ((k : ℕ) → In k (targets p) → nat_lt (label_number s f k) (length (instructions_of f)) ≡ true)
      → are_targets (length (instructions_of f)) (operand_of s a f p) ≡ true
  targets_follow p among inside =
      let b = p.below in
      for_each (At b) instruction_forms
      ((λ h. refl), ((λ h. refl), ((λ h. refl), ((λ h. refl), ((λ h. h (leaf_at 0 b) (inl refl)), ((λ h. refl), ((λ h. refl), ((λ h. refl), ((λ h. all_pass (λ t. nat_lt t (length (instructions_of f))) (label_number s f) (targets (part INSTRUCTION_SWITCH b)) h), ((λ h. refl), ((λ h. token_at b), tt)))))))))))
      p.production among inside
