-- What the bodies of a faultless source name is well formed: locals, operands and caught types (ECMA-335 II.15.4.1, II.19, III).
use Rattle.std.proofs.Common.{◌≡◌, ℕ, inl, inr, List, [], ◌∷◌, ◌++◌, Option, None, Some, map, refl, ap, sym, ◌∙◌}
use Rattle.std.specs.Prelude.{Bool, true, false, ◌==◌, ◌||◌, ◌&&◌, if◌then◌else◌}
use Rattle.std.specs.List.{AllByRecursion, list_all}
use Rattle.std.proofs.lemmas.Bool.{and_from, cases_Bool}
use Rattle.il_lexer.specs.Longest.{LongestSpelling}
use Rattle.il_lexer.specs.Unplaced.{ReadsAsItLexes}
use Rattle.assembly_tree.specs.declared.assembly.Assembly.{Assembly}
use Rattle.assembly_tree.specs.declared.body.Body.{Body}
use Rattle.assembly_tree.specs.declared.body.Clause.{Clause}
use Rattle.assembly_tree.specs.declared.body.ClauseKind.{ClauseKind}
use Rattle.assembly_tree.specs.declared.body.ClauseKind.TheVariants as handles
use Rattle.assembly_tree.specs.declared.body.Ins.{Ins}
use Rattle.assembly_tree.specs.declared.body.Operand.{Operand}
use Rattle.assembly_tree.specs.declared.body.Operand.TheVariants as operand
use Rattle.assembly_tree.specs.WellFormedBodies.{has_body_form, is_body, is_handled, is_operand, names_well, short_branches_reach}
use Rattle.assembly_tree.specs.WellFormedNames.{option_all}
use Rattle.assembly_tree.specs.WellFormedTerms.{is_owner, is_type}
use Rattle.ilasm_grammar.specs.Ilasm.{ilasm, rule_by}
use Rattle.ilasm_grammar.specs.declared.nonterminals.TheConstants as n
use Rattle.ilasm_grammar.specs.declared.productions.TheConstants.{CLAUSE_CATCH, CLAUSE_FILTER, CLAUSE_FINALLY, FIELD_REF, INSTRUCTION_OP_FIELD, INSTRUCTION_OP_METHOD, ITEM_TRY, LOCAL, METHOD_REF, TOKEN_OPERAND_FIELD, TOKEN_OPERAND_METHOD}
use Rattle.source_model.specs.Bodies.{body, body_unless_empty, code}
use Rattle.source_model.specs.Classes.{assembly}
use Rattle.source_model.specs.Clauses.{Guarded, clause, clause_forms, clause_kind, clauses, filter_start, guarded, guarded_in}
use Rattle.source_model.specs.Forest.{Forest, Part, none, leaf, branch, below_each, first_or, has, is_among, is_any_part, part, parts, the}
use Rattle.source_model.specs.Instructions.{instruction_forms, instructions_of}
use Rattle.source_model.specs.Nodes.{Around}
use Rattle.source_model.specs.Operands.{instruction, operand_of, token_operand}
use Rattle.source_model.specs.References.{field_ref, method_ref}
use Rattle.source_model.specs.Source.{Source}
use Rattle.source_model.specs.Types.{owners_in, the_owner, the_type}
use Rattle.source_model.specs.Variables.{local_types, locals}
use Rattle.source_nodes.specs.Derived.{head_of}
use Rattle.source_syntax.proofs.BodyLemmas.{any_front, fits_has, goes_on_with, has_later}
use Rattle.source_syntax.proofs.ReferenceLemmas.{sound_part}
use Rattle.source_nodes.proofs.WrittenNames.{one_in}
use Rattle.source_flags.proofs.Gathered.{IsSought, all_append, of_parts}
use Rattle.laws_formed_sources.specs.sources.Laws.{IsRight}
use Rattle.laws_formed_sources.specs.sources.Productions.{AllFaultless, HasFewTypars, IsFaultlessAt}
use Rattle.laws_formed_sources.proofs.sources.Attributes.{IsGood, one_ref}
use Rattle.laws_formed_sources.proofs.sources.Parts.{IsOf, all_mapped, each_good}
use Rattle.laws_formed_sources.proofs.sources.Right as right
use Rattle.laws_formed_sources.proofs.sources.Rules.{AllOf, body_of, fits_of, for_each}

-- ---- what stands in a part stands in the whole

has_inside : (r q : ℕ) (b a : Forest) → has r b ≡ true → has r (branch q b a) ≡ true
has_inside r q b a e = elim (cases_Bool (r == q)) [
  | inl is ↦ ap (λ (c : Bool). is_any_part ((if c || false then part q b ∷ [] else parts (r ∷ []) b) ++ parts (r ∷ []) a)) is
  | inr other ↦
      ap (λ (c : Bool). is_any_part ((if c || false then part q b ∷ [] else parts (r ∷ []) b) ++ parts (r ∷ []) a)) other
      ∙ any_front (parts (r ∷ []) b) (parts (r ∷ []) a) e
]

first_has : (r p q : ℕ) (b a : Forest) → (has r (the p b) ≡ true → has r b ≡ true) → (has r (the p a) ≡ true → has r a ≡ true) → (ps : List Part) → parts (p ∷ []) b ≡ ps
    → has r (first_or none (below_each (parts (p ∷ []) b ++ parts (p ∷ []) a))) ≡ true → has r (branch q b a) ≡ true
first_has r p q b a low after [] is h = has_later r q b a (after (sym (ap (λ qs. has r (first_or none (below_each (qs ++ parts (p ∷ []) a)))) is) ∙ h))
first_has r p q b a low after (x ∷ ps) is h =
    has_inside r q b a
    (low
    (ap (λ qs. has r (first_or none (below_each qs))) is
    ∙ sym (ap (λ qs. has r (first_or none (below_each (qs ++ parts (p ∷ []) a)))) is) ∙ h))

the_has : (r p : ℕ) (f : Forest) → has r (the p f) ≡ true → has r f ≡ true
the_has r p none e = absurd cc
the_has r p (leaf k a) e = the_has r p a e
the_has r p (branch q b a) e = elim (cases_Bool (p == q)) [
  | inl is ↦
      has_inside r q b a
      (sym (ap (λ (c : Bool). has r (first_or none (below_each ((if c || false then part q b ∷ [] else parts (p ∷ []) b) ++ parts (p ∷ []) a)))) is) ∙ e)
  | inr other ↦
      first_has r p q b a (the_has r p b) (the_has r p a) (parts (p ∷ []) b) refl
      (sym (ap (λ (c : Bool). has r (first_or none (below_each ((if c || false then part q b ∷ [] else parts (p ∷ []) b) ++ parts (p ∷ []) a)))) other) ∙ e)
]

-- ---- references in instructions

method_in : AllOf (λ p. goes_on_with n.METHOD_REF (body_of (ilasm p)) ≡ true) (INSTRUCTION_OP_METHOD ∷ TOKEN_OPERAND_METHOD ∷ [])
unfolding ilasm rule_by
method_in = (refl, (refl, tt))

field_in : AllOf (λ p. goes_on_with n.FIELD_REF (body_of (ilasm p)) ≡ true) (INSTRUCTION_OP_FIELD ∷ TOKEN_OPERAND_FIELD ∷ [])
unfolding ilasm rule_by
field_in = (refl, (refl, tt))

one_field_ref : (p : ℕ) → head_of p ≡ Some n.FIELD_REF → p ≡ FIELD_REF
unfolding ilasm
one_field_ref p e = one_in _ _ _ n.FIELD_REF FIELD_REF p e refl

module _ (longest : LongestSpelling) (reads : ReadsAsItLexes) (s : Source) (r : IsRight s) (a : Around) (few : HasFewTypars a) where
  abbrev A : Assembly
  A = assembly s

  method_operand : (q : ℕ) (f : Forest) → goes_on_with n.METHOD_REF (body_of (ilasm q)) ≡ true → IsFaultlessAt s q f → has METHOD_REF f ≡ true
  method_operand q f e own = fits_has s (body_of (ilasm q)) f n.METHOD_REF METHOD_REF (fits_of s q f own.range.fits) e one_ref

  field_operand : (q : ℕ) (f : Forest) → goes_on_with n.FIELD_REF (body_of (ilasm q)) ≡ true → IsFaultlessAt s q f → has FIELD_REF f ≡ true
  field_operand q f e own = fits_has s (body_of (ilasm q)) f n.FIELD_REF FIELD_REF (fits_of s q f own.range.fits) e one_field_ref

  method_formed : (f : Forest) → AllFaultless s f → has METHOD_REF f ≡ true → is_operand A (operand.Method (method_ref s a (the METHOD_REF f))) ≡ true
  method_formed f all some = let h = sound_part (IsFaultlessAt s) METHOD_REF f all some in right.method_ref_formed longest reads s r a few (the METHOD_REF f) h.0 h.1

  field_formed : (f : Forest) → AllFaultless s f → has FIELD_REF f ≡ true → is_operand A (operand.Field (field_ref s a (the FIELD_REF f))) ≡ true
  field_formed f all some = let h = sound_part (IsFaultlessAt s) FIELD_REF f all some in right.field_ref_formed longest reads s r a few (the FIELD_REF f) h.0 h.1

  owner_formed : (f : Forest) → AllFaultless s f → is_owner A (the_owner s a f) ≡ true
  owner_formed f all = right.first_formed longest reads s r a few (owners_in s a f) (right.owners_formed longest reads s r a few f all)

  token_formed : (f : Forest) → AllFaultless s f → is_operand A (token_operand s a f) ≡ true
  token_formed f all = elim (cases_Bool (has TOKEN_OPERAND_METHOD f)) [
    | inl some ↦
        let h = sound_part (IsFaultlessAt s) TOKEN_OPERAND_METHOD f all some in
        ap (λ (c : Bool). is_operand A (if c then operand.Method (method_ref s a (the METHOD_REF f)) else lower)) some
        ∙ method_formed f all (the_has METHOD_REF TOKEN_OPERAND_METHOD f (method_operand TOKEN_OPERAND_METHOD (the TOKEN_OPERAND_METHOD f) method_in.1.0 h.0))
    | inr other ↦
        ap (λ (c : Bool). is_operand A (if c then operand.Method (method_ref s a (the METHOD_REF f)) else lower)) other
        ∙ elim (cases_Bool (has TOKEN_OPERAND_FIELD f)) [
          | inl some ↦
              let h = sound_part (IsFaultlessAt s) TOKEN_OPERAND_FIELD f all some in
              ap (λ (c : Bool). is_operand A (if c then operand.Field (field_ref s a (the FIELD_REF f)) else operand.Of (the_owner s a f))) some
              ∙ field_formed f all (the_has FIELD_REF TOKEN_OPERAND_FIELD f (field_operand TOKEN_OPERAND_FIELD (the TOKEN_OPERAND_FIELD f) field_in.1.0 h.0))
          | inr neither ↦
              ap (λ (c : Bool). is_operand A (if c then operand.Field (field_ref s a (the FIELD_REF f)) else operand.Of (the_owner s a f))) neither ∙ owner_formed f all
        ]
  ]
    where
      lower : Operand
      lower = if has TOKEN_OPERAND_FIELD f then operand.Field (field_ref s a (the FIELD_REF f)) else operand.Of (the_owner s a f)

  operand_formed : (f : Forest) (p : Part) → IsSought (IsFaultlessAt s) instruction_forms p → is_operand A (operand_of s a f p) ≡ true
  operand_formed f p h =
      by_production p.production p.below h.0 h.1 h.2
    where
      by_production : (q : ℕ) (b : Forest) → is_among instruction_forms q ≡ true → IsFaultlessAt s q b → AllFaultless s b → is_operand A (operand_of s a f (part q b)) ≡ true
      by_production q b known own all =
          for_each Q instruction_forms (
            (λ i. refl),
            (
              (λ i. refl),
              (
                (λ i. refl),
                (
                  (λ i. refl),
                  (
                    (λ i. refl),
                    (
                      (λ i. method_formed b all (method_operand INSTRUCTION_OP_METHOD b method_in.0 i)),
                      (
                        (λ i. field_formed b all (field_operand INSTRUCTION_OP_FIELD b field_in.0 i)),
                        ((λ i. owner_formed b all), ((λ i. refl), ((λ i. refl), ((λ i. token_formed b all), tt)))),
                      ),
                    ),
                  ),
                ),
              ),
            ),
          )
          q known own
        where
          Q : ℕ → Type 0
          Q x = IsFaultlessAt s x b → is_operand A (operand_of s a f (part x b)) ≡ true

  -- ---- clauses

  guarded_good : (tried f : Forest) → AllFaultless s f → AllByRecursion (λ (g : Guarded). IsGood s g.clause) (guarded_in tried f)
  guarded_good tried none all = tt
  guarded_good tried (leaf k f) all = guarded_good tried f all
  guarded_good tried (branch p b f) all =
      all_append (λ (g : Guarded). IsGood s g.clause) (guarded_in (if p == ITEM_TRY then b else tried) b ++ own (is_among clause_forms p)) (guarded_in tried f)
      (all_append (λ (g : Guarded). IsGood s g.clause) (guarded_in (if p == ITEM_TRY then b else tried) b) (own (is_among clause_forms p))
      (guarded_good (if p == ITEM_TRY then b else tried) b all.1) (either (is_among clause_forms p)))
      (guarded_good tried f all.2)
    where
      own : Bool → List Guarded
      own c = if c then record { tried = tried; clause = part p b } ∷ [] else []

      either : (c : Bool) → AllByRecursion (λ (g : Guarded). IsGood s g.clause) (own c)
      either true = ((all.0, all.1), tt)
      either false = tt

  kind_formed : (f : Forest) (p : Part) → IsGood s p → is_handled A (clause_kind s a f p) ≡ true
  kind_formed f p h = elim (cases_Bool (p.production == CLAUSE_CATCH)) [
    | inl is ↦ ap (λ (c : Bool). is_handled A (if c then handles.Catch (the_owner s a p.below) else others)) is ∙ owner_formed p.below h.1
    | inr other ↦ ap (λ (c : Bool). is_handled A (if c then handles.Catch (the_owner s a p.below) else others)) other ∙ no_catch (p.production == CLAUSE_FILTER) (p.production == CLAUSE_FINALLY)
  ]
    where
      others : ClauseKind
      others =
          if p.production == CLAUSE_FILTER then handles.Filter (filter_start s f p.below)
          else if p.production == CLAUSE_FINALLY then handles.Finally
          else handles.Fault

      no_catch : (c d : Bool) → is_handled A (if c then handles.Filter (filter_start s f p.below) else if d then handles.Finally else handles.Fault) ≡ true
      no_catch true d = refl
      no_catch false true = refl
      no_catch false false = refl

  -- ---- the whole body

  pub body_names : (f : Forest) → AllFaultless s f → option_all (names_well A) (body s a f) ≡ true
  unfolding body code names_well
  body_names f all = go (map (instruction s a f) (instructions_of f)) operands_formed
    where
      operands_formed : list_all (λ (i : Ins). is_operand A i.operand) (map (instruction s a f) (instructions_of f)) ≡ true
      operands_formed =
          all_mapped (IsSought (IsFaultlessAt s) instruction_forms) (λ (i : Ins). is_operand A i.operand) (instruction s a f) (operand_formed f) (instructions_of f)
          (of_parts (IsFaultlessAt s) instruction_forms f all)

      locals_formed : list_all (is_type A) (local_types s a f) ≡ true
      locals_formed =
          all_mapped (IsOf s LOCAL) (is_type A) (the_type s a) (λ g h. right.the_type_formed longest reads s r a few g h.1) (locals f) (each_good s LOCAL f all)

      catches_formed : list_all (λ (c : Clause). is_handled A c.kind) (clauses s a f) ≡ true
      catches_formed =
          all_mapped (λ (g : Guarded). IsGood s g.clause) (λ (c : Clause). is_handled A c.kind) (clause s a f) (λ g h. kind_formed f g.clause h) (guarded f) (guarded_good none f all)

      go : (is : List Ins) → list_all (λ (i : Ins). is_operand A i.operand) is ≡ true → option_all (names_well A) (body_unless_empty s a f is) ≡ true
      go [] h = refl
      go (i ∷ is) h =
          and_from (list_all (is_type A) (local_types s a f) && list_all (λ (x : Ins). is_operand A x.operand) (i ∷ is)) (list_all (λ (c : Clause). is_handled A c.kind) (clauses s a f))
          (and_from (list_all (is_type A) (local_types s a f)) (list_all (λ (x : Ins). is_operand A x.operand) (i ∷ is)) locals_formed h) catches_formed

-- a body that names what it names well is well formed where it has the form of one and its short branches reach
pub body_formed : (A : Assembly) (o : Option Body) → option_all (names_well A) o ≡ true → option_all (λ (b : Body). has_body_form b && short_branches_reach b.code) o ≡ true
    → option_all (is_body A) o ≡ true
unfolding is_body
body_formed A None h i = refl
body_formed A (Some b) h i = and_from (has_body_form b && short_branches_reach b.code) (names_well A b) i h
