-- The attributes of a faultless source are well formed (ECMA-335 II.21, II.22.10).
use Rattle.std.proofs.Common.{◌≡◌, ℕ, suc, ◌+◌, Some, inl, inr, List, [], ◌∷◌, ◌++◌, take, refl, ap, sym, subst, ◌∙◌, append-nil, arith}
use Rattle.std.specs.Prelude.{Bool, true, false, ◌==◌, ◌||◌, if◌then◌else◌, take_while}
use Rattle.std.specs.List.{AllByRecursion, list_all, prefix_len}
use Rattle.std.proofs.lemmas.Bool.{and_from, cases_Bool}
use Rattle.std.proofs.lemmas.Bool.Decides.{Decides-eqb}
use Rattle.std.proofs.lemmas.List.Folds.{list_all-append}
use Rattle.assembly_tree.specs.declared.assembly.Assembly.{Assembly}
use Rattle.assembly_tree.specs.WellFormedMembers.{is_attribute}
use Rattle.assembly_tree.specs.WellFormedTerms.{is_plain_ref}
use Rattle.ilasm_grammar.specs.Grammar.{rule_of}
use Rattle.ilasm_grammar.specs.Ilasm.{ilasm, rule_by}
use Rattle.ilasm_grammar.specs.declared.nonterminals.TheConstants as n
use Rattle.ilasm_grammar.specs.declared.productions.TheConstants.{ASSEMBLY_ITEM_CUSTOM, BLOCK, CUSTOM, DECL_CUSTOM, EVENT_ITEM_CUSTOM, ITEM_CUSTOM, ITEM_TRY, MEMBER_CUSTOM, METHOD_REF, PROPERTY_ITEM_CUSTOM}
use Rattle.ilasm_grammar.specs.declared.symbol.Symbol.{Symbol}
use Rattle.ilasm_grammar.specs.declared.symbol.Symbol.TheVariants.{Terminal, Nonterminal}
use Rattle.ilasm_grammar.specs.declared.terminals.TheConstants as t
use Rattle.il_lexer.specs.declared.word.TheConstants.{DOT_CUSTOM}
use Rattle.source_model.specs.Forest.{Forest, Part, none, leaf, branch, below_each, first_or, is_among, part, parts, the}
use Rattle.source_model.specs.Items.{Run, begins_run, customs_outside, is_custom, items_and_ends, own_customs, plain_items, runs}
use Rattle.source_model.specs.Manifests.{attribute, attributes}
use Rattle.source_model.specs.Nodes.{Around}
use Rattle.source_model.specs.Parameters.{attributes_of}
use Rattle.source_model.specs.References.{method_ref}
use Rattle.source_model.specs.Signatures.{generic_arguments_token}
use Rattle.source_model.specs.Source.{Source}
use Rattle.source_nodes.specs.Derived.{Fits, FitsBody, head_of}
use Rattle.source_syntax.proofs.BodyLemmas.{fits_has}
use Rattle.source_syntax.proofs.ReferenceLemmas.{sound_part}
use Rattle.source_nodes.proofs.WrittenNames.{fits_rule, one_in}
use Rattle.source_flags.proofs.Gathered.{IsSought, all_append, all_follow, of_parts}
use Rattle.laws_formed_sources.specs.sources.Productions.{AllFaultless, IsFaultlessAt}
use Rattle.laws_formed_sources.proofs.sources.Rules.{for_each}

-- ---- the productions that hold an attribute

abbrev pub one_body : List Symbol
one_body = Nonterminal n.CUSTOM ∷ []

rule_declared : ilasm DECL_CUSTOM ≡ Some (rule_of n.DECL one_body)
unfolding ilasm rule_by
rule_declared = refl

rule_member : ilasm MEMBER_CUSTOM ≡ Some (rule_of n.MEMBER one_body)
unfolding ilasm rule_by
rule_member = refl

rule_item : ilasm ITEM_CUSTOM ≡ Some (rule_of n.ITEM one_body)
unfolding ilasm rule_by
rule_item = refl

rule_assembly : ilasm ASSEMBLY_ITEM_CUSTOM ≡ Some (rule_of n.ASSEMBLY_ITEM one_body)
unfolding ilasm rule_by
rule_assembly = refl

rule_property : ilasm PROPERTY_ITEM_CUSTOM ≡ Some (rule_of n.PROPERTY_ITEM one_body)
unfolding ilasm rule_by
rule_property = refl

rule_event : ilasm EVENT_ITEM_CUSTOM ≡ Some (rule_of n.EVENT_ITEM one_body)
unfolding ilasm rule_by
rule_event = refl

abbrev pub customs : List ℕ
customs = DECL_CUSTOM ∷ MEMBER_CUSTOM ∷ ITEM_CUSTOM ∷ ASSEMBLY_ITEM_CUSTOM ∷ PROPERTY_ITEM_CUSTOM ∷ EVENT_ITEM_CUSTOM ∷ []

abbrev custom_body : List Symbol
custom_body = Terminal (t.WORDS + DOT_CUSTOM) ∷ Nonterminal n.METHOD_REF ∷ Nonterminal n.EQ_BYTES_OPT ∷ []

rule_custom : ilasm CUSTOM ≡ Some (rule_of n.CUSTOM custom_body)
unfolding ilasm rule_by
rule_custom = refl

one_custom : (p : ℕ) → head_of p ≡ Some n.CUSTOM → p ≡ CUSTOM
unfolding ilasm
one_custom p e = one_in _ _ _ n.CUSTOM CUSTOM p e refl

pub one_ref : (p : ℕ) → head_of p ≡ Some n.METHOD_REF → p ≡ METHOD_REF
unfolding ilasm
one_ref p e = one_in _ _ _ n.METHOD_REF METHOD_REF p e refl

-- what stands in a production alone is what stands below it
pub lone_the : (r p : ℕ) (b : Forest) → (r == p) ≡ false → the r (branch p b none) ≡ the r b
lone_the r p b e =
    ap (λ (c : Bool). first_or none (below_each ((if c || false then part p b ∷ [] else parts (r ∷ []) b) ++ []))) e
    ∙ ap (λ ps. first_or none (below_each ps)) (append-nil (parts (r ∷ []) b))

-- a part that is faultless, and of which all is below it
abbrev pub IsGood : Source → Part → Type 0
IsGood s p = IsFaultlessAt s p.production p.below × AllFaultless s p.below

module _ (s : Source) where
  -- ---- lists of attributes

  abbrev pub IsAttribute : Part → Type 0
  IsAttribute p = (is_among customs p.production ≡ true) × IsGood s p

  -- ---- the attributes among declarations

  -- a declaration is good where it is an attribute
  abbrev pub IsHeld : Part → Type 0
  IsHeld p = is_custom p ≡ true → IsGood s p

  custom_known : (p : ℕ) → (p == DECL_CUSTOM || p == MEMBER_CUSTOM || p == ITEM_CUSTOM) ≡ true → is_among customs p ≡ true
  custom_known p e = elim (cases_Bool (p == DECL_CUSTOM)) [
    | inl is ↦ subst (λ q. is_among customs q ≡ true) (sym ((Decides-eqb p DECL_CUSTOM).0 is)) refl
    | inr no_decl ↦ elim (cases_Bool (p == MEMBER_CUSTOM)) [
      | inl is ↦ subst (λ q. is_among customs q ≡ true) (sym ((Decides-eqb p MEMBER_CUSTOM).0 is)) refl
      | inr no_member ↦
          let is : (p == ITEM_CUSTOM) ≡ true =
          sym (ap (λ (c : Bool). c || p == MEMBER_CUSTOM || p == ITEM_CUSTOM) no_decl ∙ ap (λ (c : Bool). c || p == ITEM_CUSTOM) no_member) ∙ e in
          subst (λ q. is_among customs q ≡ true) (sym ((Decides-eqb p ITEM_CUSTOM).0 is)) refl
    ]
  ]

  held_is : (p : Part) → is_custom p ≡ true → IsHeld p → IsAttribute p
  held_is p e h = (custom_known p.production e, h e)

  outside_held : (in_run : Bool) (ps : List Part) → AllByRecursion IsHeld ps → AllByRecursion IsAttribute (customs_outside in_run ps)
  outside_held in_run [] h = tt
  outside_held in_run (p ∷ ps) h = elim (cases_Bool (is_custom p)) [
    | inl is ↦
        subst (AllByRecursion IsAttribute) (sym (ap (λ (c : Bool). if c then (if in_run then [] else p ∷ []) ++ customs_outside in_run ps else customs_outside (begins_run p) ps) is))
        (either in_run (held_is p is h.0) (outside_held in_run ps h.1))
    | inr other ↦
        subst (AllByRecursion IsAttribute) (sym (ap (λ (c : Bool). if c then (if in_run then [] else p ∷ []) ++ customs_outside in_run ps else customs_outside (begins_run p) ps) other))
        (outside_held (begins_run p) ps h.1)
  ]
    where
      either : (c : Bool) → IsAttribute p → AllByRecursion IsAttribute (customs_outside in_run ps) → AllByRecursion IsAttribute ((if c then [] else p ∷ []) ++ customs_outside in_run ps)
      either true own rest = rest
      either false own rest = (own, rest)

  -- ---- the attributes that follow a declaration

  front_held : (ps : List Part) → AllByRecursion IsHeld ps → AllByRecursion IsAttribute (take_while is_custom ps)
  front_held [] h = tt
  front_held (p ∷ ps) h = elim (cases_Bool (is_custom p)) [
    | inl is ↦
        subst (λ m. AllByRecursion IsAttribute (take m (p ∷ ps))) (sym (ap (λ (c : Bool). if c then 1 + prefix_len is_custom ps else 0) is ∙ more (prefix_len is_custom ps)))
        (held_is p is h.0, front_held ps h.1)
    | inr other ↦ subst (λ m. AllByRecursion IsAttribute (take m (p ∷ ps))) (sym (ap (λ (c : Bool). if c then 1 + prefix_len is_custom ps else 0) other)) tt
  ]
    where
      more : (m : ℕ) → 1 + m ≡ suc m
      more m = omega arith

  abbrev pub IsRunOf : Run → Type 0
  IsRunOf r = AllByRecursion IsAttribute r.customs

  pub runs_held : (ps : List Part) → AllByRecursion IsHeld ps → AllByRecursion IsRunOf (runs ps)
  runs_held [] h = tt
  runs_held (p ∷ ps) h = (front_held ps h.1, runs_held ps h.1)

  -- ---- declarations, members and items

  pub parts_held : (sought : List ℕ) (f : Forest) → AllFaultless s f → AllByRecursion IsHeld (parts sought f)
  parts_held sought f all =
      all_follow (IsSought (IsFaultlessAt s) sought) IsHeld (parts sought f) (λ p h e. (h.1, h.2)) (of_parts (IsFaultlessAt s) sought f all)

  pub items_held : (f : Forest) → AllFaultless s f → AllByRecursion IsHeld (items_and_ends f)
  items_held none all = tt
  items_held (leaf k f) all = items_held f all
  items_held (branch p b f) all =
      all_append IsHeld _ (items_and_ends f)
      (elim (cases_Bool (is_among plain_items p)) [
        | inl is ↦ subst (AllByRecursion IsHeld) (sym (ap item is)) ((λ e. (all.0, all.1)), tt)
        | inr other ↦ subst (AllByRecursion IsHeld) (sym (ap item other))
            (elim (cases_Bool (p == ITEM_TRY || p == BLOCK)) [
              | inl ends ↦
                  subst (AllByRecursion IsHeld) (sym (ap inner ends))
                  (all_append IsHeld (part p none ∷ items_and_ends b) (part p none ∷ []) (no_custom p ends, items_held b all.1) (no_custom p ends, tt))
              | inr neither ↦ subst (AllByRecursion IsHeld) (sym (ap inner neither)) (items_held b all.1)
            ])
      ])
      (items_held f all.2)
    where
      inner : Bool → List Part
      inner c = if c then (part p none ∷ items_and_ends b) ++ part p none ∷ [] else items_and_ends b

      item : Bool → List Part
      item c = if c then part p b ∷ [] else inner (p == ITEM_TRY || p == BLOCK)

      no_custom : (q : ℕ) → (q == ITEM_TRY || q == BLOCK) ≡ true → IsHeld (part q none)
      no_custom q e = elim (cases_Bool (q == ITEM_TRY)) [
        | inl is ↦ subst (λ r. IsHeld (part r none)) (sym ((Decides-eqb q ITEM_TRY).0 is)) (λ c. absurd cc)
        | inr other ↦
            let is : (q == BLOCK) ≡ true = sym (ap (λ (c : Bool). c || q == BLOCK) other) ∙ e in
            subst (λ r. IsHeld (part r none)) (sym ((Decides-eqb q BLOCK).0 is)) (λ c. absurd cc)
      ]

  -- the parts of one production that holds an attribute
  pub customs_sought : (p : ℕ) → is_among customs p ≡ true → (f : Forest) → AllFaultless s f → AllByRecursion IsAttribute (parts (p ∷ []) f)
  customs_sought p known f all =
      all_follow (IsSought (IsFaultlessAt s) (p ∷ [])) IsAttribute (parts (p ∷ []) f) (λ q h. (subst (λ x. is_among customs x ≡ true) (same q.production h.0) known, (h.1, h.2)))
      (of_parts (IsFaultlessAt s) (p ∷ []) f all)
    where
      same : (q : ℕ) → is_among (p ∷ []) q ≡ true → p ≡ q
      same q e = elim (cases_Bool (p == q)) [
        | inl is ↦ (Decides-eqb p q).0 is
        | inr other ↦ let h : false ≡ true = sym (ap (λ (c : Bool). c || false) other) ∙ e in absurd cc
      ]

module _ (s : Source) (a : Around) (A : Assembly)
    (plain_ref_formed : (f : Forest) → IsFaultlessAt s METHOD_REF f → AllFaultless s f → generic_arguments_token f ≡ [] → is_plain_ref A (method_ref s a f) ≡ true) where
  custom_formed : (f : Forest) → Fits s one_body f → AllFaultless s f → is_plain_ref A (method_ref s a (the METHOD_REF f)) ≡ true
  custom_formed none h all = absurd h
  custom_formed (leaf k b) h all = absurd h
  custom_formed (branch p b (leaf k c)) h all = absurd h.1
  custom_formed (branch p b (branch q c d)) h all = absurd h.1
  custom_formed (branch p b none) h all =
      subst (λ q. IsFaultlessAt s q b → is_plain_ref A (method_ref s a (the METHOD_REF (branch q b none))) ≡ true) (sym (one_custom p h.0))
      (λ own.
      let some = fits_has s custom_body b n.METHOD_REF METHOD_REF (fits_rule s CUSTOM n.CUSTOM custom_body b rule_custom own.range.fits) refl one_ref in
      let ref = sound_part (IsFaultlessAt s) METHOD_REF b all.1 some in
      subst (λ g. is_plain_ref A (method_ref s a g) ≡ true) (sym (lone_the METHOD_REF CUSTOM b refl)) (plain_ref_formed (the METHOD_REF b) ref.0 ref.1 own.arguments))
      all.0

  pub attribute_formed : (p : Part) → is_among customs p.production ≡ true → IsGood s p → is_attribute A (attribute s a p.below) ≡ true
  unfolding is_attribute
  attribute_formed p known h =
      for_each Q customs (
        (λ fits. custom_formed p.below (fits_rule s DECL_CUSTOM n.DECL one_body p.below rule_declared fits) h.1),
        (
          (λ fits. custom_formed p.below (fits_rule s MEMBER_CUSTOM n.MEMBER one_body p.below rule_member fits) h.1),
          (
            (λ fits. custom_formed p.below (fits_rule s ITEM_CUSTOM n.ITEM one_body p.below rule_item fits) h.1),
            (
              (λ fits. custom_formed p.below (fits_rule s ASSEMBLY_ITEM_CUSTOM n.ASSEMBLY_ITEM one_body p.below rule_assembly fits) h.1),
              (
                (λ fits. custom_formed p.below (fits_rule s PROPERTY_ITEM_CUSTOM n.PROPERTY_ITEM one_body p.below rule_property fits) h.1),
                ((λ fits. custom_formed p.below (fits_rule s EVENT_ITEM_CUSTOM n.EVENT_ITEM one_body p.below rule_event fits) h.1), tt),
              ),
            ),
          ),
        ),
      )
      p.production known h.0.range.fits
    where
      Q : ℕ → Type 0
      Q q = FitsBody s q p.below → is_plain_ref A (method_ref s a (the METHOD_REF p.below)) ≡ true

  pub attributes_formed : (ps : List Part) → AllByRecursion (IsAttribute s) ps → list_all (is_attribute A) (attributes s a ps) ≡ true
  attributes_formed [] h = refl
  attributes_formed (p ∷ ps) h =
      and_from (is_attribute A (attribute s a p.below)) (list_all (is_attribute A) (attributes s a ps)) (attribute_formed p h.0.0 h.0.1) (attributes_formed ps h.1)

  pub own_attributes_formed : (ps : List Part) → AllByRecursion (IsHeld s) ps → list_all (is_attribute A) (attributes s a (own_customs ps)) ≡ true
  own_attributes_formed ps h = attributes_formed (own_customs ps) (outside_held s false ps h)

  pub lines_formed : (rs : List Run) → AllByRecursion (IsRunOf s) rs → list_all (is_attribute A) (attributes_of s a rs) ≡ true
  lines_formed [] h = refl
  lines_formed (r ∷ rs) h =
      list_all-append (is_attribute A) (attributes s a r.customs) (attributes_of s a rs)
      ∙ and_from (list_all (is_attribute A) (attributes s a r.customs)) (list_all (is_attribute A) (attributes_of s a rs)) (attributes_formed r.customs h.0) (lines_formed rs h.1)
