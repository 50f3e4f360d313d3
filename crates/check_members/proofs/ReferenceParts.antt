-- What stands in a reference to a method, from the bodies of its productions alone.
use Rattle.std.proofs.Common.{◌≡◌, ℕ, ◌+◌, inl, inr, List, [], ◌∷◌, refl, ap, sym, subst, ◌∙◌}
use Rattle.std.specs.Prelude.{Bool, true, false, Some, if◌then◌else◌}
use Rattle.type_terms.specs.declared.name.TypeId.{TypeId}
use Rattle.type_terms.specs.declared.name.TypeName.{TypeName}
use Rattle.type_terms.specs.declared.term.Owner.{Owner, Name, Spec, out-Owner}
use Rattle.type_terms.specs.declared.term.Owner.TheVariants as owner
use Rattle.il_lexer.specs.declared.types.TokenKind.TheVariants as kind
use Rattle.il_lexer.specs.declared.word.TheConstants.{DOUBLE_COLON, SLASH}
use Rattle.ilasm_grammar.specs.Grammar.{rule_of}
use Rattle.ilasm_grammar.specs.Ilasm.{ilasm, rule_by}
use Rattle.ilasm_grammar.specs.declared.nonterminals.TheConstants as n
use Rattle.ilasm_grammar.specs.declared.productions.TheConstants.{METHOD_REF, NAME_TAIL_SLASH, PATH, TARGET_END, TARGET_NAME, TARGET_SCOPE, TARGET_TYPE}
use Rattle.ilasm_grammar.specs.declared.symbol.Symbol.{Symbol}
use Rattle.ilasm_grammar.specs.declared.symbol.Symbol.TheVariants.{Terminal, Nonterminal}
use Rattle.ilasm_grammar.specs.declared.terminals.TheConstants as t
use Rattle.source_model.specs.Forest.{Forest, child, has, leaf_at}
use Rattle.source_model.specs.Names.{or_module, written_name}
use Rattle.source_model.specs.Nodes.{Around}
use Rattle.source_model.specs.References.{owner_of}
use Rattle.source_model.specs.Source.{Source}
use Rattle.source_model.specs.Types.{the_type}
use Rattle.source_model.specs.Undeclared.{is_class_named, names_this_class}
use Rattle.source_nodes.specs.Derived.{Fits, FitsBody, HasBodies, head_of}
use Rattle.source_nodes.specs.Readers.{IsOf}
use Rattle.source_syntax.specs.Sound.{HasPath}
use Rattle.source_syntax.proofs.BodyLemmas.{fits_child, fits_has, fits_leaf, has_child, in_reference, in_signature, nowhere_below, tail_stays, target_stays}
use Rattle.source_syntax.proofs.ReferenceLemmas.{child_has, target_is}
use Rattle.source_nodes.proofs.WrittenNames.{fits_rule, is_name, is_scope, one_in, one_path}
use Rattle.check_members.specs.OwnMethods.{is_path_here}

-- ---- the bodies

abbrev scope_body : List Symbol
scope_body = Terminal t.SCOPE ∷ Nonterminal n.PATH ∷ Terminal (t.WORDS + DOUBLE_COLON) ∷ Nonterminal n.TARGET_END ∷ []

abbrev type_body : List Symbol
type_body = Nonterminal n.TYPE ∷ Terminal (t.WORDS + DOUBLE_COLON) ∷ Nonterminal n.TARGET_END ∷ []

abbrev name_body : List Symbol
name_body = Terminal t.NAME ∷ Nonterminal n.NAME_TAIL ∷ []

abbrev tail_body : List Symbol
tail_body = Terminal (t.WORDS + SLASH) ∷ Nonterminal n.PATH ∷ Terminal (t.WORDS + DOUBLE_COLON) ∷ Nonterminal n.TARGET_END ∷ []

abbrev ref_body : List Symbol
ref_body = Nonterminal n.CALL_CONV ∷ Nonterminal n.TYPE ∷ Nonterminal n.TARGET ∷ []

rule_method_ref : ilasm METHOD_REF ≡ Some (rule_of n.METHOD_REF ref_body)
unfolding ilasm rule_by
rule_method_ref = refl

rule_target_scope : ilasm TARGET_SCOPE ≡ Some (rule_of n.TARGET scope_body)
unfolding ilasm rule_by
rule_target_scope = refl

rule_target_type : ilasm TARGET_TYPE ≡ Some (rule_of n.TARGET type_body)
unfolding ilasm rule_by
rule_target_type = refl

rule_target_name : ilasm TARGET_NAME ≡ Some (rule_of n.TARGET name_body)
unfolding ilasm rule_by
rule_target_name = refl

rule_name_tail_slash : ilasm NAME_TAIL_SLASH ≡ Some (rule_of n.NAME_TAIL tail_body)
unfolding ilasm rule_by
rule_name_tail_slash = refl

head_target_scope : head_of TARGET_SCOPE ≡ Some n.TARGET
unfolding ilasm rule_by
head_target_scope = refl

head_target_type : head_of TARGET_TYPE ≡ Some n.TARGET
unfolding ilasm rule_by
head_target_type = refl

head_name_tail_slash : head_of NAME_TAIL_SLASH ≡ Some n.NAME_TAIL
unfolding ilasm rule_by
head_name_tail_slash = refl

one_end : (p : ℕ) → head_of p ≡ Some n.TARGET_END → p ≡ TARGET_END
unfolding ilasm
one_end p e = one_in _ _ _ n.TARGET_END TARGET_END p e refl

-- ---- the target

module _ (s : Source) (f : Forest) (whole : FitsBody s METHOD_REF f) (each : HasBodies s f) where
  fits : Fits s ref_body f
  fits = fits_rule s METHOD_REF n.METHOD_REF ref_body f rule_method_ref whole

  scope_child : has TARGET_SCOPE f ≡ true → FitsBody s TARGET_SCOPE (child (TARGET_SCOPE ∷ []) f) × HasBodies s (child (TARGET_SCOPE ∷ []) f)
  scope_child e =
      has_child (FitsBody s) TARGET_SCOPE f each
      (nowhere_below in_reference n.TARGET target_stays s TARGET_SCOPE n.TARGET head_target_scope refl f ref_body fits each refl) e

  type_child : has TARGET_TYPE f ≡ true → FitsBody s TARGET_TYPE (child (TARGET_TYPE ∷ []) f) × HasBodies s (child (TARGET_TYPE ∷ []) f)
  type_child e =
      has_child (FitsBody s) TARGET_TYPE f each
      (nowhere_below in_reference n.TARGET target_stays s TARGET_TYPE n.TARGET head_target_type refl f ref_body fits each refl) e

  name_child : (has TARGET_SCOPE f ≡ true → ⊥) → (has TARGET_TYPE f ≡ true → ⊥)
      → FitsBody s TARGET_NAME (child (TARGET_NAME ∷ []) f) × HasBodies s (child (TARGET_NAME ∷ []) f)
  name_child m o = fits_child (FitsBody s) s ref_body f n.TARGET TARGET_NAME fits each refl only
    where
      only : (q : ℕ) → head_of q ≡ Some n.TARGET → has q f ≡ true → q ≡ TARGET_NAME
      only q e h = elim (target_is q e) [
        | inl is ↦ absurd (m (subst (λ r. has r f ≡ true) is h))
        | inr other ↦ elim other [
          | inl is ↦ absurd (o (subst (λ r. has r f ≡ true) is h))
          | inr is ↦ is
        ]
      ]

  pub scope_sound : has TARGET_SCOPE f ≡ true → IsOf s kind.Scope (leaf_at 0 (child (TARGET_SCOPE ∷ []) f)) × HasPath s (child (TARGET_SCOPE ∷ []) f)
  scope_sound e =
      let c = scope_child e in
      let g = child (TARGET_SCOPE ∷ []) f in
      let body = fits_rule s TARGET_SCOPE n.TARGET scope_body g rule_target_scope c.0 in (
        is_scope s (leaf_at 0 g) (fits_leaf s scope_body g body 0 t.SCOPE refl),
        fits_child (FitsBody s) s scope_body g n.PATH PATH body c.1 refl (λ q i h. one_path q i),
      )

  named_body : (has TARGET_SCOPE f ≡ true → ⊥) → (has TARGET_TYPE f ≡ true → ⊥) → Fits s name_body (child (TARGET_NAME ∷ []) f)
  named_body m o = fits_rule s TARGET_NAME n.TARGET name_body (child (TARGET_NAME ∷ []) f) rule_target_name (name_child m o).0

  pub name_sound : (has TARGET_SCOPE f ≡ true → ⊥) → (has TARGET_TYPE f ≡ true → ⊥) → IsOf s kind.Name (leaf_at 0 (child (TARGET_NAME ∷ []) f))
  name_sound m o =
      let g = child (TARGET_NAME ∷ []) f in
      is_name s (leaf_at 0 g) (fits_leaf s name_body g (named_body m o) 0 t.NAME refl)

  pub tail_sound : (has TARGET_SCOPE f ≡ true → ⊥) → (has TARGET_TYPE f ≡ true → ⊥) → has NAME_TAIL_SLASH (child (TARGET_NAME ∷ []) f) ≡ true
      → HasPath s (child (NAME_TAIL_SLASH ∷ []) (child (TARGET_NAME ∷ []) f))
  tail_sound m o e =
      let g = child (TARGET_NAME ∷ []) f in
      let bodies = (name_child m o).1 in
      let c =
      has_child (FitsBody s) NAME_TAIL_SLASH g bodies
      (nowhere_below in_signature n.NAME_TAIL tail_stays s NAME_TAIL_SLASH n.NAME_TAIL head_name_tail_slash refl g name_body (named_body m o) bodies refl) e in
      let h = child (NAME_TAIL_SLASH ∷ []) g in
      fits_child (FitsBody s) s tail_body h n.PATH PATH (fits_rule s NAME_TAIL_SLASH n.NAME_TAIL tail_body h rule_name_tail_slash c.0) c.1 refl (λ q i j. one_path q i)

  -- a reference that ends without `::` names a method alone
  no_scope : has TARGET_END f ≡ false → has TARGET_SCOPE f ≡ true → ⊥
  no_scope e h =
      let g = child (TARGET_SCOPE ∷ []) f in
      let some : has TARGET_END f ≡ true = child_has TARGET_END (TARGET_SCOPE ∷ []) f
      (fits_has s scope_body g n.TARGET_END TARGET_END (fits_rule s TARGET_SCOPE n.TARGET scope_body g rule_target_scope (scope_child h).0) refl one_end) in
      absurd cc

  no_type : has TARGET_END f ≡ false → has TARGET_TYPE f ≡ true → ⊥
  no_type e h =
      let g = child (TARGET_TYPE ∷ []) f in
      let some : has TARGET_END f ≡ true = child_has TARGET_END (TARGET_TYPE ∷ []) f
      (fits_has s type_body g n.TARGET_END TARGET_END (fits_rule s TARGET_TYPE n.TARGET type_body g rule_target_type (type_child h).0) refl one_end) in
      absurd cc

  pub lone_name : has TARGET_END f ≡ false → IsOf s kind.Name (leaf_at 0 (child (TARGET_NAME ∷ []) f))
  lone_name e = name_sound (no_scope e) (no_type e)

-- ---- the owner

module _ (s : Source) (a : Around) (f : Forest) where
  untyped : has TARGET_TYPE f ≡ false → owner_of s a TARGET_SCOPE TARGET_TYPE TARGET_NAME f
      ≡ (if has TARGET_SCOPE f then Name (or_module s (written_name TARGET_SCOPE (child (TARGET_SCOPE ∷ []) f))) else Name (or_module s (written_name TARGET_NAME (child (TARGET_NAME ∷ []) f))))
  untyped e =
      ap (λ (c : Bool). if c then Spec (the_type s a (child (TARGET_TYPE ∷ []) f)) else if has TARGET_SCOPE f then Name (or_module s (written_name TARGET_SCOPE (child (TARGET_SCOPE ∷ []) f))) else Name (or_module s (written_name TARGET_NAME (child (TARGET_NAME ∷ []) f)))) e

  pub scoped_owner : (name : TypeName) → has TARGET_TYPE f ≡ false → has TARGET_SCOPE f ≡ true
      → name ≡ or_module s (written_name TARGET_SCOPE (child (TARGET_SCOPE ∷ []) f)) → Name name ≡ owner_of s a TARGET_SCOPE TARGET_TYPE TARGET_NAME f
  scoped_owner name m o is =
      ap (λ x. Name x) is
      ∙ sym (untyped m ∙ ap (λ (c : Bool). if c then Name (or_module s (written_name TARGET_SCOPE (child (TARGET_SCOPE ∷ []) f))) else Name (or_module s (written_name TARGET_NAME (child (TARGET_NAME ∷ []) f)))) o)

  pub named_owner : (name : TypeName) → has TARGET_TYPE f ≡ false → has TARGET_SCOPE f ≡ false
      → name ≡ or_module s (written_name TARGET_NAME (child (TARGET_NAME ∷ []) f)) → Name name ≡ owner_of s a TARGET_SCOPE TARGET_TYPE TARGET_NAME f
  named_owner name m o is =
      ap (λ x. Name x) is
      ∙ sym (untyped m ∙ ap (λ (c : Bool). if c then Name (or_module s (written_name TARGET_SCOPE (child (TARGET_SCOPE ∷ []) f))) else Name (or_module s (written_name TARGET_NAME (child (TARGET_NAME ∷ []) f)))) o)

  -- a type that is no name alone is no class of the source
  pub not_this_class : has TARGET_TYPE f ≡ true → false ≡ names_this_class s a f
  not_this_class e =
      sym (ap (λ (c : Bool). is_class_named a.path (out-Owner (if c then Spec (the_type s a (child (TARGET_TYPE ∷ []) f))
      else if has TARGET_SCOPE f then Name (or_module s (written_name TARGET_SCOPE (child (TARGET_SCOPE ∷ []) f)))
      else Name (or_module s (written_name TARGET_NAME (child (TARGET_NAME ∷ []) f)))))) e
      ∙ ap (is_class_named a.path) (owner.outs-Spec (the_type s a (child (TARGET_TYPE ∷ []) f))))

  pub this_class : (name : TypeName) (path : List TypeId) → a.path ≡ path → Name name ≡ owner_of s a TARGET_SCOPE TARGET_TYPE TARGET_NAME f
      → is_path_here path name ≡ names_this_class s a f
  this_class name path here is =
      ap (λ p. is_path_here p name) (sym here)
      ∙ sym (ap (is_class_named a.path) (owner.outs-Name name))
      ∙ ap (λ (o : Owner). is_class_named a.path (out-Owner o)) is
