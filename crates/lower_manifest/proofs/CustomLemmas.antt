-- Declarations that hold attributes.
use Rattle.std.proofs.Common.{◌≡◌, ℕ, ◌+◌, List, [], ◌∷◌, Some, refl, ap, subst, ◌∙◌}
use Rattle.std.specs.Prelude.{true, ◌==◌, slice_get}
use Rattle.std.proofs.lemmas.Bool.Decides.{Decides-eqb}
use Rattle.type_terms.specs.declared.reference.MethodRef.{MethodRef}
use Rattle.assembly_tree.specs.declared.members.Attribute.{Attribute}
use Rattle.il_lexer.specs.declared.types.TokenKind.TheVariants as kind
use Rattle.il_lexer.specs.declared.word.TheConstants as word
use Rattle.ilasm_grammar.specs.Grammar.{rule_of}
use Rattle.ilasm_grammar.specs.Ilasm.{ilasm, rule_by}
use Rattle.ilasm_grammar.specs.declared.nonterminals.TheConstants as n
use Rattle.ilasm_grammar.specs.declared.productions.TheConstants.{CUSTOM, EQ_BYTES_OPT_SOME, METHOD_REF, OVERRIDDEN_METHOD}
use Rattle.ilasm_grammar.specs.declared.symbol.Symbol.{Symbol}
use Rattle.ilasm_grammar.specs.declared.symbol.Symbol.TheVariants.{Terminal, Nonterminal}
use Rattle.ilasm_grammar.specs.declared.terminals.TheConstants as t
use Rattle.source_model.specs.Forest.{Forest, child, has, leaf_at, the}
use Rattle.source_model.specs.Manifests.{attribute}
use Rattle.source_model.specs.Nodes.{Around}
use Rattle.source_model.specs.References.{method_ref}
use Rattle.source_model.specs.Source.{Source}
use Rattle.source_nodes.specs.Derived.{Fits, FitsBody, HasBodies, head_of}
use Rattle.source_nodes.specs.Readers.{IsOf}
use Rattle.source_syntax.proofs.BodyLemmas.{fits_child, fits_has}
use Rattle.source_syntax.proofs.NameTokens.{terminals_of_rule}
use Rattle.source_syntax.proofs.ReferenceLemmas.{child_has, sound_part}
use Rattle.source_nodes.proofs.WrittenNames.{fits_rule, one_in}
use Rattle.lower_manifest.specs.Customs.{value_in}
use Rattle.source_flags.specs.InRange.{AllInRange, IsInRange}
use Rattle.lower_manifest.proofs.Tokens.{equals_at}

-- ---- what an attribute is made of

abbrev made : MethodRef → List ℕ → Attribute
made constructor value = record { constructor = constructor; value = value }

pub same_attribute : (s : Source) (a : Around) (f : Forest) (constructor : MethodRef) (value : List ℕ) → constructor ≡ method_ref s a (the METHOD_REF f)
    → value ≡ value_in s f → made constructor value ≡ attribute s a f
same_attribute s a f constructor value c v = ap (λ x. made x value) c ∙ ap (made (method_ref s a (the METHOD_REF f))) v

bytes_of_value : slice_get (terminals_of_rule (ilasm EQ_BYTES_OPT_SOME)) 0 ≡ Some t.EQ_BYTES
unfolding ilasm rule_by
bytes_of_value = refl

pub value_is_bytes : (s : Source) (f : Forest) → AllInRange s f → has EQ_BYTES_OPT_SOME f ≡ true → IsOf s kind.EqBytes (leaf_at 0 (the EQ_BYTES_OPT_SOME f))
value_is_bytes s f h some =
    equals_at s EQ_BYTES_OPT_SOME 0 (the EQ_BYTES_OPT_SOME f) bytes_of_value (sound_part (IsInRange s) EQ_BYTES_OPT_SOME f h some).0.fits

-- ---- a declaration of an attribute holds the reference to its constructor

one_custom : (p : ℕ) → head_of p ≡ Some n.CUSTOM → p ≡ CUSTOM
unfolding ilasm
one_custom p e = one_in _ _ _ n.CUSTOM CUSTOM p e refl

one_reference : (p : ℕ) → head_of p ≡ Some n.METHOD_REF → p ≡ METHOD_REF
unfolding ilasm
one_reference p e = one_in _ _ _ n.METHOD_REF METHOD_REF p e refl

abbrev custom_body : List Symbol
custom_body = Terminal (t.WORDS + word.DOT_CUSTOM) ∷ Nonterminal n.METHOD_REF ∷ Nonterminal n.EQ_BYTES_OPT ∷ []

rule_custom : ilasm CUSTOM ≡ Some (rule_of n.CUSTOM custom_body)
unfolding ilasm rule_by
rule_custom = refl

abbrev pub one_body : List Symbol
one_body = Nonterminal n.CUSTOM ∷ []

pub holds_method : (s : Source) (f : Forest) → Fits s one_body f → HasBodies s f → has METHOD_REF f ≡ true
holds_method s f fits bodies =
    let own = fits_child (FitsBody s) s one_body f n.CUSTOM CUSTOM fits bodies refl (λ q i j. one_custom q i) in
    let below = child (CUSTOM ∷ []) f in
    child_has METHOD_REF (CUSTOM ∷ []) f
    (fits_has s custom_body below n.METHOD_REF METHOD_REF (fits_rule s CUSTOM n.CUSTOM custom_body below rule_custom own.0) refl one_reference)

-- and so does a whole reference to a method that is overridden
abbrev overridden_body : List Symbol
overridden_body = Terminal (t.WORDS + word.METHOD) ∷ Nonterminal n.METHOD_REF ∷ []

rule_overridden : ilasm OVERRIDDEN_METHOD ≡ Some (rule_of n.OVERRIDDEN overridden_body)
unfolding ilasm rule_by
rule_overridden = refl

pub overridden_has : (s : Source) (p : ℕ) (f : Forest) → (p == OVERRIDDEN_METHOD) ≡ true → FitsBody s p f → has METHOD_REF f ≡ true
overridden_has s p f e h =
    let fits = subst (λ q. FitsBody s q f) ((Decides-eqb p OVERRIDDEN_METHOD).0 e) h in
    fits_has s overridden_body f n.METHOD_REF METHOD_REF (fits_rule s OVERRIDDEN_METHOD n.OVERRIDDEN overridden_body f rule_overridden fits) refl one_reference
