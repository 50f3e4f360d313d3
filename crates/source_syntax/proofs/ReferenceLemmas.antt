-- What stands in references to methods.
use Rattle.std.proofs.Common.{◌≡◌, ℕ, ◌+◌, ◌<◌, ◌^◌, ◌⊎◌, inl, inr, List, [], ◌∷◌, ◌++◌, Option, None, Some, length, refl, ap, sym, subst, ◌∙◌, arith}
use Rattle.std.specs.Prelude.{Bool, true, false, ◌==◌, ◌||◌, if◌then◌else◌, nat_lt, ℤ, pos, negsuc, int_le}
use Rattle.std.proofs.lemmas.Bool.{ltb-true}
use Rattle.std.proofs.lemmas.Bool.Decides.{Decides-eqb}
use Rattle.type_terms.specs.declared.reference.MethodRef.{MethodRef}
use Rattle.type_terms.specs.declared.reference.MethodSig.{MethodSig}
use Rattle.type_terms.specs.declared.term.Owner.{Owner, Name, Spec}
use Rattle.type_terms.specs.declared.term.SigType.{SigType}
use Rattle.type_terms.specs.declared.name.TypeName.{TypeName}
use Rattle.il_lexer.specs.declared.types.TokenKind.TheVariants as kind
use Rattle.il_lexer.specs.declared.word.TheConstants.{DOUBLE_COLON, SLASH}
use Rattle.ilasm_grammar.specs.Grammar.{rule_of}
use Rattle.ilasm_grammar.specs.Ilasm.{ilasm, rule_by}
use Rattle.ilasm_grammar.specs.declared.nonterminals.TheConstants as n
use Rattle.ilasm_grammar.specs.declared.productions.TheConstants.{GEN_ARGS_BRACKET, METHOD_GENERICS, METHOD_REF, NAME_TAIL_SLASH, PATH, TARGET_END, TARGET_NAME, TARGET_SCOPE, TARGET_TYPE, TYPE}
use Rattle.ilasm_grammar.specs.declared.symbol.Symbol.{Symbol}
use Rattle.ilasm_grammar.specs.declared.symbol.Symbol.TheVariants.{Terminal, Nonterminal}
use Rattle.ilasm_grammar.specs.declared.terminals.TheConstants as t
use Rattle.source_model.specs.Forest.{Forest, Part, none, leaf, branch, below_each, child, each, first_or, has, is_among, is_any_part, leaf_at, part, parts, the}
use Rattle.source_model.specs.Names.{or_module, written_name}
use Rattle.source_model.specs.Nodes.{Around}
use Rattle.source_model.specs.References.{generic_arguments, generic_number, owner_of}
use Rattle.source_model.specs.Shapes.{natural}
use Rattle.source_model.specs.Source.{Source}
use Rattle.source_model.specs.TypeRules.{is_within}
use Rattle.source_model.specs.Types.{the_type, types_in}
use Rattle.source_model.specs.Values.{int_at}
use Rattle.source_nodes.specs.Derived.{Fits, FitsBody, OfEach, head_of}
use Rattle.source_syntax.specs.Places.{IsReadable, IsSound}
use Rattle.source_nodes.specs.Readers.{IsOf}
use Rattle.source_syntax.specs.Sound.{HasPath, HasSoundReference}
use Rattle.source_syntax.proofs.BodyLemmas.{any_front, fits_child, fits_has, fits_leaf, has_child, has_later, in_reference, in_signature, nowhere_below, tail_stays, target_stays}
use Rattle.source_syntax.proofs.SoundLemmas.{generic_number_fits}
use Rattle.source_syntax.proofs.TypeWalks.{has_bodies, one_type_production}
use Rattle.source_syntax.proofs.VariableLemmas.{within_in}
use Rattle.source_nodes.proofs.WrittenNames.{both_true, fits_rule, is_name, is_scope, one_in, one_path}

-- ---- what stands below a part

-- a fact of each production of a forest is one of the first of them, and of those below it
part_of_each : (P : ℕ → Forest → Type 0) (p : ℕ) (f : Forest) → OfEach P f → has p f ≡ true → P p (the p f) × OfEach P (the p f)
part_of_each P p none each e = absurd cc
part_of_each P p (leaf k a) each e = part_of_each P p a each e
part_of_each P p (branch q b a) each e = go (p == q) refl (part_of_each P p b each.1) (part_of_each P p a each.2)
  where
    go : (c : Bool) → (p == q) ≡ c → (has p b ≡ true → P p (the p b) × OfEach P (the p b)) → (has p a ≡ true → P p (the p a) × OfEach P (the p a))
        → P p (the p (branch q b a)) × OfEach P (the p (branch q b a))
    go true is below after =
        let same = (Decides-eqb p q).0 is in
        subst (λ g. P p g × OfEach P g)
        (sym (ap (λ (c : Bool). first_or none (below_each ((if c || false then part q b ∷ [] else parts (p ∷ []) b) ++ parts (p ∷ []) a))) is))
        (subst (λ r. P r b × OfEach P b) (sym same) (each.0, each.1))
    go false apart below after =
        subst (λ g. P p g × OfEach P g)
        (sym (ap (λ (c : Bool). first_or none (below_each ((if c || false then part q b ∷ [] else parts (p ∷ []) b) ++ parts (p ∷ []) a))) apart))
        (of_first (parts (p ∷ []) b) refl)
      where
        found : is_any_part (parts (p ∷ []) b ++ parts (p ∷ []) a) ≡ true
        found = sym (ap (λ (c : Bool). is_any_part ((if c || false then part q b ∷ [] else parts (p ∷ []) b) ++ parts (p ∷ []) a)) apart) ∙ e

        of_first : (ps : List Part) → parts (p ∷ []) b ≡ ps
            → P p (first_or none (below_each (parts (p ∷ []) b ++ parts (p ∷ []) a))) × OfEach P (first_or none (below_each (parts (p ∷ []) b ++ parts (p ∷ []) a)))
        of_first [] is =
            subst (λ qs. P p (first_or none (below_each (qs ++ parts (p ∷ []) a))) × OfEach P (first_or none (below_each (qs ++ parts (p ∷ []) a)))) (sym is)
            (after (sym (ap (λ qs. is_any_part (qs ++ parts (p ∷ []) a)) is) ∙ found))
        of_first (x ∷ ps) is =
            let own = below (ap is_any_part is) in
            let first : the p b ≡ first_or none (below_each (parts (p ∷ []) b ++ parts (p ∷ []) a)) =
            ap (λ qs. first_or none (below_each qs)) is ∙ sym (ap (λ qs. first_or none (below_each (qs ++ parts (p ∷ []) a))) is) in
            subst (λ g. P p g × OfEach P g) first own

pub sound_part : (P : ℕ → Forest → Type 0) (p : ℕ) (f : Forest) → OfEach P f → has p f ≡ true → P p (the p f) × OfEach P (the p f)
sound_part P p f each e = part_of_each P p f each e

no_part : (p : ℕ) (f : Forest) → has p f ≡ false → the p f ≡ none
no_part p f e = go (parts (p ∷ []) f) e
  where
    go : (ps : List Part) → is_any_part ps ≡ false → first_or none (below_each ps) ≡ none
    go [] h = refl
    go (x ∷ ps) h = absurd cc

pub of_the : (P : ℕ → Forest → Type 0) (p : ℕ) (f : Forest) → OfEach P f → OfEach P (the p f)
of_the P p f each = go (has p f) refl
  where
    go : (c : Bool) → has p f ≡ c → OfEach P (the p f)
    go true e = (part_of_each P p f each e).1
    go false e = subst (OfEach P) (sym (no_part p f e)) tt

pub of_child : (P : ℕ → Forest → Type 0) (sought : List ℕ) (f : Forest) → OfEach P f → OfEach P (child sought f)
of_child P sought none each = tt
of_child P sought (leaf k a) each = of_child P sought a each
of_child P sought (branch p b a) each = go (is_among sought p) refl (of_child P sought a each.2)
  where
    go : (c : Bool) → is_among sought p ≡ c → OfEach P (child sought a) → OfEach P (child sought (branch p b a))
    go true is after = subst (OfEach P) (sym (ap (λ (c : Bool). if c then b else child sought a) is)) each.1
    go false is after = subst (OfEach P) (sym (ap (λ (c : Bool). if c then b else child sought a) is)) after

pub child_has : (r : ℕ) (sought : List ℕ) (f : Forest) → has r (child sought f) ≡ true → has r f ≡ true
child_has r sought none e = absurd cc
child_has r sought (leaf k a) e = child_has r sought a e
child_has r sought (branch q b a) e = go (is_among sought q) refl (child_has r sought a)
  where
    go : (c : Bool) → is_among sought q ≡ c → (has r (child sought a) ≡ true → has r a ≡ true) → has r (branch q b a) ≡ true
    go true is after = below (r == q) refl (sym (ap (λ (c : Bool). has r (if c then b else child sought a)) is) ∙ e)
      where
        below : (c : Bool) → (r == q) ≡ c → has r b ≡ true → has r (branch q b a) ≡ true
        below true same h = ap (λ (c : Bool). is_any_part ((if c || false then part q b ∷ [] else parts (r ∷ []) b) ++ parts (r ∷ []) a)) same
        below false apart h =
            ap (λ (c : Bool). is_any_part ((if c || false then part q b ∷ [] else parts (r ∷ []) b) ++ parts (r ∷ []) a)) apart
            ∙ any_front (parts (r ∷ []) b) (parts (r ∷ []) a) h
    go false is after = has_later r q b a (after (sym (ap (λ (c : Bool). has r (if c then b else child sought a)) is) ∙ e))

-- ---- generic arguments

-- a number of 32 bits
number_within : (z : ℤ) → is_within (pos 1) (pos 65535) z ≡ true → (m : ℕ) × (z ≡ pos m) × (m < 2 ^ 32)
number_within (pos m) e = (m, refl, go m (both_true (int_le (pos 1) (pos m)) (int_le (pos m) (pos 65535)) e).1)
  where
    go : (m : ℕ) → int_le (pos m) (pos 65535) ≡ true → m < 2 ^ 32
    go m e = search (arith, e)
number_within (negsuc m) e = absurd cc

holds : (c : Bool) (k : ℕ) → (if c then [] else k ∷ []) ≡ [] → c ≡ true
holds true k e = refl
holds false k e = absurd cc

pub bracket_number : (s : Source) (f : Forest) → IsReadable s f → has GEN_ARGS_BRACKET f ≡ true
    → (m : ℕ) × (int_at s (leaf_at 1 (the GEN_ARGS_BRACKET f)) ≡ pos m) × (m < 2 ^ 32)
bracket_number s f each e =
    let sound = (part_of_each (IsSound s) GEN_ARGS_BRACKET f each e).0 in
    let token = leaf_at 1 (the GEN_ARGS_BRACKET f) in
    number_within (int_at s token)
    (holds (is_within (pos 1) (pos 65535) (int_at s token)) token (generic_number_fits s GEN_ARGS_BRACKET (the GEN_ARGS_BRACKET f) sound.1))

abbrev nothing : Option (List SigType)
nothing = None

module _ (s : Source) (a : Around) (f : Forest) where
  pub numbered_generics : has GEN_ARGS_BRACKET (the METHOD_GENERICS f) ≡ true
      → (generic_number s a f ≡ natural (int_at s (leaf_at 1 (the GEN_ARGS_BRACKET (the METHOD_GENERICS f))))) × (nothing ≡ generic_arguments s a f)
  numbered_generics e = (
    ap (λ (c : Bool). if c then natural (int_at s (leaf_at 1 (the GEN_ARGS_BRACKET (the METHOD_GENERICS f)))) else length (types_in s a (the METHOD_GENERICS f))) e,
    sym (ap (λ (c : Bool). if has METHOD_GENERICS f then (if c then nothing else Some (types_in s a (the METHOD_GENERICS f))) else nothing) e ∙ either (has METHOD_GENERICS f)),
  )
    where
      either : (c : Bool) → (if c then nothing else nothing) ≡ nothing
      either true = refl
      either false = refl

  pub written_generics : has GEN_ARGS_BRACKET (the METHOD_GENERICS f) ≡ false
      → (generic_number s a f ≡ length (types_in s a (the METHOD_GENERICS f)))
      × ((if has METHOD_GENERICS f then Some (types_in s a (the METHOD_GENERICS f)) else None) ≡ generic_arguments s a f)
  written_generics e = (
    ap (λ (c : Bool). if c then natural (int_at s (leaf_at 1 (the GEN_ARGS_BRACKET (the METHOD_GENERICS f)))) else length (types_in s a (the METHOD_GENERICS f))) e,
    sym (ap (λ (c : Bool). if has METHOD_GENERICS f then (if c then None else Some (types_in s a (the METHOD_GENERICS f))) else None) e),
  )

-- ---- bodies

rule_method_ref : ilasm METHOD_REF ≡ Some (rule_of n.METHOD_REF (Nonterminal n.CALL_CONV ∷ Nonterminal n.TYPE ∷ Nonterminal n.TARGET ∷ []))
unfolding ilasm rule_by
rule_method_ref = refl

rule_target_scope : ilasm TARGET_SCOPE ≡ Some (rule_of n.TARGET (Terminal t.SCOPE ∷ Nonterminal n.PATH ∷ Terminal (t.WORDS + DOUBLE_COLON) ∷ Nonterminal n.TARGET_END ∷ []))
unfolding ilasm rule_by
rule_target_scope = refl

rule_target_type : ilasm TARGET_TYPE ≡ Some (rule_of n.TARGET (Nonterminal n.TYPE ∷ Terminal (t.WORDS + DOUBLE_COLON) ∷ Nonterminal n.TARGET_END ∷ []))
unfolding ilasm rule_by
rule_target_type = refl

rule_target_name : ilasm TARGET_NAME ≡ Some (rule_of n.TARGET (Terminal t.NAME ∷ Nonterminal n.NAME_TAIL ∷ []))
unfolding ilasm rule_by
rule_target_name = refl

rule_name_tail_slash : ilasm NAME_TAIL_SLASH
    ≡ Some (rule_of n.NAME_TAIL (Terminal (t.WORDS + SLASH) ∷ Nonterminal n.PATH ∷ Terminal (t.WORDS + DOUBLE_COLON) ∷ Nonterminal n.TARGET_END ∷ []))
unfolding ilasm rule_by
rule_name_tail_slash = refl

head_target_scope : head_of TARGET_SCOPE ≡ Some n.TARGET
unfolding ilasm rule_by
head_target_scope = refl

head_target_type : head_of TARGET_TYPE ≡ Some n.TARGET
unfolding ilasm rule_by
head_target_type = refl

head_name_tail_slash : head_of NAME_TAIL_SLASH ≡ Some n.NAME_TAIL
unfolding ilasm rule_by
head_name_tail_slash = refl

one_end : (p : ℕ) → head_of p ≡ Some n.TARGET_END → p ≡ TARGET_END
unfolding ilasm
one_end p e = one_in _ _ _ n.TARGET_END TARGET_END p e refl

target_within : (p : ℕ) → head_of p ≡ Some n.TARGET → (nat_lt TARGET_SCOPE (1 + (0 + p)) ≡ true) × (nat_lt (0 + p) (1 + TARGET_NAME) ≡ true)
unfolding ilasm
target_within p e = within_in _ _ _ n.TARGET TARGET_SCOPE TARGET_NAME p e refl

differs : (p q : ℕ) → (p == q) ≡ false → p ≡ q → ⊥
differs p q e is = let also = (Decides-eqb p q).1 is in absurd cc

pub target_is : (p : ℕ) → head_of p ≡ Some n.TARGET → (p ≡ TARGET_SCOPE) ⊎ ((p ≡ TARGET_TYPE) ⊎ (p ≡ TARGET_NAME))
target_is p e = go (p == TARGET_SCOPE) refl
  where
    more : (c : Bool) → (p == TARGET_TYPE) ≡ c → (p ≡ TARGET_SCOPE → ⊥) → (p ≡ TARGET_TYPE) ⊎ (p ≡ TARGET_NAME)
    more true same apart = inl ((Decides-eqb p TARGET_TYPE).0 same)
    more false other apart =
        let w = target_within p e in
        let low = ltb-true TARGET_SCOPE (1 + (0 + p)) w.0 in
        let high = ltb-true (0 + p) (1 + TARGET_NAME) w.1 in
        inr (omega (arith, low, high, apart, differs p TARGET_TYPE other))

    go : (c : Bool) → (p == TARGET_SCOPE) ≡ c → (p ≡ TARGET_SCOPE) ⊎ ((p ≡ TARGET_TYPE) ⊎ (p ≡ TARGET_NAME))
    go true same = inl ((Decides-eqb p TARGET_SCOPE).0 same)
    go false apart = inr (more (p == TARGET_TYPE) refl (differs p TARGET_SCOPE apart))

-- ---- a reference to a method

abbrev scope_body : List Symbol
scope_body = Terminal t.SCOPE ∷ Nonterminal n.PATH ∷ Terminal (t.WORDS + DOUBLE_COLON) ∷ Nonterminal n.TARGET_END ∷ []

abbrev type_body : List Symbol
type_body = Nonterminal n.TYPE ∷ Terminal (t.WORDS + DOUBLE_COLON) ∷ Nonterminal n.TARGET_END ∷ []

abbrev name_body : List Symbol
name_body = Terminal t.NAME ∷ Nonterminal n.NAME_TAIL ∷ []

abbrev tail_body : List Symbol
tail_body = Terminal (t.WORDS + SLASH) ∷ Nonterminal n.PATH ∷ Terminal (t.WORDS + DOUBLE_COLON) ∷ Nonterminal n.TARGET_END ∷ []

abbrev ref_body : List Symbol
ref_body = Nonterminal n.CALL_CONV ∷ Nonterminal n.TYPE ∷ Nonterminal n.TARGET ∷ []

module _ (s : Source) (a : Around) (f : Forest) (sound : IsSound s METHOD_REF f) (each : IsReadable s f) where
  fits : Fits s ref_body f
  fits = fits_rule s METHOD_REF n.METHOD_REF ref_body f rule_method_ref sound.0

  pub sound_reference : HasSoundReference s f
  sound_reference =
      let ret = fits_child (IsSound s) s ref_body f n.TYPE TYPE fits each refl (λ q e h. one_type_production s a q e) in
      record {
        ret = record { fits = inr ret.0.0; each = ret.1 };
        generics = of_the (IsSound s) METHOD_GENERICS f each;
        arguments = of_the (IsSound s) _ f each;
      }

  -- its target
  scope_child : has TARGET_SCOPE f ≡ true → IsSound s TARGET_SCOPE (child (TARGET_SCOPE ∷ []) f) × IsReadable s (child (TARGET_SCOPE ∷ []) f)
  scope_child e =
      has_child (IsSound s) TARGET_SCOPE f each
      (nowhere_below in_reference n.TARGET target_stays s TARGET_SCOPE n.TARGET head_target_scope refl f ref_body fits (has_bodies s f each) refl) e

  type_child : has TARGET_TYPE f ≡ true → IsSound s TARGET_TYPE (child (TARGET_TYPE ∷ []) f) × IsReadable s (child (TARGET_TYPE ∷ []) f)
  type_child e =
      has_child (IsSound s) TARGET_TYPE f each
      (nowhere_below in_reference n.TARGET target_stays s TARGET_TYPE n.TARGET head_target_type refl f ref_body fits (has_bodies s f each) refl) e

  name_child : (has TARGET_SCOPE f ≡ true → ⊥) → (has TARGET_TYPE f ≡ true → ⊥)
      → IsSound s TARGET_NAME (child (TARGET_NAME ∷ []) f) × IsReadable s (child (TARGET_NAME ∷ []) f)
  name_child m o = fits_child (IsSound s) s ref_body f n.TARGET TARGET_NAME fits each refl only
    where
      only : (q : ℕ) → head_of q ≡ Some n.TARGET → has q f ≡ true → q ≡ TARGET_NAME
      only q e h = elim (target_is q e) [
        | inl is ↦ absurd (m (subst (λ r. has r f ≡ true) is h))
        | inr other ↦ elim other [
          | inl is ↦ absurd (o (subst (λ r. has r f ≡ true) is h))
          | inr is ↦ is
        ]
      ]

  pub scope_sound : has TARGET_SCOPE f ≡ true → IsOf s kind.Scope (leaf_at 0 (child (TARGET_SCOPE ∷ []) f)) × HasPath s (child (TARGET_SCOPE ∷ []) f)
  scope_sound e =
      let c = scope_child e in
      let g = child (TARGET_SCOPE ∷ []) f in
      let body = fits_rule s TARGET_SCOPE n.TARGET scope_body g rule_target_scope c.0.0 in (
        is_scope s (leaf_at 0 g) (fits_leaf s scope_body g body 0 t.SCOPE refl),
        fits_child (FitsBody s) s scope_body g n.PATH PATH body (has_bodies s g c.1) refl (λ q i h. one_path q i),
      )

  named_body : (has TARGET_SCOPE f ≡ true → ⊥) → (has TARGET_TYPE f ≡ true → ⊥) → Fits s (Terminal t.NAME ∷ Nonterminal n.NAME_TAIL ∷ []) (child (TARGET_NAME ∷ []) f)
  named_body m o = fits_rule s TARGET_NAME n.TARGET name_body (child (TARGET_NAME ∷ []) f) rule_target_name (name_child m o).0.0

  pub name_sound : (has TARGET_SCOPE f ≡ true → ⊥) → (has TARGET_TYPE f ≡ true → ⊥) → IsOf s kind.Name (leaf_at 0 (child (TARGET_NAME ∷ []) f))
  name_sound m o =
      let g = child (TARGET_NAME ∷ []) f in
      is_name s (leaf_at 0 g) (fits_leaf s (Terminal t.NAME ∷ Nonterminal n.NAME_TAIL ∷ []) g (named_body m o) 0 t.NAME refl)

  pub tail_sound : (has TARGET_SCOPE f ≡ true → ⊥) → (has TARGET_TYPE f ≡ true → ⊥) → has NAME_TAIL_SLASH (child (TARGET_NAME ∷ []) f) ≡ true
      → HasPath s (child (NAME_TAIL_SLASH ∷ []) (child (TARGET_NAME ∷ []) f))
  tail_sound m o e =
      let g = child (TARGET_NAME ∷ []) f in
      let readable = (name_child m o).1 in
      let c =
      has_child (IsSound s) NAME_TAIL_SLASH g readable
      (nowhere_below in_signature n.NAME_TAIL tail_stays s NAME_TAIL_SLASH n.NAME_TAIL head_name_tail_slash refl g (Terminal t.NAME ∷ Nonterminal n.NAME_TAIL ∷ [])
      (named_body m o) (has_bodies s g readable) refl) e in
      let h = child (NAME_TAIL_SLASH ∷ []) g in
      fits_child (FitsBody s) s tail_body h n.PATH PATH (fits_rule s NAME_TAIL_SLASH n.NAME_TAIL tail_body h rule_name_tail_slash c.0.0) (has_bodies s h c.1) refl (λ q i j. one_path q i)

  -- a reference that ends without `::` names a method alone
  no_scope : has TARGET_END f ≡ false → has TARGET_SCOPE f ≡ true → ⊥
  no_scope e h =
      let g = child (TARGET_SCOPE ∷ []) f in
      let some : has TARGET_END f ≡ true = child_has TARGET_END (TARGET_SCOPE ∷ []) f
      (fits_has s scope_body g n.TARGET_END TARGET_END (fits_rule s TARGET_SCOPE n.TARGET scope_body g rule_target_scope (scope_child h).0.0) refl one_end) in
      absurd cc

  no_type : has TARGET_END f ≡ false → has TARGET_TYPE f ≡ true → ⊥
  no_type e h =
      let g = child (TARGET_TYPE ∷ []) f in
      let some : has TARGET_END f ≡ true = child_has TARGET_END (TARGET_TYPE ∷ []) f
      (fits_has s type_body g n.TARGET_END TARGET_END (fits_rule s TARGET_TYPE n.TARGET type_body g rule_target_type (type_child h).0.0) refl one_end) in
      absurd cc

  pub lone_name : has TARGET_END f ≡ false → IsOf s kind.Name (leaf_at 0 (child (TARGET_NAME ∷ []) f))
  lone_name e = name_sound (no_scope e) (no_type e)

  -- ---- its owner

  pub typed_owner : (of : SigType) → has TARGET_TYPE f ≡ true → of ≡ the_type s a (child (TARGET_TYPE ∷ []) f) → Spec of ≡ owner_of s a TARGET_SCOPE TARGET_TYPE TARGET_NAME f
  typed_owner of e is =
      ap Spec is
      ∙ sym (ap (λ (c : Bool). if c then Spec (the_type s a (child (TARGET_TYPE ∷ []) f)) else if has TARGET_SCOPE f then Name (or_module s (written_name TARGET_SCOPE (child (TARGET_SCOPE ∷ []) f))) else Name (or_module s (written_name TARGET_NAME (child (TARGET_NAME ∷ []) f)))) e)

  untyped : has TARGET_TYPE f ≡ false → owner_of s a TARGET_SCOPE TARGET_TYPE TARGET_NAME f
      ≡ (if has TARGET_SCOPE f then Name (or_module s (written_name TARGET_SCOPE (child (TARGET_SCOPE ∷ []) f))) else Name (or_module s (written_name TARGET_NAME (child (TARGET_NAME ∷ []) f))))
  untyped e =
      ap (λ (c : Bool). if c then Spec (the_type s a (child (TARGET_TYPE ∷ []) f)) else if has TARGET_SCOPE f then Name (or_module s (written_name TARGET_SCOPE (child (TARGET_SCOPE ∷ []) f))) else Name (or_module s (written_name TARGET_NAME (child (TARGET_NAME ∷ []) f)))) e

  pub scoped_owner : (name : TypeName) → has TARGET_TYPE f ≡ false → has TARGET_SCOPE f ≡ true
      → name ≡ or_module s (written_name TARGET_SCOPE (child (TARGET_SCOPE ∷ []) f)) → Name name ≡ owner_of s a TARGET_SCOPE TARGET_TYPE TARGET_NAME f
  scoped_owner name m o is =
      ap (λ x. Name x) is
      ∙ sym (untyped m ∙ ap (λ (c : Bool). if c then Name (or_module s (written_name TARGET_SCOPE (child (TARGET_SCOPE ∷ []) f))) else Name (or_module s (written_name TARGET_NAME (child (TARGET_NAME ∷ []) f)))) o)

  pub named_owner : (name : TypeName) → has TARGET_TYPE f ≡ false → has TARGET_SCOPE f ≡ false
      → name ≡ or_module s (written_name TARGET_NAME (child (TARGET_NAME ∷ []) f)) → Name name ≡ owner_of s a TARGET_SCOPE TARGET_TYPE TARGET_NAME f
  named_owner name m o is =
      ap (λ x. Name x) is
      ∙ sym (untyped m ∙ ap (λ (c : Bool). if c then Name (or_module s (written_name TARGET_SCOPE (child (TARGET_SCOPE ∷ []) f))) else Name (or_module s (written_name TARGET_NAME (child (TARGET_NAME ∷ []) f)))) o)

pub not_both : (b : Bool) → b ≡ false → b ≡ true → ⊥
not_both true e h = absurd cc
not_both false e h = absurd cc

-- ---- its parts

abbrev reference : Owner → List ℕ → MethodSig → Option (List SigType) → MethodRef
reference o m g ts = record { owner = o; name = m; sig = g; args = ts }

pub same_reference : (o o' : Owner) (m m' : List ℕ) (g g' : MethodSig) (ts ts' : Option (List SigType)) → o ≡ o' → m ≡ m' → g ≡ g' → ts ≡ ts'
    → reference o m g ts ≡ reference o' m' g' ts'
same_reference o o' m m' g g' ts ts' a b c d =
    ap (λ x. reference x m g ts) a ∙ ap (λ x. reference o' x g ts) b ∙ ap (λ x. reference o' m' x ts) c ∙ ap (λ x. reference o' m' g' x) d
