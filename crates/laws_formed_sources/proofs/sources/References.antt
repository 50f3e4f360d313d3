-- The references that a faultless source writes are well formed (ECMA-335 II.15.3, II.22.25).
use Rattle.std.proofs.Common.{◌≡◌, ℕ, suc, ◌+◌, ◌<◌, ◌≤◌, inl, inr, List, [], ◌∷◌, ◌++◌, Option, None, Some, length, map, refl, ap, sym, subst, ◌∙◌, arith, append-nil, length-append, nat_lt}
use Rattle.std.specs.Prelude.{Bool, true, false, ◌==◌, ◌||◌, if◌then◌else◌, ℤ, pos, negsuc, int_le, is_none}
use Rattle.std.specs.List.{AllByRecursion, list_all}
use Rattle.std.proofs.lemmas.Bool.{and_from, cases_Bool, lt-ltb}
use Rattle.std.proofs.lemmas.Bool.Decides.{Decides-eqb}
use Rattle.std.proofs.lemmas.List.{length-map}
use Rattle.std.proofs.lemmas.Option.{same_Some}
use Rattle.il_lexer.specs.Lexing.{Lexes}
use Rattle.il_lexer.specs.Longest.{LongestSpelling}
use Rattle.il_lexer.specs.Unplaced.{ReadsAsItLexes}
use Rattle.il_lexer.specs.declared.types.TokenKind.TheVariants as kind
use Rattle.type_terms.specs.declared.name.TypeName.{TypeName}
use Rattle.type_terms.specs.declared.term.Owner.{Owner, Name, Spec}
use Rattle.type_terms.specs.declared.term.SigType.{SigType}
use Rattle.assembly_tree.specs.declared.assembly.Assembly.{Assembly}
use Rattle.assembly_tree.specs.WellFormedNames.{is_name, is_type_name, option_all}
use Rattle.assembly_tree.specs.WellFormedTerms.{are_arguments, is_count, is_field_ref, is_method_ref, is_owner, is_plain_ref, is_sentinel_inside, is_signature, is_type}
use Rattle.assembly_tree.proofs.FormedFacts.{field_refs_named, method_refs_named, signatures_named}
use Rattle.ilasm_grammar.specs.Grammar.{rule_of}
use Rattle.ilasm_grammar.specs.Ilasm.{ilasm, rule_by}
use Rattle.ilasm_grammar.specs.declared.nonterminals.TheConstants as n
use Rattle.ilasm_grammar.specs.declared.productions.TheConstants.{DEF_ARG, FIELD_REF, FIELD_TAIL_DOUBLE_COLON, FIELD_TAIL_SLASH, FIELD_TARGET_NAME, FIELD_TARGET_SCOPE, FIELD_TARGET_TYPE, GEN_ARGS_BRACKET, GEN_ARGS_TYPE, METHOD_GENERICS, METHOD_NAME_CCTOR, METHOD_NAME_CTOR, METHOD_NAME_NAME, METHOD_REF, NAME_TAIL_DOUBLE_COLON, NAME_TAIL_SLASH, PATH, SIGNATURE, TARGET_END, TARGET_NAME, TARGET_SCOPE, TARGET_TYPE, TYPE}
use Rattle.ilasm_grammar.specs.declared.symbol.Symbol.{Symbol}
use Rattle.ilasm_grammar.specs.declared.symbol.Symbol.TheVariants.{Terminal, Nonterminal}
use Rattle.ilasm_grammar.specs.declared.terminals.TheConstants as t
use Rattle.il_lexer.specs.declared.word.TheConstants.{GREATER, LESS}
use Rattle.source_model.specs.Forest.{Forest, Part, none, leaf, branch, below_each, child, each, first_or, has, is_among, is_any_part, last_token, leaf_at, part, parts, the}
use Rattle.source_model.specs.Names.{Written, name_and_tail, or_module, path_tokens, with_scope, written_name}
use Rattle.source_model.specs.Nodes.{Around}
use Rattle.source_model.specs.References.{argument_types, arguments, before_ellipsis, field_ref, generic_arguments, generic_number, method_name, method_name_parts, method_ref, owner_of, reference_name, reference_signature, sentinel_within, text_of_method_name}
use Rattle.source_model.specs.Shapes.{natural}
use Rattle.source_model.specs.Signatures.{generic_arguments_token}
use Rattle.source_model.specs.Source.{Source, spelling}
use Rattle.source_model.specs.TypeRules.{is_within}
use Rattle.source_model.specs.Types.{the_type, type_of, types_in}
use Rattle.source_model.specs.Values.{int_at, name_text}
use Rattle.source_nodes.specs.Derived.{Fits, FitsBody, head_of}
use Rattle.source_syntax.specs.Places.{IsReadable}
use Rattle.source_nodes.specs.Readers.{IsOf}
use Rattle.source_syntax.specs.Sound.{HasPath}
use Rattle.source_syntax.proofs.BodyLemmas.{field_target_stays, fits_child, goes_on_with, has_child, in_reference, nowhere_below, target_stays}
use Rattle.source_syntax.proofs.FieldLemmas as field
use Rattle.source_syntax.proofs.MethodNames.{is_cctor, is_ctor, is_named}
use Rattle.source_syntax.proofs.ReferenceLemmas as method
use Rattle.source_syntax.proofs.ReferenceLemmas.{of_child, of_the, sound_part}
use Rattle.source_syntax.proofs.SoundLemmas.{generic_number_fits, signature_fits}
use Rattle.source_syntax.proofs.TypeLemmas.{types_at, types_leaf, types_none, types_own}
use Rattle.source_syntax.proofs.TypeWalks.{one_type_production}
use Rattle.source_nodes.proofs.WrittenNames.{both_true, fits_rule}
use Rattle.source_flags.proofs.Gathered.{IsSought, of_parts}
use Rattle.laws_formed_sources.specs.sources.Productions.{AllFaultless, IsFaultlessAt}
use Rattle.laws_formed_sources.proofs.sources.Rules.{among_these, fits_some, for_each}
use Rattle.laws_formed_sources.proofs.sources.Signatures.{argument_count, arguments_formed, at_most, below_append, child_type_formed, count_is, explicit_fits, few_arguments, the_type_formed}
use Rattle.laws_formed_sources.proofs.sources.Types.{bodies_of, sound_of}
use Rattle.laws_formed_sources.proofs.sources.WrittenTypes.{AreNames, path_named}

pub readable_of : (s : Source) (f : Forest) → AllFaultless s f → IsReadable s f
readable_of s none h = tt
readable_of s (leaf k a) h = readable_of s a h
readable_of s (branch p b a) h = (sound_of s p b h.0, readable_of s b h.1, readable_of s a h.2)

pub no_part : (p : ℕ) (f : Forest) → has p f ≡ false → the p f ≡ none
no_part p f e = go (parts (p ∷ []) f) e
  where
    go : (ps : List Part) → is_any_part ps ≡ false → first_or none (below_each ps) ≡ none
    go [] h = refl
    go (x ∷ ps) h = absurd cc

-- ---- names of methods

abbrev names : List ℕ
names = METHOD_NAME_NAME ∷ METHOD_NAME_CTOR ∷ METHOD_NAME_CCTOR ∷ []

method_names : (p : ℕ) → head_of p ≡ Some n.METHOD_NAME → is_among names p ≡ true
unfolding ilasm
method_names p e = among_these _ _ _ n.METHOD_NAME names p e refl

module _ (longest : LongestSpelling) (reads : ReadsAsItLexes) (s : Source) (lexes : Lexes s.bytes s.tokens)
    (named : (k : ℕ) → IsOf s kind.Name k → is_name (name_text s k) ≡ true) where
  part_named : (q : Part) → IsSought (IsFaultlessAt s) names q
      → is_name (if q.production == METHOD_NAME_NAME then name_text s (leaf_at 0 q.below) else spelling s (leaf_at 0 q.below)) ≡ true
  part_named q h =
      for_each Q names (
        (λ fits. named (leaf_at 0 q.below) (is_named s q.below fits)),
        (
          (λ fits. ap is_name (sym (is_ctor longest reads s q.below lexes fits))),
          ((λ fits. ap is_name (sym (is_cctor longest reads s q.below lexes fits))), tt),
        ),
      )
      q.production h.0 h.1.range.fits
    where
      Q : ℕ → Type 0
      Q p = FitsBody s p q.below → is_name (if p == METHOD_NAME_NAME then name_text s (leaf_at 0 q.below) else spelling s (leaf_at 0 q.below)) ≡ true

  pub method_named : (f : Forest) (body : List Symbol) → Fits s body f → AllFaultless s f → goes_on_with n.METHOD_NAME body ≡ true → is_name (method_name s f) ≡ true
  method_named f body fits all e =
      go (method_name_parts f) (fits_some s names n.METHOD_NAME method_names body f fits e) (of_parts (IsFaultlessAt s) names f all)
    where
      go : (ps : List Part) → is_any_part ps ≡ true → AllByRecursion (IsSought (IsFaultlessAt s) names) ps → is_name (text_of_method_name s ps) ≡ true
      go [] some h = absurd cc
      go (q ∷ qs) some h = part_named q h.0

-- ---- generic arguments

types_are_each : (s : Source) (a : Around) (f : Forest) → length (types_in s a f) ≡ length (each TYPE f)
types_are_each s a none = ap length (types_none s a)
types_are_each s a (leaf k f) = ap length (types_leaf s a k f) ∙ types_are_each s a f
types_are_each s a (branch p b f) =
    let below = types_are_each s a b in
    let after = types_are_each s a f in
    elim (cases_Bool (TYPE == p)) [
      | inl is ↦
          let turned : (p == TYPE) ≡ true = (Decides-eqb p TYPE).1 (sym ((Decides-eqb TYPE p).0 is)) in
          let here : length (types_in s a (branch p b f)) ≡ suc (length (types_in s a f)) =
          ap length (types_at s a p b f) ∙ ap (λ (c : Bool). length ((if c then type_of s a b ∷ [] else types_in s a b) ++ types_in s a f)) turned in
          let there : length (each TYPE (branch p b f)) ≡ suc (length (each TYPE f)) =
          ap (λ (c : Bool). length (below_each ((if c || false then part p b ∷ [] else parts (TYPE ∷ []) b) ++ parts (TYPE ∷ []) f))) is in
          omega (arith, here, there, after)
      | inr other ↦
          let turned : (p == TYPE) ≡ false = flip p other in
          let here : length (types_in s a (branch p b f)) ≡ length (types_in s a b ++ types_in s a f) =
          ap length (types_at s a p b f) ∙ ap (λ (c : Bool). length ((if c then type_of s a b ∷ [] else types_in s a b) ++ types_in s a f)) turned in
          let there : length (each TYPE (branch p b f)) ≡ length (each TYPE b ++ each TYPE f) =
          ap (λ (c : Bool). length (below_each ((if c || false then part p b ∷ [] else parts (TYPE ∷ []) b) ++ parts (TYPE ∷ []) f))) other
          ∙ ap length (below_append (parts (TYPE ∷ []) b) (parts (TYPE ∷ []) f)) in
          omega (arith, here, there, below, after, length-append (types_in s a b) (types_in s a f), length-append (each TYPE b) (each TYPE f))
    ]
  where
    flip : (p : ℕ) → (TYPE == p) ≡ false → (p == TYPE) ≡ false
    flip p e = elim (cases_Bool (p == TYPE)) [
      | inl same ↦ let also = (Decides-eqb TYPE p).1 (sym ((Decides-eqb p TYPE).0 same)) in absurd cc
      | inr apart ↦ apart
    ]

abbrev generics_body : List Symbol
generics_body = Terminal (t.WORDS + LESS) ∷ Nonterminal n.GEN_ARGS ∷ Terminal (t.WORDS + GREATER) ∷ []

rule_generics : ilasm METHOD_GENERICS ≡ Some (rule_of n.METHOD_GENERICS generics_body)
unfolding ilasm rule_by
rule_generics = refl

abbrev types_body : List Symbol
types_body = Nonterminal n.TYPE ∷ Nonterminal n.COMMA_TYPE_STAR ∷ []

rule_types : ilasm GEN_ARGS_TYPE ≡ Some (rule_of n.GEN_ARGS types_body)
unfolding ilasm rule_by
rule_types = refl

gen_args : (p : ℕ) → head_of p ≡ Some n.GEN_ARGS → is_among (GEN_ARGS_BRACKET ∷ GEN_ARGS_TYPE ∷ []) p ≡ true
unfolding ilasm
gen_args p e = among_these _ _ _ n.GEN_ARGS (GEN_ARGS_BRACKET ∷ GEN_ARGS_TYPE ∷ []) p e refl

count_of_number : (z : ℤ) → is_within (pos 1) (pos 65535) z ≡ true → is_count (natural z) ≡ true
count_of_number (pos m) e = go m (both_true (int_le (pos 1) (pos m)) (int_le (pos m) (pos 65535)) e).1
  where
    go : (m : ℕ) → int_le (pos m) (pos 65535) ≡ true → is_count m ≡ true
    go m e = search (arith, e)
count_of_number (negsuc m) e = refl

unless : (c : Bool) (k : ℕ) → (if c then [] else k ∷ []) ≡ [] → c ≡ true
unless true k e = refl
unless false k e = absurd cc

module _ (s : Source) (a : Around) where
  -- written types are some, and not too many
  abbrev SomeTypes : Forest → Type 0
  SomeTypes g = has GEN_ARGS_BRACKET g ≡ false → (0 < length (types_in s a g)) × (length (types_in s a g) ≤ 65535)

  first_type_there : (b : Forest) → Fits s types_body b → 0 < length (types_in s a b)
  first_type_there none h = absurd h
  first_type_there (leaf k c) h = absurd h
  first_type_there (branch p c d) h =
      subst (λ q. 0 < length (types_in s a (branch q c d))) (sym (one_type_production s a p h.0)) (let l = ap length (types_own s a c d) in omega (arith, l))

  some_types : (g : Forest) → Fits s generics_body g → AllFaultless s g → SomeTypes g
  some_types none h all = absurd h
  some_types (branch p b c) h all = absurd h
  some_types (leaf k none) h all = absurd h.1
  some_types (leaf k (leaf l c)) h all = absurd h.1
  some_types (leaf k (branch p b none)) h all = absurd h.1.1
  some_types (leaf k (branch p b (branch q d e))) h all = absurd h.1.1
  some_types (leaf k (branch p b (leaf l (leaf m c)))) h all = absurd h.1.1.1
  some_types (leaf k (branch p b (leaf l (branch q d e)))) h all = absurd h.1.1.1
  some_types (leaf k (branch p b (leaf l none))) h all =
      for_each Q (GEN_ARGS_BRACKET ∷ GEN_ARGS_TYPE ∷ []) ((λ own e. absurd cc), (by_types, tt)) p (gen_args p h.1.0) all.0
    where
      Q : ℕ → Type 0
      Q q = IsFaultlessAt s q b → SomeTypes (leaf k (branch q b (leaf l none)))

      by_types : IsFaultlessAt s GEN_ARGS_TYPE b → SomeTypes (leaf k (branch GEN_ARGS_TYPE b (leaf l none)))
      by_types own e =
          let body = fits_rule s GEN_ARGS_TYPE n.GEN_ARGS types_body b rule_types own.range.fits in
          let few = at_most (each TYPE b) (generic_number_fits s GEN_ARGS_TYPE b (signature_fits s GEN_ARGS_TYPE b own.range.types)) in
          let same : types_in s a (leaf k (branch GEN_ARGS_TYPE b (leaf l none))) ≡ types_in s a b =
          types_leaf s a k (branch GEN_ARGS_TYPE b (leaf l none)) ∙ types_at s a GEN_ARGS_TYPE b (leaf l none)
          ∙ ap (λ ts. types_in s a b ++ ts) (types_leaf s a l none ∙ types_none s a) ∙ append-nil (types_in s a b) in
          let long = ap length same in
          (omega (arith, long, first_type_there b body), omega (arith, long, few, types_are_each s a b))

module _ (s : Source) (a : Around) (A : Assembly)
    (types_formed : (f : Forest) → AllFaultless s f → list_all (is_type A) (types_in s a f) ≡ true) (f : Forest) (all : AllFaultless s f) where
  abbrev generics : Forest
  generics = the METHOD_GENERICS f

  pub record GenericsFormed : Type 0 where
    pub count : is_count (generic_number s a f) ≡ true
    pub arguments : are_arguments (generic_number s a f) (generic_arguments s a f) ≡ true
    pub args : option_all (list_all (is_type A)) (generic_arguments s a f) ≡ true

  given : (ts : List SigType) (n : ℕ) → 0 < length ts → n ≡ length ts → are_arguments n (Some ts) ≡ true
  given ts n some e = and_from (nat_lt 0 (length ts)) (length ts == n) (lt-ltb 0 (length ts) some) ((Decides-eqb (length ts) n).1 (sym e))

  pub generics_formed : GenericsFormed
  generics_formed = elim (cases_Bool (has GEN_ARGS_BRACKET generics)) [
    | inl numbered ↦
        let own = (sound_part (IsFaultlessAt s) GEN_ARGS_BRACKET generics (of_the (IsFaultlessAt s) METHOD_GENERICS f all) numbered).0 in
        let k = leaf_at 1 (the GEN_ARGS_BRACKET generics) in
        let within = unless (is_within (pos 1) (pos 65535) (int_at s k)) k (generic_number_fits s GEN_ARGS_BRACKET (the GEN_ARGS_BRACKET generics) (signature_fits s GEN_ARGS_BRACKET (the GEN_ARGS_BRACKET generics) own.range.types)) in
        let is = method.numbered_generics s a f numbered in
        record {
          count = ap is_count is.0 ∙ count_of_number (int_at s k) within;
          arguments = ap (are_arguments (generic_number s a f)) (sym is.1);
          args = ap (option_all (list_all (is_type A))) (sym is.1);
        }
    | inr written ↦
        let is = method.written_generics s a f written in
        elim (cases_Bool (has METHOD_GENERICS f)) [
          | inl some ↦
              let own = sound_part (IsFaultlessAt s) METHOD_GENERICS f all some in
              let h = some_types s a generics (fits_rule s METHOD_GENERICS n.METHOD_GENERICS generics_body generics rule_generics own.0.range.fits) own.1 written in
              let args : Some (types_in s a generics) ≡ generic_arguments s a f = sym (ap (λ (c : Bool). if c then Some (types_in s a generics) else None) some) ∙ is.1 in
              record {
                count = ap is_count is.0 ∙ count_is (length (types_in s a generics)) h.1;
                arguments = ap (are_arguments (generic_number s a f)) (sym args) ∙ given (types_in s a generics) (generic_number s a f) h.0 is.0;
                args = ap (option_all (list_all (is_type A))) (sym args) ∙ types_formed generics own.1;
              }
          | inr absent ↦
              let args : None ≡ generic_arguments s a f = sym (ap (λ (c : Bool). if c then Some (types_in s a generics) else None) absent) ∙ is.1 in
              let nothing = ap length (ap (types_in s a) (no_part METHOD_GENERICS f absent) ∙ types_none s a) in
              record {
                count = ap is_count is.0 ∙ count_is (length (types_in s a generics)) (omega (arith, nothing));
                arguments = ap (are_arguments (generic_number s a f)) (sym args);
                args = ap (option_all (list_all (is_type A))) (sym args);
              }
        ]
  ]

  -- where arguments are barred there are none
  pub no_arguments : generic_arguments_token f ≡ [] → is_none (generic_arguments s a f) ≡ true
  no_arguments e = elim (cases_Bool (has GEN_ARGS_BRACKET generics)) [
    | inl numbered ↦ ap (λ o. is_none o) (sym (method.numbered_generics s a f numbered).1)
    | inr written ↦
        let is = method.written_generics s a f written in
        elim (cases_Bool (has METHOD_GENERICS f)) [
          | inl some ↦
              let own = sound_part (IsFaultlessAt s) METHOD_GENERICS f all some in
              absurd (barred generics (fits_rule s METHOD_GENERICS n.METHOD_GENERICS generics_body generics rule_generics own.0.range.fits) written (no_each (each GEN_ARGS_TYPE generics) e))
          | inr absent ↦ ap (λ o. is_none o) (sym is.1 ∙ ap (λ (c : Bool). if c then Some (types_in s a generics) else None) absent)
        ]
  ]
    where
      no_each : (fs : List Forest) → map (λ (g : Forest). leaf_at 0 generics) fs ≡ [] → fs ≡ []
      no_each [] h = refl
      no_each (g ∷ gs) h = absurd cc

      barred : (g : Forest) → Fits s generics_body g → has GEN_ARGS_BRACKET g ≡ false → each GEN_ARGS_TYPE g ≡ [] → ⊥
      barred none h w i = h
      barred (branch p b c) h w i = h
      barred (leaf k none) h w i = h.1
      barred (leaf k (leaf l c)) h w i = h.1
      barred (leaf k (branch p b c)) h w i = for_each Q (GEN_ARGS_BRACKET ∷ GEN_ARGS_TYPE ∷ []) ((λ w i. absurd cc), ((λ w i. absurd cc), tt)) p (gen_args p h.1.0) w i
        where
          Q : ℕ → Type 0
          Q q = has GEN_ARGS_BRACKET (leaf k (branch q b c)) ≡ false → each GEN_ARGS_TYPE (leaf k (branch q b c)) ≡ [] → ⊥

-- ---- owners

head_target_scope : head_of TARGET_SCOPE ≡ Some n.TARGET
unfolding ilasm rule_by
head_target_scope = refl

head_field_scope : head_of FIELD_TARGET_SCOPE ≡ Some n.FIELD_TARGET
unfolding ilasm rule_by
head_field_scope = refl

abbrev ref_body : List Symbol
ref_body = Nonterminal n.CALL_CONV ∷ Nonterminal n.TYPE ∷ Nonterminal n.TARGET ∷ []

abbrev field_body : List Symbol
field_body = Nonterminal n.TYPE ∷ Nonterminal n.FIELD_TARGET ∷ []

rule_ref : ilasm METHOD_REF ≡ Some (rule_of n.METHOD_REF ref_body)
unfolding ilasm rule_by
rule_ref = refl

rule_field : ilasm FIELD_REF ≡ Some (rule_of n.FIELD_REF field_body)
unfolding ilasm rule_by
rule_field = refl

field_targets : (p : ℕ) → head_of p ≡ Some n.FIELD_TARGET → is_among (FIELD_TARGET_SCOPE ∷ FIELD_TARGET_TYPE ∷ FIELD_TARGET_NAME ∷ []) p ≡ true
unfolding ilasm
field_targets p e = among_these _ _ _ n.FIELD_TARGET (FIELD_TARGET_SCOPE ∷ FIELD_TARGET_TYPE ∷ FIELD_TARGET_NAME ∷ []) p e refl

targets : (p : ℕ) → head_of p ≡ Some n.TARGET → is_among (TARGET_SCOPE ∷ TARGET_TYPE ∷ TARGET_NAME ∷ []) p ≡ true
unfolding ilasm
targets p e = among_these _ _ _ n.TARGET (TARGET_SCOPE ∷ TARGET_TYPE ∷ TARGET_NAME ∷ []) p e refl

module _ (s : Source) (a : Around) (A : Assembly)
    (production_known : (p : ℕ) (f : Forest) → IsFaultlessAt s p f → ((w : Written) → written_name p f ≡ Some w → AreNames s w.path) → is_type_name A (or_module s (written_name p f)) ≡ true)
    (name_owner : (name : TypeName) → is_type_name A name ≡ true → is_owner A (Name name) ≡ true)
    (type_owner : (t : SigType) → is_type A t ≡ true → is_owner A (Spec t) ≡ true)
    (type_formed : (f : Forest) → IsFaultlessAt s TYPE f → AllFaultless s f → is_type A (type_of s a f) ≡ true)
    (types_formed : (f : Forest) → AllFaultless s f → list_all (is_type A) (types_in s a f) ≡ true) where
  -- a production that names a type
  abbrev Names : ℕ → Forest → Type 0
  Names p g = IsFaultlessAt s p g × ((w : Written) → written_name p g ≡ Some w → AreNames s w.path)

  owner_from : (scoped typed named : ℕ) (f : Forest) → AllFaultless s f → (has scoped f ≡ true → Names scoped (child (scoped ∷ []) f))
      → ((has scoped f ≡ true → ⊥) → (has typed f ≡ true → ⊥) → Names named (child (named ∷ []) f)) → is_owner A (owner_of s a scoped typed named f) ≡ true
  owner_from scoped typed named f all by_scope by_name = elim (cases_Bool (has typed f)) [
    | inl is ↦
        ap (λ (c : Bool). is_owner A (if c then Spec (the_type s a (child (typed ∷ []) f)) else lower)) is
        ∙ type_owner (the_type s a (child (typed ∷ []) f)) (the_type_formed s a A type_formed types_formed (child (typed ∷ []) f) (of_child (IsFaultlessAt s) (typed ∷ []) f all))
    | inr untyped ↦
        ap (λ (c : Bool). is_owner A (if c then Spec (the_type s a (child (typed ∷ []) f)) else lower)) untyped
        ∙ elim (cases_Bool (has scoped f)) [
          | inl is ↦
              let h = by_scope is in
              ap (λ (c : Bool). is_owner A (if c then Name (or_module s (written_name scoped (child (scoped ∷ []) f))) else Name (or_module s (written_name named (child (named ∷ []) f))))) is
              ∙ name_owner (or_module s (written_name scoped (child (scoped ∷ []) f))) (production_known scoped (child (scoped ∷ []) f) h.0 h.1)
          | inr unscoped ↦
              let h = by_name (method.not_both (has scoped f) unscoped) (method.not_both (has typed f) untyped) in
              ap (λ (c : Bool). is_owner A (if c then Name (or_module s (written_name scoped (child (scoped ∷ []) f))) else Name (or_module s (written_name named (child (named ∷ []) f))))) unscoped
              ∙ name_owner (or_module s (written_name named (child (named ∷ []) f))) (production_known named (child (named ∷ []) f) h.0 h.1)
        ]
  ]
    where
      lower : Owner
      lower =
          if has scoped f then Name (or_module s (written_name scoped (child (scoped ∷ []) f)))
          else Name (or_module s (written_name named (child (named ∷ []) f)))

  -- a name and what stands behind it
  tail_names : (slash double_colon : ℕ) (g : Forest) (w : Written) → IsOf s kind.Name (leaf_at 0 g) → (has slash g ≡ true → HasPath s (child (slash ∷ []) g))
      → name_and_tail slash double_colon g ≡ Some w → AreNames s w.path
  tail_names slash double_colon g w first path e = elim (cases_Bool (has slash g)) [
    | inl is ↦
        let h = path is in
        let same = same_Some longer w (sym (ap (λ (c : Bool). if c then Some longer else shorter) is) ∙ e) in
        subst (λ (x : Written). AreNames s x.path) same (first, path_named s (child (PATH ∷ []) (child (slash ∷ []) g)) h.0 h.1)
    | inr other ↦
        let is = sym (ap (λ (c : Bool). if c then Some longer else shorter) other) ∙ e in
        elim (cases_Bool (has double_colon g)) [
          | inl some ↦
              subst (λ (x : Written). AreNames s x.path) (same_Some alone w (sym (ap (λ (c : Bool). if c then Some alone else None) some) ∙ is)) (first, tt)
          | inr missing ↦ let nothing : None ≡ Some w = sym (ap (λ (c : Bool). if c then Some alone else None) missing) ∙ is in absurd cc
        ]
  ]
    where
      longer : Written
      longer = record { scope = None; path = leaf_at 0 g ∷ path_tokens (child (PATH ∷ []) (child (slash ∷ []) g)) }

      alone : Written
      alone = record { scope = None; path = leaf_at 0 g ∷ [] }

      shorter : Option Written
      shorter = if has double_colon g then Some alone else None

  scope_names : (p : ℕ) (g : Forest) (w : Written) → written_name p g ≡ Some (with_scope g) → HasPath s g → written_name p g ≡ Some w → AreNames s w.path
  scope_names p g w is h e = subst (λ (x : Written). AreNames s x.path) (same_Some (with_scope g) w (sym is ∙ e)) (path_named s (child (PATH ∷ []) g) h.0 h.1)

  only_name : (scoped typed named : ℕ) (f : Forest) → (has scoped f ≡ true → ⊥) → (has typed f ≡ true → ⊥) → (q : ℕ) → is_among (scoped ∷ typed ∷ named ∷ []) q ≡ true
      → has q f ≡ true → q ≡ named
  only_name scoped typed named f m o q known some =
      for_each Q (scoped ∷ typed ∷ named ∷ []) ((λ h. absurd (m h)), ((λ h. absurd (o h)), ((λ h. refl), tt))) q known some
    where
      Q : ℕ → Type 0
      Q r = has r f ≡ true → r ≡ named

  module _ (f : Forest) (all : AllFaultless s f) where
    method_owner : IsFaultlessAt s METHOD_REF f → is_owner A (owner_of s a TARGET_SCOPE TARGET_TYPE TARGET_NAME f) ≡ true
    method_owner own =
        let fits = fits_rule s METHOD_REF n.METHOD_REF ref_body f rule_ref own.range.fits in
        let sound = sound_of s METHOD_REF f own in
        let readable = readable_of s f all in
        owner_from TARGET_SCOPE TARGET_TYPE TARGET_NAME f all
        (λ is.
        let c = has_child (IsFaultlessAt s) TARGET_SCOPE f all
        (nowhere_below in_reference n.TARGET target_stays s TARGET_SCOPE n.TARGET head_target_scope refl f ref_body fits (bodies_of s f all) refl) is in
        (c.0, λ w e. scope_names TARGET_SCOPE (child (TARGET_SCOPE ∷ []) f) w refl (method.scope_sound s a f sound readable is).1 e))
        (λ m o.
        let c = fits_child (IsFaultlessAt s) s ref_body f n.TARGET TARGET_NAME fits all refl
        (λ q e h. only_name TARGET_SCOPE TARGET_TYPE TARGET_NAME f m o q (targets q e) h) in
        (c.0, λ w e. tail_names NAME_TAIL_SLASH NAME_TAIL_DOUBLE_COLON (child (TARGET_NAME ∷ []) f) w (method.name_sound s a f sound readable m o) (method.tail_sound s a f sound readable m o) e))

    field_owner : IsFaultlessAt s FIELD_REF f → is_owner A (owner_of s a FIELD_TARGET_SCOPE FIELD_TARGET_TYPE FIELD_TARGET_NAME f) ≡ true
    field_owner own =
        let fits = fits_rule s FIELD_REF n.FIELD_REF field_body f rule_field own.range.fits in
        let sound = sound_of s FIELD_REF f own in
        let readable = readable_of s f all in
        owner_from FIELD_TARGET_SCOPE FIELD_TARGET_TYPE FIELD_TARGET_NAME f all
        (λ is.
        let c = has_child (IsFaultlessAt s) FIELD_TARGET_SCOPE f all
        (nowhere_below in_reference n.FIELD_TARGET field_target_stays s FIELD_TARGET_SCOPE n.FIELD_TARGET head_field_scope refl f field_body fits (bodies_of s f all) refl) is in
        (c.0, λ w e. scope_names FIELD_TARGET_SCOPE (child (FIELD_TARGET_SCOPE ∷ []) f) w refl (field.scope_sound s a f sound readable is).1 e))
        (λ m o.
        let c = fits_child (IsFaultlessAt s) s field_body f n.FIELD_TARGET FIELD_TARGET_NAME fits all refl
        (λ q e h. only_name FIELD_TARGET_SCOPE FIELD_TARGET_TYPE FIELD_TARGET_NAME f m o q (field_targets q e) h) in
        (c.0, λ w e. tail_names FIELD_TAIL_SLASH FIELD_TAIL_DOUBLE_COLON (child (FIELD_TARGET_NAME ∷ []) f) w (field.name_sound s a f sound readable m o) (field.tail_sound s a f sound readable m o) e))

    -- ---- signatures

    sentinel_inside : is_sentinel_inside (reference_signature s a f) ≡ true
    sentinel_inside = go (before_ellipsis (arguments (the SIGNATURE f)))
      where
        count : length (argument_types s a (the SIGNATURE f)) ≡ length (each DEF_ARG (the SIGNATURE f))
        count = length-map (each DEF_ARG (the SIGNATURE f)) (λ d. the_type s a d)

        within : (k : ℕ) (c : Bool) → nat_lt k (length (each DEF_ARG (the SIGNATURE f))) ≡ c
            → option_all (λ j. nat_lt j (length (argument_types s a (the SIGNATURE f)))) (if c then Some k else None) ≡ true
        within k true e = ap (λ m. nat_lt k m) count ∙ e
        within k false e = refl

        go : (o : Option ℕ) → option_all (λ k. nat_lt k (length (argument_types s a (the SIGNATURE f)))) (sentinel_within (length (each DEF_ARG (the SIGNATURE f))) o) ≡ true
        go None = refl
        go (Some k) = within k (nat_lt k (length (each DEF_ARG (the SIGNATURE f)))) refl

    few : length (each DEF_ARG (the SIGNATURE f)) ≤ 65535
    few = elim (cases_Bool (has SIGNATURE f)) [
      | inl some ↦ few_arguments s (the SIGNATURE f) (inr (sound_part (IsFaultlessAt s) SIGNATURE f all some))
      | inr absent ↦ few_arguments s (the SIGNATURE f) (inl (no_part SIGNATURE f absent))
    ]

    signature_formed : is_signature A (reference_signature s a f) ≡ true
    signature_formed = (signatures_named A (reference_signature s a f)).1 (record {
      generic = (generics_formed s a A types_formed f all).count;
      count = argument_count s a A type_formed types_formed (the SIGNATURE f) few;
      explicit = explicit_fits s f all;
      sentinel = sentinel_inside;
      ret = child_type_formed s a A type_formed types_formed f all;
      params = arguments_formed s a A type_formed types_formed (the SIGNATURE f) (of_the (IsFaultlessAt s) SIGNATURE f all);
    })

    -- ---- whole references

    pub method_ref_formed : IsFaultlessAt s METHOD_REF f → is_name (reference_name s a f) ≡ true → is_method_ref A (method_ref s a f) ≡ true
    method_ref_formed own named =
        let g = generics_formed s a A types_formed f all in
        (method_refs_named A (method_ref s a f)).1 (record { name = named; arguments = g.arguments; owner = method_owner own; sig = signature_formed; args = g.args })

    pub plain_ref_formed : IsFaultlessAt s METHOD_REF f → is_name (reference_name s a f) ≡ true → generic_arguments_token f ≡ [] → is_plain_ref A (method_ref s a f) ≡ true
    unfolding is_plain_ref
    plain_ref_formed own named barred =
        and_from (is_none (generic_arguments s a f)) (is_method_ref A (method_ref s a f)) (no_arguments s a A types_formed f all barred) (method_ref_formed own named)

    pub field_ref_formed : IsFaultlessAt s FIELD_REF f → is_name (name_text s (last_token f)) ≡ true → is_field_ref A (field_ref s a f) ≡ true
    field_ref_formed own named =
        (field_refs_named A (field_ref s a f)).1 (record { name = named; owner = field_owner own; of = child_type_formed s a A type_formed types_formed f all })

-- ---- the names of references

abbrev end_body : List Symbol
end_body = Nonterminal n.METHOD_NAME ∷ Nonterminal n.METHOD_GENERICS_OPT ∷ Nonterminal n.SIGNATURE ∷ []

rule_end : ilasm TARGET_END ≡ Some (rule_of n.TARGET_END end_body)
unfolding ilasm rule_by
rule_end = refl

module _ (longest : LongestSpelling) (reads : ReadsAsItLexes) (s : Source) (lexes : Lexes s.bytes s.tokens)
    (named : (k : ℕ) → IsOf s kind.Name k → is_name (name_text s k) ≡ true) (a : Around) (f : Forest) (all : AllFaultless s f) where
  pub reference_named : IsFaultlessAt s METHOD_REF f → is_name (reference_name s a f) ≡ true
  reference_named own = elim (cases_Bool (has TARGET_END f)) [
    | inl some ↦
        let h = sound_part (IsFaultlessAt s) TARGET_END f all some in
        ap (λ (c : Bool). is_name (if c then method_name s (the TARGET_END f) else name_text s (leaf_at 0 (child (TARGET_NAME ∷ []) f)))) some
        ∙ method_named longest reads s lexes named (the TARGET_END f) end_body (fits_rule s TARGET_END n.TARGET_END end_body (the TARGET_END f) rule_end h.0.range.fits) h.1 refl
    | inr absent ↦
        ap (λ (c : Bool). is_name (if c then method_name s (the TARGET_END f) else name_text s (leaf_at 0 (child (TARGET_NAME ∷ []) f)))) absent
        ∙ named (leaf_at 0 (child (TARGET_NAME ∷ []) f)) (method.lone_name s a f (sound_of s METHOD_REF f own) (readable_of s f all) absent)
  ]

  pub field_named : IsFaultlessAt s FIELD_REF f → is_name (name_text s (last_token f)) ≡ true
  field_named own = named (last_token f) (field.last_named s a f (sound_of s FIELD_REF f own) (readable_of s f all))
