-- What stands in references to fields.
use Rattle.std.proofs.Common.{◌≡◌, ℕ, ◌+◌, ◌⊎◌, inl, inr, List, [], ◌∷◌, ◌++◌, Some, refl, ap, sym, subst, ◌∙◌, arith, append_assoc, append-nil}
use Rattle.std.specs.Prelude.{Bool, true, false, ◌==◌, if◌then◌else◌, nat_lt}
use Rattle.std.proofs.lemmas.Bool.{ltb-true}
use Rattle.std.proofs.lemmas.Bool.Decides.{Decides-eqb}
use Rattle.type_terms.specs.declared.reference.FieldRef.{FieldRef}
use Rattle.type_terms.specs.declared.term.Owner.{Owner, Name, Spec}
use Rattle.type_terms.specs.declared.term.SigType.{SigType}
use Rattle.type_terms.specs.declared.name.TypeName.{TypeName}
use Rattle.il_lexer.specs.declared.types.TokenKind.TheVariants as kind
use Rattle.il_lexer.specs.declared.word.TheConstants.{DOUBLE_COLON, SLASH}
use Rattle.ilasm_grammar.specs.Grammar.{rule_of}
use Rattle.ilasm_grammar.specs.Ilasm.{ilasm, rule_by}
use Rattle.ilasm_grammar.specs.declared.nonterminals.TheConstants as n
use Rattle.ilasm_grammar.specs.declared.productions.TheConstants.{FIELD_REF, FIELD_TAIL_DOUBLE_COLON, FIELD_TAIL_NONE, FIELD_TAIL_SLASH, FIELD_TARGET_NAME, FIELD_TARGET_SCOPE, FIELD_TARGET_TYPE, PATH, TYPE}
use Rattle.ilasm_grammar.specs.declared.symbol.Symbol.{Symbol}
use Rattle.ilasm_grammar.specs.declared.symbol.Symbol.TheVariants.{Terminal, Nonterminal}
use Rattle.ilasm_grammar.specs.declared.terminals.TheConstants as t
use Rattle.source_model.specs.Forest.{Forest, none, leaf, branch, child, has, last_of, last_token, leaf_at, tokens_of}
use Rattle.source_model.specs.Names.{or_module, written_name}
use Rattle.source_model.specs.Nodes.{Around}
use Rattle.source_model.specs.References.{owner_of}
use Rattle.source_model.specs.Source.{Source}
use Rattle.source_model.specs.Types.{the_type}
use Rattle.source_nodes.specs.Derived.{Fits, FitsBody, HasBodies, head_of}
use Rattle.source_syntax.specs.Places.{IsReadable, IsSound}
use Rattle.source_nodes.specs.Readers.{IsOf}
use Rattle.source_syntax.specs.Sound.{HasPath, HasSoundType}
use Rattle.source_syntax.proofs.BodyLemmas.{field_tail_stays, field_target_stays, fits_child, fits_leaf, has_child, in_reference, in_signature, nowhere_below}
use Rattle.source_syntax.proofs.TypeWalks.{has_bodies, one_type_production}
use Rattle.source_syntax.proofs.VariableLemmas.{within_in}
use Rattle.source_nodes.proofs.WrittenNames.{fits_rule, is_name, is_scope, one_path}

-- ---- bodies

abbrev ref_body : List Symbol
ref_body = Nonterminal n.TYPE ∷ Nonterminal n.FIELD_TARGET ∷ []

abbrev scope_body : List Symbol
scope_body = Terminal t.SCOPE ∷ Nonterminal n.PATH ∷ Terminal (t.WORDS + DOUBLE_COLON) ∷ Terminal t.NAME ∷ []

abbrev type_body : List Symbol
type_body = Nonterminal n.TYPE ∷ Terminal (t.WORDS + DOUBLE_COLON) ∷ Terminal t.NAME ∷ []

abbrev name_body : List Symbol
name_body = Terminal t.NAME ∷ Nonterminal n.FIELD_TAIL ∷ []

abbrev slash_body : List Symbol
slash_body = Terminal (t.WORDS + SLASH) ∷ Nonterminal n.PATH ∷ Terminal (t.WORDS + DOUBLE_COLON) ∷ Terminal t.NAME ∷ []

abbrev colon_body : List Symbol
colon_body = Terminal (t.WORDS + DOUBLE_COLON) ∷ Terminal t.NAME ∷ []

rule_ref : ilasm FIELD_REF ≡ Some (rule_of n.FIELD_REF ref_body)
unfolding ilasm rule_by
rule_ref = refl

rule_scope : ilasm FIELD_TARGET_SCOPE ≡ Some (rule_of n.FIELD_TARGET scope_body)
unfolding ilasm rule_by
rule_scope = refl

rule_type : ilasm FIELD_TARGET_TYPE ≡ Some (rule_of n.FIELD_TARGET type_body)
unfolding ilasm rule_by
rule_type = refl

rule_name : ilasm FIELD_TARGET_NAME ≡ Some (rule_of n.FIELD_TARGET name_body)
unfolding ilasm rule_by
rule_name = refl

rule_slash : ilasm FIELD_TAIL_SLASH ≡ Some (rule_of n.FIELD_TAIL slash_body)
unfolding ilasm rule_by
rule_slash = refl

rule_colon : ilasm FIELD_TAIL_DOUBLE_COLON ≡ Some (rule_of n.FIELD_TAIL colon_body)
unfolding ilasm rule_by
rule_colon = refl

rule_none : ilasm FIELD_TAIL_NONE ≡ Some (rule_of n.FIELD_TAIL [])
unfolding ilasm rule_by
rule_none = refl

head_scope : head_of FIELD_TARGET_SCOPE ≡ Some n.FIELD_TARGET
unfolding ilasm rule_by
head_scope = refl

head_slash : head_of FIELD_TAIL_SLASH ≡ Some n.FIELD_TAIL
unfolding ilasm rule_by
head_slash = refl

target_within : (p : ℕ) → head_of p ≡ Some n.FIELD_TARGET → (nat_lt FIELD_TARGET_SCOPE (1 + (0 + p)) ≡ true) × (nat_lt (0 + p) (1 + FIELD_TARGET_NAME) ≡ true)
unfolding ilasm
target_within p e = within_in _ _ _ n.FIELD_TARGET FIELD_TARGET_SCOPE FIELD_TARGET_NAME p e refl

tail_within : (p : ℕ) → head_of p ≡ Some n.FIELD_TAIL → (nat_lt FIELD_TAIL_SLASH (1 + (0 + p)) ≡ true) × (nat_lt (0 + p) (1 + FIELD_TAIL_NONE) ≡ true)
unfolding ilasm
tail_within p e = within_in _ _ _ n.FIELD_TAIL FIELD_TAIL_SLASH FIELD_TAIL_NONE p e refl

differs : (p q : ℕ) → (p == q) ≡ false → p ≡ q → ⊥
differs p q e is = let also = (Decides-eqb p q).1 is in absurd cc

-- one of three numbers
three : (p a b c : ℕ) → b ≡ a + 1 → c ≡ a + 2 → nat_lt a (1 + (0 + p)) ≡ true → nat_lt (0 + p) (1 + c) ≡ true → (p ≡ a) ⊎ ((p ≡ b) ⊎ (p ≡ c))
three p a b c i j l h = go (p == a) refl
  where
    more : (x : Bool) → (p == b) ≡ x → (p ≡ a → ⊥) → (p ≡ b) ⊎ (p ≡ c)
    more true same apart = inl ((Decides-eqb p b).0 same)
    more false other apart =
        let low = ltb-true a (1 + (0 + p)) l in
        let high = ltb-true (0 + p) (1 + c) h in
        inr (omega (arith, low, high, i, j, apart, differs p b other))

    go : (x : Bool) → (p == a) ≡ x → (p ≡ a) ⊎ ((p ≡ b) ⊎ (p ≡ c))
    go true same = inl ((Decides-eqb p a).0 same)
    go false apart = inr (more (p == b) refl (differs p a apart))

target_is : (p : ℕ) → head_of p ≡ Some n.FIELD_TARGET → (p ≡ FIELD_TARGET_SCOPE) ⊎ ((p ≡ FIELD_TARGET_TYPE) ⊎ (p ≡ FIELD_TARGET_NAME))
target_is p e = let w = target_within p e in three p FIELD_TARGET_SCOPE FIELD_TARGET_TYPE FIELD_TARGET_NAME refl refl w.0 w.1

tail_is : (p : ℕ) → head_of p ≡ Some n.FIELD_TAIL → (p ≡ FIELD_TAIL_SLASH) ⊎ ((p ≡ FIELD_TAIL_DOUBLE_COLON) ⊎ (p ≡ FIELD_TAIL_NONE))
tail_is p e = let w = tail_within p e in three p FIELD_TAIL_SLASH FIELD_TAIL_DOUBLE_COLON FIELD_TAIL_NONE refl refl w.0 w.1

-- ---- the last token

-- a forest ends with a name
record Ends (s : Source) (f : Forest) : Type 0 where
  front : List ℕ
  token : ℕ
  all : tokens_of f ≡ front ++ token ∷ []
  named : IsOf s kind.Name token

last_is : (d : ℕ) (front : List ℕ) (k : ℕ) → last_of d (front ++ k ∷ []) ≡ k
last_is d [] k = refl
last_is d (x ∷ front) k = last_is x front k

module _ (s : Source) where
  after_leaf : (k : ℕ) (a : Forest) → Ends s a → Ends s (leaf k a)
  after_leaf k a e = record { front = k ∷ e.front; token = e.token; all = ap (λ ks. k ∷ ks) e.all; named = e.named }

  after_branch : (p : ℕ) (b a : Forest) → Ends s a → Ends s (branch p b a)
  after_branch p b a e = record {
    front = tokens_of b ++ e.front;
    token = e.token;
    all = ap (λ ks. tokens_of b ++ ks) e.all ∙ sym (append_assoc (tokens_of b) e.front (e.token ∷ []));
    named = e.named;
  }

  last_branch : (p : ℕ) (b : Forest) → Ends s b → Ends s (branch p b none)
  last_branch p b e = record { front = e.front; token = e.token; all = append-nil (tokens_of b) ∙ e.all; named = e.named }

  abbrev ends_in_name : List Symbol → Bool
  ends_in_name [] = false
  ends_in_name (Terminal x ∷ []) = x == t.NAME
  ends_in_name (Terminal x ∷ y ∷ more) = ends_in_name (y ∷ more)
  ends_in_name (Nonterminal m ∷ more) = ends_in_name more

  fits_ends : (body : List Symbol) (f : Forest) → Fits s body f → ends_in_name body ≡ true → Ends s f
  fits_ends [] f h e = absurd cc
  fits_ends (Terminal x ∷ []) none h e = absurd h
  fits_ends (Terminal x ∷ []) (branch p b a) h e = absurd h
  fits_ends (Terminal x ∷ []) (leaf k none) h e =
      record { front = []; token = k; all = refl; named = is_name s k (h.0 ∙ ap Some ((Decides-eqb x t.NAME).0 e)) }
  fits_ends (Terminal x ∷ []) (leaf k (leaf j a)) h e = absurd h.1
  fits_ends (Terminal x ∷ []) (leaf k (branch p b a)) h e = absurd h.1
  fits_ends (Terminal x ∷ y ∷ more) none h e = absurd h
  fits_ends (Terminal x ∷ y ∷ more) (branch p b a) h e = absurd h
  fits_ends (Terminal x ∷ y ∷ more) (leaf k a) h e = after_leaf k a (fits_ends (y ∷ more) a h.1 e)
  fits_ends (Nonterminal m ∷ more) none h e = absurd h
  fits_ends (Nonterminal m ∷ more) (leaf k a) h e = absurd h
  fits_ends (Nonterminal m ∷ more) (branch p b a) h e = after_branch p b a (fits_ends more a h.1 e)

  -- a name and what may stand behind it
  name_ends : (d : Forest) → Fits s name_body d → HasBodies s d → Ends s d
  name_ends none h each = absurd h
  name_ends (branch p b a) h each = absurd h
  name_ends (leaf k none) h each = absurd h.1
  name_ends (leaf k (leaf j a)) h each = absurd h.1
  name_ends (leaf k (branch r e (leaf j a))) h each = absurd h.1.1
  name_ends (leaf k (branch r e (branch p b a))) h each = absurd h.1.1
  name_ends (leaf k (branch r e none)) h each = elim (tail_is r h.1.0) [
    | inl is ↦
        after_leaf k (branch r e none)
        (last_branch r e (fits_ends slash_body e (fits_rule s FIELD_TAIL_SLASH n.FIELD_TAIL slash_body e rule_slash (subst (λ q. FitsBody s q e) is each.0)) refl))
    | inr other ↦ elim other [
      | inl is ↦
          after_leaf k (branch r e none)
          (last_branch r e (fits_ends colon_body e (fits_rule s FIELD_TAIL_DOUBLE_COLON n.FIELD_TAIL colon_body e rule_colon (subst (λ q. FitsBody s q e) is each.0)) refl))
      | inr is ↦ alone e (fits_rule s FIELD_TAIL_NONE n.FIELD_TAIL [] e rule_none (subst (λ q. FitsBody s q e) is each.0))
    ]
  ]
    where
      alone : (g : Forest) → Fits s [] g → Ends s (leaf k (branch r g none))
      alone none i = record { front = []; token = k; all = refl; named = is_name s k h.0 }
      alone (leaf j a) i = absurd i
      alone (branch p b a) i = absurd i

  target_ends : (q : ℕ) (d : Forest) → head_of q ≡ Some n.FIELD_TARGET → FitsBody s q d → HasBodies s d → Ends s d
  target_ends q d head fits each = elim (target_is q head) [
    | inl is ↦ fits_ends scope_body d (fits_rule s FIELD_TARGET_SCOPE n.FIELD_TARGET scope_body d rule_scope (subst (λ r. FitsBody s r d) is fits)) refl
    | inr other ↦ elim other [
      | inl is ↦ fits_ends type_body d (fits_rule s FIELD_TARGET_TYPE n.FIELD_TARGET type_body d rule_type (subst (λ r. FitsBody s r d) is fits)) refl
      | inr is ↦ name_ends d (fits_rule s FIELD_TARGET_NAME n.FIELD_TARGET name_body d rule_name (subst (λ r. FitsBody s r d) is fits)) each
    ]
  ]

  ref_ends : (f : Forest) → Fits s ref_body f → HasBodies s f → Ends s f
  ref_ends none h each = absurd h
  ref_ends (leaf k a) h each = absurd h
  ref_ends (branch p b none) h each = absurd h.1
  ref_ends (branch p b (leaf k a)) h each = absurd h.1
  ref_ends (branch p b (branch q d none)) h each = after_branch p b (branch q d none) (last_branch q d (target_ends q d h.1.0 each.2.0 each.2.1))
  ref_ends (branch p b (branch q d (leaf k a))) h each = absurd h.1.1
  ref_ends (branch p b (branch q d (branch r e a))) h each = absurd h.1.1

-- ---- a reference to a field

module _ (s : Source) (a : Around) (f : Forest) (sound : IsSound s FIELD_REF f) (each : IsReadable s f) where
  fits : Fits s ref_body f
  fits = fits_rule s FIELD_REF n.FIELD_REF ref_body f rule_ref sound.0

  pub field_type : HasSoundType s f
  field_type =
      let of = fits_child (IsSound s) s ref_body f n.TYPE TYPE fits each refl (λ q e h. one_type_production s a q e) in
      record { fits = inr of.0.0; each = of.1 }

  pub last_named : IsOf s kind.Name (last_token f)
  last_named =
      let e = ref_ends s f fits (has_bodies s f each) in
      subst (IsOf s kind.Name) (sym (ap (last_of 0) e.all ∙ last_is 0 e.front e.token)) e.named

  scope_child : has FIELD_TARGET_SCOPE f ≡ true → IsSound s FIELD_TARGET_SCOPE (child (FIELD_TARGET_SCOPE ∷ []) f) × IsReadable s (child (FIELD_TARGET_SCOPE ∷ []) f)
  scope_child e =
      has_child (IsSound s) FIELD_TARGET_SCOPE f each
      (nowhere_below in_reference n.FIELD_TARGET field_target_stays s FIELD_TARGET_SCOPE n.FIELD_TARGET head_scope refl f ref_body fits (has_bodies s f each) refl) e

  name_child : (has FIELD_TARGET_SCOPE f ≡ true → ⊥) → (has FIELD_TARGET_TYPE f ≡ true → ⊥)
      → IsSound s FIELD_TARGET_NAME (child (FIELD_TARGET_NAME ∷ []) f) × IsReadable s (child (FIELD_TARGET_NAME ∷ []) f)
  name_child m o = fits_child (IsSound s) s ref_body f n.FIELD_TARGET FIELD_TARGET_NAME fits each refl only
    where
      only : (q : ℕ) → head_of q ≡ Some n.FIELD_TARGET → has q f ≡ true → q ≡ FIELD_TARGET_NAME
      only q e h = elim (target_is q e) [
        | inl is ↦ absurd (m (subst (λ r. has r f ≡ true) is h))
        | inr other ↦ elim other [
          | inl is ↦ absurd (o (subst (λ r. has r f ≡ true) is h))
          | inr is ↦ is
        ]
      ]

  pub scope_sound : has FIELD_TARGET_SCOPE f ≡ true → IsOf s kind.Scope (leaf_at 0 (child (FIELD_TARGET_SCOPE ∷ []) f)) × HasPath s (child (FIELD_TARGET_SCOPE ∷ []) f)
  scope_sound e =
      let c = scope_child e in
      let g = child (FIELD_TARGET_SCOPE ∷ []) f in
      let body = fits_rule s FIELD_TARGET_SCOPE n.FIELD_TARGET scope_body g rule_scope c.0.0 in (
        is_scope s (leaf_at 0 g) (fits_leaf s scope_body g body 0 t.SCOPE refl),
        fits_child (FitsBody s) s scope_body g n.PATH PATH body (has_bodies s g c.1) refl (λ q i h. one_path q i),
      )

  named_body : (has FIELD_TARGET_SCOPE f ≡ true → ⊥) → (has FIELD_TARGET_TYPE f ≡ true → ⊥) → Fits s name_body (child (FIELD_TARGET_NAME ∷ []) f)
  named_body m o = fits_rule s FIELD_TARGET_NAME n.FIELD_TARGET name_body (child (FIELD_TARGET_NAME ∷ []) f) rule_name (name_child m o).0.0

  pub name_sound : (has FIELD_TARGET_SCOPE f ≡ true → ⊥) → (has FIELD_TARGET_TYPE f ≡ true → ⊥) → IsOf s kind.Name (leaf_at 0 (child (FIELD_TARGET_NAME ∷ []) f))
  name_sound m o =
      let g = child (FIELD_TARGET_NAME ∷ []) f in is_name s (leaf_at 0 g) (fits_leaf s name_body g (named_body m o) 0 t.NAME refl)

  pub tail_sound : (has FIELD_TARGET_SCOPE f ≡ true → ⊥) → (has FIELD_TARGET_TYPE f ≡ true → ⊥) → has FIELD_TAIL_SLASH (child (FIELD_TARGET_NAME ∷ []) f) ≡ true
      → HasPath s (child (FIELD_TAIL_SLASH ∷ []) (child (FIELD_TARGET_NAME ∷ []) f))
  tail_sound m o e =
      let g = child (FIELD_TARGET_NAME ∷ []) f in
      let readable = (name_child m o).1 in
      let c =
      has_child (IsSound s) FIELD_TAIL_SLASH g readable
      (nowhere_below in_signature n.FIELD_TAIL field_tail_stays s FIELD_TAIL_SLASH n.FIELD_TAIL head_slash refl g name_body (named_body m o) (has_bodies s g readable) refl) e in
      let h = child (FIELD_TAIL_SLASH ∷ []) g in
      fits_child (FitsBody s) s slash_body h n.PATH PATH (fits_rule s FIELD_TAIL_SLASH n.FIELD_TAIL slash_body h rule_slash c.0.0) (has_bodies s h c.1) refl
      (λ q i j. one_path q i)

  -- ---- its owner

  abbrev scoped_or_named : Bool → Owner
  scoped_or_named c =
      if c then Name (or_module s (written_name FIELD_TARGET_SCOPE (child (FIELD_TARGET_SCOPE ∷ []) f)))
      else Name (or_module s (written_name FIELD_TARGET_NAME (child (FIELD_TARGET_NAME ∷ []) f)))

  abbrev owner_by : Bool → Owner
  owner_by c = if c then Spec (the_type s a (child (FIELD_TARGET_TYPE ∷ []) f)) else scoped_or_named (has FIELD_TARGET_SCOPE f)

  pub typed_owner : (of : SigType) → has FIELD_TARGET_TYPE f ≡ true → of ≡ the_type s a (child (FIELD_TARGET_TYPE ∷ []) f)
      → Spec of ≡ owner_of s a FIELD_TARGET_SCOPE FIELD_TARGET_TYPE FIELD_TARGET_NAME f
  typed_owner of e is = ap Spec is ∙ sym (ap owner_by e)

  pub scoped_owner : (name : TypeName) → has FIELD_TARGET_TYPE f ≡ false → has FIELD_TARGET_SCOPE f ≡ true
      → name ≡ or_module s (written_name FIELD_TARGET_SCOPE (child (FIELD_TARGET_SCOPE ∷ []) f))
      → Name name ≡ owner_of s a FIELD_TARGET_SCOPE FIELD_TARGET_TYPE FIELD_TARGET_NAME f
  scoped_owner name m o is = ap (λ x. Name x) is ∙ sym (ap owner_by m ∙ ap scoped_or_named o)

  pub named_owner : (name : TypeName) → has FIELD_TARGET_TYPE f ≡ false → has FIELD_TARGET_SCOPE f ≡ false
      → name ≡ or_module s (written_name FIELD_TARGET_NAME (child (FIELD_TARGET_NAME ∷ []) f))
      → Name name ≡ owner_of s a FIELD_TARGET_SCOPE FIELD_TARGET_TYPE FIELD_TARGET_NAME f
  named_owner name m o is = ap (λ x. Name x) is ∙ sym (ap owner_by m ∙ ap scoped_or_named o)

-- ---- its parts

abbrev reference : Owner → List ℕ → SigType → FieldRef
reference o m t = record { owner = o; name = m; of = t }

pub same_field : (o o' : Owner) (m m' : List ℕ) (t t' : SigType) → o ≡ o' → m ≡ m' → t ≡ t' → reference o m t ≡ reference o' m' t'
same_field o o' m m' t t' a b c = ap (λ x. reference x m t) a ∙ ap (λ x. reference o' x t) b ∙ ap (λ x. reference o' m' x) c
