-- Which tokens of a production are names, from its body.
use Rattle.std.proofs.Common.{◌≡◌, ℕ, zero, suc, List, [], ◌∷◌, ◌++◌, Option, None, Some, refl, ap, sym, subst, ◌∙◌, arith}
use Rattle.std.specs.Prelude.{Bool, true, false, ◌==◌, ◌||◌, if◌then◌else◌, slice_get, All, ⊤}
use Rattle.std.proofs.lemmas.Bool.Decides.{Decides-eqb}
use Rattle.il_lexer.specs.declared.types.TokenKind.TheVariants as kind
use Rattle.ilasm_grammar.specs.Grammar.{Rule}
use Rattle.ilasm_grammar.specs.Ilasm.{ilasm, rule_by}
use Rattle.ilasm_grammar.specs.declared.productions.TheConstants.{ALIAS, ASSEMBLY_ASSEMBLY_ATTR_STAR, ASSEMBLY_EXTERN, AT_NAME, CLASS, DATA_LABEL, INDEX_NAME, TYPAR, TYPAR_KEY_NAME}
use Rattle.ilasm_grammar.specs.declared.symbol.Symbol.{Symbol}
use Rattle.ilasm_grammar.specs.declared.symbol.Symbol.TheVariants.{Terminal, Nonterminal}
use Rattle.ilasm_grammar.specs.declared.terminals.TheConstants as t
use Rattle.source_model.specs.Forest.{Forest, none, leaf, branch, Part, part, parts, below_each, child, each, first_or, has, is_among, is_any_part, leaf_at, the}
use Rattle.source_model.specs.Data.{label_token}
use Rattle.source_model.specs.Names.{key_token}
use Rattle.source_model.specs.Source.{Source}
use Rattle.source_nodes.specs.Derived.{terminal_at, Fits, FitsRule, FitsBody, HasBodies}
use Rattle.source_nodes.specs.Readers.{IsOf}
use Rattle.source_nodes.proofs.WrittenNames.{is_name, is_scope}

-- the terminals of a body, in order
abbrev pub terminals : List Symbol → List ℕ
terminals [] = []
terminals (Terminal x ∷ more) = x ∷ terminals more
terminals (Nonterminal n ∷ more) = terminals more

abbrev pub terminals_of_rule : Option Rule → List ℕ
terminals_of_rule None = []
terminals_of_rule (Some r) = terminals r.body

-- a token at the top is of the terminal that stands there in the body
at_top : (s : Source) (body : List Symbol) (f : Forest) → Fits s body f → (k x : ℕ) → slice_get (terminals body) k ≡ Some x → terminal_at s (leaf_at k f) ≡ Some x
at_top s [] f h k x e = absurd cc
at_top s (Terminal y ∷ more) none h k x e = absurd h
at_top s (Terminal y ∷ more) (branch p b a) h k x e = absurd h
at_top s (Terminal y ∷ more) (leaf l a) h zero x e = h.0 ∙ e
at_top s (Terminal y ∷ more) (leaf l a) h (suc k) x e = at_top s more a h.1 k x e
at_top s (Nonterminal n ∷ more) none h k x e = absurd h
at_top s (Nonterminal n ∷ more) (leaf l a) h k x e = absurd h
at_top s (Nonterminal n ∷ more) (branch p b a) h k x e = at_top s more a h.1 k x e

by_rule : (s : Source) (o : Option Rule) (f : Forest) → FitsRule s o f → (k x : ℕ) → slice_get (terminals_of_rule o) k ≡ Some x → terminal_at s (leaf_at k f) ≡ Some x
by_rule s None f h k x e = absurd h
by_rule s (Some r) f h k x e = at_top s r.body f h k x e

-- token k at the top of a production is a name, where its body says so
pub name_at : (s : Source) (p k : ℕ) (f : Forest) → slice_get (terminals_of_rule (ilasm p)) k ≡ Some t.NAME → FitsBody s p f → IsOf s kind.Name (leaf_at k f)
name_at s p k f e h = is_name s (leaf_at k f) (by_rule s (ilasm p) f h k t.NAME e)

pub scope_at : (s : Source) (p k : ℕ) (f : Forest) → slice_get (terminals_of_rule (ilasm p)) k ≡ Some t.SCOPE → FitsBody s p f → IsOf s kind.Scope (leaf_at k f)
scope_at s p k f e h = is_scope s (leaf_at k f) (by_rule s (ilasm p) f h k t.SCOPE e)

-- ---- the parts of one production

-- below a production stands its body, and so it is below it
abbrev pub IsBody : Source → ℕ → Forest → Type 0
IsBody s p f = FitsBody s p f × HasBodies s f

abbrev pub Each : {X : Type 0} → (X → Type 0) → List X → Type 0
Each P [] = ⊤
Each P (x ∷ xs) = P x × Each P xs

pub each_append : {X : Type 0} (P : X → Type 0) (xs ys : List X) → Each P xs → Each P ys → Each P (xs ++ ys)
each_append P [] ys h i = i
each_append P (x ∷ xs) ys h i = (h.0, each_append P xs ys h.1 i)

pub all_of_each : {X : Type 0} (P : X → Type 0) (xs : List X) → Each P xs → All P xs
all_of_each P [] h k d within = absurd (omega (arith, within))
all_of_each P (x ∷ xs) h zero d within = h.0
all_of_each P (x ∷ xs) h (suc k) d within = all_of_each P xs h.1 k d (omega (arith, within))

below_append : (ps qs : List Part) → below_each (ps ++ qs) ≡ below_each ps ++ below_each qs
below_append [] qs = refl
below_append (x ∷ ps) qs = ap (λ fs. x.below ∷ fs) (below_append ps qs)

pub each_body : (s : Source) (p : ℕ) (f : Forest) → HasBodies s f → Each (IsBody s p) (each p f)
each_body s p none h = tt
each_body s p (leaf k a) h = each_body s p a h
each_body s p (branch q b a) h = go (each_body s p b h.1) (each_body s p a h.2) (p == q) refl
  where
    go : Each (IsBody s p) (each p b) → Each (IsBody s p) (each p a) → (c : Bool) → (p == q) ≡ c → Each (IsBody s p) (each p (branch q b a))
    go low rest true e =
        subst (Each (IsBody s p)) (sym (ap (λ (c : Bool). below_each ((if c || false then part q b ∷ [] else parts (p ∷ []) b) ++ parts (p ∷ []) a)) e))
        ((subst (λ r. FitsBody s r b) (sym ((Decides-eqb p q).0 e)) h.0, h.1), rest)
    go low rest false e =
        subst (Each (IsBody s p))
        (sym (ap (λ (c : Bool). below_each ((if c || false then part q b ∷ [] else parts (p ∷ []) b) ++ parts (p ∷ []) a)) e ∙ below_append (parts (p ∷ []) b) (parts (p ∷ []) a)))
        (each_append (IsBody s p) (each p b) (each p a) low rest)

-- the first of them, where there is one
first_body : (s : Source) (p : ℕ) (ps : List Part) → is_any_part ps ≡ true → Each (IsBody s p) (below_each ps) → IsBody s p (first_or none (below_each ps))
first_body s p [] some h = absurd cc
first_body s p (x ∷ ps) some h = h.0

pub the_body : (s : Source) (p : ℕ) (f : Forest) → has p f ≡ true → HasBodies s f → IsBody s p (the p f)
the_body s p f some h = first_body s p (parts (p ∷ []) f) some (each_body s p f h)

-- what stands below the first of some productions at the top
pub child_bodies : (s : Source) (sought : List ℕ) (f : Forest) → HasBodies s f → HasBodies s (child sought f)
child_bodies s sought none h = tt
child_bodies s sought (leaf k a) h = child_bodies s sought a h
child_bodies s sought (branch p b a) h = go (child_bodies s sought a h.2) (is_among sought p)
  where
    go : HasBodies s (child sought a) → (c : Bool) → HasBodies s (if c then b else child sought a)
    go rest true = h.1
    go rest false = rest

-- ---- names of declarations

extern_name : slice_get (terminals_of_rule (ilasm ASSEMBLY_EXTERN)) 1 ≡ Some t.NAME
unfolding ilasm rule_by
extern_name = refl

alias_name : slice_get (terminals_of_rule (ilasm ALIAS)) 1 ≡ Some t.NAME
unfolding ilasm rule_by
alias_name = refl

label_name : slice_get (terminals_of_rule (ilasm DATA_LABEL)) 0 ≡ Some t.NAME
unfolding ilasm rule_by
label_name = refl

typar_name : slice_get (terminals_of_rule (ilasm TYPAR)) 0 ≡ Some t.NAME
unfolding ilasm rule_by
typar_name = refl

pub typar_is_name : (s : Source) (f : Forest) → IsBody s TYPAR f → IsOf s kind.Name (leaf_at 0 f)
typar_is_name s f h = name_at s TYPAR 0 f typar_name h.0

pub key_is_name : (s : Source) (f : Forest) → IsBody s ASSEMBLY_EXTERN f → IsOf s kind.Name (key_token f)
key_is_name s f h = go (has ALIAS f) refl
  where
    go : (b : Bool) → has ALIAS f ≡ b → IsOf s kind.Name (if b then leaf_at 1 (the ALIAS f) else leaf_at 1 f)
    go true e = name_at s ALIAS 1 (the ALIAS f) alias_name (the_body s ALIAS f e h.1).0
    go false e = name_at s ASSEMBLY_EXTERN 1 f extern_name h.0

pub label_is_name : (s : Source) (f : Forest) → has DATA_LABEL f ≡ true → HasBodies s f → IsOf s kind.Name (label_token f)
label_is_name s f e h = name_at s DATA_LABEL 0 (the DATA_LABEL f) label_name (the_body s DATA_LABEL f e h).0

at_label : slice_get (terminals_of_rule (ilasm AT_NAME)) 1 ≡ Some t.NAME
unfolding ilasm rule_by
at_label = refl

index_name : slice_get (terminals_of_rule (ilasm INDEX_NAME)) 0 ≡ Some t.NAME
unfolding ilasm rule_by
index_name = refl

typar_key_name : slice_get (terminals_of_rule (ilasm TYPAR_KEY_NAME)) 0 ≡ Some t.NAME
unfolding ilasm rule_by
typar_key_name = refl

pub at_is_name : (s : Source) (p : ℕ) (f : Forest) → p ≡ AT_NAME → FitsBody s p f → IsOf s kind.Name (leaf_at 1 f)
at_is_name s p f e h = name_at s AT_NAME 1 f at_label (subst (λ q. FitsBody s q f) e h)

pub index_is_name : (s : Source) (f : Forest) → has INDEX_NAME f ≡ true → HasBodies s f → IsOf s kind.Name (leaf_at 0 (the INDEX_NAME f))
index_is_name s f e h = name_at s INDEX_NAME 0 (the INDEX_NAME f) index_name (the_body s INDEX_NAME f e h).0

pub key_of_typar_is_name : (s : Source) (f : Forest) → has TYPAR_KEY_NAME f ≡ true → HasBodies s f → IsOf s kind.Name (leaf_at 0 (the TYPAR_KEY_NAME f))
key_of_typar_is_name s f e h = name_at s TYPAR_KEY_NAME 0 (the TYPAR_KEY_NAME f) typar_key_name (the_body s TYPAR_KEY_NAME f e h).0

class_name : slice_get (terminals_of_rule (ilasm CLASS)) 1 ≡ Some t.NAME
unfolding ilasm rule_by
class_name = refl

pub class_is_name : (s : Source) (p : ℕ) (f : Forest) → p ≡ CLASS → FitsBody s p f → IsOf s kind.Name (leaf_at 1 f)
class_is_name s p f e h = name_at s CLASS 1 f class_name (subst (λ q. FitsBody s q f) e h)

assembly_name : slice_get (terminals_of_rule (ilasm ASSEMBLY_ASSEMBLY_ATTR_STAR)) 0 ≡ Some t.NAME
unfolding ilasm rule_by
assembly_name = refl

pub assembly_is_name : (s : Source) (f : Forest) → IsBody s ASSEMBLY_ASSEMBLY_ATTR_STAR f → IsOf s kind.Name (leaf_at 0 f)
assembly_is_name s f h = name_at s ASSEMBLY_ASSEMBLY_ATTR_STAR 0 f assembly_name h.0
