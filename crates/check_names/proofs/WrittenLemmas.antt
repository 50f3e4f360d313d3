-- Types' names as they are written: which of their tokens are names.
use Rattle.std.proofs.Common.{◌≡◌, ℕ, List, [], ◌∷◌, ◌++◌, Option, None, Some, map, refl, ap, sym, subst, ◌∙◌}
use Rattle.std.specs.Prelude.{Bool, true, false, ◌==◌, ◌||◌, if◌then◌else◌, slice_get, ⊤}
use Rattle.std.proofs.lemmas.Bool.Decides.{Decides-eqb}
use Rattle.std.specs.List.{flat_map}
use Rattle.std.proofs.lemmas.Option.{same_Some}
use Rattle.il_lexer.specs.declared.types.TokenKind.TheVariants as kind
use Rattle.ilasm_grammar.specs.Grammar.{Rule}
use Rattle.ilasm_grammar.specs.Ilasm.{ilasm, rule_by}
use Rattle.ilasm_grammar.specs.declared.nonterminals.TheConstants as n
use Rattle.ilasm_grammar.specs.declared.productions.TheConstants.{FIELD_TAIL_DOUBLE_COLON, FIELD_TAIL_SLASH, FIELD_TARGET_NAME, FIELD_TARGET_SCOPE, NAME_TAIL_DOUBLE_COLON, NAME_TAIL_SLASH, PATH, SLASH_NAME, TARGET_NAME, TARGET_SCOPE, TYPE_NAME_PATH, TYPE_NAME_SCOPE}
use Rattle.ilasm_grammar.specs.declared.symbol.Symbol.{Symbol}
use Rattle.ilasm_grammar.specs.declared.symbol.Symbol.TheVariants.{Terminal, Nonterminal}
use Rattle.ilasm_grammar.specs.declared.terminals.TheConstants as t
use Rattle.source_model.specs.Forest.{Forest, none, leaf, branch, child, each, has, leaf_at}
use Rattle.source_model.specs.Names.{Written, name_and_tail, path_tokens, with_scope, without_scope, written_name}
use Rattle.source_model.specs.Source.{Source}
use Rattle.source_nodes.specs.Derived.{Fits, FitsRule, FitsBody, HasBodies}
use Rattle.source_syntax.specs.Namings.{names_in}
use Rattle.source_nodes.specs.Readers.{IsOf}
use Rattle.source_syntax.specs.declared.name_lists.Naming.TheVariants.{Slash}
use Rattle.source_syntax.proofs.NameTokens.{Each, IsBody, each_body, name_at, scope_at, terminals_of_rule}
use Rattle.check_names.proofs.SignatureParts.{tail_of_field_target, tail_of_target}
use Rattle.source_nodes.proofs.WrittenNames.{one_path, path_begins, slash_names}

-- ---- a path at the top

abbrev has_path : List Symbol → Bool
has_path [] = false
has_path (Terminal x ∷ more) = has_path more
has_path (Nonterminal m ∷ more) = m == n.PATH || has_path more

at_path : (s : Source) (body : List Symbol) (f : Forest) → Fits s body f → HasBodies s f → has_path body ≡ true → IsBody s PATH (child (PATH ∷ []) f)
at_path s [] f fits h e = absurd cc
at_path s (Terminal x ∷ more) none fits h e = absurd fits
at_path s (Terminal x ∷ more) (leaf k a) fits h e = at_path s more a fits.1 h e
at_path s (Terminal x ∷ more) (branch p b a) fits h e = absurd fits
at_path s (Nonterminal m ∷ more) none fits h e = absurd fits
at_path s (Nonterminal m ∷ more) (leaf k a) fits h e = absurd fits
at_path s (Nonterminal m ∷ more) (branch p b a) fits h e = go (PATH == p) refl (m == n.PATH) refl (at_path s more a fits.1 h.2)
  where
    go : (c : Bool) → (PATH == p) ≡ c → (d : Bool) → (m == n.PATH) ≡ d → (has_path more ≡ true → IsBody s PATH (child (PATH ∷ []) a))
        → IsBody s PATH (child (PATH ∷ []) (branch p b a))
    go true own d i rest =
        subst (λ (c : Bool). IsBody s PATH (if c || false then b else child (PATH ∷ []) a)) (sym own)
        (subst (λ q. FitsBody s q b) (sym ((Decides-eqb PATH p).0 own)) h.0, h.1)
    go false own true i rest =
        let is : p ≡ PATH = one_path p (fits.0 ∙ ap Some ((Decides-eqb m n.PATH).0 i)) in
        let same : (PATH == p) ≡ true = (Decides-eqb PATH p).1 (sym is) in
        absurd cc
    go false own false i rest =
        subst (λ (c : Bool). IsBody s PATH (if c || false then b else child (PATH ∷ []) a)) (sym own)
        (rest (ap (λ (c : Bool). c || has_path more) (sym i) ∙ e))

abbrev path_in : Option Rule → Bool
path_in None = false
path_in (Some r) = has_path r.body

path_below : (s : Source) (p : ℕ) (f : Forest) → path_in (ilasm p) ≡ true → FitsBody s p f → HasBodies s f → IsBody s PATH (child (PATH ∷ []) f)
path_below s p f e fits h = go (ilasm p) e fits
  where
    go : (o : Option Rule) → path_in o ≡ true → FitsRule s o f → IsBody s PATH (child (PATH ∷ []) f)
    go None e i = absurd i
    go (Some r) e i = at_path s r.body f i h e

later_names : (s : Source) (fs : List Forest) → Each (IsBody s SLASH_NAME) fs → Each (IsOf s kind.Name) (map (λ g. leaf_at 1 g) fs)
later_names s [] h = tt
later_names s (f ∷ fs) h = (slash_names s f h.0.0, later_names s fs h.1)

path_named : (s : Source) (f : Forest) → IsBody s PATH f → Each (IsOf s kind.Name) (path_tokens f)
path_named s f h = (path_begins s f h.0, later_names s (each SLASH_NAME f) (each_body s SLASH_NAME f h.1))

-- ---- the tokens of a written name

-- those of its path are names, and that of its assembly is one in brackets
pub record AreNamed (s : Source) (w : Written) : Type 0 where
  pub path : Each (IsOf s kind.Name) w.path
  pub scope : (k : ℕ) → w.scope ≡ Some k → IsOf s kind.Scope k

abbrev pub IfNamed : Source → Option Written → Type 0
IfNamed s None = ⊤
IfNamed s (Some w) = AreNamed s w

scoped : (s : Source) (p : ℕ) (f : Forest) → path_in (ilasm p) ≡ true → slice_get (terminals_of_rule (ilasm p)) 0 ≡ Some t.SCOPE → FitsBody s p f → HasBodies s f
    → AreNamed s (with_scope f)
scoped s p f e i fits h = record {
  path = path_named s (child (PATH ∷ []) f) (path_below s p f e fits h);
  scope = λ k is. subst (IsOf s kind.Scope) (same_Some (leaf_at 0 f) k is) (scope_at s p 0 f i fits);
}

tailed : (s : Source) (p slash double_colon : ℕ) (f : Forest) → slice_get (terminals_of_rule (ilasm p)) 0 ≡ Some t.NAME → path_in (ilasm slash) ≡ true
    → FitsBody s p f → (has slash f ≡ true → IsBody s slash (child (slash ∷ []) f)) → IfNamed s (name_and_tail slash double_colon f)
tailed s p slash double_colon f i e fits tail = go (has slash f) refl (has double_colon f)
  where
    go : (c : Bool) → has slash f ≡ c → (d : Bool)
        → IfNamed s (if c then Some (record { scope = None; path = leaf_at 0 f ∷ path_tokens (child (PATH ∷ []) (child (slash ∷ []) f)) })
        else if d then Some (record { scope = None; path = leaf_at 0 f ∷ [] })
        else None)
    go true some d =
        let b = tail some in
        record {
          path = (name_at s p 0 f i fits, path_named s (child (PATH ∷ []) (child (slash ∷ []) f)) (path_below s slash (child (slash ∷ []) f) e b.0 b.1));
          scope = λ k is. absurd cc;
        }
    go false some true = record { path = (name_at s p 0 f i fits, tt); scope = λ k is. absurd cc }
    go false some false = tt

-- ---- by productions

type_name_path : path_in (ilasm TYPE_NAME_SCOPE) ≡ true
unfolding ilasm rule_by
type_name_path = refl

target_path : path_in (ilasm TARGET_SCOPE) ≡ true
unfolding ilasm rule_by
target_path = refl

field_target_path : path_in (ilasm FIELD_TARGET_SCOPE) ≡ true
unfolding ilasm rule_by
field_target_path = refl

path_alone : path_in (ilasm TYPE_NAME_PATH) ≡ true
unfolding ilasm rule_by
path_alone = refl

name_tail_path : path_in (ilasm NAME_TAIL_SLASH) ≡ true
unfolding ilasm rule_by
name_tail_path = refl

field_tail_path : path_in (ilasm FIELD_TAIL_SLASH) ≡ true
unfolding ilasm rule_by
field_tail_path = refl

type_name_scope : slice_get (terminals_of_rule (ilasm TYPE_NAME_SCOPE)) 0 ≡ Some t.SCOPE
unfolding ilasm rule_by
type_name_scope = refl

target_scope : slice_get (terminals_of_rule (ilasm TARGET_SCOPE)) 0 ≡ Some t.SCOPE
unfolding ilasm rule_by
target_scope = refl

field_target_scope : slice_get (terminals_of_rule (ilasm FIELD_TARGET_SCOPE)) 0 ≡ Some t.SCOPE
unfolding ilasm rule_by
field_target_scope = refl

target_name : slice_get (terminals_of_rule (ilasm TARGET_NAME)) 0 ≡ Some t.NAME
unfolding ilasm rule_by
target_name = refl

field_target_name : slice_get (terminals_of_rule (ilasm FIELD_TARGET_NAME)) 0 ≡ Some t.NAME
unfolding ilasm rule_by
field_target_name = refl

module _ (s : Source) (p : ℕ) (f : Forest) (fits : FitsBody s p f) (h : HasBodies s f) where
  fits_as : (q : ℕ) → (p == q) ≡ true → FitsBody s q f
  fits_as q e = subst (λ r. FitsBody s r f) ((Decides-eqb p q).0 e) fits

  of_scope : (a b c : Bool) → (p == TYPE_NAME_SCOPE) ≡ a → (p == TARGET_SCOPE) ≡ b → (p == FIELD_TARGET_SCOPE) ≡ c → (a || b || c) ≡ true → AreNamed s (with_scope f)
  of_scope true b c x y z some = scoped s TYPE_NAME_SCOPE f type_name_path type_name_scope (fits_as TYPE_NAME_SCOPE x) h
  of_scope false true c x y z some = scoped s TARGET_SCOPE f target_path target_scope (fits_as TARGET_SCOPE y) h
  of_scope false false true x y z some = scoped s FIELD_TARGET_SCOPE f field_target_path field_target_scope (fits_as FIELD_TARGET_SCOPE z) h
  of_scope false false false x y z some = absurd cc

  pub written_named : IfNamed s (written_name p f)
  written_named = go (p == TYPE_NAME_SCOPE || p == TARGET_SCOPE || p == FIELD_TARGET_SCOPE) refl (p == TYPE_NAME_PATH) refl (p == TARGET_NAME) refl (p == FIELD_TARGET_NAME) refl
    where
      go : (a : Bool) → (p == TYPE_NAME_SCOPE || p == TARGET_SCOPE || p == FIELD_TARGET_SCOPE) ≡ a → (b : Bool) → (p == TYPE_NAME_PATH) ≡ b
          → (c : Bool) → (p == TARGET_NAME) ≡ c → (d : Bool) → (p == FIELD_TARGET_NAME) ≡ d
          → IfNamed s (if a then Some (with_scope f) else if b then Some (without_scope f)
          else if c then name_and_tail NAME_TAIL_SLASH NAME_TAIL_DOUBLE_COLON f
          else if d then name_and_tail FIELD_TAIL_SLASH FIELD_TAIL_DOUBLE_COLON f
          else None)
      go true x b y c z d w = of_scope (p == TYPE_NAME_SCOPE) (p == TARGET_SCOPE) (p == FIELD_TARGET_SCOPE) refl refl refl x
      go false x true y c z d w = record {
        path = path_named s (child (PATH ∷ []) f) (path_below s TYPE_NAME_PATH f path_alone (fits_as TYPE_NAME_PATH y) h);
        scope = λ k is. absurd cc;
      }
      go false x false y true z d w =
          tailed s TARGET_NAME NAME_TAIL_SLASH NAME_TAIL_DOUBLE_COLON f target_name name_tail_path (fits_as TARGET_NAME z) (tail_of_target s f (fits_as TARGET_NAME z) h)
      go false x false y false z true w =
          tailed s FIELD_TARGET_NAME FIELD_TAIL_SLASH FIELD_TAIL_DOUBLE_COLON f field_target_name field_tail_path (fits_as FIELD_TARGET_NAME w)
          (tail_of_field_target s f (fits_as FIELD_TARGET_NAME w) h)
      go false x false y false z false w = tt

-- ---- the tokens of a path, as they are collected

pub later_are : (fs : List Forest) → flat_map (λ g. leaf_at 1 g ∷ []) fs ≡ map (λ g. leaf_at 1 g) fs
later_are [] = refl
later_are (f ∷ fs) = ap (λ ks. leaf_at 1 f ∷ ks) (later_are fs)

pub path_is : (f : Forest) (found more last : List ℕ) → found ≡ leaf_at 0 f ∷ [] → more ≡ names_in Slash f → last ≡ found ++ more → last ≡ path_tokens f
path_is f found more last e h is = is ∙ ap (λ ks. ks ++ more) e ∙ ap (λ ks. leaf_at 0 f ∷ ks) (h ∙ later_are (each SLASH_NAME f))
