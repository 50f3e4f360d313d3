-- The tokens of types' names, from the bodies of their productions, and what names stand for.
use Rattle.std.proofs.Common.{◌≡◌, ℕ, zero, suc, ◌+◌, ◌<◌, inl, inr, List, [], ◌∷◌, Option, None, Some, cond, refl, ap, sym, subst, ◌∙◌, arith}
use Rattle.std.specs.Prelude.{Bool, true, false, not, ◌==◌, ◌||◌, ◌&&◌, slice_get, option_map, nat_lt}
use Rattle.std.proofs.lemmas.Bool.{cases_Bool}
use Rattle.std.proofs.lemmas.Bool.Decides.{Decides-eqb}
use Rattle.il_lexer.specs.declared.types.Token.{Token}
use Rattle.il_lexer.specs.declared.types.TokenKind.{TokenKind}
use Rattle.il_lexer.specs.declared.types.TokenKind.TheVariants as kind
use Rattle.il_lexer.specs.declared.word.TheConstants.{SLASH}
use Rattle.ilasm_grammar.specs.Grammar.{Rule, rule_of}
use Rattle.ilasm_grammar.specs.Ilasm.{ilasm, rule_by, body_by}
use Rattle.ilasm_grammar.specs.Terminals.{terminal_of}
use Rattle.ilasm_grammar.specs.declared.nonterminals.TheConstants as n
use Rattle.ilasm_grammar.specs.declared.productions.TheConstants.{PATH, SLASH_NAME, TYPE_NAME_SCOPE, TYPE_NAME_PATH}
use Rattle.ilasm_grammar.specs.declared.symbol.Symbol.{Symbol}
use Rattle.ilasm_grammar.specs.declared.symbol.Symbol.TheVariants.{Terminal, Nonterminal}
use Rattle.ilasm_grammar.specs.declared.terminals.TheConstants as t
use Rattle.source_model.specs.Forest.{Forest, none, leaf, branch, leaf_at, child}
use Rattle.source_model.specs.Source.{Source}
use Rattle.source_nodes.specs.Derived.{terminal_at, head_of, Fits, FitsRule, FitsBody, HasBodies}
use Rattle.source_nodes.specs.Readers.{IsOf}

-- ---- kinds of tokens

-- no word has the terminal of another kind
pub word_is_more : (k m : ℕ) → m < 8 → terminal_of (kind.Word k) ≡ m → ⊥
word_is_more k m less e = elim (cases_Bool (nat_lt (t.WORDS + k) t.END)) [
  | inl known ↦ let is : t.WORDS + k ≡ m = sym (ap (λ b. cond b (t.WORDS + k) t.UNUSED) known) ∙ e in omega (arith, is, less)
  | inr over ↦ let is : t.UNUSED ≡ m = sym (ap (λ b. cond b (t.WORDS + k) t.UNUSED) over) ∙ e in omega (arith, is, less)
]

kind_name : (k : TokenKind) → terminal_of k ≡ t.NAME → k ≡ kind.Name
kind_name kind.Name e = refl
kind_name kind.Scope e = absurd cc
kind_name kind.Int e = absurd cc
kind_name kind.QString e = absurd cc
kind_name kind.EqBytes e = absurd cc
kind_name kind.ByteArray e = absurd cc
kind_name kind.RealBytes e = absurd cc
kind_name kind.Hash e = absurd cc
kind_name kind.Unused e = absurd cc
kind_name (kind.Word k) e = absurd (word_is_more k 0 (omega arith) e)

kind_scope : (k : TokenKind) → terminal_of k ≡ t.SCOPE → k ≡ kind.Scope
kind_scope kind.Name e = absurd cc
kind_scope kind.Scope e = refl
kind_scope kind.Int e = absurd cc
kind_scope kind.QString e = absurd cc
kind_scope kind.EqBytes e = absurd cc
kind_scope kind.ByteArray e = absurd cc
kind_scope kind.RealBytes e = absurd cc
kind_scope kind.Hash e = absurd cc
kind_scope kind.Unused e = absurd cc
kind_scope (kind.Word k) e = absurd (word_is_more k 1 (omega arith) e)

is_of_kind : (o : Option Token) (m : ℕ) (kind : TokenKind) → ((k : TokenKind) → terminal_of k ≡ m → k ≡ kind)
    → option_map (λ (x : Token). terminal_of x.kind) o ≡ Some m → option_map (λ (x : Token). x.kind) o ≡ Some kind
is_of_kind None m kind back e = absurd cc
is_of_kind (Some x) m kind back e = let same : terminal_of x.kind ≡ m = cc in ap (λ y. Some y) (back x.kind same)

pub is_name : (s : Source) (k : ℕ) → terminal_at s k ≡ Some t.NAME → IsOf s kind.Name k
is_name s k e = is_of_kind (slice_get s.tokens k) t.NAME kind.Name kind_name e

pub is_scope : (s : Source) (k : ℕ) → terminal_at s k ≡ Some t.SCOPE → IsOf s kind.Scope k
is_scope s k e = is_of_kind (slice_get s.tokens k) t.SCOPE kind.Scope kind_scope e

-- ---- bodies

pub fits_rule : (s : Source) (p head : ℕ) (body : List Symbol) (f : Forest) → ilasm p ≡ Some (rule_of head body) → FitsBody s p f → Fits s body f
fits_rule s p head body f e h = subst (λ o. FitsRule s o f) e h

rule_path : ilasm PATH ≡ Some (rule_of n.PATH (Terminal t.NAME ∷ Nonterminal n.SLASH_NAME_STAR ∷ []))
unfolding ilasm rule_by
rule_path = refl

rule_slash_name : ilasm SLASH_NAME ≡ Some (rule_of n.SLASH_NAME (Terminal (t.WORDS + SLASH) ∷ Terminal t.NAME ∷ []))
unfolding ilasm rule_by
rule_slash_name = refl

rule_scope : ilasm TYPE_NAME_SCOPE ≡ Some (rule_of n.TYPE_NAME (Terminal t.SCOPE ∷ Nonterminal n.PATH ∷ []))
unfolding ilasm rule_by
rule_scope = refl

rule_name : ilasm TYPE_NAME_PATH ≡ Some (rule_of n.TYPE_NAME (Nonterminal n.PATH ∷ []))
unfolding ilasm rule_by
rule_name = refl

pub first_terminal : (s : Source) (x : ℕ) (more : List Symbol) (f : Forest) → Fits s (Terminal x ∷ more) f → terminal_at s (leaf_at 0 f) ≡ Some x
first_terminal s x more none h = absurd h
first_terminal s x more (leaf k a) h = h.0
first_terminal s x more (branch p b a) h = absurd h

second_terminal : (s : Source) (x y : ℕ) (more : List Symbol) (f : Forest) → Fits s (Terminal x ∷ Terminal y ∷ more) f → terminal_at s (leaf_at 1 f) ≡ Some y
second_terminal s x y more none h = absurd h
second_terminal s x y more (leaf k none) h = absurd h.1
second_terminal s x y more (leaf k (leaf l a)) h = h.1.0
second_terminal s x y more (leaf k (branch p b a)) h = absurd h.1
second_terminal s x y more (branch p b a) h = absurd h

pub path_begins : (s : Source) (f : Forest) → FitsBody s PATH f → IsOf s kind.Name (leaf_at 0 f)
path_begins s f h = is_name s (leaf_at 0 f) (first_terminal s t.NAME (Nonterminal n.SLASH_NAME_STAR ∷ []) f (fits_rule s PATH n.PATH _ f rule_path h))

pub slash_names : (s : Source) (f : Forest) → FitsBody s SLASH_NAME f → IsOf s kind.Name (leaf_at 1 f)
slash_names s f h = is_name s (leaf_at 1 f) (second_terminal s (t.WORDS + SLASH) t.NAME [] f (fits_rule s SLASH_NAME n.SLASH_NAME _ f rule_slash_name h))

pub scope_begins : (s : Source) (f : Forest) → FitsBody s TYPE_NAME_SCOPE f → IsOf s kind.Scope (leaf_at 0 f)
scope_begins s f h = is_scope s (leaf_at 0 f) (first_terminal s t.SCOPE (Nonterminal n.PATH ∷ []) f (fits_rule s TYPE_NAME_SCOPE n.TYPE_NAME _ f rule_scope h))

-- ---- a nonterminal with one production

-- in this list, from this place on, the number stands nowhere else
abbrev pub stands_once : ℕ → ℕ → ℕ → List ℕ → Bool
stands_once x place at [] = true
stands_once x place at (y ∷ ys) = (not (y == x) || at == place) && stands_once x place (1 + at) ys

pub both_true : (a b : Bool) → (a && b) ≡ true → (a ≡ true) × (b ≡ true)
both_true true b e = (refl, e)
both_true false b e = absurd cc

pub other_true : (a b : Bool) → (not a || b) ≡ true → a ≡ true → b ≡ true
other_true true b e h = e
other_true false b e h = absurd cc

once : (x place at : ℕ) (ys : List ℕ) → stands_once x place at ys ≡ true → (q : ℕ) → slice_get ys q ≡ Some x → at + q ≡ place
once x place at [] e q h = absurd cc
once x place at (y ∷ ys) e zero h =
    let is : at ≡ place = (Decides-eqb at place).0 (other_true (y == x) (at == place) (both_true (not (y == x) || (at == place)) (stands_once x place (1 + at) ys) e).0 ((Decides-eqb y x).1 cc)) in
    omega (arith, is)
once x place at (y ∷ ys) e (suc q) h =
    let is : 1 + at + q ≡ place = once x place (1 + at) ys (both_true (not (y == x) || (at == place)) (stands_once x place (1 + at) ys) e).1 q h in
    omega (arith, is)

pub one_in : (heads starts : List ℕ) (bodies : List Symbol) (x place p : ℕ) → option_map (λ (r : Rule). r.head) (rule_by heads starts bodies p) ≡ Some x
    → stands_once x place 0 heads ≡ true → p ≡ place
unfolding rule_by
one_in heads starts bodies x place p e test =
    let is : 0 + p ≡ place = once x place 0 heads test p (headed (slice_get heads p) e) in
    omega (arith, is)
  where
    headed : (o : Option ℕ) → option_map (λ (r : Rule). r.head) (option_map (λ (h : ℕ). rule_of h (body_by starts bodies p)) o) ≡ Some x → o ≡ Some x
    headed None h = absurd cc
    headed (Some y) h = h

pub one_path : (p : ℕ) → head_of p ≡ Some n.PATH → p ≡ PATH
unfolding ilasm
one_path p e = one_in _ _ _ n.PATH PATH p e refl

under_path : (s : Source) (p : ℕ) (b a : Forest) → p ≡ PATH → FitsBody s p b → HasBodies s b
    → FitsBody s PATH (child (PATH ∷ []) (branch p b a)) × HasBodies s (child (PATH ∷ []) (branch p b a))
under_path s p b a same fits bodies =
    subst (λ q. FitsBody s q b → FitsBody s PATH (child (PATH ∷ []) (branch q b a)) × HasBodies s (child (PATH ∷ []) (branch q b a))) (sym same)
    (λ fit. (fit, bodies)) fits

pub path_child : (s : Source) (f : Forest) → FitsBody s TYPE_NAME_SCOPE f → HasBodies s f
    → FitsBody s PATH (child (PATH ∷ []) f) × HasBodies s (child (PATH ∷ []) f)
path_child s f h each = go f (fits_rule s TYPE_NAME_SCOPE _ _ f rule_scope h) each
  where
    go : (g : Forest) → Fits s (Terminal t.SCOPE ∷ Nonterminal n.PATH ∷ []) g → HasBodies s g
        → FitsBody s PATH (child (PATH ∷ []) g) × HasBodies s (child (PATH ∷ []) g)
    go none i e = absurd i
    go (branch p b a) i e = absurd i
    go (leaf k none) i e = absurd i.1
    go (leaf k (leaf l a)) i e = absurd i.1
    go (leaf k (branch p b a)) i e = under_path s p b a (one_path p i.1.0) e.0 e.1

pub path_alone : (s : Source) (f : Forest) → FitsBody s TYPE_NAME_PATH f → HasBodies s f
    → FitsBody s PATH (child (PATH ∷ []) f) × HasBodies s (child (PATH ∷ []) f)
path_alone s f h each = go f (fits_rule s TYPE_NAME_PATH _ _ f rule_name h) each
  where
    go : (g : Forest) → Fits s (Nonterminal n.PATH ∷ []) g → HasBodies s g → FitsBody s PATH (child (PATH ∷ []) g) × HasBodies s (child (PATH ∷ []) g)
    go none i e = absurd i
    go (leaf k a) i e = absurd i
    go (branch p b a) i e = under_path s p b a (one_path p i.0) e.0 e.1
