-- The names of parameters, locals and variables, from the bodies of their productions (ECMA-335 II.15.4, III.1.7.2).
use Rattle.std.proofs.Common.{◌≡◌, ℕ, ◌⊎◌, inl, inr, List, [], ◌∷◌, ◌++◌, Some, refl, ap, sym, subst, ◌∙◌}
use Rattle.std.specs.Prelude.{Bool, true, false, ◌==◌, ◌||◌, ◌&&◌, nat_le, slice_get, if◌then◌else◌}
use Rattle.std.proofs.lemmas.Bool.Decides.{Decides-eqb}
use Rattle.il_lexer.specs.declared.types.TokenKind.TheVariants as kind
use Rattle.ilasm_grammar.specs.Grammar.{rule_of}
use Rattle.ilasm_grammar.specs.Ilasm.{ilasm, rule_by}
use Rattle.ilasm_grammar.specs.declared.nonterminals.TheConstants as n
use Rattle.ilasm_grammar.specs.declared.productions.TheConstants.{DEF_ARG, INDEX_INT, INDEX_NAME, INSTRUCTION_OP_VAR, LOCAL, NAME_OPT_SOME}
use Rattle.ilasm_grammar.specs.declared.symbol.Symbol.{Symbol}
use Rattle.ilasm_grammar.specs.declared.symbol.Symbol.TheVariants.{Terminal, Nonterminal}
use Rattle.ilasm_grammar.specs.declared.terminals.TheConstants as t
use Rattle.source_model.specs.Forest.{Forest, none, leaf, branch, child, each, has, is_any_part, leaf_at, part, parts}
use Rattle.source_model.specs.Source.{Source}
use Rattle.source_nodes.specs.Derived.{Fits, FitsBody, HasBodies, head_of}
use Rattle.source_syntax.specs.Methods.{AreNames}
use Rattle.source_nodes.specs.Readers.{IsOf}
use Rattle.source_syntax.proofs.BodyLemmas.{StaysChosen, all_in, closed_rule, enters, has_child, nowhere_below}
use Rattle.source_syntax.proofs.LabelTokens.{all_append}
use Rattle.source_syntax.proofs.NameTokens.{Each, IsBody, each_body, name_at, terminals_of_rule}
use Rattle.source_syntax.proofs.VariableLemmas.{index_is}
use Rattle.source_nodes.proofs.WrittenNames.{fits_rule}
use Rattle.check_bodies.specs.NamedVariables.{name_of, names_of}

-- ---- names of parameters and locals

-- the nonterminals of parameters and locals and of what stands in them, save names
abbrev in_local : ℕ → Bool
in_local m =
    m == n.FLAGS
    || (m == n.PARAM_ATTR_STAR
    || (m == n.PARAM_ATTR || (m == n.BRACKETED_INT_OPT || (m == n.BRACKETED_INT || (nat_le n.TYPE m && nat_le m n.SPEC)))))

local_stays : StaysChosen in_local n.NAME_OPT
unfolding ilasm
local_stays p r is c = closed_rule in_local n.NAME_OPT _ _ _ p r is c refl

rule_parameter : ilasm DEF_ARG ≡ Some (rule_of n.DEF_ARG (Nonterminal n.PARAM_ATTR_STAR ∷ Nonterminal n.TYPE ∷ Nonterminal n.NAME_OPT ∷ []))
unfolding ilasm rule_by
rule_parameter = refl

rule_local : ilasm LOCAL ≡ Some (rule_of n.LOCAL (Nonterminal n.BRACKETED_INT_OPT ∷ Nonterminal n.TYPE ∷ Nonterminal n.NAME_OPT ∷ []))
unfolding ilasm rule_by
rule_local = refl

name_head : head_of NAME_OPT_SOME ≡ Some n.NAME_OPT
unfolding ilasm rule_by
name_head = refl

name_first : slice_get (terminals_of_rule (ilasm NAME_OPT_SOME)) 0 ≡ Some t.NAME
unfolding ilasm rule_by
name_first = refl

module _ (s : Source) where
  -- where there is a name in such a body, it stands at the top
  named_at_top : (body : List Symbol) (f : Forest) → Fits s body f → HasBodies s f → all_in (enters in_local n.NAME_OPT) body ≡ true → AreNames s (name_of f)
  named_at_top body f fits bodies all = go (has NAME_OPT_SOME f) refl
    where
      go : (c : Bool) → has NAME_OPT_SOME f ≡ c → AreNames s (if c then leaf_at 0 (child (NAME_OPT_SOME ∷ []) f) ∷ [] else [])
      go false is = tt
      go true is =
          let below = nowhere_below in_local n.NAME_OPT local_stays s NAME_OPT_SOME n.NAME_OPT name_head refl f body fits bodies all in
          let at = has_child (FitsBody s) NAME_OPT_SOME f bodies below is in
          (name_at s NAME_OPT_SOME 0 (child (NAME_OPT_SOME ∷ []) f) name_first at.0, tt)

  parameter_named : (f : Forest) → IsBody s DEF_ARG f → AreNames s (name_of f)
  parameter_named f h = named_at_top (Nonterminal n.PARAM_ATTR_STAR ∷ Nonterminal n.TYPE ∷ Nonterminal n.NAME_OPT ∷ []) f (fits_rule s DEF_ARG n.DEF_ARG _ f rule_parameter h.0) h.1 refl

  local_named : (f : Forest) → IsBody s LOCAL f → AreNames s (name_of f)
  local_named f h = named_at_top (Nonterminal n.BRACKETED_INT_OPT ∷ Nonterminal n.TYPE ∷ Nonterminal n.NAME_OPT ∷ []) f (fits_rule s LOCAL n.LOCAL _ f rule_local h.0) h.1 refl

  all_named : (p : ℕ) → ((f : Forest) → IsBody s p f → AreNames s (name_of f)) → (fs : List Forest) → Each (IsBody s p) fs → AreNames s (names_of fs)
  all_named p names [] h = tt
  all_named p names (f ∷ fs) h = all_append (IsOf s kind.Name) (name_of f) (names_of fs) (names f h.0) (all_named p names fs h.1)

  pub parameters_named : (f : Forest) → HasBodies s f → AreNames s (names_of (each DEF_ARG f))
  parameters_named f h = all_named DEF_ARG parameter_named (each DEF_ARG f) (each_body s DEF_ARG f h)

  pub locals_named : (f : Forest) → HasBodies s f → AreNames s (names_of (each LOCAL f))
  locals_named f h = all_named LOCAL local_named (each LOCAL f) (each_body s LOCAL f h)

-- ---- the operand behind a mnemonic

-- a mnemonic, and one production behind it
pub record Operated (s : Source) (op m : ℕ) (f : Forest) : Type 0 where
  pub mnemonic : ℕ
  pub word : Forest
  pub production : ℕ
  pub operand : Forest
  pub is : f ≡ branch mnemonic word (branch production operand none)
  pub op-head : head_of mnemonic ≡ Some op
  pub head : head_of production ≡ Some m
  pub word-fits : FitsBody s mnemonic word
  pub word-bodies : HasBodies s word
  pub fits : FitsBody s production operand
  pub bodies : HasBodies s operand

pub operated : (s : Source) (op m : ℕ) (f : Forest) → Fits s (Nonterminal op ∷ Nonterminal m ∷ []) f → HasBodies s f → Operated s op m f
operated s op m none h each = absurd h
operated s op m (leaf k a) h each = absurd h
operated s op m (branch p b none) h each = absurd h.1
operated s op m (branch p b (leaf k a)) h each = absurd h.1
operated s op m (branch p b (branch q c none)) h each = record {
  mnemonic = p;
  word = b;
  production = q;
  operand = c;
  is = refl;
  op-head = h.0;
  head = h.1.0;
  word-fits = each.0;
  word-bodies = each.1;
  fits = each.2.0;
  bodies = each.2.1;
}
operated s op m (branch p b (branch q c (leaf k a))) h each = absurd h.1.1
operated s op m (branch p b (branch q c (branch r d a))) h each = absurd h.1.1

-- below a mnemonic stands no production
abbrev pub nothing_in : ℕ → Bool
nothing_in m = false

var_stays : StaysChosen nothing_in n.OP_VAR
unfolding ilasm
var_stays p r is c = closed_rule nothing_in n.OP_VAR _ _ _ p r is c refl

int_head : head_of INDEX_INT ≡ Some n.INDEX
unfolding ilasm rule_by
int_head = refl

index_head : head_of INDEX_NAME ≡ Some n.INDEX
unfolding ilasm rule_by
index_head = refl

index_first : slice_get (terminals_of_rule (ilasm INDEX_NAME)) 0 ≡ Some t.NAME
unfolding ilasm rule_by
index_first = refl

rule_var : ilasm INSTRUCTION_OP_VAR ≡ Some (rule_of n.INSTRUCTION (Nonterminal n.OP_VAR ∷ Nonterminal n.INDEX ∷ []))
unfolding ilasm rule_by
rule_var = refl

pub different : (p q x y : ℕ) → head_of p ≡ Some x → head_of q ≡ Some y → (x == y) ≡ false → (q == p) ≡ false
different p q x y h i apart = go (q == p) refl
  where
    go : (c : Bool) → (q == p) ≡ c → c ≡ false
    go false e = refl
    go true e =
        let same : Some x ≡ Some y = sym h ∙ ap head_of (sym ((Decides-eqb q p).0 e)) ∙ i in
        let also : x ≡ y = cc in
        let yes = (Decides-eqb x y).1 also in
        absurd cc

-- a variable in an instruction is a number or a name, which stands at the top
pub record HasVariable (s : Source) (f : Forest) : Type 0 where
  pub named : has INDEX_NAME f ≡ true → IsOf s kind.Name (leaf_at 0 (child (INDEX_NAME ∷ []) f))
  pub name-token : has INDEX_NAME f ≡ true → leaf_at 0 (child (INDEX_INT ∷ INDEX_NAME ∷ []) f) ≡ leaf_at 0 (child (INDEX_NAME ∷ []) f)
  pub number-token : has INDEX_NAME f ≡ false → leaf_at 0 (child (INDEX_INT ∷ INDEX_NAME ∷ []) f) ≡ leaf_at 0 (child (INDEX_INT ∷ []) f)
  pub either : has INDEX_INT f ≡ (if has INDEX_NAME f then false else true)

module _ (s : Source) (p : ℕ) (b : Forest) (op : head_of p ≡ Some n.OP_VAR) (fits : FitsBody s p b) (bodies : HasBodies s b) where
  nowhere : (r : ℕ) → head_of r ≡ Some n.INDEX → parts (r ∷ []) b ≡ []
  nowhere r head = (nowhere_below nothing_in n.OP_VAR var_stays s r n.INDEX head refl (branch p b none) (Nonterminal n.OP_VAR ∷ []) (op, tt) (fits, bodies, tt) refl).0

  apart : (r : ℕ) → head_of r ≡ Some n.INDEX → (r == p) ≡ false
  apart r head = different p r n.OP_VAR n.INDEX op head refl

  -- what is asked of what stands behind it
  has_behind : (r : ℕ) (a : Forest) → head_of r ≡ Some n.INDEX → has r (branch p b a) ≡ has r a
  has_behind r a head =
      ap (λ (x : Bool). is_any_part ((if x || false then part p b ∷ [] else parts (r ∷ []) b) ++ parts (r ∷ []) a)) (apart r head)
      ∙ ap (λ ps. is_any_part (ps ++ parts (r ∷ []) a)) (nowhere r head)

  child_behind : (r : ℕ) (a : Forest) → head_of r ≡ Some n.INDEX → child (r ∷ []) (branch p b a) ≡ child (r ∷ []) a
  child_behind r a head = ap (λ (x : Bool). if x || false then b else child (r ∷ []) a) (apart r head)

  either_behind : (a : Forest) → child (INDEX_INT ∷ INDEX_NAME ∷ []) (branch p b a) ≡ child (INDEX_INT ∷ INDEX_NAME ∷ []) a
  either_behind a =
      ap (λ (x : Bool). if x || ((INDEX_NAME == p) || false) then b else child (INDEX_INT ∷ INDEX_NAME ∷ []) a) (apart INDEX_INT int_head)
      ∙ ap (λ (x : Bool). if x || false then b else child (INDEX_INT ∷ INDEX_NAME ∷ []) a) (apart INDEX_NAME index_head)

  by_number : (k : ℕ) → HasVariable s (branch p b (branch INDEX_INT (leaf k none) none))
  by_number k =
      let a : Forest = branch INDEX_INT (leaf k none) none in
      let not_named : has INDEX_NAME (branch p b a) ≡ false = has_behind INDEX_NAME a index_head in
      record {
        named = λ e. absurd cc;
        name-token = λ e. absurd cc;
        number-token = λ _. ap (leaf_at 0) (either_behind a ∙ sym (child_behind INDEX_INT a int_head));
        either = has_behind INDEX_INT a int_head ∙ sym (ap (λ (x : Bool). if x then false else true) not_named);
      }

  by_name : (k : ℕ) → IsOf s kind.Name k → HasVariable s (branch p b (branch INDEX_NAME (leaf k none) none))
  by_name k name =
      let a : Forest = branch INDEX_NAME (leaf k none) none in
      let is_named : has INDEX_NAME (branch p b a) ≡ true = has_behind INDEX_NAME a index_head in
      record {
        named = λ _. subst (λ g. IsOf s kind.Name (leaf_at 0 g)) (sym (child_behind INDEX_NAME a index_head)) name;
        name-token = λ _. ap (leaf_at 0) (either_behind a ∙ sym (child_behind INDEX_NAME a index_head));
        number-token = λ e. absurd cc;
        either = has_behind INDEX_INT a int_head ∙ sym (ap (λ (x : Bool). if x then false else true) is_named);
      }

rule_int : ilasm INDEX_INT ≡ Some (rule_of n.INDEX (Terminal t.INT ∷ []))
unfolding ilasm rule_by
rule_int = refl

rule_name : ilasm INDEX_NAME ≡ Some (rule_of n.INDEX (Terminal t.NAME ∷ []))
unfolding ilasm rule_by
rule_name = refl

one_token : (s : Source) (x : ℕ) (f : Forest) → Fits s (Terminal x ∷ []) f → (k : ℕ) × (f ≡ leaf k none)
one_token s x none h = absurd h
one_token s x (leaf k none) h = (k, refl)
one_token s x (leaf k (leaf l a)) h = absurd h.1
one_token s x (leaf k (branch p b a)) h = absurd h.1
one_token s x (branch p b a) h = absurd h

pub has_variable : (s : Source) (f : Forest) → FitsBody s INSTRUCTION_OP_VAR f → HasBodies s f → HasVariable s f
has_variable s f h bodies =
    let o = operated s n.OP_VAR n.INDEX f (fits_rule s INSTRUCTION_OP_VAR n.INSTRUCTION _ f rule_var h) bodies in
    subst (HasVariable s) (sym o.is) (go o (index_is o.production o.head))
  where
    go : (o : Operated s n.OP_VAR n.INDEX f) → (o.production ≡ INDEX_INT) ⊎ (o.production ≡ INDEX_NAME)
        → HasVariable s (branch o.mnemonic o.word (branch o.production o.operand none))
    go o (inl is) =
        let fit : FitsBody s INDEX_INT o.operand = subst (λ r. FitsBody s r o.operand) is o.fits in
        let k = one_token s t.INT o.operand (fits_rule s INDEX_INT n.INDEX _ o.operand rule_int fit) in
        subst (λ r. HasVariable s (branch o.mnemonic o.word (branch r o.operand none))) (sym is)
        (subst (λ g. HasVariable s (branch o.mnemonic o.word (branch INDEX_INT g none))) (sym k.1)
        (by_number s o.mnemonic o.word o.op-head o.word-fits o.word-bodies k.0))
    go o (inr is) =
        let fit : FitsBody s INDEX_NAME o.operand = subst (λ r. FitsBody s r o.operand) is o.fits in
        let k = one_token s t.NAME o.operand (fits_rule s INDEX_NAME n.INDEX _ o.operand rule_name fit) in
        let name : IsOf s kind.Name k.0 = subst (λ g. IsOf s kind.Name (leaf_at 0 g)) k.1 (name_at s INDEX_NAME 0 o.operand index_first fit) in
        subst (λ r. HasVariable s (branch o.mnemonic o.word (branch r o.operand none))) (sym is)
        (subst (λ g. HasVariable s (branch o.mnemonic o.word (branch INDEX_NAME g none))) (sym k.1)
        (by_name s o.mnemonic o.word o.op-head o.word-fits o.word-bodies k.0 name))
