-- What productions that are applied one after another keep.
use Rattle.std.proofs.Common.{◌≡◌, ℕ, ◌<◌, ◌≤◌, List, [], ◌∷◌, ◌++◌, drop, Some, None, Option, sym, ap, ◌∙◌, subst, arith}
use Rattle.ilasm_grammar.specs.declared.nonterminals.TheConstants.{SOURCE}
use Rattle.ilasm_grammar.specs.declared.symbol.Symbol.{Symbol}
use Rattle.ilasm_grammar.specs.declared.symbol.Symbol.TheVariants.{Terminal, Nonterminal}
use Rattle.ilasm_grammar.specs.declared.terminals.TheConstants.{END}
use Rattle.ilasm_grammar.specs.declared.tree.TreeNode.{TreeNode}
use Rattle.ilasm_grammar.specs.declared.tree.TreeNode.TheVariants.{Branch}
use Rattle.ilasm_grammar.specs.Choice.{load_of, next_of}
use Rattle.ilasm_grammar.specs.Grammar.{Rule, rule_of}
use Rattle.ilasm_grammar.specs.Ilasm.{ilasm, ilasm_sets, picked}
use Rattle.ilasm_grammar.specs.Parsing.{AreStuck, IsUnderWay, IsExtended}
use Rattle.ilasm_grammar.specs.Stacked.{joined, rest_at, symbol_in, behind_in, begin_in, pick_in, fallback_of, symbols_at, IsCellOf, IsChoice}
use Rattle.ilasm_grammar.proofs.ChoiceLemmas.{lighter}
use Rattle.ilasm_grammar.proofs.CourseLemmas.{applies}
use Rattle.ilasm_grammar.proofs.IlasmFacts.{ilasm_decided}
use Rattle.ilasm_grammar.proofs.PlaceLemmas.{cell_choice, rest_at-step}

pub unextended : (terminal : ℕ) (symbols : List Symbol) (nodes : List TreeNode) → IsExtended terminal symbols nodes symbols nodes
unextended terminal symbols nodes = record { keeps = λ kinds at next under. under; lighter = omega arith }

pub extended_more : {terminal : ℕ} {s s1 s2 : List Symbol} {n n1 n2 : List TreeNode} → IsExtended terminal s n s1 n1 → IsExtended terminal s1 n1 s2 n2 →
    IsExtended terminal s n s2 n2
extended_more a b = record {
  keeps = λ kinds at next under. b.keeps kinds at next (a.keeps kinds at next under);
  lighter = omega (arith, a.lighter, b.lighter);
}

-- a production is applied
pub applied_one : (terminal n p : ℕ) (body rest symbols symbols' : List Symbol) (nodes nodes' : List TreeNode) → ilasm p ≡ Some (rule_of n body) →
    p ≡ picked n terminal → symbols ≡ Nonterminal n ∷ rest → symbols' ≡ body ++ rest → nodes' ≡ nodes ++ Branch p 0 ∷ [] →
    IsExtended terminal symbols nodes symbols' nodes' × (load_of ilasm_sets symbols' < load_of ilasm_sets symbols)
applied_one terminal n p body rest symbols symbols' nodes nodes' rule is before after made =
    let less : load_of ilasm_sets symbols' < load_of ilasm_sets symbols =
    subst (λ (s : List Symbol). load_of ilasm_sets symbols' < load_of ilasm_sets s) (sym before)
    (subst (λ (s : List Symbol). load_of ilasm_sets s < load_of ilasm_sets (Nonterminal n ∷ rest)) (sym after)
    (lighter ilasm ilasm_sets picked END ilasm_decided rest rule)) in (
      record {
        keeps = λ kinds at next under.
            let under1 = subst (λ (s : List Symbol). IsUnderWay kinds at s nodes) before under in
            let same : picked n (next_of END (drop at kinds)) ≡ p = ap (picked n) next ∙ sym is in
            let done = applies ilasm ilasm_sets picked END SOURCE ilasm_decided kinds at n p body rest nodes rule same under1 in
            subst (λ (s : List Symbol). IsUnderWay kinds at s nodes') (sym after)
            (subst (λ (x : List TreeNode). IsUnderWay kinds at (body ++ rest) x) (sym made) done);
        lighter = omega (arith, less);
      },
      less,
    )

-- the first of the symbols
pub first_is : (next : ℕ) (behind : List ℕ) (symbol : Symbol) → next < 887 → symbol_in next ≡ symbol →
    symbols_at next behind ≡ symbol ∷ symbols_at (behind_in next) behind
first_is next behind symbol lt is =
    ap (λ (s : List Symbol). s ++ joined behind) (rest_at-step next lt) ∙ ap (λ (s : Symbol). s ∷ symbols_at (behind_in next) behind) is

-- the production in a cell is applied
pub cell_applied : (terminal cell next : ℕ) (behind : List ℕ) (symbols' : List Symbol) (nodes nodes' : List TreeNode) (p begin : ℕ) →
    IsCellOf terminal (symbol_in next) cell → terminal ≤ 410 → next < 887 → p ≡ pick_in cell → begin ≡ begin_in (pick_in cell) →
    nodes' ≡ nodes ++ Branch p 0 ∷ [] → symbols' ≡ rest_at begin ++ symbols_at (behind_in next) behind →
    IsExtended terminal (symbols_at next behind) nodes symbols' nodes' × (load_of ilasm_sets symbols' < load_of ilasm_sets (symbols_at next behind))
cell_applied terminal cell next behind symbols' nodes nodes' p begin h le lt same place made after =
    let own = cell_choice h le in
    applied_one terminal h.n p (rest_at begin) (symbols_at (behind_in next) behind) (symbols_at next behind) symbols' nodes nodes'
    (ap ilasm same ∙ own.rule ∙ ap (λ (b : ℕ). Some (rule_of h.n (rest_at b))) (sym place)) (same ∙ own.is_picked)
    (first_is next behind (Nonterminal h.n) lt h.is) after made

-- and so is that which a nonterminal goes on with where it has no cell
pub fallback_applied : (terminal n next : ℕ) (behind : List ℕ) (symbols' : List Symbol) (nodes nodes' : List TreeNode) (p begin : ℕ) →
    symbol_in next ≡ Nonterminal n → next < 887 → picked n terminal ≡ fallback_of n → p ≡ fallback_of n → IsChoice n p begin →
    nodes' ≡ nodes ++ Branch p 0 ∷ [] → symbols' ≡ rest_at begin ++ symbols_at (behind_in next) behind →
    IsExtended terminal (symbols_at next behind) nodes symbols' nodes' × (load_of ilasm_sets symbols' < load_of ilasm_sets (symbols_at next behind))
fallback_applied terminal n next behind symbols' nodes nodes' p begin first lt picks same rule made after =
    applied_one terminal n p (rest_at begin) (symbols_at (behind_in next) behind) (symbols_at next behind) symbols' nodes nodes'
    rule (same ∙ sym picks) (first_is next behind (Nonterminal n) lt first) after made

-- where it has none
pub none_applies : (terminal n next : ℕ) (behind : List ℕ) → symbol_in next ≡ Nonterminal n → next < 887 → picked n terminal ≡ fallback_of n →
    ilasm (fallback_of n) ≡ None → AreStuck terminal (symbols_at next behind)
none_applies terminal n next behind first lt picks none =
    let is = first_is next behind (Nonterminal n) lt first in record {
      some = λ e. nothing _ _ (sym is ∙ e);
      expanded = λ m rest e body rule.
          let same : m ≡ n = same_head _ _ _ _ (sym e ∙ is) in
          absent None _ (sym (ap (λ (x : ℕ). ilasm (picked x terminal)) same ∙ ap ilasm picks ∙ none) ∙ rule);
      other = λ low rest e. unlike _ _ _ _ (sym is ∙ e);
    }
  where
    nothing : (s : Symbol) (rest : List Symbol) → s ∷ rest ≡ [] → ⊥
    nothing s rest e = cc

    same_head : (m n : ℕ) (rest more : List Symbol) → Nonterminal m ∷ rest ≡ Nonterminal n ∷ more → m ≡ n
    same_head m n rest more e = cc

    unlike : (n k : ℕ) (rest more : List Symbol) → Nonterminal n ∷ rest ≡ Terminal k ∷ more → ⊥
    unlike n k rest more e = cc

    absent : (o : Option Rule) (r : Rule) → None ≡ Some r → ⊥
    absent o r e = cc

-- a terminal that isn't the token's
pub none_takes : (terminal symbol next : ℕ) (behind : List ℕ) → symbol_in next ≡ Terminal symbol → next < 887 → (symbol ≡ terminal → ⊥) →
    AreStuck terminal (symbols_at next behind)
none_takes terminal symbol next behind first lt apart =
    let is = first_is next behind (Terminal symbol) lt first in record {
      some = λ e. nothing _ _ (sym is ∙ e);
      expanded = λ m rest e body rule. unlike _ _ _ _ (sym is ∙ e);
      other = λ low rest e. apart (same_head _ _ _ _ (sym is ∙ e));
    }
  where
    nothing : (s : Symbol) (rest : List Symbol) → s ∷ rest ≡ [] → ⊥
    nothing s rest e = cc

    same_head : (j k : ℕ) (rest more : List Symbol) → Terminal j ∷ rest ≡ Terminal k ∷ more → j ≡ k
    same_head j k rest more e = cc

    unlike : (k n : ℕ) (rest more : List Symbol) → Terminal k ∷ rest ≡ Nonterminal n ∷ more → ⊥
    unlike k n rest more e = cc
