-- The facts of the grammar of assembler sources.
use Rattle.std.proofs.Common.{◌≡◌, ℕ, suc, ◌*◌, ◌<◌, ◌≤◌, List, [], ◌∷◌, length, refl, sym, ap, ◌∙◌, subst, arith}
use Rattle.ilasm_grammar.specs.declared.symbol.Symbol.TheVariants.{Nonterminal}
use Rattle.ilasm_grammar.specs.declared.rules.TheConstants.{HEADS, STARTS, BODIES}
use Rattle.ilasm_grammar.specs.declared.choices.TheConstants.{ROWS, FALLBACKS, OWNERS, PICKS}
use Rattle.ilasm_grammar.specs.declared.terminals.TheConstants.{END}
use Rattle.ilasm_grammar.specs.declared.nonterminals.TheConstants.{SOURCE}
use Rattle.ilasm_grammar.specs.declared.tree.TreeNode.{TreeNode}
use Rattle.ilasm_grammar.specs.Certificate.{surplus, shortfall}
use Rattle.ilasm_grammar.specs.Counts.{counted}
use Rattle.ilasm_grammar.specs.Laws.{IsDecidedByOne, IsReached}
use Rattle.ilasm_grammar.specs.Leftmost.{Leftmost}
use Rattle.ilasm_grammar.specs.Grammar.{Derives, IsSentence}
use Rattle.ilasm_grammar.specs.Choice.{AreFollowed.none, AreFollowed.nonterminal, IsProductive, IsDecided}
use Rattle.ilasm_grammar.specs.Ilasm.{ilasm, body_at, picked, ilasm_sets}
use Rattle.ilasm_grammar.proofs.CountsLemmas.{counted-erased}
use Rattle.ilasm_grammar.proofs.CourseLemmas.{one_tree}
use Rattle.ilasm_grammar.proofs.LawLemmas.{decided_by_one, reached}
use Rattle.ilasm_grammar.proofs.LeftmostLemmas.{grown, length-erased}
use Rattle.ilasm_grammar.proofs.NodesLemmas.{nodes_le}
use Rattle.ilasm_grammar.proofs.TableLemmas.{rule_by-at, rule_by-is, picked_by-own, picked_by-other}
use Rattle.ilasm_grammar.proofs.Tables.{sets_of}
use Rattle.ilasm_grammar.proofs.TableCheck.{row_in, ilasm_tables, ilasm_checked}
use Rattle.ilasm_grammar.proofs.TableFacts.{IsTableOf, decided, productive_nonterminal}

lt_of : {k n : ℕ} → k ≤ n → k < suc n
lt_of h = omega arith

pub ilasm_table : IsTableOf ilasm_tables ilasm picked
unfolding ilasm_tables ilasm body_at picked row_in
ilasm_table = record {
  rules = λ {p} {r} e. rule_by-is HEADS STARTS BODIES p r e;
  is_rule = λ p lt. rule_by-at HEADS STARTS BODIES p lt;
  own = λ n k le same. picked_by-own ROWS OWNERS PICKS FALLBACKS n k 411 (lt_of le) same;
  other = λ n k le apart. picked_by-other ROWS OWNERS PICKS FALLBACKS n k 411 (lt_of le) apart;
}

same_sets : sets_of ilasm_tables ≡ ilasm_sets
unfolding ilasm_tables ilasm_sets
same_sets = refl

pub ilasm_decided : IsDecided ilasm ilasm_sets picked END
unfolding ilasm_tables ilasm_sets
ilasm_decided = decided ilasm_tables ilasm_checked ilasm picked ilasm_table

pub ilasm_productive : (n : ℕ) → n < 165 → (at : ℕ) → IsProductive ilasm (Nonterminal n ∷ []) at
unfolding ilasm_tables
ilasm_productive n lt at = productive_nonterminal ilasm_tables ilasm_checked ilasm picked ilasm_table n lt at

-- ---- derivations of sources

pub ilasm_tree : (kinds : List ℕ) (raw : List TreeNode) → Leftmost ilasm 0 (Nonterminal SOURCE ∷ []) kinds raw →
    Derives ilasm 0 (Nonterminal SOURCE ∷ []) kinds (counted ilasm raw)
ilasm_tree kinds raw r =
    let t = grown ilasm r in
    subst (λ (x : List TreeNode). Derives ilasm 0 (Nonterminal SOURCE ∷ []) kinds x) (sym (ap (counted ilasm) t.raw-is ∙ counted-erased ilasm t.derives)) t.derives

pub ilasm_one_tree : (kinds : List ℕ) (a b : List TreeNode) → Derives ilasm 0 (Nonterminal SOURCE ∷ []) kinds a →
    Derives ilasm 0 (Nonterminal SOURCE ∷ []) kinds b → a ≡ b
ilasm_one_tree kinds a b da db =
    one_tree ilasm ilasm_sets picked END ilasm_decided (nonterminal (λ kind s. elim s [ ]) none) da db

pub ilasm_nodes : (kinds : List ℕ) (tree : List TreeNode) → Derives ilasm 0 (Nonterminal SOURCE ∷ []) kinds tree → length tree ≤ 7 * length kinds
unfolding ilasm_tables surplus shortfall
ilasm_nodes kinds tree d = let h = nodes_le ilasm_tables ilasm_checked ilasm picked ilasm_table d in omega (arith, h)

pub ilasm_raw_nodes : (kinds : List ℕ) (raw : List TreeNode) → Leftmost ilasm 0 (Nonterminal SOURCE ∷ []) kinds raw → length raw ≤ 7 * length kinds
ilasm_raw_nodes kinds raw r =
    let t = grown ilasm r in omega (arith, ilasm_nodes kinds t.nodes t.derives, ap length t.raw-is, length-erased t.nodes)

pub ilasm_sentence : (n : ℕ) → n < 165 → (kinds : List ℕ) × IsSentence ilasm n kinds
ilasm_sentence n lt = let p = ilasm_productive n lt 0 in let t = grown ilasm p.derives in (p.kinds, (t.nodes, t.derives))

pub ilasm_decided_by_one : IsDecidedByOne ilasm
ilasm_decided_by_one = decided_by_one ilasm ilasm_sets picked END ilasm_decided

pub ilasm_reached : (n : ℕ) → n < 165 → IsReached ilasm SOURCE n
unfolding ilasm_tables
ilasm_reached n lt = reached ilasm_tables ilasm_checked ilasm picked ilasm_table n lt
