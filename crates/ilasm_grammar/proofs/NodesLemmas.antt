-- How many nodes a derivation has.
use Rattle.std.proofs.Common.{◌≡◌, ℕ, ◌+◌, ◌*◌, ◌<◌, ◌≤◌, List, length, ap, Some, arith, length-append, subst}
use Rattle.std.proofs.lemmas.Bool.{ltb-true}
use Rattle.ilasm_grammar.specs.declared.symbol.Symbol.{Symbol}
use Rattle.ilasm_grammar.specs.declared.tree.TreeNode.{TreeNode}
use Rattle.ilasm_grammar.specs.Grammar.{rule_of, Grammar, Derives, Derives.none, Derives.leaf, Derives.branch}
use Rattle.ilasm_grammar.proofs.Tables.{Tables, IsChecked, surplus_of, shortfall_of, nodes_ok}
use Rattle.ilasm_grammar.proofs.TableFacts.{IsTableOf, at_rule, head-is, body-is}

module _ (t : Tables) (checked : IsChecked t) (g : Grammar) (picked : ℕ → ℕ → ℕ) (of : IsTableOf t g picked) where
  rule_nodes : {p n : ℕ} {body : List Symbol} → g p ≡ Some (rule_of n body) → surplus_of t body + t.shortfall n < t.surplus n + shortfall_of t body
  rule_nodes {p = p} {n = n} {body = body} e =
      let h : surplus_of t (t.body p) + t.shortfall (t.head p) < t.surplus (t.head p) + shortfall_of t (t.body p) =
      ltb-true _ _ (at_rule t checked g picked of (nodes_ok t) checked.nodes e) in
      subst (λ (b : List Symbol). surplus_of t b + t.shortfall n < t.surplus n + shortfall_of t b) (body-is t checked g picked of e)
      (subst (λ (x : ℕ). surplus_of t (t.body p) + t.shortfall x < t.surplus x + shortfall_of t (t.body p)) (head-is t checked g picked of e) h)

  pub nodes_le : {at : ℕ} {symbols : List Symbol} {kinds : List ℕ} {nodes : List TreeNode} → Derives g at symbols kinds nodes →
      length nodes + shortfall_of t symbols ≤ 7 * length kinds + surplus_of t symbols
  nodes_le none = omega arith
  nodes_le (leaf {kinds = kinds} {nodes = nodes} d) = let h = nodes_le d in omega arith
  nodes_le (branch {head = n} {body = body} {symbols = symbols} {front = front} {back = back} {below = below} {after = after} e d s c k m) =
      let a = nodes_le d in let b = nodes_le s in let r = rule_nodes e in
      omega (arith, ap length k, ap length m, length-append front back, length-append below after)
