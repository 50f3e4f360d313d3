-- Leftmost derivations and derivation trees give each other.
use Rattle.std.proofs.Common.{◌≡◌, ℕ, zero, suc, ◌+◌, List, [], ◌∷◌, ◌++◌, length, refl, sym, ap, ◌∙◌, subst, append_assoc, length-append, arith, None}
use Rattle.ilasm_grammar.specs.declared.symbol.Symbol.{Symbol}
use Rattle.ilasm_grammar.specs.declared.symbol.Symbol.TheVariants.{Terminal, Nonterminal}
use Rattle.ilasm_grammar.specs.declared.tree.TreeNode.{TreeNode}
use Rattle.ilasm_grammar.specs.declared.tree.TreeNode.TheVariants.{Branch, Leaf}
use Rattle.ilasm_grammar.specs.Counts.{HaveRules}
use Rattle.ilasm_grammar.specs.Leftmost.{erased, Leftmost, Leftmost.done, Leftmost.shift, Leftmost.apply}
use Rattle.ilasm_grammar.specs.Grammar.{Grammar, Derives, Derives.none, Derives.leaf, Derives.branch}

pub erased-++ : (xs ys : List TreeNode) → erased (xs ++ ys) ≡ erased xs ++ erased ys
erased-++ [] ys = refl
erased-++ (Leaf at ∷ xs) ys = ap (λ zs. Leaf at ∷ zs) (erased-++ xs ys)
erased-++ (Branch production count ∷ xs) ys = ap (λ zs. Branch production 0 ∷ zs) (erased-++ xs ys)

pub length-erased : (xs : List TreeNode) → length (erased xs) ≡ length xs
length-erased [] = refl
length-erased (Leaf at ∷ xs) = ap suc (length-erased xs)
length-erased (Branch production count ∷ xs) = ap suc (length-erased xs)

-- one after another
pub joined : (g : Grammar) {at : ℕ} {symbols more : List Symbol} {kinds rest : List ℕ} {nodes after : List TreeNode} →
    Leftmost g at symbols kinds nodes → Leftmost g (at + length kinds) more rest after →
    Leftmost g at (symbols ++ more) (kinds ++ rest) (nodes ++ after)
joined g {more = more} {rest = rest} {after = after} (done {at = at}) d = subst (λ (k : ℕ). Leftmost g k more rest after) (omega arith) d
joined g {more = more} {rest = rest} {after = after} (shift {at = at} {kinds = kinds} r) d =
    shift (joined g r (subst (λ (k : ℕ). Leftmost g k more rest after) (omega arith) d))
joined g {more = more} {rest = rest} {after = after} (apply {at = at} {body = body} {symbols = symbols} {kinds = kinds} {nodes = nodes} e r z) d =
    apply e (subst (λ (s : List Symbol). Leftmost g at s (kinds ++ rest) (nodes ++ after)) (append_assoc body symbols more) (joined g r d)) z

-- a derivation in leftmost order
pub to_leftmost : (g : Grammar) {at : ℕ} {symbols : List Symbol} {kinds : List ℕ} {nodes : List TreeNode} →
    Derives g at symbols kinds nodes → Leftmost g at symbols kinds (erased nodes)
to_leftmost g none = done
to_leftmost g (leaf d) = shift (to_leftmost g d)
to_leftmost g (branch {at = at} {head = head} {production = production} {body = body} {symbols = symbols} {front = front} {back = back} {below = below} {after = after} {nodes = nodes} e d s c k n) =
    let r = joined g (to_leftmost g d) (to_leftmost g s) in
    let r1 = subst (λ (x : List TreeNode). Leftmost g at (body ++ symbols) (front ++ back) x) (sym (erased-++ below after)) r in
    let r2 = subst (λ (x : List TreeNode). Leftmost g at (body ++ symbols) (front ++ back) (erased x)) (sym n) r1 in
    apply e (subst (λ (x : List ℕ). Leftmost g at (body ++ symbols) x (erased nodes)) (sym k) r2) refl

-- what two lists of symbols derive comes in two parts
pub record Parted (g : Grammar) (at : ℕ) (symbols more : List Symbol) (kinds : List ℕ) (nodes : List TreeNode) : Type 0 where
  pub front : List ℕ
  pub back : List ℕ
  pub below : List TreeNode
  pub after : List TreeNode
  pub first : Derives g at symbols front below
  pub second : Derives g (at + length front) more back after
  pub kinds-is : kinds ≡ front ++ back
  pub nodes-is : nodes ≡ below ++ after

pub parted : (g : Grammar) (symbols more : List Symbol) {at : ℕ} {kinds : List ℕ} {nodes : List TreeNode} →
    Derives g at (symbols ++ more) kinds nodes → Parted g at symbols more kinds nodes
parted g [] more {at = at} {kinds = kinds} {nodes = nodes} d = record {
  front = [];
  back = kinds;
  below = [];
  after = nodes;
  first = none;
  second = subst (λ (k : ℕ). Derives g k more kinds nodes) (omega arith) d;
  kinds-is = refl;
  nodes-is = refl;
}
parted g (Terminal kind ∷ symbols) more {at = at} (leaf d) =
    let p = parted g symbols more d in record {
      front = kind ∷ p.front;
      back = p.back;
      below = Leaf at ∷ p.below;
      after = p.after;
      first = leaf p.first;
      second = subst (λ (k : ℕ). Derives g k more p.back p.after) (omega arith) p.second;
      kinds-is = ap (λ x. kind ∷ x) p.kinds-is;
      nodes-is = ap (λ x. Leaf at ∷ x) p.nodes-is;
    }
parted g (Nonterminal head ∷ symbols) more {at = at} (branch {production = production} {count = count} {front = front} {back = back} {below = below} {after = after} e d s c k n) =
    let p = parted g symbols more s in record {
      front = front ++ p.front;
      back = p.back;
      below = Branch production count ∷ (below ++ p.below);
      after = p.after;
      first = branch e d p.first c refl refl;
      second = subst (λ (k : ℕ). Derives g k more p.back p.after) (omega (arith, length-append front p.front)) p.second;
      kinds-is = k ∙ ap (λ x. front ++ x) p.kinds-is ∙ sym (append_assoc front p.front p.back);
      nodes-is = ap (λ x. Branch production count ∷ x) (n ∙ ap (λ x. below ++ x) p.nodes-is ∙ sym (append_assoc below p.below p.after));
    }

-- the branches of a leftmost derivation have productions
pub have_rules : (g : Grammar) {at : ℕ} {symbols : List Symbol} {kinds : List ℕ} {nodes : List TreeNode} →
    Leftmost g at symbols kinds nodes → HaveRules g nodes
have_rules g done zero p c e absent = cc
have_rules g done (suc k) p c e absent = cc
have_rules g (shift r) zero p c e absent = cc
have_rules g (shift r) (suc k) p c e absent = have_rules g r k p c e absent
have_rules g (apply {production = production} e r z) zero p c h absent =
    let same : production ≡ p = cc in
    let gone : g production ≡ None = ap g same ∙ absent in
    cc
have_rules g (apply e r z) (suc k) p c h absent = have_rules g r k p c h absent

-- each leftmost derivation is that of a tree
pub record Grown (g : Grammar) (at : ℕ) (symbols : List Symbol) (kinds : List ℕ) (raw : List TreeNode) : Type 0 where
  pub nodes : List TreeNode
  pub derives : Derives g at symbols kinds nodes
  pub raw-is : raw ≡ erased nodes

pub grown : (g : Grammar) {at : ℕ} {symbols : List Symbol} {kinds : List ℕ} {raw : List TreeNode} →
    Leftmost g at symbols kinds raw → Grown g at symbols kinds raw
grown g done = record { nodes = []; derives = none; raw-is = refl }
grown g (shift {at = at} r) =
    let t = grown g r in record { nodes = Leaf at ∷ t.nodes; derives = leaf t.derives; raw-is = ap (λ x. Leaf at ∷ x) t.raw-is }
grown g (apply {production = production} {count = count} {body = body} {symbols = symbols} {nodes = raw} e r z) =
    let t = grown g r in let p = parted g body symbols t.derives in record {
      nodes = Branch production (length p.below) ∷ (p.below ++ p.after);
      derives = branch e p.first p.second refl p.kinds-is refl;
      raw-is = ap (λ x. Branch production x ∷ raw) z ∙ ap (λ x. Branch production 0 ∷ x) (t.raw-is ∙ ap erased p.nodes-is);
    }
