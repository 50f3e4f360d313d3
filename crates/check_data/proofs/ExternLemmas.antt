-- The assemblies that a source refers to: how many they are, and their keys.
use Rattle.std.proofs.Common.{◌≡◌, ℕ, ◌<◌, ◌^◌, List, [], ◌∷◌, ◌++◌, Option, None, Some, length, map, ap, sym, ◌∙◌, refl, arith, length-append}
use Rattle.std.specs.Prelude.{Bool, true, false, ◌==◌, MatchOption}
use Rattle.std.specs.List.{flat_map}
use Rattle.ilasm_grammar.specs.declared.productions.TheConstants.{ASSEMBLY_EXTERN}
use Rattle.ilasm_grammar.specs.declared.symbol.Symbol.TheVariants.{Nonterminal}
use Rattle.ilasm_grammar.specs.declared.tree.TreeNode.{TreeNode}
use Rattle.ilasm_grammar.specs.declared.tree.TreeNode.TheVariants.{Branch, Leaf}
use Rattle.source_model.specs.Forest as tree
use Rattle.source_model.specs.Forest.{Forest, each, joined, preorder}
use Rattle.source_model.specs.Laws.{ForestsJoin}
use Rattle.source_model.specs.Names.{extern_key, externs}
use Rattle.source_model.specs.Source.{Source}
use Rattle.source_model.specs.Values.{name_text}
use Rattle.source_nodes.specs.Derived.{Fits}
use Rattle.source_syntax.specs.Namings.{names_in, tokens_named}
use Rattle.source_nodes.specs.Walk.{Opens}
use Rattle.source_syntax.specs.declared.name_lists.Naming.TheVariants.{Assembly}
use Rattle.source_nodes.specs.declared.walk.Opened.{Opened}
use Rattle.source_nodes.proofs.Collecting.{each_other, each_own}
use Rattle.source_syntax.proofs.SizeLemmas.{few_each}

-- ---- how many

each_few : ForestsJoin → (p q : ℕ) (b : Forest) → length (preorder b) < 2 ^ 32 → length (each p (tree.branch q b tree.none)) < 2 ^ 32
each_few joins p q b few = go (p == q) refl
  where
    go : (c : Bool) → (p == q) ≡ c → length (each p (tree.branch q b tree.none)) < 2 ^ 32
    go true same =
        let is : p ≡ q = grind arith in
        let one : length (each p (tree.branch q b tree.none)) ≡ 1 = ap (λ r. length (each p (tree.branch r b tree.none))) (sym is) ∙ ap length (each_own p b tree.none) in
        omega (arith, one)
    go false other =
        let within : length (each p (tree.branch q b tree.none)) ≡ length (each p (joined b tree.none)) = ap length (each_other p joins q b tree.none other) in
        let most = few_each p (joined b tree.none) in
        let whole : length (preorder (joined b tree.none)) ≡ length (preorder b ++ []) = ap length (joins.nodes b tree.none) in
        omega (arith, within, most, whole, few, length-append (preorder b) [])

abbrev below_of : Forest → Forest
below_of tree.none = tree.none
below_of (tree.leaf k a) = tree.none
below_of (tree.branch p b a) = b

pub few_externs : ForestsJoin → (s : Source) (n : ℕ) (f : Forest) (nodes : List TreeNode) (o : Option Opened) → MatchOption o (nodes ≡ []) (λ x. Opens nodes x)
    → preorder f ≡ nodes → Fits s (Nonterminal n ∷ []) f → length (each ASSEMBLY_EXTERN f) < 2 ^ 32
few_externs joins s n tree.none nodes o opened e fits = absurd fits
few_externs joins s n (tree.leaf k a) nodes o opened e fits = absurd fits
few_externs joins s n (tree.branch p b (tree.leaf k a)) nodes o opened e fits = absurd fits.1
few_externs joins s n (tree.branch p b (tree.branch q c a)) nodes o opened e fits = absurd fits.1
few_externs joins s n (tree.branch p b tree.none) nodes None opened e fits = let none = e ∙ opened in absurd cc
few_externs joins s n (tree.branch p b tree.none) nodes (Some x) opened e fits = go x.node refl
  where
    go : (node : TreeNode) → x.node ≡ node → length (each ASSEMBLY_EXTERN (tree.branch p b tree.none)) < 2 ^ 32
    go (Leaf token) is = let l = opened.leaf (tree.branch p b tree.none) token e is in let apart = l.is in absurd cc
    go (Branch q count) is =
        let h = opened.branch (tree.branch p b tree.none) q count e is in
        let same : b ≡ h.inner = ap below_of h.is in
        let long : length (preorder b) ≡ length x.below.now = ap (λ g. length (preorder g)) same ∙ ap length h.inner-is in
        each_few joins ASSEMBLY_EXTERN p b (omega (arith, long, opened.few))

-- ---- their keys, by their tokens

keys_of : (s : Source) (fs : List Forest) → map (name_text s) (flat_map (tokens_named Assembly) fs) ≡ map (extern_key s) fs
keys_of s [] = refl
keys_of s (f ∷ fs) = ap (λ ks. extern_key s f ∷ ks) (keys_of s fs)

pub keys_are : (s : Source) (names : List (List ℕ)) → names ≡ map (name_text s) (names_in Assembly s.tree) → names ≡ map (extern_key s) (externs s)
keys_are s names e = e ∙ keys_of s (externs s)
