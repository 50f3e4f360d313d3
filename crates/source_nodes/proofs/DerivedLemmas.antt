-- The bodies of productions, from their derivation.
use Rattle.std.proofs.Common.{◌≡◌, ℕ, suc, ◌+◌, List, [], ◌∷◌, ◌++◌, length, take, drop, Option, Some, refl, ap, sym, subst, ◌∙◌, arith, append_assoc, length-append, take_at, drop_at}
use Rattle.std.specs.Prelude.{slice_get, option_map, ⊤}
use Rattle.il_lexer.specs.declared.types.Token.{Token}
use Rattle.ilasm_grammar.specs.Grammar.{Derives, Rule, rule_of}
use Rattle.ilasm_grammar.specs.Ilasm.{ilasm}
use Rattle.ilasm_grammar.specs.Parsing.{IsTreeOf, terminals_of}
use Rattle.ilasm_grammar.specs.Terminals.{terminal_of}
use Rattle.ilasm_grammar.specs.declared.symbol.Symbol.{Symbol}
use Rattle.ilasm_grammar.specs.declared.symbol.Symbol.TheVariants.{Terminal, Nonterminal}
use Rattle.ilasm_grammar.specs.declared.tree.TreeNode.{TreeNode}
use Rattle.source_model.specs.Forest.{Forest, preorder}
use Rattle.source_model.specs.Laws.{ForestOpens}
use Rattle.source_model.specs.Source.{Source}
use Rattle.source_nodes.specs.Derived.{terminal_at, head_of, Fits, FitsRule, FitsBody, HasBodies, DerivationsHaveBodies}

-- these terminals stand from this place on
abbrev StandAt : Source → ℕ → List ℕ → Type 0
StandAt s at [] = ⊤
StandAt s at (k ∷ ks) = (terminal_at s at ≡ Some k) × StandAt s (suc at) ks

front_stands : (s : Source) (at : ℕ) (xs ys : List ℕ) → StandAt s at (xs ++ ys) → StandAt s at xs
front_stands s at [] ys h = tt
front_stands s at (x ∷ xs) ys h = (h.0, front_stands s (suc at) xs ys h.1)

back_stands : (s : Source) (at : ℕ) (xs ys : List ℕ) → StandAt s at (xs ++ ys) → StandAt s (at + length xs) ys
back_stands s at [] ys h = let same : at ≡ at + 0 = omega arith in subst (λ n. StandAt s n ys) same h
back_stands s at (x ∷ xs) ys h =
    let same : suc at + length xs ≡ at + suc (length xs) = omega arith in
    subst (λ n. StandAt s n ys) same (back_stands s (suc at) xs ys h.1)

get_behind : (front : List Token) (t : Token) (rest : List Token) → slice_get (front ++ t ∷ rest) (length front) ≡ Some t
get_behind [] t rest = refl
get_behind (x ∷ front) t rest = get_behind front t rest

tokens_stand : (s : Source) (front rest : List Token) → s.tokens ≡ front ++ rest → StandAt s (length front) (terminals_of rest)
tokens_stand s front [] e = tt
tokens_stand s front (t ∷ rest) e =
    let here : terminal_at s (length front) ≡ Some (terminal_of t.kind) =
    ap (λ ts. option_map (λ (x : Token). terminal_of x.kind) (slice_get ts (length front))) e
    ∙ ap (option_map (λ (x : Token). terminal_of x.kind)) (get_behind front t rest) in
    let longer : length (front ++ t ∷ []) ≡ suc (length front) = length-append front (t ∷ []) ∙ one (length front) in
    (here, subst (λ n. StandAt s n (terminals_of rest)) longer (tokens_stand s (front ++ t ∷ []) rest (e ∙ sym (append_assoc front (t ∷ []) rest))))
  where
    one : (n : ℕ) → n + 1 ≡ suc n
    one n = omega arith

-- what derives from symbols stands for them, and below each production in it stands its body
derived : ForestOpens → (s : Source) {at : ℕ} {symbols : List Symbol} {kinds : List ℕ} {nodes : List TreeNode} → Derives ilasm at symbols kinds nodes →
    (f : Forest) → preorder f ≡ nodes → StandAt s at kinds → Fits s symbols f × HasBodies s f
derived opens s Derives.none f e h =
    let n = opens.none f e in
    subst (λ g. Fits s [] g × HasBodies s g) (sym n) (tt, tt)
derived opens s (Derives.leaf {at = at} {kind = kind} {symbols = symbols} {nodes = nodes} d) f e h =
    let b = opens.leaf f at nodes e in
    let m = derived opens s d b.after b.rest h.1 in
    subst (λ g. Fits s (Terminal kind ∷ symbols) g × HasBodies s g) (sym b.is) ((h.0, m.0), m.1)
derived opens s (Derives.branch {at = at} {head = head} {production = p} {count = count} {body = body} {symbols = symbols} {front = front} {back = back} {below = below} {after = after} {nodes = nodes} rule d r c k n) f e h =
    let b = opens.branch f p count nodes e in
    let whole = subst (StandAt s at) k h in
    let inner : preorder b.below ≡ below =
    b.inner ∙ ap (λ x. take x nodes) c ∙ ap (take (length below)) n ∙ take_at below after (length below) refl in
    let rest : preorder b.after ≡ after =
    b.rest ∙ ap (λ x. drop x nodes) c ∙ ap (drop (length below)) n ∙ drop_at below after (length below) refl in
    let low = derived opens s d b.below inner (front_stands s at front back whole) in
    let next = derived opens s r b.after rest (back_stands s at front back whole) in
    let own : FitsBody s p b.below = subst (λ o. FitsRule s o b.below) (sym rule) low.0 in
    let headed : head_of p ≡ Some head = ap (option_map (λ (x : Rule). x.head)) rule in
    subst (λ g. Fits s (Nonterminal head ∷ symbols) g × HasBodies s g) (sym b.is) ((headed, next.0), (own, low.1, next.1))

pub derivations_have_bodies : ForestOpens → DerivationsHaveBodies
derivations_have_bodies opens s d = derived opens s d s.tree refl (tokens_stand s [] s.tokens refl)
