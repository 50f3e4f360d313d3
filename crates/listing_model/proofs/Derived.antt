-- What grows from symbols is a derivation from them.
use Rattle.std.proofs.Common.{◌≡◌, ℕ, suc, ◌+◌, List, [], ◌∷◌, length, Option, None, Some, refl, ap, sym, subst, ◌∙◌, length-append}
use Rattle.std.proofs.lemmas.List.{map-append, length-map}
use Rattle.std.specs.Prelude.{option_map}
use Rattle.ilasm_grammar.specs.Grammar.{Rule, Derives}
use Rattle.ilasm_grammar.specs.Ilasm.{ilasm}
use Rattle.ilasm_grammar.specs.Terminals.{terminal_of}
use Rattle.ilasm_grammar.specs.declared.symbol.Symbol.{Symbol}
use Rattle.ilasm_grammar.specs.declared.symbol.Symbol.TheVariants.{Terminal, Nonterminal}
use Rattle.listing_model.specs.Grown.{body_in, body_of, Grows, terminals, nodes}
use Rattle.listing_model.specs.Laws.{GrownIsDerived}
use Rattle.listing_model.specs.Shown.{Leaf, Shown, leaves, size}
use Rattle.listing_model.specs.Shown.{Shown as s}

-- the number of leaves
leaves_count : (g : Shown) → length (leaves g) ≡ size g
leaves_count s.none = refl
leaves_count (s.leaf l after) = ap suc (leaves_count after)
leaves_count (s.branch p below after) =
    length-append (leaves below) (leaves after) ∙ (ap (λ n. n + length (leaves after)) (leaves_count below) ∙ ap (λ n. size below + n) (leaves_count after))

front_length : (g : Shown) → length (terminals g) ≡ size g
front_length g = length-map (leaves g) (λ (l : Leaf). terminal_of l.kind) ∙ leaves_count g

-- a production by its head is one with its body
rule_is : (r : Option Rule) (n : ℕ) → option_map (λ (r : Rule). r.head) r ≡ Some n → r ≡ Some (record { head = n; body = body_in r })
rule_is None n h = cc
rule_is (Some r) n h = let e : r.head ≡ n = cc in ap (λ n. Some (record { head = n; body = r.body })) e

derives : (symbols : List Symbol) (g : Shown) → Grows symbols g → (at : ℕ) → Derives ilasm at symbols (terminals g) (nodes at g)
derives [] s.none h at = Derives.none
derives [] (s.leaf l after) h at = absurd h
derives [] (s.branch p below after) h at = absurd h
derives (Terminal t ∷ more) s.none h at = absurd h
derives (Terminal t ∷ more) (s.leaf l after) h at =
    subst (λ t. Derives ilasm at (Terminal t ∷ more) (terminals (s.leaf l after)) (nodes at (s.leaf l after))) h.0
    (Derives.leaf (derives more after h.1 (suc at)))
derives (Terminal t ∷ more) (s.branch p below after) h at = absurd h
derives (Nonterminal n ∷ more) s.none h at = absurd h
derives (Nonterminal n ∷ more) (s.leaf l after) h at = absurd h
derives (Nonterminal n ∷ more) (s.branch p below after) h at =
    Derives.branch {body = body_of p} {front = terminals below} {back = terminals after} {below = nodes at below} {after = nodes (at + size below) after}
    (rule_is (ilasm p) n h.0) (derives (body_of p) below h.1 at)
    (subst (λ k. Derives ilasm (at + k) more (terminals after) (nodes (at + size below) after)) (sym (front_length below))
    (derives more after h.2 (at + size below)))
    refl (map-append (λ (l : Leaf). terminal_of l.kind) (leaves below) (leaves after)) refl

pub grown_is_derived : GrownIsDerived
grown_is_derived = record { derives = derives }
