-- What may be there, rows, and rows with commas grow from their symbols.
use Rattle.std.proofs.Common.{◌≡◌, ℕ, ◌+◌, Bool, true, List, [], ◌∷◌, ◌++◌, map, Option, None, Some, refl, sym, subst}
use Rattle.std.proofs.lemmas.Bool.{and_parts}
use Rattle.std.specs.List.{list_all}
use Rattle.std.specs.Prelude.{⊤}
use Rattle.il_lexer.specs.declared.word.TheConstants as word
use Rattle.ilasm_grammar.specs.declared.symbol.Symbol.{Symbol}
use Rattle.ilasm_grammar.specs.declared.symbol.Symbol.TheVariants.{Terminal, Nonterminal}
use Rattle.ilasm_grammar.specs.declared.terminals.TheConstants.{WORDS}
use Rattle.listing_model.specs.Grown.{head_of, body_of, Grows}
use Rattle.listing_model.specs.Shown.{Shown, none, Item, item, put, optional, opt_production, opt_below, star, star_production, star_below, behind_comma, commas}
use Rattle.listing_growth.specs.Laws.{Stands}

-- each of a row stands for the nonterminal
abbrev pub EachStands : ℕ → List Item → Type 0
EachStands x [] = ⊤
EachStands x (i ∷ is) = Stands x i × EachStands x is

pub each_append : (x : ℕ) (is js : List Item) → EachStands x is → EachStands x js → EachStands x (is ++ js)
each_append x [] js h k = k
each_append x (i ∷ is) js h k = (h.0, each_append x is js h.1 k)

pub each_one : (x : ℕ) (i : Item) → Stands x i → EachStands x (i ∷ [])
each_one x i h = (h, tt)

pub each_map : {X : Type 0} (x : ℕ) (f : X → Item) → ((y : X) → Stands x (f y)) → (ys : List X) → EachStands x (map f ys)
each_map x f h [] = tt
each_map x f h (y ∷ ys) = (h y, each_map x f h ys)

-- ---- `X?`

pub record IsOption (n some nothing : ℕ) (body : List Symbol) : Type 0 where
  pub some_head : head_of some ≡ Some n
  pub some_body : body_of some ≡ body
  pub none_head : head_of nothing ≡ Some n
  pub none_body : body_of nothing ≡ []

-- what is there grows from the body
abbrev pub OptionGrows : List Symbol → Option Shown → Type 0
OptionGrows body None = ⊤
OptionGrows body (Some g) = Grows body g

pub optional_grows : {n some nothing : ℕ} {body : List Symbol} → IsOption n some nothing body → (x : Option Shown) → OptionGrows body x →
    (more : List Symbol) (after : Shown) → Grows more after → Grows (Nonterminal n ∷ more) (optional some nothing x after)
optional_grows o None h more after k = (o.none_head, subst (λ b. Grows b none) (sym o.none_body) tt, k)
optional_grows o (Some g) h more after k = (o.some_head, subst (λ b. Grows b g) (sym o.some_body) h, k)

pub optional_stands : {n some nothing : ℕ} {body : List Symbol} → IsOption n some nothing body → (x : Option Shown) → OptionGrows body x →
    Stands n (item (opt_production some nothing x) (opt_below x))
optional_stands o None h = (o.none_head, subst (λ b. Grows b none) (sym o.none_body) tt)
optional_stands o (Some g) h = (o.some_head, subst (λ b. Grows b g) (sym o.some_body) h)

-- ---- `X*`

pub record IsRow (n x more end : ℕ) : Type 0 where
  pub more_head : head_of more ≡ Some n
  pub more_body : body_of more ≡ Nonterminal x ∷ Nonterminal n ∷ []
  pub end_head : head_of end ≡ Some n
  pub end_body : body_of end ≡ []

pub star_grows : {n x more end : ℕ} → IsRow n x more end → (is : List Item) → EachStands x is → (rest : List Symbol) (after : Shown) →
    Grows rest after → Grows (Nonterminal n ∷ rest) (star more end is after)
star_grows {more = more} {end = end} r [] h rest after k = (r.end_head, subst (λ b. Grows b none) (sym r.end_body) tt, k)
star_grows {more = more} {end = end} r (i ∷ is) h rest after k = (
  r.more_head,
  subst (λ b. Grows b (star_below more end (i ∷ is))) (sym r.more_body) (h.0.0, h.0.1, star_grows r is h.1 [] none tt),
  k,
)

pub star_stands : {n x more end : ℕ} → IsRow n x more end → (is : List Item) → EachStands x is →
    Stands n (item (star_production more end is) (star_below more end is))
star_stands {more = more} {end = end} r [] h = (r.end_head, subst (λ b. Grows b none) (sym r.end_body) tt)
star_stands {more = more} {end = end} r (i ∷ is) h = (
  r.more_head,
  subst (λ b. Grows b (star_below more end (i ∷ is))) (sym r.more_body) (h.0.0, h.0.1, star_grows r is h.1 [] none tt),
)

-- ---- `X ( , X )*`

pub record IsCommas (x n comma more end c : ℕ) : Type 0 where
  pub row : IsRow n c more end
  pub head : head_of comma ≡ Some c
  pub body : body_of comma ≡ Terminal (WORDS + word.COMMA) ∷ Nonterminal x ∷ []

behind_stands : {x n comma more end c : ℕ} → IsCommas x n comma more end c → (is : List Item) → EachStands x is → EachStands c (map (behind_comma comma) is)
behind_stands r [] h = tt
behind_stands {comma = comma} r (i ∷ is) h =
    ((r.head, subst (λ b. Grows b (behind_comma comma i).below) (sym r.body) (refl, (h.0.0, h.0.1, tt))), behind_stands r is h.1)

pub commas_grow : {x n comma more end c : ℕ} → IsCommas x n comma more end c → (i : Item) (is : List Item) → EachStands x (i ∷ is) →
    (rest : List Symbol) (after : Shown) → Grows rest after → Grows (Nonterminal x ∷ Nonterminal n ∷ rest) (commas more end comma (i ∷ is) after)
commas_grow {comma = comma} r i is h rest after k =
    (h.0.0, h.0.1, star_grows r.row (map (behind_comma comma) is) (behind_stands r is h.1) rest after k)

-- ---- items of a list

-- what two tests give of each
pub each_both : {X : Type 0} (x : ℕ) (f : X → Item) (p q : X → Bool) → ((y : X) → p y ≡ true → q y ≡ true → Stands x (f y)) →
    (ys : List X) → list_all p ys ≡ true → list_all q ys ≡ true → EachStands x (map f ys)
each_both x f p q g [] h k = tt
each_both x f p q g (y ∷ ys) h k =
    let hs = and_parts (p y) (list_all p ys) h in
    let ks = and_parts (q y) (list_all q ys) k in
    (g y hs.0 ks.0, each_both x f p q g ys hs.1 ks.1)

-- each below one more production
pub each_put : {x y : ℕ} (production : ℕ) → head_of production ≡ Some y → body_of production ≡ Nonterminal x ∷ [] → (is : List Item) →
    EachStands x is → EachStands y (map (λ i. item production (put i none)) is)
each_put production h b [] k = tt
each_put {x = x} production h b (i ∷ is) k =
    ((h, subst (λ s. Grows s (put i none)) (sym b) (k.0.0, k.0.1, tt)), each_put production h b is k.1)
