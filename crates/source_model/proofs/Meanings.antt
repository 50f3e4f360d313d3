-- A source has one meaning: an assembly, or its first fault.
use Rattle.std.proofs.Common.{◌≡◌, ℕ, ◌⊎◌, inl, inr, List, [], ◌∷◌, ap, sym, ◌∙◌, refl, subst, arith}
use Rattle.std.specs.Prelude.{Option, Some, None}
use Rattle.il_base.specs.declared.pos.Pos.{Pos}
use Rattle.il_lexer.specs.declared.types.Token.{Token}
use Rattle.il_lexer.specs.Laws.{OneOutcome}
use Rattle.ilasm_grammar.specs.declared.nonterminals.TheConstants.{SOURCE}
use Rattle.ilasm_grammar.specs.declared.symbol.Symbol.TheVariants.{Nonterminal}
use Rattle.ilasm_grammar.specs.declared.tree.TreeNode.{TreeNode}
use Rattle.ilasm_grammar.specs.Grammar.{Derives}
use Rattle.ilasm_grammar.specs.Ilasm.{ilasm}
use Rattle.ilasm_grammar.specs.Parsing.{IsTreeOf, terminals_of}
use Rattle.assembly_tree.specs.declared.assembly.Assembly.{Assembly}
use Rattle.source_model.specs.declared.fault.NameClass.{NameClass}
use Rattle.source_model.specs.declared.fault.NameClass.TheVariants.{D, N, B}
use Rattle.source_model.specs.Classes.{assembly}
use Rattle.source_model.specs.Denotes.{broken, Denotes, HasNameFault, IsRead}
use Rattle.source_model.specs.Faults.{AllBroken, Broken, earlier, earliest, IsFirstFault, IsFaultless}
use Rattle.source_model.specs.Forest.{Forest, preorder}
use Rattle.source_model.specs.Laws.{HasMeaning, HasSomeFault, OneMeaning}
use Rattle.source_model.specs.Source.{Source, place_at}
use Rattle.source_model.proofs.Forests.{one_forest}

-- ---- the first of a list

some_is : {X : Type 0} (x y : X) → ◌≡◌ {A = Option X} (Some x) (Some y) → x ≡ y
some_is x y e = grind arith

none_is : {X : Type 0} (x : X) → ◌≡◌ {A = Option X} None (Some x) → ⊥
none_is x e = grind arith

-- a list without anything has no first
empty_first : (all : List Broken) (x : Broken) → all ≡ [] → earliest all ≡ Some x → ⊥
empty_first all x e f = none_is x (sym (ap earliest e) ∙ f)

same_first : (all : List Broken) (x y : Broken) → earliest all ≡ Some x → earliest all ≡ Some y → x ≡ y
same_first all x y e f = some_is x y (sym e ∙ f)

-- and any other has one
first_of_two : (x : Broken) (o : Option Broken) → (y : Broken) × (earlier (Some x) o ≡ Some y)
first_of_two x None = (x, refl)
first_of_two x (Some y) = (_, refl)

data Listed (all : List Broken) : Type 0 where
  empty : all ≡ [] → Listed all
  first : (x : Broken) → earliest all ≡ Some x → Listed all

listed : (all : List Broken) → Listed all
listed [] = empty refl
listed (x ∷ xs) = let h = first_of_two x (earliest xs) in first h.0 h.1

-- ---- one fault of the three classes

same_fault : (all : AllBroken) (c d : NameClass) (x y : Broken) → IsFirstFault all c x → IsFirstFault all d y → (c ≡ d) × (x ≡ y)
same_fault all D D x y e f = (refl, same_first all.d x y e f)
same_fault all D N x y e f = absurd (empty_first all.d x f.0 e)
same_fault all D B x y e f = absurd (empty_first all.d x f.0 e)
same_fault all N D x y e f = absurd (empty_first all.d y e.0 f)
same_fault all N N x y e f = (refl, same_first all.n x y e.1 f.1)
same_fault all N B x y e f = absurd (empty_first all.n x f.1 e.1)
same_fault all B D x y e f = absurd (empty_first all.d y e.0 f)
same_fault all B N x y e f = absurd (empty_first all.n y e.1 f.1)
same_fault all B B x y e f = (refl, same_first all.b x y e.2 f.2)

no_fault : (all : AllBroken) (c : NameClass) (x : Broken) → IsFaultless all → IsFirstFault all c x → ⊥
no_fault all D x e f = empty_first all.d x e.0 f
no_fault all N x e f = empty_first all.n x e.1 f.1
no_fault all B x e f = empty_first all.b x e.2 f.2

pub record Faulty (all : AllBroken) : Type 0 where
  pub class : NameClass
  pub first : Broken
  pub is : IsFirstFault all class first

faulty_or_not : (all : AllBroken) → Listed all.d → Listed all.n → Listed all.b → IsFaultless all ⊎ Faulty all
faulty_or_not all (first x e) n b = inr (record { class = D; first = x; is = e })
faulty_or_not all (empty d) (first x e) b = inr (record { class = N; first = x; is = (d, e) })
faulty_or_not all (empty d) (empty n) (first x e) = inr (record { class = B; first = x; is = (d, n, e) })
faulty_or_not all (empty d) (empty n) (empty b) = inl (d, n, b)

-- ---- one source

abbrev source_by : List ℕ → List Token → Forest → Source
source_by bytes tokens tree = record { bytes = bytes; tokens = tokens; tree = tree }

module _ (lex : OneOutcome)
    (derived : (kinds : List ℕ) (a b : List TreeNode) →
    Derives ilasm 0 (Nonterminal SOURCE ∷ []) kinds a → Derives ilasm 0 (Nonterminal SOURCE ∷ []) kinds b → a ≡ b) where
  same_source : (source : List ℕ) (s t : Source) → IsRead source s → IsRead source t → s ≡ t
  same_source source s t x y =
      let bytes : s.bytes ≡ t.bytes = x.bytes-are ∙ sym y.bytes-are in
      let tokens : s.tokens ≡ t.tokens = lex.tokens source s.tokens t.tokens x.lexes y.lexes in
      let other : IsTreeOf s.tokens (preorder t.tree) = subst (λ (ts : List Token). IsTreeOf ts (preorder t.tree)) (sym tokens) y.derived in
      let nodes : preorder s.tree ≡ preorder t.tree = derived (terminals_of s.tokens) (preorder s.tree) (preorder t.tree) x.derived other in
      let trees : s.tree ≡ t.tree = one_forest.one s.tree t.tree nodes in
      ap (λ b. source_by b s.tokens s.tree) bytes ∙ ap (λ k. source_by t.bytes k s.tree) tokens ∙ ap (source_by t.bytes t.tokens) trees

  one_assembly : (source : List ℕ) (a b : Assembly) → Denotes source a → Denotes source b → a ≡ b
  one_assembly source a b x y = x.is ∙ ap assembly (same_source source x.source y.source x.read y.read) ∙ sym y.is

  one_fault : (source : List ℕ) (p q : Pos) (c d : NameClass) (r t : ℕ) → HasNameFault source p c r → HasNameFault source q d t → (p ≡ q) × (c ≡ d) × (r ≡ t)
  one_fault source p q c d r t x y =
      let s : y.source ≡ x.source = same_source source y.source x.source y.read x.read in
      let f : IsFirstFault (broken x.source) d (record { token = y.token; rule = t }) =
      subst (λ (u : Source). IsFirstFault (broken u) d (record { token = y.token; rule = t })) s y.first in
      let h = same_fault (broken x.source) c d (record { token = x.token; rule = r }) (record { token = y.token; rule = t }) x.first f in
      let tokens : x.token ≡ y.token = ap (λ (z : Broken). z.token) h.1 in (
        x.place ∙ ap (place_at x.source) tokens ∙ ap (λ (u : Source). place_at u y.token) (sym s) ∙ sym y.place,
        h.0,
        ap (λ (z : Broken). z.rule) h.1,
      )

  apart : (source : List ℕ) (a : Assembly) (p : Pos) (c : NameClass) (r : ℕ) → Denotes source a → HasNameFault source p c r → ⊥
  apart source a p c r x y =
      let s : y.source ≡ x.source = same_source source y.source x.source y.read x.read in
      let f : IsFirstFault (broken x.source) c (record { token = y.token; rule = r }) =
      subst (λ (u : Source). IsFirstFault (broken u) c (record { token = y.token; rule = r })) s y.first in
      no_fault (broken x.source) c (record { token = y.token; rule = r }) x.faultless f

  pub one_meaning : OneMeaning
  one_meaning = record { assembly = one_assembly; fault = one_fault; apart = apart }

has_meaning_by : (source : List ℕ) (s : Source) → IsRead source s → IsFaultless (broken s) ⊎ Faulty (broken s) → Denotes source (assembly s) ⊎ HasSomeFault source
has_meaning_by source s r (inl f) = inl (record { source = s; read = r; faultless = f; is = refl })
has_meaning_by source s r (inr f) = inr (record {
  place = place_at s f.first.token;
  class = f.class;
  rule = f.first.rule;
  fault = record { source = s; read = r; token = f.first.token; first = f.is; place = refl };
})

pub has_meaning : HasMeaning
has_meaning source s r =
    has_meaning_by source s r (faulty_or_not (broken s) (listed (broken s).d) (listed (broken s).n) (listed (broken s).b))
