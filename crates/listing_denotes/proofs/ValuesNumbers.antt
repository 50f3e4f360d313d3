-- A production of which the rules on numbers alone speak breaks none where its numbers are in their ranges.
use Rattle.std.proofs.Common.{◌≡◌, ℕ, ◌||◌, nat_eq, Bool, true, false, List, [], ◌∷◌, None, refl, ap, sym, ◌∙◌, arith}
use Rattle.std.proofs.lemmas.Bool.{false≢true}
use Rattle.ilasm_grammar.specs.declared.productions.TheConstants as p
use Rattle.source_model.specs.Forest as f
use Rattle.source_model.specs.Names.{written_name}
use Rattle.source_model.specs.Nodes.{Node}
use Rattle.source_model.specs.OutOfRange.{number_out_of_range_at}
use Rattle.source_model.specs.Source.{Source}
use Rattle.source_model.specs.TypeRules.{type_undeclared_in, scope_undeclared_in, path_too_long_in}
use Rattle.faultless_nodes.specs.Laws.{BreaksNothing}
use Rattle.listing_denotes.specs.Values.{beyond_numbers, NumbersAlone}

-- a number is none of these, whichever way it is asked
abbrev Apart : ℕ → List ℕ → Type 0
Apart x [] = Unit {0}
Apart x (q ∷ qs) = ((nat_eq q x ≡ false) × (nat_eq x q ≡ false)) × Apart x qs

turned : (j k : ℕ) → nat_eq j k ≡ false → nat_eq k j ≡ false
turned j k h = grind (arith, h)

apart : (x : ℕ) (qs : List ℕ) → f.is_among qs x ≡ false → Apart x qs
apart x [] e = tt
apart x (q ∷ qs) e = let es = neither (nat_eq q x) (f.is_among qs x) e in ((es.0, turned q x es.0), apart x qs es.1)
  where
    neither : (b c : Bool) → (b || c) ≡ false → (b ≡ false) × (c ≡ false)
    neither true c i = absurd (false≢true (sym i))
    neither false c i = (refl, i)

never : {X : Type 0} (b : Bool) → b ≡ false → b ≡ true → X
never b e i = absurd (false≢true (sym e ∙ i))

module _ (s : Source) (n : Node) (e : f.is_among beyond_numbers n.production ≡ false) where
  h : Apart n.production beyond_numbers
  h = apart n.production beyond_numbers e

  no_name : written_name n.production n.below ≡ None
  no_name = simp (h.0.1, h.1.0.1, h.1.1.0.1, h.1.1.1.0.1, h.1.1.1.1.0.1, h.1.1.1.1.1.0.1)

  breaks_nothing : number_out_of_range_at s n ≡ [] → BreaksNothing s n
  breaks_nothing numbers = record {
    types = ap (type_undeclared_in s) no_name;
    scopes = ap (scope_undeclared_in s) no_name;
    typars = simp (h.1.1.1.1.1.1.0.1, h.1.1.1.1.1.1.1.0.1);
    param_types = simp (h.1.1.1.1.1.1.1.1.0.1, h.1.1.1.1.1.1.1.1.1.0.1);
    numbers = numbers;
    depth = simp (h.1.1.1.1.1.1.1.1.1.1.0.1);
    nesting = simp (h.1.1.1.1.1.1.1.1.1.1.1.0.1);
    paths = ap path_too_long_in no_name;
    class = λ i. never (f.is_among (p.CLASS ∷ []) n.production) (simp (h.1.1.1.1.1.1.1.1.1.1.1.0.0)) i;
    field = λ i. never (f.is_among (p.FIELD ∷ []) n.production) (simp (h.1.1.1.1.1.1.1.1.1.1.1.1.0.0)) i;
    label = λ i. never (f.is_among (p.AT_NAME ∷ []) n.production) (simp (h.1.1.1.1.1.1.1.1.1.1.1.1.1.0.0)) i;
    accessors = λ i. never (f.is_among (p.PROPERTY ∷ p.EVENT ∷ []) n.production) (simp (h.1.1.1.1.1.1.1.1.1.1.1.1.1.1.0.0, h.1.1.1.1.1.1.1.1.1.1.1.1.1.1.1.0.0)) i;
    method = λ i. never (f.is_among (p.METHOD ∷ []) n.production) (simp (h.1.1.1.1.1.1.1.1.1.1.1.1.1.1.1.1.0.0)) i;
  }

pub numbers_alone : NumbersAlone
numbers_alone s n e numbers = breaks_nothing s n e numbers
