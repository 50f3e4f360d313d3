-- Generic parameters, each with what lines give it.
use Rattle.std.proofs.Common.{◌≡◌, ℕ, zero, suc, ◌+◌, ◌-◌, ◌≤◌, ◌<◌, List, [], ◌∷◌, ◌++◌, Some, length, map, take, refl, ap, sym, ◌∙◌, arith, length-append}
use Rattle.std.specs.Prelude.{filter, slice_get, slice_index_or}
use Rattle.std.specs.List.{enumerate_from}
use Rattle.std.proofs.lemmas.List.{get_or-append_right, get_or_append_left, length-map}
use Rattle.std.proofs.lemmas.Option.{same_Some}
use Rattle.type_terms.specs.declared.term.Owner.{Owner}
use Rattle.assembly_tree.specs.declared.members.Attribute.{Attribute}
use Rattle.assembly_tree.specs.declared.members.Generic.{Generic}
use Rattle.ilasm_grammar.specs.declared.productions.TheConstants.{TYPAR, TYPARS_OPT_SOME, TYPAR_BOUNDS}
use Rattle.source_model.specs.Flags.{typar_flags}
use Rattle.source_model.specs.Forest.{Forest, Part, below_each, child, leaf_at, parts, the}
use Rattle.source_model.specs.Items.{runs}
use Rattle.source_model.specs.Nodes.{Around, typar_names, typars}
use Rattle.source_model.specs.Parameters as params
use Rattle.source_model.specs.Source.{Source}
use Rattle.source_model.specs.Types.{owners_in}
use Rattle.source_model.specs.Values.{name_text}
use Rattle.lower_members.specs.Generics.{generic_with}
use Rattle.lower_members.specs.GivenAttributes.{AreGiven}
use Rattle.lower_members.specs.ParamLines.{given}

-- ---- one generic parameter

abbrev made : List ℕ → ℕ → List Owner → List Attribute → Generic
made name flags bounds attributes = record { name = name; flags = flags; bounds = bounds; attributes = attributes }

pub same_generic : (s : Source) (a : Around) (f : Forest) (customs : List Attribute) (name : List ℕ) (flags : ℕ) (bounds : List Owner) → name ≡ name_text s (leaf_at 0 f)
    → flags ≡ typar_flags s f → bounds ≡ owners_in s a (the TYPAR_BOUNDS f) → made name flags bounds customs ≡ generic_with s a f customs
same_generic s a f customs name flags bounds n g b =
    ap (λ x. made x flags bounds customs) n ∙ ap (λ x. made (name_text s (leaf_at 0 f)) x bounds customs) g
    ∙ ap (λ x. made (name_text s (leaf_at 0 f)) (typar_flags s f) x customs) b

-- ---- none

nothing_mapped : {X Y : Type 0} (g : X → Y) (xs : List X) → length (map g xs) ≡ 0 → xs ≡ []
nothing_mapped g [] e = refl
nothing_mapped g (x ∷ xs) e = absurd (omega (arith, e))

pub no_typars : (s : Source) (f : Forest) → length (typar_names s f) ≡ 0 → typars f ≡ []
no_typars s f e = nothing_mapped (λ g. name_text s (leaf_at 0 g)) (typars f) e

-- ---- those that are left

pub record Remaining (want : ℕ → List Attribute) (n i : ℕ) (bs : List (List Attribute)) : Type 0 where
  pub many : length bs + i ≡ n
  pub at : (k : ℕ) → i ≤ k → k < n → slice_index_or bs (n - 1 - k) [] ≡ want k

pub all_remain : (s : Source) (a : Around) (names : List (List ℕ)) (ps : List Part) (bs : List (List Attribute)) → AreGiven s a names ps bs
    → Remaining (λ k. given s a names k (runs ps)) (length names) 0 bs
all_remain s a names ps bs g = record { many = (let m = g.many in omega (arith, m)); at = λ k low high. g.each k high }

module _ (want : ℕ → List Attribute) (n i : ℕ) (bs cs : List (List Attribute)) (x : List Attribute) (r : Remaining want n i bs) (e : bs ≡ cs ++ x ∷ []) where
  one_less : length bs ≡ length cs + 1
  one_less = ap length e ∙ length-append cs (x ∷ [])

  pub last_is : i < n → x ≡ want i
  last_is low =
      let many = r.many in
      let place : n - 1 - i ≡ length cs = omega (arith, many, one_less) in
      let zero_place : length cs - length cs ≡ 0 = omega arith in
      let here : slice_index_or (cs ++ x ∷ []) (length cs) [] ≡ x =
      get_or-append_right cs (x ∷ []) (length cs) (length cs) [] refl (omega arith) ∙ ap (λ j. slice_index_or (x ∷ []) j []) zero_place in
      sym here ∙ ap (λ xs. slice_index_or xs (length cs) []) (sym e) ∙ ap (λ j. slice_index_or bs j []) (sym place) ∙ r.at i (omega arith) low

  pub less_remain : i < n → Remaining want n (i + 1) cs
  less_remain low = record {
    many = (let many = r.many in omega (arith, many, one_less));
    at = λ k from high.
        let many = r.many in
        let within : n - 1 - k < length cs = omega (arith, many, one_less, from, high) in
        sym (get_or_append_left cs (x ∷ []) [] (n - 1 - k) within) ∙ ap (λ xs. slice_index_or xs (n - 1 - k) []) (sym e) ∙ r.at k (omega (arith, from)) high;
  }

-- ---- generic parameters with their numbers

pub below_at : (ps : List Part) (i : ℕ) (p : Part) → slice_get ps i ≡ Some p → slice_get (below_each ps) i ≡ Some p.below
below_at [] i p e = absurd cc
below_at (q ∷ qs) zero p e = ap (λ (x : Part). Some x.below) (same_Some q p e)
below_at (q ∷ qs) (suc i) p e = below_at qs i p e

pub numbered_from : (m : ℕ) (fs : List Forest) (i : ℕ) (f : Forest) → slice_get fs i ≡ Some f → slice_get (enumerate_from m fs) i ≡ Some (m + i, f)
numbered_from m [] i f e = absurd cc
numbered_from m (g ∷ gs) zero f e = let same : m ≡ m + 0 = omega arith in ap (λ (x : Forest). Some (m, x)) (same_Some g f e) ∙ ap (λ (k : ℕ). Some (k, f)) same
numbered_from m (g ∷ gs) (suc i) f e =
    let same : m + 1 + i ≡ m + suc i = omega arith in numbered_from (m + 1) gs i f e ∙ ap (λ (k : ℕ). Some (k, f)) same

pub numbered_at : (ps : List Part) (i : ℕ) (p : Part) → slice_get ps i ≡ Some p → slice_get (enumerate_from 0 (below_each ps)) i ≡ Some (i, p.below)
numbered_at ps i p e = let same : 0 + i ≡ i = omega arith in numbered_from 0 (below_each ps) i p.below (below_at ps i p e) ∙ ap (λ (k : ℕ). Some (k, p.below)) same

pub many_numbered : (m : ℕ) (fs : List Forest) → length (enumerate_from m fs) ≡ length fs
many_numbered m [] = refl
many_numbered m (f ∷ fs) = let e = many_numbered (m + 1) fs in omega (arith, e)

pub many_below : (ps : List Part) → length (below_each ps) ≡ length ps
many_below [] = refl
many_below (p ∷ ps) = let e = many_below ps in omega (arith, e)

abbrev pub typar_parts : Forest → List Part
typar_parts f = parts (TYPAR ∷ []) (child (TYPARS_OPT_SOME ∷ []) f)

pub many_names : (s : Source) (f : Forest) → length (typar_names s f) ≡ length (typar_parts f)
many_names s f = length-map (typars f) (λ g. name_text s (leaf_at 0 g)) ∙ many_below (typar_parts f)

pub many_typars : (f : Forest) → length (enumerate_from 0 (typars f)) ≡ length (typar_parts f)
many_typars f = many_numbered 0 (typars f) ∙ many_below (typar_parts f)

-- how many generic parameters were read
pub record Read (s : Source) (a : Around) (f : Forest) (ps : List Part) (i : ℕ) (bs : List (List Attribute)) (all : List Generic) : Type 0 where
  pub left : Remaining (λ k. given s a (typar_names s f) k (runs ps)) (length (typar_parts f)) i bs
  pub same : all ≡ map (params.generic s a (typar_names s f) (filter params.speaks_of_typar (runs ps))) (take i (enumerate_from 0 (typars f)))
