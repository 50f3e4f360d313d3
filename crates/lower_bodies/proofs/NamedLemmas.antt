-- The numbers of arguments and locals, found by their names.
use Rattle.std.proofs.Common.{◌≡◌, ℕ, suc, ◌+◌, List, [], ◌∷◌, ◌++◌, map, cond, ap, sym, ◌∙◌, refl, arith}
use Rattle.std.specs.Prelude.{Bool, true, false, ◌&&◌, Option, None, Some, option_map, bytes_eq, position, if◌then◌else◌}
use Rattle.std.specs.List.{enumerate_from, flat_map}
use Rattle.ilasm_grammar.specs.declared.productions.TheConstants.{NAME_OPT_SOME}
use Rattle.source_model.specs.Forest.{Forest, Part, below_each, child, has, leaf_at}
use Rattle.source_model.specs.Source.{Source}
use Rattle.source_model.specs.Values.{name_text}
use Rattle.source_model.specs.Variables.{has_name}
use Rattle.source_syntax.specs.Labels.{number_among, number_found}
use Rattle.source_syntax.proofs.LabelLemmas.{position_first}
use Rattle.source_syntax.proofs.ScopeLemmas.{either_way}
use Rattle.lower_bodies.specs.NamedVariables.{name_of, names_of, number_if_named, numbers_from, AreNumbered}
use Rattle.lower_bodies.specs.declared.variables.Numbered.{Numbered}

-- a number that a later one of a list has
later : (first at : ℕ) (o : Option ℕ) → option_map (λ n. first + ((at + 1) + n)) o ≡ option_map (λ n. first + (at + n)) (option_map suc o)
later first at None = refl
later first at (Some n) = let same : first + ((at + 1) + n) ≡ first + (at + suc n) = omega arith in ap (λ m. Some m) same

shifted : (number : ℕ) (numbers : List ℕ) (o : Option ℕ) → number_among (number ∷ numbers) (option_map suc o) ≡ number_among numbers o
shifted number numbers None = refl
shifted number numbers (Some n) = refl

module _ (s : Source) (k first : ℕ) where
  abbrev token_of : Forest → ℕ
  token_of f = leaf_at 0 (child (NAME_OPT_SOME ∷ []) f)

  numbered : (fs : List Forest) (at : ℕ) → number_found (map (name_text s) (names_of fs)) (numbers_from first at fs) (name_text s k)
      ≡ option_map (λ n. first + (at + n)) (position (has_name s k) fs)
  numbered [] at = refl
  numbered (f ∷ fs) at =
      go (has NAME_OPT_SOME f) (bytes_eq (name_text s (token_of f)) (name_text s k)) refl refl
      (numbered fs (at + 1) ∙ later first at (position (has_name s k) fs))
      ∙ ap (option_map (λ n. first + (at + n))) (sym (position_first (has_name s k) f fs))
    where
      go : (c d : Bool) → has NAME_OPT_SOME f ≡ c → bytes_eq (name_text s (token_of f)) (name_text s k) ≡ d
          → number_found (map (name_text s) (names_of fs)) (numbers_from first (at + 1) fs) (name_text s k)
          ≡ option_map (λ n. first + (at + n)) (option_map suc (position (has_name s k) fs))
          → number_found (map (name_text s) (names_of (f ∷ fs))) (numbers_from first at (f ∷ fs)) (name_text s k)
          ≡ option_map (λ n. first + (at + n)) (cond (has_name s k f) (Some 0) (option_map suc (position (has_name s k) fs)))
      go false d is same rest =
          ap (λ (b : Bool). number_found (map (name_text s) ((if b then token_of f ∷ [] else []) ++ names_of fs)) ((if b then (first + at) ∷ [] else []) ++ numbers_from first (at + 1) fs) (name_text s k)) is
          ∙ rest
          ∙ sym (ap (λ (b : Bool). option_map (λ n. first + (at + n)) (cond (b && bytes_eq (name_text s (token_of f)) (name_text s k)) (Some 0) (option_map suc (position (has_name s k) fs)))) is)
      go true d is same rest =
          ap (λ (b : Bool). number_found (map (name_text s) ((if b then token_of f ∷ [] else []) ++ names_of fs)) ((if b then (first + at) ∷ [] else []) ++ numbers_from first (at + 1) fs) (name_text s k)) is
          ∙ ap (number_among ((first + at) ∷ numbers_from first (at + 1) fs))
          (position_first (bytes_eq (name_text s k)) (name_text s (token_of f)) (map (name_text s) (names_of fs))
          ∙ ap (λ (b : Bool). cond b (Some 0) (option_map suc (position (bytes_eq (name_text s k)) (map (name_text s) (names_of fs)))))
          (either_way (name_text s k) (name_text s (token_of f)) ∙ same))
          ∙ named d
          ∙ sym (ap (λ (b : Bool). option_map (λ n. first + (at + n)) (cond (b && bytes_eq (name_text s (token_of f)) (name_text s k)) (Some 0) (option_map suc (position (has_name s k) fs)))) is
          ∙ ap (λ (b : Bool). option_map (λ n. first + (at + n)) (cond b (Some 0) (option_map suc (position (has_name s k) fs)))) same)
        where
          named : (b : Bool)
              → number_among ((first + at) ∷ numbers_from first (at + 1) fs) (cond b (Some 0) (option_map suc (position (bytes_eq (name_text s k)) (map (name_text s) (names_of fs)))))
              ≡ option_map (λ n. first + (at + n)) (cond b (Some 0) (option_map suc (position (has_name s k) fs)))
          named true = let same : first + at ≡ first + (at + 0) = omega arith in ap (λ m. Some m) same
          named false = shifted (first + at) (numbers_from first (at + 1) fs) (position (bytes_eq (name_text s k)) (map (name_text s) (names_of fs))) ∙ rest

  -- the number of the first that has this name
  pub number_is : (fs : List Forest) → number_found (map (name_text s) (names_of fs)) (numbers_from first 0 fs) (name_text s k)
      ≡ option_map (λ n. first + n) (position (has_name s k) fs)
  number_is fs = numbered fs 0 ∙ plain (position (has_name s k) fs)
    where
      plain : (o : Option ℕ) → option_map (λ n. first + (0 + n)) o ≡ option_map (λ n. first + n) o
      plain None = refl
      plain (Some n) = let same : first + (0 + n) ≡ first + n = omega arith in ap (λ m. Some m) same

pub from_nothing : (o : Option ℕ) → option_map (λ n. 0 + n) o ≡ o
from_nothing None = refl
from_nothing (Some n) = let same : 0 + n ≡ n = omega arith in ap (λ m. Some m) same

-- ---- of parts that were found

pub names_below : (ps : List Part) → flat_map (λ p. name_of p.below) ps ≡ names_of (below_each ps)
names_below [] = refl
names_below (p ∷ ps) = ap (λ ks. name_of p.below ++ ks) (names_below ps)

pub numbers_below : (first at : ℕ) (ps : List Part)
    → flat_map (λ (k : ℕ × Part). number_if_named (first + k.0) k.1.below) (enumerate_from at ps) ≡ numbers_from first at (below_each ps)
numbers_below first at [] = refl
numbers_below first at (p ∷ ps) = ap (λ ks. number_if_named (first + at) p.below ++ ks) (numbers_below first (at + 1) ps)

-- the number of the first of these that has the name which a token is
pub number_among_named : (s : Source) (k first : ℕ) (fs : List Forest) (x : Numbered) (text : List ℕ) → AreNumbered x s first fs → text ≡ name_text s k
    → number_found x.names x.numbers text ≡ option_map (λ n. first + n) (position (has_name s k) fs)
number_among_named s k first fs x text are is =
    ap (number_found x.names x.numbers) is
    ∙ ap (λ names. number_found names x.numbers (name_text s k)) are.names-are
    ∙ ap (λ numbers. number_found (map (name_text s) (names_of fs)) numbers (name_text s k)) are.numbers-are
    ∙ number_is s k first fs
