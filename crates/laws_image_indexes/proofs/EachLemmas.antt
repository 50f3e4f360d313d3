-- Something that holds of each item of a list, as lists are joined, numbered and put in another order.
use Rattle.std.proofs.Common.{◌≡◌, refl, sym, ◌∙◌, ap, subst, ℕ, zero, suc, ◌+◌, ◌<◌, ◌≤◌, List, [], ◌∷◌, ◌++◌, map, length, Option, Some, None, arith}
use Rattle.std.specs.Prelude.{slice_get}
use Rattle.std.specs.List.{AllByRecursion, AllZip, flat_map, enumerate_from, range_with_len}
use Rattle.std.specs.List.Sorted.{IsPermutation}
use Rattle.std.proofs.lemmas.List.Concat.{flat_map-cons}
use Rattle.std.proofs.lemmas.List.Elements.{All-from_recursion, recursion_from_All}
use Rattle.std.proofs.lemmas.List.Sorted.{All-permutation}
use Rattle.std.proofs.lemmas.Option.{slice_get_within}
use Rattle.metadata_tables.specs.Encoding.{rows_in}
use Rattle.metadata_tables.specs.declared.coded.Coded.{Coded}
use Rattle.laws_image_indexes.proofs.TokenLemmas.{Leads, row_index}
use Rattle.image_tokens.specs.Indexes.{index_of}
use Rattle.image_members.specs.ByNumber.{or_none, owned_in, owned_at, by_number}
use Rattle.image_members.specs.Pushing.{Tables}

pub each_weaker : {X : Type 0} (P Q : X → Type 0) (xs : List X) → ((x : X) → P x → Q x) → AllByRecursion P xs → AllByRecursion Q xs
each_weaker P Q [] f h = tt
each_weaker P Q (x ∷ xs) f h = (f x h.0, each_weaker P Q xs f h.1)

pub each_both : {X : Type 0} (P Q R : X → Type 0) (xs : List X) → ((x : X) → P x → Q x → R x) → AllByRecursion P xs → AllByRecursion Q xs → AllByRecursion R xs
each_both P Q R [] f p q = tt
each_both P Q R (x ∷ xs) f p q = (f x p.0 q.0, each_both P Q R xs f p.1 q.1)

pub each_joined : {X : Type 0} (P : X → Type 0) (xs ys : List X) → AllByRecursion P xs → AllByRecursion P ys → AllByRecursion P (xs ++ ys)
each_joined P [] ys p q = q
each_joined P (x ∷ xs) ys p q = (p.0, each_joined P xs ys p.1 q)

pub each_front : {X : Type 0} (P : X → Type 0) (xs ys : List X) → AllByRecursion P (xs ++ ys) → AllByRecursion P xs
each_front P [] ys h = tt
each_front P (x ∷ xs) ys h = (h.0, each_front P xs ys h.1)

pub each_mapped : {X Y : Type 0} (P : Y → Type 0) (f : X → Y) (xs : List X) → AllByRecursion (λ x. P (f x)) xs → AllByRecursion P (map f xs)
each_mapped P f [] h = tt
each_mapped P f (x ∷ xs) h = (h.0, each_mapped P f xs h.1)

pub each_all : {X : Type 0} (P : X → Type 0) (xs : List X) → ((x : X) → P x) → AllByRecursion P xs
each_all P [] f = tt
each_all P (x ∷ xs) f = (f x, each_all P xs f)

pub each_flat : {X Y : Type 0} (S : X → Type 0) (P : Y → Type 0) (f : X → List Y) (xs : List X) → ((x : X) → S x → AllByRecursion P (f x)) → AllByRecursion S xs
    → AllByRecursion P (flat_map f xs)
each_flat S P f [] g h = tt
each_flat S P f (x ∷ xs) g h =
    subst (AllByRecursion P) (sym (flat_map-cons f x xs)) (each_joined P (f x) (flat_map f xs) (g x h.0) (each_flat S P f xs g h.1))

-- items with their rows, which follow one another
pub each_numbered : {X : Type 0} (S : X → Type 0) (xs : List X) (row last : ℕ) → row + length xs ≤ last + 1 → AllByRecursion S xs
    → AllByRecursion (λ n. (n.0 ≤ last) × S n.1) (enumerate_from row xs)
each_numbered S [] row last few h = tt
each_numbered S (x ∷ xs) row last few h = ((omega arith, h.0), each_numbered S xs (row + 1) last (omega arith) h.1)

-- the same items in another order
pub each_permuted : (P : ℕ → Type 0) (xs ys : List ℕ) → IsPermutation xs ys → AllByRecursion P xs → AllByRecursion P ys
each_permuted P xs ys same h = recursion_from_All P ys (All-permutation P xs ys same (All-from_recursion P xs h))

-- ---- what rows own, by number

module _ {X : Type 0} (kind : Coded) (tables : Tables) where
  abbrev LeadsFirst : ℕ × X → Type 0
  LeadsFirst x = Leads kind tables x.0

  owned_leads : (k table : ℕ) (lists : List (List X)) → length lists ≤ rows_in tables table → AllByRecursion LeadsFirst (owned_in kind k (table, lists))
  owned_leads k table lists few = go (slice_get lists k) refl where
    go : (o : Option (List X)) → slice_get lists k ≡ o → AllByRecursion LeadsFirst (map (λ (x : X). (index_of kind table (k + 1), x)) (or_none o))
    go None e = tt
    go (Some xs) e =
        let inside = slice_get_within lists k xs e in
        each_mapped LeadsFirst (λ (x : X). (index_of kind table (k + 1), x)) xs
        (each_all (λ (x : X). Leads kind tables (index_of kind table (k + 1))) xs (λ x. row_index kind tables table (k + 1) (omega arith)))

  -- each item has the coded index of a row that is there
  pub by_number_leads : (owners : List (ℕ × List (List X))) (count : ℕ) → AllByRecursion (λ t. length t.1 ≤ rows_in tables t.0) owners
      → AllByRecursion LeadsFirst (by_number kind owners count)
  by_number_leads owners count few =
      each_flat (λ k. ℕ) LeadsFirst (owned_at kind owners) (range_with_len 0 count)
      (λ k any. each_flat (λ t. length t.1 ≤ rows_in tables t.0) LeadsFirst (owned_in kind k) owners (λ t le. owned_leads k t.0 t.1 le) few)
      (each_all (λ k. ℕ) (range_with_len 0 count) (λ k. k))
