-- The number of the class with a path, name by name.
use Rattle.std.proofs.Common.{◌≡◌, ℕ, zero, suc, ◌+◌, ◌<◌, ◌≤◌, List, [], ◌∷◌, Option, None, Some, length, drop, ap, sym, ◌∙◌, refl, arith}
use Rattle.std.specs.Prelude.{get_or}
use Rattle.std.proofs.lemmas.List.{drop_more}
use Rattle.type_terms.specs.declared.name.TypeId.{TypeId}
use Rattle.assembly_tree.specs.DataSize.{is_id}
use Rattle.source_syntax.specs.ClassNumbers.{class_in, id_of, outer_of}
use Rattle.source_syntax.specs.Nested.{onward, reached}
use Rattle.source_syntax.specs.declared.class_paths.ClassName.{ClassName}

module _ (cs : List ClassName) (path : List TypeId) (k at : ℕ) (whole : Option ℕ) (so_far : whole ≡ reached outer_of id_of is_id cs (drop k path) at) where
  rest_of : (id : TypeId) → k < length path → id ≡ get_or path k id → whole ≡ onward (reached outer_of id_of is_id cs (drop (k + 1) path)) (class_in cs id at)
  rest_of id within is =
      so_far ∙ ap (λ ids. reached outer_of id_of is_id cs ids at) (drop_more path k id within)
      ∙ ap (λ i. onward (reached outer_of id_of is_id cs (drop (k + 1) path)) (class_in cs i at)) (sym is)

  pub goes_on : (number : ℕ) (id : TypeId) → k < length path → id ≡ get_or path k id → class_in cs id at ≡ Some number
      → whole ≡ reached outer_of id_of is_id cs (drop (k + 1) path) number
  goes_on number id within is found = rest_of id within is ∙ ap (onward (reached outer_of id_of is_id cs (drop (k + 1) path))) found

  pub stops : (id : TypeId) → k < length path → id ≡ get_or path k id → class_in cs id at ≡ None → None ≡ whole
  stops id within is none = sym (rest_of id within is ∙ ap (onward (reached outer_of id_of is_id cs (drop (k + 1) path))) none)

  pub arrives : length path ≤ k → Some at ≡ whole
  arrives over = sym (so_far ∙ ap (λ ids. reached outer_of id_of is_id cs ids at) (past path k over))
    where
      past : (xs : List TypeId) (n : ℕ) → length xs ≤ n → drop n xs ≡ []
      past [] zero h = refl
      past [] (suc n) h = refl
      past (x ∷ xs) zero h = absurd (omega (arith, h))
      past (x ∷ xs) (suc n) h = past xs n (omega (arith, h))
