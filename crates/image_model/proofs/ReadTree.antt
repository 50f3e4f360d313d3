-- What an image that reads as an assembly says of its tree.
use Rattle.std.proofs.Common.{◌≡◌, ℕ, ◌<◌, ◌≤◌, ◌⊎◌, inl, inr, ◌↔◌, Bool, true, false, cond, nat_eq, List, [], ◌∷◌, find, Option, Some, None, refl, subst, arith}
use Rattle.std.proofs.lemmas.Bool.Decides.{nat_tests}
use Rattle.std.specs.Option.{option_map_or}
use Rattle.heaps.specs.Content.{HasText}
use Rattle.metadata_tables.specs.Schema.{schema}
use Rattle.type_terms.specs.Depth.{depth}
use Rattle.type_terms.specs.declared.term.SigType.{SigType}
use Rattle.assembly_tree.specs.DataSize.{size_in_data}
use Rattle.assembly_tree.specs.declared.assembly.Assembly.{Assembly}
use Rattle.image_model.specs.Streams.{strings_of}
use Rattle.image_model.specs.Columns.{nested_class, enclosing_class}
use Rattle.image_model.specs.Rows.{count_of, HasRow, rows_of, rows_with, enclosing}
use Rattle.image_model.specs.Structure.{IsModuleType}
use Rattle.image_model.specs.Members.{HaveOnePath, HasDataSize}
use Rattle.image_model.specs.Faults.{indexes, manifest, distinct, values, Reads}
use Rattle.image_model.specs.ReadLaws.{HoldsTypes}
use Rattle.image_model.proofs.General.{some_one}
use Rattle.image_model.proofs.Members.{Among, filter_among, range_among, among_range}
use Rattle.image_model.proofs.Trees.{is_some_not, tree_has, tree_rows}
use Rattle.image_model.proofs.Sizes.{IsTreeOf, size_to, size_from}

compare : (m n : ℕ) → (m < n) ⊎ ((n < m) ⊎ (m ≡ n))
compare m n = grind arith

one_or_more : (n : ℕ) → 0 < n → (n ≡ 1) ⊎ (2 ≤ n)
one_or_more n some = grind arith

at_least_two : (n : ℕ) → 0 < n → (n ≡ 1 → ⊥) → 2 ≤ n
at_least_two n some other = elim (one_or_more n some) [ inl e ↦ absurd (other e) | inr more ↦ more ]

-- what is found is among what is searched
found_at : (test : ℕ → Bool) (y : ℕ) (ys : List ℕ) (x : ℕ) (b : Bool) → cond b (Some y) (find test ys) ≡ Some x → (find test ys ≡ Some x → Among x ys) → Among x (y ∷ ys)
found_at test y ys x true e go = inl (some_one (Some y) y x refl e)
found_at test y ys x false e go = inr (go e)

found_among : (test : ℕ → Bool) (xs : List ℕ) (x : ℕ) → find test xs ≡ Some x → Among x xs
found_among test [] x e = absurd (is_some_not e)
found_among test (y ∷ ys) x e = found_at test y ys x (test y) e (found_among test ys x)

abbrev Text : List ℕ → Type 0
Text image = (index : ℕ) (a b : List ℕ) → HasText (strings_of image) index a → HasText (strings_of image) index b → a ≡ b

module _ (image : List ℕ) (a : Assembly) (h : Reads image a) where
  one_row : (r s : ℕ) → HasRow image 0x02 r → HasRow image 0x02 s → HaveOnePath image r s → r ≡ s
  one_row r s there and p = elim (compare r s) [
    | inl lt ↦ absurd ((h.rows distinct 0x02 s).type refl and r there.0 lt p)
    | inr (inl gt) ↦ absurd ((h.rows distinct 0x02 r).type refl there s and.0 gt (p.0, p.2, p.1))
    | inr (inr e) ↦ e
  ]

  module_type : HasRow image 0x02 1 → IsModuleType image
  module_type there = (h.rows manifest 0x02 1).module_type refl refl

  -- a row of NestedClass names a row of TypeDef as the enclosing one
  encloses : (row : ℕ) → HasRow image 0x29 row → HasRow image 0x02 (enclosing_class image row)
  unfolding schema
  encloses row there = (h.rows indexes).0 0x29 row there 1 (omega arith)

  -- no row of NestedClass names `<Module>` as the enclosing type
  not_by_module : (row : ℕ) → HasRow image 0x29 row → HasRow image 0x02 1 → enclosing_class image row ≡ 1 → ⊥
  unfolding rows_with rows_of
  not_by_module row there first e =
      let all = range_among row 1 (count_of image 0x29) there.0 (omega (arith, there.1)) in
      let in_none = filter_among (λ r. nat_eq (enclosing_class image r) 1) row _ all (grind (arith, nat_tests, e)) in
      subst (Among row) (module_type first).not_enclosing in_none

  -- the type that encloses one is there, and isn't `<Module>`
  enclosed : (row : ℕ) (o : Option ℕ) → find (λ r. nat_eq (nested_class image r) row) (rows_of image 0x29) ≡ o → HasRow image 0x02 1 → 0 < option_map_or (enclosing_class image) o 0
      → HasRow image 0x02 (option_map_or (enclosing_class image) o 0) × (2 ≤ option_map_or (enclosing_class image) o 0)
  unfolding rows_of
  enclosed row None e first some = absurd (omega arith)
  enclosed row (Some r) e first some =
      let at = among_range r 1 (count_of image 0x29) (found_among (λ r. nat_eq (nested_class image r) row) _ r e) in
      let there : HasRow image 0x29 r = (omega (arith, at.0), omega (arith, at.1)) in
      let up = encloses r there in
      (up, at_least_two (enclosing_class image r) up.0 (not_by_module r there first))

  nesting : (row : ℕ) → HasRow image 0x02 row → 0 < enclosing image row → HasRow image 0x02 (enclosing image row) × (2 ≤ enclosing image row)
  unfolding enclosing
  nesting row there some = enclosed row _ refl (omega arith, omega (arith, there.0, there.1)) some

  -- `<Module>` is there
  first_type : HasRow image 0x02 1
  first_type = let some = (h.rows manifest 0x02 0).some_types refl refl in (omega arith, omega (arith, some))

  module _ (text : Text image) where
    pub holds_types : HoldsTypes image h.names a
    holds_types = record {
      has = λ row path p there late. tree_has image h.names text one_row nesting a.types h.parts.types p there late;
      rows = λ path t e. let r = tree_rows image h.names text one_row a.types h.parts.types path t e in (r.row, r.there, r.late, r.leads, r.is);
    }

    tree_of : IsTreeOf image h.names a
    tree_of = record {
      holds = holds_types;
      not_module = ((h.rows values 0x02 1).layout refl (first_type)).not_module refl;
      one_layout = λ row there. ((h.rows values 0x02 row).layout refl there).one;
    }

    pub one_size : (t : SigType) (n : ℕ) → HasDataSize image t n ↔ (size_in_data a t ≡ Some n)
    one_size t n = (λ k. size_to image h.names a tree_of k, λ e. size_from image h.names a tree_of (depth t) t n (omega arith) e)
