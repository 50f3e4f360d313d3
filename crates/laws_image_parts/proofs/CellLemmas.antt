-- The cells of an image's rows are those of the rows that its stream of tables holds (ECMA-335 II.24.2.6).
use Rattle.std.proofs.Common.{◌≡◌, ap, refl, sym, ◌∙◌, subst, ℕ, zero, suc, ◌+◌, ◌<◌, List, [], ◌∷◌, ◌++◌, map, length, Some, arith}
use Rattle.std.specs.Prelude.{slice_get, slice_index, slice_index_or}
use Rattle.std.specs.List.{AllByRecursion, AllZip, range_with_len, flat_map}
use Rattle.metadata_tables.specs.Encoding.{rows_of}
use Rattle.metadata_tables.specs.Schema.{columns_of}
use Rattle.metadata_tables.specs.Stream.{cell}
use Rattle.image_tokens.specs.declared.references.References.{References}
use Rattle.image_members.specs.Pushing.{Tables}
use Rattle.image_layout.specs.Laws.{ReadsTables}
use Rattle.image_model.specs.Streams.{tables_of}
use Rattle.laws_image_parts.specs.AtRows.{Reads}

-- ---- lists by their places

pub get_at : {X : Type 0} (xs : List X) (k : ℕ) (x d : X) → slice_get xs k ≡ Some x → slice_index_or xs k d ≡ x
get_at [] k x d at = absurd cc
get_at (y ∷ xs) zero x d at = cc
get_at (y ∷ xs) (suc k) x d at = get_at xs k x d at

pub get_low : {X : Type 0} (xs : List X) (k : ℕ) (x : X) → slice_get xs k ≡ Some x → k < length xs
get_low [] k x at = absurd cc
get_low (y ∷ xs) zero x at = omega arith
get_low (y ∷ xs) (suc k) x at = let low = get_low xs k x at in omega arith

-- a list is made of its items
pub map_places : (f : ℕ → ℕ) (first : ℕ) (xs : List ℕ) → ((k : ℕ) → k < length xs → f (first + k) ≡ slice_index xs k) → map f (range_with_len first (length xs)) ≡ xs
map_places f first [] h = refl
map_places f first (x ∷ xs) h =
    let here : first ≡ first + 0 = omega arith in
    let head : f first ≡ x = ap f here ∙ h 0 (omega arith) in
    let rest = map_places f (first + 1) xs (λ k low. let e : first + 1 + k ≡ first + suc k = omega arith in ap f e ∙ h (suc k) (omega arith)) in
    ap (λ (y : ℕ). y ∷ map f (range_with_len (first + 1) (length xs))) head ∙ ap (λ (ys : List ℕ). x ∷ ys) rest

-- ---- what belongs together

pub zip_get : {A B : Type 0} (R : A → B → Type 0) (xs : List A) (ys : List B) (k : ℕ) (y : B) → AllZip R xs ys → slice_get ys k ≡ Some y
    → (x : A) × (slice_get xs k ≡ Some x) × R x y
zip_get R [] [] k y p at = absurd cc
zip_get R [] (z ∷ ys) k y p at = absurd p
zip_get R (x ∷ xs) [] k y p at = absurd p
zip_get R (x ∷ xs) (z ∷ ys) zero y p at =
    let e : z ≡ y = cc in
    (x, refl, subst (λ w. R x w) e p.0)
zip_get R (x ∷ xs) (z ∷ ys) (suc k) y p at = zip_get R xs ys k y p.1 at

pub zip_long : {A B : Type 0} (R : A → B → Type 0) (xs : List A) (ys : List B) → AllZip R xs ys → length xs ≡ length ys
zip_long R [] [] p = refl
zip_long R [] (y ∷ ys) p = absurd p
zip_long R (x ∷ xs) [] p = absurd p
zip_long R (x ∷ xs) (y ∷ ys) p = ap suc (zip_long R xs ys p.1)

pub zip_made : {X : Type 0} (make : X → List ℕ) (n : ℕ) (rows : List (List ℕ)) (xs : List X) → rows ≡ map make xs → AllByRecursion (λ x. length (make x) ≡ n) xs
    → AllZip (λ cells x. (cells ≡ make x) × (length cells ≡ n)) rows xs
zip_made {X} make n rows xs e long = subst (λ rs. AllZip (λ cells x. (cells ≡ make x) × (length cells ≡ n)) rs xs) (sym e) (each xs long)
  where
    each : (ys : List X) → AllByRecursion (λ x. length (make x) ≡ n) ys → AllZip (λ cells x. (cells ≡ make x) × (length cells ≡ n)) (map make ys) ys
    each [] l = tt
    each (y ∷ ys) l = ((refl, l.0), each ys l.1)

pub all_always : {X : Type 0} (P : X → Type 0) → ((x : X) → P x) → (xs : List X) → AllByRecursion P xs
all_always P h [] = tt
all_always P h (x ∷ xs) = (h x, all_always P h xs)

pub all_both : {X : Type 0} (P : X → Type 0) (xs ys : List X) → AllByRecursion P xs → AllByRecursion P ys → AllByRecursion P (xs ++ ys)
all_both P [] ys p q = q
all_both P (x ∷ xs) ys p q = (p.0, all_both P xs ys p.1 q)

pub all_flat : {X Y : Type 0} (P : Y → Type 0) (make : X → List Y) → ((x : X) → AllByRecursion P (make x)) → (xs : List X) → AllByRecursion P (flat_map make xs)
all_flat P make h [] = tt
all_flat P make h (x ∷ xs) = all_both P (make x) (flat_map make xs) (h x) (all_flat P make h xs)

-- ---- rows

module _ (r : References) (tables : Tables) (image : List ℕ) (reads : ReadsTables r tables image) where
  pub row_is : (table n k : ℕ) (cells : List ℕ) → length (columns_of table) ≡ n → slice_get (rows_of tables table) k ≡ Some cells → length cells ≡ n
      → map (cell (tables_of image) table (1 + k)) (range_with_len 0 n) ≡ cells
  row_is table n k cells columns at long =
      let low = get_low (rows_of tables table) k cells at in
      let next : 1 + k ≡ suc k = omega arith in
      let all = map_places (cell (tables_of image) table (1 + k)) 0 cells (λ c small.
      let here : 0 + c ≡ c = omega arith in
      let inside : c < length (columns_of table) = omega (arith, small, long, columns) in
      ap (cell (tables_of image) table (1 + k)) here ∙ ap (λ row. cell (tables_of image) table row c) next
      ∙ reads.cells table k c low inside ∙ ap (λ cs. slice_index cs c) (get_at (rows_of tables table) k cells [] at)) in
      ap (λ m. map (cell (tables_of image) table (1 + k)) (range_with_len 0 m)) (sym long) ∙ all

  pub reads_items : {X : Type 0} (table n : ℕ) (cells : List ℕ → ℕ → List ℕ) (IsRow : List ℕ → X → Type 0) (items : List X)
      → length (columns_of table) ≡ n → ((k : ℕ) → map (cell (tables_of image) table (1 + k)) (range_with_len 0 n) ≡ cells image (1 + k))
      → AllZip (λ row x. IsRow row x × (length row ≡ n)) (rows_of tables table) items → Reads table cells IsRow items image
  reads_items table n cells IsRow items columns names h = record {
    count = reads.counts table ∙ zip_long (λ row x. IsRow row x × (length row ≡ n)) (rows_of tables table) items h;
    each = λ k x at.
        let row = zip_get (λ row x. IsRow row x × (length row ≡ n)) (rows_of tables table) items k x h at in
        let is = row_is table n k row.0 columns row.1 row.2.1 in
        subst (λ cs. IsRow cs x) (sym is ∙ names k) row.2.0;
  }
