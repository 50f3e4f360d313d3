-- The data of a listing are there, and long enough.
use Rattle.std.proofs.Common.{◌≡◌, ℕ, zero, suc, ◌+◌, ◌*◌, ◌≤◌, ◌/◌, nat_lt, Bool, true, false, cond, if◌then◌else◌, List, [], ◌∷◌, ◌++◌, map, fold, length, nat_eq, slice_get, Option, None, Some, refl, ap, sym, subst, ◌∙◌, arith}
use Rattle.std.specs.List.{flat_map, list_any}
use Rattle.std.specs.Prelude.{find, is_some}
use Rattle.std.specs.Str.{bytes_eq}
use Rattle.std.proofs.lemmas.Slice.Eq.{bytes_eq-Decides}
use Rattle.ilasm_grammar.specs.declared.productions.TheConstants as p
use Rattle.source_model.specs.Constants.{wrapped}
use Rattle.type_terms.specs.declared.name.Scope as scope
use Rattle.type_terms.specs.declared.name.TypeId.{TypeId}
use Rattle.type_terms.specs.declared.term.Owner.{Owner, fold-Owner}
use Rattle.type_terms.specs.declared.term.Owner.TheOpen as layer
use Rattle.type_terms.specs.declared.term.SigType.{SigType, fold-SigType, fold-roll-SigType, map-SigType, roll-SigType}
use Rattle.type_terms.proofs.Layers.{OwnerWith, TypeWith, type_values, by_layers}
use Rattle.assembly_tree.specs.DataSize.{no_size, layout_size}
use Rattle.source_model.specs.Data as read
use Rattle.source_model.specs.Data.{layout, value_size, size_step, data_size, data_bytes, data_length, item_bytes, item_length, repeated, little_bytes, item_count, item_bits, item_value, data_items, data_named, bytes_at, labelled, label_token}
use Rattle.source_model.specs.Forest as f
use Rattle.source_model.specs.Names.{class_at}
use Rattle.source_model.specs.Nodes.{Node}
use Rattle.source_model.specs.OutOfRange.{asked_size_at, asked_value_size, asked_size, is_size_in_range, data_named_length, label_if_short, label_if_none, stands_too_often}
use Rattle.source_model.specs.Source.{Source}
use Rattle.source_model.specs.Values.{name_text, array_bytes}
use Rattle.listing_data.specs.Laws.{labels}
use Rattle.listing_leaves.specs.Numbers.{data_label}

-- ---- the bytes that are asked of data are at most those of a value

-- where a value has so many bytes, at most as many are asked
abbrev AtMost : Option ℕ → Option ℕ → Type 0
AtMost asked None = Unit {0}
AtMost asked (Some k) = (j : ℕ) × (asked ≡ Some j) × (j ≤ k)

same_most : (o : Option ℕ) → AtMost o o
same_most None = tt
same_most (Some k) = (k, refl, omega arith)

zero_most : (o : Option ℕ) → AtMost (Some 0) o
zero_most None = tt
zero_most (Some k) = (0, refl, omega arith)

module _ (s : Source) where
  class_most : (n : Option Node) → AtMost (asked_size_at s n) (layout_size (read.class_layout s n))
  class_most None = tt
  class_most (Some n) = by (is_size_in_range s n.below)
    where
      by : (c : Bool) → AtMost (if c then layout_size (layout s n.below) else Some 0) (layout_size (layout s n.below))
      by true = same_most (layout_size (layout s n.below))
      by false = zero_most (layout_size (layout s n.below))

  value_most : (at : scope.Scope) (path : List TypeId) → AtMost (asked_value_size s at path) (value_size s at path)
  value_most scope.TheVariants.Here path = class_most (class_at s path)
  value_most (scope.TheVariants.Extern k) path = tt

  abbrev Q : SigType → Type 0
  Q t = AtMost (asked_size s t) (data_size s t)

  abbrev P : Owner → Type 0
  P o = Unit {0}

  abbrev asks : SigType → Option ℕ
  asks = fold-SigType (Option ℕ) (Option ℕ) no_size (size_step (asked_value_size s))

  abbrev has : SigType → Option ℕ
  has = fold-SigType (Option ℕ) (Option ℕ) no_size (size_step (value_size s))

  abbrev owner_asks : Owner → Option ℕ
  owner_asks = fold-Owner (Option ℕ) (Option ℕ) no_size (size_step (asked_value_size s))

  abbrev owner_has : Owner → Option ℕ
  owner_has = fold-Owner (Option ℕ) (Option ℕ) no_size (size_step (value_size s))

  layer_most : (l : layer.SigType-F (OwnerWith P Q) (TypeWith P Q)) →
      AtMost (size_step (asked_value_size s) (map-SigType Owner SigType (Option ℕ) (Option ℕ) owner_asks asks (type_values P Q l)))
      (size_step (value_size s) (map-SigType Owner SigType (Option ℕ) (Option ℕ) owner_has has (type_values P Q l)))
  layer_most (layer.Prim y) = same_most _
  layer_most (layer.Class t) = tt
  layer_most (layer.Value t) = value_most t.scope t.path
  layer_most (layer.Inst v t args) = tt
  layer_most (layer.Var k) = tt
  layer_most (layer.MVar k) = tt
  layer_most (layer.SzArray t) = tt
  layer_most (layer.Array t rank sizes lower) = tt
  layer_most (layer.ByRef t) = tt
  layer_most (layer.Pointer t) = tt
  layer_most (layer.Mod required o t) = t.1
  layer_most (layer.Pinned t) = tt

  rolled_most : (l : layer.SigType-F (OwnerWith P Q) (TypeWith P Q)) → Q (roll-SigType (type_values P Q l))
  rolled_most l =
      subst (λ (o : Option ℕ). AtMost o (data_size s (roll-SigType (type_values P Q l)))) (sym (fold-roll-SigType (Option ℕ) (Option ℕ) no_size (size_step (asked_value_size s)) (type_values P Q l)))
      (subst (λ (o : Option ℕ). AtMost (size_step (asked_value_size s) (map-SigType Owner SigType (Option ℕ) (Option ℕ) owner_asks asks (type_values P Q l))) o)
      (sym (fold-roll-SigType (Option ℕ) (Option ℕ) no_size (size_step (value_size s)) (type_values P Q l))) (layer_most l))

  pub asked_most : (t : SigType) → AtMost (asked_size s t) (data_size s t)
  asked_most = by_layers P Q (λ l. tt) rolled_most

  -- ---- the number of bytes of data

  length_joined : {X : Type 0} (xs ys : List X) → length (xs ++ ys) ≡ length xs + length ys
  length_joined [] ys = omega arith
  length_joined (x ∷ xs) ys = let more = length_joined xs ys in omega arith

  little_many : (count k : ℕ) → length (little_bytes count k) ≡ count
  little_many zero k = refl
  little_many (suc count) k = ap suc (little_many count (k / 256))

  times_more : (count k : ℕ) → k + count * k ≡ suc count * k
  times_more count k = omega arith

  repeated_many : (count : ℕ) (bytes : List ℕ) → length (repeated count bytes) ≡ count * length bytes
  repeated_many zero bytes = omega arith
  repeated_many (suc count) bytes = length_joined bytes (repeated count bytes) ∙ (ap (λ (k : ℕ). length bytes + k) (repeated_many count bytes) ∙ times_more count (length bytes))

  length_if : (c : Bool) (xs ys : List ℕ) → length (if c then xs else ys) ≡ (if c then length xs else length ys)
  length_if true xs ys = refl
  length_if false xs ys = refl

  item_many : (q : f.Part) → length (item_bytes s q) ≡ item_length s q
  item_many q =
      let whole = nat_eq q.production p.DATA_ITEM_BYTES in
      let array = array_bytes s (f.leaf_at 0 q.below) in
      let numbers = repeated (item_count s q.below) (little_bytes (item_bits q.below / 8) (wrapped (item_bits q.below) (item_value s q.below))) in
      length_if whole array numbers
      ∙ ap (λ (k : ℕ). if whole then length array else k)
      (repeated_many (item_count s q.below) (little_bytes (item_bits q.below / 8) (wrapped (item_bits q.below) (item_value s q.below)))
      ∙ ap (λ (k : ℕ). item_count s q.below * k) (little_many (item_bits q.below / 8) (wrapped (item_bits q.below) (item_value s q.below))))

  sum_from : (qs : List f.Part) (k : ℕ) → fold (λ n q. n + item_length s q) k qs ≡ k + length (flat_map (item_bytes s) qs)
  sum_from [] k = omega arith
  sum_from (q ∷ qs) k =
      let more = sum_from qs (k + item_length s q) in
      let here = item_many q in
      let both = length_joined (item_bytes s q) (flat_map (item_bytes s) qs) in
      omega (arith, more, here, both)

  data_many : (g : f.Forest) → data_length s g ≡ length (data_bytes s g)
  data_many g = let all = sum_from (data_items g) 0 in omega (arith, all)

  -- ---- no fault of a field with data

  not_less : (m n : ℕ) → n ≤ m → nat_lt m n ≡ false
  not_less m n h = grind (arith, h)

  named_long : (o : Option f.Forest) (bytes : List ℕ) → bytes_at s o ≡ bytes → (j : ℕ) → j ≤ length bytes → (token : ℕ) → label_if_short (Some j) (data_named_length s o) token ≡ []
  named_long None bytes e j h token = refl
  named_long (Some g) bytes e j h token = by (list_any (λ q. stands_too_often s q.below) (data_items g))
    where
      long : (if nat_lt (data_length s g) j then token ∷ [] else []) ≡ []
      long =
          let many : data_length s g ≡ length bytes = data_many g ∙ ap (λ (xs : List ℕ). length xs) e in
          ap (λ (c : Bool). if c then token ∷ [] else []) (not_less (data_length s g) j (subst (λ (n : ℕ). j ≤ n) (sym many) h))

      by : (c : Bool) → label_if_short (Some j) (if c then None else Some (data_length s g)) token ≡ []
      by true = refl
      by false = long

  pub long_enough : (t : SigType) (o : Option f.Forest) (bytes : List ℕ) → bytes_at s o ≡ bytes → data_size s t ≡ Some (length bytes) → (token : ℕ) →
      label_if_short (asked_size s t) (data_named_length s o) token ≡ []
  long_enough t o bytes e sized token =
      let most = subst (λ (x : Option ℕ). AtMost (asked_size s t) x) sized (asked_most t) in
      ap (λ (x : Option ℕ). label_if_short x (data_named_length s o) token) most.1 ∙ named_long o bytes e most.0 most.2 token

  pub sized_field : (t : SigType) (k : ℕ) → data_size s t ≡ Some k → (token : ℕ) → label_if_none (asked_size s t) token ≡ []
  sized_field t k sized token =
      let most = subst (λ (x : Option ℕ). AtMost (asked_size s t) x) sized (asked_most t) in
      ap (λ (x : Option ℕ). label_if_none x token) most.1

  -- ---- labels that are there

  abbrev no_texts : List (List ℕ)
  no_texts = []

  found : (label : List ℕ) (gs : List f.Forest) (texts : List (List ℕ)) → map (λ g. name_text s (label_token g)) gs ≡ texts → (k : ℕ) → slice_get texts k ≡ Some label →
      is_some (find (λ g. bytes_eq (name_text s (label_token g)) label) gs) ≡ true
  found label [] texts e k h = absurd (nothing k (subst (λ (xs : List (List ℕ)). slice_get xs k ≡ Some label) (sym e) h))
    where
      nothing : (j : ℕ) → slice_get no_texts j ≡ Some label → ⊥
      nothing j i = absurd cc
  found label (g ∷ gs) [] e k h = absurd cc
  found label (g ∷ gs) (text ∷ texts) e zero h =
      let same : name_text s (label_token g) ≡ label = cc in
      ap (λ (c : Bool). is_some (cond c (Some g) (find (λ y. bytes_eq (name_text s (label_token y)) label) gs))) ((bytes_eq-Decides (name_text s (label_token g)) label).1 same)
  found label (g ∷ gs) (text ∷ texts) e (suc k) h =
      by (bytes_eq (name_text s (label_token g)) label) (found label gs texts (tail_is e) k h)
    where
      tail_is : map (λ y. name_text s (label_token y)) (g ∷ gs) ≡ text ∷ texts → map (λ y. name_text s (label_token y)) gs ≡ texts
      tail_is i = cc

      by : (c : Bool) → is_some (find (λ y. bytes_eq (name_text s (label_token y)) label) gs) ≡ true → is_some (cond c (Some g) (find (λ y. bytes_eq (name_text s (label_token y)) label) gs)) ≡ true
      by true r = refl
      by false r = r

  label_there : (j : ℕ) (all : List (List ℕ)) (k : ℕ) (bytes : List ℕ) → slice_get all k ≡ Some bytes → slice_get (labels j all) k ≡ Some (data_label (j + k))
  label_there j [] zero bytes h = absurd cc
  label_there j [] (suc k) bytes h = absurd cc
  label_there j (b ∷ more) zero bytes h = ap (λ (i : ℕ). Some (data_label i)) (plus j)
    where
      plus : (i : ℕ) → i ≡ i + 0
      plus i = omega arith
  label_there j (b ∷ more) (suc k) bytes h = label_there (suc j) more k bytes h ∙ ap (λ (i : ℕ). Some (data_label i)) (turned j k)
    where
      turned : (i m : ℕ) → suc i + m ≡ i + suc m
      turned i m = omega arith

  pub label_known : (all : List (List ℕ)) → map (λ g. name_text s (label_token g)) (labelled s) ≡ labels 0 all → (k : ℕ) (bytes : List ℕ) → slice_get all k ≡ Some bytes →
      is_some (data_named s (data_label k)) ≡ true
  label_known all said k bytes h = found (data_label k) (labelled s) (labels 0 all) said k (label_there 0 all k bytes h ∙ ap (λ (i : ℕ). Some (data_label i)) (none_more k))
    where
      none_more : (i : ℕ) → 0 + i ≡ i
      none_more i = omega arith
