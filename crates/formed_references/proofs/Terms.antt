-- The types of an image are made well: names are types' names, shapes and variables in their ranges. A TypeSpec stands in
-- another's term one deeper, so that depth is what the proof goes by.
use Rattle.std.proofs.Common.{◌≡◌, ℕ, zero, suc, ◌<◌, ◌≤◌, Bool, true, ◌&&◌, nat_lt, nat_le, ℤ, List, [], ◌∷◌, map, length, Option, Some, refl, sym, ◌∙◌, arith}
use Rattle.std.proofs.lemmas.Bool.{and_from}
use Rattle.std.proofs.lemmas.Grind.{common_steps}
use Rattle.std.proofs.lemmas.List.{length-map}
use Rattle.std.specs.List.{list_all}
use Rattle.il_base.specs.Numbers.{Packed, PackedSigned, IsTurned, packed_bits}
use Rattle.sig_codec.specs.Spelling.{Layer, reading, SpellsOwner, SpellsEachBy, SpellsShape, SpellsType, SpellsLayer, SpellsEach}
use Rattle.sig_codec.specs.Spelling as spelling
use Rattle.type_terms.specs.declared.name.TypeName.{TypeName}
use Rattle.type_terms.specs.declared.term.Owner.{Owner}
use Rattle.type_terms.specs.declared.term.Owner.TheVariants as owner
use Rattle.type_terms.specs.declared.term.SigType.{SigType, fold-SigType, fold_out-SigType, map-SigType, out-SigType}
use Rattle.type_terms.specs.declared.term.Owner.{fold-Owner}
use Rattle.type_terms.specs.Depth.{depth, owner_depth, largest}
use Rattle.type_terms.proofs.Layers.{fold-Name, fold-Spec}
use Rattle.assembly_tree.specs.WellFormedNames.{is_type_name, is_short_path, is_type_id, is_known}
use Rattle.assembly_tree.specs.WellFormedTerms.{is_size, is_lower_bound, is_shape, owner_step, type_step, is_made_well, is_owner_made_well, is_type, is_owner}
use Rattle.assembly_tree.specs.declared.assembly.Assembly.{Assembly}
use Rattle.image_model.specs.Streams.{strings_of}
use Rattle.image_model.specs.Naming.{RowOwner, NamesOwner}
use Rattle.image_model.specs.Terms.{owner_rank, type_rank, HasRanks}
use Rattle.image_model.specs.Faults.{Reads}
use Rattle.image_model.specs.ReadLaws.{HoldsTypes}
use Rattle.image_namings.proofs.Transfer.{depth-Name, depth-Spec}
use Rattle.image_namings.proofs.Owners.{OneText}
use Rattle.formed_references.proofs.Words.{lt_true, le_true}
use Rattle.formed_references.proofs.Paths.{ids_formed, ref_ids_formed, path_short, ref_short, path_declared, known_ref}
use Rattle.sig_codec.proofs.Layers.{depth-out, layer_depth}

-- ---- numbers

packed_size : (bytes : List ℕ) (n : ℕ) → Packed bytes n → is_size n ≡ true
packed_size [] n h = absurd h
packed_size (a ∷ []) n h = lt_true n 0x20000000 (omega (arith, h.0))
packed_size (a ∷ b ∷ []) n h = lt_true n 0x20000000 (omega (arith, h.0))
packed_size (a ∷ b ∷ c ∷ []) n h = absurd h
packed_size (a ∷ b ∷ c ∷ d ∷ []) n h = lt_true n 0x20000000 (omega (arith, h.0))
packed_size (a ∷ b ∷ c ∷ d ∷ x ∷ more) n h = absurd h

signed_bound : (bytes : List ℕ) (z : ℤ) (t : ℕ) → Packed bytes t → IsTurned (packed_bits (length bytes)) z t → is_lower_bound z ≡ true
signed_bound [] z t h is = absurd h
signed_bound (a ∷ []) z t h is = (let lo = is.low in let hi = is.high in grind (arith, common_steps))
signed_bound (a ∷ b ∷ []) z t h is = (let lo = is.low in let hi = is.high in grind (arith, common_steps))
signed_bound (a ∷ b ∷ c ∷ []) z t h is = absurd h
signed_bound (a ∷ b ∷ c ∷ d ∷ []) z t h is = (let lo = is.low in let hi = is.high in grind (arith, common_steps))
signed_bound (a ∷ b ∷ c ∷ d ∷ x ∷ more) z t h is = absurd h

signed_size : (bytes : List ℕ) (z : ℤ) → PackedSigned bytes z → is_lower_bound z ≡ true
signed_size bytes z h = signed_bound bytes z h.0 h.2 h.1

each_passes : {X : Type 0} (S : List ℕ → X → Type 0) (test : X → Bool) → ((b : List ℕ) (x : X) → S b x → test x ≡ true) → (xs : List X) (bytes : List ℕ) → SpellsEachBy S xs bytes → list_all test xs ≡ true
each_passes S test f [] bytes h = refl
each_passes S test f (x ∷ xs) bytes h = and_from (test x) (list_all test xs) (f h.0 x h.3) (each_passes S test f xs h.1 h.4)

shape_formed : (owners : ℕ → Option Owner) (r : ℕ) (s : List ℕ) (l : List ℤ) (bytes : List ℕ) → SpellsShape (reading owners) r s l bytes → r ≤ 32 → is_shape r s l ≡ true
shape_formed owners r s l bytes h few =
    let one = le_true 1 r (let k = h.some in omega arith) in
    let most = le_true r 32 few in
    let sizes = le_true (length s) r h.few_sizes in
    let bounds = le_true (length l) r h.few_bounds in
    let each_size = each_passes Packed is_size packed_size s h.sized.each h.sized.spelled_each in
    let each_bound = each_passes PackedSigned is_lower_bound signed_size l h.bounded.each h.bounded.spelled_each in
    and_from _ _ (and_from _ _ (and_from _ _ (and_from _ _ (and_from _ _ one most) sizes) bounds) each_size) each_bound

-- ---- by layers

abbrev pub rank : SigType → ℕ
rank t = fold-SigType ℕ ℕ owner_rank type_rank t

abbrev pub rank_of : Owner → ℕ
rank_of o = fold-Owner ℕ ℕ owner_rank type_rank o

abbrev layer_rank : Layer → ℕ
layer_rank l = type_rank (map-SigType Owner SigType ℕ ℕ rank_of rank l)

rank-out : (t : SigType) → rank t ≡ layer_rank (out-SigType t)
rank-out t = fold_out-SigType ℕ ℕ owner_rank type_rank t

abbrev layer_made_well : Assembly → Layer → Bool
layer_made_well a l = type_step a (map-SigType Owner SigType Bool Bool (is_owner_made_well a) (is_made_well a) l)

made-out : (a : Assembly) (t : SigType) → is_made_well a t ≡ layer_made_well a (out-SigType t)
made-out a t = fold_out-SigType Bool Bool (owner_step a) (type_step a) t

pub made-Name : (a : Assembly) (n : TypeName) → is_owner_made_well a (owner.Name n) ≡ is_type_name a n
made-Name a n = fold-Name Bool Bool (owner_step a) (type_step a) n

pub made-Spec : (a : Assembly) (t : SigType) → is_owner_made_well a (owner.Spec t) ≡ is_made_well a t
made-Spec a t = fold-Spec Bool Bool (owner_step a) (type_step a) t

rank-Name : (n : TypeName) → rank_of (owner.Name n) ≡ 0
rank-Name n = fold-Name ℕ ℕ owner_rank type_rank n

pub rank-Spec : (t : SigType) → rank_of (owner.Spec t) ≡ rank t
rank-Spec t = fold-Spec ℕ ℕ owner_rank type_rank t

-- ---- types that are read by a map, where what it names less deep is made well

module _ (a : Assembly) (owners : ℕ → Option Owner) (n : ℕ) (known : (token : ℕ) (o : Owner) → owner_depth o < n → owners token ≡ Some o → rank_of o ≤ 32 → is_owner_made_well a o ≡ true) where
  name_made : (x : TypeName) (bytes : List ℕ) → 0 < n → SpellsOwner (reading owners) (owner.Name x) bytes → is_type_name a x ≡ true
  name_made x bytes some h =
      sym (made-Name a x) ∙ known h.token (owner.Name x) (omega (arith, depth-Name x)) h.named (omega (arith, rank-Name x))

  mutual
    pub type_made : {t : SigType} {bytes : List ℕ} → SpellsType (reading owners) t bytes → depth t ≤ n → rank t ≤ 32 → is_made_well a t ≡ true
    type_made {t = t} (spelling.made h) low few = made-out a t ∙ layer_made h (omega (arith, depth-out t)) (omega (arith, rank-out t))

    layer_made : {l : Layer} {bytes : List ℕ} → SpellsLayer (reading owners) l bytes → layer_depth l ≤ n → layer_rank l ≤ 32 → layer_made_well a l ≡ true
    layer_made (spelling.prim e) low few = refl
    layer_made (spelling.class {name = x} {a = c} e h) low few = name_made x c (omega arith) h.owner
    layer_made (spelling.value {name = x} {a = c} e h) low few = name_made x c (omega arith) h.owner
    layer_made (spelling.inst {v = v} {name = x} {args = args} {a = c} e o count some h) low few =
        and_from (is_type_name a x && nat_lt 0 (length (map (is_made_well a) args))) (list_all (λ ok. ok) (map (is_made_well a) args))
        (and_from (is_type_name a x) (nat_lt 0 (length (map (is_made_well a) args))) (name_made x c (omega arith) o) (lt_true 0 (length (map (is_made_well a) args)) (rw (length-map args (is_made_well a)) some)))
        (each_made h (omega arith) few)
    layer_made (spelling.var {n = k} e h lt) low few = lt_true k 65536 lt
    layer_made (spelling.mvar {n = k} e h lt) low few = lt_true k 65536 lt
    layer_made (spelling.sz_array e h) low few = type_made h (omega arith) few
    layer_made (spelling.array {of = of} {rank = r} {sizes = s} {lower = l} {b = d} e h k) low few =
        and_from (is_shape r s l) (is_made_well a of) (shape_formed owners r s l d k (omega arith)) (type_made h (omega arith) (omega arith))
    layer_made (spelling.by_ref e h) low few = type_made h (omega arith) few
    layer_made (spelling.pointer e h) low few = type_made h (omega arith) few
    layer_made (spelling.modified {by = by} {of = of} {a = c} e o h) low few =
        and_from (is_owner_made_well a by) (is_made_well a of) (known o.token by (omega arith) o.named (omega arith)) (type_made h (omega arith) (omega arith))
    layer_made (spelling.pinned e h) low few = type_made h (omega arith) few

    each_made : {ts : List SigType} {bytes : List ℕ} → SpellsEach (reading owners) ts bytes → largest (map depth ts) ≤ n → largest (map rank ts) ≤ 32 → list_all (λ ok. ok) (map (is_made_well a) ts) ≡ true
    each_made spelling.none low few = refl
    each_made (spelling.more {t = t} {ts = ts} e h k) low few =
        and_from (is_made_well a t) (list_all (λ ok. ok) (map (is_made_well a) ts)) (type_made h (omega arith) (omega arith)) (each_made k (omega arith) (omega arith))

module _ (image : List ℕ) (a : Assembly) (h : Reads image a) (text : OneText (strings_of image)) (holds : HoldsTypes image h.names a) where
  name_formed : (n : TypeName) → length n.path ≤ 100 → list_all is_type_id n.path ≡ true → is_known a n ≡ true → is_type_name a n ≡ true
  unfolding is_type_name
  name_formed n short ids known = and_from (is_short_path n.path && list_all is_type_id n.path) (is_known a n) (and_from (is_short_path n.path) (list_all is_type_id n.path) (le_true (length n.path) 100 short) ids) known

  -- what a row names, where the terms in it are made well
  row_made : (n : ℕ) → ((t : SigType) (bytes : List ℕ) → SpellsType (reading h.names.owners) t bytes → depth t < n → rank t ≤ 32 → is_made_well a t ≡ true)
      → {table row : ℕ} {o : Owner} → RowOwner image h.names.owners table row o → owner_depth o < n → rank_of o ≤ 32 → is_owner_made_well a o ≡ true
  row_made n types (RowOwner.defined {type = type} {path = p} e there path) low few =
      made-Name a _ ∙ name_formed _ (path_short image a h text holds type p path) (ids_formed image a h text holds path there) (path_declared image a h text holds type p there path)
  row_made n types (RowOwner.referred {row = row} {scope = s} {path = p} e there path) low few =
      made-Name a _ ∙ name_formed _ (ref_short image a h text holds row s p there path) (ref_ids_formed image a h text holds path there) (known_ref image a h text holds row s p there path)
  row_made n types (RowOwner.specified {bytes = bytes} {term = t} e there b is) low few =
      made-Spec a t ∙ types t bytes is.0 (omega (arith, depth-Spec t)) (omega (arith, rank-Spec t))

  token_made : (n : ℕ) → ((t : SigType) (bytes : List ℕ) → SpellsType (reading h.names.owners) t bytes → depth t < n → rank t ≤ 32 → is_made_well a t ≡ true)
      → {token : ℕ} {o : Owner} → NamesOwner image h.names.owners token o → owner_depth o < n → rank_of o ≤ 32 → is_owner_made_well a o ≡ true
  token_made n types (NamesOwner.by_row t is) low few = row_made n types is low few

  -- what a token names less deep than n is made well
  known_below : (n token : ℕ) (o : Owner) → owner_depth o < n → h.names.owners token ≡ Some o → rank_of o ≤ 32 → is_owner_made_well a o ≡ true
  known_below zero token o low e few = absurd (omega arith)
  known_below (suc n) token o low e few =
      token_made (suc n) (λ t bytes s deep small. type_made a h.names.owners n (known_below n) s (omega arith) small) ((h.named.owners token o).0 e) low few

  -- ---- what rows and signatures spell

  pub spelled_made : {t : SigType} {bytes : List ℕ} → SpellsType (reading h.names.owners) t bytes → rank t ≤ 32 → is_made_well a t ≡ true
  spelled_made {t = t} s few = type_made a h.names.owners (depth t) (known_below (depth t)) s (omega arith) few

  pub type_formed : (t : SigType) (bytes : List ℕ) → SpellsType (reading h.names.owners) t bytes → depth t ≤ 100 → HasRanks t → is_type a t ≡ true
  unfolding is_type
  type_formed t bytes s low few = and_from (nat_le (depth t) 100) (is_made_well a t) (le_true (depth t) 100 low) (spelled_made s few)

  row_low : {table row : ℕ} {o : Owner} → RowOwner image h.names.owners table row o → owner_depth o ≤ 100
  row_low (RowOwner.defined e there p) = rw (depth-Name _) (omega arith)
  row_low (RowOwner.referred e there p) = rw (depth-Name _) (omega arith)
  row_low (RowOwner.specified {term = t} e there b is) = rw (depth-Spec t) is.1

  -- an owner of rank at most 32
  pub owner_formed : (table row : ℕ) (o : Owner) → RowOwner image h.names.owners table row o → rank_of o ≤ 32 → is_owner a o ≡ true
  unfolding is_owner
  owner_formed table row o r few =
      let low = row_low r in
      and_from (nat_le (owner_depth o) 100) (is_owner_made_well a o) (le_true (owner_depth o) 100 low)
      (row_made (suc (owner_depth o)) (λ t bytes s deep small. spelled_made s small) r (omega arith) few)
