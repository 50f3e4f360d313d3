-- The types that signatures of an image spell, and the owners that its rows are, have names in their paths (II.22.32, II.22.38,
-- II.23.2). A TypeSpec stands in another's term one deeper, so that depth is what the proof goes by.
use Rattle.std.proofs.Common.{◌≡◌, ℕ, zero, suc, ◌<◌, ◌≤◌, Bool, true, List, [], ◌∷◌, ◌++◌, map, length, Option, Some, refl, sym, ◌∙◌, ap, arith}
use Rattle.std.proofs.lemmas.Bool.{and_from}
use Rattle.std.proofs.lemmas.List.{length-append}
use Rattle.std.proofs.lemmas.List.Folds.{list_all-map}
use Rattle.std.specs.List.{list_all}
use Rattle.sig_codec.specs.Spelling.{Layer, reading, SpellsOwner, SpellsType, SpellsLayer, SpellsEach}
use Rattle.sig_codec.specs.Spelling as spelling
use Rattle.sig_codec.proofs.Layers.{depth-out, layer_depth}
use Rattle.type_terms.specs.declared.name.Scope.{Scope}
use Rattle.type_terms.specs.declared.name.TypeId.{TypeId}
use Rattle.type_terms.specs.declared.name.TypeName.{TypeName}
use Rattle.type_terms.specs.declared.term.Owner.{Owner, fold-Owner}
use Rattle.type_terms.specs.declared.term.Owner.TheVariants as owner
use Rattle.type_terms.specs.declared.term.SigType.{SigType, fold-SigType, fold_out-SigType, map-SigType, out-SigType}
use Rattle.type_terms.specs.Depth.{depth, owner_depth, depth_step, owner_depth_step, largest}
use Rattle.type_terms.proofs.Layers.{fold-Name, fold-Spec}
use Rattle.image_model.specs.Naming.{HasPath, HasRefPath, RowOwner, NamesOwner, TellsOwners}
use Rattle.listing_growth.specs.Standing.{has_name}
use Rattle.listing_growth.specs.Held.{owner_holds, type_holds, is_type_held, is_owner_held}
use Rattle.held_images.proofs.Numbers.{lt_true}

-- ---- by layers

abbrev type_held : SigType → Bool
type_held t = fold-SigType Bool Bool owner_holds type_holds t

abbrev owner_held : Owner → Bool
owner_held o = fold-Owner Bool Bool owner_holds type_holds o

abbrev layer_held : Layer → Bool
layer_held l = type_holds (map-SigType Owner SigType Bool Bool owner_held type_held l)

held-out : (t : SigType) → type_held t ≡ layer_held (out-SigType t)
held-out t = fold_out-SigType Bool Bool owner_holds type_holds t

held-Name : (n : TypeName) → owner_held (owner.Name n) ≡ has_name n
held-Name n = fold-Name Bool Bool owner_holds type_holds n

held-Spec : (t : SigType) → owner_held (owner.Spec t) ≡ type_held t
held-Spec t = fold-Spec Bool Bool owner_holds type_holds t

depth-Name : (n : TypeName) → owner_depth (owner.Name n) ≡ 0
depth-Name n = fold-Name ℕ ℕ owner_depth_step depth_step n

depth-Spec : (t : SigType) → owner_depth (owner.Spec t) ≡ depth t
depth-Spec t = fold-Spec ℕ ℕ owner_depth_step depth_step t

-- ---- types that are read by a map, where what it names less deep is held

module _ (owners : ℕ → Option Owner) (n : ℕ) (known : (token : ℕ) (o : Owner) → owner_depth o < n → owners token ≡ Some o → owner_held o ≡ true) where
  name_spelled : (x : TypeName) (bytes : List ℕ) → 0 < n → SpellsOwner (reading owners) (owner.Name x) bytes → has_name x ≡ true
  name_spelled x bytes some h = sym (held-Name x) ∙ known h.token (owner.Name x) (omega (arith, depth-Name x)) h.named

  mutual
    type_spelled : {t : SigType} {bytes : List ℕ} → SpellsType (reading owners) t bytes → depth t ≤ n → type_held t ≡ true
    type_spelled {t = t} (spelling.made h) low = held-out t ∙ layer_spelled h (omega (arith, depth-out t))

    layer_spelled : {l : Layer} {bytes : List ℕ} → SpellsLayer (reading owners) l bytes → layer_depth l ≤ n → layer_held l ≡ true
    layer_spelled (spelling.prim e) low = refl
    layer_spelled (spelling.class {name = x} {a = c} e h) low = name_spelled x c (omega arith) h.owner
    layer_spelled (spelling.value {name = x} {a = c} e h) low = name_spelled x c (omega arith) h.owner
    layer_spelled (spelling.inst {name = x} {args = args} {a = c} e o count some h) low =
        and_from (has_name x) (list_all (λ ok. ok) (map type_held args)) (name_spelled x c (omega arith) o) (each_spelled h (omega arith))
    layer_spelled (spelling.var e h lt) low = refl
    layer_spelled (spelling.mvar e h lt) low = refl
    layer_spelled (spelling.sz_array e h) low = type_spelled h (omega arith)
    layer_spelled (spelling.array e h k) low = type_spelled h (omega arith)
    layer_spelled (spelling.by_ref e h) low = type_spelled h (omega arith)
    layer_spelled (spelling.pointer e h) low = type_spelled h (omega arith)
    layer_spelled (spelling.modified {by = by} {of = of} e o h) low =
        and_from (owner_held by) (type_held of) (known o.token by (omega arith) o.named) (type_spelled h (omega arith))
    layer_spelled (spelling.pinned e h) low = type_spelled h (omega arith)

    each_spelled : {ts : List SigType} {bytes : List ℕ} → SpellsEach (reading owners) ts bytes → largest (map depth ts) ≤ n → list_all (λ ok. ok) (map type_held ts) ≡ true
    each_spelled spelling.none low = refl
    each_spelled (spelling.more {t = t} {ts = ts} e h k) low =
        and_from (type_held t) (list_all (λ ok. ok) (map type_held ts)) (type_spelled h (omega arith)) (each_spelled k (omega arith))

-- ---- paths

behind_some : (before : List TypeId) (id : TypeId) (path : List TypeId) → path ≡ before ++ id ∷ [] → 0 < length path
behind_some before id path e =
    let l = length-append before (id ∷ []) in
    let same = ap length e in
    omega arith

path_some : {image : List ℕ} {type : ℕ} {path : List TypeId} → HasPath image type path → 0 < length path
path_some (HasPath.top e is) = omega arith
path_some (HasPath.nested {id = id} {before = before} {path = path} e some p is s) = behind_some before id path s

ref_path_some : {image : List ℕ} {row : ℕ} {scope : Scope} {path : List TypeId} → HasRefPath image row scope path → 0 < length path
ref_path_some (HasRefPath.in_module e is) = omega arith
ref_path_some (HasRefPath.in_assembly e g is) = omega arith
ref_path_some (HasRefPath.in_type {id = id} {before = before} {path = path} e p is s) = behind_some before id path s

pub path_named : {image : List ℕ} {type : ℕ} {path : List TypeId} (scope : Scope) → HasPath image type path → is_owner_held (owner.Name (record { scope = scope; path = path })) ≡ true
unfolding is_owner_held
path_named {path = path} scope p = held-Name (record { scope = scope; path = path }) ∙ lt_true 0 (length path) (path_some p)

-- ---- what an image names

module _ (image : List ℕ) (owners : ℕ → Option Owner) (tells : TellsOwners image owners) where
  row_named : (n : ℕ) → ((t : SigType) (bytes : List ℕ) → SpellsType (reading owners) t bytes → depth t < n → type_held t ≡ true)
      → {table row : ℕ} {o : Owner} → RowOwner image owners table row o → owner_depth o < n → owner_held o ≡ true
  row_named n types (RowOwner.defined {path = p} e there path) low = held-Name _ ∙ lt_true 0 (length p) (path_some path)
  row_named n types (RowOwner.referred {path = p} e there path) low = held-Name _ ∙ lt_true 0 (length p) (ref_path_some path)
  row_named n types (RowOwner.specified {bytes = bytes} {term = t} e there b is) low = held-Spec t ∙ types t bytes is.0 (omega (arith, depth-Spec t))

  token_named : (n : ℕ) → ((t : SigType) (bytes : List ℕ) → SpellsType (reading owners) t bytes → depth t < n → type_held t ≡ true)
      → {token : ℕ} {o : Owner} → NamesOwner image owners token o → owner_depth o < n → owner_held o ≡ true
  token_named n types (NamesOwner.by_row t is) low = row_named n types is low

  -- what a token names less deep than n is held
  known_below : (n token : ℕ) (o : Owner) → owner_depth o < n → owners token ≡ Some o → owner_held o ≡ true
  known_below zero token o low e = absurd (omega arith)
  known_below (suc n) token o low e =
      token_named (suc n) (λ t bytes s deep. type_spelled owners n (known_below n) s (omega arith)) ((tells token o).0 e) low

  pub type_is_held : {t : SigType} {bytes : List ℕ} → SpellsType (reading owners) t bytes → is_type_held t ≡ true
  unfolding is_type_held
  type_is_held {t = t} s = type_spelled owners (depth t) (known_below (depth t)) s (omega arith)

  pub types_are_held : {ts : List SigType} {bytes : List ℕ} → SpellsEach (reading owners) ts bytes → list_all is_type_held ts ≡ true
  unfolding is_type_held
  types_are_held {ts = ts} s =
      sym (list_all-map (λ ok. ok) is_type_held ts) ∙ each_spelled owners (largest (map depth ts)) (known_below (largest (map depth ts))) s (omega arith)

  pub owner_is_held : (token : ℕ) (o : Owner) → owners token ≡ Some o → is_owner_held o ≡ true
  unfolding is_owner_held
  owner_is_held token o e = known_below (suc (owner_depth o)) token o (omega arith) e

  pub row_is_held : {table row : ℕ} {o : Owner} → RowOwner image owners table row o → is_owner_held o ≡ true
  unfolding is_owner_held
  row_is_held {o = o} r =
      row_named (suc (owner_depth o)) (λ t bytes s low. type_spelled owners (depth t) (known_below (depth t)) s (omega arith)) r (omega arith)
