-- What is spelled with tokens is spelled with the owners that these name, where they name those below its depth.
use Rattle.std.proofs.Common.{◌≡◌, ℕ, ℤ, ◌<◌, ◌≤◌, List, [], ◌∷◌, map, Option, Some, ◌∙◌, ap, arith}
use Rattle.type_terms.specs.declared.name.TypeName.{TypeName}
use Rattle.type_terms.specs.declared.term.Owner.{Owner, fold_out-Owner, map-Owner}
use Rattle.type_terms.specs.declared.term.Owner.TheVariants as owner
use Rattle.type_terms.specs.declared.term.Owner.TheOpen as layer
use Rattle.type_terms.specs.declared.term.SigType.{SigType, fold_out-SigType, map-SigType, out-SigType}
use Rattle.type_terms.specs.Depth.{depth, owner_depth, depth_step, owner_depth_step, largest}
use Rattle.sig_codec.specs.Spelling.{Layer, reading, writing, SpellsOwner, SpellsName, SpellsEachBy, SpellsCounted, SpellsShape, SpellsType, SpellsLayer, SpellsEach}
use Rattle.sig_codec.specs.Spelling as spelling

abbrev layer_depth : Layer → ℕ
layer_depth l = depth_step (map-SigType Owner SigType ℕ ℕ owner_depth depth l)

depth-out : (t : SigType) → depth t ≡ layer_depth (out-SigType t)
depth-out t = fold_out-SigType ℕ ℕ owner_depth_step depth_step t

abbrev owner_layer_depth : layer.Owner-F Owner SigType → ℕ
owner_layer_depth l = owner_depth_step (map-Owner Owner SigType ℕ ℕ owner_depth depth l)

pub depth-Name : (name : TypeName) → owner_depth (owner.Name name) ≡ 0
depth-Name name = fold_out-Owner ℕ ℕ owner_depth_step depth_step (owner.Name name) ∙ ap owner_layer_depth (owner.outs-Name name)

pub depth-Spec : (t : SigType) → owner_depth (owner.Spec t) ≡ depth t
depth-Spec t = fold_out-Owner ℕ ℕ owner_depth_step depth_step (owner.Spec t) ∙ ap owner_layer_depth (owner.outs-Spec t)

each_again : {X : Type 0} (P Q : List ℕ → X → Type 0) → ((bytes : List ℕ) (x : X) → P bytes x → Q bytes x) → (xs : List X) (bytes : List ℕ) → SpellsEachBy P xs bytes → SpellsEachBy Q xs bytes
each_again P Q f [] bytes h = h
each_again P Q f (x ∷ xs) bytes h = (h.0, h.1, h.2, f h.0 x h.3, each_again P Q f xs h.1 h.4)

module _ (tokens : Owner → Option ℕ) (owners : ℕ → Option Owner) (n : ℕ)
    (agree : (o : Owner) (token : ℕ) → owner_depth o < n → tokens o ≡ Some token → owners token ≡ Some o) where
  owner_again : (o : Owner) (bytes : List ℕ) → owner_depth o < n → SpellsOwner (writing tokens) o bytes → SpellsOwner (reading owners) o bytes
  owner_again o bytes low h = record { token = h.token; coded = h.coded; number = h.number.0; decoded = h.decoded; named = agree o h.token low h.named }

  name_owner_again : (name : TypeName) (bytes : List ℕ) → 0 < n → SpellsOwner (writing tokens) (owner.Name name) bytes → SpellsOwner (reading owners) (owner.Name name) bytes
  name_owner_again name bytes low h = owner_again (owner.Name name) bytes (omega (arith, depth-Name name)) h

  name_again : (name : TypeName) (bytes : List ℕ) → 0 < n → SpellsName (writing tokens) name bytes → SpellsName (reading owners) name bytes
  unfolding name_owner_again owner_again
  name_again name bytes low h = record { owner = name_owner_again name bytes low h.owner; declared = h.declared }

  shape_again : (r : ℕ) (s : List ℕ) (l : List ℤ) (bytes : List ℕ) → SpellsShape (writing tokens) r s l bytes → SpellsShape (reading owners) r s l bytes
  shape_again r s l bytes h = record {
    a = h.a;
    b = h.b;
    c = h.c;
    whole = h.whole;
    ranked = h.ranked.0;
    some = h.some;
    sized = record { count = h.sized.count; each = h.sized.each; whole = h.sized.whole; counted = h.sized.counted.0; spelled_each = each_again _ _ (λ bytes x p. p.0) s h.sized.each h.sized.spelled_each };
    few_sizes = h.few_sizes;
    bounded = record { count = h.bounded.count; each = h.bounded.each; whole = h.bounded.whole; counted = h.bounded.counted.0; spelled_each = each_again _ _ (λ bytes x p. p.0) l h.bounded.each h.bounded.spelled_each };
    few_bounds = h.few_bounds;
  }

  mutual
    pub type_again : {t : SigType} {bytes : List ℕ} → SpellsType (writing tokens) t bytes → depth t ≤ n → SpellsType (reading owners) t bytes
    type_again {t = t} (spelling.made h) low = spelling.made (layer_again h (omega (arith, depth-out t)))

    layer_again : {l : Layer} {bytes : List ℕ} → SpellsLayer (writing tokens) l bytes → layer_depth l ≤ n → SpellsLayer (reading owners) l bytes
    layer_again (spelling.prim e) low = spelling.prim e
    layer_again (spelling.class {name = x} {a = c} e h) low = spelling.class e (name_again x c (omega arith) h)
    layer_again (spelling.value {name = x} {a = c} e h) low = spelling.value e (name_again x c (omega arith) h)
    layer_again (spelling.inst {name = x} {args = args} {a = c} e o count some h) low = spelling.inst e (name_owner_again x c (omega arith) o) count.0 some (each_type_again h (omega arith))
    layer_again (spelling.var e h lt) low = spelling.var e h.0 lt
    layer_again (spelling.mvar e h lt) low = spelling.mvar e h.0 lt
    layer_again (spelling.sz_array e h) low = spelling.sz_array e (type_again h (omega arith))
    layer_again (spelling.array {rank = r} {sizes = s} {lower = l} {b = d} e h k) low = spelling.array e (type_again h (omega arith)) (shape_again r s l d k)
    layer_again (spelling.by_ref e h) low = spelling.by_ref e (type_again h (omega arith))
    layer_again (spelling.pointer e h) low = spelling.pointer e (type_again h (omega arith))
    layer_again (spelling.modified {by = by} {a = c} e o h) low = spelling.modified e (owner_again by c (omega arith) o) (type_again h (omega arith))
    layer_again (spelling.pinned e h) low = spelling.pinned e (type_again h (omega arith))

    each_type_again : {ts : List SigType} {bytes : List ℕ} → SpellsEach (writing tokens) ts bytes → largest (map depth ts) ≤ n → SpellsEach (reading owners) ts bytes
    each_type_again spelling.none low = spelling.none
    each_type_again (spelling.more e h k) low = spelling.more e (type_again h (omega arith)) (each_type_again k (omega arith))
