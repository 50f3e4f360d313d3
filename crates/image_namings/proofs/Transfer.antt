-- A type that one reading spells is spelled by another, where the two agree on the owners below its depth.
use Rattle.std.proofs.Common.{◌≡◌, ℕ, ℤ, ◌<◌, ◌≤◌, List, map, Option, Some, ◌∙◌, ap, arith}
use Rattle.type_terms.specs.declared.name.TypeName.{TypeName}
use Rattle.type_terms.specs.declared.term.Owner.{Owner, fold_out-Owner, map-Owner}
use Rattle.type_terms.specs.declared.term.Owner.TheVariants as owner
use Rattle.type_terms.specs.declared.term.Owner.TheOpen as layer
use Rattle.type_terms.specs.declared.term.SigType.{SigType}
use Rattle.type_terms.specs.Depth.{depth, owner_depth, depth_step, owner_depth_step, largest}
use Rattle.sig_codec.proofs.Layers.{layer_depth, depth-out}
use Rattle.sig_codec.specs.Spelling.{Layer, reading, SpellsOwner, SpellsName, SpellsCounted, SpellsShape, SpellsType, SpellsLayer, SpellsEach}
use Rattle.sig_codec.specs.Spelling as spelling

abbrev owner_layer_depth : layer.Owner-F Owner SigType → ℕ
owner_layer_depth l = owner_depth_step (map-Owner Owner SigType ℕ ℕ owner_depth depth l)

pub depth-Name : (name : TypeName) → owner_depth (owner.Name name) ≡ 0
depth-Name name = fold_out-Owner ℕ ℕ owner_depth_step depth_step (owner.Name name) ∙ ap owner_layer_depth (owner.outs-Name name)

pub depth-Spec : (t : SigType) → owner_depth (owner.Spec t) ≡ depth t
depth-Spec t = fold_out-Owner ℕ ℕ owner_depth_step depth_step (owner.Spec t) ∙ ap owner_layer_depth (owner.outs-Spec t)

module _ (a b : ℕ → Option Owner) (n : ℕ) (agree : (token : ℕ) (o : Owner) → owner_depth o < n → a token ≡ Some o → b token ≡ Some o) where
  owner_moves : (o : Owner) (bytes : List ℕ) → owner_depth o < n → SpellsOwner (reading a) o bytes → SpellsOwner (reading b) o bytes
  owner_moves o bytes low h = record { token = h.token; coded = h.coded; number = h.number; decoded = h.decoded; named = agree h.token o low h.named }

  name_owner_moves : (name : TypeName) (bytes : List ℕ) → 0 < n → SpellsOwner (reading a) (owner.Name name) bytes → SpellsOwner (reading b) (owner.Name name) bytes
  name_owner_moves name bytes low h = owner_moves (owner.Name name) bytes (omega (arith, depth-Name name)) h

  name_moves : (name : TypeName) (bytes : List ℕ) → 0 < n → SpellsName (reading a) name bytes → SpellsName (reading b) name bytes
  unfolding name_owner_moves owner_moves
  name_moves name bytes low h = record { owner = name_owner_moves name bytes low h.owner; declared = h.declared }

  counted_moves : {X : Type 0} (spelled : List ℕ → X → Type 0) (xs : List X) (bytes : List ℕ) → SpellsCounted (reading a) spelled xs bytes → SpellsCounted (reading b) spelled xs bytes
  counted_moves spelled xs bytes h = record { count = h.count; each = h.each; whole = h.whole; counted = h.counted; spelled_each = h.spelled_each }

  shape_moves : (r : ℕ) (s : List ℕ) (l : List ℤ) (bytes : List ℕ) → SpellsShape (reading a) r s l bytes → SpellsShape (reading b) r s l bytes
  shape_moves r s l bytes h = record {
    a = h.a;
    b = h.b;
    c = h.c;
    whole = h.whole;
    ranked = h.ranked;
    some = h.some;
    sized = counted_moves _ s h.b h.sized;
    few_sizes = h.few_sizes;
    bounded = counted_moves _ l h.c h.bounded;
    few_bounds = h.few_bounds;
  }

  mutual
    pub type_moves : {t : SigType} {bytes : List ℕ} → SpellsType (reading a) t bytes → depth t ≤ n → SpellsType (reading b) t bytes
    type_moves {t = t} (spelling.made h) low = spelling.made (layer_moves h (omega (arith, depth-out t)))

    layer_moves : {l : Layer} {bytes : List ℕ} → SpellsLayer (reading a) l bytes → layer_depth l ≤ n → SpellsLayer (reading b) l bytes
    layer_moves (spelling.prim e) low = spelling.prim e
    layer_moves (spelling.class {name = x} {a = c} e h) low = spelling.class e (name_moves x c (omega arith) h)
    layer_moves (spelling.value {name = x} {a = c} e h) low = spelling.value e (name_moves x c (omega arith) h)
    layer_moves (spelling.inst {name = x} {args = args} {a = c} e o count some h) low = spelling.inst e (name_owner_moves x c (omega arith) o) count some (each_moves h (omega arith))
    layer_moves (spelling.var e h lt) low = spelling.var e h lt
    layer_moves (spelling.mvar e h lt) low = spelling.mvar e h lt
    layer_moves (spelling.sz_array e h) low = spelling.sz_array e (type_moves h (omega arith))
    layer_moves (spelling.array {rank = r} {sizes = s} {lower = l} {b = d} e h k) low = spelling.array e (type_moves h (omega arith)) (shape_moves r s l d k)
    layer_moves (spelling.by_ref e h) low = spelling.by_ref e (type_moves h (omega arith))
    layer_moves (spelling.pointer e h) low = spelling.pointer e (type_moves h (omega arith))
    layer_moves (spelling.modified {by = by} {a = c} e o h) low = spelling.modified e (owner_moves by c (omega arith) o) (type_moves h (omega arith))
    layer_moves (spelling.pinned e h) low = spelling.pinned e (type_moves h (omega arith))

    each_moves : {ts : List SigType} {bytes : List ℕ} → SpellsEach (reading a) ts bytes → largest (map depth ts) ≤ n → SpellsEach (reading b) ts bytes
    each_moves spelling.none low = spelling.none
    each_moves (spelling.more e h k) low = spelling.more e (type_moves h (omega arith)) (each_moves k (omega arith))
