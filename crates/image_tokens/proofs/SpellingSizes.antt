-- How many bytes a spelling has at most, and what a type weighs by its layer.
use Rattle.std.proofs.Common.{◌≡◌, ◌∙◌, ap, sym, ℕ, ℤ, ◌+◌, ◌*◌, ◌≤◌, List, [], ◌∷◌, ◌++◌, length, map, take, drop, Option, None, Some, zero, suc, arith}
use Rattle.std.specs.Prelude.{sum, sum_by}
use Rattle.std.proofs.lemmas.List.{length-append, take-append-drop}
use Rattle.std.proofs.lemmas.List.Sums.{sum-map, sum_by-cons, sum_by-append}
use Rattle.il_base.specs.Numbers.{Packed, PackedSigned}
use Rattle.assembly_tree.specs.Weight as weight
use Rattle.assembly_tree.specs.Weight.{type_weight, owner_weight, name_weight}
use Rattle.type_terms.specs.declared.reference.MethodSig.{MethodSig}
use Rattle.type_terms.specs.declared.term.Owner.{Owner, fold-Owner}
use Rattle.type_terms.specs.declared.term.Owner.TheVariants as owner
use Rattle.type_terms.specs.declared.term.SigType.{SigType, fold_out-SigType, map-SigType, out-SigType}
use Rattle.sig_codec.specs.Spelling.{Layer, Notation, writing, SpellsOwner, SpellsEachBy, SpellsCounted, SpellsShape, SpellsType, SpellsLayer, SpellsEach}
use Rattle.sig_codec.specs.Spelling as spelling
use Rattle.sig_codec.specs.Signature.{SpellsMethod, SpellsField, SpellsProperty, SpellsLocals, SpellsInstantiation, SpellsGeneric, SpellsParams}
use Rattle.image_tokens.specs.Noted.{owner_step, type_step, longest}

-- ---- by the layer

abbrev owner_longest : Owner → ℕ
owner_longest o = fold-Owner ℕ ℕ owner_step type_step o

abbrev pub layer_longest : Layer → ℕ
layer_longest l = type_step (map-SigType Owner SigType ℕ ℕ owner_longest longest l)

pub longest-out : (t : SigType) → longest t ≡ layer_longest (out-SigType t)
unfolding longest
longest-out t = fold_out-SigType ℕ ℕ owner_step type_step t

abbrev pub layer_weight : Layer → ℕ
layer_weight l = weight.type_step (map-SigType Owner SigType ℕ ℕ owner_weight type_weight l)

pub weight-out : (t : SigType) → type_weight t ≡ layer_weight (out-SigType t)
weight-out t = fold_out-SigType ℕ ℕ weight.owner_step weight.type_step t

-- both, where a type is known by its variant
pub longest_at : (t u : SigType) (l : Layer) → t ≡ u → out-SigType u ≡ l → longest t ≡ layer_longest l
longest_at t u l e f = ap longest e ∙ longest-out u ∙ ap layer_longest f

pub weight_at : (t u : SigType) (l : Layer) → t ≡ u → out-SigType u ≡ l → type_weight t ≡ layer_weight l
weight_at t u l e f = ap type_weight e ∙ weight-out u ∙ ap layer_weight f

pub longest-args : (args : List SigType) → sum (map longest args) ≡ sum_by longest args
longest-args args = sum-map longest args

pub weight-args : (args : List SigType) → sum (map type_weight args) ≡ sum_by type_weight args
weight-args args = sum-map type_weight args

-- ---- packed numbers

pub packed_short : (bytes : List ℕ) (n : ℕ) → Packed bytes n → length bytes ≤ 4
packed_short [] n h = absurd h
packed_short (a ∷ []) n h = omega arith
packed_short (a ∷ b ∷ []) n h = omega arith
packed_short (a ∷ b ∷ c ∷ []) n h = absurd h
packed_short (a ∷ b ∷ c ∷ d ∷ []) n h = omega arith
packed_short (a ∷ b ∷ c ∷ d ∷ e ∷ rest) n h = absurd h

signed_short : (bytes : List ℕ) (z : ℤ) → PackedSigned bytes z → length bytes ≤ 4
signed_short bytes z h = packed_short bytes h.0 h.2

each_short : {X : Type 0} (Spells : List ℕ → X → Type 0) → ((b : List ℕ) (x : X) → Spells b x → length b ≤ 4) → (xs : List X) (bytes : List ℕ)
    → SpellsEachBy Spells xs bytes → length bytes ≤ 4 * length xs
each_short Spells short [] bytes h = omega (arith, ap length h)
each_short Spells short (x ∷ xs) bytes h =
    let first = short h.0 x h.3 in
    let rest = each_short Spells short xs h.1 h.4 in
    omega (arith, ap length h.2 ∙ length-append h.0 h.1, first, rest)

-- ---- spellings

module _ (tokens : Owner → Option ℕ) where
  abbrev w : Notation
  w = writing tokens

  number_short : (bytes : List ℕ) (n : ℕ) → w.number bytes n → length bytes ≤ 4
  number_short bytes n h = packed_short bytes n h.0

  signed_number_short : (bytes : List ℕ) (z : ℤ) → w.signed bytes z → length bytes ≤ 4
  signed_number_short bytes z h = signed_short bytes z h.0

  owner_short : (o : Owner) (bytes : List ℕ) → SpellsOwner w o bytes → length bytes ≤ 4
  owner_short o bytes h = number_short bytes h.coded h.number

  counted_short : {X : Type 0} (Spells : List ℕ → X → Type 0) → ((b : List ℕ) (x : X) → Spells b x → length b ≤ 4) → (xs : List X) (bytes : List ℕ)
      → SpellsCounted w Spells xs bytes → length bytes ≤ 4 + 4 * length xs
  counted_short Spells short xs bytes h =
      let count = number_short h.count (length xs) h.counted in
      let each = each_short Spells short xs h.each h.spelled_each in
      omega (arith, ap length h.whole ∙ length-append h.count h.each, count, each)

  shape_short : (rank : ℕ) (sizes : List ℕ) (lower : List ℤ) (bytes : List ℕ) → SpellsShape w rank sizes lower bytes → length bytes ≤ 12 + 4 * length sizes + 4 * length lower
  shape_short rank sizes lower bytes h =
      let a = number_short h.a rank h.ranked in
      let b = counted_short w.number number_short sizes h.b h.sized in
      let c = counted_short w.signed signed_number_short lower h.c h.bounded in
      omega (arith, ap length h.whole ∙ length-append h.a (h.b ++ h.c), length-append h.b h.c, a, b, c)

  mutual
    type_short : {t : SigType} {bytes : List ℕ} → SpellsType w t bytes → length bytes ≤ longest t
    type_short {t = t} (spelling.made h) = let l = layer_short h in let e = longest-out t in omega (arith, l, e)

    layer_short : {l : Layer} {bytes : List ℕ} → SpellsLayer w l bytes → length bytes ≤ layer_longest l
    layer_short (spelling.prim e) = omega (arith, ap length e)
    layer_short (spelling.class {name = n} {a = a} e h) = let s = owner_short (owner.Name n) a h.owner in omega (arith, ap length e, s)
    layer_short (spelling.value {name = n} {a = a} e h) = let s = owner_short (owner.Name n) a h.owner in omega (arith, ap length e, s)
    layer_short (spelling.inst {v = v} {name = n} {args = args} {a = a} {b = b} {c = c} e o k s h) =
        let first = owner_short (owner.Name n) a o in
        let count = number_short b (length args) k in
        let each = each_type_short h in
        let sum_is = longest-args args in
        omega (arith, ap length e, length-append a (b ++ c), length-append b c, first, count, each, sum_is)
    layer_short (spelling.var {n = n} {a = a} e h lt) = let s = number_short a n h in omega (arith, ap length e, s)
    layer_short (spelling.mvar {n = n} {a = a} e h lt) = let s = number_short a n h in omega (arith, ap length e, s)
    layer_short (spelling.sz_array e h) = let s = type_short h in omega (arith, ap length e, s)
    layer_short (spelling.array {rank = r} {sizes = s} {lower = l} {a = a} {b = b} e h k) =
        let first = type_short h in
        let shape = shape_short r s l b k in
        omega (arith, ap length e, length-append a b, first, shape)
    layer_short (spelling.by_ref e h) = let s = type_short h in omega (arith, ap length e, s)
    layer_short (spelling.pointer e h) = let s = type_short h in omega (arith, ap length e, s)
    layer_short (spelling.modified {by = by} {a = a} {b = b} e o h) =
        let first = owner_short by a o in
        let s = type_short h in
        omega (arith, ap length e, length-append a b, first, s)
    layer_short (spelling.pinned e h) = let s = type_short h in omega (arith, ap length e, s)

    each_type_short : {ts : List SigType} {bytes : List ℕ} → SpellsEach w ts bytes → length bytes ≤ sum_by longest ts
    each_type_short spelling.none = omega arith
    each_type_short (spelling.more {t = t} {ts = ts} {a = a} {b = b} e h k) =
        let first = type_short h in
        let rest = each_type_short k in
        omega (arith, ap length e, length-append a b, sum_by-cons longest t ts, first, rest)

  pub type_within : (t : SigType) (bytes : List ℕ) → SpellsType w t bytes → length bytes ≤ longest t
  type_within t bytes h = type_short h

  each_within : (ts : List SigType) (bytes : List ℕ) → SpellsEach w ts bytes → length bytes ≤ sum_by longest ts
  each_within ts bytes h = each_type_short h

  generic_short : (n : ℕ) (bytes : List ℕ) → SpellsGeneric w n bytes → length bytes ≤ 4
  generic_short zero bytes h = omega (arith, ap length h)
  generic_short (suc n) bytes h = number_short bytes (suc n) h

  params_short : (k : Option ℕ) (ps : List SigType) (bytes : List ℕ) → SpellsParams w k ps bytes → length bytes ≤ 1 + sum_by longest ps
  params_short None ps bytes h = let e = each_within ps bytes h in omega (arith, e)
  params_short (Some k) ps bytes h =
      let a = each_within (take k ps) h.0 h.4 in
      let b = each_within (drop k ps) h.1 h.5 in
      let whole = sym (sum_by-append longest (take k ps) (drop k ps)) ∙ ap (sum_by longest) (take-append-drop k ps) in
      omega (arith, ap length h.2 ∙ length-append h.0 (0x41 ∷ h.1), a, b, whole)

  pub method_within : (s : MethodSig) (bytes : List ℕ) → SpellsMethod w s bytes → length bytes ≤ 10 + longest s.ret + sum_by longest s.params
  method_within s bytes h =
      let a = generic_short s.generic h.a h.generic in
      let b = number_short h.b (length s.params) h.counted in
      let c = type_within s.ret h.c h.ret in
      let d = params_short s.sentinel s.params h.d h.params in
      omega (arith, ap length h.whole, length-append h.a (h.b ++ (h.c ++ h.d)), length-append h.b (h.c ++ h.d), length-append h.c h.d, a, b, c, d)

  pub field_within : (t : SigType) (bytes : List ℕ) → SpellsField w t bytes → length bytes ≤ 1 + longest t
  field_within t bytes h = let s = type_within t h.0 h.2 in omega (arith, ap length h.1, s)

  pub property_within : (s : MethodSig) (bytes : List ℕ) → SpellsProperty w s bytes → length bytes ≤ 5 + longest s.ret + sum_by longest s.params
  property_within s bytes h =
      let a = number_short h.a (length s.params) h.counted in
      let b = type_within s.ret h.b h.ret in
      let c = each_within s.params h.c h.params in
      omega (arith, ap length h.whole, length-append h.a (h.b ++ h.c), length-append h.b h.c, a, b, c)

  pub locals_within : (ts : List SigType) (bytes : List ℕ) → SpellsLocals w ts bytes → length bytes ≤ 5 + sum_by longest ts
  locals_within ts bytes h =
      let a = number_short h.a (length ts) h.counted in
      let b = each_within ts h.b h.each in
      omega (arith, ap length h.whole, length-append h.a h.b, a, b)

  pub instantiation_within : (ts : List SigType) (bytes : List ℕ) → SpellsInstantiation w ts bytes → length bytes ≤ 5 + sum_by longest ts
  instantiation_within ts bytes h =
      let a = number_short h.a (length ts) h.counted in
      let b = each_within ts h.b h.each in
      omega (arith, ap length h.whole, length-append h.a h.b, a, b)
