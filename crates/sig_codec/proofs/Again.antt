-- A type that is spelled, within the limits, is read, whatever follows it.
use Rattle.std.proofs.Common.{◌≡◌, ℕ, zero, suc, ◌+◌, ◌-◌, ◌^◌, ◌<◌, ◌≤◌, ◌⊎◌, inl, inr, Bool, true, false, cond, nat_lt, nat_le, nat_eq, ◌&&◌, ℤ, List, [], ◌∷◌, ◌++◌, length, map, Option, Some, refl, sym, ap, ◌∙◌, append_assoc, arith}
use Rattle.std.proofs.lemmas.Grind.{common_steps}
use Rattle.il_base.specs.Numbers.{Packed}
use Rattle.type_terms.specs.declared.name.TypeName.{TypeName}
use Rattle.type_terms.specs.declared.term.Primitive.{Primitive}
use Rattle.type_terms.specs.declared.term.Primitive.TheVariants as kinds
use Rattle.type_terms.specs.declared.term.Owner.{Owner, Name}
use Rattle.type_terms.specs.declared.term.Owner.TheOpen as layer
use Rattle.type_terms.specs.declared.term.SigType.{SigType, out-SigType, roll-SigType, roll-out-SigType}
use Rattle.type_terms.specs.declared.term.SigType.TheVariants as type
use Rattle.type_terms.specs.Depth.{depth, owner_depth, largest}
use Rattle.type_terms.specs.Nodes.{nodes, owner_nodes, total}
use Rattle.sig_codec.specs.declared.element.Element.{Element}
use Rattle.sig_codec.specs.declared.element.Element.TheVariants as element
use Rattle.sig_codec.specs.Spelling.{Layer, Notation, reading, prim_byte, kind_byte, modifier_byte, SpellsOwner, SpellsName, SpellsShape, SpellsType, made, SpellsLayer, prim, class, value, inst, var, mvar, sz_array, array, by_ref, pointer, modified, pinned, SpellsEach, none, more}
use Rattle.sig_codec.specs.Reading.{Read, TypeStep, shape_at, generic_at, element_of, is_at_sentinel, types_at, all_types_at, boxed_at, named_at, numbered_at, array_at, inst_at, modified_at, parts_at, type_at}
use Rattle.sig_codec.proofs.Parts.{owner_again, declared_again, variable_again, shape_again, generic_again, SpellsHead}
use Rattle.sig_codec.proofs.Layers.{layer_depth, layer_nodes, depth-out, nodes-out}
use Rattle.sig_codec.proofs.Steps.{first_step}
use Rattle.sig_codec.proofs.Takes.{element_byte}

-- ---- elements

prim_element : (p : Primitive) → element_of (prim_byte p) ≡ Some (element.Prim p)
unfolding element_of
prim_element kinds.Void = refl
prim_element kinds.Bool = refl
prim_element kinds.Char = refl
prim_element kinds.I1 = refl
prim_element kinds.U1 = refl
prim_element kinds.I2 = refl
prim_element kinds.U2 = refl
prim_element kinds.I4 = refl
prim_element kinds.U4 = refl
prim_element kinds.I8 = refl
prim_element kinds.U8 = refl
prim_element kinds.R4 = refl
prim_element kinds.R8 = refl
prim_element kinds.Str = refl
prim_element kinds.TypedRef = refl
prim_element kinds.NInt = refl
prim_element kinds.NUint = refl
prim_element kinds.Object = refl

element_again : (e : Element) → element_of (element_byte e) ≡ Some e
unfolding element_of
element_again (element.Prim p) = prim_element p
element_again element.Pointer = refl
element_again element.ByRef = refl
element_again element.Value = refl
element_again element.Class = refl
element_again element.Var = refl
element_again element.Array = refl
element_again element.Inst = refl
element_again element.SzArray = refl
element_again element.MVar = refl
element_again element.Required = refl
element_again element.Optional = refl
element_again element.Pinned = refl

prim_is_no_sentinel : (p : Primitive) → nat_eq (prim_byte p) 0x41 ≡ false
prim_is_no_sentinel kinds.Void = refl
prim_is_no_sentinel kinds.Bool = refl
prim_is_no_sentinel kinds.Char = refl
prim_is_no_sentinel kinds.I1 = refl
prim_is_no_sentinel kinds.U1 = refl
prim_is_no_sentinel kinds.I2 = refl
prim_is_no_sentinel kinds.U2 = refl
prim_is_no_sentinel kinds.I4 = refl
prim_is_no_sentinel kinds.U4 = refl
prim_is_no_sentinel kinds.I8 = refl
prim_is_no_sentinel kinds.U8 = refl
prim_is_no_sentinel kinds.R4 = refl
prim_is_no_sentinel kinds.R8 = refl
prim_is_no_sentinel kinds.Str = refl
prim_is_no_sentinel kinds.TypedRef = refl
prim_is_no_sentinel kinds.NInt = refl
prim_is_no_sentinel kinds.NUint = refl
prim_is_no_sentinel kinds.Object = refl

modifier_is_no_sentinel : (required : Bool) → nat_eq (modifier_byte required) 0x41 ≡ false
modifier_is_no_sentinel true = refl
modifier_is_no_sentinel false = refl

begins : (first : ℕ) (a front rest : List ℕ) → nat_eq first 0x41 ≡ false → front ≡ first ∷ a → is_at_sentinel (front ++ rest) ≡ false
begins first a front rest h e = rw e h

layer_is_no_sentinel : {w : Notation} {l : Layer} {front : List ℕ} → SpellsLayer w l front → (rest : List ℕ) → is_at_sentinel (front ++ rest) ≡ false
layer_is_no_sentinel (prim {p = p} e) rest = begins _ _ _ rest (prim_is_no_sentinel p) e
layer_is_no_sentinel (class e h) rest = begins _ _ _ rest refl e
layer_is_no_sentinel (value e h) rest = begins _ _ _ rest refl e
layer_is_no_sentinel (inst e h n s a) rest = begins _ _ _ rest refl e
layer_is_no_sentinel (var e h n) rest = begins _ _ _ rest refl e
layer_is_no_sentinel (mvar e h n) rest = begins _ _ _ rest refl e
layer_is_no_sentinel (sz_array e h) rest = begins _ _ _ rest refl e
layer_is_no_sentinel (array e h s) rest = begins _ _ _ rest refl e
layer_is_no_sentinel (by_ref e h) rest = begins _ _ _ rest refl e
layer_is_no_sentinel (pointer e h) rest = begins _ _ _ rest refl e
layer_is_no_sentinel (modified {required = r} e o h) rest = begins _ _ _ rest (modifier_is_no_sentinel r) e
layer_is_no_sentinel (pinned e h) rest = begins _ _ _ rest refl e

type_is_no_sentinel : {w : Notation} {t : SigType} {front : List ℕ} → SpellsType w t front → (rest : List ℕ) → is_at_sentinel (front ++ rest) ≡ false
type_is_no_sentinel (made h) rest = layer_is_no_sentinel h rest

-- ---- layers

module _ (owners : ℕ → Option Owner) where
  abbrev w : Notation
  w = reading owners

  -- what is read of a type
  abbrev TypeAgain : SigType → List ℕ → Type 0
  TypeAgain t front = (limit : ℕ) (rest : List ℕ) (many : ℕ) → depth t ≤ limit → nodes t ≤ many → type_at owners limit (front ++ rest) many ≡ Some (t, rest, many - nodes t)

  abbrev LayerAgain : Layer → List ℕ → Type 0
  LayerAgain l front = (limit : ℕ) (rest : List ℕ) (many : ℕ) → layer_depth l ≤ limit → layer_nodes l ≤ many → type_at owners limit (front ++ rest) many ≡ Some (roll-SigType l, rest, many - layer_nodes l)

  abbrev EachAgain : List SigType → List ℕ → Type 0
  EachAgain ts front = (limit count : ℕ) (rest : List ℕ) (many : ℕ) → largest (map depth ts) ≤ limit → total (map nodes ts) ≤ many → length ts ≤ count
      → (length ts ≡ count) ⊎ (is_at_sentinel rest ≡ true) → types_at (type_at owners limit) count (front ++ rest) many ≡ Some (ts, rest, many - total (map nodes ts))

  -- from the element to its parts
  enter : (e : Element) (a front rest : List ℕ) (limit many : ℕ) → front ≡ element_byte e ∷ a → 0 < limit → 0 < many
      → type_at owners limit (front ++ rest) many ≡ parts_at owners (type_at owners (limit - 1)) (limit - 1) e (a ++ rest) (many - 1)
  enter e a front rest limit many whole l m =
      ap (λ (x : List ℕ). type_at owners limit (x ++ rest) many) whole ∙
      first_step owners limit (element_byte e ∷ (a ++ rest)) many (λ z. omega arith) (λ z. omega arith) ∙ rw (element_again e) refl

  abbrev read : SigType → List ℕ → ℕ → Read SigType
  read t rest left = Some (t, rest, left)

  -- the same value, by its layer and its nodes
  closing : (t : SigType) (l : Layer) (rest : List ℕ) (k many left : ℕ) → roll-SigType l ≡ t → left ≡ many - k → read t rest left ≡ read (roll-SigType l) rest (many - k)
  closing t l rest k many left r e = rw (r, e) refl

  boxed_again : (e : Element) (make : SigType → SigType) (lay : SigType → Layer) (of : SigType) (a front : List ℕ)
      → ((sub : TypeStep) (limit : ℕ) (bytes : List ℕ) (many : ℕ) → parts_at owners sub limit e bytes many ≡ boxed_at sub make bytes many)
      → roll-SigType (lay of) ≡ make of → front ≡ element_byte e ∷ a → TypeAgain of a
      → (limit : ℕ) (rest : List ℕ) (many : ℕ) → depth of + 1 ≤ limit → nodes of + 1 ≤ many → type_at owners limit (front ++ rest) many ≡ Some (roll-SigType (lay of), rest, many - (nodes of + 1))
  boxed_again e make lay of a front parts rolls whole ih limit rest many d n =
      let one = ih (limit - 1) rest (many - 1) (omega arith) (omega arith) in
      let boxed : boxed_at (type_at owners (limit - 1)) make (a ++ rest) (many - 1) ≡ read (make of) rest (many - 1 - nodes of) = rw one refl in
      enter e a front rest limit many whole (omega arith) (omega arith) ∙ parts (type_at owners (limit - 1)) (limit - 1) (a ++ rest) (many - 1) ∙ boxed ∙
      closing (make of) (lay of) rest (nodes of + 1) many (many - 1 - nodes of) rolls (omega arith)

  named_again : (e : Element) (make : TypeName → SigType) (lay : TypeName → Layer) (n : TypeName) (a front : List ℕ)
      → ((sub : TypeStep) (limit : ℕ) (bytes : List ℕ) (many : ℕ) → parts_at owners sub limit e bytes many ≡ named_at owners make bytes many)
      → roll-SigType (lay n) ≡ make n → front ≡ element_byte e ∷ a → SpellsName w n a
      → (limit : ℕ) (rest : List ℕ) (many : ℕ) → 1 ≤ limit → 1 ≤ many → type_at owners limit (front ++ rest) many ≡ Some (roll-SigType (lay n), rest, many - 1)
  named_again e make lay n a front parts rolls whole h limit rest many d m =
      let one = declared_again owners n a rest h in
      let named : named_at owners make (a ++ rest) (many - 1) ≡ read (make n) rest (many - 1) = rw one refl in
      enter e a front rest limit many whole (omega arith) (omega arith) ∙ parts (type_at owners (limit - 1)) (limit - 1) (a ++ rest) (many - 1) ∙ named ∙
      closing (make n) (lay n) rest 1 many (many - 1) rolls refl

  numbered_again : (e : Element) (make : ℕ → SigType) (lay : ℕ → Layer) (n : ℕ) (a front : List ℕ)
      → ((sub : TypeStep) (limit : ℕ) (bytes : List ℕ) (many : ℕ) → parts_at owners sub limit e bytes many ≡ numbered_at make bytes many)
      → roll-SigType (lay n) ≡ make n → front ≡ element_byte e ∷ a → Packed a n → n < 2 ^ 16
      → (limit : ℕ) (rest : List ℕ) (many : ℕ) → 1 ≤ limit → 1 ≤ many → type_at owners limit (front ++ rest) many ≡ Some (roll-SigType (lay n), rest, many - 1)
  numbered_again e make lay n a front parts rolls whole h low limit rest many d m =
      let one = variable_again a n rest h low in
      let numbered : numbered_at make (a ++ rest) (many - 1) ≡ read (make n) rest (many - 1) = rw one refl in
      enter e a front rest limit many whole (omega arith) (omega arith) ∙ parts (type_at owners (limit - 1)) (limit - 1) (a ++ rest) (many - 1) ∙ numbered ∙
      closing (make n) (lay n) rest 1 many (many - 1) rolls refl

  array_is : (sub : TypeStep) (of : SigType) (rank : ℕ) (sizes : List ℕ) (lower : List ℤ) (a b rest : List ℕ) (many left : ℕ) → sub (a ++ (b ++ rest)) many ≡ Some (of, b ++ rest, left)
      → shape_at (b ++ rest) ≡ Some (rank, sizes, lower, rest) → array_at sub ((a ++ b) ++ rest) many ≡ Some (type.Array of rank sizes lower, rest, left)
  unfolding array_at
  array_is sub of rank sizes lower a b rest many left e f = rw (append_assoc a b rest, e, f) refl

  array_again : (of : SigType) (rank : ℕ) (sizes : List ℕ) (lower : List ℤ) (a b front : List ℕ) → front ≡ 0x14 ∷ (a ++ b) → TypeAgain of a → SpellsShape w rank sizes lower b
      → LayerAgain (layer.Array of rank sizes lower) front
  array_again of rank sizes lower a b front whole ih h limit rest many d n =
      let t : SigType = type.Array of rank sizes lower in
      let one = ih (limit - 1) (b ++ rest) (many - 1) (omega arith) (omega arith) in
      let shape = shape_again owners b rank sizes lower rest h in
      let parts : array_at (type_at owners (limit - 1)) ((a ++ b) ++ rest) (many - 1) ≡ read t rest (many - 1 - nodes of) = array_is (type_at owners (limit - 1)) of rank sizes lower a b rest (many - 1) (many - 1 - nodes of) one shape in
      enter element.Array (a ++ b) front rest limit many whole (omega arith) (omega arith) ∙ parts ∙
      closing t (layer.Array of rank sizes lower) rest (nodes of + 1) many (many - 1 - nodes of) (type.rolls-Array of rank sizes lower) (omega arith)

  inst_is : (sub : TypeStep) (v : Bool) (name : TypeName) (args : List SigType) (a c rest : List ℕ) (many left : ℕ)
      → generic_at owners (a ++ (c ++ rest)) ≡ Some (v, name, length args, c ++ rest) → types_at sub (length args) (c ++ rest) many ≡ Some (args, rest, left)
      → inst_at owners sub ((a ++ c) ++ rest) many ≡ Some (type.Inst v name args, rest, left)
  unfolding inst_at all_types_at
  inst_is sub v name args a c rest many left e f =
      let full : nat_lt (length args) (length args) ≡ false = grind (arith, common_steps) in
      rw (append_assoc a c rest, e, f, full) refl

  inst_again : (v : Bool) (name : TypeName) (args : List SigType) (a b c front : List ℕ) → front ≡ 0x15 ∷ kind_byte v ∷ (a ++ (b ++ c))
      → SpellsOwner w (Name name) a → Packed b (length args) → 0 < length args → EachAgain args c → LayerAgain (layer.Inst v name args) front
  inst_again v name args a b c front whole o counted some ih limit rest many d n =
      let t : SigType = type.Inst v name args in
      let head_bytes : List ℕ = kind_byte v ∷ (a ++ b) in
      let h : SpellsHead owners head_bytes v name (length args) = record { a = a; b = b; whole = refl; named = o; counted = counted; some = some } in
      let head = generic_again owners head_bytes v name (length args) (c ++ rest) h in
      let each = ih (limit - 1) (length args) rest (many - 1) (omega arith) (omega arith) (omega arith) (inl refl) in
      let parts = inst_is (type_at owners (limit - 1)) v name args head_bytes c rest (many - 1) (many - 1 - total (map nodes args)) head each in
      let regrouped : front ≡ 0x15 ∷ (head_bytes ++ c) = whole ∙ ap (λ (x : List ℕ). 0x15 ∷ kind_byte v ∷ x) (sym (append_assoc a b c)) in
      enter element.Inst (head_bytes ++ c) front rest limit many regrouped (omega arith) (omega arith) ∙ parts ∙
      closing t (layer.Inst v name args) rest (total (map nodes args) + 1) many (many - 1 - total (map nodes args)) (type.rolls-Inst v name args) (omega arith)

  modified_is : (sub : TypeStep) (limit : ℕ) (required : Bool) (by : Owner) (of : SigType) (a b rest : List ℕ) (many left : ℕ) (h : SpellsOwner w by a)
      → owner_depth by ≤ limit → owner_nodes by ≤ many → sub (b ++ rest) (many - owner_nodes by) ≡ Some (of, rest, left)
      → modified_at owners sub limit required ((a ++ b) ++ rest) many ≡ Some (type.Mod required by of, rest, left)
  unfolding modified_at
  modified_is sub limit required by of a b rest many left h d n e =
      let o = owner_again owners by a (b ++ rest) h in
      let room : (nat_le (owner_depth by) limit && nat_le (owner_nodes by) many) ≡ true = grind (arith, common_steps) in
      rw (append_assoc a b rest, o, room, e) refl

  modified_parts : (required : Bool) (sub : TypeStep) (limit : ℕ) (bytes : List ℕ) (many : ℕ) (e : Element) → e ≡ cond required element.Required element.Optional
      → parts_at owners sub limit e bytes many ≡ modified_at owners sub limit required bytes many
  modified_parts true sub limit bytes many e is = rw is refl
  modified_parts false sub limit bytes many e is = rw is refl

  modified_first : (required : Bool) → modifier_byte required ≡ element_byte (cond required element.Required element.Optional)
  modified_first true = refl
  modified_first false = refl

  modified_again : (required : Bool) (by : Owner) (of : SigType) (a b front : List ℕ) → front ≡ modifier_byte required ∷ (a ++ b) → SpellsOwner w by a → TypeAgain of b
      → LayerAgain (layer.Mod required by of) front
  modified_again required by of a b front whole o ih limit rest many d n =
      let t : SigType = type.Mod required by of in
      let e : Element = cond required element.Required element.Optional in
      let left : ℕ = many - 1 - owner_nodes by - nodes of in
      let one = ih (limit - 1) rest (many - 1 - owner_nodes by) (omega arith) (omega arith) in
      let parts = modified_is (type_at owners (limit - 1)) (limit - 1) required by of a b rest (many - 1) left o (omega arith) (omega arith) one in
      enter e (a ++ b) front rest limit many (whole ∙ ap (λ (x : ℕ). x ∷ (a ++ b)) (modified_first required)) (omega arith) (omega arith) ∙
      modified_parts required (type_at owners (limit - 1)) (limit - 1) ((a ++ b) ++ rest) (many - 1) e refl ∙ parts ∙
      closing t (layer.Mod required by of) rest (owner_nodes by + nodes of + 1) many left (type.rolls-Mod required by of) (omega arith)

  prim_again : (p : Primitive) (front : List ℕ) → front ≡ prim_byte p ∷ [] → LayerAgain (layer.Prim p) front
  prim_again p front whole limit rest many d n =
      enter (element.Prim p) [] front rest limit many whole (omega arith) (omega arith) ∙
      closing (type.Prim p) (layer.Prim p) rest 1 many (many - 1) (type.rolls-Prim p) refl

  -- one type and then others
  more_again : (t : SigType) (ts : List SigType) (a b front : List ℕ) → front ≡ a ++ b → ((rest : List ℕ) → is_at_sentinel (a ++ rest) ≡ false) → TypeAgain t a → EachAgain ts b → EachAgain (t ∷ ts) front
  more_again t ts a b front whole first one others limit zero rest many d n few ends = absurd (omega arith)
  more_again t ts a b front whole first one others limit (suc count) rest many d n few ends =
      let regrouped : front ++ rest ≡ a ++ (b ++ rest) = ap (λ (x : List ℕ). x ++ rest) whole ∙ append_assoc a b rest in
      let is = one limit (b ++ rest) many (omega arith) (omega arith) in
      let after : (length ts ≡ count) ⊎ (is_at_sentinel rest ≡ true) = elim ends [ inl e ↦ inl (omega arith) | inr e ↦ inr e ] in
      let are = others limit count rest (many - nodes t) (omega arith) (omega arith) (omega arith) after in
      let sum : many - nodes t - total (map nodes ts) ≡ many - (nodes t + total (map nodes ts)) = omega arith in
      rw (regrouped, first (b ++ rest), is, are, sum) refl

  none_again : EachAgain [] []
  none_again limit zero rest many d n few ends = ap (λ (k : ℕ). Some ([], rest, k)) (omega arith)
  none_again limit (suc count) rest many d n few (inl e) = absurd (omega arith)
  none_again limit (suc count) rest many d n few (inr e) = rw e (ap (λ (k : ℕ). Some ([], rest, k)) (omega arith))

  whole_type : (t : SigType) (front : List ℕ) → LayerAgain (out-SigType t) front → TypeAgain t front
  whole_type t front h limit rest many d n =
      let is = h limit rest many (omega (arith, depth-out t)) (omega (arith, nodes-out t)) in
      is ∙ rw (roll-out-SigType t, nodes-out t) refl

  mutual
    pub type_again : {t : SigType} {front : List ℕ} → SpellsType w t front → TypeAgain t front
    type_again {t = t} {front = front} (made h) = whole_type t front (layer_again h)

    layer_again : {l : Layer} {front : List ℕ} → SpellsLayer w l front → LayerAgain l front
    layer_again (prim {p = p} {bytes = front} e) = prim_again p front e
    layer_again (class {name = n} {a = a} {bytes = front} e h) = named_again element.Class type.Class layer.Class n a front (λ sub limit bytes many. refl) (type.rolls-Class n) e h
    layer_again (value {name = n} {a = a} {bytes = front} e h) = named_again element.Value type.Value layer.Value n a front (λ sub limit bytes many. refl) (type.rolls-Value n) e h
    layer_again (inst {v = v} {name = n} {args = args} {a = a} {b = b} {c = c} {bytes = front} e o k s h) = inst_again v n args a b c front e o k s (each_again h)
    layer_again (var {n = n} {a = a} {bytes = front} e h low) = numbered_again element.Var type.Var layer.Var n a front (λ sub limit bytes many. refl) (type.rolls-Var n) e h low
    layer_again (mvar {n = n} {a = a} {bytes = front} e h low) = numbered_again element.MVar type.MVar layer.MVar n a front (λ sub limit bytes many. refl) (type.rolls-MVar n) e h low
    layer_again (sz_array {of = of} {a = a} {bytes = front} e h) = boxed_again element.SzArray type.SzArray layer.SzArray of a front (λ sub limit bytes many. refl) (type.rolls-SzArray of) e (type_again h)
    layer_again (array {of = of} {rank = r} {sizes = s} {lower = l} {a = a} {b = b} {bytes = front} e h k) = array_again of r s l a b front e (type_again h) k
    layer_again (by_ref {of = of} {a = a} {bytes = front} e h) = boxed_again element.ByRef type.ByRef layer.ByRef of a front (λ sub limit bytes many. refl) (type.rolls-ByRef of) e (type_again h)
    layer_again (pointer {of = of} {a = a} {bytes = front} e h) = boxed_again element.Pointer type.Pointer layer.Pointer of a front (λ sub limit bytes many. refl) (type.rolls-Pointer of) e (type_again h)
    layer_again (modified {required = r} {by = by} {of = of} {a = a} {b = b} {bytes = front} e o h) = modified_again r by of a b front e o (type_again h)
    layer_again (pinned {of = of} {a = a} {bytes = front} e h) = boxed_again element.Pinned type.Pinned layer.Pinned of a front (λ sub limit bytes many. refl) (type.rolls-Pinned of) e (type_again h)

    pub each_again : {ts : List SigType} {front : List ℕ} → SpellsEach w ts front → EachAgain ts front
    each_again none = none_again
    each_again (more {t = t} {ts = ts} {a = a} {b = b} {bytes = front} e h k) = more_again t ts a b front e (type_is_no_sentinel h) (type_again h) (each_again k)
