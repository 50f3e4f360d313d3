-- A type that is read is spelled by the bytes that were read, and within its limits.
use Rattle.std.proofs.Common.{◌≡◌, ℕ, zero, suc, ◌+◌, ◌-◌, ◌^◌, ◌<◌, ◌≤◌, ◌⊎◌, inl, inr, Bool, true, false, cond, nat_lt, nat_le, nat_eq, ◌&&◌, ℤ, List, [], ◌∷◌, ◌++◌, length, map, Option, Some, None, refl, sym, ap, subst, ◌∙◌, append_assoc, arith}
use Rattle.std.proofs.lemmas.Grind.{common_steps}
use Rattle.std.specs.List.{AllByRecursion}
use Rattle.il_base.specs.Numbers.{Packed}
use Rattle.type_terms.specs.declared.name.TypeName.{TypeName}
use Rattle.type_terms.specs.declared.term.Primitive.TheVariants as kinds
use Rattle.type_terms.specs.declared.term.Owner.{Owner}
use Rattle.type_terms.specs.declared.term.Owner.TheOpen as layer
use Rattle.type_terms.specs.declared.term.SigType.{SigType, out-SigType}
use Rattle.type_terms.specs.declared.term.SigType.TheVariants as type
use Rattle.type_terms.specs.Depth.{depth, owner_depth, largest}
use Rattle.type_terms.specs.Nodes.{nodes, owner_nodes, total}
use Rattle.sig_codec.specs.declared.element.Element.{Element}
use Rattle.sig_codec.specs.declared.element.Element.TheVariants as element
use Rattle.sig_codec.specs.Spelling.{Layer, Notation, reading, prim_byte, kind_byte, modifier_byte, SpellsName, SpellsType, made, SpellsLayer, prim, class, value, inst, var, mvar, sz_array, array, by_ref, pointer, modified, pinned, SpellsEach, none, more}
use Rattle.sig_codec.specs.Reading.{◌>>=◌, Read, TypeStep, owner_at, declared_at, variable_at, shape_at, generic_at, lookup, elements, element_of, is_at_sentinel, types_at, all_types_at, boxed_at, named_at, numbered_at, array_at, inst_at, after, after_owner, modified_at, parts_at, type_at}
use Rattle.sig_codec.proofs.Numbers.{some_is, bind_some, chosen}
use Rattle.sig_codec.proofs.Parts.{two_parts, owner_takes, declared_takes, variable_takes, shape_takes, generic_takes}
use Rattle.sig_codec.proofs.Layers.{layer_depth, layer_nodes, depth-out, nodes-out, depth-Inst, nodes-Inst, depth-Mod, nodes-Mod, IsRound, IsRound-from}

-- ---- elements

-- the byte of an element
abbrev pub element_byte : Element → ℕ
element_byte (element.Prim p) = prim_byte p
element_byte element.Pointer = 0x0F
element_byte element.ByRef = 0x10
element_byte element.Value = 0x11
element_byte element.Class = 0x12
element_byte element.Var = 0x13
element_byte element.Array = 0x14
element_byte element.Inst = 0x15
element_byte element.SzArray = 0x1D
element_byte element.MVar = 0x1E
element_byte element.Required = 0x1F
element_byte element.Optional = 0x20
element_byte element.Pinned = 0x45

lookup_is : (es : List (ℕ × Element)) (byte : ℕ) (e : Element) → AllByRecursion (λ p. p.0 ≡ element_byte p.1) es → lookup es byte ≡ Some e → byte ≡ element_byte e
lookup_is [] byte e all is = absurd cc
lookup_is (p ∷ es) byte e all is =
    elim (chosen (nat_eq byte p.0) (Some p.1) (lookup es byte) (Some e) is) [
      | inl h ↦
          let same : byte ≡ p.0 = (let x = h.0 in grind (arith, common_steps)) in
          same ∙ all.0 ∙ ap element_byte (some_is p.1 e h.1)
      | inr h ↦ lookup_is es byte e all.1 h.1
    ]

element_is : (byte : ℕ) (e : Element) → element_of byte ≡ Some e → byte ≡ element_byte e
unfolding element_of
element_is byte e is =
    lookup_is elements byte e (refl, (refl, (refl, (refl, (refl, (refl, (refl, (refl, (refl, (refl, (refl, (refl, (refl, (refl, (refl, (refl, (refl, (refl, (refl, (refl, (refl, (refl, (refl, (refl, (refl, (refl, (refl, (refl, (refl, (refl, tt)))))))))))))))))))))))))))))) is

-- ---- limits

after_is : (deep many limit nodes left : ℕ) → after deep many limit nodes ≡ Some left → (deep ≤ limit) × (many + left ≡ nodes)
after_is deep many limit nodes left e =
    elim (chosen (nat_le deep limit && nat_le many nodes) (Some (nodes - many)) None (Some left) e) [
      | inl h ↦ let is = some_is (nodes - many) left h.1 in let x = h.0 in (grind (arith, common_steps), grind (arith, common_steps))
      | inr h ↦ absurd (let d = h.1 in cc)
    ]

module _ (owners : ℕ → Option Owner) where
  abbrev w : Notation
  w = reading owners

  of_layer : (l : Layer) (t : SigType) (bytes : List ℕ) → out-SigType t ≡ l → SpellsLayer w l bytes → SpellsType w t bytes
  of_layer l t bytes e h = made (subst (λ (m : Layer). SpellsLayer w m bytes) (sym e) h)

  -- a type that was read
  pub record TookType (limit : ℕ) (bytes : List ℕ) (many : ℕ) (t : SigType) (rest : List ℕ) (left : ℕ) : Type 0 where
    pub front : List ℕ
    pub parts : bytes ≡ front ++ rest
    pub spelled : SpellsType w t front
    pub deep : depth t ≤ limit
    pub count : nodes t + left ≡ many

  abbrev pub Sound : ℕ → TypeStep → Type 0
  Sound limit sub = (bytes : List ℕ) (many : ℕ) (t : SigType) (rest : List ℕ) (left : ℕ) → sub bytes many ≡ Some (t, rest, left) → TookType limit bytes many t rest left

  -- types that were read
  pub record TookEach (limit count : ℕ) (bytes : List ℕ) (many : ℕ) (ts : List SigType) (rest : List ℕ) (left : ℕ) : Type 0 where
    pub front : List ℕ
    pub parts : bytes ≡ front ++ rest
    pub spelled : SpellsEach w ts front
    pub deep : largest (map depth ts) ≤ limit
    pub counted : total (map nodes ts) + left ≡ many
    pub few : length ts ≤ count
    pub ends : (length ts ≡ count) ⊎ (is_at_sentinel rest ≡ true)

  pub types_take : (limit : ℕ) (sub : TypeStep) → Sound limit sub → (count : ℕ) (bytes : List ℕ) (many : ℕ) (ts : List SigType) (rest : List ℕ) (left : ℕ)
      → types_at sub count bytes many ≡ Some (ts, rest, left) → TookEach limit count bytes many ts rest left
  types_take limit sub sound zero bytes many ts rest left e =
      let z : List SigType × List ℕ × ℕ = ([], bytes, many) in
      let y : List SigType × List ℕ × ℕ = (ts, rest, left) in
      subst (λ (q : List SigType × List ℕ × ℕ). TookEach limit 0 bytes many q.0 q.1 q.2) (some_is z y e)
      (record { front = []; parts = refl; spelled = none; deep = omega arith; counted = omega arith; few = omega arith; ends = inl refl })
  types_take limit sub sound (suc count) bytes many ts rest left e =
      let next : SigType × List ℕ × ℕ → Read (List SigType) = λ t. types_at sub count t.1 t.2 >>= λ us. Some (t.0 ∷ us.0, us.1, us.2) in
      let y : List SigType × List ℕ × ℕ = (ts, rest, left) in
      elim (chosen (is_at_sentinel bytes) (Some ([], bytes, many)) (sub bytes many >>= next) (Some y) e) [
        | inl h ↦
            let z : List SigType × List ℕ × ℕ = ([], bytes, many) in
            subst (λ (q : List SigType × List ℕ × ℕ). TookEach limit (suc count) bytes many q.0 q.1 q.2) (some_is z y h.1)
            (record { front = []; parts = refl; spelled = none; deep = omega arith; counted = omega arith; few = omega arith; ends = inr h.0 })
        | inr h ↦
            let a = bind_some (sub bytes many) next y h.1 in
            let b = bind_some (types_at sub count a.0.1 a.0.2) (λ us. Some (a.0.0 ∷ us.0, us.1, us.2)) y a.2 in
            let one = sound bytes many a.0.0 a.0.1 a.0.2 a.1 in
            let others = types_take limit sub sound count a.0.1 a.0.2 b.0.0 b.0.1 b.0.2 b.1 in
            let z : List SigType × List ℕ × ℕ = (a.0.0 ∷ b.0.0, b.0.1, b.0.2) in
            let ends : (length (a.0.0 ∷ b.0.0) ≡ suc count) ⊎ (is_at_sentinel b.0.1 ≡ true) = elim others.ends [ inl g ↦ inl (ap suc g) | inr g ↦ inr g ] in
            subst (λ (q : List SigType × List ℕ × ℕ). TookEach limit (suc count) bytes many q.0 q.1 q.2) (some_is z y b.2)
            (record {
              front = one.front ++ others.front;
              parts = two_parts bytes one.front others.front [] a.0.1 b.0.1 one.parts others.parts;
              spelled = more refl one.spelled others.spelled;
              deep = omega (arith, one.deep, others.deep);
              counted = omega (arith, one.count, others.counted);
              few = omega (arith, others.few);
              ends = ends;
            })
      ]

  -- what was read behind an element
  pub record TookParts (limit first : ℕ) (bytes : List ℕ) (many : ℕ) (t : SigType) (rest : List ℕ) (left : ℕ) : Type 0 where
    pub front : List ℕ
    pub parts : bytes ≡ front ++ rest
    pub spelled : SpellsType w t (first ∷ front)
    pub deep : depth t ≤ suc limit
    pub count : nodes t + left ≡ suc many

  boxed_takes : (limit : ℕ) (sub : TypeStep) → Sound limit sub → (first : ℕ) (make : SigType → SigType) (lay : SigType → Layer)
      → ((of : SigType) → out-SigType (make of) ≡ lay of) → ((of : SigType) → IsRound (make of) of)
      → ((of : SigType) (a : List ℕ) → SpellsType w of a → SpellsLayer w (lay of) (first ∷ a))
      → (bytes : List ℕ) (many : ℕ) (t : SigType) (rest : List ℕ) (left : ℕ) → boxed_at sub make bytes many ≡ Some (t, rest, left) → TookParts limit first bytes many t rest left
  boxed_takes limit sub sound first make lay outs round spells bytes many t rest left e =
      let y : SigType × List ℕ × ℕ = (t, rest, left) in
      let a = bind_some (sub bytes many) (λ t. Some (make t.0, t.1, t.2)) y e in
      let one = sound bytes many a.0.0 a.0.1 a.0.2 a.1 in
      let z : SigType × List ℕ × ℕ = (make a.0.0, a.0.1, a.0.2) in
      let r = round a.0.0 in
      subst (λ (q : SigType × List ℕ × ℕ). TookParts limit first bytes many q.0 q.1 q.2) (some_is z y a.2)
      (record {
        front = one.front;
        parts = one.parts;
        spelled = of_layer (lay a.0.0) (make a.0.0) (first ∷ one.front) (outs a.0.0) (spells a.0.0 one.front one.spelled);
        deep = omega (arith, r.depth_is, one.deep);
        count = omega (arith, r.nodes_are, one.count);
      })

  leaf_depth : (l : Layer) (t : SigType) → out-SigType t ≡ l → layer_depth l ≡ 1 → depth t ≡ 1
  leaf_depth l t e h = depth-out t ∙ ap layer_depth e ∙ h

  leaf_nodes : (l : Layer) (t : SigType) → out-SigType t ≡ l → layer_nodes l ≡ 1 → nodes t ≡ 1
  leaf_nodes l t e h = nodes-out t ∙ ap layer_nodes e ∙ h

  named_takes : (limit first : ℕ) (make : TypeName → SigType) (lay : TypeName → Layer) → ((n : TypeName) → out-SigType (make n) ≡ lay n)
      → ((n : TypeName) → layer_depth (lay n) ≡ 1) → ((n : TypeName) → layer_nodes (lay n) ≡ 1)
      → ((n : TypeName) (a : List ℕ) → SpellsName w n a → SpellsLayer w (lay n) (first ∷ a))
      → (bytes : List ℕ) (many : ℕ) (t : SigType) (rest : List ℕ) (left : ℕ) → named_at owners make bytes many ≡ Some (t, rest, left) → TookParts limit first bytes many t rest left
  named_takes limit first make lay outs deep count spells bytes many t rest left e =
      let y : SigType × List ℕ × ℕ = (t, rest, left) in
      let a = bind_some (declared_at owners bytes) (λ n. Some (make n.0, n.1, many)) y e in
      let n = declared_takes owners bytes a.0.0 a.0.1 a.1 in
      let z : SigType × List ℕ × ℕ = (make a.0.0, a.0.1, many) in
      let d = leaf_depth (lay a.0.0) (make a.0.0) (outs a.0.0) (deep a.0.0) in
      let c = leaf_nodes (lay a.0.0) (make a.0.0) (outs a.0.0) (count a.0.0) in
      subst (λ (q : SigType × List ℕ × ℕ). TookParts limit first bytes many q.0 q.1 q.2) (some_is z y a.2)
      (record {
        front = n.front;
        parts = n.parts;
        spelled = of_layer (lay a.0.0) (make a.0.0) (first ∷ n.front) (outs a.0.0) (spells a.0.0 n.front n.spelled);
        deep = omega (arith, d);
        count = omega (arith, c);
      })

  numbered_takes : (limit first : ℕ) (make : ℕ → SigType) (lay : ℕ → Layer) → ((n : ℕ) → out-SigType (make n) ≡ lay n)
      → ((n : ℕ) → layer_depth (lay n) ≡ 1) → ((n : ℕ) → layer_nodes (lay n) ≡ 1)
      → ((n : ℕ) (a : List ℕ) → Packed a n → n < 2 ^ 16 → SpellsLayer w (lay n) (first ∷ a))
      → (bytes : List ℕ) (many : ℕ) (t : SigType) (rest : List ℕ) (left : ℕ) → numbered_at make bytes many ≡ Some (t, rest, left) → TookParts limit first bytes many t rest left
  numbered_takes limit first make lay outs deep count spells bytes many t rest left e =
      let y : SigType × List ℕ × ℕ = (t, rest, left) in
      let a = bind_some (variable_at bytes) (λ n. Some (make n.0, n.1, many)) y e in
      let n = variable_takes bytes a.0.0 a.0.1 a.1 in
      let z : SigType × List ℕ × ℕ = (make a.0.0, a.0.1, many) in
      let d = leaf_depth (lay a.0.0) (make a.0.0) (outs a.0.0) (deep a.0.0) in
      let c = leaf_nodes (lay a.0.0) (make a.0.0) (outs a.0.0) (count a.0.0) in
      subst (λ (q : SigType × List ℕ × ℕ). TookParts limit first bytes many q.0 q.1 q.2) (some_is z y a.2)
      (record {
        front = n.front;
        parts = n.parts;
        spelled = of_layer (lay a.0.0) (make a.0.0) (first ∷ n.front) (outs a.0.0) (spells a.0.0 n.front n.spelled.0 n.spelled.1);
        deep = omega (arith, d);
        count = omega (arith, c);
      })

  array_takes : (limit : ℕ) (sub : TypeStep) → Sound limit sub
      → (bytes : List ℕ) (many : ℕ) (t : SigType) (rest : List ℕ) (left : ℕ) → array_at sub bytes many ≡ Some (t, rest, left) → TookParts limit 0x14 bytes many t rest left
  unfolding array_at
  array_takes limit sub sound bytes many t rest left e =
      let y : SigType × List ℕ × ℕ = (t, rest, left) in
      let last : SigType × List ℕ × ℕ → (ℕ × List ℕ × List ℤ × List ℕ) → Read SigType = λ t s. Some (type.Array t.0 s.0 s.1 s.2, s.3, t.2) in
      let a = bind_some (sub bytes many) (λ t. shape_at t.1 >>= λ s. last t s) y e in
      let b = bind_some (shape_at a.0.1) (last a.0) y a.2 in
      let of = a.0.0 in
      let one = sound bytes many of a.0.1 a.0.2 a.1 in
      let s = shape_takes owners a.0.1 b.0.0 b.0.1 b.0.2 b.0.3 b.1 in
      let made_it : SigType = type.Array of b.0.0 b.0.1 b.0.2 in
      let z : SigType × List ℕ × ℕ = (made_it, b.0.3, a.0.2) in
      let r = IsRound-from made_it of (inr (inr (inr (inr (b.0.0, b.0.1, b.0.2, refl))))) in
      subst (λ (q : SigType × List ℕ × ℕ). TookParts limit 0x14 bytes many q.0 q.1 q.2) (some_is z y b.2)
      (record {
        front = one.front ++ s.0;
        parts = two_parts bytes one.front s.0 [] a.0.1 b.0.3 one.parts s.1;
        spelled = of_layer (layer.Array of b.0.0 b.0.1 b.0.2) made_it (0x14 ∷ (one.front ++ s.0)) (type.outs-Array of b.0.0 b.0.1 b.0.2) (array refl one.spelled s.2);
        deep = omega (arith, r.depth_is, one.deep);
        count = omega (arith, r.nodes_are, one.count);
      })

  pub all_types_take : (limit : ℕ) (sub : TypeStep) → Sound limit sub → (count : ℕ) (bytes : List ℕ) (many : ℕ) (ts : List SigType) (rest : List ℕ) (left : ℕ)
      → all_types_at sub count bytes many ≡ Some (ts, rest, left) → TookEach limit count bytes many ts rest left × (length ts ≡ count)
  unfolding all_types_at
  all_types_take limit sub sound count bytes many ts rest left e =
      let y : List SigType × List ℕ × ℕ = (ts, rest, left) in
      let a = bind_some (types_at sub count bytes many) (λ us. cond (nat_lt (length us.0) count) None (Some us)) y e in
      let each = types_take limit sub sound count bytes many a.0.0 a.0.1 a.0.2 a.1 in
      elim (chosen (nat_lt (length a.0.0) count) None (Some a.0) (Some y) a.2) [
        | inl h ↦ absurd (let d = h.1 in cc)
        | inr h ↦
            let full : count ≤ length a.0.0 = (let x = h.0 in grind (arith, common_steps)) in
            subst (λ (q : List SigType × List ℕ × ℕ). TookEach limit count bytes many q.0 q.1 q.2 × (length q.0 ≡ count)) (some_is a.0 y h.1) (each, omega (arith, each.few))
      ]

  inst_takes : (limit : ℕ) (sub : TypeStep) → Sound limit sub
      → (bytes : List ℕ) (many : ℕ) (t : SigType) (rest : List ℕ) (left : ℕ) → inst_at owners sub bytes many ≡ Some (t, rest, left) → TookParts limit 0x15 bytes many t rest left
  unfolding inst_at
  inst_takes limit sub sound bytes many t rest left e =
      let y : SigType × List ℕ × ℕ = (t, rest, left) in
      let last : (Bool × TypeName × ℕ × List ℕ) → List SigType × List ℕ × ℕ → Read SigType = λ h ts. Some (type.Inst h.0 h.1 ts.0, ts.1, ts.2) in
      let a = bind_some (generic_at owners bytes) (λ h. all_types_at sub h.2 h.3 many >>= λ ts. last h ts) y e in
      let b = bind_some (all_types_at sub a.0.2 a.0.3 many) (last a.0) y a.2 in
      let h = generic_takes owners bytes a.0.0 a.0.1 a.0.2 a.0.3 a.1 in
      let each = all_types_take limit sub sound a.0.2 a.0.3 many b.0.0 b.0.1 b.0.2 b.1 in
      let args = b.0.0 in
      let counted : Packed h.2.b (length args) = rw each.1 h.2.counted in
      let some : 0 < length args = omega (arith, each.1, h.2.some) in
      let whole : 0x15 ∷ (h.0 ++ each.0.front) ≡ 0x15 ∷ kind_byte a.0.0 ∷ (h.2.a ++ (h.2.b ++ each.0.front)) =
      ap (λ (x : List ℕ). 0x15 ∷ (x ++ each.0.front)) h.2.whole ∙ ap (λ (x : List ℕ). 0x15 ∷ kind_byte a.0.0 ∷ x) (append_assoc h.2.a h.2.b each.0.front) in
      let z : SigType × List ℕ × ℕ = (type.Inst a.0.0 a.0.1 args, b.0.1, b.0.2) in
      subst (λ (q : SigType × List ℕ × ℕ). TookParts limit 0x15 bytes many q.0 q.1 q.2) (some_is z y b.2)
      (record {
        front = h.0 ++ each.0.front;
        parts = two_parts bytes h.0 each.0.front [] a.0.3 b.0.1 h.1 each.0.parts;
        spelled = of_layer (layer.Inst a.0.0 a.0.1 args) (type.Inst a.0.0 a.0.1 args) (0x15 ∷ (h.0 ++ each.0.front)) (type.outs-Inst a.0.0 a.0.1 args)
            (inst whole h.2.named counted some each.0.spelled);
        deep = omega (arith, depth-Inst a.0.0 a.0.1 args, each.0.deep);
        count = omega (arith, nodes-Inst a.0.0 a.0.1 args, each.0.counted);
      })

  modified_takes : (limit : ℕ) (sub : TypeStep) → Sound limit sub → (required : Bool)
      → (bytes : List ℕ) (many : ℕ) (t : SigType) (rest : List ℕ) (left : ℕ) → modified_at owners sub limit required bytes many ≡ Some (t, rest, left)
      → TookParts limit (modifier_byte required) bytes many t rest left
  unfolding modified_at
  modified_takes limit sub sound required bytes many t rest left e =
      let y : SigType × List ℕ × ℕ = (t, rest, left) in
      let last : Owner → SigType × List ℕ × ℕ → Read SigType = λ o t. Some (type.Mod required o t.0, t.1, t.2) in
      let a = bind_some (owner_at owners bytes) (λ o. after_owner o.1 limit many >>= λ left. sub o.2 left >>= λ t. last o.1 t) y e in
      let by = a.0.1 in
      let b = bind_some (after_owner by limit many) (λ left. sub a.0.2 left >>= λ t. last by t) y a.2 in
      let c = bind_some (sub a.0.2 b.0) (last by) y b.2 in
      let o = owner_takes owners bytes a.0.0 by a.0.2 a.1 in
      let room = after_is (owner_depth by) (owner_nodes by) limit many b.0 b.1 in
      let of = c.0.0 in
      let one = sound a.0.2 b.0 of c.0.1 c.0.2 c.1 in
      let z : SigType × List ℕ × ℕ = (type.Mod required by of, c.0.1, c.0.2) in
      subst (λ (q : SigType × List ℕ × ℕ). TookParts limit (modifier_byte required) bytes many q.0 q.1 q.2) (some_is z y c.2)
      (record {
        front = o.front ++ one.front;
        parts = two_parts bytes o.front one.front [] a.0.2 c.0.1 o.parts one.parts;
        spelled = of_layer (layer.Mod required by of) (type.Mod required by of) (modifier_byte required ∷ (o.front ++ one.front)) (type.outs-Mod required by of) (modified refl o.spelled one.spelled);
        deep = omega (arith, depth-Mod required by of, room, one.deep);
        count = omega (arith, nodes-Mod required by of, room, one.count);
      })

  abbrev prim_at : kinds.the_data → List ℕ → ℕ → Read SigType
  prim_at p bytes many = Some (type.Prim p, bytes, many)

  prim_takes : (limit : ℕ) (p : kinds.the_data) (bytes : List ℕ) (many : ℕ) (t : SigType) (rest : List ℕ) (left : ℕ) → prim_at p bytes many ≡ Some (t, rest, left)
      → TookParts limit (prim_byte p) bytes many t rest left
  prim_takes limit p bytes many t rest left e =
      let y : SigType × List ℕ × ℕ = (t, rest, left) in
      let z : SigType × List ℕ × ℕ = (type.Prim p, bytes, many) in
      let d = leaf_depth (layer.Prim p) (type.Prim p) (type.outs-Prim p) refl in
      let c = leaf_nodes (layer.Prim p) (type.Prim p) (type.outs-Prim p) refl in
      subst (λ (q : SigType × List ℕ × ℕ). TookParts limit (prim_byte p) bytes many q.0 q.1 q.2) (some_is z y e)
      (record {
        front = [];
        parts = refl;
        spelled = of_layer (layer.Prim p) (type.Prim p) (prim_byte p ∷ []) (type.outs-Prim p) (prim refl);
        deep = omega (arith, d);
        count = omega (arith, c);
      })

  parts_take : (limit : ℕ) (sub : TypeStep) → Sound limit sub → (e : Element)
      → (bytes : List ℕ) (many : ℕ) (t : SigType) (rest : List ℕ) (left : ℕ) → parts_at owners sub limit e bytes many ≡ Some (t, rest, left) → TookParts limit (element_byte e) bytes many t rest left
  parts_take limit sub sound (element.Prim p) = prim_takes limit p
  parts_take limit sub sound element.Pointer = boxed_takes limit sub sound 0x0F type.Pointer layer.Pointer type.outs-Pointer (λ of. IsRound-from (type.Pointer of) of (inr (inr (inl refl)))) (λ of a h. pointer refl h)
  parts_take limit sub sound element.ByRef = boxed_takes limit sub sound 0x10 type.ByRef layer.ByRef type.outs-ByRef (λ of. IsRound-from (type.ByRef of) of (inr (inl refl))) (λ of a h. by_ref refl h)
  parts_take limit sub sound element.SzArray = boxed_takes limit sub sound 0x1D type.SzArray layer.SzArray type.outs-SzArray (λ of. IsRound-from (type.SzArray of) of (inl refl)) (λ of a h. sz_array refl h)
  parts_take limit sub sound element.Pinned = boxed_takes limit sub sound 0x45 type.Pinned layer.Pinned type.outs-Pinned (λ of. IsRound-from (type.Pinned of) of (inr (inr (inr (inl refl))))) (λ of a h. pinned refl h)
  parts_take limit sub sound element.Value = named_takes limit 0x11 type.Value layer.Value type.outs-Value (λ n. refl) (λ n. refl) (λ n a h. value refl h)
  parts_take limit sub sound element.Class = named_takes limit 0x12 type.Class layer.Class type.outs-Class (λ n. refl) (λ n. refl) (λ n a h. class refl h)
  parts_take limit sub sound element.Var = numbered_takes limit 0x13 type.Var layer.Var type.outs-Var (λ n. refl) (λ n. refl) (λ n a h lt. var refl h lt)
  parts_take limit sub sound element.MVar = numbered_takes limit 0x1E type.MVar layer.MVar type.outs-MVar (λ n. refl) (λ n. refl) (λ n a h lt. mvar refl h lt)
  parts_take limit sub sound element.Array = array_takes limit sub sound
  parts_take limit sub sound element.Inst = inst_takes limit sub sound
  parts_take limit sub sound element.Required = modified_takes limit sub sound true
  parts_take limit sub sound element.Optional = modified_takes limit sub sound false

  pub type_takes : (limit : ℕ) → Sound limit (type_at owners limit)
  unfolding type_at
  type_takes zero bytes many t rest left e = absurd cc
  type_takes (suc limit) bytes zero t rest left e = absurd cc
  type_takes (suc limit) [] (suc many) t rest left e = absurd cc
  type_takes (suc limit) (b ∷ bytes) (suc many) t rest left e =
      let y : SigType × List ℕ × ℕ = (t, rest, left) in
      let a = bind_some (element_of b) (λ e. parts_at owners (type_at owners limit) limit e bytes many) y e in
      let p = parts_take limit (type_at owners limit) (type_takes limit) a.0 bytes many t rest left a.2 in
      let is = element_is b a.0 a.1 in
      record { front = b ∷ p.front; parts = ap (λ (x : List ℕ). b ∷ x) p.parts; spelled = subst (λ (x : ℕ). SpellsType w t (x ∷ p.front)) (sym is) p.spelled; deep = p.deep; count = p.count }
