use Rattle.std.proofs.Common.{◌≡◌, ℕ, ◌+◌, ◌^◌, ◌<◌, List, [], ◌∷◌, ◌++◌, ◌*◌, max, inl, inr, length, map, drop, refl, sym, ap, subst, ◌∙◌, rules, arith}
use Rattle.std.proofs.lemmas.List.{append-nil}
use Rattle.il_base.specs.Numbers.{packed_bytes}
use Rattle.type_terms.specs.declared.term.Owner.TheOpen as layer
use Rattle.std.proofs.lemmas.List.{drop_more}
use Rattle.type_terms.specs.declared.term.Owner.{Owner}
use Rattle.type_terms.specs.Depth.{depth, owner_depth, largest}
use Rattle.sig_codec.proofs.Layers.{IsRound-from, depth-Inst, depth-Mod}
use Rattle.type_terms.specs.declared.term.SigType.{SigType}
use Rattle.type_terms.specs.declared.term.SigType.TheVariants as type
use Rattle.sig_codec.specs.Spelling.{writing, prim_byte, kind_byte, modifier_byte, SpellsType, SpellsEach, SpellsName, SpellsOwner, SpellsShape}
use Rattle.sig_codec.specs.Spelling as spelling
use Rattle.sig_codec.specs.Spellable.{HasToken, HasSpelling, HaveSpellings}
use Rattle.sig_codec.proofs.Written.{then_more, then_bytes, two_added, written, parts_at, of_class, of_value, of_var, of_mvar, of_sz_array, of_by_ref, of_pointer, of_pinned, of_array, of_modified, of_inst, type_at_place, each_at_place, four_added, inst_written, shape_of, array_is, item_depth, each_done}
use Rattle.sig_codec.proofs.write_type.+writing.Goals as goal

pub push_type-push_declared-requires : goal.push_type-push_declared-requires
push_type-push_declared-requires g t c =
    let tokens = g.N.Numberer.owner_tokens c.args.map.now in
    let w = writing tokens in
    of_class tokens c.in-Class.name (parts_at tokens c.args.t.now (type.Class c.in-Class.name) (layer.Class c.in-Class.name) c.in-Class.is (type.outs-Class c.in-Class.name) c.requires)

pub push_type-returns-in_ok-push-in-Class : goal.push_type-returns-in_ok-push-in-Class
push_type-returns-in_ok-push-in-Class g t c =
    let tokens = g.N.Numberer.owner_tokens c.args.map.now in
    let w = writing tokens in
    let n = c.in-Class.name in
    then_more c.push_declared.result c.args.out.now c.push-in-Class.new.self c.push_declared.new.out (0x12 ∷ []) (SpellsType w c.args.t.now) (SpellsName w n) c.in_ok-push-in-Class.ensures.ok
    (λ a h. rw c.in-Class.is (written tokens (layer.Class n) (type.Class n) (0x12 ∷ a) (type.outs-Class n) (spelling.class refl h))) c.push_declared.ensures

pub push_type-push_declared-requires-in-Value : goal.push_type-push_declared-requires-in-Value
push_type-push_declared-requires-in-Value g t c =
    let tokens = g.N.Numberer.owner_tokens c.args.map.now in
    let w = writing tokens in
    of_value tokens c.in-Value.name (parts_at tokens c.args.t.now (type.Value c.in-Value.name) (layer.Value c.in-Value.name) c.in-Value.is (type.outs-Value c.in-Value.name) c.requires)

pub push_type-returns-in_ok-push-in-Value : goal.push_type-returns-in_ok-push-in-Value
push_type-returns-in_ok-push-in-Value g t c =
    let tokens = g.N.Numberer.owner_tokens c.args.map.now in
    let w = writing tokens in
    let n = c.in-Value.name in
    then_more c.push_declared-in-Value.result c.args.out.now c.push-in-Value.new.self c.push_declared-in-Value.new.out (0x11 ∷ []) (SpellsType w c.args.t.now) (SpellsName w n) c.in_ok-push-in-Value.ensures.ok
    (λ a h. rw c.in-Value.is (written tokens (layer.Value n) (type.Value n) (0x11 ∷ a) (type.outs-Value n) (spelling.value refl h))) c.push_declared-in-Value.ensures

pub push_type-push_packed-requires-in-Var : goal.push_type-push_packed-requires-in-Var
push_type-push_packed-requires-in-Var g t c =
    let tokens = g.N.Numberer.owner_tokens c.args.map.now in
    let w = writing tokens in
    let low = of_var tokens c.in-Var.number (parts_at tokens c.args.t.now (type.Var c.in-Var.number) (layer.Var c.in-Var.number) c.in-Var.is (type.outs-Var c.in-Var.number) c.requires) in
    omega (arith, low)

pub push_type-returns-in_ok-push-in-Var : goal.push_type-returns-in_ok-push-in-Var
push_type-returns-in_ok-push-in-Var g t c =
    let tokens = g.N.Numberer.owner_tokens c.args.map.now in
    let w = writing tokens in
    let n = c.in-Var.number in
    let low = of_var tokens n (parts_at tokens c.args.t.now (type.Var n) (layer.Var n) c.in-Var.is (type.outs-Var n) c.requires) in
    then_bytes c.push_packed-in-Var.result c.args.out.now c.push-in-Var.new.self c.push_packed-in-Var.new.out (0x13 ∷ []) (packed_bytes n) (SpellsType w c.args.t.now) c.in_ok-push-in-Var.ensures.ok
    (rw c.in-Var.is (written tokens (layer.Var n) (type.Var n) (0x13 ∷ packed_bytes n) (type.outs-Var n) (spelling.var refl (c.push_packed-in-Var.ensures.spells, c.push_packed-in-Var.ensures.shortest) low)))
    c.push_packed-in-Var.ensures.ok

pub push_type-push_packed-requires-in-MVar : goal.push_type-push_packed-requires-in-MVar
push_type-push_packed-requires-in-MVar g t c =
    let tokens = g.N.Numberer.owner_tokens c.args.map.now in
    let w = writing tokens in
    let low = of_mvar tokens c.in-MVar.number (parts_at tokens c.args.t.now (type.MVar c.in-MVar.number) (layer.MVar c.in-MVar.number) c.in-MVar.is (type.outs-MVar c.in-MVar.number) c.requires) in
    omega (arith, low)

pub push_type-returns-in_ok-push-in-MVar : goal.push_type-returns-in_ok-push-in-MVar
push_type-returns-in_ok-push-in-MVar g t c =
    let tokens = g.N.Numberer.owner_tokens c.args.map.now in
    let w = writing tokens in
    let n = c.in-MVar.number in
    let low = of_mvar tokens n (parts_at tokens c.args.t.now (type.MVar n) (layer.MVar n) c.in-MVar.is (type.outs-MVar n) c.requires) in
    then_bytes c.push_packed-in-MVar.result c.args.out.now c.push-in-MVar.new.self c.push_packed-in-MVar.new.out (0x1E ∷ []) (packed_bytes n) (SpellsType w c.args.t.now) c.in_ok-push-in-MVar.ensures.ok
    (rw c.in-MVar.is (written tokens (layer.MVar n) (type.MVar n) (0x1E ∷ packed_bytes n) (type.outs-MVar n) (spelling.mvar refl (c.push_packed-in-MVar.ensures.spells, c.push_packed-in-MVar.ensures.shortest) low)))
    c.push_packed-in-MVar.ensures.ok

pub push_type-push_type-requires : goal.push_type-push_type-requires
push_type-push_type-requires g t c =
    let tokens = g.N.Numberer.owner_tokens c.args.map.now in
    let w = writing tokens in
    let h = of_sz_array tokens c.in-SzArray.of (parts_at tokens c.args.t.now (type.SzArray c.in-SzArray.of) (layer.SzArray c.in-SzArray.of) c.in-SzArray.is (type.outs-SzArray c.in-SzArray.of) c.requires) in
    let k = subst (λ (x : SigType). HasSpelling tokens x) (sym c.get-in-SzArray.ensures) h in
    let round = IsRound-from c.args.t.now c.in-SzArray.of (inl c.in-SzArray.is) in
    let smaller : depth c.get-in-SzArray.result.now < depth c.args.t.now = omega (arith, round.depth_is, ap depth c.get-in-SzArray.ensures) in
    search rules

pub push_type-returns-in_ok-push-in-SzArray : goal.push_type-returns-in_ok-push-in-SzArray
push_type-returns-in_ok-push-in-SzArray g t c =
    let tokens = g.N.Numberer.owner_tokens c.args.map.now in
    let w = writing tokens in
    let of = c.get-in-SzArray.result.now in
    let is = c.in-SzArray.is ∙ ap type.SzArray (sym c.get-in-SzArray.ensures) in
    then_more c.push_type.result c.args.out.now c.push-in-SzArray.new.self c.push_type.new.out (0x1D ∷ []) (SpellsType w c.args.t.now) (SpellsType w of) c.in_ok-push-in-SzArray.ensures.ok
    (λ a h. rw is (written tokens (layer.SzArray of) (type.SzArray of) (0x1D ∷ a) (type.outs-SzArray of) (spelling.sz_array refl h))) c.push_type.ensures

pub push_type-push_type-requires-in-ByRef : goal.push_type-push_type-requires-in-ByRef
push_type-push_type-requires-in-ByRef g t c =
    let tokens = g.N.Numberer.owner_tokens c.args.map.now in
    let w = writing tokens in
    let h = of_by_ref tokens c.in-ByRef.of (parts_at tokens c.args.t.now (type.ByRef c.in-ByRef.of) (layer.ByRef c.in-ByRef.of) c.in-ByRef.is (type.outs-ByRef c.in-ByRef.of) c.requires) in
    let k = subst (λ (x : SigType). HasSpelling tokens x) (sym c.get-in-ByRef.ensures) h in
    let round = IsRound-from c.args.t.now c.in-ByRef.of (inr (inl c.in-ByRef.is)) in
    let smaller : depth c.get-in-ByRef.result.now < depth c.args.t.now = omega (arith, round.depth_is, ap depth c.get-in-ByRef.ensures) in
    search rules

pub push_type-returns-in_ok-push-in-ByRef : goal.push_type-returns-in_ok-push-in-ByRef
push_type-returns-in_ok-push-in-ByRef g t c =
    let tokens = g.N.Numberer.owner_tokens c.args.map.now in
    let w = writing tokens in
    let of = c.get-in-ByRef.result.now in
    let is = c.in-ByRef.is ∙ ap type.ByRef (sym c.get-in-ByRef.ensures) in
    then_more c.push_type-in-ByRef.result c.args.out.now c.push-in-ByRef.new.self c.push_type-in-ByRef.new.out (0x10 ∷ []) (SpellsType w c.args.t.now) (SpellsType w of) c.in_ok-push-in-ByRef.ensures.ok
    (λ a h. rw is (written tokens (layer.ByRef of) (type.ByRef of) (0x10 ∷ a) (type.outs-ByRef of) (spelling.by_ref refl h))) c.push_type-in-ByRef.ensures

pub push_type-push_type-requires-in-Pointer : goal.push_type-push_type-requires-in-Pointer
push_type-push_type-requires-in-Pointer g t c =
    let tokens = g.N.Numberer.owner_tokens c.args.map.now in
    let w = writing tokens in
    let h = of_pointer tokens c.in-Pointer.of (parts_at tokens c.args.t.now (type.Pointer c.in-Pointer.of) (layer.Pointer c.in-Pointer.of) c.in-Pointer.is (type.outs-Pointer c.in-Pointer.of) c.requires) in
    let k = subst (λ (x : SigType). HasSpelling tokens x) (sym c.get-in-Pointer.ensures) h in
    let round = IsRound-from c.args.t.now c.in-Pointer.of (inr (inr (inl c.in-Pointer.is))) in
    let smaller : depth c.get-in-Pointer.result.now < depth c.args.t.now = omega (arith, round.depth_is, ap depth c.get-in-Pointer.ensures) in
    search rules

pub push_type-returns-in_ok-push-in-Pointer : goal.push_type-returns-in_ok-push-in-Pointer
push_type-returns-in_ok-push-in-Pointer g t c =
    let tokens = g.N.Numberer.owner_tokens c.args.map.now in
    let w = writing tokens in
    let of = c.get-in-Pointer.result.now in
    let is = c.in-Pointer.is ∙ ap type.Pointer (sym c.get-in-Pointer.ensures) in
    then_more c.push_type-in-Pointer.result c.args.out.now c.push-in-Pointer.new.self c.push_type-in-Pointer.new.out (0x0F ∷ []) (SpellsType w c.args.t.now) (SpellsType w of) c.in_ok-push-in-Pointer.ensures.ok
    (λ a h. rw is (written tokens (layer.Pointer of) (type.Pointer of) (0x0F ∷ a) (type.outs-Pointer of) (spelling.pointer refl h))) c.push_type-in-Pointer.ensures

pub push_type-push_type-requires-in-Pinned : goal.push_type-push_type-requires-in-Pinned
push_type-push_type-requires-in-Pinned g t c =
    let tokens = g.N.Numberer.owner_tokens c.args.map.now in
    let w = writing tokens in
    let h = of_pinned tokens c.in-Pinned.of (parts_at tokens c.args.t.now (type.Pinned c.in-Pinned.of) (layer.Pinned c.in-Pinned.of) c.in-Pinned.is (type.outs-Pinned c.in-Pinned.of) c.requires) in
    let k = subst (λ (x : SigType). HasSpelling tokens x) (sym c.get-in-Pinned.ensures) h in
    let round = IsRound-from c.args.t.now c.in-Pinned.of (inr (inr (inr (inl c.in-Pinned.is)))) in
    let smaller : depth c.get-in-Pinned.result.now < depth c.args.t.now = omega (arith, round.depth_is, ap depth c.get-in-Pinned.ensures) in
    search rules

pub push_type-returns-in_ok-push-in-Pinned : goal.push_type-returns-in_ok-push-in-Pinned
push_type-returns-in_ok-push-in-Pinned g t c =
    let tokens = g.N.Numberer.owner_tokens c.args.map.now in
    let w = writing tokens in
    let of = c.get-in-Pinned.result.now in
    let is = c.in-Pinned.is ∙ ap type.Pinned (sym c.get-in-Pinned.ensures) in
    then_more c.push_type-in-Pinned.result c.args.out.now c.push-in-Pinned.new.self c.push_type-in-Pinned.new.out (0x45 ∷ []) (SpellsType w c.args.t.now) (SpellsType w of) c.in_ok-push-in-Pinned.ensures.ok
    (λ a h. rw is (written tokens (layer.Pinned of) (type.Pinned of) (0x45 ∷ a) (type.outs-Pinned of) (spelling.pinned refl h))) c.push_type-in-Pinned.ensures

pub push_type-returns-in-Prim : goal.push_type-returns-in-Prim
push_type-returns-in-Prim g t c =
    let tokens = g.N.Numberer.owner_tokens c.args.map.now in
    let w = writing tokens in
    let p = c.in-Prim.prim in
    then_bytes c.push.result c.args.out.now c.args.out.now c.push.new.self [] (c.prim_byte.result ∷ []) (SpellsType w c.args.t.now) (sym (append-nil c.args.out.now))
    (rw c.in-Prim.is (written tokens (layer.Prim p) (type.Prim p) (c.prim_byte.result ∷ []) (type.outs-Prim p) (spelling.prim (ap (λ (k : ℕ). k ∷ []) c.prim_byte.ensures)))) c.push.ensures.ok

pub push_type-push_name-requires : goal.push_type-push_name-requires
push_type-push_name-requires g t c =
    let tokens = g.N.Numberer.owner_tokens c.args.map.now in
    let w = writing tokens in
    (of_inst tokens c.in-Inst.value c.get.result.now c.in-Inst.args (parts_at tokens c.args.t.now (type.Inst c.in-Inst.value c.get.result.now c.in-Inst.args) (layer.Inst c.in-Inst.value c.get.result.now c.in-Inst.args) (c.in-Inst.is ∙ ap (λ n. type.Inst c.in-Inst.value n c.in-Inst.args) (sym c.get.ensures)) (type.outs-Inst c.in-Inst.value c.get.result.now c.in-Inst.args) c.requires)).0

pub push_type-overflow_cast-len : goal.push_type-overflow_cast-len
push_type-overflow_cast-len g t c =
    let tokens = g.N.Numberer.owner_tokens c.args.map.now in
    let w = writing tokens in
    let h = of_inst tokens c.in-Inst.value c.get.result.now c.in-Inst.args (parts_at tokens c.args.t.now (type.Inst c.in-Inst.value c.get.result.now c.in-Inst.args) (layer.Inst c.in-Inst.value c.get.result.now c.in-Inst.args) (c.in-Inst.is ∙ ap (λ n. type.Inst c.in-Inst.value n c.in-Inst.args) (sym c.get.ensures)) (type.outs-Inst c.in-Inst.value c.get.result.now c.in-Inst.args) c.requires) in
    let low : c.len.result < 2 ^ 29 = omega (arith, h.2, (c.len.ensures ∙ ap length c.get-args.ensures)) in
    search rules

pub push_type-push_packed-requires : goal.push_type-push_packed-requires
push_type-push_packed-requires g t c =
    let tokens = g.N.Numberer.owner_tokens c.args.map.now in
    let w = writing tokens in
    let h = of_inst tokens c.in-Inst.value c.get.result.now c.in-Inst.args (parts_at tokens c.args.t.now (type.Inst c.in-Inst.value c.get.result.now c.in-Inst.args) (layer.Inst c.in-Inst.value c.get.result.now c.in-Inst.args) (c.in-Inst.is ∙ ap (λ n. type.Inst c.in-Inst.value n c.in-Inst.args) (sym c.get.ensures)) (type.outs-Inst c.in-Inst.value c.get.result.now c.in-Inst.args) c.requires) in
    omega (arith, h.2, (c.len.ensures ∙ ap length c.get-args.ensures))

pub push_type-push_each-requires : goal.push_type-push_each-requires
push_type-push_each-requires g t c =
    let tokens = g.N.Numberer.owner_tokens c.args.map.now in
    let w = writing tokens in
    let h = of_inst tokens c.in-Inst.value c.get.result.now c.in-Inst.args (parts_at tokens c.args.t.now (type.Inst c.in-Inst.value c.get.result.now c.in-Inst.args) (layer.Inst c.in-Inst.value c.get.result.now c.in-Inst.args) (c.in-Inst.is ∙ ap (λ n. type.Inst c.in-Inst.value n c.in-Inst.args) (sym c.get.ensures)) (type.outs-Inst c.in-Inst.value c.get.result.now c.in-Inst.args) c.requires) in
    let k = subst (λ (x : List SigType). HaveSpellings tokens x) (sym (c.as_slice.ensures ∙ c.get-args.ensures)) h.3 in
    let deep : depth c.args.t.now ≡ largest (map depth c.in-Inst.args) + 1 = ap depth (c.in-Inst.is ∙ ap (λ n. type.Inst c.in-Inst.value n c.in-Inst.args) (sym c.get.ensures)) ∙ depth-Inst c.in-Inst.value c.get.result.now c.in-Inst.args in
    let same : largest (map depth c.as_slice.result.now) ≡ largest (map depth c.in-Inst.args) = ap (λ (x : List SigType). largest (map depth x)) (c.as_slice.ensures ∙ c.get-args.ensures) in
    let smaller : 2 * largest (map depth c.as_slice.result.now) + 1 < 2 * depth c.args.t.now = omega (arith, deep, same) in
    search rules

pub push_type-returns-in_ok-push_packed-in-Inst : goal.push_type-returns-in_ok-push_packed-in-Inst
push_type-returns-in_ok-push_packed-in-Inst g t c =
    let tokens = g.N.Numberer.owner_tokens c.args.map.now in
    let w = writing tokens in
    let h = of_inst tokens c.in-Inst.value c.get.result.now c.in-Inst.args (parts_at tokens c.args.t.now (type.Inst c.in-Inst.value c.get.result.now c.in-Inst.args) (layer.Inst c.in-Inst.value c.get.result.now c.in-Inst.args) (c.in-Inst.is ∙ ap (λ n. type.Inst c.in-Inst.value n c.in-Inst.args) (sym c.get.ensures)) (type.outs-Inst c.in-Inst.value c.get.result.now c.in-Inst.args) c.requires) in
    let n = c.in_ok-push_name-in-Inst.ensures in
    let b = packed_bytes c.len.result in
    let k = c.kind_byte.result in
    let front : List ℕ = 0x15 ∷ k ∷ (n.0 ++ b) in
    let added = four_added c.args.out.now c.push-in-Inst.new.self c.push-in-Inst-2.new.self c.push_name.new.out c.push_packed.new.out k n.0 b c.in_ok-push-in-Inst.ensures.ok c.in_ok-push-in-Inst-2.ensures.ok n.1 c.in_ok-push_packed-in-Inst.ensures.ok in
    then_more c.push_each.result c.args.out.now c.push_packed.new.out c.push_each.new.out front (SpellsType w c.args.t.now) (SpellsEach w c.as_slice.result.now) added
    (λ a each. rw (c.in-Inst.is ∙ ap (λ n. type.Inst c.in-Inst.value n c.in-Inst.args) (sym c.get.ensures)) (inst_written tokens c.in-Inst.value c.get.result.now c.in-Inst.args k n.0 b a c.len.result c.kind_byte.ensures n.2 (c.len.ensures ∙ ap length c.get-args.ensures) (c.in_ok-push_packed-in-Inst.ensures.spells, c.in_ok-push_packed-in-Inst.ensures.shortest) h.1 (subst (λ (x : List SigType). SpellsEach w x a) (c.as_slice.ensures ∙ c.get-args.ensures) each)))
    c.push_each.ensures

pub push_type-push_type-requires-in-Array : goal.push_type-push_type-requires-in-Array
push_type-push_type-requires-in-Array g t c =
    let tokens = g.N.Numberer.owner_tokens c.args.map.now in
    let w = writing tokens in
    let h = of_array tokens c.in-Array.of c.in-Array.rank c.in-Array.sizes c.in-Array.lower (parts_at tokens c.args.t.now (type.Array c.in-Array.of c.in-Array.rank c.in-Array.sizes c.in-Array.lower) (layer.Array c.in-Array.of c.in-Array.rank c.in-Array.sizes c.in-Array.lower) c.in-Array.is (type.outs-Array c.in-Array.of c.in-Array.rank c.in-Array.sizes c.in-Array.lower) c.requires) in
    let k = subst (λ (x : SigType). HasSpelling tokens x) (sym c.get-in-Array.ensures) h.0 in
    let round = IsRound-from c.args.t.now c.in-Array.of (inr (inr (inr (inr (c.in-Array.rank, c.in-Array.sizes, c.in-Array.lower, c.in-Array.is))))) in
    let smaller : depth c.get-in-Array.result.now < depth c.args.t.now = omega (arith, round.depth_is, ap depth c.get-in-Array.ensures) in
    search rules

pub push_type-push_shape-requires : goal.push_type-push_shape-requires
push_type-push_shape-requires g t c =
    let tokens = g.N.Numberer.owner_tokens c.args.map.now in
    let w = writing tokens in
    let h = of_array tokens c.in-Array.of c.in-Array.rank c.in-Array.sizes c.in-Array.lower (parts_at tokens c.args.t.now (type.Array c.in-Array.of c.in-Array.rank c.in-Array.sizes c.in-Array.lower) (layer.Array c.in-Array.of c.in-Array.rank c.in-Array.sizes c.in-Array.lower) c.in-Array.is (type.outs-Array c.in-Array.of c.in-Array.rank c.in-Array.sizes c.in-Array.lower) c.requires) in
    shape_of c.in-Array.rank c.in-Array.sizes c.as_slice-in-Array.result.now c.in-Array.lower c.as_slice-in-Array-2.result.now (c.as_slice-in-Array.ensures ∙ c.get-in-Array-2.ensures) (c.as_slice-in-Array-2.ensures ∙ c.get-in-Array-3.ensures) h.1

pub push_type-returns-in_ok-push_type-in-Array : goal.push_type-returns-in_ok-push_type-in-Array
push_type-returns-in_ok-push_type-in-Array g t c =
    let tokens = g.N.Numberer.owner_tokens c.args.map.now in
    let w = writing tokens in
    let n = c.in_ok-push_type-in-Array.ensures in
    let of = c.get-in-Array.result.now in
    let r = c.in-Array.rank in
    let s = c.as_slice-in-Array.result.now in
    let l = c.as_slice-in-Array-2.result.now in
    let is = c.in-Array.is ∙ array_is c.in-Array.of of r c.in-Array.sizes s c.in-Array.lower l c.get-in-Array.ensures (c.as_slice-in-Array.ensures ∙ c.get-in-Array-2.ensures) (c.as_slice-in-Array-2.ensures ∙ c.get-in-Array-3.ensures) in
    then_more c.push_shape.result c.args.out.now c.push_type-in-Array.new.out c.push_shape.new.out (0x14 ∷ n.0) (SpellsType w c.args.t.now) (SpellsShape w r s l)
    (two_added c.args.out.now c.push-in-Array.new.self c.push_type-in-Array.new.out (0x14 ∷ []) n.0 c.in_ok-push-in-Array.ensures.ok n.1)
    (λ b h. rw is (written tokens (layer.Array of r s l) (type.Array of r s l) ((0x14 ∷ n.0) ++ b) (type.outs-Array of r s l) (spelling.array refl n.2 h)))
    (c.push_shape.ensures tokens)

pub push_type-push_owner-requires : goal.push_type-push_owner-requires
push_type-push_owner-requires g t c =
    let tokens = g.N.Numberer.owner_tokens c.args.map.now in
    let w = writing tokens in
    let h = of_modified tokens c.in-Mod.required c.in-Mod.by c.in-Mod.of (parts_at tokens c.args.t.now (type.Mod c.in-Mod.required c.in-Mod.by c.in-Mod.of) (layer.Mod c.in-Mod.required c.in-Mod.by c.in-Mod.of) c.in-Mod.is (type.outs-Mod c.in-Mod.required c.in-Mod.by c.in-Mod.of) c.requires) in
    subst (λ (o : Owner). HasToken tokens o) (sym c.get-in-Mod.ensures) h.0

pub push_type-push_type-requires-in-Mod : goal.push_type-push_type-requires-in-Mod
push_type-push_type-requires-in-Mod g t c =
    let tokens = g.N.Numberer.owner_tokens c.args.map.now in
    let w = writing tokens in
    let h = of_modified tokens c.in-Mod.required c.in-Mod.by c.in-Mod.of (parts_at tokens c.args.t.now (type.Mod c.in-Mod.required c.in-Mod.by c.in-Mod.of) (layer.Mod c.in-Mod.required c.in-Mod.by c.in-Mod.of) c.in-Mod.is (type.outs-Mod c.in-Mod.required c.in-Mod.by c.in-Mod.of) c.requires) in
    let k = subst (λ (x : SigType). HasSpelling tokens x) (sym c.get-in-Mod-2.ensures) h.1 in
    let deep : depth c.args.t.now ≡ max (owner_depth c.in-Mod.by) (depth c.in-Mod.of) + 1 = ap depth c.in-Mod.is ∙ depth-Mod c.in-Mod.required c.in-Mod.by c.in-Mod.of in
    let smaller : depth c.get-in-Mod-2.result.now < depth c.args.t.now = omega (arith, deep, ap depth c.get-in-Mod-2.ensures) in
    search rules

pub push_type-returns-in_ok-push_owner-in-Mod : goal.push_type-returns-in_ok-push_owner-in-Mod
push_type-returns-in_ok-push_owner-in-Mod g t c =
    let tokens = g.N.Numberer.owner_tokens c.args.map.now in
    let w = writing tokens in
    let n = c.in_ok-push_owner-in-Mod.ensures in
    let r = c.in-Mod.required in
    let by = c.get-in-Mod.result.now in
    let of = c.get-in-Mod-2.result.now in
    let k = c.modifier_byte.result in
    let is = c.in-Mod.is ∙ ap (λ (o : Owner). type.Mod r o c.in-Mod.of) (sym c.get-in-Mod.ensures) ∙ ap (type.Mod r by) (sym c.get-in-Mod-2.ensures) in
    then_more c.push_type-in-Mod.result c.args.out.now c.push_owner.new.out c.push_type-in-Mod.new.out (k ∷ n.0) (SpellsType w c.args.t.now) (SpellsType w of)
    (two_added c.args.out.now c.push-in-Mod.new.self c.push_owner.new.out (k ∷ []) n.0 c.in_ok-push-in-Mod.ensures.ok n.1)
    (λ b h. rw is (written tokens (layer.Mod r by of) (type.Mod r by of) ((k ∷ n.0) ++ b) (type.outs-Mod r by of) (spelling.modified (ap (λ (x : ℕ). (x ∷ n.0) ++ b) c.modifier_byte.ensures) n.2 h)))
    c.push_type-in-Mod.ensures

pub push_each-push_type-requires : goal.push_each-push_type-requires
push_each-push_type-requires g t c =
    let tokens = g.N.Numberer.owner_tokens c.args.map.now in
    let w = writing tokens in
    let ts = c.args.types.now in
    let i = c.loop-t.t-index in
    let x = c.t-item.result in
    let here : drop i ts ≡ x ∷ drop (i + 1) ts = drop_more ts i x (omega arith) ∙ ap (λ (y : SigType). y ∷ drop (i + 1) ts) (sym c.t-item.is) in
    let k : HasSpelling tokens x = (type_at_place tokens ts i x here c.loop-t.invariant.0).0 in
    let within = item_depth ts i x (drop (i + 1) ts) here in
    let smaller : 2 * depth x < 2 * largest (map depth ts) + 1 = omega (arith, within) in
    search rules

pub push_each-loop-t-preserved : goal.push_each-loop-t-preserved
push_each-loop-t-preserved g t c =
    let tokens = g.N.Numberer.owner_tokens c.args.map.now in
    let w = writing tokens in
    let ts = c.args.types.now in
    let i = c.loop-t.t-index in
    let x = c.t-item.result in
    let here : drop i ts ≡ x ∷ drop (i + 1) ts = drop_more ts i x (omega arith) ∙ ap (λ (y : SigType). y ∷ drop (i + 1) ts) (sym c.t-item.is) in
    ((type_at_place tokens ts i x here c.loop-t.invariant.0).1, each_at_place tokens ts i x c.args.out.now c.loop-t.out c.push_type.new.out here c.in_ok-push_type.ensures c.loop-t.invariant.1)

pub push_each-returns : goal.push_each-returns
push_each-returns g t c =
    let tokens = g.N.Numberer.owner_tokens c.args.map.now in
    let w = writing tokens in
    each_done tokens c.args.types.now c.loop-t.t-index c.args.out.now c.loop-t.out c.loop-t-test.false c.loop-t.invariant.1
