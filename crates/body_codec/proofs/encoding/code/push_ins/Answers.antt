use Rattle.std.proofs.Common.{◌≡◌, ◌∙◌, ◌<◌, ◌+◌, ◌++◌, ℕ, List, [], length, ap, sym, subst, arith}
use Rattle.std.proofs.lemmas.List.{length-append}
use Rattle.assembly_tree.specs.declared.body.Ins.{Ins}
use Rattle.opcode_table.specs.declared.kind.OperandKind.{OperandKind}
use Rattle.assembly_tree.specs.declared.body.Operand as operand
use Rattle.opcode_table.specs.declared.kind.OperandKind.TheVariants as kinds
use Rattle.body_codec.specs.declared.encoding.draft.Draft.{Draft}
use Rattle.body_codec.specs.Instruction.{kind, opcode_bytes, operand_size}
use Rattle.body_codec.specs.Names.{TokenMap}
use Rattle.body_codec.specs.Encoding.{offset, size_of}
use Rattle.body_codec.specs.Written.{tail_of, token_map}
use Rattle.body_codec.specs.Chains.{Drafts, IsDraft, IsShort, IsWatched, from_on, offsets_of}
use Rattle.body_codec.proofs.Drafts.{draft_more}
use Rattle.body_codec.proofs.Written.{ins_added, next_is, on_both, short_is}
use Rattle.body_codec.proofs.encoding.code.push_ins.Goals as goal

pub push_operand-requires-clause-some : goal.push_operand-requires-clause-some
unfolding kind
push_operand-requires-clause-some g c = λ to e.
    let P : OperandKind → Type 0 = λ k. 0 < operand_size k [] in subst P (sym c.kind_of.ensures) (c.requires.some to e)

pub push_operand-requires-clause-small : goal.push_operand-requires-clause-small
unfolding kind
push_operand-requires-clause-small g c =
    let bytes : List ℕ = c.args.draft.now.bytes in
    let ins : Ins = c.args.ins.now in
    let e : length c.push_opcode.new.out ≡ length bytes + length (opcode_bytes ins.op) = ap length c.in_ok-push_opcode.ensures ∙ length-append bytes (opcode_bytes ins.op) in
    let s : size_of c.kind_of.result ins.operand ≡ size_of (kind ins.op) ins.operand = ap (λ k. size_of k ins.operand) c.kind_of.ensures in
    omega (arith, e, s, c.requires.small)

pub returns-clause-draft : goal.returns-clause-draft
unfolding kind
returns-clause-draft g c = λ code want d h is w.
    let numbers : TokenMap = token_map (g.N.Numberer.owner_tokens c.args.map.now) (g.N.Numberer.method_tokens c.args.map.now) (g.N.Numberer.field_tokens c.args.map.now)
    (g.N.Numberer.locals_tokens c.args.map.now) (g.N.Numberer.text_tokens c.args.map.now) in
    let old : Draft = c.args.draft.now in
    let new : Draft = c.push_operand.new.self in
    let at : ℕ = c.args.at in
    let ins : Ins = c.args.ins.now in
    let os : List ℕ = offsets_of code in
    let out : List ℕ = c.push_opcode.new.out in
    let kd : OperandKind = c.kind_of.result in
    let ek : kd ≡ kind ins.op = c.kind_of.ensures in
    let next : ℕ = length out + size_of kd ins.operand in
    let begun : at + 1 ≡ length old.offsets = sym c.requires.begun in
    let after : length out + size_of (kind ins.op) ins.operand ≡ offset code (at + 1) = next_is code at ins want old.bytes out h is w d.bytes_are.count c.in_ok-push_opcode.ensures in
    let ne : next ≡ offset code (at + 1) = ap (λ k. length out + size_of k ins.operand) ek ∙ after in
    let P : ℕ → Type 0 = λ n. Drafts (from_on n) code at (want ++ opcode_bytes ins.op) out old.sites old.offsets old.far (length old.latest) in
    let Q : List ℕ → Type 0 = λ b. Drafts (from_on (at + 1)) code at (want ++ opcode_bytes ins.op) b old.sites old.offsets old.far (length old.latest) in
    let d1 : P (length old.offsets) =
    subst P begun
    (subst Q (sym c.in_ok-push_opcode.ensures) (draft_more (from_on (at + 1)) code at want old.bytes (opcode_bytes ins.op) old.sites old.offsets old.far (length old.latest) d)) in
    let short : (to : ℕ) → kd ≡ kinds.Branch8 → ins.operand ≡ operand.TheVariants.Target to → IsShort code at to next =
    λ to k e. short_is code at to next ins h is ne (sym ek ∙ k) e in
    let W : OperandKind → List ℕ = λ k. (want ++ opcode_bytes ins.op) ++ tail_of c.operand_token-token.result os next k ins.operand in
    let A : ℕ → Type 0 = λ n. IsDraft (from_on n) code at (W kd) new in
    let B : OperandKind → Type 0 = λ k. IsDraft (from_on (at + 1)) code at (W k) new in
    on_both c.push_operand.result
    (λ f v. ins_added numbers code at next c.operand_token-token.result ins want new.bytes new.sites new.offsets new.far (length new.latest) h is ne c.operand_token-token.ensures
    (subst B ek (subst A (sym begun) f))
    (λ to k e. let V : ℕ → Type 0 = λ n. IsWatched (from_on n) code new.sites new.far at to in subst V (sym begun) (v to (ek ∙ k) e)))
    (c.push_operand.ensures.draft code at (want ++ opcode_bytes ins.op) d1 short) (c.push_operand.ensures.watched code at (want ++ opcode_bytes ins.op) d1 short)
