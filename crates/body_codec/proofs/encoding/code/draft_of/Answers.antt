use Rattle.std.proofs.Common.{◌≡◌, ◌∙◌, ◌<◌, ◌≤◌, ◌+◌, ◌++◌, ℕ, List, [], ◌∷◌, length, take, get_or, ap, sym, subst, arith}
use Rattle.std.proofs.lemmas.List.{get_or_default, length-append}
use Rattle.assembly_tree.specs.declared.body.Ins.{Ins}
use Rattle.body_codec.specs.declared.encoding.draft.Draft.{Draft}
use Rattle.body_codec.specs.Instruction.{bytes_of_pieces, kind, piece_bytes}
use Rattle.body_codec.specs.Names.{TokenMap}
use Rattle.body_codec.specs.Encoding.{OperandFits, ins_size, offset}
use Rattle.body_codec.specs.Written.{AreOffsets, HasToken, Reaches, code_bytes, piece_of, pieces_from, token_map}
use Rattle.body_codec.specs.Chains.{IsDraft, from_on, offsets_of}
use Rattle.body_codec.proofs.CodePieces.{pieces_all, pieces_more}
use Rattle.body_codec.proofs.Coding.{each_more, within_at}
use Rattle.body_codec.proofs.Far.{code_within}
use Rattle.body_codec.proofs.Links.{linked_none, same_offsets}
use Rattle.body_codec.proofs.Offsets.{count_within, offset_more, offset_within}
use Rattle.body_codec.proofs.Written.{all_near, bytes_done, draft_none, far_first, offsets_done, size_at, some_size}
use Rattle.body_codec.proofs.encoding.code.draft_of.Goals as goal

pub loop-k-init : goal.loop-k-init
loop-k-init g c =
    let e = c.in_ok-restart.ensures in
    record {
      linked = rw (e.bytes, e.offsets, e.sites) (linked_none c.restart.new.self.latest e.latest);
      count = e.count;
      begun = ap length e.offsets;
      draft = rw (e.bytes, e.offsets, e.sites, e.far) (draft_none c.args.code.now (length c.restart.new.self.latest) e.count);
      tokens = λ j i h. absurd (omega arith);
    }

pub begin-requires-clause-linked : goal.begin-requires-clause-linked
begin-requires-clause-linked g c = c.loop-k.invariant.linked

pub begin-requires-clause-more : goal.begin-requires-clause-more
begin-requires-clause-more g c = omega (arith, c.loop-k.invariant.begun, c.loop-k.invariant.count, c.loop-k-test.true)

pub begin-requires-clause-small : goal.begin-requires-clause-small
begin-requires-clause-small g c =
    let numbers : TokenMap = token_map (g.N.Numberer.owner_tokens c.args.map.now) (g.N.Numberer.method_tokens c.args.map.now) (g.N.Numberer.field_tokens c.args.map.now)
    (g.N.Numberer.locals_tokens c.args.map.now) (g.N.Numberer.text_tokens c.args.map.now) in
    let code : List Ins = c.args.code.now in
    let h : c.loop-k.k ≤ length code = omega (arith, c.loop-k-test.true) in
    omega (arith, c.loop-k.invariant.draft.bytes_are.count, size_at numbers code c.requires.fits c.requires.end c.loop-k.k h, offset_within code c.loop-k.k, c.requires.end)

pub overflow_cast-k : goal.overflow_cast-k
overflow_cast-k g c = omega (arith, count_within c.args.code.now, c.requires.end, c.loop-k-test.true)

pub push_ins-requires-clause-linked : goal.push_ins-requires-clause-linked
push_ins-requires-clause-linked g c = c.in_ok-begin.ensures.linked

pub push_ins-requires-clause-begun : goal.push_ins-requires-clause-begun
push_ins-requires-clause-begun g c =
    let bytes : ℕ = length c.loop-k.draft.bytes in
    ap length c.in_ok-begin.ensures.begun.offsets ∙ length-append c.loop-k.draft.offsets (bytes ∷ []) ∙ ap (λ n. n + 1) c.loop-k.invariant.begun

pub push_ins-requires-clause-within : goal.push_ins-requires-clause-within
push_ins-requires-clause-within g c =
    let numbers : TokenMap = token_map (g.N.Numberer.owner_tokens c.args.map.now) (g.N.Numberer.method_tokens c.args.map.now) (g.N.Numberer.field_tokens c.args.map.now)
    (g.N.Numberer.locals_tokens c.args.map.now) (g.N.Numberer.text_tokens c.args.map.now) in
    let code : List Ins = c.args.code.now in
    let e : length c.begin.new.self.latest ≡ length c.loop-k.draft.latest = ap length c.in_ok-begin.ensures.begun.latest in
    within_at code (length c.begin.new.self.latest) c.loop-k.k c.index-code-k.result (omega (arith, e, c.loop-k.invariant.count)) c.index-code-k.is
    (code_within numbers code c.requires.fits c.loop-k.k c.index-code-k.result c.loop-k-test.true)

pub push_ins-requires-clause-some : goal.push_ins-requires-clause-some
push_ins-requires-clause-some g c =
    let numbers : TokenMap = token_map (g.N.Numberer.owner_tokens c.args.map.now) (g.N.Numberer.method_tokens c.args.map.now) (g.N.Numberer.field_tokens c.args.map.now)
    (g.N.Numberer.locals_tokens c.args.map.now) (g.N.Numberer.text_tokens c.args.map.now) in
    let code : List Ins = c.args.code.now in
    let ins : Ins = c.index-code-k.result in
    let P : Ins → Type 0 = λ i. OperandFits numbers (length code) (kind i.op) i.operand in
    some_size numbers (length code) (kind ins.op) ins.operand (subst P (sym c.index-code-k.is) (c.requires.fits c.loop-k.k ins c.loop-k-test.true))

pub push_ins-requires-clause-small : goal.push_ins-requires-clause-small
push_ins-requires-clause-small g c =
    let numbers : TokenMap = token_map (g.N.Numberer.owner_tokens c.args.map.now) (g.N.Numberer.method_tokens c.args.map.now) (g.N.Numberer.field_tokens c.args.map.now)
    (g.N.Numberer.locals_tokens c.args.map.now) (g.N.Numberer.text_tokens c.args.map.now) in
    let code : List Ins = c.args.code.now in
    let k : ℕ = c.loop-k.k in
    let ins : Ins = c.index-code-k.result in
    let h : k ≤ length code = omega (arith, c.loop-k-test.true) in
    let same : ins_size ins ≡ ins_size (get_or code k ins) = ap ins_size c.index-code-k.is in
    omega (
      arith,
      c.in_ok-begin.ensures.begun.count,
      c.loop-k.invariant.draft.bytes_are.count,
      size_at numbers code c.requires.fits c.requires.end k h,
      same,
      offset_more code k ins c.loop-k-test.true,
      offset_within code (k + 1),
      c.requires.end,
    )

pub loop-k-preserved : goal.loop-k-preserved
loop-k-preserved g c =
    let numbers : TokenMap = token_map (g.N.Numberer.owner_tokens c.args.map.now) (g.N.Numberer.method_tokens c.args.map.now) (g.N.Numberer.field_tokens c.args.map.now)
    (g.N.Numberer.locals_tokens c.args.map.now) (g.N.Numberer.text_tokens c.args.map.now) in
    let code : List Ins = c.args.code.now in
    let os : List ℕ = offsets_of code in
    let k : ℕ = c.loop-k.k in
    let ins : Ins = c.index-code-k.result in
    let i = c.loop-k.invariant in
    let b = c.in_ok-begin.ensures in
    let p = c.in_ok-push_ins.ensures in
    let old : Draft = c.loop-k.draft in
    let mid : Draft = c.begin.new.self in
    let new : Draft = c.push_ins.new.draft in
    let want : List ℕ = bytes_of_pieces (take k (pieces_from numbers os 0 code)) in
    let size : length want ≡ offset code k = size_at numbers code c.requires.fits c.requires.end k (omega (arith, c.loop-k-test.true)) in
    let is : (d : Ins) → get_or code k d ≡ ins = λ d. get_or_default code k d ins c.loop-k-test.true ∙ sym c.index-code-k.is in
    let A : ℕ → Type 0 = λ n. IsDraft (from_on n) code n want old in
    let B : ℕ → Type 0 = λ n. IsDraft (from_on (n + 1)) code n want mid in
    let E : ℕ → Type 0 = λ n. length want ≡ offset code n in
    let begun : B k = subst B i.begun (b.draft code want (subst A (sym i.begun) i.draft) (subst E (sym i.begun) size)) in
    let D : List ℕ → Type 0 = λ w. IsDraft (from_on (k + 1)) code (k + 1) w new in
    let count : length mid.offsets ≡ k + 1 = ap length b.begun.offsets ∙ length-append old.offsets (length old.bytes ∷ []) ∙ ap (λ n. n + 1) i.begun in
    record {
      linked = p.linked;
      count = p.kept.latest ∙ ap length b.begun.latest ∙ i.count;
      begun = ap length p.kept.offsets ∙ count;
      draft = subst D (ap (λ (x : Ins). want ++ piece_bytes (piece_of numbers os k x)) c.index-code-k.is ∙ sym (pieces_more numbers os code k ins c.loop-k-test.true))
          (p.draft code want begun c.loop-k-test.true is size);
      tokens = each_more (λ n x. HasToken numbers x.operand) code k ins c.loop-k-test.true c.index-code-k.is i.tokens p.token;
    }

pub overflow_cast-end : goal.overflow_cast-end
overflow_cast-end g c =
    let numbers : TokenMap = token_map (g.N.Numberer.owner_tokens c.args.map.now) (g.N.Numberer.method_tokens c.args.map.now) (g.N.Numberer.field_tokens c.args.map.now)
    (g.N.Numberer.locals_tokens c.args.map.now) (g.N.Numberer.text_tokens c.args.map.now) in
    let code : List Ins = c.args.code.now in
    let d : Draft = c.loop-k.draft in
    let i = c.loop-k.invariant in
    let e : c.loop-k.k ≡ length code = omega arith in
    let h : c.loop-k.k ≤ length code = omega arith in
    omega (arith, c.len-end.ensures, i.draft.bytes_are.count, size_at numbers code c.requires.fits c.requires.end c.loop-k.k h, offset_within code c.loop-k.k, c.requires.end)

pub returns-in-Some-clause-far : goal.returns-in-Some-clause-far
returns-in-Some-clause-far g c =
    let numbers : TokenMap = token_map (g.N.Numberer.owner_tokens c.args.map.now) (g.N.Numberer.method_tokens c.args.map.now) (g.N.Numberer.field_tokens c.args.map.now)
    (g.N.Numberer.locals_tokens c.args.map.now) (g.N.Numberer.text_tokens c.args.map.now) in
    let code : List Ins = c.args.code.now in
    let d : Draft = c.loop-k.draft in
    let i = c.loop-k.invariant in
    let e : c.loop-k.k ≡ length code = omega arith in
    let os : List ℕ = offsets_of code in
    let D : ℕ → Type 0 = λ m. IsDraft (from_on m) code m (bytes_of_pieces (take m (pieces_from numbers os 0 code))) d in
    let last : D (length code) = subst D e i.draft in
    let want : List ℕ = bytes_of_pieces (take (length code) (pieces_from numbers os 0 code)) in
    far_first code want d.bytes d.sites d.offsets d.far (length d.latest) c.in-Some.at c.in-Some.is last

pub returns-in-None-clause-offsets : goal.returns-in-None-clause-offsets
returns-in-None-clause-offsets g c =
    let numbers : TokenMap = token_map (g.N.Numberer.owner_tokens c.args.map.now) (g.N.Numberer.method_tokens c.args.map.now) (g.N.Numberer.field_tokens c.args.map.now)
    (g.N.Numberer.locals_tokens c.args.map.now) (g.N.Numberer.text_tokens c.args.map.now) in
    let code : List Ins = c.args.code.now in
    let d : Draft = c.loop-k.draft in
    let i = c.loop-k.invariant in
    let e : c.loop-k.k ≡ length code = omega arith in
    let os : List ℕ = offsets_of code in
    let D : ℕ → Type 0 = λ m. IsDraft (from_on m) code m (bytes_of_pieces (take m (pieces_from numbers os 0 code))) d in
    let last : D (length code) = subst D e i.draft in
    let want : List ℕ = bytes_of_pieces (take (length code) (pieces_from numbers os 0 code)) in
    let size : c.len-end.result ≡ offset code (length code) = c.len-end.ensures ∙ last.bytes_are.count ∙ size_at numbers code c.requires.fits c.requires.end (length code) (omega arith) in
    let A : List ℕ → Type 0 = AreOffsets code in
    let are : AreOffsets code c.push.new.self = subst A (sym c.in_ok-push.ensures.ok) (offsets_done code d.offsets c.len-end.result (i.begun ∙ e) i.draft.offsets_are size) in
    are

pub returns-in-None-clause-written : goal.returns-in-None-clause-written
returns-in-None-clause-written g c =
    let numbers : TokenMap = token_map (g.N.Numberer.owner_tokens c.args.map.now) (g.N.Numberer.method_tokens c.args.map.now) (g.N.Numberer.field_tokens c.args.map.now)
    (g.N.Numberer.locals_tokens c.args.map.now) (g.N.Numberer.text_tokens c.args.map.now) in
    let code : List Ins = c.args.code.now in
    let d : Draft = c.loop-k.draft in
    let i = c.loop-k.invariant in
    let e : c.loop-k.k ≡ length code = omega arith in
    let os : List ℕ = offsets_of code in
    let D : ℕ → Type 0 = λ m. IsDraft (from_on m) code m (bytes_of_pieces (take m (pieces_from numbers os 0 code))) d in
    let last : D (length code) = subst D e i.draft in
    let want : List ℕ = bytes_of_pieces (take (length code) (pieces_from numbers os 0 code)) in
    let size : c.len-end.result ≡ offset code (length code) = c.len-end.ensures ∙ last.bytes_are.count ∙ size_at numbers code c.requires.fits c.requires.end (length code) (omega arith) in
    let A : List ℕ → Type 0 = AreOffsets code in
    let are : AreOffsets code c.push.new.self = subst A (sym c.in_ok-push.ensures.ok) (offsets_done code d.offsets c.len-end.result (i.begun ∙ e) i.draft.offsets_are size) in
    bytes_done code want d.bytes d.sites d.offsets d.far (length d.latest) last ∙ pieces_all numbers os code
    ∙ ap (λ (xs : List ℕ). code_bytes numbers xs code) (sym (same_offsets code c.push.new.self are))

pub returns-in-None-clause-tokens : goal.returns-in-None-clause-tokens
returns-in-None-clause-tokens g c = λ k i h. c.loop-k.invariant.tokens k i (omega arith)

pub returns-in-None-clause-near : goal.returns-in-None-clause-near
returns-in-None-clause-near g c =
    let numbers : TokenMap = token_map (g.N.Numberer.owner_tokens c.args.map.now) (g.N.Numberer.method_tokens c.args.map.now) (g.N.Numberer.field_tokens c.args.map.now)
    (g.N.Numberer.locals_tokens c.args.map.now) (g.N.Numberer.text_tokens c.args.map.now) in
    let code : List Ins = c.args.code.now in
    let d : Draft = c.loop-k.draft in
    let i = c.loop-k.invariant in
    let e : c.loop-k.k ≡ length code = omega arith in
    let os : List ℕ = offsets_of code in
    let D : ℕ → Type 0 = λ m. IsDraft (from_on m) code m (bytes_of_pieces (take m (pieces_from numbers os 0 code))) d in
    let last : D (length code) = subst D e i.draft in
    let want : List ℕ = bytes_of_pieces (take (length code) (pieces_from numbers os 0 code)) in
    let size : c.len-end.result ≡ offset code (length code) = c.len-end.ensures ∙ last.bytes_are.count ∙ size_at numbers code c.requires.fits c.requires.end (length code) (omega arith) in
    let A : List ℕ → Type 0 = AreOffsets code in
    let are : AreOffsets code c.push.new.self = subst A (sym c.in_ok-push.ensures.ok) (offsets_done code d.offsets c.len-end.result (i.begun ∙ e) i.draft.offsets_are size) in
    let R : List ℕ → Type 0 = λ xs. (k : ℕ) (x : Ins) → k < length code → Reaches xs (get_or xs (k + 1) 0) (kind (get_or code k x).op) (get_or code k x).operand in
    subst R (sym (same_offsets code c.push.new.self are))
    (all_near code want d.bytes d.sites d.offsets d.far (length d.latest) c.in-None.is (code_within numbers code c.requires.fits) last)
