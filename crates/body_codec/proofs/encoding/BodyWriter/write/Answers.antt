use Rattle.std.proofs.Common.{◌≡◌, ◌∙◌, inr, ℕ, ◌<◌, ◌+◌, ◌++◌, ◌^◌, List, [], length, map, get_or, ap, refl, sym, subst, arith, Result, Err}
use Rattle.std.specs.List.{All}
use Rattle.std.proofs.lemmas.List.{length-map}
use Rattle.std.proofs.lemmas.Result.{err_from_is_err_and}
use Rattle.assembly_tree.specs.declared.body.Body.{Body}
use Rattle.assembly_tree.specs.declared.body.Ins.{Ins}
use Rattle.assembly_tree.specs.declared.body.Clause.{Clause}
use Rattle.body_codec.specs.declared.decoding.sections.ClauseRow.{ClauseRow}
use Rattle.body_codec.specs.declared.fault.BodyFault.{BodyFault}
use Rattle.body_codec.specs.Instruction.{kind}
use Rattle.body_codec.specs.Names.{TokenMap}
use Rattle.body_codec.specs.Encoding.{IsFarFault, IsWritten, OperandFits, offset}
use Rattle.body_codec.specs.Written.{AreOffsets, AreRangesWithin, HasToken, Reaches, code_bytes, header_bytes, locals_number, row_of, tail_bytes, token_map}
use Rattle.body_codec.proofs.CodeSpelled.{code_size_is}
use Rattle.body_codec.proofs.Ending.{body_written}
use Rattle.body_codec.proofs.Far.{none_far, only_far, operands_within, ranges_within}
use Rattle.body_codec.proofs.encoding.BodyWriter.write.Goals as goal

pub draft_of-requires-clause-end : goal.draft_of-requires-clause-end
draft_of-requires-clause-end g c = let P : List Ins → Type 0 = λ is. offset is (length is) < 2 ^ 31 in subst P (sym c.as_slice.ensures) c.requires.size

pub draft_of-requires-clause-fits : goal.draft_of-requires-clause-fits
draft_of-requires-clause-fits g c =
    let numbers : TokenMap = token_map (g.N.Numberer.owner_tokens c.args.map.now) (g.N.Numberer.method_tokens c.args.map.now) (g.N.Numberer.field_tokens c.args.map.now)
    (g.N.Numberer.locals_tokens c.args.map.now) (g.N.Numberer.text_tokens c.args.map.now) in
    let P : List Ins → Type 0 = λ is. All (λ ins. OperandFits numbers (length is) (kind ins.op) ins.operand) is in subst P (sym c.as_slice.ensures) c.requires.operands

pub returns-in_err-draft_of-clause-written : goal.returns-in_err-draft_of-clause-written
returns-in_err-draft_of-clause-written g c = let p = err_from_is_err_and c.from_residual.result c.from_residual.ensures.1 in rw p.1 tt

pub returns-in_err-draft_of-clause-fault : goal.returns-in_err-draft_of-clause-fault
returns-in_err-draft_of-clause-fault g c =
    let p = err_from_is_err_and c.from_residual.result c.from_residual.ensures.1 in
    let P : List Ins → Type 0 = λ is. IsFarFault is c.in_err-draft_of.field-0.0 in
    rw (p.1, p.2) (subst P c.as_slice.ensures c.in_err-draft_of.ensures.far)

pub returns-in_err-draft_of-clause-only : goal.returns-in_err-draft_of-clause-only
returns-in_err-draft_of-clause-only g c =
    let p = err_from_is_err_and c.from_residual.result c.from_residual.ensures.1 in
    let P : List Ins → Type 0 = λ is. IsFarFault is c.in_err-draft_of.field-0.0 in
    λ at f. rw (p.1, p.2) (only_far c.args.body.now.code at f c.in_err-draft_of.field-0.0 (subst P c.as_slice.ensures c.in_err-draft_of.ensures.far))

pub rows_of-requires : goal.rows_of-requires
rows_of-requires g c =
    let numbers : TokenMap = token_map (g.N.Numberer.owner_tokens c.args.map.now) (g.N.Numberer.method_tokens c.args.map.now) (g.N.Numberer.field_tokens c.args.map.now)
    (g.N.Numberer.locals_tokens c.args.map.now) (g.N.Numberer.text_tokens c.args.map.now) in
    let body : Body = c.args.body.now in
    let os : List ℕ = c.draft_of.new.draft.offsets in
    let A : List Ins → Type 0 = λ is. AreOffsets is os in
    let o : AreOffsets body.code os = subst A c.as_slice.ensures c.in_ok-draft_of.ensures.offsets in
    let P : List Clause → Type 0 = λ cs. All (AreRangesWithin (length os)) cs in
    let Q : List ℕ → Type 0 = λ xs. All (AreRangesWithin (length xs)) c.as_slice-2.result.now in
    subst Q (sym c.as_slice-3.ensures) (subst P (sym c.as_slice-2.ensures) (ranges_within numbers body os o c.requires))

pub returns-in_err-rows-clause-written : goal.returns-in_err-rows-clause-written
returns-in_err-rows-clause-written g c = let p = err_from_is_err_and c.from_residual-in_err-rows.result c.from_residual-in_err-rows.ensures.1 in rw p.1 tt

pub returns-in_err-rows-clause-fault : goal.returns-in_err-rows-clause-fault
returns-in_err-rows-clause-fault g c =
    let p = err_from_is_err_and c.from_residual-in_err-rows.result c.from_residual-in_err-rows.ensures.1 in rw (p.1, p.2) tt

pub returns-in_err-rows-clause-only : goal.returns-in_err-rows-clause-only
returns-in_err-rows-clause-only g c =
    let p = err_from_is_err_and c.from_residual-in_err-rows.result c.from_residual-in_err-rows.ensures.1 in
    let e : BodyFault → Result (Unit {0}) BodyFault = λ f. Err f in
    λ at f. inr (p.1 ∙ ap e p.2)

pub push_body-requires-clause-size : goal.push_body-requires-clause-size
push_body-requires-clause-size g c =
    let numbers : TokenMap = token_map (g.N.Numberer.owner_tokens c.args.map.now) (g.N.Numberer.method_tokens c.args.map.now) (g.N.Numberer.field_tokens c.args.map.now)
    (g.N.Numberer.locals_tokens c.args.map.now) (g.N.Numberer.text_tokens c.args.map.now) in
    let body : Body = c.args.body.now in
    let os : List ℕ = c.draft_of.new.draft.offsets in
    let A : List Ins → Type 0 = λ is. AreOffsets is os in
    let o : AreOffsets body.code os = subst A c.as_slice.ensures c.in_ok-draft_of.ensures.offsets in
    let written : c.as_slice-4.result.now ≡ code_bytes numbers os body.code =
    c.as_slice-4.ensures ∙ c.in_ok-draft_of.ensures.written ∙ ap (λ (is : List Ins). code_bytes numbers os is) c.as_slice.ensures in
    let size : length c.as_slice-4.result.now ≡ offset body.code (length body.code) = ap length written ∙ code_size_is numbers os body.code o c.requires.operands c.requires.size in
    omega (arith, size, c.requires.size)

pub push_body-requires-clause-few : goal.push_body-requires-clause-few
push_body-requires-clause-few g c =
    let numbers : TokenMap = token_map (g.N.Numberer.owner_tokens c.args.map.now) (g.N.Numberer.method_tokens c.args.map.now) (g.N.Numberer.field_tokens c.args.map.now)
    (g.N.Numberer.locals_tokens c.args.map.now) (g.N.Numberer.text_tokens c.args.map.now) in
    let body : Body = c.args.body.now in
    let os : List ℕ = c.draft_of.new.draft.offsets in
    let A : List Ins → Type 0 = λ is. AreOffsets is os in
    let o : AreOffsets body.code os = subst A c.as_slice.ensures c.in_ok-draft_of.ensures.offsets in
    let rowed : c.in_ok-rows.rows ≡ map (row_of numbers os) body.clauses =
    c.in_ok-rows.ensures.rows ∙ ap (λ (xs : List ℕ). map (row_of numbers xs) c.as_slice-2.result.now) c.as_slice-3.ensures
    ∙ ap (λ (cs : List Clause). map (row_of numbers os) cs) c.as_slice-2.ensures in
    let e : length c.as_slice-5.result.now ≡ length (map (row_of numbers os) body.clauses) = ap length (c.as_slice-5.ensures ∙ rowed) in
    omega (arith, e, length-map body.clauses (row_of numbers os), c.requires.few)

pub returns-in_err-push_body-clause-written : goal.returns-in_err-push_body-clause-written
returns-in_err-push_body-clause-written g c = let p = err_from_is_err_and c.from_residual-in_err-push_body.result c.from_residual-in_err-push_body.ensures.1 in rw p.1 tt

pub returns-in_err-push_body-clause-fault : goal.returns-in_err-push_body-clause-fault
returns-in_err-push_body-clause-fault g c =
    let p = err_from_is_err_and c.from_residual-in_err-push_body.result c.from_residual-in_err-push_body.ensures.1 in rw (p.1, p.2) tt

pub returns-in_err-push_body-clause-only : goal.returns-in_err-push_body-clause-only
returns-in_err-push_body-clause-only g c =
    let p = err_from_is_err_and c.from_residual-in_err-push_body.result c.from_residual-in_err-push_body.ensures.1 in
    let e : BodyFault → Result (Unit {0}) BodyFault = λ f. Err f in
    λ at f. inr (p.1 ∙ ap e p.2)

pub returns-clause-written : goal.returns-clause-written
returns-clause-written g c =
    let numbers : TokenMap = token_map (g.N.Numberer.owner_tokens c.args.map.now) (g.N.Numberer.method_tokens c.args.map.now) (g.N.Numberer.field_tokens c.args.map.now)
    (g.N.Numberer.locals_tokens c.args.map.now) (g.N.Numberer.text_tokens c.args.map.now) in
    let body : Body = c.args.body.now in
    let os : List ℕ = c.draft_of.new.draft.offsets in
    let A : List Ins → Type 0 = λ is. AreOffsets is os in
    let o : AreOffsets body.code os = subst A c.as_slice.ensures c.in_ok-draft_of.ensures.offsets in
    let rowed : c.in_ok-rows.rows ≡ map (row_of numbers os) body.clauses =
    c.in_ok-rows.ensures.rows ∙ ap (λ (xs : List ℕ). map (row_of numbers xs) c.as_slice-2.result.now) c.as_slice-3.ensures
    ∙ ap (λ (cs : List Clause). map (row_of numbers os) cs) c.as_slice-2.ensures in
    let written : c.as_slice-4.result.now ≡ code_bytes numbers os body.code =
    c.as_slice-4.ensures ∙ c.in_ok-draft_of.ensures.written ∙ ap (λ (is : List Ins). code_bytes numbers os is) c.as_slice.ensures in
    let size : length c.as_slice-4.result.now ≡ offset body.code (length body.code) = ap length written ∙ code_size_is numbers os body.code o c.requires.operands c.requires.size in
    let R : List Ins → Type 0 = λ is. (k : ℕ) (i : Ins) → k < length is → Reaches os (get_or os (k + 1) 0) (kind (get_or is k i).op) (get_or is k i).operand in
    let near : R body.code = subst R c.as_slice.ensures c.in_ok-draft_of.ensures.near in
    let T : List Ins → Type 0 = λ is. All (λ ins. HasToken numbers ins.operand) is in
    let tokens : T body.code = subst T c.as_slice.ensures c.in_ok-draft_of.ensures.tokens in
    let locals : ℕ = locals_number numbers.locals body.locals in
    let n : ℕ = get_or os (length body.code) 0 in
    let bytes : List ℕ = code_bytes numbers os body.code in
    let rows : List ClauseRow = c.in_ok-rows.rows in
    let front : List ℕ → ℕ → List ℕ → List ℕ = λ old m b. (old ++ header_bytes locals m body) ++ b in
    let W : List ℕ → ℕ → List ℕ → List ClauseRow → List ℕ = λ old m b rs. front old m b ++ tail_bytes (length (front old m b)) rs in
    let same : c.push_body.new.out ≡ W [] n bytes rows =
    c.in_ok-push_body.ensures.written
    ∙ ap (λ (x : List ℕ). W x (length c.as_slice-4.result.now) c.as_slice-4.result.now c.as_slice-5.result.now) c.truncate.ensures
    ∙ ap (λ m. W [] m c.as_slice-4.result.now c.as_slice-5.result.now) (size ∙ sym (o.each (length body.code) (omega arith)))
    ∙ ap (λ (b : List ℕ). W [] n b c.as_slice-5.result.now) written
    ∙ ap (λ (rs : List ClauseRow). W [] n bytes rs) c.as_slice-5.ensures in
    let P : List ℕ → Type 0 = IsWritten numbers body in
    subst P (sym same)
    (body_written numbers os body o c.requires c.in_ok-push_body.ensures.bound tokens near rows rowed c.in_ok-rows.ensures.fit locals refl c.in_ok-push_body.ensures.local
    [] ([] ++ header_bytes locals n body) (front [] n bytes) (W [] n bytes rows) refl refl refl refl)

pub returns-clause-only : goal.returns-clause-only
returns-clause-only g c =
    let numbers : TokenMap = token_map (g.N.Numberer.owner_tokens c.args.map.now) (g.N.Numberer.method_tokens c.args.map.now) (g.N.Numberer.field_tokens c.args.map.now)
    (g.N.Numberer.locals_tokens c.args.map.now) (g.N.Numberer.text_tokens c.args.map.now) in
    let body : Body = c.args.body.now in
    let os : List ℕ = c.draft_of.new.draft.offsets in
    let A : List Ins → Type 0 = λ is. AreOffsets is os in
    let o : AreOffsets body.code os = subst A c.as_slice.ensures c.in_ok-draft_of.ensures.offsets in
    let R : List Ins → Type 0 = λ is. (k : ℕ) (i : Ins) → k < length is → Reaches os (get_or os (k + 1) 0) (kind (get_or is k i).op) (get_or is k i).operand in
    let near : R body.code = subst R c.as_slice.ensures c.in_ok-draft_of.ensures.near in
    λ at f. absurd (none_far body.code os o (operands_within numbers body c.requires) near at f)
