use Rattle.std.proofs.Common.{◌≡◌, ◌<◌, ◌≤◌, ℕ, List, Option, None, Some, sym, ap, ◌∙◌, subst, refl, arith, [], get_or}
use Rattle.std.specs.List.{Contains}
use Rattle.std.specs.Cmp.Lexicographic.{bytes_decides}
use Rattle.std.proofs.lemmas.Bool.{false≢true}
use Rattle.std.proofs.Common.{true, false}
use Rattle.opcode_table.specs.declared.op.Op.{Op}
use Rattle.opcode_table.specs.declared.op.Op.TheVariants.{Nop}
use Rattle.opcode_table.specs.declared.mnemonic.TheConstants.{SHIFTS, SLOTS}
use Rattle.opcode_table.specs.Opcodes.{names}
use Rattle.opcode_table.specs.Lookup.{candidate}
use Rattle.opcode_table.proofs.WordPlaces.{stands_at, stands_there}
use Rattle.opcode_table.proofs.mnemonic.op_of_word.Goals as goal

-- a word of the table has a candidate within it
pub returns-then-place-ge227-clause-all : goal.returns-then-place-ge227-clause-all
returns-then-place-ge227-clause-all c op among =
    let at : candidate SHIFTS SLOTS c.args.word.now ≡ c.candidate-place.result =
    ap (candidate SHIFTS SLOTS) (sym c.as_bytes.ensures.value) ∙ sym c.candidate-place.ensures in
    let below : candidate SHIFTS SLOTS c.args.word.now < 227 = (stands_at c.args.word.now op among).0 in
    absurd (omega arith)

pub returns-then-eq-clause-found : goal.returns-then-eq-clause-found
returns-then-eq-clause-found c =
    let same : c.word_at-known.result.now ≡ c.args.word.now = (bytes_decides c.word_at-known.result.now c.args.word.now).0 (sym c.if-eq.ensures) in
    stands_there c.candidate-place.result c.args.word.now c.op_at.result (omega arith)
    (sym c.word_at-known.ensures ∙ same) (sym c.op_at.ensures)

pub returns-then-eq-clause-all : goal.returns-then-eq-clause-all
returns-then-eq-clause-all c op among =
    let at : candidate SHIFTS SLOTS c.args.word.now ≡ c.candidate-place.result =
    ap (candidate SHIFTS SLOTS) (sym c.as_bytes.ensures.value) ∙ sym c.candidate-place.ensures in
    let row = ap (λ k. get_or names k ([], Nop)) (sym at) ∙ (stands_at c.args.word.now op among).1 in
    ap Some (c.op_at.ensures ∙ ap (λ p. p.1) row)

pub returns-else-eq-clause-all : goal.returns-else-eq-clause-all
returns-else-eq-clause-all c op among =
    let at : candidate SHIFTS SLOTS c.args.word.now ≡ c.candidate-place.result =
    ap (candidate SHIFTS SLOTS) (sym c.as_bytes.ensures.value) ∙ sym c.candidate-place.ensures in
    let row = ap (λ k. get_or names k ([], Nop)) (sym at) ∙ (stands_at c.args.word.now op among).1 in
    let same : c.word_at-known.result.now ≡ c.args.word.now = c.word_at-known.ensures ∙ ap (λ p. p.0) row in
    absurd (false≢true (c.if-eq.ensures ∙ (bytes_decides c.word_at-known.result.now c.args.word.now).1 same))
