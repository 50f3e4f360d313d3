use Rattle.std.proofs.Common.{◌≡◌, ℕ, ◌*◌, ◌/◌, length, ◌∙◌, ap, sym, subst}
use Rattle.std.specs.Prelude.{Bool, true, false, ◌==◌, None, Some, if◌then◌else◌}
use Rattle.std.proofs.lemmas.Bool.Decides.{Decides-eqb}
use Rattle.il_lexer.specs.declared.types.TokenKind.TheVariants.{ByteArray}
use Rattle.ilasm_grammar.specs.declared.productions.TheConstants.{DATA_ITEM_BYTES}
use Rattle.source_model.specs.Data.{item_bits, item_count, item_length}
use Rattle.source_model.specs.Forest.{leaf_at, part}
use Rattle.source_model.specs.Values.{array_bytes}
use Rattle.source_nodes.specs.Readers.{IsOf}
use Rattle.source_model.specs.OutOfRange.{stands_too_often}
use Rattle.check_names.proofs.DataLemmas.{is_bytes}
use Rattle.check_names.proofs.data_lengths.known_length.Goals as goal

pub returns-then-production-eq-DATA_ITEM_BYTES : goal.returns-then-production-eq-DATA_ITEM_BYTES
returns-then-production-eq-DATA_ITEM_BYTES c s f r e fits =
    let p = c.args.production in
    let own : (p == DATA_ITEM_BYTES) ≡ true = (Decides-eqb p DATA_ITEM_BYTES).1 c.if-production-eq-DATA_ITEM_BYTES.true in
    let few : stands_too_often s f ≡ false = (c.in-Some.ensures s f r e).0 in
    let at = c.leaf_at.ensures f e in
    ap (λ n. Some n) (c.in_ok-bytes.ensures s r (subst (IsOf s ByteArray) (sym at) (is_bytes s p f c.if-production-eq-DATA_ITEM_BYTES.true fits))
    ∙ ap (λ (k : ℕ). length (array_bytes s k)) at
    ∙ sym (ap (λ (b : Bool). if b then length (array_bytes s (leaf_at 0 f)) else item_count s f * (item_bits f / 8)) own))
    ∙ sym (ap (λ (b : Bool). if b then None else Some (item_length s (part p f))) few)
