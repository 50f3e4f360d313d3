use Rattle.std.proofs.Common.{◌≡◌, append-nil, ap, sym, subst, ◌∙◌}
use Rattle.std.specs.Prelude.{true, false, ◌==◌}
use Rattle.std.proofs.lemmas.Bool.{eq-eqb, ne_eqb}
use Rattle.il_lexer.specs.declared.types.TokenKind.TheVariants.{ByteArray}
use Rattle.ilasm_grammar.specs.declared.productions.TheConstants.{DATA_ITEM_BYTES}
use Rattle.source_model.specs.Data.{item_count, repeated}
use Rattle.source_model.specs.Values.{array_bytes}
use Rattle.source_nodes.specs.Readers.{IsOf}
use Rattle.lower_members.proofs.DataItemLemmas.{bytes_of_array, bytes_of_number, item_array, item_number}
use Rattle.lower_members.proofs.data_items.item_run.Goals as goal

pub returns-then-production-eq-DATA_ITEM_BYTES : goal.returns-then-production-eq-DATA_ITEM_BYTES
returns-then-production-eq-DATA_ITEM_BYTES c s p r made below h =
    let is : (p.production == DATA_ITEM_BYTES) ≡ true = eq-eqb p.production DATA_ITEM_BYTES (sym made ∙ c.if-production-eq-DATA_ITEM_BYTES.true) in
    let token = c.leaf_at.ensures p.below below in
    let known : IsOf s ByteArray c.leaf_at.result = subst (IsOf s ByteArray) (sym token) (item_array s p is h) in
    append-nil c.in_ok-once.once ∙ c.in_ok-once.ensures s r known ∙ ap (array_bytes s) token ∙ sym (bytes_of_array s p is)

pub returns : goal.returns
returns c s p r made below h =
    let other : (p.production == DATA_ITEM_BYTES) ≡ false = ne_eqb p.production DATA_ITEM_BYTES (λ same. c.if-production-eq-DATA_ITEM_BYTES.false (made ∙ same)) in
    let range = item_number s p other h in
    let count = c.item_count.ensures s p.below r below range in
    let one = c.in_ok-once-2.ensures s p.below r below in
    ap (λ n. repeated n c.in_ok-once-2.once) count ∙ ap (repeated (item_count s p.below)) one ∙ sym (bytes_of_number s p other)
