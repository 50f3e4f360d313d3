use Rattle.std.proofs.Common.{◌≡◌, ◌∙◌, ◌∷◌, [], ap, sym, subst, refl}
use Rattle.std.specs.Prelude.{option_map}
use Rattle.il_lexer.specs.declared.types.TokenKind.TheVariants as kind
use Rattle.ilasm_grammar.specs.declared.productions.TheConstants.{AT_NAME, TYPE}
use Rattle.source_model.specs.Data.{at_token, data_named}
use Rattle.source_model.specs.Forest.{child, the}
use Rattle.source_model.specs.OutOfRange.{asked_length}
use Rattle.source_model.specs.Values.{name_text}
use Rattle.source_nodes.specs.Readers.{IsOf}
use Rattle.source_syntax.proofs.NameTokens.{at_is_name, child_bodies, the_body}
use Rattle.check_names.specs.MappedData.{counted_length}
use Rattle.check_data.proofs.FieldLemmas.{counted_twice, with_size, without_size}
use Rattle.check_data.proofs.mapped_fields.mapped_faults.Goals as goal

pub returns-in_ok-text-in-Some : goal.returns-in_ok-text-in-Some
returns-in_ok-text-in-Some c s n m e h at =
    let below = child (TYPE ∷ []) n.below in
    let token : c.leaf_at-token.result ≡ at_token n.below = c.leaf_at-token.ensures (the AT_NAME n.below) (sym (c.the.ensures n.below e)) in
    let size = sym c.in-Some.is ∙ c.in_ok-size.ensures s n.around below m.measure (sym (c.child.ensures n.below e)) (child_bodies s (TYPE ∷ []) n.below h) in
    let named = subst (IsOf s kind.Name) (sym token) (at_is_name s AT_NAME (the AT_NAME n.below) refl (the_body s AT_NAME n.below at h).0) in
    let text = c.as_bytes.ensures ∙ c.in_ok-text-in-Some.ensures s m.measure.place.reads named ∙ ap (name_text s) token in
    let found = data_named s (name_text s (at_token n.below)) in
    let length = c.length_named-length.ensures s m.labels m.lengths ∙ ap (λ t. option_map (counted_length s) (data_named s t)) text ∙ counted_twice s found in
    with_size s n at c.in-Some.size c.leaf_at-token.result c.label_if_short.result size token
    (c.label_if_short.ensures (option_map (asked_length s) found) length)

pub returns-in-None : goal.returns-in-None
returns-in-None c s n m e h at =
    let below = child (TYPE ∷ []) n.below in
    let token : c.leaf_at-token.result ≡ at_token n.below = c.leaf_at-token.ensures (the AT_NAME n.below) (sym (c.the.ensures n.below e)) in
    let size = sym c.in-None.is ∙ c.in_ok-size.ensures s n.around below m.measure (sym (c.child.ensures n.below e)) (child_bodies s (TYPE ∷ []) n.below h) in
    without_size s n at c.leaf_at-token.result size token
