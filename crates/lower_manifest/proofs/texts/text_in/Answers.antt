use Rattle.std.proofs.Common.{◌≡◌, ◌++◌, ap, sym, subst, ◌∙◌}
use Rattle.std.specs.Prelude.{IfOk, IsUtf8}
use Rattle.il_lexer.specs.declared.types.TokenKind.TheVariants.{QString}
use Rattle.source_model.specs.Constants.{text_in}
use Rattle.source_nodes.specs.Readers.{IsOf}
use Rattle.lower_manifest.specs.Texts.{later_bytes, piece_bytes}
use Rattle.lower_manifest.proofs.TextLemmas.{text_begins, whole_utf8}
use Rattle.lower_manifest.proofs.texts.text_in.Goals as goal

pub returns : goal.returns
returns c s f r e fits bodies =
    let token = c.leaf_at.ensures f e in
    let first : c.in_ok-first.first ≡ piece_bytes s c.leaf_at.result =
    c.in_ok-first.ensures s r (subst (IsOf s QString) (sym token) (text_begins s f fits)) in
    let all : c.as_slice.result.now ≡ text_in s f =
    c.as_slice.ensures ∙ c.in_ok-bytes.ensures s f r e bodies ∙ ap (λ bs. bs ++ later_bytes s f) (first ∙ ap (piece_bytes s) token) in
    let utf8 : IsUtf8 c.as_slice.result.now =
    subst IsUtf8 (sym all) (whole_utf8 c.the_longest_spelling_is_taken.ensures c.tokens_are_spellings.ensures s r.lexes f fits bodies) in
    subst (λ v. IfOk c.text_of.result (λ text. text ≡ v)) all (c.text_of.ensures utf8)
