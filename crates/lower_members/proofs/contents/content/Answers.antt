use Rattle.std.proofs.Common.{◌≡◌, None, Some, ap, refl, sym, subst, ◌∙◌}
use Rattle.std.specs.Prelude.{Bool, true, if◌then◌else◌}
use Rattle.il_lexer.specs.declared.types.TokenKind.TheVariants.{Name}
use Rattle.ilasm_grammar.specs.declared.productions.TheConstants.{AT_NAME}
use Rattle.source_flags.specs.InRange.{IsInRange}
use Rattle.source_model.specs.Data.{at_token, bytes_at, data_named, data_size, first_bytes}
use Rattle.source_model.specs.Forest.{has, the}
use Rattle.source_model.specs.Values.{name_text}
use Rattle.source_nodes.specs.Readers.{IsOf}
use Rattle.source_syntax.proofs.NameTokens.{at_is_name}
use Rattle.source_syntax.proofs.ReferenceLemmas.{sound_part}
use Rattle.lower_members.proofs.contents.content.Goals as goal

pub returns : goal.returns
returns c s f of r d e h size =
    let some : has AT_NAME f ≡ true = sym (c.has.ensures f e) ∙ c.if-not-has.false in
    let token = c.leaf_at.ensures (the AT_NAME f) (sym (c.the.ensures f e)) in
    let own = sound_part (IsInRange s) AT_NAME f h some in
    let known : IsOf s Name c.leaf_at.result = subst (IsOf s Name) (sym token) (at_is_name s AT_NAME (the AT_NAME f) refl own.0.fits) in
    let label : c.as_bytes.result.now ≡ name_text s (at_token f) = c.as_bytes.ensures ∙ c.in_ok-label.ensures s r known ∙ ap (name_text s) token in
    let runs = c.runs_named.ensures s d ∙ ap (λ l. bytes_at s (data_named s l)) label in
    ap Some (c.in_ok-bytes.ensures ∙ ap (first_bytes c.args.size) runs ∙ ap (λ n. first_bytes n (bytes_at s (data_named s (name_text s (at_token f))))) size)
    ∙ sym (ap (λ (b : Bool). if b then Some (first_bytes (data_size s of) (bytes_at s (data_named s (name_text s (at_token f))))) else None) some)
