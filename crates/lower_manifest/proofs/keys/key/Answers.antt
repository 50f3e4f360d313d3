use Rattle.std.proofs.Common.{◌≡◌, [], ◌∷◌, ap, sym, subst, ◌∙◌}
use Rattle.std.specs.Prelude.{IfOk}
use Rattle.il_lexer.specs.declared.types.TokenKind.TheVariants as kind
use Rattle.ilasm_grammar.specs.declared.productions.TheConstants.{KEY_PUBLICKEY, KEY_PUBLICKEYTOKEN}
use Rattle.source_model.specs.Forest.{leaf_at}
use Rattle.source_model.specs.Manifests.{keys}
use Rattle.source_model.specs.Values.{equals_bytes}
use Rattle.source_nodes.specs.Readers.{IsOf}
use Rattle.source_flags.specs.InRange.{IsInRange}
use Rattle.source_flags.proofs.Gathered.{said, said_last}
use Rattle.lower_manifest.proofs.KeyLemmas.{key_is_bytes}
use Rattle.lower_manifest.proofs.keys.key.Goals as goal

pub returns-in-Some : goal.returns-in-Some
returns-in-Some c s f r e h =
    let l = said (IsInRange s) (KEY_PUBLICKEY ∷ KEY_PUBLICKEYTOKEN ∷ []) f c.in_ok-said.said c.in-Some.line h c.in-Some.is (c.in_ok-said.ensures f e) in
    let token = c.leaf_at.ensures l.of.below l.below in
    let known = subst (IsOf s kind.EqBytes) (sym token) (key_is_bytes s l.of.production l.of.below l.sought-is l.own.fits) in
    subst (λ v. IfOk c.equals_bytes.result (λ value. value ≡ v))
    (ap (equals_bytes s) token ∙ sym (said_last (λ q. equals_bytes s (leaf_at 1 q.below)) [] (keys f) l.of l.last))
    (c.equals_bytes.ensures s r known)
