use Rattle.std.proofs.Common.{◌≡◌, [], ◌∷◌, ap, sym, subst, ◌∙◌}
use Rattle.std.specs.Prelude.{IfOk}
use Rattle.il_lexer.specs.declared.types.TokenKind.TheVariants as kind
use Rattle.ilasm_grammar.specs.declared.productions.TheConstants.{EXTERN_ITEM_HASH}
use Rattle.source_model.specs.Forest.{leaf_at, parts}
use Rattle.source_model.specs.Values.{equals_bytes}
use Rattle.source_nodes.specs.Derived.{FitsBody}
use Rattle.source_nodes.specs.Readers.{IsOf}
use Rattle.source_flags.specs.InRange.{IsInRange}
use Rattle.source_flags.proofs.Gathered.{said, said_last}
use Rattle.lower_manifest.proofs.KeyLemmas.{hash_bytes, only}
use Rattle.lower_manifest.proofs.Tokens.{equals_at}
use Rattle.lower_manifest.proofs.keys.hash.Goals as goal

pub returns-in-Some : goal.returns-in-Some
returns-in-Some c s f r e h =
    let l = said (IsInRange s) (EXTERN_ITEM_HASH ∷ []) f c.in_ok-said.said c.in-Some.line h c.in-Some.is (c.in_ok-said.ensures f e) in
    let token = c.leaf_at.ensures l.of.below l.below in
    let fits = subst (λ q. FitsBody s q l.of.below) (only EXTERN_ITEM_HASH l.of.production l.sought-is) l.own.fits in
    let known = subst (IsOf s kind.EqBytes) (sym token) (equals_at s EXTERN_ITEM_HASH 1 l.of.below hash_bytes fits) in
    subst (λ v. IfOk c.equals_bytes.result (λ value. value ≡ v))
    (ap (equals_bytes s) token ∙ sym (said_last (λ q. equals_bytes s (leaf_at 1 q.below)) [] (parts (EXTERN_ITEM_HASH ∷ []) f) l.of l.last))
    (c.equals_bytes.ensures s r known)
