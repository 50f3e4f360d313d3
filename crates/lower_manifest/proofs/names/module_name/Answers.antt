use Rattle.std.proofs.Common.{◌≡◌, [], ◌∷◌, ◌++◌, ap, sym, subst, ◌∙◌}
use Rattle.std.specs.Prelude.{IfOk, codes}
use Rattle.il_lexer.specs.declared.types.TokenKind.TheVariants as kind
use Rattle.ilasm_grammar.specs.declared.productions.TheConstants.{DECL_MODULE}
use Rattle.source_model.specs.Forest.{leaf_at, parts}
use Rattle.source_model.specs.Items.{declarations}
use Rattle.source_model.specs.Manifests.{assembly_name, last_said}
use Rattle.source_model.specs.Values.{name_text}
use Rattle.source_nodes.specs.Derived.{FitsBody}
use Rattle.source_nodes.specs.Readers.{IsOf}
use Rattle.source_syntax.proofs.NameTokens.{name_at}
use Rattle.source_flags.specs.Lines.{IsLast}
use Rattle.lower_manifest.specs.Chosen.{are_of}
use Rattle.source_flags.specs.declared.gathering.Kind.TheVariants.{One}
use Rattle.lower_manifest.proofs.Among.{declared_ones}
use Rattle.source_flags.proofs.Gathered.{nothing_said, said, said_last}
use Rattle.source_nodes.specs.Pieces.{ArePieces}
use Rattle.lower_manifest.proofs.KeyLemmas.{module_is_name, only}
use Rattle.lower_manifest.proofs.PastLemmas.{module_declaration}
use Rattle.lower_manifest.proofs.names.module_name.Goals as goal

pub leaf_at-requires : goal.leaf_at-requires
leaf_at-requires c =
    let nodes = c.args.reader.now.nodes.now in
    let ps = are_of (One DECL_MODULE) c.requires.0 in
    let found = c.in_ok-lines.ensures nodes c.requires.0 c.requires.1 in
    let last = subst (λ o. IsLast o ps) c.in-Some.is (c.last_of.ensures ps (subst (λ xs. ArePieces nodes xs ps) (sym c.as_slice.ensures) found)) in
    (last.0.below, last.2.below)

pub returns-in-Some : goal.returns-in-Some
returns-in-Some c s r are same =
    let nodes = c.args.reader.now.nodes.now in
    let bodies = (c.derivations_have_bodies.ensures s r.derived).1 in
    let found = subst (ArePieces nodes c.as_slice.result.now) (declared_ones DECL_MODULE module_declaration s s.tree bodies)
    (subst (λ xs. ArePieces nodes xs (are_of (One DECL_MODULE) (declarations s.tree))) (sym c.as_slice.ensures) (c.in_ok-lines.ensures nodes (declarations s.tree) are)) in
    let l = said (FitsBody s) (DECL_MODULE ∷ []) s.tree c.last_of.result c.in-Some.line bodies c.in-Some.is (c.last_of.ensures (parts (DECL_MODULE ∷ []) s.tree) found) in
    let token = c.leaf_at.ensures l.of.below l.below in
    let fits = subst (λ q. FitsBody s q l.of.below) (only DECL_MODULE l.of.production l.sought-is) l.own in
    let known = subst (IsOf s kind.Name) (sym token) (name_at s DECL_MODULE 1 l.of.below module_is_name fits) in
    subst (λ v. IfOk c.name_text.result (λ name. name ≡ v))
    (ap (name_text s) token
    ∙ sym (said_last (λ q. name_text s (leaf_at 1 q.below)) (assembly_name s ++ codes ".dll") (parts (DECL_MODULE ∷ []) s.tree) l.of l.last))
    (c.name_text.ensures s r known)

pub returns : goal.returns
returns c s r are same =
    let nodes = c.args.reader.now.nodes.now in
    let bodies = (c.derivations_have_bodies.ensures s r.derived).1 in
    let found = subst (ArePieces nodes c.as_slice.result.now) (declared_ones DECL_MODULE module_declaration s s.tree bodies)
    (subst (λ xs. ArePieces nodes xs (are_of (One DECL_MODULE) (declarations s.tree))) (sym c.as_slice.ensures) (c.in_ok-lines.ensures nodes (declarations s.tree) are)) in
    let none = nothing_said (parts (DECL_MODULE ∷ []) s.tree) c.last_of.result c.in-None.is (c.last_of.ensures (parts (DECL_MODULE ∷ []) s.tree) found) in
    c.in_ok-push_str-in-None.ensures.ok
    ∙ ap (λ name. name ++ codes ".dll") (c.in_ok-name-in-None.ensures ∙ c.as_str.ensures ∙ same)
    ∙ sym (ap (last_said (λ q. name_text s (leaf_at 1 q.below)) (assembly_name s ++ codes ".dll")) none)
