use Rattle.std.proofs.Common.{◌≡◌, ◌≤◌, [], ◌∷◌, length, map, ap, sym, subst, ◌∙◌, arith}
use Rattle.std.specs.Prelude.{All, IfOk}
use Rattle.std.specs.List.{flat_map}
use Rattle.il_lexer.specs.declared.types.TokenKind.TheVariants.{Name}
use Rattle.ilasm_grammar.specs.declared.productions.TheConstants.{DECL_ASSEMBLY}
use Rattle.lower_manifest.specs.Chosen.{are_of}
use Rattle.source_flags.specs.declared.gathering.Kind.TheVariants.{One}
use Rattle.source_model.specs.Items.{declarations}
use Rattle.source_model.specs.Names.{externs, key_token}
use Rattle.source_model.specs.Values.{name_text}
use Rattle.source_syntax.specs.Namings.{names_in}
use Rattle.source_nodes.specs.Pieces.{ArePieces}
use Rattle.source_nodes.specs.Readers.{IsOf}
use Rattle.source_syntax.specs.declared.name_lists.Naming.TheVariants as naming
use Rattle.source_syntax.proofs.NamingLemmas.{names_are_names}
use Rattle.source_nodes.proofs.PieceLemmas.{all_taken, flat_next, part_read}
use Rattle.elaborate.proofs.AssemblyLemmas.{key_tokens_are, keys_are, keys_in, keys_in_all}
use Rattle.elaborate.proofs.extern_keys.extern_keys.Goals as goal

pub push_keys-requires : goal.push_keys-requires
push_keys-requires c =
    let nodes = c.args.reader.now.nodes.now in
    let ps = are_of (One DECL_ASSEMBLY) c.requires.0 in
    let are = subst (λ xs. ArePieces nodes xs ps) (sym c.as_slice-piece-items.ensures) (c.in_ok-found.ensures nodes c.requires.0 c.requires.1) in
    let m = part_read nodes c.as_slice-piece-items.result.now ps c.loop-piece.piece-index _ are c.loop-piece-test.true in
    (m.of.below, m.below ∙ sym c.nodes_of.ensures)

pub loop-piece-preserved : goal.loop-piece-preserved
loop-piece-preserved c s declared =
    let nodes = c.args.reader.now.nodes.now in
    let ps = are_of (One DECL_ASSEMBLY) (declarations s.tree) in
    let i = c.loop-piece.piece-index in
    let are = subst (λ xs. ArePieces nodes xs ps) (sym c.as_slice-piece-items.ensures) (c.in_ok-found.ensures nodes (declarations s.tree) declared) in
    let m = part_read nodes c.as_slice-piece-items.result.now ps i _ are c.loop-piece-test.true in
    c.in_ok-push_keys.ensures m.of.below (m.below ∙ sym c.nodes_of.ensures)
    ∙ flat_next keys_in ps i m.of [] c.loop-piece.tokens m.at (c.loop-piece.invariant s declared)

pub returns : goal.returns
returns c s r declared bodies =
    let nodes = c.args.reader.now.nodes.now in
    let ps = are_of (One DECL_ASSEMBLY) (declarations s.tree) in
    let are = subst (λ xs. ArePieces nodes xs ps) (sym c.as_slice-piece-items.ensures) (c.in_ok-found.ensures nodes (declarations s.tree) declared) in
    let over : length c.as_slice-piece-items.result.now ≤ c.loop-piece.piece-index = omega (arith, c.loop-piece-test.false) in
    let all : c.loop-piece.tokens ≡ map key_token (externs s) =
    c.loop-piece.invariant s declared
    ∙ ap (flat_map keys_in) (all_taken nodes c.as_slice-piece-items.result.now ps c.loop-piece.piece-index are over)
    ∙ keys_in_all s (c.derivations_have_bodies.ensures s r.derived) in
    let tokens : c.as_slice.result.now ≡ map key_token (externs s) = c.as_slice.ensures ∙ all in
    let named : names_in naming.Assembly s.tree ≡ c.as_slice.result.now = key_tokens_are (externs s) ∙ sym tokens in
    subst (λ v. IfOk c.texts.result (λ keys. keys ≡ v)) (ap (map (name_text s)) tokens ∙ keys_are s (externs s))
    (c.texts.ensures s r (subst (All (IsOf s Name)) named (names_are_names s naming.Assembly s.tree bodies)))
