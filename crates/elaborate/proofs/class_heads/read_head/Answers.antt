use Rattle.std.proofs.Common.{◌≡◌, [], ◌∷◌, ◌++◌, ap, subst, sym, ◌∙◌}
use Rattle.il_lexer.specs.declared.types.TokenKind.TheVariants as kind
use Rattle.ilasm_grammar.specs.declared.productions.TheConstants.{CLASS}
use Rattle.source_model.specs.Classes.{is_root}
use Rattle.source_model.specs.Nodes.{class_token, type_id}
use Rattle.source_nodes.specs.Readers.{IsOf}
use Rattle.source_syntax.proofs.NameTokens.{name_at}
use Rattle.elaborate.specs.ClassParts.{inner}
use Rattle.elaborate.proofs.ClassLemmas.{class_is_named}
use Rattle.elaborate.proofs.class_heads.read_head.Goals as goal

pub returns : goal.returns
returns c s a f x outside core e found own each =
    let token = c.leaf_at.ensures f e in
    let known = subst (IsOf s kind.Name) (sym token) (name_at s CLASS 1 f class_is_named own.fits) in
    let id : c.in_ok-id.id ≡ type_id s (class_token f) = c.in_ok-id.ensures s x.reads known ∙ ap (type_id s) token in
    let flags = c.type_flags-flags.ensures.all s f x.reads e each in
    record {
      id-is = id;
      flags-are = flags;
      layout-is = c.layout.ensures s f x.reads found each;
      base-is = c.in_ok-extends.ensures s (inner s a f) x f e each core (c.is_root-root.ensures a.path outside ∙ ap (λ i. is_root (a.path ++ i ∷ [])) id)
          (c.is_interface.ensures s f flags);
      interfaces-are = c.in_ok-implements.ensures s (inner s a f) x f e each;
    }
