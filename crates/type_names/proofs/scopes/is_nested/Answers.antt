use Rattle.std.proofs.Common.{◌≡◌, ◌<◌, IsTrue, sym, ◌∙◌, ap, subst}
use Rattle.std.specs.Prelude.{◌↔◌}
use Rattle.metadata_tables.specs.Stream.{cell}
use Rattle.image_model.specs.Columns.{nested_class, enclosing_class}
use Rattle.name_numbers.specs.Names.{depth_at}
use Rattle.row_groups.proofs.Enclosing.{nested_there}
use Rattle.type_names.specs.Numbers.{TellNames}
use Rattle.type_names.proofs.Scoping.{nested_told, scopes_of_nesting}
use Rattle.type_names.proofs.scopes.is_nested.Goals as goal

pub returns-then-not-is_first : goal.returns-then-not-is_first
returns-then-not-is_first c = (
  λ never. cc,
  λ scopes.
      let yes = c.is_first.ensures.1 ((scopes_of_nesting c.args.image.now c.args.row c.requires.there).1 scopes).once in
      let no = c.if-not-is_first.true in cc,
)

pub returns-then-not-stands_behind : goal.returns-then-not-stands_behind
returns-then-not-stands_behind c =
    let is : c.cell-nested.result ≡ nested_class c.args.image.now c.args.row = c.cell-nested.ensures ∙ ap (λ stream. cell stream 0x29 c.args.row 0) c.tables.ensures.tables in (
      λ never. cc,
      λ scopes.
          let before = ((scopes_of_nesting c.args.image.now c.args.row c.requires.there).1 scopes).before in
          let yes = c.stands_behind.ensures.1 (subst (λ n. enclosing_class c.args.image.now c.args.row < n) (sym is) before) in
          let no = c.if-not-stands_behind.true in cc,
    )

pub returns : goal.returns
returns c =
    let is : c.cell-nested.result ≡ nested_class c.args.image.now c.args.row = c.cell-nested.ensures ∙ ap (λ stream. cell stream 0x29 c.args.row 0) c.tables.ensures.tables in
    let once = c.is_first.ensures.0 c.if-not-is_first.false in
    let before = subst (λ n. enclosing_class c.args.image.now c.args.row < n) is (c.stands_behind.ensures.0 c.if-not-stands_behind.false) in
    let told = nested_told c.args.image.now c.args.names.now.named (subst (λ image. TellNames image c.args.names.now.named) c.requires.same c.tell_names.ensures) c.args.row
    (nested_there c.args.image.now c.requires.meets.indexes c.args.row c.requires.there) once before in
    let own = scopes_of_nesting c.args.image.now c.args.row c.requires.there in
    let path : IsTrue c.has_path.result ↔ (0 < depth_at c.args.names.now.named (nested_class c.args.image.now c.args.row))
    = subst (λ n. IsTrue c.has_path.result ↔ (0 < depth_at c.args.names.now.named n)) is c.has_path.ensures in
    (λ yes. own.0 (told.0 (path.0 yes)), λ scopes. path.1 (told.1 (own.1 scopes)))
