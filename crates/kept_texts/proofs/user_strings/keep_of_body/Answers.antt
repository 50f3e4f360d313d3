use Rattle.std.proofs.Common.{◌≡◌, List, ℕ, map, sym, ◌∙◌, ap, subst}
use Rattle.metadata_tables.specs.Stream.{cell}
use Rattle.pe_layout.specs.FileMap.{readable}
use Rattle.body_outlines.specs.Outlines.{Outlines}
use Rattle.body_outlines.specs.declared.outlined.TokenUse.{TokenUse}
use Rattle.image_model.specs.Columns.{method_rva}
use Rattle.kept_members.specs.Maps.{all_of}
use Rattle.kept_members.proofs.Adding.{on_ok}
use Rattle.kept_texts.specs.Texts.{HasTextsAt}
use Rattle.kept_texts.proofs.Texts.{no_fault, told_of}
use Rattle.kept_texts.proofs.user_strings.keep_of_body.Goals as goal

pub returns-in-Ok-clause-has : goal.returns-in-Ok-clause-has
returns-in-Ok-clause-has c =
    let image = c.args.image.now in
    let is : c.cell-rva.result ≡ method_rva image c.args.method = c.cell-rva.ensures ∙ ap (λ stream. cell stream 0x06 c.args.method 0) c.tables.ensures.tables in
    let bytes = c.bytes_at.ensures ∙ ap (readable image) is in
    on_ok c.keep_operands.result c.keep_operands.ensures.has (λ has. told_of image (all_of c.keep_operands.new.texts) c.args.method c.in-Ok.told (subst (λ (b : List ℕ). Outlines b c.in-Ok.told) bytes c.in-Ok.ensures.outline)
    (subst (λ (uses : List TokenUse). HasTextsAt image (map (λ (u : TokenUse). u.token) uses) (all_of c.keep_operands.new.texts)) c.as_slice.ensures has))

pub unreachable-requires : goal.unreachable-requires
unreachable-requires c =
    let image = c.args.image.now in
    let is : c.cell-rva.result ≡ method_rva image c.args.method = c.cell-rva.ensures ∙ ap (λ stream. cell stream 0x06 c.args.method 0) c.tables.ensures.tables in
    let bytes = c.bytes_at.ensures ∙ ap (readable image) is in
    let o = c.requires.good.outline in
    no_fault c.in-Err.fault o.0 c.in_default.not-NoMemory (c.in-Err.ensures.only_outline o.0 (subst (λ (b : List ℕ). Outlines b o.0) (sym bytes) o.1))
