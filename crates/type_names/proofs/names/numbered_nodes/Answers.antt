use Rattle.std.proofs.Common.{◌≡◌, ◌+◌, ◌∙◌, ap, subst, arith}
use Rattle.metadata_tables.specs.Stream.{row_count}
use Rattle.image_model.specs.Rows.{count_of}
use Rattle.image_model.specs.Streams.{strings_of}
use Rattle.name_numbers.specs.Names.{AreNodes, AreNumbers}
use Rattle.row_groups.proofs.Enclosing.{outer_there}
use Rattle.type_names.specs.Forest.{middle_of, last_of}
use Rattle.type_names.proofs.Facts.{are_nodes, no_modules, scopes_there, type_ids, ref_ids}
use Rattle.type_names.proofs.Telling.{tells}
use Rattle.type_names.proofs.names.numbered_nodes.Goals as goal

pub numbered-requires : goal.numbered-requires
numbered-requires c =
    let types : c.rows.result ≡ count_of c.args.image.now 0x02 = c.rows.ensures.rows ∙ ap (λ stream. row_count stream 0x02) c.tables-tables.ensures.tables in
    let refs : c.rows-2.result ≡ count_of c.args.image.now 0x01 = c.rows-2.ensures.rows ∙ ap (λ stream. row_count stream 0x01) c.tables-tables.ensures.tables in
    let m : middle_of c.args.image.now ≡ c.rows.result + 1 = omega arith in
    let l : last_of c.args.image.now ≡ c.rows.result + 1 + c.rows-2.result = omega arith in
    subst (λ last. AreNodes c.args.nodes.now (c.rows.result + 1) last) l
    (subst (λ middle. AreNodes c.args.nodes.now middle (last_of c.args.image.now)) m
    (are_nodes c.args.image.now c.requires.meets.indexes c.args.nodes.now c.requires.forest c.tables-tables.ensures.meets c.requires.small))

pub returns : goal.returns
returns c =
    let image = c.args.image.now in
    let types : c.rows.result ≡ count_of image 0x02 = c.rows.ensures.rows ∙ ap (λ stream. row_count stream 0x02) c.tables-tables.ensures.tables in
    let refs : c.rows-2.result ≡ count_of image 0x01 = c.rows-2.ensures.rows ∙ ap (λ stream. row_count stream 0x01) c.tables-tables.ensures.tables in
    let m : c.rows.result + 1 ≡ middle_of image = omega arith in
    let l : c.rows.result + 1 + c.rows-2.result ≡ last_of image = omega arith in
    let heap : c.in_ok-texts.texts ≡ strings_of image = c.in_ok-texts.ensures ∙ c.strings.ensures in
    let numbers : AreNumbers (strings_of image) c.args.nodes.now (middle_of image) (last_of image) c.in_ok-named.named.items
    = subst (λ h. AreNumbers h c.args.nodes.now (middle_of image) (last_of image) c.in_ok-named.named.items) heap
    (subst (λ last. AreNumbers c.in_ok-texts.texts c.args.nodes.now (middle_of image) last c.in_ok-named.named.items) l
    (subst (λ middle. AreNumbers c.in_ok-texts.texts c.args.nodes.now middle (c.rows.result + 1 + c.rows-2.result) c.in_ok-named.named.items) m c.in_ok-named.ensures)) in
    tells image c.args.nodes.now c.requires.forest (outer_there image c.requires.meets.indexes) (scopes_there image c.requires.meets.indexes)
    (type_ids image c.requires.meets.entries) (ref_ids image c.requires.meets.entries) (no_modules image c.tables-tables.ensures.meets) c.in_ok-named.named.items numbers
