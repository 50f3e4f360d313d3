use Rattle.std.proofs.Common.{arith, sym, ◌∙◌}
use Rattle.body_codec.proofs.Rows.{fat_room, small_room}
use Rattle.body_codec.proofs.decoding.sections.row_at.Goals as goal

pub fat_row-requires : goal.fat_row-requires
fat_row-requires c =
    fat_room c.args.bytes.now c.args.section.now.at c.args.k c.requires.section.read (sym c.requires.section.fat ∙ c.if-section.true) c.requires.within

pub small_row-requires : goal.small_row-requires
small_row-requires c =
    small_room c.args.bytes.now c.args.section.now.at c.args.k c.requires.section.read (sym c.requires.section.fat ∙ c.if-section.false) c.requires.within

pub overflow_add-section : goal.overflow_add-section
overflow_add-section c =
    let h = fat_room c.args.bytes.now c.args.section.now.at c.args.k c.requires.section.read (sym c.requires.section.fat ∙ c.if-section.true) c.requires.within in
    omega arith

pub overflow_mul-k : goal.overflow_mul-k
overflow_mul-k c =
    let h = fat_room c.args.bytes.now c.args.section.now.at c.args.k c.requires.section.read (sym c.requires.section.fat ∙ c.if-section.true) c.requires.within in
    omega arith

pub overflow_add-section-then-section : goal.overflow_add-section-then-section
overflow_add-section-then-section c =
    let h = fat_room c.args.bytes.now c.args.section.now.at c.args.k c.requires.section.read (sym c.requires.section.fat ∙ c.if-section.true) c.requires.within in
    omega arith

pub overflow_add-section-else-section : goal.overflow_add-section-else-section
overflow_add-section-else-section c =
    let h = small_room c.args.bytes.now c.args.section.now.at c.args.k c.requires.section.read (sym c.requires.section.fat ∙ c.if-section.false) c.requires.within in
    omega arith

pub overflow_mul-k-else-section : goal.overflow_mul-k-else-section
overflow_mul-k-else-section c =
    let h = small_room c.args.bytes.now c.args.section.now.at c.args.k c.requires.section.read (sym c.requires.section.fat ∙ c.if-section.false) c.requires.within in
    omega arith

pub overflow_add-section-else-section-2 : goal.overflow_add-section-else-section-2
overflow_add-section-else-section-2 c =
    let h = small_room c.args.bytes.now c.args.section.now.at c.args.k c.requires.section.read (sym c.requires.section.fat ∙ c.if-section.false) c.requires.within in
    omega arith
