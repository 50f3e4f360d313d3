use Rattle.std.proofs.Common.{◌%◌, ◌^◌, sym, ◌∙◌, ap}
use Rattle.std.proofs.lemmas.Option.{none-some}
use Rattle.image_model.specs.Naming.{NamesText}
use Rattle.image_model.specs.Streams.{user_of}
use Rattle.image_model.specs.Units.{units_of}
use Rattle.kept_members.specs.Maps.{all_of}
use Rattle.kept_members.proofs.Adding.{on_ok, adds_at, has_at}
use Rattle.kept_texts.proofs.Texts.{named_by, text_bytes}
use Rattle.kept_texts.proofs.operands.keep_units.Goals as goal

pub returns-in-Some-clause-adds : goal.returns-in-Some-clause-adds
returns-in-Some-clause-adds c =
    on_ok c.keep.result c.keep.ensures.ok
    (λ put. adds_at (NamesText c.args.image.now) (all_of c.args.texts.now) (all_of c.keep.new.self) c.from.result c.args.token c.in-Some.units put c.from.ensures
    (named_by c.args.image.now c.args.token c.args.bytes.now c.in-Some.units c.requires.table c.requires.bytes (sym c.in_ok-units.ensures ∙ c.in-Some.is)))

pub returns-in-Some-clause-has : goal.returns-in-Some-clause-has
returns-in-Some-clause-has c =
    on_ok c.keep.result c.keep.ensures.ok
    (λ put units named. has_at (all_of c.args.texts.now) (all_of c.keep.new.self) c.from.result c.args.token c.in-Some.units put c.from.ensures)

pub returns-in-None-clause-has : goal.returns-in-None-clause-has
returns-in-None-clause-has c = λ units named.
    let b = text_bytes named in
    let same = c.one_content_at_an_index.ensures.units (user_of c.args.image.now) (c.args.token % 2 ^ 24) b.0 c.args.bytes.now b.1 c.requires.bytes in
    absurd (none-some units (sym c.in-None.is ∙ (c.in_ok-units.ensures ∙ (sym (ap units_of same) ∙ b.2))))
