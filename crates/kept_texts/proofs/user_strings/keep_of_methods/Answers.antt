use Rattle.std.proofs.Common.{◌≡◌, ◌-◌, ◌+◌, ◌<◌, subst, arith, rules}
use Rattle.image_model.specs.Naming.{NamesText}
use Rattle.image_model.specs.Rows.{count_of}
use Rattle.kept_members.specs.Maps.{all_of}
use Rattle.kept_members.proofs.Adding.{adds_none, adds_both}
use Rattle.kept_texts.specs.Texts.{HasTextsTo}
use Rattle.kept_texts.proofs.Texts.{state_at, texts_stay, texts_none, texts_more}
use Rattle.kept_texts.proofs.user_strings.keep_of_methods.Goals as goal

pub bounds-states-row : goal.bounds-states-row
bounds-states-row c =
    let some : c.loop-row.row < count_of c.args.image.now 0x06 = search rules in
    let long = c.requires.long in omega (arith, some, long)

pub keep_of_method-requires-clause-state : goal.keep_of_method-requires-clause-state
keep_of_method-requires-clause-state c =
    let some : c.loop-row.row < count_of c.args.image.now 0x06 = search rules in
    state_at c.args.image.now c.args.states.now c.loop-row.row _ c.requires some

pub loop-row-init : goal.loop-row-init
loop-row-init c = (adds_none (NamesText c.args.image.now) (all_of c.args.texts.now), texts_none c.args.image.now (all_of c.args.texts.now))

pub loop-row-preserved : goal.loop-row-preserved
loop-row-preserved c =
    let image = c.args.image.now in
    let old = all_of c.loop-row.texts in
    let new = all_of c.keep_of_method.new.texts in
    let e = c.in_ok-keep_of_method.ensures in
    let stay = texts_stay image old new c.loop-row.row e.adds c.loop-row.invariant.1 in
    let less : c.loop-row.row ≡ c.loop-row.row + 1 - 1 = omega arith in (
      adds_both (NamesText image) (all_of c.args.texts.now) old new c.loop-row.invariant.0 e.adds,
      texts_more image new c.loop-row.row stay (e.has (subst (HasTextsTo image new) less stay)),
    )

pub returns-clause-has : goal.returns-clause-has
returns-clause-has c =
    let all : c.loop-row.row ≡ count_of c.args.image.now 0x06 = search rules in
    subst (HasTextsTo c.args.image.now (all_of c.loop-row.texts)) all c.loop-row.invariant.1
