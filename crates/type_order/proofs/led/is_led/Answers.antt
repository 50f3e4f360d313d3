use Rattle.type_hierarchy.specs.Tables.{hierarchy_in}
use Rattle.type_order.proofs.LedLemmas.{led_as, led_before}
use Rattle.type_order.proofs.led.is_led.Goals as goal

pub returns-in-Some-clause-ok : goal.returns-in-Some-clause-ok
returns-in-Some-clause-ok c =
    led_as (hierarchy_in c.args.tables.now) c.args.pool.now c.args.a c.args.b c.in-Some.led.now c.holds_type.result (c.requires.known.led c.args.a c.in-Some.led.now c.in-Some.ensures) c.holds_type.ensures

pub returns-clause-ok : goal.returns-clause-ok
returns-clause-ok c =
    let w = hierarchy_in c.args.tables.now in
    let ms = c.all_led.new.pool in
    led_before w c.args.pool.now ms c.args.a c.args.b c.holds_type-holds.result c.in_ok-led.ensures.extends c.requires.a c.requires.b
    (led_as w ms c.args.a c.args.b c.in_ok-led.led c.holds_type-holds.result c.in_ok-led.ensures.ok c.holds_type-holds.ensures)
