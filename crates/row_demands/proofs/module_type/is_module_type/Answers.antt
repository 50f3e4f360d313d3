use Rattle.std.proofs.Common.{◌≡◌, IsTrue, true, false}
use Rattle.row_demands.proofs.ModuleParts.{module_named, module_maps, module_owns, module_nests, module_of_parts}
use Rattle.row_demands.proofs.module_type.is_module_type.Goals as goal

pub returns-then-not-has_no_maps : goal.returns-then-not-has_no_maps
returns-then-not-has_no_maps c =
    (λ never. cc, λ m. let yes = c.has_no_maps.ensures.1 (module_maps c.args.image.now m) in let n = c.if-not-has_no_maps.true in cc)

pub returns-then-owns_nothing : goal.returns-then-owns_nothing
returns-then-owns_nothing c =
    let named = c.is_module_named.ensures.0 c.if-not-is_module_named.false in
    let maps = c.has_no_maps.ensures.0 c.if-not-has_no_maps.false in
    let owns = c.owns_nothing.ensures.0 c.if-owns_nothing.true in
    (λ yes. module_of_parts c.args.image.now named maps owns (c.is_not_nested.ensures.0 yes), λ m. c.is_not_nested.ensures.1 (module_nests c.args.image.now m))

pub returns-else-owns_nothing : goal.returns-else-owns_nothing
returns-else-owns_nothing c =
    (λ yes. let n = c.if-owns_nothing.false in cc, λ m. c.owns_nothing.ensures.1 (module_owns c.args.image.now m))
