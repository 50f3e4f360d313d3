use Rattle.std.proofs.Common.{◌≡◌, ◌∙◌, ◌+◌, ◌<◌, ap, drop, List, get_or, length, take, rules, tests}
use Rattle.std.specs.Option.{option_copied}
use Rattle.std.proofs.lemmas.List.{take_more}
use Rattle.assembly_tree.specs.DataSize.{type_at}
use Rattle.assembly_tree.specs.declared.typedef.TypeDef.{TypeDef}
use Rattle.type_order.proofs.FieldLemmas.{found_last, found_more, found_none, name_at, types_next}
use Rattle.type_order.proofs.fields.+type_below.Goals as goal

pub returns-in-None : goal.returns-in-None
returns-in-None t c = λ a know is.
    let path = c.args.path.now in
    let depth = c.args.depth in
    let low = c.requires.within in
    let d = name_at path depth low in
    found_none c.args.types.now path depth d low (c.in-None.ensures a (take depth path) (get_or path depth d) know is (take_more path depth d low))

pub returns-then-depth-path : goal.returns-then-depth-path
returns-then-depth-path t c = λ a know is.
    let path = c.args.path.now in
    let depth = c.args.depth in
    let low = c.requires.within in
    let d = name_at path depth low in
    let last : depth + 1 ≡ length path = search (rules, tests) in
    found_last c.args.types.now path depth d c.in-Some.of.now low last
    (c.in-Some.ensures a (take depth path) (get_or path depth d) know is (take_more path depth d low))

pub returns-else-depth-path : goal.returns-else-depth-path
returns-else-depth-path t c = λ a know is.
    let path = c.args.path.now in
    let depth = c.args.depth in
    let low = c.requires.within in
    let d = name_at path depth low in
    let more : depth + 1 < length path = search (rules, tests) in
    let of = c.in-Some.of.now in
    let found = c.in-Some.ensures a (take depth path) (get_or path depth d) know is (take_more path depth d low) in
    let next = c.as_slice.ensures ∙ types_next a.types c.args.types.now path depth d of low is found in
    found_more c.args.types.now path depth d of (option_copied c.type_below.result) more found
    (c.type_below.ensures a know next ∙ ap (λ (ts : List TypeDef). type_at ts (drop (depth + 1) path)) c.as_slice.ensures)
