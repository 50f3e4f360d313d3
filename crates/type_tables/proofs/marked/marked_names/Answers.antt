use Rattle.std.proofs.Common.{◌≡◌, ◌∙◌, ◌<◌, ◌≤◌, ap, sym, length, get_or, map, Some, rules}
use Rattle.std.specs.Prelude.{slice_get}
use Rattle.std.proofs.lemmas.Option.{slice_get-get_or, get_or_from_slice_get}
use Rattle.assembly_tree.specs.declared.assembly.Assembly.{Assembly}
use Rattle.type_hierarchy.specs.Gathered.{gathered}
use Rattle.type_tables.specs.Members.{member}
use Rattle.type_hierarchy.specs.Scopes.{sources}
use Rattle.type_hierarchy.specs.ValueNames.{value_names}
use Rattle.type_tables.proofs.MarkLemmas.{marked_more, marked_all}
use Rattle.type_tables.proofs.marked.marked_names.Goals as goal

pub loop-k-preserved : goal.loop-k-preserved
loop-k-preserved c =
    let s = sources c.args.image.now c.args.references.now in
    let items = c.as_slice-number-items.result.now in
    let same = c.as_slice-number-items.ensures in
    let k = c.loop-k.k in
    let n = get_or items k 0 in
    let m = c.at.result.now in
    let low : k < length items = search rules in
    let here : slice_get items k ≡ Some n = slice_get-get_or items k 0 low in
    marked_more s items k n m c.loop-k.names c.gather.new.into (ap (map (member s)) same ∙ c.requires.numbers) low
    (sym (get_or_from_slice_get items k n n here))
    (c.requires.meanings k n m (ap (λ l. slice_get l k) (sym same) ∙ here) c.at.ensures)
    c.loop-k.invariant
    (c.in_ok-gather.ensures ∙ ap (λ (a : Assembly). gathered m c.loop-k.names (value_names a)) c.assembly_of-of.ensures)

pub returns : goal.returns
returns c =
    let s = sources c.args.image.now c.args.references.now in
    let items = c.as_slice-number-items.result.now in
    let past : length items ≤ c.loop-k.k = search rules in
    marked_all s items c.loop-k.k c.loop-k.names (ap (map (member s)) c.as_slice-number-items.ensures ∙ c.requires.numbers) past c.loop-k.invariant
