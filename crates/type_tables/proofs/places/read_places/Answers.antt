use Rattle.std.proofs.Common.{◌≡◌, ◌∙◌, ◌<◌, ◌≤◌, ◌+◌, not, subst, sym, ap, get_or, length, take, Some, rules, List}
use Rattle.std.specs.Prelude.{slice_get}
use Rattle.std.specs.List.{list_any}
use Rattle.std.proofs.lemmas.Option.{slice_get-get_or}
use Rattle.assembly_tree.specs.declared.assembly.Assembly.{Assembly}
use Rattle.type_tables.specs.Indexing.{AreIndexed}
use Rattle.type_tables.specs.Members.{assembly_of}
use Rattle.type_hierarchy.specs.Scopes.{sources}
use Rattle.type_hierarchy.specs.Names.{same_scope}
use Rattle.type_tables.specs.Places.{row}
use Rattle.type_hierarchy.specs.declared.meanings.Meanings.{Meanings}
use Rattle.type_tables.specs.declared.places.Places.{Places}
use Rattle.type_tables.proofs.KnownTypes.{more_indexed}
use Rattle.type_tables.proofs.SoFar.{AreSoFar, same_so_far, more_so_far, all_so_far}
use Rattle.type_tables.proofs.places.read_places.Goals.{then-is_first+in_ok-add_types, else-is_first}
use Rattle.type_tables.proofs.places.read_places.Goals as goal

pub loop-k-preserved : goal.loop-k-preserved
loop-k-preserved c =
    let s = sources c.args.image.now c.args.references.now in
    let z = c.args.scopes.now in
    let items = c.as_slice-number-items.result.now in
    let k = c.loop-k.k in
    let n = get_or items k 0 in
    let means = c.at.result.now in
    let own = means.own in
    let old = row c.loop-k.into in
    let low : k < length items = search rules in
    let number : slice_get z.numbers k ≡ Some n = ap (λ l. slice_get l k) (sym c.as_slice-number-items.ensures) ∙ slice_get-get_or items k 0 low in
    let e : c.is_first.result ≡ not (list_any (λ (m : Meanings). same_scope m.own own) (take k z.meanings)) =
    c.is_first.ensures ∙ ap (λ (ms : List Meanings). not (list_any (λ (m : Meanings). same_scope m.own own) (take k ms))) c.as_slice.ensures in
    elim c.if-is_first.branch [
      | then-is_first+in_ok-add_types w ↦
          let types = w.as_slice-then-is_first.result.now in
          let of : types ≡ (assembly_of s n).types = w.as_slice-then-is_first.ensures ∙ ap (λ (a : Assembly). a.types) w.assembly_of-of.ensures in
          record {
            places = subst (λ (p : Places). AreSoFar s (k + 1) (row p)) (sym w.into-is)
                (more_so_far s z k n means c.requires.scopes number c.at.ensures c.is_first.result types old (row w.add_types.new.into) e w.if-is_first.true of
                (c.requires.formed n) c.loop-k.invariant.places w.in_ok-add_types.ensures.names w.in_ok-add_types.ensures.types);
            indexes = subst (AreIndexed c.args.image.now.types) (sym w.into-is)
                (more_indexed s z k n means c.requires.scopes number c.at.ensures c.is_first.result types c.loop-k.into w.add_types.new.into e w.if-is_first.true of
                w.in_ok-add_types.ensures.indexes c.loop-k.invariant.indexes);
          }
      | else-is_first w ↦
          record {
            places = subst (λ (p : Places). AreSoFar s (k + 1) (row p)) (sym w.into-is)
                (same_so_far s z k n means c.requires.scopes number c.at.ensures c.is_first.result old e w.if-is_first.false c.loop-k.invariant.places);
            indexes = subst (AreIndexed c.args.image.now.types) (sym w.into-is) c.loop-k.invariant.indexes;
          }
    ]

pub returns-clause-places : goal.returns-clause-places
returns-clause-places c =
    let s = sources c.args.image.now c.args.references.now in
    let items = c.as_slice-number-items.result.now in
    let past : length items ≤ c.loop-k.k = search rules in
    all_so_far s c.args.scopes.now c.loop-k.k (row c.loop-k.into) c.requires.scopes (subst (λ l. length l ≤ c.loop-k.k) c.as_slice-number-items.ensures past) c.loop-k.invariant.places
