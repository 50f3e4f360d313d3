use Rattle.std.proofs.Common.{◌≡◌, ◌∙◌, ◌+◌, ◌<◌, ◌≤◌, ap, sym, subst, refl, length, Some, rules, arith}
use Rattle.std.specs.Prelude.{slice_get}
use Rattle.std.specs.Borrow.{Bor}
use Rattle.std.specs.Option.{option_map}
use Rattle.std.proofs.lemmas.List.{length-map}
use Rattle.std.proofs.lemmas.Option.{same_Some, slice_get-map, slice_get_read}
use Rattle.assembly_tree.specs.declared.typedef.TypeDef.{TypeDef}
use Rattle.type_hierarchy.specs.Gathered.{with_name}
use Rattle.type_hierarchy.specs.Scopes.{sources}
use Rattle.type_tables.specs.Placed.{Stands}
use Rattle.type_tables.specs.Places.{row}
use Rattle.type_tables.proofs.FillLemmas.{within_get}
use Rattle.type_tables.proofs.ValueLemmas.{AreFound, based_same, found_more, found_same, is_based, values_all}
use Rattle.type_tables.proofs.filling.value_types.Goals.{then-has_value_base+in_ok-add_copy, else-has_value_base}
use Rattle.type_tables.proofs.filling.value_types.Goals as goal

pub loop-k-preserved : goal.loop-k-preserved
loop-k-preserved c =
    let s = sources c.args.image.now c.args.references.now in
    let z = c.args.scopes.now in
    let places = c.args.places.now in
    let r = row places in
    let k = c.loop-k.k in
    let items = c.as_slice-of-items.result.now in
    let same = c.as_slice-of-items.ensures in
    let t = c.of-item.result.now in
    let now = c.loop-k.names in
    let low : k < length items = search rules in
    let typed : slice_get r.types k ≡ Some t =
    slice_get-map (λ (x : Bor TypeDef). x.now) places.types k
    ∙ ap (option_map (λ (x : Bor TypeDef). x.now)) (ap (λ l. slice_get l k) (sym same) ∙ slice_get_read items (length items) k c.of-item.result refl low c.of-item.is) in
    let long = ap length (sym same) in
    let aligned = c.requires.places.aligned.types in
    let counted = length-map places.types (λ (x : Bor TypeDef). x.now) in
    let found = within_get r.names k (omega (arith, low, long, aligned, counted)) in
    let name = found.0 in
    let stands : Stands r k name c.at.result.now t = record { named = found.1; in_member = c.at.ensures; typed = typed } in
    let is : c.has_value_base.result ≡ is_based s name =
    based_same s z r c.requires.scopes c.requires.places k c.at.result.now name t c.at-means.result.now stands c.at-means.ensures c.has_value_base.result c.has_value_base.ensures in
    elim c.if-has_value_base.branch [
      | then-has_value_base+in_ok-add_copy w ↦
          let own = w.at-then-has_value_base.result.now in
          let one : own ≡ name = same_Some own name (sym w.at-then-has_value_base.ensures ∙ found.1) in
          let next = w.in_ok-add_copy.ensures ∙ ap (with_name now) one in
          subst (AreFound s r (k + 1)) (sym (w.names-is ∙ next)) (found_more s r k name now found.1 (sym is ∙ w.if-has_value_base.true) c.loop-k.invariant)
      | else-has_value_base w ↦
          subst (AreFound s r (k + 1)) (sym w.names-is) (found_same s r k name now found.1 (sym is ∙ w.if-has_value_base.false) c.loop-k.invariant)
    ]

pub returns : goal.returns
returns c =
    let s = sources c.args.image.now c.args.references.now in
    let places = c.args.places.now in
    let items = c.as_slice-of-items.result.now in
    let past : length items ≤ c.loop-k.k = search rules in
    let long = ap length c.as_slice-of-items.ensures in
    let aligned = c.requires.places.aligned.types in
    let counted = length-map places.types (λ (x : Bor TypeDef). x.now) in
    values_all s (row places) c.loop-k.k _ c.requires.scopes.core c.requires.places (omega (arith, past, long, aligned, counted)) c.loop-k.invariant
