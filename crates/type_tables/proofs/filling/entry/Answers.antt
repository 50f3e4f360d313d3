use Rattle.std.proofs.Common.{◌≡◌, ◌∙◌, ap, sym, subst, Some, List}
use Rattle.std.specs.Prelude.{slice_get}
use Rattle.std.specs.Borrow.{Bor}
use Rattle.std.specs.Option.{option_map}
use Rattle.std.proofs.lemmas.Option.{same_Some, slice_get-map}
use Rattle.std.proofs.lemmas.Result.{IfOk-weaker}
use Rattle.type_terms.specs.declared.name.TypeId.{TypeId}
use Rattle.type_terms.specs.declared.name.TypeName.{TypeName}
use Rattle.assembly_tree.specs.declared.typedef.TypeDef.{TypeDef}
use Rattle.type_hierarchy.specs.Declarations.{declaration_of, is_class_of}
use Rattle.type_hierarchy.specs.Names.{full_name, the_object}
use Rattle.type_tables.specs.Places.{row}
use Rattle.type_hierarchy.specs.Tables.{declaration}
use Rattle.type_tables.proofs.FillLemmas.{entry_is}
use Rattle.type_tables.proofs.filling.entry.Goals as goal

pub returns : goal.returns
returns c =
    let k = c.args.k in
    let places = c.args.places.now in
    let v = c.args.values.now in
    let own = c.at-name.result.now in
    let t = c.at-of.result.now.now in
    let number = c.at.result.now in
    let means = c.at-means.result.now in
    let typed : slice_get (row places).types k ≡ Some t =
    slice_get-map (λ (x : Bor TypeDef). x.now) places.types k ∙ ap (option_map (λ (x : Bor TypeDef). x.now)) c.at-of.ensures in
    let object : c.is_class_of-is_object.result ≡ is_class_of v.core the_object own =
    c.is_class_of-is_object.ensures ∙ ap (λ (p : List TypeId). is_class_of v.core the_object (full_name own.scope p)) c.as_slice-path.ensures.ids in
    IfOk-weaker c.declared.result _ _ (λ d is s ok are values name at.
    subst (λ (n : TypeName). declaration_of s n ≡ Some (declaration d)) (same_Some own name (sym c.at-name.ensures ∙ at))
    (entry_is s c.args.scopes.now (row places) v ok are values k number own t means (record { named = c.at-name.ensures; in_member = c.at.ensures; typed = typed }) c.at-means.ensures
    c.is_class_of-is_object.result c.is_enum-is_enum.result d object c.is_enum-is_enum.ensures is)) c.declared.ensures
