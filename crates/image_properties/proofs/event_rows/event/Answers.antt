use Rattle.std.proofs.Common.{◌≡◌, ℕ, ◌*◌, ◌+◌, sym, ◌∙◌, ap, subst}
use Rattle.std.specs.List.{AllZip}
use Rattle.std.specs.Prelude.{All, Contains}
use Rattle.metadata_tables.specs.Stream.{cell}
use Rattle.image_model.specs.Columns.{attribute_parent, event_name, event_type, semantics_association, semantics_method}
use Rattle.image_model.specs.Reading.{TextIs, IsAccessor, IsAttribute, OwnerIs}
use Rattle.image_model.specs.Rows.{methods_of, rows_with}
use Rattle.image_source.specs.Names.{names_of}
use Rattle.image_source.specs.Ready.{HasKeptOwner, KeepsOwner}
use Rattle.image_source.proofs.Keeping.{owner_named}
use Rattle.row_parts.proofs.Indexes.{event_accessors, event_attributes}
use Rattle.row_parts.proofs.Zips.{ok_has}
use Rattle.image_properties.proofs.event_rows.event.Goals as goal

pub owner-requires : goal.owner-requires
owner-requires c =
    let image = c.args.source.now.image.now in
    let is : c.cell-value.result ≡ event_type image c.args.row = c.cell-value.ensures ∙ ap (λ stream. cell stream 0x14 c.args.row 2) c.tables.ensures.tables in
    subst (HasKeptOwner image c.args.source.now.kept.now) (sym is) (c.requires.ready.named.events c.args.row c.requires.there)

pub accessors-requires-clause-own : goal.accessors-requires-clause-own
accessors-requires-clause-own c =
    let image = c.args.source.now.image.now in
    subst (λ (i : ℕ). All (λ k. Contains (methods_of image c.args.type_row) (semantics_method image k)) (rows_with image 0x18 semantics_association i)) (event_accessors c.args.row ∙ ap (λ (r : ℕ). r * 2) (sym c.from.ensures))
    (c.requires.ready.owned.event_accessors c.args.type_row c.args.row c.requires.type_there c.requires.owned)

pub returns : goal.returns
returns c =
    let image = c.args.source.now.image.now in
    let kept = c.args.source.now.kept.now in
    let names = names_of kept in
    let row = c.args.row in
    let it = c.in_ok-name in
    let e = c.in_ok-name.ensures in
    let is : c.cell-value.result ≡ event_type image row = c.cell-value.ensures ∙ ap (λ stream. cell stream 0x14 row 2) c.tables.ensures.tables in
    let accessors = ap (λ (r : ℕ). r * 2) c.from.ensures ∙ sym (event_accessors row) in
    let attributes = ap (λ (r : ℕ). r * 32 + 10) c.from-2.ensures ∙ sym (event_attributes row) in
    record {
      name = ok_has (TextIs image (event_name image row)) c.text_of.result it.name e.0 c.text_of.ensures;
      flags = c.number_of-flags.ensures;
      of = subst (λ (value : ℕ). OwnerIs image names value it.of) is (owner_named image kept c.cell-value.result it.of (ok_has (KeepsOwner image kept c.cell-value.result) c.owner.result it.of e.1.0 c.owner.ensures));
      accessors = subst (λ (i : ℕ). AllZip (IsAccessor image c.args.type_row) (rows_with image 0x18 semantics_association i) it.accessors) accessors
          (ok_has (AllZip (IsAccessor image c.args.type_row) (rows_with image 0x18 semantics_association (c.from.result * 2))) c.accessors.result it.accessors e.1.1.0 c.accessors.ensures);
      attributes = subst (λ (i : ℕ). AllZip (IsAttribute image names) (rows_with image 0x0C attribute_parent i) it.attributes) attributes
          (ok_has (AllZip (IsAttribute image names) (rows_with image 0x0C attribute_parent (c.from-2.result * 32 + 10))) c.attributes.result it.attributes e.1.1.1 c.attributes.ensures);
    }

pub number_of-flags-requires-clause-bytes : goal.number_of-flags-requires-clause-bytes
number_of-flags-requires-clause-bytes c = c.requires.ready.bytes

pub text_of-requires-clause-meets : goal.text_of-requires-clause-meets
text_of-requires-clause-meets c = c.requires.ready.structure

pub accessors-requires-clause-bytes : goal.accessors-requires-clause-bytes
accessors-requires-clause-bytes c = c.requires.ready.bytes

pub accessors-requires-clause-meets : goal.accessors-requires-clause-meets
accessors-requires-clause-meets c = c.requires.ready.structure
