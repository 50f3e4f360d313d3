-- Members of a type that hold nothing of what is sought.
use Rattle.std.proofs.Common.{◌≡◌, ℕ, suc, nat_eq, Bool, true, false, cond, List, [], ◌∷◌, length, Option, None, Some}
use Rattle.ilasm_grammar.specs.declared.productions.TheConstants as p
use Rattle.type_terms.specs.declared.name.TypeId.{TypeId}
use Rattle.assembly_tree.specs.declared.assembly.ExternAssembly.{ExternAssembly}
use Rattle.assembly_tree.specs.declared.members.Attribute.{Attribute}
use Rattle.assembly_tree.specs.declared.members.Event.{Event}
use Rattle.assembly_tree.specs.declared.members.Field.{Field}
use Rattle.assembly_tree.specs.declared.members.Generic.{Generic}
use Rattle.assembly_tree.specs.declared.members.Method.{Method}
use Rattle.assembly_tree.specs.declared.members.Property.{Property}
use Rattle.assembly_tree.specs.declared.typedef.Layout.{Layout}
use Rattle.source_model.specs.Forest as f
use Rattle.listing_groups.specs.Laws.{method_items, property_items, event_items}
use Rattle.listing_model.specs.Classes.{layout_lines, typar_member}
use Rattle.listing_model.specs.Grown.{body_of}
use Rattle.listing_model.specs.Members.{fields, behind_field, typar_line, typar_lines}
use Rattle.listing_model.specs.Values.{customs}
use Rattle.listing_reading.specs.Below.{cant_stand}
use Rattle.listing_rows.specs.Laws.{PiecesAreRead}
use Rattle.listing_rows.specs.Segments.{EachLacks}
use Rattle.listing_nesting.specs.Laws.{OthersLack}

module _ (sought : List ℕ) (w : OthersLack sought) (pieces : PiecesAreRead) (externs : List ExternAssembly) where
  pub lack_lines : (l : Option Layout) → EachLacks sought (layout_lines l)
  lack_lines None = tt
  lack_lines (Some l) = (w.pack.0, w.pack.1, (w.size.0, w.size.1, tt))

  pub lack_customs : (xs : List Attribute) → EachLacks sought (customs externs p.MEMBER_CUSTOM xs)
  lack_customs [] = tt
  lack_customs (x ∷ xs) = (w.custom.0, w.custom.1, lack_customs xs)

  lack_typar : (c : Bool) (xs : List Attribute) (k : ℕ) → EachLacks sought (cond c [] (typar_member k ∷ customs externs p.MEMBER_CUSTOM xs))
  lack_typar true xs k = tt
  lack_typar false xs k = (w.param.0, w.param.1, lack_customs xs)

  pub lack_typars : (gs : List Generic) (k : ℕ) → EachLacks sought (typar_lines externs typar_member p.MEMBER_CUSTOM k gs)
  lack_typars [] k = tt
  lack_typars (x ∷ gs) k =
      pieces.lack sought (typar_line externs typar_member p.MEMBER_CUSTOM k x) (typar_lines externs typar_member p.MEMBER_CUSTOM (suc k) gs)
      (lack_typar (nat_eq (length x.attributes) 0) x.attributes k) (lack_typars gs (suc k))

  pub lack_fields : (xs : List Field) (k : ℕ) → EachLacks sought (fields externs p.MEMBER_FIELD p.MEMBER_CUSTOM k xs)
  lack_fields [] k = tt
  lack_fields (x ∷ xs) k = (
    w.field.0,
    w.field.1,
    pieces.lack sought (customs externs p.MEMBER_CUSTOM x.attributes) (fields externs p.MEMBER_FIELD p.MEMBER_CUSTOM (behind_field k x.content) xs)
        (lack_customs x.attributes) (lack_fields xs (behind_field k x.content)),
  )

  pub lack_properties : (path : List TypeId) (ms : List Method) (xs : List Property) → EachLacks sought (property_items externs path ms xs)
  lack_properties path ms [] = tt
  lack_properties path ms (x ∷ xs) = (w.property.0, w.property.1, lack_properties path ms xs)

  pub lack_events : (path : List TypeId) (ms : List Method) (xs : List Event) → EachLacks sought (event_items externs path ms xs)
  lack_events path ms [] = tt
  lack_events path ms (x ∷ xs) = (w.event.0, w.event.1, lack_events path ms xs)

pub lack_methods : (sought : List ℕ) → (f.is_among sought p.MEMBER_METHOD ≡ false) × (cant_stand sought (body_of p.MEMBER_METHOD) ≡ true) → (externs : List ExternAssembly) (ms : List Method) →
    EachLacks sought (method_items externs p.MEMBER_METHOD ms)
lack_methods sought w externs [] = tt
lack_methods sought w externs (m ∷ ms) = (w.0, w.1, lack_methods sought w externs ms)
