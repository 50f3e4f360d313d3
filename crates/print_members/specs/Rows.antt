-- Rows of attributes, generic parameters, fields and accessors, drawn one after the other.
use Rattle.std.specs.Prelude.{ℕ, suc, ◌==◌, Bool, true, false, if◌then◌else◌, List, [], ◌∷◌, length, fold, slice_get, Option, None, Some}
use Rattle.il_lexer.specs.declared.word.TheConstants as word
use Rattle.type_terms.specs.declared.name.TypeId.{TypeId}
use Rattle.assembly_tree.specs.declared.assembly.ExternAssembly.{ExternAssembly}
use Rattle.assembly_tree.specs.declared.members.Accessor.{Accessor}
use Rattle.assembly_tree.specs.declared.members.Attribute.{Attribute}
use Rattle.assembly_tree.specs.declared.members.Event.{Event}
use Rattle.assembly_tree.specs.declared.members.Field.{Field}
use Rattle.assembly_tree.specs.declared.members.Generic.{Generic}
use Rattle.assembly_tree.specs.declared.members.Method.{Method}
use Rattle.assembly_tree.specs.declared.members.Property.{Property}
use Rattle.listing_model.specs.Members.{typar_key, field, behind_field, own_reference, property_flags}
use Rattle.listing_model.specs.References.{convention, arguments, method_ref}
use Rattle.listing_model.specs.Shown.{Shown, none, put, w, line}
use Rattle.listing_model.specs.Types.{name, type_of, owner}
use Rattle.listing_model.specs.Values.{truth, constant_opt, custom}
use Rattle.print_leaves.specs.Page.{Page, drawn}
use Rattle.print_terms.specs.Rows.{under}

-- `bool(true)` or `bool(false)`
abbrev pub truth_drawn : Page → Bool → Page
truth_drawn p b = drawn p (w word.BOOL (w word.OPEN_PAREN (put (truth b) (w word.CLOSE_PAREN none))))

-- what an accessor does, by its kind (ECMA-335 II.23.1.12)
abbrev pub accessor_word : ℕ → ℕ
accessor_word kind =
    if kind == 1 then word.DOT_SET
    else if kind == 2 then word.DOT_GET
    else if kind == 8 then word.DOT_ADDON
    else if kind == 0x10 then word.DOT_REMOVEON
    else if kind == 0x20 then word.DOT_FIRE
    else word.DOT_OTHER

module _ (externs : List ExternAssembly) where
  -- attributes, a line each
  abbrev pub customs_drawn : Page → List Attribute → Page
  customs_drawn p attributes = fold (λ q a. under q (custom externs a)) p attributes

  -- the line of the generic parameter with this number, and its attributes, where it has some
  abbrev pub typar_drawn : Page → ℕ → Generic → Page
  typar_drawn p k g = if length g.attributes == 0 then p else customs_drawn (drawn p (line word.DOT_PARAM (typar_key k))) g.attributes

  abbrev pub typars_drawn : Page → ℕ → List Generic → Page
  typars_drawn p k [] = p
  typars_drawn p k (g ∷ gs) = typars_drawn (typar_drawn p k g) (suc k) gs

  -- fields with their attributes; `k` is the number of the first data
  abbrev pub field_drawn : Page → ℕ → Field → Page
  field_drawn p k f = customs_drawn (under p (field externs k f)) f.attributes

  abbrev pub fields_drawn : Page → ℕ → List Field → Page
  fields_drawn p k [] = p
  fields_drawn p k (f ∷ fs) = fields_drawn (field_drawn p k f) (behind_field k f.content) fs

  -- the line of an accessor, where the class has its method
  abbrev pub accessor_drawn : Page → ℕ → List TypeId → Option Method → Page
  accessor_drawn p k path None = p
  accessor_drawn p k path (Some m) = drawn p (line k (put (method_ref externs (own_reference path m)) none))

  abbrev pub accessor_step : List TypeId → List Method → Page → Accessor → Page
  accessor_step path methods p a = accessor_drawn p (accessor_word a.kind) path (slice_get methods a.method)

  -- accessors and attributes in braces
  abbrev pub inner_drawn : List TypeId → List Method → Page → List Accessor → List Attribute → Page
  inner_drawn path methods p accessors attributes =
      drawn (customs_drawn (fold (accessor_step path methods) (drawn p (line word.OPEN_BRACE none)) accessors) attributes) (line word.CLOSE_BRACE none)

  -- what stands before the braces of a property, and of an event
  abbrev pub property_head : Property → Shown
  property_head x =
      line word.DOT_PROPERTY
      (property_flags externs x.flags
      (convention x.sig
      (put (type_of externs x.sig.ret)
      (name x.name
      (arguments externs x.sig
      (constant_opt x.constant none))))))

  abbrev pub event_head : Event → Shown
  event_head x = line word.DOT_EVENT (property_flags externs x.flags (put (owner externs x.of) (name x.name none)))
