-- Pieces of a type, drawn one after the other.
use Rattle.std.specs.Prelude.{ℕ, List, fold, Option, None, Some}
use Rattle.il_lexer.specs.declared.word.TheConstants as word
use Rattle.ilasm_grammar.specs.declared.productions.TheConstants as p
use Rattle.type_terms.specs.declared.name.TypeId.{TypeId}
use Rattle.assembly_tree.specs.declared.assembly.ExternAssembly.{ExternAssembly}
use Rattle.assembly_tree.specs.declared.typedef.TypeDef.{TypeDef}
use Rattle.assembly_tree.specs.declared.typedef.TypeDef.TheOpen.{TypeDef-F}
use Rattle.listing_model.specs.Classes.{extends_opt, implements, layout_lines}
use Rattle.listing_model.specs.Flags.{type_flag_items}
use Rattle.listing_model.specs.Members.{typars_opt, property, event}
use Rattle.listing_model.specs.Methods.{method}
use Rattle.listing_model.specs.Shown.{Shown, none, line, optional, star}
use Rattle.listing_model.specs.Types.{type_id}
use Rattle.listing_model.specs.Values.{data_line}
use Rattle.print_leaves.specs.Page.{Page}
use Rattle.print_terms.specs.Rows.{under, in_row}
use Rattle.print_members.specs.Rows.{customs_drawn, typars_drawn, fields_drawn}

module _ (externs : List ExternAssembly) where
  -- what stands before the braces of a type
  abbrev pub class_head : {C : Type 0} → TypeDef-F C → Shown
  class_head t =
      line word.DOT_CLASS
      (star p.CLASS_ATTR_STAR_MORE p.CLASS_ATTR_STAR_END (type_flag_items t.flags)
      (type_id t.id
      (typars_opt externs t.generics
      (extends_opt externs t.extends
      (optional p.IMPLEMENTS_OPT_SOME p.IMPLEMENTS_OPT_NONE (implements externs t.implements) none)))))

  -- layout, attributes, generic parameters with attributes, and fields
  abbrev pub front_drawn : {C : Type 0} → Page → TypeDef-F C → ℕ → Page
  front_drawn q t k =
      fields_drawn externs (typars_drawn externs (customs_drawn externs (in_row q (layout_lines t.layout)) t.attributes) 1 t.generics) k t.fields

  -- methods, properties and events
  abbrev pub members_drawn : {C : Type 0} → List TypeId → Page → TypeDef-F C → Page
  members_drawn path q t =
      fold (λ q x. under q (event externs path t.methods x))
      (fold (λ q x. under q (property externs path t.methods x)) (fold (λ q m. under q (method externs m)) q t.methods) t.properties)
      t.events

-- the line of a field's data, where it has some
abbrev pub content_drawn : Page → ℕ → Option (List ℕ) → Page
content_drawn q k None = q
content_drawn q k (Some bytes) = under q (data_line k bytes)
