-- Types in a listing, each with those that it nests (ECMA-335 II.10).
use Rattle.std.specs.Prelude.{ℕ, ◌+◌, List, [], ◌∷◌, ◌++◌, length, map, option_map, Option, None, Some}
use Rattle.std.specs.List.{flat_map}
use Rattle.il_lexer.specs.declared.types.TokenKind.TheVariants as kind
use Rattle.il_lexer.specs.declared.word.TheConstants as word
use Rattle.ilasm_grammar.specs.declared.productions.TheConstants as p
use Rattle.type_terms.specs.declared.name.TypeId.{TypeId}
use Rattle.type_terms.specs.declared.term.Owner.{Owner}
use Rattle.assembly_tree.specs.declared.assembly.ExternAssembly.{ExternAssembly}
use Rattle.assembly_tree.specs.declared.typedef.Layout.{Layout}
use Rattle.assembly_tree.specs.declared.typedef.TypeDef.{TypeDef}
use Rattle.assembly_tree.specs.declared.typedef.TypeDef.TheOpen.{TypeDef-F}
use Rattle.assembly_tree.specs.declared.typedef.TypeDef.TheFolds.{fold-TypeDef}
use Rattle.listing_leaves.specs.Numbers.{natural}
use Rattle.listing_model.specs.Flags.{type_flag_items}
use Rattle.listing_model.specs.Members.{typars_opt, typar_key, typar_lines, fields, field_contents, property, event, braces, specs}
use Rattle.listing_model.specs.Methods.{method}
use Rattle.listing_model.specs.Shown.{Shown, none, branch, Item, item, put, token, w, line, optional, star}
use Rattle.listing_model.specs.Types.{type_id, owner}
use Rattle.listing_model.specs.Values.{customs}

-- A type that is nested in those of a path, whose first data has this number; and the data of its fields and of the types in it, in
-- the order in which the fields stand in the listing.
pub record ClassShown : Type 0 where
  pub contents : List (List ℕ)
  pub shown : List TypeId → ℕ → Item

-- the data of types one after another
abbrev pub all_contents : List ClassShown → List (List ℕ)
all_contents cs = flat_map (λ c. c.contents) cs

-- types one after another, each below this production
abbrev pub classes_from : ℕ → List TypeId → ℕ → List ClassShown → List Item
classes_from production outer k [] = []
classes_from production outer k (c ∷ cs) =
    item production (put (c.shown outer k) none) ∷ classes_from production outer (k + length c.contents) cs

-- ---- lines

-- `.pack` and `.size`, where it has a layout
abbrev pub layout_lines : Option Layout → List Item
layout_lines None = []
layout_lines (Some l) =
    item p.MEMBER_PACK (line word.DOT_PACK (token kind.Int (natural l.pack) none))
    ∷ item p.MEMBER_SIZE (line word.DOT_SIZE (token kind.Int (natural l.size) none)) ∷ []

-- `.param type [k]` among the members of a class
abbrev pub typar_member : ℕ → Item
typar_member k = item p.MEMBER_PARAM (line word.DOT_PARAM (typar_key k))

module _ (externs : List ExternAssembly) where
  abbrev pub extends_opt : Option Owner → Shown → Shown
  extends_opt base after =
      optional p.EXTENDS_OPT_SOME p.EXTENDS_OPT_NONE
      (option_map (λ o. branch p.EXTENDS (w word.EXTENDS (put (owner externs o) none)) none) base) after

  abbrev pub implements : List Owner → Option Shown
  implements [] = None
  implements (o ∷ os) = Some (branch p.IMPLEMENTS (w word.IMPLEMENTS (specs externs (o ∷ os) none)) none)

  -- layout, attributes, generic parameters with attributes, fields, methods, properties, events, and the types that it nests
  abbrev pub class_members : TypeDef-F ClassShown → List TypeId → ℕ → List Item
  class_members t path k =
      layout_lines t.layout
      ++ (customs externs p.MEMBER_CUSTOM t.attributes
      ++ (typar_lines externs typar_member p.MEMBER_CUSTOM 1 t.generics
      ++ (fields externs p.MEMBER_FIELD p.MEMBER_CUSTOM k t.fields
      ++ (map (λ m. item p.MEMBER_METHOD (put (method externs m) none)) t.methods
      ++ (map (λ x. item p.MEMBER_PROPERTY (put (property externs path t.methods x) none)) t.properties
      ++ (map (λ x. item p.MEMBER_EVENT (put (event externs path t.methods x) none)) t.events
      ++ classes_from p.MEMBER_CLASS path (k + length (field_contents t.fields)) t.nested))))))

  -- as what stands for `Class`
  abbrev pub class_item : TypeDef-F ClassShown → List TypeId → ℕ → Item
  class_item t path k =
      item p.CLASS
      (line word.DOT_CLASS
      (star p.CLASS_ATTR_STAR_MORE p.CLASS_ATTR_STAR_END (type_flag_items t.flags)
      (type_id t.id
      (typars_opt externs t.generics
      (extends_opt t.extends
      (optional p.IMPLEMENTS_OPT_SOME p.IMPLEMENTS_OPT_NONE (implements t.implements)
      (braces p.MEMBER_STAR_MORE p.MEMBER_STAR_END (class_members t path k))))))))

  abbrev pub class_step : TypeDef-F ClassShown → ClassShown
  class_step t = record {
    contents = field_contents t.fields ++ all_contents t.nested;
    shown = λ outer k. class_item t (outer ++ t.id ∷ []) k;
  }

  unfoldable pub class : TypeDef → ClassShown
  class t = fold-TypeDef ClassShown (class_step) t
