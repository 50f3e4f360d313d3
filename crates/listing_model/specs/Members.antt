-- Generic parameters, fields, properties and events in a listing (ECMA-335 II.10.1.7, II.16, II.17, II.18).
use Rattle.std.specs.Prelude.{ℕ, suc, ◌==◌, if◌then◌else◌, List, [], ◌∷◌, ◌++◌, length, map, slice_get, option_map, Option, None, Some}
use Rattle.std.specs.List.{flat_map}
use Rattle.il_lexer.specs.declared.types.TokenKind.TheVariants as kind
use Rattle.il_lexer.specs.declared.word.TheConstants as word
use Rattle.ilasm_grammar.specs.declared.nonterminals.TheConstants as n
use Rattle.ilasm_grammar.specs.declared.productions.TheConstants as p
use Rattle.type_terms.specs.declared.name.Scope.TheVariants.{Here}
use Rattle.type_terms.specs.declared.name.TypeId.{TypeId}
use Rattle.type_terms.specs.declared.term.Owner.{Owner, Name}
use Rattle.type_terms.specs.declared.reference.MethodRef.{MethodRef}
use Rattle.assembly_tree.specs.declared.assembly.ExternAssembly.{ExternAssembly}
use Rattle.assembly_tree.specs.declared.members.Accessor.{Accessor}
use Rattle.assembly_tree.specs.declared.members.Event.{Event}
use Rattle.assembly_tree.specs.declared.members.Field.{Field}
use Rattle.assembly_tree.specs.declared.members.Generic.{Generic}
use Rattle.assembly_tree.specs.declared.members.Method.{Method}
use Rattle.assembly_tree.specs.declared.members.Property.{Property}
use Rattle.listing_leaves.specs.Numbers.{natural, data_label}
use Rattle.listing_model.specs.Flags.{flag_items, typar_words, field_words, property_words}
use Rattle.listing_model.specs.References.{convention, arguments, method_ref}
use Rattle.listing_model.specs.Shown.{Shown, none, branch, Item, item, put, token, w, line, bracket, optional, star, commas}
use Rattle.listing_model.specs.Types.{name, type_of, owner}
use Rattle.listing_model.specs.Values.{constant_opt, customs}

-- `[n]`, apart from what stands before it
abbrev pub number_in_brackets : ℕ → Shown → Shown
number_in_brackets k after = bracket (token kind.Int (natural k) (w word.CLOSE_BRACKET after))

-- `type [k]`: the generic parameter with this number, counted from 1
abbrev pub typar_key : ℕ → Shown
typar_key k = w word.TYPE (branch p.TYPAR_KEY_BRACKET (number_in_brackets k none) none)

-- items in braces
abbrev pub braces : ℕ → ℕ → List Item → Shown
braces more end items = line word.OPEN_BRACE (star more end items (line word.CLOSE_BRACE none))

-- a method of a class, as its own class names it
abbrev pub own_reference : List TypeId → Method → MethodRef
own_reference path m =
    record { owner = Name (record { scope = Here; path = path }); name = m.name; sig = m.sig; args = None }

-- ---- data of fields

-- the bytes of the fields that have data, in order
abbrev pub contents_then : Option (List ℕ) → List (List ℕ) → List (List ℕ)
contents_then None more = more
contents_then (Some bytes) more = bytes ∷ more

abbrev pub field_contents : List Field → List (List ℕ)
field_contents [] = []
field_contents (f ∷ fs) = contents_then f.content (field_contents fs)

-- the number of the next data behind a field
abbrev pub behind_field : ℕ → Option (List ℕ) → ℕ
behind_field k None = k
behind_field k (Some bytes) = suc k

module _ (externs : List ExternAssembly) where
  -- ---- generic parameters

  -- the types between commas
  abbrev pub specs : List Owner → Shown → Shown
  specs os after = commas p.COMMA_SPEC_STAR_MORE p.COMMA_SPEC_STAR_END p.COMMA_SPEC (map (owner externs) os) after

  abbrev pub bounds : List Owner → Option Shown
  bounds [] = None
  bounds (o ∷ os) = Some (branch p.TYPAR_BOUNDS (w word.OPEN_PAREN (specs (o ∷ os) (w word.CLOSE_PAREN none))) none)

  abbrev pub typar : Generic → Item
  typar g =
      item p.TYPAR
      (star p.TYPAR_ATTR_STAR_MORE p.TYPAR_ATTR_STAR_END (flag_items n.TYPAR_ATTR p.TYPAR_ATTR_FLAGS typar_words g.flags)
      (optional p.TYPAR_BOUNDS_OPT_SOME p.TYPAR_BOUNDS_OPT_NONE (bounds g.bounds)
      (name g.name none)))

  abbrev pub typars : List Generic → Option Shown
  typars [] = None
  typars (g ∷ gs) =
      Some (branch p.TYPARS
      (w word.LESS (commas p.COMMA_TYPAR_STAR_MORE p.COMMA_TYPAR_STAR_END p.COMMA_TYPAR (map (typar) (g ∷ gs)) (w word.GREATER none)))
      none)

  abbrev pub typars_opt : List Generic → Shown → Shown
  typars_opt gs after = optional p.TYPARS_OPT_SOME p.TYPARS_OPT_NONE (typars gs) after

  -- ---- lines of `.param type`

  -- the lines for the generic parameters from this number on that have attributes: a line that names one, and its attributes
  abbrev pub typar_line : (ℕ → Item) → ℕ → ℕ → Generic → List Item
  typar_line head production k g = if length g.attributes == 0 then [] else head k ∷ customs externs production g.attributes

  abbrev pub typar_lines : (ℕ → Item) → ℕ → ℕ → List Generic → List Item
  typar_lines head production k [] = []
  typar_lines head production k (g ∷ gs) = typar_line head production k g ++ typar_lines head production (suc k) gs

  -- ---- fields

  abbrev pub offset_opt : Option ℕ → Shown → Shown
  offset_opt offset after =
      optional p.BRACKETED_INT_OPT_SOME p.BRACKETED_INT_OPT_NONE
      (option_map (λ k. branch p.BRACKETED_INT (number_in_brackets k none) none) offset) after

  -- `at D_k`, where it has data; `k` is the number of its data
  abbrev pub at_data : ℕ → Option (List ℕ) → Shown → Shown
  at_data k content after =
      optional p.AT_NAME_OPT_SOME p.AT_NAME_OPT_NONE
      (option_map (λ bytes. branch p.AT_NAME (w word.AT (token kind.Name (data_label k) none)) none) content) after

  -- a line, as what stands for `Field`
  unfoldable pub field : ℕ → Field → Item
  field k f =
      item p.FIELD
      (line word.DOT_FIELD
      (offset_opt f.offset
      (star p.FIELD_ATTR_STAR_MORE p.FIELD_ATTR_STAR_END (flag_items n.FIELD_ATTR p.FIELD_ATTR_FLAGS field_words f.flags)
      (put (type_of externs f.of)
      (name f.name
      (constant_opt f.constant
      (at_data k f.content none)))))))

  -- a field with its attributes, each below a production of its own
  abbrev pub field_items : ℕ → ℕ → ℕ → Field → List Item
  field_items production custom_production k f =
      item production (put (field k f) none) ∷ customs externs custom_production f.attributes

  -- fields with their attributes; `k` is the number of the first data
  abbrev pub fields : ℕ → ℕ → ℕ → List Field → List Item
  fields production custom_production k [] = []
  fields production custom_production k (f ∷ fs) =
      field_items production custom_production k f ++ fields production custom_production (behind_field k f.content) fs

  -- ---- accessors (II.17, II.18, II.22.28)

  abbrev pub accessor_line : ℕ → ℕ → List TypeId → Option Method → List Item
  accessor_line production k path None = []
  accessor_line production k path (Some m) =
      item production (line k (put (method_ref externs (own_reference path m)) none)) ∷ []

  -- what it does, by its kind (II.23.1.12)
  abbrev pub accessor : ℕ → List TypeId → List Method → Accessor → List Item
  accessor other path methods a =
      let m = slice_get methods a.method in
      if a.kind == 1 then accessor_line p.PROPERTY_ITEM_SET word.DOT_SET path m
      else if a.kind == 2 then accessor_line p.PROPERTY_ITEM_GET word.DOT_GET path m
      else if a.kind == 8 then accessor_line p.EVENT_ITEM_ADDON word.DOT_ADDON path m
      else if a.kind == 0x10 then accessor_line p.EVENT_ITEM_REMOVEON word.DOT_REMOVEON path m
      else if a.kind == 0x20 then accessor_line p.EVENT_ITEM_FIRE word.DOT_FIRE path m
      else accessor_line other word.DOT_OTHER path m

  -- ---- properties and events

  abbrev pub property_flags : ℕ → Shown → Shown
  property_flags flags after =
      star p.PROPERTY_ATTR_STAR_MORE p.PROPERTY_ATTR_STAR_END (flag_items n.PROPERTY_ATTR p.PROPERTY_ATTR_FLAGS property_words flags) after

  -- as what stands for `Property`, in a class with this path and these methods: its head, and in braces accessors and attributes
  unfoldable pub property : List TypeId → List Method → Property → Item
  property path methods x =
      item p.PROPERTY
      (line word.DOT_PROPERTY
      (property_flags x.flags
      (convention x.sig
      (put (type_of externs x.sig.ret)
      (name x.name
      (arguments externs x.sig
      (constant_opt x.constant
      (braces p.PROPERTY_ITEM_STAR_MORE p.PROPERTY_ITEM_STAR_END
      (flat_map (accessor p.PROPERTY_ITEM_OTHER path methods) x.accessors ++ customs externs p.PROPERTY_ITEM_CUSTOM x.attributes)))))))))

  -- as what stands for `Event`
  unfoldable pub event : List TypeId → List Method → Event → Item
  event path methods x =
      item p.EVENT
      (line word.DOT_EVENT
      (property_flags x.flags
      (put (owner externs x.of)
      (name x.name
      (braces p.EVENT_ITEM_STAR_MORE p.EVENT_ITEM_STAR_END
      (flat_map (accessor p.EVENT_ITEM_OTHER path methods) x.accessors ++ customs externs p.EVENT_ITEM_CUSTOM x.attributes))))))
