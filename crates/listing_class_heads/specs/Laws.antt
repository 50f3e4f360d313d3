-- What the heads of types of a listing are read as (ECMA-335 II.10.1, II.10.2, II.22.37).
use Rattle.std.specs.Prelude.{ℕ, ◌≡◌, ◌<◌, ◌^◌, ◌&&◌, Bool, true, List, [], ◌∷◌, Option}
use Rattle.std.specs.List.{list_all}
use Rattle.ilasm_grammar.specs.declared.productions.TheConstants as p
use Rattle.il_lexer.specs.declared.word.TheConstants as word
use Rattle.type_terms.specs.declared.name.TypeId.{TypeId}
use Rattle.type_terms.specs.declared.term.Owner.{Owner}
use Rattle.assembly_tree.specs.WellFormedNames.{option_all, rises, is_type_id, is_system_object}
use Rattle.assembly_tree.specs.WellFormedTerms.{is_owner}
use Rattle.assembly_tree.specs.WellFormedTypes.{is_base, is_owner_before}
use Rattle.assembly_tree.specs.declared.assembly.Assembly.{Assembly}
use Rattle.assembly_tree.specs.declared.assembly.ExternAssembly.{ExternAssembly}
use Rattle.assembly_tree.specs.declared.members.Generic.{Generic}
use Rattle.source_model.specs.Classes.{base, is_root, rising}
use Rattle.source_model.specs.Flags.{type_flags}
use Rattle.source_model.specs.Forest as f
use Rattle.source_model.specs.Nodes.{Around, type_id, class_token}
use Rattle.source_model.specs.Source.{Source}
use Rattle.source_model.specs.Types.{owners_in}
use Rattle.listing_formed.specs.Laws.{Knows}
use Rattle.listing_growth.specs.Held.{is_owner_held}
use Rattle.listing_model.specs.Classes as written
use Rattle.listing_model.specs.Flags.{type_flag_items}
use Rattle.listing_model.specs.Grown.{body_of, Grows}
use Rattle.listing_model.specs.Members.{typars, typars_opt, braces}
use Rattle.listing_model.specs.Shown.{Shown, Item, line, star, optional, opt_below}
use Rattle.listing_model.specs.Types as shown
use Rattle.listing_reading.specs.Numbered.{numbered, Agrees, place}

-- what the head of a type says
pub record Head : Type 0 where
  pub id : TypeId
  pub flags : ℕ
  pub generics : List Generic
  pub extends : Option Owner
  pub implements : List Owner

-- what stands below the production of a type with this head and these members
abbrev pub class_shown : List ExternAssembly → Head → List Item → Shown
class_shown externs h members =
    line word.DOT_CLASS
    (star p.CLASS_ATTR_STAR_MORE p.CLASS_ATTR_STAR_END (type_flag_items h.flags)
    (shown.type_id h.id
    (typars_opt externs h.generics
    (written.extends_opt externs h.extends
    (optional p.IMPLEMENTS_OPT_SOME p.IMPLEMENTS_OPT_NONE (written.implements externs h.implements) (braces p.MEMBER_STAR_MORE p.MEMBER_STAR_END members))))))

-- it meets its conditions, and is such as a tree in memory holds
pub record IsFormed (a : Assembly) (h : Head) : Type 0 where
  pub id : is_type_id h.id ≡ true
  pub flags : h.flags < 2 ^ 32
  pub extends : option_all (is_owner a) h.extends ≡ true
  pub rising : rises is_owner_before h.implements ≡ true
  pub implements : list_all (is_owner a) h.implements ≡ true
  pub extends_held : option_all is_owner_held h.extends ≡ true
  pub implements_held : list_all is_owner_held h.implements ≡ true

-- where its generic parameters stand
abbrev pub typars_place : Assembly → Head → List Item → ℕ → ℕ
typars_place a h members at = place 3 at (class_shown a.externs h members)

-- The name, the flags, the base and the interfaces of a type, whatever members it has; and where its generic parameters stand, in a
-- source that has it.
pub record ClassHeadsAreRead : Type 0 where
  pub ids : (s : Source) (a : Assembly) (h : Head) → IsFormed a h → (members : List Item) → Grows (body_of p.CLASS) (class_shown a.externs h members) → (at : ℕ) →
      Agrees s at (class_shown a.externs h members) → type_id s (class_token (numbered at (class_shown a.externs h members))) ≡ h.id
  pub flags : (s : Source) (a : Assembly) (h : Head) → IsFormed a h → (members : List Item) → Grows (body_of p.CLASS) (class_shown a.externs h members) → (at : ℕ) →
      Agrees s at (class_shown a.externs h members) → type_flags s (numbered at (class_shown a.externs h members)) ≡ h.flags
  pub bases : (s : Source) (around : Around) (a : Assembly) → Knows s a → (h : Head) → IsFormed a h → (members : List Item) →
      Grows (body_of p.CLASS) (class_shown a.externs h members) → (at : ℕ) → Agrees s at (class_shown a.externs h members) →
      (top : Bool) → is_base top h.id h.flags h.extends ≡ true → ((top && is_system_object h.id) ≡ true → is_root around.path ≡ true) →
      base s around (numbered at (class_shown a.externs h members)) ≡ h.extends
  pub interfaces : (s : Source) (around : Around) (a : Assembly) → Knows s a → (h : Head) → IsFormed a h → (members : List Item) →
      Grows (body_of p.CLASS) (class_shown a.externs h members) → (at : ℕ) → Agrees s at (class_shown a.externs h members) →
      rising (owners_in s around (f.child (p.IMPLEMENTS_OPT_SOME ∷ []) (numbered at (class_shown a.externs h members)))) ≡ h.implements
  pub typars : (s : Source) (a : Assembly) (h : Head) → IsFormed a h → (members : List Item) → Grows (body_of p.CLASS) (class_shown a.externs h members) → (at : ℕ) →
      Agrees s at (class_shown a.externs h members) →
      (f.child (p.TYPARS_OPT_SOME ∷ []) (numbered at (class_shown a.externs h members)) ≡ numbered (typars_place a h members at) (opt_below (typars a.externs h.generics)))
      × Agrees s (typars_place a h members at) (opt_below (typars a.externs h.generics))
