-- What fields, generic parameters, properties and events of a listing are read as (ECMA-335 II.10.1.7, II.16, II.17, II.18).
use Rattle.std.specs.Prelude.{ℕ, suc, ◌+◌, ◌-◌, ◌==◌, ◌≡◌, ◌<◌, ◌^◌, ◌&&◌, nat_lt, Bool, true, false, if◌then◌else◌, List, [], ◌∷◌, ◌++◌, length, filter, option_map, Option, None, Some, ⊤}
use Rattle.std.specs.List.{list_all}
use Rattle.ilasm_grammar.specs.declared.productions.TheConstants as p
use Rattle.type_terms.specs.declared.name.Scope.TheVariants.{Here}
use Rattle.type_terms.specs.declared.name.TypeId.{TypeId}
use Rattle.type_terms.specs.declared.term.Owner.{Owner}
use Rattle.type_terms.specs.declared.term.SigType.{SigType}
use Rattle.assembly_tree.specs.WellFormedMembers.{is_field, is_generic, is_property, is_event, is_accessor_of, is_same_method}
use Rattle.assembly_tree.specs.WellFormedNames.{all_differ, is_name, is_type_name}
use Rattle.assembly_tree.specs.WellFormedTerms.{is_owner, is_signature}
use Rattle.assembly_tree.specs.declared.assembly.Assembly.{Assembly}
use Rattle.assembly_tree.specs.declared.assembly.ExternAssembly.{ExternAssembly}
use Rattle.assembly_tree.specs.declared.members.Event.{Event}
use Rattle.assembly_tree.specs.declared.members.Field.{Field}
use Rattle.assembly_tree.specs.declared.members.Generic.{Generic}
use Rattle.assembly_tree.specs.declared.members.Method.{Method}
use Rattle.assembly_tree.specs.declared.members.Property.{Property}
use Rattle.source_model.specs.Data.{bytes_at, data_named, data_size}
use Rattle.source_model.specs.Forest as f
use Rattle.source_model.specs.Items.{Run, is_custom, begins_run}
use Rattle.source_model.specs.Manifests.{attributes}
use Rattle.source_model.specs.Members as read
use Rattle.source_model.specs.Nodes.{Around, typars}
use Rattle.source_model.specs.References.{method_name, method_signature}
use Rattle.source_model.specs.Parameters.{typar_number, is_typar_line, speaks_of_typar, generics}
use Rattle.source_model.specs.Source.{Source}
use Rattle.source_model.specs.Types.{owners_in}
use Rattle.listing_formed.specs.Laws.{Knows}
use Rattle.listing_growth.specs.Held.{is_owner_held, is_signature_held, is_field_held, is_generic_held, is_property_held, is_event_held}
use Rattle.listing_leaves.specs.Numbers.{data_label}
use Rattle.listing_model.specs.Grown.{body_of, Grows}
use Rattle.listing_model.specs.Members as written
use Rattle.listing_model.specs.Shown.{Shown, none, branch, Item, opt_below, size}
use Rattle.listing_model.specs.Values.{customs}
use Rattle.listing_reading.specs.Numbered.{numbered, Agrees}
use Rattle.listing_reading.specs.Rows.{parts_at, IsEndOfRun}
use Rattle.listing_rows.specs.Laws.{runs_of, NonePass, AllOwned}
use Rattle.listing_rows.specs.Segments.{end_of, ItemsAgree}

-- ---- owners

-- owners between commas, with anything behind them that holds no owner
abbrev pub OwnersAreRead : Type 0
OwnersAreRead =
    (s : Source) (around : Around) (a : Assembly) → Knows s a → (os : List Owner) → list_all (is_owner a) os ≡ true → list_all is_owner_held os ≡ true →
    (at : ℕ) (after : Shown) → Agrees s at (written.specs a.externs os after) → ((k : ℕ) → owners_in s around (numbered k after) ≡ []) →
    owners_in s around (numbered at (written.specs a.externs os after)) ≡ os

-- ---- fields

abbrev pub offset_shown : Option ℕ → Option Shown
offset_shown o = option_map (λ k. branch p.BRACKETED_INT (written.number_in_brackets k none) none) o

-- the source has the bytes of a field of this type as the data with this number, and they are as many as the type's values have
pub record IsGiven (s : Source) (of : SigType) (k : ℕ) (bytes : List ℕ) : Type 0 where
  pub few : k < 2 ^ 128
  pub sized : data_size s of ≡ Some (length bytes)
  pub given : bytes_at s (data_named s (data_label k)) ≡ bytes

abbrev pub HasContent : Source → SigType → ℕ → Option (List ℕ) → Type 0
HasContent s of k None = ⊤
HasContent s of k (Some bytes) = IsGiven s of k bytes

-- a field, with the attributes behind it
abbrev pub FieldsAreRead : Type 0
FieldsAreRead =
    (s : Source) (around : Around) (a : Assembly) → Knows s a → (x : Field) → is_field a x ≡ true → is_field_held x ≡ true → (k at : ℕ) →
    HasContent s x.of k x.content → Agrees s at (written.field a.externs k x).below → (customs : List f.Part) → attributes s around customs ≡ x.attributes →
    read.field_from s around (numbered at (written.field a.externs k x).below) customs ≡ x

-- ---- generic parameters

-- A line that names a generic parameter by its number, counted from 1: a member or an item of one production, whose attributes stand
-- behind it as members or items of another.
pub record IsTyparHead (head : ℕ → Item) (production : ℕ) : Type 0 where
  pub is_line : (k at : ℕ) → is_typar_line (f.part (head k).production (numbered at (head k).below)) ≡ true
  pub plain : (k at : ℕ) → is_custom (f.part (head k).production (numbered at (head k).below)) ≡ false
  pub begins : (k at : ℕ) → begins_run (f.part (head k).production (numbered at (head k).below)) ≡ true
  pub custom : (g : f.Forest) → is_custom (f.part production g) ≡ true
  pub no_line : (g : f.Forest) → is_typar_line (f.part production g) ≡ false
  pub number : (s : Source) (names : List (List ℕ)) (k at : ℕ) → k < 2 ^ 128 → Agrees s at (head k).below → typar_number s names (numbered at (head k).below) ≡ k - 1

-- those of the generic parameters from this number on that have attributes, with these
abbrev pub typar_run : List ExternAssembly → (ℕ → Item) → ℕ → ℕ → ℕ → Generic → List Run
typar_run externs head production at k x =
    if length x.attributes == 0 then []
    else record { head = f.part (head k).production (numbered at (head k).below); customs = parts_at (at + size (head k).below) (customs externs production x.attributes) } ∷ []

abbrev pub typar_runs : List ExternAssembly → (ℕ → Item) → ℕ → ℕ → ℕ → List Generic → List Run
typar_runs externs head production at k [] = []
typar_runs externs head production at k (x ∷ gs) =
    typar_run externs head production at k x
    ++ typar_runs externs head production (end_of at (written.typar_line externs head production k x)) (suc k) gs

-- Such lines, with anything behind them that begins with no attribute, are these runs; they end a run before them, and their attributes
-- belong to nothing around them.
pub record TyparLinesAreRead : Type 0 where
  pub runs : (externs : List ExternAssembly) (head : ℕ → Item) (production : ℕ) → IsTyparHead head production → (gs : List Generic) (k at : ℕ) (after : List f.Part) →
      IsEndOfRun after → runs_of is_typar_line (parts_at at (written.typar_lines externs head production k gs) ++ after)
      ≡ typar_runs externs head production at k gs ++ runs_of is_typar_line after
  pub ends : (externs : List ExternAssembly) (head : ℕ → Item) (production : ℕ) → IsTyparHead head production → (gs : List Generic) (k at : ℕ) (after : List f.Part) →
      IsEndOfRun after → IsEndOfRun (parts_at at (written.typar_lines externs head production k gs) ++ after)
  pub owned : (externs : List ExternAssembly) (head : ℕ → Item) (production : ℕ) → IsTyparHead head production → (gs : List Generic) (k at : ℕ) (after : List f.Part) →
      AllOwned after → AllOwned (parts_at at (written.typar_lines externs head production k gs) ++ after)
  pub others : (externs : List ExternAssembly) (head : ℕ → Item) (production : ℕ) → IsTyparHead head production → (test : f.Part → Bool) →
      ((k at : ℕ) → test (f.part (head k).production (numbered at (head k).below)) ≡ false) → ((g : f.Forest) → test (f.part production g) ≡ false) →
      (gs : List Generic) (k at : ℕ) → NonePass test (parts_at at (written.typar_lines externs head production k gs))

-- The generic parameters of a class or a method, with their attributes, where those are all its lines of the kind; and how many they are.
pub record GenericsAreRead : Type 0 where
  pub read : (s : Source) (around : Around) (a : Assembly) → Knows s a → (head : ℕ → Item) (production : ℕ) → IsTyparHead head production → (gs : List Generic) →
      list_all (is_generic a) gs ≡ true → list_all is_generic_held gs ≡ true → 1 + length gs < 2 ^ 128 → (at : ℕ) →
      ItemsAgree s at (written.typar_lines a.externs head production 1 gs) → (k : ℕ) → Agrees s k (opt_below (written.typars a.externs gs)) →
      (g : f.Forest) → f.child (p.TYPARS_OPT_SOME ∷ []) g ≡ numbered k (opt_below (written.typars a.externs gs)) → (rs : List Run) →
      filter speaks_of_typar rs ≡ typar_runs a.externs head production at 1 gs → generics s around g rs ≡ gs
  pub counted : (externs : List ExternAssembly) (gs : List Generic) (g : f.Forest) (k : ℕ) →
      f.child (p.TYPARS_OPT_SOME ∷ []) g ≡ numbered k (opt_below (written.typars externs gs)) → length (typars g) ≡ length gs

-- ---- accessors

-- the forests are those of these methods: each has the name and the signature of its own
abbrev pub AreMethods : Source → Around → List f.Forest → List Method → Type 0
AreMethods s around [] [] = ⊤
AreMethods s around [] (m ∷ ms) = ⊥
AreMethods s around (g ∷ gs) [] = ⊥
AreMethods s around (g ∷ gs) (m ∷ ms) =
    (method_name s g ≡ m.name) × (method_signature s (read.in_method around g) g ≡ m.sig) × AreMethods s around gs ms

-- a method's name and signature meet their conditions, and are such as a tree in memory holds
abbrev pub is_head : Assembly → Method → Bool
is_head a m = is_name m.name && (is_signature a m.sig && is_signature_held m.sig)

-- a class of this path, which is a declared one, with these methods, of which no two are the same
pub record HasMethods (s : Source) (around : Around) (a : Assembly) (path : List TypeId) (gs : List f.Forest) (ms : List Method) : Type 0 where
  pub named : is_type_name a (record { scope = Here; path = path }) ≡ true
  pub inside : nat_lt 0 (length path) ≡ true
  pub heads : list_all (is_head a) ms ≡ true
  pub differ : all_differ is_same_method ms ≡ true
  pub read : AreMethods s around gs ms

-- A property and an event, where their accessors are among the methods of their class.
pub record PropertiesAreRead : Type 0 where
  pub properties : (s : Source) (around : Around) (a : Assembly) → Knows s a → (path : List TypeId) (gs : List f.Forest) (ms : List Method) →
      HasMethods s around a path gs ms → (x : Property) → is_property a x ≡ true → is_property_held x ≡ true → list_all (is_accessor_of (length ms)) x.accessors ≡ true →
      Grows (body_of p.PROPERTY) (written.property a.externs path ms x).below → (at : ℕ) → Agrees s at (written.property a.externs path ms x).below →
      read.property s around gs (numbered at (written.property a.externs path ms x).below) ≡ x
  pub events : (s : Source) (around : Around) (a : Assembly) → Knows s a → (path : List TypeId) (gs : List f.Forest) (ms : List Method) →
      HasMethods s around a path gs ms → (x : Event) → is_event a x ≡ true → is_event_held x ≡ true → list_all (is_accessor_of (length ms)) x.accessors ≡ true →
      Grows (body_of p.EVENT) (written.event a.externs path ms x).below → (at : ℕ) → Agrees s at (written.event a.externs path ms x).below →
      read.event s around gs (numbered at (written.event a.externs path ms x).below) ≡ x
