-- What fields, methods, properties and events of a listing, one after another, are read as (ECMA-335 II.10.2, II.15, II.16, II.17, II.18).
use Rattle.std.specs.Prelude.{ℕ, ◌+◌, ◌≡◌, Bool, true, false, List, [], ◌∷◌, ◌++◌, map, length, ⊤}
use Rattle.std.specs.List.{list_all}
use Rattle.ilasm_grammar.specs.declared.nonterminals.TheConstants as n
use Rattle.ilasm_grammar.specs.declared.productions.TheConstants as p
use Rattle.ilasm_grammar.specs.declared.symbol.Symbol.TheVariants.{Nonterminal}
use Rattle.type_terms.specs.declared.name.TypeId.{TypeId}
use Rattle.assembly_tree.specs.WellFormedMembers.{is_field, is_method, is_property, is_event, is_accessor_of}
use Rattle.assembly_tree.specs.declared.assembly.Assembly.{Assembly}
use Rattle.assembly_tree.specs.declared.assembly.ExternAssembly.{ExternAssembly}
use Rattle.assembly_tree.specs.declared.members.Event.{Event}
use Rattle.assembly_tree.specs.declared.members.Field.{Field}
use Rattle.assembly_tree.specs.declared.members.Method.{Method}
use Rattle.assembly_tree.specs.declared.members.Property.{Property}
use Rattle.source_model.specs.Forest as f
use Rattle.source_model.specs.Items.{Run, is_custom, begins_run}
use Rattle.source_model.specs.Members as read
use Rattle.source_model.specs.Nodes.{Around}
use Rattle.source_model.specs.Source.{Source}
use Rattle.listing_formed.specs.Laws.{Knows}
use Rattle.listing_growth.specs.Held.{is_field_held, is_method_held, is_property_held, is_event_held}
use Rattle.listing_members.specs.Laws.{HasContent, HasMethods, AreMethods}
use Rattle.listing_methods.specs.Laws.{is_short_code}
use Rattle.listing_model.specs.Grown.{body_of}
use Rattle.listing_model.specs.Members as written
use Rattle.listing_model.specs.Methods.{method}
use Rattle.listing_model.specs.Shown.{none, put, Item, item, size}
use Rattle.listing_model.specs.Values.{customs}
use Rattle.listing_reading.specs.Numbered.{numbered}
use Rattle.listing_reading.specs.Rows.{parts_at, IsEndOfRun}
use Rattle.listing_rows.specs.Laws.{runs_of, NonePass, AllOwned}
use Rattle.listing_rows.specs.Segments.{end_of, ItemsAgree, EachGrown}

-- ---- fields

-- fields as members or declarations of one production, whose attributes stand behind them as members or declarations of another
pub record IsFieldHead (production behind : ℕ) : Type 0 where
  pub is_field : (g : f.Forest) → read.is_field_part (f.part production g) ≡ true
  pub plain : (g : f.Forest) → is_custom (f.part production g) ≡ false
  pub begins : (g : f.Forest) → begins_run (f.part production g) ≡ true
  pub custom : (g : f.Forest) → is_custom (f.part behind g) ≡ true
  pub no_field : (g : f.Forest) → read.is_field_part (f.part behind g) ≡ false

-- a field with the attributes behind it; `k` is the number of its data
abbrev pub field_run : List ExternAssembly → ℕ → ℕ → ℕ → ℕ → Field → Run
field_run externs production custom at k x = record {
  head = f.part production (numbered at (put (written.field externs k x) none));
  customs = parts_at (at + size (put (written.field externs k x) none)) (customs externs custom x.attributes);
}

abbrev pub behind_customs : List ExternAssembly → ℕ → ℕ → ℕ → Field → ℕ
behind_customs externs custom at k x = end_of (at + size (put (written.field externs k x) none)) (customs externs custom x.attributes)

abbrev pub field_runs : List ExternAssembly → ℕ → ℕ → ℕ → ℕ → List Field → List Run
field_runs externs production custom at k [] = []
field_runs externs production custom at k (x ∷ xs) =
    field_run externs production custom at k x
    ∷ field_runs externs production custom (behind_customs externs custom at k x) (written.behind_field k x.content) xs

-- the source has the data of each, from this number on
abbrev pub HaveContents : Source → ℕ → List Field → Type 0
HaveContents s k [] = ⊤
HaveContents s k (x ∷ xs) = HasContent s x.of k x.content × HaveContents s (written.behind_field k x.content) xs

-- Such fields are read as they are. With anything behind them that begins with no attribute they are these runs; they end a run before
-- them, and their attributes belong to nothing around them.
pub record FieldRowsAreRead : Type 0 where
  pub all : (s : Source) (around : Around) (a : Assembly) → Knows s a → (production custom : ℕ) (xs : List Field) → list_all (is_field a) xs ≡ true →
      list_all is_field_held xs ≡ true → (at k : ℕ) → HaveContents s k xs → ItemsAgree s at (written.fields a.externs production custom k xs) →
      map (read.field s around) (field_runs a.externs production custom at k xs) ≡ xs
  pub runs : (externs : List ExternAssembly) (production custom : ℕ) → IsFieldHead production custom → (xs : List Field) (at k : ℕ) (after : List f.Part) → IsEndOfRun after →
      runs_of read.is_field_part (parts_at at (written.fields externs production custom k xs) ++ after)
      ≡ field_runs externs production custom at k xs ++ runs_of read.is_field_part after
  pub ends : (externs : List ExternAssembly) (production custom : ℕ) → IsFieldHead production custom → (xs : List Field) (at k : ℕ) (after : List f.Part) → IsEndOfRun after →
      IsEndOfRun (parts_at at (written.fields externs production custom k xs) ++ after)
  pub owned : (externs : List ExternAssembly) (production custom : ℕ) → IsFieldHead production custom → (xs : List Field) (at k : ℕ) (after : List f.Part) → AllOwned after →
      AllOwned (parts_at at (written.fields externs production custom k xs) ++ after)
  pub others : (externs : List ExternAssembly) (production custom : ℕ) (test : f.Part → Bool) → ((g : f.Forest) → test (f.part production g) ≡ false) →
      ((g : f.Forest) → test (f.part custom g) ≡ false) → (xs : List Field) (at k : ℕ) → NonePass test (parts_at at (written.fields externs production custom k xs))

-- ---- methods

abbrev pub method_items : List ExternAssembly → ℕ → List Method → List Item
method_items externs production ms = map (λ m. item production (put (method externs m) none)) ms

-- what stands below the production of each
abbrev pub forests_at : List ExternAssembly → ℕ → List Method → List f.Forest
forests_at externs at [] = []
forests_at externs at (m ∷ ms) = numbered at (method externs m).below ∷ forests_at externs (at + size (put (method externs m) none)) ms

-- the code of each isn't too long
abbrev pub are_short : List Method → Type 0
are_short [] = ⊤
are_short (m ∷ ms) = is_short_code m.body × are_short ms

-- Methods below a production that holds one are read as they are; each has its own name and signature.
pub record MethodRowsAreRead : Type 0 where
  pub forests : (externs : List ExternAssembly) (production : ℕ) → ((g : f.Forest) → read.is_method_part (f.part production g) ≡ true) → (ms : List Method) (at : ℕ) →
      read.method_forests (parts_at at (method_items externs production ms)) ≡ forests_at externs at ms
  pub all : (s : Source) (around : Around) (a : Assembly) → Knows s a → (production x : ℕ) → body_of production ≡ Nonterminal n.METHOD ∷ [] → (ms : List Method) →
      list_all (is_method a) ms ≡ true → list_all is_method_held ms ≡ true → are_short ms → (at : ℕ) → EachGrown x (method_items a.externs production ms) →
      ItemsAgree s at (method_items a.externs production ms) → map (read.method s around) (forests_at a.externs at ms) ≡ ms
  pub heads : (s : Source) (around : Around) (a : Assembly) → Knows s a → (production x : ℕ) → body_of production ≡ Nonterminal n.METHOD ∷ [] → (ms : List Method) →
      list_all (is_method a) ms ≡ true → list_all is_method_held ms ≡ true → (at : ℕ) → EachGrown x (method_items a.externs production ms) →
      ItemsAgree s at (method_items a.externs production ms) → AreMethods s around (forests_at a.externs at ms) ms

-- ---- properties and events

abbrev pub property_items : List ExternAssembly → List TypeId → List Method → List Property → List Item
property_items externs path ms xs = map (λ x. item p.MEMBER_PROPERTY (put (written.property externs path ms x) none)) xs

abbrev pub event_items : List ExternAssembly → List TypeId → List Method → List Event → List Item
event_items externs path ms xs = map (λ x. item p.MEMBER_EVENT (put (written.event externs path ms x) none)) xs

-- Properties and events of a class are read as they are, where their accessors are among its methods.
pub record PropertyRowsAreRead : Type 0 where
  pub properties : (s : Source) (around : Around) (a : Assembly) → Knows s a → (path : List TypeId) (gs : List f.Forest) (ms : List Method) →
      HasMethods s around a path gs ms → (xs : List Property) → list_all (is_property a) xs ≡ true → list_all is_property_held xs ≡ true →
      list_all (λ x. list_all (is_accessor_of (length ms)) x.accessors) xs ≡ true → (at : ℕ) → EachGrown n.MEMBER (property_items a.externs path ms xs) →
      ItemsAgree s at (property_items a.externs path ms xs) → map (read.property s around gs) (read.properties_in (parts_at at (property_items a.externs path ms xs))) ≡ xs
  pub events : (s : Source) (around : Around) (a : Assembly) → Knows s a → (path : List TypeId) (gs : List f.Forest) (ms : List Method) →
      HasMethods s around a path gs ms → (xs : List Event) → list_all (is_event a) xs ≡ true → list_all is_event_held xs ≡ true →
      list_all (λ x. list_all (is_accessor_of (length ms)) x.accessors) xs ≡ true → (at : ℕ) → EachGrown n.MEMBER (event_items a.externs path ms xs) →
      ItemsAgree s at (event_items a.externs path ms xs) → map (read.event s around gs) (read.events_in (parts_at at (event_items a.externs path ms xs))) ≡ xs
