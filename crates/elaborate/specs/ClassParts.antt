-- The parts of a class (ECMA-335 II.10.1, II.22.37).
use Rattle.std.specs.Prelude.{◌≡◌, ℕ, ◌<◌, ◌==◌, ◌||◌, ◌^◌, Bool, List, [], ◌∷◌, ◌++◌, length, map}
use Rattle.ilasm_grammar.specs.declared.productions.TheConstants.{IMPLEMENTS_OPT_SOME, MEMBER_EVENT, MEMBER_PROPERTY}
use Rattle.source_model.specs.Classes.{base, core_scope, rising}
use Rattle.source_model.specs.Data.{layout}
use Rattle.source_model.specs.Flags.{type_flags}
use Rattle.source_model.specs.Forest.{Forest, none, child}
use Rattle.source_model.specs.Items.{declarations, members, own_customs, runs}
use Rattle.source_model.specs.Manifests.{attributes}
use Rattle.source_model.specs.Members.{events, fields, methods, properties}
use Rattle.source_model.specs.Names.{extern_key, externs}
use Rattle.source_model.specs.Nodes.{Around, class_token, nothing_around, type_id}
use Rattle.source_model.specs.Parameters.{generics}
use Rattle.source_model.specs.Source.{Source}
use Rattle.source_model.specs.Types.{owners_in}
use Rattle.source_nodes.specs.Readers.{Reads}
use Rattle.elaborate.specs.declared.assemblies.Globals.{Globals}
use Rattle.elaborate.specs.declared.classes.Known.{Known}
use Rattle.elaborate.specs.declared.class_heads.Head.{Head}
use Rattle.elaborate.specs.declared.class_members.Accessed.{Accessed}
use Rattle.elaborate.specs.declared.class_members.Members.{Members}

-- what stands around the parts of a class that stands here, from what stands below its production
abbrev pub inner : Source → Around → Forest → Around
inner s a f = record { path = a.path ++ type_id s (class_token f) ∷ []; class = f; method = none }

-- what is known of a source wherever one of its classes is read
pub record IsKnown (x : Known) (s : Source) : Type 0 where
  pub reads : Reads x.reader s
  pub keys-are : x.keys.now ≡ map (extern_key s) (externs s)
  pub few : length (externs s) < 2 ^ 32
  pub none-is : x.none.now ≡ []
  pub core-is : x.core ≡ core_scope s

-- what a class says before its members
pub record IsHead (s : Source) (a : Around) (f : Forest) (x : Head) : Type 0 where
  pub id-is : x.id ≡ type_id s (class_token f)
  pub flags-are : x.flags ≡ type_flags s f
  pub layout-is : x.layout ≡ layout s f
  pub base-is : x.extends ≡ base s a f
  pub interfaces-are : x.implements ≡ rising (owners_in s a (child (IMPLEMENTS_OPT_SOME ∷ []) f))

-- a property or an event among the members of a class
abbrev pub is_accessed : ℕ → Bool
is_accessed p = p == MEMBER_PROPERTY || p == MEMBER_EVENT

-- the members that have accessors
pub record AreAccessed (s : Source) (a : Around) (f : Forest) (x : Accessed) : Type 0 where
  pub properties-are : x.properties ≡ properties s a (members f)
  pub events-are : x.events ≡ events s a (members f)

-- its members, its generic parameters and its attributes
pub record AreMembers (s : Source) (a : Around) (f : Forest) (x : Members) : Type 0 where
  pub generics-are : x.generics ≡ generics s a f (runs (members f))
  pub fields-are : x.fields ≡ fields s a (members f)
  pub methods-are : x.methods ≡ methods s a (members f)
  pub accessed-are : AreAccessed s a f x.accessed
  pub attributes-are : x.attributes ≡ attributes s a (own_customs (members f))

-- the fields and methods outside of any class
pub record AreGlobals (s : Source) (x : Globals) : Type 0 where
  pub fields-are : x.fields ≡ fields s nothing_around (declarations s.tree)
  pub methods-are : x.methods ≡ methods s nothing_around (declarations s.tree)
