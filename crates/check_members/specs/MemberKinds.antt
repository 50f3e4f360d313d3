-- The kinds of members that a class has by name, each with the parts of which the rules speak (ECMA-335 II.10.2, II.15, II.16, II.17,
-- II.18).
use Rattle.std.specs.Prelude.{◌≡◌, ℕ, ◌==◌, Bool, true, false, if◌then◌else◌, List, [], ◌∷◌, ◌++◌, map, filter, Option, None, Some}
use Rattle.type_terms.specs.declared.name.TypeId.{TypeId}
use Rattle.type_terms.specs.declared.reference.MethodSig.{MethodSig}
use Rattle.type_terms.specs.declared.term.Primitive.TheVariants as prim
use Rattle.type_terms.specs.declared.term.SigType.{SigType, Prim}
use Rattle.ilasm_grammar.specs.declared.productions.TheConstants.{
  DECL_ASSEMBLY,
  DECL_MODULE,
  DECL_IMAGEBASE,
  DECL_FILE,
  DECL_STACKRESERVE,
  DECL_SUBSYSTEM,
  DECL_CORFLAGS,
  DECL_CLASS,
  DECL_FIELD,
  DECL_METHOD,
  DECL_CUSTOM,
  DECL_DATA,
  MEMBER_CLASS,
  MEMBER_FIELD,
  MEMBER_METHOD,
  MEMBER_PROPERTY,
  MEMBER_EVENT,
  MEMBER_CUSTOM,
  MEMBER_DATA,
  MEMBER_PARAM,
  MEMBER_PACK,
  MEMBER_SIZE,
  METHOD_NAME_NAME,
  METHOD_NAME_CTOR,
  METHOD_NAME_CCTOR,
  CLASS,
  TYPE,
  FIELD,
  METHOD,
  PROPERTY,
  EVENT,
  DEF_ARGS_OPT_SOME,
  SIGNATURE,
}
use Rattle.ilasm_grammar.specs.declared.tree.TreeNode.{TreeNode}
use Rattle.ilasm_grammar.specs.declared.tree.TreeNode.TheVariants.{Branch, Leaf}
use Rattle.source_model.specs.DeclaredTwice.{members_twice_in, method_token, signature_of}
use Rattle.source_model.specs.Forest.{Forest, none, leaf, branch, Part, child, is_among, parts, the}
use Rattle.source_model.specs.Items.{members}
use Rattle.source_model.specs.Members.{field_token, is_field_part, is_method_part, property_token}
use Rattle.source_model.specs.Nodes.{Around}
use Rattle.source_model.specs.References.{method_name, property_signature}
use Rattle.source_model.specs.Signatures.{is_field_unbroken, is_method_unbroken, is_property_unbroken}
use Rattle.source_model.specs.Source.{Source}
use Rattle.source_model.specs.Types.{type_of}
use Rattle.source_model.specs.Values.{name_text}
use Rattle.source_nodes.specs.Least.{least}
use Rattle.check_names.specs.DeclaredClasses.{inner_path}
use Rattle.check_members.specs.SameMembers.{is_member}
use Rattle.check_members.specs.declared.member_kinds.Kind.{Kind}
use Rattle.check_members.specs.declared.member_kinds.Kind.TheVariants.{Field, Method, Property, Event}
use Rattle.check_members.specs.declared.member_kinds.Level.{Level}
use Rattle.check_members.specs.declared.member_kinds.Level.TheVariants as level
use Rattle.check_members.specs.declared.member_sets.Member.{Member}

-- a declaration or a member of this kind
abbrev pub declares : Kind → Part → Bool
declares Field p = is_field_part p
declares Method p = is_method_part p
declares Property p = p.production == MEMBER_PROPERTY
declares Event p = p.production == MEMBER_EVENT

abbrev pub production_of : Kind → ℕ
production_of Field = FIELD
production_of Method = METHOD
production_of Property = PROPERTY
production_of Event = EVENT

-- the trees at the top of a member that make its signature
abbrev pub signature_parts : Kind → List ℕ
signature_parts Field = TYPE ∷ []
signature_parts Method = TYPE ∷ DEF_ARGS_OPT_SOME ∷ []
signature_parts Property = TYPE ∷ SIGNATURE ∷ []
signature_parts Event = []

abbrev pub token_of : Kind → Forest → ℕ
token_of Field f = field_token f
token_of Method f = method_token f
token_of Property f = property_token f
token_of Event f = property_token f

-- what stands side by side outside of any class, and in a class
abbrev pub places : Level → List ℕ
places level.Source =
    DECL_ASSEMBLY ∷ DECL_MODULE ∷ DECL_IMAGEBASE ∷ DECL_FILE ∷ DECL_STACKRESERVE ∷ DECL_SUBSYSTEM ∷ DECL_CORFLAGS ∷ DECL_CLASS
    ∷ DECL_FIELD ∷ DECL_METHOD ∷ DECL_CUSTOM ∷ DECL_DATA ∷ []
places level.Class =
    MEMBER_CLASS ∷ MEMBER_FIELD ∷ MEMBER_METHOD ∷ MEMBER_PROPERTY ∷ MEMBER_EVENT ∷ MEMBER_CUSTOM ∷ MEMBER_DATA ∷ MEMBER_PARAM
    ∷ MEMBER_PACK ∷ MEMBER_SIZE ∷ []

abbrev pub parts_at : Level → Forest → List Part
parts_at level f = parts (places level) f

-- the names of methods
abbrev pub method_names : List ℕ
method_names = METHOD_NAME_NAME ∷ METHOD_NAME_CTOR ∷ METHOD_NAME_CCTOR ∷ []

-- a node is a branch with one of these productions
abbrev pub is_chosen : List ℕ → TreeNode → Bool
is_chosen sought (Branch p count) = is_among sought p
is_chosen sought (Leaf token) = false

-- and one that declares a member of this kind
abbrev pub declarers : Kind → List ℕ
declarers Field = DECL_FIELD ∷ MEMBER_FIELD ∷ []
declarers Method = DECL_METHOD ∷ MEMBER_METHOD ∷ []
declarers Property = MEMBER_PROPERTY ∷ []
declarers Event = MEMBER_EVENT ∷ []

-- the members of this kind among them, each from what stands below its production
abbrev pub forests_of : Kind → List Part → List Forest
forests_of kind ps = map (λ p. the (production_of kind) p.below) (filter (declares kind) ps)

-- ---- what tells them apart

-- the signature of a type alone, and none
abbrev pub of_type : SigType → MethodSig
of_type t = record { has_this = false; explicit_this = false; vararg = false; generic = 0; ret = t; params = []; sentinel = None }

abbrev pub no_signature : MethodSig
no_signature = of_type (Prim prim.Void)

module _ (s : Source) (a : Around) where
  abbrev pub member_of : Kind → Forest → Member
  member_of Field f = record { name = name_text s (field_token f); sig = of_type (type_of s a (child (TYPE ∷ []) f)) }
  member_of Method f = record { name = method_name s f; sig = signature_of s a f }
  member_of Property f = record { name = name_text s (property_token f); sig = property_signature s a f }
  member_of Event f = record { name = name_text s (property_token f); sig = no_signature }

  abbrev pub is_unbroken_of : Kind → Forest → Bool
  is_unbroken_of Field f = is_field_unbroken s a f
  is_unbroken_of Method f = is_method_unbroken s a f
  is_unbroken_of Property f = is_property_unbroken s a f
  is_unbroken_of Event f = true

  -- the member, where its signature breaks no rule of its own
  abbrev pub unbroken_member : Kind → Forest → Option Member
  unbroken_member kind f = if is_unbroken_of kind f then Some (member_of kind f) else None

-- the token, where the member is the same as one before it; and those with it
abbrev pub again_with : ℕ → Option Member → List Member → List ℕ
again_with token None before = []
again_with token (Some m) before = if is_member before m then token ∷ [] else []

abbrev pub with_member : Option Member → List Member → List Member
with_member None before = before
with_member (Some m) before = before ++ m ∷ []

module _ (s : Source) (a : Around) where
  -- the tokens of all of these that are the same as earlier ones, or as one of those before them
  abbrev pub again_after : Kind → List Member → List Forest → List ℕ
  again_after kind before [] = []
  again_after kind before (f ∷ fs) =
      again_with (token_of kind f) (unbroken_member s a kind f) before ++ again_after kind (with_member (unbroken_member s a kind f) before) fs

  abbrev pub again_in : Kind → List Part → List ℕ
  again_in kind ps = again_after kind [] (forests_of kind ps)

-- a member was put behind others
pub record IsPut (token : ℕ) (m : Option Member) (old new : List Member) (k : Option ℕ) : Type 0 where
  pub members : new ≡ with_member m old
  pub again : k ≡ least (again_with token m old)

-- ---- the classes of a forest

-- what stands around the parts of a class, from the path of the classes around it and from what stands below its production
abbrev pub class_around : Source → List TypeId → Forest → Around
class_around s path below = record { path = inner_path s path below; class = below; method = none }

-- what is declared twice in the classes of a forest, of which this is the path
abbrev pub twice_within : Source → List TypeId → Forest → List ℕ
twice_within s path none = []
twice_within s path (leaf token after) = twice_within s path after
twice_within s path (branch p below after) =
    (if p == CLASS then members_twice_in s (class_around s path below) (members below) ++ twice_within s (inner_path s path below) below
    else twice_within s path below)
    ++ twice_within s path after
