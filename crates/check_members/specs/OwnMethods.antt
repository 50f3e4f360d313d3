-- The methods of a class that its accessors may be (ECMA-335 II.17, II.18, II.22.28).
use Rattle.std.specs.Prelude.{ℕ, ◌&&◌, Bool, false, if◌then◌else◌, List, [], ◌∷◌, map, filter}
use Rattle.std.specs.List.{flat_map}
use Rattle.type_terms.specs.declared.name.TypeId.{TypeId}
use Rattle.type_terms.specs.declared.name.TypeName.{TypeName}
use Rattle.ilasm_grammar.specs.declared.productions.TheConstants.{
  PROPERTY,
  EVENT,
  PROPERTY_ITEM_GET,
  PROPERTY_ITEM_SET,
  PROPERTY_ITEM_OTHER,
  EVENT_ITEM_ADDON,
  EVENT_ITEM_REMOVEON,
  EVENT_ITEM_FIRE,
  EVENT_ITEM_OTHER,
}
use Rattle.ilasm_grammar.specs.declared.tree.TreeNode.{TreeNode}
use Rattle.ilasm_grammar.specs.declared.tree.TreeNode.TheVariants.{Branch, Leaf}
use Rattle.source_model.specs.Forest.{Forest, Part, is_among}
use Rattle.source_model.specs.Items.{members}
use Rattle.source_model.specs.Members.{method_forests}
use Rattle.source_model.specs.Names.{is_path}
use Rattle.source_model.specs.Nodes.{Around, Node}
use Rattle.source_model.specs.References.{reference_name, reference_signature}
use Rattle.source_model.specs.Signatures.{is_method_unbroken}
use Rattle.source_model.specs.Source.{Source}
use Rattle.source_model.specs.Undeclared.{accessor_undeclared_of, accessors_undeclared_of, is_here, is_one_of, is_this_class}
use Rattle.check_members.specs.MemberKinds.{member_of, unbroken_member, with_member}
use Rattle.check_members.specs.declared.member_kinds.Kind.TheVariants.{Method}
use Rattle.check_members.specs.declared.member_sets.Member.{Member}

-- a name that is that of the class of this source with this path
abbrev pub is_path_here : List TypeId → TypeName → Bool
is_path_here path name = is_here name.scope && is_path name.path path

module _ (s : Source) (a : Around) where
  -- what a reference names
  abbrev pub referred : Forest → Member
  referred f = record { name = reference_name s a f; sig = reference_signature s a f }

  -- the methods of the class around, whose signatures break no rule
  abbrev pub own_methods : List Member
  own_methods = map (member_of s a Method) (filter (is_method_unbroken s a) (method_forests (members a.class)))

  -- these methods with one more, where its signature breaks no rule
  abbrev pub with_own_method : Forest → List Member → List Member
  with_own_method f ms = with_member (unbroken_member s a Method f) ms

  -- a reference to one of them
  abbrev pub is_own_method : Forest → Bool
  is_own_method f = is_this_class s a f && is_one_of s a (method_forests (members a.class)) f

  -- what is no method of its class among these accessors
  abbrev pub accessors_of : List Part → List ℕ
  accessors_of ps = flat_map (accessor_undeclared_of s a (method_forests (members a.class))) ps

abbrev pub accessor_items : List ℕ
accessor_items =
    PROPERTY_ITEM_GET ∷ PROPERTY_ITEM_SET ∷ PROPERTY_ITEM_OTHER ∷ EVENT_ITEM_ADDON ∷ EVENT_ITEM_REMOVEON ∷ EVENT_ITEM_FIRE
    ∷ EVENT_ITEM_OTHER ∷ []

-- a property or an event
abbrev pub has_accessors : ℕ → Bool
has_accessors p = is_among (PROPERTY ∷ EVENT ∷ []) p

abbrev pub is_owner : TreeNode → Bool
is_owner (Branch p count) = has_accessors p
is_owner (Leaf token) = false

-- the accessors of a production that are no methods of its class
abbrev pub undeclared_at : Source → Node → List ℕ
undeclared_at s n = if has_accessors n.production then accessors_undeclared_of s n else []
