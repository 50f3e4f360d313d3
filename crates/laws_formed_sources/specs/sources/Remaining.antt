-- What of a well-formed assembly isn't shown yet to follow for a source that breaks no rule (ECMA-335 II.10, II.16.3, II.17, II.18,
-- II.22).
use Rattle.std.specs.Prelude.{◌≡◌, ◌⊎◌, ◌&&◌, Bool, List, [], ◌∷◌, length, IsTrue}
use Rattle.std.specs.List.{list_all}
use Rattle.assembly_tree.specs.DataSize.{size_in_data}
use Rattle.assembly_tree.specs.declared.assembly.Assembly.{Assembly}
use Rattle.assembly_tree.specs.declared.body.Body.{Body}
use Rattle.assembly_tree.specs.declared.members.Field.{Field}
use Rattle.assembly_tree.specs.declared.members.Method.{Method}
use Rattle.assembly_tree.specs.declared.typedef.TypeDef.{TypeDef}
use Rattle.assembly_tree.specs.declared.typedef.TypeDef.TheOpen.{TypeDef-F}
use Rattle.assembly_tree.specs.WellFormed.{is_one_entry, is_well_formed}
use Rattle.assembly_tree.specs.WellFormedBodies.{has_body_form, is_body, is_instruction, short_branches_reach}
use Rattle.assembly_tree.specs.WellFormedMembers.{is_content}
use Rattle.assembly_tree.specs.WellFormedNames.{option_all}
use Rattle.assembly_tree.specs.WellFormedTypes.{has_its_accessors}
use Rattle.ilasm_grammar.specs.declared.productions.TheConstants.{CLASS, FIELD, IMPLEMENTS_OPT_SOME, METHOD, TYPE}
use Rattle.source_model.specs.Bodies.{body}
use Rattle.source_model.specs.Classes.{assembly, base, rising}
use Rattle.source_model.specs.Data.{content, layout}
use Rattle.source_model.specs.Flags.{type_flags}
use Rattle.source_model.specs.Forest.{Forest, child}
use Rattle.source_model.specs.Items.{members, own_customs, runs}
use Rattle.source_model.specs.Manifests.{attributes}
use Rattle.source_model.specs.Members as member
use Rattle.source_model.specs.Nodes.{Around, Node, class_token, nodes, type_id}
use Rattle.source_model.specs.Parameters.{generics}
use Rattle.source_model.specs.Source.{Source}
use Rattle.source_model.specs.Types.{owners_in, type_of}
use Rattle.laws_formed_sources.specs.sources.Laws.{IsRight}

-- a field has no data, or data of the size of its type
abbrev pub has_content : Assembly → Field → Bool
has_content a f = is_content (size_in_data a f.of) f.content

-- a method has no body, or a well-formed one
abbrev pub has_body : Assembly → Method → Bool
has_body a m = option_all (is_body a) m.body

-- a body has code, its counts are in range, its operands fit, its targets are instructions, its clauses are forward and inside, and its
-- short branches reach their targets
abbrev pub has_form : Body → Bool
has_form b = has_body_form b && short_branches_reach b.code

-- its operands fit, its targets are instructions, and its short branches reach their targets
abbrev pub fits_instructions : Body → Bool
fits_instructions b = list_all (is_instruction (length b.code)) b.code && short_branches_reach b.code

-- a class, from what stands around its parts and below its production, and the classes that it nests
abbrev pub class_record : Source → Around → Forest → List TypeDef → TypeDef-F TypeDef
class_record s a f nested = record {
  id = type_id s (class_token f);
  flags = type_flags s f;
  layout = layout s f;
  generics = generics s a f (runs (members f));
  extends = base s a f;
  implements = rising (owners_in s a (child (IMPLEMENTS_OPT_SOME ∷ []) f));
  fields = member.fields s a (members f);
  methods = member.methods s a (members f);
  properties = member.properties s a (members f);
  events = member.events s a (members f);
  nested = nested;
  attributes = attributes s a (own_customs (members f));
}

-- of one class, by its node: that its accessors are among its methods
pub record ClassRemains (s : Source) (n : Node) : Type 0 where
  pub accessors : IsTrue (has_its_accessors (class_record s n.around n.below []))

-- one of a list
abbrev pub Among : {X : Type 0} → X → List X → Type 0
Among q [] = ⊥
Among q (x ∷ xs) = (x ≡ q) ⊎ Among q xs

-- of all classes, of the data of each field and of the instructions of each method's body, by their nodes; and that the program
-- starts at one method at most
pub record Remains (s : Source) : Type 0 where
  pub classes : (n : Node) → Among n (nodes s) → n.production ≡ CLASS → ClassRemains s n
  pub fields : (n : Node) → Among n (nodes s) → n.production ≡ FIELD
      → IsTrue (is_content (size_in_data (assembly s) (type_of s n.around (child (TYPE ∷ []) n.below))) (content s (type_of s n.around (child (TYPE ∷ []) n.below)) n.below))
  pub methods : (n : Node) → Among n (nodes s) → n.production ≡ METHOD → IsTrue (option_all fits_instructions (body s n.around n.below))
  pub one_entry : IsTrue (is_one_entry (assembly s))

-- these are all: where they hold the assembly is well formed
abbrev pub RemainsSuffice : Type 0
RemainsSuffice = (s : Source) → IsRight s → Remains s → IsTrue (is_well_formed (assembly s))
