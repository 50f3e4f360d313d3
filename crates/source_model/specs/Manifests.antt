-- What a source says of its assembly and module, and of the assemblies that it names (ECMA-335 II.6.2, II.6.3, II.25.2.3).
use Rattle.std.specs.Prelude.{ℕ, ◌==◌, if◌then◌else◌, List, [], ◌∷◌, ◌++◌, map, codes, bit_or}
use Rattle.assembly_tree.specs.declared.assembly.ExternAssembly.{ExternAssembly}
use Rattle.assembly_tree.specs.declared.assembly.Manifest.{Manifest}
use Rattle.assembly_tree.specs.declared.members.Attribute.{Attribute}
use Rattle.ilasm_grammar.specs.declared.productions.TheConstants.{
  DECL_MODULE,
  DECL_IMAGEBASE,
  DECL_FILE,
  DECL_STACKRESERVE,
  DECL_SUBSYSTEM,
  DECL_CORFLAGS,
  ASSEMBLY_ITEM_HASH,
  ASSEMBLY_ITEM_CUSTOM,
  EXTERN_ITEM_HASH,
  KEY_VER,
  KEY_PUBLICKEY,
  KEY_PUBLICKEYTOKEN,
  KEY_CULTURE,
  KEY_LOCALE,
  TEXT,
  METHOD_REF,
  EQ_BYTES_OPT_SOME,
}
use Rattle.source_model.specs.Constants.{text_in}
use Rattle.source_model.specs.Flags.{assembly_words, assembly_flags_in, flags_of, without_bits}
use Rattle.source_model.specs.Forest.{Forest, none, Part, parts, has, the, first_or, leaf_at}
use Rattle.source_model.specs.Items.{declarations, own_customs}
use Rattle.source_model.specs.Names.{assemblies, assembly_token, externs, extern_name}
use Rattle.source_model.specs.Nodes.{Around, nothing_around}
use Rattle.source_model.specs.References.{method_ref}
use Rattle.source_model.specs.Shapes.{natural}
use Rattle.source_model.specs.Source.{Source}
use Rattle.source_model.specs.Values.{int_at, name_text, equals_bytes}

-- ---- attributes (ECMA-335 II.21, II.22.10)

-- an attribute, from a forest that holds it; without bytes its value is empty
abbrev pub attribute : Source → Around → Forest → Attribute
attribute s a f = record {
  constructor = method_ref s a (the METHOD_REF f);
  value = if has EQ_BYTES_OPT_SOME f then equals_bytes s (leaf_at 0 (the EQ_BYTES_OPT_SOME f)) else [];
}

abbrev pub attributes : Source → Around → List Part → List Attribute
attributes s a ps = map (λ p. attribute s a p.below) ps

-- ---- lines of which the last holds

-- what the last of these says, and the other value where there is none
abbrev pub last_said : {X : Type 0} → (Part → X) → X → List Part → X
last_said of other [] = other
last_said of other (p ∷ ps) = last_said of (of p) ps

-- the number at this place among the tokens of the last line of this production
abbrev pub number_said : Source → ℕ → ℕ → ℕ → Forest → ℕ
number_said s production k other f = last_said (λ p. natural (int_at s (leaf_at k p.below))) other (parts (production ∷ []) f)

-- ---- assemblies

abbrev pub version_in : Source → Forest → List ℕ
version_in s f =
    natural (int_at s (leaf_at 1 f)) ∷ natural (int_at s (leaf_at 3 f)) ∷ natural (int_at s (leaf_at 5 f))
    ∷ natural (int_at s (leaf_at 7 f)) ∷ []

-- the version, which is 0:0:0:0 where none is said
abbrev pub version : Source → Forest → List ℕ
version s f = last_said (λ p. version_in s p.below) (0 ∷ 0 ∷ 0 ∷ 0 ∷ []) (parts (KEY_VER ∷ []) f)

-- the lines that say the public key or its token
abbrev pub keys : Forest → List Part
keys f = parts (KEY_PUBLICKEY ∷ KEY_PUBLICKEYTOKEN ∷ []) f

abbrev pub key : Source → Forest → List ℕ
key s f = last_said (λ p. equals_bytes s (leaf_at 1 p.below)) [] (keys f)

-- a public key sets bit 1 of the flags, a token of one clears it (ECMA-335 II.23.1.2)
abbrev pub with_key : ℕ → Part → ℕ
with_key flags p = if p.production == KEY_PUBLICKEY then bit_or flags 1 else without_bits 1 flags

abbrev pub assembly_flags : Source → Forest → ℕ
assembly_flags s f =
    last_said (with_key (flags_of s assembly_words (assembly_flags_in f))) (flags_of s assembly_words (assembly_flags_in f)) (keys f)

abbrev pub culture : Source → Forest → List ℕ
culture s f = last_said (λ p. text_in s (the TEXT p.below)) [] (parts (KEY_CULTURE ∷ KEY_LOCALE ∷ []) f)

-- another assembly that the source names
abbrev pub extern_assembly : Source → Forest → ExternAssembly
extern_assembly s f = record {
  name = extern_name s f;
  version = version s f;
  flags = assembly_flags s f;
  key = key s f;
  culture = culture s f;
  hash = last_said (λ p. equals_bytes s (leaf_at 1 p.below)) [] (parts (EXTERN_ITEM_HASH ∷ []) f);
}

abbrev pub extern_assemblies : Source → List ExternAssembly
extern_assemblies s = map (extern_assembly s) (externs s)

-- ---- the assembly and its module

-- the declaration of the assembly, by what stands below its production
abbrev pub this_assembly : Source → Forest
this_assembly s = first_or none (assemblies s)

abbrev pub assembly_name : Source → List ℕ
assembly_name s = name_text s (assembly_token (this_assembly s))

-- the module's name, which is the assembly's and `.dll` where none is said
abbrev pub module_name : Source → List ℕ
module_name s =
    last_said (λ p. name_text s (leaf_at 1 p.below)) (assembly_name s ++ codes ".dll") (parts (DECL_MODULE ∷ []) s.tree)

abbrev pub manifest : Source → Manifest
manifest s = record {
  name = assembly_name s;
  version = version s (this_assembly s);
  flags = assembly_flags s (this_assembly s);
  key = key s (this_assembly s);
  culture = culture s (this_assembly s);
  hash = number_said s ASSEMBLY_ITEM_HASH 2 0x8004 (this_assembly s);
  «module» = module_name s;
  image_base = number_said s DECL_IMAGEBASE 1 0x400000 s.tree;
  file_alignment = number_said s DECL_FILE 2 0x200 s.tree;
  stack_reserve = number_said s DECL_STACKRESERVE 1 0x100000 s.tree;
  subsystem = number_said s DECL_SUBSYSTEM 1 3 s.tree;
  cor_flags = without_bits 8 (number_said s DECL_CORFLAGS 1 1 s.tree);
  attributes = attributes s nothing_around (parts (ASSEMBLY_ITEM_CUSTOM ∷ []) (this_assembly s));
  module_attributes = attributes s nothing_around (own_customs (declarations s.tree));
}
