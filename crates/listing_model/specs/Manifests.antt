-- The assembly, its module and the assemblies that it names in a listing (ECMA-335 II.6.2, II.6.3, II.25.2.3).
use Rattle.std.specs.Prelude.{ℕ, suc, ◌==◌, if◌then◌else◌, List, [], ◌∷◌, ◌++◌, length, map, bit_and, slice_index_or}
use Rattle.il_lexer.specs.declared.types.TokenKind.TheVariants as kind
use Rattle.il_lexer.specs.declared.word.TheConstants as word
use Rattle.ilasm_grammar.specs.declared.nonterminals.TheConstants as n
use Rattle.ilasm_grammar.specs.declared.productions.TheConstants as p
use Rattle.assembly_tree.specs.declared.assembly.ExternAssembly.{ExternAssembly}
use Rattle.assembly_tree.specs.declared.assembly.Manifest.{Manifest}
use Rattle.listing_leaves.specs.Bytes.{equals_bytes}
use Rattle.listing_leaves.specs.Numbers.{natural, hexadecimal}
use Rattle.listing_leaves.specs.Texts.{quoted}
use Rattle.listing_model.specs.Flags.{flag_items, assembly_words, without_bits}
use Rattle.listing_model.specs.Members.{braces}
use Rattle.listing_model.specs.Shown.{Shown, none, branch, Item, item, put, token, w, line, optional, when, star}
use Rattle.listing_model.specs.Types.{name, has_alias, alias}
use Rattle.listing_model.specs.Values.{one_string, customs}

-- ---- lines that both kinds of assemblies have

abbrev pub part_at : List ℕ → ℕ → Shown → Shown
part_at version k after = token kind.Int (natural (slice_index_or version k 0)) after

-- `.ver a:b:c:d`
abbrev pub version : List ℕ → Item
version v =
    item p.KEY_VER
    (line word.DOT_VER (part_at v 0 (w word.COLON (part_at v 1 (w word.COLON (part_at v 2 (w word.COLON (part_at v 3 none))))))))

-- `.publickey` where flag 1 is set, `.publickeytoken` where it isn't and there are bytes
abbrev pub key : ℕ → List ℕ → List Item
key flags bytes =
    if bit_and flags 1 == 1 then item p.KEY_PUBLICKEY (line word.DOT_PUBLICKEY (token kind.EqBytes (equals_bytes bytes) none)) ∷ []
    else if length bytes == 0 then []
    else item p.KEY_PUBLICKEYTOKEN (line word.DOT_PUBLICKEYTOKEN (token kind.EqBytes (equals_bytes bytes) none)) ∷ []

-- `.culture`, where it isn't empty
abbrev pub culture : List ℕ → List Item
culture text =
    if length text == 0 then [] else item p.KEY_CULTURE (line word.DOT_CULTURE (put (one_string (quoted 34 text)) none)) ∷ []

-- each below this production
abbrev pub all_below : ℕ → List Item → List Item
all_below production items = map (λ i. item production (put i none)) items

-- bit 1 isn't among the flags, because the key's word gives it
abbrev pub assembly_flags : ℕ → Shown → Shown
assembly_flags flags after =
    star p.ASSEMBLY_ATTR_STAR_MORE p.ASSEMBLY_ATTR_STAR_END
    (flag_items n.ASSEMBLY_ATTR p.ASSEMBLY_ATTR_FLAGS assembly_words (without_bits 1 flags)) after

-- ---- assemblies that it names

-- `.hash = (..)`, where it isn't empty
abbrev pub hash : List ℕ → List Item
hash bytes =
    if length bytes == 0 then []
    else item p.EXTERN_ITEM_HASH (line word.DOT_HASH (token kind.EqBytes (equals_bytes bytes) none)) ∷ []

abbrev pub extern_items : ExternAssembly → List Item
extern_items e =
    all_below p.EXTERN_ITEM_KEY (key e.flags e.key ++ culture e.culture)
    ++ (hash e.hash ++ all_below p.EXTERN_ITEM_KEY (version e.version ∷ []))

module _ (externs : List ExternAssembly) where
  -- the extern with this number, a declaration
  abbrev pub extern_item : ℕ → ExternAssembly → Item
  extern_item k e =
      item p.DECL_ASSEMBLY
      (line word.DOT_ASSEMBLY
      (branch p.ASSEMBLY_EXTERN
      (w word.EXTERN
      (assembly_flags e.flags
      (name e.name
      (optional p.ALIAS_OPT_SOME p.ALIAS_OPT_NONE
      (when (has_alias externs e) (branch p.ALIAS (w word.AS (name (alias k) none)) none))
      (braces p.EXTERN_ITEM_STAR_MORE p.EXTERN_ITEM_STAR_END (extern_items e))))))
      none))

  abbrev pub extern_lines : ℕ → List ExternAssembly → List Item
  extern_lines k [] = []
  extern_lines k (e ∷ es) = extern_item k e ∷ extern_lines (suc k) es

  -- ---- the assembly and its module

  abbrev pub hash_algorithm : ℕ → Item
  hash_algorithm n =
      item p.ASSEMBLY_ITEM_HASH (line word.DOT_HASH (w word.ALGORITHM (token kind.Int (hexadecimal 8 n) none)))

  abbrev pub assembly_items : Manifest → List Item
  assembly_items m =
      customs externs p.ASSEMBLY_ITEM_CUSTOM m.attributes
      ++ hash_algorithm m.hash ∷ all_below p.ASSEMBLY_ITEM_KEY (key m.flags m.key ++ (culture m.culture ++ version m.version ∷ []))

  abbrev pub assembly_item : Manifest → Item
  assembly_item m =
      item p.DECL_ASSEMBLY
      (line word.DOT_ASSEMBLY
      (branch p.ASSEMBLY_ASSEMBLY_ATTR_STAR
      (assembly_flags m.flags
      (name m.name
      (braces p.ASSEMBLY_ITEM_STAR_MORE p.ASSEMBLY_ITEM_STAR_END (assembly_items m))))
      none))

  -- a line with a word and a number of so many hexadecimal digits
  abbrev pub number_line : ℕ → ℕ → ℕ → ℕ → Item
  number_line production k width n = item production (line k (token kind.Int (hexadecimal width n) none))

  abbrev pub header_lines : Manifest → List Item
  header_lines m =
      number_line p.DECL_IMAGEBASE word.DOT_IMAGEBASE 8 m.image_base
      ∷ item p.DECL_FILE (line word.DOT_FILE (w word.ALIGNMENT (token kind.Int (hexadecimal 8 m.file_alignment) none)))
      ∷ number_line p.DECL_STACKRESERVE word.DOT_STACKRESERVE 8 m.stack_reserve
      ∷ number_line p.DECL_SUBSYSTEM word.DOT_SUBSYSTEM 4 m.subsystem
      ∷ number_line p.DECL_CORFLAGS word.DOT_CORFLAGS 8 m.cor_flags ∷ []

  -- the assembly, `.module` with the attributes of the module, and the numbers of the image's headers
  unfoldable pub manifest_lines : Manifest → List Item
  manifest_lines m =
      assembly_item m
      ∷ item p.DECL_MODULE (line word.DOT_MODULE (name m.«module» none))
      ∷ (customs externs p.DECL_CUSTOM m.module_attributes ++ header_lines m)
