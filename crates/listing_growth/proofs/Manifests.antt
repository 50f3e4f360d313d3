-- The manifest, the assemblies that it names and the numbers of the headers grow.
use Rattle.std.proofs.Common.{◌≡◌, ℕ, suc, nat_eq, Bool, true, false, cond, List, [], ◌∷◌, ◌++◌, length, refl, bit_and}
use Rattle.std.proofs.lemmas.Bool.{and_parts}
use Rattle.std.specs.List.{list_all}
use Rattle.ilasm_grammar.specs.Ilasm.{ilasm, rule_by}
use Rattle.ilasm_grammar.specs.declared.nonterminals.TheConstants as n
use Rattle.ilasm_grammar.specs.declared.productions.TheConstants as p
use Rattle.ilasm_grammar.specs.declared.symbol.Symbol.TheVariants.{Nonterminal}
use Rattle.il_lexer.specs.declared.types.TokenKind.TheVariants as kind
use Rattle.il_lexer.specs.declared.word.TheConstants as word
use Rattle.assembly_tree.specs.WellFormed.{is_manifest}
use Rattle.assembly_tree.specs.WellFormedMembers.{is_attribute}
use Rattle.assembly_tree.specs.declared.assembly.Assembly.{Assembly}
use Rattle.assembly_tree.specs.declared.assembly.ExternAssembly.{ExternAssembly}
use Rattle.assembly_tree.specs.declared.assembly.Manifest.{Manifest}
use Rattle.assembly_tree.specs.declared.members.Attribute.{Attribute}
use Rattle.listing_leaves.specs.Bytes.{equals_bytes}
use Rattle.listing_leaves.specs.Texts.{quoted}
use Rattle.listing_model.specs.Flags.{without_bits}
use Rattle.listing_model.specs.Grown.{Grows}
use Rattle.listing_model.specs.Manifests.{version, key, culture, all_below, hash, extern_items, extern_item, extern_lines, hash_algorithm, assembly_items, assembly_item, header_lines, manifest_lines}
use Rattle.listing_model.specs.Shown.{none, Item, item, put, token, w, line, branch, when}
use Rattle.listing_model.specs.Types.{name, has_alias, alias}
use Rattle.listing_model.specs.Values.{one_string, customs}
use Rattle.listing_growth.specs.Held.{are_attributes_held, is_manifest_held}
use Rattle.listing_growth.specs.Laws.{Stands}
use Rattle.listing_growth.proofs.Accessors.{customs_stand}
use Rattle.listing_growth.proofs.Flags.{assemblies_grow}
use Rattle.listing_growth.proofs.Methods.{when_grows}
use Rattle.listing_growth.proofs.Rows.{EachStands, each_append, each_put, IsOption, optional_stands, IsRow, star_stands}
use Rattle.listing_growth.proofs.Values.{string_stands}

alias_option : IsOption n.ALIAS_OPT p.ALIAS_OPT_SOME p.ALIAS_OPT_NONE (Nonterminal n.ALIAS ∷ [])
unfolding ilasm rule_by
alias_option = record { some_head = refl; some_body = refl; none_head = refl; none_body = refl }

extern_row : IsRow n.EXTERN_ITEM_STAR n.EXTERN_ITEM p.EXTERN_ITEM_STAR_MORE p.EXTERN_ITEM_STAR_END
unfolding ilasm rule_by
extern_row = record { more_head = refl; more_body = refl; end_head = refl; end_body = refl }

assembly_row : IsRow n.ASSEMBLY_ITEM_STAR n.ASSEMBLY_ITEM p.ASSEMBLY_ITEM_STAR_MORE p.ASSEMBLY_ITEM_STAR_END
unfolding ilasm rule_by
assembly_row = record { more_head = refl; more_body = refl; end_head = refl; end_body = refl }

-- ---- lines that both kinds of assemblies have

version_stands : (v : List ℕ) → Stands n.KEY (version v)
unfolding ilasm rule_by
version_stands v = (refl, (refl, (refl, (refl, (refl, (refl, (refl, (refl, (refl, tt)))))))))

public_stands : (bytes : List ℕ) → Stands n.KEY (item p.KEY_PUBLICKEY (line word.DOT_PUBLICKEY (token kind.EqBytes (equals_bytes bytes) none)))
unfolding ilasm rule_by
public_stands bytes = (refl, (refl, (refl, tt)))

token_stands : (bytes : List ℕ) → Stands n.KEY (item p.KEY_PUBLICKEYTOKEN (line word.DOT_PUBLICKEYTOKEN (token kind.EqBytes (equals_bytes bytes) none)))
unfolding ilasm rule_by
token_stands bytes = (refl, (refl, (refl, tt)))

culture_line : (text : List ℕ) → Stands n.KEY (item p.KEY_CULTURE (line word.DOT_CULTURE (put (one_string (quoted 34 text)) none)))
unfolding ilasm rule_by
culture_line text = let s = string_stands (quoted 34 text) in (refl, (refl, (s.0, s.1, tt)))

key_by : (b c : Bool) (bytes : List ℕ) → EachStands n.KEY
    (cond b (item p.KEY_PUBLICKEY (line word.DOT_PUBLICKEY (token kind.EqBytes (equals_bytes bytes) none)) ∷ [])
    (cond c [] (item p.KEY_PUBLICKEYTOKEN (line word.DOT_PUBLICKEYTOKEN (token kind.EqBytes (equals_bytes bytes) none)) ∷ [])))
key_by true c bytes = (public_stands bytes, tt)
key_by false true bytes = tt
key_by false false bytes = (token_stands bytes, tt)

key_stands : (flags : ℕ) (bytes : List ℕ) → EachStands n.KEY (key flags bytes)
key_stands flags bytes = key_by (nat_eq (bit_and flags 1) 1) (nat_eq (length bytes) 0) bytes

culture_by : (b : Bool) (text : List ℕ) → EachStands n.KEY (cond b [] (item p.KEY_CULTURE (line word.DOT_CULTURE (put (one_string (quoted 34 text)) none)) ∷ []))
culture_by true text = tt
culture_by false text = (culture_line text, tt)

culture_stands : (text : List ℕ) → EachStands n.KEY (culture text)
culture_stands text = culture_by (nat_eq (length text) 0) text

-- ---- assemblies that it names

hash_line : (bytes : List ℕ) → Stands n.EXTERN_ITEM (item p.EXTERN_ITEM_HASH (line word.DOT_HASH (token kind.EqBytes (equals_bytes bytes) none)))
unfolding ilasm rule_by
hash_line bytes = (refl, (refl, (refl, tt)))

hash_by : (b : Bool) (bytes : List ℕ) → EachStands n.EXTERN_ITEM (cond b [] (item p.EXTERN_ITEM_HASH (line word.DOT_HASH (token kind.EqBytes (equals_bytes bytes) none)) ∷ []))
hash_by true bytes = tt
hash_by false bytes = (hash_line bytes, tt)

extern_keys : (is : List Item) → EachStands n.KEY is → EachStands n.EXTERN_ITEM (all_below p.EXTERN_ITEM_KEY is)
unfolding ilasm rule_by
extern_keys is h = each_put p.EXTERN_ITEM_KEY refl refl is h

extern_items_stand : (e : ExternAssembly) → EachStands n.EXTERN_ITEM (extern_items e)
extern_items_stand e =
    each_append n.EXTERN_ITEM (all_below p.EXTERN_ITEM_KEY (key e.flags e.key ++ culture e.culture)) _
    (extern_keys (key e.flags e.key ++ culture e.culture) (each_append n.KEY (key e.flags e.key) (culture e.culture) (key_stands e.flags e.key) (culture_stands e.culture)))
    (each_append n.EXTERN_ITEM (hash e.hash) _ (hash_by (nat_eq (length e.hash) 0) e.hash) (extern_keys (version e.version ∷ []) (version_stands e.version, tt)))

alias_grows : (k : ℕ) → Grows (Nonterminal n.ALIAS ∷ []) (branch p.ALIAS (w word.AS (name (alias k) none)) none)
unfolding ilasm rule_by
alias_grows k = (refl, (refl, (refl, tt)), tt)

module _ (externs : List ExternAssembly) where
  extern_stands : (k : ℕ) (e : ExternAssembly) → Stands n.DECL (extern_item externs k e)
  unfolding ilasm rule_by
  extern_stands k e =
      let flags = assemblies_grow (without_bits 1 e.flags) in
      let called = optional_stands alias_option (when (has_alias externs e) (branch p.ALIAS (w word.AS (name (alias k) none)) none)) (when_grows (Nonterminal n.ALIAS ∷ []) (has_alias externs e) (branch p.ALIAS (w word.AS (name (alias k) none)) none) (alias_grows k)) in
      let items = star_stands extern_row (extern_items e) (extern_items_stand e) in
      (refl, (refl, (refl, (refl, (flags.0, flags.1, (refl, (called.0, called.1, (refl, (items.0, items.1, (refl, tt))))))), tt)))

  pub externs_stand : (k : ℕ) (es : List ExternAssembly) → EachStands n.DECL (extern_lines externs k es)
  externs_stand k [] = tt
  externs_stand k (e ∷ es) = (extern_stands k e, externs_stand (suc k) es)

  -- ---- the assembly and its module

  assembly_keys : (is : List Item) → EachStands n.KEY is → EachStands n.ASSEMBLY_ITEM (all_below p.ASSEMBLY_ITEM_KEY is)
  unfolding ilasm rule_by
  assembly_keys is h = each_put p.ASSEMBLY_ITEM_KEY refl refl is h

  algorithm_stands : (k : ℕ) → Stands n.ASSEMBLY_ITEM (hash_algorithm externs k)
  unfolding ilasm rule_by
  algorithm_stands k = (refl, (refl, (refl, (refl, tt))))

  module _ (a : Assembly) (m : Manifest) (own : list_all (is_attribute a) m.attributes ≡ true) (held : are_attributes_held m.attributes ≡ true) where
    assembly_items_stand : EachStands n.ASSEMBLY_ITEM (assembly_items externs m)
    unfolding ilasm rule_by
    assembly_items_stand =
        each_append n.ASSEMBLY_ITEM (customs externs p.ASSEMBLY_ITEM_CUSTOM m.attributes) _
        (customs_stand a p.ASSEMBLY_ITEM_CUSTOM refl refl externs m.attributes own held) (
          algorithm_stands m.hash,
          assembly_keys (key m.flags m.key ++ (culture m.culture ++ version m.version ∷ []))
              (each_append n.KEY (key m.flags m.key) _ (key_stands m.flags m.key)
              (each_append n.KEY (culture m.culture) (version m.version ∷ []) (culture_stands m.culture) (version_stands m.version, tt))),
        )

    assembly_stands : Stands n.DECL (assembly_item externs m)
    unfolding ilasm rule_by
    assembly_stands =
        let flags = assemblies_grow (without_bits 1 m.flags) in
        let items = star_stands assembly_row (assembly_items externs m) assembly_items_stand in
        (refl, (refl, (refl, (flags.0, flags.1, (refl, (refl, (items.0, items.1, (refl, tt))))), tt)))

  headers_stand : (m : Manifest) → EachStands n.DECL (header_lines externs m)
  unfolding ilasm rule_by
  headers_stand m = (
    (refl, (refl, (refl, tt))),
    (
      (refl, (refl, (refl, (refl, tt)))),
      ((refl, (refl, (refl, tt))), ((refl, (refl, (refl, tt))), ((refl, (refl, (refl, tt))), tt))),
    ),
  )

  module_stands : (text : List ℕ) → Stands n.DECL (item p.DECL_MODULE (line word.DOT_MODULE (name text none)))
  unfolding ilasm rule_by
  module_stands text = (refl, (refl, (refl, tt)))

  module_customs : (a : Assembly) (xs : List Attribute) → list_all (is_attribute a) xs ≡ true → are_attributes_held xs ≡ true →
      EachStands n.DECL (customs externs p.DECL_CUSTOM xs)
  unfolding ilasm rule_by
  module_customs a xs = customs_stand a p.DECL_CUSTOM refl refl externs xs

  pub manifest_stands : (a : Assembly) (m : Manifest) → is_manifest a m ≡ true → is_manifest_held m ≡ true → EachStands n.DECL (manifest_lines externs m)
  unfolding is_manifest is_manifest_held manifest_lines
  manifest_stands a m f h =
      let fs = and_parts _ _ f in
      let hs = and_parts _ _ h in (
        assembly_stands a m (and_parts _ _ fs.0).1 (and_parts _ _ hs.0).1,
        (module_stands m.«module», each_append n.DECL (customs externs p.DECL_CUSTOM m.module_attributes) (header_lines externs m) (module_customs a m.module_attributes fs.1 hs.1) (headers_stand m)),
      )
