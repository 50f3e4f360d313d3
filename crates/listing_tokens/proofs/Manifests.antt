-- The manifest, the assemblies that it names and the numbers of the headers are sound.
use Rattle.std.proofs.Common.{◌≡◌, ℕ, zero, suc, ◌+◌, ◌^◌, ◌<◌, nat_eq, Bool, true, false, cond, List, [], ◌∷◌, ◌++◌, length, slice_index_or, refl, arith, bit_and}
use Rattle.std.proofs.lemmas.Bool.{and_parts}
use Rattle.std.specs.List.{list_all}
use Rattle.il_lexer.specs.declared.types.TokenKind.TheVariants as kind
use Rattle.il_lexer.specs.declared.word.TheConstants as word
use Rattle.ilasm_grammar.specs.declared.nonterminals.TheConstants as n
use Rattle.ilasm_grammar.specs.declared.productions.TheConstants as p
use Rattle.assembly_tree.specs.WellFormed.{is_extern, is_manifest}
use Rattle.assembly_tree.specs.declared.assembly.Assembly.{Assembly}
use Rattle.assembly_tree.specs.declared.assembly.ExternAssembly.{ExternAssembly}
use Rattle.assembly_tree.specs.declared.assembly.Manifest.{Manifest}
use Rattle.listing_growth.specs.Held.{is_u16, are_bytes, is_version, is_extern_held, is_manifest_held}
use Rattle.listing_leaves.specs.Laws.{IsLeaf, has_no_zero}
use Rattle.listing_leaves.specs.Bytes.{equals_bytes}
use Rattle.listing_leaves.specs.Numbers.{natural, hexadecimal}
use Rattle.listing_leaves.specs.Texts.{quoted}
use Rattle.listing_model.specs.Flags.{without_bits, assembly_words}
use Rattle.listing_model.specs.Manifests.{version, key, culture, all_below, hash, extern_items, extern_item, extern_lines, assembly_items, assembly_item, header_lines, manifest_lines}
use Rattle.listing_model.specs.Shown.{none, Item, item, put, token, w, line, branch}
use Rattle.listing_model.specs.Types.{name, has_alias, alias}
use Rattle.listing_model.specs.Values.{one_string, customs}
use Rattle.listing_tokens.proofs.Sound.{wf, tf, SoundItem, EachSound, each_wider, sounds_append, star_sound, when_sound}
use Rattle.listing_tokens.proofs.Terms.{LeafLaws, alias_named}
use Rattle.listing_tokens.proofs.Values.{u16_small, u32_small, less_bits, row_sound, text_sound, customs_sound}

-- each below one more production
below_sound : (r production : ℕ) (is : List Item) → EachSound r is → EachSound r (all_below production is)
below_sound r production [] h = tt
below_sound r production (i ∷ is) h = ((λ rest. (h.0 _, tt)), below_sound r production is h.1)

module _ (laws : LeafLaws) (r : ℕ) where
  -- a number of a version, which is 0 where there is none
  part_leaf : (v : List ℕ) (k : ℕ) → list_all is_u16 v ≡ true → IsLeaf kind.Int (natural (slice_index_or v k 0))
  part_leaf [] k h = laws.numbers.natural 0 (omega arith)
  part_leaf (x ∷ xs) zero h = laws.numbers.natural x (u16_small x (and_parts (is_u16 x) (list_all is_u16 xs) h).0)
  part_leaf (x ∷ xs) (suc k) h = part_leaf xs k (and_parts (is_u16 x) (list_all is_u16 xs) h).1

  version_sound : (v : List ℕ) → is_version v ≡ true → SoundItem r (version v)
  version_sound v h rest =
      let hs = and_parts (nat_eq (length v) 4) (list_all is_u16 v) h in
      (wf refl refl, (tf (part_leaf v 0 hs.1) refl refl, (wf refl refl, (tf (part_leaf v 1 hs.1) refl refl, (wf refl refl, (tf (part_leaf v 2 hs.1) refl refl, (wf refl refl, (tf (part_leaf v 3 hs.1) refl refl, tt))))))))

  key_by : (b c : Bool) (bytes : List ℕ) → are_bytes bytes ≡ true → EachSound r
      (cond b (item p.KEY_PUBLICKEY (line word.DOT_PUBLICKEY (token kind.EqBytes (equals_bytes bytes) none)) ∷ [])
      (cond c [] (item p.KEY_PUBLICKEYTOKEN (line word.DOT_PUBLICKEYTOKEN (token kind.EqBytes (equals_bytes bytes) none)) ∷ [])))
  key_by true c bytes h = ((λ rest. (wf refl refl, (tf (laws.bytes.equals bytes h) refl refl, tt))), tt)
  key_by false true bytes h = tt
  key_by false false bytes h = ((λ rest. (wf refl refl, (tf (laws.bytes.equals bytes h) refl refl, tt))), tt)

  key_sound : (flags : ℕ) (bytes : List ℕ) → are_bytes bytes ≡ true → EachSound r (key flags bytes)
  key_sound flags bytes h = key_by (nat_eq (bit_and flags 1) 1) (nat_eq (length bytes) 0) bytes h

  culture_by : (b : Bool) (text : List ℕ) → has_no_zero text ≡ true →
      EachSound r (cond b [] (item p.KEY_CULTURE (line word.DOT_CULTURE (put (one_string (quoted 34 text)) none)) ∷ []))
  culture_by true text h = tt
  culture_by false text h = ((λ rest. (wf refl refl, (text_sound laws r (quoted 34 text) (laws.texts.text text h) _, tt))), tt)

  culture_sound : (text : List ℕ) → has_no_zero text ≡ true → EachSound r (culture text)
  culture_sound text h = culture_by (nat_eq (length text) 0) text h

  hash_by : (b : Bool) (bytes : List ℕ) → are_bytes bytes ≡ true →
      EachSound r (cond b [] (item p.EXTERN_ITEM_HASH (line word.DOT_HASH (token kind.EqBytes (equals_bytes bytes) none)) ∷ []))
  hash_by true bytes h = tt
  hash_by false bytes h = ((λ rest. (wf refl refl, (tf (laws.bytes.equals bytes h) refl refl, tt))), tt)

  -- a line with a word and a number in hexadecimal digits
  hexadecimal_line : (k width : ℕ) → k < 2 ^ 128 → IsLeaf kind.Int (hexadecimal width k)
  hexadecimal_line k width h = laws.numbers.hexadecimal width k h

module _ (laws : LeafLaws) (a : Assembly) (named_well : list_all is_extern a.externs ≡ true) (few : length a.externs < 2 ^ 128) where
  -- ---- assemblies that it names

  extern_items_sound : (e : ExternAssembly) → is_extern e ≡ true → is_extern_held e ≡ true → EachSound 100 (extern_items e)
  unfolding is_extern is_extern_held
  extern_items_sound e m h =
      let ms = and_parts _ _ m in
      let h3 = and_parts _ _ h in
      let h2 = and_parts _ _ h3.0 in
      let h1 = and_parts _ _ h2.0 in
      sounds_append 100 (all_below p.EXTERN_ITEM_KEY (key e.flags e.key ++ culture e.culture)) _
      (below_sound 100 p.EXTERN_ITEM_KEY (key e.flags e.key ++ culture e.culture)
      (sounds_append 100 (key e.flags e.key) (culture e.culture) (key_sound laws 100 e.flags e.key h2.1) (culture_sound laws 100 e.culture ms.1)))
      (sounds_append 100 (hash e.hash) _ (hash_by laws 100 (nat_eq (length e.hash) 0) e.hash h3.1)
      (below_sound 100 p.EXTERN_ITEM_KEY (version e.version ∷ []) (version_sound laws 100 e.version h1.0, tt)))

  extern_sound : (k : ℕ) (e : ExternAssembly) → k < 2 ^ 128 → is_extern e ≡ true → is_extern_held e ≡ true → SoundItem 101 (extern_item a.externs k e)
  unfolding is_extern is_extern_held
  extern_sound k e small m h rest =
      let ms = and_parts _ _ m in
      let h3 = and_parts _ _ h in
      let h2 = and_parts _ _ h3.0 in
      let h1 = and_parts _ _ h2.0 in (
        wf refl refl,
        (
          (
            wf refl refl,
            (
              star_sound 101 p.ASSEMBLY_ATTR_STAR_MORE p.ASSEMBLY_ATTR_STAR_END _ (row_sound laws 100 n.ASSEMBLY_ATTR p.ASSEMBLY_ATTR_FLAGS assembly_words refl (without_bits 1 e.flags) (less_bits 1 e.flags (u32_small e.flags h1.1))) _,
              (
                tf (laws.names.name e.name ms.0) refl refl,
                (
                  when_sound 101 (has_alias a.externs e) (branch p.ALIAS (w word.AS (name (alias k) none)) none) _
                      ((wf refl refl, (tf (laws.names.name (alias k) (alias_named laws a named_well few k small)) refl refl, tt)), tt),
                  (wf refl refl, (star_sound 100 p.EXTERN_ITEM_STAR_MORE p.EXTERN_ITEM_STAR_END (extern_items e) (extern_items_sound e m h) _, (wf refl refl, tt))),
                ),
              ),
            ),
          ),
          tt,
        ),
      )

  pub externs_sound : (k : ℕ) (es : List ExternAssembly) → k + length es < 2 ^ 128 → list_all is_extern es ≡ true → list_all is_extern_held es ≡ true →
      EachSound 101 (extern_lines a.externs k es)
  externs_sound k [] small m h = tt
  externs_sound k (e ∷ es) small m h =
      let ms = and_parts (is_extern e) (list_all is_extern es) m in
      let hs = and_parts (is_extern_held e) (list_all is_extern_held es) h in
      let here : k < 2 ^ 128 = omega arith in
      let more : suc k + length es < 2 ^ 128 = omega arith in
      (extern_sound k e here ms.0 hs.0, externs_sound (suc k) es more ms.1 hs.1)

  -- ---- the assembly and its module

  pub manifest_sound : (m : Manifest) → is_manifest a m ≡ true → is_manifest_held m ≡ true → EachSound 102 (manifest_lines a.externs m)
  unfolding is_manifest is_manifest_held manifest_lines
  manifest_sound m f h =
      let f7 = and_parts _ _ f in
      let f6 = and_parts _ _ f7.0 in
      let f5 = and_parts _ _ f6.0 in
      let f4 = and_parts _ _ f5.0 in
      let f3 = and_parts _ _ f4.0 in
      let f2 = and_parts _ _ f3.0 in
      let f1 = and_parts _ _ f2.0 in
      let h10 = and_parts _ _ h in
      let h9 = and_parts _ _ h10.0 in
      let h8 = and_parts _ _ h9.0 in
      let h7 = and_parts _ _ h8.0 in
      let h6 = and_parts _ _ h7.0 in
      let h5 = and_parts _ _ h6.0 in
      let h4 = and_parts _ _ h5.0 in
      let h3 = and_parts _ _ h4.0 in
      let h2 = and_parts _ _ h3.0 in
      let h1 = and_parts _ _ h2.0 in
      let keys =
      sounds_append 101 (key m.flags m.key) _ (key_sound laws 101 m.flags m.key h2.1)
      (sounds_append 101 (culture m.culture) (version m.version ∷ []) (culture_sound laws 101 m.culture f1.1) (version_sound laws 101 m.version h1.0, tt)) in
      let items =
      sounds_append 101 (customs a.externs p.ASSEMBLY_ITEM_CUSTOM m.attributes) _
      (customs_sound laws a named_well few p.ASSEMBLY_ITEM_CUSTOM m.attributes f6.1 h9.1) (
        (λ rest. (wf refl refl, (wf refl refl, (tf (laws.numbers.hexadecimal 8 m.hash (u32_small m.hash h3.1)) refl refl, tt)))),
        below_sound 101 p.ASSEMBLY_ITEM_KEY (key m.flags m.key ++ (culture m.culture ++ version m.version ∷ [])) keys,
      ) in
      let own : SoundItem 102 (assembly_item a.externs m) =
      λ rest. (
        wf refl refl,
        (
          (
            star_sound 102 p.ASSEMBLY_ATTR_STAR_MORE p.ASSEMBLY_ATTR_STAR_END _ (row_sound laws 101 n.ASSEMBLY_ATTR p.ASSEMBLY_ATTR_FLAGS assembly_words refl (without_bits 1 m.flags) (less_bits 1 m.flags (u32_small m.flags h1.1))) _,
            (
              tf (laws.names.name m.name f1.0) refl refl,
              (wf refl refl, (star_sound 101 p.ASSEMBLY_ITEM_STAR_MORE p.ASSEMBLY_ITEM_STAR_END (assembly_items a.externs m) items _, (wf refl refl, tt))),
            ),
          ),
          tt,
        ),
      ) in (
        own,
        (
          (λ rest. (wf refl refl, (tf (laws.names.name m.«module» f2.1) refl refl, tt))),
          sounds_append 102 (customs a.externs p.DECL_CUSTOM m.module_attributes) (header_lines a.externs m)
              (each_wider 101 102 (omega arith) _ (customs_sound laws a named_well few p.DECL_CUSTOM m.module_attributes f7.1 h10.1)) (
                (λ rest. (wf refl refl, (tf (laws.numbers.hexadecimal 8 m.image_base (u32_small m.image_base h4.1)) refl refl, tt))),
                (
                  (λ rest. (wf refl refl, (wf refl refl, (tf (laws.numbers.hexadecimal 8 m.file_alignment (u32_small m.file_alignment h5.1)) refl refl, tt)))),
                  (
                    (λ rest. (wf refl refl, (tf (laws.numbers.hexadecimal 8 m.stack_reserve (u32_small m.stack_reserve h6.1)) refl refl, tt))),
                    (
                      (λ rest. (wf refl refl, (tf (laws.numbers.hexadecimal 4 m.subsystem (u16_small m.subsystem h7.1)) refl refl, tt))),
                      ((λ rest. (wf refl refl, (tf (laws.numbers.hexadecimal 8 m.cor_flags (u32_small m.cor_flags h8.1)) refl refl, tt))), tt),
                    ),
                  ),
                ),
              ),
        ),
      )
