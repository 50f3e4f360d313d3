-- The assembly of a listing is read back.
use Rattle.std.proofs.Common.{◌≡◌, ℕ, ◌+◌, ◌^◌, ◌<◌, nat_eq, Bool, true, false, List, [], ◌∷◌, ◌++◌, length, take, drop, bit_and, refl, ap, ◌∙◌, append-nil, arith}
use Rattle.std.proofs.lemmas.Bool.{and_parts, ltb-true}
use Rattle.std.specs.List.{list_all}
use Rattle.ilasm_grammar.specs.Ilasm.{ilasm, rule_by, has_bit}
use Rattle.ilasm_grammar.specs.declared.nonterminals.TheConstants as n
use Rattle.ilasm_grammar.specs.declared.productions.TheConstants as p
use Rattle.assembly_tree.specs.WellFormed.{is_manifest}
use Rattle.assembly_tree.specs.WellFormedMembers.{is_attribute}
use Rattle.assembly_tree.specs.WellFormedNames.{is_name, has_no_zero}
use Rattle.assembly_tree.specs.declared.assembly.Assembly.{Assembly}
use Rattle.assembly_tree.specs.declared.assembly.ExternAssembly.{ExternAssembly}
use Rattle.assembly_tree.specs.declared.assembly.Manifest.{Manifest}
use Rattle.assembly_tree.specs.declared.members.Attribute.{Attribute}
use Rattle.source_model.specs.Flags as flags
use Rattle.source_model.specs.Forest as f
use Rattle.source_model.specs.Manifests as read
use Rattle.source_model.specs.Names.{assembly_token}
use Rattle.source_model.specs.Nodes.{nothing_around}
use Rattle.source_model.specs.Shapes.{natural}
use Rattle.source_model.specs.Source.{Source}
use Rattle.source_model.specs.Values.{part_texts, dotted, name_text, integer, int_at}
use Rattle.listing_constants.specs.Laws.{StringsAreRead, AttributesAreRead}
use Rattle.listing_flags.specs.Laws.{FlagsAreRead}
use Rattle.listing_formed.specs.Laws.{Knows}
use Rattle.listing_growth.specs.Held.{is_version, are_bytes, are_attributes_held, is_manifest_held}
use Rattle.listing_model.specs.Flags.{flag_items, assembly_words, without_bits}
use Rattle.listing_model.specs.Grown.{body_of, Grows}
use Rattle.listing_model.specs.Manifests.{version, key, culture, all_below, hash_algorithm, assembly_items}
use Rattle.listing_model.specs.Shown.{Shown, Item, size}
use Rattle.listing_model.specs.Values.{customs}
use Rattle.listing_reading.specs.Below.{below, cant_stand, cant_lead}
use Rattle.listing_reading.specs.BelowMasks.{below_masks}
use Rattle.listing_reading.specs.Laws.{SearchesPass}
use Rattle.listing_reading.specs.Numbered.{numbered, Agrees, rest, place}
use Rattle.listing_reading.specs.Rows.{AreAmong}
use Rattle.listing_rows.specs.Laws.{SegmentsAreRead, PiecesAreRead, OptionsAreRead}
use Rattle.listing_rows.specs.Segments.{end_of, ItemsAgree, pieces_of, pieces_at, EachGrown, EachLacks}
use Rattle.listing_values.specs.Laws.{NamesAreRead, NumbersAreRead, BytesAreRead}
use Rattle.listing_manifests.specs.Laws.{assembly_shown, IsReadAs, AssembliesAreRead}
use Rattle.listing_manifests.proofs.Keys.{wrapped, unwrapped, without_small, key_by, culture_by, version_parts, key_parts, culture_parts, key_lacks, culture_lacks, bytes_said, text_said, version_said, key_flags, key_read, culture_read, version_read}

-- ---- where what is sought stands

abbrev custom_parts : List ℕ
custom_parts = p.ASSEMBLY_ITEM_CUSTOM ∷ []

abbrev algorithm_parts : List ℕ
algorithm_parts = p.ASSEMBLY_ITEM_HASH ∷ []

-- it stands neither before the items nor in an attribute
pub record IsApart (sought : List ℕ) : Type 0 where
  pub before : cant_stand sought (take 3 (body_of p.ASSEMBLY_ASSEMBLY_ATTR_STAR)) ≡ true
  pub customs : cant_stand sought (body_of p.ASSEMBLY_ITEM_CUSTOM) ≡ true

pub record InAssembly : Type 0 where
  pub flags_behind : cant_lead (p.ASSEMBLY_ATTR_STAR_MORE ∷ []) (drop 1 (body_of p.ASSEMBLY_ASSEMBLY_ATTR_STAR)) ≡ true
  pub attributes : cant_stand custom_parts (take 3 (body_of p.ASSEMBLY_ASSEMBLY_ATTR_STAR)) ≡ true
  pub version : IsApart version_parts
  pub key : IsApart key_parts
  pub culture : IsApart culture_parts
  pub algorithm : IsApart algorithm_parts

in_assembly : InAssembly
unfolding ilasm rule_by has_bit below below_masks
in_assembly = record {
  flags_behind = refl;
  attributes = refl;
  version = record { before = refl; customs = refl };
  key = record { before = refl; customs = refl };
  culture = record { before = refl; customs = refl };
  algorithm = record { before = refl; customs = refl };
}

key_others : (b c : Bool) (bytes : List ℕ) (at : ℕ) → (pieces_at custom_parts at (key_by b c bytes) ≡ []) × (pieces_at algorithm_parts at (key_by b c bytes) ≡ [])
key_others true c bytes at = (refl, refl)
key_others false true bytes at = (refl, refl)
key_others false false bytes at = (refl, refl)

culture_others : (c : Bool) (text : List ℕ) (at : ℕ) → (pieces_at custom_parts at (culture_by c text) ≡ []) × (pieces_at algorithm_parts at (culture_by c text) ≡ [])
culture_others true text at = (refl, refl)
culture_others false text at = (refl, refl)

pub customs_lack : (sought : List ℕ) (production : ℕ) → f.is_among sought production ≡ false → cant_stand sought (body_of production) ≡ true → (externs : List ExternAssembly) (xs : List Attribute) →
    EachLacks sought (customs externs production xs)
customs_lack sought production h apart externs [] = tt
customs_lack sought production h apart externs (x ∷ xs) = (h, apart, customs_lack sought production h apart externs xs)

pub customs_among : (sought : List ℕ) (production : ℕ) → f.is_among sought production ≡ true → (externs : List ExternAssembly) (xs : List Attribute) → AreAmong sought (customs externs production xs)
customs_among sought production h externs [] = tt
customs_among sought production h externs (x ∷ xs) = (h, customs_among sought production h externs xs)

-- ---- what a manifest in a tree and in memory holds

pub record IsFormed (a : Assembly) (m : Manifest) : Type 0 where
  pub name : is_name m.name ≡ true
  pub culture : has_no_zero m.culture ≡ true
  pub «module» : is_name m.«module» ≡ true
  pub attributes : list_all (is_attribute a) m.attributes ≡ true

pub formed_of : (a : Assembly) (m : Manifest) → is_manifest a m ≡ true → IsFormed a m
unfolding is_manifest
formed_of a m h =
    let h7 = and_parts _ _ h in
    let h6 = and_parts _ _ h7.0 in
    let h5 = and_parts _ _ h6.0 in
    let h4 = and_parts _ _ h5.0 in
    let h3 = and_parts _ _ h4.0 in
    let h2 = and_parts _ _ h3.0 in
    let h1 = and_parts _ _ h2.0 in
    record { name = h1.0; culture = h1.1; «module» = h2.1; attributes = h6.1 }

pub record IsHeld (m : Manifest) : Type 0 where
  pub version : is_version m.version ≡ true
  pub flags : m.flags < 2 ^ 32
  pub key : are_bytes m.key ≡ true
  pub hash : m.hash < 2 ^ 32
  pub attributes : are_attributes_held m.attributes ≡ true

pub held_of : (m : Manifest) → is_manifest_held m ≡ true → IsHeld m
unfolding is_manifest_held
held_of m h =
    let h10 = and_parts _ _ h in
    let h9 = and_parts _ _ h10.0 in
    let h8 = and_parts _ _ h9.0 in
    let h7 = and_parts _ _ h8.0 in
    let h6 = and_parts _ _ h7.0 in
    let h5 = and_parts _ _ h6.0 in
    let h4 = and_parts _ _ h5.0 in
    let h3 = and_parts _ _ h4.0 in
    let h2 = and_parts _ _ h3.0 in
    let h1 = and_parts _ _ h2.0 in
    record { version = h1.0; flags = ltb-true m.flags 0x100000000 h1.1; key = h2.1; hash = ltb-true m.hash 0x100000000 h3.1; attributes = h9.1 }

small_32 : (k : ℕ) → k < 2 ^ 32 → k < 2 ^ 128
small_32 k h = omega arith

-- ---- the assembly

module _ (searches : SearchesPass) (segments : SegmentsAreRead) (pieces : PiecesAreRead) (s : Source) (a : Assembly) (m : Manifest) (grown : Grows (body_of p.ASSEMBLY_ASSEMBLY_ATTR_STAR) (assembly_shown a.externs m)) (at : ℕ) (ag : Agrees s at (assembly_shown a.externs m)) where
  abbrev shown : Shown
  shown = assembly_shown a.externs m

  abbrev g : f.Forest
  g = numbered at shown

  abbrev own : List Item
  own = customs a.externs p.ASSEMBLY_ITEM_CUSTOM m.attributes

  abbrev plain : List Item
  plain = key m.flags m.key ++ (culture m.culture ++ version m.version ∷ [])

  abbrev algorithm : Item
  algorithm = hash_algorithm a.externs m.hash

  -- where the attributes, the hash algorithm, the key, the culture and the version stand
  abbrev first : ℕ
  first = place 3 at shown

  abbrev second : ℕ
  second = end_of first own

  abbrev third : ℕ
  third = second + size algorithm.below

  abbrev fourth : ℕ
  fourth = end_of third (key m.flags m.key)

  abbrev fifth : ℕ
  fifth = end_of fourth (culture m.culture)

  abbrev behind : List ℕ → List f.Part
  behind sought =
      pieces_of sought second algorithm
      ++ (pieces_at sought third (key m.flags m.key) ++ (pieces_at sought fourth (culture m.culture) ++ pieces_at sought fifth (version m.version ∷ [])))

  all_pieces : (sought : List ℕ) → f.is_among sought p.ASSEMBLY_ITEM_KEY ≡ false → f.is_among sought p.ASSEMBLY_ITEM_STAR_MORE ≡ false → f.is_among sought p.ASSEMBLY_ITEM_STAR_END ≡ false →
      cant_stand sought (take 3 (body_of p.ASSEMBLY_ASSEMBLY_ATTR_STAR)) ≡ true → f.parts sought g ≡ pieces_at sought first own ++ behind sought
  all_pieces sought apart more end none_before =
      let others = algorithm ∷ all_below p.ASSEMBLY_ITEM_KEY plain in
      let right = wrapped sought p.ASSEMBLY_ITEM_KEY apart plain third
      ∙ (pieces.joined sought third (key m.flags m.key) (culture m.culture ++ version m.version ∷ [])
      ∙ ap (λ ps. pieces_at sought third (key m.flags m.key) ++ ps) (pieces.joined sought fourth (culture m.culture) (version m.version ∷ []))) in
      searches.parts sought 3 (body_of p.ASSEMBLY_ASSEMBLY_ATTR_STAR) none_before shown grown at
      ∙ (pieces.row sought p.ASSEMBLY_ITEM_STAR_MORE p.ASSEMBLY_ITEM_STAR_END more end (assembly_items a.externs m) first (numbered (place 4 at shown) (rest 4 shown))
      ∙ (append-nil (pieces_at sought first (assembly_items a.externs m))
      ∙ (pieces.joined sought first own others ∙ (λ i. pieces_at sought first own ++ (pieces_of sought second algorithm ++ right i)))))

  own_grown : EachGrown n.ASSEMBLY_ITEM own
  unfolding ilasm rule_by
  own_grown =
      let all = pieces.grown n.ASSEMBLY_ITEM n.ASSEMBLY_ITEM_STAR p.ASSEMBLY_ITEM_STAR_MORE p.ASSEMBLY_ITEM_STAR_END refl (assembly_items a.externs m) (searches.rest 3 (body_of p.ASSEMBLY_ASSEMBLY_ATTR_STAR) shown grown).1 in
      (pieces.each n.ASSEMBLY_ITEM own (algorithm ∷ all_below p.ASSEMBLY_ITEM_KEY plain) all).0

  -- what isn't an attribute stands behind them
  parts_are : (sought : List ℕ) → f.is_among sought p.ASSEMBLY_ITEM_KEY ≡ false → f.is_among sought p.ASSEMBLY_ITEM_STAR_MORE ≡ false → f.is_among sought p.ASSEMBLY_ITEM_STAR_END ≡ false →
      f.is_among sought p.ASSEMBLY_ITEM_CUSTOM ≡ false → IsApart sought → f.parts sought g ≡ behind sought
  parts_are sought apart more end other is_apart =
      all_pieces sought apart more end is_apart.before
      ∙ ap (λ ps. ps ++ behind sought) (pieces.none sought n.ASSEMBLY_ITEM first own own_grown (customs_lack sought p.ASSEMBLY_ITEM_CUSTOM other is_apart.customs a.externs m.attributes))

  record Agree : Type 0 where
    attributes : ItemsAgree s first own
    algorithm : Agrees s second algorithm.below
    key : ItemsAgree s third (key m.flags m.key)
    culture : ItemsAgree s fourth (culture m.culture)
    version : ItemsAgree s fifth (version m.version ∷ [])

  agree : Agree
  agree =
      let all = segments.row s p.ASSEMBLY_ITEM_STAR_MORE p.ASSEMBLY_ITEM_STAR_END (assembly_items a.externs m) first ag.1.1.1.0 in
      let halves = segments.agree s first own (algorithm ∷ all_below p.ASSEMBLY_ITEM_KEY plain) all in
      let left = segments.agree s third (key m.flags m.key) (culture m.culture ++ version m.version ∷ []) (unwrapped s p.ASSEMBLY_ITEM_KEY plain third halves.1.1) in
      let right = segments.agree s fourth (culture m.culture) (version m.version ∷ []) left.1 in
      record { attributes = halves.0; algorithm = halves.1.0; key = left.0; culture = right.0; version = right.1 }

  abbrev b : Bool
  b = nat_eq (bit_and m.flags 1) 1

  abbrev c : Bool
  c = nat_eq (length m.key) 0

  abbrev d : Bool
  d = nat_eq (length m.culture) 0

  keys_are : read.keys g ≡ pieces_at key_parts third (key m.flags m.key)
  keys_are =
      let no_culture = (culture_lacks d m.culture fourth).1 in
      let own_keys = pieces_at key_parts third (key m.flags m.key) in
      parts_are key_parts refl refl refl refl in_assembly.key ∙ ((λ i. own_keys ++ (no_culture i ++ [])) ∙ append-nil own_keys)

  module _ (names : NamesAreRead) (numbers : NumbersAreRead) (bytes : BytesAreRead) (strings : StringsAreRead) (attribute_laws : AttributesAreRead) (flag_laws : FlagsAreRead) (options : OptionsAreRead) (knows : Knows s a) (formed : IsFormed a m) (held : IsHeld m) where
    name_is : name_text s (assembly_token g) ≡ m.name
    name_is = ap (λ t. dotted (part_texts t)) ag.1.0.text ∙ names.name m.name formed.name

    version_is : read.version s g ≡ m.version
    version_is =
        let no_key = (key_lacks b c m.key third).0 in
        let no_culture = (culture_lacks d m.culture fourth).0 in
        ap (read.last_said (version_said s) (0 ∷ 0 ∷ 0 ∷ 0 ∷ []))
        (parts_are version_parts refl refl refl refl in_assembly.version ∙ (λ i. no_key i ++ (no_culture i ++ pieces_at version_parts fifth (version m.version ∷ []))))
        ∙ version_read numbers s m.version held.version fifth agree.version

    key_is : read.key s g ≡ m.key
    key_is = ap (read.last_said (bytes_said s) []) keys_are ∙ key_read bytes s b c m.key held.key refl third agree.key

    culture_is : read.culture s g ≡ m.culture
    culture_is =
        let no_key = (key_lacks b c m.key third).1 in
        let own_lines = pieces_at culture_parts fourth (culture m.culture) in
        ap (read.last_said (text_said s) [])
        (parts_are culture_parts refl refl refl refl in_assembly.culture ∙ ((λ i. no_key i ++ (own_lines ++ [])) ∙ append-nil own_lines))
        ∙ culture_read strings s d m.culture formed.culture refl fourth agree.culture

    words_are : flags.flags_of s flags.assembly_words (flags.assembly_flags_in g) ≡ without_bits 1 m.flags
    unfolding ilasm rule_by
    words_are =
        ap (λ x. flags.flags_of s flags.assembly_words (flags.flags_in p.ASSEMBLY_ATTR_STAR_MORE p.ASSEMBLY_ATTR_STAR_END x))
        (options.row p.ASSEMBLY_ATTR_STAR_MORE p.ASSEMBLY_ATTR_STAR_END refl refl (flag_items n.ASSEMBLY_ATTR p.ASSEMBLY_ATTR_FLAGS assembly_words (without_bits 1 m.flags)) at (numbered (place 1 at shown) (rest 1 shown))
        (searches.child (p.ASSEMBLY_ATTR_STAR_MORE ∷ []) 4 (drop 1 (body_of p.ASSEMBLY_ASSEMBLY_ATTR_STAR)) in_assembly.flags_behind (rest 1 shown) (searches.rest 1 (body_of p.ASSEMBLY_ASSEMBLY_ATTR_STAR) shown grown) (place 1 at shown)))
        ∙ flag_laws.assemblies s at (without_bits 1 m.flags) (without_small m.flags 1 held.flags) ag.0

    flags_are : read.assembly_flags s g ≡ m.flags
    flags_are =
        let x = flags.flags_of s flags.assembly_words (flags.assembly_flags_in g) in
        ap (read.last_said (read.with_key x) x) keys_are ∙ key_flags b c m.key m.flags x refl words_are third

    hash_is : read.number_said s p.ASSEMBLY_ITEM_HASH 2 0x8004 g ≡ m.hash
    hash_is =
        let no_key = (key_others b c m.key third).1 in
        let no_culture = (culture_others d m.culture fourth).1 in
        ap (read.last_said (λ (q : f.Part). natural (int_at s (f.leaf_at 2 q.below))) 0x8004)
        (parts_are algorithm_parts refl refl refl refl in_assembly.algorithm ∙ (λ i. pieces_of algorithm_parts second algorithm ++ (no_key i ++ (no_culture i ++ []))))
        ∙ ap natural (ap integer agree.algorithm.1.1.0.text ∙ numbers.hexadecimal 8 m.hash (small_32 m.hash held.hash))

    attributes_are : read.attributes s nothing_around (f.parts custom_parts g) ≡ m.attributes
    attributes_are =
        let no_key = (key_others b c m.key third).0 in
        let no_culture = (culture_others d m.culture fourth).0 in
        let own_parts = pieces_at custom_parts first own in
        ap (read.attributes s nothing_around)
        (all_pieces custom_parts refl refl refl in_assembly.attributes
        ∙ ((λ i. own_parts ++ (no_key i ++ (no_culture i ++ [])))
        ∙ (append-nil own_parts ∙ pieces.all custom_parts first own (customs_among custom_parts p.ASSEMBLY_ITEM_CUSTOM refl a.externs m.attributes))))
        ∙ attribute_laws s nothing_around a knows m.attributes formed.attributes held.attributes p.ASSEMBLY_ITEM_CUSTOM first agree.attributes

    assembly_is : IsReadAs s g m
    assembly_is = record { name = name_is; version = version_is; flags = flags_are; key = key_is; culture = culture_is; hash = hash_is; attributes = attributes_are }

pub assemblies_are_read : NamesAreRead → NumbersAreRead → BytesAreRead → StringsAreRead → AttributesAreRead → FlagsAreRead → SearchesPass → OptionsAreRead → SegmentsAreRead → PiecesAreRead → AssembliesAreRead
assemblies_are_read names numbers bytes strings attribute_laws flag_laws searches options segments pieces s a knows m wf h grown at ag =
    assembly_is searches segments pieces s a m grown at ag names numbers bytes strings attribute_laws flag_laws options knows (formed_of a m wf) (held_of m h)
