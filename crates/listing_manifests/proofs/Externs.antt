-- Other assemblies are read back.
use Rattle.std.proofs.Common.{◌≡◌, ℕ, suc, ◌+◌, ◌^◌, ◌<◌, nat_eq, Bool, true, false, List, [], ◌∷◌, ◌++◌, map, length, take, drop, bit_and, refl, ap, ◌∙◌, append-nil}
use Rattle.std.proofs.lemmas.Bool.{and_parts, ltb-true}
use Rattle.std.specs.List.{list_all}
use Rattle.ilasm_grammar.specs.Ilasm.{ilasm, rule_by, has_bit}
use Rattle.ilasm_grammar.specs.declared.nonterminals.TheConstants as n
use Rattle.ilasm_grammar.specs.declared.productions.TheConstants as p
use Rattle.assembly_tree.specs.WellFormed.{is_extern}
use Rattle.assembly_tree.specs.declared.assembly.ExternAssembly.{ExternAssembly}
use Rattle.source_model.specs.Flags as flags
use Rattle.source_model.specs.Forest as f
use Rattle.source_model.specs.Manifests as read
use Rattle.source_model.specs.Names.{extern_name}
use Rattle.source_model.specs.Source.{Source}
use Rattle.source_model.specs.Values.{part_texts, dotted}
use Rattle.listing_constants.specs.Laws.{StringsAreRead}
use Rattle.listing_flags.specs.Laws.{FlagsAreRead}
use Rattle.listing_growth.specs.Held.{is_version, are_bytes, is_extern_held}
use Rattle.listing_model.specs.Flags.{flag_items, assembly_words, without_bits}
use Rattle.listing_model.specs.Grown.{body_of, Grows}
use Rattle.listing_model.specs.Manifests.{version, key, culture, hash, all_below, extern_items, extern_lines, extern_item}
use Rattle.listing_model.specs.Shown.{Shown, size}
use Rattle.listing_reading.specs.Below.{below, cant_stand, cant_lead}
use Rattle.listing_reading.specs.BelowMasks.{below_masks}
use Rattle.listing_reading.specs.Laws.{SearchesPass}
use Rattle.listing_reading.specs.Numbered.{numbered, Agrees, rest, place}
use Rattle.listing_rows.specs.Laws.{SegmentsAreRead, PiecesAreRead, OptionsAreRead}
use Rattle.listing_rows.specs.Segments.{end_of, ItemsAgree, pieces_at, EachGrown}
use Rattle.listing_values.specs.Laws.{NamesAreRead, NumbersAreRead, BytesAreRead}
use Rattle.listing_manifests.specs.Laws.{extern_shown, extern_parts, ExternsAreRead}
use Rattle.listing_manifests.proofs.Keys.{wrapped, unwrapped, without_small, version_parts, key_parts, culture_parts, hash_parts, key_lacks, culture_lacks, hash_lacks, bytes_said, text_said, version_said, key_flags, key_read, hash_read, culture_read, version_read}

-- ---- where what is sought stands

pub record InExtern : Type 0 where
  pub flags_behind : cant_lead (p.ASSEMBLY_ATTR_STAR_MORE ∷ []) (drop 2 (body_of p.ASSEMBLY_EXTERN)) ≡ true
  pub version : cant_stand version_parts (take 5 (body_of p.ASSEMBLY_EXTERN)) ≡ true
  pub key : cant_stand key_parts (take 5 (body_of p.ASSEMBLY_EXTERN)) ≡ true
  pub culture : cant_stand culture_parts (take 5 (body_of p.ASSEMBLY_EXTERN)) ≡ true
  pub hash : cant_stand hash_parts (take 5 (body_of p.ASSEMBLY_EXTERN)) ≡ true

in_extern : InExtern
unfolding ilasm rule_by has_bit below below_masks
in_extern = record { flags_behind = refl; version = refl; key = refl; culture = refl; hash = refl }

-- what an assembly in memory holds
pub record IsHeld (e : ExternAssembly) : Type 0 where
  pub version : is_version e.version ≡ true
  pub flags : e.flags < 2 ^ 32
  pub key : are_bytes e.key ≡ true
  pub hash : are_bytes e.hash ≡ true

held_of : (e : ExternAssembly) → is_extern_held e ≡ true → IsHeld e
unfolding is_extern_held
held_of e h =
    let h3 = and_parts _ _ h in
    let h2 = and_parts _ _ h3.0 in
    let h1 = and_parts _ _ h2.0 in
    record { version = h1.0; flags = ltb-true e.flags 0x100000000 h1.1; key = h2.1; hash = h3.1 }

-- ---- one of them

module _ (searches : SearchesPass) (segments : SegmentsAreRead) (pieces : PiecesAreRead) (s : Source) (externs : List ExternAssembly) (k : ℕ) (e : ExternAssembly) (grown : Grows (body_of p.ASSEMBLY_EXTERN) (extern_shown externs k e)) (at : ℕ) (ag : Agrees s at (extern_shown externs k e)) where
  abbrev shown : Shown
  shown = extern_shown externs k e

  abbrev g : f.Forest
  g = numbered at shown

  abbrev from : ℕ
  from = place 5 at shown

  -- where the culture, the hash and the version stand
  abbrev second : ℕ
  second = end_of from (key e.flags e.key)

  abbrev third : ℕ
  third = end_of from (all_below p.EXTERN_ITEM_KEY (key e.flags e.key ++ culture e.culture))

  abbrev fourth : ℕ
  fourth = end_of third (hash e.hash)

  all_pieces : (sought : List ℕ) → f.is_among sought p.EXTERN_ITEM_KEY ≡ false → f.is_among sought p.EXTERN_ITEM_STAR_MORE ≡ false → f.is_among sought p.EXTERN_ITEM_STAR_END ≡ false →
      cant_stand sought (take 5 (body_of p.ASSEMBLY_EXTERN)) ≡ true →
      f.parts sought g ≡ (pieces_at sought from (key e.flags e.key) ++ pieces_at sought second (culture e.culture)) ++ (pieces_at sought third (hash e.hash) ++ pieces_at sought fourth (version e.version ∷ []))
  all_pieces sought apart more end none_before =
      let firsts = all_below p.EXTERN_ITEM_KEY (key e.flags e.key ++ culture e.culture) in
      let last = all_below p.EXTERN_ITEM_KEY (version e.version ∷ []) in
      let left = wrapped sought p.EXTERN_ITEM_KEY apart (key e.flags e.key ++ culture e.culture) from ∙ pieces.joined sought from (key e.flags e.key) (culture e.culture) in
      let right = pieces.joined sought third (hash e.hash) last ∙ ap (λ ps. pieces_at sought third (hash e.hash) ++ ps) (wrapped sought p.EXTERN_ITEM_KEY apart (version e.version ∷ []) fourth) in
      searches.parts sought 5 (body_of p.ASSEMBLY_EXTERN) none_before shown grown at
      ∙ (pieces.row sought p.EXTERN_ITEM_STAR_MORE p.EXTERN_ITEM_STAR_END more end (extern_items e) from (numbered (place 6 at shown) (rest 6 shown))
      ∙ (append-nil (pieces_at sought from (extern_items e))
      ∙ (pieces.joined sought from firsts (hash e.hash ++ last) ∙ (λ i. left i ++ right i))))

  -- each segment agrees
  record Agree : Type 0 where
    key : ItemsAgree s from (key e.flags e.key)
    culture : ItemsAgree s second (culture e.culture)
    hash : ItemsAgree s third (hash e.hash)
    version : ItemsAgree s fourth (version e.version ∷ [])

  agree : Agree
  agree =
      let firsts = all_below p.EXTERN_ITEM_KEY (key e.flags e.key ++ culture e.culture) in
      let last = all_below p.EXTERN_ITEM_KEY (version e.version ∷ []) in
      let all = segments.row s p.EXTERN_ITEM_STAR_MORE p.EXTERN_ITEM_STAR_END (extern_items e) from ag.1.1.1.1.1.0 in
      let halves = segments.agree s from firsts (hash e.hash ++ last) all in
      let left = segments.agree s from (key e.flags e.key) (culture e.culture) (unwrapped s p.EXTERN_ITEM_KEY (key e.flags e.key ++ culture e.culture) from halves.0) in
      let right = segments.agree s third (hash e.hash) last halves.1 in
      record { key = left.0; culture = left.1; hash = right.0; version = unwrapped s p.EXTERN_ITEM_KEY (version e.version ∷ []) fourth right.1 }

  abbrev b : Bool
  b = nat_eq (bit_and e.flags 1) 1

  abbrev c : Bool
  c = nat_eq (length e.key) 0

  keys_are : read.keys g ≡ pieces_at key_parts from (key e.flags e.key)
  keys_are =
      let no_culture = (culture_lacks (nat_eq (length e.culture) 0) e.culture second).1 in
      let no_hash = (hash_lacks (nat_eq (length e.hash) 0) e.hash third).1 in
      all_pieces key_parts refl refl refl in_extern.key
      ∙ ((λ i. (pieces_at key_parts from (key e.flags e.key) ++ no_culture i) ++ (no_hash i ++ []))
      ∙ (append-nil (pieces_at key_parts from (key e.flags e.key) ++ []) ∙ append-nil (pieces_at key_parts from (key e.flags e.key))))

  module _ (names : NamesAreRead) (numbers : NumbersAreRead) (bytes : BytesAreRead) (strings : StringsAreRead) (flag_laws : FlagsAreRead) (options : OptionsAreRead) (wf : is_extern e ≡ true) (held : IsHeld e) where
    name_is : extern_name s g ≡ e.name
    unfolding is_extern
    name_is = ap (λ t. dotted (part_texts t)) ag.1.1.0.text ∙ names.name e.name (and_parts _ _ wf).0

    version_is : read.version s g ≡ e.version
    version_is =
        let no_key = (key_lacks b c e.key from).0 in
        let no_culture = (culture_lacks (nat_eq (length e.culture) 0) e.culture second).0 in
        let no_hash = (hash_lacks (nat_eq (length e.hash) 0) e.hash third).0 in
        ap (read.last_said (version_said s) (0 ∷ 0 ∷ 0 ∷ 0 ∷ []))
        (all_pieces version_parts refl refl refl in_extern.version ∙ (λ i. (no_key i ++ no_culture i) ++ (no_hash i ++ pieces_at version_parts fourth (version e.version ∷ []))))
        ∙ version_read numbers s e.version held.version fourth agree.version

    key_is : read.key s g ≡ e.key
    key_is = ap (read.last_said (bytes_said s) []) keys_are ∙ key_read bytes s b c e.key held.key refl from agree.key

    culture_is : read.culture s g ≡ e.culture
    unfolding is_extern
    culture_is =
        let no_key = (key_lacks b c e.key from).1 in
        let no_hash = (hash_lacks (nat_eq (length e.hash) 0) e.hash third).2 in
        let own = pieces_at culture_parts second (culture e.culture) in
        ap (read.last_said (text_said s) [])
        (all_pieces culture_parts refl refl refl in_extern.culture ∙ ((λ i. (no_key i ++ own) ++ (no_hash i ++ [])) ∙ append-nil own))
        ∙ culture_read strings s (nat_eq (length e.culture) 0) e.culture (and_parts _ _ wf).1 refl second agree.culture

    hash_is : read.last_said (bytes_said s) [] (f.parts hash_parts g) ≡ e.hash
    hash_is =
        let no_key = (key_lacks b c e.key from).2 in
        let no_culture = (culture_lacks (nat_eq (length e.culture) 0) e.culture second).2 in
        let own = pieces_at hash_parts third (hash e.hash) in
        ap (read.last_said (bytes_said s) [])
        (all_pieces hash_parts refl refl refl in_extern.hash ∙ ((λ i. (no_key i ++ no_culture i) ++ (own ++ [])) ∙ append-nil own))
        ∙ hash_read bytes s (nat_eq (length e.hash) 0) e.hash held.hash refl third agree.hash

    words_are : flags.flags_of s flags.assembly_words (flags.assembly_flags_in g) ≡ without_bits 1 e.flags
    unfolding ilasm rule_by
    words_are =
        ap (λ x. flags.flags_of s flags.assembly_words (flags.flags_in p.ASSEMBLY_ATTR_STAR_MORE p.ASSEMBLY_ATTR_STAR_END x))
        (options.row p.ASSEMBLY_ATTR_STAR_MORE p.ASSEMBLY_ATTR_STAR_END refl refl (flag_items n.ASSEMBLY_ATTR p.ASSEMBLY_ATTR_FLAGS assembly_words (without_bits 1 e.flags)) (suc at) (numbered (place 2 at shown) (rest 2 shown))
        (searches.child (p.ASSEMBLY_ATTR_STAR_MORE ∷ []) 5 (drop 2 (body_of p.ASSEMBLY_EXTERN)) in_extern.flags_behind (rest 2 shown) (searches.rest 2 (body_of p.ASSEMBLY_EXTERN) shown grown) (place 2 at shown)))
        ∙ flag_laws.assemblies s (suc at) (without_bits 1 e.flags) (without_small e.flags 1 held.flags) ag.1.0

    flags_are : read.assembly_flags s g ≡ e.flags
    flags_are =
        let x = flags.flags_of s flags.assembly_words (flags.assembly_flags_in g) in
        ap (read.last_said (read.with_key x) x) keys_are ∙ key_flags b c e.key e.flags x refl words_are from

    extern_is : read.extern_assembly s g ≡ e
    extern_is i = record { name = name_is i; version = version_is i; flags = flags_are i; key = key_is i; culture = culture_is i; hash = hash_is i }

below_grown : (externs : List ExternAssembly) (k : ℕ) (e : ExternAssembly) → Grows (body_of p.DECL_ASSEMBLY) (extern_item externs k e).below → Grows (body_of p.ASSEMBLY_EXTERN) (extern_shown externs k e)
unfolding ilasm rule_by
below_grown externs k e grown = grown.1.1

pub externs_are_read : NamesAreRead → NumbersAreRead → BytesAreRead → StringsAreRead → FlagsAreRead → SearchesPass → OptionsAreRead → SegmentsAreRead → PiecesAreRead → ExternsAreRead
externs_are_read names numbers bytes strings flag_laws searches options segments pieces = record { one = one; all = all }
  where
    one : (s : Source) (externs : List ExternAssembly) (k : ℕ) (e : ExternAssembly) → is_extern e ≡ true → is_extern_held e ≡ true →
        Grows (body_of p.ASSEMBLY_EXTERN) (extern_shown externs k e) → (at : ℕ) → Agrees s at (extern_shown externs k e) →
        read.extern_assembly s (numbered at (extern_shown externs k e)) ≡ e
    one s externs k e wf h grown at ag = extern_is searches segments pieces s externs k e grown at ag names numbers bytes strings flag_laws options wf (held_of e h)

    all : (s : Source) (externs : List ExternAssembly) (k : ℕ) (es : List ExternAssembly) → list_all is_extern es ≡ true → list_all is_extern_held es ≡ true →
        EachGrown n.DECL (extern_lines externs k es) → (at : ℕ) → ItemsAgree s at (extern_lines externs k es) →
        map (read.extern_assembly s) (f.below_each (pieces_at extern_parts at (extern_lines externs k es))) ≡ es
    all s externs k [] wf h grown at ag = refl
    all s externs k (e ∷ es) wf h grown at ag =
        let wfs = and_parts (is_extern e) (list_all is_extern es) wf in
        let hs = and_parts (is_extern_held e) (list_all is_extern_held es) h in
        let next = at + size (extern_item externs k e).below in
        ap (λ x. x ∷ map (read.extern_assembly s) (f.below_each (pieces_at extern_parts next (extern_lines externs (suc k) es)))) (one s externs k e wfs.0 hs.0 (below_grown externs k e grown.1) (suc at) ag.0.1.0)
        ∙ ap (λ xs. e ∷ xs) (all s externs (suc k) es wfs.1 hs.1 grown.2 next ag.1)
