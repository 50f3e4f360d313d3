-- Fields are read back.
use Rattle.std.proofs.Common.{◌≡◌, ℕ, suc, ◌-◌, ◌^◌, ◌<◌, true, if◌then◌else◌, List, [], ◌∷◌, length, take, drop, bit_and, Option, None, Some, refl, ap, ◌∙◌, arith}
use Rattle.std.proofs.lemmas.Bool.{and_parts, eqb-true, ltb-true}
use Rattle.ilasm_grammar.specs.Ilasm.{ilasm, rule_by, has_bit}
use Rattle.ilasm_grammar.specs.declared.nonterminals.TheConstants as n
use Rattle.ilasm_grammar.specs.declared.productions.TheConstants as p
use Rattle.type_terms.specs.declared.term.SigType.{SigType}
use Rattle.assembly_tree.specs.WellFormedMembers.{is_field}
use Rattle.assembly_tree.specs.WellFormedNames.{option_all}
use Rattle.assembly_tree.specs.declared.assembly.Assembly.{Assembly}
use Rattle.assembly_tree.specs.declared.members.Field.{Field}
use Rattle.assembly_tree.proofs.FormedFacts.{fields_named}
use Rattle.source_model.specs.Data.{content, first_bytes, bytes_at, data_named, data_size}
use Rattle.source_model.specs.Flags as flags
use Rattle.source_model.specs.Forest as f
use Rattle.source_model.specs.Manifests.{attributes}
use Rattle.source_model.specs.Members.{field_offset, field_from}
use Rattle.source_model.specs.Nodes.{Around}
use Rattle.source_model.specs.Shapes.{natural}
use Rattle.source_model.specs.Source.{Source}
use Rattle.source_model.specs.Types.{type_of}
use Rattle.source_model.specs.Values.{int_at, integer, part_texts, dotted, name_text}
use Rattle.listing_constants.specs.Laws.{ConstantsAreRead, LabelsAreRead}
use Rattle.listing_flags.specs.Laws.{FlagsAreRead}
use Rattle.listing_formed.specs.Laws.{Knows, FormedAreRead, FormedAreReadable}
use Rattle.listing_growth.specs.Held.{is_u32, is_field_held}
use Rattle.listing_growth.specs.Laws.{MembersStand}
use Rattle.listing_leaves.specs.Numbers.{data_label}
use Rattle.listing_model.specs.Flags.{flag_items, field_words}
use Rattle.listing_model.specs.Grown.{body_of}
use Rattle.listing_model.specs.Members.{at_data, field}
use Rattle.listing_model.specs.Shown.{none, opt_below}
use Rattle.listing_reading.specs.Below.{below, cant_stand, cant_lead}
use Rattle.listing_reading.specs.BelowMasks.{below_masks}
use Rattle.listing_reading.specs.Laws.{SearchesPass}
use Rattle.listing_reading.specs.Numbered.{numbered, Agrees, rest, place}
use Rattle.listing_rows.specs.Laws.{OptionsAreRead}
use Rattle.listing_values.specs.Laws.{NamesAreRead, NumbersAreRead}
use Rattle.listing_members.specs.Laws.{offset_shown, HasContent, FieldsAreRead}

-- ---- where what is sought stands

offset_first : cant_lead (p.BRACKETED_INT_OPT_SOME ∷ []) (drop 2 (body_of p.FIELD)) ≡ true
unfolding ilasm rule_by
offset_first = refl

flags_second : cant_lead (p.FIELD_ATTR_STAR_MORE ∷ []) (take 2 (body_of p.FIELD)) ≡ true
unfolding ilasm rule_by
flags_second = refl

no_flags_behind : cant_lead (p.FIELD_ATTR_STAR_MORE ∷ []) (drop 3 (body_of p.FIELD)) ≡ true
unfolding ilasm rule_by
no_flags_behind = refl

type_third : cant_lead (p.TYPE ∷ []) (take 3 (body_of p.FIELD)) ≡ true
unfolding ilasm rule_by
type_third = refl

no_constant_before : cant_stand (p.EQ_CONST ∷ []) (take 5 (body_of p.FIELD)) ≡ true
unfolding ilasm rule_by has_bit below below_masks
no_constant_before = refl

no_constant_behind : cant_stand (p.EQ_CONST ∷ []) (drop 6 (body_of p.FIELD)) ≡ true
unfolding ilasm rule_by has_bit below below_masks
no_constant_behind = refl

no_label_before : cant_stand (p.AT_NAME ∷ []) (take 6 (body_of p.FIELD)) ≡ true
unfolding ilasm rule_by has_bit below below_masks
no_label_before = refl

-- ---- the parts of a field

small_32 : (k : ℕ) → is_u32 k ≡ true → k < 2 ^ 128
small_32 k h = let low = ltb-true k 0x100000000 h in omega arith

small_16 : (k : ℕ) → k < 0x10000 → k < 2 ^ 128
small_16 k h = omega arith

nothing_less : (k : ℕ) → k - 0 ≡ k
nothing_less k = omega arith

-- what is clear can be taken away
pub cleared : (mask k : ℕ) → bit_and k mask ≡ 0 → flags.without_bits mask k ≡ k
cleared mask k h = ap (λ j. k - j) h ∙ nothing_less k

whole : (bytes : List ℕ) → take (length bytes) bytes ≡ bytes
whole [] = refl
whole (b ∷ bs) = ap (λ cs. b ∷ cs) (whole bs)

module _ (numbers_read : NumbersAreRead) (labels : LabelsAreRead) (s : Source) where
  -- the place in a type with explicit layout
  offset_is : (o : Option ℕ) → option_all is_u32 o ≡ true → (g : f.Forest) (at : ℕ) → f.child (p.BRACKETED_INT_OPT_SOME ∷ []) g ≡ numbered at (opt_below (offset_shown o)) →
      Agrees s at (opt_below (offset_shown o)) → field_offset s g ≡ o
  offset_is None h g at e ag =
      ap (λ c. if f.has p.BRACKETED_INT c then Some (natural (int_at s (f.leaf_at 1 (f.the p.BRACKETED_INT c)))) else None) e
  offset_is (Some k) h g at e ag =
      ap (λ c. if f.has p.BRACKETED_INT c then Some (natural (int_at s (f.leaf_at 1 (f.the p.BRACKETED_INT c)))) else None) e
      ∙ ap (λ z. Some (natural z)) (ap (λ t. integer t) ag.0.1.0.text ∙ numbers_read.natural k (small_32 k h))

  -- the bytes that it has
  content_is : (of : SigType) (k : ℕ) (c : Option (List ℕ)) → HasContent s of k c → (g : f.Forest) (at : ℕ) →
      f.parts (p.AT_NAME ∷ []) g ≡ f.parts (p.AT_NAME ∷ []) (numbered at (at_data [] k c none)) → Agrees s at (at_data [] k c none) → content s of g ≡ c
  content_is of k None h g at e ag =
      ap (λ ps. if f.is_any_part ps then Some (first_bytes (data_size s of) (bytes_at s (data_named s (name_text s (f.leaf_at 1 (f.first_or f.none (f.below_each ps))))))) else None) e
  content_is of k (Some bytes) h g at e ag =
      ap (λ ps. if f.is_any_part ps then Some (first_bytes (data_size s of) (bytes_at s (data_named s (name_text s (f.leaf_at 1 (f.first_or f.none (f.below_each ps))))))) else None) e
      ∙ (ap (λ t. Some (first_bytes (data_size s of) (bytes_at s (data_named s t)))) (ap (λ t. dotted (part_texts t)) ag.0.0.1.0.text ∙ labels.contents k h.few)
      ∙ (ap (λ n. Some (first_bytes n (bytes_at s (data_named s (data_label k))))) h.sized
      ∙ (ap (λ bs. Some (take (length bytes) bs)) h.given ∙ ap Some (whole bytes))))

module _ (names : NamesAreRead) (numbers_read : NumbersAreRead) (flag_laws : FlagsAreRead) (labels : LabelsAreRead) (constants : ConstantsAreRead) (formed : FormedAreRead) (readable : FormedAreReadable) (stand : MembersStand) (searches : SearchesPass) (options : OptionsAreRead) (s : Source) (around : Around) (a : Assembly) (knows : Knows s a) where
  field_is : (x : Field) → is_field a x ≡ true → is_field_held x ≡ true → (k at : ℕ) → HasContent s x.of k x.content → Agrees s at (field a.externs k x).below →
      (customs : List f.Part) → attributes s around customs ≡ x.attributes → field_from s around (numbered at (field a.externs k x).below) customs ≡ x
  unfolding ilasm rule_by field is_field_held
  field_is x m h k at has ag customs attributes_are =
      let m1 = (fields_named a x).0 m in
      let h1 = and_parts _ _ h in
      let h2 = and_parts _ _ h1.0 in
      let h3 = and_parts _ _ h2.0 in
      let h4 = and_parts _ _ h3.0 in
      let h5 = and_parts _ _ h4.0 in
      let shown = (field a.externs k x).below in
      let g = numbered at shown in
      let grown = (stand.fields a.externs k x (readable.types a knows.names x.of m1.of h5.1).1).1 in
      let behind_offset = searches.child (p.BRACKETED_INT_OPT_SOME ∷ []) 5 (drop 2 (body_of p.FIELD)) offset_first (rest 2 shown) (searches.rest 2 (body_of p.FIELD) shown grown) (place 2 at shown) in
      let behind_flags = searches.child (p.FIELD_ATTR_STAR_MORE ∷ []) 4 (drop 3 (body_of p.FIELD)) no_flags_behind (rest 3 shown) (searches.rest 3 (body_of p.FIELD) shown grown) (place 3 at shown) in
      let flags_at = searches.child (p.FIELD_ATTR_STAR_MORE ∷ []) 2 (body_of p.FIELD) flags_second shown grown at
      ∙ options.row p.FIELD_ATTR_STAR_MORE p.FIELD_ATTR_STAR_END refl refl (flag_items n.FIELD_ATTR p.FIELD_ATTR_FLAGS field_words x.flags) (place 2 at shown) (numbered (place 3 at shown) (rest 3 shown)) behind_flags in
      let offset_at = options.option p.BRACKETED_INT_OPT_SOME p.BRACKETED_INT_OPT_NONE refl refl (offset_shown x.offset) (suc at) (numbered (place 2 at shown) (rest 2 shown)) behind_offset in
      let name_is = ap (λ t. dotted (part_texts t)) ag.1.1.1.1.0.text ∙ names.name x.name m1.name in
      let flags_are = ap (λ c. flags.without_bits 0x8100 (flags.flags_of s flags.field_words (flags.flags_in p.FIELD_ATTR_STAR_MORE p.FIELD_ATTR_STAR_END c))) flags_at
      ∙ (ap (flags.without_bits 0x8100) (flag_laws.fields s (place 2 at shown) x.flags (small_16 x.flags (ltb-true x.flags 0x10000 h5.0)) ag.1.1.0)
      ∙ cleared 0x8100 x.flags (eqb-true (bit_and x.flags 0x8100) 0 m1.flags)) in
      let type_is = ap (type_of s around) (searches.child (p.TYPE ∷ []) 3 (body_of p.FIELD) type_third shown grown at) ∙ formed.types s around a knows x.of m1.of h5.1 (place 3 at shown) ag.1.1.1.0 in
      let constant_is = constants.there s x.constant m1.constant h4.1 (place 5 at shown) ag.1.1.1.1.1.0 g (numbered (place 6 at shown) (rest 6 shown))
      (searches.parts (p.EQ_CONST ∷ []) 5 (body_of p.FIELD) no_constant_before shown grown at)
      (searches.nothing (p.EQ_CONST ∷ []) (drop 6 (body_of p.FIELD)) no_constant_behind (rest 6 shown) (searches.rest 6 (body_of p.FIELD) shown grown) (place 6 at shown)) in
      let its_offset = offset_is numbers_read labels s x.offset h3.1 g (suc at) offset_at ag.1.0 in
      let its_content = ap (λ t. content s t g) type_is
      ∙ content_is numbers_read labels s x.of k x.content has g (place 6 at shown) (searches.parts (p.AT_NAME ∷ []) 6 (body_of p.FIELD) no_label_before shown grown at) ag.1.1.1.1.1.1 in
      λ i. record { name = name_is i; flags = flags_are i; of = type_is i; constant = constant_is i; offset = its_offset i; content = its_content i; attributes = attributes_are i }

pub fields_are_read : NamesAreRead → NumbersAreRead → FlagsAreRead → LabelsAreRead → ConstantsAreRead → FormedAreRead → FormedAreReadable → MembersStand →
    SearchesPass → OptionsAreRead → FieldsAreRead
fields_are_read names numbers_read flag_laws labels constants formed readable stand searches options s around a knows x m h k at has ag customs e =
    field_is names numbers_read flag_laws labels constants formed readable stand searches options s around a knows x m h k at has ag customs e
