-- Fields break no rule.
use Rattle.std.proofs.Common.{◌≡◌, ℕ, zero, suc, ◌+◌, ◌<◌, ◌≤◌, ◌^◌, Bool, true, false, if◌then◌else◌, pos, List, [], ◌∷◌, ◌++◌, take, drop, length, slice_get, Option, None, Some, refl, ap, sym, subst, ◌∙◌, arith}
use Rattle.std.proofs.lemmas.Bool.{and_parts, eqb-true, false≢true, ltb-true}
use Rattle.std.specs.List.{list_all, flat_map}
use Rattle.std.specs.Prelude.{is_some}
use Rattle.ilasm_grammar.specs.Ilasm.{ilasm, rule_by, has_bit}
use Rattle.ilasm_grammar.specs.declared.nonterminals.TheConstants as n
use Rattle.ilasm_grammar.specs.declared.productions.TheConstants as p
use Rattle.assembly_tree.specs.DataSize.{size_in_data}
use Rattle.assembly_tree.specs.WellFormed.{are_globals, is_well_formed}
use Rattle.assembly_tree.specs.WellFormedMembers.{is_field, is_content}
use Rattle.assembly_tree.specs.WellFormedNames.{option_all}
use Rattle.assembly_tree.specs.declared.assembly.Assembly.{Assembly}
use Rattle.assembly_tree.specs.declared.members.Field.{Field}
use Rattle.assembly_tree.proofs.FormedFacts.{fields_named}
use Rattle.source_model.specs.Data.{data_size, data_named, bytes_at}
use Rattle.source_model.specs.Forest as f
use Rattle.source_model.specs.Nodes.{Around, Node, nodes_in, entered, nothing_around}
use Rattle.source_model.specs.OutOfRange.{is_32_bits, field_size, asked_size, data_named_length, label_if_short, label_if_none, data_too_short_of, data_unsized_of, layout_number_out_of_range}
use Rattle.source_model.specs.Source.{Source}
use Rattle.source_model.specs.TypeRules.{unless}
use Rattle.source_model.specs.Types.{type_of}
use Rattle.source_model.specs.Values.{integer, name_text, dotted, part_texts}
use Rattle.faultless_nodes.specs.Laws.{BreaksNothing, EachBreaksNothing, asked, UnaskedBreakNothing}
use Rattle.listing_constants.specs.Laws.{LabelsAreRead}
use Rattle.listing_data.specs.Laws.{DataAreThere}
use Rattle.listing_declarations.specs.Laws.{IsListingOf, DeclarationsAreRead, fields_place}
use Rattle.listing_formed.specs.Laws.{FormedAreRead, FormedAreReadable}
use Rattle.listing_growth.specs.Held.{is_u32, is_field_held, is_held}
use Rattle.listing_growth.specs.Laws.{MembersStand}
use Rattle.listing_leaves.specs.Numbers.{data_label}
use Rattle.listing_model.specs.Canon.{contents, classes}
use Rattle.listing_model.specs.Classes.{all_contents}
use Rattle.listing_model.specs.Flags.{flag_items, field_words}
use Rattle.listing_model.specs.Grown.{body_of}
use Rattle.listing_model.specs.Members as written
use Rattle.listing_model.specs.Members.{offset_opt, at_data, field, field_contents, fields, behind_field}
use Rattle.listing_model.specs.Shown.{Shown, none, put, star, size, star_below, opt_below}
use Rattle.listing_model.specs.Types.{name, type_below}
use Rattle.listing_model.specs.Types as shown_type
use Rattle.listing_model.specs.Values.{constant_opt, customs}
use Rattle.listing_members.specs.Laws.{offset_shown}
use Rattle.listing_nesting.specs.Laws.{StandAt}
use Rattle.listing_reading.specs.Below.{below, cant_stand, cant_lead}
use Rattle.listing_reading.specs.BelowMasks.{below_masks}
use Rattle.listing_reading.specs.Laws.{SearchesPass}
use Rattle.listing_reading.specs.Numbered.{numbered, rest, place, Agrees}
use Rattle.listing_rows.specs.Laws.{SegmentsAreRead, OptionsAreRead}
use Rattle.listing_rows.specs.Segments.{end_of, ItemsAgree}
use Rattle.listing_values.specs.Laws.{NumbersAreRead}
use Rattle.listing_denotes.specs.Whole.{ListingsAreRead}
use Rattle.listing_denotes.specs.Quiet.{ItemsBreakNothing, RowsBreakNothing}
use Rattle.listing_denotes.specs.Values.{NumbersAlone, FlagsBreakNothing, ConstantsBreakNothing}
use Rattle.listing_denotes.proofs.ValuesFlags.{within, unless_none}
use Rattle.listing_denotes.specs.Terms.{TermsBreakNothing}
use Rattle.listing_denotes.specs.References.{IsQuiet, AttributesBreakNothing}
use Rattle.listing_denotes.specs.Members.{FieldsBreakNothing}
use Rattle.listing_denotes.proofs.MembersData.{long_enough, sized_field, label_known}

-- ---- where what is sought can't stand

offset_first : cant_lead (p.BRACKETED_INT_OPT_SOME ∷ []) (take 5 (drop 2 (body_of p.FIELD))) ≡ true
unfolding ilasm rule_by
offset_first = refl

type_third : cant_lead (p.TYPE ∷ []) (take 3 (body_of p.FIELD)) ≡ true
unfolding ilasm rule_by
type_third = refl

no_label_before : cant_stand (p.AT_NAME ∷ []) (take 6 (body_of p.FIELD)) ≡ true
unfolding ilasm rule_by has_bit below below_masks
no_label_before = refl

small_32 : (k : ℕ) → k < 2 ^ 32 → k < 2 ^ 128
small_32 k h = omega arith

at_most_32 : (k : ℕ) → k < 2 ^ 32 → k ≤ 0xFFFFFFFF
at_most_32 k h = omega arith

-- ---- the data of a field

-- its bytes stand among the data of the assembly under this number, and are as many as its type's values have
abbrev HasBytes : Source → Assembly → Field → ℕ → Option (List ℕ) → Type 0
HasBytes s a f k None = Unit {0}
HasBytes s a f k (Some bytes) =
    (k < 2 ^ 128) × (bytes_at s (data_named s (data_label k)) ≡ bytes) × (data_size s f.of ≡ Some (length bytes)) × (is_some (data_named s (data_label k)) ≡ true)

module _ (unasked : UnaskedBreakNothing) (laws : NumbersAreRead) (alone : NumbersAlone) (flags : FlagsBreakNothing) (constants : ConstantsBreakNothing) (rows : RowsBreakNothing) (segments : SegmentsAreRead)
    (searches : SearchesPass) (options : OptionsAreRead) (labels : LabelsAreRead) (formed : FormedAreRead) (readable : FormedAreReadable) (stand : MembersStand) (terms : TermsBreakNothing)
    (s : Source) (a : Assembly) (listed : IsListingOf s a) (known : ListingsAreRead) (x : Around) where
  -- ---- pieces of a field

  offset_then : (o : Option ℕ) (after : Shown) → IsQuiet s x after → IsQuiet s x (offset_opt a.externs o after)
  offset_then None after r at ag = (unasked.node s _ refl, r (at + 0) ag.1)
  offset_then (Some k) after r at ag = (unasked.node s _ refl, (unasked.node s _ refl, r (at + 3) ag.1))

  at_then : (k : ℕ) (c : Option (List ℕ)) (y : Field) → HasBytes s a y k c → IsQuiet s x (at_data a.externs k c none)
  at_then k None y h at ag = (unasked.node s _ refl, tt)
  at_then k (Some bytes) y h at ag =
      let name_is : name_text s (suc at) ≡ data_label k = ap (λ (t : List ℕ). dotted (part_texts t)) ag.0.0.1.0.text ∙ labels.contents k h.0 in
      let own : BreaksNothing s (record { production = p.AT_NAME; below = f.leaf at (f.leaf (suc at) f.none); around = x }) =
      record {
        types = refl;
        scopes = refl;
        typars = refl;
        param_types = refl;
        numbers = refl;
        depth = refl;
        nesting = refl;
        paths = refl;
        class = λ i. absurd (false≢true i);
        field = λ i. absurd (false≢true i);
        label = λ i. ap (λ (c : Bool). if c then [] else suc at ∷ []) (ap (λ (t : List ℕ). is_some (data_named s t)) name_is ∙ h.3);
        accessors = λ i. absurd (false≢true i);
        method = λ i. absurd (false≢true i);
      } in
      (unasked.node s _ refl, (own, tt))

  -- ---- the field itself

  abbrev short_of : (node : Node) (ps : List f.Part) → Type 0
  short_of node ps =
      (if f.is_any_part ps
      then label_if_short (field_size s node) (data_named_length s (data_named s (name_text s (f.leaf_at 1 (f.first_or f.none (f.below_each ps)))))) (f.leaf_at 1 (f.first_or f.none (f.below_each ps)))
      else []) ≡ []

  abbrev unsized_of : (node : Node) (ps : List f.Part) → Type 0
  unsized_of node ps = (if f.is_any_part ps then label_if_none (field_size s node) (f.leaf_at 1 (f.first_or f.none (f.below_each ps))) else []) ≡ []

  -- the label behind `at` in what stands last in a field
  abbrev last_parts : ℕ → ℕ → Option (List ℕ) → List f.Part
  last_parts k j c = f.parts (p.AT_NAME ∷ []) (numbered j (at_data a.externs k c none))

  data_short : (k j : ℕ) (c : Option (List ℕ)) (y : Field) → HasBytes s a y k c → Agrees s j (at_data a.externs k c none) → (node : Node) → field_size s node ≡ asked_size s y.of →
      short_of node (last_parts k j c)
  data_short k j None y h ag node e = refl
  data_short k j (Some bytes) y h ag node e =
      let name_is : name_text s (suc j) ≡ data_label k = ap (λ (t : List ℕ). dotted (part_texts t)) ag.0.0.1.0.text ∙ labels.contents k h.0 in
      ap (λ (o : Option ℕ). label_if_short o (data_named_length s (data_named s (name_text s (suc j)))) (suc j)) e
      ∙ long_enough s y.of (data_named s (name_text s (suc j))) bytes (ap (λ (t : List ℕ). bytes_at s (data_named s t)) name_is ∙ h.1) h.2 (suc j)

  data_sized : (k j : ℕ) (c : Option (List ℕ)) (y : Field) → HasBytes s a y k c → (node : Node) → field_size s node ≡ asked_size s y.of → unsized_of node (last_parts k j c)
  data_sized k j None y h node e = refl
  data_sized k j (Some bytes) y h node e = ap (λ (o : Option ℕ). label_if_none o (suc j)) e ∙ sized_field s y.of (length bytes) h.2 (suc j)

  offset_fits : (o : Option ℕ) → option_all is_u32 o ≡ true → (j : ℕ) → Agrees s j (opt_below (offset_shown o)) →
      flat_map (λ g. unless is_32_bits s (f.leaf_at 1 g)) (f.each p.BRACKETED_INT (numbered j (opt_below (offset_shown o)))) ≡ []
  offset_fits None h j ag = refl
  offset_fits (Some k) h j ag =
      let low = ltb-true k 0x100000000 h in
      let e = unless_none is_32_bits s (suc j) (pos k) (ap integer ag.0.1.0.text ∙ laws.natural k (small_32 k low)) (within 0xFFFFFFFF k (at_most_32 k low)) in
      ap (λ (xs : List ℕ). xs ++ []) e

  field_quiet : (y : Field) → is_field a y ≡ true → is_field_held y ≡ true → (k at : ℕ) → HasBytes s a y k y.content → Agrees s at (field a.externs k y).below →
      EachBreaksNothing s (nodes_in s x (numbered at (put (field a.externs k y) none)))
  unfolding ilasm rule_by field is_field_held
  field_quiet y m h k at has ag =
      let m1 = (fields_named a y).0 m in
      let h1 = and_parts _ _ h in
      let h2 = and_parts _ _ h1.0 in
      let h3 = and_parts _ _ h2.0 in
      let h4 = and_parts _ _ h3.0 in
      let h5 = and_parts _ _ h4.0 in
      let knows = known.knows s a listed in
      let shown = (field a.externs k y).below in
      let g = numbered at shown in
      let node : Node = record { production = p.FIELD; below = g; around = x } in
      let grown = (stand.fields a.externs k y (readable.types a knows.names y.of m1.of h5.1).1).1 in
      let behind_offset = searches.child (p.BRACKETED_INT_OPT_SOME ∷ []) 5 (drop 2 (body_of p.FIELD)) offset_first (rest 2 shown) (searches.rest 2 (body_of p.FIELD) shown grown) (place 2 at shown) in
      let offset_at = options.option p.BRACKETED_INT_OPT_SOME p.BRACKETED_INT_OPT_NONE refl refl (offset_shown y.offset) (suc at) (numbered (place 2 at shown) (rest 2 shown)) behind_offset in
      let fits : layout_number_out_of_range s node ≡ [] =
      ap (λ (c : f.Forest). flat_map (λ z. unless is_32_bits s (f.leaf_at 1 z)) (f.each p.BRACKETED_INT c)) offset_at ∙ offset_fits y.offset h3.1 (suc at) ag.1.0 in
      let type_is : type_of s x (f.child (p.TYPE ∷ []) g) ≡ y.of = ap (type_of s x) (searches.child (p.TYPE ∷ []) 3 (body_of p.FIELD) type_third shown grown at) ∙ formed.types s x a knows y.of m1.of h5.1 (place 3 at shown) ag.1.1.1.0 in
      let size_is : field_size s node ≡ asked_size s y.of = ap (asked_size s) type_is in
      let label_at = searches.parts (p.AT_NAME ∷ []) 6 (body_of p.FIELD) no_label_before shown grown at in
      let last = place 6 at shown in
      let last_agrees : Agrees s last (at_data a.externs k y.content none) = ag.1.1.1.1.1.1 in
      let long : data_too_short_of s node ≡ [] =
      subst (short_of node) (sym label_at) (data_short k last y.content y has last_agrees node size_is) in
      let sized : data_unsized_of s node ≡ [] =
      subst (unsized_of node) (sym label_at) (data_sized k last y.content y has node size_is) in
      let own : BreaksNothing s node =
      record {
        types = refl;
        scopes = refl;
        typars = refl;
        param_types = refl;
        numbers = simp fits;
        depth = refl;
        nesting = refl;
        paths = refl;
        class = λ i. absurd (false≢true i);
        field = λ i. record { long = long; sized = sized };
        label = λ i. absurd (false≢true i);
        accessors = λ i. absurd (false≢true i);
        method = λ i. absurd (false≢true i);
      } in
      let items = flag_items n.FIELD_ATTR p.FIELD_ATTR_FLAGS field_words y.flags in
      let last_then : IsQuiet s x (at_data a.externs k y.content none) = at_then k y.content y has in
      let constant_then : IsQuiet s x (constant_opt y.constant (at_data a.externs k y.content none)) =
      λ j i. constants.there s x y.constant m1.constant h4.1 (at_data a.externs k y.content none) j i last_then in
      let typed_then : IsQuiet s x (put (shown_type.type_of a.externs y.of) (name y.name (constant_opt y.constant (at_data a.externs k y.content none)))) =
      λ j i. terms.types s a listed x y.of m1.of h5.1 j i.0 (numbered (j + size (type_below a.externs y.of)) (name y.name (constant_opt y.constant (at_data a.externs k y.content none))))
      (constant_then (suc (j + size (type_below a.externs y.of))) i.1.1) in
      let flags_then : IsQuiet s x (star p.FIELD_ATTR_STAR_MORE p.FIELD_ATTR_STAR_END items (put (shown_type.type_of a.externs y.of) (name y.name (constant_opt y.constant (at_data a.externs k y.content none))))) =
      λ j i. rows.row s x p.FIELD_ATTR_STAR_MORE p.FIELD_ATTR_STAR_END refl refl items j
      (numbered (j + size (star_below p.FIELD_ATTR_STAR_MORE p.FIELD_ATTR_STAR_END items)) (put (shown_type.type_of a.externs y.of) (name y.name (constant_opt y.constant (at_data a.externs k y.content none)))))
      (flags.fields s x y.flags h5.0 j (segments.row s p.FIELD_ATTR_STAR_MORE p.FIELD_ATTR_STAR_END items j i.0))
      (typed_then (j + size (star_below p.FIELD_ATTR_STAR_MORE p.FIELD_ATTR_STAR_END items)) i.1) in
      unasked.branch s x p.FIELD g f.none own
      (offset_then y.offset (star p.FIELD_ATTR_STAR_MORE p.FIELD_ATTR_STAR_END items (put (shown_type.type_of a.externs y.of) (name y.name (constant_opt y.constant (at_data a.externs k y.content none)))))
      flags_then (suc at) ag.1) tt

-- ---- rows of fields

get_front : (xs ys : List (List ℕ)) (k : ℕ) (all : List (List ℕ)) → StandAt k (xs ++ ys) all → StandAt k xs all
get_front xs ys k all h j b e = h j b (there xs j e)
  where
    there : (zs : List (List ℕ)) (i : ℕ) → slice_get zs i ≡ Some b → slice_get (zs ++ ys) i ≡ Some b
    there [] i e = absurd cc
    there (z ∷ zs) zero e = e
    there (z ∷ zs) (suc i) e = there zs i e

get_low : (xs : List (List ℕ)) (k : ℕ) (b : List ℕ) → slice_get xs k ≡ Some b → k < length xs
get_low [] zero b h = absurd cc
get_low [] (suc k) b h = absurd cc
get_low (x ∷ xs) zero b h = omega arith
get_low (x ∷ xs) (suc k) b h = let low = get_low xs k b h in omega arith

sized_of : (size : Option ℕ) (bytes : List ℕ) → is_content size (Some bytes) ≡ true → size ≡ Some (length bytes)
sized_of None bytes h = absurd (false≢true h)
sized_of (Some k) bytes h = ap Some (sym (eqb-true (length bytes) k h))

module _ (there : DataAreThere) (known : ListingsAreRead) (s : Source) (a : Assembly) (listed : IsListingOf s a) where
  content_has : (y : Field) (c : Option (List ℕ)) → is_content (size_in_data a y.of) c ≡ true → (k : ℕ) → ((bytes : List ℕ) → c ≡ Some bytes → slice_get (contents a) k ≡ Some bytes) → HasBytes s a y k c
  content_has y None h k at = tt
  content_has y (Some bytes) h k at =
      let all = known.has s a listed in
      let here = at bytes refl in
      let few = all.few in
      let low = get_low (contents a) k bytes here in
      (omega arith, all.given k bytes here, all.sizes y.of ∙ sized_of (size_in_data a y.of) bytes h, label_known s (contents a) (there.said s a listed) k bytes here)

  -- the first of a row, and the others
  first_there : (k : ℕ) (c : Option (List ℕ)) (more : List (List ℕ)) → StandAt k (written.contents_then c more) (contents a) → (bytes : List ℕ) → c ≡ Some bytes → slice_get (contents a) k ≡ Some bytes
  first_there k None more h bytes e = absurd cc
  first_there k (Some b) more h bytes e =
      let plus : k + 0 ≡ k = omega arith in
      let same : Some b ≡ Some bytes = e in
      subst (λ (i : ℕ). slice_get (contents a) i ≡ Some bytes) plus (h 0 bytes same)

  others_there : (k : ℕ) (c : Option (List ℕ)) (more : List (List ℕ)) → StandAt k (written.contents_then c more) (contents a) → StandAt (behind_field k c) more (contents a)
  others_there k None more h j bytes e = h j bytes e
  others_there k (Some b) more h j bytes e =
      let moved : k + suc j ≡ suc k + j = omega arith in
      subst (λ (i : ℕ). slice_get (contents a) i ≡ Some bytes) moved (h (suc j) bytes e)

module _ (unasked : UnaskedBreakNothing) (laws : NumbersAreRead) (alone : NumbersAlone) (flags : FlagsBreakNothing) (constants : ConstantsBreakNothing) (rows : RowsBreakNothing) (segments : SegmentsAreRead)
    (searches : SearchesPass) (options : OptionsAreRead) (labels : LabelsAreRead) (formed : FormedAreRead) (readable : FormedAreReadable) (stand : MembersStand) (terms : TermsBreakNothing)
    (attributes : AttributesBreakNothing) (there : DataAreThere) (known : ListingsAreRead) (s : Source) (a : Assembly) (listed : IsListingOf s a) (x : Around) where
  rows_quiet : (fs : List Field) → list_all (is_field a) fs ≡ true → list_all is_field_held fs ≡ true → (production custom : ℕ) → f.is_among asked production ≡ false → f.is_among asked custom ≡ false → (k at : ℕ) →
      StandAt k (field_contents fs) (contents a) → ItemsAgree s at (fields a.externs production custom k fs) → ItemsBreakNothing s x at (fields a.externs production custom k fs)
  unfolding is_field_held
  rows_quiet [] m h production custom q r k at stands ag = tt
  rows_quiet (y ∷ ys) m h production custom q r k at stands ag =
      let ms = and_parts (is_field a y) (list_all (is_field a) ys) m in
      let hs = and_parts (is_field_held y) (list_all is_field_held ys) h in
      let m1 = (fields_named a y).0 ms.0 in
      let held = and_parts _ _ hs.0 in
      let own = numbered at (put (field a.externs k y) none) in
      let around = entered s x production own in
      let next = at + size (put (field a.externs k y) none) in
      let cs = customs a.externs custom y.attributes in
      let others = fields a.externs production custom (behind_field k y.content) ys in
      let parts = segments.agree s next cs others ag.1 in
      let has = content_has there known s a listed y y.content m1.content k (first_there there known s a listed k y.content (field_contents ys) stands) in
      let one = field_quiet unasked laws alone flags constants rows segments searches options labels formed readable stand terms s a listed known around y ms.0 hs.0 k at has ag.0.0 in (
        unasked.branch s x production own f.none (unasked.node s (record { production = production; below = own; around = around }) q) one tt,
        rows.joined s x next cs others (attributes s a listed x y.attributes m1.attributes held.1 custom r next parts.0)
            (rows_quiet ys ms.1 hs.1 production custom q r (behind_field k y.content) (end_of next cs) (others_there there known s a listed k y.content (field_contents ys) stands) parts.1),
      )

held_fields : (a : Assembly) → is_held a ≡ true → list_all is_field_held a.fields ≡ true
unfolding is_held
held_fields a h =
    let h1 = and_parts _ _ h in
    let h2 = and_parts _ _ h1.0 in
    let h3 = and_parts _ _ h2.0 in
    h3.1

formed_fields : (a : Assembly) → is_well_formed a ≡ true → list_all (is_field a) a.fields ≡ true
unfolding is_well_formed are_globals
formed_fields a h =
    let h1 = and_parts _ _ h in
    let h2 = and_parts _ _ h1.0 in
    let g1 = and_parts _ _ h2.1 in
    let g2 = and_parts _ _ g1.0 in
    let g3 = and_parts _ _ g2.0 in
    g3.0

-- the last of two lists stand behind the first
behind_all : (xs ys : List (List ℕ)) → StandAt (length xs) ys (xs ++ ys)
behind_all [] ys j b e = subst (λ (i : ℕ). slice_get ys i ≡ Some b) (none_more j) e
  where
    none_more : (i : ℕ) → i ≡ 0 + i
    none_more i = omega arith
behind_all (x ∷ xs) ys j b e = subst (λ (i : ℕ). slice_get (x ∷ (xs ++ ys)) i ≡ Some b) (one_more (length xs) j) (behind_all xs ys j b e)
  where
    one_more : (m i : ℕ) → suc (m + i) ≡ suc m + i
    one_more m i = omega arith

pub fields_break_nothing : UnaskedBreakNothing → NumbersAreRead → NumbersAlone → FlagsBreakNothing → ConstantsBreakNothing → RowsBreakNothing → SegmentsAreRead → SearchesPass → OptionsAreRead →
    LabelsAreRead → FormedAreRead → FormedAreReadable → MembersStand → TermsBreakNothing → AttributesBreakNothing → DataAreThere → ListingsAreRead → DeclarationsAreRead → FieldsBreakNothing
fields_break_nothing unasked laws alone flags constants rows segments searches options labels formed readable stand terms attributes there known declared = record {
  rows = λ s a listed x fs m h production custom q r k at stands ag.
      rows_quiet unasked laws alone flags constants rows segments searches options labels formed readable stand terms attributes there known s a listed x fs m h production custom q r k at stands ag;
  globals = λ s a listed.
      rows_quiet unasked laws alone flags constants rows segments searches options labels formed readable stand terms attributes there known s a listed nothing_around a.fields
      (formed_fields a listed.formed) (held_fields a listed.held) p.DECL_FIELD p.DECL_CUSTOM refl refl (length (all_contents (classes a))) (fields_place a)
      (behind_all (all_contents (classes a)) (field_contents a.fields)) (declared s a listed).fields;
}
