-- Properties and events are read back.
use Rattle.std.proofs.Common.{◌≡◌, ℕ, suc, ◌+◌, ◌^◌, ◌<◌, ◌&&◌, not, Bool, true, false, List, [], ◌∷◌, ◌++◌, map, length, take, drop, bit_and, Option, None, Some, refl, ap, sym, ◌∙◌, append-nil, arith}
use Rattle.std.proofs.lemmas.Bool.{and_parts, eqb-true, ltb-true, false≢true}
use Rattle.std.specs.List.{list_all, flat_map}
use Rattle.std.specs.Prelude.{is_none}
use Rattle.ilasm_grammar.specs.Ilasm.{ilasm, rule_by, has_bit}
use Rattle.ilasm_grammar.specs.declared.nonterminals.TheConstants as n
use Rattle.ilasm_grammar.specs.declared.productions.TheConstants as p
use Rattle.ilasm_grammar.specs.declared.symbol.Symbol.TheVariants.{Nonterminal}
use Rattle.type_terms.specs.declared.name.TypeId.{TypeId}
use Rattle.assembly_tree.specs.WellFormedMembers.{is_property_accessor, is_event_accessor, is_accessor_of, is_property, is_event}
use Rattle.assembly_tree.specs.WellFormedTerms.{is_type}
use Rattle.assembly_tree.specs.declared.assembly.Assembly.{Assembly}
use Rattle.assembly_tree.specs.declared.assembly.ExternAssembly.{ExternAssembly}
use Rattle.assembly_tree.specs.declared.members.Attribute.{Attribute}
use Rattle.assembly_tree.specs.declared.members.Event.{Event}
use Rattle.assembly_tree.specs.declared.members.Method.{Method}
use Rattle.assembly_tree.specs.declared.members.Property.{Property}
use Rattle.assembly_tree.proofs.FormedFacts.{properties_named, events_named, signatures_named}
use Rattle.source_model.specs.Flags as flags
use Rattle.source_model.specs.Forest as f
use Rattle.source_model.specs.Manifests.{attributes}
use Rattle.source_model.specs.Members as read
use Rattle.source_model.specs.Nodes.{Around}
use Rattle.source_model.specs.References.{argument_types}
use Rattle.source_model.specs.Source.{Source}
use Rattle.source_model.specs.Types.{type_of, owners_in, types_in, first_owner}
use Rattle.source_model.specs.Values.{part_texts, dotted}
use Rattle.listing_constants.specs.Laws.{AttributesAreRead, ConstantsAreRead}
use Rattle.listing_flags.specs.Laws.{FlagsAreRead}
use Rattle.listing_formed.specs.Laws.{Knows, FormedAreRead, FormedAreReadable}
use Rattle.listing_growth.specs.Held.{is_type_held, is_property_held, is_event_held}
use Rattle.listing_model.specs.Flags.{flag_items, property_words}
use Rattle.listing_model.specs.Grown.{body_of, Grows}
use Rattle.listing_model.specs.Members as written
use Rattle.listing_model.specs.Shown.{none, Item, star_production, star_below}
use Rattle.listing_model.specs.Values.{customs}
use Rattle.listing_reading.specs.Below.{below, cant_stand, cant_lead}
use Rattle.listing_reading.specs.BelowMasks.{below_masks}
use Rattle.listing_reading.specs.Laws.{SearchesPass}
use Rattle.listing_reading.specs.Numbered.{numbered, Agrees, rest, place}
use Rattle.listing_reading.specs.Rows.{AreAmong, parts_at}
use Rattle.listing_references.specs.Laws.{ArgumentsAreRead, ConventionsAreRead}
use Rattle.listing_rows.specs.Laws.{SegmentsAreRead, PiecesAreRead, OptionsAreRead, WalksPass, owner_parts}
use Rattle.listing_rows.specs.Segments.{end_of, pieces_at, EachLacks}
use Rattle.listing_terms.specs.Readable.{is_type_readable}
use Rattle.listing_values.specs.Laws.{NamesAreRead}
use Rattle.listing_members.specs.Laws.{HasMethods, PropertiesAreRead}
use Rattle.listing_members.proofs.Accessors.{accessor_parts, property_lines, event_lines, row_among, row_lacks, row_read}
use Rattle.listing_members.proofs.Fields.{cleared}

-- ---- where what is sought stands

pub record InProperty : Type 0 where
  pub flags_behind : cant_lead (p.PROPERTY_ATTR_STAR_MORE ∷ []) (drop 2 (body_of p.PROPERTY)) ≡ true
  pub convention : cant_lead (p.CALL_CONV ∷ []) (take 2 (body_of p.PROPERTY)) ≡ true
  pub type : cant_lead (p.TYPE ∷ []) (take 3 (body_of p.PROPERTY)) ≡ true
  pub signature : cant_lead (p.SIGNATURE ∷ []) (take 5 (body_of p.PROPERTY)) ≡ true
  pub constant : cant_stand (p.EQ_CONST ∷ []) (take 6 (body_of p.PROPERTY)) ≡ true
  pub no_constant : cant_stand (p.EQ_CONST ∷ []) (drop 7 (body_of p.PROPERTY)) ≡ true
  pub accessors : cant_stand accessor_parts (take 8 (body_of p.PROPERTY)) ≡ true
  pub customs : cant_stand (p.PROPERTY_ITEM_CUSTOM ∷ []) (take 8 (body_of p.PROPERTY)) ≡ true

in_property : InProperty
unfolding ilasm rule_by has_bit below below_masks
in_property = record { flags_behind = refl; convention = refl; type = refl; signature = refl; constant = refl; no_constant = refl; accessors = refl; customs = refl }

pub record InEvent : Type 0 where
  pub flags_behind : cant_lead (p.PROPERTY_ATTR_STAR_MORE ∷ []) (drop 2 (body_of p.EVENT)) ≡ true
  pub owner : cant_stand owner_parts (take 2 (body_of p.EVENT)) ≡ true
  pub accessors : cant_stand accessor_parts (take 5 (body_of p.EVENT)) ≡ true
  pub customs : cant_stand (p.EVENT_ITEM_CUSTOM ∷ []) (take 5 (body_of p.EVENT)) ≡ true

small_16 : (k : ℕ) → k < 0x10000 → k < 2 ^ 128
small_16 k h = omega arith

property_custom_holds_none : cant_stand accessor_parts (body_of p.PROPERTY_ITEM_CUSTOM) ≡ true
unfolding ilasm rule_by has_bit below below_masks
property_custom_holds_none = refl

event_custom_holds_none : cant_stand accessor_parts (body_of p.EVENT_ITEM_CUSTOM) ≡ true
unfolding ilasm rule_by has_bit below below_masks
event_custom_holds_none = refl

customs_lack : (externs : List ExternAssembly) (production : ℕ) → f.is_among accessor_parts production ≡ false → cant_stand accessor_parts (body_of production) ≡ true →
    (xs : List Attribute) → EachLacks accessor_parts (customs externs production xs)
customs_lack externs production h c [] = tt
customs_lack externs production h c (x ∷ xs) = (h, c, customs_lack externs production h c xs)

customs_among : (externs : List ExternAssembly) (production : ℕ) → f.is_among (production ∷ []) production ≡ true → (xs : List Attribute) → AreAmong (production ∷ []) (customs externs production xs)
customs_among externs production h [] = tt
customs_among externs production h (x ∷ xs) = (h, customs_among externs production h xs)

-- ---- rows of accessors and attributes

module _ (pieces : PiecesAreRead) (x n more end : ℕ) (body : body_of more ≡ Nonterminal x ∷ Nonterminal n ∷ []) (xs ys : List Item) (grown : Grows (body_of (star_production more end (xs ++ ys))) (star_below more end (xs ++ ys))) where
  abbrev row : ℕ → f.Forest → f.Forest
  row at after = f.branch (star_production more end (xs ++ ys)) (numbered at (star_below more end (xs ++ ys))) after

  -- what is sought is the first segment, or the second
  pub first_are : (sought : List ℕ) → f.is_among sought more ≡ false → f.is_among sought end ≡ false → AreAmong sought xs → EachLacks sought ys → (at k : ℕ) →
      f.parts sought (row at (f.leaf k f.none)) ≡ parts_at at xs
  first_are sought m e among lack at k =
      let each = pieces.each x xs ys (pieces.grown x n more end body (xs ++ ys) grown) in
      pieces.row sought more end m e (xs ++ ys) at (f.leaf k f.none)
      ∙ (append-nil (pieces_at sought at (xs ++ ys))
      ∙ (pieces.joined sought at xs ys
      ∙ (ap (λ ps. ps ++ pieces_at sought (end_of at xs) ys) (pieces.all sought at xs among)
      ∙ (ap (λ ps. parts_at at xs ++ ps) (pieces.none sought x (end_of at xs) ys each.1 lack) ∙ append-nil (parts_at at xs)))))

  pub second_are : (sought : List ℕ) → f.is_among sought more ≡ false → f.is_among sought end ≡ false → EachLacks sought xs → AreAmong sought ys → (at k : ℕ) →
      f.parts sought (row at (f.leaf k f.none)) ≡ parts_at (end_of at xs) ys
  second_are sought m e lack among at k =
      let each = pieces.each x xs ys (pieces.grown x n more end body (xs ++ ys) grown) in
      pieces.row sought more end m e (xs ++ ys) at (f.leaf k f.none)
      ∙ (append-nil (pieces_at sought at (xs ++ ys))
      ∙ (pieces.joined sought at xs ys
      ∙ (ap (λ ps. ps ++ pieces_at sought (end_of at xs) ys) (pieces.none sought x at xs each.0 lack) ∙ pieces.all sought (end_of at xs) ys among)))

property_row : body_of p.PROPERTY_ITEM_STAR_MORE ≡ Nonterminal n.PROPERTY_ITEM ∷ Nonterminal n.PROPERTY_ITEM_STAR ∷ []
unfolding ilasm rule_by
property_row = refl

event_row : body_of p.EVENT_ITEM_STAR_MORE ≡ Nonterminal n.EVENT_ITEM ∷ Nonterminal n.EVENT_ITEM_STAR ∷ []
unfolding ilasm rule_by
event_row = refl

all_both : {X : Type 0} (q r t : X → Bool) → ((x : X) → q x ≡ true → r x ≡ true → t x ≡ true) → (xs : List X) →
    list_all q xs ≡ true → list_all r xs ≡ true → list_all t xs ≡ true
all_both q r t f [] h k = refl
all_both q r t f (x ∷ xs) h k =
    let hs = and_parts (q x) (list_all q xs) h in
    let ks = and_parts (r x) (list_all r xs) k in
    both (t x) (list_all t xs) (f x hs.0 ks.0) (all_both q r t f xs hs.1 ks.1)
  where
    both : (u v : Bool) → u ≡ true → v ≡ true → (u && v) ≡ true
    both true v g i = i
    both false v g i = g

no_sentinel : (o : Option ℕ) → is_none o ≡ true → None ≡ o
no_sentinel None h = refl
no_sentinel (Some k) h = absurd (false≢true h)

is_false : (b : Bool) → not b ≡ true → false ≡ b
is_false false h = refl
is_false true h = absurd (false≢true h)

module _ (names : NamesAreRead) (flag_laws : FlagsAreRead) (constants : ConstantsAreRead) (attribute_laws : AttributesAreRead) (conventions : ConventionsAreRead) (args : ArgumentsAreRead) (formed : FormedAreRead) (readable : FormedAreReadable) (searches : SearchesPass) (options : OptionsAreRead) (segments : SegmentsAreRead) (pieces : PiecesAreRead) (walks : WalksPass) (s : Source) (around : Around) (a : Assembly) (knows : Knows s a) (path : List TypeId) (gs : List f.Forest) (ms : List Method) (has : HasMethods s around a path gs ms) where
  property_is : (x : Property) → is_property a x ≡ true → is_property_held x ≡ true → list_all (is_accessor_of (length ms)) x.accessors ≡ true →
      Grows (body_of p.PROPERTY) (written.property a.externs path ms x).below → (at : ℕ) → Agrees s at (written.property a.externs path ms x).below →
      read.property s around gs (numbered at (written.property a.externs path ms x).below) ≡ x
  unfolding ilasm rule_by written.property is_property_held
  property_is x m h inside grown at ag =
      let m1 = (properties_named a x).0 m in
      let sig1 = (signatures_named a x.sig).0 m1.sig in
      let d1 = and_parts _ _ m1.declaration in
      let d2 = and_parts _ _ d1.0 in
      let d3 = and_parts _ _ d2.0 in
      let h1 = and_parts _ _ h in
      let h2 = and_parts _ _ h1.0 in
      let h3 = and_parts _ _ h2.0 in
      let h4 = and_parts _ _ h3.1 in
      let shown = (written.property a.externs path ms x).below in
      let g = numbered at shown in
      let xs = flat_map (written.accessor a.externs p.PROPERTY_ITEM_OTHER path ms) x.accessors in
      let ys = customs a.externs p.PROPERTY_ITEM_CUSTOM x.attributes in
      let row_grown = (searches.rest 8 (body_of p.PROPERTY) shown grown).1 in
      let items_at = place 8 at shown in
      let items_agree = segments.agree s items_at xs ys (segments.row s p.PROPERTY_ITEM_STAR_MORE p.PROPERTY_ITEM_STAR_END (xs ++ ys) items_at ag.1.1.1.1.1.1.1.1.0) in
      let name_is = ap (λ t. dotted (part_texts t)) ag.1.1.1.1.0.text ∙ names.name x.name m1.name in
      let flags_at = options.row p.PROPERTY_ATTR_STAR_MORE p.PROPERTY_ATTR_STAR_END refl refl (flag_items n.PROPERTY_ATTR p.PROPERTY_ATTR_FLAGS property_words x.flags) (suc at) (numbered (place 2 at shown) (rest 2 shown))
      (searches.child (p.PROPERTY_ATTR_STAR_MORE ∷ []) 8 (drop 2 (body_of p.PROPERTY)) in_property.flags_behind (rest 2 shown) (searches.rest 2 (body_of p.PROPERTY) shown grown) (place 2 at shown)) in
      let flags_are = ap (λ c. flags.without_bits 0x1000 (flags.flags_of s flags.property_words (flags.flags_in p.PROPERTY_ATTR_STAR_MORE p.PROPERTY_ATTR_STAR_END c))) flags_at
      ∙ (ap (flags.without_bits 0x1000) (flag_laws.properties s (suc at) x.flags (small_16 x.flags (ltb-true x.flags 0x10000 h3.0)) ag.1.0)
      ∙ cleared 0x1000 x.flags (eqb-true (bit_and x.flags 0x1000) 0 m1.flags)) in
      let this_is = ap (f.has p.INSTANCE) (searches.child (p.CALL_CONV ∷ []) 2 (body_of p.PROPERTY) in_property.convention shown grown at) ∙ conventions.this x.sig (rest 3 shown) (place 2 at shown) in
      let ret_is = ap (type_of s around) (searches.child (p.TYPE ∷ []) 3 (body_of p.PROPERTY) in_property.type shown grown at) ∙ formed.types s around a knows x.sig.ret sig1.ret h4.0 (place 3 at shown) ag.1.1.1.0 in
      let types_ok = all_both (is_type a) is_type_held (is_type_readable a.externs) (λ t q r. (readable.types a knows.names t q r).0) x.sig.params sig1.params h4.1 in
      let params_are = ap (argument_types s around) (searches.child (p.SIGNATURE ∷ []) 5 (body_of p.PROPERTY) in_property.signature shown grown at)
      ∙ args.types s around a.externs knows.keys x.sig types_ok (place 5 at shown) (ag.1.1.1.1.1.0, tt) in
      let constant_is = constants.there s x.constant m1.constant h2.1 (place 6 at shown) ag.1.1.1.1.1.1.0 g (numbered (place 7 at shown) (rest 7 shown))
      (searches.parts (p.EQ_CONST ∷ []) 6 (body_of p.PROPERTY) in_property.constant shown grown at)
      (searches.nothing (p.EQ_CONST ∷ []) (drop 7 (body_of p.PROPERTY)) in_property.no_constant (rest 7 shown) (searches.rest 7 (body_of p.PROPERTY) shown grown) (place 7 at shown)) in
      let accessors_are = ap (map (read.accessor s around gs))
      (searches.parts accessor_parts 8 (body_of p.PROPERTY) in_property.accessors shown grown at
      ∙ first_are pieces n.PROPERTY_ITEM n.PROPERTY_ITEM_STAR p.PROPERTY_ITEM_STAR_MORE p.PROPERTY_ITEM_STAR_END property_row xs ys row_grown accessor_parts refl refl
      (row_among formed s around a knows path gs ms has p.PROPERTY_ITEM_OTHER p.PROPERTY_ITEM_CUSTOM is_property_accessor (property_lines a.externs path ms) x.accessors m1.accessors inside)
      (customs_lack a.externs p.PROPERTY_ITEM_CUSTOM refl property_custom_holds_none x.attributes) items_at (place 9 at shown))
      ∙ row_read formed s around a knows path gs ms has p.PROPERTY_ITEM_OTHER p.PROPERTY_ITEM_CUSTOM is_property_accessor (property_lines a.externs path ms) x.accessors m1.accessors inside items_at items_agree.0 in
      let attributes_are = ap (attributes s around)
      (searches.parts (p.PROPERTY_ITEM_CUSTOM ∷ []) 8 (body_of p.PROPERTY) in_property.customs shown grown at
      ∙ second_are pieces n.PROPERTY_ITEM n.PROPERTY_ITEM_STAR p.PROPERTY_ITEM_STAR_MORE p.PROPERTY_ITEM_STAR_END property_row xs ys row_grown (p.PROPERTY_ITEM_CUSTOM ∷ []) refl refl
      (row_lacks formed s around a knows path gs ms has p.PROPERTY_ITEM_OTHER p.PROPERTY_ITEM_CUSTOM is_property_accessor (property_lines a.externs path ms) x.accessors m1.accessors inside)
      (customs_among a.externs p.PROPERTY_ITEM_CUSTOM refl x.attributes) items_at (place 9 at shown))
      ∙ attribute_laws s around a knows x.attributes m1.attributes h1.1 p.PROPERTY_ITEM_CUSTOM (end_of items_at xs) items_agree.1 in
      let no_explicit = is_false x.sig.explicit_this d2.1 in
      let no_vararg = is_false x.sig.vararg d1.1 in
      let no_generic = sym (eqb-true x.sig.generic 0 d3.1) in
      let without_sentinel = no_sentinel x.sig.sentinel d3.0 in
      λ i. record {
        name = name_is i;
        flags = flags_are i;
        sig = record { has_this = this_is i; explicit_this = no_explicit i; vararg = no_vararg i; generic = no_generic i; ret = ret_is i; params = params_are i; sentinel = without_sentinel i };
        constant = constant_is i;
        accessors = accessors_are i;
        attributes = attributes_are i;
      }

  in_event : InEvent
  unfolding ilasm rule_by has_bit below below_masks
  in_event = record { flags_behind = refl; owner = refl; accessors = refl; customs = refl }

  none_left : owners_in s around f.none ≡ []
  unfolding types_in
  none_left = refl

  event_is : (x : Event) → is_event a x ≡ true → is_event_held x ≡ true → list_all (is_accessor_of (length ms)) x.accessors ≡ true →
      Grows (body_of p.EVENT) (written.event a.externs path ms x).below → (at : ℕ) → Agrees s at (written.event a.externs path ms x).below →
      read.event s around gs (numbered at (written.event a.externs path ms x).below) ≡ x
  unfolding ilasm rule_by written.event is_event_held
  event_is x m h inside grown at ag =
      let m1 = (events_named a x).0 m in
      let h1 = and_parts _ _ h in
      let h2 = and_parts _ _ h1.0 in
      let shown = (written.event a.externs path ms x).below in
      let g = numbered at shown in
      let xs = flat_map (written.accessor a.externs p.EVENT_ITEM_OTHER path ms) x.accessors in
      let ys = customs a.externs p.EVENT_ITEM_CUSTOM x.attributes in
      let row_grown = (searches.rest 5 (body_of p.EVENT) shown grown).1 in
      let items_at = place 5 at shown in
      let items_agree = segments.agree s items_at xs ys (segments.row s p.EVENT_ITEM_STAR_MORE p.EVENT_ITEM_STAR_END (xs ++ ys) items_at ag.1.1.1.1.1.0) in
      let name_is = ap (λ t. dotted (part_texts t)) ag.1.1.1.0.text ∙ names.name x.name m1.name in
      let flags_at = options.row p.PROPERTY_ATTR_STAR_MORE p.PROPERTY_ATTR_STAR_END refl refl (flag_items n.PROPERTY_ATTR p.PROPERTY_ATTR_FLAGS property_words x.flags) (suc at) (numbered (place 2 at shown) (rest 2 shown))
      (searches.child (p.PROPERTY_ATTR_STAR_MORE ∷ []) 5 (drop 2 (body_of p.EVENT)) in_event.flags_behind (rest 2 shown) (searches.rest 2 (body_of p.EVENT) shown grown) (place 2 at shown)) in
      let flags_are = ap (λ c. flags.flags_of s flags.property_words (flags.flags_in p.PROPERTY_ATTR_STAR_MORE p.PROPERTY_ATTR_STAR_END c)) flags_at
      ∙ flag_laws.properties s (suc at) x.flags (small_16 x.flags (ltb-true x.flags 0x10000 h2.0)) ag.1.0 in
      let of_is = ap first_owner
      (walks.owners s around 2 (body_of p.EVENT) in_event.owner shown grown at
      ∙ formed.owners s around a knows x.of m1.of h2.1 (place 2 at shown) ag.1.1.0 (numbered (place 3 at shown) (rest 3 shown))) in
      let accessors_are = ap (map (read.accessor s around gs))
      (searches.parts accessor_parts 5 (body_of p.EVENT) in_event.accessors shown grown at
      ∙ first_are pieces n.EVENT_ITEM n.EVENT_ITEM_STAR p.EVENT_ITEM_STAR_MORE p.EVENT_ITEM_STAR_END event_row xs ys row_grown accessor_parts refl refl
      (row_among formed s around a knows path gs ms has p.EVENT_ITEM_OTHER p.EVENT_ITEM_CUSTOM is_event_accessor (event_lines a.externs path ms) x.accessors m1.accessors inside)
      (customs_lack a.externs p.EVENT_ITEM_CUSTOM refl event_custom_holds_none x.attributes) items_at (place 6 at shown))
      ∙ row_read formed s around a knows path gs ms has p.EVENT_ITEM_OTHER p.EVENT_ITEM_CUSTOM is_event_accessor (event_lines a.externs path ms) x.accessors m1.accessors inside items_at items_agree.0 in
      let attributes_are = ap (attributes s around)
      (searches.parts (p.EVENT_ITEM_CUSTOM ∷ []) 5 (body_of p.EVENT) in_event.customs shown grown at
      ∙ second_are pieces n.EVENT_ITEM n.EVENT_ITEM_STAR p.EVENT_ITEM_STAR_MORE p.EVENT_ITEM_STAR_END event_row xs ys row_grown (p.EVENT_ITEM_CUSTOM ∷ []) refl refl
      (row_lacks formed s around a knows path gs ms has p.EVENT_ITEM_OTHER p.EVENT_ITEM_CUSTOM is_event_accessor (event_lines a.externs path ms) x.accessors m1.accessors inside)
      (customs_among a.externs p.EVENT_ITEM_CUSTOM refl x.attributes) items_at (place 6 at shown))
      ∙ attribute_laws s around a knows x.attributes m1.attributes h1.1 p.EVENT_ITEM_CUSTOM (end_of items_at xs) items_agree.1 in
      λ i. record { name = name_is i; flags = flags_are i; of = of_is i; accessors = accessors_are i; attributes = attributes_are i }

pub properties_are_read : NamesAreRead → FlagsAreRead → ConstantsAreRead → AttributesAreRead → ConventionsAreRead → ArgumentsAreRead → FormedAreRead → FormedAreReadable → SearchesPass →
    OptionsAreRead → SegmentsAreRead → PiecesAreRead → WalksPass → PropertiesAreRead
properties_are_read names flag_laws constants attribute_laws conventions args formed readable searches options segments pieces walks = record {
  properties = property_is names flag_laws constants attribute_laws conventions args formed readable searches options segments pieces walks;
  events = event_is names flag_laws constants attribute_laws conventions args formed readable searches options segments pieces walks;
}
