-- Properties and events break no rule.
use Rattle.std.proofs.Common.{◌≡◌, ℕ, suc, ◌+◌, not, Bool, true, false, ◌&&◌, List, [], ◌∷◌, ◌++◌, map, take, length, Option, None, Some, refl, ap, sym, subst, ◌∙◌, append-nil}
use Rattle.std.proofs.lemmas.Bool.{and_parts, false≢true}
use Rattle.std.specs.List.{list_all, flat_map}
use Rattle.std.specs.Prelude.{is_none}
use Rattle.ilasm_grammar.specs.Ilasm.{ilasm, rule_by, has_bit}
use Rattle.ilasm_grammar.specs.declared.nonterminals.TheConstants as n
use Rattle.ilasm_grammar.specs.declared.productions.TheConstants as p
use Rattle.ilasm_grammar.specs.declared.symbol.Symbol.TheVariants.{Nonterminal}
use Rattle.type_terms.specs.declared.name.TypeId.{TypeId}
use Rattle.type_terms.specs.declared.term.SigType.{SigType}
use Rattle.assembly_tree.specs.WellFormedMembers.{is_property, is_event, is_accessor_of}
use Rattle.assembly_tree.specs.WellFormedTerms.{is_type}
use Rattle.assembly_tree.specs.declared.assembly.Assembly.{Assembly}
use Rattle.assembly_tree.specs.declared.assembly.ExternAssembly.{ExternAssembly}
use Rattle.assembly_tree.specs.declared.members.Attribute.{Attribute}
use Rattle.assembly_tree.specs.declared.members.Event.{Event}
use Rattle.assembly_tree.specs.declared.members.Method.{Method}
use Rattle.assembly_tree.specs.declared.members.Property.{Property}
use Rattle.assembly_tree.proofs.FormedFacts.{properties_named, events_named, signatures_named}
use Rattle.source_model.specs.Forest as f
use Rattle.source_model.specs.Nodes.{Around, Node, nodes_in}
use Rattle.source_model.specs.Signatures.{not_in_property}
use Rattle.source_model.specs.Source.{Source}
use Rattle.source_model.specs.Undeclared.{accessors_undeclared_of}
use Rattle.faultless_nodes.specs.Laws.{BreaksNothing, EachBreaksNothing, asked}
use Rattle.listing_declarations.specs.Laws.{IsListingOf}
use Rattle.listing_groups.specs.Laws.{property_items, event_items}
use Rattle.listing_growth.specs.Held.{is_u16, is_type_held, is_property_held, is_event_held}
use Rattle.listing_growth.specs.Laws.{TermsStand}
use Rattle.listing_growth.specs.Standing.{can_stand, all_stand}
use Rattle.listing_model.specs.Flags.{flag_items, property_words}
use Rattle.listing_model.specs.Grown.{body_of, Grows}
use Rattle.listing_model.specs.Members as written
use Rattle.listing_model.specs.Members.{property_flags, braces}
use Rattle.listing_model.specs.References.{convention, argument, arguments, with_sentinel}
use Rattle.listing_model.specs.Shown.{Shown, none, Item, put, size, star_production, star_below}
use Rattle.listing_model.specs.Types.{name, type_of, type_below, owner}
use Rattle.listing_model.specs.Values.{constant_opt, customs}
use Rattle.listing_reading.specs.Below.{below, cant_stand, cant_lead}
use Rattle.listing_reading.specs.BelowMasks.{below_masks}
use Rattle.listing_reading.specs.Numbered.{numbered, Agrees, rest, place}
use Rattle.listing_references.specs.Laws.{ConventionsAreRead}
use Rattle.listing_rows.specs.Segments.{end_of, ItemsAgree, pieces_at, EachGrown, EachLacks}
use Rattle.listing_denotes.specs.Accessors.{IsInType, AccessorsBreakNothing}
use Rattle.listing_denotes.specs.Quiet.{ItemsBreakNothing}
use Rattle.listing_denotes.specs.References.{IsQuiet, AttributesBreakNothing}
use Rattle.listing_denotes.specs.Terms.{TermsBreakNothing}
use Rattle.listing_denotes.specs.Values.{FlagsBreakNothing, ConstantsBreakNothing}
use Rattle.listing_denotes.proofs.AccessorsLines.{accessor_parts, LineLaws, AllDeclared, none_undeclared, property_accessors, event_accessors}
use Rattle.listing_denotes.proofs.ReferencesCounts.{in_signature, no_dots}

-- ---- where what is sought stands

pub record InProperty : Type 0 where
  pub convention : cant_lead (p.CALL_CONV ∷ []) (take 2 (body_of p.PROPERTY)) ≡ true
  pub signature : cant_lead (p.SIGNATURE ∷ []) (take 5 (body_of p.PROPERTY)) ≡ true
  pub accessors : cant_stand accessor_parts (take 8 (body_of p.PROPERTY)) ≡ true

in_property : InProperty
unfolding ilasm rule_by has_bit below below_masks
in_property = record { convention = refl; signature = refl; accessors = refl }

accessors_in_event : cant_stand accessor_parts (take 5 (body_of p.EVENT)) ≡ true
unfolding ilasm rule_by has_bit below below_masks
accessors_in_event = refl

property_custom_holds_none : cant_stand accessor_parts (body_of p.PROPERTY_ITEM_CUSTOM) ≡ true
unfolding ilasm rule_by has_bit below below_masks
property_custom_holds_none = refl

event_custom_holds_none : cant_stand accessor_parts (body_of p.EVENT_ITEM_CUSTOM) ≡ true
unfolding ilasm rule_by has_bit below below_masks
event_custom_holds_none = refl

property_row : body_of p.PROPERTY_ITEM_STAR_MORE ≡ Nonterminal n.PROPERTY_ITEM ∷ Nonterminal n.PROPERTY_ITEM_STAR ∷ []
unfolding ilasm rule_by
property_row = refl

event_row : body_of p.EVENT_ITEM_STAR_MORE ≡ Nonterminal n.EVENT_ITEM ∷ Nonterminal n.EVENT_ITEM_STAR ∷ []
unfolding ilasm rule_by
event_row = refl

customs_lack : (externs : List ExternAssembly) (production : ℕ) → f.is_among accessor_parts production ≡ false → cant_stand accessor_parts (body_of production) ≡ true → (xs : List Attribute) →
    EachLacks accessor_parts (customs externs production xs)
customs_lack externs production h c [] = tt
customs_lack externs production h c (x ∷ xs) = (h, c, customs_lack externs production h c xs)

none_of : (o : Option ℕ) → is_none o ≡ true → o ≡ None
none_of None h = refl
none_of (Some k) h = absurd (false≢true h)

is_false : (b : Bool) → not b ≡ true → b ≡ false
is_false false h = refl
is_false true h = absurd (false≢true h)

both : (u v : Bool) → u ≡ true → v ≡ true → (u && v) ≡ true
both true v h k = k
both false v h k = h

-- what isn't there has no parts
nothing_there : (ps : List f.Part) → f.is_any_part ps ≡ false → ps ≡ []
nothing_there [] h = refl
nothing_there (q ∷ ps) h = absurd (false≢true (sym h))

module _ (laws : LineLaws) (flags : FlagsBreakNothing) (constants : ConstantsBreakNothing) (terms : TermsBreakNothing) (attributes : AttributesBreakNothing) (conventions_read : ConventionsAreRead) (types_stand : TermsStand)
    (s : Source) (a : Assembly) (listed : IsListingOf s a) (x : Around) (path : List TypeId) (ms : List Method) (around : IsInType s a x path ms) where
  -- ---- braces with accessors and attributes

  abbrev RowQuiet : List Item → Type 0
  RowQuiet is = (j : ℕ) → ItemsAgree s j is → ItemsBreakNothing s x j is

  both_quiet : (is js : List Item) → RowQuiet is → RowQuiet js → RowQuiet (is ++ js)
  both_quiet is js h k j ag =
      let parts = laws.segments.agree s j is js ag in laws.rows.joined s x j is js (h j parts.0) (k (end_of j is) parts.1)

  braces_quiet : (more end : ℕ) → f.is_among asked more ≡ false → f.is_among asked end ≡ false → (items : List Item) → RowQuiet items → IsQuiet s x (braces more end items)
  braces_quiet more end m e items q at ag =
      let last = suc at + size (star_below more end items) in
      laws.rows.row s x more end m e items (suc at) (f.leaf last f.none) (q (suc at) (laws.segments.row s more end items (suc at) ag.1.0)) tt

  flags_then : (k : ℕ) → is_u16 k ≡ true → (after : Shown) → IsQuiet s x after → IsQuiet s x (property_flags a.externs k after)
  flags_then k h after r at ag =
      let items = flag_items n.PROPERTY_ATTR p.PROPERTY_ATTR_FLAGS property_words k in
      let next = at + size (star_below p.PROPERTY_ATTR_STAR_MORE p.PROPERTY_ATTR_STAR_END items) in
      laws.rows.row s x p.PROPERTY_ATTR_STAR_MORE p.PROPERTY_ATTR_STAR_END refl refl items at (numbered next after)
      (flags.properties s x k h at (laws.segments.row s p.PROPERTY_ATTR_STAR_MORE p.PROPERTY_ATTR_STAR_END items at ag.0)) (r next ag.1)

  -- the accessors in a row, with attributes behind them
  row_declared : (y nonterminal more end : ℕ) → body_of more ≡ Nonterminal y ∷ Nonterminal nonterminal ∷ [] → f.is_among accessor_parts more ≡ false → f.is_among accessor_parts end ≡ false → (is js : List Item) →
      Grows (body_of (star_production more end (is ++ js))) (star_below more end (is ++ js)) → EachLacks accessor_parts js → (at : ℕ) (k : ℕ) → AllDeclared laws s a listed x path ms around (pieces_at accessor_parts at is) →
      AllDeclared laws s a listed x path ms around (f.parts accessor_parts (f.branch (star_production more end (is ++ js)) (numbered at (star_below more end (is ++ js))) (f.leaf k f.none)))
  row_declared y nonterminal more end body m e is js grown lack at k h =
      let each = laws.pieces.each y is js (laws.pieces.grown y nonterminal more end body (is ++ js) grown) in
      let own = pieces_at accessor_parts at is in
      let none_there = laws.pieces.none accessor_parts y (end_of at is) js each.1 lack in
      let parts_are : f.parts accessor_parts (f.branch (star_production more end (is ++ js)) (numbered at (star_below more end (is ++ js))) (f.leaf k f.none)) ≡ own =
      laws.pieces.row accessor_parts more end m e (is ++ js) at (f.leaf k f.none)
      ∙ (append-nil (pieces_at accessor_parts at (is ++ js))
      ∙ (laws.pieces.joined accessor_parts at is js ∙ (ap (λ (ps : List f.Part). own ++ ps) none_there ∙ append-nil own))) in
      subst (AllDeclared laws s a listed x path ms around) (sym parts_are) h

  -- ---- properties

  all_stands : (ts : List SigType) → list_all (is_type a) ts ≡ true → list_all is_type_held ts ≡ true → all_stand ts ≡ true
  all_stands [] m h = refl
  all_stands (t ∷ ts) m h =
      let ms1 = and_parts (is_type a t) (list_all (is_type a) ts) m in
      let hs = and_parts (is_type_held t) (list_all is_type_held ts) h in
      both (can_stand t) (all_stand ts) (laws.readable.types a (laws.listings.knows s a listed).names t ms1.0 hs.0).1 (all_stands ts ms1.1 hs.1)

  -- the convention and the arguments of a property have nothing that can't stand there
  barred_none : (y : Property) → is_property a y ≡ true → is_property_held y ≡ true → Grows (body_of p.PROPERTY) (written.property a.externs path ms y).below → (at : ℕ) →
      not_in_property (numbered at (written.property a.externs path ms y).below) ≡ []
  unfolding ilasm rule_by written.property is_property_held
  barred_none y formed held grown at =
      let m1 = (properties_named a y).0 formed in
      let sig = (signatures_named a y.sig).0 m1.sig in
      let d1 = and_parts _ _ m1.declaration in
      let d2 = and_parts _ _ d1.0 in
      let d3 = and_parts _ _ d2.0 in
      let h1 = and_parts _ _ held in
      let h2 = and_parts _ _ h1.0 in
      let h3 = and_parts _ _ h2.0 in
      let h4 = and_parts _ _ h3.1 in
      let shown = (written.property a.externs path ms y).below in
      let g = numbered at shown in
      let called = laws.searches.child (p.CALL_CONV ∷ []) 2 (body_of p.PROPERTY) in_property.convention shown grown at in
      let given = laws.searches.child (p.SIGNATURE ∷ []) 5 (body_of p.PROPERTY) in_property.signature shown grown at in
      let no_sentinel = none_of y.sig.sentinel d3.0 in
      let no_explicit : f.parts (p.EXPLICIT_OPT_SOME ∷ []) (f.child (p.CALL_CONV ∷ []) g) ≡ [] =
      nothing_there _ (ap (f.has p.EXPLICIT_OPT_SOME) called ∙ (conventions_read.explicit y.sig (rest 3 shown) (place 2 at shown) sig.explicit ∙ is_false y.sig.explicit_this d2.1)) in
      let no_vararg : f.parts (p.CALL_KIND_VARARG ∷ []) (f.child (p.CALL_CONV ∷ []) g) ≡ [] =
      nothing_there _ (ap (f.has p.CALL_KIND_VARARG) called ∙ (conventions_read.vararg y.sig (rest 3 shown) (place 2 at shown) ∙ is_false y.sig.vararg d1.1)) in
      let without : f.parts (p.SIG_ARG_ELLIPSIS ∷ []) (f.child (p.SIGNATURE ∷ []) g) ≡ [] =
      ap (f.parts (p.SIG_ARG_ELLIPSIS ∷ [])) given
      ∙ (ap (λ (k : Option ℕ). f.parts (p.SIG_ARG_ELLIPSIS ∷ []) (numbered (place 5 at shown) (in_signature (with_sentinel k (map (argument a.externs) y.sig.params))))) no_sentinel
      ∙ no_dots laws.searches types_stand laws.pieces a.externs y.sig.params (all_stands y.sig.params sig.params h4.1) (place 5 at shown)) in
      λ i. map f.first_token (f.below_each (without i)) ++ map f.first_token (f.below_each (no_explicit i) ++ f.below_each (no_vararg i))

  property_quiet : (y : Property) → is_property a y ≡ true → is_property_held y ≡ true → list_all (is_accessor_of (length ms)) y.accessors ≡ true → Grows (body_of p.PROPERTY) (written.property a.externs path ms y).below →
      (at : ℕ) → Agrees s at (written.property a.externs path ms y).below → EachBreaksNothing s (nodes_in s x (f.branch p.PROPERTY (numbered at (written.property a.externs path ms y).below) f.none))
  unfolding ilasm rule_by written.property is_property_held
  property_quiet y formed held inside grown at ag =
      let m1 = (properties_named a y).0 formed in
      let sig = (signatures_named a y.sig).0 m1.sig in
      let h1 = and_parts _ _ held in
      let h2 = and_parts _ _ h1.0 in
      let h3 = and_parts _ _ h2.0 in
      let h4 = and_parts _ _ h3.1 in
      let shown = (written.property a.externs path ms y).below in
      let g = numbered at shown in
      let is = flat_map (written.accessor a.externs p.PROPERTY_ITEM_OTHER path ms) y.accessors in
      let js = customs a.externs p.PROPERTY_ITEM_CUSTOM y.attributes in
      let items_at = place 8 at shown in
      let items_agree = laws.segments.agree s items_at is js (laws.segments.row s p.PROPERTY_ITEM_STAR_MORE p.PROPERTY_ITEM_STAR_END (is ++ js) items_at ag.1.1.1.1.1.1.1.1.0) in
      let row_grown = (laws.searches.rest 8 (body_of p.PROPERTY) shown grown).1 in
      let barred = barred_none y formed held grown at in
      let all_declared =
      row_declared n.PROPERTY_ITEM n.PROPERTY_ITEM_STAR p.PROPERTY_ITEM_STAR_MORE p.PROPERTY_ITEM_STAR_END property_row refl refl is js row_grown
      (customs_lack a.externs p.PROPERTY_ITEM_CUSTOM refl property_custom_holds_none y.attributes) items_at (place 9 at shown)
      (property_accessors laws s a listed x path ms around y.accessors inside items_at items_agree.0).1 in
      let node : Node = record { production = p.PROPERTY; below = g; around = x } in
      let known : accessors_undeclared_of s node ≡ [] =
      none_undeclared laws s a listed x path ms around (f.parts accessor_parts g)
      (subst (AllDeclared laws s a listed x path ms around) (sym (laws.searches.parts accessor_parts 8 (body_of p.PROPERTY) in_property.accessors shown grown at)) all_declared) in
      let own : BreaksNothing s node =
      record {
        types = refl;
        scopes = refl;
        typars = refl;
        param_types = refl;
        numbers = simp barred;
        depth = refl;
        nesting = refl;
        paths = refl;
        class = λ i. absurd (false≢true i);
        field = λ i. absurd (false≢true i);
        label = λ i. absurd (false≢true i);
        accessors = λ i. known;
        method = λ i. absurd (false≢true i);
      } in
      let q8 : RowQuiet (is ++ js) = both_quiet is js (λ j i. (property_accessors laws s a listed x path ms around y.accessors inside j i).0)
      (λ j i. attributes s a listed x y.attributes m1.attributes h1.1 p.PROPERTY_ITEM_CUSTOM refl j i) in
      let g7 = braces p.PROPERTY_ITEM_STAR_MORE p.PROPERTY_ITEM_STAR_END (is ++ js) in
      let q7 : IsQuiet s x g7 = braces_quiet p.PROPERTY_ITEM_STAR_MORE p.PROPERTY_ITEM_STAR_END refl refl (is ++ js) q8 in
      let g6 = constant_opt y.constant g7 in
      let q6 : IsQuiet s x g6 = λ j i. constants.there s x y.constant m1.constant h2.1 g7 j i q7 in
      let g5 = arguments a.externs y.sig g6 in
      let q5 : IsQuiet s x g5 = laws.references.arguments s a listed x y.sig m1.sig h3.1 g6 q6 in
      let g4 = name y.name g5 in
      let q4 : IsQuiet s x g4 = λ j i. q5 (suc j) i.1 in
      let g3 = put (type_of a.externs y.sig.ret) g4 in
      let q3 : IsQuiet s x g3 = λ j i. terms.types s a listed x y.sig.ret sig.ret h4.0 j i.0 (numbered (j + size (type_below a.externs y.sig.ret)) g4) (q4 (j + size (type_below a.externs y.sig.ret)) i.1) in
      let g2 = convention y.sig g3 in
      let q2 : IsQuiet s x g2 = laws.references.conventions s x y.sig g3 q3 in
      laws.unasked.branch s x p.PROPERTY g f.none own (flags_then y.flags h3.0 g2 q2 (suc at) ag.1) tt

  properties_quiet : (ys : List Property) → list_all (is_property a) ys ≡ true → list_all is_property_held ys ≡ true → list_all (λ y. list_all (is_accessor_of (length ms)) y.accessors) ys ≡ true → (at : ℕ) →
      EachGrown n.MEMBER (property_items a.externs path ms ys) → ItemsAgree s at (property_items a.externs path ms ys) → ItemsBreakNothing s x at (property_items a.externs path ms ys)
  unfolding ilasm rule_by written.property
  properties_quiet [] m h l at g ag = tt
  properties_quiet (y ∷ ys) m h l at g ag =
      let ms1 = and_parts (is_property a y) (list_all (is_property a) ys) m in
      let hs = and_parts (is_property_held y) (list_all is_property_held ys) h in
      let ls = and_parts (list_all (is_accessor_of (length ms)) y.accessors) (list_all (λ z. list_all (is_accessor_of (length ms)) z.accessors) ys) l in
      let below = numbered at (put (written.property a.externs path ms y) none) in (
        laws.unasked.branch s x p.MEMBER_PROPERTY below f.none (laws.unasked.node s _ refl) (property_quiet y ms1.0 hs.0 ls.0 g.1.1 at ag.0.0) tt,
        properties_quiet ys ms1.1 hs.1 ls.1 (at + size (put (written.property a.externs path ms y) none)) g.2 ag.1,
      )

  -- ---- events

  event_quiet : (y : Event) → is_event a y ≡ true → is_event_held y ≡ true → list_all (is_accessor_of (length ms)) y.accessors ≡ true → Grows (body_of p.EVENT) (written.event a.externs path ms y).below → (at : ℕ) →
      Agrees s at (written.event a.externs path ms y).below → EachBreaksNothing s (nodes_in s x (f.branch p.EVENT (numbered at (written.event a.externs path ms y).below) f.none))
  unfolding ilasm rule_by written.event is_event_held
  event_quiet y formed held inside grown at ag =
      let m1 = (events_named a y).0 formed in
      let h1 = and_parts _ _ held in
      let h2 = and_parts _ _ h1.0 in
      let shown = (written.event a.externs path ms y).below in
      let g = numbered at shown in
      let is = flat_map (written.accessor a.externs p.EVENT_ITEM_OTHER path ms) y.accessors in
      let js = customs a.externs p.EVENT_ITEM_CUSTOM y.attributes in
      let items_at = place 5 at shown in
      let items_agree = laws.segments.agree s items_at is js (laws.segments.row s p.EVENT_ITEM_STAR_MORE p.EVENT_ITEM_STAR_END (is ++ js) items_at ag.1.1.1.1.1.0) in
      let row_grown = (laws.searches.rest 5 (body_of p.EVENT) shown grown).1 in
      let all_declared =
      row_declared n.EVENT_ITEM n.EVENT_ITEM_STAR p.EVENT_ITEM_STAR_MORE p.EVENT_ITEM_STAR_END event_row refl refl is js row_grown
      (customs_lack a.externs p.EVENT_ITEM_CUSTOM refl event_custom_holds_none y.attributes) items_at (place 6 at shown)
      (event_accessors laws s a listed x path ms around y.accessors inside items_at items_agree.0).1 in
      let node : Node = record { production = p.EVENT; below = g; around = x } in
      let known : accessors_undeclared_of s node ≡ [] =
      none_undeclared laws s a listed x path ms around (f.parts accessor_parts g)
      (subst (AllDeclared laws s a listed x path ms around) (sym (laws.searches.parts accessor_parts 5 (body_of p.EVENT) accessors_in_event shown grown at)) all_declared) in
      let own : BreaksNothing s node =
      record {
        types = refl;
        scopes = refl;
        typars = refl;
        param_types = refl;
        numbers = refl;
        depth = refl;
        nesting = refl;
        paths = refl;
        class = λ i. absurd (false≢true i);
        field = λ i. absurd (false≢true i);
        label = λ i. absurd (false≢true i);
        accessors = λ i. known;
        method = λ i. absurd (false≢true i);
      } in
      let q5 : RowQuiet (is ++ js) = both_quiet is js (λ j i. (event_accessors laws s a listed x path ms around y.accessors inside j i).0)
      (λ j i. attributes s a listed x y.attributes m1.attributes h1.1 p.EVENT_ITEM_CUSTOM refl j i) in
      let g4 = braces p.EVENT_ITEM_STAR_MORE p.EVENT_ITEM_STAR_END (is ++ js) in
      let q4 : IsQuiet s x g4 = braces_quiet p.EVENT_ITEM_STAR_MORE p.EVENT_ITEM_STAR_END refl refl (is ++ js) q5 in
      let g3 = name y.name g4 in
      let q3 : IsQuiet s x g3 = λ j i. q4 (suc j) i.1 in
      let g2 = put (owner a.externs y.of) g3 in
      let own_size = size (owner a.externs y.of).below in
      let q2 : IsQuiet s x g2 = λ j i. terms.owners s a listed x y.of m1.of h2.1 j i.0 (numbered (j + own_size) g3) (q3 (j + own_size) i.1) in
      laws.unasked.branch s x p.EVENT g f.none own (flags_then y.flags h2.0 g2 q2 (suc at) ag.1) tt

  events_quiet : (ys : List Event) → list_all (is_event a) ys ≡ true → list_all is_event_held ys ≡ true → list_all (λ y. list_all (is_accessor_of (length ms)) y.accessors) ys ≡ true → (at : ℕ) →
      EachGrown n.MEMBER (event_items a.externs path ms ys) → ItemsAgree s at (event_items a.externs path ms ys) → ItemsBreakNothing s x at (event_items a.externs path ms ys)
  unfolding ilasm rule_by written.event
  events_quiet [] m h l at g ag = tt
  events_quiet (y ∷ ys) m h l at g ag =
      let ms1 = and_parts (is_event a y) (list_all (is_event a) ys) m in
      let hs = and_parts (is_event_held y) (list_all is_event_held ys) h in
      let ls = and_parts (list_all (is_accessor_of (length ms)) y.accessors) (list_all (λ z. list_all (is_accessor_of (length ms)) z.accessors) ys) l in
      let below = numbered at (put (written.event a.externs path ms y) none) in (
        laws.unasked.branch s x p.MEMBER_EVENT below f.none (laws.unasked.node s _ refl) (event_quiet y ms1.0 hs.0 ls.0 g.1.1 at ag.0.0) tt,
        events_quiet ys ms1.1 hs.1 ls.1 (at + size (put (written.event a.externs path ms y) none)) g.2 ag.1,
      )

pub accessors_break_nothing : LineLaws → FlagsBreakNothing → ConstantsBreakNothing → TermsBreakNothing → AttributesBreakNothing → ConventionsAreRead → TermsStand → AccessorsBreakNothing
accessors_break_nothing laws flags constants terms attributes conventions_read types_stand = record {
  properties = λ s a listed x path ms around ys m h l at g ag. properties_quiet laws flags constants terms attributes conventions_read types_stand s a listed x path ms around ys m h l at g ag;
  events = λ s a listed x path ms around ys m h l at g ag. events_quiet laws flags constants terms attributes conventions_read types_stand s a listed x path ms around ys m h l at g ag;
}
