-- Types have `.entrypoint` as often as their methods say.
use Rattle.std.proofs.Common.{◌≡◌, ℕ, zero, suc, ◌+◌, ◌≤◌, Bool, true, false, if◌then◌else◌, List, [], ◌∷◌, ◌++◌, map, take, drop, length, length-append, refl, ap, sym, subst, ◌∙◌, append-nil, arith}
use Rattle.std.proofs.lemmas.Bool.{leb-true}
use Rattle.std.proofs.lemmas.List.Sums.{sum_by-cons, sum-map}
use Rattle.std.specs.Prelude.{sum_by}
use Rattle.ilasm_grammar.specs.Ilasm.{ilasm, rule_by, has_bit}
use Rattle.ilasm_grammar.specs.declared.nonterminals.TheConstants as n
use Rattle.ilasm_grammar.specs.declared.productions.TheConstants as p
use Rattle.ilasm_grammar.specs.declared.symbol.Symbol.TheVariants.{Nonterminal}
use Rattle.type_terms.specs.declared.name.TypeId.{TypeId}
use Rattle.assembly_tree.specs.WellFormedTypes.{entries_in, entries_step, entries_of, entries}
use Rattle.assembly_tree.specs.declared.assembly.Assembly.{Assembly}
use Rattle.assembly_tree.specs.declared.typedef.TypeDef.{TypeDef}
use Rattle.assembly_tree.specs.declared.typedef.TypeDef.TheFolds.{fold_out-TypeDef}
use Rattle.assembly_tree.specs.declared.typedef.TypeDef.TheViews.{out-TypeDef}
use Rattle.assembly_tree.proofs.FormedFacts.{assemblies_named}
use Rattle.source_model.specs.DeclaredTwice.{entries_twice}
use Rattle.source_model.specs.Forest as f
use Rattle.source_model.specs.Source.{Source}
use Rattle.listing_bodies.specs.Laws.{LinesLack}
use Rattle.listing_class_heads.specs.Laws.{Head, class_shown}
use Rattle.listing_classes.specs.Laws.{ClassBodiesAreRead}
use Rattle.listing_groups.specs.Laws.{method_items, property_items, event_items}
use Rattle.listing_model.specs.Canon.{classes, contents}
use Rattle.listing_model.specs.Classes.{ClassShown, all_contents, classes_from, layout_lines, typar_member, class_members, class_step, class}
use Rattle.listing_model.specs.Grown.{body_of, Grows}
use Rattle.listing_model.specs.Manifests.{manifest_lines}
use Rattle.listing_model.specs.Members.{fields, field_contents, typar_lines}
use Rattle.listing_model.specs.Shown.{Shown, none, put, Item, size}
use Rattle.listing_model.specs.Values.{customs}
use Rattle.listing_reading.specs.Below.{below, cant_stand}
use Rattle.listing_reading.specs.BelowMasks.{below_masks}
use Rattle.listing_reading.specs.Laws.{SearchesPass}
use Rattle.listing_reading.specs.Numbered.{numbered, rest, place}
use Rattle.listing_rows.specs.Laws.{PiecesAreRead}
use Rattle.listing_rows.specs.Segments.{end_of, pieces_at, EachGrown, EachLacks}
use Rattle.listing_nesting.specs.Laws.{AreNested, head_of_type, opened, OthersLack, TypesAreFormed, EachNested}
use Rattle.listing_nesting.proofs.Lacks.{lack_lines, lack_customs, lack_typars, lack_fields, lack_properties, lack_events}
use Rattle.listing_declarations.specs.Laws.{IsListingOf, extern_items, manifest_items, type_items, field_items, global_items, data_items, manifest_place, types_place, fields_place, methods_place, data_place, HasDeclarations, DeclarationsAreRead}
use Rattle.listing_declarations.proofs.Elsewhere.{IsWithout, fields_lack, data_lack, externs_lack, IsNoLine, lines_lack}
use Rattle.listing_data.specs.Laws.{TypesStand}
use Rattle.listing_denotes.specs.Entries.{entry_parts, ListingsEnterOnce}
use Rattle.listing_denotes.proofs.EntriesMethods.{past_segment, methods_count}

-- ---- where entry points stand

pub record NoEntry : Type 0 where
  pub members : OthersLack entry_parts
  pub head : cant_stand entry_parts (take 7 (body_of p.CLASS)) ≡ true
  pub method : body_of p.MEMBER_METHOD ≡ Nonterminal n.METHOD ∷ []
  pub global : body_of p.DECL_METHOD ≡ Nonterminal n.METHOD ∷ []
  pub nested : body_of p.MEMBER_CLASS ≡ Nonterminal n.CLASS ∷ []
  pub top : body_of p.DECL_CLASS ≡ Nonterminal n.CLASS ∷ []
  pub externs : IsWithout entry_parts p.DECL_ASSEMBLY
  pub lines : IsNoLine entry_parts
  pub fields : IsWithout entry_parts p.DECL_FIELD
  pub customs : IsWithout entry_parts p.DECL_CUSTOM
  pub contents : IsWithout entry_parts p.DECL_DATA

no_entry : NoEntry
unfolding ilasm rule_by has_bit below below_masks
no_entry = record {
  members = record { pack = (refl, refl); size = (refl, refl); custom = (refl, refl); param = (refl, refl); field = (refl, refl); property = (refl, refl); event = (refl, refl) };
  head = refl;
  method = refl;
  global = refl;
  nested = refl;
  top = refl;
  externs = record { own = refl; body = refl };
  lines = record {
    names = record { own = refl; body = refl };
    customs = record { own = refl; body = refl };
    bases = record { own = refl; body = refl };
    alignments = record { own = refl; body = refl };
    stacks = record { own = refl; body = refl };
    subsystems = record { own = refl; body = refl };
    cor_flags = record { own = refl; body = refl };
  };
  fields = record { own = refl; body = refl };
  customs = record { own = refl; body = refl };
  contents = record { own = refl; body = refl };
}

pub record EntryLaws : Type 0 where
  pub searches : SearchesPass
  pub pieces : PiecesAreRead
  pub lines : LinesLack
  pub bodies : ClassBodiesAreRead
  pub formed : TypesAreFormed

module _ (laws : EntryLaws) (a : Assembly) where
  abbrev RowCounts : List TypeId → List TypeDef → Type 0
  RowCounts outer ts =
      (production x : ℕ) → body_of production ≡ Nonterminal n.CLASS ∷ [] → f.is_among entry_parts production ≡ false → (k at : ℕ) →
      EachGrown x (classes_from production outer k (map (class a.externs) ts)) →
      length (pieces_at entry_parts at (classes_from production outer k (map (class a.externs) ts))) ≡ sum_by entries_of ts

  entries_out : (t : TypeDef) → entries_of t ≡ entries_in (out-TypeDef t).methods + sum_by entries_of (out-TypeDef t).nested
  entries_out t = fold_out-TypeDef ℕ entries_step t ∙ ap (λ k. entries_in (out-TypeDef t).methods + k) (sum-map entries_of (out-TypeDef t).nested)

  past : (xs ys : List Item) (j : ℕ) → EachLacks entry_parts xs → EachGrown n.MEMBER (xs ++ ys) → (pieces_at entry_parts j (xs ++ ys) ≡ pieces_at entry_parts (end_of j xs) ys) × EachGrown n.MEMBER ys
  past xs ys j lack grew = past_segment laws.searches laws.pieces laws.lines a n.MEMBER xs ys j lack grew

  -- ---- one type

  module _ (path : List TypeId) (t : TypeDef) (inner_counts : RowCounts path (out-TypeDef t).nested) (k at : ℕ) where
    abbrev head : Head
    head = head_of_type t

    abbrev items : List Item
    items = class_members a.externs (opened a.externs t) path k

    abbrev shown : Shown
    shown = class_shown a.externs head items

    members_count : EachGrown n.MEMBER items → (j : ℕ) → length (pieces_at entry_parts j items) ≡ entries_of t
    members_count grew j =
        let o = out-TypeDef t in
        let w = no_entry.members in
        let is1 = layout_lines o.layout in
        let is2 = customs a.externs p.MEMBER_CUSTOM o.attributes in
        let is3 = typar_lines a.externs typar_member p.MEMBER_CUSTOM 1 o.generics in
        let is4 = fields a.externs p.MEMBER_FIELD p.MEMBER_CUSTOM k o.fields in
        let is5 = method_items a.externs p.MEMBER_METHOD o.methods in
        let is6 = property_items a.externs path o.methods o.properties in
        let is7 = event_items a.externs path o.methods o.events in
        let next = k + length (field_contents o.fields) in
        let is8 = classes_from p.MEMBER_CLASS path next (map (class a.externs) o.nested) in
        let e7 = is7 ++ is8 in
        let e6 = is6 ++ e7 in
        let e5 = is5 ++ e6 in
        let e4 = is4 ++ e5 in
        let e3 = is3 ++ e4 in
        let e2 = is2 ++ e3 in
        let p1 = past is1 e2 j (lack_lines entry_parts w laws.pieces a.externs o.layout) grew in
        let j2 = end_of j is1 in
        let p2 = past is2 e3 j2 (lack_customs entry_parts w laws.pieces a.externs o.attributes) p1.1 in
        let j3 = end_of j2 is2 in
        let p3 = past is3 e4 j3 (lack_typars entry_parts w laws.pieces a.externs o.generics 1) p2.1 in
        let j4 = end_of j3 is3 in
        let p4 = past is4 e5 j4 (lack_fields entry_parts w laws.pieces a.externs o.fields k) p3.1 in
        let j5 = end_of j4 is4 in
        let gs = laws.pieces.each n.MEMBER is5 e6 p4.1 in
        let j6 = end_of j5 is5 in
        let p6 = past is6 e7 j6 (lack_properties entry_parts w laws.pieces a.externs path o.methods o.properties) gs.1 in
        let j7 = end_of j6 is6 in
        let p7 = past is7 is8 j7 (lack_events entry_parts w laws.pieces a.externs path o.methods o.events) p6.1 in
        let j8 = end_of j7 is7 in
        let own = pieces_at entry_parts j5 is5 in
        let inside = pieces_at entry_parts j8 is8 in
        let parts : pieces_at entry_parts j items ≡ own ++ inside =
        p1.0 ∙ (p2.0 ∙ (p3.0 ∙ (p4.0 ∙ (laws.pieces.joined entry_parts j5 is5 e6 ∙ ap (λ ps. own ++ ps) (p6.0 ∙ p7.0))))) in
        let methods = methods_count laws.searches laws.pieces laws.lines a p.MEMBER_METHOD n.MEMBER refl no_entry.method o.methods gs.0 j5 in
        let nested = inner_counts p.MEMBER_CLASS n.MEMBER no_entry.nested refl next j8 p7.1 in
        let joined = length-append own inside in
        let out = entries_out t in
        let sum : length (own ++ inside) ≡ entries_of t = omega arith in
        ap (λ ps. length ps) parts ∙ sum

    shown_count : Grows (body_of p.CLASS) shown → length (f.parts entry_parts (numbered at shown)) ≡ entries_of t
    shown_count grown =
        let from = place 7 at shown in
        let behind = numbered (place 8 at shown) (rest 8 shown) in
        ap (λ ps. length ps)
        (laws.searches.parts entry_parts 7 (body_of p.CLASS) no_entry.head shown grown at
        ∙ (laws.pieces.row entry_parts p.MEMBER_STAR_MORE p.MEMBER_STAR_END refl refl items from behind ∙ append-nil (pieces_at entry_parts from items)))
        ∙ members_count (laws.bodies.grown a.externs head items grown) from

  -- ---- below a production that holds it

  class_is : (t : TypeDef) → class a.externs t ≡ class_step a.externs (opened a.externs t)
  unfolding class
  class_is t = fold_out-TypeDef ClassShown (class_step a.externs) t

  abbrev ItemCounts : List TypeId → TypeDef → ℕ → ℕ → ClassShown → Type 0
  ItemCounts outer t k at c = Grows (Nonterminal n.CLASS ∷ []) (put (c.shown outer k) none) → length (f.parts entry_parts (numbered at (put (c.shown outer k) none))) ≡ entries_of t

  item_counts : (outer : List TypeId) (t : TypeDef) → RowCounts (outer ++ (out-TypeDef t).id ∷ []) (out-TypeDef t).nested → (k at : ℕ) → ItemCounts outer t k at (class a.externs t)
  item_counts outer t inner k at = subst (ItemCounts outer t k at) (sym (class_is t)) here
    where
      here : ItemCounts outer t k at (class_step a.externs (opened a.externs t))
      here grown =
          let path = outer ++ (out-TypeDef t).id ∷ [] in
          ap (λ ps. length ps) (append-nil (f.parts entry_parts (numbered at (class_shown a.externs (head_of_type t) (class_members a.externs (opened a.externs t) path k)))))
          ∙ shown_count path t inner k at grown.1

  -- ---- side by side

  row_counts : (depth : ℕ) (top : Bool) (outer : List TypeId) (ts : List TypeDef) → AreNested a top depth outer ts → RowCounts outer ts
  row_counts zero top outer ts nested =
      subst (RowCounts outer) (sym (laws.formed.none a top outer ts nested)) (λ production x body apart k at grown. refl)
  row_counts (suc depth) top outer ts nested =
      go (λ inner us h. row_counts depth false inner us h) ts (laws.formed.each a top depth outer ts nested)
    where
      go : ((inner : List TypeId) (us : List TypeDef) → AreNested a false depth inner us → RowCounts inner us) → (us : List TypeDef) → EachNested a top depth outer us → RowCounts outer us
      go deeper [] each production x body apart k at grown = refl
      go deeper (t ∷ us) each production x body apart k at grown =
          let c = class a.externs t in
          let one = put (c.shown outer k) none in
          let own = f.parts entry_parts (numbered at one) in
          let behind = pieces_at entry_parts (at + size one) (classes_from production outer (k + length c.contents) (map (class a.externs) us)) in
          let first = item_counts outer t (deeper (outer ++ (out-TypeDef t).id ∷ []) (out-TypeDef t).nested each.0.nested) k at (subst (λ b. Grows b one) body grown.1) in
          let later = go deeper us each.1 production x body apart (k + length c.contents) (at + size one) grown.2 in
          let joined = length-append own behind in
          let more = sum_by-cons entries_of t us in
          let all : length (own ++ behind) ≡ sum_by entries_of (t ∷ us) = omega arith in
          ap (λ b. length ((if b then f.part production (numbered at one) ∷ [] else own) ++ behind)) apart ∙ all

-- ---- the whole

manifest_lacks : PiecesAreRead → (a : Assembly) → EachLacks entry_parts (manifest_items a)
unfolding manifest_lines
manifest_lacks pieces a = (no_entry.externs.own, no_entry.externs.body, lines_lack pieces entry_parts no_entry.lines a)

at_most_one : (ps : List f.Part) → length ps ≤ 1 → drop 1 (f.below_each ps) ≡ []
at_most_one [] h = refl
at_most_one (q ∷ []) h = refl
at_most_one (q ∷ (r ∷ ps)) h = absurd (omega arith)

module _ (laws : EntryLaws) (stand : TypesStand) (s : Source) (a : Assembly) (listed : IsListingOf s a) (has : HasDeclarations s a) where
  counted : length (f.parts entry_parts s.tree) ≡ entries a
  unfolding entries
  counted =
      let types = pieces_at entry_parts (types_place a) (type_items a) in
      let methods = pieces_at entry_parts (methods_place a) (global_items a) in
      let no1 = laws.pieces.none entry_parts n.DECL 0 (extern_items a) has.externs_grown (externs_lack entry_parts a.externs no_entry.externs 0 a.externs) in
      let no2 = laws.pieces.none entry_parts n.DECL (manifest_place a) (manifest_items a) has.manifest_grown (manifest_lacks laws.pieces a) in
      let no4 = laws.pieces.none entry_parts n.DECL (fields_place a) (field_items a) has.fields_grown (fields_lack entry_parts laws.pieces a.externs no_entry.fields no_entry.customs (length (all_contents (classes a))) a.fields) in
      let no6 = laws.pieces.none entry_parts n.DECL (data_place a) (data_items a) has.contents_grown (data_lack entry_parts no_entry.contents 0 (contents a)) in
      let parts : f.parts entry_parts s.tree ≡ types ++ methods =
      has.pieces entry_parts refl refl refl ∙ ((λ i. no1 i ++ (no2 i ++ (types ++ (no4 i ++ (methods ++ no6 i))))) ∙ ap (λ ps. types ++ ps) (append-nil methods)) in
      let of_types = row_counts laws a 100 true [] a.types (stand s a listed) p.DECL_CLASS n.DECL no_entry.top refl 0 (types_place a) has.types_grown in
      let of_methods = methods_count laws.searches laws.pieces laws.lines a p.DECL_METHOD n.DECL refl no_entry.global a.methods has.methods_grown (methods_place a) in
      let joined = length-append types methods in
      let sum : length (types ++ methods) ≡ entries_in a.methods + sum_by entries_of a.types = omega arith in
      ap (λ ps. length ps) parts ∙ sum

  once : entries_twice s ≡ []
  once =
      let one = leb-true (entries a) 1 ((assemblies_named a).0 listed.formed).one_entry in
      let all = counted in
      let few : length (f.parts entry_parts s.tree) ≤ 1 = omega arith in
      ap (map f.first_token) (at_most_one (f.parts entry_parts s.tree) few)

pub listings_enter_once : SearchesPass → PiecesAreRead → LinesLack → ClassBodiesAreRead → TypesAreFormed → TypesStand → DeclarationsAreRead → ListingsEnterOnce
listings_enter_once searches pieces lines bodies formed stand declared =
    let laws : EntryLaws = record { searches = searches; pieces = pieces; lines = lines; bodies = bodies; formed = formed } in
    record { counted = λ s a listed. counted laws stand s a listed (declared s a listed); once = λ s a listed. once laws stand s a listed (declared s a listed) }
