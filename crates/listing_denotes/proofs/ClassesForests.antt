-- The methods among the members of a type of a listing.
use Rattle.std.proofs.Common.{◌≡◌, ℕ, ◌+◌, ◌||◌, nat_eq, Bool, true, false, cond, List, [], ◌∷◌, ◌++◌, map, filter, length, refl, ap, sym, ◌∙◌, append-nil, arith}
use Rattle.std.proofs.lemmas.Bool.{false≢true}
use Rattle.ilasm_grammar.specs.Ilasm.{ilasm, rule_by, has_bit}
use Rattle.ilasm_grammar.specs.declared.productions.TheConstants as p
use Rattle.type_terms.specs.declared.name.TypeId.{TypeId}
use Rattle.assembly_tree.specs.declared.assembly.ExternAssembly.{ExternAssembly}
use Rattle.assembly_tree.specs.declared.typedef.TypeDef.TheOpen.{TypeDef-F}
use Rattle.source_model.specs.Forest as f
use Rattle.source_model.specs.Members.{is_method_part, method_forests}
use Rattle.listing_groups.specs.Laws.{method_items, property_items, event_items, forests_at, MethodRowsAreRead}
use Rattle.listing_model.specs.Classes.{ClassShown, classes_from, layout_lines, typar_member, class_members}
use Rattle.listing_model.specs.Members.{fields, field_contents, typar_lines}
use Rattle.listing_model.specs.Shown.{Item, size, none, put}
use Rattle.listing_model.specs.Values.{customs}
use Rattle.listing_nesting.specs.Laws.{OthersLack}
use Rattle.listing_nesting.proofs.Lacks.{lack_lines, lack_customs, lack_typars, lack_fields, lack_properties, lack_events}
use Rattle.listing_reading.specs.Below.{below}
use Rattle.listing_reading.specs.BelowMasks.{below_masks}
use Rattle.listing_reading.specs.Numbered.{numbered}
use Rattle.listing_reading.specs.Rows.{parts_at}
use Rattle.listing_rows.specs.Laws.{SegmentsAreRead, PiecesAreRead}
use Rattle.listing_rows.specs.Segments.{end_of, EachLacks}

abbrev method_parts : List ℕ
method_parts = p.DECL_METHOD ∷ p.MEMBER_METHOD ∷ []

no_methods : OthersLack (p.DECL_METHOD ∷ p.MEMBER_METHOD ∷ [])
unfolding ilasm rule_by has_bit below below_masks
no_methods = record { pack = (refl, refl); size = (refl, refl); custom = (refl, refl); param = (refl, refl); field = (refl, refl); property = (refl, refl); event = (refl, refl) }

flipped : (j k : ℕ) → nat_eq j k ≡ false → nat_eq k j ≡ false
flipped j k h = grind (arith, h)

no_method : (q : ℕ) (b : f.Forest) → f.is_among method_parts q ≡ false → is_method_part (f.part q b) ≡ false
no_method q b h = let hs = neither (nat_eq p.DECL_METHOD q) (nat_eq p.MEMBER_METHOD q || false) h in let ks = neither (nat_eq p.MEMBER_METHOD q) false hs.1 in joined (nat_eq q p.DECL_METHOD) (nat_eq q p.MEMBER_METHOD) (flipped p.DECL_METHOD q hs.0) (flipped p.MEMBER_METHOD q ks.0)
  where
    neither : (c d : Bool) → (c || d) ≡ false → (c ≡ false) × (d ≡ false)
    neither true d e = absurd (false≢true (sym e))
    neither false d e = (refl, e)

    joined : (c d : Bool) → c ≡ false → d ≡ false → (c || d) ≡ false
    joined c d e g = ap (λ (x : Bool). x || d) e ∙ g

abbrev below_of : f.Part → f.Forest
below_of q = f.the p.METHOD q.below

forests_joined : (ps qs : List f.Part) → method_forests (ps ++ qs) ≡ method_forests ps ++ method_forests qs
forests_joined [] qs = refl
forests_joined (q ∷ ps) qs = by (is_method_part q) (forests_joined ps qs)
  where
    by : (c : Bool) → method_forests (ps ++ qs) ≡ method_forests ps ++ method_forests qs →
        map below_of (cond c (q ∷ filter is_method_part (ps ++ qs)) (filter is_method_part (ps ++ qs))) ≡ map below_of (cond c (q ∷ filter is_method_part ps) (filter is_method_part ps)) ++ method_forests qs
    by true e = ap (λ (gs : List f.Forest). below_of q ∷ gs) e
    by false e = e

none_forests : (xs : List Item) (j : ℕ) → EachLacks method_parts xs → method_forests (parts_at j xs) ≡ []
none_forests [] j h = refl
none_forests (x ∷ xs) j h =
    let own = f.part x.production (numbered j x.below) in
    let rest = parts_at (j + size x.below) xs in
    ap (λ (c : Bool). map below_of (cond c (own ∷ filter is_method_part rest) (filter is_method_part rest))) (no_method x.production (numbered j x.below) h.0) ∙ none_forests xs (j + size x.below) h.2

none_nested : (path : List TypeId) (cs : List ClassShown) (k j : ℕ) → method_forests (parts_at j (classes_from p.MEMBER_CLASS path k cs)) ≡ []
none_nested path [] k j = refl
none_nested path (c ∷ cs) k j = none_nested path cs (k + length c.contents) (j + size (put (c.shown path k) none))

module _ (segments : SegmentsAreRead) (pieces : PiecesAreRead) (rows : MethodRowsAreRead) (externs : List ExternAssembly) where
  skip : (xs ys : List Item) (j : ℕ) → EachLacks method_parts xs → method_forests (parts_at j (xs ++ ys)) ≡ method_forests (parts_at (end_of j xs) ys)
  skip xs ys j lack =
      ap method_forests (segments.parts j xs ys)
      ∙ (forests_joined (parts_at j xs) (parts_at (end_of j xs) ys) ∙ ap (λ (gs : List f.Forest). gs ++ method_forests (parts_at (end_of j xs) ys)) (none_forests xs j lack))

  module _ (t : TypeDef-F ClassShown) (path : List TypeId) (k : ℕ) where
    abbrev pub is1 : List Item
    is1 = layout_lines t.layout

    abbrev pub is2 : List Item
    is2 = customs externs p.MEMBER_CUSTOM t.attributes

    abbrev pub is3 : List Item
    is3 = typar_lines externs typar_member p.MEMBER_CUSTOM 1 t.generics

    abbrev pub is4 : List Item
    is4 = fields externs p.MEMBER_FIELD p.MEMBER_CUSTOM k t.fields

    abbrev pub is5 : List Item
    is5 = method_items externs p.MEMBER_METHOD t.methods

    abbrev pub is6 : List Item
    is6 = property_items externs path t.methods t.properties

    abbrev pub is7 : List Item
    is7 = event_items externs path t.methods t.events

    abbrev pub is8 : List Item
    is8 = classes_from p.MEMBER_CLASS path (k + length (field_contents t.fields)) t.nested

    -- where the methods begin
    abbrev pub methods_from : ℕ → ℕ
    methods_from j = end_of (end_of (end_of (end_of j is1) is2) is3) is4

    pub forests_are : (j : ℕ) → method_forests (parts_at j (class_members externs t path k)) ≡ forests_at externs (methods_from j) t.methods
    forests_are j =
        let e7 = is7 ++ is8 in
        let e6 = is6 ++ e7 in
        let e5 = is5 ++ e6 in
        let e4 = is4 ++ e5 in
        let e3 = is3 ++ e4 in
        let e2 = is2 ++ e3 in
        let j2 = end_of j is1 in
        let j3 = end_of j2 is2 in
        let j4 = end_of j3 is3 in
        let j5 = end_of j4 is4 in
        let j6 = end_of j5 is5 in
        let j7 = end_of j6 is6 in
        let j8 = end_of j7 is7 in
        let own = forests_at externs j5 t.methods in
        let behind : method_forests (parts_at j6 e6) ≡ [] =
        skip is6 e7 j6 (lack_properties method_parts no_methods pieces externs path t.methods t.properties)
        ∙ (skip is7 is8 j7 (lack_events method_parts no_methods pieces externs path t.methods t.events) ∙ none_nested path t.nested (k + length (field_contents t.fields)) j8) in
        let here : method_forests (parts_at j5 e5) ≡ own =
        ap method_forests (segments.parts j5 is5 e6)
        ∙ (forests_joined (parts_at j5 is5) (parts_at j6 e6)
        ∙ ((λ i. rows.forests externs p.MEMBER_METHOD (λ g. refl) t.methods j5 i ++ behind i) ∙ append-nil own)) in
        skip is1 e2 j (lack_lines method_parts no_methods pieces externs t.layout)
        ∙ (skip is2 e3 j2 (lack_customs method_parts no_methods pieces externs t.attributes)
        ∙ (skip is3 e4 j3 (lack_typars method_parts no_methods pieces externs t.generics 1)
        ∙ (skip is4 e5 j4 (lack_fields method_parts no_methods pieces externs t.fields k) ∙ here)))
