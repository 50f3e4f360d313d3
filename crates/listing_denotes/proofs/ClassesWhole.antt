-- Types break no rule, each with those that it nests.
use Rattle.std.proofs.Common.{◌≡◌, ℕ, zero, suc, ◌+◌, ◌<◌, ◌≤◌, ◌^◌, ◌&&◌, ◌||◌, not, nat_lt, Bool, true, false, if◌then◌else◌, pos, List, [], ◌∷◌, ◌++◌, map, take, length, length-append, slice_get, Option, None, Some, refl, ap, sym, subst, ◌∙◌, arith, inl, inr}
use Rattle.std.proofs.lemmas.Bool.{and_parts, or_cases, false≢true, ltb-true}
use Rattle.std.specs.List.{list_all}
use Rattle.std.specs.Prelude.{is_some, is_none}
use Rattle.ilasm_grammar.specs.Ilasm.{ilasm, rule_by}
use Rattle.ilasm_grammar.specs.declared.nonterminals.TheConstants as n
use Rattle.ilasm_grammar.specs.declared.productions.TheConstants as p
use Rattle.ilasm_grammar.specs.declared.symbol.Symbol.TheVariants.{Nonterminal}
use Rattle.type_terms.specs.declared.name.TypeId.{TypeId}
use Rattle.type_terms.specs.declared.term.Owner.{Owner}
use Rattle.assembly_tree.specs.WellFormedNames.{option_all, is_system_object}
use Rattle.assembly_tree.specs.WellFormedTerms.{is_owner}
use Rattle.assembly_tree.specs.WellFormedTypes.{is_pack, is_layout, is_base, is_own, are_types}
use Rattle.assembly_tree.specs.WellFormedTypes as tree
use Rattle.assembly_tree.specs.declared.assembly.Assembly.{Assembly}
use Rattle.assembly_tree.specs.declared.assembly.ExternAssembly.{ExternAssembly}
use Rattle.assembly_tree.specs.declared.typedef.Layout.{Layout}
use Rattle.assembly_tree.specs.declared.typedef.TypeDef.{TypeDef}
use Rattle.assembly_tree.specs.declared.typedef.TypeDef.TheFolds.{fold_out-TypeDef}
use Rattle.assembly_tree.specs.declared.typedef.TypeDef.TheViews.{out-TypeDef}
use Rattle.assembly_tree.proofs.FormedFacts.{types_named, heads_named}
use Rattle.source_model.specs.Classes.{is_root, is_interface, core_scope}
use Rattle.source_model.specs.Forest as f
use Rattle.source_model.specs.Items.{members}
use Rattle.source_model.specs.Members.{method_forests}
use Rattle.source_model.specs.Nodes.{Around, nodes_in, entered, nothing_around, type_id, class_token, typars}
use Rattle.source_model.specs.OutOfRange.{is_32_bits, is_natural_with, class_too_deep}
use Rattle.source_model.specs.Signatures.{is_method_unbroken}
use Rattle.source_model.specs.Source.{Source}
use Rattle.source_model.specs.Undeclared.{object_undeclared_of}
use Rattle.source_model.specs.Values.{integer}
use Rattle.faultless_nodes.specs.Laws.{BreaksNothing, EachBreaksNothing, asked, UnaskedBreakNothing}
use Rattle.listing_class_heads.specs.Laws.{Head, class_shown, typars_place, ClassHeadsAreRead}
use Rattle.listing_classes.specs.Laws.{member_parts, members_place, ClassBodiesAreRead}
use Rattle.listing_data.specs.Laws.{TypesStand}
use Rattle.listing_declarations.specs.Laws.{IsListingOf, types_place, DeclarationsAreRead}
use Rattle.listing_groups.specs.Laws.{forests_at, MethodRowsAreRead}
use Rattle.listing_growth.specs.Held.{is_u16, is_u32, is_owner_held, is_layout_held, is_own_held, typedef_holds, is_typedef_held}
use Rattle.listing_heads.specs.Laws.{HeadsAreRead}
use Rattle.listing_members.specs.Laws.{AreMethods, GenericsAreRead}
use Rattle.listing_model.specs.Canon.{classes, contents}
use Rattle.listing_model.specs.Classes.{ClassShown, all_contents, classes_from, layout_lines, extends_opt, implements, class_members, class_step, class}
use Rattle.listing_model.specs.Flags.{type_flag_items}
use Rattle.listing_model.specs.Grown.{body_of, Grows}
use Rattle.listing_model.specs.Members.{field_contents, specs, typars_opt, braces}
use Rattle.listing_model.specs.Shown.{Shown, none, Item, put, optional, star, size, star_below, opt_below}
use Rattle.listing_model.specs.Types as shown_type
use Rattle.listing_model.specs.Types.{owner}
use Rattle.listing_nesting.specs.Laws.{AreNested, head_of_type, opened, IsNested, EachNested, TypesAreFormed, StandAt}
use Rattle.listing_nesting.proofs.Data.{stand_front, stand_behind}
use Rattle.listing_reading.specs.Below.{cant_lead}
use Rattle.listing_reading.specs.Laws.{SearchesPass}
use Rattle.listing_reading.specs.Numbered.{numbered, Agrees, place}
use Rattle.listing_reading.specs.Rows.{AreAmong, parts_at}
use Rattle.listing_rows.specs.Laws.{SegmentsAreRead, PiecesAreRead}
use Rattle.listing_rows.specs.Segments.{end_of, ItemsAgree, EachGrown}
use Rattle.listing_values.specs.Laws.{NumbersAreRead}
use Rattle.listing_denotes.specs.Accessors.{IsInType, AccessorsBreakNothing}
use Rattle.listing_denotes.specs.Bodies.{MethodsBreakNothing}
use Rattle.listing_denotes.specs.Classes.{TypesBreakNothing}
use Rattle.listing_denotes.specs.Generics.{GenericsBreakNothing}
use Rattle.listing_denotes.specs.Members.{FieldsBreakNothing}
use Rattle.listing_denotes.specs.Methods.{entered_is_same}
use Rattle.listing_denotes.specs.Quiet.{ItemsBreakNothing, RowsBreakNothing}
use Rattle.listing_denotes.specs.References.{IsQuiet, AttributesBreakNothing}
use Rattle.listing_denotes.specs.Terms.{TermsBreakNothing}
use Rattle.listing_denotes.specs.Values.{NumbersAlone, FlagsBreakNothing}
use Rattle.listing_denotes.specs.Whole.{ListingsAreRead}
use Rattle.listing_denotes.proofs.AccessorsUnbroken.{methods_unbroken}
use Rattle.listing_denotes.proofs.ClassesForests.{is1, is2, is3, is4, is5, is6, is7, is8, forests_are}
use Rattle.listing_denotes.proofs.ValuesFlags.{within, unless_none}

extends_leads : cant_lead (p.EXTENDS_OPT_SOME ∷ []) (take 4 (body_of p.CLASS)) ≡ true
unfolding ilasm rule_by
extends_leads = refl

member_method : body_of p.MEMBER_METHOD ≡ Nonterminal n.METHOD ∷ []
unfolding ilasm rule_by
member_method = refl

member_class : body_of p.MEMBER_CLASS ≡ Nonterminal n.CLASS ∷ []
unfolding ilasm rule_by
member_class = refl

decl_class : body_of p.DECL_CLASS ≡ Nonterminal n.CLASS ∷ []
unfolding ilasm rule_by
decl_class = refl

small_16 : (k : ℕ) → k < 0x10000 → k < 2 ^ 128
small_16 k h = omega arith

small_32 : (k : ℕ) → k < 0x100000000 → k < 2 ^ 128
small_32 k h = omega arith

at_most_32 : (k : ℕ) → k < 0x100000000 → k ≤ 0xFFFFFFFF
at_most_32 k h = omega arith

not_over : (k : ℕ) → k ≤ 100 → nat_lt 100 k ≡ false
not_over k h = grind (arith, h)

left_true : (x y : Bool) → x ≡ true → (x || y) ≡ true
left_true x y e = ap (λ (b : Bool). b || y) e

right_true : (x y : Bool) → y ≡ true → (x || y) ≡ true
right_true true y e = refl
right_true false y e = e

-- an interface, a type with a base, or the root
rooted : (face extending root : Bool) (top : Bool) (id : TypeId) (flags : ℕ) (o : Option Owner) → tree.is_interface flags ≡ face → is_base top id flags o ≡ true → (is_some o ≡ true → extending ≡ true) →
    ((top && is_system_object id) ≡ true → root ≡ true) → (face || extending || root) ≡ true
rooted true extending root top id flags o e b h k = refl
rooted false extending root top id flags o e b h k =
    let told : (is_some o || (top && is_system_object id)) ≡ true = sym (ap (λ (c : Bool). if c then is_none o else is_some o || (top && is_system_object id)) e) ∙ b in
    elim (or_cases _ _ told) [
      | inl q ↦ left_true extending root (h q)
      | inr q ↦ right_true extending root (k q)
    ]

-- `extends` stands where there is a base
extends_there : (externs : List ExternAssembly) (o : Option Owner) → is_some o ≡ true → (j : ℕ) (after : Shown) → f.has p.EXTENDS (f.child (p.EXTENDS_OPT_SOME ∷ []) (numbered j (extends_opt externs o after))) ≡ true
extends_there externs None h j after = absurd (false≢true h)
extends_there externs (Some o) h j after = refl

-- the flags of a type in memory fit
flags_in : (t : TypeDef) → is_typedef_held t ≡ true → is_u32 (out-TypeDef t).flags ≡ true
unfolding is_typedef_held is_own_held
flags_in t h =
    let h0 = (and_parts _ _ (sym (fold_out-TypeDef Bool typedef_holds t) ∙ h)).0 in
    let h9 = and_parts _ _ h0 in
    let h8 = and_parts _ _ h9.0 in
    let h7 = and_parts _ _ h8.0 in
    let h6 = and_parts _ _ h7.0 in
    let h5 = and_parts _ _ h6.0 in
    let h4 = and_parts _ _ h5.0 in
    let h3 = and_parts _ _ h4.0 in
    let h2 = and_parts _ _ h3.0 in
    (and_parts _ _ h2.0).0

pub record ClassLaws : Type 0 where
  pub unasked : UnaskedBreakNothing
  pub numbers : NumbersAreRead
  pub alone : NumbersAlone
  pub rows : RowsBreakNothing
  pub segments : SegmentsAreRead
  pub pieces : PiecesAreRead
  pub searches : SearchesPass
  pub flags : FlagsBreakNothing
  pub terms : TermsBreakNothing
  pub attributes : AttributesBreakNothing
  pub generics : GenericsBreakNothing
  pub fields : FieldsBreakNothing
  pub methods : MethodsBreakNothing
  pub accessors : AccessorsBreakNothing
  pub method_heads : HeadsAreRead
  pub read : GenericsAreRead
  pub forms : MethodRowsAreRead
  pub heads : ClassHeadsAreRead
  pub bodies : ClassBodiesAreRead
  pub formed : TypesAreFormed
  pub listings : ListingsAreRead

module _ (laws : ClassLaws) (s : Source) (a : Assembly) (listed : IsListingOf s a) where
  -- ---- pieces of a head

  module _ (z : Around) where
    layout_quiet : (l : Option Layout) → is_layout l ≡ true → option_all is_layout_held l ≡ true → (j : ℕ) → ItemsAgree s j (layout_lines l) → ItemsBreakNothing s z j (layout_lines l)
    layout_quiet None m h j ag = tt
    layout_quiet (Some l) m h j ag =
        let hs = and_parts (is_u16 l.pack) (is_u32 l.size) h in
        let pack_small = small_16 l.pack (ltb-true l.pack 0x10000 hs.0) in
        let size_low = ltb-true l.size 0x100000000 hs.1 in
        let next = j + 2 in
        let pack = unless_none (is_natural_with is_pack) s (suc j) (pos l.pack) (ap (λ t. integer t) ag.0.1.0.text ∙ laws.numbers.natural l.pack pack_small) m in
        let size_right = unless_none is_32_bits s (suc next) (pos l.size) (ap (λ t. integer t) ag.1.0.1.0.text ∙ laws.numbers.natural l.size (small_32 l.size size_low)) (within 0xFFFFFFFF l.size (at_most_32 l.size size_low)) in
        ((laws.alone s _ refl (simp pack), tt), ((laws.alone s _ refl (simp size_right), tt), tt))

    implements_then : (os : List Owner) → list_all (is_owner a) os ≡ true → list_all is_owner_held os ≡ true → (after : Shown) → IsQuiet s z after →
        IsQuiet s z (optional p.IMPLEMENTS_OPT_SOME p.IMPLEMENTS_OPT_NONE (implements a.externs os) after)
    implements_then [] m h after r at ag = (laws.unasked.node s _ refl, r (at + 0) ag.1)
    implements_then (o ∷ os) m h after r at ag =
        let own = f.leaf at (numbered (suc at) (specs a.externs (o ∷ os) none)) in
        let next = at + size (opt_below (implements a.externs (o ∷ os))) in
        laws.unasked.branch s z p.IMPLEMENTS_OPT_SOME (f.branch p.IMPLEMENTS own f.none) (numbered next after) (laws.unasked.node s _ refl)
        (laws.unasked.branch s z p.IMPLEMENTS own f.none (laws.unasked.node s _ refl) (laws.generics.owners s a listed z (o ∷ os) m h none (λ j i. tt) (suc at) ag.0.0.1) tt)
        (r next ag.1)

    extends_then : (o : Option Owner) → option_all (is_owner a) o ≡ true → option_all is_owner_held o ≡ true → (after : Shown) → IsQuiet s z after → IsQuiet s z (extends_opt a.externs o after)
    extends_then None m h after r at ag = (laws.unasked.node s _ refl, r (at + 0) ag.1)
    extends_then (Some o) m h after r at ag =
        let base = owner a.externs o in
        let own = f.leaf at (f.branch base.production (numbered (suc at) base.below) f.none) in
        let next = at + (suc (size base.below + 0) + 0) in
        laws.unasked.branch s z p.EXTENDS_OPT_SOME (f.branch p.EXTENDS own f.none) (numbered next after) (laws.unasked.node s _ refl)
        (laws.unasked.branch s z p.EXTENDS own f.none (laws.unasked.node s _ refl) (laws.terms.owners s a listed z o m h (suc at) ag.0.0.1.0 f.none tt) tt)
        (r next ag.1)

    flags_then : (k : ℕ) → is_u32 k ≡ true → (after : Shown) → IsQuiet s z after → IsQuiet s z (star p.CLASS_ATTR_STAR_MORE p.CLASS_ATTR_STAR_END (type_flag_items k) after)
    flags_then k h after r at ag =
        let next = at + size (star_below p.CLASS_ATTR_STAR_MORE p.CLASS_ATTR_STAR_END (type_flag_items k)) in
        laws.rows.row s z p.CLASS_ATTR_STAR_MORE p.CLASS_ATTR_STAR_END refl refl (type_flag_items k) at (numbered next after)
        (laws.flags.types s z k h at (laws.segments.row s p.CLASS_ATTR_STAR_MORE p.CLASS_ATTR_STAR_END (type_flag_items k) at ag.0)) (r next ag.1)

  -- types in a row that stands somewhere
  abbrev RowQuiet : List TypeId → List TypeDef → Type 0
  RowQuiet outer ts =
      (x : Around) → x.path ≡ outer → (production y : ℕ) → body_of production ≡ Nonterminal n.CLASS ∷ [] → f.is_among asked production ≡ false → entered_is_same s x production → (k at : ℕ) →
      StandAt k (all_contents (map (class a.externs) ts)) (contents a) → EachGrown y (classes_from production outer k (map (class a.externs) ts)) →
      ItemsAgree s at (classes_from production outer k (map (class a.externs) ts)) → ItemsBreakNothing s x at (classes_from production outer k (map (class a.externs) ts))

  -- ---- one type

  module _ (top : Bool) (depth : ℕ) (outer : List TypeId) (outermost : top ≡ true → outer ≡ []) (short : length outer + suc depth ≤ 100) (t : TypeDef) (nested : IsNested a top depth outer t) (own : is_own a top (out-TypeDef t) ≡ true)
      (flags_held : is_u32 (out-TypeDef t).flags ≡ true) (inner : RowQuiet (outer ++ (out-TypeDef t).id ∷ []) (out-TypeDef t).nested) (x : Around) (is_outer : x.path ≡ outer) (k at : ℕ)
      (stand : StandAt k (field_contents (out-TypeDef t).fields ++ all_contents (map (class a.externs) (out-TypeDef t).nested)) (contents a)) where
    abbrev path : List TypeId
    path = outer ++ (out-TypeDef t).id ∷ []

    abbrev head : Head
    head = head_of_type t

    abbrev items : List Item
    items = class_members a.externs (opened a.externs t) path k

    abbrev shown : Shown
    shown = class_shown a.externs head items

    abbrev g : f.Forest
    g = numbered at shown

    abbrev inside : Around
    inside = entered s x p.CLASS g

    abbrev from : ℕ
    from = members_place a.externs head items at

    module _ (grown : Grows (body_of p.CLASS) shown) (ag : Agrees s at shown) where
      id_is : type_id s (class_token g) ≡ (out-TypeDef t).id
      id_is = laws.heads.ids s a head nested.head items grown at ag

      path_is : inside.path ≡ path
      path_is i = is_outer i ++ id_is i ∷ []

      all_members : AreAmong member_parts items
      all_members = laws.bodies.among a.externs (opened a.externs t) path k

      parts_are : members g ≡ parts_at from items
      parts_are = laws.bodies.parts a.externs head items all_members grown at

      items_agree : ItemsAgree s from items
      items_agree = laws.bodies.agree s a.externs head items at ag

      items_grown : EachGrown n.MEMBER items
      items_grown = laws.bodies.grown a.externs head items grown

      many_typars : length (typars inside.class) ≡ length (out-TypeDef t).generics
      many_typars = laws.read.counted a.externs (out-TypeDef t).generics g (typars_place a head items at) (laws.heads.typars s a head nested.head items grown at ag).0

      -- ---- its methods

      abbrev s1 : List Item
      s1 = is1 laws.segments laws.pieces laws.forms a.externs (opened a.externs t) path k

      abbrev s2 : List Item
      s2 = is2 laws.segments laws.pieces laws.forms a.externs (opened a.externs t) path k

      abbrev s3 : List Item
      s3 = is3 laws.segments laws.pieces laws.forms a.externs (opened a.externs t) path k

      abbrev s4 : List Item
      s4 = is4 laws.segments laws.pieces laws.forms a.externs (opened a.externs t) path k

      abbrev s5 : List Item
      s5 = is5 laws.segments laws.pieces laws.forms a.externs (opened a.externs t) path k

      abbrev s6 : List Item
      s6 = is6 laws.segments laws.pieces laws.forms a.externs (opened a.externs t) path k

      abbrev s7 : List Item
      s7 = is7 laws.segments laws.pieces laws.forms a.externs (opened a.externs t) path k

      abbrev s8 : List Item
      s8 = is8 laws.segments laws.pieces laws.forms a.externs (opened a.externs t) path k

      -- the methods have grown, and their tokens are there
      methods_there : (j : ℕ) → EachGrown n.MEMBER items → ItemsAgree s j items → EachGrown n.MEMBER s5 × ItemsAgree s (end_of (end_of (end_of (end_of j s1) s2) s3) s4) s5
      methods_there j grew i =
          let e7 = s7 ++ s8 in
          let e6 = s6 ++ e7 in
          let e5 = s5 ++ e6 in
          let e4 = s4 ++ e5 in
          let e3 = s3 ++ e4 in
          let e2 = s2 ++ e3 in
          let j2 = end_of j s1 in
          let j3 = end_of j2 s2 in
          let j4 = end_of j3 s3 in
          let j5 = end_of j4 s4 in
          let g1 = (laws.pieces.each n.MEMBER s1 e2 grew).1 in
          let g2 = (laws.pieces.each n.MEMBER s2 e3 g1).1 in
          let g3 = (laws.pieces.each n.MEMBER s3 e4 g2).1 in
          let g4 = (laws.pieces.each n.MEMBER s4 e5 g3).1 in
          let i1 = (laws.segments.agree s j s1 e2 i).1 in
          let i2 = (laws.segments.agree s j2 s2 e3 i1).1 in
          let i3 = (laws.segments.agree s j3 s3 e4 i2).1 in
          let i4 = (laws.segments.agree s j4 s4 e5 i3).1 in
          ((laws.pieces.each n.MEMBER s5 e6 g4).0, (laws.segments.agree s j5 s5 e6 i4).0)

      methods_quiet : (j : ℕ) → EachGrown n.MEMBER s5 → ItemsAgree s j s5 → ItemsBreakNothing s inside j s5
      methods_quiet j grew i =
          laws.methods.rows s a listed inside p.MEMBER_METHOD n.MEMBER member_method refl (λ b. refl) (out-TypeDef t).methods nested.members.methods nested.members.methods_held nested.members.short j grew i

      its_forests : method_forests (members g) ≡ forests_at a.externs (end_of (end_of (end_of (end_of from s1) s2) s3) s4) (out-TypeDef t).methods
      its_forests = ap method_forests parts_are ∙ forests_are laws.segments laws.pieces laws.forms a.externs (opened a.externs t) path k from

      in_type : IsInType s a inside path (out-TypeDef t).methods
      in_type =
          let there = methods_there from items_grown items_agree in
          let j = end_of (end_of (end_of (end_of from s1) s2) s3) s4 in
          let ms = (out-TypeDef t).methods in
          let m = nested.members in
          let knows = laws.listings.knows s a listed in
          record {
            path_is = path_is;
            has = record {
              named = m.named;
              inside = m.inside;
              heads = m.heads;
              differ = m.differ;
              read = subst (λ (fs : List f.Forest). AreMethods s inside fs ms) (sym its_forests)
                  (laws.forms.heads s inside a knows p.MEMBER_METHOD n.MEMBER member_method ms m.methods m.methods_held j there.0 there.1);
            };
            unbroken = subst (λ (fs : List f.Forest). list_all (is_method_unbroken s inside) fs ≡ true) (sym its_forests)
                (methods_unbroken laws.method_heads laws.read s a inside n.MEMBER member_method ms m.methods j there.0 there.1 (methods_quiet j there.0 there.1));
          }

      -- ---- its members

      items_quiet : (j : ℕ) → ItemsAgree s j items → ItemsBreakNothing s inside j items
      items_quiet j i =
          let o = out-TypeDef t in
          let m = nested.members in
          let formed = (types_named a top o).0 own in
          let good = (heads_named a top o).0 formed.head in
          let e7 = s7 ++ s8 in
          let e6 = s6 ++ e7 in
          let e5 = s5 ++ e6 in
          let e4 = s4 ++ e5 in
          let e3 = s3 ++ e4 in
          let e2 = s2 ++ e3 in
          let j2 = end_of j s1 in
          let j3 = end_of j2 s2 in
          let j4 = end_of j3 s3 in
          let j5 = end_of j4 s4 in
          let j6 = end_of j5 s5 in
          let j7 = end_of j6 s6 in
          let j8 = end_of j7 s7 in
          let g1 = (laws.pieces.each n.MEMBER s1 e2 items_grown).1 in
          let g2 = (laws.pieces.each n.MEMBER s2 e3 g1).1 in
          let g3 = (laws.pieces.each n.MEMBER s3 e4 g2).1 in
          let g4 = (laws.pieces.each n.MEMBER s4 e5 g3).1 in
          let g5 = laws.pieces.each n.MEMBER s5 e6 g4 in
          let g6 = laws.pieces.each n.MEMBER s6 e7 g5.1 in
          let g7 = laws.pieces.each n.MEMBER s7 s8 g6.1 in
          let i1 = laws.segments.agree s j s1 e2 i in
          let i2 = laws.segments.agree s j2 s2 e3 i1.1 in
          let i3 = laws.segments.agree s j3 s3 e4 i2.1 in
          let i4 = laws.segments.agree s j4 s4 e5 i3.1 in
          let i5 = laws.segments.agree s j5 s5 e6 i4.1 in
          let i6 = laws.segments.agree s j6 s6 e7 i5.1 in
          let i7 = laws.segments.agree s j7 s7 s8 i6.1 in
          laws.rows.joined s inside j s1 e2 (layout_quiet inside o.layout good.layout m.layout j i1.0)
          (laws.rows.joined s inside j2 s2 e3 (laws.attributes s a listed inside o.attributes m.attributes m.attributes_held p.MEMBER_CUSTOM refl j2 i2.0)
          (laws.rows.joined s inside j3 s3 e4 (laws.generics.class_lines s a listed inside o.generics m.generics m.generics_held good.count many_typars p.MEMBER_CUSTOM refl j3 i3.0)
          (laws.rows.joined s inside j4 s4 e5
          (laws.fields.rows s a listed inside o.fields m.fields m.fields_held p.MEMBER_FIELD p.MEMBER_CUSTOM refl refl k j4
          (stand_front k (field_contents o.fields) (all_contents (map (class a.externs) o.nested)) (contents a) stand) i4.0)
          (laws.rows.joined s inside j5 s5 e6 (methods_quiet j5 g5.0 i5.0)
          (laws.rows.joined s inside j6 s6 e7 (laws.accessors.properties s a listed inside path o.methods in_type o.properties m.properties m.properties_held m.property_accessors j6 g6.0 i6.0)
          (laws.rows.joined s inside j7 s7 s8 (laws.accessors.events s a listed inside path o.methods in_type o.events m.events m.events_held m.event_accessors j7 g7.0 i7.0)
          (inner inside path_is p.MEMBER_CLASS n.MEMBER member_class refl (λ b. refl) (k + length (field_contents o.fields)) j8
          (stand_behind k (field_contents o.fields) (all_contents (map (class a.externs) o.nested)) (contents a) stand) g7.1 i7.1)))))))

      braces_quiet : IsQuiet s inside (braces p.MEMBER_STAR_MORE p.MEMBER_STAR_END items)
      braces_quiet j i =
          let last = suc j + size (star_below p.MEMBER_STAR_MORE p.MEMBER_STAR_END items) in
          laws.rows.row s inside p.MEMBER_STAR_MORE p.MEMBER_STAR_END refl refl items (suc j) (f.leaf last f.none)
          (items_quiet (suc j) (laws.segments.row s p.MEMBER_STAR_MORE p.MEMBER_STAR_END items (suc j) i.1.0)) tt

      -- ---- the type

      path_short : length inside.path ≤ 100
      path_short =
          let e : length inside.path ≡ length path = ap (λ (ids : List TypeId). length ids) path_is in
          let more = length-append outer ((out-TypeDef t).id ∷ []) in
          omega (arith, e, more, short)

      not_deep : class_too_deep (record { production = p.CLASS; below = g; around = inside }) ≡ []
      not_deep = ap (λ (c : Bool). if c then class_token g ∷ [] else []) (not_over (length inside.path) path_short)

      root_is : (top && is_system_object (out-TypeDef t).id) ≡ true → is_root inside.path ≡ true
      root_is e =
          let es = and_parts top (is_system_object (out-TypeDef t).id) e in
          ap is_root (path_is ∙ ap (λ q. q ++ (out-TypeDef t).id ∷ []) (outermost es.0)) ∙ es.1

      base_known : object_undeclared_of s (record { production = p.CLASS; below = g; around = inside }) ≡ []
      base_known =
          let o = out-TypeDef t in
          let flags_are = laws.heads.flags s a head nested.head items grown at ag in
          let face : tree.is_interface o.flags ≡ is_interface s g = ap (λ (j : ℕ). tree.is_interface j) (sym flags_are) in
          let extending = f.has p.EXTENDS (f.child (p.EXTENDS_OPT_SOME ∷ []) g) in
          let found = laws.searches.child (p.EXTENDS_OPT_SOME ∷ []) 4 (body_of p.CLASS) extends_leads shown grown at in
          let after = optional p.IMPLEMENTS_OPT_SOME p.IMPLEMENTS_OPT_NONE (implements a.externs o.implements) (braces p.MEMBER_STAR_MORE p.MEMBER_STAR_END items) in
          let has_base : is_some o.extends ≡ true → extending ≡ true = λ h. ap (f.has p.EXTENDS) found ∙ extends_there a.externs o.extends h (place 4 at shown) after in
          let all = rooted (is_interface s g) extending (is_root inside.path) top o.id o.flags o.extends face nested.base has_base root_is in
          ap (λ (c : Bool). if not c && not (is_some (core_scope s)) then class_token g ∷ [] else []) all

      class_own : BreaksNothing s (record { production = p.CLASS; below = g; around = inside })
      class_own = record {
        types = refl;
        scopes = refl;
        typars = refl;
        param_types = refl;
        numbers = refl;
        depth = refl;
        nesting = not_deep;
        paths = refl;
        class = λ i. base_known;
        field = λ i. absurd (false≢true i);
        label = λ i. absurd (false≢true i);
        accessors = λ i. absurd (false≢true i);
        method = λ i. absurd (false≢true i);
      }

      class_quiet : EachBreaksNothing s (nodes_in s x (f.branch p.CLASS g f.none))
      class_quiet =
          let o = out-TypeDef t in
          let m = nested.members in
          let formed = (types_named a top o).0 own in
          let good = (heads_named a top o).0 formed.head in
          let g5 = optional p.IMPLEMENTS_OPT_SOME p.IMPLEMENTS_OPT_NONE (implements a.externs o.implements) (braces p.MEMBER_STAR_MORE p.MEMBER_STAR_END items) in
          let q5 : IsQuiet s inside g5 = implements_then inside o.implements nested.head.implements nested.head.implements_held (braces p.MEMBER_STAR_MORE p.MEMBER_STAR_END items) braces_quiet in
          let g4 = extends_opt a.externs o.extends g5 in
          let q4 : IsQuiet s inside g4 = extends_then inside o.extends nested.head.extends nested.head.extends_held g5 q5 in
          let g3 = typars_opt a.externs o.generics g4 in
          let q3 : IsQuiet s inside g3 = laws.generics.generics s a listed inside o.generics m.generics m.generics_held good.count g4 q4 in
          let g2 = shown_type.type_id o.id g3 in
          let q2 : IsQuiet s inside g2 = λ j i. q3 (suc j) i.1 in
          laws.unasked.branch s x p.CLASS g f.none class_own (flags_then inside o.flags flags_held g2 q2 (suc at) ag.1) tt

  -- ---- one below a production that holds it

  class_is : (t : TypeDef) → class a.externs t ≡ class_step a.externs (opened a.externs t)
  unfolding class
  class_is t = fold_out-TypeDef ClassShown (class_step a.externs) t

  abbrev ItemQuiet : List TypeId → Around → ℕ → ℕ → ClassShown → Type 0
  ItemQuiet outer x k at c =
      StandAt k c.contents (contents a) → Grows (Nonterminal n.CLASS ∷ []) (put (c.shown outer k) none) → Agrees s at (put (c.shown outer k) none) → EachBreaksNothing s (nodes_in s x (numbered at (put (c.shown outer k) none)))

  item_quiet : (top : Bool) (depth : ℕ) (outer : List TypeId) → (top ≡ true → outer ≡ []) → length outer + suc depth ≤ 100 → (t : TypeDef) → IsNested a top depth outer t → is_own a top (out-TypeDef t) ≡ true →
      is_u32 (out-TypeDef t).flags ≡ true → RowQuiet (outer ++ (out-TypeDef t).id ∷ []) (out-TypeDef t).nested → (x : Around) → x.path ≡ outer → (k at : ℕ) → ItemQuiet outer x k at (class a.externs t)
  item_quiet top depth outer outermost short t nested own flags_held inner x is_outer k at = subst (ItemQuiet outer x k at) (sym (class_is t)) here
    where
      here : ItemQuiet outer x k at (class_step a.externs (opened a.externs t))
      here stand grown ag = class_quiet top depth outer outermost short t nested own flags_held inner x is_outer k at stand grown.1 ag.0

  -- ---- side by side

  own_types : (top : Bool) (depth : ℕ) (ts : List TypeDef) → are_types a top (suc depth) ts ≡ true → list_all (λ t. is_own a top (out-TypeDef t) && are_types a false depth (out-TypeDef t).nested) ts ≡ true
  unfolding are_types
  own_types top depth ts h = (and_parts _ _ h).1

  row_quiet : (depth : ℕ) (top : Bool) (outer : List TypeId) (ts : List TypeDef) → AreNested a top depth outer ts → RowQuiet outer ts
  row_quiet zero top outer ts nested =
      subst (RowQuiet outer) (sym (laws.formed.none a top outer ts nested)) (λ x is_outer production y body q same k at stand grown ag. tt)
  row_quiet (suc depth) top outer ts nested =
      go (λ inner us h. row_quiet depth false inner us h) ts (laws.formed.each a top depth outer ts nested) (own_types top depth ts nested.formed) nested.held
    where
      go : ((inner : List TypeId) (us : List TypeDef) → AreNested a false depth inner us → RowQuiet inner us) → (us : List TypeDef) → EachNested a top depth outer us →
          list_all (λ t. is_own a top (out-TypeDef t) && are_types a false depth (out-TypeDef t).nested) us ≡ true → list_all is_typedef_held us ≡ true → RowQuiet outer us
      go deeper [] each owns helds x is_outer production y body q same k at stand grown ag = tt
      go deeper (t ∷ us) each owns helds x is_outer production y body q same k at stand grown ag =
          let c = class a.externs t in
          let cs = map (class a.externs) us in
          let os = and_parts (is_own a top (out-TypeDef t) && are_types a false depth (out-TypeDef t).nested) (list_all (λ v. is_own a top (out-TypeDef v) && are_types a false depth (out-TypeDef v).nested) us) owns in
          let own = and_parts (is_own a top (out-TypeDef t)) (are_types a false depth (out-TypeDef t).nested) os.0 in
          let hs = and_parts (is_typedef_held t) (list_all is_typedef_held us) helds in
          let below = numbered at (put (c.shown outer k) none) in
          let first =
          item_quiet top depth outer nested.outermost nested.short t each.0 own.0 (flags_in t hs.0) (deeper (outer ++ (out-TypeDef t).id ∷ []) (out-TypeDef t).nested each.0.nested) x is_outer k at
          (stand_front k c.contents (all_contents cs) (contents a) stand) (subst (λ b. Grows b (put (c.shown outer k) none)) body grown.1) ag.0 in
          let later =
          go deeper us each.1 os.1 hs.1 x is_outer production y body q same (k + length c.contents) (at + size (put (c.shown outer k) none))
          (stand_behind k c.contents (all_contents cs) (contents a) stand) grown.2 ag.1 in (
            laws.unasked.branch s x production below f.none (laws.unasked.node s (record { production = production; below = below; around = entered s x production below }) q)
                (subst (λ (z : Around). EachBreaksNothing s (nodes_in s z below)) (sym (same below)) first) tt,
            later,
          )

-- ---- the whole

all_stand : (a : Assembly) → StandAt 0 (all_contents (classes a) ++ field_contents a.fields) (contents a)
all_stand a j x e = let there : 0 + j ≡ j = omega arith in ap (slice_get (contents a)) there ∙ e

pub types_break_nothing : ClassLaws → TypesStand → DeclarationsAreRead → TypesBreakNothing
types_break_nothing laws types_stand declared = record {
  rows = λ s a listed top depth outer ts nested x is_outer production y body q same k at stand grown ag.
      row_quiet laws s a listed depth top outer ts nested x is_outer production y body q same k at stand grown ag;
  listed = λ s a listed.
      let has = declared s a listed in
      row_quiet laws s a listed 100 true [] a.types (types_stand s a listed) nothing_around refl p.DECL_CLASS n.DECL decl_class refl (λ b. refl) 0 (types_place a)
      (stand_front 0 (all_contents (classes a)) (field_contents a.fields) (contents a) (all_stand a)) has.types_grown has.types;
}
