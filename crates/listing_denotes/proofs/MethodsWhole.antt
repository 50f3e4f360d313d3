-- Methods break no rule where their bodies as wholes don't.
use Rattle.std.proofs.Common.{◌≡◌, ◌&&◌, ℕ, suc, ◌+◌, ◌<◌, ◌≤◌, ◌^◌, nat_eq, nat_le, not, Bool, true, false, cond, pos, List, [], ◌∷◌, ◌++◌, map, length, Option, None, Some, refl, ap, sym, subst, ◌∙◌, arith}
use Rattle.std.proofs.lemmas.Bool.{and_parts, eqb-true, false≢true, leb-true, ltb-true}
use Rattle.std.specs.List.{list_all, flat_map}
use Rattle.std.specs.Prelude.{codes, bytes_eq}
use Rattle.il_lexer.specs.declared.word.TheConstants as word
use Rattle.ilasm_grammar.specs.Ilasm.{ilasm, rule_by}
use Rattle.ilasm_grammar.specs.declared.nonterminals.TheConstants as n
use Rattle.ilasm_grammar.specs.declared.productions.TheConstants as p
use Rattle.type_terms.specs.declared.reference.MethodRef.{MethodRef}
use Rattle.type_terms.specs.declared.term.SigType.{SigType}
use Rattle.assembly_tree.specs.WellFormedMembers.{is_method, is_param, is_constant, is_attribute}
use Rattle.assembly_tree.specs.WellFormedNames.{option_all}
use Rattle.assembly_tree.specs.WellFormedTerms.{is_type, is_plain_ref, is_count}
use Rattle.assembly_tree.specs.declared.assembly.Assembly.{Assembly}
use Rattle.assembly_tree.specs.declared.members.Method.{Method}
use Rattle.assembly_tree.specs.declared.members.Param.{Param}
use Rattle.assembly_tree.proofs.FormedFacts.{methods_named, signatures_named}
use Rattle.source_model.specs.Forest as f
use Rattle.source_model.specs.Members.{in_method}
use Rattle.source_model.specs.Nodes.{Around, nodes_in, entered, nothing_around, typars}
use Rattle.source_model.specs.OutOfRange.{is_16_bits}
use Rattle.source_model.specs.Parameters.{parameters}
use Rattle.source_model.specs.Source.{Source}
use Rattle.source_model.specs.TypeRules.{is_within, unless, past_count}
use Rattle.source_model.specs.Values.{integer}
use Rattle.faultless_nodes.specs.Laws.{BreaksNothing, EachBreaksNothing, MethodBreaksNothing, asked, UnaskedBreakNothing}
use Rattle.listing_declarations.specs.Laws.{IsListingOf, DeclarationsAreRead, methods_place}
use Rattle.assembly_tree.specs.WellFormed.{are_globals, is_well_formed}
use Rattle.ilasm_grammar.specs.declared.symbol.Symbol.{Symbol}
use Rattle.ilasm_grammar.specs.declared.symbol.Symbol.TheVariants.{Nonterminal}
use Rattle.listing_growth.specs.Held.{is_u16, is_type_held, is_constant_held, is_param_held, is_method_ref_held, is_method_held, is_generic_held, is_body_held, are_attributes_held, is_held}
use Rattle.listing_heads.specs.Laws.{HeadsAreRead, args_place, typars_place}
use Rattle.listing_members.specs.Laws.{GenericsAreRead}
use Rattle.listing_model.specs.Flags.{flag_items, flags_below, method_words, implementation_words, parameter_words}
use Rattle.listing_model.specs.Grown.{body_of, Grows}
use Rattle.listing_model.specs.Members.{typars_opt, typar_lines, number_in_brackets, braces}
use Rattle.listing_model.specs.Methods as written
use Rattle.listing_model.specs.Methods.{parameter, param_flags, param_name, def_args, line_flags, param_line, typar_item, row_of, wants_line, row_lines, override, entrypoint, body_opt, method_items, method}
use Rattle.listing_model.specs.References.{convention, method_name, method_ref}
use Rattle.listing_model.specs.Shown.{Shown, none, branch, Item, item, put, w, line, optional, when, star, size, star_production, star_below, behind_comma, opt_below}
use Rattle.listing_model.specs.Types.{name, type_of, type_below}
use Rattle.listing_model.specs.Values.{constant_opt, customs}
use Rattle.listing_reading.specs.Numbered.{numbered, Agrees}
use Rattle.listing_reading.specs.Rows.{AreAmong, parts_behind}
use Rattle.listing_rows.specs.Laws.{SegmentsAreRead, PiecesAreRead}
use Rattle.listing_rows.specs.Segments.{end_of, ItemsAgree, EachGrown, comma_parts}
use Rattle.listing_values.specs.Laws.{NumbersAreRead}
use Rattle.listing_reading.specs.Laws.{SearchesPass}
use Rattle.listing_denotes.specs.Quiet.{ItemsBreakNothing, RowsBreakNothing}
use Rattle.listing_denotes.specs.Values.{NumbersAlone, FlagsBreakNothing, ConstantsBreakNothing}
use Rattle.listing_denotes.proofs.ValuesFlags.{within, unless_none}
use Rattle.listing_denotes.specs.Terms.{TermsBreakNothing}
use Rattle.listing_denotes.specs.References.{IsQuiet, ReferencesBreakNothing, PlainReferencesHaveNone, AttributesBreakNothing}
use Rattle.listing_denotes.proofs.ReferencesCounts.{counted, below_length}
use Rattle.listing_denotes.proofs.ReferencesAttributes.{plain_of}
use Rattle.listing_denotes.specs.Generics.{GenericsBreakNothing}
use Rattle.listing_denotes.specs.Methods.{method_node, entered_is_same, EachBodyBreaksNothing, MethodsBreakByBodies}
use Rattle.listing_groups.specs.Laws as rows_of
use Rattle.listing_denotes.proofs.MethodsBodies.{bodies_quiet}

-- ---- rows of parameters that are there

pub record IsRow (a : Assembly) (r : Param) : Type 0 where
  pub constant : option_all is_constant r.constant ≡ true
  pub attributes : list_all (is_attribute a) r.attributes ≡ true
  pub number : is_u16 r.number ≡ true
  pub flags : is_u16 r.flags ≡ true
  pub constant_held : option_all is_constant_held r.constant ≡ true
  pub attributes_held : are_attributes_held r.attributes ≡ true

row_fit : (a : Assembly) (r : Param) → is_param a r ≡ true → is_param_held r ≡ true → IsRow a r
unfolding is_param is_param_held
row_fit a r m h =
    let m1 = and_parts _ _ m in
    let m2 = and_parts _ _ m1.0 in
    let h1 = and_parts _ _ h in
    let h2 = and_parts _ _ h1.0 in
    let h3 = and_parts _ _ h2.0 in
    record { constant = m2.1; attributes = m1.1; number = h3.0; flags = h3.1; constant_held = h2.1; attributes_held = h1.1 }

small : (k : ℕ) → k < 0x10000 → k < 2 ^ 128
small k h = omega arith

parts_many : (j : ℕ) (is : List Item) → length (parts_behind j is) ≡ length is
parts_many j [] = refl
parts_many j (i ∷ is) = ap suc (parts_many (j + size (behind_comma 0 i).below) is)

comma_many : (j : ℕ) (is : List Item) → length (comma_parts j is) ≡ length is
comma_many j [] = refl
comma_many j (i ∷ is) = ap suc (parts_many (j + size i.below) is)

record IsHeld (m : Method) : Type 0 where
  flags_held : is_u16 m.flags ≡ true
  impl_held : is_u16 m.impl_flags ≡ true
  ret_held : is_type_held m.sig.ret ≡ true
  params_sig : list_all is_type_held m.sig.params ≡ true
  generics_held : list_all is_generic_held m.generics ≡ true
  rows_held : list_all is_param_held m.params ≡ true
  overrides_held : list_all is_method_ref_held m.overrides ≡ true
  body_held : option_all is_body_held m.body ≡ true
  customs_held : are_attributes_held m.attributes ≡ true

held_parts : (m : Method) → is_method_held m ≡ true → IsHeld m
unfolding is_method_held
held_parts m held =
    let h1 = and_parts _ _ held in
    let h2 = and_parts _ _ h1.0 in
    let h3 = and_parts _ _ h2.0 in
    let h4 = and_parts _ _ h3.0 in
    let h5 = and_parts _ _ h4.0 in
    let h6 = and_parts _ _ h5.0 in
    let h7 = and_parts _ _ h6.0 in
    record {
      flags_held = h7.0;
      impl_held = h7.1;
      ret_held = (and_parts _ _ h6.1).0;
      params_sig = (and_parts _ _ h6.1).1;
      generics_held = h5.1;
      rows_held = h4.1;
      overrides_held = h3.1;
      body_held = h2.1;
      customs_held = h1.1;
    }

module _ (unasked : UnaskedBreakNothing) (laws : NumbersAreRead) (alone : NumbersAlone) (flags : FlagsBreakNothing) (constants : ConstantsBreakNothing) (rows : RowsBreakNothing) (segments : SegmentsAreRead)
    (pieces : PiecesAreRead) (searches : SearchesPass) (terms : TermsBreakNothing) (references : ReferencesBreakNothing) (plain : PlainReferencesHaveNone) (attributes : AttributesBreakNothing)
    (generics : GenericsBreakNothing) (s : Source) (a : Assembly) (listed : IsListingOf s a) (x : Around) where
  row_then : (more end : ℕ) → f.is_among asked more ≡ false → f.is_among asked end ≡ false → (items : List Item) → ((j : ℕ) → ItemsAgree s j items → ItemsBreakNothing s x j items) → (after : Shown) → IsQuiet s x after →
      IsQuiet s x (star more end items after)
  row_then more end m e items q after r at ag =
      let next = at + size (star_below more end items) in
      rows.row s x more end m e items at (numbered next after) (q at (segments.row s more end items at ag.0)) (r next ag.1)

  -- ---- parameters

  row_all : (rs : List Param) → list_all (is_param a) rs ≡ true → list_all is_param_held rs ≡ true → (k : ℕ) → (o : Option Param) → o ≡ row_of rs k → option_all (λ r. is_u16 r.flags) o ≡ true
  row_all [] m h k o e = subst (λ (y : Option Param). option_all (λ r. is_u16 r.flags) y ≡ true) (sym e) refl
  row_all (r ∷ rs) m h k o e =
      let ms = and_parts (is_param a r) (list_all (is_param a) rs) m in
      let hs = and_parts (is_param_held r) (list_all is_param_held rs) h in
      subst (λ (y : Option Param). option_all (λ q. is_u16 q.flags) y ≡ true) (sym e) (by (nat_eq r.number k) (row_fit a r ms.0 hs.0).flags (row_all rs ms.1 hs.1 k (row_of rs k) refl))
    where
      by : (b : Bool) → is_u16 r.flags ≡ true → option_all (λ q. is_u16 q.flags) (row_of rs k) ≡ true → option_all (λ q. is_u16 q.flags) (cond b (Some r) (row_of rs k)) ≡ true
      by true i j = i
      by false i j = j

  flags_then : (o : Option Param) → option_all (λ r. is_u16 r.flags) o ≡ true → (after : Shown) → IsQuiet s x after → IsQuiet s x (param_flags o after)
  flags_then None h after r at ag = (unasked.node s _ refl, r (at + 0) ag.1)
  flags_then (Some q) h after r at ag =
      row_then p.PARAM_ATTR_STAR_MORE p.PARAM_ATTR_STAR_END refl refl (flag_items n.PARAM_ATTR p.PARAM_ATTR_FLAGS parameter_words q.flags) (λ j i. flags.parameters s x q.flags h j i) after r at ag

  named_quiet : (o : Option Param) → IsQuiet s x (param_name o)
  named_quiet None at ag = (unasked.node s _ refl, tt)
  named_quiet (Some q) at ag = by (not (nat_eq (length q.name) 0))
    where
      by : (b : Bool) → EachBreaksNothing s (nodes_in s x (numbered at (optional p.NAME_OPT_SOME p.NAME_OPT_NONE (when b (name q.name none)) none)))
      by true = (unasked.node s _ refl, tt)
      by false = (unasked.node s _ refl, tt)

  parameter_quiet : (o : Option Param) → option_all (λ r. is_u16 r.flags) o ≡ true → (t : SigType) → is_type a t ≡ true → is_type_held t ≡ true → (at : ℕ) → Agrees s at (parameter a.externs o t).below → (after : f.Forest) →
      EachBreaksNothing s (nodes_in s x after) → EachBreaksNothing s (nodes_in s x (f.branch p.DEF_ARG (numbered at (parameter a.externs o t).below) after))
  parameter_quiet o fits t m h at ag after r =
      let typed : IsQuiet s x (put (type_of a.externs t) (param_name o)) =
      λ j i. terms.types s a listed x t m h j i.0 (numbered (j + size (type_below a.externs t)) (param_name o)) (named_quiet o (j + size (type_below a.externs t)) i.1) in
      unasked.branch s x p.DEF_ARG (numbered at (parameter a.externs o t).below) after (unasked.node s _ refl) (flags_then o fits (put (type_of a.externs t) (param_name o)) typed at ag) r

  module _ (rs : List Param) (params_ok : list_all (is_param a) rs ≡ true) (params_held : list_all is_param_held rs ≡ true) where
    behind_params : (k : ℕ) (ts : List SigType) → list_all (is_type a) ts ≡ true → list_all is_type_held ts ≡ true → (at : ℕ) → ItemsAgree s at (map (behind_comma p.COMMA_DEF_ARG) (written.parameters a.externs rs k ts)) →
        ItemsBreakNothing s x at (map (behind_comma p.COMMA_DEF_ARG) (written.parameters a.externs rs k ts))
    behind_params k [] m h at ag = tt
    behind_params k (t ∷ ts) m h at ag =
        let ms = and_parts (is_type a t) (list_all (is_type a) ts) m in
        let hs = and_parts (is_type_held t) (list_all is_type_held ts) h in
        let own = parameter a.externs (row_of rs k) t in (
          unasked.branch s x p.COMMA_DEF_ARG (f.leaf at (f.branch p.DEF_ARG (numbered (suc at) own.below) f.none)) f.none (unasked.node s _ refl)
              (parameter_quiet (row_of rs k) (row_all rs params_ok params_held k (row_of rs k) refl) t ms.0 hs.0 (suc at) ag.0.1.0 f.none tt) tt,
          behind_params (suc k) ts ms.1 hs.1 (at + size (behind_comma p.COMMA_DEF_ARG own).below) ag.1,
        )

    params_many : (k : ℕ) (ts : List SigType) → length (written.parameters a.externs rs k ts) ≡ length ts
    params_many k [] = refl
    params_many k (t ∷ ts) = ap suc (params_many (suc k) ts)

    params_among : (k : ℕ) (ts : List SigType) → AreAmong (p.DEF_ARG ∷ []) (written.parameters a.externs rs k ts)
    params_among k [] = tt
    params_among k (t ∷ ts) = (refl, params_among (suc k) ts)

    params_then : (ts : List SigType) → length ts ≤ 65535 → list_all (is_type a) ts ≡ true → list_all is_type_held ts ≡ true → (after : Shown) → IsQuiet s x after →
        IsQuiet s x (optional p.DEF_ARGS_OPT_SOME p.DEF_ARGS_OPT_NONE (def_args a.externs (written.parameters a.externs rs 1 ts)) after)
    params_then [] few m h after r at ag = (unasked.node s _ refl, r (at + 0) ag.1)
    params_then (t ∷ ts) few m h after r at ag =
        let ms = and_parts (is_type a t) (list_all (is_type a) ts) m in
        let hs = and_parts (is_type_held t) (list_all is_type_held ts) h in
        let items = written.parameters a.externs rs 1 (t ∷ ts) in
        let own = parameter a.externs (row_of rs 1) t in
        let others = map (behind_comma p.COMMA_DEF_ARG) (written.parameters a.externs rs 2 ts) in
        let from = at + size own.below in
        let row = f.branch (star_production p.COMMA_DEF_ARG_STAR_MORE p.COMMA_DEF_ARG_STAR_END others) (numbered from (star_below p.COMMA_DEF_ARG_STAR_MORE p.COMMA_DEF_ARG_STAR_END others)) f.none in
        let first = f.branch p.DEF_ARG (numbered at own.below) row in
        let next = at + size (opt_below (def_args a.externs items)) in
        let is = segments.commas (p.DEF_ARG ∷ []) p.COMMA_DEF_ARG_STAR_MORE p.COMMA_DEF_ARG_STAR_END p.COMMA_DEF_ARG refl refl refl items (params_among 1 (t ∷ ts)) at none (λ k. refl) in
        let found = f.parts (p.DEF_ARG ∷ []) first in
        let as_many : length (f.below_each found) ≡ length (t ∷ ts) =
        below_length found ∙ (ap (λ (ps : List f.Part). length ps) is ∙ (comma_many at items ∙ params_many 1 (t ∷ ts))) in
        let short : past_count (f.each p.DEF_ARG first) ≡ [] = counted (f.each p.DEF_ARG first) (subst (λ (k : ℕ). k ≤ 65535) (sym as_many) few) in
        unasked.branch s x p.DEF_ARGS_OPT_SOME (f.branch p.DEF_ARGS first f.none) (numbered next after) (unasked.node s _ refl)
        (unasked.branch s x p.DEF_ARGS first f.none (alone s _ refl (simp short))
        (parameter_quiet (row_of rs 1) (row_all rs params_ok params_held 1 (row_of rs 1) refl) t ms.0 hs.0 at ag.0.0.0 row
        (rows.row s x p.COMMA_DEF_ARG_STAR_MORE p.COMMA_DEF_ARG_STAR_END refl refl others from f.none
        (behind_params 2 ts ms.1 hs.1 from (segments.row s p.COMMA_DEF_ARG_STAR_MORE p.COMMA_DEF_ARG_STAR_END others from ag.0.0.1.0)) tt)) tt)
        (r next ag.1)

  -- ---- lines of `.param`

  line_flags_then : (r : Param) → is_u16 r.flags ≡ true → (after : Shown) → IsQuiet s x after → IsQuiet s x (line_flags r after)
  line_flags_then r h after q at ag = by (nat_eq r.number 0 && not (nat_eq r.flags 0)) ag
    where
      by : (b : Bool) → Agrees s at (optional p.FLAGS_OPT_SOME p.FLAGS_OPT_NONE (when b (branch p.FLAGS (flags_below r.flags) none)) after) →
          EachBreaksNothing s (nodes_in s x (numbered at (optional p.FLAGS_OPT_SOME p.FLAGS_OPT_NONE (when b (branch p.FLAGS (flags_below r.flags) none)) after)))
      by true d =
          let low = ltb-true r.flags 0x10000 h in
          let e = unless_none is_16_bits s (suc (suc at)) (pos r.flags) (ap integer d.0.0.1.1.0.text ∙ laws.hexadecimal 0 r.flags (small r.flags low)) (within 0xFFFF r.flags (omega arith)) in
          (alone s _ refl (simp e), (unasked.node s _ refl, q (at + 4) d.1))
      by false d = (unasked.node s _ refl, q (at + 0) d.1)

  module _ (count : ℕ) (many : length (parameters x.method) ≡ count) where
    param_quiet : (r : Param) → IsRow a r → nat_le r.number count ≡ true → (at : ℕ) → Agrees s at (param_line r).below → EachBreaksNothing s (nodes_in s x (f.branch p.ITEM_PARAM (numbered at (param_line r).below) f.none))
    param_quiet r fit h at ag =
        let low = ltb-true r.number 0x10000 fit.number in
        let tail = line_flags r (constant_opt r.constant none) in
        let own = numbered (suc at) (number_in_brackets r.number tail) in
        let e : unless (is_within (pos 0) (pos (length (parameters x.method)))) s (suc (suc at)) ≡ [] =
        unless_none (is_within (pos 0) (pos (length (parameters x.method)))) s (suc (suc at)) (pos r.number) (ap integer ag.1.0.1.0.text ∙ laws.natural r.number (small r.number low))
        (ap (λ (j : ℕ). is_within (pos 0) (pos j) (pos r.number)) many ∙ within count r.number (leb-true r.number count h)) in
        let behind : IsQuiet s x tail =
        line_flags_then r fit.flags (constant_opt r.constant none) (λ j i. constants.there s x r.constant fit.constant fit.constant_held none j i (λ k d. tt)) in
        unasked.branch s x p.ITEM_PARAM (f.leaf at (f.branch p.PARAM_OF_BRACKET own f.none)) f.none (unasked.node s _ refl)
        (unasked.branch s x p.PARAM_OF_BRACKET own f.none (alone s _ refl (simp e)) (behind (suc (suc (suc (suc at)))) ag.1.0.1.1.1) tt) tt

    row_lines_quiet : (r : Param) → IsRow a r → nat_le r.number count ≡ true → (at : ℕ) → ItemsAgree s at (row_lines a.externs r) → ItemsBreakNothing s x at (row_lines a.externs r)
    row_lines_quiet r fit h at ag = by (wants_line r) ag
      where
        by : (b : Bool) → ItemsAgree s at (cond b (param_line r ∷ customs a.externs p.ITEM_CUSTOM r.attributes) []) → ItemsBreakNothing s x at (cond b (param_line r ∷ customs a.externs p.ITEM_CUSTOM r.attributes) [])
        by true d = (param_quiet r fit h at d.0, attributes s a listed x r.attributes fit.attributes fit.attributes_held p.ITEM_CUSTOM refl (at + size (param_line r).below) d.1)
        by false d = tt

    all_rows : (rs : List Param) → list_all (is_param a) rs ≡ true → list_all is_param_held rs ≡ true → list_all (λ r. nat_le r.number count) rs ≡ true → (at : ℕ) → ItemsAgree s at (flat_map (row_lines a.externs) rs) →
        ItemsBreakNothing s x at (flat_map (row_lines a.externs) rs)
    all_rows [] m h c at ag = tt
    all_rows (r ∷ rs) m h c at ag =
        let ms = and_parts (is_param a r) (list_all (is_param a) rs) m in
        let hs = and_parts (is_param_held r) (list_all is_param_held rs) h in
        let cs = and_parts (nat_le r.number count) (list_all (λ q. nat_le q.number count) rs) c in
        let own = row_lines a.externs r in
        let others = flat_map (row_lines a.externs) rs in
        let parts = segments.agree s at own others ag in
        rows.joined s x at own others (row_lines_quiet r (row_fit a r ms.0 hs.0) cs.0 at parts.0) (all_rows rs ms.1 hs.1 cs.1 (end_of at own) parts.1)

  -- ---- overrides and the entry point

  overrides_quiet : (rs : List MethodRef) → list_all (is_plain_ref a) rs ≡ true → list_all is_method_ref_held rs ≡ true → (at : ℕ) → ItemsAgree s at (map (override a.externs) rs) → ItemsBreakNothing s x at (map (override a.externs) rs)
  unfolding method_ref
  overrides_quiet [] m h at ag = tt
  overrides_quiet (r ∷ rs) m h at ag =
      let ms = and_parts (is_plain_ref a r) (list_all (is_plain_ref a) rs) m in
      let hs = and_parts (is_method_ref_held r) (list_all is_method_ref_held rs) h in
      let good = plain_of a r ms.0 in
      let from = suc (suc at) in
      let below = numbered (suc at) (w word.METHOD (put (method_ref a.externs r) none)) in
      let e = plain s a listed r good.1 hs.0 good.0 from in (
        unasked.branch s x p.ITEM_OVERRIDE (f.leaf at (f.branch p.OVERRIDDEN_METHOD below f.none)) f.none (unasked.node s _ refl)
            (unasked.branch s x p.OVERRIDDEN_METHOD below f.none (alone s _ refl (simp e)) (references.methods s a listed x r good.1 hs.0 from ag.0.1.0.1.0 f.none tt) tt) tt,
        overrides_quiet rs ms.1 hs.1 (at + size (override a.externs r).below) ag.1,
      )

  entry_quiet : (b : Bool) (at : ℕ) → ItemsBreakNothing s x at (entrypoint a.externs b)
  entry_quiet true at = ((unasked.node s _ refl, tt), tt)
  entry_quiet false at = tt

  name_then : (text : List ℕ) (after : Shown) → IsQuiet s x after → IsQuiet s x (put (method_name text) after)
  name_then text after k = by (bytes_eq text (codes ".ctor")) (bytes_eq text (codes ".cctor"))
    where
      by : (b c : Bool) → IsQuiet s x (put (cond b (item p.METHOD_NAME_CTOR (w word.DOT_CTOR none)) (cond c (item p.METHOD_NAME_CCTOR (w word.DOT_CCTOR none)) (item p.METHOD_NAME_NAME (name text none)))) after)
      by true c at ag = (unasked.node s _ refl, k (at + 1) ag.1)
      by false true at ag = (unasked.node s _ refl, k (at + 1) ag.1)
      by false false at ag = (unasked.node s _ refl, k (at + 1) ag.1)

  -- ---- the items of a method, and the method

  module _ (m : Method) (formed : is_method a m ≡ true) (held : is_method_held m ≡ true) (many_params : length (parameters x.method) ≡ length m.sig.params) (many_typars : length (typars x.method) ≡ length m.generics) where
    items_quiet : (at : ℕ) → EachGrown n.ITEM (method_items a.externs m) → ItemsAgree s at (method_items a.externs m) → ItemsBreakNothing s x at (method_items a.externs m)
    items_quiet at g ag =
        let good = (methods_named a m).0 formed in
        let sig = (signatures_named a m.sig).0 good.sig in
        let kept = held_parts m held in
        let numbers = and_parts _ _ good.numbers in
        let declared = and_parts _ _ good.declaration in
        let few_generics = subst (λ (k : ℕ). is_count k ≡ true) (eqb-true m.sig.generic (length m.generics) declared.1) sig.generic in
        let is1 = customs a.externs p.ITEM_CUSTOM m.attributes in
        let is2 = typar_lines a.externs typar_item p.ITEM_CUSTOM 1 m.generics in
        let is3 = flat_map (row_lines a.externs) m.params in
        let is4 = map (override a.externs) m.overrides in
        let is5 = entrypoint a.externs m.entry in
        let is6 = body_opt a.externs m.body in
        let e5 = is5 ++ is6 in
        let e4 = is4 ++ e5 in
        let e3 = is3 ++ e4 in
        let e2 = is2 ++ e3 in
        let p1 = segments.agree s at is1 e2 ag in
        let j2 = end_of at is1 in
        let p2 = segments.agree s j2 is2 e3 p1.1 in
        let j3 = end_of j2 is2 in
        let p3 = segments.agree s j3 is3 e4 p2.1 in
        let j4 = end_of j3 is3 in
        let p4 = segments.agree s j4 is4 e5 p3.1 in
        let j5 = end_of j4 is4 in
        let p5 = segments.agree s j5 is5 is6 p4.1 in
        let j6 = end_of j5 is5 in
        let g2 = (pieces.each n.ITEM is1 e2 g).1 in
        let g3 = (pieces.each n.ITEM is2 e3 g2).1 in
        let g4 = (pieces.each n.ITEM is3 e4 g3).1 in
        let g5 = (pieces.each n.ITEM is4 e5 g4).1 in
        let g6 = (pieces.each n.ITEM is5 is6 g5).1 in
        rows.joined s x at is1 e2 (attributes s a listed x m.attributes good.attributes kept.customs_held p.ITEM_CUSTOM refl at p1.0)
        (rows.joined s x j2 is2 e3 (generics.method_lines s a listed x m.generics good.generics kept.generics_held few_generics many_typars p.ITEM_CUSTOM refl j2 p2.0)
        (rows.joined s x j3 is3 e4 (all_rows (length m.sig.params) many_params m.params good.params kept.rows_held numbers.1 j3 p3.0)
        (rows.joined s x j4 is4 e5 (overrides_quiet m.overrides good.overrides kept.overrides_held j4 p4.0)
        (rows.joined s x j5 is5 is6 (entry_quiet m.entry j5)
        (bodies_quiet unasked rows segments pieces searches terms references s a listed x m.body good.body kept.body_held j6 g6 p5.1)))))

    below_quiet : IsQuiet s x (braces p.ITEM_STAR_MORE p.ITEM_STAR_END (method_items a.externs m)) → (at : ℕ) → Agrees s at (method a.externs m).below →
        EachBreaksNothing s (nodes_in s x (numbered at (method a.externs m).below))
    unfolding method
    below_quiet braced at ag =
        let good = (methods_named a m).0 formed in
        let sig = (signatures_named a m.sig).0 good.sig in
        let kept = held_parts m held in
        let declared = and_parts _ _ good.declaration in
        let few_generics = subst (λ (k : ℕ). is_count k ≡ true) (eqb-true m.sig.generic (length m.generics) declared.1) sig.generic in
        let g11 = star p.IMPL_ATTR_STAR_MORE p.IMPL_ATTR_STAR_END (flag_items n.IMPL_ATTR p.IMPL_ATTR_FLAGS implementation_words m.impl_flags) (braces p.ITEM_STAR_MORE p.ITEM_STAR_END (method_items a.externs m)) in
        let q11 : IsQuiet s x g11 = row_then p.IMPL_ATTR_STAR_MORE p.IMPL_ATTR_STAR_END refl refl (flag_items n.IMPL_ATTR p.IMPL_ATTR_FLAGS implementation_words m.impl_flags)
        (λ j i. flags.implementations s x m.impl_flags kept.impl_held good.impl_flags j i) (braces p.ITEM_STAR_MORE p.ITEM_STAR_END (method_items a.externs m)) braced in
        let g9 = optional p.DEF_ARGS_OPT_SOME p.DEF_ARGS_OPT_NONE (def_args a.externs (written.parameters a.externs m.params 1 m.sig.params)) (w word.CLOSE_PAREN g11) in
        let q9 : IsQuiet s x g9 = params_then m.params good.params kept.rows_held m.sig.params (leb-true (length m.sig.params) 65535 sig.count) sig.params kept.params_sig (w word.CLOSE_PAREN g11) (λ j i. q11 (suc j) i.1) in
        let g7 = typars_opt a.externs m.generics (w word.OPEN_PAREN g9) in
        let q7 : IsQuiet s x g7 = generics.generics s a listed x m.generics good.generics kept.generics_held few_generics (w word.OPEN_PAREN g9) (λ j i. q9 (suc j) i.1) in
        let g6 = put (method_name m.name) g7 in
        let q6 : IsQuiet s x g6 = name_then m.name g7 q7 in
        let g5 = put (type_of a.externs m.sig.ret) g6 in
        let q5 : IsQuiet s x g5 = λ j i. terms.types s a listed x m.sig.ret sig.ret kept.ret_held j i.0 (numbered (j + size (type_below a.externs m.sig.ret)) g6) (q6 (j + size (type_below a.externs m.sig.ret)) i.1) in
        let g4 = convention m.sig g5 in
        let q4 : IsQuiet s x g4 = references.conventions s x m.sig g5 q5 in
        row_then p.METHOD_ATTR_STAR_MORE p.METHOD_ATTR_STAR_END refl refl (flag_items n.METHOD_ATTR p.METHOD_ATTR_FLAGS method_words m.flags) (λ j i. flags.methods s x m.flags kept.flags_held j i) g4 q4 (suc at) ag.1

module _ (unasked : UnaskedBreakNothing) (laws : NumbersAreRead) (alone : NumbersAlone) (flags : FlagsBreakNothing) (constants : ConstantsBreakNothing) (rows : RowsBreakNothing) (segments : SegmentsAreRead)
    (pieces : PiecesAreRead) (searches : SearchesPass) (terms : TermsBreakNothing) (references : ReferencesBreakNothing) (plain : PlainReferencesHaveNone) (attributes : AttributesBreakNothing)
    (generics : GenericsBreakNothing) (read : GenericsAreRead) (heads : HeadsAreRead) (s : Source) (a : Assembly) (listed : IsListingOf s a) (x : Around) (m : Method) where
  braces_then : (inner : Around) → ((at : ℕ) → EachGrown n.ITEM (method_items a.externs m) → ItemsAgree s at (method_items a.externs m) → ItemsBreakNothing s inner at (method_items a.externs m)) →
      EachGrown n.ITEM (method_items a.externs m) → IsQuiet s inner (braces p.ITEM_STAR_MORE p.ITEM_STAR_END (method_items a.externs m))
  braces_then inner q g at ag =
      let items = method_items a.externs m in
      rows.row s inner p.ITEM_STAR_MORE p.ITEM_STAR_END refl refl items (suc at) (numbered (suc at + size (star_below p.ITEM_STAR_MORE p.ITEM_STAR_END items)) (line word.CLOSE_BRACE none))
      (q (suc at) g (segments.row s p.ITEM_STAR_MORE p.ITEM_STAR_END items (suc at) ag.1.0)) tt

  items_grown : Grows (body_of p.METHOD) (method a.externs m).below → EachGrown n.ITEM (method_items a.externs m)
  unfolding ilasm rule_by method
  items_grown g = pieces.grown n.ITEM n.ITEM_STAR p.ITEM_STAR_MORE p.ITEM_STAR_END refl (method_items a.externs m) g.1.2.2.2.2.2.1.2.1.2.1.1

  method_quiet : is_method a m ≡ true → is_method_held m ≡ true → Grows (body_of p.METHOD) (method a.externs m).below → (at : ℕ) → Agrees s at (put (method a.externs m) none) →
      MethodBreaksNothing s (method_node a x at m) → EachBreaksNothing s (nodes_in s x (f.branch p.METHOD (numbered at (method a.externs m).below) f.none))
  method_quiet formed held g at ag whole =
      let below = numbered at (method a.externs m).below in
      let inner = in_method x below in
      let params = heads.parameters s a m formed g at ag.0 in
      let many_params : length (parameters below) ≡ length m.sig.params =
      ap (λ (gs : List f.Forest). length gs) params.0
      ∙ (below_length (comma_parts (args_place a m at) (written.parameters a.externs m.params 1 m.sig.params))
      ∙ (comma_many (args_place a m at) (written.parameters a.externs m.params 1 m.sig.params)
      ∙ params_many unasked laws alone flags constants rows segments pieces searches terms references plain attributes generics s a listed inner m.params ((methods_named a m).0 formed).params
      (held_parts m held).rows_held 1 m.sig.params)) in
      let many_typars : length (typars below) ≡ length m.generics = read.counted a.externs m.generics below (typars_place a m at) (heads.typars s a m formed g at ag.0).0 in
      let own : BreaksNothing s (method_node a x at m) =
      record {
        types = refl;
        scopes = refl;
        typars = refl;
        param_types = refl;
        numbers = refl;
        depth = refl;
        nesting = refl;
        paths = refl;
        class = λ i. absurd (false≢true i);
        field = λ i. absurd (false≢true i);
        label = λ i. absurd (false≢true i);
        accessors = λ i. absurd (false≢true i);
        method = λ i. whole;
      } in
      let braced = braces_then inner (items_quiet unasked laws alone flags constants rows segments pieces searches terms references plain attributes generics s a listed inner m formed held many_params many_typars) (items_grown g) in
      unasked.branch s x p.METHOD below f.none own
      (below_quiet unasked laws alone flags constants rows segments pieces searches terms references plain attributes generics s a listed inner m formed held many_params many_typars braced at ag.0) tt

  one_quiet : is_method a m ≡ true → is_method_held m ≡ true → Grows (body_of p.METHOD) (method a.externs m).below → (at : ℕ) → Agrees s at (put (method a.externs m) none) →
      MethodBreaksNothing s (method_node a x at m) → EachBreaksNothing s (nodes_in s x (numbered at (put (method a.externs m) none)))
  unfolding method
  one_quiet formed held g at ag whole = method_quiet formed held g at ag whole

module _ (unasked : UnaskedBreakNothing) (s : Source) (a : Assembly) (x : Around) (production y : ℕ) (body : body_of production ≡ Nonterminal n.METHOD ∷ []) (q : f.is_among asked production ≡ false)
    (same : entered_is_same s x production)
    (one : (m : Method) → is_method a m ≡ true → is_method_held m ≡ true → Grows (body_of p.METHOD) (method a.externs m).below → (at : ℕ) → Agrees s at (put (method a.externs m) none) →
    MethodBreaksNothing s (method_node a x at m) → EachBreaksNothing s (nodes_in s x (numbered at (put (method a.externs m) none)))) where
  inner_grown : (m : Method) → Grows (Nonterminal n.METHOD ∷ []) (put (method a.externs m) none) → Grows (body_of p.METHOD) (method a.externs m).below
  unfolding method
  inner_grown m g = g.1

  all_quiet : (ms : List Method) → list_all (is_method a) ms ≡ true → list_all is_method_held ms ≡ true → (at : ℕ) → EachGrown y (rows_of.method_items a.externs production ms) →
      ItemsAgree s at (rows_of.method_items a.externs production ms) → EachBodyBreaksNothing s a x at ms → ItemsBreakNothing s x at (rows_of.method_items a.externs production ms)
  all_quiet [] c h at g ag bodies = tt
  all_quiet (m ∷ ms) c h at g ag bodies =
      let cs = and_parts (is_method a m) (list_all (is_method a) ms) c in
      let hs = and_parts (is_method_held m) (list_all is_method_held ms) h in
      let own = numbered at (put (method a.externs m) none) in
      let grown = inner_grown m (subst (λ (b : List Symbol). Grows b (put (method a.externs m) none)) body g.1) in
      let inside = one m cs.0 hs.0 grown at ag.0 bodies.0 in (
        unasked.branch s x production own f.none (unasked.node s (record { production = production; below = own; around = entered s x production own }) q)
            (subst (λ (z : Around). EachBreaksNothing s (nodes_in s z own)) (sym (same own)) inside) tt,
        all_quiet ms cs.1 hs.1 (at + size (put (method a.externs m) none)) g.2 ag.1 bodies.1,
      )

pub held_methods : (a : Assembly) → is_held a ≡ true → list_all is_method_held a.methods ≡ true
unfolding is_held
held_methods a h =
    let h1 = and_parts _ _ h in
    let h2 = and_parts _ _ h1.0 in
    h2.1

pub formed_methods : (a : Assembly) → is_well_formed a ≡ true → list_all (is_method a) a.methods ≡ true
unfolding is_well_formed are_globals
formed_methods a h =
    let h1 = and_parts _ _ h in
    let h2 = and_parts _ _ h1.0 in
    let g1 = and_parts _ _ h2.1 in
    let g2 = and_parts _ _ g1.0 in
    let g3 = and_parts _ _ g2.0 in
    g3.1

pub alone_below : body_of p.DECL_METHOD ≡ Nonterminal n.METHOD ∷ []
unfolding ilasm rule_by
alone_below = refl

pub methods_break_by_bodies : UnaskedBreakNothing → NumbersAreRead → NumbersAlone → FlagsBreakNothing → ConstantsBreakNothing → RowsBreakNothing → SegmentsAreRead → PiecesAreRead → SearchesPass → TermsBreakNothing →
    ReferencesBreakNothing → PlainReferencesHaveNone → AttributesBreakNothing → GenericsBreakNothing → GenericsAreRead → HeadsAreRead → DeclarationsAreRead → MethodsBreakByBodies
methods_break_by_bodies unasked laws alone flags constants rows segments pieces searches terms references plain attributes generics read heads declared = record {
  one = λ s a listed x m. one_quiet unasked laws alone flags constants rows segments pieces searches terms references plain attributes generics read heads s a listed x m;
  rows = λ s a listed x production y body q same ms c h at g ag bodies.
      all_quiet unasked s a x production y body q same (λ m. one_quiet unasked laws alone flags constants rows segments pieces searches terms references plain attributes generics read heads s a listed x m) ms c h at g ag bodies;
  globals = λ s a listed bodies.
      let has = declared s a listed in
      all_quiet unasked s a nothing_around p.DECL_METHOD n.DECL alone_below refl (λ b. refl)
      (λ m. one_quiet unasked laws alone flags constants rows segments pieces searches terms references plain attributes generics read heads s a listed nothing_around m)
      a.methods (formed_methods a listed.formed) (held_methods a listed.held) (methods_place a) has.methods_grown has.methods bodies;
}
