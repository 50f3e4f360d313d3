-- Generic parameters and the lines that give them attributes break no rule.
use Rattle.std.proofs.Common.{◌≡◌, ℕ, suc, ◌+◌, ◌<◌, ◌≤◌, ◌^◌, nat_eq, Bool, true, false, cond, pos, List, [], ◌∷◌, map, length, refl, ap, sym, subst, ◌∙◌, append-nil, arith}
use Rattle.std.proofs.lemmas.Bool.{and_parts, false≢true, leb-true}
use Rattle.std.specs.List.{list_all}
use Rattle.il_lexer.specs.declared.word.TheConstants as word
use Rattle.ilasm_grammar.specs.declared.nonterminals.TheConstants as n
use Rattle.ilasm_grammar.specs.declared.productions.TheConstants as p
use Rattle.type_terms.specs.declared.term.Owner.{Owner}
use Rattle.assembly_tree.specs.WellFormedMembers.{is_generic, is_attribute}
use Rattle.assembly_tree.specs.WellFormedTerms.{is_owner, is_count}
use Rattle.assembly_tree.specs.declared.assembly.Assembly.{Assembly}
use Rattle.assembly_tree.specs.declared.members.Generic.{Generic}
use Rattle.source_model.specs.Forest as f
use Rattle.source_model.specs.Nodes.{Around, nodes_in, typars}
use Rattle.source_model.specs.Source.{Source}
use Rattle.source_model.specs.TypeRules.{is_within, unless, past_count}
use Rattle.source_model.specs.Values.{integer}
use Rattle.faultless_nodes.specs.Laws.{BreaksNothing, EachBreaksNothing, asked, UnaskedBreakNothing}
use Rattle.listing_declarations.specs.Laws.{IsListingOf}
use Rattle.listing_growth.specs.Held.{is_u16, is_owner_held, is_generic_held, are_attributes_held}
use Rattle.listing_members.specs.Laws.{GenericsAreRead}
use Rattle.listing_model.specs.Classes.{typar_member}
use Rattle.listing_model.specs.Flags.{flag_items, typar_words}
use Rattle.listing_model.specs.Members as written
use Rattle.listing_model.specs.Members.{specs, bounds, typar, typars_opt, typar_line, typar_lines}
use Rattle.listing_model.specs.Methods.{typar_item}
use Rattle.listing_model.specs.Shown.{Shown, none, Item, w, optional, size, star_production, star_below, behind_comma, opt_below}
use Rattle.listing_model.specs.Types.{name, owner}
use Rattle.listing_model.specs.Values.{customs}
use Rattle.listing_reading.specs.Numbered.{numbered, Agrees}
use Rattle.listing_rows.specs.Laws.{SegmentsAreRead}
use Rattle.listing_rows.specs.Segments.{end_of, ItemsAgree}
use Rattle.listing_values.specs.Laws.{NumbersAreRead}
use Rattle.listing_denotes.specs.Quiet.{ItemsBreakNothing, RowsBreakNothing}
use Rattle.listing_denotes.specs.Values.{NumbersAlone, FlagsBreakNothing}
use Rattle.listing_denotes.proofs.ValuesFlags.{unless_none}
use Rattle.listing_denotes.specs.Terms.{TermsBreakNothing}
use Rattle.listing_denotes.specs.References.{IsQuiet, AttributesBreakNothing}
use Rattle.listing_denotes.proofs.ReferencesCounts.{counted}
use Rattle.listing_denotes.specs.Generics.{GenericsBreakNothing}

-- ---- numbers of generic parameters

key_within : (k total : ℕ) → 1 ≤ k → k ≤ total → is_within (pos 1) (pos total) (pos k) ≡ true
key_within k total h i = grind (arith, h, i)

small : (k total : ℕ) → k ≤ total → total ≤ 65535 → k < 2 ^ 128
small k total h i = omega arith

module _ (unasked : UnaskedBreakNothing) (laws : NumbersAreRead) (alone : NumbersAlone) (flags : FlagsBreakNothing) (rows : RowsBreakNothing) (segments : SegmentsAreRead) (terms : TermsBreakNothing)
    (attributes : AttributesBreakNothing) (read : GenericsAreRead) (s : Source) (a : Assembly) (listed : IsListingOf s a) (x : Around) where
  -- ---- owners between commas

  behind_owners : (os : List Owner) → list_all (is_owner a) os ≡ true → list_all is_owner_held os ≡ true → (at : ℕ) → ItemsAgree s at (map (behind_comma p.COMMA_SPEC) (map (owner a.externs) os)) →
      ItemsBreakNothing s x at (map (behind_comma p.COMMA_SPEC) (map (owner a.externs) os))
  behind_owners [] m h at ag = tt
  behind_owners (o ∷ os) m h at ag =
      let ms = and_parts (is_owner a o) (list_all (is_owner a) os) m in
      let hs = and_parts (is_owner_held o) (list_all is_owner_held os) h in
      let own = owner a.externs o in (
        unasked.branch s x p.COMMA_SPEC (f.leaf at (f.branch own.production (numbered (suc at) own.below) f.none)) f.none (unasked.node s _ refl)
            (terms.owners s a listed x o ms.0 hs.0 (suc at) ag.0.1.0 f.none tt) tt,
        behind_owners os ms.1 hs.1 (at + size (behind_comma p.COMMA_SPEC own).below) ag.1,
      )

  owners_quiet : (os : List Owner) → list_all (is_owner a) os ≡ true → list_all is_owner_held os ≡ true → (after : Shown) → IsQuiet s x after → IsQuiet s x (specs a.externs os after)
  owners_quiet [] m h after r at ag = r at ag
  owners_quiet (o ∷ os) m h after r at ag =
      let ms = and_parts (is_owner a o) (list_all (is_owner a) os) m in
      let hs = and_parts (is_owner_held o) (list_all is_owner_held os) h in
      let own = owner a.externs o in
      let rest = map (behind_comma p.COMMA_SPEC) (map (owner a.externs) os) in
      let from = at + size own.below in
      let last = from + size (star_below p.COMMA_SPEC_STAR_MORE p.COMMA_SPEC_STAR_END rest) in
      let row = f.branch (star_production p.COMMA_SPEC_STAR_MORE p.COMMA_SPEC_STAR_END rest) (numbered from (star_below p.COMMA_SPEC_STAR_MORE p.COMMA_SPEC_STAR_END rest)) (numbered last after) in
      terms.owners s a listed x o ms.0 hs.0 at ag.0 row
      (rows.row s x p.COMMA_SPEC_STAR_MORE p.COMMA_SPEC_STAR_END refl refl rest from (numbered last after)
      (behind_owners os ms.1 hs.1 from (segments.row s p.COMMA_SPEC_STAR_MORE p.COMMA_SPEC_STAR_END rest from ag.1.0)) (r last ag.1.1))

  -- ---- generic parameters

  pub record IsFit (g : Generic) : Type 0 where
    pub bound : list_all (is_owner a) g.bounds ≡ true
    pub custom : list_all (is_attribute a) g.attributes ≡ true
    pub number : is_u16 g.flags ≡ true
    pub bound_held : list_all is_owner_held g.bounds ≡ true
    pub custom_held : are_attributes_held g.attributes ≡ true

  fit_of : (g : Generic) → is_generic a g ≡ true → is_generic_held g ≡ true → IsFit g
  unfolding is_generic is_generic_held
  fit_of g m h =
      let m1 = and_parts _ _ m in
      let m2 = and_parts _ _ m1.0 in
      let h1 = and_parts _ _ h in
      let h2 = and_parts _ _ h1.0 in
      record { bound = m2.1; custom = m1.1; number = h2.0; bound_held = h2.1; custom_held = h1.1 }

  bounds_then : (os : List Owner) → list_all (is_owner a) os ≡ true → list_all is_owner_held os ≡ true → (after : Shown) → IsQuiet s x after →
      IsQuiet s x (optional p.TYPAR_BOUNDS_OPT_SOME p.TYPAR_BOUNDS_OPT_NONE (bounds a.externs os) after)
  bounds_then [] m h after r at ag = (unasked.node s _ refl, r (at + 0) ag.1)
  bounds_then (o ∷ os) m h after r at ag =
      let inner = specs a.externs (o ∷ os) (w word.CLOSE_PAREN none) in
      let own = f.leaf at (numbered (suc at) inner) in
      let next = at + size (opt_below (bounds a.externs (o ∷ os))) in
      unasked.branch s x p.TYPAR_BOUNDS_OPT_SOME (f.branch p.TYPAR_BOUNDS own f.none) (numbered next after) (unasked.node s _ refl)
      (unasked.branch s x p.TYPAR_BOUNDS own f.none (unasked.node s _ refl) (owners_quiet (o ∷ os) m h (w word.CLOSE_PAREN none) (λ j i. tt) (suc at) ag.0.0.1) tt)
      (r next ag.1)

  typar_quiet : (g : Generic) → IsFit g → (at : ℕ) → Agrees s at (typar a.externs g).below → (after : f.Forest) → EachBreaksNothing s (nodes_in s x after) →
      EachBreaksNothing s (nodes_in s x (f.branch p.TYPAR (numbered at (typar a.externs g).below) after))
  typar_quiet g fit at ag after r =
      let items = flag_items n.TYPAR_ATTR p.TYPAR_ATTR_FLAGS typar_words g.flags in
      let rest = optional p.TYPAR_BOUNDS_OPT_SOME p.TYPAR_BOUNDS_OPT_NONE (bounds a.externs g.bounds) (name g.name none) in
      let next = at + size (star_below p.TYPAR_ATTR_STAR_MORE p.TYPAR_ATTR_STAR_END items) in
      unasked.branch s x p.TYPAR (numbered at (typar a.externs g).below) after (unasked.node s _ refl)
      (rows.row s x p.TYPAR_ATTR_STAR_MORE p.TYPAR_ATTR_STAR_END refl refl items at (numbered next rest)
      (flags.typars s x g.flags fit.number at (segments.row s p.TYPAR_ATTR_STAR_MORE p.TYPAR_ATTR_STAR_END items at ag.0))
      (bounds_then g.bounds fit.bound fit.bound_held (name g.name none) (λ j i. tt) next ag.1)) r

  behind_typars : (gs : List Generic) → list_all (is_generic a) gs ≡ true → list_all is_generic_held gs ≡ true → (at : ℕ) → ItemsAgree s at (map (behind_comma p.COMMA_TYPAR) (map (typar a.externs) gs)) →
      ItemsBreakNothing s x at (map (behind_comma p.COMMA_TYPAR) (map (typar a.externs) gs))
  behind_typars [] m h at ag = tt
  behind_typars (g ∷ gs) m h at ag =
      let ms = and_parts (is_generic a g) (list_all (is_generic a) gs) m in
      let hs = and_parts (is_generic_held g) (list_all is_generic_held gs) h in (
        unasked.branch s x p.COMMA_TYPAR (f.leaf at (f.branch p.TYPAR (numbered (suc at) (typar a.externs g).below) f.none)) f.none (unasked.node s _ refl)
            (typar_quiet g (fit_of g ms.0 hs.0) (suc at) ag.0.1.0 f.none tt) tt,
        behind_typars gs ms.1 hs.1 (at + size (behind_comma p.COMMA_TYPAR (typar a.externs g)).below) ag.1,
      )

  typars_then : (gs : List Generic) → list_all (is_generic a) gs ≡ true → list_all is_generic_held gs ≡ true → is_count (length gs) ≡ true → (after : Shown) → IsQuiet s x after →
      IsQuiet s x (typars_opt a.externs gs after)
  typars_then [] m h c after r at ag = (unasked.node s _ refl, r (at + 0) ag.1)
  typars_then (g ∷ gs) m h c after r at ag =
      let ms = and_parts (is_generic a g) (list_all (is_generic a) gs) m in
      let hs = and_parts (is_generic_held g) (list_all is_generic_held gs) h in
      let rest = map (behind_comma p.COMMA_TYPAR) (map (typar a.externs) gs) in
      let from = suc at + size (typar a.externs g).below in
      let last = from + size (star_below p.COMMA_TYPAR_STAR_MORE p.COMMA_TYPAR_STAR_END rest) in
      let row = f.branch (star_production p.COMMA_TYPAR_STAR_MORE p.COMMA_TYPAR_STAR_END rest) (numbered from (star_below p.COMMA_TYPAR_STAR_MORE p.COMMA_TYPAR_STAR_END rest)) (f.leaf last f.none) in
      let own = f.leaf at (f.branch p.TYPAR (numbered (suc at) (typar a.externs g).below) row) in
      let next = at + size (opt_below (written.typars a.externs (g ∷ gs))) in
      let many = read.counted a.externs (g ∷ gs) (f.branch p.TYPARS_OPT_SOME (f.branch p.TYPARS own f.none) f.none) at refl in
      let found = f.parts (p.TYPAR ∷ []) own in
      let as_many : length (f.below_each found) ≡ length (g ∷ gs) = ap (λ (ps : List f.Part). length (f.below_each ps)) (sym (append-nil found)) ∙ many in
      let few : past_count (f.each p.TYPAR own) ≡ [] = counted (f.each p.TYPAR own) (subst (λ (k : ℕ). k ≤ 65535) (sym as_many) (leb-true (length (g ∷ gs)) 65535 c)) in
      unasked.branch s x p.TYPARS_OPT_SOME (f.branch p.TYPARS own f.none) (numbered next after) (unasked.node s _ refl)
      (unasked.branch s x p.TYPARS own f.none (alone s _ refl (simp few))
      (typar_quiet g (fit_of g ms.0 hs.0) (suc at) ag.0.0.1.0 row
      (rows.row s x p.COMMA_TYPAR_STAR_MORE p.COMMA_TYPAR_STAR_END refl refl rest from (f.leaf last f.none)
      (behind_typars gs ms.1 hs.1 from (segments.row s p.COMMA_TYPAR_STAR_MORE p.COMMA_TYPAR_STAR_END rest from ag.0.0.1.1.0)) tt)) tt)
      (r next ag.1)

  -- ---- lines

  abbrev HeadQuiet : (ℕ → Item) → ℕ → Type 0
  HeadQuiet head total =
      (k : ℕ) → 1 ≤ k → k ≤ total → (at : ℕ) → Agrees s at (head k).below → EachBreaksNothing s (nodes_in s x (f.branch (head k).production (numbered at (head k).below) f.none))

  lines_quiet : (head : ℕ → Item) (total : ℕ) → HeadQuiet head total → (custom : ℕ) → f.is_among asked custom ≡ false → (gs : List Generic) → list_all (is_generic a) gs ≡ true → list_all is_generic_held gs ≡ true →
      (k : ℕ) → 1 ≤ k → k + length gs ≤ suc total → (at : ℕ) → ItemsAgree s at (typar_lines a.externs head custom k gs) → ItemsBreakNothing s x at (typar_lines a.externs head custom k gs)
  lines_quiet head total q custom r [] m h k low few at ag = tt
  lines_quiet head total q custom r (g ∷ gs) m h k low few at ag =
      let ms = and_parts (is_generic a g) (list_all (is_generic a) gs) m in
      let hs = and_parts (is_generic_held g) (list_all is_generic_held gs) h in
      let fit = fit_of g ms.0 hs.0 in
      let own = typar_line a.externs head custom k g in
      let others = typar_lines a.externs head custom (suc k) gs in
      let parts = segments.agree s at own others ag in
      rows.joined s x at own others (by (nat_eq (length g.attributes) 0) g fit parts.0)
      (lines_quiet head total q custom r gs ms.1 hs.1 (suc k) (omega arith) (omega arith) (end_of at own) parts.1)
    where
      by : (b : Bool) (g : Generic) → IsFit g → ItemsAgree s at (cond b [] (head k ∷ customs a.externs custom g.attributes)) → ItemsBreakNothing s x at (cond b [] (head k ∷ customs a.externs custom g.attributes))
      by true g fit i = tt
      by false g fit i =
          (q k low (omega arith) at i.0, attributes s a listed x g.attributes fit.custom fit.custom_held custom r (at + size (head k).below) i.1)

  member_quiet : (total : ℕ) → total ≤ 65535 → length (typars x.class) ≡ total → HeadQuiet typar_member total
  member_quiet total few many k low high at ag =
      let e : unless (is_within (pos 1) (pos (length (typars x.class)))) s (suc (suc (suc at))) ≡ [] =
      unless_none (is_within (pos 1) (pos (length (typars x.class)))) s (suc (suc (suc at))) (pos k) (ap integer ag.1.1.0.1.0.text ∙ laws.natural k (small k total high few))
      (ap (λ (j : ℕ). is_within (pos 1) (pos j) (pos k)) many ∙ key_within k total low high) in
      let own : BreaksNothing s (record { production = p.MEMBER_PARAM; below = numbered at (typar_member k).below; around = x }) =
      record {
        types = refl;
        scopes = refl;
        typars = refl;
        param_types = refl;
        numbers = simp e;
        depth = refl;
        nesting = refl;
        paths = refl;
        class = λ i. absurd (false≢true i);
        field = λ i. absurd (false≢true i);
        label = λ i. absurd (false≢true i);
        accessors = λ i. absurd (false≢true i);
        method = λ i. absurd (false≢true i);
      } in
      (own, (unasked.node s _ refl, tt))

  item_quiet : (total : ℕ) → total ≤ 65535 → length (typars x.method) ≡ total → HeadQuiet typar_item total
  item_quiet total few many k low high at ag =
      let e : unless (is_within (pos 1) (pos (length (typars x.method)))) s (suc (suc (suc at))) ≡ [] =
      unless_none (is_within (pos 1) (pos (length (typars x.method)))) s (suc (suc (suc at))) (pos k) (ap integer ag.1.0.1.0.1.0.text ∙ laws.natural k (small k total high few))
      (ap (λ (j : ℕ). is_within (pos 1) (pos j) (pos k)) many ∙ key_within k total low high) in
      let own : BreaksNothing s (record { production = p.PARAM_OF_TYPE; below = numbered (suc at) (written.typar_key k); around = x }) =
      record {
        types = refl;
        scopes = refl;
        typars = refl;
        param_types = refl;
        numbers = simp e;
        depth = refl;
        nesting = refl;
        paths = refl;
        class = λ i. absurd (false≢true i);
        field = λ i. absurd (false≢true i);
        label = λ i. absurd (false≢true i);
        accessors = λ i. absurd (false≢true i);
        method = λ i. absurd (false≢true i);
      } in
      (unasked.node s _ refl, (own, (unasked.node s _ refl, tt)))

pub generics_break_nothing : UnaskedBreakNothing → NumbersAreRead → NumbersAlone → FlagsBreakNothing → RowsBreakNothing → SegmentsAreRead → TermsBreakNothing → AttributesBreakNothing → GenericsAreRead →
    GenericsBreakNothing
generics_break_nothing unasked laws alone flags rows segments terms attributes read = record {
  owners = owners_quiet unasked laws alone flags rows segments terms attributes read;
  generics = typars_then unasked laws alone flags rows segments terms attributes read;
  class_lines = λ s a listed x gs m h c many custom r at ag.
      lines_quiet unasked laws alone flags rows segments terms attributes read s a listed x typar_member (length gs)
      (member_quiet unasked laws alone flags rows segments terms attributes read s a listed x (length gs) (leb-true (length gs) 65535 c) many) custom r gs m h 1 (omega arith) (omega arith) at ag;
  method_lines = λ s a listed x gs m h c many custom r at ag.
      lines_quiet unasked laws alone flags rows segments terms attributes read s a listed x typar_item (length gs)
      (item_quiet unasked laws alone flags rows segments terms attributes read s a listed x (length gs) (leb-true (length gs) 65535 c) many) custom r gs m h 1 (omega arith) (omega arith) at ag;
}
