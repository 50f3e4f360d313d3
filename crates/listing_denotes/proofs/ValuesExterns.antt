-- The other assemblies that a listing names break no rule.
use Rattle.std.proofs.Common.{◌≡◌, ℕ, suc, ◌+◌, ◌<◌, ◌≤◌, ◌^◌, nat_eq, Bool, true, false, cond, pos, List, [], ◌∷◌, ◌++◌, length, slice_index_or, refl, ap, sym, subst, ◌∙◌, arith}
use Rattle.std.proofs.lemmas.Bool.{and_parts, eqb-true, ltb-true, false≢true}
use Rattle.std.specs.List.{list_all}
use Rattle.std.specs.Prelude.{bit_and}
use Rattle.il_lexer.specs.declared.types.TokenKind.TheVariants as kind
use Rattle.il_lexer.specs.declared.word.TheConstants as word
use Rattle.ilasm_grammar.specs.declared.nonterminals.TheConstants as n
use Rattle.ilasm_grammar.specs.declared.productions.TheConstants as p
use Rattle.assembly_tree.specs.declared.assembly.Assembly.{Assembly}
use Rattle.assembly_tree.specs.declared.assembly.ExternAssembly.{ExternAssembly}
use Rattle.source_model.specs.Forest as f
use Rattle.source_model.specs.Nodes.{Around, nodes_in, entered, nothing_around}
use Rattle.source_model.specs.OutOfRange.{is_16_bits}
use Rattle.source_model.specs.Source.{Source}
use Rattle.source_model.specs.TypeRules.{unless}
use Rattle.source_model.specs.Values.{int_at, integer}
use Rattle.faultless_nodes.specs.Laws.{BreaksNothing, EachBreaksNothing, asked, UnaskedBreakNothing}
use Rattle.listing_declarations.specs.Laws.{DeclarationsAreRead}
use Rattle.listing_growth.specs.Held.{is_u16, is_u32, is_version, is_extern_held, is_held}
use Rattle.listing_leaves.specs.Bytes.{equals_bytes}
use Rattle.listing_leaves.specs.Numbers as numbers
use Rattle.listing_leaves.specs.Texts.{quoted}
use Rattle.listing_model.specs.Flags.{flag_items, assembly_words, without_bits, said_bits}
use Rattle.listing_model.specs.Manifests as written
use Rattle.listing_model.specs.Manifests.{version, all_below, assembly_flags}
use Rattle.listing_model.specs.Members.{braces}
use Rattle.listing_model.specs.Shown.{Shown, none, branch, Item, item, put, token, w, line, optional, when, star_below, size}
use Rattle.listing_model.specs.Types.{name, has_alias, alias}
use Rattle.listing_model.specs.Values.{one_string}
use Rattle.listing_reading.specs.Numbered.{numbered, Agrees}
use Rattle.listing_rows.specs.Laws.{SegmentsAreRead}
use Rattle.listing_rows.specs.Segments.{end_of, ItemsAgree}
use Rattle.listing_values.specs.Laws.{NumbersAreRead}
use Rattle.listing_denotes.specs.Quiet.{ItemsBreakNothing, RowsBreakNothing}
use Rattle.listing_denotes.specs.Values.{NumbersAlone, AssembliesBreakNothing, ExternsBreakNothing}
use Rattle.listing_denotes.proofs.ValuesFlags.{within, unless_none, without_32, assembly_table, assembly_quiet, row_quiet}

-- ---- versions

small : (n : ℕ) → n < 0x10000 → n < 2 ^ 128
small n h = omega arith

at_most : (n : ℕ) → n < 0x10000 → n ≤ 0xFFFF
at_most n h = omega arith

-- the four numbers of a version
abbrev AreFour : List ℕ → Type 0
AreFour v = (slice_index_or v 0 0 < 0x10000) × (slice_index_or v 1 0 < 0x10000) × (slice_index_or v 2 0 < 0x10000) × (slice_index_or v 3 0 < 0x10000)

four : (v : List ℕ) → is_version v ≡ true → AreFour v
four [] h = absurd (false≢true h)
four (a ∷ []) h = absurd (false≢true h)
four (a ∷ b ∷ []) h = absurd (false≢true h)
four (a ∷ b ∷ c ∷ []) h = absurd (false≢true h)
four (a ∷ b ∷ c ∷ d ∷ []) h =
    let h1 = and_parts (is_u16 a) (list_all is_u16 (b ∷ c ∷ d ∷ [])) h in
    let h2 = and_parts (is_u16 b) (list_all is_u16 (c ∷ d ∷ [])) h1.1 in
    let h3 = and_parts (is_u16 c) (list_all is_u16 (d ∷ [])) h2.1 in
    let h4 = and_parts (is_u16 d) (list_all is_u16 []) h3.1 in
    (ltb-true a 0x10000 h1.0, ltb-true b 0x10000 h2.0, ltb-true c 0x10000 h3.0, ltb-true d 0x10000 h4.0)
four (a ∷ b ∷ c ∷ d ∷ e ∷ more) h =
    let many = eqb-true (length (a ∷ b ∷ c ∷ d ∷ e ∷ more)) 4 (and_parts (nat_eq (length (a ∷ b ∷ c ∷ d ∷ e ∷ more)) 4) (list_all is_u16 (a ∷ b ∷ c ∷ d ∷ e ∷ more)) h).0 in
    absurd (omega arith)

module _ (laws : NumbersAreRead) (s : Source) where
  part_fits : (n : ℕ) → n < 0x10000 → (k : ℕ) → int_at s k ≡ integer (numbers.natural n) → unless is_16_bits s k ≡ []
  part_fits n h k e = unless_none is_16_bits s k (pos n) (e ∙ laws.natural n (small n h)) (within 0xFFFF n (at_most n h))

  pub version_quiet : NumbersAlone → (a : Around) (v : List ℕ) → is_version v ≡ true → (at : ℕ) → Agrees s at (version v).below →
      BreaksNothing s (record { production = p.KEY_VER; below = numbered at (version v).below; around = a })
  version_quiet alone a v h at ag =
      let fs = four v h in
      let e0 = part_fits (slice_index_or v 0 0) fs.0 (suc at) (ap integer ag.1.0.text) in
      let e1 = part_fits (slice_index_or v 1 0) fs.1 (suc (suc (suc at))) (ap integer ag.1.1.1.0.text) in
      let e2 = part_fits (slice_index_or v 2 0) fs.2 (suc (suc (suc (suc (suc at))))) (ap integer ag.1.1.1.1.1.0.text) in
      let e3 = part_fits (slice_index_or v 3 0) fs.3 (suc (suc (suc (suc (suc (suc (suc at))))))) (ap integer ag.1.1.1.1.1.1.1.0.text) in
      alone s _ refl (simp (e0, e1, e2, e3))

-- ---- flags

module _ (unasked : UnaskedBreakNothing) (laws : NumbersAreRead) (alone : NumbersAlone) (segments : SegmentsAreRead) (rows : RowsBreakNothing) (s : Source) (a : Around) where
  flags_quiet : (k : ℕ) → is_u32 k ≡ true → (after : Shown) (at : ℕ) → Agrees s at (assembly_flags k after) →
      ((j : ℕ) → Agrees s j after → EachBreaksNothing s (nodes_in s a (numbered j after))) → EachBreaksNothing s (nodes_in s a (numbered at (assembly_flags k after)))
  flags_quiet k h after at ag r =
      let items = flag_items n.ASSEMBLY_ATTR p.ASSEMBLY_ATTR_FLAGS assembly_words (without_bits 1 k) in
      let next = at + size (star_below p.ASSEMBLY_ATTR_STAR_MORE p.ASSEMBLY_ATTR_STAR_END items) in
      let fits = without_32 (said_bits assembly_words (without_bits 1 k)) (without_bits 1 k) (without_32 1 k (ltb-true k 0x100000000 h)) in
      rows.row s a p.ASSEMBLY_ATTR_STAR_MORE p.ASSEMBLY_ATTR_STAR_END refl refl items at (numbered next after)
      (row_quiet unasked s a n.ASSEMBLY_ATTR p.ASSEMBLY_ATTR_FLAGS assembly_words assembly_table (without_bits 1 k) (λ x m d. assembly_quiet laws s alone x _ fits m d) at
      (segments.row s p.ASSEMBLY_ATTR_STAR_MORE p.ASSEMBLY_ATTR_STAR_END items at ag.0))
      (r next ag.1)

pub assemblies_break_nothing : UnaskedBreakNothing → NumbersAreRead → NumbersAlone → SegmentsAreRead → RowsBreakNothing → AssembliesBreakNothing
assemblies_break_nothing unasked laws alone segments rows = record {
  flags = λ s a k h after at ag r. flags_quiet unasked laws alone segments rows s a k h after at ag r;
}

-- ---- the lines in braces

-- lines below a production of their owner's, of which no rule speaks
module _ (unasked : UnaskedBreakNothing) (s : Source) (a : Around) (outer : ℕ) (o : f.is_among asked outer ≡ false) where
  pub below_quiet : (i : Item) (at : ℕ) → ((x : Around) → EachBreaksNothing s (nodes_in s x (numbered at (put i none)))) →
      EachBreaksNothing s (nodes_in s a (f.branch outer (numbered at (put i none)) f.none))
  below_quiet i at h =
      let around = entered s a outer (numbered at (put i none)) in
      unasked.branch s a outer (numbered at (put i none)) f.none (unasked.node s (record { production = outer; below = numbered at (put i none); around = around }) o) (h around) tt

  pub key_quiet : (flags : ℕ) (bytes : List ℕ) (at : ℕ) → ItemsBreakNothing s a at (all_below outer (written.key flags bytes))
  key_quiet flags bytes at = by (nat_eq (bit_and flags 1) 1) (nat_eq (length bytes) 0)
    where
      by : (b c : Bool) → ItemsBreakNothing s a at (all_below outer (cond b (item p.KEY_PUBLICKEY (line word.DOT_PUBLICKEY (token kind.EqBytes (equals_bytes bytes) none)) ∷ [])
          (cond c [] (item p.KEY_PUBLICKEYTOKEN (line word.DOT_PUBLICKEYTOKEN (token kind.EqBytes (equals_bytes bytes) none)) ∷ []))))
      by true c = (below_quiet (item p.KEY_PUBLICKEY (line word.DOT_PUBLICKEY (token kind.EqBytes (equals_bytes bytes) none))) at (λ x. unasked.forest s x (numbered at (put (item p.KEY_PUBLICKEY (line word.DOT_PUBLICKEY (token kind.EqBytes (equals_bytes bytes) none))) none)) refl), tt)
      by false true = tt
      by false false = (below_quiet (item p.KEY_PUBLICKEYTOKEN (line word.DOT_PUBLICKEYTOKEN (token kind.EqBytes (equals_bytes bytes) none))) at (λ x. unasked.forest s x (numbered at (put (item p.KEY_PUBLICKEYTOKEN (line word.DOT_PUBLICKEYTOKEN (token kind.EqBytes (equals_bytes bytes) none))) none)) refl), tt)

  pub culture_quiet : (text : List ℕ) (at : ℕ) → ItemsBreakNothing s a at (all_below outer (written.culture text))
  culture_quiet text at = by (nat_eq (length text) 0)
    where
      by : (b : Bool) → ItemsBreakNothing s a at (all_below outer (cond b [] (item p.KEY_CULTURE (line word.DOT_CULTURE (put (one_string (quoted 34 text)) none)) ∷ [])))
      by true = tt
      by false = (below_quiet (item p.KEY_CULTURE (line word.DOT_CULTURE (put (one_string (quoted 34 text)) none))) at (λ x. unasked.forest s x (numbered at (put (item p.KEY_CULTURE (line word.DOT_CULTURE (put (one_string (quoted 34 text)) none))) none)) refl), tt)

  pub version_line : NumbersAreRead → NumbersAlone → (v : List ℕ) → is_version v ≡ true → (at : ℕ) → ItemsAgree s at (all_below outer (version v ∷ [])) →
      ItemsBreakNothing s a at (all_below outer (version v ∷ []))
  version_line laws alone v h at ag = (below_quiet (version v) at (λ x. (version_quiet laws s alone x v h at ag.0.0, tt)), tt)

-- the keys of both kinds, and their cultures
abbrev keys_of : ℕ → ℕ → List ℕ → List ℕ → List Item
keys_of outer flags bytes text = all_below outer (written.key flags bytes ++ written.culture text)

pub below_joined : (outer : ℕ) (xs ys : List Item) → all_below outer (xs ++ ys) ≡ all_below outer xs ++ all_below outer ys
below_joined outer [] ys = refl
below_joined outer (x ∷ xs) ys = ap (λ (zs : List Item). item outer (put x none) ∷ zs) (below_joined outer xs ys)

module _ (unasked : UnaskedBreakNothing) (laws : NumbersAreRead) (alone : NumbersAlone) (assemblies : AssembliesBreakNothing) (segments : SegmentsAreRead) (rows : RowsBreakNothing) (s : Source) (a : Around) where
  hash_quiet : (bytes : List ℕ) (at : ℕ) → ItemsBreakNothing s a at (written.hash bytes)
  hash_quiet bytes at = by (nat_eq (length bytes) 0)
    where
      by : (b : Bool) → ItemsBreakNothing s a at (cond b [] (item p.EXTERN_ITEM_HASH (line word.DOT_HASH (token kind.EqBytes (equals_bytes bytes) none)) ∷ []))
      by true = tt
      by false = (unasked.forest s a (numbered at (put (item p.EXTERN_ITEM_HASH (line word.DOT_HASH (token kind.EqBytes (equals_bytes bytes) none))) none)) refl, tt)

  items_quiet : (e : ExternAssembly) → is_extern_held e ≡ true → (at : ℕ) → ItemsAgree s at (written.extern_items e) → ItemsBreakNothing s a at (written.extern_items e)
  unfolding is_extern_held
  items_quiet e h at ag =
      let hs = and_parts _ _ h in
      let ks = and_parts _ _ hs.0 in
      let js = and_parts _ _ ks.0 in
      let keys = all_below p.EXTERN_ITEM_KEY (written.key e.flags e.key) in
      let cultures = all_below p.EXTERN_ITEM_KEY (written.culture e.culture) in
      let last = all_below p.EXTERN_ITEM_KEY (version e.version ∷ []) in
      let front = all_below p.EXTERN_ITEM_KEY (written.key e.flags e.key ++ written.culture e.culture) in
      let first : ItemsBreakNothing s a at front =
      subst (λ (xs : List Item). ItemsBreakNothing s a at xs) (sym (below_joined p.EXTERN_ITEM_KEY (written.key e.flags e.key) (written.culture e.culture)))
      (rows.joined s a at keys cultures (key_quiet unasked s a p.EXTERN_ITEM_KEY refl e.flags e.key at) (culture_quiet unasked s a p.EXTERN_ITEM_KEY refl e.culture (end_of at keys))) in
      let behind = segments.agree s at front (written.hash e.hash ++ last) ag in
      let behind_hash = segments.agree s (end_of at front) (written.hash e.hash) last behind.1 in
      rows.joined s a at front (written.hash e.hash ++ last) first
      (rows.joined s a (end_of at front) (written.hash e.hash) last (hash_quiet e.hash (end_of at front))
      (version_line unasked s a p.EXTERN_ITEM_KEY refl laws alone e.version js.0 (end_of (end_of at front) (written.hash e.hash)) behind_hash.1))

  -- the key of its own, which breaks none
  alias_then : (b : Bool) (k : ℕ) (after : Shown) (at : ℕ) → ((j : ℕ) → Agrees s j after → EachBreaksNothing s (nodes_in s a (numbered j after))) →
      Agrees s at (optional p.ALIAS_OPT_SOME p.ALIAS_OPT_NONE (when b (branch p.ALIAS (w word.AS (name (alias k) none)) none)) after) →
      EachBreaksNothing s (nodes_in s a (numbered at (optional p.ALIAS_OPT_SOME p.ALIAS_OPT_NONE (when b (branch p.ALIAS (w word.AS (name (alias k) none)) none)) after)))
  alias_then true k after at r ag = (unasked.node s _ refl, (unasked.node s _ refl, r _ ag.1))
  alias_then false k after at r ag = (unasked.node s _ refl, r _ ag.1)

  pub braces_quiet : (more end : ℕ) → f.is_among asked more ≡ false → f.is_among asked end ≡ false → (items : List Item) (at : ℕ) → Agrees s at (braces more end items) →
      ((j : ℕ) → ItemsAgree s j items → ItemsBreakNothing s a j items) → EachBreaksNothing s (nodes_in s a (numbered at (braces more end items)))
  braces_quiet more end m e items at ag r =
      rows.row s a more end m e items (suc at) (numbered (suc at + size (star_below more end items)) (line word.CLOSE_BRACE none)) (r (suc at) (segments.row s more end items (suc at) ag.1.0)) tt

  extern_quiet : (externs : List ExternAssembly) (k : ℕ) (e : ExternAssembly) → is_extern_held e ≡ true → (at : ℕ) → Agrees s at (written.extern_item externs k e).below →
      EachBreaksNothing s (nodes_in s a (f.branch p.DECL_ASSEMBLY (numbered at (written.extern_item externs k e).below) f.none))
  unfolding is_extern_held
  extern_quiet externs k e h at ag =
      let hs = and_parts _ _ h in
      let ks = and_parts _ _ hs.0 in
      let js = and_parts _ _ ks.0 in
      let g3 = braces p.EXTERN_ITEM_STAR_MORE p.EXTERN_ITEM_STAR_END (written.extern_items e) in
      let g2 = optional p.ALIAS_OPT_SOME p.ALIAS_OPT_NONE (when (has_alias externs e) (branch p.ALIAS (w word.AS (name (alias k) none)) none)) g3 in
      let g1 = name e.name g2 in
      let g0 = w word.EXTERN (assembly_flags e.flags g1) in
      let inner = assemblies.flags s a e.flags js.1 g1 (suc (suc at)) ag.1.0.1
      (λ i d. alias_then (has_alias externs e) k g3 (suc i) (λ j c. braces_quiet p.EXTERN_ITEM_STAR_MORE p.EXTERN_ITEM_STAR_END refl refl (written.extern_items e) j c (items_quiet e h)) d.1) in
      unasked.branch s a p.DECL_ASSEMBLY (f.leaf at (f.branch p.ASSEMBLY_EXTERN (numbered (suc at) g0) f.none)) f.none (unasked.node s _ refl)
      (unasked.branch s a p.ASSEMBLY_EXTERN (numbered (suc at) g0) f.none (unasked.node s _ refl) inner tt) tt

  all_quiet : (externs : List ExternAssembly) (es : List ExternAssembly) → list_all is_extern_held es ≡ true → (k at : ℕ) → ItemsAgree s at (written.extern_lines externs k es) →
      ItemsBreakNothing s a at (written.extern_lines externs k es)
  all_quiet externs [] h k at ag = tt
  all_quiet externs (e ∷ es) h k at ag =
      let hs = and_parts (is_extern_held e) (list_all is_extern_held es) h in
      (extern_quiet externs k e hs.0 at ag.0, all_quiet externs es hs.1 (suc k) (at + size (written.extern_item externs k e).below) ag.1)

held_externs : (a : Assembly) → is_held a ≡ true → list_all is_extern_held a.externs ≡ true
unfolding is_held
held_externs a h =
    let hs = and_parts _ _ h in
    let ks = and_parts _ _ hs.0 in
    let js = and_parts _ _ ks.0 in
    let is = and_parts _ _ js.0 in
    is.1

pub externs_break_nothing : UnaskedBreakNothing → NumbersAreRead → NumbersAlone → AssembliesBreakNothing → SegmentsAreRead → RowsBreakNothing → DeclarationsAreRead → ExternsBreakNothing
externs_break_nothing unasked laws alone assemblies segments rows declared s a listed =
    all_quiet unasked laws alone assemblies segments rows s nothing_around a.externs a.externs (held_externs a listed.held) 0 0 (declared s a listed).externs
