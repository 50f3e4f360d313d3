-- Calling conventions, arguments and references to methods break no rule.
use Rattle.std.proofs.Common.{◌≡◌, ℕ, zero, suc, ◌+◌, ◌<◌, ◌≤◌, ◌^◌, nat_eq, nat_lt, Bool, true, false, cond, if◌then◌else◌, ℤ, pos, List, [], ◌∷◌, ◌++◌, map, take, drop, length, Option, None, Some, refl, ap, sym, subst, ◌∙◌, append-nil, arith}
use Rattle.std.proofs.lemmas.Bool.{and_parts, eqb-true, false≢true, leb-true}
use Rattle.std.specs.List.{list_all}
use Rattle.std.specs.Prelude.{is_some, codes, bytes_eq}
use Rattle.il_lexer.specs.declared.word.TheConstants as word
use Rattle.ilasm_grammar.specs.Ilasm.{ilasm, rule_by, has_bit}
use Rattle.ilasm_grammar.specs.declared.nonterminals.TheConstants as n
use Rattle.ilasm_grammar.specs.declared.productions.TheConstants as p
use Rattle.ilasm_grammar.specs.declared.symbol.Symbol.{Symbol}
use Rattle.ilasm_grammar.specs.declared.symbol.Symbol.TheVariants.{Terminal, Nonterminal}
use Rattle.ilasm_grammar.specs.declared.terminals.TheConstants.{WORDS}
use Rattle.type_terms.specs.declared.name.Scope as scope
use Rattle.type_terms.specs.declared.name.TypeId.{TypeId}
use Rattle.type_terms.specs.declared.reference.MethodRef.{MethodRef}
use Rattle.type_terms.specs.declared.reference.MethodSig.{MethodSig}
use Rattle.type_terms.specs.declared.term.Owner.{Owner, out-Owner}
use Rattle.type_terms.specs.declared.term.Owner.TheVariants as o
use Rattle.type_terms.specs.declared.term.SigType.{SigType}
use Rattle.assembly_tree.specs.WellFormedNames.{is_declared, is_module, option_all}
use Rattle.assembly_tree.specs.WellFormedTerms.{is_type, is_owner, is_signature, is_method_ref, are_arguments, is_count}
use Rattle.assembly_tree.specs.declared.assembly.Assembly.{Assembly}
use Rattle.assembly_tree.proofs.FormedFacts.{method_refs_named, signatures_named}
use Rattle.source_model.specs.Forest as f
use Rattle.source_model.specs.Names.{Written, path_tokens, is_declared_path, written_name}
use Rattle.source_model.specs.Nodes.{Around, Node, nodes_in, entered, type_id}
use Rattle.source_model.specs.Source.{Source}
use Rattle.source_model.specs.TypeRules.{is_within, unless, past_count, path_undeclared, scope_token_unless, type_undeclared_in, scope_undeclared_in, path_too_long_in}
use Rattle.source_model.specs.Values.{int_at, integer}
use Rattle.faultless_nodes.specs.Laws.{BreaksNothing, EachBreaksNothing, UnaskedBreakNothing}
use Rattle.listing_declarations.specs.Laws.{IsListingOf}
use Rattle.listing_formed.specs.Laws.{Knows, FormedAreReadable}
use Rattle.listing_growth.specs.Held.{is_type_held, is_owner_held, is_signature_held, is_method_ref_held}
use Rattle.listing_growth.specs.Laws.{TermsStand, ReferencesStand}
use Rattle.listing_growth.specs.Standing.{can_stand, all_stand}
use Rattle.listing_model.specs.Grown.{body_of, Grows}
use Rattle.listing_model.specs.References as written
use Rattle.listing_model.specs.References.{convention, argument, arguments, with_sentinel, sig_args, method_name, generics_and_arguments, method_generics, generic_types, generic_count, in_angles, target_end, target_path, target_here, target_in, target_of, method_ref}
use Rattle.listing_model.specs.Shown.{Shown, none, branch, Item, item, put, w, optional, when, size, star_production, star_below, behind_comma, opt_below, opt_production}
use Rattle.listing_model.specs.Types.{name, path, path_below, type_of, type_below, extern_scope}
use Rattle.listing_model.specs.Types as shown
use Rattle.listing_reading.specs.Below.{below, cant_stand}
use Rattle.listing_reading.specs.BelowMasks.{below_masks}
use Rattle.listing_reading.specs.Laws.{SearchesPass}
use Rattle.listing_reading.specs.Numbered.{numbered, place, Agrees}
use Rattle.listing_reading.specs.Rows.{AreAmong}
use Rattle.listing_references.specs.Laws.{ArgumentsAreRead}
use Rattle.listing_rows.specs.Laws.{SegmentsAreRead, PiecesAreRead}
use Rattle.listing_rows.specs.Segments.{comma_parts, ItemsAgree}
use Rattle.listing_terms.specs.Laws.{PathsAreRead}
use Rattle.listing_values.specs.Laws.{NamesAreRead, NumbersAreRead}
use Rattle.listing_denotes.specs.Quiet.{ItemsBreakNothing, RowsBreakNothing}
use Rattle.listing_denotes.specs.Values.{NumbersAlone}
use Rattle.listing_denotes.specs.Terms.{TermsBreakNothing}
use Rattle.listing_denotes.proofs.TermsNames.{short, known_path, other_path, path_quiet, scope_is}
use Rattle.listing_denotes.specs.References.{IsQuiet}
use Rattle.listing_denotes.proofs.ReferencesCounts.{counted, mapped_length, below_length, in_signature, no_second_dots}
use Rattle.listing_denotes.proofs.ReferencesFields.{both, no_length, node_at, owner_cases, owner_named, owner_has_name, owner_typed, owner_type_held, IsNamed, parts_of, tokens_are, one_token}

-- ---- conventions

module _ (unasked : UnaskedBreakNothing) (s : Source) (x : Around) where
  convention_by : (this explicit vararg : Bool) (g : Shown) (after : Shown) → g ≡ branch p.CALL_CONV
      (optional p.INSTANCE_OPT_SOME p.INSTANCE_OPT_NONE (when this (written.instance explicit)) (optional p.CALL_KIND_OPT_SOME p.CALL_KIND_OPT_NONE (when vararg (branch p.CALL_KIND_VARARG (w word.VARARG none) none)) none)) after →
      IsQuiet s x after → IsQuiet s x g
  convention_by this explicit vararg g after e h = subst (IsQuiet s x) (sym e) (by this explicit vararg)
    where
      by : (this explicit vararg : Bool) → IsQuiet s x (branch p.CALL_CONV
          (optional p.INSTANCE_OPT_SOME p.INSTANCE_OPT_NONE (when this (written.instance explicit)) (optional p.CALL_KIND_OPT_SOME p.CALL_KIND_OPT_NONE (when vararg (branch p.CALL_KIND_VARARG (w word.VARARG none) none)) none)) after)
      by false explicit false at ag = (unasked.node s _ refl, (unasked.node s _ refl, (unasked.node s _ refl, h _ ag.1)))
      by false explicit true at ag = (unasked.node s _ refl, (unasked.node s _ refl, (unasked.node s _ refl, (unasked.node s _ refl, h _ ag.1))))
      by true false false at ag = (unasked.node s _ refl, (unasked.node s _ refl, (unasked.node s _ refl, (unasked.node s _ refl, (unasked.node s _ refl, h _ ag.1)))))
      by true false true at ag = (unasked.node s _ refl, (unasked.node s _ refl, (unasked.node s _ refl, (unasked.node s _ refl, (unasked.node s _ refl, (unasked.node s _ refl, h _ ag.1))))))
      by true true false at ag = (unasked.node s _ refl, (unasked.node s _ refl, (unasked.node s _ refl, (unasked.node s _ refl, (unasked.node s _ refl, h _ ag.1)))))
      by true true true at ag = (unasked.node s _ refl, (unasked.node s _ refl, (unasked.node s _ refl, (unasked.node s _ refl, (unasked.node s _ refl, (unasked.node s _ refl, h _ ag.1))))))

  pub convention_quiet : (m : MethodSig) (after : Shown) → IsQuiet s x after → IsQuiet s x (convention m after)
  convention_quiet m after h = convention_by m.has_this m.explicit_this m.vararg (convention m after) after refl h

-- ---- numbers

unless_none : (test : ℤ → Bool) (s : Source) (k : ℕ) (z : ℤ) → int_at s k ≡ z → test z ≡ true → unless test s k ≡ []
unless_none test s k z e t = ap (λ (c : Bool). if c then [] else k ∷ []) (ap test e ∙ t)

generic_within : (n : ℕ) → is_count n ≡ true → nat_lt 0 n ≡ true → is_within (pos 1) (pos 65535) (pos n) ≡ true
generic_within n h i = grind (arith, h, i)

small_count : (n : ℕ) → is_count n ≡ true → n < 2 ^ 128
small_count n h = let low = leb-true n 65535 h in omega arith

-- ---- arguments

module _ (unasked : UnaskedBreakNothing) (alone : NumbersAlone) (rows : RowsBreakNothing) (segments : SegmentsAreRead) (pieces : PiecesAreRead) (searches : SearchesPass) (laws : NumbersAreRead)
    (stand : TermsStand) (args : ArgumentsAreRead) (readable : FormedAreReadable) (terms : TermsBreakNothing) (s : Source) (a : Assembly) (knows : Knows s a) (listed : IsListingOf s a) (x : Around) where
  argument_quiet : (t : SigType) → is_type a t ≡ true → is_type_held t ≡ true → (at : ℕ) → Agrees s at (argument a.externs t).below → EachBreaksNothing s (nodes_in s x (f.branch p.SIG_ARG_DEF_ARG (numbered at (argument a.externs t).below) f.none))
  argument_quiet t m h at ag =
      let named = numbered (at + 0 + size (type_below a.externs t)) (written.no_name) in
      let typed = f.branch p.TYPE (numbered (at + 0) (type_below a.externs t)) named in
      let flags = f.branch p.PARAM_ATTR_STAR_END f.none typed in
      unasked.branch s x p.SIG_ARG_DEF_ARG (f.branch p.DEF_ARG flags f.none) f.none (unasked.node s _ refl)
      (unasked.branch s x p.DEF_ARG flags f.none (unasked.node s _ refl)
      (unasked.node s _ refl, terms.types s a listed x t m h (at + 0) ag.0.1.0 named (unasked.node s _ refl, tt)) tt) tt

  -- an item of a signature: an argument or `...`
  abbrev ItemQuiet : Item → Type 0
  ItemQuiet i = (at : ℕ) → Agrees s at i.below → EachBreaksNothing s (nodes_in s x (f.branch i.production (numbered at i.below) f.none))

  abbrev AllQuiet : List Item → Type 0
  AllQuiet [] = Unit {0}
  AllQuiet (i ∷ is) = ItemQuiet i × AllQuiet is

  args_quiet : (ts : List SigType) → list_all (is_type a) ts ≡ true → list_all is_type_held ts ≡ true → AllQuiet (map (argument a.externs) ts)
  args_quiet [] m h = tt
  args_quiet (t ∷ ts) m h =
      let ms = and_parts (is_type a t) (list_all (is_type a) ts) m in
      let hs = and_parts (is_type_held t) (list_all is_type_held ts) h in
      (argument_quiet t ms.0 hs.0, args_quiet ts ms.1 hs.1)

  join_quiet : (xs ys : List Item) → AllQuiet xs → AllQuiet ys → AllQuiet (xs ++ ys)
  join_quiet [] ys q r = r
  join_quiet (i ∷ is) ys q r = (q.0, join_quiet is ys q.1 r)

  take_quiet : (k : ℕ) (is : List Item) → AllQuiet is → AllQuiet (take k is)
  take_quiet zero is q = tt
  take_quiet (suc k) [] q = tt
  take_quiet (suc k) (i ∷ is) q = (q.0, take_quiet k is q.1)

  drop_quiet : (k : ℕ) (is : List Item) → AllQuiet is → AllQuiet (drop k is)
  drop_quiet zero is q = q
  drop_quiet (suc k) [] q = tt
  drop_quiet (suc k) (i ∷ is) q = drop_quiet k is q.1

  sentinel_quiet : (k : Option ℕ) (is : List Item) → AllQuiet is → AllQuiet (with_sentinel k is)
  sentinel_quiet None is q = q
  sentinel_quiet (Some k) is q = join_quiet (take k is) (written.ellipsis ∷ drop k is) (take_quiet k is q) ((λ at ag. (unasked.node s _ refl, tt)), drop_quiet k is q)

  behind_quiet : (is : List Item) → AllQuiet is → (at : ℕ) → ItemsAgree s at (map (behind_comma p.COMMA_SIG_ARG) is) → ItemsBreakNothing s x at (map (behind_comma p.COMMA_SIG_ARG) is)
  behind_quiet [] q at ag = tt
  behind_quiet (i ∷ is) q at ag = (
    unasked.branch s x p.COMMA_SIG_ARG (f.leaf at (f.branch i.production (numbered (suc at) i.below) f.none)) f.none (unasked.node s _ refl) (q.0 (suc at) ag.0.1.0) tt,
    behind_quiet is q.1 (at + size (behind_comma p.COMMA_SIG_ARG i).below) ag.1,
  )

  -- what stands behind a production stands apart
  each_join : (xs ys : List Node) → EachBreaksNothing s xs → EachBreaksNothing s ys → EachBreaksNothing s (xs ++ ys)
  each_join [] ys h k = k
  each_join (y ∷ xs) ys h k = (h.0, each_join xs ys h.1 k)

  each_front : (xs ys : List Node) → EachBreaksNothing s (xs ++ ys) → EachBreaksNothing s xs
  each_front [] ys h = tt
  each_front (y ∷ xs) ys h = (h.0, each_front xs ys h.1)

  behind_it : (q : ℕ) (b after : f.Forest) → EachBreaksNothing s (nodes_in s x (f.branch q b f.none)) → EachBreaksNothing s (nodes_in s x after) → EachBreaksNothing s (nodes_in s x (f.branch q b after))
  behind_it q b after h k = let inner = nodes_in s (entered s x q b) b in (h.0, each_join inner (nodes_in s x after) (each_front inner [] h.1) k)

  in_parentheses : (is : List Item) → AllQuiet is → (at : ℕ) → Agrees s at (in_signature is) → EachBreaksNothing s (nodes_in s x (numbered at (in_signature is)))
  in_parentheses [] q at ag = (unasked.node s _ refl, tt)
  in_parentheses (i ∷ is) q at ag =
      let rest = map (behind_comma p.COMMA_SIG_ARG) is in
      let from = suc at + size i.below in
      let row = f.branch (star_production p.COMMA_SIG_ARG_STAR_MORE p.COMMA_SIG_ARG_STAR_END rest) (numbered from (star_below p.COMMA_SIG_ARG_STAR_MORE p.COMMA_SIG_ARG_STAR_END rest)) f.none in
      let behind = rows.row s x p.COMMA_SIG_ARG_STAR_MORE p.COMMA_SIG_ARG_STAR_END refl refl rest from f.none
      (behind_quiet is q.1 from (segments.row s p.COMMA_SIG_ARG_STAR_MORE p.COMMA_SIG_ARG_STAR_END rest from ag.1.0.0.1.0)) tt in
      let own = f.branch i.production (numbered (suc at) i.below) row in
      let last = numbered (suc at + size (opt_below (sig_args (i ∷ is)))) (w word.CLOSE_PAREN none) in
      unasked.branch s x p.SIG_ARGS_OPT_SOME (f.branch p.SIG_ARGS own f.none) last (unasked.node s _ refl)
      (unasked.branch s x p.SIG_ARGS own f.none (unasked.node s _ refl) (behind_it i.production (numbered (suc at) i.below) row (q.0 (suc at) ag.1.0.0.0) behind) tt) tt

  types_stand : (ts : List SigType) → list_all (is_type a) ts ≡ true → list_all is_type_held ts ≡ true → all_stand ts ≡ true
  types_stand [] m h = refl
  types_stand (t ∷ ts) m h =
      let ms = and_parts (is_type a t) (list_all (is_type a) ts) m in
      let hs = and_parts (is_type_held t) (list_all is_type_held ts) h in
      both (can_stand t) (all_stand ts) (readable.types a knows.names t ms.0 hs.0).1 (types_stand ts ms.1 hs.1)

  types_read : (ts : List SigType) → list_all (is_type a) ts ≡ true → list_all is_type_held ts ≡ true → Rattle.listing_references.specs.Laws.are_types_readable a.externs ts ≡ true
  types_read [] m h = refl
  types_read (t ∷ ts) m h =
      let ms = and_parts (is_type a t) (list_all (is_type a) ts) m in
      let hs = and_parts (is_type_held t) (list_all is_type_held ts) h in
      both _ _ (readable.types a knows.names t ms.0 hs.0).0 (types_read ts ms.1 hs.1)

  pub arguments_quiet : (m : MethodSig) → is_signature a m ≡ true → is_signature_held m ≡ true → (after : Shown) → IsQuiet s x after → IsQuiet s x (arguments a.externs m after)
  arguments_quiet m c h after r at ag =
      let g = (signatures_named a m).0 c in
      let hs = and_parts (is_type_held m.ret) (list_all is_type_held m.params) h in
      let items = with_sentinel m.sentinel (map (argument a.externs) m.params) in
      let below = in_signature items in
      let there : Agrees s at (arguments a.externs m none) = (ag.0, tt) in
      let is = args.types s x a.externs knows.keys m (types_read m.params g.params hs.1) at there in
      let found = f.each p.DEF_ARG (numbered at below) in
      let as_many : length found ≡ length m.params = sym (mapped_length _ found) ∙ ap (λ (ts : List SigType). length ts) is in
      let few = counted found (subst (λ (n : ℕ). n ≤ 65535) (sym as_many) (leb-true (length m.params) 65535 g.count)) in
      let dots = no_second_dots searches stand pieces a.externs m (types_stand m.params g.params hs.1) at in
      unasked.branch s x p.SIGNATURE (numbered at below) (numbered (at + size below) after) (alone s _ refl (simp (few, dots)))
      (in_parentheses items (sentinel_quiet m.sentinel (map (argument a.externs) m.params) (args_quiet m.params g.params hs.1)) at ag.0) (r (at + size below) ag.1)

  -- ---- generic arguments

  types_among : (ts : List SigType) → AreAmong (p.TYPE ∷ []) (map (type_of a.externs) ts)
  types_among [] = tt
  types_among (t ∷ ts) = (refl, types_among ts)

  parts_many : (j : ℕ) (is : List Item) → length (Rattle.listing_reading.specs.Rows.parts_behind j is) ≡ length is
  parts_many j [] = refl
  parts_many j (i ∷ is) = ap suc (parts_many (j + size (behind_comma 0 i).below) is)

  comma_many : (j : ℕ) (is : List Item) → length (comma_parts j is) ≡ length is
  comma_many j [] = refl
  comma_many j (i ∷ is) = ap suc (parts_many (j + size i.below) is)

  types_row : (ts : List SigType) → list_all (is_type a) ts ≡ true → list_all is_type_held ts ≡ true → (at : ℕ) → ItemsAgree s at (map (behind_comma p.COMMA_TYPE) (map (type_of a.externs) ts)) →
      ItemsBreakNothing s x at (map (behind_comma p.COMMA_TYPE) (map (type_of a.externs) ts))
  types_row [] m h at ag = tt
  types_row (t ∷ ts) m h at ag =
      let ms = and_parts (is_type a t) (list_all (is_type a) ts) m in
      let hs = and_parts (is_type_held t) (list_all is_type_held ts) h in (
        unasked.branch s x p.COMMA_TYPE (f.leaf at (f.branch p.TYPE (numbered (suc at) (type_below a.externs t)) f.none)) f.none (unasked.node s _ refl)
            (terms.types s a listed x t ms.0 hs.0 (suc at) ag.0.1.0 f.none tt) tt,
        types_row ts ms.1 hs.1 (at + size (behind_comma p.COMMA_TYPE (type_of a.externs t)).below) ag.1,
      )

  types_quiet : (ts : List SigType) → list_all (is_type a) ts ≡ true → list_all is_type_held ts ≡ true → (at : ℕ) → Agrees s at (generic_types a.externs ts).below →
      EachBreaksNothing s (nodes_in s x (numbered at (generic_types a.externs ts).below))
  types_quiet [] m h at ag = tt
  types_quiet (t ∷ ts) m h at ag =
      let ms = and_parts (is_type a t) (list_all (is_type a) ts) m in
      let hs = and_parts (is_type_held t) (list_all is_type_held ts) h in
      let rest = map (behind_comma p.COMMA_TYPE) (map (type_of a.externs) ts) in
      let from = at + size (type_below a.externs t) in
      let row = f.branch (star_production p.COMMA_TYPE_STAR_MORE p.COMMA_TYPE_STAR_END rest) (numbered from (star_below p.COMMA_TYPE_STAR_MORE p.COMMA_TYPE_STAR_END rest)) f.none in
      terms.types s a listed x t ms.0 hs.0 at ag.0 row
      (rows.row s x p.COMMA_TYPE_STAR_MORE p.COMMA_TYPE_STAR_END refl refl rest from f.none
      (types_row ts ms.1 hs.1 from (segments.row s p.COMMA_TYPE_STAR_MORE p.COMMA_TYPE_STAR_END rest from ag.1.0)) tt)

  many_types : (ts : List SigType) → length ts ≤ 65535 → (at : ℕ) → past_count (f.each p.TYPE (numbered at (generic_types a.externs ts).below)) ≡ []
  many_types ts few at =
      let items = map (type_of a.externs) ts in
      let found = f.parts (p.TYPE ∷ []) (numbered at (generic_types a.externs ts).below) in
      let is = segments.commas (p.TYPE ∷ []) p.COMMA_TYPE_STAR_MORE p.COMMA_TYPE_STAR_END p.COMMA_TYPE refl refl refl items (types_among ts) at none (λ k. refl) in
      let one = below_length found in
      let two = ap (λ (ps : List f.Part). length ps) is in
      let three = comma_many at items in
      let four = mapped_length (type_of a.externs) ts in
      counted (f.below_each found) (omega (arith, one, two, three, four, few))

  angles_types : (ts : List SigType) → length ts ≤ 65535 → list_all (is_type a) ts ≡ true → list_all is_type_held ts ≡ true → (at : ℕ) → Agrees s at (in_angles a.externs (generic_types a.externs ts)) →
      EachBreaksNothing s (nodes_in s x (numbered at (in_angles a.externs (generic_types a.externs ts))))
  angles_types ts few m h at ag =
      let e = many_types ts few (suc at) in
      let own = numbered (suc at) (generic_types a.externs ts).below in
      let last = f.leaf (suc at + size (generic_types a.externs ts).below) f.none in
      unasked.branch s x p.METHOD_GENERICS (f.leaf at (f.branch p.GEN_ARGS_TYPE own last)) f.none (unasked.node s _ refl)
      (unasked.branch s x p.GEN_ARGS_TYPE own last (alone s _ refl (simp e)) (types_quiet ts m h (suc at) ag.0.1.0) tt) tt

  angles_count : (m : ℕ) → is_count m ≡ true → nat_lt 0 m ≡ true → (at : ℕ) → Agrees s at (in_angles a.externs (generic_count a.externs m)) → EachBreaksNothing s (nodes_in s x (numbered at (in_angles a.externs (generic_count a.externs m))))
  angles_count m h i at ag =
      let e = unless_none (is_within (pos 1) (pos 65535)) s (suc (suc at)) (pos m) (ap integer ag.0.1.0.1.0.text ∙ laws.natural m (small_count m h)) (generic_within m h i) in
      (unasked.node s _ refl, (alone s _ refl (simp e), tt))

  -- ---- the tail: generic arguments and the signature

  abbrev args_held : Option (List SigType) → Type 0
  args_held args = (option_all (list_all (is_type a)) args ≡ true) × (option_all (list_all is_type_held) args ≡ true)

  count_then : (m : ℕ) (b : Bool) → nat_lt 0 m ≡ b → is_count m ≡ true → (after : Shown) → IsQuiet s x after →
      IsQuiet s x (optional p.METHOD_GENERICS_OPT_SOME p.METHOD_GENERICS_OPT_NONE (when b (in_angles a.externs (generic_count a.externs m))) after)
  count_then m true e h after r at ag =
      let own = numbered at (in_angles a.externs (generic_count a.externs m)) in
      let next = at + size (in_angles a.externs (generic_count a.externs m)) in
      unasked.branch s x p.METHOD_GENERICS_OPT_SOME own (numbered next after) (unasked.node s _ refl) (angles_count m h e at ag.0) (r next ag.1)
  count_then m false e h after r at ag = (unasked.node s _ refl, r (at + 0) ag.1)

  generics_then : (m : ℕ) (args : Option (List SigType)) → is_count m ≡ true → are_arguments m args ≡ true → args_held args → (after : Shown) → IsQuiet s x after →
      IsQuiet s x (optional p.METHOD_GENERICS_OPT_SOME p.METHOD_GENERICS_OPT_NONE (method_generics a.externs m args) after)
  generics_then m None c fit h after r at ag = count_then m (nat_lt 0 m) refl c after r at ag
  generics_then m (Some ts) c fit h after r at ag =
      let own = numbered at (in_angles a.externs (generic_types a.externs ts)) in
      let next = at + size (in_angles a.externs (generic_types a.externs ts)) in
      let many = eqb-true (length ts) m (and_parts (nat_lt 0 (length ts)) (nat_eq (length ts) m) fit).1 in
      let few = leb-true m 65535 c in
      unasked.branch s x p.METHOD_GENERICS_OPT_SOME own (numbered next after) (unasked.node s _ refl) (angles_types ts (subst (λ (k : ℕ). k ≤ 65535) (sym many) few) h.0 h.1 at ag.0) (r next ag.1)

  pub tail_quiet : (r : MethodRef) → is_method_ref a r ≡ true → is_method_ref_held r ≡ true → IsQuiet s x (generics_and_arguments a.externs r none)
  unfolding is_method_ref_held
  tail_quiet r m h =
      let g = (method_refs_named a r).0 m in
      let e = (signatures_named a r.sig).0 g.sig in
      let hs = and_parts _ _ h in
      let ks = and_parts _ _ hs.0 in
      generics_then r.sig.generic r.args e.generic g.arguments (g.args, hs.1) (arguments a.externs r.sig none) (arguments_quiet r.sig g.sig ks.1 none (λ j i. tt))

-- ---- what can't stand in a tail

abbrev tail_symbols : List Symbol
tail_symbols = Nonterminal n.METHOD_GENERICS_OPT ∷ Nonterminal n.SIGNATURE ∷ []

abbrev end_symbols : List Symbol
end_symbols = Terminal (WORDS + word.DOUBLE_COLON) ∷ Nonterminal n.TARGET_END ∷ []

no_slash_in_tail : cant_stand (p.NAME_TAIL_SLASH ∷ []) tail_symbols ≡ true
unfolding ilasm rule_by has_bit below below_masks
no_slash_in_tail = refl

no_colon_in_tail : cant_stand (p.NAME_TAIL_DOUBLE_COLON ∷ []) tail_symbols ≡ true
unfolding ilasm rule_by has_bit below below_masks
no_colon_in_tail = refl

no_slash_in_end : cant_stand (p.NAME_TAIL_SLASH ∷ []) end_symbols ≡ true
unfolding ilasm rule_by has_bit below below_masks
no_slash_in_end = refl

abbrev pub type_arguments : List ℕ
type_arguments = p.GEN_ARGS_TYPE ∷ []

no_arguments_in_signature : cant_stand type_arguments (Nonterminal n.SIGNATURE ∷ []) ≡ true
unfolding ilasm rule_by has_bit below below_masks
no_arguments_in_signature = refl

no_arguments_before : cant_stand type_arguments (Nonterminal n.CALL_CONV ∷ Nonterminal n.TYPE ∷ []) ≡ true
unfolding ilasm rule_by has_bit below below_masks
no_arguments_before = refl

no_arguments_in_types : cant_stand type_arguments (Nonterminal n.TYPE ∷ []) ≡ true
unfolding ilasm rule_by has_bit below below_masks
no_arguments_in_types = refl

no_arguments_in_paths : cant_stand type_arguments (Nonterminal n.PATH ∷ []) ≡ true
unfolding ilasm rule_by has_bit below below_masks
no_arguments_in_paths = refl

-- the name that a target begins with, by what stands behind its first name
abbrev by_tail : f.Forest → List f.Part → List f.Part → Option Written
by_tail g xs ys =
    if f.is_any_part xs then Some (record { scope = None; path = f.leaf_at 0 g ∷ path_tokens (f.child (p.PATH ∷ []) (f.child (p.NAME_TAIL_SLASH ∷ []) g)) })
    else if f.is_any_part ys then Some (record { scope = None; path = f.leaf_at 0 g ∷ [] })
    else None

abbrev slashes : f.Forest → List f.Part
slashes g = f.parts (p.NAME_TAIL_SLASH ∷ []) g

abbrev colons : f.Forest → List f.Part
colons g = f.parts (p.NAME_TAIL_DOUBLE_COLON ∷ []) g

module _ (unasked : UnaskedBreakNothing) (rows : RowsBreakNothing) (names : NamesAreRead) (paths : PathsAreRead) (readable : FormedAreReadable) (searches : SearchesPass)
    (terms : TermsBreakNothing) (s : Source) (a : Assembly) (knows : Knows s a) (listed : IsListingOf s a)
    (declared : (ids : List TypeId) → is_declared a ids ≡ true → is_declared_path s ids ≡ true) (x : Around) (r : MethodRef)
    (tail_ok : IsQuiet s x (generics_and_arguments a.externs r none)) where
  abbrev tail : Shown
  tail = generics_and_arguments a.externs r none

  -- the method's name
  name_then : (after : Shown) → IsQuiet s x after → IsQuiet s x (put (method_name r.name) after)
  name_then after k = by (bytes_eq r.name (codes ".ctor")) (bytes_eq r.name (codes ".cctor"))
    where
      by : (b c : Bool) → IsQuiet s x (put (cond b (item p.METHOD_NAME_CTOR (w word.DOT_CTOR none)) (cond c (item p.METHOD_NAME_CCTOR (w word.DOT_CCTOR none)) (item p.METHOD_NAME_NAME (name r.name none)))) after)
      by true c at ag = (unasked.node s _ refl, k (at + 1) ag.1)
      by false true at ag = (unasked.node s _ refl, k (at + 1) ag.1)
      by false false at ag = (unasked.node s _ refl, k (at + 1) ag.1)

  -- what stands behind `::`
  end_quiet : IsQuiet s x (target_end a.externs r)
  end_quiet at ag =
      unasked.branch s x p.TARGET_END (numbered (suc at) (put (method_name r.name) tail)) f.none (unasked.node s _ refl) (name_then tail tail_ok (suc at) ag.1.0) tt

  -- no generic arguments stand in it where the reference has none
  count_plain : (m : ℕ) (b : Bool) (at : ℕ) (after : f.Forest) → f.parts type_arguments after ≡ [] →
      f.parts type_arguments
      (f.branch (opt_production p.METHOD_GENERICS_OPT_SOME p.METHOD_GENERICS_OPT_NONE (when b (in_angles a.externs (generic_count a.externs m))))
      (numbered at (opt_below (when b (in_angles a.externs (generic_count a.externs m))))) after) ≡ []
  count_plain m true at after e = e
  count_plain m false at after e = e

  tail_plain : r.args ≡ None → Grows tail_symbols tail → (at : ℕ) → f.parts type_arguments (numbered at tail) ≡ []
  tail_plain e g at =
      let next = at + size (opt_below (method_generics a.externs r.sig.generic r.args)) in
      let last = numbered next (arguments a.externs r.sig none) in
      let there = searches.nothing type_arguments (Nonterminal n.SIGNATURE ∷ []) no_arguments_in_signature (arguments a.externs r.sig none) g.2 next in
      ap (λ (o : Option (List SigType)).
      f.parts type_arguments
      (f.branch (opt_production p.METHOD_GENERICS_OPT_SOME p.METHOD_GENERICS_OPT_NONE (method_generics a.externs r.sig.generic o))
      (numbered at (opt_below (method_generics a.externs r.sig.generic o))) last)) e
      ∙ count_plain r.sig.generic (nat_lt 0 r.sig.generic) at last there

  name_plain : (at : ℕ) (after : f.Forest) → f.parts type_arguments (f.branch (method_name r.name).production (numbered at (method_name r.name).below) after) ≡ f.parts type_arguments after
  name_plain at after = by (bytes_eq r.name (codes ".ctor")) (bytes_eq r.name (codes ".cctor"))
    where
      by : (b c : Bool) →
          f.parts type_arguments
          (f.branch (cond b (item p.METHOD_NAME_CTOR (w word.DOT_CTOR none)) (cond c (item p.METHOD_NAME_CCTOR (w word.DOT_CCTOR none)) (item p.METHOD_NAME_NAME (name r.name none)))).production
          (numbered at (cond b (item p.METHOD_NAME_CTOR (w word.DOT_CTOR none)) (cond c (item p.METHOD_NAME_CCTOR (w word.DOT_CCTOR none)) (item p.METHOD_NAME_NAME (name r.name none)))).below) after)
          ≡ f.parts type_arguments after
      by true c = refl
      by false true = refl
      by false false = refl

  end_plain : r.args ≡ None → Grows tail_symbols tail → (at : ℕ) → f.parts type_arguments (numbered at (target_end a.externs r)) ≡ []
  end_plain e g at =
      let next = suc at + size (method_name r.name).below in
      append-nil (f.parts type_arguments (numbered (suc at) (put (method_name r.name) tail)))
      ∙ (name_plain (suc at) (numbered next tail) ∙ tail_plain e g next)

  -- a target breaks none, and has no generic arguments where the reference has none
  record QuietTarget (i : Item) : Type 0 where
    quiet : (at : ℕ) → Agrees s at i.below → EachBreaksNothing s (nodes_in s x (f.branch i.production (numbered at i.below) f.none))
    plain : r.args ≡ None → (at : ℕ) → f.parts type_arguments (f.branch i.production (numbered at i.below) f.none) ≡ []

  abbrev Meant : Item → Type 0
  Meant i = Grows (body_of i.production) i.below → QuietTarget i

  module_target : Meant (item p.TARGET_NAME (name r.name (target_path a.externs [] r)))
  unfolding ilasm rule_by
  module_target g =
      let shown_below = name r.name (target_path a.externs [] r) in
      record {
        quiet = λ at ag.
            let here = numbered at shown_below in
            let slash_none : slashes here ≡ [] = ap (λ (ps : List f.Part). ps ++ []) (searches.nothing (p.NAME_TAIL_SLASH ∷ []) tail_symbols no_slash_in_tail tail g.1.1 (suc at)) in
            let colon_none : colons here ≡ [] = ap (λ (ps : List f.Part). ps ++ []) (searches.nothing (p.NAME_TAIL_DOUBLE_COLON ∷ []) tail_symbols no_colon_in_tail tail g.1.1 (suc at)) in
            let none_is : written_name p.TARGET_NAME here ≡ None = ap (λ (ps : List f.Part). by_tail here ps (colons here)) slash_none ∙ ap (λ (ps : List f.Part). by_tail here [] ps) colon_none in
            let own : BreaksNothing s (node_at x p.TARGET_NAME here) =
            record {
              types = ap (type_undeclared_in s) none_is;
              scopes = ap (scope_undeclared_in s) none_is;
              typars = refl;
              param_types = refl;
              numbers = refl;
              depth = refl;
              nesting = refl;
              paths = ap path_too_long_in none_is;
              class = λ i. absurd (false≢true i);
              field = λ i. absurd (false≢true i);
              label = λ i. absurd (false≢true i);
              accessors = λ i. absurd (false≢true i);
              method = λ i. absurd (false≢true i);
            } in
            unasked.branch s x p.TARGET_NAME here f.none own
            (unasked.branch s x p.NAME_TAIL_METHOD_GENERICS_OPT (numbered (suc at) tail) f.none (unasked.node s _ refl) (tail_ok (suc at) ag.1.0) tt) tt;
        plain = λ e at. ap (λ (ps : List f.Part). (ps ++ []) ++ []) (tail_plain e g.1.1 (suc at));
      }

  one_target : (id : TypeId) → IsNamed a scope.TheVariants.Here (id ∷ []) → Meant (item p.TARGET_NAME (shown.type_id id (target_path a.externs (id ∷ []) r)))
  unfolding ilasm rule_by
  one_target id d g =
      let shown_below = shown.type_id id (target_path a.externs (id ∷ []) r) in
      record {
        quiet = λ at ag.
            let here = numbered at shown_below in
            let slash_none : slashes here ≡ [] = ap (λ (ps : List f.Part). ps ++ []) (searches.nothing (p.NAME_TAIL_SLASH ∷ []) end_symbols no_slash_in_end (target_end a.externs r) g.1.1 (suc at)) in
            let is : written_name p.TARGET_NAME here ≡ Some (record { scope = None; path = at ∷ [] }) = ap (λ (ps : List f.Part). by_tail here ps (colons here)) slash_none in
            let own : BreaksNothing s (node_at x p.TARGET_NAME here) =
            record {
              types = ap (type_undeclared_in s) is ∙ known_path s (at ∷ []) (id ∷ []) (one_token unasked rows names paths readable s a knows declared x id d.named at (ag.0, tt)) (declared (id ∷ []) d.known);
              scopes = ap (scope_undeclared_in s) is;
              typars = refl;
              param_types = refl;
              numbers = refl;
              depth = refl;
              nesting = refl;
              paths = ap path_too_long_in is;
              class = λ i. absurd (false≢true i);
              field = λ i. absurd (false≢true i);
              label = λ i. absurd (false≢true i);
              accessors = λ i. absurd (false≢true i);
              method = λ i. absurd (false≢true i);
            } in
            unasked.branch s x p.TARGET_NAME here f.none own
            (unasked.branch s x p.NAME_TAIL_DOUBLE_COLON (numbered (suc at) (target_end a.externs r)) f.none (unasked.node s _ refl) (end_quiet (suc at) ag.1.0) tt) tt;
        plain = λ e at. ap (λ (ps : List f.Part). (ps ++ []) ++ []) (end_plain e g.1.1.1.1.2 (suc at));
      }

  inner_target : (id next : TypeId) (more : List TypeId) → IsNamed a scope.TheVariants.Here (id ∷ next ∷ more) → Meant (item p.TARGET_NAME (shown.type_id id (target_path a.externs (id ∷ next ∷ more) r)))
  unfolding ilasm rule_by
  inner_target id next more d g =
      let shown_below = shown.type_id id (target_path a.externs (id ∷ next ∷ more) r) in
      record {
        quiet = λ at ag.
            let here = numbered at shown_below in
            let tokens = at ∷ path_tokens (numbered (suc (suc at)) (path_below (next ∷ more))) in
            let is = tokens_are unasked rows names paths readable s a knows declared x id next more d.named at (ag.0, tt) (suc (suc at)) ag.1.0.1.0 in
            let last = suc (suc at) + size (path_below (next ∷ more)) in
            let ending = numbered last (target_end a.externs r) in
            let slash = f.leaf (suc at) (f.branch p.PATH (numbered (suc (suc at)) (path_below (next ∷ more))) ending) in
            let own : BreaksNothing s (node_at x p.TARGET_NAME here) =
            record {
              types = known_path s tokens (id ∷ next ∷ more) is (declared (id ∷ next ∷ more) d.known);
              scopes = refl;
              typars = refl;
              param_types = refl;
              numbers = refl;
              depth = refl;
              nesting = refl;
              paths = short (type_id s) tokens (id ∷ next ∷ more) is d.short;
              class = λ i. absurd (false≢true i);
              field = λ i. absurd (false≢true i);
              label = λ i. absurd (false≢true i);
              accessors = λ i. absurd (false≢true i);
              method = λ i. absurd (false≢true i);
            } in
            unasked.branch s x p.TARGET_NAME here f.none own
            (unasked.branch s x p.NAME_TAIL_SLASH slash f.none (unasked.node s _ refl)
            (path_quiet unasked rows s x (next ∷ more) (suc (suc at)) ending (end_quiet last ag.1.0.1.1)) tt) tt;
        plain = λ e at.
            let last = suc (suc at) + size (path_below (next ∷ more)) in
            let path_none : f.parts type_arguments (f.branch p.PATH (numbered (suc (suc at)) (path_below (next ∷ more))) f.none) ≡ [] =
            searches.nothing type_arguments (Nonterminal n.PATH ∷ []) no_arguments_in_paths (path (next ∷ more) none) (g.1.1.1.0, g.1.1.1.1, tt) (suc (suc at)) in
            let inner = f.parts type_arguments (numbered (suc (suc at)) (path_below (next ∷ more))) in
            let inner_none : inner ≡ [] = sym (append-nil inner) ∙ path_none in
            ap (λ (ps : List f.Part). (((ps ++ f.parts type_arguments (numbered last (target_end a.externs r))) ++ []) ++ [])) inner_none
            ∙ ap (λ (ps : List f.Part). (ps ++ []) ++ []) (end_plain e g.1.1.1.2.1.1.2 last);
      }

  scoped_target : (k : ℕ) (ids : List TypeId) → IsNamed a (scope.TheVariants.Extern k) ids → Meant (item p.TARGET_SCOPE (extern_scope a.externs k (path ids (target_end a.externs r))))
  unfolding ilasm rule_by
  scoped_target k ids d g =
      record {
        quiet = λ at ag.
            let tokens = path_tokens (numbered (suc at) (path_below ids)) in
            let is = paths s ids d.named (suc at) ag.1.0 in
            let known = scope_is unasked rows names paths s a knows declared readable x k d.scoped _ ag.0.text in
            let last = suc at + size (path_below ids) in
            let ending = numbered last (target_end a.externs r) in
            let below = f.leaf at (f.branch p.PATH (numbered (suc at) (path_below ids)) ending) in
            let own : BreaksNothing s (node_at x p.TARGET_SCOPE below) =
            record {
              types = ap (path_undeclared s tokens) known ∙ other_path s tokens k;
              scopes = ap (λ (y : Option scope.Scope). scope_token_unless (is_some y) (Some at)) known;
              typars = refl;
              param_types = refl;
              numbers = refl;
              depth = refl;
              nesting = refl;
              paths = short (type_id s) tokens ids is d.short;
              class = λ i. absurd (false≢true i);
              field = λ i. absurd (false≢true i);
              label = λ i. absurd (false≢true i);
              accessors = λ i. absurd (false≢true i);
              method = λ i. absurd (false≢true i);
            } in
            unasked.branch s x p.TARGET_SCOPE below f.none own (path_quiet unasked rows s x ids (suc at) ending (end_quiet last ag.1.1)) tt;
        plain = λ e at.
            let last = suc at + size (path_below ids) in
            let path_none : f.parts type_arguments (f.branch p.PATH (numbered (suc at) (path_below ids)) f.none) ≡ [] =
            searches.nothing type_arguments (Nonterminal n.PATH ∷ []) no_arguments_in_paths (path ids none) (g.1.0, g.1.1, tt) (suc at) in
            let inner = f.parts type_arguments (numbered (suc at) (path_below ids)) in
            let inner_none : inner ≡ [] = sym (append-nil inner) ∙ path_none in
            ap (λ (ps : List f.Part). (ps ++ f.parts type_arguments (numbered last (target_end a.externs r))) ++ []) inner_none
            ∙ ap (λ (ps : List f.Part). ps ++ []) (end_plain e g.1.2.1.1.2 last);
      }

  typed_target : (u : SigType) → is_type a u ≡ true → is_type_held u ≡ true → Meant (item p.TARGET_TYPE (put (type_of a.externs u) (target_end a.externs r)))
  unfolding ilasm rule_by
  typed_target u m h g =
      record {
        quiet = λ at ag.
            let last = at + size (type_below a.externs u) in
            let ending = numbered last (target_end a.externs r) in
            unasked.branch s x p.TARGET_TYPE (f.branch p.TYPE (numbered at (type_below a.externs u)) ending) f.none (unasked.node s _ refl)
            (terms.types s a listed x u m h at ag.0 ending (end_quiet last ag.1)) tt;
        plain = λ e at.
            let last = at + size (type_below a.externs u) in
            let type_none : f.parts type_arguments (f.branch p.TYPE (numbered at (type_below a.externs u)) f.none) ≡ [] =
            searches.nothing type_arguments (Nonterminal n.TYPE ∷ []) no_arguments_in_types (put (type_of a.externs u) none) (g.0, g.1, tt) at in
            let inner = f.parts type_arguments (numbered at (type_below a.externs u)) in
            let inner_none : inner ≡ [] = sym (append-nil inner) ∙ type_none in
            ap (λ (ps : List f.Part). (ps ++ f.parts type_arguments (numbered last (target_end a.externs r))) ++ []) inner_none
            ∙ ap (λ (ps : List f.Part). ps ++ []) (end_plain e g.2.1.1.2 last);
      }

  single_target : (id : TypeId) (b : Bool) → IsNamed a scope.TheVariants.Here (id ∷ []) →
      Meant (cond b (item p.TARGET_NAME (name r.name (target_path a.externs [] r))) (item p.TARGET_NAME (shown.type_id id (target_path a.externs (id ∷ []) r))))
  single_target id true d = module_target
  single_target id false d = one_target id d

  here_target : (ids : List TypeId) → IsNamed a scope.TheVariants.Here ids → Meant (target_here a.externs ids r)
  here_target [] d g = absurd (no_length (and_parts (nat_lt 0 0) true d.named).0)
  here_target (id ∷ []) d g = single_target id (is_module id) d g
  here_target (id ∷ next ∷ more) d g = inner_target id next more d g

  in_target : (sc : scope.Scope) (ids : List TypeId) → IsNamed a sc ids → Meant (target_in a.externs sc ids r)
  in_target scope.TheVariants.Here ids d g = here_target ids d g
  in_target (scope.TheVariants.Extern k) ids d g = scoped_target k ids d g

  any_target : (u : Owner) → is_owner a u ≡ true → is_owner_held u ≡ true → Meant (target_of a.externs (out-Owner u) r)
  any_target = owner_cases (λ u. is_owner a u ≡ true → is_owner_held u ≡ true → Meant (target_of a.externs (out-Owner u) r))
      (λ t m h. subst (λ l. Meant (target_of a.externs l r)) (sym (o.outs-Name t))
      (in_target t.scope t.path (parts_of unasked rows names paths readable s a knows declared x t (owner_named a t m) (owner_has_name t h))))
      (λ u m h. subst (λ l. Meant (target_of a.externs l r)) (sym (o.outs-Spec u)) (typed_target u (owner_typed a u m) (owner_type_held u h)))

  -- ---- the whole reference

  target_meant : ReferencesStand → is_method_ref a r ≡ true → is_method_ref_held r ≡ true → QuietTarget (target_of a.externs (out-Owner r.owner) r)
  unfolding ilasm rule_by method_ref is_method_ref_held
  target_meant stand m h =
      let good = (method_refs_named a r).0 m in
      let hs = and_parts _ _ h in
      let ks = and_parts _ _ hs.0 in
      let grown = stand.methods a.externs r (readable.methods a knows.names r m h).1 in
      any_target r.owner good.owner ks.0 grown.1.2.2.1

  pub method_quiet : ReferencesStand → is_method_ref a r ≡ true → is_method_ref_held r ≡ true → (at : ℕ) → Agrees s at (method_ref a.externs r).below → (after : f.Forest) → EachBreaksNothing s (nodes_in s x after) →
      EachBreaksNothing s (nodes_in s x (f.branch (method_ref a.externs r).production (numbered at (method_ref a.externs r).below) after))
  unfolding method_ref is_method_ref_held
  method_quiet stand m h at ag after k =
      let good = (method_refs_named a r).0 m in
      let sig = (signatures_named a r.sig).0 good.sig in
      let hs = and_parts _ _ h in
      let ks = and_parts _ _ hs.0 in
      let js = and_parts (is_type_held r.sig.ret) (list_all is_type_held r.sig.params) ks.1 in
      let target = target_of a.externs (out-Owner r.owner) r in
      let meant = target_meant stand m h in
      let typed : IsQuiet s x (put (type_of a.externs r.sig.ret) (put target none)) =
      λ j i. terms.types s a listed x r.sig.ret sig.ret js.0 j i.0 (numbered (j + size (type_below a.externs r.sig.ret)) (put target none))
      (meant.quiet (j + size (type_below a.externs r.sig.ret)) i.1.0) in
      unasked.branch s x p.METHOD_REF (numbered at (method_ref a.externs r).below) after (unasked.node s _ refl)
      (convention_quiet unasked s x r.sig (put (type_of a.externs r.sig.ret) (put target none)) typed at ag) k

  -- one without arguments has no generic arguments
  pub method_plain : ReferencesStand → is_method_ref a r ≡ true → is_method_ref_held r ≡ true → r.args ≡ None → (at : ℕ) → f.parts type_arguments (numbered at (method_ref a.externs r).below) ≡ []
  unfolding ilasm rule_by method_ref is_method_ref_held
  method_plain stand m h e at =
      let grown = stand.methods a.externs r (readable.methods a knows.names r m h).1 in
      let meant = target_meant stand m h in
      searches.parts type_arguments 2 (body_of p.METHOD_REF) no_arguments_before (method_ref a.externs r).below grown.1 at
      ∙ meant.plain e (place 2 at (method_ref a.externs r).below)
