-- The labels that the clauses of a body name are there.
use Rattle.std.proofs.Common.{◌≡◌, inl, inr, ℕ, suc, ◌+◌, ◌<◌, ◌≤◌, ◌&&◌, ◌||◌, nat_eq, nat_lt, nat_le, Bool, true, false, if◌then◌else◌, List, [], ◌∷◌, ◌++◌, map, length, refl, ap, sym, subst, arith}
use Rattle.std.proofs.lemmas.Bool.{and_parts, eqb-true, leb-true, ltb-true}
use Rattle.std.specs.List.{list_all, list_any}
use Rattle.ilasm_grammar.specs.Ilasm.{ilasm, rule_by, has_bit}
use Rattle.ilasm_grammar.specs.declared.nonterminals.TheConstants as n
use Rattle.ilasm_grammar.specs.declared.productions.TheConstants as p
use Rattle.ilasm_grammar.specs.declared.symbol.Symbol.TheVariants.{Nonterminal}
use Rattle.assembly_tree.specs.WellFormedBodies.{is_forward, is_inside, is_clause, filter_before}
use Rattle.assembly_tree.specs.declared.assembly.Assembly.{Assembly}
use Rattle.assembly_tree.specs.declared.body.Clause.{Clause}
use Rattle.assembly_tree.specs.declared.body.ClauseKind as handles
use Rattle.assembly_tree.specs.declared.body.Ins.{Ins}
use Rattle.source_model.specs.Forest as f
use Rattle.source_model.specs.Instructions.{is_label}
use Rattle.source_model.specs.Source.{Source, spelling}
use Rattle.listing_model.specs.Bodies as written
use Rattle.listing_model.specs.Grown.{body_of, Grows}
use Rattle.listing_model.specs.Shown.{none, put, size}
use Rattle.listing_model.specs.Types.{owner}
use Rattle.listing_reading.specs.Below.{below, cant_stand}
use Rattle.listing_reading.specs.BelowMasks.{below_masks}
use Rattle.listing_reading.specs.Laws.{SearchesPass}
use Rattle.listing_reading.specs.Numbered.{numbered, Agrees}
use Rattle.listing_rows.specs.Segments.{ItemsAgree, pieces_at, EachGrown}
use Rattle.listing_denotes.proofs.BodiesForms.{name_parts, NamesKnown}
use Rattle.listing_denotes.proofs.BodiesLabels.{HasLabel}

no_names_in_spec : cant_stand name_parts (Nonterminal n.SPEC ∷ []) ≡ true
unfolding ilasm rule_by has_bit below below_masks
no_names_in_spec = refl

both : (x y : Bool) → x ≡ true → y ≡ true → (x && y) ≡ true
both true y h k = k
both false y h k = h

own_none : (xs : List f.Part) → (xs ++ []) ≡ [] → xs ≡ []
own_none [] h = refl
own_none (x ∷ xs) h = absurd cc

-- what holds nothing alone holds nothing with anything behind it
alone_behind : (sought : List ℕ) (q : ℕ) (b after : f.Forest) → f.parts sought (f.branch q b f.none) ≡ [] → f.parts sought (f.branch q b after) ≡ f.parts sought after
alone_behind sought q b after h =
    ap (λ (ps : List f.Part). ps ++ f.parts sought after) (own_none (if f.is_among sought q then f.part q b ∷ [] else f.parts sought b) h)

-- ---- numbers that have labels

low_there : (c : Bool) (j m count : ℕ) → nat_lt j m ≡ true → nat_le m count ≡ true → HasLabel c j count
low_there c j m count h k = let low = ltb-true j m h in let high = leb-true m count k in inl (omega arith)

differ : (j count : ℕ) → nat_eq j count ≡ false → j ≤ count → j < count
differ j count e h = grind (arith, e, h)

end_by : (c b : Bool) (j count : ℕ) → nat_eq j count ≡ b → j ≤ count → (nat_eq j count ≡ true → c ≡ true) → HasLabel c j count
end_by c true j count e h k = inr (eqb-true j count e, k e)
end_by c false j count e h k = inl (differ j count e h)

end_there : (c : Bool) (j count : ℕ) → nat_le j count ≡ true → (nat_eq j count ≡ true → c ≡ true) → HasLabel c j count
end_there c j count h k = end_by c (nat_eq j count) j count refl (leb-true j count h) k

left_true : (x y : Bool) → x ≡ true → (x || y) ≡ true
left_true x y e = ap (λ (b : Bool). b || y) e

right_true : (x y : Bool) → y ≡ true → (x || y) ≡ true
right_true true y e = refl
right_true false y e = e

module _ (searches : SearchesPass) (s : Source) (a : Assembly) (method : f.Forest) (code : List Ins) (c : Bool)
    (known : (j : ℕ) → HasLabel c j (length code) → (k : ℕ) → spelling s k ≡ written.label_at code j → is_label s method k ≡ true) where
  -- all four numbers of a clause have labels, and that at which its filter starts
  abbrev Facts : Clause → Type 0
  Facts x = HasLabel c x.try_start (length code) × HasLabel c x.try_end (length code) × HasLabel c x.handler_start (length code) × HasLabel c x.handler_end (length code)

  abbrev FilterThere : handles.ClauseKind → Type 0
  FilterThere (handles.TheVariants.Filter k) = HasLabel c k (length code)
  FilterThere (handles.TheVariants.Catch o) = Unit {0}
  FilterThere handles.TheVariants.Finally = Unit {0}
  FilterThere handles.TheVariants.Fault = Unit {0}

  filter_there : (start : ℕ) (k : handles.ClauseKind) → filter_before start k ≡ true → nat_le start (length code) ≡ true → FilterThere k
  filter_there start (handles.TheVariants.Catch o) b w = tt
  filter_there start (handles.TheVariants.Filter k) b w = low_there c k start (length code) b w
  filter_there start handles.TheVariants.Finally b w = tt
  filter_there start handles.TheVariants.Fault b w = tt

  facts : (x : Clause) → is_clause (length code) x ≡ true → (written.ends_last code x ≡ true → c ≡ true) → Facts x × FilterThere x.kind
  unfolding is_clause
  facts x h last =
      let hs = and_parts (is_forward x) (is_inside (length code) x) h in
      let f1 = and_parts _ _ hs.0 in
      let f2 = and_parts _ _ f1.0 in
      let i1 = and_parts _ _ hs.1 in
      let i2 = and_parts _ _ i1.0 in
      let i3 = and_parts _ _ i2.0 in
      let i4 = and_parts _ _ i3.0 in (
        (
          low_there c x.try_start x.try_end (length code) f2.0 i4.1,
          end_there c x.try_end (length code) i4.1 (λ e. last (left_true (nat_eq x.try_end (length code)) (nat_eq x.handler_end (length code)) e)),
          low_there c x.handler_start x.handler_end (length code) f2.1 i2.1,
          end_there c x.handler_end (length code) i2.1 (λ e. last (right_true (nat_eq x.try_end (length code)) (nat_eq x.handler_end (length code)) e)),
        ),
        filter_there x.handler_start x.kind f1.1 i3.1,
      )

  -- ---- the names in a clause

  handler_known : (x : Clause) → Facts x → (at : ℕ) → Agrees s at (written.handler a.externs code x) → NamesKnown s method (f.parts name_parts (numbered at (written.handler a.externs code x)))
  handler_known x h at ag =
      let from = known x.handler_start h.2 (suc at) ag.0.1.0.text in
      let to = known x.handler_end h.3 (suc (suc (suc at))) ag.0.1.1.1.0.text in
      (both (is_label s method (suc at)) (is_label s method (suc (suc (suc at))) && true) from (both (is_label s method (suc (suc (suc at)))) true to refl), tt)

  handled_known : (x : Clause) (k : handles.ClauseKind) → Facts x → FilterThere k → Grows (body_of (written.handled a.externs code x k).production) (written.handled a.externs code x k).below → (at : ℕ) →
      Agrees s at (written.handled a.externs code x k).below → NamesKnown s method (f.parts name_parts (numbered at (written.handled a.externs code x k).below))
  unfolding ilasm rule_by
  handled_known x (handles.TheVariants.Catch o) h l g at ag =
      let own = owner a.externs o in
      let from = suc at + size own.below in
      let alone = searches.nothing name_parts (Nonterminal n.SPEC ∷ []) no_names_in_spec (put own none) (g.1.0, g.1.1, tt) (suc at) in
      subst (NamesKnown s method) (sym (alone_behind name_parts own.production (numbered (suc at) own.below) (numbered from (written.handler a.externs code x)) alone)) (handler_known x h from ag.1.1)
  handled_known x (handles.TheVariants.Filter k) h l g at ag =
      (both (is_label s method (suc at)) true (known k l (suc at) ag.1.0.0.text) refl, handler_known x h (suc at + 1) ag.1.1)
  handled_known x handles.TheVariants.Finally h l g at ag = handler_known x h (suc at) ag.1
  handled_known x handles.TheVariants.Fault h l g at ag = handler_known x h (suc at) ag.1

  known_behind : (ps qs : List f.Part) → NamesKnown s method ps → NamesKnown s method qs → NamesKnown s method (ps ++ qs)
  known_behind [] qs h k = k
  known_behind (q ∷ ps) qs h k = (h.0, known_behind ps qs h.1 k)

  -- the production of what is handled holds no name itself
  apart : (x : Clause) (k : handles.ClauseKind) → f.is_among name_parts (written.handled a.externs code x k).production ≡ false
  apart x (handles.TheVariants.Catch o) = refl
  apart x (handles.TheVariants.Filter k) = refl
  apart x handles.TheVariants.Finally = refl
  apart x handles.TheVariants.Fault = refl

  clause_known : (x : Clause) → is_clause (length code) x ≡ true → (written.ends_last code x ≡ true → c ≡ true) → Grows (body_of p.ITEM_TRY) (written.clause a.externs code x).below → (at : ℕ) →
      Agrees s at (written.clause a.externs code x).below → NamesKnown s method (f.parts name_parts (numbered at (written.clause a.externs code x).below))
  unfolding ilasm rule_by
  clause_known x h last g at ag =
      let fs = facts x h last in
      let own = written.handled a.externs code x x.kind in
      let from = suc at + 3 in
      let b = numbered from own.below in
      let inside = handled_known x x.kind fs.0 fs.1 g.1.2.1 from ag.1.1.0 in
      let start = known x.try_start fs.0.0 (suc at) ag.1.0.0.text in
      let end = known x.try_end fs.0.1 (suc (suc (suc at))) ag.1.0.1.1.0.text in (
        both (is_label s method (suc at)) (is_label s method (suc (suc (suc at))) && true) start (both (is_label s method (suc (suc (suc at)))) true end refl),
        subst (λ (d : Bool). NamesKnown s method ((if d then f.part own.production b ∷ [] else f.parts name_parts b) ++ [])) (sym (apart x x.kind)) (known_behind (f.parts name_parts b) [] inside tt),
      )

  pub clauses_known : (xs : List Clause) → list_all (is_clause (length code)) xs ≡ true → (list_any (written.ends_last code) xs ≡ true → c ≡ true) → (at : ℕ) →
      EachGrown n.ITEM (map (written.clause a.externs code) xs) → ItemsAgree s at (map (written.clause a.externs code) xs) →
      NamesKnown s method (pieces_at name_parts at (map (written.clause a.externs code) xs))
  clauses_known [] h last at g ag = tt
  clauses_known (x ∷ xs) h last at g ag =
      let hs = and_parts (is_clause (length code) x) (list_all (is_clause (length code)) xs) h in
      let next = at + size (written.clause a.externs code x).below in
      known_behind (f.parts name_parts (numbered at (written.clause a.externs code x).below)) (pieces_at name_parts next (map (written.clause a.externs code) xs))
      (clause_known x hs.0 (λ e. last (left_true (written.ends_last code x) (list_any (written.ends_last code) xs) e)) g.1 at ag.0)
      (clauses_known xs hs.1 (λ e. last (right_true (written.ends_last code x) (list_any (written.ends_last code) xs) e)) next g.2 ag.1)
