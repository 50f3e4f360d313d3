-- Exception clauses are read back.
use Rattle.std.proofs.Common.{◌≡◌, inl, inr, ℕ, suc, ◌+◌, ◌<◌, ◌≤◌, ◌||◌, nat_eq, nat_lt, nat_le, Bool, true, false, cond, if◌then◌else◌, List, [], ◌∷◌, ◌++◌, map, length, take, Some, refl, ap, ◌∙◌, arith}
use Rattle.std.proofs.lemmas.Bool.{and_parts, eqb-true, ltb-true, leb-true, false≢true}
use Rattle.std.specs.List.{list_all, list_any}
use Rattle.std.specs.Prelude.{is_some}
use Rattle.ilasm_grammar.specs.Ilasm.{ilasm, rule_by, has_bit}
use Rattle.ilasm_grammar.specs.declared.nonterminals.TheConstants as n
use Rattle.ilasm_grammar.specs.declared.productions.TheConstants as p
use Rattle.ilasm_grammar.specs.declared.symbol.Symbol.TheVariants.{Nonterminal}
use Rattle.il_lexer.specs.declared.word.TheConstants as word
use Rattle.assembly_tree.specs.WellFormedBodies.{is_forward, is_inside, is_clause, is_handled, filter_before}
use Rattle.assembly_tree.specs.declared.assembly.Assembly.{Assembly}
use Rattle.assembly_tree.specs.declared.body.Clause.{Clause}
use Rattle.assembly_tree.specs.declared.body.ClauseKind as handles
use Rattle.assembly_tree.specs.declared.body.Ins.{Ins}
use Rattle.source_model.specs.Clauses as read
use Rattle.source_model.specs.Clauses.{Guarded, clause_forms, guarded_in}
use Rattle.source_model.specs.Forest as f
use Rattle.source_model.specs.Instructions.{label_number}
use Rattle.source_model.specs.Nodes.{Around}
use Rattle.source_model.specs.Source.{Source, spelling}
use Rattle.source_model.specs.Types.{first_owner}
use Rattle.listing_formed.specs.Laws.{Knows, FormedAreRead}
use Rattle.listing_growth.specs.Held.{is_handled_held, is_clause_held}
use Rattle.listing_model.specs.Bodies as written
use Rattle.listing_model.specs.Grown.{body_of, Grows}
use Rattle.listing_model.specs.Shown.{Shown, none, branch, put, w, line, size, star}
use Rattle.listing_model.specs.Types.{owner}
use Rattle.listing_reading.specs.Below.{below, cant_stand, cant_lead}
use Rattle.listing_reading.specs.BelowMasks.{below_masks}
use Rattle.listing_reading.specs.Laws.{SearchesPass}
use Rattle.listing_reading.specs.Numbered.{numbered, Agrees}
use Rattle.listing_rows.specs.Laws.{WalksPass, owner_parts}
use Rattle.listing_rows.specs.Segments.{ItemsAgree, EachGrown}
use Rattle.listing_bodies.specs.Laws.{guarded_at}
use Rattle.listing_bodies.proofs.Labels.{IsFound}

-- ---- where what is sought stands

no_clause_before : cant_stand clause_forms (take 2 (body_of p.CLAUSE_CATCH)) ≡ true
unfolding ilasm rule_by has_bit below below_masks
no_clause_before = refl

handler_leads : cant_lead (p.HANDLER_HANDLER ∷ []) (take 2 (body_of p.CLAUSE_CATCH)) ≡ true
unfolding ilasm rule_by
handler_leads = refl

no_handler_in_spec : cant_stand (p.HANDLER_HANDLER ∷ []) (Nonterminal n.SPEC ∷ []) ≡ true
unfolding ilasm rule_by has_bit below below_masks
no_handler_in_spec = refl

owner_second : cant_stand owner_parts (take 1 (body_of p.CLAUSE_CATCH)) ≡ true
unfolding ilasm rule_by has_bit below below_masks
owner_second = refl

pub not_among : (sought : List ℕ) (q : ℕ) (b : f.Forest) → f.parts sought (f.branch q b f.none) ≡ [] → f.is_among sought q ≡ false
not_among sought q b h = by (f.is_among sought q) h
  where
    by : (c : Bool) → (cond c (f.part q b ∷ []) (f.parts sought b) ++ []) ≡ [] → c ≡ false
    by true e = absurd cc
    by false e = refl

if_true : {X : Type 0} (c : Bool) (x y : X) → c ≡ true → (if c then x else y) ≡ x
if_true true x y h = refl
if_true false x y h = absurd (false≢true h)

-- ---- labels that are found

low_found : (j m count : ℕ) (tail : List ℕ) (end : ℕ) → nat_lt j m ≡ true → nat_le m count ≡ true → IsFound j count tail end
low_found j m count tail end h k = let low = ltb-true j m h in let high = leb-true m count k in inl (omega arith)

end_by : (b : Bool) (j count : ℕ) (tail : List ℕ) (end : ℕ) → nat_eq j count ≡ b → j ≤ count → (nat_eq j count ≡ true → tail ≡ end ∷ []) → IsFound j count tail end
end_by true j count tail end e h k = inr (eqb-true j count e, k e)
end_by false j count tail end e h k = inl (differ j count e h)
  where
    differ : (j count : ℕ) → nat_eq j count ≡ false → j ≤ count → j < count
    differ j count e h = grind (arith, e, h)

end_found : (j count : ℕ) (tail : List ℕ) (end : ℕ) → nat_le j count ≡ true → (nat_eq j count ≡ true → tail ≡ end ∷ []) → IsFound j count tail end
end_found j count tail end h k = end_by (nat_eq j count) j count tail end refl (leb-true j count h) k

-- what stands below the production of `.try`
abbrev try_shown : Assembly → List Ins → Clause → handles.ClauseKind → Shown
try_shown a code c k =
    line word.DOT_TRY
    (branch p.TRY_RANGE_NAME (written.to_label code c.try_start (w word.TO (written.to_label code c.try_end none)))
    (put (written.handled a.externs code c k) (star p.CLAUSE_STAR_MORE p.CLAUSE_STAR_END [] none)))

module _ (formed : FormedAreRead) (searches : SearchesPass) (walks : WalksPass) (s : Source) (around : Around) (a : Assembly) (knows : Knows s a) (method : f.Forest) (code : List Ins) (tail : List ℕ) (end : ℕ) (number_of : (j : ℕ) → IsFound j (length code) tail end → (k : ℕ) → spelling s k ≡ written.label_at code j → label_number s method k ≡ j) where
  abbrev handled_at : ℕ → ℕ
  handled_at at = suc at + 3

  abbrev guarded_of : ℕ → Clause → handles.ClauseKind → Guarded
  guarded_of at c k = record {
    tried = numbered at (try_shown a code c k);
    clause = f.part (written.handled a.externs code c k).production (numbered (handled_at at) (written.handled a.externs code c k).below);
  }

  -- it is one clause, and no other stands in it
  guarded_is : (c : Clause) (k : handles.ClauseKind) → Grows (body_of (written.handled a.externs code c k).production) (written.handled a.externs code c k).below → (at : ℕ) →
      guarded_in f.none (f.branch p.ITEM_TRY (numbered at (try_shown a code c k)) f.none) ≡ guarded_of at c k ∷ []
  unfolding ilasm rule_by
  guarded_is c (handles.TheVariants.Catch o) g at =
      let shown = (written.handled a.externs code c (handles.TheVariants.Catch o)).below in
      ap (λ gs. ((((gs ++ guarded_of at c (handles.TheVariants.Catch o) ∷ []) ++ []) ++ []) ++ []))
      (walks.clauses (numbered at (try_shown a code c (handles.TheVariants.Catch o))) 2 (body_of p.CLAUSE_CATCH) no_clause_before shown g (handled_at at))
  guarded_is c (handles.TheVariants.Filter k) g at = refl
  guarded_is c handles.TheVariants.Finally g at = refl
  guarded_is c handles.TheVariants.Fault g at = refl

  abbrev Facts : Clause → Type 0
  Facts c =
      IsFound c.try_start (length code) tail end × IsFound c.try_end (length code) tail end × IsFound c.handler_start (length code) tail end
      × IsFound c.handler_end (length code) tail end

  abbrev FilterFound : handles.ClauseKind → Type 0
  FilterFound (handles.TheVariants.Filter k) = IsFound k (length code) tail end
  FilterFound (handles.TheVariants.Catch o) = Unit {0}
  FilterFound handles.TheVariants.Finally = Unit {0}
  FilterFound handles.TheVariants.Fault = Unit {0}

  -- the range that is guarded
  try_is : (c : Clause) (k : handles.ClauseKind) → Facts c → (at : ℕ) → Agrees s at (try_shown a code c k) →
      read.try_range s method (numbered at (try_shown a code c k)) ≡ record { start = c.try_start; end = c.try_end }
  try_is c k h at ag =
      let from = number_of c.try_start h.0 (suc at) ag.1.0.0.text in
      let to = number_of c.try_end h.1 (suc (suc (suc at))) ag.1.0.1.1.0.text in
      λ i. record { start = from i; end = to i }

  abbrev handler_forest : ℕ → f.Forest
  handler_forest at = f.leaf at (f.leaf (suc at) (f.leaf (suc (suc at)) (f.leaf (suc (suc (suc at))) f.none)))

  handler_by : (c : Clause) → Facts c → (at : ℕ) → Agrees s at (written.handler a.externs code c) →
      read.label_range s method (f.leaf_at 1 (handler_forest at)) (f.leaf_at 3 (handler_forest at)) ≡ record { start = c.handler_start; end = c.handler_end }
  handler_by c h at ag =
      let from = number_of c.handler_start h.2 (suc at) ag.0.1.0.text in
      let to = number_of c.handler_end h.3 (suc (suc (suc at))) ag.0.1.1.1.0.text in
      λ i. record { start = from i; end = to i }

  -- the handler's range
  handler_is : (c : Clause) (k : handles.ClauseKind) → Facts c → Grows (body_of (written.handled a.externs code c k).production) (written.handled a.externs code c k).below → (at : ℕ) →
      Agrees s at (written.handled a.externs code c k).below → read.handler_range s method (numbered at (written.handled a.externs code c k).below) ≡ record { start = c.handler_start; end = c.handler_end }
  unfolding ilasm rule_by
  handler_is c (handles.TheVariants.Catch o) h g at ag =
      let shown = (written.handled a.externs code c (handles.TheVariants.Catch o)).below in
      let whole = numbered at shown in
      let from = suc at + size (owner a.externs o).below in
      let apart = not_among (p.HANDLER_HANDLER ∷ []) (owner a.externs o).production (numbered (suc at) (owner a.externs o).below)
      (searches.nothing (p.HANDLER_HANDLER ∷ []) (Nonterminal n.SPEC ∷ []) no_handler_in_spec (put (owner a.externs o) none) (g.1.0, g.1.1, tt) (suc at)) in
      let stands : read.stands p.HANDLER_HANDLER whole ≡ true =
      ap (λ b. is_some (if b then Some (owner a.externs o).production else f.which (p.HANDLER_HANDLER ∷ []) (numbered from (written.handler a.externs code c)))) apart in
      let found = searches.child (p.HANDLER_HANDLER ∷ []) 2 (body_of p.CLAUSE_CATCH) handler_leads shown g at in
      if_true (read.stands p.HANDLER_HANDLER whole)
      (read.label_range s method (f.leaf_at 1 (f.child (p.HANDLER_HANDLER ∷ []) whole)) (f.leaf_at 3 (f.child (p.HANDLER_HANDLER ∷ []) whole)))
      (read.scope_range method (read.block_in p.HANDLER_BLOCK whole)) stands
      ∙ (ap (λ t. read.label_range s method (f.leaf_at 1 t) (f.leaf_at 3 t)) found ∙ handler_by c h from ag.1.1)
  handler_is c (handles.TheVariants.Filter k) h g at ag = handler_by c h (suc at + 1) ag.1.1
  handler_is c handles.TheVariants.Finally h g at ag = handler_by c h (suc at) ag.1
  handler_is c handles.TheVariants.Fault h g at ag = handler_by c h (suc at) ag.1

  -- what it handles
  kind_is : (c : Clause) (k : handles.ClauseKind) → is_handled a k ≡ true → is_handled_held k ≡ true → FilterFound k →
      Grows (body_of (written.handled a.externs code c k).production) (written.handled a.externs code c k).below → (at : ℕ) → Agrees s at (written.handled a.externs code c k).below →
      read.clause_kind s around method (f.part (written.handled a.externs code c k).production (numbered at (written.handled a.externs code c k).below)) ≡ k
  unfolding ilasm rule_by
  kind_is c (handles.TheVariants.Catch o) m l h g at ag =
      let shown = (written.handled a.externs code c (handles.TheVariants.Catch o)).below in
      ap (λ os. handles.TheVariants.Catch (first_owner os))
      (walks.owners s around 1 (body_of p.CLAUSE_CATCH) owner_second shown g at
      ∙ formed.owners s around a knows o m l (suc at) ag.1.0 (numbered (suc at + size (owner a.externs o).below) (written.handler a.externs code c)))
  kind_is c (handles.TheVariants.Filter k) m l h g at ag = ap handles.TheVariants.Filter (number_of k h (suc at) ag.1.0.0.text)
  kind_is c handles.TheVariants.Finally m l h g at ag = refl
  kind_is c handles.TheVariants.Fault m l h g at ag = refl

  -- ---- a clause

  facts : (c : Clause) → is_clause (length code) c ≡ true → (written.ends_last code c ≡ true → tail ≡ end ∷ []) → Facts c × FilterFound c.kind
  unfolding is_clause
  facts c h last =
      let hs = and_parts (is_forward c) (is_inside (length code) c) h in
      let f1 = and_parts _ _ hs.0 in
      let f2 = and_parts _ _ f1.0 in
      let i1 = and_parts _ _ hs.1 in
      let i2 = and_parts _ _ i1.0 in
      let i3 = and_parts _ _ i2.0 in
      let i4 = and_parts _ _ i3.0 in (
        (
          low_found c.try_start c.try_end (length code) tail end f2.0 i4.1,
          end_found c.try_end (length code) tail end i4.1 (λ e. last (ap (λ b. b || nat_eq c.handler_end (length code)) e)),
          low_found c.handler_start c.handler_end (length code) tail end f2.1 i2.1,
          end_found c.handler_end (length code) tail end i2.1 (λ e. last (either (nat_eq c.try_end (length code)) (nat_eq c.handler_end (length code)) e)),
        ),
        filter_found c.kind f1.1 i3.1,
      )
    where
      either : (x y : Bool) → y ≡ true → (x || y) ≡ true
      either true y e = refl
      either false y e = e

      filter_found : (k : handles.ClauseKind) → filter_before c.handler_start k ≡ true → nat_le c.handler_start (length code) ≡ true → FilterFound k
      filter_found (handles.TheVariants.Catch o) b w = tt
      filter_found (handles.TheVariants.Filter k) b w = low_found k c.handler_start (length code) tail end b w
      filter_found handles.TheVariants.Finally b w = tt
      filter_found handles.TheVariants.Fault b w = tt

  clause_is : (c : Clause) → is_clause (length code) c ≡ true → is_handled a c.kind ≡ true → is_clause_held c ≡ true → (written.ends_last code c ≡ true → tail ≡ end ∷ []) →
      Grows (body_of p.ITEM_TRY) (try_shown a code c c.kind) → (at : ℕ) → Agrees s at (try_shown a code c c.kind) → read.clause s around method (guarded_of at c c.kind) ≡ c
  unfolding ilasm rule_by is_clause_held
  clause_is c h m l last g at ag =
      let fs = facts c h last in
      let tried = try_is c c.kind fs.0 at ag in
      let handler = handler_is c c.kind fs.0 g.1.2.1 (handled_at at) ag.1.1.0 in
      let kind = kind_is c c.kind m l fs.1 g.1.2.1 (handled_at at) ag.1.1.0 in
      λ i. record { kind = kind i; try_start = (tried i).start; try_end = (tried i).end; handler_start = (handler i).start; handler_end = (handler i).end }

  -- ---- all of them

  pub clauses_are : (cs : List Clause) → list_all (is_clause (length code)) cs ≡ true → list_all (λ c. is_handled a c.kind) cs ≡ true → list_all is_clause_held cs ≡ true →
      (list_any (written.ends_last code) cs ≡ true → tail ≡ end ∷ []) → (at : ℕ) → EachGrown n.ITEM (map (written.clause a.externs code) cs) →
      ItemsAgree s at (map (written.clause a.externs code) cs) → map (read.clause s around method) (guarded_at at (map (written.clause a.externs code) cs)) ≡ cs
  unfolding ilasm rule_by
  clauses_are [] h m l last at g ag = refl
  clauses_are (c ∷ cs) h m l last at g ag =
      let hs = and_parts (is_clause (length code) c) (list_all (is_clause (length code)) cs) h in
      let ms = and_parts (is_handled a c.kind) (list_all (λ x. is_handled a x.kind) cs) m in
      let ls = and_parts (is_clause_held c) (list_all is_clause_held cs) l in
      let next = at + size (written.clause a.externs code c).below in
      let more = guarded_at next (map (written.clause a.externs code) cs) in
      ap (λ gs. map (read.clause s around method) (gs ++ more)) (guarded_is c c.kind g.1.1.2.1 at)
      ∙ (ap (λ x. x ∷ map (read.clause s around method) more)
      (clause_is c hs.0 ms.0 ls.0 (λ e. last (ap (λ b. b || list_any (written.ends_last code) cs) e)) g.1 at ag.0)
      ∙ ap (λ xs. c ∷ xs) (clauses_are cs hs.1 ms.1 ls.1 (λ e. last (either (written.ends_last code c) (list_any (written.ends_last code) cs) e)) next g.2 ag.1))
    where
      either : (x y : Bool) → y ≡ true → (x || y) ≡ true
      either true y e = refl
      either false y e = e
