-- A method that breaks no rule has an unbroken signature.
use Rattle.std.proofs.Common.{◌≡◌, ℕ, ◌+◌, ◌≤◌, ◌&&◌, Bool, true, false, if◌then◌else◌, List, [], ◌∷◌, ◌++◌, length, refl, ap, ◌∙◌, subst, sym}
use Rattle.std.proofs.lemmas.Bool.{and_parts, eqb-true, leb-true}
use Rattle.std.specs.List.{list_all, flat_map}
use Rattle.ilasm_grammar.specs.declared.productions.TheConstants as p
use Rattle.ilasm_grammar.specs.declared.symbol.Symbol.{Symbol}
use Rattle.ilasm_grammar.specs.declared.symbol.Symbol.TheVariants.{Nonterminal}
use Rattle.ilasm_grammar.specs.declared.nonterminals.TheConstants as n
use Rattle.assembly_tree.specs.WellFormedMembers.{is_method}
use Rattle.assembly_tree.specs.WellFormedTerms.{is_count}
use Rattle.assembly_tree.specs.declared.assembly.Assembly.{Assembly}
use Rattle.assembly_tree.specs.declared.members.Method.{Method}
use Rattle.assembly_tree.proofs.FormedFacts.{methods_named, signatures_named}
use Rattle.source_model.specs.Forest as f
use Rattle.source_model.specs.Members.{in_method}
use Rattle.source_model.specs.Nodes.{Around, Node, nodes_in, entered, typars}
use Rattle.source_model.specs.OutOfRange.{number_out_of_range_at}
use Rattle.source_model.specs.Signatures.{is_method_unbroken}
use Rattle.source_model.specs.Source.{Source}
use Rattle.source_model.specs.TypeRules.{past_count, breaks_signature, are_unbroken, is_nothing, number_in_signature_out_of_range}
use Rattle.faultless_nodes.specs.Laws.{BreaksNothing, EachBreaksNothing}
use Rattle.listing_groups.specs.Laws.{method_items, forests_at}
use Rattle.listing_heads.specs.Laws.{HeadsAreRead, typars_place}
use Rattle.listing_members.specs.Laws.{GenericsAreRead}
use Rattle.listing_model.specs.Grown.{body_of, Grows}
use Rattle.listing_model.specs.Methods.{method}
use Rattle.listing_model.specs.Shown.{none, put, size}
use Rattle.listing_reading.specs.Numbered.{numbered, Agrees}
use Rattle.listing_rows.specs.Segments.{ItemsAgree, EachGrown}
use Rattle.listing_denotes.specs.Quiet.{ItemsBreakNothing}
use Rattle.listing_denotes.proofs.BodiesMethods.{inner_grown, inner_agrees}
use Rattle.listing_denotes.proofs.QuietRows.{each_front, each_behind, each_join}
use Rattle.listing_denotes.proofs.ReferencesCounts.{counted}

both : (x y : Bool) → x ≡ true → y ≡ true → (x && y) ≡ true
both true y h k = k
both false y h k = h

-- ---- what is nothing as a whole is nothing in each part

empty_first : (us vs : List ℕ) → (us ++ vs) ≡ [] → us ≡ []
empty_first [] vs e = refl
empty_first (u ∷ us) vs e = absurd cc

empty_second : (us vs : List ℕ) → (us ++ vs) ≡ [] → vs ≡ []
empty_second [] vs e = e
empty_second (u ∷ us) vs e = absurd cc

-- the rules on numbers in signatures are among those on numbers
in_signature : (s : Source) (m : Node) → number_out_of_range_at s m ≡ [] → number_in_signature_out_of_range s m ≡ []
in_signature s m h = empty_first _ _ (empty_second _ _ (empty_first _ _ h))

no_break : (s : Source) (m : Node) → BreaksNothing s m → breaks_signature s m ≡ []
no_break s m h =
    let types = h.types in
    let scopes = h.scopes in
    let generic = h.typars in
    let numbers = in_signature s m h.numbers in
    let depth = h.depth in
    let paths = h.paths in
    λ i. types i ++ scopes i ++ generic i ++ numbers i ++ depth i ++ paths i

no_breaks : (s : Source) (ms : List Node) → EachBreaksNothing s ms → flat_map (breaks_signature s) ms ≡ []
no_breaks s [] h = refl
no_breaks s (m ∷ ms) h = ap (λ (ks : List ℕ). ks ++ flat_map (breaks_signature s) ms) (no_break s m h.0) ∙ no_breaks s ms h.1

pub unbroken : (s : Source) (ms : List Node) → EachBreaksNothing s ms → are_unbroken s ms ≡ true
unbroken s ms h = ap is_nothing (no_breaks s ms h)

-- ---- trees at the top

-- chosen trees break none where all break none
pub chosen_quiet : (s : Source) (x : Around) (sought : List ℕ) (g : f.Forest) → EachBreaksNothing s (nodes_in s x g) → EachBreaksNothing s (nodes_in s x (f.chosen sought g))
chosen_quiet s x sought f.none h = tt
chosen_quiet s x sought (f.leaf k after) h = chosen_quiet s x sought after h
chosen_quiet s x sought (f.branch q b after) h =
    by (f.is_among sought q) h.0 (each_front s (nodes_in s (entered s x q b) b) (nodes_in s x after) h.1) (chosen_quiet s x sought after (each_behind s (nodes_in s (entered s x q b) b) (nodes_in s x after) h.1))
  where
    by : (c : Bool) → BreaksNothing s (record { production = q; below = b; around = entered s x q b }) → EachBreaksNothing s (nodes_in s (entered s x q b) b) → EachBreaksNothing s (nodes_in s x (f.chosen sought after)) →
        EachBreaksNothing s (nodes_in s x (if c then f.branch q b (f.chosen sought after) else f.chosen sought after))
    by true own inside behind = (own, each_join s (nodes_in s (entered s x q b) b) (nodes_in s x (f.chosen sought after)) inside behind)
    by false own inside behind = behind

-- ---- methods

method_unbroken : (s : Source) (x : Around) (g : f.Forest) → EachBreaksNothing s (nodes_in s (in_method x g) g) → length (typars g) ≤ 65535 → is_method_unbroken s x g ≡ true
method_unbroken s x g h few =
    both (are_unbroken s (nodes_in s (in_method x g) (f.chosen (p.TYPE ∷ p.DEF_ARGS_OPT_SOME ∷ []) g))) (is_nothing (past_count (typars g)))
    (unbroken s (nodes_in s (in_method x g) (f.chosen (p.TYPE ∷ p.DEF_ARGS_OPT_SOME ∷ []) g)) (chosen_quiet s (in_method x g) (p.TYPE ∷ p.DEF_ARGS_OPT_SOME ∷ []) g h))
    (ap is_nothing (counted (typars g) few))

module _ (heads : HeadsAreRead) (read : GenericsAreRead) (s : Source) (a : Assembly) (x : Around) where
  few_typars : (m : Method) → is_method a m ≡ true → Grows (body_of p.METHOD) (method a.externs m).below → (at : ℕ) → Agrees s at (method a.externs m).below →
      length (typars (numbered at (method a.externs m).below)) ≤ 65535
  few_typars m formed g at ag =
      let good = (methods_named a m).0 formed in
      let sig = (signatures_named a m.sig).0 good.sig in
      let declared = and_parts _ _ good.declaration in
      let few = subst (λ (k : ℕ). is_count k ≡ true) (eqb-true m.sig.generic (length m.generics) declared.1) sig.generic in
      let many = read.counted a.externs m.generics (numbered at (method a.externs m).below) (typars_place a m at) (heads.typars s a m formed g at ag).0 in
      subst (λ (k : ℕ). k ≤ 65535) (sym many) (leb-true (length m.generics) 65535 few)

  inner_quiet : (m : Method) (at : ℕ) → EachBreaksNothing s (nodes_in s x (numbered at (put (method a.externs m) none))) →
      EachBreaksNothing s (nodes_in s (in_method x (numbered at (method a.externs m).below)) (numbered at (method a.externs m).below))
  unfolding method
  inner_quiet m at h = each_front s (nodes_in s (in_method x (numbered at (method a.externs m).below)) (numbered at (method a.externs m).below)) [] h.1

  -- members of a type that break no rule
  pub methods_unbroken : (y : ℕ) → body_of p.MEMBER_METHOD ≡ Nonterminal n.METHOD ∷ [] → (ms : List Method) → list_all (is_method a) ms ≡ true → (at : ℕ) → EachGrown y (method_items a.externs p.MEMBER_METHOD ms) →
      ItemsAgree s at (method_items a.externs p.MEMBER_METHOD ms) → ItemsBreakNothing s x at (method_items a.externs p.MEMBER_METHOD ms) → list_all (is_method_unbroken s x) (forests_at a.externs at ms) ≡ true
  methods_unbroken y body [] c at g ag q = refl
  methods_unbroken y body (m ∷ ms) c at g ag q =
      let cs = and_parts (is_method a m) (list_all (is_method a) ms) c in
      let grown = inner_grown a m (subst (λ (b : List Symbol). Grows b (put (method a.externs m) none)) body g.1) in
      let agrees = inner_agrees s a m at ag.0 in
      let next = at + size (put (method a.externs m) none) in
      let own = each_front s (nodes_in s x (numbered at (put (method a.externs m) none))) [] q.0.1 in
      both (is_method_unbroken s x (numbered at (method a.externs m).below)) (list_all (is_method_unbroken s x) (forests_at a.externs next ms))
      (method_unbroken s x (numbered at (method a.externs m).below) (inner_quiet m at own) (few_typars m cs.0 grown at agrees))
      (methods_unbroken y body ms cs.1 next g.2 ag.1 q.1)
