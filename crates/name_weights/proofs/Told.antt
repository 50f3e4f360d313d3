-- The tokens of types and references are told the facts of their names.
use Rattle.std.proofs.Common.{◌≡◌, ◌∙◌, sym, ap, subst, refl, ℕ, ◌/◌, ◌%◌, ◌^◌, ◌<◌, ◌≤◌, ◌⊎◌, inl, inr, Bool, true, false, nat_eq, List, [], ◌∷◌, length, slice_get, Option, Some, None, arith}
use Rattle.std.specs.Prelude.{◌&&◌, if◌then◌else◌}
use Rattle.std.specs.Option.{option_map}
use Rattle.std.proofs.lemmas.Bool.{eq-eqb, eqb-true, false≢true}
use Rattle.std.proofs.lemmas.Option.{slice_get-get_or}
use Rattle.std.proofs.lemmas.Grind.{common_steps}
use Rattle.assembly_tree.specs.Weight.{name_weight}
use Rattle.image_model.specs.Naming.{HasPath, RowOwner, defined, referred, specified, IsToken, NamesOwner, by_row, TellsOwners, here}
use Rattle.image_model.specs.Rows.{HasRow}
use Rattle.image_model.specs.Structure.{HasScopes, max_path}
use Rattle.name_numbers.specs.Names.{depth_at}
use Rattle.name_numbers.specs.declared.numbering.Named.{Named}
use Rattle.row_demands.specs.Structured.{MeetStructure}
use Rattle.row_groups.proofs.Enclosing.{enclosed}
use Rattle.sig_codec.specs.Reading.{◌>>=◌}
use Rattle.signature_facts.specs.declared.facts.Facts.{Facts}
use Rattle.signature_facts.specs.declared.facts.OwnerFacts.{OwnerFacts}
use Rattle.signature_facts.specs.Facts.{owner_step, type_step, owner_facts}
use Rattle.spec_facts.specs.SpecMap.{AreNameFacts}
use Rattle.type_names.specs.Forest.{ref_node}
use Rattle.type_names.specs.Numbers.{NodeNames, IsNode, TellNames}
use Rattle.type_names.proofs.Facts.{type_ids}
use Rattle.type_terms.specs.declared.name.Scope.{Scope}
use Rattle.type_terms.specs.declared.name.Scope.TheVariants.{Here}
use Rattle.type_terms.specs.declared.name.TypeId.{TypeId}
use Rattle.type_terms.specs.declared.term.Owner.{Owner, Name}
use Rattle.type_terms.proofs.Layers.{fold-Name}
use Rattle.name_weights.specs.Weights.{weighing, path_weight, AreWeights, name_of, is_row, node_of, names_weighed}
use Rattle.name_weights.proofs.Made.{type_is_node, ref_is_node}

-- ---- names

abbrev of_name : Scope → List TypeId → Owner
of_name scope path = Name (record { scope = scope; path = path })

-- a plain name has these facts
name_told : (scope : Scope) (path : List TypeId) → name_of (path_weight path) ≡ owner_facts weighing (of_name scope path)
unfolding name_weight
name_told scope path = sym (fold-Name OwnerFacts Facts (owner_step weighing) (type_step weighing) (record { scope = scope; path = path }))

-- ---- paths

module _ (image : List ℕ) (meets : MeetStructure image) (scopes : (table row : ℕ) → HasScopes image table row) where
  -- each type and each reference has a path of at most 100 names
  abbrev Path : ℕ → Type 0
  Path type = (path : List TypeId) × HasPath image type path × (length path ≤ max_path)

  type_path : (row : ℕ) → HasRow image 0x02 row → Path row
  type_path row there = elim (enclosed image row) [
    | inl top ↦ let x = type_ids image meets.entries row there in (x.0 ∷ [], HasPath.top top.0 x.1, omega arith)
    | inr under ↦
        let n = (scopes 0x29 under.0).nesting refl under.1 in
        (n.path, subst (λ (q : ℕ). HasPath image q n.path) under.2 n.leads, n.short)
  ]

  module _ (named : List Named) (tell : TellNames image named) where
    type_named : (row : ℕ) → HasRow image 0x02 row → 0 < depth_at named row
    type_named row there =
        let p = type_path row there in
        (tell.has row (type_is_node image meets.indexes row there)).1 (Here, p.0, NodeNames.type there p.1, p.2)

    ref_named : (row : ℕ) → HasRow image 0x01 row → 0 < depth_at named (ref_node image row)
    ref_named row there =
        let s = (scopes 0x01 row).reference refl there in
        (tell.has (ref_node image row) (ref_is_node image meets.indexes row there)).1 (s.scope, s.path, NodeNames.reference there refl s.leads, s.short)

    node_named : {k : ℕ} {scope : Scope} {path : List TypeId} → NodeNames image k scope path → 0 < depth_at named k
    node_named (NodeNames.type {row = row} there h) = type_named row there
    node_named (NodeNames.reference {row = row} there e h) = subst (λ (z : ℕ). 0 < depth_at named z) (sym e) (ref_named row there)

    pub short : (k : ℕ) (scope : Scope) (path : List TypeId) → IsNode image k → NodeNames image k scope path → length path ≤ max_path
    short k scope path node names =
        let some = node_named names in
        let h = (tell.has k node).0 some in
        let d = tell.depth k scope path node some names in
        let o = tell.depth k h.0 h.1 node some h.2 in
        let few = h.3 in
        omega (arith, d, o, few)

  -- ---- tokens

  module _ (weights : List ℕ) (are : AreWeights image weights) (owners : ℕ → Option Owner) (tells : TellsOwners image owners) where
    abbrev weight_of : ℕ → Option OwnerFacts
    weight_of node = option_map name_of (slice_get weights node)

    -- what is told of a node
    node_told : (k : ℕ) (scope : Scope) (path : List TypeId) → IsNode image k → NodeNames image k scope path → weight_of k ≡ Some (owner_facts weighing (of_name scope path))
    node_told k scope path node names =
        let l = are.long in
        let n = node.1 in
        ap (option_map name_of) (slice_get-get_or weights k 0 (omega (arith, l, n)))
        ∙ ap (λ (w : ℕ). Some (name_of w)) (are.each k scope path node names) ∙ ap (λ (f : OwnerFacts). Some f) (name_told scope path)

    token_is : (token table row : ℕ) → table ≡ token / 2 ^ 24 → row ≡ token % 2 ^ 24 → IsToken token table row
    token_is token table row t r = record { is = omega (arith, t, r); fits = omega (arith, r) }

    -- a type and a reference that is there
    type_there : (token : ℕ) → token / 2 ^ 24 ≡ 0x02 → HasRow image 0x02 (token % 2 ^ 24) → weight_of (token % 2 ^ 24) ≡ option_map (owner_facts weighing) (owners token)
    type_there token t there =
        let row : ℕ = token % 2 ^ 24 in
        let p = type_path row there in
        let is : owners token ≡ Some (here p.0) = (tells token (here p.0)).1 (by_row (token_is token 0x02 row (sym t) refl) (defined refl there p.1)) in
        node_told row Here p.0 (type_is_node image meets.indexes row there) (NodeNames.type there p.1) ∙ sym (ap (option_map (owner_facts weighing)) is)

    ref_there : (token : ℕ) → token / 2 ^ 24 ≡ 0x01 → HasRow image 0x01 (token % 2 ^ 24) → weight_of (ref_node image (token % 2 ^ 24)) ≡ option_map (owner_facts weighing) (owners token)
    ref_there token t there =
        let row : ℕ = token % 2 ^ 24 in
        let s = (scopes 0x01 row).reference refl there in
        let is : owners token ≡ Some (of_name s.scope s.path) = (tells token (of_name s.scope s.path)).1 (by_row (token_is token 0x01 row (sym t) refl) (referred refl there s.leads)) in
        node_told (ref_node image row) s.scope s.path (ref_is_node image meets.indexes row there) (NodeNames.reference there refl s.leads)
        ∙ sym (ap (option_map (owner_facts weighing)) is)

    -- what a token of these tables names
    abbrev Known : ℕ → Type 0
    Known token =
        ((token / 2 ^ 24 ≡ 0x02) × HasRow image 0x02 (token % 2 ^ 24)) ⊎ (((token / 2 ^ 24 ≡ 0x01) × HasRow image 0x01 (token % 2 ^ 24)) ⊎ (token / 2 ^ 24 ≡ 0x1B))

    row_known : {table row : ℕ} {o : Owner} → (token : ℕ) → token / 2 ^ 24 ≡ table → token % 2 ^ 24 ≡ row → RowOwner image owners table row o → Known token
    row_known token t r (defined e there p) = inl (t ∙ e, subst (HasRow image 0x02) (sym r) there)
    row_known token t r (referred e there p) = inr (inl (t ∙ e, subst (HasRow image 0x01) (sym r) there))
    row_known token t r (specified e there b s) = inr (inr (t ∙ e))

    named_known : {token : ℕ} {o : Owner} → NamesOwner image owners token o → Known token
    named_known {token = token} (by_row {table = table} {row = row} is h) =
        let e = is.is in
        let f = is.fits in
        row_known token (omega (arith, e, f)) (omega (arith, e, f)) h

    is_there : (table row : ℕ) → is_row image table row ≡ true → HasRow image table row
    is_there table row e = (grind (arith, common_steps), grind (arith, common_steps))

    there_is : (table row : ℕ) → HasRow image table row → is_row image table row ≡ true
    there_is table row h = grind (arith, common_steps)

    -- nothing is known of other tokens
    not_known : (token : ℕ) → (Known token → ⊥) → (o : Option Owner) → owners token ≡ o → None ≡ option_map (owner_facts weighing) o
    not_known token lacks None e = refl
    not_known token lacks (Some o) e = absurd (lacks (named_known ((tells token o).0 e)))

    no_other : (token : ℕ) → (token / 2 ^ 24 ≡ 0x1B → ⊥) → ((token / 2 ^ 24 ≡ 0x02) × HasRow image 0x02 (token % 2 ^ 24) → ⊥) → ((token / 2 ^ 24 ≡ 0x01) × HasRow image 0x01 (token % 2 ^ 24) → ⊥) → Known token → ⊥
    no_other token s a b (inl h) = a h
    no_other token s a b (inr (inl h)) = b h
    no_other token s a b (inr (inr h)) = s h

    abbrev Told : ℕ → Bool → Bool → Bool → Bool → Type 0
    Told token a b c d =
        ((if a && b then Some (token % 2 ^ 24) else if c && d then Some (ref_node image (token % 2 ^ 24)) else None) >>= weight_of) ≡ option_map (owner_facts weighing) (owners token)

    go : (token : ℕ) → (token / 2 ^ 24 ≡ 0x1B → ⊥) → (a b c d : Bool) → nat_eq (token / 2 ^ 24) 0x02 ≡ a → is_row image 0x02 (token % 2 ^ 24) ≡ b → nat_eq (token / 2 ^ 24) 0x01 ≡ c
        → is_row image 0x01 (token % 2 ^ 24) ≡ d → Told token a b c d
    go token other true true c d e f g h = type_there token (eqb-true (token / 2 ^ 24) 0x02 e) (is_there 0x02 (token % 2 ^ 24) f)
    go token other true false true d e f g h =
        let one = eqb-true (token / 2 ^ 24) 0x02 e in
        let two = eqb-true (token / 2 ^ 24) 0x01 g in
        absurd (omega (arith, one, two))
    go token other true false false d e f g h =
        not_known token (no_other token other (λ k. false≢true (sym f ∙ there_is 0x02 (token % 2 ^ 24) k.1)) (λ k. false≢true (sym g ∙ eq-eqb (token / 2 ^ 24) 0x01 k.0))) (owners token) refl
    go token other false b true true e f g h = ref_there token (eqb-true (token / 2 ^ 24) 0x01 g) (is_there 0x01 (token % 2 ^ 24) h)
    go token other false b true false e f g h =
        not_known token (no_other token other (λ k. false≢true (sym e ∙ eq-eqb (token / 2 ^ 24) 0x02 k.0)) (λ k. false≢true (sym h ∙ there_is 0x01 (token % 2 ^ 24) k.1))) (owners token) refl
    go token other false b false d e f g h =
        not_known token (no_other token other (λ k. false≢true (sym e ∙ eq-eqb (token / 2 ^ 24) 0x02 k.0)) (λ k. false≢true (sym g ∙ eq-eqb (token / 2 ^ 24) 0x01 k.0))) (owners token) refl

    pub tokens_told : AreNameFacts weighing owners (names_weighed image weights)
    unfolding node_of
    tokens_told token other =
        go token other (nat_eq (token / 2 ^ 24) 0x02) (is_row image 0x02 (token % 2 ^ 24)) (nat_eq (token / 2 ^ 24) 0x01) (is_row image 0x01 (token % 2 ^ 24)) refl refl refl refl
