-- What a method that is read as a well-formed body doesn't break: branches, clauses and counts.
use Rattle.std.proofs.Common.{◌≡◌, ℕ, ◌+◌, ◌≤◌, ◌&&◌, nat_eq, nat_lt, Bool, true, false, cond, if◌then◌else◌, List, [], ◌∷◌, ◌++◌, map, filter, length, Option, None, Some, refl, ap, sym, subst, ◌∙◌, arith}
use Rattle.std.proofs.lemmas.Bool.{and_parts, eqb-true, leb-true, ltb-true}
use Rattle.std.specs.List.{list_all, flat_map, enumerate_from}
use Rattle.std.specs.Prelude.{is_some}
use Rattle.ilasm_grammar.specs.declared.productions.TheConstants as p
use Rattle.assembly_tree.specs.WellFormedBodies.{operand_kind, fits_kind, are_targets, is_instruction, reaches, short_branches_reach, is_forward, is_inside, is_clause}
use Rattle.assembly_tree.specs.WellFormedTerms.{is_count}
use Rattle.assembly_tree.specs.declared.body.Body.{Body}
use Rattle.assembly_tree.specs.declared.body.Clause.{Clause}
use Rattle.assembly_tree.specs.declared.body.Ins.{Ins}
use Rattle.assembly_tree.specs.declared.body.Operand.{Operand}
use Rattle.assembly_tree.specs.declared.body.Operand.TheVariants as operand
use Rattle.type_terms.specs.declared.term.SigType.{SigType}
use Rattle.source_model.specs.Bodies as bodies
use Rattle.source_model.specs.Bodies.{code}
use Rattle.source_model.specs.BodyFaults.{branch_too_far, declared_targets, targets_at_the_end, clause_backwards}
use Rattle.source_model.specs.BodyNumbers.{clause_forests}
use Rattle.source_model.specs.Clauses.{Guarded, guarded, clause, clauses}
use Rattle.source_model.specs.Forest as f
use Rattle.source_model.specs.Instructions.{instructions_of, is_label, label_named, number_of_label, label_number, names_in, targets}
use Rattle.source_model.specs.Nodes.{Around, Node}
use Rattle.source_model.specs.Operands.{instruction, operand_of}
use Rattle.source_model.specs.Source.{Source}
use Rattle.source_model.specs.TypeRules.{past_count}
use Rattle.source_model.specs.Types.{the_type}
use Rattle.source_model.specs.Variables.{locals, local_types}
use Rattle.listing_denotes.proofs.ReferencesCounts.{counted, mapped_length}

both : (x y : Bool) → x ≡ true → y ≡ true → (x && y) ≡ true
both true y h k = k
both false y h k = h

-- ---- what a body gives

abbrev code_in : Option Body → List Ins
code_in None = []
code_in (Some b) = b.code

abbrev locals_in : Option Body → List SigType
locals_in None = []
locals_in (Some b) = b.locals

abbrev clauses_in : Option Body → List Clause
clauses_in None = []
clauses_in (Some b) = b.clauses

-- the method's instructions, locals and clauses are those of the body
pub record IsRead (s : Source) (around : Around) (method : f.Forest) (b : Body) : Type 0 where
  pub code : map (instruction s around method) (instructions_of method) ≡ b.code
  pub locals : local_types s around method ≡ b.locals
  pub clauses : clauses s around method ≡ b.clauses

none_some : (b : Body) → None ≡ Some b → ⊥
none_some b h = absurd cc

by_code : (s : Source) (around : Around) (method : f.Forest) (b : Body) (is : List Ins) → map (instruction s around method) (instructions_of method) ≡ is →
    bodies.body_unless_empty s around method is ≡ Some b → IsRead s around method b
by_code s around method b [] e h = absurd (none_some b h)
by_code s around method b (i ∷ is) e h = record { code = e ∙ ap code_in h; locals = ap locals_in h; clauses = ap clauses_in h }

pub is_read : (s : Source) (around : Around) (method : f.Forest) (b : Body) → bodies.body s around method ≡ Some b → IsRead s around method b
unfolding bodies.body code
is_read s around method b h = by_code s around method b (map (instruction s around method) (instructions_of method)) refl h

module _ (s : Source) (around : Around) (method : f.Forest) where
  abbrev node : ℕ → Node
  node production = record { production = production; below = method; around = around }

  abbrev count : ℕ
  count = length (instructions_of method)

  -- ---- targets

  abbrev is_low : ℕ → Bool
  is_low k = nat_lt (label_number s method k) count

  abbrev Low : List ℕ → Type 0
  Low ks = list_all is_low ks ≡ true

  low_mapped : (ks : List ℕ) → list_all (λ t. nat_lt t count) (map (label_number s method) ks) ≡ true → Low ks
  low_mapped [] h = refl
  low_mapped (k ∷ ks) h =
      let hs = and_parts (is_low k) (list_all (λ t. nat_lt t count) (map (label_number s method) ks)) h in
      both (is_low k) (list_all is_low ks) hs.0 (low_mapped ks hs.1)

  -- whatever gives operands, where it gives these for the two forms that have targets
  module _ (given : f.Part → Operand) (branches : (b : f.Forest) → given (f.part p.INSTRUCTION_OP_BRANCH b) ≡ operand.Target (label_number s method (f.leaf_at 0 b)))
      (switches : (b : f.Forest) → given (f.part p.INSTRUCTION_SWITCH b) ≡ operand.Targets (map (label_number s method) (targets (f.part p.INSTRUCTION_SWITCH b)))) where
    branch_low : (b : f.Forest) → are_targets count (given (f.part p.INSTRUCTION_OP_BRANCH b)) ≡ true → Low (targets (f.part p.INSTRUCTION_OP_BRANCH b))
    branch_low b h = both (is_low (f.leaf_at 0 b)) true (sym (ap (are_targets count) (branches b)) ∙ h) refl

    switch_low : (b : f.Forest) → are_targets count (given (f.part p.INSTRUCTION_SWITCH b)) ≡ true → Low (targets (f.part p.INSTRUCTION_SWITCH b))
    switch_low b h = low_mapped (targets (f.part p.INSTRUCTION_SWITCH b)) (sym (ap (are_targets count) (switches b)) ∙ h)

    abbrev targets_by : f.Forest → Bool → Bool → List ℕ
    targets_by b c d = if c then f.leaf_at 0 b ∷ [] else if d then flat_map names_in (f.each p.NAMES b) else []

    -- each target of an instruction whose operand's are instructions
    pub targets_low : (q : f.Part) → are_targets count (given q) ≡ true → Low (targets q)
    targets_low q h = by_branch (nat_eq q.production p.INSTRUCTION_OP_BRANCH) refl (nat_eq q.production p.INSTRUCTION_SWITCH) refl
      where
        by_branch : (c : Bool) → nat_eq q.production p.INSTRUCTION_OP_BRANCH ≡ c → (d : Bool) → nat_eq q.production p.INSTRUCTION_SWITCH ≡ d → Low (targets q)
        by_branch true e d g =
            let is = eqb-true q.production p.INSTRUCTION_OP_BRANCH e in
            subst (λ (k : ℕ). Low (targets (f.part k q.below))) (sym is)
            (branch_low q.below (subst (λ (k : ℕ). are_targets count (given (f.part k q.below)) ≡ true) is h))
        by_branch false e true g =
            let is = eqb-true q.production p.INSTRUCTION_SWITCH g in
            subst (λ (k : ℕ). Low (targets (f.part k q.below))) (sym is)
            (switch_low q.below (subst (λ (k : ℕ). are_targets count (given (f.part k q.below)) ≡ true) is h))
        by_branch false e false g =
            ap (λ (c : Bool). list_all is_low (targets_by q.below c (nat_eq q.production p.INSTRUCTION_SWITCH))) e ∙ ap (λ (d : Bool). list_all is_low (targets_by q.below false d)) g

  never_itself : (m : ℕ) → nat_lt m m ≡ true → ⊥
  never_itself m h = let less = ltb-true m m h in absurd (omega arith)

  -- a label that stands for an instruction is one of the method's
  pub low_known : (k : ℕ) → is_low k ≡ true → is_label s method k ≡ true
  low_known k h = by (label_named s method k) h
    where
      by : (o : Option ℕ) → nat_lt (number_of_label method o) count ≡ true → is_some o ≡ true
      by None g = absurd (never_itself count g)
      by (Some l) g = refl

  pub all_known : (ks : List ℕ) → Low ks → list_all (is_label s method) ks ≡ true
  all_known [] h = refl
  all_known (k ∷ ks) h =
      let hs = and_parts (is_low k) (list_all is_low ks) h in both (is_label s method k) (list_all (is_label s method) ks) (low_known k hs.0) (all_known ks hs.1)

  abbrev at_end : ℕ → Bool
  at_end k = nat_eq (label_number s method k) count

  not_end : (m k : ℕ) → nat_lt m k ≡ true → nat_eq m k ≡ false
  not_end m k h = let less = ltb-true m k h in grind (arith, less)

  none_at_end : (ks : List ℕ) → Low ks → filter at_end (filter (is_label s method) ks) ≡ []
  none_at_end [] h = refl
  none_at_end (k ∷ ks) h =
      let hs = and_parts (is_low k) (list_all is_low ks) h in
      by (is_label s method k) (not_end (label_number s method k) count hs.0) (none_at_end ks hs.1)
    where
      by : (c : Bool) → at_end k ≡ false → filter at_end (filter (is_label s method) ks) ≡ [] →
          filter at_end (cond c (k ∷ filter (is_label s method) ks) (filter (is_label s method) ks)) ≡ []
      by true e g =
          ap (λ (c : Bool). cond c (k ∷ filter at_end (filter (is_label s method) ks)) (filter at_end (filter (is_label s method) ks))) e ∙ g
      by false e g = g

  -- ---- instructions

  abbrev passes : Ins → Bool
  passes i = is_instruction count i

  its_targets : (i : Ins) → passes i ≡ true → are_targets count i.operand ≡ true
  its_targets i h = (and_parts (fits_kind (operand_kind i.op) i.operand) (are_targets count i.operand) h).1

  pub all_low : (qs : List f.Part) → list_all passes (map (instruction s around method) qs) ≡ true → list_all (λ q. list_all is_low (targets q)) qs ≡ true
  all_low [] h = refl
  all_low (q ∷ qs) h =
      let hs = and_parts (passes (instruction s around method q)) (list_all passes (map (instruction s around method) qs)) h in
      let own = its_targets (instruction s around method q) hs.0 in
      both (list_all is_low (targets q)) (list_all (λ r. list_all is_low (targets r)) qs) (targets_low (operand_of s around method) (λ b. refl) (λ b. refl) q own) (all_low qs hs.1)

  none_end : (qs : List f.Part) → list_all (λ q. list_all is_low (targets q)) qs ≡ true → flat_map (targets_at_the_end s method) qs ≡ []
  none_end [] h = refl
  none_end (q ∷ qs) h =
      let hs = and_parts (list_all is_low (targets q)) (list_all (λ r. list_all is_low (targets r)) qs) h in
      ap (λ (ks : List ℕ). ks ++ flat_map (targets_at_the_end s method) qs) (none_at_end (targets q) hs.0) ∙ none_end qs hs.1

  none_far : (production k : ℕ) (qs : List f.Part) → list_all (reaches (code s around method)) (enumerate_from k (map (instruction s around method) qs)) ≡ true →
      flat_map (branch_too_far s (node production)) (enumerate_from k qs) ≡ []
  none_far production k [] h = refl
  none_far production k (q ∷ qs) h =
      let own = reaches (code s around method) (k, instruction s around method q) in
      let hs = and_parts own (list_all (reaches (code s around method)) (enumerate_from (k + 1) (map (instruction s around method) qs))) h in
      ap (λ (c : Bool). (if c then [] else declared_targets s method q) ++ flat_map (branch_too_far s (node production)) (enumerate_from (k + 1) qs)) hs.0
      ∙ none_far production (k + 1) qs hs.1

  -- ---- clauses

  its_forward : (m : ℕ) (c : Clause) → is_clause m c ≡ true → is_forward c ≡ true
  unfolding is_clause
  its_forward m c h = (and_parts (is_forward c) (is_inside m c) h).0

  none_backwards : (production m : ℕ) (gs : List Guarded) → list_all (is_clause m) (map (clause s around method) gs) ≡ true → flat_map (clause_backwards s (node production)) gs ≡ []
  none_backwards production m [] h = refl
  none_backwards production m (g ∷ gs) h =
      let c = clause s around method g in
      let hs = and_parts (is_clause m c) (list_all (is_clause m) (map (clause s around method) gs)) h in
      ap (λ (d : Bool). (if d then [] else f.first_token g.clause.below ∷ []) ++ flat_map (clause_backwards s (node production)) gs) (its_forward m c hs.0) ∙ none_backwards production m gs hs.1

  -- ---- all of these

  module _ (b : Body) (read : IsRead s around method b) (instructions : list_all (is_instruction (length b.code)) b.code ≡ true) (short : short_branches_reach b.code ≡ true)
      (ranges : list_all (is_clause (length b.code)) b.clauses ≡ true) where
    as_many : length b.code ≡ count
    as_many = ap (λ (is : List Ins). length is) (sym read.code) ∙ mapped_length (instruction s around method) (instructions_of method)

    all_pass : list_all passes (map (instruction s around method) (instructions_of method)) ≡ true
    all_pass =
        subst (λ (is : List Ins). list_all passes is ≡ true) (sym read.code) (subst (λ (k : ℕ). list_all (is_instruction k) b.code ≡ true) as_many instructions)

    pub low : list_all (λ q. list_all is_low (targets q)) (instructions_of method) ≡ true
    low = all_low (instructions_of method) all_pass

    pub ends_right : flat_map (targets_at_the_end s method) (instructions_of method) ≡ []
    ends_right = none_end (instructions_of method) low

    code_is : code s around method ≡ b.code
    unfolding code
    code_is = read.code

    all_reach : list_all (reaches b.code) (enumerate_from 0 b.code) ≡ true
    unfolding short_branches_reach
    all_reach = short

    pub branches_reach : (production : ℕ) → flat_map (branch_too_far s (node production)) (enumerate_from 0 (instructions_of method)) ≡ []
    branches_reach production =
        none_far production 0 (instructions_of method)
        (subst (λ (is : List Ins). list_all (reaches (code s around method)) (enumerate_from 0 is) ≡ true) (sym read.code)
        (subst (λ (is : List Ins). list_all (reaches is) (enumerate_from 0 b.code) ≡ true) (sym code_is) all_reach))

    pub clauses_forward : (production : ℕ) → flat_map (clause_backwards s (node production)) (guarded method) ≡ []
    clauses_forward production =
        none_backwards production (length b.code) (guarded method) (subst (λ (cs : List Clause). list_all (is_clause (length b.code)) cs ≡ true) (sym read.clauses) ranges)

    pub few_locals : is_count (length b.locals) ≡ true → past_count (locals method) ≡ []
    few_locals c =
        let many : length (locals method) ≡ length b.locals = sym (mapped_length (the_type s around) (locals method)) ∙ ap (λ (ts : List SigType). length ts) read.locals in
        counted (locals method) (subst (λ (k : ℕ). k ≤ 65535) (sym many) (leb-true (length b.locals) 65535 c))

    pub few_clauses : is_count (length b.clauses) ≡ true → past_count (clause_forests method) ≡ []
    few_clauses c =
        let many : length (guarded method) ≡ length b.clauses = sym (mapped_length (clause s around method) (guarded method)) ∙ ap (λ (cs : List Clause). length cs) read.clauses in
        let forests : length (clause_forests method) ≡ length b.clauses = mapped_length (λ (g : Guarded). g.clause.below) (guarded method) ∙ many in
        counted (clause_forests method) (subst (λ (k : ℕ). k ≤ 65535) (sym forests) (leb-true (length b.clauses) 65535 c))
