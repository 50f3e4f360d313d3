-- An image has one first fault at most, and none where it reads as an assembly.
use Rattle.std.proofs.Common.{◌≡◌, ℕ, ◌<◌, ◌⊎◌, inl, inr, ◌==◌, if◌then◌else◌, List, Option, Some, None, refl, sym, ◌∙◌, ap, subst, arith}
use Rattle.pe_layout.specs.Faults.{pe_fault}
use Rattle.pe_layout.specs.declared.fault.PeFault.{PeFault}
use Rattle.metadata_tables.specs.Faults.{IsEarlier, IsFault}
use Rattle.metadata_tables.specs.declared.fault.TableFault.{TableFault}
use Rattle.metadata_tables.specs.Laws.{OneFault as TablesLaw}
use Rattle.image_model.specs.declared.place.Place.{Place}
use Rattle.image_model.specs.declared.place.Place.TheVariants.{Byte, Row, Whole}
use Rattle.body_codec.specs.Names.{NameMap}
use Rattle.image_model.specs.Streams.{tables_of, HasCliHeader, HasRoot}
use Rattle.image_model.specs.Rows.{HasRow}
use Rattle.image_model.specs.Cells.{HasIndexes, HasEntry}
use Rattle.image_model.specs.Namings.{AreNamings}
use Rattle.image_model.specs.Faults.{RowRule, indexes, entries, manifest, runs, order, scopes, signatures, distinct, values, header, instructions, clauses, tokens, attributes, bases, accessors, number_of, RowMeets, AllMeet, Holds, HoldBefore, NamedFor, IsFirstBad, HasTables, IsImageFault}
use Rattle.image_model.proofs.OneNaming.{one_naming}

-- ---- rules and their numbers

abbrev rule_of : ℕ → RowRule
rule_of n =
    if n == 8 then indexes else if n == 9 then entries else if n == 10 then manifest else if n == 11 then runs else if n == 12 then order
    else if n == 13 then scopes else if n == 14 then signatures else if n == 15 then distinct else if n == 16 then values
    else if n == 17 then header else if n == 18 then instructions else if n == 19 then clauses else if n == 20 then tokens
    else if n == 21 then attributes else if n == 22 then bases else accessors

rule_back : (r : RowRule) → rule_of (number_of r) ≡ r
rule_back indexes = refl
rule_back entries = refl
rule_back manifest = refl
rule_back runs = refl
rule_back order = refl
rule_back scopes = refl
rule_back signatures = refl
rule_back distinct = refl
rule_back values = refl
rule_back header = refl
rule_back instructions = refl
rule_back clauses = refl
rule_back tokens = refl
rule_back attributes = refl
rule_back bases = refl
rule_back accessors = refl

same_rule : (r s : RowRule) → number_of r ≡ number_of s → r ≡ s
same_rule r s e = sym (rule_back r) ∙ ap rule_of e ∙ rule_back s

-- the number of a rule is 8, or the rule is a later one
first_rule : (r : RowRule) → (r ≡ indexes) ⊎ (8 < number_of r)
first_rule indexes = inl refl
first_rule entries = inr (omega arith)
first_rule manifest = inr (omega arith)
first_rule runs = inr (omega arith)
first_rule order = inr (omega arith)
first_rule scopes = inr (omega arith)
first_rule signatures = inr (omega arith)
first_rule distinct = inr (omega arith)
first_rule values = inr (omega arith)
first_rule header = inr (omega arith)
first_rule instructions = inr (omega arith)
first_rule clauses = inr (omega arith)
first_rule tokens = inr (omega arith)
first_rule attributes = inr (omega arith)
first_rule bases = inr (omega arith)
first_rule accessors = inr (omega arith)

-- ---- what a row meets doesn't hang on which names those are

row_meets : (image : List ℕ) (a b : NameMap) (rule : RowRule) (table row : ℕ) → (13 < number_of rule → a ≡ b) → RowMeets image a rule table row → RowMeets image b rule table row
row_meets image a b indexes t r p h = h
row_meets image a b entries t r p h = h
row_meets image a b manifest t r p h = h
row_meets image a b runs t r p h = h
row_meets image a b order t r p h = h
row_meets image a b scopes t r p h = h
row_meets image a b signatures t r p h = subst (λ n. RowMeets image n signatures t r) (p (omega arith)) h
row_meets image a b distinct t r p h = subst (λ n. RowMeets image n distinct t r) (p (omega arith)) h
row_meets image a b values t r p h = subst (λ n. RowMeets image n values t r) (p (omega arith)) h
row_meets image a b header t r p h = h
row_meets image a b instructions t r p h = h
row_meets image a b clauses t r p h = h
row_meets image a b tokens t r p h = subst (λ n. RowMeets image n tokens t r) (p (omega arith)) h
row_meets image a b attributes t r p h = subst (λ n. RowMeets image n attributes t r) (p (omega arith)) h
row_meets image a b bases t r p h = h
row_meets image a b accessors t r p h = h

all_of : (image : List ℕ) (names : NameMap) (rule : RowRule) → Holds image names rule → AllMeet image names rule
all_of image names indexes h = h.0
all_of image names entries h = h
all_of image names manifest h = h
all_of image names runs h = h
all_of image names order h = h
all_of image names scopes h = h
all_of image names signatures h = h
all_of image names distinct h = h
all_of image names values h = h
all_of image names header h = h
all_of image names instructions h = h
all_of image names clauses h = h
all_of image names tokens h = h
all_of image names attributes h = h
all_of image names bases h = h
all_of image names accessors h = h

-- ---- two places in the order of tables and rows

abbrev IsPlace : ℕ → ℕ → ℕ → ℕ → Type 0
IsPlace t r u s = IsEarlier t r u s ⊎ (IsEarlier u s t r ⊎ ((t ≡ u) × (r ≡ s)))

abbrev Compares : ℕ → ℕ → Type 0
Compares m n = (m < n) ⊎ ((n < m) ⊎ (m ≡ n))

compare : (m n : ℕ) → Compares m n
compare m n = grind arith

places : (t r u s : ℕ) → IsPlace t r u s
places t r u s = elim (compare t u) [
  | inl lt ↦ inl (inl lt)
  | inr (inl gt) ↦ inr (inl (inl gt))
  | inr (inr e) ↦ elim (compare r s) [
    | inl lt ↦ inl (inr (e, lt))
    | inr (inl gt) ↦ inr (inl (inr (sym e, gt)))
    | inr (inr f) ↦ inr (inr (e, f))
  ]
]

-- ---- the stages

abbrev Agrees : ℕ → Place → ℕ → Place → Type 0
Agrees rule at other there = (rule ≡ other) × (at ≡ there)

abbrev IsThere : {X : Type 0} → Option X → Type 0
IsThere None = ⊥
IsThere (Some x) = Unit {0}

pub clash : {X : Type 0} (o : Option X) (x : X) → o ≡ Some x → o ≡ None → ⊥
clash o x e n = subst IsThere (sym e ∙ n) tt

abbrev fault_or : PeFault → Option PeFault → PeFault
fault_or d None = d
fault_or d (Some f) = f

one_pe : (o : Option PeFault) (f g : PeFault) → o ≡ Some f → o ≡ Some g → f ≡ g
one_pe o f g e d = ap (fault_or f) (sym e ∙ d)

module _ (image : List ℕ) (tables_law : TablesLaw) where
  from_headers : (f : PeFault) → pe_fault image ≡ Some f → f.rule < 3 → {other : ℕ} {there : Place} → IsImageFault image other there → Agrees f.rule (Byte f.at) other there
  from_headers f q lt (IsImageFault.in_headers {fault = g} e k) = let s = one_pe (pe_fault image) f g q e in (ap (λ x. x.rule) s, ap (λ x. Byte x.at) s)
  from_headers f q lt (IsImageFault.no_cli_header {fault = g} e k) = absurd (omega (arith, ap (λ x. x.rule) (one_pe (pe_fault image) f g q e), k))
  from_headers f q lt (IsImageFault.in_cli_header n k) = absurd (clash (pe_fault image) f q n)
  from_headers f q lt (IsImageFault.in_root n c k) = absurd (clash (pe_fault image) f q n)
  from_headers f q lt (IsImageFault.in_tables n c r k) = absurd (clash (pe_fault image) f q n)
  from_headers f q lt (IsImageFault.in_row names h d b k e) = absurd (clash (pe_fault image) f q h.headers)
  from_headers f q lt (IsImageFault.in_entry h a k) = absurd (clash (pe_fault image) f q h.headers)
  from_headers f q lt (IsImageFault.too_large h n a p k) = absurd (clash (pe_fault image) f q h.headers)

  from_no_cli : (f : PeFault) → pe_fault image ≡ Some f → f.rule ≡ 3 → {other : ℕ} {there : Place} → IsImageFault image other there → Agrees 3 Whole other there
  from_no_cli f q is (IsImageFault.in_headers {fault = g} e k) = absurd (omega (arith, ap (λ x. x.rule) (one_pe (pe_fault image) f g q e), k, is))
  from_no_cli f q is (IsImageFault.no_cli_header e k) = (refl, refl)
  from_no_cli f q is (IsImageFault.in_cli_header n k) = absurd (clash (pe_fault image) f q n)
  from_no_cli f q is (IsImageFault.in_root n c k) = absurd (clash (pe_fault image) f q n)
  from_no_cli f q is (IsImageFault.in_tables n c r k) = absurd (clash (pe_fault image) f q n)
  from_no_cli f q is (IsImageFault.in_row names h d b k e) = absurd (clash (pe_fault image) f q h.headers)
  from_no_cli f q is (IsImageFault.in_entry h a k) = absurd (clash (pe_fault image) f q h.headers)
  from_no_cli f q is (IsImageFault.too_large h n a p k) = absurd (clash (pe_fault image) f q h.headers)

  from_cli : pe_fault image ≡ None → (HasCliHeader image → ⊥) → {other : ℕ} {there : Place} → IsImageFault image other there → Agrees 4 Whole other there
  from_cli q bad (IsImageFault.in_headers {fault = g} e k) = absurd (clash (pe_fault image) g e q)
  from_cli q bad (IsImageFault.no_cli_header {fault = g} e k) = absurd (clash (pe_fault image) g e q)
  from_cli q bad (IsImageFault.in_cli_header n k) = (refl, refl)
  from_cli q bad (IsImageFault.in_root n c k) = absurd (bad c)
  from_cli q bad (IsImageFault.in_tables n c r k) = absurd (bad c)
  from_cli q bad (IsImageFault.in_row names h d b k e) = absurd (bad h.cli)
  from_cli q bad (IsImageFault.in_entry h a k) = absurd (bad h.cli)
  from_cli q bad (IsImageFault.too_large h n a p k) = absurd (bad h.cli)

  from_root : pe_fault image ≡ None → HasCliHeader image → (HasRoot image → ⊥) → {other : ℕ} {there : Place} → IsImageFault image other there → Agrees 5 Whole other there
  from_root q cli bad (IsImageFault.in_headers {fault = g} e k) = absurd (clash (pe_fault image) g e q)
  from_root q cli bad (IsImageFault.no_cli_header {fault = g} e k) = absurd (clash (pe_fault image) g e q)
  from_root q cli bad (IsImageFault.in_cli_header n k) = absurd (k cli)
  from_root q cli bad (IsImageFault.in_root n c k) = (refl, refl)
  from_root q cli bad (IsImageFault.in_tables n c r k) = absurd (bad r)
  from_root q cli bad (IsImageFault.in_row names h d b k e) = absurd (bad h.root)
  from_root q cli bad (IsImageFault.in_entry h a k) = absurd (bad h.root)
  from_root q cli bad (IsImageFault.too_large h n a p k) = absurd (bad h.root)

  from_tables : (f : TableFault) → pe_fault image ≡ None → HasCliHeader image → HasRoot image → IsFault (tables_of image) f → {other : ℕ} {there : Place} → IsImageFault image other there
      → Agrees f.rule (Row f.table f.row) other there
  from_tables f q cli root bad (IsImageFault.in_headers {fault = g} e k) = absurd (clash (pe_fault image) g e q)
  from_tables f q cli root bad (IsImageFault.no_cli_header {fault = g} e k) = absurd (clash (pe_fault image) g e q)
  from_tables f q cli root bad (IsImageFault.in_cli_header n k) = absurd (k cli)
  from_tables f q cli root bad (IsImageFault.in_root n c k) = absurd (k root)
  from_tables f q cli root bad (IsImageFault.in_tables {fault = g} n c r k) = let s = tables_law.one (tables_of image) f g bad k in (ap (λ x. x.rule) s, ap (λ x. Row x.table x.row) s)
  from_tables f q cli root bad (IsImageFault.in_row names h d b k e) = absurd (tables_law.none (tables_of image) f h.whole bad)
  from_tables f q cli root bad (IsImageFault.in_entry h a k) = absurd (tables_law.none (tables_of image) f h.whole bad)
  from_tables f q cli root bad (IsImageFault.too_large h n a p k) = absurd (tables_law.none (tables_of image) f h.whole bad)

  -- a demand that fails at one row is no earlier one than a demand that fails at another
  no_later : (a b : NameMap) (rule other : RowRule) (t r : ℕ) → NamedFor image a rule → NamedFor image b other → HoldBefore image b other → IsFirstBad image a rule t r
      → number_of rule < number_of other → ⊥
  no_later a b rule other t r na nb before bad lt =
      let same : 13 < number_of rule → b ≡ a = λ late. one_naming image b a (nb (omega arith)) (na late) in
      bad.bad (row_meets image b a rule t r same (all_of image b rule (before rule lt) t r))

  -- one demand fails first at one row
  no_earlier : (a b : NameMap) (rule : RowRule) (t r u s : ℕ) → NamedFor image a rule → NamedFor image b rule → IsFirstBad image a rule t r → IsFirstBad image b rule u s
      → IsEarlier t r u s → ⊥
  no_earlier a b rule t r u s na nb h k lt =
      h.bad (row_meets image b a rule t r (λ late. one_naming image b a (nb late) (na late)) (k.first t r lt))

  one_row : (a b : NameMap) (rule : RowRule) (t r u s : ℕ) → NamedFor image a rule → NamedFor image b rule → IsFirstBad image a rule t r → IsFirstBad image b rule u s
      → Row t r ≡ Row u s
  one_row a b rule t r u s na nb h k = elim (places t r u s) [
    | inl lt ↦ absurd (no_earlier a b rule t r u s na nb h k lt)
    | inr (inl gt) ↦ absurd (no_earlier b a rule u s t r nb na k h gt)
    | inr (inr e) ↦ λ i. Row (e.0 i) (e.1 i)
  ]

  two_rows : (a b : NameMap) (rule other : RowRule) (t r u s : ℕ) → NamedFor image a rule → HoldBefore image a rule → IsFirstBad image a rule t r → NamedFor image b other → HoldBefore image b other
      → IsFirstBad image b other u s → (number_of rule ≡ number_of other) × (Row t r ≡ Row u s)
  two_rows a b rule other t r u s na ba h nb bb k = elim (compare (number_of rule) (number_of other)) [
    | inl lt ↦ absurd (no_later a b rule other t r na nb bb h lt)
    | inr (inl gt) ↦ absurd (no_later b a other rule u s nb na ba k gt)
    | inr (inr e) ↦
        let p = same_rule other rule (sym e) in
        (e, one_row a b rule t r u s na (subst (NamedFor image b) p nb) h (subst (λ x. IsFirstBad image b x u s) p k))
  ]

  -- where a row fails a demand, each index and the entry token have passed, or an index fails
  entry_passed : (names : NameMap) (rule : RowRule) (t r : ℕ) → HoldBefore image names rule → IsFirstBad image names rule t r
      → ((table row : ℕ) → HasRow image table row → HasIndexes image table row) → (HasEntry image → ⊥) → ⊥
  entry_passed names rule t r before bad all none = elim (first_rule rule) [
    | inl e ↦ (subst (λ x. IsFirstBad image names x t r) e bad).bad (all t r)
    | inr late ↦ none (before indexes late).1
  ]

  pub all_hold : (a b : NameMap) (rule : RowRule) (t r : ℕ) → NamedFor image a rule → AreNamings image b → ((x : RowRule) → Holds image b x) → IsFirstBad image a rule t r → ⊥
  all_hold a b rule t r na nb all bad =
      bad.bad (row_meets image b a rule t r (λ late. one_naming image b a nb (na late)) (all_of image b rule (all rule) t r))

  from_row : (names : NameMap) (rule : RowRule) (t r : ℕ) → HasTables image → NamedFor image names rule → HoldBefore image names rule → IsFirstBad image names rule t r
      → {other : ℕ} {there : Place} → IsImageFault image other there → Agrees (number_of rule) (Row t r) other there
  from_row names rule t r q na before bad (IsImageFault.in_headers {fault = g} e k) = absurd (clash (pe_fault image) g e q.headers)
  from_row names rule t r q na before bad (IsImageFault.no_cli_header {fault = g} e k) = absurd (clash (pe_fault image) g e q.headers)
  from_row names rule t r q na before bad (IsImageFault.in_cli_header n k) = absurd (k q.cli)
  from_row names rule t r q na before bad (IsImageFault.in_root n c k) = absurd (k q.root)
  from_row names rule t r q na before bad (IsImageFault.in_tables {fault = g} n c d k) = absurd (tables_law.none (tables_of image) g q.whole k)
  from_row names rule t r q na before bad (IsImageFault.in_row b {rule = o} {table = u} {row = s} h d c k e) =
      let w = two_rows names b rule o t r u s na before bad d c k in
      (w.0 ∙ sym e, w.1)
  from_row names rule t r q na before bad (IsImageFault.in_entry h a k) = absurd (entry_passed names rule t r before bad a k)
  from_row names rule t r q na before bad (IsImageFault.too_large {names = b} h n a p k) = absurd (all_hold names b rule t r na n a bad)

  from_entry : HasTables image → ((table row : ℕ) → HasRow image table row → HasIndexes image table row) → (HasEntry image → ⊥) → {other : ℕ} {there : Place} → IsImageFault image other there
      → Agrees 8 Whole other there
  from_entry q all none (IsImageFault.in_headers {fault = g} e k) = absurd (clash (pe_fault image) g e q.headers)
  from_entry q all none (IsImageFault.no_cli_header {fault = g} e k) = absurd (clash (pe_fault image) g e q.headers)
  from_entry q all none (IsImageFault.in_cli_header n k) = absurd (k q.cli)
  from_entry q all none (IsImageFault.in_root n c k) = absurd (k q.root)
  from_entry q all none (IsImageFault.in_tables {fault = g} n c d k) = absurd (tables_law.none (tables_of image) g q.whole k)
  from_entry q all none (IsImageFault.in_row b {rule = o} {table = u} {row = s} h d c k e) = absurd (entry_passed b o u s c k all none)
  from_entry q all none (IsImageFault.in_entry h a k) = (refl, refl)
  from_entry q all none (IsImageFault.too_large h n a p k) = absurd (none (a indexes).1)

  from_weight : (names : NameMap) → HasTables image → AreNamings image names → ((x : RowRule) → Holds image names x) → {other : ℕ} {there : Place} → IsImageFault image other there
      → Agrees 24 Whole other there
  from_weight names q n all (IsImageFault.in_headers {fault = g} e k) = absurd (clash (pe_fault image) g e q.headers)
  from_weight names q n all (IsImageFault.no_cli_header {fault = g} e k) = absurd (clash (pe_fault image) g e q.headers)
  from_weight names q n all (IsImageFault.in_cli_header m k) = absurd (k q.cli)
  from_weight names q n all (IsImageFault.in_root m c k) = absurd (k q.root)
  from_weight names q n all (IsImageFault.in_tables {fault = g} m c d k) = absurd (tables_law.none (tables_of image) g q.whole k)
  from_weight names q n all (IsImageFault.in_row b {rule = o} {table = u} {row = s} h d c k e) = absurd (all_hold b names o u s d n all k)
  from_weight names q n all (IsImageFault.in_entry h a k) = absurd (k (all indexes).1)
  from_weight names q n all (IsImageFault.too_large h m a p k) = (refl, refl)

  pub one_fault : (rule other : ℕ) (at there : Place) → IsImageFault image rule at → IsImageFault image other there → Agrees rule at other there
  one_fault rule other at there (IsImageFault.in_headers {fault = f} e k) h = from_headers f e k h
  one_fault rule other at there (IsImageFault.no_cli_header {fault = f} e k) h = from_no_cli f e k h
  one_fault rule other at there (IsImageFault.in_cli_header n k) h = from_cli n k h
  one_fault rule other at there (IsImageFault.in_root n c k) h = from_root n c k h
  one_fault rule other at there (IsImageFault.in_tables {fault = f} n c r k) h = from_tables f n c r k h
  one_fault rule other at there (IsImageFault.in_row names {rule = o} {table = t} {row = r} q d c k e) h = let w = from_row names o t r q d c k h in (e ∙ w.0, w.1)
  one_fault rule other at there (IsImageFault.in_entry q a k) h = from_entry q a k h
  one_fault rule other at there (IsImageFault.too_large {names = b} q n a p k) h = from_weight b q n a h
