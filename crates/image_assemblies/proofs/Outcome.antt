-- An image that reads as no assembly has a fault: no demand can be left open. Nothing is decided here; the reader does that.
use Rattle.std.proofs.Common.{◌≡◌, ℕ, zero, suc, ◌+◌, ◌^◌, ◌<◌, ◌≤◌, ◌⊎◌, inl, inr, Bool, true, false, ◌==◌, if◌then◌else◌, List, length, Option, Some, None, refl, sym, ◌∙◌, ap, subst, arith}
use Rattle.body_codec.specs.Names.{NameMap}
use Rattle.pe_layout.specs.Faults.{pe_fault, has_headers, is_in_profile, has_cli_header}
use Rattle.pe_layout.specs.Headers.{signature_place_of}
use Rattle.pe_layout.specs.declared.fault.PeFault.{PeFault}
use Rattle.metadata_tables.specs.Stream.{header_size, row_end, IsRow}
use Rattle.metadata_tables.specs.Faults.{IsForeign, IsEarlier, IsFault}
use Rattle.metadata_tables.specs.declared.fault.TableFault.{TableFault}
use Rattle.assembly_tree.specs.Weight.{weight_of}
use Rattle.assembly_tree.specs.declared.assembly.Assembly.{Assembly}
use Rattle.image_model.specs.declared.place.Place.{Place}
use Rattle.image_model.specs.declared.place.Place.TheVariants.{Byte, Row, Whole}
use Rattle.image_model.specs.Streams.{tables_of, HasCliHeader, HasRoot}
use Rattle.image_model.specs.Rows.{count_of}
use Rattle.image_model.specs.Cells.{HasEntry}
use Rattle.image_model.specs.Namings.{AreNamings}
use Rattle.image_model.specs.Faults.{RowRule, indexes, entries, manifest, runs, order, scopes, signatures, distinct, values, header, instructions, clauses, tokens, attributes, bases, accessors, number_of, RowMeets, AllMeet, Holds, HoldBefore, NamedFor, HasTables, max_weight, Reads, IsImageFault}
use Rattle.image_model.specs.Reading.{IsAssembly}
use Rattle.image_namings.specs.Laws.{NamingExists}
use Rattle.image_assemblies.specs.Laws.{AssemblyExists}
use Rattle.image_assemblies.proofs.Outside.{outside_meets}

-- it can't be that not
abbrev Surely : Type 0 → Type 0
Surely A = (A → ⊥) → ⊥

at_most_or_over : (m n : ℕ) → (m ≤ n) ⊎ (n < m)
at_most_or_over m n = grind arith

-- ---- a demand on pairs of numbers that holds of all but finitely many, and has no first pair that fails it

module _ (Meets : ℕ → ℕ → Type 0) (tables : ℕ) (count : ℕ → ℕ) (outside : (t r : ℕ) → (tables ≤ t) ⊎ (count t + 1 < r) → Meets t r)
    (no_first : (t r : ℕ) → (Meets t r → ⊥) → ((u s : ℕ) → IsEarlier u s t r → Meets u s) → ⊥) where
  abbrev RowsBelow : ℕ → ℕ → Type 0
  RowsBelow t n = (r : ℕ) → r < n → Meets t r

  abbrev TablesBelow : ℕ → Type 0
  TablesBelow n = (t : ℕ) → t < n → (r : ℕ) → Meets t r

  earlier : (t n : ℕ) → TablesBelow t → RowsBelow t n → (u s : ℕ) → IsEarlier u s t n → Meets u s
  earlier t n before here u s (inl less) = before u less s
  earlier t n before here u s (inr same) = subst (λ (x : ℕ). Meets x s) (sym same.0) (here s same.1)

  one_row_more : (t n : ℕ) → RowsBelow t n → Meets t n → RowsBelow t (suc n)
  one_row_more t n all last r low = elim (at_most_or_over n r) [
    | inl late ↦ let e : n ≡ r = omega arith in subst (Meets t) e last
    | inr early ↦ all r early
  ]

  rows_below : (t : ℕ) → TablesBelow t → (n : ℕ) → Surely (RowsBelow t n)
  rows_below t before zero k = k (λ r low. absurd (omega arith))
  rows_below t before (suc n) k = rows_below t before n (λ all. no_first t n (λ last. k (one_row_more t n all last)) (earlier t n before all))

  all_rows : (t : ℕ) → RowsBelow t (count t + 2) → (r : ℕ) → Meets t r
  all_rows t all r = elim (at_most_or_over r (count t + 1)) [
    | inl low ↦ all r (omega arith)
    | inr past ↦ outside t r (inr past)
  ]

  one_table_more : (n : ℕ) → TablesBelow n → ((r : ℕ) → Meets n r) → TablesBelow (suc n)
  one_table_more n all last t low = elim (at_most_or_over n t) [
    | inl late ↦ let e : n ≡ t = omega arith in subst (λ (u : ℕ). (r : ℕ) → Meets u r) e last
    | inr early ↦ all t early
  ]

  tables_below : (n : ℕ) → Surely (TablesBelow n)
  tables_below zero k = k (λ t low. absurd (omega arith))
  tables_below (suc n) k = tables_below n (λ before. rows_below n before (count n + 2) (λ all. k (one_table_more n before (all_rows n all))))

  pub all_meet : Surely ((t r : ℕ) → Meets t r)
  all_meet k = tables_below tables (λ all. k (λ t r. go t r all (at_most_or_over tables t)))
    where
      go : (t r : ℕ) → TablesBelow tables → (tables ≤ t) ⊎ (t < tables) → Meets t r
      go t r all (inl far) = outside t r (inl far)
      go t r all (inr near) = all t near r

-- ---- rules and their numbers

abbrev rule_of : ℕ → RowRule
rule_of n =
    if n == 8 then indexes else if n == 9 then entries else if n == 10 then manifest else if n == 11 then runs else if n == 12 then order
    else if n == 13 then scopes else if n == 14 then signatures else if n == 15 then distinct else if n == 16 then values
    else if n == 17 then header else if n == 18 then instructions else if n == 19 then clauses else if n == 20 then tokens
    else if n == 21 then attributes else if n == 22 then bases else accessors

rule_back : (r : RowRule) → rule_of (number_of r) ≡ r
rule_back indexes = refl
rule_back entries = refl
rule_back manifest = refl
rule_back runs = refl
rule_back order = refl
rule_back scopes = refl
rule_back signatures = refl
rule_back distinct = refl
rule_back values = refl
rule_back header = refl
rule_back instructions = refl
rule_back clauses = refl
rule_back tokens = refl
rule_back attributes = refl
rule_back bases = refl
rule_back accessors = refl

same_rule : (r s : RowRule) → number_of r ≡ number_of s → r ≡ s
same_rule r s e = sym (rule_back r) ∙ ap rule_of e ∙ rule_back s

numbered : (r : RowRule) → (8 ≤ number_of r) × (number_of r < 24)
numbered indexes = (omega arith, omega arith)
numbered entries = (omega arith, omega arith)
numbered manifest = (omega arith, omega arith)
numbered runs = (omega arith, omega arith)
numbered order = (omega arith, omega arith)
numbered scopes = (omega arith, omega arith)
numbered signatures = (omega arith, omega arith)
numbered distinct = (omega arith, omega arith)
numbered values = (omega arith, omega arith)
numbered header = (omega arith, omega arith)
numbered instructions = (omega arith, omega arith)
numbered clauses = (omega arith, omega arith)
numbered tokens = (omega arith, omega arith)
numbered attributes = (omega arith, omega arith)
numbered bases = (omega arith, omega arith)
numbered accessors = (omega arith, omega arith)

-- a map that names nothing
abbrev no_names : NameMap
no_names = record { owners = λ t. None; methods = λ t. None; fields = λ t. None; locals = λ t. None; texts = λ t. None }

-- up to I13 a demand asks nothing of names
any_names : (image : List ℕ) (a b : NameMap) (rule : RowRule) → number_of rule < 14 → Holds image a rule → Holds image b rule
any_names image a b indexes low h = h
any_names image a b entries low h = h
any_names image a b manifest low h = h
any_names image a b runs low h = h
any_names image a b order low h = h
any_names image a b scopes low h = h
any_names image a b signatures low h = absurd (omega arith)
any_names image a b distinct low h = absurd (omega arith)
any_names image a b values low h = absurd (omega arith)
any_names image a b header low h = absurd (omega arith)
any_names image a b instructions low h = absurd (omega arith)
any_names image a b clauses low h = absurd (omega arith)
any_names image a b tokens low h = absurd (omega arith)
any_names image a b attributes low h = absurd (omega arith)
any_names image a b bases low h = absurd (omega arith)
any_names image a b accessors low h = absurd (omega arith)

-- the fault of the headers, by what is in order
abbrev fault : ℕ → ℕ → PeFault
fault rule place = record { rule = rule; at = place }

abbrev chosen : (headers profile cli : Bool) → ℕ → Option PeFault
chosen headers profile cli place =
    if headers then (if profile then (if cli then None else Some (fault 3 0)) else Some (fault 2 place)) else Some (fault 1 0)

module _ (image : List ℕ) (no_fault : (rule : ℕ) (at : Place) → IsImageFault image rule at → ⊥) where
  -- ---- headers, the CLI header, the root

  headers_hold : pe_fault image ≡ None
  unfolding pe_fault
  headers_hold =
      go (has_headers image) (is_in_profile image) (has_cli_header image) (λ f e low. no_fault f.rule (Byte f.at) (IsImageFault.in_headers e low)) (λ f e is. no_fault 3 Whole (IsImageFault.no_cli_header e is))
    where
      go : (b c d : Bool) → ((f : PeFault) → chosen b c d (signature_place_of image) ≡ Some f → f.rule < 3 → ⊥) → ((f : PeFault) → chosen b c d (signature_place_of image) ≡ Some f → f.rule ≡ 3 → ⊥)
          → chosen b c d (signature_place_of image) ≡ None
      go true true true f g = refl
      go true true false f g = absurd (g (fault 3 0) refl refl)
      go true false d f g = absurd (f (fault 2 (signature_place_of image)) refl (omega arith))
      go false c d f g = absurd (f (fault 1 0) refl (omega arith))

  cli_holds : Surely (HasCliHeader image)
  cli_holds k = no_fault 4 Whole (IsImageFault.in_cli_header headers_hold k)

  root_holds : HasCliHeader image → Surely (HasRoot image)
  root_holds cli k = no_fault 5 Whole (IsImageFault.in_root headers_hold cli k)

  -- ---- tables

  module _ (cli : HasCliHeader image) (root : HasRoot image) where
    no_table_fault : (f : TableFault) → IsFault (tables_of image) f → ⊥
    no_table_fault f is = no_fault f.rule (Row f.table f.row) (IsImageFault.in_tables headers_hold cli root is)

    header_fits : header_size (tables_of image) ≤ length (tables_of image)
    header_fits = elim (at_most_or_over (header_size (tables_of image)) (length (tables_of image))) [
      | inl fits ↦ fits
      | inr cut ↦ absurd (no_table_fault (record { rule = 6; table = 0; row = 0 }) (inl (record { rule = refl; table = refl; row = refl; cut = cut })))
    ]

    none_foreign_below : (n t : ℕ) → t < n → IsForeign (tables_of image) t → ⊥
    none_foreign_below zero t low foreign = omega arith
    none_foreign_below (suc n) t low foreign =
        no_table_fault (record { rule = 6; table = t; row = 0 }) (inr (inl (record { rule = refl; row = refl; header = header_fits; foreign = foreign; first = λ u less other. none_foreign_below n u (omega arith) other })))

    none_foreign : (t : ℕ) → IsForeign (tables_of image) t → ⊥
    none_foreign t foreign = none_foreign_below (suc t) t (omega arith) foreign

    abbrev Fits : ℕ → ℕ → Type 0
    Fits t r = IsRow (tables_of image) t r → row_end (tables_of image) t r ≤ length (tables_of image)

    row_fits : (t r : ℕ) → ((u s : ℕ) → IsEarlier u s t r → Fits u s) → Fits t r
    row_fits t r before there = elim (at_most_or_over (row_end (tables_of image) t r) (length (tables_of image))) [
      | inl fits ↦ fits
      | inr cut ↦ absurd (no_table_fault (record { rule = 7; table = t; row = r }) (inr (inr (record { rule = refl; header = header_fits; tables = none_foreign; there = there; cut = cut; first = λ u s is less. before u s less is }))))
    ]

    rows_fit_below : (t : ℕ) → ((u s : ℕ) → u < t → Fits u s) → (n r : ℕ) → r < n → Fits t r
    rows_fit_below t before zero r low there = absurd (omega arith)
    rows_fit_below t before (suc n) r low there = row_fits t r (λ u s less. go u s less (rows_fit_below t before n s)) there
      where
        go : (u s : ℕ) → IsEarlier u s t r → (s < n → Fits t s) → Fits u s
        go u s (inl less) here = before u s less
        go u s (inr same) here = subst (λ (x : ℕ). Fits x s) (sym same.0) (here (omega (arith, same.1)))

    tables_fit_below : (n t r : ℕ) → t < n → Fits t r
    tables_fit_below zero t r low there = absurd (omega arith)
    tables_fit_below (suc n) t r low there = rows_fit_below t (λ u s less. tables_fit_below n u s (omega arith)) (suc r) r (omega arith) there

    tables_hold : HasTables image
    tables_hold = record { headers = headers_hold; cli = cli; root = root; whole = record { header = header_fits; tables = none_foreign; rows = λ t r there. tables_fit_below (suc t) t r (omega arith) there } }

  -- ---- demands on rows

  module _ (tables : HasTables image) where
    rule_holds : (names : NameMap) (rule : RowRule) → NamedFor image names rule → HoldBefore image names rule → Surely (AllMeet image names rule)
    rule_holds names rule named before =
        all_meet (RowMeets image names rule) 45 (count_of image) (λ t r out. outside_meets image names tables t r out rule)
        (λ t r bad first. no_fault (number_of rule) (Row t r) (IsImageFault.in_row names tables named before (record { bad = bad; first = first }) refl))

    -- all demands with lower numbers hold
    abbrev HoldBelow : NameMap → ℕ → Type 0
    HoldBelow names n = (rule : RowRule) → number_of rule < n → Holds image names rule

    entry_holds : AllMeet image no_names indexes → Surely (HasEntry image)
    entry_holds all k = no_fault 8 Whole (IsImageFault.in_entry tables all k)

    -- the rules with their numbers
    next : (names : NameMap) (n : ℕ) → HoldBelow names n → (rule : RowRule) → number_of rule ≡ n → Holds image names rule → ((other : RowRule) → number_of other ≡ n → other ≡ rule) → HoldBelow names (suc n)
    next names n before rule e holds only other low = elim (at_most_or_over n (number_of other)) [
      | inl late ↦ let same : other ≡ rule = only other (omega arith) in subst (Holds image names) (sym same) holds
      | inr early ↦ before other early
    ]

    whole : (names : NameMap) (rule : RowRule) → AllMeet image names rule → Surely (Holds image names rule)
    whole names indexes all k = entry_holds all (λ entry. k (all, entry))
    whole names entries all k = k all
    whole names manifest all k = k all
    whole names runs all k = k all
    whole names order all k = k all
    whole names scopes all k = k all
    whole names signatures all k = k all
    whole names distinct all k = k all
    whole names values all k = k all
    whole names header all k = k all
    whole names instructions all k = k all
    whole names clauses all k = k all
    whole names tokens all k = k all
    whole names attributes all k = k all
    whole names bases all k = k all
    whole names accessors all k = k all

    advance : (names : NameMap) (n : ℕ) (rule : RowRule) → number_of rule ≡ n → NamedFor image names rule → HoldBelow names n → Surely (HoldBelow names (suc n))
    advance names n rule e named before k =
        rule_holds names rule named (λ other low. before other (omega arith)) (λ all. whole names rule all (λ holds. k (next names n before rule e holds (λ other o. same_rule other rule (o ∙ sym e)))))

    -- up to I13 no names are wanted
    unnamed : (rule : RowRule) → number_of rule < 14 → NamedFor image no_names rule
    unnamed rule early late = absurd (omega arith)

    first_hold : Surely (HoldBelow no_names 14)
    first_hold k =
        advance no_names 8 indexes refl (unnamed indexes (omega arith)) (λ rule low. absurd (omega (arith, (numbered rule).0)))
        (λ b9. advance no_names 9 entries refl (unnamed entries (omega arith)) b9
        (λ b10. advance no_names 10 manifest refl (unnamed manifest (omega arith)) b10
        (λ b11. advance no_names 11 runs refl (unnamed runs (omega arith)) b11
        (λ b12. advance no_names 12 order refl (unnamed order (omega arith)) b12
        (λ b13. advance no_names 13 scopes refl (unnamed scopes (omega arith)) b13 k)))))

    last_hold : (names : NameMap) → AreNamings image names → HoldBelow names 14 → Surely (HoldBelow names 24)
    last_hold names named b14 k =
        advance names 14 signatures refl (λ late. named) b14
        (λ b15. advance names 15 distinct refl (λ late. named) b15
        (λ b16. advance names 16 values refl (λ late. named) b16
        (λ b17. advance names 17 header refl (λ late. named) b17
        (λ b18. advance names 18 instructions refl (λ late. named) b18
        (λ b19. advance names 19 clauses refl (λ late. named) b19
        (λ b20. advance names 20 tokens refl (λ late. named) b20
        (λ b21. advance names 21 attributes refl (λ late. named) b21
        (λ b22. advance names 22 bases refl (λ late. named) b22
        (λ b23. advance names 23 accessors refl (λ late. named) b23 k)))))))))

    -- ---- the assembly

    module _ (short : length image ≤ 2 ^ 26) (namings : NamingExists) (assemblies : AssemblyExists) (no_read : (a : Assembly) → Reads image a → ⊥) where
      with_assembly : (names : NameMap) → AreNamings image names → ((rule : RowRule) → Holds image names rule) → (a : Assembly) × IsAssembly image names a → ⊥
      with_assembly names named rows a = elim (at_most_or_over (weight_of a.0) max_weight) [
        | inl fits ↦ no_read a.0 (record { tables = tables; names = names; named = named; rows = rows; parts = a.1; weight = fits })
        | inr over ↦ no_fault 24 Whole (IsImageFault.too_large tables named rows a.1 over)
      ]

      with_names : HoldBelow no_names 14 → (names : NameMap) × AreNamings image names → ⊥
      with_names first n =
          last_hold n.0 n.1 (λ rule low. any_names image no_names n.0 rule low (first rule low))
          (λ all. let rows = λ (rule : RowRule). all rule (numbered rule).1 in with_assembly n.0 n.1 rows (assemblies image n.0 short tables n.1 rows))

      with_tables : ⊥
      with_tables = first_hold (λ first. with_names first (namings image no_names short tables (λ rule low. first rule low)))

pub never_neither : NamingExists → AssemblyExists → (image : List ℕ) → length image ≤ 2 ^ 26 → ((a : Assembly) → Reads image a → ⊥) → ((rule : ℕ) (at : Place) → IsImageFault image rule at → ⊥) → ⊥
never_neither namings assemblies image short no_read no_fault =
    cli_holds image no_fault (λ cli. root_holds image no_fault cli (λ root. with_tables image no_fault (tables_hold image no_fault cli root) short namings assemblies no_read))
