-- Row numbers fit the widths that follow from the row counts.
use Rattle.std.proofs.Common.{◌≡◌, ℕ, ◌+◌, ◌-◌, ◌*◌, ◌^◌, ◌<◌, ◌≤◌, List, [], ◌∷◌, Some, refl, sym, arith, Bool, true, eqb, ltb, ⊎_elim, pow_mono}
use Rattle.std.specs.List.{list_all, find}
use Rattle.std.specs.Option.{option_map}
use Rattle.std.proofs.lemmas.Bool.{and_parts, cases_Bool, cases_eq, cases_lt, eqb-true, eq-eqb, ne_eqb, lt-ltb, le-ltb, ltb-true}
use Rattle.std.proofs.lemmas.Nat.{pow-add, mul-add-lt}
use Rattle.metadata_tables.specs.CodedIndex.{tag_bits, tags, tag_of}
use Rattle.metadata_tables.specs.Stream.{simple_width, coded_width}
use Rattle.metadata_tables.specs.Indexes.{run_cell, run_row, IndexesFit}
use Rattle.metadata_tables.specs.declared.coded.Coded.{Coded}
use Rattle.metadata_tables.specs.declared.coded.Coded.TheVariants.{TypeDefOrRef, HasConstant, HasCustomAttribute, MemberRefParent, HasSemantics, MethodDefOrRef, CustomAttributeType, ResolutionScope, TypeOrMethodDef}
use Rattle.metadata_tables.proofs.Tags.{tag_fits}

-- a number below the count's limit, or any with 4 bytes
narrow : (counts : ℕ → ℕ) (table x : ℕ) → (counts table < 2 ^ 16 → x < 2 ^ 16) → x < 2 ^ 32 → x < 256 ^ simple_width counts table
narrow counts table x small any = ⊎_elim
    (λ below. let e = lt-ltb (counts table) (2 ^ 16) below in rw e (small below))
    (λ above. let e = le-ltb (counts table) (2 ^ 16) above in rw e any)
    (cases_lt (counts table) (2 ^ 16))

simple : (counts : ℕ → ℕ) (table row : ℕ) → row ≤ counts table → counts table < 2 ^ 24 → row < 256 ^ simple_width counts table
simple counts table row h few =
    narrow counts table row (λ below. omega (arith, h, below)) (omega (arith, h, few))

run_is : (count row : ℕ) → row ≡ 65536 → count ≡ 65535 → run_cell count row ≡ 0
run_is count row e f =
    let a = eq-eqb count 65535 f in let b = eq-eqb row 65536 e in rw (a, b) refl

run_plain : (count row : ℕ) → (row ≡ 65536 → count ≡ 65535 → ⊥) → run_cell count row ≡ row
run_plain count row apart = ⊎_elim
    (λ full. let a = eq-eqb count 65535 full in let b = ne_eqb row 65536 (λ e. apart e full) in rw (a, b) refl)
    (λ other. let a = ne_eqb count 65535 other in rw a refl)
    (cases_eq count 65535)

run : (counts : ℕ → ℕ) (table row : ℕ) → row ≤ counts table + 1 → counts table < 2 ^ 24 → run_cell (counts table) row < 256 ^ simple_width counts table
run counts table row h few = ⊎_elim
    (λ last. ⊎_elim
    (λ full. let e = run_is (counts table) row last full in
    rw e (narrow counts table 0 (λ below. omega arith) (omega arith)))
    (λ other. let e = run_plain (counts table) row (λ a b. other b) in
    rw e (narrow counts table row (λ below. absurd (omega (arith, h, last, other, below))) (omega (arith, h, few))))
    (cases_eq (counts table) 65535))
    (λ before. let e = run_plain (counts table) row (λ a b. before a) in
    rw e (narrow counts table row (λ below. omega (arith, h, below, before)) (omega (arith, h, few))))
    (cases_eq row 65536)

row_plain : (count cell : ℕ) → (cell ≡ 0 → ⊥) → run_row count cell ≡ cell
row_plain count cell some = ⊎_elim
    (λ full. let a = eq-eqb count 65535 full in let b = ne_eqb cell 0 some in rw (a, b) refl)
    (λ other. let a = ne_eqb count 65535 other in rw a refl)
    (cases_eq count 65535)

run_back : (count row : ℕ) → 0 < row → run_row count (run_cell count row) ≡ row
run_back count row some = ⊎_elim
    (λ last. ⊎_elim
    (λ full. let e = run_is count row last full in let a = eq-eqb count 65535 full in rw e (rw a (sym last)))
    (λ other. let e = run_plain count row (λ a b. other b) in rw e (row_plain count row (λ z. omega (arith, z, some))))
    (cases_eq count 65535))
    (λ before. let e = run_plain count row (λ a b. before a) in rw e (row_plain count row (λ z. omega (arith, z, some))))
    (cases_eq row 65536)

-- what is true of each table of a kind is true of one that has a tag
of_table : (test : ℕ → Bool) (ps : List (ℕ × ℕ)) (t v : ℕ) → list_all (λ p. test p.0) ps ≡ true → option_map (λ p. p.1) (find (λ p. eqb p.0 t) ps) ≡ Some v → test t ≡ true
of_table test [] t v all e = cc
of_table test (p ∷ ps) t v all e =
    let both : (test p.0 ≡ true) × (list_all (λ q. test q.0) ps ≡ true) = and_parts _ _ all in
    ⊎_elim
    (λ h. let same : p.0 ≡ t = eqb-true p.0 t h in rw same at both.0)
    (λ h. of_table test ps t v both.1 (rw h at e))
    (cases_Bool (eqb p.0 t))

bits_few : (kind : Coded) → tag_bits kind ≤ 5
bits_few TypeDefOrRef = omega arith
bits_few HasConstant = omega arith
bits_few HasCustomAttribute = omega arith
bits_few MemberRefParent = omega arith
bits_few HasSemantics = omega arith
bits_few MethodDefOrRef = omega arith
bits_few CustomAttributeType = omega arith
bits_few ResolutionScope = omega arith
bits_few TypeOrMethodDef = omega arith

-- a row above a tag
placed : (row tag bits high : ℕ) → row < 2 ^ high → tag < 2 ^ bits → row * 2 ^ bits + tag < 2 ^ (bits + high)
placed row tag bits high r t = rw (pow-add 2 bits high) (mul-add-lt row (2 ^ bits) tag (2 ^ high) r t)

coded : (counts : ℕ → ℕ) (kind : Coded) (table row tag : ℕ) → tag_of kind table ≡ Some tag → row ≤ counts table → counts table < 2 ^ 24 → row * 2 ^ tag_bits kind + tag < 256 ^ coded_width counts (tag_bits kind) (tags kind)
unfolding tag_of
coded counts kind table row tag e h few =
    let b : ℕ = tag_bits kind in
    let small = bits_few kind in
    let fits = tag_fits kind table tag e in
    ⊎_elim
    (λ all. let below : counts table < 2 ^ (16 - b) = ltb-true _ _ (of_table (λ t. ltb (counts t) (2 ^ (16 - b))) (tags kind) table tag all e) in
    let sum : b + (16 - b) ≡ 16 = omega (arith, small) in
    let place : row * 2 ^ b + tag < 2 ^ 16 = rw sum at (placed row tag b (16 - b) (omega (arith, h, below)) fits) in
    rw all place)
    (λ some. let place = placed row tag b 24 (omega (arith, h, few)) fits in
    let bits : b + 24 ≤ 29 = omega (arith, small) in
    let more : 2 ^ (b + 24) ≤ 2 ^ 29 = pow_mono bits in
    rw some (omega (arith, place, more)))
    (cases_Bool (list_all (λ pair. ltb (counts pair.0) (2 ^ (16 - tag_bits kind))) (tags kind)))

pub fit : IndexesFit
fit = record { simple = simple; run = run; run_back = run_back; coded = coded }
