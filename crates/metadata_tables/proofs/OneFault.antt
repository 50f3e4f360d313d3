-- A stream has one fault at most, and a whole stream has none.
use Rattle.std.proofs.Common.{◌≡◌, ℕ, List, sym, ◌∙◌, arith, inl, inr, ⊎_elim}
use Rattle.std.proofs.lemmas.Bool.{cases_order}
use Rattle.metadata_tables.specs.Faults.{IsWhole, IsFault, IsHeaderFault, IsProfileFault, IsRowFault}
use Rattle.metadata_tables.specs.Laws.{OneFault}
use Rattle.metadata_tables.specs.declared.fault.TableFault.{TableFault}

same_fault : (a b : TableFault) → a.rule ≡ b.rule → a.table ≡ b.table → a.row ≡ b.row → a ≡ b
same_fault a b p q r = λ i. record { rule = p i; table = q i; row = r i }

module _ (stream : List ℕ) where
  none : (fault : TableFault) → IsWhole stream → IsFault stream fault → ⊥
  none fault w is = ⊎_elim
      (λ h. let cut = h.cut in let header = w.header in omega (arith, cut, header))
      (λ rest. ⊎_elim
      (λ p. w.tables fault.table p.foreign)
      (λ r. let cut = r.cut in let ends = w.rows fault.table fault.row r.there in omega (arith, cut, ends))
      rest)
      is

  both_headers : (a b : TableFault) → IsHeaderFault stream a → IsHeaderFault stream b → a ≡ b
  both_headers a b x y = same_fault a b (x.rule ∙ sym y.rule) (x.table ∙ sym y.table) (x.row ∙ sym y.row)

  both_profiles : (a b : TableFault) → IsProfileFault stream a → IsProfileFault stream b → a ≡ b
  both_profiles a b x y = ⊎_elim
      (λ same. same_fault a b (x.rule ∙ sym y.rule) same (x.row ∙ sym y.row))
      (λ apart. ⊎_elim (λ below. absurd (y.first a.table below x.foreign)) (λ above. absurd (x.first b.table above y.foreign)) apart)
      (cases_order a.table b.table)

  both_rows : (a b : TableFault) → IsRowFault stream a → IsRowFault stream b → a ≡ b
  both_rows a b x y =
      let x_cut = x.cut in
      let y_cut = y.cut in
      ⊎_elim
      (λ same. ⊎_elim
      (λ row. same_fault a b (x.rule ∙ sym y.rule) same row)
      (λ apart. ⊎_elim
      (λ below. let ends = y.first a.table a.row x.there (inr (same, below)) in absurd (omega (arith, ends, x_cut)))
      (λ above. let ends = x.first b.table b.row y.there (inr (sym same, above)) in absurd (omega (arith, ends, y_cut)))
      apart)
      (cases_order a.row b.row))
      (λ apart. ⊎_elim
      (λ below. let ends = y.first a.table a.row x.there (inl below) in absurd (omega (arith, ends, x_cut)))
      (λ above. let ends = x.first b.table b.row y.there (inl above) in absurd (omega (arith, ends, y_cut)))
      apart)
      (cases_order a.table b.table)

  one : (a b : TableFault) → IsFault stream a → IsFault stream b → a ≡ b
  one a b x y = ⊎_elim
      (λ xh. let cut = xh.cut in ⊎_elim
      (λ yh. both_headers a b xh yh)
      (λ rest. ⊎_elim
      (λ yp. let header = yp.header in absurd (omega (arith, cut, header)))
      (λ yr. let header = yr.header in absurd (omega (arith, cut, header)))
      rest)
      y)
      (λ later. ⊎_elim
      (λ xp. let header = xp.header in ⊎_elim
      (λ yh. let cut = yh.cut in absurd (omega (arith, cut, header)))
      (λ rest. ⊎_elim (λ yp. both_profiles a b xp yp) (λ yr. absurd (yr.tables a.table xp.foreign)) rest)
      y)
      (λ xr. let header = xr.header in ⊎_elim
      (λ yh. let cut = yh.cut in absurd (omega (arith, cut, header)))
      (λ rest. ⊎_elim (λ yp. absurd (xr.tables b.table yp.foreign)) (λ yr. both_rows a b xr yr) rest)
      y)
      later)
      x

pub one_fault : OneFault
one_fault = record { one = one; none = none }
