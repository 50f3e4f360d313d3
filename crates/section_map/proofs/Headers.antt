-- What lies in a file that is opened.
use Rattle.std.proofs.Common.{◌≡◌, ℕ, ◌+◌, ◌*◌, ◌≤◌, true, List, None, length, inl, inr}
use Rattle.std.proofs.lemmas.Bool.{and_parts, cases_Bool, leb-true}
use Rattle.pe_layout.specs.Faults.{has_headers, pe_fault}
use Rattle.pe_layout.specs.Headers.{signature_place_of, section_table_of, section_count_of}
use Rattle.pe_layout.proofs.FirstFault.{fault_headers}

-- the DOS header, the PE file header and the section headers do
pub record LieInside (image : List ℕ) : Type 0 where
  pub dos : 64 ≤ length image
  pub file : signature_place_of image + 24 ≤ length image
  pub sections : section_table_of image + 40 * section_count_of image ≤ length image

there : (image : List ℕ) → has_headers image ≡ true → LieInside image
unfolding has_headers
there image e =
    let p = and_parts _ _ e in
    let q = and_parts _ _ p.0 in
    let r = and_parts _ _ q.0 in
    let s = and_parts _ _ r.0 in
    record { dos = leb-true _ _ s.0; file = leb-true _ _ r.1; sections = leb-true _ _ p.1 }

pub opened : (image : List ℕ) → pe_fault image ≡ None → LieInside image
opened image none = elim (cases_Bool (has_headers image)) [ inl it ↦ there image it | inr bad ↦ let e = fault_headers image bad in absurd cc ]
