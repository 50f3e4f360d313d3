-- What can be read, by the first section that holds an address.
use Rattle.std.proofs.Common.{◌≡◌, ℕ, ◌+◌, ◌*◌, ◌<◌, ◌≤◌, inl, inr, true, List, [], length, refl, sym, ◌∙◌, ap, subst, arith}
use Rattle.pe_layout.specs.FileMap.{section_at, holds, readable}
use Rattle.pe_layout.specs.Headers.{section_count_of}
use Rattle.pe_layout.specs.View.{readable_in}
use Rattle.pe_layout.proofs.Readable.{readable_found, readable_none}
use Rattle.section_map.specs.declared.step.Step.{Step}
use Rattle.section_map.specs.Firsts.{first_holding, first_from, holds_at}
use Rattle.section_map.specs.Maps.{IsMap}
use Rattle.section_map.proofs.Firsts.{IsFirst, first_is, section_found, section_none}

pub nothing_there : (image : List ℕ) (table : ℕ) (steps : List Step) (rva first : ℕ) → IsMap image table steps → first ≡ first_holding image table 0 (section_count_of image) rva
    → first ≡ 65536 → readable image rva ≡ []
nothing_there image table steps rva first m e none =
    readable_none image rva table (section_count_of image) m.table_is refl
    (sym (section_none image table rva 0 (section_count_of image) table (omega arith) (let few = m.few in omega (arith, few)) (sym e ∙ none)))

-- the section is one of those in the headers
pub record IsThere (image : List ℕ) (table rva first : ℕ) : Type 0 where
  pub within : table + 40 * first + 40 ≤ length image
  pub held : holds rva (section_at image (table + 40 * first)) ≡ true
  pub found : readable image rva ≡ readable_in image rva (section_at image (table + 40 * first))

one_there : (image : List ℕ) (table : ℕ) (steps : List Step) (rva first : ℕ) → IsMap image table steps → first ≡ first_holding image table 0 (section_count_of image) rva
    → (first ≡ 65536 → ⊥) → IsFirst (holds_at image table rva) 0 (section_count_of image) first → IsThere image table rva first
one_there image table steps rva first m e some (inl none) = absurd (some none)
one_there image table steps rva first m e some (inr (low, high, it)) =
    let few = m.few in
    let inside = m.within in
    let below : first < 65536 = omega (arith, high, few) in
    let below_all : first_from (holds_at image table rva) 0 (section_count_of image) < 65536 = omega (arith, below, e) in
    let at = section_found image table rva 0 (section_count_of image) table (omega arith) below_all in
    record {
      within = omega (arith, inside, high);
      held = it;
      found =
          readable_found image rva table (section_count_of image) (section_at image (table + 40 * first_from (holds_at image table rva) 0 (section_count_of image))) m.table_is refl (sym at)
          ∙ ap (λ k. readable_in image rva (section_at image (table + 40 * k))) (sym e);
    }

pub section_there : (image : List ℕ) (table : ℕ) (steps : List Step) (rva first : ℕ) → IsMap image table steps → first ≡ first_holding image table 0 (section_count_of image) rva
    → (first ≡ 65536 → ⊥) → IsThere image table rva first
section_there image table steps rva first m e some =
    one_there image table steps rva first m e some (subst (IsFirst (holds_at image table rva) 0 (section_count_of image)) (sym e) (first_is (holds_at image table rva) 0 (section_count_of image)))
