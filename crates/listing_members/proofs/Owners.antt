-- Owners between commas are read back.
use Rattle.std.proofs.Common.{◌≡◌, ℕ, suc, ◌+◌, true, List, [], ◌∷◌, ◌++◌, map, refl, ap, ◌∙◌, append-nil}
use Rattle.std.proofs.lemmas.Bool.{and_parts}
use Rattle.std.specs.List.{list_all}
use Rattle.ilasm_grammar.specs.declared.productions.TheConstants as p
use Rattle.type_terms.specs.declared.term.Owner.{Owner}
use Rattle.assembly_tree.specs.WellFormedTerms.{is_owner}
use Rattle.assembly_tree.specs.declared.assembly.Assembly.{Assembly}
use Rattle.source_model.specs.Forest as f
use Rattle.source_model.specs.Nodes.{Around}
use Rattle.source_model.specs.Source.{Source}
use Rattle.source_model.specs.Types.{owners_in, types_in}
use Rattle.listing_formed.specs.Laws.{Knows, FormedAreRead}
use Rattle.listing_growth.specs.Held.{is_owner_held}
use Rattle.listing_model.specs.Members.{specs}
use Rattle.listing_model.specs.Shown.{Shown, Item, size, star_production, star_below, behind_comma}
use Rattle.listing_model.specs.Types.{owner}
use Rattle.listing_reading.specs.Numbered.{numbered, Agrees}
use Rattle.listing_members.specs.Laws.{OwnersAreRead}

module _ (formed : FormedAreRead) (s : Source) (around : Around) (a : Assembly) (knows : Knows s a) where
  abbrev others : List Owner → List Item
  others os = map (behind_comma p.COMMA_SPEC) (map (owner a.externs) os)

  abbrev row : ℕ → List Owner → f.Forest → f.Forest
  row at os after = f.branch (star_production p.COMMA_SPEC_STAR_MORE p.COMMA_SPEC_STAR_END (others os)) (numbered at (star_below p.COMMA_SPEC_STAR_MORE p.COMMA_SPEC_STAR_END (others os))) after

  owners_row : (os : List Owner) → list_all (is_owner a) os ≡ true → list_all is_owner_held os ≡ true → (at : ℕ) →
      Agrees s at (star_below p.COMMA_SPEC_STAR_MORE p.COMMA_SPEC_STAR_END (others os)) → (after : f.Forest) →
      owners_in s around (row at os after) ≡ os ++ owners_in s around after
  unfolding types_in
  owners_row [] m h at ag after = refl
  owners_row (o ∷ os) m h at ag after =
      let ms = and_parts (is_owner a o) (list_all (is_owner a) os) m in
      let hs = and_parts (is_owner_held o) (list_all is_owner_held os) h in
      let next = at + size (behind_comma p.COMMA_SPEC (owner a.externs o)).below in
      ap (λ us. (us ++ owners_in s around (row next os f.none)) ++ owners_in s around after) (formed.owners s around a knows o ms.0 hs.0 (suc at) ag.0.1.0 f.none)
      ∙ ap (λ us. o ∷ (us ++ owners_in s around after)) (owners_row os ms.1 hs.1 next ag.1.0 f.none ∙ append-nil os)

  owners_are : (os : List Owner) → list_all (is_owner a) os ≡ true → list_all is_owner_held os ≡ true → (at : ℕ) (after : Shown) →
      Agrees s at (specs a.externs os after) → ((k : ℕ) → owners_in s around (numbered k after) ≡ []) → owners_in s around (numbered at (specs a.externs os after)) ≡ os
  owners_are [] m h at after ag none = none at
  owners_are (o ∷ os) m h at after ag none =
      let ms = and_parts (is_owner a o) (list_all (is_owner a) os) m in
      let hs = and_parts (is_owner_held o) (list_all is_owner_held os) h in
      let from = at + size (owner a.externs o).below in
      let past = from + size (star_below p.COMMA_SPEC_STAR_MORE p.COMMA_SPEC_STAR_END (others os)) in
      formed.owners s around a knows o ms.0 hs.0 at ag.0 (row from os (numbered past after))
      ∙ ap (λ us. o ∷ us) (owners_row os ms.1 hs.1 from ag.1.0 (numbered past after) ∙ (ap (λ us. os ++ us) (none past) ∙ append-nil os))

pub owners_are_read : FormedAreRead → OwnersAreRead
owners_are_read formed s around a knows os m h at after ag none = owners_are formed s around a knows os m h at after ag none
