-- The rows have one number exactly where they name one type.
use Rattle.std.proofs.Common.{◌≡◌, ℕ, ◌+◌, ◌-◌, ◌<◌, ◌≤◌, Bool, List, length, map, get_or, refl, sym, ◌∙◌, ap, subst, arith}
use Rattle.std.specs.Prelude.{◌↔◌}
use Rattle.std.proofs.lemmas.List.{get_or-map}
use Rattle.heaps.specs.LookUp.{BlobIsComputed}
use Rattle.body_codec.specs.Names.{NameMap}
use Rattle.image_model.specs.Columns.{interface_type}
use Rattle.image_model.specs.ReadLaws.{OneNaming}
use Rattle.image_model.specs.Namings.{AreNamings}
use Rattle.image_model.specs.Reading.{OwnerIs}
use Rattle.image_model.specs.Rows.{count_of, HasRow}
use Rattle.signature_facts.specs.Scanning.{OwnersFacts}
use Rattle.told_weights.specs.Fresh.{NameOneType, NumberTypes}
use Rattle.twin_numbers.specs.Numbered.{NumberTwins}
use Rattle.type_terms.specs.declared.term.Owner.{Owner}
use Rattle.interface_numbers.specs.Known.{AreKnown, SameType}
use Rattle.interface_numbers.specs.Places.{ArePlaced}
use Rattle.interface_numbers.proofs.Likening.{one_key}

module _ (image : List ℕ) (facts : OwnersFacts) (canon : ℕ → ℕ → Bool) (known : AreKnown image facts canon) (computed : BlobIsComputed) (law : OneNaming) where
  -- one type along two rows
  along : (a b c : ℕ) → SameType image a b → SameType image b c → SameType image a c
  along a b c h k names tell =
      let s = h names tell in
      let m = k names tell in
      (s.0, s.1, subst (λ (o : Owner). OwnerIs image names (interface_type image c) o) (sym (known.one names tell (interface_type image b) s.0 m.0 s.2 m.1)) m.2)

  turned : (a b : ℕ) → SameType image a b → SameType image b a
  turned a b h names tell = let s = h names tell in (s.0, s.2, s.1)

  module _ (places heads twins : List ℕ) (placed : ArePlaced image (count_of image 0x09) places heads)
      (twin : NumberTwins (length heads - 1) (λ one other. SameType image (get_or heads one 0) (get_or heads other 0)) twins) where
    -- the row that stands for a row
    stands : (row : ℕ) → HasRow image 0x09 row → SameType image (get_or heads (get_or places row 0) 0) row
    stands row there =
        let p = placed.each row there.0 there.1 in
        one_key image facts canon known computed (get_or heads (get_or places row 0) 0) row (placed.rows (get_or places row 0) p.0 p.1) there p.2

    number_at : (row : ℕ) → HasRow image 0x09 row → get_or (map (λ (p : ℕ). get_or twins p 0) places) row 0 ≡ get_or twins (get_or places row 0) 0
    number_at row there =
        let long = placed.long in
        let upto = there.1 in
        get_or-map (λ (p : ℕ). get_or twins p 0) places row 0 0 (omega (arith, long, upto))

    pub numbered : (numbers : List ℕ) → numbers ≡ map (λ (p : ℕ). get_or twins p 0) places → NumberTypes image numbers
    numbered numbers e names row other tell there at =
        let p = placed.each row there.0 there.1 in
        let q = placed.each other at.0 at.1 in
        let some = placed.some in
        let p_in = p.1 in
        let q_in = q.1 in
        let t = twin (get_or places row 0) (get_or places other 0) (p.0, omega (arith, some, p_in)) (q.0, omega (arith, some, q_in)) in
        let x : get_or numbers row 0 ≡ get_or twins (get_or places row 0) 0 = ap (λ (ns : List ℕ). get_or ns row 0) e ∙ number_at row there in
        let y : get_or numbers other 0 ≡ get_or twins (get_or places other 0) 0 = ap (λ (ns : List ℕ). get_or ns other 0) e ∙ number_at other at in
        let h = get_or heads (get_or places row 0) 0 in
        let k = get_or heads (get_or places other 0) 0 in (
          λ same. along row h other (turned h row (stands row there)) (along h k other (t.0 (sym x ∙ same ∙ y)) (stands other at)) names tell,
          λ one.
              let same : SameType image row other = λ others are. subst (λ (n : NameMap). NameOneType image n row other) (law image names others tell are) one in
              x ∙ t.1 (along h row k (stands row there) (along row other k same (turned k other (stands other at)))) ∙ sym y,
        )
