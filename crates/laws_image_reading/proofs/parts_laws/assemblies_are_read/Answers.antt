-- answers for src/laws.rt
use Rattle.std.proofs.Common.{subst, ℕ}
use Rattle.image_layout.specs.LaidOut.{IsLaidOut}
use Rattle.laws_image_reading.proofs.parts.Whole.{assembly_read}
use Rattle.laws_image_reading.specs.parts.Held.{IsHeld}
use Rattle.laws_image_reading.proofs.parts_laws.assemblies_are_read.Goals as goal

pub returns : goal.returns
returns c = λ a classes r tables code entry id kind image f l e formed light ranges names named back.
    let h : IsHeld a classes r tables code id kind image names = record {
      filled = f;
      laid_out = subst (λ (n : ℕ). IsLaidOut a.manifest r tables code n id kind image) e l;
      formed = formed;
      light = light;
      ranges = ranges;
      named = named;
      back = back;
    } in
    assembly_read a classes r tables code id kind image names h (c.rows_are_known.ensures a classes r tables code entry id kind image f l)
    c.parts_are_read.ensures c.types_are_nested.ensures (c.manifests_are_named.ensures a classes r tables code id kind image names h)
    (c.fields_are_named.ensures a classes r tables code id kind image names h) (c.methods_are_named.ensures a classes r tables code id kind image names h)
    (c.types_are_named.ensures a classes r tables code id kind image names h)
