use Rattle.std.proofs.Common.{subst, List, ℕ, arith}
use Rattle.image_model.specs.Tidy.{IsTidy}
use Rattle.il_tools.proofs.FitsLemmas.{fits_made}
use Rattle.il_tools.proofs.assembling.image_of_written.Goals as goal

pub returns-in-Ok-clause-image : goal.returns-in-Ok-clause-image
returns-in-Ok-clause-image c =
    let fits = fits_made c.args.written.now c.write.result c.in-Ok.image c.in-Ok.is c.write.ensures.too_large c.write.ensures.strings_full in
    let of = c.requires.written in
    let weight = of.weight in
    let room = of.room in
    let small = c.in-Ok.ensures.small in
    record {
      meant = of.meant;
      denoted = of.denoted;
      fits = record { weight = omega (arith, fits.weight, weight); room = omega (arith, fits.room, room) };
      written = c.args.written.now;
      chosen = of.chosen;
      reads = c.in-Ok.ensures.reads;
      short = omega (arith, small, weight);
      tidy = subst (λ (id : List ℕ). IsTidy c.in-Ok.image c.args.kind id) c.identifier_of.ensures c.in-Ok.ensures.tidy;
    }
