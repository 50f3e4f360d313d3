use Rattle.std.proofs.Common.{◌∙◌, ap, cond, nat_eq, Some, length}
use Rattle.hash_places.specs.Slots.{place_of}
use Rattle.kept_names.specs.Keeping.{at_place}
use Rattle.kept_names.proofs.Keeping.{kept_more}
use Rattle.kept_names.proofs.kept.Kept.keep.Goals as goal

pub returns : goal.returns
returns g c = record {
  ok = λ q.
      let old = c.args.self.now in
      ap (at_place c.push.new.self) (c.in_ok-insert.ensures.ok q)
      ∙ ap (λ items. at_place items (cond (nat_eq c.args.key q) (Some (length c.as_slice-place.result.now)) (place_of old.places q))) c.in_ok-push.ensures.ok
      ∙ kept_more old.items c.args.item (nat_eq c.args.key q) (length c.as_slice-place.result.now) (place_of old.places q) (ap length c.as_slice-place.ensures) (λ k e. old.within q k e);
}
