use Rattle.std.proofs.Common.{◌≡◌, ◌++◌, ℕ, ap, ◌∙◌}
use Rattle.std.specs.Prelude.{slice_index}
use Rattle.std.proofs.lemmas.Result.{on_ok_weaker}
use Rattle.metadata_tables.specs.Bytes.{header_bytes, number_bytes, mask_upto}
use Rattle.metadata_tables.proofs.Joins.{four_more}
use Rattle.metadata_tables.proofs.encoding.push_header.Goals as goal

pub returns : goal.returns
unfolding header_bytes
returns c =
    let mask : c.push_number.new.out ≡ c.extend.new.self ++ number_bytes 8 (mask_upto (slice_index c.args.counts.now) 45) = c.in_ok-push_number.ensures ∙ ap (λ (m : ℕ). c.extend.new.self ++ number_bytes 8 m) c.present.ensures in
    on_ok_weaker c.push_counts.result (λ added. four_more c.args.out.now _ _ _ _ c.extend.new.self c.push_number.new.out c.push_number-2.new.out c.push_counts.new.out c.in_ok-extend.ensures.ok mask c.in_ok-push_number-2.ensures added) c.push_counts.ensures
