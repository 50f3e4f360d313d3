use Rattle.image_tokens.proofs.EachRowLemmas.{one_at_most, path_one}
use Rattle.image_tokens.proofs.PathLemmas.{goes_on_either}
use Rattle.image_tokens.proofs.type_paths.referred_in.Goals as goal

pub returns-clause-goes_on : goal.returns-clause-goes_on
returns-clause-goes_on c = goes_on_either c.args.rows.now c.number.new.self _ c.number.result c.number.ensures.kept c.number.ensures.err

pub returns-clause-adds : goal.returns-clause-adds
returns-clause-adds c =
    path_one c.add_id.new.strings c.args.scope c.in_ok-name.name c.in_ok-name.space c.args.id.now c.args.rows.now c.number.new.self c.in_ok-name.ensures.holds
    (one_at_most c.args.rows.now c.number.new.self _ c.number.result c.number.ensures.kept c.number.ensures.err)
