use Rattle.type_terms.proofs.Comparing.{inst_fields}
use Rattle.type_terms.proofs.compare.+compare.Goals as goal

pub compare_fields-returns-in-Equal : goal.compare_fields-returns-in-Equal
compare_fields-returns-in-Equal t c same =
    let i = c.in-Inst-Inst in
    cc (inst_fields i.value i.other_value i.name i.other_name i.args i.other_args (cc))
