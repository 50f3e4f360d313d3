use Rattle.class_model.proofs.OneReport.{report_once}
use Rattle.class_model.proofs.laws.one_report.Goals as goal

pub returns : goal.returns
returns c = report_once c.orders_are_total.ensures.terms
