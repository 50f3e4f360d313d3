use Rattle.std.proofs.Common.{ap, subst, ◌∙◌}
use Rattle.std.proofs.lemmas.Str.{IsUtf8-string_bytes}
use Rattle.std.specs.Prelude.{IsUtf8}
use Rattle.listing_model.specs.Canon.{declarations}
use Rattle.print_terms.specs.Rows.{in_row}
use Rattle.listing_printer.proofs.Parts.{listed}
use Rattle.listing_printer.proofs.whole.print.Goals as goal

pub returns : goal.returns
returns c =
    let is =
    c.into_string.ensures
    ∙ listed c.drawn_is_text.ensures c.args.a.now _ _ (c.in_ok-write_declarations.ensures ∙ ap (λ q. in_row q (declarations c.args.a.now)) c.new-paper.ensures) c.in_ok-end_line.ensures in
    record {
      spelled = c.in_ok-text.ensures ∙ is;
      utf8 = subst IsUtf8 is (IsUtf8-string_bytes c.into_string.result);
    }
