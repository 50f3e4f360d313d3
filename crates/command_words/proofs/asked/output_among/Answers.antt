use Rattle.std.proofs.Common.{◌≡◌, Some, sym, ap, ◌∙◌}
use Rattle.std.specs.Prelude.{codes, take}
use Rattle.std.specs.Str.{bytes_eq}
use Rattle.command_words.specs.Words.{first_of, is_slot}
use Rattle.command_words.specs.declared.slot.Slot.TheVariants as slot
use Rattle.command_words.proofs.FitLemmas.{find_holds, output_begins}
use Rattle.command_words.proofs.asked.output_among.Goals as goal

pub named-requires : goal.named-requires
named-requires c =
    let found : first_of slot.Output c.args.words.now ≡ Some c.in-Some.word.now = sym c.in-Some.ensures in
    ap (λ w. bytes_eq (take 8 w) (codes "-output=")) c.as_str.ensures
    ∙ output_begins c.in-Some.word.now (find_holds (λ w. is_slot slot.Output w) c.args.words.now c.in-Some.word.now found)
