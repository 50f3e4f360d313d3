use Rattle.std.proofs.Common.{◌≡◌, ap, sym, ◌∙◌, refl, arith}
use Rattle.std.specs.Prelude.{Bool, true, false, ◌==◌, if◌then◌else◌}
use Rattle.ilasm_grammar.specs.declared.productions.TheConstants.{CLASS_ATTR_NESTED}
use Rattle.source_model.specs.Flags.{flag_word, grouped, nested_words}
use Rattle.source_model.specs.Source.{word_at}
use Rattle.source_flags.specs.FlagRows.{words_of}
use Rattle.source_flags.proofs.flag_rows.bits_at.Goals as goal

pub returns-in_ok-bits : goal.returns-in_ok-bits
returns-in_ok-bits c s r =
    let k = word_at s c.args.token in
    let nested : (c.args.production == CLASS_ATTR_NESTED) ≡ true = grind arith in (
      grouped c.in_ok-word.word c.in_ok-bits.bits.group c.in_ok-bits.bits.value,
      ap (λ (b : Bool). if b then flag_word nested_words k else flag_word (words_of c.args.row) k) nested
          ∙ ap (flag_word nested_words) (sym (c.in_ok-word.ensures s r)) ∙ c.in_ok-bits.ensures,
      refl,
      refl,
    )

pub returns-in_ok-bits-2 : goal.returns-in_ok-bits-2
returns-in_ok-bits-2 c s r =
    let k = word_at s c.args.token in
    let plain : (c.args.production == CLASS_ATTR_NESTED) ≡ false = grind arith in (
      grouped c.in_ok-word.word c.in_ok-bits-2.bits.group c.in_ok-bits-2.bits.value,
      ap (λ (b : Bool). if b then flag_word nested_words k else flag_word (words_of c.args.row) k) plain
          ∙ ap (flag_word (words_of c.args.row)) (sym (c.in_ok-word.ensures s r)) ∙ c.in_ok-bits-2.ensures,
      refl,
      refl,
    )
