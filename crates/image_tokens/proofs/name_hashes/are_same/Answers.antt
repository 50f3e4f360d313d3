use Rattle.std.proofs.Common.{◌^◌, sym, ◌∙◌, arith}
use Rattle.std.proofs.lemmas.Bool.{lt-ltb}
use Rattle.image_tokens.proofs.NameHashLemmas.{name_told}
use Rattle.image_tokens.proofs.name_hashes.are_same.Goals as goal

pub returns-then-hash-lt-OTHERS : goal.returns-then-hash-lt-OTHERS
returns-then-hash-lt-OTHERS c =
    let less = c.if-hash-lt-OTHERS.true in (
      (λ h. name_told c.args.a.now c.args.b.now (sym c.requires.first ∙ c.requires.second) (omega (arith, less, c.requires.first))),
      (λ e. lt-ltb c.args.hash (2 ^ 63) less),
    )
