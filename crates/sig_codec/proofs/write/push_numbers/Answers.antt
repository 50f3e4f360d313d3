use Rattle.std.proofs.Common.{◌≡◌, ◌∷◌, ◌+◌, drop, get_or, arith}
use Rattle.std.proofs.lemmas.List.{drop_more}
use Rattle.il_base.specs.Numbers.{Packed, packed_bytes}
use Rattle.sig_codec.specs.Spelling.{writing}
use Rattle.sig_codec.specs.Spellable.{CanBePacked}
use Rattle.sig_codec.proofs.Written.{number_at_place, all_at_place, numbers_done}
use Rattle.sig_codec.proofs.write.push_numbers.Goals as goal

pub loop-number-preserved : goal.loop-number-preserved
loop-number-preserved c =
    let xs = c.args.numbers.now in
    let i = c.loop-number.number-index in
    let x = get_or xs i 0 in
    let here : drop i xs ≡ x ∷ drop (i + 1) xs = drop_more xs i 0 (omega arith) in
    let added = c.in_ok-push_packed.ensures in
    ((all_at_place Packed CanBePacked xs i x here c.loop-number.invariant.0).1, λ tokens. number_at_place (writing tokens).number CanBePacked xs i x c.args.out.now c.loop-number.out c.push_packed.new.out (packed_bytes x) here added.ok (added.spells, added.shortest) (c.loop-number.invariant.1 tokens))

pub returns : goal.returns
returns c = λ tokens. numbers_done (writing tokens).number CanBePacked c.args.numbers.now c.loop-number.number-index c.args.out.now c.loop-number.out c.loop-number-test.false (c.loop-number.invariant.1 tokens)
