use Rattle.std.proofs.Common.{length, ap, sym, ◌∙◌}
use Rattle.std.proofs.lemmas.Bool.{le-leb, lt-leb}
use Rattle.std.specs.Prelude.{◌&&◌}
use Rattle.std.specs.List.{list_all}
use Rattle.source_nodes.specs.declared.pieces.Piece.{Piece}
use Rattle.check_bodies.specs.ShortCode.{is_bounded}
use Rattle.check_bodies.proofs.short_code.is_short_code.Goals as goal

pub returns-then-code-gt-MOST : goal.returns-then-code-gt-MOST
returns-then-code-gt-MOST c =
    sym (ap (λ b. b && list_all (λ (x : Piece). is_bounded x.production) c.args.code.now) (lt-leb (length c.args.code.now) 12 c.if-code-gt-MOST.true))

pub returns : goal.returns
returns c =
    c.are_bounded.ensures
    ∙ sym (ap (λ b. b && list_all (λ (x : Piece). is_bounded x.production) c.args.code.now) (le-leb (length c.args.code.now) 12 c.if-code-gt-MOST.false))
