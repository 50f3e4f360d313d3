use Rattle.std.proofs.Common.{refl, sym, ◌∙◌}
use Rattle.std.proofs.lemmas.Bool.{false≢true}
use Rattle.interface_numbers.proofs.Likening.{specs_alike, one_alone, other_alone, names_alike}
use Rattle.interface_numbers.proofs.alike.are_alike.Goals as goal

pub returns-then-other_table-eq27 : goal.returns-then-other_table-eq27
returns-then-other_table-eq27 g c =
    specs_alike c.args.image.now (g.O.Owners.facts c.args._facts.now) (g.N.Numbering.canon c.args.numbers.now) c.requires.known c.blob_is_computed.ensures c.args.one c.args.other c.requires.one c.requires.other c.type_of-table.result.0 c.type_of-table.result.1 c.type_of-other_table.result.0 c.type_of-other_table.result.1 c.type_of-table.ensures c.type_of-other_table.ensures
    c.are_equal.result c.if-table-eq27.true c.if-other_table-eq27.true c.are_equal.ensures

pub returns-then-table-eq27 : goal.returns-then-table-eq27
returns-then-table-eq27 g c = (
  λ yes. absurd (false≢true yes),
  λ same. absurd (one_alone c.args.image.now (g.O.Owners.facts c.args._facts.now) (g.N.Numbering.canon c.args.numbers.now) c.requires.known c.blob_is_computed.ensures c.args.one c.args.other c.requires.one c.requires.other c.type_of-table.result.0 c.type_of-table.result.1 c.type_of-other_table.result.0 c.type_of-other_table.result.1 c.type_of-table.ensures c.type_of-other_table.ensures
      c.if-table-eq27.true c.if-other_table-eq27.false same),
)

pub returns-then-other_table-eq27-2 : goal.returns-then-other_table-eq27-2
returns-then-other_table-eq27-2 g c = (
  λ yes. absurd (false≢true yes),
  λ same. absurd (other_alone c.args.image.now (g.O.Owners.facts c.args._facts.now) (g.N.Numbering.canon c.args.numbers.now) c.requires.known c.blob_is_computed.ensures c.args.one c.args.other c.requires.one c.requires.other c.type_of-table.result.0 c.type_of-table.result.1 c.type_of-other_table.result.0 c.type_of-other_table.result.1 c.type_of-table.ensures c.type_of-other_table.ensures
      c.if-table-eq27.false c.if-other_table-eq27-2.true same),
)

pub returns : goal.returns
returns g c =
    names_alike c.args.image.now (g.O.Owners.facts c.args._facts.now) (g.N.Numbering.canon c.args.numbers.now) c.requires.known c.blob_is_computed.ensures c.args.one c.args.other c.requires.one c.requires.other c.type_of-table.result.0 c.type_of-table.result.1 c.type_of-other_table.result.0 c.type_of-other_table.result.1 c.type_of-table.ensures c.type_of-other_table.ensures
    c.is_same.result c.token_of.result c.token_of-2.result c.if-table-eq27.false c.if-other_table-eq27-2.false c.token_of.ensures c.token_of-2.ensures c.is_same.ensures
