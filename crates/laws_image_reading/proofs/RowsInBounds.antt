-- What the rows of references lead to has names, and is in bounds.
use Rattle.std.proofs.Common.{sym, subst, inl, inr}
use Rattle.sig_codec.specs.Signature.{SpellsLocals}
use Rattle.sig_codec.specs.Spelling.{SpellsType}
use Rattle.image_tokens.specs.References.{AreKnown, HasSignature, IsMemberSignature, IsMemberInBounds, IsSpecRow, IsLocalsRow}
use Rattle.image_tokens.specs.declared.references.References.{References}
use Rattle.image_tokens.specs.declared.row_set.Cells.{Cells}
use Rattle.laws_image_reading.specs.cells.NamedRows.{HasNamedRows}
use Rattle.laws_image_reading.specs.members.Bounded.{AreBounded, AreBoundedLocals, IsBoundedMember, IsBoundedSpec}
use Rattle.laws_image_reading.specs.order.ShortNames.{NamesAreShort}

pub named_rows : (r : References) → AreKnown r → HasNamedRows r
named_rows r known = record {
  names = λ k cells at. let row = known.rows.names k cells at in record { row = row; named = row.can.in_bounds.named };
  members = λ k cells at. let row = known.rows.members k cells at in record { row = row; named = row.named };
}

pub short_names : (r : References) → AreKnown r → NamesAreShort r
short_names r known k cells at = let row = known.rows.names k cells at in record { row = row; short = row.can.in_bounds.short }

bounded_member : (r : References) (cells : Cells) (s : IsMemberSignature r cells.third) → IsMemberInBounds r cells.third s → IsBoundedMember r cells
bounded_member r cells (inl s) h = inl (s.0, s.1, h.bounds)
bounded_member r cells (inr t) h = inr (t.0, t.1, h.ranks)

bounded_spec : (r : References) (cells : Cells) → IsSpecRow r cells → IsBoundedSpec r cells
bounded_spec r cells row = record {
  of = row.of;
  signature = subst (λ (c : Cells). HasSignature SpellsType r row.of c.first) (sym row.are) row.signature;
  ranks = row.in_bounds.ranks;
}

bounded_locals : (r : References) (cells : Cells) → IsLocalsRow r cells → AreBoundedLocals r cells
bounded_locals r cells row = record {
  locals = row.locals;
  signature = subst (λ (c : Cells). HasSignature SpellsLocals r row.locals c.first) (sym row.are) row.signature;
  few = row.in_bounds.few;
  ranks = row.in_bounds.ranks;
}

pub bounded_rows : (r : References) → AreKnown r → AreBounded r
bounded_rows r known = record {
  members = λ k cells at. let row = known.rows.members k cells at in bounded_member r cells row.signature row.in_bounds;
  specs = λ k cells at. bounded_spec r cells (known.rows.specs k cells at);
  locals = λ k cells at. bounded_locals r cells (known.rows.locals k cells at);
  instances = λ k cells at. let row = known.rows.instances k cells at in record {
    method = row.method;
    generic = row.generic;
    arguments = row.arguments;
    generic_is = row.generic_is;
    first_is = row.first_is;
    signature = row.signature;
    count = row.count;
    ranks = row.in_bounds.ranks;
  };
}
