use Rattle.std.proofs.Common.{◌≡◌, ◌&&◌, nat_lt, length}
use Rattle.std.specs.List.{list_all}
use Rattle.assembly_tree.specs.WellFormedNames.{is_type_name}
use Rattle.assembly_tree.specs.WellFormedTerms.{is_made_well}
use Rattle.assembly_tree.proofs.FormedTerms.{made_well-Inst}
use Rattle.assembly_tree.proofs.formed.terms.+made_well.Goals as goal

pub is_made_well-returns-then-is_formed : goal.is_made_well-returns-then-is_formed
is_made_well-returns-then-is_formed t c =
    let e : is_made_well c.args.a.now c.args.t.now
    ≡ (is_type_name c.args.a.now c.in-Inst.name && nat_lt 0 (length c.as_slice.result.now) && list_all (is_made_well c.args.a.now) c.as_slice.result.now) =
    rw (c.in-Inst.is, c.as_slice.ensures, c.get-then-is_formed.ensures) (made_well-Inst c.args.a.now c.in-Inst.value c.in-Inst.name c.in-Inst.args) in
    rw (e, ← c.get.ensures, ← c.is_formed.ensures, c.if-is_formed.true) c.are_made_well.ensures
