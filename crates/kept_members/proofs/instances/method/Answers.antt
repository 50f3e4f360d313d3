use Rattle.std.proofs.Common.{◌≡◌, ℕ, List, Ok, Some, sym, ◌∙◌, ap, subst}
use Rattle.metadata_tables.specs.Stream.{cell, IsRow}
use Rattle.metadata_tables.specs.declared.coded.Coded.TheVariants.{MethodDefOrRef}
use Rattle.sig_codec.specs.Signature.{IsInstantiation}
use Rattle.type_terms.specs.declared.reference.MethodSig.{MethodSig}
use Rattle.type_terms.specs.declared.term.Owner.{Owner}
use Rattle.image_model.specs.Columns.{instance_method}
use Rattle.image_model.specs.Rows.{Names, token_of}
use Rattle.row_parts.proofs.Zips.{ok_has}
use Rattle.kept_members.specs.Maps.{all_of}
use Rattle.kept_members.specs.Members.{owners_of, BlobIs}
use Rattle.kept_members.proofs.Found.{if_none, found_is}
use Rattle.kept_members.proofs.Naming.{in_use, used_there, instance_row, method_kept, instantiated}
use Rattle.kept_members.proofs.instances.method.Goals as goal

pub cell-requires-clause-row : goal.cell-requires-clause-row
cell-requires-clause-row c = subst (λ (stream : List ℕ). IsRow stream 0x2B c.args.row) (sym c.tables.ensures.tables) (used_there c.requires.used)

pub named_row-at-requires : goal.named_row-at-requires
named_row-at-requires c =
    let is : c.cell.result ≡ instance_method c.args.image.now c.args.row = c.cell.ensures ∙ ap (λ stream. cell stream 0x2B c.args.row 0) c.tables.ensures.tables in
    let p = c.requires.can.instance_of c.args.row c.requires.used in
    (p.0, p.1, subst (λ (v : ℕ). Names MethodDefOrRef v p.0 p.1) (sym is) p.2)

pub kept_method-generic-requires : goal.kept_method-generic-requires
kept_method-generic-requires c =
    let image = c.args.image.now in
    let at = c.named_row-at.result in
    let is : c.cell.result ≡ instance_method image c.args.row = c.cell.ensures ∙ ap (λ stream. cell stream 0x2B c.args.row 0) c.tables.ensures.tables in
    let n = subst (λ (v : ℕ). Names MethodDefOrRef v at.0 at.1) is c.named_row-at.ensures in
    method_kept image c.args.known.now (all_of c.args.methods.now) at.0 at.1 c.requires.has c.requires.members
    (instance_row image c.args.known.now (instance_method image c.args.row) at.0 at.1 n (c.requires.can.instance_of c.args.row c.requires.used))

pub arguments_in-requires-clause-there : goal.arguments_in-requires-clause-there
arguments_in-requires-clause-there c = used_there c.requires.used

pub sure-requires : goal.sure-requires
sure-requires c = let h = c.requires.can.instances c.args.row c.requires.used in if_none c.arguments_in.result (λ none. none h.0 h.1) c.arguments_in.ensures.none

pub returns : goal.returns
returns c =
    let image = c.args.image.now in
    let row = c.args.row in
    let at = c.named_row-at.result in
    let it = c.in_ok-owner in
    let e = c.in_ok-owner.ensures in
    let there = used_there c.requires.used in
    let is : c.cell.result ≡ instance_method image row = c.cell.ensures ∙ ap (λ stream. cell stream 0x2B row 0) c.tables.ensures.tables in
    let n = subst (λ (v : ℕ). Names MethodDefOrRef v at.0 at.1) is c.named_row-at.ensures in
    let generic = c.kept_method-generic.result.now in
    let so = c.requires.so (token_of at.0 at.1) generic c.kept_method-generic.ensures in
    let owner = ok_has (λ (o : Owner). o ≡ generic.owner) c.copy.result it.owner e.0 c.copy.ensures in
    let name = ok_has (λ (t : List ℕ). t ≡ generic.name) c.copy-2.result it.name e.1.0 c.copy-2.ensures in
    let sig = ok_has (λ (s : MethodSig). s ≡ generic.sig) c.copy-3.result it.sig e.1.1.0 c.copy-3.ensures in
    let args = found_is (BlobIs image (IsInstantiation (owners_of c.args.known.now)) 0x2B row 1) c.arguments_in.result it.args (ok_has (λ x. c.arguments_in.result ≡ Ok (Some x)) c.sure.result it.args e.1.1.1 c.sure.ensures) c.arguments_in.ensures.found in
    (instantiated image (owners_of c.args.known.now) row at.0 at.1 c.requires.few there n so.0 args.1 args.2 it.owner it.name it.sig owner name sig, in_use image 0x2B row c.requires.few c.requires.used)
