use Rattle.std.proofs.Common.{◌≡◌, ℕ, List, sym, ◌∙◌, ap, subst}
use Rattle.metadata_tables.specs.Stream.{cell, IsRow}
use Rattle.metadata_tables.specs.declared.coded.Coded.TheVariants.{MemberRefParent}
use Rattle.type_terms.specs.declared.term.Owner.{Owner}
use Rattle.image_model.specs.Columns.{member_parent}
use Rattle.image_model.specs.Naming.{IsToken, OwnsMember, RowOwner}
use Rattle.image_model.specs.Rows.{Names, token_of}
use Rattle.row_parts.proofs.Zips.{ok_as}
use Rattle.kept_members.specs.Maps.{all_of, Has}
use Rattle.kept_members.specs.Members.{owners_of}
use Rattle.kept_members.proofs.Adding.{some_same}
use Rattle.kept_members.proofs.Naming.{used_there, token, parent_known, method_parent, type_parent, method_owner}
use Rattle.kept_members.proofs.owners.member_owner.Goals as goal

pub cell-requires-clause-row : goal.cell-requires-clause-row
cell-requires-clause-row c = subst (λ (stream : List ℕ). IsRow stream 0x0A c.args.row) (sym c.tables.ensures.tables) (used_there c.requires.used)

pub named_row-at-requires : goal.named_row-at-requires
named_row-at-requires c =
    let is : c.cell.result ≡ member_parent c.args.image.now c.args.row = c.cell.ensures ∙ ap (λ stream. cell stream 0x0A c.args.row 0) c.tables.ensures.tables in
    let p = c.requires.can.parents c.args.row c.requires.used in
    (p.0, p.1, subst (λ (v : ℕ). Names MemberRefParent v p.0 p.1) (sym is) p.2)

pub kept_method-requires : goal.kept_method-requires
kept_method-requires c =
    let image = c.args.image.now in
    let at = c.named_row-at.result in
    let is : c.cell.result ≡ member_parent image c.args.row = c.cell.ensures ∙ ap (λ stream. cell stream 0x0A c.args.row 0) c.tables.ensures.tables in
    let n = subst (λ (v : ℕ). Names MemberRefParent v at.0 at.1) is c.named_row-at.ensures in
    let k = parent_known image c.args.known.now (member_parent image c.args.row) at.0 at.1 n (c.requires.can.parents c.args.row c.requires.used) in
    subst (λ (t : ℕ). Has (all_of c.args.methods.now) (token_of t at.1)) (sym c.if-at-eq6.true) (c.requires.has at.1 (method_parent image c.args.known.now at.0 at.1 c.if-at-eq6.true k))

pub returns-then-at-eq6 : goal.returns-then-at-eq6
returns-then-at-eq6 c =
    let image = c.args.image.now in
    let at = c.named_row-at.result in
    let is : c.cell.result ≡ member_parent image c.args.row = c.cell.ensures ∙ ap (λ stream. cell stream 0x0A c.args.row 0) c.tables.ensures.tables in
    let n = subst (λ (v : ℕ). Names MemberRefParent v at.0 at.1) is c.named_row-at.ensures in
    let k = parent_known image c.args.known.now (member_parent image c.args.row) at.0 at.1 n (c.requires.can.parents c.args.row c.requires.used) in
    let six = c.if-at-eq6.true in
    let there = method_parent image c.args.known.now at.0 at.1 six k in
    let method = c.kept_method.result.now in
    let so = c.requires.so (token_of at.0 at.1) method c.kept_method.ensures in
    let t = subst (λ (x : ℕ). IsToken (token_of x at.1) 0x06 at.1) (sym six) (token 0x06 at.1 (c.requires.can.few_methods at.1 there)) in
    ok_as (OwnsMember image (owners_of c.args.known.now) c.args.row) c.copy.result method.owner c.copy.ensures
    (OwnsMember.by_method (subst (λ (x : ℕ). Names MemberRefParent (member_parent image c.args.row) x at.1) six n) (method_owner at.1 so.0 t))

pub kept_owner-requires : goal.kept_owner-requires
kept_owner-requires c =
    let image = c.args.image.now in
    let at = c.named_row-at.result in
    let is : c.cell.result ≡ member_parent image c.args.row = c.cell.ensures ∙ ap (λ stream. cell stream 0x0A c.args.row 0) c.tables.ensures.tables in
    let n = subst (λ (v : ℕ). Names MemberRefParent v at.0 at.1) is c.named_row-at.ensures in
    let k = parent_known image c.args.known.now (member_parent image c.args.row) at.0 at.1 n (c.requires.can.parents c.args.row c.requires.used) in
    let o = type_parent image c.args.known.now at.0 at.1 c.if-at-eq6.false k in (o.0, o.1.0)

pub returns : goal.returns
returns c =
    let image = c.args.image.now in
    let at = c.named_row-at.result in
    let is : c.cell.result ≡ member_parent image c.args.row = c.cell.ensures ∙ ap (λ stream. cell stream 0x0A c.args.row 0) c.tables.ensures.tables in
    let n = subst (λ (v : ℕ). Names MemberRefParent v at.0 at.1) is c.named_row-at.ensures in
    let k = parent_known image c.args.known.now (member_parent image c.args.row) at.0 at.1 n (c.requires.can.parents c.args.row c.requires.used) in
    let o = type_parent image c.args.known.now at.0 at.1 c.if-at-eq6.false k in
    let owner = c.kept_owner.result.now in
    let same = some_same o.0 owner (sym o.1.0 ∙ c.kept_owner.ensures) in
    ok_as (OwnsMember image (owners_of c.args.known.now) c.args.row) c.copy-2.result owner c.copy-2.ensures
    (OwnsMember.by_type n (subst (λ (x : Owner). RowOwner image (owners_of c.args.known.now) at.0 at.1 x) same o.1.1))
