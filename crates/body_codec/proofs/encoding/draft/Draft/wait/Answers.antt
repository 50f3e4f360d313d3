use Rattle.std.proofs.Common.{◌≡◌, ◌∙◌, ◌+◌, ℕ, List, [], Option, length, ap}
use Rattle.std.proofs.Math.ListN.{length-set}
use Rattle.std.proofs.lemmas.List.{length-append}
use Rattle.std.proofs.lemmas.Option.{get_or_from_slice_get}
use Rattle.body_codec.specs.declared.encoding.site.Site.{Site}
use Rattle.body_codec.specs.Instruction.{operand_size}
use Rattle.body_codec.specs.Written.{number_bytes}
use Rattle.body_codec.proofs.Numbers.{length-number}
use Rattle.body_codec.proofs.Links.{linked_more}
use Rattle.body_codec.proofs.Drafts.{draft_wait}
use Rattle.body_codec.proofs.encoding.draft.Draft.wait.Goals as goal

pub returns-clause-grown : goal.returns-clause-grown
returns-clause-grown c =
    let old : List ℕ = c.args.self.now.bytes in
    ap length c.in_ok-push_number.ensures ∙ length-append old (number_bytes c.width.result 0)
    ∙ ap (λ n. length old + n) (length-number c.width.result 0 ∙ c.width.ensures.size)

pub returns-clause-linked : goal.returns-clause-linked
returns-clause-linked c =
    let old : List ℕ = c.args.self.now.bytes in
    let S : List Site = c.args.self.now.sites in
    let L : List (Option ℕ) = c.args.self.now.latest in
    let s : Site = record c.args.site { before = c.at-before.result.now } in
    let grown : length c.push_number.new.out ≡ length old + operand_size c.args.site.kind [] =
    ap length c.in_ok-push_number.ensures ∙ length-append old (number_bytes c.width.result 0)
    ∙ ap (λ n. length old + n) (length-number c.width.result 0 ∙ c.width.ensures.size) in
    rw (c.in_ok-push.ensures.ok, c.set.ensures, c.len-number.ensures)
    (linked_more (length old) (length c.args.self.now.offsets) S L s (length c.push_number.new.out) c.requires.place c.requires.later c.requires.to c.requires.some grown
    (λ d. get_or_from_slice_get L c.args.site.to c.at-before.result.now d c.at-before.ensures) c.requires.linked)

pub returns-clause-draft : goal.returns-clause-draft
returns-clause-draft c = λ code done want d short.
    let old : List ℕ = c.args.self.now.bytes in
    let S : List Site = c.args.self.now.sites in
    let L : List (Option ℕ) = c.args.self.now.latest in
    let x : List ℕ = number_bytes c.width.result 0 in
    let s : Site = record c.args.site { before = c.at-before.result.now } in
    let room : length x ≡ operand_size c.args.site.kind [] = length-number c.width.result 0 ∙ c.width.ensures.size in
    rw (c.in_ok-push_number.ensures, c.in_ok-push.ensures.ok, c.set.ensures, length-set)
    (draft_wait (length c.args.self.now.offsets) code done want old x S c.args.self.now.offsets c.args.self.now.far (length L) s short c.requires.place c.requires.later c.requires.to room d)
