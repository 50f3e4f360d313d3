use Rattle.std.proofs.Common.{◌≡◌, ◌∙◌, ◌<◌, ◌+◌, ◌++◌, ℕ, List, length, ap, sym, subst, arith}
use Rattle.std.proofs.lemmas.List.{length-append}
use Rattle.body_codec.specs.declared.encoding.draft.Draft.{Draft}
use Rattle.body_codec.specs.declared.encoding.site.Site.{Site}
use Rattle.body_codec.specs.Chains.{IsDraft, from_on, offsets_of, site_bytes}
use Rattle.body_codec.proofs.Numbers.{length-number}
use Rattle.body_codec.proofs.Drafts.{draft_known}
use Rattle.body_codec.proofs.encoding.draft.Draft.push_target.Goals as goal

pub returns-in_ok-add_known-clause-grown : goal.returns-in_ok-add_known-clause-grown
returns-in_ok-add_known-clause-grown c =
    let old : List ℕ = c.args.self.now.bytes in
    ap length c.in_ok-add_known.ensures.bytes ∙ length-append old (site_bytes c.args.self.now.offsets c.args.site)
    ∙ ap (λ n. length old + n) (length-number _ _)

pub returns-in_ok-add_known-clause-draft : goal.returns-in_ok-add_known-clause-draft
returns-in_ok-add_known-clause-draft c = λ code done want d short.
    let old : Draft = c.args.self.now in
    let s : Site = c.args.site in
    let known : s.to < length old.offsets = omega (arith, c.len.ensures, c.if-site-len.true) in
    let with : Draft = record old { bytes = old.bytes ++ site_bytes old.offsets s; far = c.add_known.new.self.far } in
    let new : c.add_known.new.self ≡ with =
    c.in_ok-add_known.ensures.same ∙ ap (λ (b : List ℕ). let r : Draft = record old { bytes = b; far = c.add_known.new.self.far } in r) c.in_ok-add_known.ensures.bytes in
    let P : Draft → Type 0 = IsDraft (from_on (length old.offsets)) code done (want ++ site_bytes (offsets_of code) s) in
    subst P (sym new)
    (draft_known (from_on (length old.offsets)) code done want old.bytes old.sites old.offsets old.far c.add_known.new.self.far (length old.latest) s short known
    c.requires.to c.in_ok-add_known.ensures.far d)
