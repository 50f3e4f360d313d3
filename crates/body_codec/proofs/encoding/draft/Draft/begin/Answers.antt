use Rattle.std.proofs.Common.{◌≡◌, ◌∙◌, ◌<◌, ◌≤◌, ◌+◌, ◌++◌, ℕ, List, [], ◌∷◌, Option, None, Some, length, get_or, ap, refl, sym, subst, arith}
use Rattle.std.specs.List.{slice_get}
use Rattle.std.proofs.lemmas.List.{length-append}
use Rattle.std.proofs.lemmas.Option.{get_or_from_slice_get}
use Rattle.body_codec.specs.Instruction.{operand_size}
use Rattle.body_codec.specs.declared.encoding.draft.Draft.{Draft}
use Rattle.body_codec.specs.declared.encoding.site.Site.{Site}
use Rattle.body_codec.specs.Chains.{AreLinked, Drafts, FirstOf, IsLatest, IsPut, count_to, from_on, site_bytes}
use Rattle.body_codec.proofs.Drafts.{draft_begun, draft_ready, draft_settled}
use Rattle.body_codec.proofs.encoding.draft.Draft.begin.Goals as goal

pub loop-waiting-init : goal.loop-waiting-init
loop-waiting-init c =
    let bytes : List ℕ = c.args.self.now.bytes in
    let os : List ℕ = c.args.self.now.offsets in
    let k : ℕ = length os in
    let S : List Site = c.args.self.now.sites in
    let L : List (Option ℕ) = c.args.self.now.latest in
    let n : ℕ = length L in
    let o : Option ℕ = c.at-waiting.result.now in
    let there : slice_get L k ≡ Some o = let G : ℕ → Type 0 = λ i. slice_get L i ≡ Some o in subst G c.len.ensures c.at-waiting.ensures in
    let P : Option ℕ → Type 0 = IsLatest S k (length S) in
    let l : IsLatest S k (length S) o = subst P (get_or_from_slice_get L k o None there) (c.requires.linked.latest k None (omega arith) c.requires.more) in
    let more : c.push.new.self ≡ os ++ length bytes ∷ [] = c.in_ok-push.ensures.ok ∙ ap (λ m. os ++ m ∷ []) c.len-2.ensures in
    record {
      offsets = more;
      latest = refl;
      sites = refl;
      count = refl;
      waits = (length S, omega arith, l);
      draft = λ code want d w.
          let D : List ℕ → Type 0 = λ x. Drafts (FirstOf k (count_to o)) code k want bytes S x c.args.self.now.far n in
          subst D (sym more) (draft_begun code k k want bytes S os c.args.self.now.far n o (length bytes) refl (d.bytes_are.count ∙ w) l d);
    }

-- what a site that waits is
record Waiting (S : List Site) (k size m : ℕ) (s : Site) : Type 0 where
  pub inside : m < length S
  pub is : (d : Site) → get_or S m d ≡ s
  pub to : s.to ≡ k
  pub place : s.place + operand_size s.kind [] ≤ size
  pub before : IsLatest S k m s.before

waiting_is : (S T : List Site) (size known k n m : ℕ) (L : List (Option ℕ)) (o : Option ℕ) (s : Site) → T ≡ S → AreLinked size known S L → n ≤ length S
    → IsLatest S k n o → o ≡ Some m → slice_get T m ≡ Some s → Waiting S k size m s
waiting_is S T size known k n m L o s same l h w e there =
    let G : List Site → Type 0 = λ X. slice_get X m ≡ Some s in
    let is : (d : Site) → get_or S m d ≡ s = λ d. get_or_from_slice_get S m s d (subst G same there) in
    let c : count_to o ≡ m + 1 = ap count_to e in
    let cw : count_to o ≤ n = w.within in
    let inside : m < length S = omega arith in
    let to : s.to ≡ k = ap (λ (x : Site). x.to) (sym (is s)) ∙ w.it m s e in
    let P : Site → Type 0 = λ x. x.place + operand_size x.kind [] ≤ size in
    let Q : Site → Type 0 = λ x. IsLatest S x.to m x.before in
    let R : ℕ → Type 0 = λ t. IsLatest S t m s.before in
    record {
      inside = inside;
      is = is;
      to = to;
      place = subst P (is s) (l.inside m s inside);
      before = subst R to (subst Q (is s) (l.before m s inside));
    }

pub settle-requires-clause-to : goal.settle-requires-clause-to
settle-requires-clause-to c =
    let i = c.loop-waiting.invariant in
    let bytes : List ℕ = c.args.self.now.bytes in
    let os : List ℕ = c.args.self.now.offsets in
    let w : Waiting c.args.self.now.sites (length os) (length bytes) c.in-Some.number c.at.result.now =
    waiting_is c.args.self.now.sites c.loop-waiting.self.sites (length bytes) (length os) (length os) i.waits.0 c.in-Some.number c.args.self.now.latest c.loop-waiting.waiting
    c.at.result.now i.sites c.requires.linked i.waits.1 i.waits.2 c.in-Some.is c.at.ensures in
    let e : length c.loop-waiting.self.offsets ≡ length (os ++ length bytes ∷ []) = ap length i.offsets in
    omega (arith, e, length-append os (length bytes ∷ []), w.to)

pub settle-requires-clause-inside : goal.settle-requires-clause-inside
settle-requires-clause-inside c =
    let i = c.loop-waiting.invariant in
    let bytes : List ℕ = c.args.self.now.bytes in
    let os : List ℕ = c.args.self.now.offsets in
    let w : Waiting c.args.self.now.sites (length os) (length bytes) c.in-Some.number c.at.result.now =
    waiting_is c.args.self.now.sites c.loop-waiting.self.sites (length bytes) (length os) (length os) i.waits.0 c.in-Some.number c.args.self.now.latest c.loop-waiting.waiting
    c.at.result.now i.sites c.requires.linked i.waits.1 i.waits.2 c.in-Some.is c.at.ensures in
    let e : length c.loop-waiting.self.bytes ≡ length bytes = i.count in
    omega (arith, e, w.place)

pub loop-waiting-smaller : goal.loop-waiting-smaller
loop-waiting-smaller c =
    let i = c.loop-waiting.invariant in
    let bytes : List ℕ = c.args.self.now.bytes in
    let os : List ℕ = c.args.self.now.offsets in
    let w : Waiting c.args.self.now.sites (length os) (length bytes) c.in-Some.number c.at.result.now =
    waiting_is c.args.self.now.sites c.loop-waiting.self.sites (length bytes) (length os) (length os) i.waits.0 c.in-Some.number c.args.self.now.latest c.loop-waiting.waiting
    c.at.result.now i.sites c.requires.linked i.waits.1 i.waits.2 c.in-Some.is c.at.ensures in
    let l : count_to c.at.result.now.before ≤ c.in-Some.number = w.before.within in
    let e : count_to c.loop-waiting.waiting ≡ c.in-Some.number + 1 = ap count_to c.in-Some.is in
    let less : count_to c.at.result.now.before < count_to c.loop-waiting.waiting = omega arith in
    less

pub loop-waiting-preserved : goal.loop-waiting-preserved
loop-waiting-preserved c =
    let i = c.loop-waiting.invariant in
    let bytes : List ℕ = c.args.self.now.bytes in
    let os : List ℕ = c.args.self.now.offsets in
    let k : ℕ = length os in
    let S : List Site = c.args.self.now.sites in
    let m : ℕ = c.in-Some.number in
    let s : Site = c.at.result.now in
    let d : Draft = c.loop-waiting.self in
    let e : Draft = c.settle.new.self in
    let w : Waiting S k (length bytes) m s =
    waiting_is S d.sites (length bytes) k k i.waits.0 m c.args.self.now.latest c.loop-waiting.waiting s i.sites c.requires.linked i.waits.1 i.waits.2 c.in-Some.is c.at.ensures in
    let same = c.settle.ensures.same in
    let eo : e.offsets ≡ d.offsets = ap (λ (x : Draft). x.offsets) same in
    let known : length d.offsets ≡ length (os ++ length bytes ∷ []) = ap length i.offsets in
    let one : length (os ++ length bytes ∷ []) ≡ k + 1 = length-append os (length bytes ∷ []) in
    let put : IsPut d.bytes s.place (site_bytes d.offsets s) e.bytes = c.settle.ensures.bytes in
    let cw : count_to c.loop-waiting.waiting ≡ m + 1 = ap count_to c.in-Some.is in
    record {
      offsets = eo ∙ i.offsets;
      latest = ap (λ (x : Draft). x.latest) same ∙ i.latest;
      sites = ap (λ (x : Draft). x.sites) same ∙ i.sites;
      count = put.count ∙ i.count;
      waits = (m, omega (arith, w.inside), w.before);
      draft = λ code want f v.
          let D : List ℕ → Type 0 = λ x. Drafts (FirstOf k (count_to s.before)) code k want e.bytes S x e.far (length c.args.self.now.latest) in
          let C : ℕ → Type 0 = λ x. Drafts (FirstOf k x) code k want d.bytes S d.offsets d.far (length c.args.self.now.latest) in
          subst D (sym eo)
          (draft_settled code k k m want d.bytes e.bytes S d.offsets d.far e.far (length c.args.self.now.latest) s w.is w.inside w.to (omega arith) c.requires.more w.before put
          c.settle.ensures.far (subst C cw (i.draft code want f v)));
    }

pub returns-clause-draft : goal.returns-clause-draft
returns-clause-draft c = λ code want f v.
    let i = c.loop-waiting.invariant in
    let k : ℕ = length c.args.self.now.offsets in
    let d : Draft = c.loop-waiting.self in
    let none : c.loop-waiting.waiting ≡ None = c.in_default.is in
    let C : ℕ → Type 0 = λ x. Drafts (FirstOf k x) code k want d.bytes c.args.self.now.sites d.offsets d.far (length c.args.self.now.latest) in
    let S : List Site → Type 0 = λ x. Drafts (from_on (k + 1)) code k want d.bytes x d.offsets d.far (length d.latest) in
    let L : List (Option ℕ) → Type 0 = λ x. Drafts (from_on (k + 1)) code k want d.bytes c.args.self.now.sites d.offsets d.far (length x) in
    subst S (sym i.sites) (subst L (sym i.latest)
    (draft_ready code k k want d.bytes c.args.self.now.sites d.offsets d.far (length c.args.self.now.latest) (subst C (ap count_to none) (i.draft code want f v))))
