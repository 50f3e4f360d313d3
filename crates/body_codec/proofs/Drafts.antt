-- Drafts of code, step by step.
use Rattle.std.proofs.Common.{◌≡◌, ◌≢◌, ◌∙◌, ◌⊎◌, inl, inr, ℕ, ◌<◌, ◌≤◌, ◌+◌, ◌-◌, ℤ, pos, ◌-ℤ◌, List, [], ◌∷◌, ◌++◌, length, take, get_or, ap, refl, sym, subst, arith, below_more, Option}
use Rattle.std.proofs.lemmas.Bool.{cases_order}
use Rattle.std.proofs.lemmas.Grind.{flat_map-append}
use Rattle.std.proofs.lemmas.List.{append_assoc, append-nil, take_more, get_or_append_left, get_or-append_right, get_or_push, length-append}
use Rattle.opcode_table.specs.declared.kind.OperandKind.TheVariants as kinds
use Rattle.assembly_tree.specs.declared.body.Ins.{Ins}
use Rattle.body_codec.specs.declared.encoding.site.Site.{Site}
use Rattle.body_codec.specs.Instruction.{operand_size}
use Rattle.body_codec.specs.Encoding.{FitsBytes, IsFar, distance, offset}
use Rattle.body_codec.specs.Written.{far_from, signed_bytes, target_bytes}
use Rattle.body_codec.specs.Chains.{Agrees, AreFar, Covers, Drafts, FirstOf, IsFirstWith, IsLatest, IsPut, IsShort, IsSite, IsWatched, Waits, count_to, from_on, offsets_of, site_bytes}
use Rattle.body_codec.specs.Written.{AreOffsets}
use Rattle.body_codec.proofs.Numbers.{length-number}
use Rattle.body_codec.proofs.Links.{are_offsets, each_site, length_more, site_front, site_last}

-- ---- bytes that agree

-- an order, in two cases
below_or : (q n : ℕ) → (q < n) ⊎ (n ≤ q)
below_or q n = elim (cases_order q n) [ inl e ↦ inr (omega arith) | inr (inl h) ↦ inl h | inr (inr h) ↦ inr (omega arith) ]

agrees_open : (A B : ℕ → Site → Type 0) (S : List Site) (want bytes : List ℕ)
    → ((i : ℕ) (s : Site) → i < length S → A i (get_or S i s) → B i (get_or S i s)) → Agrees A S want bytes → Agrees B S want bytes
agrees_open A B S want bytes imp a = record {
  count = a.count;
  same = λ q h closed. a.same q h (λ i s l o c. closed i s l (imp i s l o) c);
}

agrees_more : (A : ℕ → Site → Type 0) (S : List Site) (want bytes x : List ℕ) → Agrees A S want bytes → Agrees A S (want ++ x) (bytes ++ x)
agrees_more A S want bytes x a = record {
  count = omega (arith, length-append bytes x, length-append want x, a.count);
  same = λ q h closed.
      elim (below_or q (length want)) [
        | inl l ↦
            let m : q < length bytes = omega (arith, a.count) in
            get_or_append_left bytes x 0 q m ∙ a.same q l closed ∙ sym (get_or_append_left want x 0 q l)
        | inr l ↦ get_or-append_right bytes x (length want) q 0 a.count l ∙ sym (get_or-append_right want x (length want) q 0 refl l)
      ];
}

-- room for a site that is open
agrees_room : (A : ℕ → Site → Type 0) (S : List Site) (want bytes x y : List ℕ) (s : Site) → s.place ≡ length want
    → length x ≡ operand_size s.kind [] → length y ≡ operand_size s.kind [] → A (length S) s → Agrees A S want bytes → Agrees A (S ++ s ∷ []) (want ++ y) (bytes ++ x)
agrees_room A S want bytes x y s here ex ey opened a = record {
  count = omega (arith, length-append bytes x, length-append want y, a.count);
  same = λ q h closed.
      elim (below_or q (length want)) [
        | inl l ↦
            let m : q < length bytes = omega (arith, a.count) in
            let inner : (i : ℕ) (d : Site) → i < length S → A i (get_or S i d) → Covers (get_or S i d) q → ⊥ =
            λ i d n o c.
            let P : Site → Type 0 = A i in
            let Q : Site → Type 0 = λ z. Covers z q in
            let e : get_or (S ++ s ∷ []) i d ≡ get_or S i d = site_front S s d i n in
            closed i d (omega (arith, length_more S s)) (subst P (sym e) o) (subst Q (sym e) c) in
            get_or_append_left bytes x 0 q m ∙ a.same q l inner ∙ sym (get_or_append_left want y 0 q l)
        | inr l ↦
            let P : Site → Type 0 = A (length S) in
            let Q : Site → Type 0 = λ z. Covers z q in
            let e : get_or (S ++ s ∷ []) (length S) s ≡ s = site_last S s s in
            let c : Covers s q = record { first = omega arith; last = omega (arith, length-append want y) } in
            absurd (closed (length S) s (omega (arith, length_more S s)) (subst P (sym e) opened) (subst Q (sym e) c))
      ];
}

-- a site is written, and isn't open any more
agrees_put : (A B : ℕ → Site → Type 0) (S : List Site) (want bytes new xs : List ℕ) (s : Site) → length xs ≡ operand_size s.kind []
    → ((i : ℕ) → i < operand_size s.kind [] → get_or want (s.place + i) 0 ≡ get_or xs i 0)
    → ((i : ℕ) (d : Site) → i < length S → A i (get_or S i d) → B i (get_or S i d) ⊎ (get_or S i d ≡ s))
    → IsPut bytes s.place xs new → Agrees A S want bytes → Agrees B S want new
agrees_put A B S want bytes new xs s ex holds imp p a = record {
  count = p.count ∙ a.count;
  same = λ q h closed.
      let inner : (Covers s q → ⊥) → (i : ℕ) (d : Site) → i < length S → A i (get_or S i d) → Covers (get_or S i d) q → ⊥ =
      λ out i d n o c.
      elim (imp i d n o) [
        | inl b ↦ closed i d n b c
        | inr e ↦ let Q : Site → Type 0 = λ z. Covers z q in out (subst Q e c)
      ] in
      elim (below_or q s.place) [
        | inl l ↦ p.front q l ∙ a.same q h (inner (λ c. let f : s.place ≤ q = c.first in omega arith))
        | inr l ↦
            elim (below_or q (s.place + operand_size s.kind [])) [
              | inl m ↦
                  let k : ℕ = q - s.place in
                  let e : s.place + k ≡ q = omega arith in
                  let n : k < operand_size s.kind [] = omega arith in
                  let put : get_or new (s.place + k) 0 ≡ get_or xs k 0 = p.put k (omega (arith, ex)) in
                  let is : get_or want (s.place + k) 0 ≡ get_or xs k 0 = holds k n in
                  let E : ℕ → Type 0 = λ i. get_or new i 0 ≡ get_or want i 0 in
                  subst E e (put ∙ sym is)
              | inr m ↦ p.back q (omega (arith, ex)) ∙ a.same q h (inner (λ c. let f : q < s.place + operand_size s.kind [] = c.last in omega arith))
            ]
      ];
}

-- ---- sites

site_more : (code : List Ins) (want x : List ℕ) (s : Site) → IsSite code want s → IsSite code (want ++ x) s
site_more code want x s i = record {
  to_inside = i.to_inside;
  inside = omega (arith, length-append want x, i.inside);
  holds = λ k h. let l : s.place + k < length want = omega (arith, i.inside) in get_or_append_left want x 0 (s.place + k) l ∙ i.holds k h;
  short = i.short;
}

site_here : (code : List Ins) (want : List ℕ) (s : Site) → s.to < length code → s.place ≡ length want → (s.kind ≡ kinds.Branch8 → IsShort code s.at s.to s.end)
    → IsSite code (want ++ site_bytes (offsets_of code) s) s
site_here code want s to here short =
    let xs : List ℕ = site_bytes (offsets_of code) s in
    let e : length xs ≡ operand_size s.kind [] = length-number (operand_size s.kind []) _ in
    record {
      to_inside = to;
      inside = omega (arith, length-append want xs);
      holds = λ k h.
          let f : s.place + k - length want ≡ k = omega arith in
          get_or-append_right want xs (length want) (s.place + k) 0 refl (omega arith) ∙ ap (λ n. get_or xs n 0) f;
      short = short;
    }

-- ---- short branches

waits_open : (A B : ℕ → Site → Type 0) (S : List Site) (k t : ℕ) → ((i : ℕ) (d : Site) → i < length S → A i (get_or S i d) → B i (get_or S i d))
    → Waits A S k t → Waits B S k t
waits_open A B S k t imp w = record {
  number = w.number;
  within = w.within;
  site = λ s. let f = w.site s in (imp w.number s w.within f.0, f.1, f.2, f.3);
}

waits_more : (A : ℕ → Site → Type 0) (S : List Site) (s : Site) (k t : ℕ) → Waits A S k t → Waits A (S ++ s ∷ []) k t
waits_more A S s k t w = record {
  number = w.number;
  within = omega (arith, length_more S s, w.within);
  site = λ d.
      let P : Site → Type 0 = λ x. A w.number x × (x.kind ≡ kinds.Branch8) × (x.at ≡ k) × (x.to ≡ t) in
      subst P (sym (site_front S s d w.number w.within)) (w.site d);
}

pub waits_here : (A : ℕ → Site → Type 0) (S : List Site) (s : Site) → A (length S) s → s.kind ≡ kinds.Branch8 → Waits A (S ++ s ∷ []) s.at s.to
waits_here A S s open_ e = record {
  number = length S;
  within = omega (arith, length_more S s);
  site = λ d.
      let P : Site → Type 0 = λ x. A (length S) x × (x.kind ≡ kinds.Branch8) × (x.at ≡ s.at) × (x.to ≡ s.to) in
      subst P (sym (site_last S s d)) (open_, e, refl, refl);
}

-- a displacement from the offsets is the distance
pub gap_is : (code : List Ins) (os : List ℕ) (s : Site) → get_or os s.to 0 ≡ offset code s.to → IsShort code s.at s.to s.end → far_from os s.end s.to ≡ distance code s.at s.to
gap_is code os s e sh =
    ap (λ n. pos n -ℤ pos s.end) e ∙ ap (λ n. pos (offset code s.to) -ℤ pos n) sh.end_is

-- and the bytes are those of all offsets
pub same_bytes : (code : List Ins) (os : List ℕ) (s : Site) → get_or os s.to 0 ≡ offset code s.to → s.to ≤ length code → site_bytes os s ≡ site_bytes (offsets_of code) s
same_bytes code os s e h =
    let a : AreOffsets code (offsets_of code) = are_offsets code in
    let f : get_or os s.to 0 ≡ get_or (offsets_of code) s.to 0 = e ∙ sym (a.each s.to h) in
    ap (λ n. signed_bytes (operand_size s.kind []) (pos n -ℤ pos s.end)) f

far_with : (code : List Ins) (first with : Option ℕ) (s : Site) (gap : ℤ) → (s.kind ≡ kinds.Branch8 → IsShort code s.at s.to s.end)
    → (s.kind ≡ kinds.Branch8 → gap ≡ distance code s.at s.to) → IsFirstWith first s gap with → AreFar code first → AreFar code with
far_with code first with s gap short is w a =
    let P : Option ℕ → Type 0 = AreFar code in
    elim w.is [
      | inl e ↦ subst P (sym e) a
      | inr f ↦
          let sh : IsShort code s.at s.to s.end = short f.1 in
          let Q : ℤ → Type 0 = FitsBytes 1 in
          let all : (d : Ins) → IsFar code s.at (get_or code s.at d) =
          λ d. record { short = sh.kind_is d; to = s.to; branch = sh.branch d; far = λ g. f.2 (subst Q (sym (is f.1)) g) } in
          subst P (sym f.0) (sh.inside, all)
    ]

-- ---- drafts

pub draft_more : (A : ℕ → Site → Type 0) (code : List Ins) (done : ℕ) (want bytes x : List ℕ) (S : List Site) (os : List ℕ) (far : Option ℕ) (n : ℕ)
    → Drafts A code done want bytes S os far n → Drafts A code done (want ++ x) (bytes ++ x) S os far n
draft_more A code done want bytes x S os far n d = record {
  count_is = d.count_is;
  bytes_are = agrees_more A S want bytes x d.bytes_are;
  sites_are = λ i s h. site_more code want x (get_or S i s) (d.sites_are i s h);
  offsets_are = d.offsets_are;
  far_are = d.far_are;
  watched = d.watched;
}

watched_with : (A : ℕ → Site → Type 0) (code : List Ins) (S : List Site) (first with : Option ℕ) (s : Site) (gap : ℤ) (k t : ℕ) → IsFirstWith first s gap with
    → IsWatched A code S first k t → IsWatched A code S with k t
watched_with A code S first with s gap k t w (inl f) = inl f
watched_with A code S first with s gap k t w (inr (inl f)) = inr (inl (w.keeps k f))
watched_with A code S first with s gap k t w (inr (inr f)) = inr (inr f)

pub draft_far : (A : ℕ → Site → Type 0) (code : List Ins) (done : ℕ) (want bytes : List ℕ) (S : List Site) (os : List ℕ) (first with : Option ℕ) (n : ℕ) (s : Site)
    → (s.kind ≡ kinds.Branch8 → IsShort code s.at s.to s.end) → get_or os s.to 0 ≡ offset code s.to → IsFirstWith first s (far_from os s.end s.to) with
    → Drafts A code done want bytes S os first n → Drafts A code done want bytes S os with n
draft_far A code done want bytes S os first with n s short e w d = record {
  count_is = d.count_is;
  bytes_are = d.bytes_are;
  sites_are = d.sites_are;
  offsets_are = d.offsets_are;
  far_are = far_with code first with s (far_from os s.end s.to) short (λ k. gap_is code os s e (short k)) w d.far_are;
  watched = λ k t end h sh. watched_with A code S first with s (far_from os s.end s.to) k t w (d.watched k t end h sh);
}

-- what a site's branch is after its displacement is known
pub watched_here : (A : ℕ → Site → Type 0) (code : List Ins) (S : List Site) (os : List ℕ) (first with : Option ℕ) (s : Site)
    → IsShort code s.at s.to s.end → get_or os s.to 0 ≡ offset code s.to → s.kind ≡ kinds.Branch8 → IsFirstWith first s (far_from os s.end s.to) with
    → IsWatched A code S with s.at s.to
watched_here A code S os first with s sh e k w =
    let P : ℤ → Type 0 = FitsBytes 1 in
    elim (w.here k) [ inl f ↦ inl (subst P (gap_is code os s e sh) f) | inr f ↦ inr (inl f) ]

-- a displacement to an instruction that has begun
pub draft_known : (A : ℕ → Site → Type 0) (code : List Ins) (done : ℕ) (want bytes : List ℕ) (S : List Site) (os : List ℕ) (first with : Option ℕ) (n : ℕ) (s : Site)
    → (s.kind ≡ kinds.Branch8 → IsShort code s.at s.to s.end) → s.to < length os → s.to < n → IsFirstWith first s (far_from os s.end s.to) with
    → Drafts A code done want bytes S os first n → Drafts A code done (want ++ site_bytes (offsets_of code) s) (bytes ++ site_bytes os s) S os with n
draft_known A code done want bytes S os first with n s short known h w d =
    let e : get_or os s.to 0 ≡ offset code s.to = d.offsets_are s.to known in
    let m : s.to ≤ length code = omega (arith, d.count_is) in
    let P : List ℕ → Type 0 = λ x. Drafts A code done (want ++ site_bytes (offsets_of code) s) (bytes ++ x) S os with n in
    subst P (sym (same_bytes code os s e m))
    (draft_far A code done (want ++ site_bytes (offsets_of code) s) (bytes ++ site_bytes (offsets_of code) s) S os first with n s short e w
    (draft_more A code done want bytes (site_bytes (offsets_of code) s) S os first n d))

watched_more : (A : ℕ → Site → Type 0) (code : List Ins) (S : List Site) (far : Option ℕ) (s : Site) (k t : ℕ)
    → IsWatched A code S far k t → IsWatched A code (S ++ s ∷ []) far k t
watched_more A code S far s k t (inl f) = inl f
watched_more A code S far s k t (inr (inl f)) = inr (inl f)
watched_more A code S far s k t (inr (inr f)) = inr (inr (waits_more A S s k t f))

-- room for one to an instruction that hasn't
pub draft_wait : (known : ℕ) (code : List Ins) (done : ℕ) (want bytes x : List ℕ) (S : List Site) (os : List ℕ) (far : Option ℕ) (n : ℕ) (s : Site)
    → (s.kind ≡ kinds.Branch8 → IsShort code s.at s.to s.end) → s.place ≡ length bytes → known ≤ s.to → s.to < n → length x ≡ operand_size s.kind []
    → Drafts (from_on known) code done want bytes S os far n
    → Drafts (from_on known) code done (want ++ site_bytes (offsets_of code) s) (bytes ++ x) (S ++ s ∷ []) os far n
draft_wait known code done want bytes x S os far n s short here later within ex d =
    let y : List ℕ = site_bytes (offsets_of code) s in
    let ey : length y ≡ operand_size s.kind [] = length-number (operand_size s.kind []) _ in
    let at : s.place ≡ length want = here ∙ d.bytes_are.count in
    record {
      count_is = d.count_is;
      bytes_are = agrees_room (from_on known) S want bytes x y s at ex ey later d.bytes_are;
      sites_are = each_site (λ i z. IsSite code (want ++ y) z) S s (λ i z h. site_more code want y (get_or S i z) (d.sites_are i z h)) (site_here code want s (omega (arith, d.count_is)) at short);
      offsets_are = d.offsets_are;
      far_are = d.far_are;
      watched = λ k t end h sh. watched_more (from_on known) code S far s k t (d.watched k t end h sh);
    }

watched_open : (A B : ℕ → Site → Type 0) (code : List Ins) (S : List Site) (far : Option ℕ) (k t : ℕ)
    → ((i : ℕ) (d : Site) → i < length S → A i (get_or S i d) → B i (get_or S i d)) → IsWatched A code S far k t → IsWatched B code S far k t
watched_open A B code S far k t imp (inl f) = inl f
watched_open A B code S far k t imp (inr (inl f)) = inr (inl f)
watched_open A B code S far k t imp (inr (inr f)) = inr (inr (waits_open A B S k t imp f))

draft_open : (A B : ℕ → Site → Type 0) (code : List Ins) (done : ℕ) (want bytes : List ℕ) (S : List Site) (os : List ℕ) (far : Option ℕ) (n : ℕ)
    → ((i : ℕ) (d : Site) → i < length S → A i (get_or S i d) → B i (get_or S i d)) → Drafts A code done want bytes S os far n → Drafts B code done want bytes S os far n
draft_open A B code done want bytes S os far n imp d = record {
  count_is = d.count_is;
  bytes_are = agrees_open A B S want bytes imp d.bytes_are;
  sites_are = d.sites_are;
  offsets_are = d.offsets_are;
  far_are = d.far_are;
  watched = λ k t end h sh. watched_open A B code S far k t imp (d.watched k t end h sh);
}

-- an instruction begins: of what is open for it, the latest is known
pub draft_begun : (code : List Ins) (k done : ℕ) (want bytes : List ℕ) (S : List Site) (os : List ℕ) (far : Option ℕ) (n : ℕ) (o : Option ℕ) (at : ℕ)
    → length os ≡ k → at ≡ offset code k → IsLatest S k (length S) o → Drafts (from_on k) code done want bytes S os far n
    → Drafts (FirstOf k (count_to o)) code done want bytes S (os ++ at ∷ []) far n
draft_begun code k done want bytes S os far n o at ek eat l d =
    let imp : (i : ℕ) (s : Site) → i < length S → k ≤ (get_or S i s).to → FirstOf k (count_to o) i (get_or S i s) =
    λ i s h f. record {
      from = f;
      first = λ e. elim (below_or i (count_to o)) [ inl m ↦ m | inr m ↦ absurd (l.later i s m h e) ];
    } in
    let more : Drafts (FirstOf k (count_to o)) code done want bytes S os far n = draft_open (from_on k) (FirstOf k (count_to o)) code done want bytes S os far n imp d in
    record {
      count_is = more.count_is;
      bytes_are = more.bytes_are;
      sites_are = more.sites_are;
      offsets_are = λ j h.
          below_more (λ m. get_or (os ++ at ∷ []) m 0 ≡ offset code m) (length os)
          (λ m f. get_or_append_left os (at ∷ []) 0 m f ∙ d.offsets_are m f)
          (get_or_push os at 0 (length os) refl ∙ eat ∙ ap (offset code) (sym ek))
          j (omega (arith, length-append os (at ∷ [])));
      far_are = more.far_are;
      watched = more.watched;
    }

-- of what waits, all but the latest waits on
waits_on : (k m : ℕ) (S : List Site) (o : Option ℕ) → IsLatest S k m o → (i : ℕ) (z : Site) → i ≢ m → FirstOf k (m + 1) i (get_or S i z) → FirstOf k (count_to o) i (get_or S i z)
waits_on k m S o l i z ne a = record {
  from = a.from;
  first = λ f.
      let b : i < m + 1 = a.first f in
      let c : i < m = omega arith in
      elim (below_or i (count_to o)) [ inl h ↦ h | inr h ↦ absurd (l.later i z h c f) ];
}

same_or : (i m : ℕ) → (i ≡ m) ⊎ (i ≢ m)
same_or i m = elim (cases_order i m) [ inl e ↦ inl e | inr (inl h) ↦ inr (λ e. omega arith) | inr (inr h) ↦ inr (λ e. omega arith) ]

module _ (code : List Ins) (k m : ℕ) (S : List Site) (os : List ℕ) (first with : Option ℕ) (s : Site)
    (is : (d : Site) → get_or S m d ≡ s) (short : s.kind ≡ kinds.Branch8 → IsShort code s.at s.to s.end)
    (e : get_or os s.to 0 ≡ offset code s.to) (l : IsLatest S k m s.before) (w : IsFirstWith first s (far_from os s.end s.to) with) where
  settled_waits : (j t : ℕ) → Waits (FirstOf k (m + 1)) S j t → IsWatched (FirstOf k (count_to s.before)) code S with j t
  settled_waits j t f =
      let B : ℕ → Site → Type 0 = FirstOf k (count_to s.before) in
      elim (same_or f.number m) [
        | inl q ↦
            let g = f.site s in
            let v : get_or S f.number s ≡ s = ap (λ i. get_or S i s) q ∙ is s in
            let kd : s.kind ≡ kinds.Branch8 = ap (λ (x : Site). x.kind) (sym v) ∙ g.1 in
            let at : s.at ≡ j = ap (λ (x : Site). x.at) (sym v) ∙ g.2 in
            let to : s.to ≡ t = ap (λ (x : Site). x.to) (sym v) ∙ g.3 in
            let P : ℕ → Type 0 = λ n. IsWatched B code S with n t in
            let Q : ℕ → Type 0 = λ n. IsWatched B code S with s.at n in
            subst P at (subst Q to (watched_here B code S os first with s (short kd) e kd w))
        | inr q ↦ inr (inr (record {
          number = f.number;
          within = f.within;
          site = λ z. let h = f.site z in (waits_on k m S s.before l f.number z q h.0, h.1, h.2, h.3);
        }))
      ]

  settled_watched : (j t : ℕ) → IsWatched (FirstOf k (m + 1)) code S with j t → IsWatched (FirstOf k (count_to s.before)) code S with j t
  settled_watched j t (inl f) = inl f
  settled_watched j t (inr (inl f)) = inr (inl f)
  settled_watched j t (inr (inr f)) = settled_waits j t f

-- the last of what waits is written
pub draft_settled : (code : List Ins) (k done m : ℕ) (want bytes new : List ℕ) (S : List Site) (os : List ℕ) (first with : Option ℕ) (n : ℕ) (s : Site)
    → ((d : Site) → get_or S m d ≡ s) → m < length S → s.to ≡ k → k < length os → k < n → IsLatest S k m s.before
    → IsPut bytes s.place (site_bytes os s) new → IsFirstWith first s (far_from os s.end s.to) with
    → Drafts (FirstOf k (m + 1)) code done want bytes S os first n → Drafts (FirstOf k (count_to s.before)) code done want new S os with n
draft_settled code k done m want bytes new S os first with n s is inside to known few l put w d =
    let A : ℕ → Site → Type 0 = FirstOf k (m + 1) in
    let B : ℕ → Site → Type 0 = FirstOf k (count_to s.before) in
    let P : Site → Type 0 = IsSite code want in
    let site : IsSite code want s = subst P (is s) (d.sites_are m s inside) in
    let e : get_or os s.to 0 ≡ offset code s.to = d.offsets_are s.to (omega arith) in
    let c : s.to ≤ length code = omega (arith, d.count_is) in
    let same : site_bytes os s ≡ site_bytes (offsets_of code) s = same_bytes code os s e c in
    let ex : length (site_bytes os s) ≡ operand_size s.kind [] = length-number (operand_size s.kind []) _ in
    let imp : (i : ℕ) (z : Site) → i < length S → A i (get_or S i z) → B i (get_or S i z) ⊎ (get_or S i z ≡ s) =
    λ i z h a.
    elim (same_or i m) [
      | inl q ↦ inr (ap (λ j. get_or S j z) q ∙ is z)
      | inr q ↦ inl (waits_on k m S s.before l i z q a)
    ] in
    let x : Drafts A code done want bytes S os with n = draft_far A code done want bytes S os first with n s site.short e w d in
    record {
      count_is = x.count_is;
      bytes_are = agrees_put A B S want bytes new (site_bytes os s) s ex (λ i h. site.holds i h ∙ ap (λ (b : List ℕ). get_or b i 0) (sym same)) imp put d.bytes_are;
      sites_are = x.sites_are;
      offsets_are = x.offsets_are;
      far_are = x.far_are;
      watched = λ j t end h sh. settled_watched code k m S os first with s is site.short e l w j t (x.watched j t end h sh);
    }

-- nothing waits for the instruction any more
pub draft_ready : (code : List Ins) (k done : ℕ) (want bytes : List ℕ) (S : List Site) (os : List ℕ) (far : Option ℕ) (n : ℕ)
    → Drafts (FirstOf k 0) code done want bytes S os far n → Drafts (from_on (k + 1)) code done want bytes S os far n
draft_ready code k done want bytes S os far n d =
    draft_open (FirstOf k 0) (from_on (k + 1)) code done want bytes S os far n
    (λ i s h f.
    elim (same_or (get_or S i s).to k) [
      | inl e ↦ let b : i < 0 = f.first e in absurd (omega arith)
      | inr e ↦ omega (arith, f.from)
    ]) d

-- one more instruction is done
pub draft_done : (A : ℕ → Site → Type 0) (code : List Ins) (k : ℕ) (want bytes : List ℕ) (S : List Site) (os : List ℕ) (far : Option ℕ) (n : ℕ)
    → ((t end : ℕ) → IsShort code k t end → IsWatched A code S far k t) → Drafts A code k want bytes S os far n → Drafts A code (k + 1) want bytes S os far n
draft_done A code k want bytes S os far n here d = record {
  count_is = d.count_is;
  bytes_are = d.bytes_are;
  sites_are = d.sites_are;
  offsets_are = d.offsets_are;
  far_are = d.far_are;
  watched = λ j t end h.
      below_more (λ i. IsShort code i t end → IsWatched A code S far i t) k (λ i l sh. d.watched i t end l sh) (λ sh. here t end sh) j h;
}

-- ---- switches

-- the displacement to one more target
pub target_more : (os ts : List ℕ) (end i : ℕ) → i < length ts → target_bytes os end (take (i + 1) ts) ≡ target_bytes os end (take i ts) ++ signed_bytes 4 (far_from os end (get_or ts i 0))
target_more os ts end i h =
    let f : ℕ → List ℕ = λ t. signed_bytes 4 (far_from os end t) in
    ap (target_bytes os end) (take_more ts i 0 h)
    ∙ flat_map-append f (take i ts) (get_or ts i 0 ∷ [])
    ∙ ap (λ (bs : List ℕ). target_bytes os end (take i ts) ++ bs) (append-nil (f (get_or ts i 0)))

pub joined : (want count a b : List ℕ) → (want ++ (count ++ a)) ++ b ≡ want ++ (count ++ (a ++ b))
joined want count a b = append_assoc want (count ++ a) b ∙ ap (λ (bs : List ℕ). want ++ bs) (append_assoc count a b)
