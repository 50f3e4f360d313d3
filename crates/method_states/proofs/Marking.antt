-- Marks that are set besides.
use Rattle.std.proofs.Common.{◌≡◌, ◌∙◌, sym, ap, subst, refl, ℕ, zero, suc, ◌+◌, ◌*◌, ◌/◌, ◌%◌, ◌^◌, ◌<◌, ◌≤◌, ◌⊎◌, inl, inr, Bool, true, false, nat_eq, List, [], ◌∷◌, ◌++◌, length, map, take, get_or, arith}
use Rattle.std.specs.Prelude.{◌==◌, ◌↔◌, IsTrue, if◌then◌else◌, Contains, slice_index_or}
use Rattle.std.proofs.lemmas.Bool.{cases_eq, eq-eqb, ne_eqb}
use Rattle.std.proofs.lemmas.List.{take_more, take_all, length-map, get_or-map}
use Rattle.std.proofs.lemmas.List.Elements.{Contains-append_left, Contains-append_right, Contains-append_cases}
use Rattle.body_codec.specs.NamedTokens.{locals_in}
use Rattle.body_outlines.specs.Outlines.{tokens_of}
use Rattle.body_outlines.specs.declared.outlined.BodyOutline.{BodyOutline}
use Rattle.body_outlines.specs.declared.outlined.TokenUse.{TokenUse}
use Rattle.image_model.specs.Naming.{IsToken}
use Rattle.image_model.specs.Rows.{count_of, HasRow}
use Rattle.method_states.specs.Marks.{IsKept, pick, marks_in, IsMarked, HasPlace, HaveRoom, IsSet, IsUnset, MarkBesides}
use Rattle.method_states.specs.declared.row_marks.RowMarks.{RowMarks}

-- ---- one of four lists

pub pick_members : (t : ℕ) (a x b c d : List Bool) → (t ≡ 0x0A → ⊥) → pick t x b c d ≡ pick t a b c d
pick_members t a x b c d ne =
    let rest : List Bool = if t == 0x11 then b else (if t == 0x1B then c else (if t == 0x2B then d else [])) in
    let e : (t == 0x0A) ≡ false = ne_eqb t 0x0A ne in
    ap (λ q. if q then x else rest) e ∙ sym (ap (λ q. if q then a else rest) e)

pub pick_locals : (t : ℕ) (a b x c d : List Bool) → (t ≡ 0x11 → ⊥) → pick t a x c d ≡ pick t a b c d
pick_locals t a b x c d ne =
    let rest : List Bool = if t == 0x1B then c else (if t == 0x2B then d else []) in
    let e : (t == 0x11) ≡ false = ne_eqb t 0x11 ne in
    ap (λ y. if t == 0x0A then a else y) (ap (λ q. if q then x else rest) e ∙ sym (ap (λ q. if q then b else rest) e))

pub pick_types : (t : ℕ) (a b c x d : List Bool) → (t ≡ 0x1B → ⊥) → pick t a b x d ≡ pick t a b c d
pick_types t a b c x d ne =
    let rest : List Bool = if t == 0x2B then d else [] in
    let e : (t == 0x1B) ≡ false = ne_eqb t 0x1B ne in
    ap (λ y. if t == 0x0A then a else (if t == 0x11 then b else y)) (ap (λ q. if q then x else rest) e ∙ sym (ap (λ q. if q then c else rest) e))

pub pick_instances : (t : ℕ) (a b c d x : List Bool) → (t ≡ 0x2B → ⊥) → pick t a b c x ≡ pick t a b c d
pick_instances t a b c d x ne =
    let e : (t == 0x2B) ≡ false = ne_eqb t 0x2B ne in
    ap (λ y. if t == 0x0A then a else (if t == 0x11 then b else (if t == 0x1B then c else y))) (ap (λ q. if q then x else []) e ∙ sym (ap (λ q. if q then d else []) e))

pub pick_none : (t : ℕ) (a b c d : List Bool) → (t ≡ 0x0A → ⊥) → (t ≡ 0x11 → ⊥) → (t ≡ 0x1B → ⊥) → (t ≡ 0x2B → ⊥) → pick t a b c d ≡ []
pick_none t a b c d p q r s =
    ap (λ z. if z then a else (if t == 0x11 then b else (if t == 0x1B then c else (if t == 0x2B then d else [])))) (ne_eqb t 0x0A p)
    ∙ (ap (λ z. if z then b else (if t == 0x1B then c else (if t == 0x2B then d else []))) (ne_eqb t 0x11 q)
    ∙ (ap (λ z. if z then c else (if t == 0x2B then d else [])) (ne_eqb t 0x1B r) ∙ ap (λ z. if z then d else []) (ne_eqb t 0x2B s)))

-- ---- one mark

-- what is said after a mark was set in the list of a table
pub record IsMarkedBesides (old : RowMarks) (table row : ℕ) (new : RowMarks) : Type 0 where
  pub room : (t : ℕ) → length (marks_in new t) ≡ length (marks_in old t)
  pub marked : (t r : ℕ) → IsMarked new t r ↔ (IsMarked old t r ⊎ ((t ≡ table) × (r ≡ row) × HasPlace old table row))

pub besides : (old new : RowMarks) (table row : ℕ) → IsSet (marks_in old table) row (marks_in new table) → ((t : ℕ) → (t ≡ table → ⊥) → marks_in new t ≡ marks_in old t)
    → IsMarkedBesides old table row new
besides old new table row s others = record {
  room = λ t. elim (cases_eq t table) [
    | inl e ↦ subst (λ (x : ℕ). length (marks_in new x) ≡ length (marks_in old x)) (sym e) s.long
    | inr ne ↦ ap (λ (l : List Bool). length l) (others t ne)
  ];
  marked = λ t r. elim (cases_eq t table) [
    | inl e ↦ (
      λ h. elim ((s.each r).0 (subst (λ (x : ℕ). IsMarked new x r) e h)) [
        | inl o ↦ inl (subst (λ (x : ℕ). IsMarked old x r) (sym e) o)
        | inr p ↦ inr (e, p.0, (p.1, p.2))
      ],
      λ h. subst (λ (x : ℕ). IsMarked new x r) (sym e) ((s.each r).1 (elim h [
        | inl o ↦ inl (subst (λ (x : ℕ). IsMarked old x r) e o)
        | inr p ↦ inr (p.1, p.2.0, p.2.1)
      ])),
    )
    | inr ne ↦ (
      λ h. inl (subst (λ (l : List Bool). IsTrue (slice_index_or l r false)) (others t ne) h),
      λ h. elim h [
        | inl o ↦ subst (λ (l : List Bool). IsTrue (slice_index_or l r false)) (sym (others t ne)) o
        | inr p ↦ absurd (ne p.0)
      ],
    )
  ];
}

pub nothing_besides : (m : RowMarks) (table row : ℕ) → (HasPlace m table row → ⊥) → IsMarkedBesides m table row m
nothing_besides m table row none = record {
  room = λ t. refl;
  marked = λ t r. (λ h. inl h, λ h. elim h [ inl o ↦ o | inr p ↦ absurd (none p.2) ]);
}

-- ---- tokens

pub token_parts : (token t r : ℕ) → IsToken token t r → (t ≡ token / 2 ^ 24) × (r ≡ token % 2 ^ 24)
token_parts token t r h =
    let e = h.is in
    let l = h.fits in
    (omega arith, omega arith)

pub token_is : (token t r : ℕ) → t ≡ token / 2 ^ 24 → r ≡ token % 2 ^ 24 → IsToken token t r
token_is token t r e f = record { is = omega arith; fits = omega arith }

only_one : (x y : ℕ) → Contains (x ∷ []) y → y ≡ x
only_one x y (zero, l, e) = sym e
only_one x y (suc k, l, e) = absurd (omega arith)

pub one_token : (old new : RowMarks) (token table row : ℕ) → table ≡ token / 2 ^ 24 → row ≡ token % 2 ^ 24 → IsMarkedBesides old table row new → MarkBesides old (token ∷ []) new
one_token old new token table row e f h = record {
  room = h.room;
  marked = λ t r. (
    λ m. elim ((h.marked t r).0 m) [
      | inl o ↦ inl o
      | inr p ↦ inr (
        token,
        (0, omega arith, refl),
        token_is token t r (p.0 ∙ e) (p.1 ∙ f),
        (
          let q = p.2.0 in let s = p.1 in omega arith,
          subst (λ (x : ℕ). r < length (marks_in old x)) (sym p.0) (let q = p.2.1 in let s = p.1 in omega arith),
        ),
      )
    ],
    λ m. (h.marked t r).1 (elim m [
      | inl o ↦ inl o
      | inr p ↦
          let same = only_one token p.0 p.1 in
          let parts = token_parts token t r (subst (λ (x : ℕ). IsToken x t r) same p.2) in
          let te : t ≡ table = parts.0 ∙ sym e in
          let re : r ≡ row = parts.1 ∙ sym f in
          inr (te, re, (let q = p.3.0 in omega arith, subst (λ (x : ℕ). row < length (marks_in old x)) te (let q = p.3.1 in omega arith)))
    ]),
  );
}

pub besides_none : (m : RowMarks) → MarkBesides m [] m
besides_none m = record { room = λ t. refl; marked = λ t r. (λ h. inl h, λ h. elim h [ inl o ↦ o | inr p ↦ absurd (let l = p.1.1 in omega arith) ]) }

pub besides_then : (a b c : RowMarks) (xs ys : List ℕ) → MarkBesides a xs b → MarkBesides b ys c → MarkBesides a (xs ++ ys) c
besides_then a b c xs ys h k = record {
  room = λ t. k.room t ∙ h.room t;
  marked = λ t r. (
    λ m. elim ((k.marked t r).0 m) [
      | inl o ↦ elim ((h.marked t r).0 o) [
        | inl x ↦ inl x
        | inr p ↦ inr (p.0, Contains-append_left xs ys p.0 p.1, p.2, p.3)
      ]
      | inr p ↦ inr (p.0, Contains-append_right xs ys p.0 p.1, p.2, (p.3.0, let l = p.3.1 in let s = h.room t in omega arith))
    ],
    λ m. (k.marked t r).1 (elim m [
      | inl x ↦ inl ((h.marked t r).1 (inl x))
      | inr p ↦ elim (Contains-append_cases xs ys p.0 p.1) [
        | inl q ↦ inl ((h.marked t r).1 (inr (p.0, q, p.2, p.3)))
        | inr q ↦ inr (p.0, q, p.2, (p.3.0, let l = p.3.1 in let s = h.room t in omega arith))
      ]
    ]),
  );
}

-- one more token of a list
pub besides_more : (a b c : RowMarks) (xs : List ℕ) (k x d : ℕ) → k < length xs → get_or xs k d ≡ x → MarkBesides a (take k xs) b → MarkBesides b (x ∷ []) c
    → MarkBesides a (take (k + 1) xs) c
besides_more a b c xs k x d l e h g =
    subst (λ ts. MarkBesides a ts c) (ap (λ y. take k xs ++ y ∷ []) (sym e) ∙ sym (take_more xs k d l)) (besides_then a b c (take k xs) (x ∷ []) h g)

-- that of locals, where there is one
pub locals_none : (m : RowMarks) (token : ℕ) → token ≡ 0 → MarkBesides m (locals_in token) m
locals_none m token e = subst (λ ts. MarkBesides m ts m) (sym (ap (λ b. if b then [] else token ∷ []) (eq-eqb token 0 e))) (besides_none m)

pub locals_some : (a b : RowMarks) (token : ℕ) → (token ≡ 0 → ⊥) → MarkBesides a (token ∷ []) b → MarkBesides a (locals_in token) b
locals_some a b token ne h = subst (λ ts. MarkBesides a ts b) (sym (ap (λ b. if b then [] else token ∷ []) (ne_eqb token 0 ne))) h

pub ruleset locals_steps = (locals_none, locals_some)

-- all that a body names
pub body_marked : (a b c d : RowMarks) (o : BodyOutline) (uses : List TokenUse) (catches : List ℕ) → uses ≡ o.operands → catches ≡ o.catches → MarkBesides a (locals_in o.locals) b
    → MarkBesides b (map (λ (u : TokenUse). u.token) uses) c → MarkBesides c catches d → MarkBesides a (tokens_of o) d
body_marked a b c d o uses catches e f h g k =
    let ys = map (λ (u : TokenUse). u.token) o.operands in
    let g' = subst (λ us. MarkBesides b (map (λ (u : TokenUse). u.token) us) c) e g in
    let k' = subst (λ cs. MarkBesides c cs d) f k in
    besides_then a b d (locals_in o.locals) (ys ++ o.catches) h (besides_then b c d ys o.catches g' k')

-- one more operand
pub operands_more : (a b c : RowMarks) (uses : List TokenUse) (k : ℕ) (u : TokenUse) → k < length uses → MarkBesides a (take k (map (λ (x : TokenUse). x.token) uses)) b
    → MarkBesides b ((get_or uses k u).token ∷ []) c → MarkBesides a (take (k + 1) (map (λ (x : TokenUse). x.token) uses)) c
operands_more a b c uses k u l h g =
    besides_more a b c (map (λ (x : TokenUse). x.token) uses) k (get_or uses k u).token 0 (let n = length-map uses (λ (x : TokenUse). x.token) in omega arith)
    (get_or-map (λ (x : TokenUse). x.token) uses k u 0 l) h g

-- all of a list
pub whole : (a b : RowMarks) (xs : List ℕ) (n : ℕ) → length xs ≤ n → MarkBesides a (take n xs) b → MarkBesides a xs b
whole a b xs n l h = subst (λ ts. MarkBesides a ts b) (take_all n xs l) h

pub operands_whole : (a b : RowMarks) (uses : List TokenUse) (n : ℕ) → length uses ≤ n → MarkBesides a (take n (map (λ (u : TokenUse). u.token) uses)) b
    → MarkBesides a (map (λ (u : TokenUse). u.token) uses) b
operands_whole a b uses n l h = whole a b (map (λ (u : TokenUse). u.token) uses) n (let m = length-map uses (λ (u : TokenUse). u.token) in omega arith) h

-- ---- room

pub place_there : (image : List ℕ) (m : RowMarks) (table row : ℕ) → HaveRoom image m → IsKept table → HasRow image table row → HasPlace m table row
place_there image m table row room (inl e) h = (h.0, subst (λ (t : ℕ). row < length (marks_in m t)) (sym e) (let n = subst (λ (t : ℕ). row ≤ count_of image t) e h.1 in let r = room.members in omega arith))
place_there image m table row room (inr (inl e)) h = (h.0, subst (λ (t : ℕ). row < length (marks_in m t)) (sym e) (let n = subst (λ (t : ℕ). row ≤ count_of image t) e h.1 in let r = room.locals in omega arith))
place_there image m table row room (inr (inr (inl e))) h = (h.0, subst (λ (t : ℕ). row < length (marks_in m t)) (sym e) (let n = subst (λ (t : ℕ). row ≤ count_of image t) e h.1 in let r = room.types in omega arith))
place_there image m table row room (inr (inr (inr e))) h = (h.0, subst (λ (t : ℕ). row < length (marks_in m t)) (sym e) (let n = subst (λ (t : ℕ). row ≤ count_of image t) e h.1 in let r = room.instances in omega arith))

row_there : (image : List ℕ) (m : RowMarks) (t table row n : ℕ) → table ≡ t → n ≡ length (marks_in m t) → n ≡ count_of image t + 1 → HasPlace m table row → HasRow image table row
row_there image m t table row n e l c h =
    (h.0, subst (λ (x : ℕ). row ≤ count_of image x) (sym e) (let q = subst (λ (x : ℕ). row < length (marks_in m x)) e h.1 in omega arith))

pub there_placed : (image : List ℕ) (m : RowMarks) (table row : ℕ) → HaveRoom image m → HasPlace m table row → IsKept table × HasRow image table row
there_placed image m table row room h =
    elim (cases_eq table 0x0A) [
      | inl e ↦ (inl e, row_there image m 0x0A table row (length (marks_in m 0x0A)) e refl room.members h)
      | inr p ↦ elim (cases_eq table 0x11) [
        | inl e ↦ (inr (inl e), row_there image m 0x11 table row (length (marks_in m 0x11)) e refl room.locals h)
        | inr q ↦ elim (cases_eq table 0x1B) [
          | inl e ↦ (inr (inr (inl e)), row_there image m 0x1B table row (length (marks_in m 0x1B)) e refl room.types h)
          | inr r ↦ elim (cases_eq table 0x2B) [
            | inl e ↦ (inr (inr (inr e)), row_there image m 0x2B table row (length (marks_in m 0x2B)) e refl room.instances h)
            | inr s ↦
                let none = ap (λ (l : List Bool). length l) (pick_none table m.members.items m.locals.items m.types.items m.instances.items p q r s) in
                let l = h.1 in
                absurd (omega arith)
          ]
        ]
      ]
    ]

pub room_kept : (image : List ℕ) (a b : RowMarks) → ((t : ℕ) → length (marks_in b t) ≡ length (marks_in a t)) → HaveRoom image a → HaveRoom image b
room_kept image a b same h = record {
  members = same 0x0A ∙ h.members;
  locals = same 0x11 ∙ h.locals;
  types = same 0x1B ∙ h.types;
  instances = same 0x2B ∙ h.instances;
}
