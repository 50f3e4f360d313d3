-- The text of a name, part by part.
use Rattle.std.proofs.Common.{◌≡◌, ℕ, zero, suc, ◌+◌, ◌-◌, ◌<◌, ◌≤◌, true, false, not, nat_eq, ◌==◌, ◌≢◌, ◌⊎◌, inl, inr, List, [], ◌∷◌, ◌++◌, length, take, drop, Some, refl, ap, sym, subst, ◌∙◌, arith, length-append, length-drop, append_assoc, append-nil, take_at, drop_at, drop-drop, true≢false}
use Rattle.std.proofs.lemmas.Slice.{between_to_end}
use Rattle.std.proofs.lemmas.Bool.{cond-false}
use Rattle.il_lexer.specs.Classes.{first_is, first_passes, is_id_start, is_id_part}
use Rattle.il_lexer.specs.Runs.{front}
use Rattle.il_lexer.specs.Spelled.{Each, IsId, IsText, IsPart, IsName, IsSpelling}
use Rattle.il_lexer.specs.declared.types.TokenKind.TheVariants.{Scope, QString}
use Rattle.il_lexer.specs.Spellings.{part_length}
use Rattle.source_nodes.proofs.Lexed.{differ, front-each, front-stops, first-is-cons, heads-same, tails-same, quoted-part-exact, id-exact}
use Rattle.source_model.specs.Values.{or_zero, unescaped, between_quotes, part_text, part_texts_within, part_texts, dotted, last_text, all_but_last}
use Rattle.source_nodes.specs.NameTexts.{IsTextOf, EndsPart}

-- ---- the texts of the parts, one after another

enough : (t u : ℕ) (bs : List ℕ) → length bs ≤ t → length bs ≤ u → part_texts_within t bs ≡ part_texts_within u bs
enough zero zero bs a b = refl
enough zero (suc u) [] a b = refl
enough zero (suc u) (x ∷ bs) a b = absurd (omega arith)
enough (suc t) zero [] a b = refl
enough (suc t) zero (x ∷ bs) a b = absurd (omega arith)
enough (suc t) (suc u) [] a b = refl
enough (suc t) (suc u) (x ∷ bs) a b =
    let n = or_zero (part_length (x ∷ bs)) in
    let len : length (drop (n + 1) (x ∷ bs)) ≡ length (x ∷ bs) - (n + 1) = length-drop (n + 1) (x ∷ bs) in
    let l : length (drop (n + 1) (x ∷ bs)) ≤ t = omega arith in
    let r : length (drop (n + 1) (x ∷ bs)) ≤ u = omega arith in
    ap (λ ts. part_text (take n (x ∷ bs)) ∷ ts) (enough t u (drop (n + 1) (x ∷ bs)) l r)

texts_step : (b n : ℕ) (bs : List ℕ) → part_length (b ∷ bs) ≡ Some n →
    part_texts (b ∷ bs) ≡ part_text (take n (b ∷ bs)) ∷ part_texts (drop (n + 1) (b ∷ bs))
unfolding part_texts
texts_step b n bs e =
    let len : length (drop (n + 1) (b ∷ bs)) ≡ length (b ∷ bs) - (n + 1) = length-drop (n + 1) (b ∷ bs) in
    let l : length (drop (n + 1) (b ∷ bs)) ≤ length bs = omega arith in
    let r : length (drop (n + 1) (b ∷ bs)) ≤ length (drop (n + 1) (b ∷ bs)) = omega arith in
    ap (λ o. part_text (take (or_zero o) (b ∷ bs)) ∷ part_texts_within (length bs) (drop (or_zero o + 1) (b ∷ bs))) e
    ∙ ap (λ ts. part_text (take n (b ∷ bs)) ∷ ts) (enough (length bs) (length (drop (n + 1) (b ∷ bs))) (drop (n + 1) (b ∷ bs)) l r)

-- ---- the part at the front

no_part_goes_on : (after : List ℕ) → EndsPart after → first_passes is_id_part after ≡ false
no_part_goes_on after (inl e) = ap (first_passes is_id_part) e
no_part_goes_on after (inr h) = let f = first-is-cons 46 after h in ap (first_passes is_id_part) f.1

pub part_at : (part after : List ℕ) → IsPart part → EndsPart after → part_length (part ++ after) ≡ Some (length part)
part_at [] after (inl id) ends = absurd id
part_at (b ∷ w) after (inl id) ends =
    let none : front is_id_part after ≡ 0 = front-stops is_id_part after (no_part_goes_on after ends) in
    let sum : length (b ∷ w) + front is_id_part after ≡ length (b ∷ w) = omega arith in
    cond-false (nat_eq b 39) _ _ (differ is_id_start b 39 id.0 refl) ∙ id-exact (b ∷ w) after id ∙ ap Some sum
part_at part after (inr (text, t, some, is)) ends =
    let same : part ++ after ≡ 39 ∷ (text ++ 39 ∷ after) = ap (λ x. x ++ after) is ∙ ap (λ x. 39 ∷ x) (append_assoc text (39 ∷ []) after) in
    let l1 : length part ≡ suc (length (text ++ 39 ∷ [])) = ap length is in
    let l2 : length (text ++ 39 ∷ []) ≡ length text + 1 = length-append text (39 ∷ []) in
    let long : length text + 2 ≡ length part = omega arith in
    ap part_length same ∙ quoted-part-exact t some after ∙ ap Some long

pub part_texts-at : (part after : List ℕ) → IsPart part → EndsPart after → part_texts (part ++ after) ≡ part_text part ∷ part_texts (drop 1 after)
part_texts-at [] after (inl id) ends = absurd id
part_texts-at [] after (inr (text, t, some, is)) ends = absurd cc
part_texts-at (b ∷ w) after p ends =
    texts_step b (length (b ∷ w)) (w ++ after) (part_at (b ∷ w) after p ends)
    ∙ ap (λ x. part_text x ∷ part_texts (drop (length (b ∷ w) + 1) ((b ∷ w) ++ after))) (take_at (b ∷ w) after (length (b ∷ w)) refl)
    ∙ ap (λ x. part_text (b ∷ w) ∷ part_texts x) (behind (b ∷ w) after)
  where
    behind : (xs ys : List ℕ) → drop (length xs + 1) (xs ++ ys) ≡ drop 1 ys
    behind xs ys = sym (drop-drop 1 (length xs) (xs ++ ys)) ∙ ap (drop 1) (drop_at xs ys (length xs) refl)

-- a name is a part and what stands behind it: nothing, or a dot and a name
pub record NameFront (name : List ℕ) : Type 0 where
  pub part : List ℕ
  pub after : List ℕ
  pub holds : IsPart part
  pub ends : EndsPart after
  pub whole : name ≡ part ++ after
  pub more : ((after ≡ []) × (part_texts name ≡ part_text part ∷ []))
      ⊎ ((next : List ℕ) × IsName next × (after ≡ 46 ∷ next) × (part_texts name ≡ part_text part ∷ part_texts next))

pub no_texts : part_texts [] ≡ []
unfolding part_texts
no_texts = refl

pub name_front : {name : List ℕ} → IsName name → NameFront name
name_front {name} (IsName.part p) = record {
  part = name;
  after = [];
  holds = p;
  ends = inl refl;
  whole = sym (append-nil name);
  more = inl (
    refl,
    ap part_texts (sym (append-nil name)) ∙ part_texts-at name [] p (inl refl) ∙ ap (λ ts. part_text name ∷ ts) no_texts,
  );
}
name_front {name} (IsName.dotted {first = first} {rest = rest} p more is) = record {
  part = first;
  after = 46 ∷ rest;
  holds = p;
  ends = inr refl;
  whole = is;
  more = inr (rest, more, refl, ap part_texts is ∙ part_texts-at first (46 ∷ rest) p (inr refl));
}

-- ---- texts joined by dots

-- texts with a dot behind each
abbrev pub ended : List (List ℕ) → List ℕ
ended [] = []
ended (t ∷ ts) = t ++ 46 ∷ ended ts

dotted-last : (done : List (List ℕ)) (t : List ℕ) → dotted (done ++ t ∷ []) ≡ ended done ++ t
dotted-last [] t = refl
dotted-last (d ∷ []) t = sym (append_assoc d (46 ∷ []) t)
dotted-last (d ∷ e ∷ es) t =
    ap (λ x. d ++ 46 ∷ x) (dotted-last (e ∷ es) t) ∙ sym (append_assoc d (46 ∷ ended (e ∷ es)) t)

but_last : (done : List (List ℕ)) (t : List ℕ) → all_but_last (done ++ t ∷ []) ≡ done
but_last [] t = refl
but_last (d ∷ []) t = refl
but_last (d ∷ e ∷ es) t = ap (λ x. d ∷ x) (but_last (e ∷ es) t)

the_last : (done : List (List ℕ)) (t : List ℕ) → last_text (done ++ t ∷ []) ≡ t
the_last [] t = refl
the_last (d ∷ []) t = refl
the_last (d ∷ e ∷ es) t = the_last (e ∷ es) t

ended-dotted : (d : List ℕ) (ds : List (List ℕ)) → ended (d ∷ ds) ≡ dotted (d ∷ ds) ++ 46 ∷ []
ended-dotted d [] = refl
ended-dotted d (e ∷ es) = ap (λ x. d ++ 46 ∷ x) (ended-dotted e es) ∙ sym (append_assoc d (46 ∷ dotted (e ∷ es)) (46 ∷ []))

pub ended-more : (done : List (List ℕ)) (t : List ℕ) → ended (done ++ t ∷ []) ≡ (ended done ++ t) ++ 46 ∷ []
ended-more [] t = refl
ended-more (d ∷ ds) t =
    ap (λ x. d ++ 46 ∷ x) (ended-more ds t)
    ∙ sym (append_assoc d (46 ∷ (ended ds ++ t)) (46 ∷ []))
    ∙ ap (λ x. x ++ 46 ∷ []) (sym (append_assoc d (46 ∷ ended ds) t))

space_of : (done : List (List ℕ)) (t : List ℕ) → take (length (ended done) - 1) (ended done ++ t) ≡ dotted done
space_of [] t = refl
space_of (d ∷ ds) t =
    let joined = dotted (d ∷ ds) in
    let whole : ended (d ∷ ds) ++ t ≡ joined ++ 46 ∷ t = ap (λ x. x ++ t) (ended-dotted d ds) ∙ append_assoc joined (46 ∷ []) t in
    let long : length (ended (d ∷ ds)) ≡ length joined + 1 = ap length (ended-dotted d ds) ∙ length-append joined (46 ∷ []) in
    let n : length (ended (d ∷ ds)) - 1 ≡ length joined = omega arith in
    ap (λ m. take m (ended (d ∷ ds) ++ t)) n ∙ ap (take (length joined)) whole ∙ take_at joined (46 ∷ t) (length joined) refl

-- ---- the loop over the parts

-- so many parts are done, the text of one more stands last, and behind it stands nothing or a dot and a name
pub record Parts (texts : List (List ℕ)) (text : List ℕ) (last : ℕ) (rest : List ℕ) : Type 0 where
  pub done : List (List ℕ)
  pub part : List ℕ
  pub whole : text ≡ ended done ++ part
  pub place : last ≡ length (ended done)
  pub more : ((rest ≡ []) × (texts ≡ done ++ part ∷ []))
      ⊎ ((next : List ℕ) × IsName next × (rest ≡ 46 ∷ next) × (texts ≡ done ++ part ∷ part_texts next))

-- what a function does that adds the text of a part
abbrev pub Pushes : List ℕ → List ℕ → List ℕ → List ℕ → Type 0
Pushes old new rest left = (part after : List ℕ) → IsPart part → EndsPart after → rest ≡ part ++ after → (left ≡ after) × (new ≡ old ++ part_text part)

pub first_part : (name text left : List ℕ) → IsName name → Pushes [] text name left → Parts (part_texts name) text 0 left
first_part name text left h pushes =
    let f : NameFront name = name_front h in
    let p = pushes f.part f.after f.holds f.ends f.whole in
    record {
      done = [];
      part = part_text f.part;
      whole = p.1;
      place = refl;
      more = elim f.more [ inl (e, ts) ↦ inl (p.0 ∙ e, ts) | inr (next, n, e, ts) ↦ inr (next, n, p.0 ∙ e, ts) ];
    }

tail_is : (rest : List ℕ) → take (length rest - 1) (drop 1 rest) ≡ drop 1 rest
tail_is rest = let le : length rest ≤ length rest = omega arith in between_to_end rest 1 (length rest) le

pub next_part : (texts : List (List ℕ)) (text dot new : List ℕ) (last : ℕ) (rest left : List ℕ) → 1 ≤ length rest → Parts texts text last rest →
    dot ≡ text ++ 46 ∷ [] → Pushes dot new (take (length rest - 1) (drop 1 rest)) left → Parts texts new (length dot) left
next_part texts text dot new last rest left some p dotted_is pushes = go p.more
  where
    go : ((rest ≡ []) × (texts ≡ p.done ++ p.part ∷ []))
        ⊎ ((next : List ℕ) × IsName next × (rest ≡ 46 ∷ next) × (texts ≡ p.done ++ p.part ∷ part_texts next)) → Parts texts new (length dot) left
    go (inl (e, ts)) = let none : length rest ≡ 0 = ap length e in absurd (omega arith)
    go (inr (next, h, e, ts)) =
        let f : NameFront next = name_front h in
        let q = pushes f.part f.after f.holds f.ends (tail_is rest ∙ ap (drop 1) e ∙ f.whole) in
        let done = p.done ++ p.part ∷ [] in
        let so_far : dot ≡ ended done = dotted_is ∙ ap (λ x. x ++ 46 ∷ []) p.whole ∙ sym (ended-more p.done p.part) in
        let all : (ys : List (List ℕ)) → p.done ++ p.part ∷ ys ≡ done ++ ys = λ ys. sym (append_assoc p.done (p.part ∷ []) ys) in
        record {
          done = done;
          part = part_text f.part;
          whole = q.1 ∙ ap (λ x. x ++ part_text f.part) so_far;
          place = ap length so_far;
          more = elim f.more [
            | inl (g, us) ↦ inl (q.0 ∙ g, ts ∙ ap (λ us. p.done ++ p.part ∷ us) us ∙ all (part_text f.part ∷ []))
            | inr (more, n, g, us) ↦ inr (
              more,
              n,
              q.0 ∙ g,
              ts ∙ ap (λ us. p.done ++ p.part ∷ us) us ∙ all (part_text f.part ∷ part_texts more),
            )
          ];
        }

pub last_part : (texts : List (List ℕ)) (text : List ℕ) (last : ℕ) (rest : List ℕ) → length rest < 1 → Parts texts text last rest →
    IsTextOf texts text last
last_part texts text last rest none p = go p.more
  where
    go : ((rest ≡ []) × (texts ≡ p.done ++ p.part ∷ []))
        ⊎ ((next : List ℕ) × IsName next × (rest ≡ 46 ∷ next) × (texts ≡ p.done ++ p.part ∷ part_texts next)) → IsTextOf texts text last
    go (inl (e, ts)) = record {
      whole = p.whole ∙ sym (dotted-last p.done p.part) ∙ ap dotted (sym ts);
      space =
          ap (λ m. take (m - 1) text) p.place ∙ ap (take (length (ended p.done) - 1)) p.whole ∙ space_of p.done p.part
          ∙ ap dotted (sym (but_last p.done p.part)) ∙ ap (λ us. dotted (all_but_last us)) (sym ts);
      name =
          ap (λ m. drop m text) p.place ∙ ap (drop (length (ended p.done))) p.whole
          ∙ drop_at (ended p.done) p.part (length (ended p.done)) refl ∙ sym (the_last p.done p.part) ∙ ap last_text (sym ts);
    }
    go (inr (next, h, e, ts)) = let some : length rest ≡ suc (length next) = ap length e in absurd (omega arith)

-- ---- the text of one part

no_dot : (w : List ℕ) → Each is_id_part w → Each (λ b. not (b == 46)) w
no_dot [] h = tt
no_dot (b ∷ w) h = (ap not (differ is_id_part b 46 h.0 refl), no_dot w h.1)

pub no_dot_in_id : (w : List ℕ) → IsId w → Each (λ b. not (b == 46)) w
no_dot_in_id [] h = absurd h
no_dot_in_id (b ∷ w) h = (ap not (differ is_id_start b 46 h.0 refl), no_dot w h.1)

no_more : (after : List ℕ) → EndsPart after → first_passes (λ b. not (b == 46)) after ≡ false
no_more after (inl e) = ap (first_passes (λ b. not (b == 46))) e
no_more after (inr h) = let f = first-is-cons 46 after h in ap (first_passes (λ b. not (b == 46))) f.1

pub id_text : (w : List ℕ) → IsId w → part_text w ≡ w
id_text [] h = absurd h
id_text (b ∷ w) h = cond-false (nat_eq b 39) _ _ (differ is_id_start b 39 h.0 refl)

-- an identifier goes up to the next dot
pub identifier_passed : (part after : List ℕ) → IsId part → EndsPart after →
    (drop (front (λ b. not (b == 46)) (part ++ after)) (part ++ after) ≡ after)
    × (take (front (λ b. not (b == 46)) (part ++ after)) (part ++ after) ≡ part_text part)
identifier_passed part after id ends =
    let through : front (λ b. not (b == 46)) (part ++ after) ≡ length part + front (λ b. not (b == 46)) after =
    front-each (λ b. not (b == 46)) part after (no_dot_in_id part id) in
    let none : front (λ b. not (b == 46)) after ≡ 0 = front-stops (λ b. not (b == 46)) after (no_more after ends) in
    let n : front (λ b. not (b == 46)) (part ++ after) ≡ length part = omega arith in (
      ap (λ m. drop m (part ++ after)) n ∙ drop_at part after (length part) refl,
      ap (λ m. take m (part ++ after)) n ∙ take_at part after (length part) refl ∙ sym (id_text part id),
    )

-- a text in single quotes
pub quoted_text : (part text : List ℕ) → part ≡ 39 ∷ (text ++ 39 ∷ []) → part_text part ≡ unescaped text
quoted_text part text is =
    let l2 : length (text ++ 39 ∷ []) ≡ length text + 1 = length-append text (39 ∷ []) in
    let n : length (39 ∷ (text ++ 39 ∷ [])) - 2 ≡ length text = omega arith in
    ap part_text is
    ∙ ap (λ m. unescaped (take m (text ++ 39 ∷ []))) n
    ∙ ap unescaped (take_at text (39 ∷ []) (length text) refl)

begins_id : (b : ℕ) (more after : List ℕ) → b ≢ 39 → (part : List ℕ) → IsPart part → b ∷ more ≡ part ++ after → IsId part
begins_id b more after ne part (inl id) e = id
begins_id b more after ne part (inr (text, t, some, is)) e =
    absurd (ne (heads-same b 39 more ((text ++ 39 ∷ []) ++ after) (e ∙ ap (λ x. x ++ after) is)))

begins_quoted : (b : ℕ) (more after : List ℕ) → b ≡ 39 → (part : List ℕ) → IsPart part → b ∷ more ≡ part ++ after →
    (text : List ℕ) × IsText 39 text × (part_text part ≡ unescaped text) × (more ≡ text ++ 39 ∷ after)
begins_quoted b more after q [] (inl id) e = absurd id
begins_quoted b more after q (c ∷ w) (inl id) e =
    let same : c ≡ 39 = sym (heads-same b c more (w ++ after) e) ∙ q in
    absurd (true≢false (sym (ap (λ x. nat_eq x 39) same) ∙ differ is_id_start c 39 id.0 refl))
begins_quoted b more after q part (inr (text, t, some, is)) e = (
  text,
  t,
  quoted_text part text is,
  tails-same b 39 more ((text ++ 39 ∷ []) ++ after) (e ∙ ap (λ x. x ++ after) is) ∙ append_assoc text (39 ∷ []) after,
)

no_bytes : (part after : List ℕ) → IsPart part → [] ≡ part ++ after → IsId part
no_bytes [] after (inl id) e = id
no_bytes [] after (inr (text, t, some, is)) e = absurd cc
no_bytes (b ∷ w) after h e = absurd cc

an_id : (rest part after : List ℕ) → first_is 39 rest ≡ false → IsPart part → rest ≡ part ++ after → IsId part
an_id [] part after ne h e = no_bytes part after h e
an_id (b ∷ more) part after ne h e = begins_id b more after (λ q. true≢false (sym (ap (λ x. nat_eq x 39) q) ∙ ne)) part h e

pub id_pushes : (rest new old left : List ℕ) → first_is 39 rest ≡ false →
    (left ≡ drop (front (λ b. not (b == 46)) rest) rest) × (new ≡ old ++ take (front (λ b. not (b == 46)) rest) rest) → Pushes old new rest left
id_pushes rest new old left ne p part after h ends e =
    let f = identifier_passed part after (an_id rest part after ne h e) ends in (
      p.0 ∙ ap (λ x. drop (front (λ b. not (b == 46)) x) x) e ∙ f.0,
      p.1 ∙ ap (λ x. old ++ take (front (λ b. not (b == 46)) x) x) e ∙ ap (λ x. old ++ x) f.1,
    )

pub quote_pushes : (rest new old left : List ℕ) → first_is 39 rest ≡ true →
    ((inner after : List ℕ) → IsText 39 inner → drop 1 rest ≡ inner ++ 39 ∷ after → (left ≡ after) × (new ≡ old ++ unescaped inner)) →
    Pushes old new rest left
quote_pushes rest new old left q pushed part after h ends e =
    let b = first-is-cons 39 rest q in
    let f = begins_quoted 39 b.0 after refl part h (sym b.1 ∙ e) in
    let p = pushed f.0 after f.1 (ap (drop 1) b.1 ∙ f.3) in
    (p.0, p.1 ∙ ap (λ x. old ++ x) (sym f.2))

-- ---- names in brackets

pub brackets_inner : (spelling name : List ℕ) → spelling ≡ 91 ∷ (name ++ 93 ∷ []) → between_quotes spelling ≡ name
brackets_inner spelling name is =
    let l : length (name ++ 93 ∷ []) ≡ length name + 1 = length-append name (93 ∷ []) in
    let n : length (91 ∷ (name ++ 93 ∷ [])) - 2 ≡ length name = omega arith in
    ap between_quotes is ∙ ap (λ m. take m (name ++ 93 ∷ [])) n ∙ take_at name (93 ∷ []) (length name) refl

pub in_brackets : (spelling : List ℕ) → IsSpelling Scope spelling → IsName (between_quotes spelling)
in_brackets spelling (name, h, is) = subst IsName (sym (brackets_inner spelling name is)) h

-- ---- strings

pub string_text : (spelling : List ℕ) → IsSpelling QString spelling →
    (text : List ℕ) × IsText 34 text × (drop 1 spelling ≡ text ++ 34 ∷ []) × (text ≡ between_quotes spelling)
string_text spelling (text, t, is) =
    let l : length (text ++ 34 ∷ []) ≡ length text + 1 = length-append text (34 ∷ []) in
    let n : length (34 ∷ (text ++ 34 ∷ [])) - 2 ≡ length text = omega arith in
    let inner : between_quotes spelling ≡ text =
    ap between_quotes is ∙ ap (λ m. take m (text ++ 34 ∷ [])) n ∙ take_at text (34 ∷ []) (length text) refl in
    (text, t, ap (drop 1) is, sym inner)
