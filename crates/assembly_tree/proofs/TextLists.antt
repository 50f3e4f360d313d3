-- Whether lists have a text.
use Rattle.std.proofs.Common.{◌≡◌, ◌≢◌, ◌∙◌, ap, sym, refl, ℕ, ◌+◌, ◌<◌, true, false, ◌||◌, List, [], ◌∷◌, ◌++◌, map, length, drop, get_or, Some, None}
use Rattle.std.proofs.lemmas.Bool.{true≢false, false≢true}
use Rattle.std.proofs.lemmas.List.{drop_more}
use Rattle.std.specs.List.{flat_map}
use Rattle.assembly_tree.specs.Loading.{has_text}
use Rattle.assembly_tree.specs.Room.{Units, instruction_texts, body_texts, method_texts, typedef_texts_step, typedef_texts, texts}
use Rattle.assembly_tree.specs.declared.assembly.Assembly.{Assembly}
use Rattle.assembly_tree.specs.declared.body.Body.{Body}
use Rattle.assembly_tree.specs.declared.members.Method.{Method}
use Rattle.assembly_tree.specs.declared.typedef.TypeDef.{TypeDef}
use Rattle.assembly_tree.specs.declared.typedef.TypeDef.TheViews.{out-TypeDef}
use Rattle.assembly_tree.specs.declared.typedef.TypeDef.TheFolds.{fold_out-TypeDef}

pub none_at_false : (ts : List Units) → has_text ts ≡ false → ts ≡ []
none_at_false [] e = refl
none_at_false (t ∷ ts) e = absurd (true≢false e)

pub some_at_true : (ts : List Units) → has_text ts ≡ true → ts ≢ []
some_at_true ts e none = false≢true (sym (ap has_text none) ∙ e)

in_both : (ts us : List Units) → has_text (ts ++ us) ≡ (has_text ts || has_text us)
in_both [] us = refl
in_both (t ∷ ts) us = refl

-- in what is left of a loop: in the next item, or in what is left after it
pub in_rest : {X : Type 0} (f : X → List Units) (xs : List X) (i : ℕ) (x : X) → i < length xs → x ≡ get_or xs i x →
    has_text (flat_map f (drop i xs)) ≡ (has_text (f x) || has_text (flat_map f (drop (i + 1) xs)))
in_rest f xs i x h e =
    ap (λ ys. has_text (flat_map f ys)) (drop_more xs i x h)
    ∙ ap (λ y. has_text (f y ++ flat_map f (drop (i + 1) xs))) (sym e)
    ∙ in_both (f x) (flat_map f (drop (i + 1) xs))

mapped : (ts : List TypeDef) → flat_map (λ xs. xs) (map typedef_texts ts) ≡ flat_map typedef_texts ts
mapped [] = refl
mapped (t ∷ ts) = ap (λ xs. typedef_texts t ++ xs) (mapped ts)

pub in_no_body : (m : Method) → m.body ≡ None → has_text (method_texts m) ≡ false
unfolding method_texts body_texts
in_no_body m none = ap (λ b. has_text (body_texts b)) none

pub in_body : (m : Method) (b : Body) → m.body ≡ Some b → has_text (method_texts m) ≡ has_text (flat_map instruction_texts b.code)
unfolding method_texts body_texts
in_body m b some = ap (λ b. has_text (body_texts b)) some

pub in_type : (t : TypeDef) →
    has_text (typedef_texts t)
    ≡ (has_text (flat_map method_texts (out-TypeDef t).methods) || has_text (flat_map typedef_texts (out-TypeDef t).nested))
in_type t =
    let nested = ap (λ xs. flat_map method_texts (out-TypeDef t).methods ++ xs) (mapped (out-TypeDef t).nested) in
    ap has_text (fold_out-TypeDef (List Units) typedef_texts_step t ∙ nested)
    ∙ in_both (flat_map method_texts (out-TypeDef t).methods) (flat_map typedef_texts (out-TypeDef t).nested)

pub in_assembly : (a : Assembly) → has_text (texts a) ≡ (has_text (flat_map method_texts a.methods) || has_text (flat_map typedef_texts a.types))
unfolding texts
in_assembly a = in_both (flat_map method_texts a.methods) (flat_map typedef_texts a.types)
