use Rattle.std.proofs.Common.{◌≡◌, ◌∙◌, ap, List, ℕ, ◌++◌, append_assoc, OnOk, Result, Ok, Err, codes, decimal}
use Rattle.script_text.specs.Texts.{place_text}
use Rattle.script_text.proofs.damages.put_damaged_part.Goals as goal

on_ok : {T E P Q : Type 0} (r : Result T E) → (P → Q) → OnOk r P → OnOk r Q
on_ok (Ok v) f h = f h
on_ok (Err e) f h = tt

joined : (o w d b p n1 n2 n3 : List ℕ) → n1 ≡ (o ++ w) ++ d → n2 ≡ n1 ++ b → n3 ≡ n2 ++ p → n3 ≡ o ++ (w ++ d ++ b ++ p)
joined o w d b p n1 n2 n3 e1 e2 e3 =
    let all : n3 ≡ (((o ++ w) ++ d) ++ b) ++ p = e3 ∙ ap (λ x. x ++ p) (e2 ∙ ap (λ x. x ++ b) e1) in
    let same : (((o ++ w) ++ d) ++ b) ++ p ≡ o ++ (w ++ d ++ b ++ p) = simp append_assoc in
    all ∙ same

pub returns : goal.returns
returns c =
    on_ok c.put_place.result
    (λ h. joined c.args.out.now.items (codes "damaged file ") (decimal c.args.file) (codes " ") (place_text c.args.part) _ _ _ c.in_ok-put_counted.ensures c.in_ok-put_bytes.ensures h)
    c.put_place.ensures
