use Rattle.std.proofs.Common.{rules, ◌≡◌, ◌++◌, ℕ, List, ap, ◌∙◌, subst}
use Rattle.std.specs.Prelude.{Result, Ok, Err, OnOk, is_ok, if◌then◌else◌, ℤ}
use mir.Val.{SFits, of_z, to_z}
use mir.Syntax.{w128}
use Rattle.std.proofs.lemmas.Int.{to_z-of_z}
use Rattle.fixed_code.specs.NumberCode.{number_code}
use Rattle.column_page.specs.Footers.{wide_bytes}
use Rattle.column_page.proofs.footer_writes.put_wide.Goals as goal

appended : {T E : Type 0} (r : Result T E) (new old x : List ℕ) → new ≡ (if is_ok r then old ++ x else old) → OnOk r (new ≡ old ++ x)
appended (Ok y) new old x h = h
appended (Err e) new old x h = tt

wide_is : (z : ℤ) (code : List ℕ) → code ≡ number_code 16 z → code ≡ wide_bytes z
unfolding wide_bytes
wide_is z code h = h

pub returns : goal.returns
returns c =
    let fits : SFits w128 c.args.number = search rules in
    let same : to_z w128 (of_z w128 c.args.number) ≡ c.args.number = simp to_z-of_z in
    let code : c.put.result ≡ wide_bytes c.args.number = wide_is (to_z w128 (of_z w128 c.args.number)) c.put.result c.put.ensures.code ∙ ap wide_bytes same in
    subst (λ (x : List ℕ). OnOk c.extend_from_slice.result (c.extend_from_slice.new.self.items ≡ c.args.out.now.items ++ x)) code (appended c.extend_from_slice.result c.extend_from_slice.new.self.items c.args.out.now.items c.put.result c.extend_from_slice.ensures.items)
