use Rattle.std.proofs.Common.{◌≡◌, List, false, refl, subst, sym, ◌∙◌}
use Rattle.std.specs.Prelude.{MatchResult, [], ◌∷◌}
use Rattle.mq_hpack.specs.declared.field.Field.{Field}
use Rattle.mq_h2.specs.Acts.{FitsFrame, responds, where_live}
use Rattle.mq_h2.specs.Stand.{IsH2}
use Rattle.mq_machine.specs.Http2.{grants, status_field, capsule_field}
use Rattle.mq_front.specs.declared.http2.Http2.{Http2 as Many}
use Rattle.mq_front.proofs.Apart.{grants_apart, puts_by}
use Rattle.mq_front.proofs.Sizes.{fits_grant}
use Rattle.mq_front.proofs.http2.Http2.grant.Goals as goal

pub returns : goal.returns
returns c = λ h streams owed was.
    let id = c.args.stream in
    let old = c.args.self.now in
    let new : Many = record { h2 = c.respond.new.self; streams = old.streams } in
    let same : c.as_slice.result.now ≡ status_field 200 ∷ capsule_field ∷ [] = c.as_slice.ensures.value ∙ c.in_ok-fields.ensures {u = tt} in
    puts_by (grants id) (grants_apart id) old new h streams owed c.respond.result refl
    (λ s is.
    (let P : List Field → Type 0 = λ fields. MatchResult c.respond.result (λ _. IsH2 c.respond.new.self (where_live id (responds id fields false) s)) (λ _. IsH2 c.respond.new.self s) in
    subst P same (c.respond.ensures s is (subst (λ (fields : List Field). FitsFrame fields s) (sym same) (fits_grant c.is_one_text.ensures.so c.is_no_longer.ensures s))))) was
