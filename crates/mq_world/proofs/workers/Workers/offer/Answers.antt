use Rattle.std.proofs.Common.{◌≡◌, ◌≢◌, ℕ, ◌++◌, ◌∷◌, [], false, List, length, All, sym, ap, subst, ◌∙◌}
use Rattle.std.specs.Prelude.{take}
use Rattle.std.specs.Vec.{with_item}
use Rattle.std.proofs.Math.Seq.{take-append_seam}
use Rattle.mq_machine.specs.State.{new_link, with_offer}
use Rattle.mq_mem.specs.Offices.{seen_of}
use Rattle.mq_actor.specs.Ended.{numbers_in}
use Rattle.mq_plain.specs.Served.{Serves}
use Rattle.mq_world.specs.declared.told.Told.{Told as ToldBy}
use Rattle.mq_world.specs.declared.workers.Workers.{Workers}
use Rattle.mq_world.proofs.Each.{stands_still}
use Rattle.mq_world.proofs.Offered.{fresh, links_many, missing_same, placed, relinked, stands_offered}
use Rattle.mq_world.proofs.Stepping.{read_at}
use Rattle.mq_world.proofs.workers.Workers.offer.Goals as goal

pub returns-then-has_no_place : goal.returns-then-has_no_place
returns-then-has_no_place c = λ s is. (missing_same c.args.self.now s is c.args.actor ∙ sym c.has_no_place.ensures ∙ c.if-has_no_place.true, is)

pub offer-requires : goal.offer-requires
offer-requires c =
    let old = c.args.self.now in
    let less = placed (length old.workers.items) c.args.actor _ (sym c.has_no_place.ensures ∙ c.if-has_no_place.false) in
    let at = read_at old.workers.items c.args.actor c.index_mut-worker.result.now less c.index_mut-worker.ensures.value in
    subst (λ (n : ℕ). All (λ other. other ≢ n) (numbers_in c.index_mut-worker.result.now.ring)) (sym (c.len-number.ensures ∙ old.links.ok.0))
    (fresh old c.requires.0 c.requires.1 c.args.actor c.index_mut-worker.result.now at)

pub returns-in-Ok-offer : goal.returns-in-Ok-offer
returns-in-Ok-offer c = λ s is.
    let old = c.args.self.now in
    let k = c.args.actor in
    let none = sym c.has_no_place.ensures ∙ c.if-has_no_place.false in
    let less = placed (length old.workers.items) k _ none in
    let at = read_at old.workers.items k c.index_mut-worker.result.now less c.index_mut-worker.ensures.value in
    let next : c.len-number.result ≡ length s.links = c.len-number.ensures ∙ old.links.ok.0 ∙ sym (links_many old s is) in (
      missing_same old s is k ∙ none,
      stands_offered old s is k c.index_mut-worker.result.now at (record old { links = c.push.new.self; rests = c.mark.new.rests }) c.offer.new.worker c.in-Ok.ensures.items c.mark.ensures
          (λ w x. subst (λ (n : ℕ). Serves (s.links ++ record { worker = k; is_ended = false } ∷ []) (seen_of old.office) old.mail.boxes k c.offer.new.worker (with_offer n new_link w)) next
          (c.in-Ok-offer.ensures.serves s.links (seen_of old.office) old.mail.boxes k w next x)),
    )

pub returns-in-Err : goal.returns-in-Err
returns-in-Err c = λ s is.
    let old = c.args.self.now in
    let k = c.args.actor in
    let less = placed (length old.workers.items) k _ (sym c.has_no_place.ensures ∙ c.if-has_no_place.false) in
    let at = read_at old.workers.items k c.index_mut-worker.result.now less c.index_mut-worker.ensures.value in
    let size : c.len-number.result ≡ length old.links.items = c.len-number.ensures ∙ old.links.ok.0 in
    let told : ToldBy = record { worker = k; is_ended = false } in
    let same : c.truncate.new.self.items ≡ old.links.items =
    c.truncate.ensures.items ∙ ap (λ (n : ℕ). take n c.push.new.self.items) size ∙ ap (λ (ts : List ToldBy). take (length old.links.items) ts) c.in-Ok.ensures.items
    ∙ take-append_seam old.links.items (told ∷ []) in
    let still : Workers = record old { workers = with_item old.workers k c.offer.new.worker; rests = c.mark.new.rests } in (
      tt,
      relinked still s (stands_still old s is k c.mark.new.rests c.mark.ensures c.index_mut-worker.result.now c.offer.new.worker at (λ w x. c.in-Err.ensures.err s.links (seen_of old.office) old.mail.boxes k w x))
          (record still { links = c.truncate.new.self }) same,
    )
