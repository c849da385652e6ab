use Rattle.std.proofs.Common.{◌≡◌, ℕ, ◌+◌, [], ◌∷◌, length, refl, sym, ap, ◌∙◌}
use Rattle.mq_machine.specs.declared.setup.Setup.{Setup}
use Rattle.mq_mem.specs.Offices.{seen_of}
use Rattle.mq_mail.specs.Posts.{KeyOf}
use Rattle.mq_plain.proofs.Serving.{nowhere}
use Rattle.mq_actors_tests.proofs.plain.played_shared.Goals as goal

-- The mail tells no inboxes: the worker is as beside two that are empty.
pub steps-requires-clause-known : goal.steps-requires-clause-known
steps-requires-clause-known g c =
    let x = c.in_ok-worker.ensures (seen_of c.in_ok-office.office.office) ([] ∷ [] ∷ []) c.in_ok-office.ensures.config c.in_ok-office.ensures.empty refl in
    let known = x.2.known nowhere in
    (nowhere, x.1, x.2.stands, record { id = known.id; pump = known.pump; tunnels = known.tunnels; last = known.last; places = known.places; boxes = λ bs is. absurd cc })

pub steps-requires-clause-office : goal.steps-requires-clause-office
steps-requires-clause-office g c =
    let x = c.in_ok-worker.ensures (seen_of c.in_ok-office.office.office) ([] ∷ [] ∷ []) c.in_ok-office.ensures.config c.in_ok-office.ensures.empty refl in
    c.in_ok-office.ensures.actor ∙ sym x.2.id

pub steps-requires-clause-mail : goal.steps-requires-clause-mail
steps-requires-clause-mail g c =
    let x = c.in_ok-worker.ensures (seen_of c.in_ok-office.office.office) ([] ∷ [] ∷ []) c.in_ok-office.ensures.config c.in_ok-office.ensures.empty refl in
    ap (λ (k : KeyOf). k.actor) (c.mail-mail.ensures ∙ c.in_ok-post.ensures.key) ∙ sym x.2.id

pub steps-requires-clause-inboxes : goal.steps-requires-clause-inboxes
steps-requires-clause-inboxes g c =
    let x = c.in_ok-worker.ensures (seen_of c.in_ok-office.office.office) ([] ∷ [] ∷ []) c.in_ok-office.ensures.config c.in_ok-office.ensures.empty refl in
    let size : length c.mail-mail.result.key.post ≡ 2 = ap (λ (k : KeyOf). length k.post) (c.mail-mail.ensures ∙ c.in_ok-post.ensures.key) ∙ c.in_ok-post.ensures.post.0 in
    let pump : x.1.setup.pump ≡ 1 = (x.2.known nowhere).pump ∙ c.in_ok-office.ensures.config in
    size ∙ ap (λ (n : ℕ). n + 1) (sym pump ∙ ap (λ (s : Setup). s.pump) x.2.stands.setup)
