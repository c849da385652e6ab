-- What all bytes of a proxy bring.
use Rattle.std.proofs.Common.{◌≡◌, ◌≢◌, ℕ, true, false, List, [], ◌∷◌, ◌++◌, drop, refl, sym, ap, subst, ◌∙◌}
use Rattle.std.proofs.lemmas.List.{drop-append-le}
use Rattle.mq_capsule.specs.Laws.{IsReadable, IsReadOnce, StaysRead}
use Rattle.mq_client.specs.declared.event.ClientEvent.{ClientEvent}
use Rattle.mq_client.specs.declared.event.ClientEvent.TheVariants.{Opened, Refused, Datagram, Closed, BadPeer}
use Rattle.mq_client.specs.Heads.{IsAnswered}
use Rattle.mq_client.specs.Events.{events_of}
use Rattle.mq_client.specs.Brings.{Brings, DataBrings, switching_protocols}
use Rattle.mq_client.specs.Laws.{ToldOnce, NothingFollows}
use Rattle.mq_client.proofs.Heads.{malformed_append, answered_append, answered_within, one_answered, waits_or_answered, waits_or_malformed, answered_or_malformed}
use Rattle.mq_client.proofs.Told.{ended, events_over}

-- ---- one list of events

data_once : IsReadOnce → (bytes : List ℕ) (events others : List ClientEvent) → DataBrings bytes events → DataBrings bytes others → events ≡ others
data_once once bytes events others x y = x.2 ∙ ap events_of (once false bytes x.0 y.0 x.1 y.1) ∙ sym y.2

opened_once : IsReadOnce → (bytes : List ℕ) (events others : List ClientEvent) → Brings bytes (Opened ∷ events) → Brings bytes (Opened ∷ others) → events ≡ others
opened_once once bytes events others x y =
    let same = one_answered bytes switching_protocols switching_protocols x.0 y.0 x.1 y.1 in
    data_once once (drop x.0 bytes) events others x.2 (subst (λ n. DataBrings (drop n bytes) others) (sym same.1) y.2)

opened_or_refused : (bytes : List ℕ) (status u v : ℕ) → IsAnswered bytes switching_protocols u → IsAnswered bytes status v → status ≢ switching_protocols → ⊥
opened_or_refused bytes status u v x y other = other (sym (one_answered bytes switching_protocols status u v x y).0)

pub told_once : IsReadOnce → ToldOnce
told_once once bytes [] [] x y = refl
told_once once bytes [] (Opened ∷ f) x y = absurd (waits_or_answered bytes _ _ x y.1)
told_once once bytes [] (Refused t ∷ f) x y = absurd (waits_or_answered bytes _ _ x y.1)
told_once once bytes [] (Datagram q ∷ f) x y = absurd y
told_once once bytes [] (Closed ∷ f) x y = absurd y
told_once once bytes [] (BadPeer d ∷ f) x y = absurd (waits_or_malformed bytes x y.0)
told_once once bytes (Opened ∷ e) [] x y = absurd (waits_or_answered bytes _ _ y x.1)
told_once once bytes (Opened ∷ e) (Opened ∷ f) x y = ap (λ (l : List ClientEvent). Opened ∷ l) (opened_once once bytes e f x y)
told_once once bytes (Opened ∷ e) (Refused t ∷ f) x y = absurd (opened_or_refused bytes t x.0 y.0 x.1 y.1 y.2)
told_once once bytes (Opened ∷ e) (Datagram q ∷ f) x y = absurd y
told_once once bytes (Opened ∷ e) (Closed ∷ f) x y = absurd y
told_once once bytes (Opened ∷ e) (BadPeer d ∷ f) x y = absurd (answered_or_malformed bytes _ _ x.1 y.0)
told_once once bytes (Refused s ∷ e) [] x y = absurd (waits_or_answered bytes _ _ y x.1)
told_once once bytes (Refused s ∷ e) (Opened ∷ f) x y = absurd (opened_or_refused bytes s y.0 x.0 y.1 x.1 x.2)
told_once once bytes (Refused s ∷ e) (Refused t ∷ f) x y =
    ap (λ (n : ℕ). Refused n ∷ e) (one_answered bytes s t x.0 y.0 x.1 y.1).0 ∙ ap (λ (l : List ClientEvent). Refused t ∷ l) (x.3 ∙ sym y.3)
told_once once bytes (Refused s ∷ e) (Datagram q ∷ f) x y = absurd y
told_once once bytes (Refused s ∷ e) (Closed ∷ f) x y = absurd y
told_once once bytes (Refused s ∷ e) (BadPeer d ∷ f) x y = absurd (answered_or_malformed bytes _ _ x.1 y.0)
told_once once bytes (Datagram p ∷ e) others x y = absurd x
told_once once bytes (Closed ∷ e) others x y = absurd x
told_once once bytes (BadPeer c ∷ e) [] x y = absurd (waits_or_malformed bytes y x.0)
told_once once bytes (BadPeer c ∷ e) (Opened ∷ f) x y = absurd (answered_or_malformed bytes _ _ y.1 x.0)
told_once once bytes (BadPeer c ∷ e) (Refused t ∷ f) x y = absurd (answered_or_malformed bytes _ _ y.1 x.0)
told_once once bytes (BadPeer c ∷ e) (Datagram q ∷ f) x y = absurd y
told_once once bytes (BadPeer c ∷ e) (Closed ∷ f) x y = absurd y
told_once once bytes (BadPeer c ∷ e) (BadPeer d ∷ f) x y =
    ap (λ (n : ℕ). BadPeer n ∷ e) (x.1 ∙ sym y.1) ∙ ap (λ (l : List ClientEvent). BadPeer d ∷ l) (x.2 ∙ sym y.2)

-- ---- more bytes

-- a tunnel's data stream goes on behind its head
pub data_goes : (bytes more : List ℕ) (status used : ℕ) → IsAnswered bytes status used → drop used (bytes ++ more) ≡ drop used bytes ++ more
data_goes bytes more status used x = drop-append-le used bytes more (answered_within bytes status used x)

data_over : IsReadable → StaysRead → (bytes more : List ℕ) (events : List ClientEvent) → DataBrings bytes events → ended events ≡ true → DataBrings (bytes ++ more) events
data_over readable stays bytes more events x over =
    let all = readable false (bytes ++ more) in
    let later = stays false bytes more x.0 all.0 x.1 all.1 in
    let still : ended (events_of x.0) ≡ true = sym (ap ended x.2) ∙ over in
    (all.0, all.1, x.2 ∙ sym (events_over x.0 later.0 still) ∙ ap events_of (sym later.1))

pub nothing_follows : IsReadable → StaysRead → NothingFollows
nothing_follows readable stays bytes more [] x over = absurd cc
nothing_follows readable stays bytes more (Opened ∷ events) x over = (
  x.0,
  answered_append bytes more _ _ x.1,
  subst (λ b. DataBrings b events) (sym (data_goes bytes more switching_protocols x.0 x.1))
      (data_over readable stays (drop x.0 bytes) more events x.2 over),
)
nothing_follows readable stays bytes more (Refused status ∷ events) x over = (x.0, answered_append bytes more _ _ x.1, x.2, x.3)
nothing_follows readable stays bytes more (Datagram payload ∷ events) x over = absurd x
nothing_follows readable stays bytes more (Closed ∷ events) x over = absurd x
nothing_follows readable stays bytes more (BadPeer code ∷ events) x over = (malformed_append bytes more x.0, x.1, x.2)
