-- What the items of a data stream ask for with a payload has its number.
use Rattle.std.proofs.Common.{◌≡◌, ◌≢◌, ℕ, ◌+◌, ◌<◌, suc, Bool, true, false, cond, List, [], ◌∷◌, ◌++◌, length, nat_lt, slice_get, Option, Some, None, refl, sym, subst, ap, ◌∙◌, arith, append_assoc}
use Rattle.std.specs.Prelude.{◌==◌}
use Rattle.std.specs.List.{filter, list_any, AllByRecursion}
use Rattle.std.proofs.lemmas.Bool.{eqb-true, eq-eqb, ltb-true}
use Rattle.mq_addr.specs.declared.entry.Asked.{Asked}
use Rattle.mq_addr.specs.declared.entry.Given.{Given}
use Rattle.mq_addr.specs.declared.range.Range.{Range}
use Rattle.mq_addr.specs.declared.range.Flow.{Flow}
use Rattle.mq_addr.specs.declared.kind.Kind.{Kind}
use Rattle.mq_addr.specs.declared.kind.Kind.TheVariants as kind
use Rattle.mq_capsule.specs.declared.item.Item.{Item}
use Rattle.mq_capsule.specs.declared.item.Item.TheVariants as item
use Rattle.mq_capsule.specs.Items.{IsSized, max_payload}
use Rattle.mq_talk.specs.declared.place.Cause.TheVariants as cause
use Rattle.mq_talk.specs.declared.note.Why.TheVariants as why
use Rattle.mq_talk.specs.Packets.{flow_of}
use Rattle.mq_machine.specs.declared.act.StreamAct.{StreamAct}
use Rattle.mq_machine.specs.declared.act.StreamAct.TheVariants as stream
use Rattle.mq_machine.specs.Reading.{max_udp, flow_act, payload_act, too_long_act, some_or_malformed, value_acts, item_acts, is_payload, payload_count, is_close, acts_of}
use Rattle.mq_machine.specs.Words.{assigned_of, asked_of, ranges_of}
use Rattle.mq_play.proofs.Lists.{each_append}
use Rattle.mq_runs.specs.Payloads.{IsWrong}

-- by a test of which it is known how it comes out
pub by_cases : {A : Type 0} (P : A → Type 0) (b : Bool) (x y : A) → (b ≡ true → P x) → (b ≡ false → P y) → P (cond b x y)
by_cases P true x y h k = h refl
by_cases P false x y h k = k refl

-- the item is payload number n of these
abbrev pub IsAt : List Item → ℕ → Item → Type 0
IsAt all n i = slice_get (filter is_payload all) n ≡ Some i

-- what is asked of these items
abbrev pub AskedOf : ℕ → List Item → StreamAct → Type 0
AskedOf mtu all (stream.Payload n payload) = IsAt all n (item.Datagram 0 payload)
AskedOf mtu all (stream.Packet n packet flow) = IsAt all n (item.Datagram 0 packet) × (flow_of packet ≡ Some flow)
AskedOf mtu all (stream.Push n to packet) = ⊥
AskedOf mtu all (stream.Drop n cause) = (i : Item) × IsAt all n i × IsWrong mtu i cause
AskedOf mtu all (stream.Assign asked) = Unit {0}
AskedOf mtu all (stream.Advertise ranges) = Unit {0}
AskedOf mtu all (stream.Close why) = Unit {0}

module _ (mtu : ℕ) (all : List Item) where
  abbrev pub Asks : List StreamAct → Type 0
  Asks acts = AllByRecursion (AskedOf mtu all) acts

  flow_asks : (n : ℕ) (packet : List ℕ) (o : Option Flow) → flow_of packet ≡ o → IsAt all n (item.Datagram 0 packet) → AskedOf mtu all (flow_act mtu n packet o)
  flow_asks n packet None is at = (item.Datagram 0 packet, at, (refl, is))
  flow_asks n packet (Some flow) is at =
      by_cases (AskedOf mtu all) (nat_lt mtu (length packet)) (stream.Drop n cause.TooLong) (stream.Packet n packet flow)
      (λ long. (item.Datagram 0 packet, at, (refl, ltb-true mtu (length packet) long))) (λ short. (at, is))

  payload_asks : (k : Kind) (n : ℕ) (payload : List ℕ) → IsAt all n (item.Datagram 0 payload) → AskedOf mtu all (payload_act k mtu n payload)
  payload_asks kind.Udp n payload at = by_cases (AskedOf mtu all) (nat_lt max_udp (length payload)) (stream.Close why.Malformed) (stream.Payload n payload) (λ long. tt) (λ short. at)
  payload_asks kind.Ip n payload at = flow_asks n payload (flow_of payload) refl at

  long_asks : (k : Kind) (n context size : ℕ) → context ≡ 0 → max_payload < size → IsAt all n (item.TooLongDatagram context size) → AskedOf mtu all (too_long_act k n)
  long_asks kind.Udp n context size is long at = tt
  long_asks kind.Ip n context size is long at = (item.TooLongDatagram context size, at, (is, long))

  not_zero : (context : ℕ) → context == 0 ≡ false → context ≢ 0
  not_zero context other is = let same = eq-eqb context 0 is in absurd cc

  some_asks : {A : Type 0} (f : A → List StreamAct) (o : Option A) → ((a : A) → Asks (f a)) → Asks (some_or_malformed f o)
  some_asks f None h = (tt, tt)
  some_asks f (Some a) h = h a

  values_ask : (type : ℕ) (value : List ℕ) → Asks (value_acts type value)
  values_ask type value =
      by_cases Asks (type == 1) _ _ (λ e. some_asks (λ (list : List Given). []) (assigned_of value) (λ list. tt))
      (λ e. by_cases Asks (type == 2) _ _ (λ e. some_asks (λ (list : List Asked). stream.Assign list ∷ []) (asked_of value) (λ list. (tt, tt)))
      (λ e. some_asks (λ (ranges : List Range). stream.Advertise ranges ∷ []) (ranges_of value) (λ ranges. (tt, tt))))

  item_asks : (k : Kind) (n : ℕ) (i : Item) → IsSized i → (is_payload i ≡ true → IsAt all n i) → Asks (item_acts k mtu n i)
  item_asks k n (item.Datagram context payload) sized at = (
    by_cases (AskedOf mtu all) (context == 0) (payload_act k mtu n payload) (stream.Drop n cause.UnknownContext)
        (λ yes. payload_asks k n payload (subst (λ c. IsAt all n (item.Datagram c payload)) (eqb-true context 0 yes) (at refl)))
        (λ other. (item.Datagram context payload, at refl, not_zero context other)),
    tt,
  )
  item_asks k n (item.TooLongDatagram context size) sized at = (
    by_cases (AskedOf mtu all) (context == 0) (too_long_act k n) (stream.Drop n cause.UnknownContext)
        (λ yes. long_asks k n context size (eqb-true context 0 yes) sized (at refl)) (λ other. (item.TooLongDatagram context size, at refl, not_zero context other)),
    tt,
  )
  item_asks k n (item.Control type value) sized at = values_ask type value
  item_asks k n (item.Bad fault) sized at = (tt, tt)

  -- ---- numbers

  -- behind so many payloads it is the next
  at_count : (front items : List Item) (i : Item) → is_payload i ≡ true → slice_get (filter is_payload (front ++ i ∷ items)) (payload_count front) ≡ Some i
  at_count [] items i is = rw is refl
  at_count (j ∷ front) items i is = by_kind (at_count front items i is) (is_payload j) refl where
    by_kind : slice_get (filter is_payload (front ++ i ∷ items)) (payload_count front) ≡ Some i → (b : Bool) → is_payload j ≡ b → slice_get (cond b (j ∷ filter is_payload (front ++ i ∷ items)) (filter is_payload (front ++ i ∷ items))) (cond b 1 0 + payload_count front) ≡ Some i
    by_kind rest true e = let one : 1 + payload_count front ≡ suc (payload_count front) = omega arith in rw one rest
    by_kind rest false e = let none : 0 + payload_count front ≡ payload_count front = omega arith in rw none rest

  count_push : (front : List Item) (i : Item) → payload_count (front ++ i ∷ []) ≡ payload_count front + cond (is_payload i) 1 0
  count_push [] i = omega arith
  count_push (j ∷ front) i = let rest = count_push front i in omega (arith, rest)

  -- what the items behind these ask for
  pub items_ask : (k : Kind) (n : ℕ) (front items : List Item) → all ≡ front ++ items → n ≡ payload_count front → AllByRecursion IsSized items → Asks (acts_of k mtu n items)
  items_ask k n front [] is count sized = tt
  items_ask k n front (i ∷ items) is count sized =
      let later = n + cond (is_payload i) 1 0 in
      let rest = items_ask k later (front ++ i ∷ []) items (is ∙ sym (append_assoc front (i ∷ []) items)) (ap (λ m. m + cond (is_payload i) 1 0) count ∙ sym (count_push front i)) sized.1 in
      let here = item_asks k n i sized.0 (λ yes. rw (is, count) (at_count front items i yes)) in
      each_append (AskedOf mtu all) (item_acts k mtu n i) (cond (list_any is_close (item_acts k mtu n i)) [] (acts_of k mtu later items)) here
      (by_cases Asks (list_any is_close (item_acts k mtu n i)) [] (acts_of k mtu later items) (λ e. tt) (λ e. rest))
