-- What the data stream of a tunnel asks for.
use Rattle.std.proofs.Common.{◌≡◌, ℕ, ◌+◌, ◌==◌, Bool, true, false, cond, nat_lt, List, [], ◌∷◌, ◌++◌, length, drop, Option, Some, None, sym, subst, inl, inr, refl, ◌≤◌, IsSome}
use Rattle.std.specs.List.{AllByRecursion, filter_map, cons_option, list_any}
use Rattle.mq_addr.specs.declared.entry.Asked.{Asked}
use Rattle.mq_addr.specs.declared.entry.Given.{Given}
use Rattle.mq_addr.specs.declared.kind.Kind.{Kind}
use Rattle.mq_addr.specs.declared.kind.Kind.TheVariants as kind
use Rattle.mq_addr.specs.declared.range.Flow.{Flow}
use Rattle.mq_addr.specs.declared.range.Range.{Range}
use Rattle.mq_capsule.specs.declared.head.Head.{Head}
use Rattle.mq_capsule.specs.declared.item.Item.{Item}
use Rattle.mq_capsule.specs.declared.item.Item.TheVariants as item
use Rattle.mq_capsule.specs.Capsule.{Capsule, head_of}
use Rattle.mq_capsule.specs.Items.{ItemsOf, IsSized, said, item_of, head_items, datagram_by, max_payload, up_to_bad, is_bad}
use Rattle.mq_talk.specs.declared.goal.Goal.{Goal}
use Rattle.mq_talk.specs.declared.goal.Goal.TheVariants as goal
use Rattle.mq_talk.specs.declared.note.Why.TheVariants as why
use Rattle.mq_talk.specs.declared.place.Cause.TheVariants as cause
use Rattle.mq_wire.specs.Integer.{int_of}
use Rattle.mq_machine.specs.declared.act.StreamAct.{StreamAct}
use Rattle.mq_machine.specs.declared.act.StreamAct.TheVariants as stream
use Rattle.mq_machine.specs.State.{Stream, kind_of}
use Rattle.mq_machine.specs.Reading.{max_udp, udp_act, flow_act, payload_act, too_long_act, in_context, some_or_malformed, value_acts, item_acts, is_payload, payload_count, is_close, then_acts, acts_of, has_values, EndsWith, BytesAsk}
use Rattle.mq_machine.specs.Lawful.{IsAsked}
use Rattle.mq_machine.specs.Words.{assigned_of, asked_of, ranges_of}
use Rattle.mq_talk.specs.Mails.{IsPacket}
use Rattle.mq_talk.specs.Packets.{flow_of}
use Rattle.mq_capsule.proofs.Limits.{items_sized, later_sized}
use Rattle.mq_machine.proofs.Lawful.Lists.{either, each_append}

-- ---- a reader of a tunnel for UDP tells no control capsules

abbrev IsPlain : Item → Type 0
IsPlain (item.Datagram context payload) = Unit {0}
IsPlain (item.TooLongDatagram context size) = Unit {0}
IsPlain (item.Control type value) = ⊥
IsPlain (item.Bad fault) = Unit {0}

abbrev ArePlain : List Item → Type 0
ArePlain items = AllByRecursion IsPlain items

each_behind : {A : Type 0} (P : A → Type 0) (xs ys : List A) → AllByRecursion P (xs ++ ys) → AllByRecursion P ys
each_behind P [] ys h = h
each_behind P (x ∷ xs) ys h = each_behind P xs ys h.1

of_payload : (o : Option (ℕ × ℕ)) (value : List ℕ) → IsPlain (datagram_by o value)
of_payload None value = tt
of_payload (Some context) value =
    either (nat_lt max_payload (length (drop context.1 value))) IsPlain (item.TooLongDatagram context.0 (length (drop context.1 value))) (item.Datagram context.0 (drop context.1 value)) tt tt

of_capsules : (cs : List Capsule) → ArePlain (filter_map (item_of false) cs)
of_capsules [] = tt
of_capsules (c ∷ cs) =
    let rest = filter_map (item_of false) cs in
    either {A = Option Item} (c.kind == 0) (λ o. ArePlain (cons_option o rest)) (Some (datagram_by (int_of c.value) c.value)) None (of_payload (int_of c.value) c.value, of_capsules cs) (of_capsules cs)

of_head : (o : Option Head) → ArePlain (head_items false o)
of_head None = tt
of_head (Some head) = tt

up_to : (items : List Item) → ArePlain items → ArePlain (up_to_bad items)
up_to [] h = tt
up_to (i ∷ items) h = (h.0, either (is_bad i) ArePlain [] (up_to_bad items) tt (up_to items h.1))

said_plain : (cs : List Capsule) (rest : List ℕ) → ArePlain (said false cs rest)
said_plain cs rest = up_to _ (each_append IsPlain (filter_map (item_of false) cs) (head_items false (head_of rest)) (of_capsules cs) (of_head (head_of rest)))

-- ---- what they ask for

abbrev pub AreAsked : Kind → List StreamAct → Type 0
AreAsked kind acts = AllByRecursion (IsAsked kind) acts

asked_udp : (n : ℕ) (payload : List ℕ) → IsAsked kind.Udp (udp_act n payload)
asked_udp n payload = either (nat_lt max_udp (length payload)) (IsAsked kind.Udp) (stream.Close why.Malformed) (stream.Payload n payload) (λ e. cc) tt

asked_flow : (mtu n : ℕ) (packet : List ℕ) (o : Option Flow) → length packet ≤ max_payload → flow_of packet ≡ o → IsAsked kind.Ip (flow_act mtu n packet o)
asked_flow mtu n packet None size is = tt
asked_flow mtu n packet (Some flow) size is =
    let packet_so : IsPacket packet = record { size = size; packet = subst (λ (o : Option Flow). IsSome o) (sym is) refl } in
    either (nat_lt mtu (length packet)) (IsAsked kind.Ip) (stream.Drop n cause.TooLong) (stream.Packet n packet flow) tt (tt, packet_so)

asked_payload : (k : Kind) (mtu n : ℕ) (payload : List ℕ) → length payload ≤ max_payload → IsAsked k (payload_act k mtu n payload)
asked_payload kind.Udp mtu n payload size = asked_udp n payload
asked_payload kind.Ip mtu n payload size = asked_flow mtu n payload (flow_of payload) size refl

asked_long : (k : Kind) (n : ℕ) → IsAsked k (too_long_act k n)
asked_long kind.Udp n = λ e. cc
asked_long kind.Ip n = tt

asked_context : (k : Kind) (context n : ℕ) (a : StreamAct) → IsAsked k a → IsAsked k (in_context context n a)
asked_context k context n a h = either (context == 0) (IsAsked k) a (stream.Drop n cause.UnknownContext) h tt

-- control values of a tunnel for IP packets
asked_some : {A : Type 0} (f : A → List StreamAct) (o : Option A) → ((a : A) → AreAsked kind.Ip (f a)) → AreAsked kind.Ip (some_or_malformed f o)
asked_some f None h = (λ e. cc, tt)
asked_some f (Some a) h = h a

asked_values : (type : ℕ) (value : List ℕ) → AreAsked kind.Ip (value_acts type value)
asked_values type value =
    either (type == 1) (AreAsked kind.Ip) _ _ (asked_some (λ (list : List Given). []) (assigned_of value) (λ list. tt))
    (either (type == 2) (AreAsked kind.Ip) _ _ (asked_some (λ (list : List Asked). stream.Assign list ∷ []) (asked_of value) (λ list. (tt, tt)))
    (asked_some (λ (ranges : List Range). stream.Advertise ranges ∷ []) (ranges_of value) (λ ranges. (tt, tt))))

-- a tunnel for UDP is told none
abbrev MayTell : Kind → Item → Type 0
MayTell kind.Udp i = IsPlain i
MayTell kind.Ip i = Unit {0}

asked_control : (k : Kind) (type : ℕ) (value : List ℕ) → MayTell k (item.Control type value) → AreAsked k (value_acts type value)
asked_control kind.Udp type value h = absurd h
asked_control kind.Ip type value h = asked_values type value

asked_item : (k : Kind) (mtu n : ℕ) (i : Item) → MayTell k i → IsSized i → AreAsked k (item_acts k mtu n i)
asked_item k mtu n (item.Datagram context payload) h size = (asked_context k context n (payload_act k mtu n payload) (asked_payload k mtu n payload size), tt)
asked_item k mtu n (item.TooLongDatagram context count) h size = (asked_context k context n (too_long_act k n) (asked_long k n), tt)
asked_item k mtu n (item.Control type value) h size = asked_control k type value h
asked_item k mtu n (item.Bad fault) h size = (λ e. cc, tt)

asked_then : (k : Kind) (acts more : List StreamAct) → AreAsked k acts → AreAsked k more → AreAsked k (then_acts acts more)
asked_then k acts more h l = each_append (IsAsked k) acts (cond (list_any is_close acts) [] more) h (either (list_any is_close acts) (AreAsked k) [] more tt l)

asked_items : (k : Kind) (mtu n : ℕ) (items : List Item) → AllByRecursion (MayTell k) items → AllByRecursion IsSized items → AreAsked k (acts_of k mtu n items)
asked_items k mtu n [] h sizes = tt
asked_items k mtu n (i ∷ items) h sizes =
    let later = n + cond (is_payload i) 1 0 in
    asked_then k (item_acts k mtu n i) (acts_of k mtu later items) (asked_item k mtu n i h.0 sizes.0) (asked_items k mtu later items h.1 sizes.1)

asked_ends : (goal : Goal) (bytes : List ℕ) (ends : Bool) (acts : List StreamAct) → EndsWith goal bytes ends acts → AreAsked (kind_of goal) acts
asked_ends goal bytes false acts h = subst (AreAsked (kind_of goal)) (sym h) tt
asked_ends goal bytes true acts (inl h) = subst (AreAsked (kind_of goal)) (sym h.1) (λ e. cc, tt)
asked_ends goal bytes true acts (inr h) = subst (AreAsked (kind_of goal)) (sym h.1) (λ e. cc, tt)

each_told : (items : List Item) → AllByRecursion (MayTell kind.Ip) items
each_told [] = tt
each_told (i ∷ items) = (tt, each_told items)

told_goal : (goal : Goal) (bytes : List ℕ) (before items : List Item) → ItemsOf (has_values goal) bytes (before ++ items) → AllByRecursion (MayTell (kind_of goal)) items
told_goal (goal.Udp addr port) bytes before items is = each_behind IsPlain before items (subst ArePlain (sym is.items_are) (said_plain is.capsules is.rest))
told_goal (goal.Ip area protocol) bytes before items is = each_told items

asked_goal : (mtu : ℕ) (goal : Goal) (bytes : List ℕ) (before items : List Item) → ItemsOf (has_values goal) bytes (before ++ items)
    → AreAsked (kind_of goal) (acts_of (kind_of goal) mtu (payload_count before) items)
asked_goal mtu goal bytes before items is =
    asked_items (kind_of goal) mtu (payload_count before) items (told_goal goal bytes before items is) (later_sized before items (items_sized (has_values goal) bytes (before ++ items) is))

-- more bytes of the data stream
pub asked_bytes : (mtu : ℕ) (s : Stream) (bytes : List ℕ) (ends : Bool) (acts : List StreamAct) → BytesAsk mtu s bytes ends acts → AreAsked (kind_of s.goal) acts
asked_bytes mtu s bytes ends acts x =
    subst (AreAsked (kind_of s.goal)) (sym x.acts_are) (
    asked_then (kind_of s.goal) (acts_of (kind_of s.goal) mtu (payload_count x.before) x.items) x.last
    (asked_goal mtu s.goal (s.bytes ++ bytes) x.before x.items x.is) (asked_ends s.goal (s.bytes ++ bytes) ends x.last x.ends_in)
    )
