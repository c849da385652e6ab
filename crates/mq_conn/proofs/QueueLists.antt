-- What waits, and how much of it is packets.
use Rattle.std.proofs.Common.{◌≡◌, ℕ, ◌+◌, ◌≤◌, cond, Bool, true, false, not, List, [], ◌∷◌, length, refl, ◌∙◌, arith}
use Rattle.std.specs.Prelude.{filter, map}
use Rattle.std.proofs.lemmas.List.Filters.{length-filter_both}
use Rattle.mq_machine.specs.State.{is_packet, Waiting}
use Rattle.mq_conn.specs.declared.queue.Queued.{Queued}
use Rattle.mq_conn.specs.Queues.{waiting_of, with_framed}

-- how many packets wait, and how many values
abbrev pub packets_in : List Waiting → ℕ
packets_in ws = length (filter is_packet ws)

abbrev pub values_in : List Waiting → ℕ
values_in ws = length (filter (λ w. not (is_packet w)) ws)

mapped : (qs : List Queued) → length (map waiting_of qs) ≡ length qs
mapped [] = refl
mapped (q ∷ qs) = omega (arith, mapped qs)

-- what waits is a packet or a value
pub both_counts : (qs : List Queued) → packets_in (map waiting_of qs) + values_in (map waiting_of qs) ≡ length qs
both_counts qs = length-filter_both is_packet (λ w. not (is_packet w)) (λ w. refl) (map waiting_of qs) ∙ mapped qs

pub packets_within : (qs : List Queued) → packets_in (map waiting_of qs) ≤ length qs
packets_within qs = omega (arith, both_counts qs)

-- ---- the first, of which a part was framed

-- of as many packets, whatever was framed
same_kept : (b : Bool) (v w : Waiting) (ws : List Waiting) → length (cond b (v ∷ ws) ws) ≡ length (cond b (w ∷ ws) ws)
same_kept true v w ws = omega arith
same_kept false v w ws = refl

pub framed_values : (framed : ℕ) (ws : List Waiting) → values_in (with_framed framed ws) ≡ values_in ws
framed_values framed [] = refl
framed_values framed (w ∷ ws) = same_kept (not (is_packet w)) (record w { framed = framed }) w (filter (λ w. not (is_packet w)) ws)

pub unframed : (qs : List Queued) → with_framed 0 (map waiting_of qs) ≡ map waiting_of qs
unframed [] = refl
unframed (q ∷ qs) = refl
