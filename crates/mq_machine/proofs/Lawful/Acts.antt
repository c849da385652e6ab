-- Of HTTP/2's state an act leaves what a connection's law speaks of.
use Rattle.std.proofs.Common.{◌≡◌, ℕ, Bool, true, false, List, [], ◌∷◌, length, nat_lt, Option, Some, refl, ap, ◌∙◌, arith, ◌||◌}
use Rattle.mq_h2.specs.Codes.{cancel}
use Rattle.mq_h2.specs.Acts.{ends, with_headers, sends, ends_stream, resets_stream, where_live, consumes, gives_back}
use Rattle.mq_h2.specs.State as h2
use Rattle.mq_h2.specs.declared.block.OpenBlock.{OpenBlock}
use Rattle.mq_hpack.specs.Writing.{block_text}
use Rattle.mq_streams.specs.History.{total, arrived_on, consumed_on, highest, is_live}
use Rattle.mq_talk.specs.declared.note.Why.{Why}
use Rattle.mq_talk.specs.declared.note.Why.TheVariants as why
use Rattle.mq_machine.specs.declared.act.Due.{Due}
use Rattle.mq_machine.specs.declared.act.Due.TheVariants as due
use Rattle.mq_machine.specs.Http2.{status_field, capsule_field, grants, refuses, resets, ends_data, closes, puts_data}
use Rattle.mq_machine.specs.State.{Tunnel}
use Rattle.mq_h2.specs.Laws.{is_block_of, may_come}
use Rattle.mq_machine.specs.Lawful.{Http2Fits}
use Rattle.mq_machine.proofs.Lawful.Lists.{either, each_so}

-- what the law speaks of stays
pub record Keeps (a b : h2.State) : Type 0 where
  pub block : b.block ≡ a.block
  pub begun : highest b.history ≡ highest a.history
  pub consumed : (id : ℕ) → total (consumed_on id) b.history ≡ total (consumed_on id) a.history
  pub arrived : (id : ℕ) → total (arrived_on id) b.history ≡ total (arrived_on id) a.history

pub keeps_all : (h : h2.State) → Keeps h h
keeps_all h = record { block = refl; begun = refl; consumed = λ id. refl; arrived = λ id. refl }

pub keeps_out : (a b : h2.State) → Keeps a b → Keeps a (record b { out = [] })
keeps_out a b k = record { block = k.block; begun = k.begun; consumed = k.consumed; arrived = k.arrived }

keeps_ends : (id : ℕ) (h : h2.State) → Keeps h (ends id h)
keeps_ends id h = record { block = refl; begun = refl; consumed = λ k. omega arith; arrived = λ k. omega arith }

keeps_headers : (id : ℕ) (block : List ℕ) (end : Bool) (h : h2.State) → Keeps h (with_headers id block end h)
keeps_headers id block true h = record { block = refl; begun = refl; consumed = λ k. omega arith; arrived = λ k. omega arith }
keeps_headers id block false h = record { block = refl; begun = refl; consumed = λ k. refl; arrived = λ k. refl }

keeps_sends : (id : ℕ) (bytes : List ℕ) (h : h2.State) → Keeps h (sends id bytes h)
keeps_sends id bytes h =
    either (nat_lt 0 (length bytes)) (Keeps h) _ h
    (record { block = refl; begun = refl; consumed = λ k. omega arith; arrived = λ k. omega arith }) (keeps_all h)

keeps_stream : (id : ℕ) (h : h2.State) → Keeps h (ends_stream id h)
keeps_stream id h = record { block = refl; begun = refl; consumed = λ k. omega arith; arrived = λ k. omega arith }

keeps_resets : (id code : ℕ) (h : h2.State) → Keeps h (resets_stream id code h)
keeps_resets id code h = record { block = refl; begun = refl; consumed = λ k. omega arith; arrived = λ k. omega arith }

keeps_live : (id : ℕ) (act : h2.State → h2.State) (h : h2.State) → Keeps h (act h) → Keeps h (where_live id act h)
keeps_live id act h k = either (is_live id h.history) (Keeps h) (act h) h k (keeps_all h)

pub keeps_grants : (id : ℕ) (h : h2.State) → Keeps h (grants id h)
keeps_grants id h =
    let block = block_text h.owes_limit (status_field 200 ∷ capsule_field ∷ []) in
    keeps_live id (with_headers id block false) h (keeps_headers id block false h)

pub keeps_refuses : (id status : ℕ) (h : h2.State) → Keeps h (refuses id status h)
keeps_refuses id status h =
    let block = block_text h.owes_limit (status_field status ∷ []) in
    keeps_live id (with_headers id block true) h (keeps_headers id block true h)

keeps_reset : (id code : ℕ) (h : h2.State) → Keeps h (resets id code h)
keeps_reset id code h = keeps_live id (resets_stream id code) h (keeps_resets id code h)

keeps_data : (id : ℕ) (begun : Bool) (h : h2.State) → Keeps h (ends_data id begun h)
keeps_data id true h = keeps_reset id cancel h
keeps_data id false h = keeps_live id (ends_stream id) h (keeps_stream id h)

pub keeps_closes : (id : ℕ) (begun : Bool) (reason : Why) (h : h2.State) → Keeps h (closes id begun reason h)
keeps_closes id begun why.End h = keeps_data id begun h
keeps_closes id begun why.Malformed h = keeps_reset id _ h
keeps_closes id begun why.Truncated h = keeps_reset id _ h
keeps_closes id begun why.Port h = keeps_reset id _ h
keeps_closes id begun why.Full h = keeps_reset id _ h
keeps_closes id begun why.Reset h = keeps_all h
keeps_closes id begun why.Conn h = keeps_all h

pub keeps_puts : (id : ℕ) (bytes : List ℕ) (h : h2.State) → Keeps h (puts_data id bytes h)
keeps_puts id bytes h = keeps_live id (sends id bytes) h (keeps_sends id bytes h)

pub keeps_gives : (update : ℕ × ℕ) (h : h2.State) → Keeps h (gives_back (Some update) h)
keeps_gives update h = record { block = refl; begun = refl; consumed = λ k. omega arith; arrived = λ k. omega arith }

-- ---- so the law stays

pub may_same : (id : ℕ) (a b : h2.State) → b.block ≡ a.block → highest b.history ≡ highest a.history → may_come id b ≡ may_come id a
may_same id a b block begun =
    ap (λ (o : Option OpenBlock). is_block_of id o || nat_lt (highest b.history) id) block ∙ ap (λ n. is_block_of id a.block || nat_lt n id) begun

pub keeps_fits : (a b : h2.State) (ds : List Due) (ts : List Tunnel) → Keeps a b → Http2Fits a ds ts → Http2Fits b ds ts
keeps_fits a b ds ts k h = record {
  tunnels = each_so (λ (t : Tunnel). may_come t.stream a ≡ false) (λ (t : Tunnel). may_come t.stream b ≡ false) ts (λ t e. may_same t.stream a b k.block k.begun ∙ e) h.tunnels;
  dues = λ id is. may_same id a b k.block k.begun ∙ h.dues id is;
  spends = λ id. (let c = k.consumed id in let r = k.arrived id in let s = h.spends id in omega (arith, c, r, s));
}

-- a mark in front was passed
pub consumes_fits : (id size : ℕ) (h : h2.State) (ds : List Due) (ts : List Tunnel) → Http2Fits h (due.Spend id size ∷ ds) ts → Http2Fits (consumes id size h) ds ts
consumes_fits id size h ds ts f = record {
  tunnels = f.tunnels;
  dues = f.dues;
  spends = λ k. (let s = f.spends k in omega (arith, s));
}
