use Rattle.std.proofs.Common.{◌≡◌, ◌≤◌, ◌++◌, ◌+◌, true, List, length, vec_len, vec_capacity}
use Rattle.crossbeam_queue.specs.Passes.{view, IsPassOf}
use Rattle.mq_mail.proofs.lane.drain.Given as goal

-- what is left is known, and has room
abbrev pub invariant-loop : goal.invariant-loop
invariant-loop g l = record {
  line : IsPassOf l.line l.pass;
  puts : (view l.pass).puts ≡ true;
  takes : (view l.pass).takes ≡ true;
  put : (view l.pass).put ≡ (view l.fn.pass).put;
  taken : (view l.pass).taken ≡ (view l.fn.pass).taken ++ l.rest.items;
  left : List g.row.T.Denot;
  whole : (view l.pass).put ≡ (view l.pass).taken ++ left;
  size : length left + l.counter ≡ l.waiting;
  count : vec_len l.rest ≡ l.counter;
  room : l.waiting ≤ vec_capacity l.rest;
}
