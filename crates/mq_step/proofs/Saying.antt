-- A note that needs nothing of the outside is an answer to a connection that wants one.
use Rattle.std.proofs.Common.{◌≡◌, ℕ, cond, Bool, true, false, List, [], ◌∷◌, Option, Some, None, refl}
use Rattle.std.specs.Prelude.{option_map, nat_le}
use Rattle.std.specs.Option.{is_some}
use Rattle.mq_talk.specs.declared.book.Call.TheVariants as call
use Rattle.mq_talk.specs.declared.note.End.{End}
use Rattle.mq_machine.specs.declared.act.Act.{Act}
use Rattle.mq_machine.specs.declared.act.Act.TheVariants as act
use Rattle.mq_machine.specs.declared.act.StreamAct.{StreamAct}
use Rattle.mq_machine.specs.declared.act.StreamAct.TheVariants as stream
use Rattle.mq_machine.specs.declared.act.Due.{Due}
use Rattle.mq_machine.specs.declared.act.Due.TheVariants as due
use Rattle.mq_machine.specs.Settle.{gives_up}
use Rattle.mq_machine.specs.State.{Conn, Tunnel, owed, values, tunnel_on}
use Rattle.mq_machine.specs.Want.{Nothing, Say, Ask, Over, Said, want_of, want_by, ending_want, over_want, due_want, act_want, tunnel_want, stream_want, most_values}
use Rattle.mq_machine.specs.Done.{done, tunnel_done, stream_done}
use Rattle.mq_machine.specs.Steps.{settled_note}
use Rattle.mq_held.proofs.Fronts.{some_first}

over_says : (why : End) (bytes : List ℕ) → over_want why bytes ≡ Say → ⊥
over_says why [] w = cc
over_says why (b ∷ bytes) w = by_case (gives_up why) w where
  by_case : (g : Bool) → cond g (Over why) Nothing ≡ Say → ⊥
  by_case true e = cc
  by_case false e = cc

ending_says : (s : Conn) (why : End) (tunnels : List Tunnel) → ending_want s why tunnels ≡ Say → ⊥
ending_says s why [] w = over_says why (owed s) w
ending_says s why (t ∷ ts) w = cc

stream_says : (x : Conn) (t : Tunnel) (a : StreamAct) → stream_want t a ≡ Say → is_some (option_map settled_note (stream_done x t a Said)) ≡ true
stream_says x t (stream.Payload m bytes) w = absurd cc
stream_says x t (stream.Packet m packet flow) w = absurd cc
stream_says x t (stream.Push m to packet) w = absurd cc
stream_says x t (stream.Drop m cause) w = refl
stream_says x t (stream.Assign asked) w = by_case (nat_le most_values (values t)) w where
  by_case : (g : Bool) → cond g (Ask (call.Close t.id)) (Ask (call.Assign t.id asked)) ≡ Say → is_some (option_map settled_note (stream_done x t (stream.Assign asked) Said)) ≡ true
  by_case true e = absurd cc
  by_case false e = absurd cc
stream_says x t (stream.Advertise ranges) w = absurd cc
stream_says x t (stream.Close why) w = absurd cc

tunnel_says : (x : Conn) (o : Option Tunnel) (a : StreamAct) → tunnel_want o a ≡ Say → is_some (option_map settled_note (tunnel_done x o a Said)) ≡ true
tunnel_says x None a w = absurd cc
tunnel_says x (Some t) a w = stream_says x t a w

act_says : (s : Conn) (rest : List Due) (a : Act) → s.ending ≡ None → s.due ≡ due.Do a ∷ rest → act_want s a ≡ Say → is_some (done s Said) ≡ true
act_says s rest (act.Bind on g) ending first w = absurd cc
act_says s rest (act.Open on g) ending first w = absurd cc
act_says s rest (act.Refuse on status rule) ending first w = some_first s (act.Refuse on status rule) rest Said ending first refl
act_says s rest (act.Reset on code) ending first w = some_first s (act.Reset on code) rest Said ending first refl
act_says s rest (act.OfStream on a) ending first w = some_first s (act.OfStream on a) rest Said ending first (tunnel_says (record s { due = rest }) (tunnel_on s on) a w)

due_says : (s : Conn) (ds : List Due) → s.ending ≡ None → s.due ≡ ds → due_want s ds ≡ Say → is_some (done s Said) ≡ true
due_says s [] ending first w = absurd cc
due_says s (due.Do a ∷ rest) ending first w = act_says s rest a ending first w
due_says s (due.Spend on size ∷ rest) ending first w = absurd cc
due_says s (due.Fault code ∷ rest) ending first w = absurd cc

say_by : (s : Conn) (e : Option End) → s.ending ≡ e → want_by s e ≡ Say → is_some (done s Said) ≡ true
say_by s None ending w = due_says s s.due ending refl w
say_by s (Some why) ending w = absurd (ending_says s why s.tunnels w)

pub say_some : (s : Conn) → want_of s ≡ Say → is_some (done s Said) ≡ true
say_some s w = say_by s s.ending refl w
