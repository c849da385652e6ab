-- The end of an act where there are no frames, and no mark is in front.
use Rattle.std.specs.Prelude.{if◌then◌else◌}
use Rattle.std.proofs.Common.{◌≡◌, ℕ, Bool, true, false, List, [], ◌∷◌, ◌++◌, Option, Some, None, refl, ap, ◌∙◌}
use Rattle.std.proofs.lemmas.List.{append-nil}
use Rattle.mq_talk.specs.declared.note.End.{End}
use Rattle.mq_h2.specs.State as http2
use Rattle.mq_streams.specs.Answers.{next_update}
use Rattle.mq_machine.specs.declared.act.Due.{Due}
use Rattle.mq_machine.specs.declared.act.Due.TheVariants as due
use Rattle.mq_machine.specs.State.{Conn, Front, Head, OverHttp1, OverHttp2, owed}
use Rattle.mq_machine.specs.Putting.{Putting, nothing_put, putting, first_of}
use Rattle.mq_machine.specs.Settle.{passing, is_given_up, update_put, updates, updating, settled, settle}
use Rattle.mq_machine.specs.Laws.{BeginsWithAct, IsPlain}

passes : (acts : List Due) (c : Conn) → BeginsWithAct acts → passing acts c ≡ record c { due = acts }
passes [] c h = refl
passes (due.Do act ∷ rest) c h = refl
passes (due.Spend stream size ∷ rest) c h = absurd h
passes (due.Fault code ∷ rest) c h = absurd h

-- nothing put changes nothing
pub puts_nothing : (c : Conn) → putting c (nothing_put c.front) ≡ c
puts_nothing c = ap (λ (out : List ℕ). record c { out = out }) (append-nil c.out)

-- the end of the act of a connection whose bytes were read so far
pub as_it_is : (front : Front) (c : Conn) → IsPlain front → settled (record c { front = front }) ≡ record c { front = front }
as_it_is front c h = by_end (is_given_up c.ending) where
  by_front : (f : Front) → IsPlain f → putting (record c { front = f }) (updating f (owed c)) ≡ record c { front = f }
  by_front (Head bytes) h = puts_nothing (record c { front = Head bytes })
  by_front OverHttp1 h = puts_nothing (record c { front = OverHttp1 })
  by_front (OverHttp2 state) h = absurd h

  by_end : (b : Bool) → (if b then record c { front = front } else putting (record c { front = front }) (updating front (owed c))) ≡ record c { front = front }
  by_end true = refl
  by_end false = by_front front h

pub settles : (c : Conn) → IsPlain c.front → BeginsWithAct c.due → settle c ≡ c
settles c h begins = ap settled (passes c.due c begins) ∙ as_it_is c.front c h

-- ---- what the end of an act leaves as it is

-- all but how far the bytes were read and what was put
abbrev pub Rests : Conn → Conn → Type 0
Rests c d = d ≡ record c { front = d.front; out = d.out }

-- no update ends a connection
update_ends : (update : Option (ℕ × ℕ)) (h : http2.State) → (update_put update h).ending ≡ None
update_ends None h = refl
update_ends (Some update) h = refl

updates_end : (bytes : List ℕ) (h : http2.State) → (updates bytes h).ending ≡ None
updates_end [] h = update_ends (next_update h.history) h
updates_end (b ∷ bytes) h = refl

pub updating_ends : (front : Front) (bytes : List ℕ) → (updating front bytes).ending ≡ None
updating_ends (Head before) bytes = refl
updating_ends OverHttp1 bytes = refl
updating_ends (OverHttp2 h) bytes = updates_end bytes h

-- what is put without an end leaves the rest as it is
pub put_rests : (c : Conn) (put : Putting) → put.ending ≡ None → Rests c (putting c put)
put_rests c put h = ap (λ (e : Option End). record c { front = put.front; out = c.out ++ put.text; ending = first_of c.ending e }) h

pub settled_rests : (c : Conn) → Rests c (settled c)
settled_rests c = by_end (is_given_up c.ending) where
  by_end : (b : Bool) → Rests c (if b then c else putting c (updating c.front (owed c)))
  by_end true = refl
  by_end false = put_rests c (updating c.front (owed c)) (updating_ends c.front (owed c))
