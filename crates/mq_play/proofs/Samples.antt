-- Printed lines, lines of scripts and cuts, worked by hand: what the definitions give.
use Rattle.std.proofs.Common.{◌≡◌, ℕ, true, List, [], ◌∷◌, ◌++◌, codes, decimal, None, refl, sym, ap, ◌∙◌, inl, inr, arith}
use Rattle.std.proofs.lemmas.Fmt.{decimal_digit, decimal_step}
use Rattle.mq_addr.specs.declared.kind.Kind.TheVariants as kind
use Rattle.mq_addr.specs.declared.prefix.Prefix.{Prefix}
use Rattle.mq_addr.specs.Printed.{prefix_text_of}
use Rattle.hex.specs.Hex.{encode_with}
use Rattle.mq_talk.specs.declared.note.End.TheVariants as end
use Rattle.mq_talk.specs.declared.note.From.TheVariants as from
use Rattle.mq_talk.specs.declared.note.Note.TheVariants as note
use Rattle.mq_talk.specs.declared.note.Why.TheVariants as why
use Rattle.mq_talk.specs.declared.place.Cause.TheVariants as cause
use Rattle.mq_talk.specs.declared.place.Place.TheVariants as place
use Rattle.mq_machine.specs.declared.event.Event.TheVariants as event
use Rattle.mq_machine.specs.Turn.{WorkerOf, ThePump}
use Rattle.mq_play.specs.declared.line.Line.TheVariants as line
use Rattle.mq_play.specs.declared.line.SettingLine.TheVariants as setting
use Rattle.mq_play.specs.declared.word.SettingWord.TheVariants as word
use Rattle.mq_play.specs.declared.word.Word.TheVariants as first
use Rattle.mq_play.specs.Lines.{Says}
use Rattle.mq_play.specs.Script.{lines_of}
use Rattle.mq_play.specs.Text.{spaced, Idle, More, Bad, print_words, note_words}

-- ---- numbers

d0 : decimal 0 ≡ codes "0"
d0 = decimal_digit 0 (omega arith)

d1 : decimal 1 ≡ codes "1"
d1 = decimal_digit 1 (omega arith)

d2 : decimal 2 ≡ codes "2"
d2 = decimal_digit 2 (omega arith)

d3 : decimal 3 ≡ codes "3"
d3 = decimal_digit 3 (omega arith)

d4 : decimal 4 ≡ codes "4"
d4 = decimal_digit 4 (omega arith)

d5 : decimal 5 ≡ codes "5"
d5 = decimal_digit 5 (omega arith)

d6 : decimal 6 ≡ codes "6"
d6 = decimal_digit 6 (omega arith)

d7 : decimal 7 ≡ codes "7"
d7 = decimal_digit 7 (omega arith)

d8 : decimal 8 ≡ codes "8"
d8 = decimal_digit 8 (omega arith)

d9 : decimal 9 ≡ codes "9"
d9 = decimal_digit 9 (omega arith)

d403 : decimal 403 ≡ codes "403"
d403 = decimal_step 403 (omega arith) (omega arith) ∙ ap (λ (ds : List ℕ). ds ++ codes "3") (decimal_step 40 (omega arith) (omega arith) ∙ ap (λ (ds : List ℕ). ds ++ codes "0") d4)

d404 : decimal 404 ≡ codes "404"
d404 = decimal_step 404 (omega arith) (omega arith) ∙ ap (λ (ds : List ℕ). ds ++ codes "4") (decimal_step 40 (omega arith) (omega arith) ∙ ap (λ (ds : List ℕ). ds ++ codes "0") d4)

-- ---- printed lines, without their newline

accepted : spaced (note_words (note.Accepted 0 3)) ≡ codes "accepted 0 3"
accepted = rw (d0, d3) refl

took : spaced (note_words (note.Took 0 9)) ≡ codes "took 0 9"
took = rw (d0, d9) refl

finished : spaced (note_words (note.Finished 7)) ≡ codes "finished 7"
finished = rw d7 refl

ported : spaced (note_words (note.Ported 1 0)) ≡ codes "ported 1 0"
ported = rw (d1, d0) refl

opened : spaced (note_words (note.Opened 2 1 0 kind.Udp)) ≡ codes "opened 2 1 0 udp"
opened = rw (d2, d1, d0) refl

refused : spaced (note_words (note.Refused 0 0 404 0)) ≡ codes "refused 0 0 404"
refused = rw (d0, d404) refl

denied : spaced (note_words (note.Refused 0 0 403 2)) ≡ codes "refused 0 0 403 rule 2"
denied = rw (d0, d403, d2) refl

reset : spaced (note_words (note.Reset 0 5 1)) ≡ codes "reset 0 5 1"
reset = rw (d0, d5, d1) refl

assigned : (block : Prefix) → spaced (note_words (note.Assigned 0 1 (record { id = 1; block = block } ∷ []))) ≡ codes "assigned 0 at 1 1=" ++ prefix_text_of block
assigned block = rw (d0, d1) refl

advertised : spaced (note_words (note.Advertised 0 2 true)) ≡ codes "advertised 0 at 2 yes"
advertised = rw (d0, d2) refl

passed : spaced (note_words (note.Passed (from.Tunnel 0) 0 2 place.Net)) ≡ codes "passed 0 0 at 2 to net"
passed = rw (d0, d2) refl

passed_back : spaced (note_words (note.Passed from.Net 0 2 (place.Tunnel 0 1))) ≡ codes "passed net 0 at 2 to 0"
passed_back = rw (d0, d2) refl

pushed : spaced (note_words (note.PushedNote from.Net 0 (place.Tunnel 0 1))) ≡ codes "pushed net 0 to 0"
pushed = rw d0 refl

waits : spaced (note_words (note.Waits (from.Tunnel 4) 9)) ≡ codes "waits 4 9"
waits = rw (d4, d9) refl

sent : spaced (note_words (note.Sent (from.Tunnel 0) 1 (104 ∷ 105 ∷ []))) ≡ codes "sent 0 1 6869"
unfolding encode_with
sent = rw (d0, d1) refl

sent_nothing : spaced (note_words (note.Sent (from.Tunnel 0) 1 [])) ≡ codes "sent 0 1 -"
sent_nothing = rw (d0, d1) refl

queued : spaced (note_words (note.Queued (from.Port 2) 0 2)) ≡ codes "queued port2 0 to 2"
queued = rw (d2, d0) refl

part : spaced (note_words (note.Part 0 8)) ≡ codes "part 0 8"
part = rw (d0, d8) refl

delivered : spaced (note_words (note.Delivered (from.Port 2) 0 2 (255 ∷ []))) ≡ codes "delivered port2 0 to 2 ff"
unfolding encode_with
delivered = rw (d2, d0) refl

control : spaced (note_words (note.Control 0 (3 ∷ 0 ∷ []))) ≡ codes "control 0 0300"
unfolding encode_with
control = rw (d0) refl

dropped : spaced (note_words (note.Dropped (from.Port 0) 3 cause.QueueFull)) ≡ codes "dropped port0 3 QueueFull"
dropped = rw (d0, d3) refl

wrote : spaced (note_words (note.Wrote 0 (10 ∷ []))) ≡ codes "wrote 0 0a"
unfolding encode_with
wrote = rw d0 refl

closed : spaced (note_words (note.Closed 0 why.Truncated 6)) ≡ codes "closed 0 Truncated left 6"
closed = rw (d0, d6) refl

ended : spaced (note_words (note.Ended 0 end.NoMemory)) ≡ codes "ended 0 NoMemory"
ended = rw d0 refl

broken : spaced (note_words (note.Ended 0 (end.Protocol 1))) ≡ codes "ended 0 Protocol 1"
broken = rw (d0, d1) refl

idle : spaced (print_words (Idle (WorkerOf 1))) ≡ codes "idle 1"
idle = rw d1 refl

idle_net : spaced (print_words (Idle ThePump)) ≡ codes "idle net"
idle_net = refl

more : spaced (print_words More) ≡ codes "more"
more = refl

bad : spaced (print_words (Bad 3)) ≡ codes "bad line 3"
bad = rw d3 refl

-- ---- cuts

two_lines : lines_of (codes "conn 0\nrun 9\n") ≡ codes "conn 0" ∷ codes "run 9" ∷ [] ∷ []
two_lines = refl

begun_line : lines_of (codes "\n\nrun 9") ≡ [] ∷ [] ∷ codes "run 9" ∷ []
begun_line = refl

-- ---- lines

comment : Says (codes "# a client") line.Blank
comment = inl (refl, refl)

fail_bind : Says (codes "failbind") (line.Happens event.FailBind)
fail_bind = inr (inl (record { value = event.FailBind; says = inl (refl, refl); said_is = refl }))

fail_net : Says (codes "failnet") (line.Happens event.FailNet)
fail_net = inr (inl (record { value = event.FailNet; says = inr (refl, refl); said_is = refl }))

conn : Says (codes "conn 2") (line.Happens (event.Conn 2))
conn = inr (inr (record { part = codes "conn"; first = first.Conn; rest = codes "2"; is = refl; says = refl; behind = record { value = 2; says = record { least = omega arith; most = omega arith; is = sym d2 }; said_is = refl } }))

end_line : Says (codes "end 5") (line.Happens (event.End 5))
end_line = inr (inr (record { part = codes "end"; first = first.End; rest = codes "5"; is = refl; says = refl; behind = record { value = 5; says = record { least = omega arith; most = omega arith; is = sym d5 }; said_is = refl } }))

room_all : Says (codes "room 0 all") (line.Happens (event.Room 0 None))
room_all = inr (inr (record {
  part = codes "room";
  first = first.Room;
  rest = codes "0 all";
  is = refl;
  says = refl;
  behind = record {
    part = codes "0";
    first = 0;
    rest = codes "all";
    is = refl;
    says = record { least = omega arith; most = omega arith; is = sym d0 };
    behind = record { value = None; says = refl; said_is = refl };
  };
}))

step_net : Says (codes "step net 4") (line.Steps 4294967295 4)
step_net = inr (inr (record {
  part = codes "step";
  first = first.Step;
  rest = codes "net 4";
  is = refl;
  says = refl;
  behind = inr (record {
    part = codes "net";
    first = 4294967295;
    rest = codes "4";
    is = refl;
    says = inr (refl, refl);
    behind = record { value = 4; says = record { least = omega arith; most = omega arith; is = sym d4 }; said_is = refl };
  });
}))

step_once : Says (codes "step 0") (line.Steps 0 1)
step_once = inr (inr (record {
  part = codes "step";
  first = first.Step;
  rest = codes "0";
  is = refl;
  says = refl;
  behind = inl (record { value = 0; says = inl (record { least = omega arith; most = omega arith; is = sym d0 }); said_is = refl });
}))

run : Says (codes "run 9") (line.Run 9)
run = inr (inr (record { part = codes "run"; first = first.Run; rest = codes "9"; is = refl; says = refl; behind = record { value = 9; says = record { least = omega arith; most = omega arith; is = sym d9 }; said_is = refl } }))

workers : Says (codes "workers 4") (line.Setting (setting.Workers 4))
workers = inr (inr (record {
  part = codes "workers";
  first = first.Setting word.Workers;
  rest = codes "4";
  is = refl;
  says = refl;
  behind = record { value = setting.Workers 4; says = record { value = 4; says = record { least = omega arith; most = omega arith; is = sym d4 }; said_is = refl }; said_is = refl };
}))
