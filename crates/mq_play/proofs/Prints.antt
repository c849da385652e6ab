-- A printed line determines what it says.
use Rattle.std.proofs.Common.{◌≡◌, ◌≢◌, ℕ, ◌+◌, ◌*◌, ◌<◌, ◌==◌, Bool, true, false, inl, inr, List, [], ◌∷◌, ◌++◌, codes, decimal, drop, get_or, map, refl, sym, ◌∙◌, ap, subst, arith, append_assoc, if◌then◌else◌}
use Rattle.std.specs.List.{AllByRecursion, flat_map, list_all}
use Rattle.std.specs.Result.{result_unwrap_or}
use Rattle.std.specs.Str.Parse.{digits_value}
use Rattle.std.proofs.lemmas.Bool.{eq-eqb, ne_eqb}
use Rattle.std.proofs.lemmas.Fmt.{decimal_injective, decimal_is_IsNumeral}
use Rattle.hex.specs.Hex.{decode_of, encode_lower}
use Rattle.hex.proofs.HexLemmas.{decode_of-encode_lower}
use Rattle.mq_text.specs.Cut.{Lacks, IsCut, IsCutOnce}
use Rattle.mq_addr.specs.declared.entry.Given.{Given}
use Rattle.mq_addr.specs.declared.kind.Kind.{Kind}
use Rattle.mq_addr.specs.declared.kind.Kind.TheVariants as kind
use Rattle.mq_addr.specs.declared.prefix.Prefix.{Prefix}
use Rattle.mq_addr.specs.Addr.{HasAddrBytes, is_addr_byte}
use Rattle.mq_addr.specs.Printed.{IsReadAgain, prefix_text_of}
use Rattle.mq_addr.specs.Prefixes.{HasOnePrefix, IsPrefixForm}
use Rattle.mq_talk.specs.declared.note.End.{End}
use Rattle.mq_talk.specs.declared.note.End.TheVariants as end
use Rattle.mq_talk.specs.declared.note.From.{From}
use Rattle.mq_talk.specs.declared.note.From.TheVariants as from
use Rattle.mq_talk.specs.declared.note.Note.{Note}
use Rattle.mq_talk.specs.declared.note.Note.TheVariants.{Accepted, Took, Finished, Ported, Opened, Refused, Reset, Assigned, Advertised, Passed, PushedNote, Waits, Sent, Queued, Part, Delivered, Control, Dropped, Wrote, Closed, Ended}
use Rattle.mq_talk.specs.declared.note.Why.{Why}
use Rattle.mq_talk.specs.declared.note.Why.TheVariants as why
use Rattle.mq_talk.specs.declared.place.Cause.{Cause}
use Rattle.mq_talk.specs.declared.place.Cause.TheVariants as cause
use Rattle.mq_talk.specs.declared.place.Place.{Place}
use Rattle.mq_talk.specs.declared.place.Place.TheVariants as place
use Rattle.mq_machine.specs.Turn.{Actor, WorkerOf, ThePump}
use Rattle.mq_play.specs.Settings.{kind_text}
use Rattle.mq_play.specs.Text.{spaced, bytes_text, from_text, place_text, why_text, end_words, cause_text, rule_words, given_text, yes_text, note_words, Print, Says, Idle, More, Bad, print_words, newline, printed}
use Rattle.mq_play.specs.Sizes.{Small, AreBytes, SmallFrom, SmallPlace, SmallEnd, SmallGiven, SmallNote, SmallPrint, unnamed_place, unnamed_note, unnamed}
use Rattle.mq_play.proofs.Lacks.{bytes_of, hex_lacks, lacks_decimal, length_small}
use Rattle.mq_play.proofs.reading.Lacking.{class_lacks, holds_separator, is_visible, lacks_both}

-- ---- what words say

abbrev at : List (List ℕ) → ℕ → List ℕ
at ws i = get_or ws i []

abbrev value : List ℕ → ℕ
value text = digits_value 10 text

value_back : (n : ℕ) → Small n → value (decimal n) ≡ n
value_back n h = (decimal_is_IsNumeral n h).1

-- a word doesn't begin with a byte that it lacks
not_first : (b : ℕ) (text : List ℕ) → 0 < b → Lacks b text → (get_or text 0 0 == b) ≡ false
not_first b [] h k = ne_eqb 0 b (λ e. omega arith)
not_first b (x ∷ xs) h k = ne_eqb x b k.0

abbrev from_by : List ℕ → From
from_by text =
    if get_or text 0 0 == 110 then from.Net else (
    if get_or text 0 0 == 112 then from.Port (value (drop 4 text)) else from.Tunnel (value text))

from_back : (x : From) → SmallFrom x → from_by (from_text x) ≡ x
from_back (from.Tunnel tunnel) h =
    rw (not_first 110 (decimal tunnel) (omega arith) (lacks_decimal 110 tunnel (inr (omega arith)) h), not_first 112 (decimal tunnel) (omega arith) (lacks_decimal 112 tunnel (inr (omega arith)) h), value_back tunnel h) refl
from_back from.Net h = refl
from_back (from.Port tunnel) h = rw (value_back tunnel h) refl

abbrev place_by : List ℕ → Place
place_by text = if get_or text 0 0 == 110 then place.Net else place.Tunnel (value text) 0

place_back : (x : Place) → SmallPlace x → place_by (place_text x) ≡ unnamed_place x
place_back (place.Tunnel tunnel actor) h =
    rw (not_first 110 (decimal tunnel) (omega arith) (lacks_decimal 110 tunnel (inr (omega arith)) h), value_back tunnel h) refl
place_back place.Net h = refl

abbrev bytes_by : List ℕ → List ℕ
bytes_by text = if get_or text 0 0 == 45 then [] else result_unwrap_or (decode_of text) []

bytes_back : (x : List ℕ) → AreBytes x → bytes_by (bytes_text x) ≡ x
bytes_back [] h = refl
bytes_back (b ∷ bs) h =
    rw (not_first 45 (encode_lower (b ∷ bs)) (omega arith) (hex_lacks 45 (omega arith) (b ∷ bs) h), decode_of-encode_lower (b ∷ bs) (bytes_of (b ∷ bs) h)) refl

abbrev kind_by : List ℕ → Kind
kind_by text = if get_or text 0 0 == 117 then kind.Udp else kind.Ip

kind_back : (x : Kind) → kind_by (kind_text x) ≡ x
kind_back kind.Udp = refl
kind_back kind.Ip = refl

abbrev yes_by : List ℕ → Bool
yes_by text = get_or text 0 0 == 121

yes_back : (x : Bool) → yes_by (yes_text x) ≡ x
yes_back true = refl
yes_back false = refl

abbrev why_by : List ℕ → Why
why_by text =
    if get_or text 0 0 == 69 then why.End else (
    if get_or text 0 0 == 77 then why.Malformed else (
    if get_or text 0 0 == 84 then why.Truncated else (
    if get_or text 0 0 == 82 then why.Reset else (
    if get_or text 0 0 == 80 then why.Port else (
    if get_or text 0 0 == 70 then why.Full else (
    why.Conn))))))

why_back : (x : Why) → why_by (why_text x) ≡ x
why_back why.End = refl
why_back why.Malformed = refl
why_back why.Truncated = refl
why_back why.Reset = refl
why_back why.Port = refl
why_back why.Full = refl
why_back why.Conn = refl

abbrev cause_by : List ℕ → Cause
cause_by text =
    if get_or text 0 0 == 85 then cause.UnknownContext else (
    if get_or text 0 0 == 66 then cause.BadHeader else (
    if get_or text 0 0 == 84 then cause.TooLong else (
    if get_or text 0 0 == 83 then cause.Source else (
    if get_or text 0 0 == 78 then cause.NoRoute else (
    if get_or text 0 0 == 73 then cause.InboxFull else (
    if get_or text 0 0 == 71 then cause.Gone else (
    if get_or text 0 0 == 72 then cause.HopLimit else (
    if get_or text 0 0 == 81 then cause.QueueFull else (
    cause.Port)))))))))

cause_back : (x : Cause) → cause_by (cause_text x) ≡ x
cause_back cause.UnknownContext = refl
cause_back cause.BadHeader = refl
cause_back cause.TooLong = refl
cause_back cause.Source = refl
cause_back cause.NoRoute = refl
cause_back cause.InboxFull = refl
cause_back cause.Gone = refl
cause_back cause.HopLimit = refl
cause_back cause.QueueFull = refl
cause_back cause.Port = refl

abbrev end_by : List ℕ → List ℕ → End
end_by text code =
    if get_or text 0 0 + get_or text 1 0 == 179 then end.Done else (
    if get_or text 0 0 + get_or text 1 0 == 198 then end.Truncated else (
    if get_or text 0 0 + get_or text 1 0 == 181 then end.Link else (
    if get_or text 0 0 + get_or text 1 0 == 183 then end.Refused else (
    if get_or text 0 0 + get_or text 1 0 == 201 then end.Tunnel else (
    if get_or text 0 0 + get_or text 1 0 == 189 then end.NoMemory else (
    end.Protocol (value code)))))))

end_back : (x : End) → SmallEnd x → end_by (at (end_words x) 0) (at (end_words x) 1) ≡ x
end_back end.Done h = refl
end_back end.Truncated h = refl
end_back end.Link h = refl
end_back end.Refused h = refl
end_back end.Tunnel h = refl
end_back end.NoMemory h = refl
end_back (end.Protocol code) h = rw (value_back code h) refl

rule_if : (b : Bool) (rule : ℕ) → Small rule → (b ≡ false → rule ≡ 0) → value (at (if b then codes "rule" ∷ decimal rule ∷ [] else []) 1) ≡ rule
rule_if true rule h none = value_back rule h
rule_if false rule h none = sym (none refl)

rule_back : (status rule : ℕ) → Small rule → (status ≢ 403 → rule ≡ 0) → value (at (rule_words status rule) 1) ≡ rule
rule_back status rule h none = rule_if (status == 403) rule h (λ e. none (λ is. let same : (status == 403) ≡ true = eq-eqb status 403 is in cc))

abbrev actor_by : List ℕ → Actor
actor_by text = if get_or text 0 0 == 110 then ThePump else WorkerOf (value text)

-- ---- what lines say

-- the first words differ in a sum of their first three letters
abbrev key_of : List ℕ → ℕ
key_of text = get_or text 0 0 + 3 * get_or text 1 0 + 4 * get_or text 2 0

-- a line by the key of its first word and the others, without the entries of an Assigned
abbrev read_by : ℕ → List (List ℕ) → Print
read_by key ws =
    if key == 790 then Says (Accepted (value (at ws 0)) (value (at ws 1))) else (
    if key == 893 then Says (Took (value (at ws 0)) (value (at ws 1))) else (
    if key == 857 then Says (Finished (value (at ws 0))) else (
    if key == 901 then Says (Ported (value (at ws 0)) (value (at ws 1))) else (
    if key == 851 then Says (Opened (value (at ws 0)) (value (at ws 1)) (value (at ws 2)) (kind_by (at ws 3))) else (
    if key == 825 then Says (Refused (value (at ws 0)) (value (at ws 1)) (value (at ws 2)) (value (at ws 4))) else (
    if key == 877 then Says (Reset (value (at ws 0)) (value (at ws 1)) (value (at ws 2))) else (
    if key == 902 then Says (Assigned (value (at ws 0)) (value (at ws 2)) []) else (
    if key == 869 then Says (Advertised (value (at ws 0)) (value (at ws 2)) (yes_by (at ws 3))) else (
    if key == 863 then Says (Passed (from_by (at ws 0)) (value (at ws 1)) (value (at ws 3)) (place_by (at ws 5))) else (
    if key == 923 then Says (PushedNote (from_by (at ws 0)) (value (at ws 1)) (place_by (at ws 3))) else (
    if key == 830 then Says (Waits (from_by (at ws 0)) (value (at ws 1))) else (
    if key == 858 then Says (Sent (from_by (at ws 0)) (value (at ws 1)) (bytes_by (at ws 2))) else (
    if key == 868 then Says (Queued (from_by (at ws 0)) (value (at ws 1)) (value (at ws 3))) else (
    if key == 859 then Says (Part (value (at ws 0)) (value (at ws 1))) else (
    if key == 835 then Says (Delivered (from_by (at ws 0)) (value (at ws 1)) (value (at ws 3)) (bytes_by (at ws 4))) else (
    if key == 872 then Says (Control (value (at ws 0)) (bytes_by (at ws 1))) else (
    if key == 886 then Says (Dropped (from_by (at ws 0)) (value (at ws 1)) (cause_by (at ws 2))) else (
    if key == 905 then Says (Wrote (value (at ws 0)) (bytes_by (at ws 1))) else (
    if key == 867 then Says (Closed (value (at ws 0)) (why_by (at ws 1)) (value (at ws 3))) else (
    if key == 831 then Says (Ended (value (at ws 0)) (end_by (at ws 1) (at ws 2))) else (
    if key == 837 then Idle (actor_by (at ws 0)) else (
    if key == 789 then Bad (value (at ws 1)) else (
    More)))))))))))))))))))))))

abbrev read : List (List ℕ) → Print
read [] = More
read (w ∷ ws) = read_by (key_of w) ws

abbrev list_of : Print → List Given
list_of (Says (Assigned tunnel at list)) = list
list_of p = []

abbrev with_list : List Given → Print → Print
with_list list (Says (Assigned tunnel at others)) = Says (Assigned tunnel at list)
with_list list p = p

note_back : (note : Note) → SmallNote note → read (note_words note) ≡ with_list [] (Says (unnamed_note note))
note_back (Accepted conn actor) h = rw (value_back conn h.0, value_back actor h.1) refl
note_back (Took conn count) h = rw (value_back conn h.0, value_back count h.1) refl
note_back (Finished conn) h = rw (value_back conn h) refl
note_back (Ported conn stream) h = rw (value_back conn h.0, value_back stream h.1) refl
note_back (Opened tunnel conn stream kind) h = rw (value_back tunnel h.0, value_back conn h.1, value_back stream h.2, kind_back kind) refl
note_back (Refused conn stream status rule) h = rw (value_back conn h.0, value_back stream h.1, value_back status h.2, rule_back status rule h.3 h.4) refl
note_back (Reset conn stream code) h = rw (value_back conn h.0, value_back stream h.1, value_back code h.2) refl
note_back (Assigned tunnel at list) h = rw (value_back tunnel h.0, value_back at h.1) refl
note_back (Advertised tunnel at accepts) h = rw (value_back tunnel h.0, value_back at h.1, yes_back accepts) refl
note_back (Passed from n at to) h = rw (from_back from h.0, value_back n h.1, value_back at h.2, place_back to h.3) refl
note_back (PushedNote from n to) h = rw (from_back from h.0, value_back n h.1, place_back to h.2) refl
note_back (Waits from n) h = rw (from_back from h.0, value_back n h.1) refl
note_back (Sent from n packet) h = rw (from_back from h.0, value_back n h.1, bytes_back packet h.2) refl
note_back (Queued from n to) h = rw (from_back from h.0, value_back n h.1, value_back to h.2) refl
note_back (Part tunnel count) h = rw (value_back tunnel h.0, value_back count h.1) refl
note_back (Delivered from n to packet) h = rw (from_back from h.0, value_back n h.1, value_back to h.2, bytes_back packet h.3) refl
note_back (Control tunnel capsule) h = rw (value_back tunnel h.0, bytes_back capsule h.1) refl
note_back (Dropped from n cause) h = rw (from_back from h.0, value_back n h.1, cause_back cause) refl
note_back (Wrote conn bytes) h = rw (value_back conn h.0, bytes_back bytes h.1) refl
note_back (Closed tunnel reason left) h = rw (value_back tunnel h.0, why_back reason, value_back left h.1) refl
note_back (Ended conn reason) h = rw (value_back conn h.0, end_back reason h.1) refl

print_back : (p : Print) → SmallPrint p → read (print_words p) ≡ with_list [] (unnamed p)
print_back (Says note) h = note_back note h
print_back (Idle (WorkerOf number)) h =
    rw (not_first 110 (decimal number) (omega arith) (lacks_decimal 110 number (inr (omega arith)) h), value_back number h) refl
print_back (Idle ThePump) h = refl
print_back More h = refl
print_back (Bad number) h = rw (value_back number h) refl

-- the words of the entries
abbrev listed : List (List ℕ) → List (List ℕ)
listed [] = []
listed (w ∷ ws) = if key_of w == 902 then drop 3 ws else []

list_back : (p : Print) → listed (print_words p) ≡ map given_text (list_of p)
list_back (Says (Assigned tunnel at list)) = refl
list_back (Idle (WorkerOf number)) = refl
list_back p = refl

list_again : (p : Print) → with_list (list_of p) (with_list [] (unnamed p)) ≡ unnamed p
list_again (Says (Assigned tunnel at list)) = refl
list_again p = refl

small_list : (p : Print) → SmallPrint p → AllByRecursion SmallGiven (list_of p)
small_list (Says (Assigned tunnel at list)) h = h.2
small_list p h = tt

-- there is a first word
abbrev IsSome : List (List ℕ) → Type 0
IsSome [] = ⊥
IsSome (w ∷ ws) = Unit {0}

some_words : (p : Print) → IsSome (print_words p)
some_words (Says (Assigned tunnel at list)) = tt
some_words p = tt

-- ---- which bytes stand in words

-- a space or a newline
pub record IsBreak (b : ℕ) : Type 0 where
  low : b < 45
  visible : is_visible b ≡ false
  addr : is_addr_byte b ≡ false

pub breaks_at_space : IsBreak 32
unfolding is_addr_byte
breaks_at_space = record { low = omega arith; visible = refl; addr = refl }

pub breaks_at_newline : IsBreak 10
unfolding is_addr_byte
breaks_at_newline = record { low = omega arith; visible = refl; addr = refl }

module _ (bytes : HasAddrBytes) (again : IsReadAgain) (b : ℕ) (break : IsBreak b) where
  constant : (text : List ℕ) → list_all is_visible text ≡ true → Lacks b text
  constant text h = class_lacks is_visible b text break.visible h

  number : (n : ℕ) → Small n → Lacks b (decimal n)
  number n h = let low = break.low in lacks_decimal b n (inl (omega arith)) h

  from_lacks : (x : From) → SmallFrom x → Lacks b (from_text x)
  from_lacks (from.Tunnel tunnel) h = number tunnel h
  from_lacks from.Net h = constant (codes "net") refl
  from_lacks (from.Port tunnel) h = lacks_both b (codes "port") (decimal tunnel) (constant (codes "port") refl) (number tunnel h)

  place_lacks : (x : Place) → SmallPlace x → Lacks b (place_text x)
  place_lacks (place.Tunnel tunnel actor) h = number tunnel h
  place_lacks place.Net h = constant (codes "net") refl

  bytes_lack : (x : List ℕ) → AreBytes x → Lacks b (bytes_text x)
  bytes_lack [] h = constant (codes "-") refl
  bytes_lack (y ∷ ys) h = let low = break.low in hex_lacks b (omega arith) (y ∷ ys) h

  kind_lacks : (x : Kind) → Lacks b (kind_text x)
  kind_lacks kind.Udp = constant (codes "udp") refl
  kind_lacks kind.Ip = constant (codes "ip") refl

  yes_lacks : (x : Bool) → Lacks b (yes_text x)
  yes_lacks true = constant (codes "yes") refl
  yes_lacks false = constant (codes "no") refl

  why_lacks : (x : Why) → Lacks b (why_text x)
  why_lacks why.End = constant (codes "End") refl
  why_lacks why.Malformed = constant (codes "Malformed") refl
  why_lacks why.Truncated = constant (codes "Truncated") refl
  why_lacks why.Reset = constant (codes "Reset") refl
  why_lacks why.Port = constant (codes "Port") refl
  why_lacks why.Full = constant (codes "Full") refl
  why_lacks why.Conn = constant (codes "Conn") refl

  cause_lacks : (x : Cause) → Lacks b (cause_text x)
  cause_lacks cause.UnknownContext = constant (codes "UnknownContext") refl
  cause_lacks cause.BadHeader = constant (codes "BadHeader") refl
  cause_lacks cause.TooLong = constant (codes "TooLong") refl
  cause_lacks cause.Source = constant (codes "Source") refl
  cause_lacks cause.NoRoute = constant (codes "NoRoute") refl
  cause_lacks cause.InboxFull = constant (codes "InboxFull") refl
  cause_lacks cause.Gone = constant (codes "Gone") refl
  cause_lacks cause.HopLimit = constant (codes "HopLimit") refl
  cause_lacks cause.QueueFull = constant (codes "QueueFull") refl
  cause_lacks cause.Port = constant (codes "Port") refl

  end_lack : (x : End) → SmallEnd x → AllByRecursion (Lacks b) (end_words x)
  end_lack end.Done h = (constant (codes "Done") refl, tt)
  end_lack end.Truncated h = (constant (codes "Truncated") refl, tt)
  end_lack end.Link h = (constant (codes "Link") refl, tt)
  end_lack end.Refused h = (constant (codes "Refused") refl, tt)
  end_lack end.Tunnel h = (constant (codes "Tunnel") refl, tt)
  end_lack end.NoMemory h = (constant (codes "NoMemory") refl, tt)
  end_lack (end.Protocol code) h = (constant (codes "Protocol") refl, (number code h, tt))

  rule_lack_if : (t : Bool) (rule : ℕ) → Small rule → AllByRecursion (Lacks b) (if t then codes "rule" ∷ decimal rule ∷ [] else [])
  rule_lack_if true rule h = (constant (codes "rule") refl, (number rule h, tt))
  rule_lack_if false rule h = tt

  rule_lacks : (status rule : ℕ) → Small rule → AllByRecursion (Lacks b) (rule_words status rule)
  rule_lacks status rule h = rule_lack_if (status == 403) rule h

  form_lacks : (text : List ℕ) (block : Prefix) → IsPrefixForm text block → Lacks b text
  form_lacks text block (inl alone) = bytes text block.addr b alone.addr break.addr
  form_lacks text block (inr long) =
      let low = break.low in
      let digits = subst (Lacks b) (sym long.length) (number block.length (length_small block.addr block.length long.fits)) in
      subst (Lacks b) (sym long.is) (lacks_both b long.front (47 ∷ long.digits) (bytes long.front block.addr b long.addr break.addr) ((λ e. omega arith), digits))

  given_lacks : (g : Given) → SmallGiven g → Lacks b (given_text g)
  given_lacks g h =
      lacks_both b (decimal g.id ++ codes "=") (prefix_text_of g.block) (lacks_both b (decimal g.id) (codes "=") (number g.id h.id) (constant (codes "=") refl))
      (form_lacks (prefix_text_of g.block) g.block (again.prefix g.block h.addr h.prefix).0)

  given_lack : (list : List Given) → AllByRecursion SmallGiven list → AllByRecursion (Lacks b) (map given_text list)
  given_lack [] h = tt
  given_lack (g ∷ list) h = (given_lacks g h.0, given_lack list h.1)

  note_lacks : (note : Note) → SmallNote note → AllByRecursion (Lacks b) (note_words note)
  note_lacks (Accepted conn actor) h = (constant (codes "accepted") refl, (number conn h.0, (number actor h.1, tt)))
  note_lacks (Took conn count) h = (constant (codes "took") refl, (number conn h.0, (number count h.1, tt)))
  note_lacks (Finished conn) h = (constant (codes "finished") refl, (number conn h, tt))
  note_lacks (Ported conn stream) h = (constant (codes "ported") refl, (number conn h.0, (number stream h.1, tt)))
  note_lacks (Opened tunnel conn stream kind) h = (constant (codes "opened") refl, (number tunnel h.0, (number conn h.1, (number stream h.2, (kind_lacks kind, tt)))))
  note_lacks (Refused conn stream status rule) h = (constant (codes "refused") refl, (number conn h.0, (number stream h.1, (number status h.2, rule_lacks status rule h.3))))
  note_lacks (Reset conn stream code) h = (constant (codes "reset") refl, (number conn h.0, (number stream h.1, (number code h.2, tt))))
  note_lacks (Assigned tunnel at list) h = (constant (codes "assigned") refl, (number tunnel h.0, (constant (codes "at") refl, (number at h.1, given_lack list h.2))))
  note_lacks (Advertised tunnel at accepts) h = (constant (codes "advertised") refl, (number tunnel h.0, (constant (codes "at") refl, (number at h.1, (yes_lacks accepts, tt)))))
  note_lacks (Passed from n at to) h = (constant (codes "passed") refl, (from_lacks from h.0, (number n h.1, (constant (codes "at") refl, (number at h.2, (constant (codes "to") refl, (place_lacks to h.3, tt)))))))
  note_lacks (PushedNote from n to) h = (constant (codes "pushed") refl, (from_lacks from h.0, (number n h.1, (constant (codes "to") refl, (place_lacks to h.2, tt)))))
  note_lacks (Waits from n) h = (constant (codes "waits") refl, (from_lacks from h.0, (number n h.1, tt)))
  note_lacks (Sent from n packet) h = (constant (codes "sent") refl, (from_lacks from h.0, (number n h.1, (bytes_lack packet h.2, tt))))
  note_lacks (Queued from n to) h = (constant (codes "queued") refl, (from_lacks from h.0, (number n h.1, (constant (codes "to") refl, (number to h.2, tt)))))
  note_lacks (Part tunnel count) h = (constant (codes "part") refl, (number tunnel h.0, (number count h.1, tt)))
  note_lacks (Delivered from n to packet) h = (constant (codes "delivered") refl, (from_lacks from h.0, (number n h.1, (constant (codes "to") refl, (number to h.2, (bytes_lack packet h.3, tt))))))
  note_lacks (Control tunnel capsule) h = (constant (codes "control") refl, (number tunnel h.0, (bytes_lack capsule h.1, tt)))
  note_lacks (Dropped from n cause) h = (constant (codes "dropped") refl, (from_lacks from h.0, (number n h.1, (cause_lacks cause, tt))))
  note_lacks (Wrote conn bytes) h = (constant (codes "wrote") refl, (number conn h.0, (bytes_lack bytes h.1, tt)))
  note_lacks (Closed tunnel reason left) h = (constant (codes "closed") refl, (number tunnel h.0, (why_lacks reason, (constant (codes "left") refl, (number left h.1, tt)))))
  note_lacks (Ended conn reason) h = (constant (codes "ended") refl, (number conn h.0, end_lack reason h.1))

  pub print_lacks : (p : Print) → SmallPrint p → AllByRecursion (Lacks b) (print_words p)
  print_lacks (Says note) h = note_lacks note h
  print_lacks (Idle (WorkerOf n)) h = (constant (codes "idle") refl, (number n h, tt))
  print_lacks (Idle ThePump) h = (constant (codes "idle") refl, (constant (codes "net") refl, tt))
  print_lacks More h = (constant (codes "more") refl, tt)
  print_lacks (Bad n) h = (constant (codes "bad") refl, (constant (codes "line") refl, (number n h, tt)))

-- ---- lines of words

spaced_lacks : (b : ℕ) (ws : List (List ℕ)) → 32 ≢ b → AllByRecursion (Lacks b) ws → Lacks b (spaced ws)
spaced_lacks b [] n h = tt
spaced_lacks b (w ∷ []) n h = h.0
spaced_lacks b (w ∷ v ∷ ws) n h = lacks_both b w (32 ∷ spaced (v ∷ ws)) h.0 (n, spaced_lacks b (v ∷ ws) n h.1)

-- words that are spaced are told apart
words_same : IsCutOnce → (w v : List ℕ) (ws vs : List (List ℕ)) → AllByRecursion (Lacks 32) (w ∷ ws) → AllByRecursion (Lacks 32) (v ∷ vs) → spaced (w ∷ ws) ≡ spaced (v ∷ vs) → w ∷ ws ≡ v ∷ vs
words_same once w v [] [] h k e = ap (λ (x : List ℕ). x ∷ []) e
words_same once w v [] (u ∷ us) h k e = absurd (holds_separator 32 v (spaced (u ∷ us)) (subst (Lacks 32) e h.0))
words_same once w v (u ∷ us) [] h k e = absurd (holds_separator 32 w (spaced (u ∷ us)) (subst (Lacks 32) (sym e) k.0))
words_same once w v (x ∷ xs) (y ∷ ys) h k e =
    let cut : IsCut 32 (spaced (w ∷ x ∷ xs)) w (spaced (x ∷ xs)) = record { is = refl; first = h.0 } in
    let other : IsCut 32 (spaced (w ∷ x ∷ xs)) v (spaced (y ∷ ys)) = record { is = e; first = k.0 } in
    let same = once 32 (spaced (w ∷ x ∷ xs)) w (spaced (x ∷ xs)) v (spaced (y ∷ ys)) cut other in
    ap (λ (t : List ℕ). t ∷ x ∷ xs) same.0 ∙ ap (λ (ts : List (List ℕ)). v ∷ ts) (words_same once x y xs ys h.1 k.1 same.1)

some_same : IsCutOnce → (ws vs : List (List ℕ)) → IsSome ws → IsSome vs → AllByRecursion (Lacks 32) ws → AllByRecursion (Lacks 32) vs → spaced ws ≡ spaced vs → ws ≡ vs
some_same once [] vs s t h k e = absurd s
some_same once (w ∷ ws) [] s t h k e = absurd t
some_same once (w ∷ ws) (v ∷ vs) s t h k e = words_same once w v ws vs h k e

-- ---- the laws

pub is_a_line : HasAddrBytes → IsReadAgain → (p : Print) → SmallPrint p → Lacks newline (spaced (print_words p))
is_a_line bytes again p h = spaced_lacks 10 (print_words p) (λ e. omega arith) (print_lacks bytes again 10 breaks_at_newline p h)

one_given : IsCutOnce → IsReadAgain → HasOnePrefix → (a b : Given) → SmallGiven a → SmallGiven b → given_text a ≡ given_text b → a ≡ b
one_given once again prefix a b h k e =
    let text : List ℕ = given_text a in
    let cut : IsCut 61 text (decimal a.id) (prefix_text_of a.block) = record { is = append_assoc (decimal a.id) (codes "=") (prefix_text_of a.block); first = lacks_decimal 61 a.id (inr (omega arith)) h.id } in
    let other : IsCut 61 text (decimal b.id) (prefix_text_of b.block) = record { is = e ∙ append_assoc (decimal b.id) (codes "=") (prefix_text_of b.block); first = lacks_decimal 61 b.id (inr (omega arith)) k.id } in
    let same = once 61 text (decimal a.id) (prefix_text_of a.block) (decimal b.id) (prefix_text_of b.block) cut other in
    let id = decimal_injective a.id b.id h.id k.id same.0 in
    let form = subst (λ (t : List ℕ). IsPrefixForm t a.block) same.1 (again.prefix a.block h.addr h.prefix).0 in
    let block = prefix (prefix_text_of b.block) a.block b.block form (again.prefix b.block k.addr k.prefix).0 in
    ap (λ (n : ℕ). record { id = n; block = a.block }) id ∙ ap (λ (p : Prefix). record { id = b.id; block = p }) block

one_list : IsCutOnce → IsReadAgain → HasOnePrefix → (xs ys : List Given) → AllByRecursion SmallGiven xs → AllByRecursion SmallGiven ys → map given_text xs ≡ map given_text ys → xs ≡ ys
one_list once again prefix [] [] h k e = refl
one_list once again prefix [] (y ∷ ys) h k e = absurd cc
one_list once again prefix (x ∷ xs) [] h k e = absurd cc
one_list once again prefix (x ∷ xs) (y ∷ ys) h k e =
    let head : given_text x ≡ given_text y = cc in
    let tail : map given_text xs ≡ map given_text ys = cc in
    ap (λ (g : Given). g ∷ xs) (one_given once again prefix x y h.0 k.0 head) ∙ ap (λ (gs : List Given). y ∷ gs) (one_list once again prefix xs ys h.1 k.1 tail)

module _ (once : IsCutOnce) (bytes : HasAddrBytes) (again : IsReadAgain) (prefix : HasOnePrefix) where
  one_words : (a b : Print) → SmallPrint a → SmallPrint b → print_words a ≡ print_words b → unnamed a ≡ unnamed b
  one_words a b h k e =
      let rest = sym (print_back a h) ∙ ap read e ∙ print_back b k in
      let lists = one_list once again prefix (list_of a) (list_of b) (small_list a h) (small_list b k) (sym (list_back a) ∙ ap listed e ∙ list_back b) in
      sym (list_again a) ∙ ap (with_list (list_of a)) rest ∙ ap (λ (gs : List Given). with_list gs (with_list [] (unnamed b))) lists ∙ list_again b

  one_spaced : (a b : Print) → SmallPrint a → SmallPrint b → spaced (print_words a) ≡ spaced (print_words b) → unnamed a ≡ unnamed b
  one_spaced a b h k e =
      one_words a b h k (some_same once (print_words a) (print_words b) (some_words a) (some_words b)
      (print_lacks bytes again 32 breaks_at_space a h) (print_lacks bytes again 32 breaks_at_space b k) e)

  -- a line and what stands behind its newline
  line_cut : (a : Print) (rest : List ℕ) → SmallPrint a → IsCut 10 (printed a ++ rest) (spaced (print_words a)) rest
  unfolding printed
  line_cut a rest h = record { is = append_assoc (spaced (print_words a)) (10 ∷ []) rest; first = is_a_line bytes again a h }

  two_lines : (a b : Print) (s t : List ℕ) → SmallPrint a → SmallPrint b → printed a ++ s ≡ printed b ++ t → (unnamed a ≡ unnamed b) × (s ≡ t)
  two_lines a b s t h k e =
      let other : IsCut 10 (printed a ++ s) (spaced (print_words b)) t = subst (λ (x : List ℕ). IsCut 10 x (spaced (print_words b)) t) (sym e) (line_cut b t k) in
      let same = once 10 (printed a ++ s) (spaced (print_words a)) s (spaced (print_words b)) t (line_cut a s h) other in
      (one_spaced a b h k same.0, same.1)

  pub told : (a b : Print) → SmallPrint a → SmallPrint b → printed a ≡ printed b → unnamed a ≡ unnamed b
  told a b h k e = (two_lines a b [] [] h k (ap (λ (x : List ℕ). x ++ []) e)).0

  none_printed : (a : Print) (rest : List ℕ) → [] ≡ printed a ++ rest → ⊥
  unfolding printed
  none_printed a rest e = none_spaced (spaced (print_words a)) rest e where
    none_spaced : (xs rest : List ℕ) → [] ≡ (xs ++ 10 ∷ []) ++ rest → ⊥
    none_spaced [] rest e = absurd cc
    none_spaced (x ∷ xs) rest e = absurd cc

  pub printed_once : (ps qs : List Print) → AllByRecursion SmallPrint ps → AllByRecursion SmallPrint qs → flat_map printed ps ≡ flat_map printed qs → map unnamed ps ≡ map unnamed qs
  printed_once [] [] h k e = refl
  printed_once [] (b ∷ bs) h k e = absurd (none_printed b (flat_map printed bs) e)
  printed_once (a ∷ ps) [] h k e = absurd (none_printed a (flat_map printed ps) (sym e))
  printed_once (a ∷ ps) (b ∷ bs) h k e =
      let same = two_lines a b (flat_map printed ps) (flat_map printed bs) h.0 k.0 e in
      ap (λ (p : Print). p ∷ map unnamed ps) same.0 ∙ ap (λ (more : List Print). unnamed b ∷ more) (printed_once ps bs h.1 k.1 same.1)
