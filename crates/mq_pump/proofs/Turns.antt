-- Which of its tries the pump makes, with these contents of its network.
use Rattle.std.proofs.Common.{◌≡◌, ◌&&◌, Bool, true, false, not, cond, List, [], length, nat_lt, Option, Some, None, is_some, refl, ap, ◌∙◌}
use Rattle.std.specs.Option.{unwrap_or}
use Rattle.mq_talk.specs.declared.place.Parcel.{Parcel}
use Rattle.mq_outside.specs.Nets.{NetHolds}
use Rattle.mq_machine.specs.State.{Pump}
use Rattle.mq_machine.specs.Turn.{PumpTry, PushHeld, SendHeld, SendNext, Receives, pump_try, can_pump}
use Rattle.mq_machine.specs.Acting.{NetRefills}
use Rattle.mq_pump.proofs.Shared.{told_or}

-- the pump with these contents of its network
abbrev pub with_holds : Pump → NetHolds → Pump
with_holds s holds = record s { net = record s.net { holds = holds } }

pub refills : (told : Option NetHolds) (made : NetHolds) (s : Pump) → NetRefills told s (with_holds s (unwrap_or told made))
refills told made s = record { same = refl; told = told_or told made }

abbrev first_of : Bool → Bool → Bool → Bool → Option PumpTry
first_of a b c d = cond a (Some PushHeld) (cond b (Some SendHeld) (cond c (Some SendNext) (cond d (Some Receives) None)))

tries_first : (p : Pump) (box : List Parcel) (a b c d : Bool) → can_pump p box PushHeld ≡ a → can_pump p box SendHeld ≡ b → can_pump p box SendNext ≡ c → can_pump p box Receives ≡ d
    → pump_try p box ≡ first_of a b c d
tries_first p box a b c d is_a is_b is_c is_d =
    ap (λ (x : Bool). first_of x (can_pump p box SendHeld) (can_pump p box SendNext) (can_pump p box Receives)) is_a
    ∙ ap (λ (x : Bool). first_of a x (can_pump p box SendNext) (can_pump p box Receives)) is_b
    ∙ ap (λ (x : Bool). first_of a b x (can_pump p box Receives)) is_c
    ∙ ap (λ (x : Bool). first_of a b c x) is_d

pub tries_push : (p : Pump) (box : List Parcel) (parcel : Parcel) → p.to_push ≡ Some parcel → pump_try p box ≡ Some PushHeld
tries_push p box parcel has = tries_first p box true _ _ _ (ap (λ (o : Option Parcel). is_some o) has) refl refl refl

none_held : (o : Option Parcel) → o ≡ None → is_some o ≡ false
none_held o none = ap (λ (o : Option Parcel). is_some o) none

some_held : (o : Option Parcel) (parcel : Parcel) → o ≡ Some parcel → is_some o ≡ true
some_held o parcel some = ap (λ (o : Option Parcel). is_some o) some

pub tries_held : (p : Pump) (box : List Parcel) (parcel : Parcel) → p.to_push ≡ None → p.to_send ≡ Some parcel
    → p.net.holds.send_waits && not p.net.holds.send_fails ≡ false → pump_try p box ≡ Some SendHeld
tries_held p box parcel none has goes = tries_first p box false true _ _ (none_held p.to_push none) can refl refl where
  can : can_pump p box SendHeld ≡ true
  can = ap (λ (o : Option Parcel). is_some o && not (p.net.holds.send_waits && not p.net.holds.send_fails)) has ∙ ap (λ (x : Bool). not x) goes

pub tries_next : (p : Pump) (box : List Parcel) → p.to_push ≡ None → p.to_send ≡ None → nat_lt 0 (length box) ≡ true → pump_try p box ≡ Some SendNext
tries_next p box none free some = tries_first p box false false true _ (none_held p.to_push none) (held_not p box free) can refl where
  held_not : (p : Pump) (box : List Parcel) → p.to_send ≡ None → can_pump p box SendHeld ≡ false
  held_not p box free = ap (λ (o : Option Parcel). is_some o && not (p.net.holds.send_waits && not p.net.holds.send_fails)) free

  can : can_pump p box SendNext ≡ true
  can = ap (λ (o : Option Parcel). not (is_some o) && nat_lt 0 (length box)) free ∙ some

-- the parcel that is held waits, or nothing is held and the inbox is empty
pub record NoneSent (p : Pump) (box : List Parcel) : Type 0 where
  pub held : can_pump p box SendHeld ≡ false
  pub next : can_pump p box SendNext ≡ false

pub held_waits : (p : Pump) (box : List Parcel) (parcel : Parcel) → p.to_send ≡ Some parcel → p.net.holds.send_waits ≡ true → p.net.holds.send_fails ≡ false → NoneSent p box
held_waits p box parcel has waits works = record {
  held =
      ap (λ (o : Option Parcel). is_some o && not (p.net.holds.send_waits && not p.net.holds.send_fails)) has
      ∙ ap (λ (x : Bool). not (x && not p.net.holds.send_fails)) waits ∙ ap (λ (x : Bool). not (not x)) works;
  next = ap (λ (o : Option Parcel). not (is_some o) && nat_lt 0 (length box)) has;
}

pub none_next : (p : Pump) (box : List Parcel) → p.to_send ≡ None → box ≡ [] → NoneSent p box
none_next p box free empty = record {
  held = ap (λ (o : Option Parcel). is_some o && not (p.net.holds.send_waits && not p.net.holds.send_fails)) free;
  next =
      ap (λ (o : Option Parcel). not (is_some o) && nat_lt 0 (length box)) free
      ∙ ap (λ (b : List Parcel). nat_lt 0 (length b)) empty;
}

pub tries_last : (p : Pump) (box : List Parcel) (can : Bool) → p.to_push ≡ None → NoneSent p box → not p.net.holds.receive_fails && nat_lt 0 (length p.net.holds.arrived) ≡ can
    → pump_try p box ≡ cond can (Some Receives) None
tries_last p box can none sent is = tries_first p box false false false can (none_held p.to_push none) sent.held sent.next is
