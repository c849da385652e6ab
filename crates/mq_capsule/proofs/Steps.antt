-- The steps of a reader.
use Rattle.std.proofs.Common.{◌≡◌, ℕ, ◌+◌, ◌-◌, ◌<◌, ◌≤◌, Bool, false, ltb, eqb, ◌||◌, List, [], ◌∷◌, ◌++◌, length, take, drop, Option, Some, None, option_to_list, option_and_then, refl, sym, ap, subst, ◌∙◌, arith, inl, inr, append_assoc, append-nil}
use Rattle.std.specs.List.{list_any, cons_option}
use Rattle.std.proofs.Math.Seq.{take-add}
use Rattle.std.proofs.lemmas.Bool.{cases_Bool, ltb-true, eqb-true, cond-false, cond-true}
use Rattle.std.proofs.lemmas.List.{take_all, take_at, drop_at, drop_all, take-take, drop-append-le, length-append, length-drop, length-take, length-take-le}
use Rattle.mq_wire.specs.Integer.{int_of}
use Rattle.mq_capsule.specs.declared.head.Head.{Head}
use Rattle.mq_capsule.specs.declared.front.Front.{Front}
use Rattle.mq_capsule.specs.declared.front.Plan.{Plan}
use Rattle.mq_capsule.specs.declared.front.Plan.TheVariants.{Keep, Skip, Stop}
use Rattle.mq_capsule.specs.declared.front.Kept.{Kept}
use Rattle.mq_capsule.specs.declared.front.Kept.TheVariants as kept
use Rattle.mq_capsule.specs.declared.front.Skipped.{Skipped}
use Rattle.mq_capsule.specs.declared.front.Skipped.TheVariants as skipped
use Rattle.mq_capsule.specs.declared.item.Item.{Item}
use Rattle.mq_capsule.specs.declared.item.Item.TheVariants.{Bad}
use Rattle.mq_capsule.specs.declared.item.CapsuleFault.{CapsuleFault}
use Rattle.mq_capsule.specs.declared.item.CapsuleFault.TheVariants.{NoContext}
use Rattle.mq_capsule.specs.declared.state.State.{State}
use Rattle.mq_capsule.specs.declared.state.State.TheVariants as state
use Rattle.mq_capsule.specs.declared.step.Step.{Step}
use Rattle.mq_capsule.specs.Capsule.{head_of, capsule_of}
use Rattle.mq_capsule.specs.Items.{item_of, head_items, is_bad}
use Rattle.mq_capsule.specs.Fronts.{front_of, front_by, context_front, other_plan}
use Rattle.mq_capsule.specs.Steps.{kept_item, skipped_item, IsKept, IsSkipped, Holds, IsOpen, IsEnded, IsAt, IsStep}
use Rattle.mq_capsule.proofs.Fronts.{unbound, head_front, front_front, front_keeps, front_alone, front_late}
use Rattle.mq_capsule.proofs.Capsules.{capsule_at, capsule_part, capsule_headless}
use Rattle.mq_capsule.proofs.Plans.{KeepMeans, SkipMeans, StopMeans, front_means, whole_alone, quiet_datagram, head_nothing}

-- What is open.

pub at_open : (control : Bool) (s : State) (bytes : List ℕ) (items : List Item) → IsOpen control s bytes items → IsAt control s bytes items
at_open control (state.Front head) bytes items o = o
at_open control (state.Keep what bytes' missing) bytes items o = o
at_open control (state.Skip what missing) bytes items o = o
at_open control state.Ended bytes items o = absurd o.holds
at_open control state.Spent bytes items o = absurd o.holds

pub front_nothing : (control : Bool) → front_of control [] ≡ None
unfolding front_of
front_nothing control =
    let behind : Head → Option Front = λ head.
    option_and_then (λ (front : Front). Some (record { plan = front.plan; used = head.used + front.used })) (front_by control head (drop head.used [])) in
    ap (λ (h : Option Head). option_and_then behind h) head_nothing

-- nothing is whole
pub record IsPart (control : Bool) (rest : List ℕ) : Type 0 where
  pub none : capsule_of rest ≡ None
  pub no_fault_yet : head_items control (head_of rest) ≡ []

-- a step that took all of a piece, or a part of it, with which nothing is whole
part_step : (control : Bool) (rest piece : List ℕ) (used : ℕ) (s : State) → Holds control s (rest ++ take used piece) → IsPart control (rest ++ take used piece)
    → IsStep control rest piece (record { state = s; told = None; used = used })
part_step control rest piece used s holds part = record {
  at = at_open control s (rest ++ take used piece) [] (record {
    capsules = [];
    rest = rest ++ take used piece;
    are = (part.none, refl);
    items_are = refl;
    none_bad = refl;
    no_fault_yet = part.no_fault_yet;
    holds = holds;
  });
}

all_step : (control : Bool) (rest piece : List ℕ) (s : State) → Holds control s (rest ++ piece) → IsPart control (rest ++ piece)
    → IsStep control rest piece (record { state = s; told = None; used = length piece })
all_step control rest piece s holds part =
    let P : List ℕ → Type 0 = λ taken. Holds control s (rest ++ taken) in
    let Q : List ℕ → Type 0 = λ taken. IsPart control (rest ++ taken) in
    let all : piece ≡ take (length piece) piece = sym (take_all (length piece) piece (omega arith)) in
    part_step control rest piece (length piece) s (subst P all holds) (subst Q all part)

listed : (item : Option Item) → option_to_list item ≡ cons_option item []
listed None = refl
listed (Some item) = refl

-- a step with which a capsule is whole
whole_step : (control : Bool) (rest piece : List ℕ) (used : ℕ) (s : State) (told : Option Item) (head : Head) → head_of (rest ++ take used piece) ≡ Some head
    → length (rest ++ take used piece) ≡ head.used + head.length → item_of control (capsule_at head (rest ++ take used piece)) ≡ told
    → list_any is_bad (option_to_list told) ≡ false → Holds control s [] → IsStep control rest piece (record { state = s; told = told; used = used })
whole_step control rest piece used s told head seen size item sound holds =
    let all = rest ++ take used piece in
    record {
      at = at_open control s all (option_to_list told) (record {
        capsules = capsule_at head all ∷ [];
        rest = [];
        are = whole_alone head all seen size;
        items_are = listed told ∙ ap (λ (i : Option Item). cons_option i []) (sym item);
        none_bad = sound;
        no_fault_yet = ap (head_items control) head_nothing;
        holds = holds;
      });
    }

-- A capsule that is kept.

kept_sound : (what : Kept) (bytes : List ℕ) → is_bad (kept_item what bytes) ≡ false
kept_sound (kept.Payload context) bytes = refl
kept_sound (kept.Control kind) bytes = refl

-- how long the rest is
pub kept_len : (control : Bool) (what : Kept) (bytes : List ℕ) (missing : ℕ) (rest : List ℕ) (k : IsKept control what bytes missing rest)
    → (length rest ≡ k.used + length bytes) × (2 ≤ k.used)
kept_len control what bytes missing rest k =
    let a = front_front control rest (record { plan = Keep what (length bytes + missing); used = k.used }) k.front in
    (omega (arith, a.within, ap length k.bytes_are, length-drop k.used rest), a.some)

kept_more : (control : Bool) (what : Kept) (bytes more after rest : List ℕ) (missing left : ℕ) → IsKept control what bytes missing rest → after ≡ bytes ++ more
    → length more + left ≡ missing → IsKept control what after left (rest ++ more)
kept_more control what bytes more after rest missing left k after_is count =
    let a = front_front control rest (record { plan = Keep what (length bytes + missing); used = k.used }) k.front in
    let size : length bytes + missing ≡ length after + left = omega (arith, count, ap length after_is, length-append bytes more) in
    record {
      used = k.used;
      front = front_keeps control rest more (record { plan = Keep what (length bytes + missing); used = k.used }) k.front
          ∙ ap (λ (n : ℕ). Some (record { plan = Keep what n; used = k.used })) size;
      bytes_are = after_is ∙ ap (λ (b : List ℕ). b ++ more) k.bytes_are ∙ sym (drop-append-le k.used rest more a.within);
    }

kept_part : (control : Bool) (what : Kept) (bytes : List ℕ) (missing : ℕ) (rest : List ℕ) → IsKept control what bytes missing rest → 0 < missing → IsPart control rest
kept_part control what bytes missing rest k some =
    let plan = front_means control rest (record { plan = Keep what (length bytes + missing); used = k.used }) k.front in
    let means : KeepMeans control plan.head rest what (length bytes + missing) k.used = plan.means in
    let len = kept_len control what bytes missing rest k in
    record {
      none = capsule_part rest plan.head plan.head_is (omega (arith, means.total, len.0, some));
      no_fault_yet = ap (head_items control) plan.head_is ∙ means.no_fault_yet;
    }

-- part of what is missing comes
pub kept_on : (control : Bool) (rest piece : List ℕ) (what : Kept) (bytes after : List ℕ) (missing : ℕ) (s : State) → IsKept control what bytes missing rest
    → after ≡ bytes ++ piece → length piece < missing
    → (IsKept control what after (missing - length piece) (rest ++ piece) × (0 < missing - length piece) → Holds control s (rest ++ piece))
    → IsStep control rest piece (record { state = s; told = None; used = length piece })
kept_on control rest piece what bytes after missing s k after_is few holds =
    let more = kept_more control what bytes piece after rest missing (missing - length piece) k after_is (omega arith) in
    let some : 0 < missing - length piece = omega arith in
    all_step control rest piece s (holds (more, some)) (kept_part control what after (missing - length piece) (rest ++ piece) more some)

-- all that is missing comes
pub kept_ends : (control : Bool) (rest piece : List ℕ) (what : Kept) (bytes after : List ℕ) (missing : ℕ) (s : State) (item : Item)
    → IsKept control what bytes missing rest → after ≡ bytes ++ take missing piece → missing ≤ length piece → item ≡ kept_item what after → Holds control s []
    → IsStep control rest piece (record { state = s; told = Some item; used = missing })
kept_ends control rest piece what bytes after missing s item k after_is enough item_is holds =
    let end = take missing piece in
    let all = rest ++ end in
    let size : length end ≡ missing = length-take-le missing piece enough in
    let more = kept_more control what bytes end after rest missing 0 k after_is (omega (arith, size)) in
    let plan = front_means control all (record { plan = Keep what (length after + 0); used = more.used }) more.front in
    let means : KeepMeans control plan.head all what (length after + 0) more.used = plan.means in
    let len = kept_len control what after 0 all more in
    let says = means.says (omega (arith, len.0)) in
    whole_step control rest piece missing s (Some item) plan.head plan.head_is (omega (arith, means.total, len.0))
    (says ∙ ap (λ (b : List ℕ). Some (kept_item what b)) (sym more.bytes_are) ∙ ap (λ (i : Item). Some i) (sym item_is))
    (ap (λ (i : Item). is_bad i || false) item_is ∙ ap (λ (b : Bool). b || false) (kept_sound what after)) holds

-- A capsule that is read past.

skipped_sound : (what : Skipped) → list_any is_bad (option_to_list (skipped_item what)) ≡ false
skipped_sound (skipped.Payload context size) = refl
skipped_sound skipped.Other = refl

skipped_more : (control : Bool) (what : Skipped) (more rest : List ℕ) (missing left : ℕ) → IsSkipped control what missing rest
    → length more + left ≡ missing → IsSkipped control what left (rest ++ more)
skipped_more control what more rest missing left k count = record {
  used = k.used;
  size = k.size;
  front = front_keeps control rest more (record { plan = Skip what k.size; used = k.used }) k.front;
  count = omega (arith, count, k.count, length-append rest more);
}

skipped_part : (control : Bool) (what : Skipped) (missing : ℕ) (rest : List ℕ) → IsSkipped control what missing rest → 0 < missing → IsPart control rest
skipped_part control what missing rest k some =
    let plan = front_means control rest (record { plan = Skip what k.size; used = k.used }) k.front in
    let means : SkipMeans control plan.head rest what k.size k.used = plan.means in
    record {
      none = capsule_part rest plan.head plan.head_is (omega (arith, means.total, k.count, some));
      no_fault_yet = ap (head_items control) plan.head_is ∙ means.no_fault_yet;
    }

pub skipped_on : (control : Bool) (rest piece : List ℕ) (what : Skipped) (missing : ℕ) → IsSkipped control what missing rest → length piece < missing
    → IsStep control rest piece (record { state = state.Skip what (missing - length piece); told = None; used = length piece })
skipped_on control rest piece what missing k few =
    let more = skipped_more control what piece rest missing (missing - length piece) k (omega arith) in
    let some : 0 < missing - length piece = omega arith in
    all_step control rest piece (state.Skip what (missing - length piece)) (more, some) (skipped_part control what (missing - length piece) (rest ++ piece) more some)

pub skipped_ends : (control : Bool) (rest piece : List ℕ) (what : Skipped) (missing : ℕ) (s : State) (told : Option Item) → IsSkipped control what missing rest
    → missing ≤ length piece → told ≡ skipped_item what → Holds control s []
    → IsStep control rest piece (record { state = s; told = told; used = missing })
skipped_ends control rest piece what missing s told k enough told_is holds =
    let end = take missing piece in
    let all = rest ++ end in
    let size : length end ≡ missing = length-take-le missing piece enough in
    let more = skipped_more control what end rest missing 0 k (omega (arith, size)) in
    let plan = front_means control all (record { plan = Skip what more.size; used = more.used }) more.front in
    let means : SkipMeans control plan.head all what more.size more.used = plan.means in
    whole_step control rest piece missing s told plan.head plan.head_is (omega (arith, means.total, more.count))
    (means.says (omega (arith, more.count)) ∙ sym told_is)
    (ap (λ (i : Option Item). list_any is_bad (option_to_list i)) told_is ∙ skipped_sound what) holds

-- A front that isn't whole, and one that is.

none_by : (head : Head) (rest : List ℕ) (context : Option (ℕ × ℕ)) → head.used ≤ length rest
    → context_front context head.length (take head.length (drop head.used rest)) ≡ None → length rest < head.used + head.length
none_by head rest (Some context) within e = absurd cc
none_by head rest None within e =
    let v = take head.length (drop head.used rest) in
    elim (cases_Bool (ltb (length v) head.length)) [
      | inl short ↦
          let few : length v < head.length = ltb-true _ _ short in
          omega (arith, few, within, length-take head.length (drop head.used rest), length-drop head.used rest)
      | inr whole ↦ absurd (let some = sym (cond-false _ None (Some (record { plan = Stop NoContext; used = length v })) whole) ∙ e in cc)
    ]

headless : (control : Bool) (rest : List ℕ) → head_of rest ≡ None → IsPart control rest
headless control rest none = record { none = capsule_headless rest none; no_fault_yet = ap (head_items control) none }

pub front_part : (control : Bool) (rest : List ℕ) → front_of control rest ≡ None → IsPart control rest
unfolding front_of
front_part control rest e =
    elim (unbound _ (head_of rest) e) [
      | inl none ↦ headless control rest none
      | inr head ↦ elim (unbound _ (front_by control head.0 (drop head.0.used rest)) head.2) [
        | inr by ↦ absurd (let some = by.2 in cc)
        | inl none ↦ elim (cases_Bool (eqb head.0.kind 0)) [
          | inr other ↦ absurd (let some = sym (cond-false _ _ (Some (record { plan = other_plan control head.0; used = 0 })) other) ∙ none in cc)
          | inl datagram ↦
              let short = sym (cond-true _ _ (Some (record { plan = other_plan control head.0; used = 0 })) datagram) ∙ none in
              let a = head_front rest head.0 head.1 in
              record {
                none = capsule_part rest head.0 head.1 (none_by head.0 rest (int_of (take head.0.length (drop head.0.used rest))) a.within short);
                no_fault_yet = ap (head_items control) head.1 ∙ quiet_datagram control head.0 (eqb-true head.0.kind 0 datagram);
              }
        ]
      ]
    ]

pub front_on : (control : Bool) (rest piece all : List ℕ) (used : ℕ) (s : State) → all ≡ rest ++ take used piece → front_of control all ≡ None
    → (all ≡ rest ++ take used piece × (front_of control (rest ++ take used piece) ≡ None) → Holds control s (rest ++ take used piece))
    → IsStep control rest piece (record { state = s; told = None; used = used })
front_on control rest piece all used s all_is none holds =
    let there : front_of control (rest ++ take used piece) ≡ None = ap (front_of control) (sym all_is) ∙ none in
    part_step control rest piece used s (holds (all_is, there)) (front_part control (rest ++ take used piece) there)

-- what follows a list is cut off behind it
take_past : (xs ys : List ℕ) (n : ℕ) → take (length xs + n) (xs ++ ys) ≡ xs ++ take n ys
take_past xs ys n =
    take-add (length xs) n (xs ++ ys) ∙ ap (λ (b : List ℕ). b ++ take n (drop (length xs) (xs ++ ys))) (take_at xs ys (length xs) refl)
    ∙ ap (λ (b : List ℕ). xs ++ take n b) (drop_at xs ys (length xs) refl)

-- bytes that were seen and belong to no front
pub record IsCut (control : Bool) (rest piece : List ℕ) (front : Front) (lacking : ℕ) : Type 0 where
  pub some : 0 < lacking
  pub front_is : front_of control (rest ++ take lacking piece) ≡ Some (record { plan = front.plan; used = length (rest ++ take lacking piece) })

pub front_cut : (control : Bool) (rest piece : List ℕ) (taken lacking : ℕ) (front : Front) → front_of control rest ≡ None
    → front_of control (rest ++ take taken piece) ≡ Some front → taken ≤ length piece → lacking ≡ front.used - length rest → IsCut control rest piece front lacking
front_cut control rest piece taken lacking front none seen within is =
    let all = rest ++ take taken piece in
    let size : length all ≡ length rest + taken = omega (arith, within, length-append rest (take taken piece), length-take-le taken piece within) in
    let late : length rest < front.used = front_late control rest (take taken piece) front none seen in
    let a = front_front control all front seen in
    let own : take front.used all ≡ rest ++ take lacking piece = own_bytes (omega (arith, size, late, a.within)) (omega (arith, is, late)) in
    let len : length (rest ++ take lacking piece) ≡ front.used = ap length (sym own) ∙ length-take-le front.used all a.within in
    record {
      some = omega (arith, is, late);
      front_is = ap (front_of control) (sym own) ∙ front_alone control all front seen ∙ ap (λ (n : ℕ). Some (record { plan = front.plan; used = n })) (sym len);
    }
  where
    own_bytes : front.used ≤ length rest + taken → length rest + lacking ≡ front.used → take front.used (rest ++ take taken piece) ≡ rest ++ take lacking piece
    own_bytes l e =
        ap (λ (n : ℕ). take n (rest ++ take taken piece)) (sym e) ∙ take_past rest (take taken piece) lacking
        ∙ ap (λ (b : List ℕ). rest ++ b) (take-take lacking taken piece (omega arith))

-- a step behind a whole front
pub step_behind : (control : Bool) (rest piece : List ℕ) (used : ℕ) (s : Step) → IsStep control (rest ++ take used piece) (drop used piece) s
    → IsStep control rest piece (record { state = s.state; told = s.told; used = used + s.used })
step_behind control rest piece used s step =
    let P : List ℕ → Type 0 = λ b. IsAt control s.state b (option_to_list s.told) in
    let joined : rest ++ take used piece ++ take s.used (drop used piece) ≡ rest ++ take (used + s.used) piece =
    append_assoc rest (take used piece) (take s.used (drop used piece)) ∙ ap (λ (t : List ℕ). rest ++ t) (sym (take-add used s.used piece)) in
    record { at = subst P joined step.at }

-- a front with which the stream is malformed
pub stop_step : (control : Bool) (rest piece : List ℕ) (p : Plan) (fault : CapsuleFault) → p ≡ Stop fault
    → front_of control rest ≡ Some (record { plan = p; used = length rest }) → IsStep control rest piece (record { state = state.Ended; told = Some (Bad fault); used = 0 })
stop_step control rest piece p fault p_is seen =
    let front = seen ∙ ap (λ (q : Plan). Some (record { plan = q; used = length rest })) p_is in
    let plan = front_means control rest (record { plan = Stop fault; used = length rest }) front in
    let means : StopMeans control rest fault (length rest) = plan.means in
    let P : List ℕ → Type 0 = λ b. IsEnded control b (Bad fault ∷ []) in
    record { at = subst P (sym (append-nil rest)) (record { are = means.says refl; bad = refl }) }

-- what a front asks for, none of which has come
pub kept_first : (control : Bool) (rest : List ℕ) (p : Plan) (what : Kept) (size : ℕ) (bytes : List ℕ) → p ≡ Keep what size → bytes ≡ []
    → front_of control rest ≡ Some (record { plan = p; used = length rest }) → IsKept control what bytes size rest
kept_first control rest p what size bytes p_is none seen =
    let count : size ≡ length bytes + size = omega (arith, ap length none) in
    record {
      used = length rest;
      front = seen ∙ ap (λ (q : Plan). Some (record { plan = q; used = length rest })) p_is
          ∙ ap (λ (n : ℕ). Some (record { plan = Keep what n; used = length rest })) count;
      bytes_are = none ∙ sym (drop_all (length rest) rest (omega arith));
    }

-- A capsule that is whole in one piece.

pub whole_kept : (control : Bool) (piece value : List ℕ) (what : Kept) (size used : ℕ) (item : Item) (s : State)
    → front_of control piece ≡ Some (record { plan = Keep what size; used = used }) → used + size ≤ length piece → value ≡ take size (drop used piece)
    → item ≡ kept_item what value → Holds control s [] → IsStep control [] piece (record { state = s; told = Some item; used = used + size })
whole_kept control piece value what size used item s seen within value_is item_is holds =
    let front : Front = record { plan = Keep what size; used = used } in
    let all : front_of control (take (length piece) piece) ≡ Some front = ap (front_of control) (take_all (length piece) piece (omega arith)) ∙ seen in
    let cut = front_cut control [] piece (length piece) used front (front_nothing control) all (omega arith) (omega arith) in
    step_behind control [] piece used (record { state = s; told = Some item; used = size })
    (kept_ends control (take used piece) (drop used piece) what [] value size s item (kept_first control (take used piece) (Keep what size) what size [] refl refl cut.front_is)
    value_is (omega (arith, within, length-drop used piece)) item_is holds)
