-- What items ask for, one behind the other.
use Rattle.std.proofs.Common.{◌≡◌, ℕ, ◌+◌, Bool, true, false, cond, ◌||◌, List, [], ◌∷◌, ◌++◌, refl, sym, ap, ◌∙◌, subst, arith, append_assoc, append-nil}
use Rattle.std.specs.List.{list_any}
use Rattle.mq_addr.specs.declared.kind.Kind.{Kind}
use Rattle.mq_capsule.specs.declared.item.Item.{Item}
use Rattle.mq_machine.specs.declared.act.Act.TheVariants as act
use Rattle.mq_machine.specs.declared.act.Due.{Due}
use Rattle.mq_machine.specs.declared.act.Due.TheVariants as due
use Rattle.mq_machine.specs.declared.act.StreamAct.{StreamAct}
use Rattle.mq_machine.specs.Reading.{item_acts, acts_of, payload_count, is_payload, is_close, on_stream, then_acts}
use Rattle.mq_front.specs.declared.items.Carrier.{Carrier}
use Rattle.mq_front.specs.Items.{PutsItems, PutsUnless}
use Rattle.mq_front.specs.Limits.{AllMayAct}
use Rattle.mq_front.proofs.Limits.{all_both}

abbrev pub close_in : List StreamAct → Bool
close_in acts = list_any is_close acts

pub any_both : (xs ys : List StreamAct) → close_in (xs ++ ys) ≡ (close_in xs || close_in ys)
any_both [] ys = refl
any_both (x ∷ xs) ys = ap (λ (b : Bool). is_close x || b) (any_both xs ys) ∙ assoc (is_close x) (close_in xs) (close_in ys)
  where
    assoc : (a b c : Bool) → (a || (b || c)) ≡ ((a || b) || c)
    assoc true b c = refl
    assoc false b c = refl

-- acts, and behind them others unless they close
then_more : (b : Bool) (a m i : List StreamAct) → close_in a ≡ b
    → a ++ cond b [] (m ++ cond (close_in m) [] i) ≡ (a ++ cond b [] m) ++ cond (close_in (a ++ cond b [] m)) [] i
then_more true a m i is =
    let none : close_in (a ++ []) ≡ true = ap close_in (append-nil a) ∙ is in
    sym (append-nil (a ++ [])) ∙ ap (λ (c : Bool). (a ++ []) ++ cond c [] i) (sym none)
then_more false a m i is =
    let both : close_in (a ++ m) ≡ close_in m = any_both a m ∙ ap (λ (c : Bool). c || close_in m) is in
    sym (append_assoc a m (cond (close_in m) [] i)) ∙ ap (λ (c : Bool). (a ++ m) ++ cond c [] i) (sym both)

then_more_of : (a m i : List StreamAct) → then_acts a (then_acts m i) ≡ then_acts (then_acts a m) i
then_more_of a m i = then_more (close_in a) a m i refl

pub then_none : (a : List StreamAct) → then_acts a [] ≡ a
then_none a = either (close_in a) ∙ append-nil a
  where
    either : (b : Bool) → a ++ cond b [] [] ≡ a ++ []
    either true = refl
    either false = refl

-- what one more item asks for
pub acts_last : (k : Kind) (mtu n : ℕ) (xs : List Item) (i : Item) → acts_of k mtu n (xs ++ i ∷ []) ≡ then_acts (acts_of k mtu n xs) (item_acts k mtu (n + payload_count xs) i)
acts_last k mtu n [] i = then_none (item_acts k mtu n i) ∙ ap (λ (m : ℕ). item_acts k mtu m i) (omega arith)
acts_last k mtu n (x ∷ xs) i =
    let here = n + cond (is_payload x) 1 0 in
    ap (λ (acts : List StreamAct). then_acts (item_acts k mtu n x) acts) (acts_last k mtu here xs i)
    ∙ then_more_of (item_acts k mtu n x) (acts_of k mtu here xs) (item_acts k mtu (here + payload_count xs) i)
    ∙ ap (λ (m : ℕ). then_acts (acts_of k mtu n (x ∷ xs)) (item_acts k mtu m i)) (omega arith)

pub payloads_last : (xs : List Item) (i : Item) → payload_count (xs ++ i ∷ []) ≡ payload_count xs + cond (is_payload i) 1 0
payloads_last [] i = omega arith
payloads_last (x ∷ xs) i = let rest = payloads_last xs i in omega (arith, rest)

pub on_both : (id : ℕ) (xs ys : List StreamAct) → on_stream id (xs ++ ys) ≡ on_stream id xs ++ on_stream id ys
on_both id [] ys = refl
on_both id (x ∷ xs) ys = ap (λ (ds : List Due). due.Do (act.OfStream id x) ∷ ds) (on_both id xs ys)

pub puts_none : (o : Carrier) (n : ℕ) (old : List Due) → PutsItems o n [] old old n false
puts_none o n old = (sym (append-nil old), omega arith, refl, tt)

-- one more item
unless_puts : (b c : Bool) (o : Carrier) (n : ℕ) (i : Item) (mid new : List Due) → PutsUnless b o n i mid new c
    → (new ≡ mid ++ on_stream o.stream (cond b [] (item_acts o.kind o.mtu n i))) × (c ≡ (b || close_in (cond b [] (item_acts o.kind o.mtu n i)))) × AllMayAct (cond b [] (item_acts o.kind o.mtu n i))
unless_puts true c o n i mid new p = (p.0 ∙ sym (append-nil mid), p.1, tt)
unless_puts false c o n i mid new p = p

pub puts_more : (o : Carrier) (n k : ℕ) (xs : List Item) (i : Item) (old mid new : List Due) (next : ℕ) (b c : Bool) → PutsItems o n xs old mid k b → PutsUnless b o k i mid new c
    → next ≡ k + cond (is_payload i) 1 0 → PutsItems o n (xs ++ i ∷ []) old new next c
puts_more o n k xs i old mid new next b c was puts next_is =
    let u = unless_puts b c o k i mid new puts in
    let acts = acts_of o.kind o.mtu n xs in
    let F : ℕ → Bool → List StreamAct = λ m d. cond d [] (item_acts o.kind o.mtu m i) in
    let here : F k b ≡ F (n + payload_count xs) (close_in acts) = ap (λ (m : ℕ). F m b) was.1 ∙ ap (λ (d : Bool). F (n + payload_count xs) d) was.2 in
    let whole : acts ++ F k b ≡ acts_of o.kind o.mtu n (xs ++ i ∷ []) = ap (λ (ys : List StreamAct). acts ++ ys) here ∙ sym (acts_last o.kind o.mtu n xs i) in
    let pay = payloads_last xs i in (
      u.0 ∙ ap (λ (ds : List Due). ds ++ on_stream o.stream (F k b)) was.0 ∙ append_assoc old (on_stream o.stream acts) (on_stream o.stream (F k b))
          ∙ ap (λ (ds : List Due). old ++ ds) (sym (on_both o.stream acts (F k b)) ∙ ap (λ (ys : List StreamAct). on_stream o.stream ys) whole),
      omega (arith, next_is, pay, was.1),
      u.1 ∙ ap (λ (d : Bool). d || close_in (F k b)) was.2 ∙ sym (any_both acts (F k b)) ∙ ap close_in whole,
      subst AllMayAct whole (all_both _ acts (F k b) was.3 u.2),
    )
