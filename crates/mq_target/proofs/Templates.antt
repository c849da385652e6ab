-- A text is one template.
use Rattle.std.proofs.Common.{◌≡◌, ℕ, Bool, true, false, ◌==◌, ◌||◌, List, [], ◌∷◌, ◌++◌, length, get_or, nat_lt, refl, sym, ◌∙◌, ap, arith, if◌then◌else◌, inl, inr}
use Rattle.std.specs.List.{list_all}
use Rattle.mq_text.specs.Cut.{Lacks, IsCut, IsCutOnce}
use Rattle.mq_addr.specs.declared.kind.Kind.{Kind}
use Rattle.mq_addr.specs.declared.kind.Kind.TheVariants as kind
use Rattle.mq_target.specs.declared.shape.Order.{Order}
use Rattle.mq_target.specs.declared.shape.Order.TheVariants.{TargetFirst, TargetLast}
use Rattle.mq_target.specs.Classes.{is_literal, is_name_byte, is_unreserved}
use Rattle.mq_target.specs.Form.{AreLiterals}
use Rattle.mq_target.specs.Template.{Shape, IsPair, IsPlain, IsTemplate, detail_name, first_name, pair_shape, second_name, target_name}
use Rattle.mq_target.proofs.Bytes.{all_lack}

-- names of variables have no brace, no comma and no question mark

abbrev is_low : ℕ → Bool
is_low b = nat_lt b 123

abbrev is_high : ℕ → Bool
is_high b = nat_lt 63 b

target_low : (k : Kind) → list_all is_low (target_name k) ≡ true
unfolding target_name
target_low kind.Udp = refl
target_low kind.Ip = refl

detail_low : (k : Kind) → list_all is_low (detail_name k) ≡ true
unfolding detail_name
detail_low kind.Udp = refl
detail_low kind.Ip = refl

target_high : (k : Kind) → list_all is_high (target_name k) ≡ true
unfolding target_name
target_high kind.Udp = refl
target_high kind.Ip = refl

detail_high : (k : Kind) → list_all is_high (detail_name k) ≡ true
unfolding detail_name
detail_high kind.Udp = refl
detail_high kind.Ip = refl

first_closed : (k : Kind) (o : Order) → Lacks 125 (first_name k o)
first_closed k TargetFirst = all_lack is_low 125 (target_name k) refl (target_low k)
first_closed k TargetLast = all_lack is_low 125 (detail_name k) refl (detail_low k)

second_closed : (k : Kind) (o : Order) → Lacks 125 (second_name k o)
second_closed k TargetFirst = all_lack is_low 125 (detail_name k) refl (detail_low k)
second_closed k TargetLast = all_lack is_low 125 (target_name k) refl (target_low k)

first_plain : (k : Kind) (o : Order) → Lacks 63 (first_name k o)
first_plain k TargetFirst = all_lack is_high 63 (target_name k) refl (target_high k)
first_plain k TargetLast = all_lack is_high 63 (detail_name k) refl (detail_high k)

first_alone : (k : Kind) (o : Order) → Lacks 44 (first_name k o)
first_alone k TargetFirst = all_lack is_high 44 (target_name k) refl (target_high k)
first_alone k TargetLast = all_lack is_high 44 (detail_name k) refl (detail_high k)

no_opening : is_literal 123 ≡ false
unfolding is_literal is_unreserved is_name_byte
no_opening = refl

literals_open : (text : List ℕ) → AreLiterals text → Lacks 123 text
literals_open text h = all_lack is_literal 123 text no_opening h

-- the first name tells the kind and the order: `target_host` and `target_port` differ in their eighth letter, and `target` and
-- `ipproto` are shorter, each by its own length

abbrev kind_by : List ℕ → Kind
kind_by name = if length name == 11 then kind.Udp else kind.Ip

abbrev order_by : List ℕ → Order
order_by name = if get_or name 7 0 == 104 || length name == 6 then TargetFirst else TargetLast

kind_back : (k : Kind) (o : Order) → kind_by (first_name k o) ≡ k
unfolding target_name detail_name
kind_back kind.Udp TargetFirst = refl
kind_back kind.Udp TargetLast = refl
kind_back kind.Ip TargetFirst = refl
kind_back kind.Ip TargetLast = refl

order_back : (k : Kind) (o : Order) → order_by (first_name k o) ≡ o
unfolding target_name detail_name
order_back kind.Udp TargetFirst = refl
order_back kind.Udp TargetLast = refl
order_back kind.Ip TargetFirst = refl
order_back kind.Ip TargetLast = refl

one_kind : (k l : Kind) (a b : Order) → first_name k a ≡ first_name l b → k ≡ l
one_kind k l a b e = sym (kind_back k a) ∙ ap kind_by e ∙ kind_back l b

one_order : (k l : Kind) (a b : Order) → first_name k a ≡ first_name l b → a ≡ b
one_order k l a b e = sym (order_back k a) ∙ ap order_by e ∙ order_back l b

-- a template with these parts
abbrev shape_of : Kind → Order → List ℕ → List ℕ → List ℕ → Shape
shape_of k order before between after = record { kind = k; order = order; before = before; between = between; after = after }

same_shape : (a b : Shape) → a.kind ≡ b.kind → a.order ≡ b.order → a.before ≡ b.before → a.between ≡ b.between → a.after ≡ b.after → a ≡ b
same_shape a b k o f m l =
    ap (λ (x : Kind). shape_of x a.order a.before a.between a.after) k ∙ ap (λ (x : Order). shape_of b.kind x a.before a.between a.after) o
    ∙ ap (λ (x : List ℕ). shape_of b.kind b.order x a.between a.after) f ∙ ap (λ (x : List ℕ). shape_of b.kind b.order b.before x a.after) m
    ∙ ap (λ (x : List ℕ). shape_of b.kind b.order b.before b.between x) l

plain_plain : IsCutOnce → (text : List ℕ) (a b : Shape) → IsPlain text a → IsPlain text b → a ≡ b
plain_plain once text a b h g =
    let first_a = first_name a.kind a.order in
    let first_b = first_name b.kind b.order in
    let second_a = second_name a.kind a.order in
    let second_b = second_name b.kind b.order in
    let last_a = second_a ++ 125 ∷ a.after in
    let last_b = second_b ++ 125 ∷ b.after in
    let rest_a = a.between ++ 123 ∷ last_a in
    let rest_b = b.between ++ 123 ∷ last_b in
    let tail_a = first_a ++ 125 ∷ rest_a in
    let tail_b = first_b ++ 125 ∷ rest_b in
    let open_a : IsCut 123 text a.before tail_a = record { is = h.is; first = literals_open a.before h.start.1 } in
    let open_b : IsCut 123 text b.before tail_b = record { is = g.is; first = literals_open b.before g.start.1 } in
    let one = once 123 text a.before tail_a b.before tail_b open_a open_b in
    let close_a : IsCut 125 tail_a first_a rest_a = record { is = refl; first = first_closed a.kind a.order } in
    let close_b : IsCut 125 tail_a first_b rest_b = record { is = one.1; first = first_closed b.kind b.order } in
    let two = once 125 tail_a first_a rest_a first_b rest_b close_a close_b in
    let again_a : IsCut 123 rest_a a.between last_a = record { is = refl; first = literals_open a.between h.around.between_literals } in
    let again_b : IsCut 123 rest_a b.between last_b = record { is = two.1; first = literals_open b.between g.around.between_literals } in
    let three = once 123 rest_a a.between last_a b.between last_b again_a again_b in
    let end_a : IsCut 125 last_a second_a a.after = record { is = refl; first = second_closed a.kind a.order } in
    let end_b : IsCut 125 last_a second_b b.after = record { is = three.1; first = second_closed b.kind b.order } in
    let four = once 125 last_a second_a a.after second_b b.after end_a end_b in
    same_shape a b (one_kind a.kind b.kind a.order b.order two.0) (one_order a.kind b.kind a.order b.order two.0) one.0 three.0 four.1

no_mark : (name rest more : List ℕ) → Lacks 63 name → name ++ 125 ∷ rest ≡ 63 ∷ more → ⊥
no_mark [] rest more h e = let head : 125 ≡ 63 = ap (λ (xs : List ℕ). get_or xs 0 0) e in absurd (omega (arith, head))
no_mark (b ∷ name) rest more h e = h.0 (ap (λ (xs : List ℕ). get_or xs 0 0) e)

plain_pair : IsCutOnce → (text : List ℕ) (a b : Shape) → IsPlain text a → IsPair text b → ⊥
plain_pair once text a b h g =
    let first_a = first_name a.kind a.order in
    let rest_a = a.between ++ 123 ∷ (second_name a.kind a.order ++ 125 ∷ a.after) in
    let tail_a = first_a ++ 125 ∷ rest_a in
    let more = first_name b.kind b.order ++ 44 ∷ (second_name b.kind b.order ++ 125 ∷ []) in
    let open_a : IsCut 123 text a.before tail_a = record { is = h.is; first = literals_open a.before h.start.1 } in
    let open_b : IsCut 123 text g.front (63 ∷ more) = record { is = g.is; first = literals_open g.front g.start.1 } in
    let one = once 123 text a.before tail_a g.front (63 ∷ more) open_a open_b in
    no_mark first_a rest_a more (first_plain a.kind a.order) one.1

abbrev tail_of : List ℕ → List ℕ
tail_of [] = []
tail_of (b ∷ bs) = bs

pair_pair : IsCutOnce → (text : List ℕ) (a b : Shape) → IsPair text a → IsPair text b → a ≡ b
pair_pair once text a b h g =
    let first_a = first_name a.kind a.order in
    let first_b = first_name b.kind b.order in
    let last_a = second_name a.kind a.order ++ 125 ∷ [] in
    let last_b = second_name b.kind b.order ++ 125 ∷ [] in
    let more_a = first_a ++ 44 ∷ last_a in
    let more_b = first_b ++ 44 ∷ last_b in
    let open_a : IsCut 123 text h.front (63 ∷ more_a) = record { is = h.is; first = literals_open h.front h.start.1 } in
    let open_b : IsCut 123 text g.front (63 ∷ more_b) = record { is = g.is; first = literals_open g.front g.start.1 } in
    let one = once 123 text h.front (63 ∷ more_a) g.front (63 ∷ more_b) open_a open_b in
    let more_is : more_a ≡ more_b = ap tail_of one.1 in
    let comma_a : IsCut 44 more_a first_a last_a = record { is = refl; first = first_alone a.kind a.order } in
    let comma_b : IsCut 44 more_a first_b last_b = record { is = more_is; first = first_alone b.kind b.order } in
    let two = once 44 more_a first_a last_a first_b last_b comma_a comma_b in
    let kind_is = one_kind a.kind b.kind a.order b.order two.0 in
    let order_is = one_order a.kind b.kind a.order b.order two.0 in
    h.means ∙ ap (λ (k : Kind). pair_shape k a.order h.front) kind_is ∙ ap (λ (o : Order). pair_shape b.kind o h.front) order_is
    ∙ ap (λ (front : List ℕ). pair_shape b.kind b.order front) one.0 ∙ sym g.means

pub one_template : IsCutOnce → (text : List ℕ) (a b : Shape) → IsTemplate text a → IsTemplate text b → a ≡ b
one_template once text a b (inl h) (inl g) = plain_plain once text a b h g
one_template once text a b (inl h) (inr g) = absurd (plain_pair once text a b h g)
one_template once text a b (inr h) (inl g) = absurd (plain_pair once text b a g h)
one_template once text a b (inr h) (inr g) = pair_pair once text a b h g
